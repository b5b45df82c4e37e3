use Rattle.std.proofs.Common.{◌≡◌, ◌∙◌, Some, None, true, false, sym, ap}
use Rattle.std.specs.Option.{option_copied}
use Rattle.seal.specs.Signers.{key_of, may_sign}
use Rattle.seal.proofs.Authenticity.{unlisted, out_of_role, may_have_signed}
use Rattle.seal.proofs.verify_parts.signers_key.Goals as goal

pub returns-in_default : goal.returns-in_default
returns-in_default c m is =
    let key : key_of c.args.config.now c.args.claim.now.role c.args.claim.now.id ≡ None = sym c.listed_key.ensures ∙ ap option_copied c.in_default.is in
    unlisted c.args.config.now c.args.claim.now m is key

pub returns-then-not-may_send : goal.returns-then-not-may_send
returns-then-not-may_send c m is =
    let key : key_of c.args.config.now c.args.claim.now.role c.args.claim.now.id ≡ Some c.in-Some.key.now = sym c.listed_key.ensures ∙ ap option_copied c.in-Some.is in
    let wrong : may_sign c.args.config.now c.args.claim.now.role c.args.claim.now.id m.body ≡ false = sym (c.may_send.ensures m.body is.sender) ∙ c.if-not-may_send.true in
    out_of_role c.args.config.now c.args.claim.now m c.in-Some.key.now is key wrong

pub returns : goal.returns
returns c m is =
    let key : key_of c.args.config.now c.args.claim.now.role c.args.claim.now.id ≡ Some c.in-Some.key.now = sym c.listed_key.ensures ∙ ap option_copied c.in-Some.is in
    let right : may_sign c.args.config.now c.args.claim.now.role c.args.claim.now.id m.body ≡ true = sym (c.may_send.ensures m.body is.sender) ∙ c.if-not-may_send.false in
    may_have_signed c.args.config.now c.args.claim.now m c.in-Some.key.now is key right
