use Rattle.std.proofs.Common.{◌≡◌, ◌∙◌, inr}
use Rattle.std.proofs.lemmas.Result.{err_from_is_err_and}
use Rattle.seal.specs.Parts.{nested_in}
use Rattle.seal.proofs.Authenticity.{first_is_it, verified_rest}
use Rattle.seal.proofs.verify_parts.verify_message.Goals as goal

pub returns-in_err-verify_part : goal.returns-in_err-verify_part
returns-in_err-verify_part c =
    let p = err_from_is_err_and c.from_residual.result c.from_residual.ensures.1 in
    rw (p.1, p.2) (first_is_it c.args.config.now c.args.message.now (nested_in c.args.message.now.body) _ (inr c.in_err-verify_part.ensures))

pub returns : goal.returns
returns c =
    let inside : c.deref.result.now ≡ nested_in c.args.message.now.body = c.deref.ensures.value ∙ c.in_ok-inside.ensures in
    verified_rest c.verify_all.result c.args.config.now c.args.message.now c.deref.result.now (nested_in c.args.message.now.body) c.in_ok-verify_part.ensures inside c.verify_all.ensures
