use Rattle.std.proofs.Common.{◌≡◌, List, ap, sym, subst, ◌∙◌}
use Rattle.std.specs.List.{AllByRecursion}
use Rattle.host_types.specs.Configuration.{Configuration}
use Rattle.pbft_codec.specs.declared.body.Body.{Body}
use Rattle.pbft_codec.specs.declared.signed.Signed.{Signed}
use Rattle.seal.specs.Opening.{CanNest}
use Rattle.seal.specs.Parts.{pre_prepares_of}
use Rattle.seal.proofs.Children.{checked_pre_prepares}
use Rattle.seal.proofs.opening.nested_pre_prepares.Goals as goal

pub list_under-requires : goal.list_under-requires
list_under-requires c =
    let all : c.in_ok-inside.inside.items ≡ pre_prepares_of c.args.message.now.message.body = c.in_ok-inside.ensures ∙ ap pre_prepares_of c.body.ensures.value in
    subst (λ (k : Configuration). AllByRecursion (CanNest k) c.in_ok-inside.inside.items) (sym c.config.ensures.value)
    (subst (λ (ms : List (Signed Body)). AllByRecursion (CanNest c.args.message.now.config) ms) (sym all) (checked_pre_prepares c.args.message.now c.body.ensures.checked))
