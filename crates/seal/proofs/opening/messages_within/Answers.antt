use Rattle.std.proofs.Common.{◌≡◌, ◌∙◌, List, sym, ap, subst, length, arith}
use Rattle.std.proofs.lemmas.Iterator.Adapters.{YieldsList-from_vec}
use Rattle.std.proofs.lemmas.Iterator.Consumers.{YieldsList-turn}
use Rattle.std.specs.List.{AllByRecursion}
use Rattle.host_types.specs.Configuration.{Configuration}
use Rattle.pbft_codec.specs.declared.body.Body.{Body}
use Rattle.pbft_codec.specs.declared.signed.Signed.{Signed}
use Rattle.seal.specs.Parts.{children_of, messages_in}
use Rattle.seal.specs.Signers.{IsAuthentic}
use Rattle.seal.proofs.Children.{child_stands}
use Rattle.seal.proofs.opening.messages_within.Goals as goal

pub encoded-requires : goal.encoded-requires
encoded-requires c =
    let m = c.args.message.now in
    let items : List (Signed Body) = c.in_ok-inside-items.inside-items.items in
    let h = c.into_iter-inside-iterator.ensures.into_iter_gives in
    let long : c.into_iter-inside-iterator.result.rest.len ≡ length items = omega (arith, h.1) in
    let t = YieldsList-turn (YieldsList-from_vec {s = c.into_iter-inside-iterator.result} items h.0 long) c.loop-inside.yielded c.loop-inside.inside-iterator c.loop-inside.yielded_by c.next.result c.next.new.self c.in-Some.inside c.in-Some.is c.next.ensures.steps in
    let all : items ≡ children_of m.message.body = c.in_ok-inside-items.ensures ∙ ap children_of c.body.ensures.value in
    let s = child_stands m items (length c.loop-inside.yielded) c.in-Some.inside c.body.ensures.checked all t.0 t.1 in
    let authentic = subst (λ (k : Configuration). AllByRecursion (IsAuthentic k) (messages_in c.in-Some.inside)) (sym c.config.ensures.value) s.authentic in
    record { well_formed = s.well_formed; within = s.within; authentic = authentic }
