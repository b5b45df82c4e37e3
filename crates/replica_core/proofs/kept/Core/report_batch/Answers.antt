use Rattle.std.proofs.Common.{◌≡◌, ℕ, ◌+◌, ◌<◌, List, [], length, drop, get_or, refl, sym, subst, arith}
use Rattle.std.proofs.lemmas.List.{get_or_default, length_push}
use Rattle.std.proofs.lemmas.Result.{err_from_is_err_and}
use Rattle.std.proofs.lemmas.Iterator.Adapters.{YieldsList-from_vec}
use Rattle.std.proofs.lemmas.Iterator.Consumers.{YieldsList-turn}
use Rattle.host_types.specs.declared.Digest.{Digest}
use Rattle.service_model.specs.declared.outcome.Outcome.{Outcome}
use Rattle.replica_core.proofs.Batching.{at_first, next_at}
use Rattle.replica_core.proofs.kept.Core.report_batch.Goals as goal

pub loop-outcome-init : goal.loop-outcome-init
loop-outcome-init c = record { index = refl; reporting = λ k r. at_first k c.args.self.now c.args.digests.now c.args.outcomes.items r }

pub returns-in_err-report_next-clause-halted : goal.returns-in_err-report_next-clause-halted
returns-in_err-report_next-clause-halted c =
    let items : List Outcome = c.args.outcomes.items in
    let h = c.into_iter-outcome-iterator.ensures.into_iter_gives in
    let long : c.into_iter-outcome-iterator.result.rest.len ≡ length items = omega (arith, h.1) in
    let t = YieldsList-turn (YieldsList-from_vec {s = c.into_iter-outcome-iterator.result} items h.0 long) c.loop-outcome.yielded c.loop-outcome.outcome-iterator c.loop-outcome.yielded_by c.next.result c.next.new.self c.in-Some.outcome c.in-Some.is c.next.ensures.steps in
    let ds : List Digest = c.args.digests.now in
    let n : ℕ = c.loop-outcome.index in
    let inv = c.loop-outcome.invariant in
    let none : Digest = record { 0 = [] } in
    let within : n < length ds = omega (arith, t.0, inv.index, c.requires.lengths) in
    let o_is = subst (λ (i : ℕ). c.in-Some.outcome ≡ get_or items i c.in-Some.outcome) (sym inv.index) t.1 in
    let d_is = get_or_default ds n none (get_or ds n none) within in
    let p = err_from_is_err_and c.from_residual.result c.from_residual.ensures.1 in
    rw (p.1, p.2) (λ k r. c.in_err-report_next.ensures.halted k n (drop (n + 1) ds) (drop (n + 1) items)
    (next_at k c.loop-outcome.self ds items n (get_or ds n none) c.in-Some.outcome within c.requires.lengths d_is o_is (inv.reporting k r)))

pub loop-outcome-preserved : goal.loop-outcome-preserved
loop-outcome-preserved c =
    let items : List Outcome = c.args.outcomes.items in
    let h = c.into_iter-outcome-iterator.ensures.into_iter_gives in
    let long : c.into_iter-outcome-iterator.result.rest.len ≡ length items = omega (arith, h.1) in
    let t = YieldsList-turn (YieldsList-from_vec {s = c.into_iter-outcome-iterator.result} items h.0 long) c.loop-outcome.yielded c.loop-outcome.outcome-iterator c.loop-outcome.yielded_by c.next.result c.next.new.self c.in-Some.outcome c.in-Some.is c.next.ensures.steps in
    let ds : List Digest = c.args.digests.now in
    let n : ℕ = c.loop-outcome.index in
    let inv = c.loop-outcome.invariant in
    let none : Digest = record { 0 = [] } in
    let within : n < length ds = omega (arith, t.0, inv.index, c.requires.lengths) in
    let o_is = subst (λ (i : ℕ). c.in-Some.outcome ≡ get_or items i c.in-Some.outcome) (sym inv.index) t.1 in
    let d_is = get_or_default ds n none (get_or ds n none) within in
    let many = length_push c.loop-outcome.yielded c.in-Some.outcome in
    record {
      index = omega (arith, many, inv.index);
      reporting = λ k r. c.in_ok-report_next.ensures.reported k n (drop (n + 1) ds) (drop (n + 1) items)
          (next_at k c.loop-outcome.self ds items n (get_or ds n none) c.in-Some.outcome within c.requires.lengths d_is o_is (inv.reporting k r));
    }
