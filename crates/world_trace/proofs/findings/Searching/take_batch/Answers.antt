use Rattle.std.proofs.Common.{◌≡◌, ◌+◌, ◌-◌, ◌<◌, ◌≤◌, ◌∙◌, ℕ, Err, Ok, ap, arith, rules, sym, subst}
use Rattle.std.specs.Prelude.{IfOk, List, Result, get_or, length}
use Rattle.std.specs.declared.alloc.AllocError.{AllocError}
use Rattle.script_text.specs.Orders.{ordered}
use Rattle.script_text.specs.declared.script.Script.{Script}
use Rattle.world_trace.specs.Exploring.{IsOutcome}
use Rattle.world_trace.specs.Finding.{AreExplored, TakesSeeds}
use Rattle.world_trace.specs.declared.explore.Explored.{Explored}
use Rattle.world_trace.specs.declared.explore.Wanted.{Wanted}
use Rattle.world_trace.proofs.Finding.{stands_early}
use Rattle.world_trace.proofs.findings.Searching.take_batch.Goals as goal

within : (f i n s e : ℕ) → s ≡ f + i → i < n → f + n ≤ e → s < e
within f i n s e a b c = omega (arith, a, b, c)

early : (f s e : ℕ) → s < e → s ≤ f + (e - f)
early f s e a = omega (arith, a)

came : (script : Script) (wanted : Wanted) (first i seed : ℕ) (batch : List (Result Explored AllocError)) (item : Result Explored AllocError) (e : Explored) → AreExplored script wanted first batch → i < length batch
    → item ≡ get_or batch i item → item ≡ Ok e → seed ≡ first + i → IsOutcome (ordered seed script) wanted e.outcome
came script wanted first i seed batch item e each below read is same =
    subst (λ (n : ℕ). IsOutcome (ordered n script) wanted e.outcome) (sym same)
    (subst (λ (r : Result Explored AllocError). IfOk r (λ x. IsOutcome (ordered (first + i) script) wanted x.outcome)) (sym read ∙ is) (each i item below))

pub take-requires-clause-comes : goal.take-requires-clause-comes
take-requires-clause-comes g c =
    came c.args.self.script.now c.args.self.search.wanted c.args.first c.loop-explored.explored-index c.loop-explored.seed c.args.batch.now c.explored-item.result c.in-Ok.explored c.requires.each c.loop-explored-test.true
    c.explored-item.is c.in-Ok.is c.loop-explored.invariant.0

pub returns-in_default : goal.returns-in_default
returns-in_default g c = λ start st.
    stands_early _ _ _ _ _ _ (c.loop-explored.invariant.1 start st)
    (early c.args.self.search.seeds.first c.loop-explored.seed c.args.self.search.seeds.end
    (within c.args.first c.loop-explored.explored-index _ c.loop-explored.seed _ c.loop-explored.invariant.0 c.loop-explored-test.true c.requires.within))

pub returns-in_err-take : goal.returns-in_err-take
returns-in_err-take g c = λ start st.
    let same : c.from_residual.result ≡ Err c.in_err-take.field-0.0 = search rules in
    subst (TakesSeeds c.args.self.script.now c.args.self.search _ c.take.new.blamed.items start (g.O.Write.contents c.take.new.writer)) (sym same)
    (subst (TakesSeeds c.args.self.script.now c.args.self.search _ c.take.new.blamed.items start (g.O.Write.contents c.take.new.writer)) c.in_err-take.was (c.take.ensures start (c.loop-explored.invariant.1 start st)))

pub returns-in-Refused : goal.returns-in-Refused
returns-in-Refused g c = λ start st.
    subst (TakesSeeds c.args.self.script.now c.args.self.search _ c.take.new.blamed.items start (g.O.Write.contents c.take.new.writer)) (c.in_ok-take.was ∙ ap Ok c.in-Refused.is)
    (c.take.ensures start (c.loop-explored.invariant.1 start st))
