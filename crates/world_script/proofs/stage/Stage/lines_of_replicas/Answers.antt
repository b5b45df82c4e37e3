use Rattle.std.proofs.Common.{◌≡◌, ℕ, ◌≤◌, List, ◌++◌, sym, ap, ◌∙◌, arith}
use Rattle.host_types.specs.Configuration.{Configuration, replicas_for}
use Rattle.world_script.specs.Printing.{line_printed}
use Rattle.world_script.specs.Facts.{StageFacts}
use Rattle.world_script.proofs.Printed.{more_text, text_of}
use Rattle.world_script.proofs.stage.Stage.lines_of_replicas.Goals as goal

pub loop-id-preserved : goal.loop-id-preserved
loop-id-preserved c =
    c.in_ok-push_str.ensures.bytes ∙ ap (λ (bs : List ℕ). bs ++ c.deref-in-loop-id.result.now) c.loop-id.invariant
    ∙ ap (λ (bs : List ℕ). text_of (line_printed c.args.line c.args.self.now.world) c.loop-id.id ++ bs) (c.deref-in-loop-id.ensures ∙ c.in_ok-line_of_replica.ensures)
    ∙ more_text (line_printed c.args.line c.args.self.now.world) c.loop-id.id

ends_at : (n m : ℕ) → n ≤ m → m ≤ n → n ≡ m
ends_at n m h k = omega (arith, h, k)

pub returns : goal.returns
returns c =
    c.loop-id.invariant
    ∙ ap (text_of (line_printed c.args.line c.args.self.now.world)) (ends_at c.loop-id.id c.replica_count-id-end.result c.loop-id.auto.id-end c.loop-id-test.false ∙ c.replica_count-id-end.ensures.value
    ∙ ap (λ (x : Configuration). replicas_for x.f) (c.deref.ensures ∙ sym c.self.invariant.0) ∙ ap (λ (s : StageFacts). replicas_for s.world.config.f) c.self.view_is)
