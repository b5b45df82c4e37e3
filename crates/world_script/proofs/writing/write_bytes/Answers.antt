use Rattle.std.proofs.Common.{◌≤◌, ℕ, length, refl, take, sym, subst}
use Rattle.std.specs.Io.KnownBytes.{Appends}
use Rattle.world_script.proofs.Written.{below_end, front_at, kept, more_written, still_within}
use Rattle.world_script.proofs.writing.write_bytes.Goals as goal
use Rattle.world_script.proofs.writing.write_bytes.Goals.{in-Ok, in-Err+else-ne}

pub returns-then-ne-clause-front : goal.returns-then-ne-clause-front
returns-then-ne-clause-front g c =
    front_at _ _ c.loop.at c.args.bytes.now c.args.bytes.now refl
    (below_end c.loop.at (length c.args.bytes.now) c.loop.invariant.0 c.if-at-bytes.false)
    (kept _ _ _ (take c.loop.at c.args.bytes.now) c.loop.invariant.1 c.in-Err.ensures.bytes)

pub loop-preserved : goal.loop-preserved
loop-preserved g c = elim c.match-write.branch [
  | in-Ok w ↦ subst (λ (n : ℕ). (n ≤ length c.args.bytes.now) × Appends (g.O.Write.contents c.args.writer.now) (g.O.Write.contents c.write.new.self) (take n c.args.bytes.now)) (sym w.at-is) (
    still_within c.loop.at w.in-Ok.count c.args.bytes.now c.loop.invariant.0 w.in-Ok.ensures.bound,
    more_written _ _ _ c.loop.at w.in-Ok.count c.args.bytes.now c.loop.invariant.1 w.in-Ok.ensures.bytes,
  )
  | in-Err+else-ne w ↦ subst (λ (n : ℕ). (n ≤ length c.args.bytes.now) × Appends (g.O.Write.contents c.args.writer.now) (g.O.Write.contents c.write.new.self) (take n c.args.bytes.now)) (sym w.at-is) (
    c.loop.invariant.0,
    kept _ _ _ (take c.loop.at c.args.bytes.now) c.loop.invariant.1 w.in-Err.ensures.bytes,
  )
]

pub returns-clause-front : goal.returns-clause-front
returns-clause-front g c =
    front_at _ _ c.loop.at c.args.bytes.now c.args.bytes.now refl
    (below_end c.loop.at (length c.args.bytes.now) c.loop.invariant.0 c.if-at-bytes-2.false) c.loop.invariant.1
