use Rattle.std.proofs.Common.{◌≡◌, ◌*◌, ℕ, ◌&&◌, ◌||◌, leb, ltb}
use Rattle.bpf_verifier.specs.FrameBytes.{has_byte}
use Rattle.bpf_verifier.proofs.frame_bytes.FrameBytes.insert_all.Given as goal

abbrev pub invariant-loop-word : goal.invariant-loop-word
invariant-loop-word l = (i : ℕ) → has_byte l.self.words i ≡ ((leb l.from i && ltb i l.to && ltb i (64 * l.word)) || has_byte l.fn.self.words i)
