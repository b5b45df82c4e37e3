use Rattle.std.proofs.Common.{◌≡◌, ◌*◌, ◌≤◌, ◌<◌, ℕ, true}
use Rattle.bpf_verifier.specs.FrameBytes.{has_byte}
use Rattle.bpf_verifier.proofs.frame_bytes.FrameBytes.contains_all.Given as goal

abbrev pub invariant-loop-word : goal.invariant-loop-word
invariant-loop-word l = (i : ℕ) → l.from ≤ i → i < l.to → i < 64 * l.word → has_byte l.self.words i ≡ true
