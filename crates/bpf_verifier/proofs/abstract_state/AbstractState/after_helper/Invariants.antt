use Rattle.std.proofs.Common.{◌≡◌, ℕ, ◌+◌, ◌<◌, ◌||◌, cond, take}
use Rattle.bpf_num.specs.declared.AluWidth.TheVariants.{W64}
use Rattle.reg_ranges.specs.Ranges as reg
use Rattle.bpf_model.specs.Words.{may_write}
use Rattle.bpf_verifier.specs.StackWords.{word_range}
use Rattle.std.specs.List.{list_any}
use Rattle.map_helpers.specs.declared.helper.Access.{Access}
use Rattle.map_helpers.specs.Helpers.{fixed_size}
use Rattle.bpf_model.specs.Machine.{frame_start}
use Rattle.bpf_model.specs.AbstractState.{is_written}
use Rattle.bpf_verifier.specs.FrameBytes.{has_byte}
use Rattle.bpf_verifier.specs.Represents.{ranges_of}
use Rattle.bpf_verifier.proofs.abstract_state.AbstractState.after_helper.Given as goal

abbrev pub invariant-loop-access : goal.invariant-loop-access
invariant-loop-access g l = record {
  ranges : l.self.ranges ≡ l.fn.self.ranges;
  initialized : (i : ℕ) → i < 4096 → has_byte l.self.initialized.words i ≡ (list_any (λ (access : Access). is_written (ranges_of l.fn.self.ranges access.register) (fixed_size access.size) (frame_start 0 + i)) (take l.access-index l.writes) || has_byte l.fn.self.initialized.words i);
  words : (w : ℕ) → w < g.row.WORDS → word_range l.self.words.ranges w ≡ cond (list_any (λ (access : Access). may_write (ranges_of l.fn.self.ranges access.register) (fixed_size access.size) w) (take l.access-index l.writes)) (reg.full W64) (word_range l.fn.self.words.ranges w);
}
