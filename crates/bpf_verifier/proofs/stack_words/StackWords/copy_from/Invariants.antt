use Rattle.std.proofs.Common.{◌≡◌, length, min, max}
use Rattle.reg_ranges.specs.Ranges as reg
use Rattle.bpf_verifier.specs.StackWords.{word_range}
use Rattle.bpf_verifier.proofs.StackWords.{AreWritten}
use Rattle.bpf_verifier.proofs.stack_words.StackWords.copy_from.Given as goal

abbrev pub invariant-loop-word : goal.invariant-loop-word
invariant-loop-word g l = record {
  written : AreWritten 0 l.word (λ w. word_range l.other.ranges w) l.fn.self.ranges l.self.ranges;
  long : length l.self.ranges ≡ g.row.WORDS;
  used : l.self.used ≡ min (max l.fn.self.used l.other.used) g.row.WORDS;
}
