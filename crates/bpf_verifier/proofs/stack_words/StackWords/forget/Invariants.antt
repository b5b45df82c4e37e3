use Rattle.std.proofs.Common.{◌≡◌, ◌≤◌, length, min, max}
use Rattle.bpf_num.specs.declared.AluWidth.TheVariants.{W64}
use Rattle.reg_ranges.specs.Ranges as reg
use Rattle.bpf_verifier.proofs.StackWords.{AreWritten}
use Rattle.bpf_verifier.proofs.stack_words.StackWords.forget.Given as goal

abbrev pub invariant-loop-word : goal.invariant-loop-word
invariant-loop-word g l = record {
  written : AreWritten l.first l.word (λ w. reg.full W64) l.fn.self.ranges l.self.ranges;
  long : length l.self.ranges ≡ g.row.WORDS;
  low : l.first ≤ l.word;
  near : l.word ≤ max l.first (min l.behind l.self.used);
  used : l.self.used ≡ l.fn.self.used;
}
