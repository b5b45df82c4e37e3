use Rattle.std.proofs.Common.{◌≡◌, find, drop}
use Rattle.std.specs.Str.{bytes_eq}
use Rattle.bpf_asm.specs.Words.{word_of}
use Rattle.bpf_asm.proofs.form.find_form.Given as goal

abbrev pub invariant-loop-form : goal.invariant-loop-form
invariant-loop-form l =
    find (λ f. bytes_eq (word_of f) l.word) l.forms ≡ find (λ f. bytes_eq (word_of f) l.word) (drop l.form-index l.forms)
