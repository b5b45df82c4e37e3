-- Statement: what taking a list of instructions makes of a sink.
use Rattle.std.specs.Prelude.{◌≡◌, List, [], ◌∷◌}
use Rattle.bpf_decode.specs.declared.insn.Insn.{Insn}

-- Taken one after the other, given what it is to take one.
abbrev pub TakesAll : {S : Type 0} → (S → Insn → S → Type 0) → S → List Insn → S → Type 0
TakesAll {S} takes before [] after = before ≡ after
TakesAll {S} takes before (insn ∷ insns) after = (mid : S) × takes before insn mid × TakesAll takes mid insns after
