-- Internal: the texts of lines, and a table of labels beside the lines that define them.
use Rattle.std.specs.Prelude.{◌≡◌, ℕ, List, map, Option, find, FitsSigned}
use Rattle.std.specs.Int.{w16}
use Rattle.bpf_asm.specs.declared.operand.Target.{Target}
use Rattle.bpf_asm.specs.declared.operand.Target.TheVariants as target
use Rattle.std.proofs.Common.{Bor}
use Rattle.std.specs.Option.{option_map}
use Rattle.std.specs.Str.{bytes_eq}
use Rattle.bpf_asm.specs.declared.rounds.Label.{Label}
use Rattle.bpf_asm.specs.Assembly.{label_slot}

abbrev pub texts : List (Bor (List ℕ)) → List (List ℕ)
texts lines = map (λ line. line.now) lines

-- The slot of the first label of a table that has this name.
abbrev pub table_slot : List ℕ → List Label → Option ℕ
table_slot name labels = option_map (λ l. l.slot) (find (λ l. bytes_eq l.name.now name) labels)

-- A table has the labels that these lines define.
pub record IsTable (labels : List Label) (seen : List (List ℕ)) : Type 0 where
  pub slots_are : (name : List ℕ) → table_slot name labels ≡ label_slot name seen

-- A target whose offset has 16 bits.
abbrev pub IsNear : Target → Type 0
IsNear (target.Offset z) = FitsSigned w16 z
IsNear target.Label = Unit {0}
