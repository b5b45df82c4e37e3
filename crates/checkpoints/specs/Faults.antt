-- Statement: the number of each fault.
use Rattle.std.specs.Prelude.{◌≡◌, ℕ, Bool, true, false, Option, Some, None, Result, Ok, Err}
use Rattle.checkpoints.specs.declared.fault.CheckpointFault.{CheckpointFault}
use Rattle.checkpoints.specs.declared.fault.CheckpointFault.TheVariants.{Old, DigestDiffers, Memory}

abbrev pub number_of : CheckpointFault → ℕ
number_of Old = 1
number_of DigestDiffers = 2
number_of Memory = 3

-- The call has this fault. Where there is none it succeeds, or memory ran out.
abbrev pub Reports : {A : Type 0} → Option CheckpointFault → Result A CheckpointFault → Type 0
Reports fault (Ok x) = fault ≡ None
Reports fault (Err Old) = fault ≡ Some Old
Reports fault (Err DigestDiffers) = fault ≡ Some DigestDiffers
Reports fault (Err Memory) = fault ≡ None

-- a Checkpoint of another digest is refused so, and any other only where memory ran out
abbrev pub IsRefusal : Bool → CheckpointFault → Type 0
IsRefusal other DigestDiffers = other ≡ true
IsRefusal other Memory = other ≡ false
IsRefusal other Old = ⊥
