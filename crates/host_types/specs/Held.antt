-- Internal: which bytes are held, in a vector or as a part of a shared buffer.
use Rattle.std.specs.Prelude.{ℕ, List}
use Rattle.std.specs.List.{slice_range}
use Rattle.host_types.specs.declared.bytes.Held.{Held}
use Rattle.host_types.specs.declared.bytes.Held.TheVariants.{Own, Shared}

abbrev pub bytes_in : Held → List ℕ
bytes_in (Own bytes) = bytes.items
bytes_in (Shared part) = slice_range part.buffer.value.items part.from part.to
