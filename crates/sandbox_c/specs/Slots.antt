-- Statement: what a slot owns: the memory of a box, with what is inside and the right to free it, or nothing.
use base.Fml.{Fml, ftrue}
use base.Stored.{Coded}
use denote.RawPtr.{Ptr}
use Rattle.std.specs.Prelude.{Option, Some, None}
use Rattle.std.specs.Coded.{coded_option}
use Rattle.std.specs.Box.Ownership.{box_owns}
use Rattle.std.specs.Global.{Global}
use Rattle.std.specs.contracts.impls.GlobalAllocator.TheImpl.{ghosts}
use Rattle.sandbox_c.specs.declared.held.Held.{Held}
use Rattle.sandbox_c.specs.contracts.held.Held.{the_row}

abbrev pub slot_owns : Global → Ptr → Option Held → Fml
slot_owns alloc at None = ftrue
slot_owns alloc at (Some held) = box_owns (ghosts.dealloc_token alloc) the_row at held

abbrev pub inside_coded : Coded (Option Held)
inside_coded = coded_option the_row.coded
