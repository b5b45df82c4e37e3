-- Statement: the bytes of kinds.
use Rattle.std.specs.Prelude.{ℕ, ◌==◌, List, [], ◌∷◌, Option, find}
use Rattle.pbft_codec.specs.declared.kind.Kind.{Kind}
use Rattle.pbft_codec.specs.declared.kind.Kind.TheVariants.{Request, PrePrepare, Prepare, Commit, Reply, Checkpoint, ViewChange, NewView, Fetch, Snapshot}

abbrev pub kind_byte : Kind → ℕ
kind_byte Request = 0x01
kind_byte PrePrepare = 0x02
kind_byte Prepare = 0x03
kind_byte Commit = 0x04
kind_byte Reply = 0x05
kind_byte Checkpoint = 0x06
kind_byte ViewChange = 0x07
kind_byte NewView = 0x08
kind_byte Fetch = 0x09
kind_byte Snapshot = 0x0a

abbrev pub kinds : List Kind
kinds =
    Request ∷ PrePrepare ∷ Prepare ∷ Commit ∷ Reply ∷ Checkpoint ∷ ViewChange ∷ NewView ∷ Fetch ∷ Snapshot ∷ []

-- The kind of a byte.
unfoldable pub kind_of : ℕ → Option Kind
kind_of byte = find (λ kind. kind_byte kind == byte) kinds
