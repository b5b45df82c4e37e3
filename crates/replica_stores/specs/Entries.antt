-- Internal: the entries of a map as a table.
use Rattle.std.specs.Prelude.{List, map}
use Rattle.pbft_model.specs.Tables.{Key, Table}

-- each key and each value as the table has it
abbrev pub table_of : {K X Y : Type 0} → (K → Key) → (X → Y) → List (K × X) → Table Y
table_of key value es = map (λ e. (key e.0, value e.1)) es
