-- Internal: what is fed to a sink.
use Rattle.std.specs.Prelude.{ℕ, List, ◌++◌}

-- Whatever the first one holds, the second holds that and then these bytes.
abbrev pub Feeds : {S : Type 0} → (S → List ℕ → Type 0) → S → S → List ℕ → Type 0
Feeds holds before after bytes = (prior : List ℕ) → holds before prior → holds after (prior ++ bytes)
