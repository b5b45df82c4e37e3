-- Statement: what a put answers.
use Rattle.std.specs.Prelude.{ℕ, List, cond}
use Rattle.tenant_maps.specs.Entries.{Entries, has_room}
use Rattle.tenant_maps.specs.declared.port.Put.{Put}
use Rattle.tenant_maps.specs.declared.port.Put.TheVariants.{Stored, Full}

-- Stored where there is room for the key; Full where it is new and there are 4,096 entries.
abbrev pub put_answer : Entries → List ℕ → Put
put_answer entries key = cond (has_room entries key) Stored Full
