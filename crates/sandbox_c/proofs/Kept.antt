-- A map whose entries are those that it had is the map that it was.
use Rattle.std.proofs.Common.{◌≡◌, Bool, true, false, cond, refl, sym, ap, ◌∙◌}
use Rattle.tenant_maps.specs.Entries.{Entries}
use Rattle.tenant_maps.specs.TenantEntries.{TenantEntries, same_tenant_entries}
use Rattle.tenant_maps.specs.declared.port.Put.TheVariants.{Stored, Full}
use Rattle.sandbox_c.specs.declared.held.Held.{Held}
use Rattle.sandbox_c.specs.declared.held.Held.TheVariants.{Map}

pub kept : (new old : TenantEntries) → new.entries ≡ old.entries → (held : Held) → held ≡ Map old → Map new ≡ held
kept new old same held is = ap Map (same_tenant_entries new old same) ∙ sym is

pub full_keeps : (room : Bool) (written old : Entries) → Full ≡ cond room Stored Full → cond room written old ≡ old
full_keeps true written old full = absurd cc
full_keeps false written old full = refl
