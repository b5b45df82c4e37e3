use Rattle.std.proofs.Common.{◌≡◌, refl, Some, IsSome, sym, ap, subst, ◌∙◌, rules}
use Rattle.std.specs.Option.{option_copied_mut}
use Rattle.std.specs.BTreeMap as tree
use Rattle.tenant_maps.specs.Entries.{has_room}
use Rattle.tenant_maps.proofs.EntriesLemmas.{order}
use Rattle.tenant_maps.proofs.MeaningLemmas.{IsTenantMap-after_insert, IsTenantMap-after_overwrite, IsKey-from, IsValue-from, can_insert}
use Rattle.tenant_maps.proofs.tenant_map.TenantMapMapPort.put.Goals as goal

pub invariant_of-self-inside : goal.invariant_of-self-inside
invariant_of-self-inside c =
    let key = IsKey-from c.args.key (search rules) (search rules) in
    let value = IsValue-from c.args.value (search rules) (search rules) in
    let room = ap (λ map. has_room map.entries c.args.key) c.self.view_is ∙ can_insert c.args.self.now.entries c.args.key c.len.result c.len.ensures c.if-len-lt-MAX_ENTRIES.true in
    (IsTenantMap-after_insert c.self.inside.map c.insert.new.self c.args.key c.args.value c.insert.result c.self.invariant c.insert.ensures.ordered c.insert.ensures.updates c.insert.ensures.err c.self.inside.bounded key value room, tt)

pub invariant_of-self-inside-2 : goal.invariant_of-self-inside-2
invariant_of-self-inside-2 c =
    let there : tree.get order c.self.inside.map c.args.key ≡ Some c.in-Some.stored.now = sym c.get_mut.ensures.value ∙ ap option_copied_mut c.in-Some.is in
    let holds = c.get_mut.follows.holds c.overwrite.new.stored in (
      IsTenantMap-after_overwrite c.self.inside.map (c.get_mut.follows.lender c.overwrite.new.stored) c.args.key c.overwrite.new.stored c.in-Some.stored.now
          c.self.invariant holds.4 (holds.3 (subst IsSome (sym there) refl)) holds.1 c.self.inside.bounded c.overwrite.ensures.bytes,
      tt,
    )
