use Rattle.std.proofs.Common.{◌≡◌, set, sym, ap, subst, ◌∙◌}
use Rattle.replica_journal.specs.Input.TheVariants as inputs
use Rattle.byz_world.specs.Handing.{UnlessMemory, index_in}
use Rattle.byz_world.specs.Worlds.{Comes, WorldFacts}
use Rattle.byz_world.proofs.HandingLaws.{comes_at, comes_none, members_kept}
use Rattle.byz_world.proofs.world.World.hand_timeout.Goals as goal

pub returns-in_default-clause-given : goal.returns-in_default-clause-given
returns-in_default-clause-given c = comes_none c.args.self.now c.args.id.0 (inputs.Timeout) (sym c.index_of.ensures ∙ c.in_default.is)

pub invariant_of-self : goal.invariant_of-self
invariant_of-self c =
    let kept : WorldFacts = record { config = c.self.inside.config.value; members = c.self.inside.members.items } in
    let view : kept ≡ c.args.self.now = c.self.view_is in (
      c.self.invariant.0,
      members_kept c.self.inside.config.value c.self.inside.members.items c.args.id.0 c.in-Some.index c.index_mut-member.result.now c.timeout.new.self _ c.self.invariant.1
          (ap (λ (w : WorldFacts). index_in w.members c.args.id.0) view ∙ sym c.index_of.ensures ∙ c.in-Some.is) c.index_mut-member.ensures.value c.timeout.ensures.id c.timeout.ensures.config,
    )

pub returns-clause-given : goal.returns-clause-given
returns-clause-given c =
    let kept : WorldFacts = record { config = c.self.inside.config.value; members = c.self.inside.members.items } in
    let view : kept ≡ c.args.self.now = c.self.view_is in
    let after : WorldFacts = record { config = kept.config; members = set kept.members c.in-Some.index c.timeout.new.self } in
    subst (λ (w : WorldFacts). UnlessMemory c.timeout.result (Comes w c.args.id.0 (inputs.Timeout) c.timeout.result after)) view
    (comes_at kept c.args.id.0 c.in-Some.index (inputs.Timeout) c.timeout.result c.index_mut-member.result.now c.timeout.new.self _ c.self.invariant.1
    (ap (λ (w : WorldFacts). index_in w.members c.args.id.0) view ∙ sym c.index_of.ensures ∙ c.in-Some.is) c.index_mut-member.ensures.value c.timeout.ensures.id c.timeout.ensures.steps)

pub returns-clause-config : goal.returns-clause-config
returns-clause-config c =
    let kept : WorldFacts = record { config = c.self.inside.config.value; members = c.self.inside.members.items } in
    let view : kept ≡ c.args.self.now = c.self.view_is in ap (λ (w : WorldFacts). w.config) view
