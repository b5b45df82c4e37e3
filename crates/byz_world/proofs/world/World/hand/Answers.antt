use Rattle.std.proofs.Common.{◌≡◌, eqb, set, sym, ap, subst, ◌∙◌}
use Rattle.std.proofs.lemmas.List.Quantifiers.{position-Some}
use Rattle.replica_journal.specs.Input.TheVariants as inputs
use Rattle.byz_world.specs.Handing.{UnlessMemory, index_in}
use Rattle.byz_world.specs.Worlds.{Comes, MemberFacts, WorldFacts}
use Rattle.byz_world.proofs.HandingLaws.{comes_at, comes_none, config_at, members_kept}
use Rattle.byz_world.proofs.world.World.hand.Goals as goal

pub returns-in_default-clause-given : goal.returns-in_default-clause-given
returns-in_default-clause-given c = comes_none c.args.self.now c.args.id.0 (inputs.Message c.args.message.now) (sym c.index_of.ensures ∙ c.in_default.is)

pub invariant_of-self : goal.invariant_of-self
invariant_of-self c =
    let kept : WorldFacts = record { config = c.self.inside.config.value; members = c.self.inside.members.items } in
    let view : kept ≡ c.args.self.now = c.self.view_is in (
      c.self.invariant.0,
      members_kept c.self.inside.config.value c.self.inside.members.items c.args.id.0 c.in-Some.index c.index_mut-member.result.now c.take.new.self _ c.self.invariant.1
          (ap (λ (w : WorldFacts). index_in w.members c.args.id.0) view ∙ sym c.index_of.ensures ∙ c.in-Some.is) c.index_mut-member.ensures.value c.take.ensures.id c.take.ensures.config,
    )

pub returns-clause-given : goal.returns-clause-given
returns-clause-given c =
    let kept : WorldFacts = record { config = c.self.inside.config.value; members = c.self.inside.members.items } in
    let view : kept ≡ c.args.self.now = c.self.view_is in
    let after : WorldFacts = record { config = kept.config; members = set kept.members c.in-Some.index c.take.new.self } in
    subst (λ (w : WorldFacts). UnlessMemory c.take.result (Comes w c.args.id.0 (inputs.Message c.args.message.now) c.take.result after)) view
    (comes_at kept c.args.id.0 c.in-Some.index (inputs.Message c.args.message.now) c.take.result c.index_mut-member.result.now c.take.new.self _ c.self.invariant.1
    (ap (λ (w : WorldFacts). index_in w.members c.args.id.0) view ∙ sym c.index_of.ensures ∙ c.in-Some.is) c.index_mut-member.ensures.value c.take.ensures.id c.take.ensures.steps)

pub take-requires : goal.take-requires
take-requires c =
    let kept : WorldFacts = record { config = c.self.inside.config.value; members = c.self.inside.members.items } in
    let view : kept ≡ c.args.self.now = c.self.view_is in
    let at = ap (λ (w : WorldFacts). index_in w.members c.args.id.0) view ∙ sym c.index_of.ensures ∙ c.in-Some.is in
    let below = (position-Some (λ (m : MemberFacts). eqb m.replica.me c.args.id.0) kept.members c.in-Some.index c.index_mut-member.result.now at).0 in
    record {
      config =
          c.requires.config ∙ sym (ap (λ (w : WorldFacts). w.config) view)
          ∙ sym (ap (λ (m : MemberFacts). m.replica.config) c.index_mut-member.ensures.value ∙ config_at kept.config 0 kept.members c.in-Some.index _ c.self.invariant.1 below);
    }

pub returns-clause-config : goal.returns-clause-config
returns-clause-config c =
    let kept : WorldFacts = record { config = c.self.inside.config.value; members = c.self.inside.members.items } in
    let view : kept ≡ c.args.self.now = c.self.view_is in ap (λ (w : WorldFacts). w.config) view
