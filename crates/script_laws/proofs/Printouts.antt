-- What the steps print that change nothing is the same of stages that are alike.
use Rattle.std.proofs.Common.{◌≡◌, ℕ, inl, inr, List, [], flat_map, Option, Some, None, refl, sym, ap, subst, ◌∙◌}
use Rattle.std.specs.Prelude.{filter}
use Rattle.std.specs.Option.{option_map}
use Rattle.host_types.specs.Configuration.{Configuration}
use Rattle.host_types.specs.declared.ReplicaId.{ReplicaId}
use Rattle.service_model.proofs.Injective.{same_decoded}
use Rattle.service_model.specs.TenantStates.{Service}
use Rattle.world_script.specs.Core.{Core}
use Rattle.world_script.specs.Worlds.{MemberFacts, WorldFacts, member_of}
use Rattle.script_text.specs.declared.script.Printout.{Printout}
use Rattle.script_text.specs.declared.script.Printout.TheVariants as printouts
use Rattle.world_script.specs.Letters.{LetterFacts, is_meant}
use Rattle.world_script.specs.Lines.{letter_line}
use Rattle.world_script.specs.Facts.{StageFacts}
use Rattle.world_script.specs.Printing.{Shows, Upgrades, digest_of, digest_printed, ids_of, service_in, state_of, status_line, status_of, status_printed, upgraded_line}
use Rattle.script_laws.proofs.Alike.{Alike, Bare, bare, same_member}
use Rattle.script_laws.proofs.Audited.{audits_alike}
use Rattle.script_laws.proofs.Drained.{drains_alike}
use Rattle.script_laws.proofs.Stages.{Like}

status_bare : ReplicaId → Option Bare → List ℕ
status_bare id None = []
status_bare id (Some b) = status_line id b.0.status

status_so : (id : ReplicaId) (o : Option MemberFacts) → status_of id o ≡ status_bare id (option_map bare o)
unfolding status_bare
status_so id None = refl
status_so id (Some m) = refl

service_bare : Option Bare → Option Service
service_bare None = None
service_bare (Some b) = option_map (λ (c : Core). c.service) b.0.core

service_so : (o : Option MemberFacts) → service_in o ≡ service_bare (option_map bare o)
unfolding service_bare
service_so None = refl
service_so (Some m) = refl

module _ (w v : WorldFacts) (alike : Alike w v) where
  same_service : (id : ℕ) → service_in (member_of w id) ≡ service_in (member_of v id)
  same_service id = service_so (member_of w id) ∙ ap service_bare (same_member w v id alike) ∙ sym (service_so (member_of v id))

  same_status : (id : ReplicaId) → status_printed w id ≡ status_printed v id
  same_status id = status_so id (member_of w id.0) ∙ ap (status_bare id) (same_member w v id.0 alike) ∙ sym (status_so id (member_of v id.0))

  same_digest : (id : ReplicaId) → digest_printed w id ≡ digest_printed v id
  same_digest id = ap (digest_of id) (same_service id.0)

  lines_alike : (f g : ReplicaId → List ℕ) → ((id : ReplicaId) → f id ≡ g id) → flat_map f (ids_of w.config) ≡ flat_map g (ids_of v.config)
  lines_alike f g same = ap (λ (h : ReplicaId → List ℕ). flat_map h (ids_of w.config)) (λ i id. same id i) ∙ ap (λ (c : Configuration). flat_map g (ids_of c)) alike.config

upgrades_one : (c : Configuration) (bytes text other : List ℕ) → Upgrades c bytes text → Upgrades c bytes other → text ≡ other
upgrades_one c bytes text other (inl (state, is, line)) (inl (state', is', line')) = line ∙ ap upgraded_line (same_decoded c bytes state state' is is') ∙ sym line'
upgrades_one c bytes text other (inl (state, is, line)) (inr (none, line')) = absurd (none state is)
upgrades_one c bytes text other (inr (none, line)) (inl (state', is', line')) = absurd (none state' is')
upgrades_one c bytes text other (inr (none, line)) (inr (none', line')) = line ∙ sym line'

pub shows_alike : (s t : StageFacts) → Like s t → (p : Printout) (text other : List ℕ) → Shows s p text → Shows t p other → text ≡ other
shows_alike s t like (printouts.Queue f) text other g h = g ∙ ap (λ (ls : List LetterFacts). flat_map letter_line (filter (is_meant f) ls)) like.queue ∙ sym h
shows_alike s t like printouts.Show text other g h = g ∙ lines_alike s.world t.world like.worlds (status_printed s.world) (status_printed t.world) (same_status s.world t.world like.worlds) ∙ sym h
shows_alike s t like printouts.Digest text other g h = g ∙ lines_alike s.world t.world like.worlds (digest_printed s.world) (digest_printed t.world) (same_digest s.world t.world like.worlds) ∙ sym h
shows_alike s t like (printouts.State id) text other g h = g ∙ ap (state_of id) (same_service s.world t.world like.worlds id.0) ∙ sym h
shows_alike s t like (printouts.Upgrade bytes) text other g h =
    upgrades_one s.world.config bytes text other g (subst (λ (c : Configuration). Upgrades c bytes other) (sym like.worlds.config) h)
shows_alike s t like printouts.Audit text other g h = audits_alike s.world t.world like.worlds text other g h
shows_alike s t like printouts.Drained text other g h = drains_alike s.world t.world like.worlds text other g h
