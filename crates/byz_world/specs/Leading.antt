-- Statement: the worlds that events lead to, and what holds of each of them.
use Rattle.std.specs.Prelude.{◌≡◌, ℕ, Bool, List, [], ◌∷◌, map, Some, Result}
use Rattle.host_types.specs.Configuration.{Configuration}
use Rattle.pbft_model.specs.Core.{Core}
use Rattle.pbft_agreement.specs.Journals.{Agrees, ComesTo, IsHonestFamily, Journals}
use Rattle.pbft_model.specs.Words.{SigningState}
use Rattle.pbft_model.specs.Setup.{setup_of}
use Rattle.replica_journal.specs.Steps.{status_of}
use Rattle.byz_world.specs.Audits.{IsAudit}
use Rattle.byz_world.specs.Procedures.{StaysSafe}
use Rattle.byz_world.specs.Records.{FindsNoFault}
use Rattle.byz_world.specs.Worlds.{Answer, Gives, IsHonestReport, IsReported, IsSignedBy, MemberFacts, WorldFacts, correct_ids, first_world, member_of, outcome_of}
use Rattle.byz_world.specs.declared.audit_fault.AuditFault.{AuditFault}
use Rattle.byz_world.specs.declared.event.Event.{Event}
use Rattle.byz_world.specs.declared.history.Execution.{Execution}

-- Events come one after another, whatever each is answered: one that is refused leaves the world as it was.
abbrev pub LeadsTo : WorldFacts → List Event → WorldFacts → Type 0
LeadsTo w [] t = t ≡ w
LeadsTo w (event ∷ events) t = (answer : Answer) × (u : WorldFacts) × Gives w event answer u × LeadsTo u events t

-- The journals of a world's correct replicas: who is faulty, the rows so far, and the signers that they began with.
pub record AreJournalsOf (c : Configuration) (faulty : ℕ → Bool) (signers : List SigningState) (t : WorldFacts) (j : Journals) : Type 0 where
  pub reported : IsReported faulty (map outcome_of t.members) j
  pub signed : IsSignedBy (correct_ids c faulty) signers j

-- What a world tells of a correct replica is of its rows: they lead to its core, if it has not halted, and to where it
-- stands.
pub record IsToldOf (c : Configuration) (j : Journals) (id : ℕ) (m : MemberFacts) : Type 0 where
  pub last : Core
  pub comes : ComesTo (setup_of c) j id (j.rows id) last
  pub core_is : (s : Core) → m.replica.core ≡ Some s → s ≡ last
  pub status_is : m.replica.status ≡ record (status_of last) { halted = m.replica.status.halted }

-- Two correct replicas of a world that have executed equally many requests hold one state.
abbrev pub HoldOneState : WorldFacts → Type 0
HoldOneState t = (a b : ℕ) (m n : MemberFacts) (s u : Core) → member_of t a ≡ Some m → member_of t b ≡ Some n
    → m.replica.core ≡ Some s → n.replica.core ≡ Some u → s.service.number ≡ u.service.number → s.service ≡ u.service

-- What holds of a world. Where at most f are faulty, nobody forged and no digests collided, the correct replicas'
-- journals are an honest family, and one list of requests accounts for all that they did: so an audit of their rows finds
-- no fault, and equal numbers have equal states. Whoever is faulty and whatever
-- was forged, no procedure can go wrong that one of them has installed at any point; and what the world tells is of their
-- journals.
pub record IsSoundWorld (c : Configuration) (faulty : ℕ → Bool) (signers : List SigningState) (t : WorldFacts) : Type 0 where
  pub family : (j : Journals) → AreJournalsOf c faulty signers t j → IsHonestReport (setup_of c) j → IsHonestFamily (setup_of c) j
  pub agrees : (j : Journals) → AreJournalsOf c faulty signers t j → IsHonestReport (setup_of c) j → Agrees (setup_of c) j
  pub audited : (j : Journals) → AreJournalsOf c faulty signers t j → IsHonestReport (setup_of c) j
      → (answer : Result (List Execution) AuditFault) → IsAudit (map (λ m. m.rows) t.members) answer → FindsNoFault answer
  pub alike : (j : Journals) → AreJournalsOf c faulty signers t j → IsHonestReport (setup_of c) j → HoldOneState t
  pub safe : (j : Journals) → AreJournalsOf c faulty signers t j → StaysSafe (setup_of c) j
  pub told : (j : Journals) → AreJournalsOf c faulty signers t j → (id : ℕ) (m : MemberFacts) → member_of t id ≡ Some m → IsToldOf c j id m

-- Whatever events come: the world that they lead to is sound.
abbrev pub LeadsToSoundWorlds : Configuration → (ℕ → Bool) → List SigningState → Type 0
LeadsToSoundWorlds c faulty signers =
    (events : List Event) (t : WorldFacts) → LeadsTo (first_world c faulty signers) events t → IsSoundWorld c faulty signers t
