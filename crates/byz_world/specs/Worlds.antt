-- Statement: replicas under events: what an event gives, what the correct replicas did, and when they agree.
use Rattle.std.specs.Prelude.{◌≡◌, ℕ, ◌≤◌, ◌==◌, Bool, true, false, not, nat_lt, List, [], ◌∷◌, ◌++◌, find, map, filter, flat_map, slice_get, option_and_then, Option, Some, None, IsSomeAnd, Result, Ok, Err, if◌then◌else◌, MatchOption, ◌⊎◌}
use Rattle.std.specs.List.{range_with_len}
use Rattle.host_types.specs.Configuration.{Configuration, replicas_for}
use Rattle.lms_tree.specs.Keys.{IsKeyOf}
use Rattle.pbft_codec.specs.declared.signed.Role.TheVariants as roles
use Rattle.pbft_model.specs.Histories.{IsIn}
use Rattle.pbft_model.specs.Families.{IsCorrect}
use Rattle.pbft_agreement.specs.Journals.{HasGiven, HasReceived, IsHashedIn, Journals}
use Rattle.pbft_model.specs.Setup.{Setup, count, replicas}
use Rattle.pbft_model.specs.Words.{Body, Signed, SigningState, messages_in, part_of}
use Rattle.pbft_codec.specs.Encoding.{encoding}
use Rattle.seal.specs.Opening.{CheckedMessage, opening}
use Rattle.seal.specs.Signers.{key_of}
use Rattle.seal.specs.declared.fault.SealFault.{SealFault}
use Rattle.replica_journal.specs.Facts.{RowFacts, row_of}
use Rattle.replica_journal.specs.Steps.{Goes, ReplicaFacts, Stops, first_with}
use Rattle.replica_journal.specs.Halt.{Halt}
use Rattle.replica_journal.specs.Input.{Input}
use Rattle.replica_journal.specs.Input.TheVariants as inputs
use Rattle.replica_journal.specs.Output.{Output}
use Rattle.byz_world.specs.declared.event.Event.{Event}
use Rattle.byz_world.specs.declared.event.Event.TheVariants as events
use Rattle.byz_world.specs.declared.fault.WorldFault.{WorldFault}
use Rattle.byz_world.specs.declared.report.Outcome.{Outcome}
use Rattle.byz_world.specs.declared.fault.WorldFault.TheVariants as faults

-- A correct replica, and its rows so far, the oldest first.
pub record MemberFacts : Type 0 where
  pub replica : ReplicaFacts
  pub rows : List RowFacts

-- What a contract sees of a world: the correct replicas, ids ascending.
pub record WorldFacts : Type 0 where
  pub config : Configuration
  pub members : List MemberFacts

-- the correct replica of an id: none where it is faulty
abbrev pub member_of : WorldFacts → ℕ → Option MemberFacts
member_of w id = find (λ m. m.replica.me == id) w.members

-- the world with this replica instead of the one of its id
abbrev pub with_member : WorldFacts → MemberFacts → WorldFacts
with_member w m = record w { members = map (λ x. if x.replica.me == m.replica.me then m else x) w.members }

-- what an event answers
abbrev pub Answer : Type 0
Answer = Result (Option RowFacts) WorldFault

-- It is refused, or gives no row; nothing changes.
abbrev pub Refuses : WorldFault → WorldFacts → Answer → WorldFacts → Type 0
Refuses fault w r t = (r ≡ Err fault) × (t ≡ w)

abbrev pub Passes : WorldFacts → Answer → WorldFacts → Type 0
Passes w r t = (r ≡ Ok None) × (t ≡ w)

-- ---- an input at a correct replica

-- It gives its row.
pub record GivesRow (w : WorldFacts) (m : MemberFacts) (input : Input) (r : Answer) (t : WorldFacts) : Type 0 where
  pub row : RowFacts
  pub after : ReplicaFacts
  pub goes : Goes m.replica input row after
  pub answer : r ≡ Ok (Some row)
  pub new : t ≡ with_member w (record { replica = after; rows = m.rows ++ row ∷ [] })

-- It halts the replica, or comes after its halt: no row.
pub record GivesNone (w : WorldFacts) (m : MemberFacts) (input : Input) (r : Answer) (t : WorldFacts) : Type 0 where
  pub halt : Halt
  pub after : ReplicaFacts
  pub stops : Stops m.replica input halt after
  pub answer : r ≡ Ok None
  pub new : t ≡ with_member w (record { replica = after; rows = m.rows })

abbrev pub Hands : WorldFacts → MemberFacts → Input → Answer → WorldFacts → Type 0
Hands w m input r t = GivesRow w m input r t ⊎ GivesNone w m input r t

-- An input at any replica: a faulty one gives nothing.
abbrev pub Comes : WorldFacts → ℕ → Input → Answer → WorldFacts → Type 0
Comes w id input r t = MatchOption (member_of w id) (Passes w r t) (λ m. Hands w m input r t)

-- ---- events

abbrev pub Delivers : WorldFacts → ℕ → Result CheckedMessage SealFault → Answer → WorldFacts → Type 0
Delivers w to (Ok message) r t = Comes w to (inputs.Message message) r t
Delivers w to (Err fault) r t = Passes w r t

-- the output of this number, over all rows
abbrev pub output_at : List RowFacts → ℕ → Option Output
output_at rows number = slice_get (flat_map (λ row. row.outputs) rows) number

abbrev pub output_of : WorldFacts → ℕ → ℕ → Option Output
output_of w from number = option_and_then (λ m. output_at m.rows number) (member_of w from)

-- Its bytes come to the replica.
abbrev pub Forwards : WorldFacts → ℕ → Option Output → Answer → WorldFacts → Type 0
Forwards w to None r t = Refuses faults.NoSuchOutput w r t
Forwards w to (Some output) r t = Delivers w to (opening w.config (encoding output.message.message)) r t

-- where the replica is one of the configuration's
abbrev pub Where : Bool → Type 0 → Type 0 → Type 0
Where true there nowhere = there
Where false there nowhere = nowhere

abbrev pub AtReplica : WorldFacts → ℕ → Answer → WorldFacts → Type 0 → Type 0
AtReplica w id r t there = Where (nat_lt id (replicas_for w.config.f)) there (Refuses faults.NoSuchReplica w r t)

abbrev pub Gives : WorldFacts → Event → Answer → WorldFacts → Type 0
Gives w (events.Deliver to bytes) r t = AtReplica w to.0 r t (Delivers w to.0 (opening w.config bytes) r t)
Gives w (events.Forward to from output) r t =
    AtReplica w to.0 r t (AtReplica w from.0 r t (Forwards w to.0 (output_of w from.0 output) r t))
Gives w (events.Timeout at) r t = AtReplica w at.0 r t (Comes w at.0 inputs.Timeout r t)

-- What an event gives, unless memory ran out, and then nothing is said.
abbrev pub Happens : WorldFacts → Event → Answer → WorldFacts → Type 0
Happens w event (Err faults.Memory) t = Unit {0}
Happens w event (Err faults.NoSuchReplica) t = Gives w event (Err faults.NoSuchReplica) t
Happens w event (Err faults.NoSuchOutput) t = Gives w event (Err faults.NoSuchOutput) t
Happens w event (Ok row) t = Gives w event (Ok row) t

-- Events one after another, none of them refused.
abbrev pub Runs : WorldFacts → List Event → WorldFacts → Type 0
Runs w [] t = t ≡ w
Runs w (event ∷ events) t = (row : Option RowFacts) × (u : WorldFacts) × Gives w event (Ok row) u × Runs u events t

-- An event is refused after those before it.
abbrev pub RefusesAt : WorldFacts → List Event → WorldFault → Type 0
RefusesAt w events fault =
    (before after : List Event) × (event : Event) × (events ≡ before ++ event ∷ after)
    × ((u : WorldFacts) × Runs w before u × Gives u event (Err fault) u)

-- why a run was refused: nothing is said where memory ran out
abbrev pub IsRefused : WorldFacts → List Event → WorldFault → Type 0
IsRefused w events faults.NoSuchReplica = RefusesAt w events faults.NoSuchReplica
IsRefused w events faults.NoSuchOutput = RefusesAt w events faults.NoSuchOutput
IsRefused w events faults.Memory = Unit {0}

-- ---- the first world, and what is reported

-- The ids of correct replicas, ascending.
abbrev pub correct_ids : Configuration → (ℕ → Bool) → List ℕ
correct_ids c faulty = filter (λ i. not (faulty i)) (range_with_len 0 (replicas_for c.f))

-- one signer for each correct replica, in the order of ids
abbrev pub first_members : Configuration → List ℕ → List SigningState → List MemberFacts
first_members c [] signers = []
first_members c (id ∷ ids) [] = []
first_members c (id ∷ ids) (signer ∷ signers) = record { replica = first_with c id signer; rows = [] } ∷ first_members c ids signers

abbrev pub first_world : Configuration → (ℕ → Bool) → List SigningState → WorldFacts
first_world c faulty signers = record { config = c; members = first_members c (correct_ids c faulty) signers }

-- what is reported of a correct replica
pub record OutcomeFacts : Type 0 where
  pub id : ℕ
  pub rows : List RowFacts
  pub halted : Option Halt

abbrev pub outcome_of : MemberFacts → OutcomeFacts
outcome_of m = record { id = m.replica.me; rows = m.rows; halted = m.replica.status.halted }

-- what a contract sees of an outcome
abbrev pub facts_of : Outcome → OutcomeFacts
facts_of o = record { id = o.id.0; rows = o.rows.items; halted = o.halted }

-- The rows that are reported of a replica: none of a faulty one.
abbrev pub rows_in : List OutcomeFacts → ℕ → List RowFacts
rows_in [] i = []
rows_in (o ∷ os) i = if o.id == i then o.rows else rows_in os i

-- Journals that the report gives: who is faulty, and the rows of the others.
pub record IsReported (faulty : ℕ → Bool) (outcomes : List OutcomeFacts) (j : Journals) : Type 0 where
  pub faulty_is : j.faulty ≡ faulty
  pub rows_are : (i : ℕ) → j.rows i ≡ map row_of (rows_in outcomes i)

-- Of an honest family's premises, those that the code can't give: at most f are faulty, nobody forged, and no digests collided.
pub record IsHonestReport (c : Setup) (j : Journals) : Type 0 where
  pub few : count j.faulty (replicas c.config) ≤ c.config.f
  pub real : (i : ℕ) → IsCorrect c j.faulty i → (m p : Signed Body) → HasReceived m (j.rows i) → IsIn p (messages_in m)
      → p.role ≡ roles.Replica → IsCorrect c j.faulty p.id → HasGiven (part_of p) (j.rows p.id)
  pub apart : (x y : List ℕ) → IsHashedIn c j x → IsHashedIn c j y → c.hash x ≡ c.hash y → x ≡ y

-- ---- signers

-- Each signer has the key that is listed for its id.
abbrev pub AreListed : Configuration → List ℕ → List SigningState → Type 0
AreListed c [] signers = Unit {0}
AreListed c (id ∷ ids) [] = ⊥
AreListed c (id ∷ ids) (signer ∷ signers) = IsSomeAnd (key_of c roles.Replica id) (λ key. IsKeyOf key signer) × AreListed c ids signers

-- The journals are of these signers.
abbrev pub IsSignedBy : List ℕ → List SigningState → Journals → Type 0
IsSignedBy [] signers j = Unit {0}
IsSignedBy (id ∷ ids) [] j = ⊥
IsSignedBy (id ∷ ids) (signer ∷ signers) j = (j.signer id ≡ signer) × IsSignedBy ids signers j
