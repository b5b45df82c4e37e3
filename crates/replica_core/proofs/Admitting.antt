-- What is recorded of a vote and of a Checkpoint is what the protocol's core records.
use Rattle.std.proofs.Common.{◌≡◌, ℕ, ◌+◌, ◌*◌, Bool, true, false, ◌&&◌, cond, List, [], Option, Some, None, refl, sym, ap, subst, ◌∙◌, inl, inr}
use Rattle.std.specs.Prelude.{nat_lt, nat_le, not, ◌==◌, is_some, if◌then◌else◌, IsSome, MatchOption, Result, Ok, Err, OnOk, OnErr, IfErr}
use Rattle.host_types.specs.Configuration.{Configuration}
use Rattle.pbft_codec.specs.declared.body.Body.{Body}
use Rattle.pbft_codec.specs.declared.body.Body.TheVariants as bodies
use Rattle.seal.specs.Parts.{as_message}
use Rattle.seal.specs.Votes.{vote_in, vote_of}
use Rattle.pbft_model.specs.Setup.{setup_of, Setup}
use Rattle.pbft_model.specs.Validity.{floor_of}
use Rattle.replica_core.specs.declared.halt.Halt.{Halt}
use Rattle.replica_core.specs.Halts.{unless_memory}
use Rattle.replica_core.specs.Replicas.{AreOne, KeptReplica, Parts, basis_in, core_in, kept_in}
use Rattle.std.proofs.lemmas.Bool.{false≢true, cases_lt, lt-leb, lt-ltb, le-leb, le-ltb}
use Rattle.pbft_model.specs.Words.{Signed, Checkpoint, Commit, PrePrepare, Prepare, ViewChange}
use Rattle.pbft_model.specs.Tables.{Key, Table, at, add_if, vote_key, with_entry, checkpoint_key}
use Rattle.pbft_model.specs.Certificates.{Fields, of_commit, of_pre_prepare, of_prepare}
use Rattle.pbft_model.specs.Core.{Core, floor_in, is_admitted, is_inside}
use Rattle.pbft_model.specs.Acts.{add_checkpoint, recorded, with_body}
use Rattle.checkpoints.specs.declared.fault.CheckpointFault.{CheckpointFault}
use Rattle.checkpoints.specs.declared.fault.CheckpointFault.TheVariants.{Old, DigestDiffers}
use Rattle.checkpoints.specs.Kept.{KeptCheckpoints, checkpoint_in, has_other_digest, note_fault}
use Rattle.replica_stores.specs.LogFault.{LogFault}
use Rattle.replica_stores.specs.LogFault.TheVariants.{OutsideMarks, OtherDigest, WrongView, Memory}
use Rattle.replica_stores.specs.Log.{IsRefusedFor, KeptLog, Log, accepted, added, fault_in, is_other, is_under_floor, is_within, log_of, vote_fault}

-- ---- what is admitted

not_below : (a b : ℕ) → nat_le a b ≡ not (nat_lt b a)
not_below a b = elim (cases_lt b a) [
  | inl lt ↦ lt-leb a b lt ∙ ap not (sym (lt-ltb b a lt))
  | inr le ↦ le-leb a b le ∙ ap not (sym (le-ltb b a le))
]

grouped : (x y z : Bool) → ((x && y) && z) ≡ (x && (y && z))
grouped true y z = refl
grouped false y z = refl

-- a vote is admitted that the log finds no fault with, but for another digest
module _ (c : Setup) (s : Core) where
  under : (active : Bool) (floor number : ℕ) (same : Bool) → (active && (same && nat_le number floor)) ≡ (same && is_under_floor (cond active (Some floor) None) number)
  under true floor number same = refl
  under false floor number true = refl
  under false floor number false = refl

  pub admitted_is : (view number : ℕ) → is_admitted c s view number ≡ (not (nat_lt view s.view) && is_within c.config (log_of s) view number)
  admitted_is view number =
      let fits = nat_lt s.low number in
      let reaches = nat_le number (s.low + 2 * c.config.k) in
      let below = view == s.view && is_under_floor (log_of s).floor number in
      ap (λ (b : Bool). b && (is_inside c s number && not (s.active && (view == s.view && nat_le number (floor_in s))))) (not_below s.view view)
      ∙ ap (λ (b : Bool). not (nat_lt view s.view) && (is_inside c s number && not b)) (under s.active (floor_in s) number (view == s.view))
      ∙ ap (λ (b : Bool). not (nat_lt view s.view) && b) (grouped fits reaches (not below))

-- ---- a table

module _ {X : Type 0} (k : Key) (x : X) (table : Table X) where
  taken_up : (wrong within other adm : Bool) → adm ≡ (not wrong && within) → (if wrong then Some WrongView else (if not within then Some OutsideMarks else (if other then Some OtherDigest else None))) ≡ None
      → add_if true k x table ≡ add_if adm k x table
  taken_up true within other adm e none = absurd cc
  taken_up false false other adm e none = absurd cc
  taken_up false true true adm e none = absurd cc
  taken_up false true false adm e none = ap (λ (b : Bool). add_if b k x table) (sym e)

  free_or_not : (b : Bool) → is_some (at table k) ≡ true → add_if b k x table ≡ table
  free_or_not true e = ap (λ (y : Bool). cond y table (with_entry table k x)) e
  free_or_not false e = refl

  refused : (fault : LogFault) (wrong within other adm : Bool) → adm ≡ (not wrong && within) → (other ≡ true → is_some (at table k) ≡ true)
      → (if wrong then Some WrongView else (if not within then Some OutsideMarks else (if other then Some OtherDigest else None))) ≡ Some fault → add_if adm k x table ≡ table
  refused fault true within other adm e there some = ap (λ (b : Bool). add_if b k x table) e
  refused fault false false other adm e there some = ap (λ (b : Bool). add_if b k x table) e
  refused fault false true true adm e there some = free_or_not adm (there refl)
  refused fault false true false adm e there some = absurd cc

another : {B : Type 0} (of : B → Fields) (digest : List ℕ) (o : Option (Signed B)) → is_other of digest o ≡ true → is_some o ≡ true
another of digest None e = absurd cc
another of digest (Some m) e = refl

module _ {B : Type 0} (of : B → Fields) (c : Setup) (s : Core) (m : Signed B) (table : Table (Signed B)) where
  abbrev admits : Bool
  admits = is_admitted c s (of m.body).view (of m.body).number

  abbrev key : Key
  key = vote_key (of m.body).number (of m.body).view m.id

  pub vote_added : fault_in of table c.config (log_of s) m ≡ None → added of m table ≡ add_if admits key m table
  vote_added none = taken_up key m table (nat_lt (of m.body).view s.view) (is_within c.config (log_of s) (of m.body).view (of m.body).number) (is_other of (of m.body).digest (at table key)) admits (admitted_is c s (of m.body).view (of m.body).number) none

  pub vote_refused : (fault : LogFault) → fault_in of table c.config (log_of s) m ≡ Some fault → add_if admits key m table ≡ table
  vote_refused fault some = refused key m table fault (nat_lt (of m.body).view s.view) (is_within c.config (log_of s) (of m.body).view (of m.body).number) (is_other of (of m.body).digest (at table key)) admits (admitted_is c s (of m.body).view (of m.body).number) (another of (of m.body).digest (at table key)) some

-- ---- Checkpoints

checkpoint_refused : (k : Key) (x : Signed Checkpoint) (table : Table (Signed Checkpoint)) (low number : ℕ) (other : Bool) (fault : CheckpointFault) → (other ≡ true → is_some (at table k) ≡ true)
    → (if nat_le number low then Some Old else (if other then Some DigestDiffers else None)) ≡ Some fault → add_if (nat_lt low number) k x table ≡ table
checkpoint_refused k x table low number other fault there some = elim (cases_lt low number) [
  | inl lt ↦ above (lt-leb number low lt) other refl some
  | inr le ↦ ap (λ (b : Bool). add_if b k x table) (le-ltb low number le)
] where
  above : nat_le number low ≡ false → (o : Bool) → other ≡ o → (if nat_le number low then Some Old else (if other then Some DigestDiffers else None)) ≡ Some fault → add_if (nat_lt low number) k x table ≡ table
  above not_low true is some = free_or_not k x table (nat_lt low number) (there is)
  above not_low false is some = absurd (no (sym (ap (λ (b : Bool). if b then Some Old else (if other then Some DigestDiffers else None)) not_low ∙ ap (λ (b : Bool). if b then Some DigestDiffers else None) is) ∙ some)) where
    no : None ≡ Some fault → ⊥
    no e = absurd cc

differs : (digest : List ℕ) (o : Option (Signed Checkpoint)) → has_other_digest digest o ≡ true → is_some o ≡ true
differs digest None e = absurd cc
differs digest (Some m) e = refl

pub not_noted : (k : KeptCheckpoints) (m : Signed Checkpoint) (fault : CheckpointFault) → note_fault k (Some m) ≡ Some fault → add_checkpoint k.low m k.checkpoints ≡ k.checkpoints
not_noted k m fault some =
    let key = checkpoint_key m.body.number.0 m.id in
    checkpoint_refused key m k.checkpoints k.low m.body.number.0 (has_other_digest m.body.digest.0 (at k.checkpoints key)) fault (differs m.body.digest.0 (at k.checkpoints key)) some

pub on_ok : {A : Type 0} {P Q : Type 0} (r : Result A Halt) → (P → Q) → OnOk r P → OnOk r Q
on_ok (Ok x) f h = f h
on_ok (Err halt) f h = tt

-- ---- a replica's votes

module _ (c : Configuration) (me : ℕ) (p : Parts) (one : AreOne c me p) where
  floor_is : (o : Option ℕ) (ms : List (Signed ViewChange)) → MatchOption o (ms ≡ []) (λ floor. floor ≡ floor_of ms) → cond (is_some o) (Some (floor_of ms)) None ≡ o
  floor_is None ms h = refl
  floor_is (Some floor) ms h = ap Some (sym h)

  pub log_is : log_of (core_in p) ≡ p.log.log
  log_is = let same = floor_is p.log.log.floor (basis_in p.basis) one.floor in λ i. record p.log.log { floor = same i }

  moved : {B : Type 0} (of : B → Fields) (table : Table (Signed B)) (m : Signed B) → fault_in of table p.log.config p.log.log m ≡ fault_in of table c (log_of (core_in p)) m
  moved of table m = ap (λ (x : Configuration). fault_in of table x p.log.log m) one.log ∙ ap (λ (l : Log). fault_in of table c l m) (sym log_is)

  abbrev With : KeptLog → KeptReplica
  With new = kept_in c me (record p { log = new })

  abbrev Recorded : KeptReplica → Signed Body → Body → KeptReplica
  Recorded k m body = record k { core = recorded (setup_of k.config) k.core m body }

  pub vote_recorded : (k : KeptReplica) (m : Signed Body) (body : Body) (new : KeptLog) → kept_in c me p ≡ k → IsSome (vote_in m.id body) → vote_fault p.log.config p.log.log m body ≡ None
      → new ≡ record p.log { log = accepted p.log.log m body } → With new ≡ Recorded k m body
  vote_recorded k m (bodies.PrePrepare b) new e some none is =
      ap With is
      ∙ ap (λ (t : Table (Signed PrePrepare)). record (kept_in c me p) { core = record (core_in p) { pre_prepares = t } }) (vote_added of_pre_prepare (setup_of c) (core_in p) (with_body m b) p.log.log.pre_prepares (sym (moved of_pre_prepare p.log.log.pre_prepares (with_body m b)) ∙ none))
      ∙ ap (λ (x : KeptReplica). Recorded x m (bodies.PrePrepare b)) e
  vote_recorded k m (bodies.Prepare b) new e some none is =
      ap With is
      ∙ ap (λ (t : Table (Signed Prepare)). record (kept_in c me p) { core = record (core_in p) { prepares = t } }) (vote_added of_prepare (setup_of c) (core_in p) (with_body m b) p.log.log.prepares (sym (moved of_prepare p.log.log.prepares (with_body m b)) ∙ none))
      ∙ ap (λ (x : KeptReplica). Recorded x m (bodies.Prepare b)) e
  vote_recorded k m (bodies.Commit b) new e some none is =
      ap With is
      ∙ ap (λ (t : Table (Signed Commit)). record (kept_in c me p) { core = record (core_in p) { commits = t } }) (vote_added of_commit (setup_of c) (core_in p) (with_body m b) p.log.log.commits (sym (moved of_commit p.log.log.commits (with_body m b)) ∙ none))
      ∙ ap (λ (x : KeptReplica). Recorded x m (bodies.Commit b)) e
  vote_recorded k m _ new e some none is = absurd (false≢true some)

  pub vote_dropped : (k : KeptReplica) (m : Signed Body) (body : Body) (new : KeptLog) (fault : LogFault) → kept_in c me p ≡ k → IsSome (vote_in m.id body) → vote_fault p.log.config p.log.log m body ≡ Some fault
      → new ≡ p.log → With new ≡ Recorded k m body
  vote_dropped k m (bodies.PrePrepare b) new fault e some why is =
      ap With is
      ∙ ap (λ (t : Table (Signed PrePrepare)). record (kept_in c me p) { core = record (core_in p) { pre_prepares = t } })
      (sym (vote_refused of_pre_prepare (setup_of c) (core_in p) (with_body m b) p.log.log.pre_prepares fault (sym (moved of_pre_prepare p.log.log.pre_prepares (with_body m b)) ∙ why)))
      ∙ ap (λ (x : KeptReplica). Recorded x m (bodies.PrePrepare b)) e
  vote_dropped k m (bodies.Prepare b) new fault e some why is =
      ap With is
      ∙ ap (λ (t : Table (Signed Prepare)). record (kept_in c me p) { core = record (core_in p) { prepares = t } })
      (sym (vote_refused of_prepare (setup_of c) (core_in p) (with_body m b) p.log.log.prepares fault (sym (moved of_prepare p.log.log.prepares (with_body m b)) ∙ why)))
      ∙ ap (λ (x : KeptReplica). Recorded x m (bodies.Prepare b)) e
  vote_dropped k m (bodies.Commit b) new fault e some why is =
      ap With is
      ∙ ap (λ (t : Table (Signed Commit)). record (kept_in c me p) { core = record (core_in p) { commits = t } })
      (sym (vote_refused of_commit (setup_of c) (core_in p) (with_body m b) p.log.log.commits fault (sym (moved of_commit p.log.log.commits (with_body m b)) ∙ why)))
      ∙ ap (λ (x : KeptReplica). Recorded x m (bodies.Commit b)) e
  vote_dropped k m _ new fault e some why is = absurd (false≢true some)

  -- ---- Checkpoints

  as_kind : {B : Type 0} (kind : B → Body) (m : Signed Body) (b : B) → m.body ≡ kind b → m ≡ as_message kind (with_body m b)
  as_kind kind m b e = λ i. record m { body = e i }

  abbrev WithTable : KeptCheckpoints → KeptReplica
  WithTable new = kept_in c me (record p { table = new })

  low_same : (k : KeptReplica) (m : Signed Body) (b : Checkpoint) → kept_in c me p ≡ k → record (kept_in c me p) { core = record (core_in p) { checkpoints = add_checkpoint p.table.low (with_body m b) p.table.checkpoints } } ≡ Recorded k m (bodies.Checkpoint b)
  low_same k m b e =
      ap (λ (n : ℕ). record (kept_in c me p) { core = record (core_in p) { checkpoints = add_checkpoint n (with_body m b) p.table.checkpoints } }) one.low
      ∙ ap (λ (x : KeptReplica). Recorded x m (bodies.Checkpoint b)) e

  pub checkpoint_taken : (k : KeptReplica) (m : Signed Body) (body : Body) (new : KeptCheckpoints) (r : Result (Unit {0}) Halt) → kept_in c me p ≡ k → m.body ≡ body → IsSome (checkpoint_in m body)
      → ((x : Signed Checkpoint) → m ≡ as_message bodies.Checkpoint x → OnOk r (new ≡ record p.table { checkpoints = add_checkpoint p.table.low x p.table.checkpoints }))
      → OnOk r (WithTable new ≡ Recorded k m body)
  checkpoint_taken k m (bodies.Checkpoint b) new r e is some noted = on_ok r (λ h. ap WithTable h ∙ low_same k m b e) (noted (with_body m b) (as_kind bodies.Checkpoint m b is))
  checkpoint_taken k m _ new r e is some noted = absurd (false≢true some)

  pub taken_in : (k : KeptReplica) (m : Signed Body) (new : KeptLog) (r : Result (Unit {0}) LogFault) (s : Result (Unit {0}) Halt) → kept_in c me p ≡ k → IsSome (vote_of m) → s ≡ unless_memory r
      → OnOk r (vote_fault p.log.config p.log.log m m.body ≡ None) → OnOk r (new ≡ record p.log { log = accepted p.log.log m m.body })
      → IfErr r (IsRefusedFor (vote_fault p.log.config p.log.log m m.body)) → OnErr r (new ≡ p.log) → OnOk s (With new ≡ Recorded k m m.body)
  taken_in k m new (Ok x) s e some is none recorded fault same = subst (λ (t : Result (Unit {0}) Halt). OnOk t (With new ≡ Recorded k m m.body)) (sym is) (vote_recorded k m m.body new e some none recorded)
  taken_in k m new (Err Memory) s e some is none recorded fault same = subst (λ (t : Result (Unit {0}) Halt). OnOk t (With new ≡ Recorded k m m.body)) (sym is) tt
  taken_in k m new (Err OutsideMarks) s e some is none recorded fault same =
      subst (λ (t : Result (Unit {0}) Halt). OnOk t (With new ≡ Recorded k m m.body)) (sym is) (vote_dropped k m m.body new OutsideMarks e some fault same)
  taken_in k m new (Err OtherDigest) s e some is none recorded fault same =
      subst (λ (t : Result (Unit {0}) Halt). OnOk t (With new ≡ Recorded k m m.body)) (sym is) (vote_dropped k m m.body new OtherDigest e some fault same)
  taken_in k m new (Err WrongView) s e some is none recorded fault same =
      subst (λ (t : Result (Unit {0}) Halt). OnOk t (With new ≡ Recorded k m m.body)) (sym is) (vote_dropped k m m.body new WrongView e some fault same)
