-- What a history keeps in range: the numbers of recorded Checkpoints, and the snapshots.
use Rattle.std.proofs.Common.{◌≡◌, ℕ, ◌%◌, ◌<◌, ◌≤◌, Bool, true, false, cond, List, [], ◌∷◌, length, Some, refl, sym, ap, subst, inl, inr, arith}
use Rattle.std.specs.Prelude.{is_some, nat_lt, nat_le, ◌==◌}
use Rattle.std.specs.List.{flat_map}
use Rattle.host_types.specs.Configuration.{IsConfiguration}
use Rattle.pbft_codec.specs.declared.body.Body.TheVariants as bodies
use Rattle.pbft_codec.specs.declared.body.fetch.Fetch.TheVariants as fetches
use Rattle.pbft_codec.specs.WellFormed.{BodyWellFormed, EachBody, IsSequenceNumber, ViewChangeWellFormed}
use Rattle.service_model.proofs.Lengths.{state_length}
use Rattle.pbft_model.specs.Words.{SigningState, Signed, Body, Checkpoint, ViewChange}
use Rattle.pbft_model.specs.Acts.{Act, Take, Timeout, Send, Relay, Enter, Rise, Execute, Install, add_checkpoint, add_checkpoints, after, left_for, left_if_above, recorded, said, with_body}
use Rattle.pbft_model.specs.Core.{Core}
use Rattle.pbft_model.specs.Histories.{IsHistory, IsIn, core_after}
use Rattle.pbft_model.specs.Rules.{Allowed, MaySay}
use Rattle.pbft_model.specs.Sequential.{IsSound, Service, encoded}
use Rattle.pbft_model.specs.Setup.{Setup, number_limit}
use Rattle.pbft_model.specs.Tables.{Key, Table, add_if, at, checkpoint_key, entries_in, first_in, is_above, keep, number_key, with_entry}
use Rattle.pbft_model.specs.Validity.{is_valid, is_valid_new_view}
use Rattle.pbft_model.proofs.Entries.{from_append, from_entry, from_keep}
use Rattle.pbft_model.proofs.Fitting.{IsInStep, in_step_at}
use Rattle.pbft_model.proofs.Found.{found_entry, found_keep, no_some}

-- ---- Checkpoints

abbrev IsLow : Signed Checkpoint → Type 0
IsLow m = m.body.number.0 < number_limit

abbrev AreLow : List (Signed Checkpoint) → Type 0
AreLow ms = (m : Signed Checkpoint) → IsIn m ms → IsLow m

each_low : (ms : List (Signed Checkpoint)) → EachBody (λ (b : Checkpoint). IsSequenceNumber b.number) ms → AreLow ms
each_low [] all m is = absurd is
each_low (x ∷ ms) all m (inl same) = subst IsLow (sym same) all.0
each_low (x ∷ ms) all m (inr later) = each_low ms all.1 m later

changes_low : (vs : List (Signed ViewChange)) → EachBody ViewChangeWellFormed vs → AreLow (flat_map (λ (v : Signed ViewChange). v.body.checkpoints) vs)
changes_low [] all m is = absurd is
changes_low (v ∷ vs) all m is = elim (from_append m v.body.checkpoints (flat_map (λ (v : Signed ViewChange). v.body.checkpoints) vs) is) [
  | inl here ↦ each_low v.body.checkpoints all.0.numbers m here
  | inr later ↦ changes_low vs all.1 m later
]

where_true : (b : Bool) (ms : List (Signed Checkpoint)) → AreLow ms → AreLow (cond b ms [])
where_true true ms h = h
where_true false ms h = λ m is. absurd is

added_low : (b : Bool) (k : Key) (m : Signed Checkpoint) (t : Table (Signed Checkpoint)) → IsLow m → AreLow (entries_in t) → AreLow (entries_in (add_if b k m t))
added_low false k m t low h = h
added_low true k m t low h = cases (is_some (at t k)) where
  cases : (b : Bool) → AreLow (entries_in (cond b t (with_entry t k m)))
  cases true = h
  cases false = λ x is. elim (from_entry t k m x is) [
    | inl same ↦ subst IsLow (sym same) low
    | inr old ↦ h x old
  ]

all_added : (low : ℕ) (ms : List (Signed Checkpoint)) (t : Table (Signed Checkpoint)) → AreLow ms → AreLow (entries_in t) → AreLow (entries_in (add_checkpoints low ms t))
all_added low [] t new h = h
all_added low (m ∷ ms) t new h =
    all_added low ms (add_checkpoint low m t) (λ x is. new x (inr is)) (added_low (nat_lt low m.body.number.0) (checkpoint_key m.body.number.0 m.id) m t (new m (inl refl)) h)

recorded_low : (c : Setup) (s : Core) (m : Signed Body) (b : Body) → BodyWellFormed b → AreLow (entries_in s.checkpoints) → AreLow (entries_in (recorded c s m b).checkpoints)
recorded_low c s m (bodies.Checkpoint b) fits h = added_low (nat_lt s.low b.number.0) (checkpoint_key b.number.0 m.id) (with_body m b) s.checkpoints fits h
recorded_low c s m (bodies.ViewChange b) fits h =
    all_added s.low (cond (is_valid c b) b.checkpoints []) s.checkpoints (where_true (is_valid c b) b.checkpoints (each_low b.checkpoints fits.numbers)) h
recorded_low c s m (bodies.NewView b) fits h =
    all_added s.low (cond (is_valid_new_view c b) (flat_map (λ (v : Signed ViewChange). v.body.checkpoints) b.changes) []) s.checkpoints
    (where_true (is_valid_new_view c b) (flat_map (λ (v : Signed ViewChange). v.body.checkpoints) b.changes) (changes_low b.changes fits.changes)) h
recorded_low c s m _ fits h = h

left_checkpoints : (c : Setup) (s : Core) (view : ℕ) → (left_if_above c s view).checkpoints ≡ s.checkpoints
left_checkpoints c s view = cases (nat_lt s.view view) where
  cases : (b : Bool) → (cond b (left_for c s view) s).checkpoints ≡ s.checkpoints
  cases true = refl
  cases false = refl

abbrev LowIn : Table (Signed Checkpoint) → Type 0
LowIn t = AreLow (entries_in t)

said_low : (c : Setup) (me : ℕ) (s : Core) (m : Signed Body) (b : Body) → MaySay c me s b → s.executed < number_limit → LowIn s.checkpoints → LowIn (said c s m b).checkpoints
said_low c me s m (bodies.Request b) says top h = h
said_low c me s m (bodies.PrePrepare b) says top h = h
said_low c me s m (bodies.Prepare b) says top h = h
said_low c me s m (bodies.Commit b) says top h = h
said_low c me s m (bodies.Reply b) says top h = h
said_low c me s m (bodies.Checkpoint b) says top h =
    added_low (nat_lt s.low b.number.0) (checkpoint_key b.number.0 m.id) (with_body m b) s.checkpoints (let same : b.number.0 ≡ s.executed = says.number_is in omega (arith, same, top)) h
said_low c me s m (bodies.ViewChange b) says top h = h
said_low c me s m (bodies.NewView b) says top h = subst LowIn (sym (left_checkpoints c s b.view.0)) h
said_low c me s m (bodies.Fetch (fetches.Request d)) says top h = h
said_low c me s m (bodies.Fetch (fetches.State n)) says top h = h
said_low c me s m (bodies.Snapshot b) says top h = h

kept_low : (test : Key → Bool) (t : Table (Signed Checkpoint)) → LowIn t → LowIn (keep test t)
kept_low test t h m is = h m (from_keep test t m is)

-- ---- snapshots

-- the bytes of a state at the number of their key
pub record IsStateOf (q : Key) (bytes : List ℕ) : Type 0 where
  pub state : Service
  pub sound : IsSound state
  pub number : q ≡ number_key state.number
  pub is : encoded state ≡ bytes

abbrev AreStates : Table (List ℕ) → Type 0
AreStates t = (q : Key) (bytes : List ℕ) → at t q ≡ Some bytes → IsStateOf q bytes

entry_states : (t : Table (List ℕ)) (number : ℕ) (bytes : List ℕ) → IsStateOf (number_key number) bytes → AreStates t → AreStates (with_entry t (number_key number) bytes)
entry_states t number bytes new h q b e = elim (found_entry t (number_key number) q bytes b e) [
  | inl w ↦ subst (λ (x : List ℕ). IsStateOf q x) w.1 (subst (λ (k : Key). IsStateOf k bytes) (sym w.0) new)
  | inr old ↦ h q b old
]

kept_states : (test : Key → Bool) (t : Table (List ℕ)) → AreStates t → AreStates (keep test t)
kept_states test t h q b e = h q b ((found_keep test t q b e).1)

state_of : (state : Service) (number : ℕ) (bytes : List ℕ) → IsSound state → state.number ≡ number → encoded state ≡ bytes → IsStateOf (number_key number) bytes
state_of state number bytes sound same is = record { state = state; sound = sound; number = ap number_key (sym same); is = is }

pub left_snapshots : (c : Setup) (s : Core) (view : ℕ) → (left_if_above c s view).snapshots ≡ s.snapshots
left_snapshots c s view = cases (nat_lt s.view view) where
  cases : (b : Bool) → (cond b (left_for c s view) s).snapshots ≡ s.snapshots
  cases true = refl
  cases false = refl

pub said_snapshots : (c : Setup) (s : Core) (m : Signed Body) (b : Body) → (said c s m b).snapshots ≡ s.snapshots
said_snapshots c s m (bodies.NewView b) = left_snapshots c s b.view.0
said_snapshots c s m (bodies.Fetch (fetches.Request d)) = refl
said_snapshots c s m (bodies.Fetch (fetches.State n)) = refl
said_snapshots c s m _ = refl

pub recorded_snapshots : (c : Setup) (s : Core) (m : Signed Body) (b : Body) → (recorded c s m b).snapshots ≡ s.snapshots
recorded_snapshots c s m (bodies.Request b) = refl
recorded_snapshots c s m _ = refl

-- ---- histories

-- what is kept is in range
pub record IsInRange (s : Core) : Type 0 where
  pub checkpoints : (m : Signed Checkpoint) → IsIn m (entries_in s.checkpoints) → m.body.number.0 < number_limit
  pub snapshots : (q : Key) (bytes : List ℕ) → at s.snapshots q ≡ Some bytes → IsStateOf q bytes

module _ (c : Setup) (me : ℕ) (signer : SigningState) (configuration : IsConfiguration c.config) where
  -- the number reached is a sequence number
  pub executed_low : (acts : List Act) → IsHistory c me signer acts → (core_after c signer acts).executed < number_limit
  executed_low acts is =
      let fits = in_step_at c me signer configuration acts is in
      let same = fits.number_is in
      let low = fits.sound.bounded.number_in_range in
      omega (arith, same, low)

  range_after : (acts : List Act) (a : Act) → IsHistory c me signer acts → Allowed c me (core_after c signer acts) a → IsInRange (core_after c signer acts) → IsInRange (after c (core_after c signer acts) a)
  range_after acts (Take m r) is ok h = record {
    checkpoints = recorded_low c (core_after c signer acts) m m.body ok.opened.encodes.well_formed.well_formed h.checkpoints;
    snapshots = subst AreStates (sym (recorded_snapshots c (core_after c signer acts) m m.body)) h.snapshots;
  }
  range_after acts Timeout is ok h = record { checkpoints = h.checkpoints; snapshots = h.snapshots }
  range_after acts (Send to m) is ok h = record {
    checkpoints = said_low c me (core_after c signer acts) m m.body ok.says (executed_low acts is) h.checkpoints;
    snapshots = subst AreStates (sym (said_snapshots c (core_after c signer acts) m m.body)) h.snapshots;
  }
  range_after acts (Relay to m) is ok h = record { checkpoints = h.checkpoints; snapshots = h.snapshots }
  range_after acts (Enter m) is ok h = record {
    checkpoints = subst LowIn (sym (left_checkpoints c (core_after c signer acts) m.body.view.0)) h.checkpoints;
    snapshots = subst AreStates (sym (left_snapshots c (core_after c signer acts) m.body.view.0)) h.snapshots;
  }
  range_after acts (Rise n d) is ok h = record {
    checkpoints = kept_low (is_above n) (core_after c signer acts).checkpoints h.checkpoints;
    snapshots = kept_states (λ key. nat_le n (first_in key)) (core_after c signer acts).snapshots h.snapshots;
  }
  range_after acts (Execute n d t o) is ok h = record { checkpoints = h.checkpoints; snapshots = cases (n % c.config.k == 0) (in_step_at c me signer configuration (Execute n d t o ∷ acts) (is, ok)) } where
    cases : (b : Bool) → IsInStep c (after c (core_after c signer acts) (Execute n d t o)) → AreStates (cond b (with_entry (core_after c signer acts).snapshots (number_key n) (encoded t)) (core_after c signer acts).snapshots)
    cases true fits = entry_states (core_after c signer acts).snapshots n (encoded t) (state_of t n (encoded t) fits.sound fits.number_is refl) h.snapshots
    cases false fits = h.snapshots
  range_after acts (Install n b t) is ok h = record {
    checkpoints = kept_low (is_above n) (core_after c signer acts).checkpoints h.checkpoints;
    snapshots = kept_states (λ key. nat_le n (first_in key)) (with_entry (core_after c signer acts).snapshots (number_key n) b)
        (entry_states (core_after c signer acts).snapshots n b (state_of t n b ok.reads.sound ok.reads.number_is ok.reads.encodes) h.snapshots);
  }

  pub in_range_at : (acts : List Act) → IsHistory c me signer acts → IsInRange (core_after c signer acts)
  in_range_at [] is = record { checkpoints = λ m is. absurd is; snapshots = λ q b e. no_some b e }
  in_range_at (a ∷ acts) is = range_after acts a is.0 is.1 (in_range_at acts is.0)

-- a snapshot's number and length
pub snapshot_fits : (s : Core) (number : ℕ) (bytes : List ℕ) → IsInRange s → at s.snapshots (number_key number) ≡ Some bytes → (number < number_limit) × (length bytes ≤ 5_788_337)
snapshot_fits s number bytes range e =
    let w = range.snapshots (number_key number) bytes e in
    let same : number ≡ w.state.number = ap first_in w.number in
    let low = w.sound.bounded.number_in_range in
    (omega (arith, same, low), subst (λ (xs : List ℕ). length xs ≤ 5_788_337) w.is (state_length w.state w.sound.bounded))
