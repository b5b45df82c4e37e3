-- What a replica holds was taken; what it recorded of others' Commits is in range; the message just taken was taken.
use Rattle.std.proofs.Common.{◌≡◌, ◌⊎◌, ℕ, ◌<◌, Bool, true, false, cond, List, [], ◌∷◌, ◌++◌, filter, Some, refl, sym, ap, subst, ◌∙◌, inl, inr}
use Rattle.std.specs.Prelude.{is_some, nat_lt, find}
use Rattle.std.proofs.lemmas.Option.{same_Some}
use Rattle.pbft_model.specs.Words.{SigningState, Signed, Body, RequestBody, Commit, IsChecked, as_message}
use Rattle.pbft_codec.specs.declared.body.Body.TheVariants as bodies
use Rattle.pbft_codec.specs.declared.body.fetch.Fetch.TheVariants as fetches
use Rattle.pbft_codec.specs.WellFormed.{BodyWellFormed}
use Rattle.pbft_model.specs.Setup.{Setup, digest_of, number_limit}
use Rattle.pbft_model.specs.Tables.{Key, Table, at, add_if, keep, vote_key, is_above}
use Rattle.pbft_model.specs.Core.{Core, held_with}
use Rattle.pbft_model.specs.Acts.{Act, Take, Timeout, Send, Relay, Enter, Rise, Execute, Install, after, said, recorded, left_for, left_if_above, add_request, with_body}
use Rattle.pbft_model.specs.Rules.{Allowed}
use Rattle.pbft_model.specs.Histories.{core_after, IsHistory, IsEarlier, IsIn, HasTaken}
use Rattle.pbft_model.proofs.Found.{no_some, found_add, found_keep}
use Rattle.pbft_model.proofs.Entries.{from_append}
use Rattle.pbft_model.proofs.Events.{before, history_at, taken_at}

from_filter : {X : Type 0} (test : X → Bool) (xs : List X) (x : X) → IsIn x (filter test xs) → IsIn x xs
from_filter test [] x h = absurd h
from_filter {X} test (y ∷ xs) x h = cases (test y) h (from_filter test xs x) where
  cases : (b : Bool) → IsIn x (cond b (y ∷ filter test xs) (filter test xs)) → (IsIn x (filter test xs) → IsIn x xs) → IsIn x (y ∷ xs)
  cases true (inl same) rest = inl same
  cases true (inr later) rest = inr (rest later)
  cases false later rest = inr (rest later)

-- what is found is in the list and passes the test
pub from_find : {X : Type 0} (test : X → Bool) (xs : List X) (x : X) → find test xs ≡ Some x → IsIn x xs × (test x ≡ true)
from_find test [] x e = no_some x e
from_find {X} test (y ∷ xs) x e = cases (test y) refl e (from_find test xs x) where
  cases : (b : Bool) → test y ≡ b → cond b (Some y) (find test xs) ≡ Some x → (find test xs ≡ Some x → IsIn x xs × (test x ≡ true)) → IsIn x (y ∷ xs) × (test x ≡ true)
  cases true t e rest = (inl (sym (same_Some _ _ e)), subst (λ (z : X). test z ≡ true) (same_Some _ _ e) t)
  cases false t e rest = let w = rest e in (inr w.0, w.1)

-- a message that was taken was opened
pub taken_opened : (c : Setup) (me : ℕ) (signer : SigningState) (m : Signed Body) (acts : List Act) → IsHistory c me signer acts → HasTaken m acts → IsChecked (record { config = c.config; message = m })
taken_opened c me signer m [] is h = absurd h
taken_opened c me signer m (a ∷ acts) is (inl (r, e)) = (subst (λ (x : Act). Allowed c me (core_after c signer acts) x) e is.1).opened
taken_opened c me signer m (a ∷ acts) is (inr h) = taken_opened c me signer m acts is.0 h

left_taken : (c : Setup) (s : Core) (view : ℕ) → (left_if_above c s view).taken ≡ s.taken
left_taken c s view = cases (nat_lt s.view view) where
  cases : (b : Bool) → (cond b (left_for c s view) s).taken ≡ s.taken
  cases true = refl
  cases false = refl

left_held : (c : Setup) (s : Core) (view : ℕ) → (left_if_above c s view).held ≡ s.held
left_held c s view = cases (nat_lt s.view view) where
  cases : (b : Bool) → (cond b (left_for c s view) s).held ≡ s.held
  cases true = refl
  cases false = refl

left_commits : (c : Setup) (s : Core) (view : ℕ) → (left_if_above c s view).commits ≡ s.commits
left_commits c s view = cases (nat_lt s.view view) where
  cases : (b : Bool) → (cond b (left_for c s view) s).commits ≡ s.commits
  cases true = refl
  cases false = refl

module _ (c : Setup) (me : ℕ) (signer : SigningState) (all : List Act) (is : IsHistory c me signer all) where
  -- ---- the message just taken

  abbrev TakenOnce : Core → Type 0
  TakenOnce s = (m : Signed Body) → s.taken ≡ Some m → HasTaken m all

  said_taken : (s : Core) (m : Signed Body) (b : Body) → (said c s m b).taken ≡ s.taken
  said_taken s m (bodies.Request b) = refl
  said_taken s m (bodies.PrePrepare b) = refl
  said_taken s m (bodies.Prepare b) = refl
  said_taken s m (bodies.Commit b) = refl
  said_taken s m (bodies.Reply b) = refl
  said_taken s m (bodies.Checkpoint b) = refl
  said_taken s m (bodies.ViewChange b) = refl
  said_taken s m (bodies.NewView b) = left_taken c s b.view.0
  said_taken s m (bodies.Fetch (fetches.Request d)) = refl
  said_taken s m (bodies.Fetch (fetches.State n)) = refl
  said_taken s m (bodies.Snapshot b) = refl

  taken_after : (s : Core) (a : Act) (early : List Act) → IsEarlier (a ∷ early) all → TakenOnce s → TakenOnce (after c s a)
  taken_after s (Take m r) early at h p e = subst (λ (x : Signed Body). HasTaken x all) (same_Some _ _ e) (taken_at m r early all at)
  taken_after s Timeout early at h p e = no_some p e
  taken_after s (Send to m) early at h p e = h p (sym (said_taken s m m.body) ∙ e)
  taken_after s (Enter m) early at h p e = h p (sym (left_taken c s m.body.view.0) ∙ e)
  taken_after s _ early at h p e = h p e

  pub just_taken : (acts : List Act) → IsEarlier acts all → TakenOnce (core_after c signer acts)
  just_taken [] at m e = no_some m e
  just_taken (a ∷ acts) at m e = taken_after (core_after c signer acts) a acts at (just_taken acts (before a acts all at)) m e

  -- ---- held requests

  abbrev pub IsTakenRequest : Signed RequestBody → Type 0
  IsTakenRequest m = HasTaken (as_message bodies.Request m) all

  abbrev HeldTaken : List (Signed RequestBody) → Type 0
  HeldTaken held = (m : Signed RequestBody) → IsIn m held → IsTakenRequest m

  request_added : (m : Signed RequestBody) (held : List (Signed RequestBody)) → IsTakenRequest m → HeldTaken held → HeldTaken (add_request c m held)
  request_added m held taken h p within = cases (is_some (held_with c held (digest_of c m))) within where
    cases : (b : Bool) → IsIn p (cond b held (held ++ m ∷ [])) → IsTakenRequest p
    cases true within = h p within
    cases false within = elim (from_append p held (m ∷ []) within) [
      | inl old ↦ h p old
      | inr (inl same) ↦ subst IsTakenRequest (sym same) taken
      | inr (inr none) ↦ absurd none
    ]

  said_held : (s : Core) (m : Signed Body) (b : Body) → (said c s m b).held ≡ s.held
  said_held s m (bodies.Request b) = refl
  said_held s m (bodies.PrePrepare b) = refl
  said_held s m (bodies.Prepare b) = refl
  said_held s m (bodies.Commit b) = refl
  said_held s m (bodies.Reply b) = refl
  said_held s m (bodies.Checkpoint b) = refl
  said_held s m (bodies.ViewChange b) = refl
  said_held s m (bodies.NewView b) = left_held c s b.view.0
  said_held s m (bodies.Fetch (fetches.Request d)) = refl
  said_held s m (bodies.Fetch (fetches.State n)) = refl
  said_held s m (bodies.Snapshot b) = refl

  recorded_held : (s : Core) (m : Signed Body) (b : Body) → m.body ≡ b → HasTaken m all → HeldTaken s.held → HeldTaken (recorded c s m b).held
  recorded_held s m (bodies.Request b) e taken h =
      request_added (with_body m b) s.held (subst (λ (x : Body). HasTaken (record { role = m.role; id = m.id; body = x; sig = m.sig }) all) e taken) h
  recorded_held s m _ e taken h = h

  held_after : (s : Core) (a : Act) (early : List Act) → IsEarlier (a ∷ early) all → HeldTaken s.held → HeldTaken (after c s a).held
  held_after s (Take m r) early at h = recorded_held s m m.body refl (taken_at m r early all at) h
  held_after s (Send to m) early at h = subst HeldTaken (sym (said_held s m m.body)) h
  held_after s (Enter m) early at h = subst HeldTaken (sym (left_held c s m.body.view.0)) h
  held_after s (Rise n d) early at h = λ p within. h p (from_filter _ s.held p within)
  held_after s (Install n b t) early at h = λ p within. h p (from_filter _ s.held p within)
  held_after s _ early at h = h

  -- each request that is held was taken
  pub held_taken : (acts : List Act) → IsEarlier acts all → HeldTaken (core_after c signer acts).held
  held_taken [] at = λ m none. absurd none
  held_taken (a ∷ acts) at = held_after (core_after c signer acts) a acts at (held_taken acts (before a acts all at))

  -- ---- Commits

  -- own, or below the limit of numbers
  abbrev pub IsOwnOrInRange : Signed Commit → Type 0
  IsOwnOrInRange m = (m.id ≡ me) ⊎ (m.body.number.0 < number_limit)

  abbrev AreOwnOrInRange : Table (Signed Commit) → Type 0
  AreOwnOrInRange t = (q : Key) (m : Signed Commit) → at t q ≡ Some m → IsOwnOrInRange m

  kept_in_range : (test : Key → Bool) (t : Table (Signed Commit)) → AreOwnOrInRange t → AreOwnOrInRange (keep test t)
  kept_in_range test t h q m e = h q m ((found_keep test t q m e).1)

  added_in_range : (s : Core) (m : Signed Commit) (b : Bool) → IsOwnOrInRange m → AreOwnOrInRange s.commits → (q : Key) (p : Signed Commit)
      → at (add_if b (vote_key m.body.number.0 m.body.view.0 m.id) m s.commits) q ≡ Some p → IsOwnOrInRange p
  added_in_range s m b own h q p e = elim (found_add b s.commits (vote_key m.body.number.0 m.body.view.0 m.id) q m p e) [
    | inl w ↦ subst IsOwnOrInRange w.1 own
    | inr old ↦ h q p old
  ]

  said_in_range : (s : Core) (m : Signed Body) (b : Body) → m.id ≡ me → AreOwnOrInRange s.commits → AreOwnOrInRange (said c s m b).commits
  said_in_range s m (bodies.Request b) own h = h
  said_in_range s m (bodies.PrePrepare b) own h = h
  said_in_range s m (bodies.Prepare b) own h = h
  said_in_range s m (bodies.Commit b) own h = added_in_range s (with_body m b) _ (inl own) h
  said_in_range s m (bodies.Reply b) own h = h
  said_in_range s m (bodies.Checkpoint b) own h = h
  said_in_range s m (bodies.ViewChange b) own h = h
  said_in_range s m (bodies.NewView b) own h = kept_in_range _ (left_if_above c s b.view.0).commits (subst AreOwnOrInRange (sym (left_commits c s b.view.0)) h)
  said_in_range s m (bodies.Fetch (fetches.Request d)) own h = h
  said_in_range s m (bodies.Fetch (fetches.State n)) own h = h
  said_in_range s m (bodies.Snapshot b) own h = h

  recorded_in_range : (s : Core) (m : Signed Body) (b : Body) → BodyWellFormed b → AreOwnOrInRange s.commits → AreOwnOrInRange (recorded c s m b).commits
  recorded_in_range s m (bodies.Commit b) fits h = added_in_range s (with_body m b) _ (inr fits) h
  recorded_in_range s m _ fits h = h

  commits_after : (s : Core) (a : Act) → Allowed c me s a → AreOwnOrInRange s.commits → AreOwnOrInRange (after c s a).commits
  commits_after s (Take m r) ok h = recorded_in_range s m m.body ok.opened.encodes.well_formed.well_formed h
  commits_after s (Send to m) ok h = said_in_range s m m.body (ap (λ (x : Signed Body). x.id) ok.signed) h
  commits_after s (Enter m) ok h = kept_in_range _ (left_if_above c s m.body.view.0).commits (subst AreOwnOrInRange (sym (left_commits c s m.body.view.0)) h)
  commits_after s (Rise n d) ok h = kept_in_range (is_above n) s.commits h
  commits_after s (Install n b t) ok h = kept_in_range (is_above n) s.commits h
  commits_after s _ ok h = h

  -- a recorded Commit of another has a number below the limit
  pub commits_in_range : (acts : List Act) → IsEarlier acts all → AreOwnOrInRange (core_after c signer acts).commits
  commits_in_range [] at = λ q m e. no_some m e
  commits_in_range (a ∷ acts) at =
      commits_after (core_after c signer acts) a ((history_at c me signer (a ∷ acts) all at is).1) (commits_in_range acts (before a acts all at))
