-- What is recorded of votes, after one more.
use Rattle.std.proofs.Common.{◌≡◌, ◌≢◌, ℕ, zero, suc, ◌+◌, ◌^◌, ◌<◌, ◌≤◌, Bool, true, false, cond, List, length, get_or, Option, Some, None, refl, sym, ap, subst, ◌∙◌, arith, ◌⊎◌, inl, inr}
use Rattle.std.specs.Prelude.{is_some, bytes_eq, replicate, slice_set}
use Rattle.std.specs.Int.{bit_at}
use Rattle.std.specs.Ordering.{nat_cmp}
use Rattle.std.specs.Cmp.Lexicographic.{slice_cmp}
use Rattle.std.specs.BTreeMap as tree
use Rattle.std.proofs.lemmas.Bool.{cases_Bool, cases_eq, cases_lt}
use Rattle.std.proofs.lemmas.List.{get_or-set_same, get_or-set_other, get_or_default, length-set}
use Rattle.std.proofs.Math.ListN.{get_or-eq_default}
use Rattle.host_types.specs.Configuration.{Configuration, replicas_for}
use Rattle.std.proofs.lemmas.Slice.Eq.{bytes_eq-Decides}
use Rattle.host_types.specs.declared.Digest.{Digest}
use Rattle.pbft_model.specs.Opening.{CheckedMessage}
use Rattle.ballots.specs.Ballots.{Ballot, IsTallied, AreUnder, AreListed, recorded, digest_in, vote_at, voted_for, is_for, is_digest, mask_at, mask_of}
use Rattle.ballots.proofs.Masks.{mask_more, same_mask, bit_unset}

none_from : (o : Option CheckedMessage) → is_some o ≡ false → o ≡ None
none_from None e = refl
none_from (Some m) e = absurd cc

-- who has no vote
pub unvoted : (votes : Ballot) (s : ℕ) (r : Option CheckedMessage) → s < length votes → is_some (get_or votes s r) ≡ false → vote_at votes s ≡ None
unvoted votes s r lt e = get_or_default votes s None r lt ∙ none_from (get_or votes s r) e

pub unset : (votes : Ballot) (kept : tree.BTreeMap (List ℕ) ℕ) (digest : List ℕ) (s : ℕ) → IsTallied votes kept → vote_at votes s ≡ None → bit_at (mask_at kept digest) s ≡ 0
unset votes kept digest s h free =
    ap (λ m. bit_at m s) (h.masks digest) ∙ bit_unset (voted_for digest votes) 10 s (ap (is_for digest) free)

equal : (xs ys : List ℕ) → bytes_eq xs ys ≡ true → xs ≡ ys
equal xs ys e = (bytes_eq-Decides xs ys).0 e

for_new : (votes : Ballot) (s : ℕ) (m : CheckedMessage) (digest : Digest) (q : List ℕ) → s < length votes → digest_in m.message.body ≡ Some digest → voted_for q (slice_set votes s (Some m)) s ≡ bytes_eq digest.0 q
for_new votes s m digest q lt e = ap (is_for q) (get_or-set_same votes s (Some m) None lt) ∙ ap (is_digest q) e

for_other : (votes : Ballot) (s : ℕ) (m : CheckedMessage) (q : List ℕ) (i : ℕ) → i ≢ s → voted_for q (slice_set votes s (Some m)) i ≡ voted_for q votes i
for_other votes s m q i ne = ap (is_for q) (get_or-set_other votes s i (Some m) None ne)

mask_after : (votes : Ballot) (kept : tree.BTreeMap (List ℕ) ℕ) (s : ℕ) (m : CheckedMessage) (digest : Digest) (q : List ℕ) → IsTallied votes kept → s < 10 → vote_at votes s ≡ None → digest_in m.message.body ≡ Some digest
    → (bytes_eq digest.0 q ≡ true) ⊎ (bytes_eq digest.0 q ≡ false)
    → cond (bytes_eq digest.0 q) (mask_at kept digest.0 + 2 ^ s) (mask_at kept q) ≡ mask_of (voted_for q (slice_set votes s (Some m))) 10
mask_after votes kept s m digest q h lt free e (inl is) =
    let within : s < length votes = omega (arith, h.ten) in
    ap (λ b. cond b (mask_at kept digest.0 + 2 ^ s) (mask_at kept q)) is
    ∙ ap (λ d. mask_at kept d + 2 ^ s) (equal digest.0 q is) ∙ ap (λ n. n + 2 ^ s) (h.masks q)
    ∙ sym (mask_more (voted_for q votes) (voted_for q (slice_set votes s (Some m))) 10 s lt (ap (is_for q) free) (for_new votes s m digest q within e ∙ is) (for_other votes s m q))
mask_after votes kept s m digest q h lt free e (inr not) =
    let within : s < length votes = omega (arith, h.ten) in
    let here : voted_for q (slice_set votes s (Some m)) s ≡ voted_for q votes s = for_new votes s m digest q within e ∙ not ∙ sym (ap (is_for q) free) in
    ap (λ b. cond b (mask_at kept digest.0 + 2 ^ s) (mask_at kept q)) not ∙ h.masks q
    ∙ sym (same_mask (voted_for q votes) (voted_for q (slice_set votes s (Some m))) 10 (λ i. everywhere i here (cases_eq i s))) where
      everywhere : (i : ℕ) → voted_for q (slice_set votes s (Some m)) s ≡ voted_for q votes s → (i ≡ s) ⊎ (i ≢ s) → voted_for q (slice_set votes s (Some m)) i ≡ voted_for q votes i
      everywhere i here (inl at) = subst (λ j. voted_for q (slice_set votes s (Some m)) j ≡ voted_for q votes j) (sym at) here
      everywhere i here (inr ne) = for_other votes s m q i ne

pub tallied_after : (votes : Ballot) (old new : tree.BTreeMap (List ℕ) ℕ) (s : ℕ) (m : CheckedMessage) (digest : Digest) → IsTallied votes old → s < 10 → vote_at votes s ≡ None → digest_in m.message.body ≡ Some digest
    → ((q : List ℕ) → mask_at new q ≡ cond (bytes_eq digest.0 q) (mask_at old digest.0 + 2 ^ s) (mask_at old q)) → tree.IsOrdered (slice_cmp nat_cmp) new
    → IsTallied (slice_set votes s (Some m)) new
tallied_after votes old new s m digest h lt free e masks ordered = record {
  ten = length-set votes s (Some m) ∙ h.ten;
  ordered = ordered;
  masks = λ q. masks q ∙ mask_after votes old s m digest q h lt free e (cases_Bool (bytes_eq digest.0 q));
}

-- ---- the configuration of those that voted

pub nobody : (n i : ℕ) → vote_at (replicate n None) i ≡ None
nobody zero i = refl
nobody (suc n) zero = refl
nobody (suc n) (suc i) = nobody n i

pub under_none : (c : Configuration) → AreUnder c (replicate 10 None)
under_none c signer m e = none_is (nobody 10 signer) e where
  none_is : {o : Option CheckedMessage} → o ≡ None → o ≡ Some m → m.config ≡ c
  none_is f e = absurd cc

pub own_vote : (votes : Ballot) (m other : CheckedMessage) → vote_at (recorded votes m) m.message.id ≡ Some other → (m.message.id < length votes) ⊎ (length votes ≤ m.message.id) → m ≡ other
own_vote votes m other e (inl lt) = the_same (sym (get_or-set_same votes m.message.id (Some m) None lt) ∙ e) where
  the_same : Some m ≡ Some other → m ≡ other
  the_same e = cc
own_vote votes m other e (inr le) = nothing (get_or-eq_default (slice_set votes m.message.id (Some m)) None (omega (arith, length-set votes m.message.id (Some m)))) e where
  nothing : {o : Option CheckedMessage} → o ≡ None → o ≡ Some other → m ≡ other
  nothing f e = absurd cc

pub under_recorded : (c : Configuration) (votes : Ballot) (m : CheckedMessage) → AreUnder c votes → m.config ≡ c → AreUnder c (recorded votes m)
under_recorded c votes m h is signer other e = step (cases_eq signer m.message.id) where
  step : (signer ≡ m.message.id) ⊎ (signer ≢ m.message.id) → other.config ≡ c
  step (inl at) = ap (λ k. k.config) (sym (own_vote votes m other (ap (vote_at (recorded votes m)) (sym at) ∙ e) (cases_lt m.message.id (length votes)))) ∙ is
  step (inr ne) = h signer other (sym (get_or-set_other votes m.message.id signer (Some m) None ne) ∙ e)

-- the first counts, whichever it is
pub under_first : (c : Configuration) (votes after : Ballot) (m : CheckedMessage) (first : Bool) → AreUnder c votes → m.config ≡ c → after ≡ cond first (recorded votes m) votes → AreUnder c after
under_first c votes after m true h is e = subst (AreUnder c) (sym e) (under_recorded c votes m h is)
under_first c votes after m false h is e = subst (AreUnder c) (sym e) h

-- ---- who is listed

pub listed_none : (c : Configuration) → AreListed c (replicate 10 None)
listed_none c signer le = nobody 10 signer

listed_recorded : (c : Configuration) (votes : Ballot) (m : CheckedMessage) → AreListed c votes → m.message.id < replicas_for c.f → AreListed c (recorded votes m)
listed_recorded c votes m h lt signer le = get_or-set_other votes m.message.id signer (Some m) None (λ e. absurd (omega arith)) ∙ h signer le

pub listed_first : (c : Configuration) (votes after : Ballot) (m : CheckedMessage) (first : Bool) → AreListed c votes → m.message.id < replicas_for c.f → after ≡ cond first (recorded votes m) votes → AreListed c after
listed_first c votes after m true h lt e = subst (AreListed c) (sym e) (listed_recorded c votes m h lt)
listed_first c votes after m false h lt e = subst (AreListed c) (sym e) h
