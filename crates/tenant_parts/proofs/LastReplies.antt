-- The last replies, kept in a list and seen as a finite map.
use Rattle.std.proofs.Common.{◌≡◌, ◌⊎◌, ℕ, zero, suc, ◌<◌, Bool, true, false, cond, eqb, List, [], ◌∷◌, ◌++◌, length, get_or, set, find, Option, Some, None, refl, sym, ap, ◌∙◌, arith, inl, inr}
use Rattle.std.specs.Prelude.{position, All, IfSome, slice_get, option_and_then}
use Rattle.std.specs.Option.{option_or}
use Rattle.std.specs.Ordering.{nat_cmp, eq_by_cmp}
use Rattle.std.specs.Cmp.{nat_cmp_total, unsigned_tied, nat_eq_equiv}
use Rattle.std.specs.FinMap as finite
use Rattle.std.proofs.lemmas.Bool.{eqb-true, eq-eqb, ne_eqb, cases_eq}
use Rattle.std.proofs.lemmas.List.Folds.{find-append}
use Rattle.std.proofs.lemmas.List.Elements.{All-head, All-tail}
use Rattle.std.proofs.lemmas.List.Quantifiers.{position-Some}
use Rattle.host_types.specs.declared.request.Reply.{Reply}
use Rattle.service_model.specs.TenantStates.{Replies, replies_of}
use Rattle.service_model.proofs.Found.{find_by_position}

-- whether the reply is this client's
abbrev pub to : ℕ → Reply → Bool
to client reply = eqb reply.client.0 client

turned : (q k : ℕ) → eq_by_cmp nat_cmp q k ≡ eqb k q
turned q k = unsigned_tied q k ∙ nat_eq_equiv.symm q k

pub get-replies_of : (replies : List Reply) (q : ℕ) → finite.get (replies_of replies) q ≡ find (to q) replies
get-replies_of [] q = finite.get-empty nat_cmp q
get-replies_of (reply ∷ replies) q =
    finite.get-insert nat_cmp_total (replies_of replies) reply.client.0 reply q
    ∙ ap (λ (b : Bool). cond b (Some reply) (finite.get (replies_of replies) q)) (turned q reply.client.0)
    ∙ ap (cond (to q reply) (Some reply)) (get-replies_of replies q)

find_set_same : (replies : List Reply) (i : ℕ) (new d : Reply) (q : ℕ) → i < length replies → new.client.0 ≡ q
    → ((k : ℕ) → k < i → to q (get_or replies k d) ≡ false) → find (to q) (set replies i new) ≡ Some new
find_set_same [] i new d q h is first = absurd (omega arith)
find_set_same (reply ∷ replies) zero new d q h is first = ap (λ (b : Bool). cond b (Some new) (find (to q) replies)) (eq-eqb new.client.0 q is)
find_set_same (reply ∷ replies) (suc i) new d q h is first =
    ap (λ (b : Bool). cond b (Some reply) (find (to q) (set replies i new))) (first 0 (omega arith))
    ∙ find_set_same replies i new d q (omega arith) is (λ k lt. first (suc k) (omega arith))

find_set_other : (replies : List Reply) (i : ℕ) (new d : Reply) (q : ℕ) → i < length replies → to q new ≡ false → to q (get_or replies i d) ≡ false
    → find (to q) (set replies i new) ≡ find (to q) replies
find_set_other [] i new d q h differs was = absurd (omega arith)
find_set_other (reply ∷ replies) zero new d q h differs was =
    ap (λ (b : Bool). cond b (Some new) (find (to q) replies)) differs ∙ sym (ap (λ (b : Bool). cond b (Some reply) (find (to q) replies)) was)
find_set_other (reply ∷ replies) (suc i) new d q h differs was = ap (cond (to q reply) (Some reply)) (find_set_other replies i new d q (omega arith) differs was)

-- both answer alike where they do at each key
same_replies : (xs : List Reply) (ys : Replies) → ((q : ℕ) → find (to q) xs ≡ finite.get ys q) → replies_of xs ≡ ys
same_replies xs ys each = finite.same_map nat_cmp_total finite.nat_cmp-IsAntisymmetric _ _ (λ q. get-replies_of xs q ∙ each q)

get_inserted : (replies : List Reply) (new : Reply) (q : ℕ) → finite.get (finite.insert (replies_of replies) new.client.0 new) q ≡ cond (to q new) (Some new) (find (to q) replies)
get_inserted replies new q =
    finite.get-insert nat_cmp_total (replies_of replies) new.client.0 new q
    ∙ ap (λ (b : Bool). cond b (Some new) (finite.get (replies_of replies) q)) (turned q new.client.0)
    ∙ ap (cond (to q new) (Some new)) (get-replies_of replies q)

-- to put a reply in index of the client's first one is to insert it
pub replies_of-set : (replies : List Reply) (i : ℕ) (new : Reply) → position (to new.client.0) replies ≡ Some i
    → replies_of (set replies i new) ≡ finite.insert (replies_of replies) new.client.0 new
replies_of-set replies i new e = same_replies _ _ (λ (q : ℕ). each q (cases_eq new.client.0 q)) where
  found : (i < length replies) × (to new.client.0 (get_or replies i new) ≡ true) × ((k : ℕ) → k < i → to new.client.0 (get_or replies k new) ≡ false)
  found = position-Some (to new.client.0) replies i new e

  each : (q : ℕ) → (new.client.0 ≡ q) ⊎ (new.client.0 ≡ q → ⊥) → find (to q) (set replies i new) ≡ finite.get (finite.insert (replies_of replies) new.client.0 new) q
  each q (inl is) =
      find_set_same replies i new new q found.0 is (λ k lt. ap (eqb (get_or replies k new).client.0) (sym is) ∙ found.2 k lt)
      ∙ sym (get_inserted replies new q ∙ ap (λ (b : Bool). cond b (Some new) (find (to q) replies)) (eq-eqb new.client.0 q is))
  each q (inr differs) =
      let old : (get_or replies i new).client.0 ≡ new.client.0 = eqb-true _ _ found.1 in
      let apart : to q new ≡ false = ne_eqb new.client.0 q differs in
      find_set_other replies i new new q found.0 apart (ap (λ (k : ℕ). eqb k q) old ∙ apart)
      ∙ sym (get_inserted replies new q ∙ ap (λ (b : Bool). cond b (Some new) (find (to q) replies)) apart)

find_push : (replies : List Reply) (new : Reply) (q : ℕ) → (new.client.0 ≡ q → find (to q) replies ≡ None)
    → find (to q) (replies ++ new ∷ []) ≡ cond (to q new) (Some new) (find (to q) replies)
find_push replies new q none = find-append (to q) replies (new ∷ []) ∙ cases (cases_eq new.client.0 q) where
  left : (o : Option Reply) → option_or o None ≡ o
  left None = refl
  left (Some x) = refl

  cases : (new.client.0 ≡ q) ⊎ (new.client.0 ≡ q → ⊥) → option_or (find (to q) replies) (cond (to q new) (Some new) None) ≡ cond (to q new) (Some new) (find (to q) replies)
  cases (inl is) =
      ap (λ (o : Option Reply). option_or o (cond (to q new) (Some new) None)) (none is)
      ∙ ap (λ (b : Bool). cond b (Some new) None) (eq-eqb new.client.0 q is)
      ∙ sym (ap (λ (b : Bool). cond b (Some new) (find (to q) replies)) (eq-eqb new.client.0 q is))
  cases (inr differs) =
      ap (λ (b : Bool). option_or (find (to q) replies) (cond b (Some new) None)) (ne_eqb new.client.0 q differs)
      ∙ left (find (to q) replies)
      ∙ sym (ap (λ (b : Bool). cond b (Some new) (find (to q) replies)) (ne_eqb new.client.0 q differs))

-- to push the first reply to a client is to insert it
pub replies_of-push : (replies : List Reply) (new : Reply) → position (to new.client.0) replies ≡ None
    → replies_of (replies ++ new ∷ []) ≡ finite.insert (replies_of replies) new.client.0 new
replies_of-push replies new e = same_replies _ _ (λ (q : ℕ).
    find_push replies new q (λ is. ap (λ (k : ℕ). find (to k) replies) (sym is) ∙ find_by_position (to new.client.0) replies ∙ ap (option_and_then (slice_get replies)) e)
    ∙ sym (get_inserted replies new q))

-- what holds of each reply holds of the one that is found
pub found_short : (P : Reply → Type 0) (p : Reply → Bool) (replies : List Reply) → All P replies → IfSome (find p replies) P
found_short P p [] all = tt
found_short P p (reply ∷ replies) all = cases (p reply) (found_short P p replies (All-tail P reply replies all)) where
  cases : (b : Bool) → IfSome (find p replies) P → IfSome (cond b (Some reply) (find p replies)) P
  cases true rest = All-head P reply replies all
  cases false rest = rest
