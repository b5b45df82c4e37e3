-- The clients of a configuration by id, each once, and the last replies to them.
use Rattle.std.proofs.Common.{◌≡◌, ℕ, ◌<◌, Bool, true, false, ◌||◌, eqb, List, [], ◌∷◌, Option, Some, None, refl, sym, ap, subst, true≢false, arith, inl, inr}
use Rattle.std.specs.Prelude.{fold, find, cond, IsSome}
use Rattle.std.specs.Prelude.{IfSome}
use Rattle.std.specs.List.{list_any, filter_map, cons_option}
use Rattle.std.proofs.lemmas.Bool.{cases_order, eq-eqb, eqb-true}
use Rattle.host_types.specs.declared.ClientId.{ClientId}
use Rattle.host_types.specs.declared.config.ClientEntry.{ClientEntry}
use Rattle.host_types.specs.declared.request.Reply.{Reply}
use Rattle.host_types.specs.Configuration.{insert_sorted, client_ids_of, entry_of}
use Rattle.host_types.proofs.InsertSorted.{insert_sorted_before, insert_sorted_here, insert_sorted_after}

abbrev pub Each : {X : Type 0} → (X → Type 0) → List X → Type 0
Each P [] = Unit {0}
Each P (x ∷ xs) = P x × Each P xs

-- each number is below those after it
abbrev pub Ascends : {X : Type 0} → (X → ℕ) → List X → Type 0
Ascends number [] = Unit {0}
Ascends number (x ∷ xs) = Each (λ y. number x < number y) xs × Ascends number xs

module _ {X : Type 0} (number : X → ℕ) where
  each_with : (P : X → Type 0) (x : X) (xs : List X) → P x → Each P xs → Each P (insert_sorted number x xs)
  each_with P x [] p all = (p, tt)
  each_with P x (y ∷ ys) p all = elim (cases_order (number x) (number y)) [
    | inl e ↦ subst (Each P) (sym (insert_sorted_here number x y ys e)) all
    | inr other ↦ elim other [
      | inl lt ↦ subst (Each P) (sym (insert_sorted_before number x y ys lt)) (p, all)
      | inr gt ↦ subst (Each P) (sym (insert_sorted_after number x y ys gt)) (all.0, each_with P x ys p all.1)
    ]
  ]

  each_above : (n m : ℕ) (xs : List X) → n < m → Each (λ y. m < number y) xs → Each (λ y. n < number y) xs
  each_above n m [] lt all = tt
  each_above n m (x ∷ xs) lt all = (omega (arith, all.0), each_above n m xs lt all.1)

  pub ascends_with : (x : X) (xs : List X) → Ascends number xs → Ascends number (insert_sorted number x xs)
  ascends_with x [] up = (tt, tt)
  ascends_with x (y ∷ ys) up = elim (cases_order (number x) (number y)) [
    | inl e ↦ subst (Ascends number) (sym (insert_sorted_here number x y ys e)) up
    | inr other ↦ elim other [
      | inl lt ↦ subst (Ascends number) (sym (insert_sorted_before number x y ys lt)) ((lt, each_above (number x) (number y) ys lt up.0), up)
      | inr gt ↦ subst (Ascends number) (sym (insert_sorted_after number x y ys gt)) (each_with (λ z. number y < number z) x ys gt up.0, ascends_with x ys up.1)
    ]
  ]

  -- what is inserted is there, and what was there stays
  Has : ℕ → List X → Type 0
  Has q xs = list_any (λ x. eqb (number x) q) xs ≡ true

module _ where
  pub or_left : (a b : Bool) → a ≡ true → (a || b) ≡ true
  or_left true b e = refl
  or_left false b e = absurd (true≢false (sym e))

  pub or_right : (a b : Bool) → b ≡ true → (a || b) ≡ true
  or_right true b e = refl
  or_right false b e = e

  pub or_cases : (a b : Bool) (C : Type 0) → (a ≡ true → C) → (b ≡ true → C) → (a || b) ≡ true → C
  or_cases true b C one two e = one refl
  or_cases false b C one two e = two e

abbrev pub has : ℕ → List ClientId → Bool
has q ids = list_any (λ id. eqb id.0 q) ids

has_inserted : (x : ClientId) (ids : List ClientId) → has x.0 (insert_sorted (λ id. id.0) x ids) ≡ true
has_inserted x [] = or_left (eqb x.0 x.0) false (eq-eqb x.0 x.0 refl)
has_inserted x (y ∷ ys) = elim (cases_order x.0 y.0) [
  | inl e ↦ subst (λ (ids : List ClientId). has x.0 ids ≡ true) (sym (insert_sorted_here (λ id. id.0) x y ys e)) (or_left (eqb y.0 x.0) (has x.0 ys) (eq-eqb y.0 x.0 (sym e)))
  | inr other ↦ elim other [
    | inl lt ↦ subst (λ (ids : List ClientId). has x.0 ids ≡ true) (sym (insert_sorted_before (λ id. id.0) x y ys lt)) (or_left (eqb x.0 x.0) (has x.0 (y ∷ ys)) (eq-eqb x.0 x.0 refl))
    | inr gt ↦ subst (λ (ids : List ClientId). has x.0 ids ≡ true) (sym (insert_sorted_after (λ id. id.0) x y ys gt)) (or_right (eqb y.0 x.0) (has x.0 (insert_sorted (λ id. id.0) x ys)) (has_inserted x ys))
  ]
]

has_still : (q : ℕ) (x : ClientId) (ids : List ClientId) → has q ids ≡ true → has q (insert_sorted (λ id. id.0) x ids) ≡ true
has_still q x [] h = absurd (true≢false (sym h))
has_still q x (y ∷ ys) h = elim (cases_order x.0 y.0) [
  | inl e ↦ subst (λ (ids : List ClientId). has q ids ≡ true) (sym (insert_sorted_here (λ id. id.0) x y ys e)) h
  | inr other ↦ elim other [
    | inl lt ↦ subst (λ (ids : List ClientId). has q ids ≡ true) (sym (insert_sorted_before (λ id. id.0) x y ys lt)) (or_right (eqb x.0 q) (has q (y ∷ ys)) h)
    | inr gt ↦ subst (λ (ids : List ClientId). has q ids ≡ true) (sym (insert_sorted_after (λ id. id.0) x y ys gt))
        (or_cases (eqb y.0 q) (has q ys) _ (λ here. or_left (eqb y.0 q) _ here) (λ there. or_right (eqb y.0 q) _ (has_still q x ys there)) h)
  ]
]

still_fold : (q : ℕ) (clients : List ClientEntry) (ids : List ClientId) → has q ids ≡ true → has q (fold (λ ids client. insert_sorted (λ id. id.0) client.id ids) ids clients) ≡ true
still_fold q [] ids h = h
still_fold q (client ∷ clients) ids h = still_fold q clients (insert_sorted (λ id. id.0) client.id ids) (has_still q client.id ids h)

listed_fold : (q : ℕ) (clients : List ClientEntry) (ids : List ClientId) → IsSome (find (λ client. eqb client.id.0 q) clients) → has q (fold (λ ids client. insert_sorted (λ id. id.0) client.id ids) ids clients) ≡ true
listed_fold q [] ids h = absurd (cc)
listed_fold q (client ∷ clients) ids h = cases (eqb client.id.0 q) refl (listed_fold q clients (insert_sorted (λ id. id.0) client.id ids)) h where
  cases : (b : Bool) → eqb client.id.0 q ≡ b → (IsSome (find (λ c. eqb c.id.0 q) clients) → has q (fold (λ is c. insert_sorted (λ id. id.0) c.id is) (insert_sorted (λ id. id.0) client.id ids) clients) ≡ true)
      → IsSome (cond b (Some client) (find (λ c. eqb c.id.0 q) clients)) → has q (fold (λ is c. insert_sorted (λ id. id.0) c.id is) (insert_sorted (λ id. id.0) client.id ids) clients) ≡ true
  cases true same rest some =
      still_fold q clients (insert_sorted (λ id. id.0) client.id ids) (subst (λ (k : ℕ). has k (insert_sorted (λ id. id.0) client.id ids) ≡ true) (eqb-true client.id.0 q same) (has_inserted client.id ids))
  cases false same rest some = rest some

-- each listed client is one of them
pub listed : (clients : List ClientEntry) (q : ℕ) → IsSome (entry_of clients q) → has q (client_ids_of clients) ≡ true
listed clients q some = listed_fold q clients [] some

ascends_fold : (clients : List ClientEntry) (ids : List ClientId) → Ascends (λ (id : ClientId). id.0) ids → Ascends (λ (id : ClientId). id.0) (fold (λ is client. insert_sorted (λ id. id.0) client.id is) ids clients)
ascends_fold [] ids up = up
ascends_fold (client ∷ clients) ids up = ascends_fold clients (insert_sorted (λ id. id.0) client.id ids) (ascends_with (λ (id : ClientId). id.0) client.id ids up)

-- and each is there once
pub client_ids_ascend : (clients : List ClientEntry) → Ascends (λ (id : ClientId). id.0) (client_ids_of clients)
client_ids_ascend clients = ascends_fold clients [] tt

-- ---- replies that are found for the ids of a list say for which they were found

abbrev pub OwnReplies : (ℕ → Option Reply) → Type 0
OwnReplies f = (q : ℕ) → IfSome (f q) (λ reply. reply.client.0 ≡ q)

-- the first reply that is found is one to a client whose id is above
pub above_first : (f : ℕ → Option Reply) → OwnReplies f → (n : ℕ) (ids : List ClientId) (reply : Reply) (replies : List Reply) → Each (λ id. n < id.0) ids
    → filter_map (λ id. f id.0) ids ≡ reply ∷ replies → n < reply.client.0
above_first f own n [] reply replies up e = absurd (cc)
above_first f own n (id ∷ ids) reply replies up e = cases (f id.0) (own id.0) (above_first f own n ids reply replies up.1) e where
  cases : (o : Option Reply) → IfSome o (λ r. r.client.0 ≡ id.0) → (filter_map (λ i. f i.0) ids ≡ reply ∷ replies → n < reply.client.0) → cons_option o (filter_map (λ i. f i.0) ids) ≡ reply ∷ replies → n < reply.client.0
  cases None is rest h = rest h
  cases (Some r) is rest h =
      let same : r ≡ reply = cc in
      let client : r.client.0 ≡ id.0 = is in
      omega (arith, up.0, client, ap (λ (x : Reply). x.client.0) same)

pub same_found : (f g : ℕ → Option Reply) → OwnReplies f → OwnReplies g → (ids : List ClientId) → Ascends (λ (id : ClientId). id.0) ids
    → filter_map (λ id. f id.0) ids ≡ filter_map (λ id. g id.0) ids → (q : ℕ) → has q ids ≡ true → f q ≡ g q
same_found f g own own' [] up e q h = absurd (true≢false (sym h))
same_found f g own own' (id ∷ ids) up e q h = or_cases (eqb id.0 q) (has q ids) (f q ≡ g q) (λ same. subst (λ (k : ℕ). f k ≡ g k) (eqb-true id.0 q same) both.0) (λ later. same_found f g own own' ids up.1 both.1 q later) h where
  cases : (o o' : Option Reply) (rs rs' : List Reply) → IfSome o (λ r. r.client.0 ≡ id.0) → IfSome o' (λ r. r.client.0 ≡ id.0)
      → ((r : Reply) (more : List Reply) → rs ≡ r ∷ more → id.0 < r.client.0) → ((r : Reply) (more : List Reply) → rs' ≡ r ∷ more → id.0 < r.client.0)
      → cons_option o rs ≡ cons_option o' rs' → (o ≡ o') × (rs ≡ rs')
  cases None None rs rs' is is' above above' e = (refl, e)
  cases (Some r) (Some r') rs rs' is is' above above' e = let one : r ≡ r' = cc in let rest : rs ≡ rs' = cc in (ap Some one, rest)
  cases (Some r) None rs rs' is is' above above' e = let client : r.client.0 ≡ id.0 = is in absurd (omega (arith, above' r rs (sym e), client))
  cases None (Some r') rs rs' is is' above above' e = let client : r'.client.0 ≡ id.0 = is' in absurd (omega (arith, above r' rs' e, client))

  both : (f id.0 ≡ g id.0) × (filter_map (λ i. f i.0) ids ≡ filter_map (λ i. g i.0) ids)
  both = cases (f id.0) (g id.0) (filter_map (λ i. f i.0) ids) (filter_map (λ i. g i.0) ids) (own id.0) (own' id.0)
      (λ r more h. above_first f own id.0 ids r more up.0 h) (λ r more h. above_first g own' id.0 ids r more up.0 h) e
