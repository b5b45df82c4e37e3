-- Lists in ascending order by number, and where the next value is inserted.
use Rattle.std.proofs.Common.{◌≡◌, ◌≢◌, ℕ, suc, ◌+◌, ◌<◌, ◌≤◌, Bool, true, false, cond, eqb, ltb, List, [], ◌∷◌, length, get_or, take, drop, refl, sym, ap, subst, ◌∙◌, arith, inl, inr}
use Rattle.std.specs.Prelude.{fold, insert, take_while}
use Rattle.std.proofs.lemmas.Bool.{lt-ltb, le-ltb, eq-eqb, ne_eqb, cases_lt, cases_order}
use Rattle.std.proofs.lemmas.List.{take-append-drop}
use Rattle.std.proofs.lemmas.List.Edits.{length-insert}
use Rattle.std.proofs.lemmas.List.Sums.{take_while-cons, fold-append, fold_more}
use Rattle.host_types.specs.declared.config.ClientEntry.{ClientEntry}
use Rattle.host_types.specs.Configuration.{insert_sorted}

module _ {X : Type 0} (number : X → ℕ) where
  -- how many are before the index of t
  abbrev pub index_of : X → List X → ℕ
  index_of t us = length (take_while (λ u. ltb (number u) (number t)) us)

  index-cons : (t u : X) (us : List X) → index_of t (u ∷ us) ≡ cond (ltb (number u) (number t)) (suc (index_of t us)) 0
  index-cons t u us = ap length (take_while-cons (λ (v : X). ltb (number v) (number t)) u us) ∙ cases (ltb (number u) (number t)) where
    cases : (b : Bool) → length (cond b (u ∷ take_while (λ v. ltb (number v) (number t)) us) []) ≡ cond b (suc (index_of t us)) 0
    cases true = refl
    cases false = refl

  index_after : (t u : X) (us : List X) → (number u) < (number t) → index_of t (u ∷ us) ≡ suc (index_of t us)
  index_after t u us h = index-cons t u us ∙ ap (λ (b : Bool). cond b (suc (index_of t us)) 0) (lt-ltb (number u) (number t) h)

  index_first : (t u : X) (us : List X) → (number t) ≤ (number u) → let none : ℕ = 0 in index_of t (u ∷ us) ≡ none
  index_first t u us h = index-cons t u us ∙ ap (λ (b : Bool). cond b (suc (index_of t us)) 0) (le-ltb (number u) (number t) h)

  pub insert_sorted_after : (t u : X) (us : List X) → (number u) < (number t) → insert_sorted number t (u ∷ us) ≡ u ∷ insert_sorted number t us
  insert_sorted_after t u us h =
      ap (λ (b : Bool). cond b (t ∷ u ∷ us) (cond (eqb (number t) (number u)) (u ∷ us) (u ∷ insert_sorted number t us))) (le-ltb (number t) (number u) (omega arith))
      ∙ ap (λ (b : Bool). cond b (u ∷ us) (u ∷ insert_sorted number t us)) (ne_eqb (number t) (number u) (λ e. omega arith))

  pub insert_sorted_here : (t u : X) (us : List X) → (number t) ≡ (number u) → insert_sorted number t (u ∷ us) ≡ u ∷ us
  insert_sorted_here t u us e =
      ap (λ (b : Bool). cond b (t ∷ u ∷ us) (cond (eqb (number t) (number u)) (u ∷ us) (u ∷ insert_sorted number t us))) (le-ltb (number t) (number u) (omega arith))
      ∙ ap (λ (b : Bool). cond b (u ∷ us) (u ∷ insert_sorted number t us)) (eq-eqb (number t) (number u) e)

  pub insert_sorted_before : (t u : X) (us : List X) → (number t) < (number u) → insert_sorted number t (u ∷ us) ≡ t ∷ u ∷ us
  insert_sorted_before t u us h = ap (λ (b : Bool). cond b (t ∷ u ∷ us) (cond (eqb (number t) (number u)) (u ∷ us) (u ∷ insert_sorted number t us))) (lt-ltb (number t) (number u) h)

  -- what is at its index is there once
  pub insert_sorted_there : (t : X) (us : List X) (d : X) → index_of t us < length us → number (get_or us (index_of t us) d) ≡ (number t) → insert_sorted number t us ≡ us
  insert_sorted_there t [] d h e = absurd (omega arith)
  insert_sorted_there t (u ∷ us) d h e = elim (cases_lt (number u) (number t)) [
    | inl lt ↦
        let at = index_after t u us lt in
        insert_sorted_after t u us lt ∙ ap (λ (vs : List X). u ∷ vs) (insert_sorted_there t us d (omega (arith, at, h)) (ap (λ (k : ℕ). number (get_or (u ∷ us) k d)) (sym at) ∙ e))
    | inr le ↦
        let at = index_first t u us le in
        insert_sorted_here t u us (sym (ap (λ (k : ℕ). number (get_or (u ∷ us) k d)) (sym at) ∙ e))
  ]

  -- another goes in between
  pub insert_sorted_new : (t : X) (us : List X) → (index_of t us < length us → number (get_or us (index_of t us) t) ≢ (number t)) → insert_sorted number t us ≡ insert us (index_of t us) t
  insert_sorted_new t [] h = refl
  insert_sorted_new t (u ∷ us) h = elim (cases_lt (number u) (number t)) [
    | inl lt ↦
        let at = index_after t u us lt in
        insert_sorted_after t u us lt
        ∙ ap (λ (vs : List X). u ∷ vs) (insert_sorted_new t us (λ (less : index_of t us < length us) (e : number (get_or us (index_of t us) t) ≡ (number t)). h (omega (arith, at, less)) (ap (λ (k : ℕ). number (get_or (u ∷ us) k t)) at ∙ e)))
        ∙ ap (λ (k : ℕ). insert (u ∷ us) k t) (sym at)
    | inr le ↦
        let at = index_first t u us le in
        let apart : (number u) ≢ (number t) = λ (e : (number u) ≡ (number t)). h (omega (arith, at)) (ap (λ (k : ℕ). number (get_or (u ∷ us) k t)) at ∙ e) in
        insert_sorted_before t u us (above le apart) ∙ ap (λ (k : ℕ). insert (u ∷ us) k t) (sym at)
  ] where
    above : (number t) ≤ (number u) → (number u) ≢ (number t) → (number t) < (number u)
    above le ne = omega arith

  pub length-insert_sorted : (t : X) (us : List X) → length us ≤ length (insert_sorted number t us)
  length-insert_sorted t [] = omega arith
  length-insert_sorted t (u ∷ us) = elim (cases_order (number t) (number u)) [
    | inl e ↦ omega (arith, ap length (insert_sorted_here t u us e))
    | inr other ↦ elim other [
      | inl lt ↦ omega (arith, ap length (insert_sorted_before t u us lt))
      | inr gt ↦ omega (arith, ap length (insert_sorted_after t u us gt), length-insert_sorted t us)
    ]
  ]

  pub index_within : (t : X) (us : List X) → index_of t us ≤ length us
  index_within t [] = omega arith
  index_within t (u ∷ us) = elim (cases_lt (number u) (number t)) [
    | inl lt ↦ omega (arith, index_after t u us lt, index_within t us)
    | inr le ↦ omega (arith, index_first t u us le)
  ]

  -- the same of an index that was looked for in one reading of the list and tested in another
  pub there : (t : X) (us xs ys : List X) (at : ℕ) → xs ≡ us → ys ≡ us → at ≡ index_of t xs → (at < length ys) × (number (get_or ys at t) ≡ (number t)) → us ≡ insert_sorted number t us
  there t us xs ys at ex ey e h =
      let is : at ≡ index_of t us = e ∙ ap (index_of t) ex in
      sym (insert_sorted_there t us t (omega (arith, is, ap length ey, h.0)) (ap (λ (k : ℕ). number (get_or us k t)) (sym is) ∙ ap (λ (zs : List X). number (get_or zs at t)) (sym ey) ∙ h.1))

  pub new : (t : X) (us xs ys : List X) (at : ℕ) → xs ≡ us → ys ≡ us → at ≡ index_of t xs → (at < length ys → number (get_or ys at t) ≢ (number t)) → insert_sorted number t us ≡ insert us at t
  new t us xs ys at ex ey e h =
      let is : at ≡ index_of t us = e ∙ ap (index_of t) ex in
      insert_sorted_new t us (λ (less : index_of t us < length us) (same : number (get_or us (index_of t us) t) ≡ (number t)). h (omega (arith, is, ap length ey)) (ap (λ (zs : List X). number (get_or zs at t)) ey ∙ ap (λ (k : ℕ). number (get_or us k t)) is ∙ same))
      ∙ ap (λ (k : ℕ). insert us k t) (sym is)

  pub one_more : (t : X) (us xs ys : List X) (at : ℕ) {max : ℕ} → xs ≡ us → ys ≡ us → at ≡ index_of t xs → (at < length ys → number (get_or ys at t) ≢ (number t)) → length us ≡ max → max < length (insert_sorted number t us)
  one_more t us xs ys at ex ey e h full =
      let is : at ≡ index_of t us = e ∙ ap (index_of t) ex in
      let inside : at ≤ length us = omega (arith, is, index_within t us) in
      omega (arith, ap length (new t us xs ys at ex ey e h), length-insert us at t inside, full)

-- what is read of each client, in order, after some that are there
abbrev pub collected : {X : Type 0} → (X → ℕ) → (ClientEntry → X) → List X → List ClientEntry → List X
collected number read = fold (λ xs client. insert_sorted number (read client) xs)

module _ {X : Type 0} (number : X → ℕ) (read : ClientEntry → X) where
  length-collected : (xs : List X) (clients : List ClientEntry) → length xs ≤ length (collected number read xs clients)
  length-collected xs [] = omega arith
  length-collected xs (client ∷ clients) = omega (arith, length-insert_sorted number (read client) xs, length-collected (insert_sorted number (read client) xs) clients)

  -- no prefix has more than the whole
  pub length-collected-take : (i : ℕ) (clients : List ClientEntry) → length (collected number read [] (take i clients)) ≤ length (collected number read [] clients)
  length-collected-take i clients =
      subst (λ (all : List ClientEntry). length (collected number read [] (take i clients)) ≤ length (collected number read [] all)) (take-append-drop i clients)
      (subst (λ (xs : List X). length (collected number read [] (take i clients)) ≤ length xs) (sym (fold-append (λ (xs : List X) (client : ClientEntry). insert_sorted number (read client) xs) [] (take i clients) (drop i clients))) (length-collected (collected number read [] (take i clients)) (drop i clients)))

  -- where the next would be one too many, there is one too many
  pub too_many : (max : ℕ) (clients : List ClientEntry) (i : ℕ) (xs : List X) (d : ClientEntry) → i < length clients → xs ≡ collected number read [] (take i clients) → max < length (insert_sorted number (read (get_or clients i d)) xs) → max < length (collected number read [] clients)
  too_many max clients i xs d h is more =
      let next : collected number read [] (take (i + 1) clients) ≡ insert_sorted number (read (get_or clients i d)) (collected number read [] (take i clients)) = fold_more (λ (ys : List X) (client : ClientEntry). insert_sorted number (read client) ys) [] clients i d h in
      omega (arith, ap length next, ap (λ (ys : List X). length (insert_sorted number (read (get_or clients i d)) ys)) is, length-collected-take (i + 1) clients)

  few_insert_sorted : (x : X) (xs : List X) → length (insert_sorted number x xs) ≤ length xs + 1
  few_insert_sorted x [] = omega arith
  few_insert_sorted x (y ∷ ys) = elim (cases_order (number x) (number y)) [
    | inl e ↦ omega (arith, ap length (insert_sorted_here number x y ys e))
    | inr other ↦ elim other [
      | inl lt ↦ omega (arith, ap length (insert_sorted_before number x y ys lt))
      | inr gt ↦ omega (arith, ap length (insert_sorted_after number x y ys gt), few_insert_sorted x ys)
    ]
  ]

  few_collected : (xs : List X) (clients : List ClientEntry) → length (collected number read xs clients) ≤ length xs + length clients
  few_collected xs [] = omega arith
  few_collected xs (client ∷ clients) = omega (arith, few_insert_sorted (read client) xs, few_collected (insert_sorted number (read client) xs) clients)

  -- no more than there are clients
  pub length-collected-all : (clients : List ClientEntry) → length (collected number read [] clients) ≤ length clients
  length-collected-all clients = omega (arith, few_collected [] clients)
