-- What correct replicas tell agrees, and rises by one.
use Rattle.std.proofs.Common.{◌≡◌, ℕ, ◌+◌, ◌⊎◌, inl, inr, Bool, true, false, cond, ◌&&◌, List, [], ◌∷◌, ◌++◌, find, map, take, Option, Some, None, refl, sym, ap, subst, ◌∙◌}
use Rattle.std.specs.Prelude.{◌==◌, nat_lt, flat_map, is_some}
use Rattle.std.specs.List.{AllByRecursion}
use Rattle.std.proofs.lemmas.Bool.{true≢false, false≢true}
use Rattle.std.proofs.lemmas.Option.{same_Some}
use Rattle.service_model.proofs.Determined.{same_follows}
use Rattle.pbft_model.specs.Setup.{Setup}
use Rattle.pbft_model.specs.Histories.{IsIn}
use Rattle.pbft_model.specs.Families.{IsCorrect}
use Rattle.pbft_model.specs.Rows.{Done, Executed, Installed, Row, result_of}
use Rattle.pbft_model.specs.Sequential.{Outcome, Service, encoded, genesis_of}
use Rattle.pbft_model.specs.Words.{RequestBody, Signed}
use Rattle.pbft_agreement.specs.Agreement.{entry_digest, requests_in}
use Rattle.pbft_agreement.specs.Journals.{HasDone, IsAccountedFor, IsHonestFamily, IsInstalledFrom, Journals, rises_to}
use Rattle.pbft_agreement.proofs.OverJournals.{agrees_over}
use Rattle.pbft_agreement.proofs.Rising.{rows_rise}
use Rattle.driver_notes.specs.Accounts.{follows}
use Rattle.driver_notes.specs.declared.ledger.Deed.{Deed}
use Rattle.ledger_laws.specs.Audits.{Agree, SaysTheSame, all_deeds, all_rise, reached}
use Rattle.ledger_laws.specs.Telling.{AreTold, IsToldBy, deed_of}
use Rattle.ledger_laws.proofs.Agreeing.{found, says, speaks, speaks_is, speaks_self}

-- ---- lists

in_parts : {X : Type 0} (x : X) (xs ys : List X) → IsIn x (xs ++ ys) → IsIn x xs ⊎ IsIn x ys
in_parts x [] ys at = inr at
in_parts x (y ∷ xs) ys (inl here) = inl (inl here)
in_parts x (y ∷ xs) ys (inr later) = elim (in_parts x xs ys later) [ inl first ↦ inl (inr first) | inr last ↦ inr last ]

in_first : {X : Type 0} (x : X) (xs ys : List X) → IsIn x xs → IsIn x (xs ++ ys)
in_first x [] ys at = absurd at
in_first x (y ∷ xs) ys (inl here) = inl here
in_first x (y ∷ xs) ys (inr later) = inr (in_first x xs ys later)

mapped_in : {X Y : Type 0} (f : X → Y) (y : Y) (xs : List X) → IsIn y (map f xs) → (x : X) × IsIn x xs × (f x ≡ y)
mapped_in f y [] at = absurd at
mapped_in f y (x ∷ xs) (inl here) = (x, inl refl, sym here)
mapped_in f y (x ∷ xs) (inr later) = let w = mapped_in f y xs later in (w.0, inr w.1, w.2)

flat_in : {X Y : Type 0} (f : X → List Y) (y : Y) (xs : List X) → IsIn y (flat_map f xs) → (x : X) × IsIn x xs × IsIn y (f x)
flat_in f y [] at = absurd at
flat_in f y (x ∷ xs) at = elim (in_parts y (f x) (flat_map f xs) at) [
  | inl here ↦ (x, inl refl, here)
  | inr later ↦ let w = flat_in f y xs later in (w.0, inr w.1, w.2)
]

all_from : {X : Type 0} (P : X → Type 0) (xs : List X) → ((x : X) → IsIn x xs → P x) → AllByRecursion P xs
all_from P [] each = tt
all_from P (x ∷ xs) each = (each x (inl refl), all_from P xs (λ y at. each y (inr at)))

not_missed : {X : Type 0} (p : X → Bool) (xs : List X) (y : X) → IsIn y xs → p y ≡ true → find p xs ≡ None → ⊥
not_missed p [] y at holds is = at
not_missed {X} p (x ∷ xs) y at holds is = either (p x) refl at is (λ later none. not_missed p xs y later holds none) where
  either : (b : Bool) → p x ≡ b → (y ≡ x) ⊎ IsIn y xs → cond b (Some x) (find p xs) ≡ None → (IsIn y xs → find p xs ≡ None → ⊥) → ⊥
  either true is at none later = true≢false (ap is_some none)
  either false is (inl here) none later = true≢false (sym holds ∙ ap p here ∙ is)
  either false is (inr past) none later = later past none

last_or : {X : Type 0} → X → List X → X
last_or x [] = x
last_or x (y ∷ ys) = last_or y ys

last_or-append : {X : Type 0} (d x : X) (xs : List X) → last_or d (xs ++ x ∷ []) ≡ x
unfolding last_or
last_or-append d x [] = refl
last_or-append d x (y ∷ ys) = last_or-append y x ys

-- ---- one list accounts for one execution and one installation at a number

module _ (c : Setup) (entries : List (Option (Signed RequestBody))) where
  same_execution : (n : ℕ) (digest digest' result result' : List ℕ) → IsAccountedFor c entries n digest result → IsAccountedFor c entries n digest' result' → (digest ≡ digest') × (result ≡ result')
  same_execution n digest digest' result result' a b =
      let entry : a.entry ≡ b.entry = same_Some _ _ (sym a.is_entry ∙ b.is_entry) in
      let outcomes = (same_follows (genesis_of c.config) (requests_in (take n entries)) a.state b.state (a.earlier ++ a.outcome ∷ []) (b.earlier ++ b.outcome ∷ []) a.serves b.serves).1 in
      let outcome : a.outcome ≡ b.outcome = sym (last_or-append a.outcome a.outcome a.earlier) ∙ ap (last_or a.outcome) outcomes ∙ last_or-append a.outcome b.outcome b.earlier in (
        a.digest_is ∙ ap (entry_digest c) entry ∙ sym b.digest_is,
        a.result_is ∙ ap (λ (o : Outcome). result_of o.reply) outcome ∙ sym b.result_is,
      )

  same_installation : (n : ℕ) (digest digest' : List ℕ) → IsInstalledFrom c entries n digest → IsInstalledFrom c entries n digest' → digest ≡ digest'
  same_installation n digest digest' a b =
      let state = (same_follows (genesis_of c.config) (requests_in (take n entries)) a.state b.state a.outcomes b.outcomes a.serves b.serves).0 in
      a.digest_is ∙ ap (λ (s : Service). c.hash (encoded s)) state ∙ sym b.digest_is

-- ---- an honest family

module _ (c : Setup) (j : Journals) (h : IsHonestFamily c j) where
  -- a correct replica did it
  DidSo : Done → Type 0
  DidSo d = (i : ℕ) × IsCorrect c j.faulty i × HasDone d (j.rows i)

  did : (records : List (List Deed)) → AreTold c j records → (x : Deed) → IsIn x (all_deeds records) → (d : Done) × DidSo d × (deed_of d ≡ x)
  unfolding DidSo
  did [] told x at = absurd at
  did (deeds ∷ records) told x at = elim (in_parts x deeds (all_deeds records) at) [
    | inl here ↦
        let by = told.0 in
        let d = mapped_in deed_of x (flat_map (λ (r : Row). r.done) (j.rows by.replica)) (subst (IsIn x) (sym by.told) (in_first x deeds by.later here)) in
        let row = flat_in (λ (r : Row). r.done) d.0 (j.rows by.replica) d.1 in
        (d.0, (by.replica, by.correct, row), d.2)
    | inr later ↦ did records told.1 x later
  ]

  accounted : (n : ℕ) (digest result : List ℕ) → DidSo (Executed n digest result) → IsAccountedFor c (agrees_over c j h).0 n digest result
  unfolding DidSo
  accounted n digest result (i, correct, done) = (agrees_over c j h).1.executed i n digest result correct done

  installed_so : (n : ℕ) (digest : List ℕ) → DidSo (Installed n digest) → IsInstalledFrom c (agrees_over c j h).0 n digest
  unfolding DidSo
  installed_so n digest (i, correct, done) = (agrees_over c j h).1.installed i n digest correct done

  -- two of one kind and one number
  same_words : (d e : Done) → DidSo d → DidSo e → is_some (deed_of d).result ≡ is_some (deed_of e).result → (deed_of d).number.0 ≡ (deed_of e).number.0 → deed_of d ≡ deed_of e
  same_words (Executed n digest result) (Executed m digest' result') a b kind number =
      let first = subst (λ (k : ℕ). IsAccountedFor c (agrees_over c j h).0 k digest result) number (accounted n digest result a) in
      let same = same_execution c (agrees_over c j h).0 m digest digest' result result' first (accounted m digest' result' b) in
      λ k. record { number = record { 0 = number k }; digest = record { 0 = same.0 k }; result = Some (same.1 k) }
  same_words (Installed n digest) (Installed m digest') a b kind number =
      let first = subst (λ (k : ℕ). IsInstalledFrom c (agrees_over c j h).0 k digest) number (installed_so n digest a) in
      let same = same_installation c (agrees_over c j h).0 m digest digest' first (installed_so m digest' b) in
      λ k. record { number = record { 0 = number k }; digest = record { 0 = same k }; result = None }
  same_words (Executed n digest result) (Installed m digest') a b kind number = absurd (true≢false kind)
  same_words (Installed n digest) (Executed m digest' result') a b kind number = absurd (false≢true kind)

  module _ (records : List (List Deed)) (told : AreTold c j records) where
    same_deed : (x y : Deed) → IsIn x (all_deeds records) → IsIn y (all_deeds records) → is_some x.result ≡ is_some y.result → x.number.0 ≡ y.number.0 → x ≡ y
    same_deed x y at there kind number =
        let d = did records told x at in
        let e = did records told y there in
        let kinds : is_some (deed_of d.0).result ≡ is_some (deed_of e.0).result =
        ap (λ (z : Deed). is_some z.result) d.2 ∙ kind ∙ sym (ap (λ (z : Deed). is_some z.result) e.2) in
        let numbers : (deed_of d.0).number.0 ≡ (deed_of e.0).number.0 = ap (λ (z : Deed). z.number.0) d.2 ∙ number ∙ sym (ap (λ (z : Deed). z.number.0) e.2) in
        sym d.2 ∙ same_words d.0 e.0 d.1 e.1 kinds numbers ∙ e.2

    says_so : (x : Deed) → IsIn x (all_deeds records) → SaysTheSame (all_deeds records) x
    says_so x at = says (all_deeds records) x (either (find (speaks (is_some x.result) x.number.0) (all_deeds records)) refl) where
      either : (o : Option Deed) → find (speaks (is_some x.result) x.number.0) (all_deeds records) ≡ o → o ≡ Some x
      either None is = absurd (not_missed (speaks (is_some x.result) x.number.0) (all_deeds records) x at (speaks_self x) is)
      either (Some y) is =
          let w = found (speaks (is_some x.result) x.number.0) (all_deeds records) y is in
          let as_x = speaks_is (is_some x.result) x.number.0 y w.0 in
          ap Some (same_deed y x w.1 at as_x.0 as_x.1)

    pub told_agree : Agree (all_deeds records)
    told_agree = all_from (SaysTheSame (all_deeds records)) (all_deeds records) says_so

  -- ---- executions rise

  turn_taken : (b : Bool) (o : Option ℕ) (m : ℕ) → cond b o None ≡ Some m → (b ≡ true) × (o ≡ Some m)
  turn_taken true o m is = (refl, is)
  turn_taken false o m is = absurd (false≢true (ap is_some is))

  reached_as : (n m : ℕ) (ds : List Done) → rises_to n ds ≡ Some m → reached n (map deed_of ds) ≡ Some m
  reached_as n m [] is = is
  reached_as n m (Executed number digest result ∷ ds) is =
      let w = turn_taken (number == n + 1) (rises_to number ds) m is in
      ap (λ (b : Bool). cond b (reached number (map deed_of ds)) None) w.0 ∙ reached_as number m ds w.1
  reached_as n m (Installed number digest ∷ ds) is = reached_as number m ds (turn_taken (nat_lt n number) (rises_to number ds) m is).1

  first_reached : (n : ℕ) (xs ys : List Deed) → is_some (reached n (xs ++ ys)) ≡ true → is_some (reached n xs) ≡ true
  first_reached n [] ys is = refl
  first_reached n (x ∷ xs) ys is = either (follows n x) is (λ e. first_reached x.number.0 xs ys e) where
    either : (b : Bool) → is_some (cond b (reached x.number.0 (xs ++ ys)) None) ≡ true → (is_some (reached x.number.0 (xs ++ ys)) ≡ true → is_some (reached x.number.0 xs) ≡ true)
        → is_some (cond b (reached x.number.0 xs) None) ≡ true
    either true is later = later is
    either false is later = is

  told_rises : (deeds : List Deed) → IsToldBy c j deeds → is_some (reached 0 deeds) ≡ true
  told_rises deeds by =
      let lawful = h.lawful by.replica by.correct in
      let rise = rows_rise c by.replica (j.signer by.replica) (j.rows by.replica) lawful.0 lawful.1 in
      first_reached 0 deeds by.later
      (ap (λ (ds : List Deed). is_some (reached 0 ds)) (sym by.told) ∙ ap is_some (reached_as 0 lawful.0.executed (flat_map (λ (r : Row). r.done) (j.rows by.replica)) rise))

  pub told_rise : (records : List (List Deed)) → AreTold c j records → all_rise records ≡ true
  told_rise [] told = refl
  told_rise (deeds ∷ records) told = ap (λ (b : Bool). b && all_rise records) (told_rises deeds told.0) ∙ told_rise records told.1
