-- An audit of the records of an honest family's correct replicas.
use Rattle.std.proofs.Common.{◌≡◌, ◌⊎◌, ℕ, zero, suc, ◌+◌, ◌-◌, ◌<◌, ◌≤◌, inl, inr, Bool, true, false, cond, ◌&&◌, eqb, List, [], ◌∷◌, ◌++◌, map, take, Option, Some, None, Ok, Err, refl, sym, ap, subst, ◌∙◌, arith}
use Rattle.std.specs.Prelude.{nat_lt, ◌==◌, is_some, flat_map, Result}
use Rattle.std.specs.List.{list_all}
use Rattle.std.specs.Option.{option_or}
use Rattle.std.proofs.lemmas.Bool.{false≢true, true≢false, cases_lt, eqb-true, eq-eqb}
use Rattle.std.proofs.lemmas.List.{map-append}
use Rattle.std.proofs.lemmas.Option.{same_Some}
use Rattle.host_types.specs.declared.Digest.{Digest}
use Rattle.host_types.specs.declared.SeqNo.{SeqNo}
use Rattle.service_model.proofs.Determined.{same_follows}
use Rattle.pbft_agreement.specs.Agreement.{entry_digest, requests_in}
use Rattle.pbft_model.specs.Histories.{IsIn}
use Rattle.pbft_model.specs.Families.{IsCorrect}
use Rattle.pbft_agreement.specs.Journals as journals
use Rattle.pbft_agreement.specs.Journals.{AgreesOver, HasDone, IsAccountedFor, IsHonestFamily, IsInstalledFrom, Journals, greatest_among, greatest_in, reached_in, rises_to}
use Rattle.pbft_model.specs.Rows as model
use Rattle.pbft_model.specs.Rows.{Row, result_of}
use Rattle.pbft_model.specs.Sequential.{Outcome, Service, encoded, genesis_of}
use Rattle.pbft_model.specs.Setup.{Setup, replicas}
use Rattle.pbft_model.specs.Words.{RequestBody, Signed}
use Rattle.pbft_agreement.proofs.OverJournals.{agrees_over, each_executed}
use Rattle.pbft_agreement.proofs.Rising.{rows_rise}
use Rattle.pbft_model.proofs.Views.{greatest_above}
use Rattle.replica_journal.specs.Facts.{RowFacts, done_of, row_of}
use Rattle.replica_journal.specs.Done.{Done}
use Rattle.replica_journal.specs.Done.TheVariants.{Executed, Installed}
use Rattle.byz_world.specs.Audits.{IsAudit, IsMissing, IsReached, SaysOther, SomeDiffer, all_done, all_rise, done_in, executed_at, execution, execution_in, installation_in, installed_at, number_in, reached, rises}
use Rattle.byz_world.specs.Records.{AreRecords, FindsNoFault}
use Rattle.byz_world.specs.declared.audit_fault.AuditFault.{AuditFault}
use Rattle.byz_world.specs.declared.audit_fault.AuditFault.TheVariants.{Differ, Gap, Unrecorded, Memory}
use Rattle.byz_world.specs.declared.history.Execution.{Execution}

-- ---- lists

pub in_parts : {X : Type 0} (x : X) (xs ys : List X) → IsIn x (xs ++ ys) → IsIn x xs ⊎ IsIn x ys
in_parts x [] ys at = inr at
in_parts x (y ∷ xs) ys (inl here) = inl (inl here)
in_parts x (y ∷ xs) ys (inr later) = elim (in_parts x xs ys later) [ inl first ↦ inl (inr first) | inr last ↦ inr last ]

in_first : {X : Type 0} (x : X) (xs ys : List X) → IsIn x xs → IsIn x (xs ++ ys)
in_first x [] ys at = absurd at
in_first x (y ∷ xs) ys (inl here) = inl here
in_first x (y ∷ xs) ys (inr later) = inr (in_first x xs ys later)

in_last : {X : Type 0} (x : X) (xs ys : List X) → IsIn x ys → IsIn x (xs ++ ys)
in_last x [] ys at = at
in_last x (y ∷ xs) ys at = inr (in_last x xs ys at)

pub in_mapped : {X Y : Type 0} (f : X → Y) (x : X) (xs : List X) → IsIn x xs → IsIn (f x) (map f xs)
in_mapped f x [] at = absurd at
in_mapped f x (y ∷ xs) (inl here) = inl (ap f here)
in_mapped f x (y ∷ xs) (inr later) = inr (in_mapped f x xs later)

pub mapped_in : {X Y : Type 0} (f : X → Y) (y : Y) (xs : List X) → IsIn y (map f xs) → (x : X) × IsIn x xs × (f x ≡ y)
mapped_in f y [] at = absurd at
mapped_in f y (x ∷ xs) (inl here) = (x, inl refl, sym here)
mapped_in f y (x ∷ xs) (inr later) = let w = mapped_in f y xs later in (w.0, inr w.1, w.2)

-- among the lists of a list's elements
in_flat : {X Y : Type 0} (f : X → List Y) (y : Y) (x : X) (xs : List X) → IsIn x xs → IsIn y (f x) → IsIn y (flat_map f xs)
in_flat f y x [] at here = absurd at
in_flat f y x (z ∷ xs) (inl same) here = in_first y (f z) (flat_map f xs) (subst (λ (w : _). IsIn y (f w)) same here)
in_flat f y x (z ∷ xs) (inr later) here = in_last y (f z) (flat_map f xs) (in_flat f y x xs later here)

flat_in : {X Y : Type 0} (f : X → List Y) (y : Y) (xs : List X) → IsIn y (flat_map f xs) → (x : X) × IsIn x xs × IsIn y (f x)
flat_in f y [] at = absurd at
flat_in f y (x ∷ xs) at = elim (in_parts y (f x) (flat_map f xs) at) [
  | inl here ↦ (x, inl refl, here)
  | inr later ↦ let w = flat_in f y xs later in (w.0, inr w.1, w.2)
]

last_or : {X : Type 0} → X → List X → X
last_or x [] = x
last_or x (y ∷ ys) = last_or y ys

last_or-append : {X : Type 0} (d x : X) (xs : List X) → last_or d (xs ++ x ∷ []) ≡ x
unfolding last_or
last_or-append d x [] = refl
last_or-append d x (y ∷ ys) = last_or-append y x ys

-- ---- what rows did, here and in the protocol

row_done : (x : Done) (rows : List RowFacts) → IsIn x (done_in rows) → HasDone (done_of x) (map row_of rows)
row_done x rows at =
    let w = flat_in (λ (r : RowFacts). r.done) x rows at in
    (row_of w.0, in_mapped row_of w.0 rows w.1, in_mapped done_of x w.0.done w.2)

done_row : (d : model.Done) (rows : List RowFacts) → HasDone d (map row_of rows) → (x : Done) × IsIn x (done_in rows) × (done_of x ≡ d)
done_row d rows (row, at, here) =
    let r = mapped_in row_of row rows at in
    let x = mapped_in done_of d r.0.done (subst (λ (w : Row). IsIn d w.done) (sym r.2) here) in
    (x.0, in_flat (λ (r : RowFacts). r.done) x.0 r.0 rows r.1 x.1, x.2)

done_mapped : (rows : List RowFacts) → flat_map (λ (r : Row). r.done) (map row_of rows) ≡ map done_of (done_in rows)
done_mapped [] = refl
done_mapped (row ∷ rows) = ap (λ (ds : List model.Done). map done_of row.done ++ ds) (done_mapped rows) ∙ sym (map-append done_of row.done (done_in rows))

-- ---- executions rise

turn_taken : (b : Bool) (o : Option ℕ) (m : ℕ) → cond b o None ≡ Some m → (b ≡ true) × (o ≡ Some m)
turn_taken true o m is = (refl, is)
turn_taken false o m is = absurd (false≢true (ap is_some is))

reached_as : (n m : ℕ) (xs : List Done) → rises_to n (map done_of xs) ≡ Some m → reached n xs ≡ Some m
reached_as n m [] is = is
reached_as n m (Executed number digest result ∷ xs) is =
    let w = turn_taken (number.0 == n + 1) (rises_to number.0 (map done_of xs)) m is in
    ap (λ (b : Bool). cond b (reached number.0 xs) None) w.0 ∙ reached_as number.0 m xs w.1
reached_as n m (Installed number digest ∷ xs) is = reached_as number.0 m xs (turn_taken (nat_lt n number.0) (rises_to number.0 (map done_of xs)) m is).1

all_are : {X : Type 0} (p : X → Bool) (xs : List X) → ((x : X) → IsIn x xs → p x ≡ true) → list_all p xs ≡ true
all_are p [] each = refl
all_are p (x ∷ xs) each = ap (λ (b : Bool). b && list_all p xs) (each x (inl refl)) ∙ all_are p xs (λ y at. each y (inr at))

-- ---- what is executed and installed at a number

or_some : {A : Type 0} (o p : Option A) (x : A) → option_or o p ≡ Some x → (o ≡ Some x) ⊎ (p ≡ Some x)
or_some None p x is = inr is
or_some (Some y) p x is = inl is

or_none : {A : Type 0} (o p : Option A) → option_or o p ≡ None → (o ≡ None) × (p ≡ None)
or_none None p is = (refl, is)
or_none (Some y) p is = absurd (true≢false (ap is_some is))

-- the first that speaks of an execution at a number
pub record Executes (all : List Done) (n : ℕ) (first : Execution) : Type 0 where
  pub number : SeqNo
  pub is : number.0 ≡ n
  pub among : IsIn (Executed number first.digest first.result) all

found_execution : (all : List Done) (n : ℕ) (first : Execution) → executed_at all n ≡ Some first → Executes all n first
found_execution [] n first is = absurd (false≢true (ap is_some is))
found_execution (x ∷ xs) n first is = elim (or_some (execution_in n x) (executed_at xs n) first is) [
  | inl here ↦ by x here
  | inr later ↦ let w = found_execution xs n first later in record { number = w.number; is = w.is; among = inr w.among }
] where
  either : (b : Bool) (number : SeqNo) (digest : Digest) (result : List ℕ) → eqb number.0 n ≡ b → cond b (Some (execution digest result)) None ≡ Some first → Executes (Executed number digest result ∷ xs) n first
  either true number digest result same e =
      record { number = number; is = eqb-true number.0 n same; among = inl (ap (λ (y : Execution). Executed number y.digest y.result) (sym (same_Some _ _ e))) }
  either false number digest result other e = absurd (false≢true (ap is_some e))

  by : (y : Done) → execution_in n y ≡ Some first → Executes (y ∷ xs) n first
  by (Executed number digest result) e = either (eqb number.0 n) number digest result refl e
  by (Installed number digest) e = absurd (false≢true (ap is_some e))

pub record Installs (all : List Done) (n : ℕ) (first : Digest) : Type 0 where
  pub number : SeqNo
  pub is : number.0 ≡ n
  pub among : IsIn (Installed number first) all

found_installation : (all : List Done) (n : ℕ) (first : Digest) → installed_at all n ≡ Some first → Installs all n first
found_installation [] n first is = absurd (false≢true (ap is_some is))
found_installation (x ∷ xs) n first is = elim (or_some (installation_in n x) (installed_at xs n) first is) [
  | inl here ↦ by x here
  | inr later ↦ let w = found_installation xs n first later in record { number = w.number; is = w.is; among = inr w.among }
] where
  either : (b : Bool) (number : SeqNo) (digest : Digest) → eqb number.0 n ≡ b → cond b (Some digest) None ≡ Some first → Installs (Installed number digest ∷ xs) n first
  either true number digest same e = record { number = number; is = eqb-true number.0 n same; among = inl (ap (λ (y : Digest). Installed number y) (sym (same_Some _ _ e))) }
  either false number digest other e = absurd (false≢true (ap is_some e))

  by : (y : Done) → installation_in n y ≡ Some first → Installs (y ∷ xs) n first
  by (Executed number digest result) e = absurd (false≢true (ap is_some e))
  by (Installed number digest) e = either (eqb number.0 n) number digest refl e

-- what is executed at a number is not absent there
not_absent : (all : List Done) (n : ℕ) (digest result : List ℕ) (x : Done) → IsIn x all → done_of x ≡ model.Executed n digest result → executed_at all n ≡ None → ⊥
not_absent [] n digest result x at is none = at
not_absent (y ∷ ys) n digest result x (inr later) is none = not_absent ys n digest result x later is (or_none (execution_in n y) (executed_at ys n) none).1
not_absent (y ∷ ys) n digest result x (inl same) is none = by y (ap done_of (sym same) ∙ is) (or_none (execution_in n y) (executed_at ys n) none).0 where
  by : (z : Done) → done_of z ≡ model.Executed n digest result → execution_in n z ≡ None → ⊥
  by (Executed number d r) e absent =
      let here : number.0 ≡ n = fields number.0 d.0 r e in
      true≢false (ap is_some (sym (ap (λ (b : Bool). cond b (Some (execution d r)) None) (eq-eqb number.0 n here)) ∙ absent)) where
        fields : (m : ℕ) (d r : List ℕ) → model.Executed m d r ≡ model.Executed n digest result → m ≡ n
        fields m d r e = cc
  by (Installed number d) e absent = never number.0 d.0 e where
    never : (m : ℕ) (d : List ℕ) → model.Installed m d ≡ model.Executed n digest result → ⊥
    never m d e = cc

reached_among : (n : ℕ) (xs : List Done) → IsReached n xs → (x : Done) × IsIn x xs × (n ≤ number_in x)
reached_among n [] is = absurd is
reached_among n (x ∷ xs) (inl here) = (x, inl refl, here)
reached_among n (x ∷ xs) (inr later) = let w = reached_among n xs later in (w.0, inr w.1, w.2)

differ_among : (all xs : List Done) → SomeDiffer all xs → (x : Done) × IsIn x xs × SaysOther all x
differ_among all [] w = absurd w
differ_among all (x ∷ xs) (inl here) = (x, inl refl, here)
differ_among all (x ∷ xs) (inr later) = let w = differ_among all xs later in (w.0, inr w.1, w.2)

same_number : (x : Done) → journals.number_in (done_of x) ≡ number_in x
same_number (Executed number digest result) = refl
same_number (Installed number digest) = refl

-- ---- one list accounts for one execution and one installation at a number

module _ (c : Setup) (entries : List (Option (Signed RequestBody))) where
  same_execution : (n : ℕ) (digest digest' result result' : List ℕ) → IsAccountedFor c entries n digest result → IsAccountedFor c entries n digest' result' → (digest ≡ digest') × (result ≡ result')
  same_execution n digest digest' result result' a b =
      let entry : a.entry ≡ b.entry = same_Some _ _ (sym a.is_entry ∙ b.is_entry) in
      let outcomes = (same_follows (genesis_of c.config) (requests_in (take n entries)) a.state b.state (a.earlier ++ a.outcome ∷ []) (b.earlier ++ b.outcome ∷ []) a.serves b.serves).1 in
      let outcome : a.outcome ≡ b.outcome = sym (last_or-append a.outcome a.outcome a.earlier) ∙ ap (last_or a.outcome) outcomes ∙ last_or-append a.outcome b.outcome b.earlier in (
        a.digest_is ∙ ap (entry_digest c) entry ∙ sym b.digest_is,
        a.result_is ∙ ap (λ (o : Outcome). result_of o.reply) outcome ∙ sym b.result_is,
      )

  same_installation : (n : ℕ) (digest digest' : List ℕ) → IsInstalledFrom c entries n digest → IsInstalledFrom c entries n digest' → digest ≡ digest'
  same_installation n digest digest' a b =
      let state = (same_follows (genesis_of c.config) (requests_in (take n entries)) a.state b.state a.outcomes b.outcomes a.serves b.serves).0 in
      a.digest_is ∙ ap (λ (s : Service). c.hash (encoded s)) state ∙ sym b.digest_is

-- ---- an honest family

module _ (c : Setup) (j : Journals) (h : IsHonestFamily c j) (records : List (List RowFacts)) (are : AreRecords c j records) where
  -- a correct replica did it
  DidSo : model.Done → Type 0
  DidSo d = (i : ℕ) × IsCorrect c j.faulty i × HasDone d (j.rows i)

  did : (x : Done) → IsIn x (all_done records) → DidSo (done_of x)
  unfolding DidSo
  did x at =
      let rows = flat_in done_in x records at in
      let of = are.each rows.0 rows.1 in
      (of.0, of.1, subst (λ (rs : List Row). HasDone (done_of x) rs) (sym of.2) (row_done x rows.0 rows.2))

  recorded : (d : model.Done) → DidSo d → (x : Done) × IsIn x (all_done records) × (done_of x ≡ d)
  unfolding DidSo
  recorded d (i, correct, done) =
      let rows = are.all i correct in
      let x = done_row d rows.0 (subst (λ (rs : List Row). HasDone d rs) rows.2 done) in
      (x.0, in_flat done_in x.0 rows.0 records rows.1 x.1, x.2)

  -- none differ
  over : AgreesOver c j (agrees_over c j h).0
  over = (agrees_over c j h).1

  accounted : (n : ℕ) (digest result : List ℕ) → DidSo (model.Executed n digest result) → IsAccountedFor c (agrees_over c j h).0 n digest result
  unfolding DidSo
  accounted n digest result (i, correct, done) = over.executed i n digest result correct done

  installed_so : (n : ℕ) (digest : List ℕ) → DidSo (model.Installed n digest) → IsInstalledFrom c (agrees_over c j h).0 n digest
  unfolding DidSo
  installed_so n digest (i, correct, done) = over.installed i n digest correct done

  says_same : (x : Done) → IsIn x (all_done records) → SaysOther (all_done records) x → ⊥
  says_same (Executed number digest result) at (first, is, other) =
      let w = found_execution (all_done records) number.0 first is in
      let mine = accounted number.0 digest.0 result (did (Executed number digest result) at) in
      let its = subst (λ (n : ℕ). IsAccountedFor c (agrees_over c j h).0 n first.digest.0 first.result) w.is
      (accounted w.number.0 first.digest.0 first.result (did (Executed w.number first.digest first.result) w.among)) in
      let same = same_execution c (agrees_over c j h).0 number.0 first.digest.0 digest.0 first.result result its mine in
      other (λ k. record { digest = record { 0 = same.0 k }; result = same.1 k })
  says_same (Installed number digest) at (first, is, other) =
      let w = found_installation (all_done records) number.0 first is in
      let mine = installed_so number.0 digest.0 (did (Installed number digest) at) in
      let its = subst (λ (n : ℕ). IsInstalledFrom c (agrees_over c j h).0 n first.0) w.is (installed_so w.number.0 first.0 (did (Installed w.number first) w.among)) in
      let same = same_installation c (agrees_over c j h).0 number.0 first.0 digest.0 its mine in other (λ k. record { 0 = same k })

  none_differ : SomeDiffer (all_done records) (all_done records) → ⊥
  none_differ w = let x = differ_among (all_done records) (all_done records) w in says_same x.0 x.1 x.2

  -- all rise
  each_rises : (rows : List RowFacts) → IsIn rows records → rises (done_in rows) ≡ true
  each_rises rows at =
      let of = are.each rows at in
      let lawful = h.lawful of.0 of.1 in
      let rise = rows_rise c of.0 (j.signer of.0) (j.rows of.0) lawful.0 lawful.1 in
      let here : rises_to 0 (map done_of (done_in rows)) ≡ Some lawful.0.executed = ap (rises_to 0) (sym (ap (flat_map (λ (r : Row). r.done)) of.2 ∙ done_mapped rows)) ∙ rise in
      ap is_some (reached_as 0 lawful.0.executed (done_in rows) here)

  rise : all_rise records ≡ true
  rise = all_are (λ (rows : List RowFacts). rises (done_in rows)) records each_rises

  -- none is missing
  up_to : (d : model.Done) (rows : List Row) → HasDone d rows → journals.number_in d ≤ greatest_in rows
  up_to d rows (row, at, here) =
      greatest_above (journals.number_in d) (flat_map (λ (r : Row). map journals.number_in r.done) rows)
      (in_flat (λ (r : Row). map journals.number_in r.done) (journals.number_in d) row rows at (in_mapped journals.number_in d row.done here))

  below_greatest : (n i : ℕ) → i < n → j.faulty i ≡ false → greatest_in (j.rows i) ≤ greatest_among j n
  below_greatest zero i less right = absurd (omega (arith, less))
  below_greatest (suc n) i less right = elim (cases_lt i n) [
    | inl before ↦ let rest = below_greatest n i before right in omega (arith, rest)
    | inr last ↦
        let same : n ≡ i = omega (arith, less, last) in
        let mine : reached_in j n ≡ greatest_in (j.rows i) = ap (reached_in j) same ∙ ap (λ (b : Bool). cond b 0 (greatest_in (j.rows i))) right in
        omega (arith, mine)
  ]

  within : (x : Done) → DidSo (done_of x) → number_in x ≤ greatest_among j (replicas c.config)
  unfolding DidSo
  within x (i, correct, done) =
      let mine = up_to (done_of x) (j.rows i) done in
      let most = below_greatest (replicas c.config) i correct.0 correct.1 in
      chained (number_in x) (journals.number_in (done_of x)) (greatest_in (j.rows i)) (greatest_among j (replicas c.config)) (same_number x) mine most where
        chained : (a b d e : ℕ) → b ≡ a → b ≤ d → d ≤ e → a ≤ e
        chained a b d e same first second = omega (arith, same, first, second)

  none_missing : IsMissing (all_done records) → ⊥
  unfolding DidSo
  none_missing m =
      let x = reached_among m.number (all_done records) m.reached in
      let most = within x.0 (did x.0 x.1) in
      let less : m.number - 1 < greatest_among j (replicas c.config) = before m.number (number_in x.0) (greatest_among j (replicas c.config)) m.positive x.2 most in
      let w = each_executed c j h (m.number - 1) less in
      let next : (m.number - 1) + 1 ≡ m.number = back m.number m.positive in
      let done = subst (λ (n : ℕ). HasDone (model.Executed n w.1 w.2) (j.rows w.0)) next w.4 in
      let y = recorded (model.Executed m.number w.1 w.2) (w.0, w.3, done) in
      not_absent (all_done records) m.number w.1 w.2 y.0 y.1 y.2 m.absent where
        before : (n k g : ℕ) → 0 < n → n ≤ k → k ≤ g → n - 1 < g
        before n k g positive up most = omega (arith, positive, up, most)

        back : (n : ℕ) → 0 < n → (n - 1) + 1 ≡ n
        back n positive = omega (arith, positive)

  pub records_pass : (answer : Result (List Execution) AuditFault) → IsAudit records answer → FindsNoFault answer
  records_pass (Ok history) is = tt
  records_pass (Err Differ) is = none_differ is
  records_pass (Err Gap) is = true≢false (sym rise ∙ is.1)
  records_pass (Err Unrecorded) is = none_missing is.2
  records_pass (Err Memory) is = tt
