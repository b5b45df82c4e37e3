-- The greatest number to which the mark may rise, and that it is the core's.
use Rattle.std.proofs.Common.{◌≡◌, ◌≢◌, ℕ, ◌<◌, ◌≤◌, Bool, true, false, cond, ◌&&◌, List, [], ◌∷◌, ◌++◌, Option, Some, None, refl, sym, ap, subst, ◌∙◌, arith, ◌⊎◌, inl, inr, T}
use Rattle.std.specs.Prelude.{nat_lt, nat_le, ◌==◌}
use Rattle.std.specs.List.{AllByRecursion}
use Rattle.std.specs.List.Sorted.{IsStrictlySortedBy}
use Rattle.std.specs.Map.{keys_of, lookup}
use Rattle.std.specs.declared.cmp.Ordering.TheVariants.{Less, Equal, Greater}
use Rattle.std.specs.Ordering.{nat_cmp, is_eq, is_lt, eq_by_cmp, ordering_then}
use Rattle.std.specs.Cmp.Lexicographic.{slice_cmp}
use Rattle.std.specs.FinMap.{is_sorted}
use Rattle.std.specs.FinMap.Entries.{below_all}
use Rattle.std.specs.BTreeMap as tree
use Rattle.std.proofs.lemmas.Bool.{cases_Bool, cases_eq, cases_lt, cond-false, cond-true, eq-eqb, false≢true, le-ltb, lt-ltb, ne_eqb}
use Rattle.std.proofs.lemmas.Option.{same_Some}
use Rattle.std.proofs.lemmas.Slice.Eq.{bytes_eq-Decides}
use Rattle.sha2.specs.Sha256.{sha256}
use Rattle.host_types.specs.declared.Digest.{Digest}
use Rattle.host_types.specs.declared.SeqNo.{SeqNo}
use Rattle.ballots.specs.Acts.{Rise}
use Rattle.ballots.specs.Certificates.{is_stable}
use Rattle.ballots.specs.Core.{Core}
use Rattle.ballots.specs.Duties.{Do, Duty, may_rise, or_else, rise_among, rise_with}
use Rattle.ballots.specs.Setup.{Setup, setup_of}
use Rattle.ballots.specs.Tables.{Key, Table, at, first_in, number_key}
use Rattle.ballots.specs.Words.{Signed, Checkpoint}
use Rattle.ballots.specs.Ballots.{is_digest}
use Rattle.ballots.proofs.Tables.{by, is_equal, same_key}
use Rattle.checkpoints.specs.Kept.{HasTablesOf, IsRaised, KeptCheckpoints, stable_at, stable_digest}
use Rattle.checkpoints.specs.Reading.{IsGreatestRaised, NoneRaised, is_raised}
use Rattle.checkpoints.proofs.Proving.{above_mark}
use Rattle.checkpoints.proofs.Stable.{is_stable_one, stable_is}

-- ---- the last of the entries of a map to whose number the mark may rise

abbrev pub or_first : Option ℕ → Option ℕ → Option ℕ
or_first None o = o
or_first (Some n) o = Some n

abbrev pub raised_here : KeptCheckpoints → ℕ → ℕ × List ℕ → Option ℕ
raised_here k e x = cond (is_raised k e x.0 x.1) (Some x.0) None

abbrev pub last_raised : KeptCheckpoints → ℕ → List (ℕ × List ℕ) → Option ℕ
last_raised k e [] = None
last_raised k e (x ∷ es) = or_first (last_raised k e es) (raised_here k e x)

or_none : (o : Option ℕ) → or_first o None ≡ o
or_none None = refl
or_none (Some n) = refl

or_assoc : (a b o : Option ℕ) → or_first (or_first a b) o ≡ or_first a (or_first b o)
or_assoc None b o = refl
or_assoc (Some n) b o = refl

last_append : (k : KeptCheckpoints) (e : ℕ) (es : List (ℕ × List ℕ)) (x : ℕ × List ℕ) → last_raised k e (es ++ x ∷ []) ≡ or_first (raised_here k e x) (last_raised k e es)
last_append k e [] x = sym (or_none (raised_here k e x))
last_append k e (y ∷ es) x =
    ap (λ o. or_first o (raised_here k e y)) (last_append k e es x) ∙ or_assoc (raised_here k e x) (last_raised k e es) (raised_here k e y)

-- the last entry is passed over, or is the one
pub passed_over : (k : KeptCheckpoints) (e : ℕ) (all es : List (ℕ × List ℕ)) (x : ℕ × List ℕ) → all ≡ es ++ x ∷ [] → is_raised k e x.0 x.1 ≡ false → last_raised k e es ≡ last_raised k e all
passed_over k e all es x is f =
    sym (ap (last_raised k e) is ∙ last_append k e es x ∙ ap (λ b. or_first (cond b (Some x.0) None) (last_raised k e es)) f)

pub found_last : (k : KeptCheckpoints) (e : ℕ) (all es : List (ℕ × List ℕ)) (x : ℕ × List ℕ) → all ≡ es ++ x ∷ [] → is_raised k e x.0 x.1 ≡ true → last_raised k e all ≡ Some x.0
found_last k e all es x is t = ap (last_raised k e) is ∙ last_append k e es x ∙ ap (λ b. or_first (cond b (Some x.0) None) (last_raised k e es)) t

-- ---- what is found by a key

abbrev found_at : List (ℕ × List ℕ) → ℕ → Option (List ℕ)
found_at es n = lookup (tree.is_at (nat_cmp n)) es

some_none : {X : Type 0} {P : Type 0} (x : X) → Some x ≡ None → P
some_none x e = absurd cc

none_some : {X : Type 0} {P : Type 0} (x : X) → None ≡ Some x → P
none_some x e = absurd cc

at_number : (n k : ℕ) → is_eq (nat_cmp n k) ≡ true → n ≡ k
at_number n k e = elim (cases_eq n k) [
  | inl is ↦ is
  | inr ne ↦ elim (cases_lt n k) [
    | inl lt ↦ absurd (false≢true (sym (ap is_eq (cond-true (nat_lt n k) Less (cond (n == k) Equal Greater) (lt-ltb n k lt))) ∙ e))
    | inr le ↦ absurd (false≢true (sym (ap is_eq (cond-false (nat_lt n k) Less (cond (n == k) Equal Greater) (le-ltb n k le) ∙ cond-false (n == k) Equal Greater (ne_eqb n k ne))) ∙ e))
  ]
]

at_itself : (n : ℕ) → is_eq (nat_cmp n n) ≡ true
at_itself n = ap is_eq (cond-false (nat_lt n n) Less (cond (n == n) Equal Greater) (le-ltb n n (omega arith)) ∙ cond-true (n == n) Equal Greater (eq-eqb n n refl))

less_is : (n k : ℕ) → nat_cmp n k ≡ Less → n < k
less_is n k e = elim (cases_lt n k) [
  | inl lt ↦ lt
  | inr le ↦ elim (cases_eq n k) [
    | inl is ↦ absurd (false≢true (sym (ap is_eq e) ∙ ap (λ k. is_eq (nat_cmp n k)) (sym is) ∙ at_itself n))
    | inr ne ↦ absurd (false≢true (sym (ap is_lt (cond-false (nat_lt n k) Less (cond (n == k) Equal Greater) (le-ltb n k le) ∙ cond-false (n == k) Equal Greater (ne_eqb n k ne))) ∙ ap is_lt e))
  ]
]

raised_is : (k : KeptCheckpoints) (e n : ℕ) (x : ℕ × List ℕ) → raised_here k e x ≡ Some n → (is_raised k e x.0 x.1 ≡ true) × (x.0 ≡ n)
raised_is k e n x f = elim (cases_Bool (is_raised k e x.0 x.1)) [
  | inl t ↦ (t, same_Some x.0 n (sym (ap (λ b. cond b (Some x.0) None) t) ∙ f))
  | inr g ↦ none_some n (sym (ap (λ b. cond b (Some x.0) None) g) ∙ f)
]

not_raised : (k : KeptCheckpoints) (e : ℕ) (x : ℕ × List ℕ) → raised_here k e x ≡ None → is_raised k e x.0 x.1 ≡ false
not_raised k e x f = elim (cases_Bool (is_raised k e x.0 x.1)) [
  | inl t ↦ some_none x.0 (sym (ap (λ b. cond b (Some x.0) None) t) ∙ f)
  | inr g ↦ g
]

neither : (a b : Option ℕ) → or_first a b ≡ None → (a ≡ None) × (b ≡ None)
neither None b e = (refl, e)
neither (Some n) b e = some_none n e

pub none_found : (k : KeptCheckpoints) (e : ℕ) (es : List (ℕ × List ℕ)) → last_raised k e es ≡ None → (m : ℕ) (b : List ℕ) → found_at es m ≡ Some b → is_raised k e m b ≡ false
none_found k e [] none m b f = none_some b f
none_found k e (x ∷ es) none m b f =
    let both = neither (last_raised k e es) (raised_here k e x) none in
    elim (cases_Bool (is_eq (nat_cmp m x.0))) [
      | inl same ↦
          let value = same_Some x.1 b (sym (ap (λ t. cond t (Some x.1) (found_at es m)) same) ∙ f) in
          ap (λ n. is_raised k e n b) (at_number m x.0 same) ∙ ap (is_raised k e x.0) (sym value) ∙ not_raised k e x both.1
      | inr other ↦ none_found k e es both.0 m b (sym (ap (λ t. cond t (Some x.1) (found_at es m)) other) ∙ f)
    ]

-- a key that is found stands among the keys
key_above : (n m : ℕ) (b : List ℕ) (es : List (ℕ × List ℕ)) → AllByRecursion (λ q. nat_cmp n q ≡ Less) (keys_of es) → found_at es m ≡ Some b → n < m
key_above n m b [] h f = none_some b f
key_above n m b (x ∷ es) h f = elim (cases_Bool (is_eq (nat_cmp m x.0))) [
  | inl same ↦ let lt = less_is n x.0 h.0 in let is = at_number m x.0 same in omega (arith, lt, is)
  | inr other ↦ key_above n m b es h.1 (sym (ap (λ t. cond t (Some x.1) (found_at es m)) other) ∙ f)
]

record IsLast (k : KeptCheckpoints) (e : ℕ) (es : List (ℕ × List ℕ)) (n : ℕ) : Type 0 where
  pub bytes : List ℕ
  pub is : found_at es n ≡ Some bytes
  pub here : is_raised k e n bytes ≡ true
  pub later : (m : ℕ) (b : List ℕ) → n < m → found_at es m ≡ Some b → is_raised k e m b ≡ false

not_at : (m n : ℕ) → m ≢ n → is_eq (nat_cmp m n) ≡ false
not_at m n ne = elim (cases_Bool (is_eq (nat_cmp m n))) [ inl same ↦ absurd (ne (at_number m n same)) | inr other ↦ other ]

either_first : (a b : Option ℕ) (n : ℕ) → or_first a b ≡ Some n → (a ≡ Some n) ⊎ ((a ≡ None) × (b ≡ Some n))
either_first None b n e = inr (refl, e)
either_first (Some m) b n e = inl e

last_is : (k : KeptCheckpoints) (e : ℕ) (es : List (ℕ × List ℕ)) (n : ℕ) → IsStrictlySortedBy nat_cmp (keys_of es) → last_raised k e es ≡ Some n → IsLast k e es n
unfolding IsStrictlySortedBy
last_is k e [] n s f = none_some n f
last_is k e (x ∷ es) n s f = elim (either_first (last_raised k e es) (raised_here k e x) n f) [
  | inl rest ↦
      let w = last_is k e es n s.1 rest in
      let above : x.0 < n = key_above x.0 n w.bytes es s.0 w.is in
      record {
        bytes = w.bytes;
        is = ap (λ t. cond t (Some x.1) (found_at es n)) (not_at n x.0 (λ is. absurd (omega (arith, is, above)))) ∙ w.is;
        here = w.here;
        later = λ m b lt f. w.later m b lt (sym (ap (λ t. cond t (Some x.1) (found_at es m)) (not_at m x.0 (λ is. absurd (omega (arith, is, above, lt))))) ∙ f);
      }
  | inr (none, own) ↦
      let is = raised_is k e n x own in
      record {
        bytes = x.1;
        is = ap (λ t. cond t (Some x.1) (found_at es n)) (ap (λ n. is_eq (nat_cmp n x.0)) (sym is.1) ∙ at_itself x.0);
        here = ap (λ n. is_raised k e n x.1) (sym is.1) ∙ is.0;
        later = λ m b lt f. none_found k e es none m b (sym (ap (λ t. cond t (Some x.1) (found_at es m)) (not_at m x.0 (λ same. absurd (omega (arith, same, lt, is.1))))) ∙ f);
      }
]

t_true : (b : Bool) → T b → b ≡ true
t_true true h = refl
t_true false h = absurd h

-- said of the table of snapshots
pub greatest_raised : (k : KeptCheckpoints) (e : ℕ) (es : List (ℕ × List ℕ)) (n : SeqNo) → T (is_sorted by k.snapshots) → IsStrictlySortedBy nat_cmp (keys_of es) → ((m : ℕ) → at k.snapshots (number_key m) ≡ found_at es m) → last_raised k e es ≡ Some n.0 → IsGreatestRaised k e n
greatest_raised k e es n sorted s is f =
    let w = last_is k e es n.0 s f in
    record { sorted = t_true (is_sorted by k.snapshots) sorted; bytes = w.bytes; kept = is n.0 ∙ w.is; here = w.here; later = λ m b lt g. w.later m b lt (sym (is m) ∙ g) }

pub none_raised : (k : KeptCheckpoints) (e : ℕ) (es : List (ℕ × List ℕ)) → ((m : ℕ) → at k.snapshots (number_key m) ≡ found_at es m) → last_raised k e es ≡ None → NoneRaised k e
none_raised k e es is none m b f = none_found k e es none m b (sym (is m) ∙ f)

-- ---- the core's test

-- above the mark a digest is the stable one exactly where it is stable
same_digest_test : (c : Setup) (checkpoints : Table (Signed Checkpoint)) (number : ℕ) (d : Digest) → is_digest d.0 (stable_digest c.config checkpoints number) ≡ is_stable c.config checkpoints number d.0
same_digest_test c checkpoints number d = elim (cases_Bool (is_stable c.config checkpoints number d.0)) [
  | inl t ↦ ap (is_digest d.0) (stable_is c.config checkpoints number d t) ∙ (bytes_eq-Decides d.0 d.0).1 refl ∙ sym t
  | inr f ↦ none_or (stable_digest c.config checkpoints number) refl f
] where
  none_or : (o : Option Digest) → stable_digest c.config checkpoints number ≡ o → is_stable c.config checkpoints number d.0 ≡ false → is_digest d.0 (stable_digest c.config checkpoints number) ≡ is_stable c.config checkpoints number d.0
  none_or None e f = ap (is_digest d.0) e ∙ sym f
  none_or (Some x) e f = elim (cases_Bool (is_digest d.0 (Some x))) [
    | inl t ↦ absurd (false≢true (sym f ∙ ap (is_stable c.config checkpoints number) (sym ((bytes_eq-Decides x.0 d.0).0 t)) ∙ is_stable_one c.config checkpoints number x e))
    | inr g ↦ ap (is_digest d.0) e ∙ g ∙ sym f
  ]

same_test : (k : KeptCheckpoints) (s : Core) (n : ℕ) (bytes : List ℕ) → HasTablesOf k s → may_rise (setup_of k.config) s n (sha256 bytes) ≡ is_raised k s.executed n bytes
same_test k s n bytes h =
    let c = setup_of k.config in
    let d : Digest = record { 0 = sha256 bytes } in
    ap (λ low. nat_lt low n && (nat_le n s.executed && is_stable c.config s.checkpoints n (sha256 bytes))) h.low
    ∙ ap (λ (table : Table (Signed Checkpoint)). nat_lt k.low n && (nat_le n s.executed && is_stable c.config table n (sha256 bytes))) h.checkpoints
    ∙ elim (cases_lt k.low n) [
      | inl lt ↦ ap (λ b. nat_lt k.low n && (nat_le n s.executed && b)) (sym (same_digest_test c k.checkpoints n d) ∙ ap (is_digest (sha256 bytes)) (sym (above_mark k n lt)))
      | inr le ↦
          ap (λ b. b && (nat_le n s.executed && is_stable c.config k.checkpoints n (sha256 bytes))) (le-ltb k.low n le)
          ∙ sym (ap (λ b. b && (nat_le n s.executed && is_digest (sha256 bytes) (stable_at k n))) (le-ltb k.low n le))
    ]

-- ---- the core's duty

abbrev rise_at : Setup → Core → ℕ → Option Duty
rise_at c s n = rise_with c s n (at s.snapshots (number_key n))

no_rise : (c : Setup) (s : Core) (es : Table (List ℕ)) → ((n : ℕ) → rise_at c s n ≡ None) → rise_among c s es ≡ None
no_rise c s [] h = refl
no_rise c s (e ∷ es) h = ap (λ o. or_else o (rise_at c s (first_in e.0))) (no_rise c s es h) ∙ h (first_in e.0)

above_first : (n : ℕ) (q : Key) → T (is_lt (by (number_key n) q)) → n ≤ first_in q
above_first n [] h = absurd h
above_first n (m ∷ r) h = elim (cases_lt m n) [
  | inr le ↦ le
  | inl lt ↦ absurd (subst (λ o. T (is_lt (ordering_then o (slice_cmp nat_cmp [] r)))) (cond-false (nat_lt n m) Less (cond (n == m) Equal Greater) (le-ltb n m (omega (arith, lt))) ∙ cond-false (n == m) Equal Greater (ne_eqb n m (λ is. absurd (omega (arith, is, lt))))) h)
]

first : (a b : Bool) → T (a && b) → T a
first true b h = tt
first false b h = absurd h

second : (a b : Bool) → T (a && b) → T b
second true b h = h
second false b h = absurd h

-- past the number nothing else is due
rest_of : (c : Setup) (s : Core) (n : ℕ) (duty : Duty) (es : Table (List ℕ)) → T (below_all by (number_key n) es) → rise_at c s n ≡ Some duty → ((m : ℕ) → n < m → rise_at c s m ≡ None) → (rise_among c s es ≡ None) ⊎ (rise_among c s es ≡ Some duty)
rest_of c s n duty [] h own later = inl refl
rest_of c s n duty (e ∷ es) h own later =
    let le = above_first n e.0 (first (is_lt (by (number_key n) e.0)) (below_all by (number_key n) es) h) in
    elim (rest_of c s n duty es (second (is_lt (by (number_key n) e.0)) (below_all by (number_key n) es) h) own later) [
      | inr some ↦ inr (ap (λ o. or_else o (rise_at c s (first_in e.0))) some)
      | inl none ↦ elim (cases_eq n (first_in e.0)) [
        | inl is ↦ inr (ap (λ o. or_else o (rise_at c s (first_in e.0))) none ∙ ap (rise_at c s) (sym is) ∙ own)
        | inr ne ↦ inl (ap (λ o. or_else o (rise_at c s (first_in e.0))) none ∙ later (first_in e.0) (omega (arith, le, ne)))
      ]
    ]

one_rise : (c : Setup) (s : Core) (n : ℕ) (bytes : List ℕ) (duty : Duty) (es : Table (List ℕ)) → T (is_sorted by es) → at es (number_key n) ≡ Some bytes → rise_at c s n ≡ Some duty → ((m : ℕ) → n < m → rise_at c s m ≡ None) → rise_among c s es ≡ Some duty
one_rise c s n bytes duty [] sorted is own later = none_some bytes is
one_rise c s n bytes duty (e ∷ es) sorted is own later = elim (cases_Bool (eq_by_cmp by (number_key n) e.0)) [
  | inl same ↦
      let key = same_key (number_key n) e.0 (is_equal (by (number_key n) e.0) same) in
      let below = subst (λ q. T (below_all by q es)) (sym key) (first (below_all by e.0 es) (is_sorted by es) sorted) in
      let here = ap (λ q. rise_at c s (first_in q)) (sym key) ∙ own in
      elim (rest_of c s n duty es below own later) [
        | inl none ↦ ap (λ o. or_else o (rise_at c s (first_in e.0))) none ∙ here
        | inr some ↦ ap (λ o. or_else o (rise_at c s (first_in e.0))) some
      ]
  | inr other ↦
      let found = sym (ap (λ b. cond b (Some e.1) (at es (number_key n))) other) ∙ is in
      ap (λ o. or_else o (rise_at c s (first_in e.0))) (one_rise c s n bytes duty es (second (below_all by e.0 es) (is_sorted by es) sorted) found own later)
]

rise_false : (k : KeptCheckpoints) (s : Core) (n : ℕ) (o : Option (List ℕ)) → HasTablesOf k s → ((bytes : List ℕ) → o ≡ Some bytes → is_raised k s.executed n bytes ≡ false) → rise_with (setup_of k.config) s n o ≡ None
rise_false k s n None h f = refl
rise_false k s n (Some bytes) h f = ap (λ b. cond b (Some (Do (Rise n (sha256 bytes)))) None) (same_test k s n bytes h ∙ f bytes refl)

not_risen : (k : KeptCheckpoints) (s : Core) (n : ℕ) → HasTablesOf k s → ((bytes : List ℕ) → at k.snapshots (number_key n) ≡ Some bytes → is_raised k s.executed n bytes ≡ false) → rise_at (setup_of k.config) s n ≡ None
not_risen k s n h f = rise_false k s n (at s.snapshots (number_key n)) h (λ bytes is. f bytes (ap (λ (t : Table (List ℕ)). at t (number_key n)) (sym h.snapshots) ∙ is))

pub none_due : (k : KeptCheckpoints) (e : ℕ) → NoneRaised k e → IsRaised k e None
none_due k e none s h is =
    no_rise (setup_of k.config) s s.snapshots
    (λ n. not_risen k s n h (λ bytes f. subst (λ e. is_raised k e n bytes ≡ false) (sym is) (none n bytes f)))

pub one_due : (k : KeptCheckpoints) (e : ℕ) (n : SeqNo) (d : Digest) → IsGreatestRaised k e n → stable_at k n.0 ≡ Some d → IsRaised k e (Some (Do (Rise n.0 d.0)))
one_due k e n d w stable s h is =
    let c = setup_of k.config in
    let here : is_raised k s.executed n.0 w.bytes ≡ true = subst (λ e. is_raised k e n.0 w.bytes ≡ true) (sym is) w.here in
    let kept : at s.snapshots (number_key n.0) ≡ Some w.bytes = ap (λ (t : Table (List ℕ)). at t (number_key n.0)) h.snapshots ∙ w.kept in
    let digest : d.0 ≡ sha256 w.bytes = digest_of k s.executed n.0 w.bytes d here stable in
    let own : rise_at c s n.0 ≡ Some (Do (Rise n.0 d.0))
    = ap (rise_with c s n.0) kept ∙ ap (λ b. cond b (Some (Do (Rise n.0 (sha256 w.bytes)))) None) (same_test k s n.0 w.bytes h ∙ here) ∙ ap (λ x. Some (Do (Rise n.0 x))) (sym digest) in
    one_rise c s n.0 w.bytes (Do (Rise n.0 d.0)) s.snapshots (subst (λ t. T (is_sorted by t)) (sym h.snapshots) (subst T (sym w.sorted) tt)) kept own
    (λ m lt. not_risen k s m h (λ bytes f. subst (λ e. is_raised k e m bytes ≡ false) (sym is) (w.later m bytes lt f))) where
      last_of : (a b x : Bool) → (a && (b && x)) ≡ true → x ≡ true
      last_of true true x e = e
      last_of true false x e = absurd cc
      last_of false b x e = absurd cc

      digest_of : (k : KeptCheckpoints) (e n : ℕ) (bytes : List ℕ) (d : Digest) → is_raised k e n bytes ≡ true → stable_at k n ≡ Some d → d.0 ≡ sha256 bytes
      digest_of k e n bytes d t stable =
          (bytes_eq-Decides d.0 (sha256 bytes)).0 (ap (is_digest (sha256 bytes)) (sym stable) ∙ last_of (nat_lt k.low n) (nat_le n e) (is_digest (sha256 bytes) (stable_at k n)) t)

-- a digest is stable at such a number
pub has_digest : (k : KeptCheckpoints) (e n : ℕ) (bytes : List ℕ) → is_raised k e n bytes ≡ true → stable_at k n ≡ None → ⊥
has_digest k e n bytes t none = false≢true (sym (all_false (nat_lt k.low n) (nat_le n e)) ∙ sym (ap (λ o. nat_lt k.low n && (nat_le n e && is_digest (sha256 bytes) o)) none) ∙ t) where
  all_false : (a b : Bool) → (a && (b && false)) ≡ false
  all_false true true = refl
  all_false true false = refl
  all_false false b = refl
