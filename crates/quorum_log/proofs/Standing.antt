-- What stands in the tables of a log, and where.
use Rattle.std.proofs.Common.{◌≡◌, ℕ, zero, suc, ◌+◌, ◌-◌, ◌<◌, ◌^◌, ◌≤◌, ◌==◌, Bool, true, false, cond, ◌||◌, ◌&&◌, List, [], ◌∷◌, length, map, Option, Some, None, refl, sym, ap, subst, ◌∙◌, arith, inl, inr, T}
use Rattle.std.specs.Prelude.{nat_lt, is_some, bytes_eq, filter, IfSome, IsSome}
use Rattle.std.specs.List.{AllByRecursion, list_any}
use Rattle.std.specs.Option.{option_map_or}
use Rattle.std.specs.declared.cmp.Ordering.{Ordering}
use Rattle.std.specs.declared.cmp.Ordering.TheVariants.{Less, Equal, Greater}
use Rattle.std.specs.Ordering.{eq_by_cmp, is_eq, is_lt}
use Rattle.std.specs.FinMap.{is_sorted}
use Rattle.std.specs.FinMap.Entries.{below_all}
use Rattle.std.proofs.lemmas.Bool.{cases_Bool, cases_lt, eq-eqb, eqb-true, le-ltb}
use Rattle.host_types.specs.Configuration.{Configuration, IsConfiguration}
use Rattle.host_types.specs.declared.SeqNo.{SeqNo}
use Rattle.pbft_codec.specs.declared.body.Body.{Body}
use Rattle.ballots.specs.Words.{Signed, PrePrepare}
use Rattle.ballots.specs.Tables.{Key, Table, at, entries_in, first_in, vote_key}
use Rattle.ballots.specs.Core.{names, of_view}
use Rattle.ballots.specs.Validity.{greatest_of}
use Rattle.seal.specs.Opening.{CheckedMessage}
use Rattle.seal.specs.declared.vote.VoteKind.{VoteKind}
use Rattle.seal.specs.declared.vote.VoteKind.TheVariants as kinds
use Rattle.quorum_log.specs.declared.view_slots.ViewSlots.{ViewSlots}
use Rattle.quorum_log.specs.declared.slot.Slot.{Slot}
use Rattle.ballots.specs.Ballots.{digest_in, is_digest}
use Rattle.quorum_log.specs.Log.{AreBetweenMarks, IsBetweenMarks}
use Rattle.quorum_log.specs.Reading.{AreKept, as_commit, as_pre_prepare, as_prepare, log_in, read_by, table_of}
use Rattle.quorum_log.specs.Slots.{IsSlotAt, IsVoteAt, digest_of_some, empty_slot, is_named, number_here, number_of_some, slot_in}
use Rattle.quorum_log.specs.Windows.{IsLastAt, IsLastNumber, IsNamedSomewhere, if_by, slot_of, slots_at, vote_by, vote_at_key, keys_by_number}
use Rattle.quorum_log.proofs.Accepting.{slot_was}
use Rattle.quorum_log.proofs.Asking.{Proposes, proposes}
use Rattle.quorum_log.proofs.Covering.{covers_table, either_none, left_false, right_false, no_vote}
use Rattle.quorum_log.proofs.KindReadings.{voter_small}
use Rattle.quorum_log.proofs.Logging.{read_at}
use Rattle.ballots.proofs.Tables.{by, found, same_key, is_equal, sorted_by, ties}
use Rattle.quorum_log.proofs.Windows.{beyond}

-- ---- the entries of a table

or_left : (a b : Bool) → a ≡ true → (a || b) ≡ true
or_left true b e = refl
or_left false b e = absurd cc

or_right : (a b : Bool) → b ≡ true → (a || b) ≡ true
or_right true b e = refl
or_right false b e = e

less : (o : Ordering) → T (is_lt o) → is_eq o ≡ false
less Less h = refl
less Equal h = absurd h
less Greater h = refl

first : (a b : Bool) → T (a && b) → T a
first true b h = tt
first false b h = absurd h

second : (a b : Bool) → T (a && b) → T b
second true b h = h
second false b h = absurd h

none_some : {X : Type 0} {P : Type 0} (x : X) → None ≡ Some x → P
none_some x e = absurd cc

below_none : {X : Type 0} (q : Key) (t : Table X) → T (below_all by q t) → at t q ≡ None
below_none q [] h = refl
below_none q (e ∷ t) h =
    ap (λ b. cond b (Some e.1) (at t q)) (less (by q e.0) (first (is_lt (by q e.0)) (below_all by q t) h))
    ∙ below_none q t (second (is_lt (by q e.0)) (below_all by q t) h)

-- what is found past the first entry is found
later : {X : Type 0} (y : Key × X) (t : Table X) (q : Key) (x : X) → T (below_all by y.0 t) → at t q ≡ Some x → at (y ∷ t) q ≡ Some x
later y t q x h e = elim (cases_Bool (eq_by_cmp by q y.0)) [
  | inl same ↦ none_some x (sym (below_none y.0 t h) ∙ ap (at t) (sym (same_key q y.0 (is_equal (by q y.0) same))) ∙ e)
  | inr other ↦ ap (λ b. cond b (Some y.1) (at t q)) other ∙ e
]

-- what holds of all that is found holds of each entry
all_found : {X : Type 0} (P : X → Type 0) (t : Table X) → T (is_sorted by t) → ((q : Key) (x : X) → at t q ≡ Some x → P x) → AllByRecursion P (entries_in t)
all_found P [] s h = tt
all_found P (y ∷ t) s h = (
  h y.0 y.1 (ap (λ b. cond b (Some y.1) (at t y.0)) (ties y.0)),
  all_found P t (second (below_all by y.0 t) (is_sorted by t) s) (λ q x e. h q x (later y t q x (first (below_all by y.0 t) (is_sorted by t) s) e)),
)

none_passes : {X : Type 0} (test : X → Bool) (xs : List X) → AllByRecursion (λ x. test x ≡ false) xs → list_any test xs ≡ false
none_passes test [] h = refl
none_passes test (x ∷ xs) h = ap (λ b. b || list_any test xs) h.0 ∙ none_passes test xs h.1

some_value : {X : Type 0} (x y : X) → Some x ≡ Some y → x ≡ y
some_value x y e = cc

any_found : {X : Type 0} (test : X → Bool) (t : Table X) (q : Key) (x : X) → at t q ≡ Some x → test x ≡ true → list_any test (entries_in t) ≡ true
any_found test [] q x e h = none_some x e
any_found test (y ∷ t) q x e h =
    elim (eq_by_cmp by q y.0) as (λ b. cond b (Some y.1) (at t q) ≡ Some x → (test y.1 || list_any test (entries_in t)) ≡ true) [
      | true ↦ λ e. or_left (test y.1) (list_any test (entries_in t)) (ap test (some_value y.1 x e) ∙ h)
      | false ↦ λ e. or_right (test y.1) (list_any test (entries_in t)) (any_found test t q x e h)
    ] e

-- ---- of some of the entries

pub any_of_some : {X : Type 0} (p test : X → Bool) (xs : List X) → list_any test (filter p xs) ≡ list_any (λ x. p x && test x) xs
any_of_some p test [] = refl
any_of_some p test (x ∷ xs) =
    elim (p x) as (λ b. list_any test (cond b (x ∷ filter p xs) (filter p xs)) ≡ ((b && test x) || list_any (λ x. p x && test x) xs)) [
      | true ↦ ap (λ b. test x || b) (any_of_some p test xs)
      | false ↦ any_of_some p test xs
    ]

greatest_le : {X : Type 0} (p : X → Bool) (f : X → ℕ) (n : ℕ) (xs : List X) → AllByRecursion (λ x. p x ≡ true → f x ≤ n) xs → greatest_of (map f (filter p xs)) ≤ n
greatest_le p f n [] h = omega arith
greatest_le p f n (x ∷ xs) h = elim (cases_Bool (p x)) [
  | inl t ↦ subst (λ b. greatest_of (map f (cond b (x ∷ filter p xs) (filter p xs))) ≤ n) (sym t) (omega (arith, h.0 t, greatest_le p f n xs h.1))
  | inr e ↦ subst (λ b. greatest_of (map f (cond b (x ∷ filter p xs) (filter p xs))) ≤ n) (sym e) (greatest_le p f n xs h.1)
]

greatest_more : {X : Type 0} (b : Bool) (f : X → ℕ) (x : X) (xs : List X) → greatest_of (map f xs) ≤ greatest_of (map f (cond b (x ∷ xs) xs))
greatest_more true f x xs = omega arith
greatest_more false f x xs = omega arith

greatest_ge : {X : Type 0} (p : X → Bool) (f : X → ℕ) (t : Table X) (q : Key) (x : X) → at t q ≡ Some x → p x ≡ true → f x ≤ greatest_of (map f (filter p (entries_in t)))
greatest_ge p f [] q x e h = none_some x e
greatest_ge p f (y ∷ t) q x e h =
    let rest : List _ = filter p (entries_in t) in
    elim (eq_by_cmp by q y.0) as (λ b. cond b (Some y.1) (at t q) ≡ Some x → f x ≤ greatest_of (map f (cond (p y.1) (y.1 ∷ rest) rest))) [
      | true ↦ λ e. let same = some_value y.1 x e in subst (λ b. f x ≤ greatest_of (map f (cond b (y.1 ∷ rest) rest))) (sym (ap p same ∙ h)) (omega (arith, ap f same))
      | false ↦ λ e. let le = greatest_ge p f t q x e h in omega (arith, le, greatest_more (p y.1) f y.1 rest)
    ] e

-- ---- PrePrepares

abbrev pub proposals : ℕ → List ViewSlots → Table (Signed PrePrepare)
proposals low numbers = table_of as_pre_prepare kinds.PrePrepare low numbers

-- The PrePrepare is that of the slot of this view at this index.
pub record IsHere (low : ℕ) (numbers : List ViewSlots) (i view : ℕ) (x : Signed PrePrepare) : Type 0 where
  pub named : (digest : List ℕ) → is_named digest (slots_at numbers i view) ≡ bytes_eq x.body.digest.0 digest
  pub number : number_here (slots_at numbers i view) ≡ Some x.body.number
  pub view_is : x.body.view.0 ≡ view
  pub number_is : x.body.number.0 ≡ low + 1 + i

here : (c : Configuration) (low : ℕ) (numbers : List ViewSlots) (i view : ℕ) (m : CheckedMessage) (x : Signed PrePrepare) → (slots_at numbers i view).pre_prepare ≡ Some m → IsVoteAt c kinds.PrePrepare view (low + 1 + i) m
    → as_pre_prepare m.message m.message.body ≡ Some x → IsHere low numbers i view x
here c low numbers i view m x e vote reads =
    let p : Proposes c view (low + 1 + i) m = proposes c view (low + 1 + i) m vote m.message.body refl in
    let same : p.body ≡ x.body = ap (λ (x : Signed PrePrepare). x.body) (some_value _ x (sym (ap (as_pre_prepare m.message) p.is) ∙ reads)) in
    record {
      named = λ digest. ap (λ o. is_digest digest (digest_of_some o)) e ∙ ap (λ b. is_digest digest (digest_in b)) p.is ∙ ap (λ (b : PrePrepare). bytes_eq b.digest.0 digest) same;
      number = ap number_of_some e ∙ ap (λ b. number_of_some (Some (record m { message = record m.message { body = b } }))) p.is ∙ ap (λ (b : PrePrepare). Some b.number) same;
      view_is = ap (λ (b : PrePrepare). b.view.0) (sym same) ∙ p.view_is;
      number_is = ap (λ (b : PrePrepare). b.number.0) (sym same) ∙ p.number_is;
    }

vote_here : (c : Configuration) (low : ℕ) (numbers : List ViewSlots) (i view : ℕ) (m : CheckedMessage) → AreKept c low numbers → (slots_at numbers i view).pre_prepare ≡ Some m → IsVoteAt c kinds.PrePrepare view (low + 1 + i) m
vote_here c low numbers i view m h e =
    let number : ℕ = low + 1 + i in
    let index : number - low - 1 ≡ i = omega arith in
    (h.slots number view).pre_prepare m
    (ap (λ (s : Slot). s.pre_prepare) (slot_was low number view numbers (omega arith) ∙ ap (λ i. slots_at numbers i view) index) ∙ e)

-- what is read is a vote's reading
record IsRead (o : Option CheckedMessage) (x : Signed PrePrepare) : Type 0 where
  pub vote : CheckedMessage
  pub is : o ≡ Some vote
  pub reads : as_pre_prepare vote.message vote.message.body ≡ Some x

is_read : (o : Option CheckedMessage) (x : Signed PrePrepare) → read_by as_pre_prepare o ≡ Some x → IsRead o x
is_read None x e = none_some x e
is_read (Some m) x e = record { vote = m; is = refl; reads = e }

if_true : {X : Type 0} (b : Bool) (o : Option X) (x : X) → cond b o None ≡ Some x → o ≡ Some x
if_true true o x e = e
if_true false o x e = none_some x e

by_signer : (signer : ℕ) (o : Option CheckedMessage) (m : CheckedMessage) → if_by signer o ≡ Some m → o ≡ Some m
by_signer signer None m e = none_some m e
by_signer signer (Some x) m e = if_true (x.message.id == signer) (Some x) m e

-- where an entry stands
pub record StandsSomewhere (low : ℕ) (numbers : List ViewSlots) (x : Signed PrePrepare) : Type 0 where
  pub index : ℕ
  pub view : ℕ
  pub here : IsHere low numbers index view x

slot_stands : (c : Configuration) (low : ℕ) (numbers : List ViewSlots) (number view : ℕ) (m : CheckedMessage) (x : Signed PrePrepare) → AreKept c low numbers → (slot_of low numbers number view).pre_prepare ≡ Some m
    → as_pre_prepare m.message m.message.body ≡ Some x → StandsSomewhere low numbers x
slot_stands c low numbers number view m x h e reads = elim (cases_lt low number) [
  | inl above ↦
      let i : ℕ = number - low - 1 in
      let there = ap (λ (s : Slot). s.pre_prepare) (sym (slot_was low number view numbers above)) ∙ e in
      record { index = i; view = view; here = here c low numbers i view m x there (vote_here c low numbers i view m h there) reads }
  | inr under ↦ none_some m (ap (λ b. (cond b (slots_at numbers (number - low - 1) view) empty_slot).pre_prepare) (sym (le-ltb low number under)) ∙ e)
]

entry_stands : (c : Configuration) (low : ℕ) (numbers : List ViewSlots) (q : Key) (x : Signed PrePrepare) → AreKept c low numbers → read_by as_pre_prepare (vote_at_key kinds.PrePrepare low numbers q) ≡ Some x → StandsSomewhere low numbers x
entry_stands c low numbers [] x h e = none_some x e
entry_stands c low numbers (number ∷ []) x h e = none_some x e
entry_stands c low numbers (number ∷ view ∷ []) x h e = none_some x e
entry_stands c low numbers (number ∷ view ∷ signer ∷ []) x h e =
    let r = is_read (vote_at_key kinds.PrePrepare low numbers (number ∷ view ∷ signer ∷ [])) x e in
    slot_stands c low numbers number view r.vote x h
    (by_signer signer (slot_of low numbers number view).pre_prepare r.vote (if_true (nat_lt signer 10) (vote_by kinds.PrePrepare signer (slot_of low numbers number view)) r.vote r.is)) r.reads
entry_stands c low numbers (number ∷ view ∷ signer ∷ more ∷ rest) x h e = none_some x e

-- each entry stands somewhere
pub all_stand : (c : Configuration) (low : ℕ) (numbers : List ViewSlots) (P : Signed PrePrepare → Type 0) → AreKept c low numbers → ((i view : ℕ) (x : Signed PrePrepare) → IsHere low numbers i view x → P x) → AllByRecursion P (entries_in (proposals low numbers))
all_stand c low numbers P h f =
    let value : Key → Option (Signed PrePrepare) = λ q. read_by as_pre_prepare (vote_at_key kinds.PrePrepare low numbers q) in
    all_found P (proposals low numbers) (sorted_by value (keys_by_number low numbers))
    (λ q x e. let s = entry_stands c low numbers q x h (sym (found value (keys_by_number low numbers) q (covers_table as_pre_prepare kinds.PrePrepare low numbers)) ∙ e) in f s.index s.view x s.here)

-- what stands somewhere is an entry
pub record IsEntered (low : ℕ) (numbers : List ViewSlots) (i view : ℕ) : Type 0 where
  pub key : Key
  pub entry : Signed PrePrepare
  pub found : at (proposals low numbers) key ≡ Some entry
  pub here : IsHere low numbers i view entry

entered_there : (c : Configuration) (low : ℕ) (numbers : List ViewSlots) (i view : ℕ) (m : CheckedMessage) → IsConfiguration c → AreKept c low numbers → (slots_at numbers i view).pre_prepare ≡ Some m → IsEntered low numbers i view
entered_there c low numbers i view m k h e =
    let number : ℕ = low + 1 + i in
    let vote = vote_here c low numbers i view m h e in
    let p : Proposes c view number m = proposes c view number m vote m.message.body refl in
    let x : Signed PrePrepare = record { role = m.message.role; id = m.message.id; body = p.body; sig = m.message.sig } in
    let reads : as_pre_prepare m.message m.message.body ≡ Some x = ap (as_pre_prepare m.message) p.is in
    let index : number - low - 1 ≡ i = omega arith in
    let there : (slot_of low numbers number view).pre_prepare ≡ Some m = ap (λ (s : Slot). s.pre_prepare) (slot_was low number view numbers (omega arith) ∙ ap (λ i. slots_at numbers i view) index) ∙ e in
    record {
      key = vote_key number view m.message.id;
      entry = x;
      found = read_at as_pre_prepare kinds.PrePrepare low number view m.message.id numbers (voter_small c view number kinds.PrePrepare m k vote)
          ∙ ap (λ o. read_by as_pre_prepare (if_by m.message.id o)) there ∙ ap (λ b. read_by as_pre_prepare (cond b (Some m) None)) (eq-eqb m.message.id m.message.id refl) ∙ reads;
      here = here c low numbers i view m x e vote reads;
    }

entered_if : (c : Configuration) (low : ℕ) (numbers : List ViewSlots) (i view : ℕ) (o : Option CheckedMessage) → IsConfiguration c → AreKept c low numbers → (slots_at numbers i view).pre_prepare ≡ o → is_some o ≡ true → IsEntered low numbers i view
entered_if c low numbers i view None k h e t = absurd cc
entered_if c low numbers i view (Some m) k h e t = entered_there c low numbers i view m k h e

named_some : (digest : List ℕ) (o : Option CheckedMessage) → is_digest digest (digest_of_some o) ≡ true → is_some o ≡ true
named_some digest None e = absurd cc
named_some digest (Some m) e = refl

numbered_some : (n : SeqNo) (o : Option CheckedMessage) → number_of_some o ≡ Some n → is_some o ≡ true
numbered_some n None e = none_some n e
numbered_some n (Some m) e = refl

named_entered : (c : Configuration) (low : ℕ) (numbers : List ViewSlots) (i view : ℕ) (digest : List ℕ) → IsConfiguration c → AreKept c low numbers → is_named digest (slots_at numbers i view) ≡ true → IsEntered low numbers i view
named_entered c low numbers i view digest k h e = entered_if c low numbers i view (slots_at numbers i view).pre_prepare k h refl (named_some digest (slots_at numbers i view).pre_prepare e)

numbered_entered : (c : Configuration) (low : ℕ) (numbers : List ViewSlots) (i view : ℕ) (n : SeqNo) → IsConfiguration c → AreKept c low numbers → number_here (slots_at numbers i view) ≡ Some n → IsEntered low numbers i view
numbered_entered c low numbers i view n k h e = entered_if c low numbers i view (slots_at numbers i view).pre_prepare k h refl (numbered_some n (slots_at numbers i view).pre_prepare e)

-- ---- what is asked of the PrePrepares

abbrev names_it : List ℕ → Signed PrePrepare → Bool
names_it digest m = bytes_eq m.body.digest.0 digest

abbrev is_of : ℕ → Signed PrePrepare → Bool
is_of view m = m.body.view.0 == view

pub names_is : (c : Configuration) (low : ℕ) (numbers : List ViewSlots) (digest : List ℕ) (answer : Bool) → IsConfiguration c → AreKept c low numbers → IsNamedSomewhere digest numbers answer → answer ≡ names (entries_in (proposals low numbers)) digest
names_is c low numbers digest true k h w =
    let e = named_entered c low numbers w.0 w.1 digest k h w.2 in
    sym (any_found (names_it digest) (proposals low numbers) e.key e.entry e.found (sym (e.here.named digest) ∙ w.2))
names_is c low numbers digest false k h f =
    sym (none_passes (names_it digest) (entries_in (proposals low numbers)) (all_stand c low numbers (λ x. names_it digest x ≡ false) h (λ i view x is. sym (is.named digest) ∙ f i view)))

both : (a b : Bool) → a ≡ true → b ≡ true → (a && b) ≡ true
both true b e f = f
both false b e f = absurd cc

never_both : (a b : Bool) → b ≡ false → (a && b) ≡ false
never_both true b e = e
never_both false b e = refl

slots_named : (digest : List ℕ) (view : ℕ) (numbers : List ViewSlots) → list_any (λ p. is_named digest (slot_in p.slots view)) numbers ≡ true → (i : ℕ) × (is_named digest (slots_at numbers i view) ≡ true)
slots_named digest view [] e = absurd cc
slots_named digest view (p ∷ numbers) e = elim (cases_Bool (is_named digest (slot_in p.slots view))) [
  | inl t ↦ (0, t)
  | inr f ↦ let w = slots_named digest view numbers (sym (ap (λ b. b || list_any (λ p. is_named digest (slot_in p.slots view)) numbers) f) ∙ e) in (suc w.0, w.1)
]

no_slots_named : (digest : List ℕ) (view : ℕ) (numbers : List ViewSlots) → list_any (λ p. is_named digest (slot_in p.slots view)) numbers ≡ false → (i : ℕ) → is_named digest (slots_at numbers i view) ≡ false
no_slots_named digest view [] e i = refl
no_slots_named digest view (p ∷ numbers) e zero = left_false (is_named digest (slot_in p.slots view)) (list_any (λ p. is_named digest (slot_in p.slots view)) numbers) e
no_slots_named digest view (p ∷ numbers) e (suc i) = no_slots_named digest view numbers (right_false (is_named digest (slot_in p.slots view)) (list_any (λ p. is_named digest (slot_in p.slots view)) numbers) e) i

-- a PrePrepare of a view stands in a slot of that view
same_view : (low : ℕ) (numbers : List ViewSlots) (i v view : ℕ) (x : Signed PrePrepare) → IsHere low numbers i v x → is_of view x ≡ true → v ≡ view
same_view low numbers i v view x is e = sym is.view_is ∙ eqb-true x.body.view.0 view e

pub names_in_is : (c : Configuration) (low : ℕ) (numbers : List ViewSlots) (view : ℕ) (digest : List ℕ) (answer : Bool) → IsConfiguration c → AreKept c low numbers → answer ≡ list_any (λ p. is_named digest (slot_in p.slots view)) numbers
    → answer ≡ names (of_view view (entries_in (proposals low numbers))) digest
names_in_is c low numbers view digest true k h answers =
    let w = slots_named digest view numbers (sym answers) in
    let e = named_entered c low numbers w.0 view digest k h w.1 in
    sym (any_of_some (is_of view) (names_it digest) (entries_in (proposals low numbers))
    ∙ any_found (λ x. is_of view x && names_it digest x) (proposals low numbers) e.key e.entry e.found (both (is_of view e.entry) (names_it digest e.entry) (eq-eqb e.entry.body.view.0 view e.here.view_is) (sym (e.here.named digest) ∙ w.1)))
names_in_is c low numbers view digest false k h answers =
    let none = no_slots_named digest view numbers (sym answers) in
    sym (any_of_some (is_of view) (names_it digest) (entries_in (proposals low numbers))
    ∙ none_passes (λ x. is_of view x && names_it digest x) (entries_in (proposals low numbers)) (all_stand c low numbers (λ x. (is_of view x && names_it digest x) ≡ false) h (λ i v x is. elim (cases_Bool (is_of view x)) [
      | inl t ↦ never_both (is_of view x) (names_it digest x) (sym (is.named digest) ∙ ap (λ v. is_named digest (slots_at numbers i v)) (same_view low numbers i v view x is t) ∙ none i)
      | inr f ↦ ap (λ b. b && names_it digest x) f
    ])))

-- the last number that has one
last_number : (c : Configuration) (low : ℕ) (numbers : List ViewSlots) (view : ℕ) (n : SeqNo) → IsConfiguration c → AreKept c low numbers → (w : IsLastAt view numbers n) → n.0 ≡ low + 1 + w.index
last_number c low numbers view n k h w =
    let e = numbered_entered c low numbers w.index view n k h w.here in
    ap (λ (n : SeqNo). n.0) (some_value n e.entry.body.number (sym w.here ∙ e.here.number)) ∙ e.here.number_is

numbers_le : (c : Configuration) (low : ℕ) (numbers : List ViewSlots) (view most : ℕ) → AreKept c low numbers → ((i : ℕ) (n : SeqNo) → number_here (slots_at numbers i view) ≡ Some n → low + 1 + i ≤ most)
    → greatest_of (map (λ m. m.body.number.0) (of_view view (entries_in (proposals low numbers)))) ≤ most
numbers_le c low numbers view most h f =
    greatest_le (is_of view) (λ m. m.body.number.0) most (entries_in (proposals low numbers))
    (all_stand c low numbers (λ x. is_of view x ≡ true → x.body.number.0 ≤ most) h (λ i v x is t.
    let le = f i x.body.number (ap (λ v. number_here (slots_at numbers i v)) (sym (same_view low numbers i v view x is t)) ∙ is.number) in omega (arith, le, is.number_is)))

pub greatest_is : (c : Configuration) (low : ℕ) (numbers : List ViewSlots) (view : ℕ) (answer : Option SeqNo) → IsConfiguration c → AreKept c low numbers → IsLastNumber view numbers answer
    → option_map_or (λ n. n.0) answer 0 ≡ greatest_of (map (λ m. m.body.number.0) (of_view view (entries_in (proposals low numbers))))
greatest_is c low numbers view None k h none =
    let le = numbers_le c low numbers view 0 h (λ i n e. none_some n (sym (none i) ∙ e)) in omega (arith, le)
greatest_is c low numbers view (Some n) k h w =
    let e = numbered_entered c low numbers w.index view n k h w.here in
    let is = last_number c low numbers view n k h w in
    let own = e.here.number_is in
    let ge = greatest_ge (is_of view) (λ m. m.body.number.0) (proposals low numbers) e.key e.entry e.found (eq-eqb e.entry.body.view.0 view e.here.view_is) in
    let le = numbers_le c low numbers view n.0 h (λ i m f. elim (cases_lt w.index i) [ inl above ↦ none_some m (sym (w.later i above) ∙ f) | inr below ↦ omega (arith, below, is) ]) in
    omega (arith, le, ge, is, own)

small_here : (c : Configuration) (low : ℕ) (numbers : List ViewSlots) (i view : ℕ) (o : Option CheckedMessage) → AreKept c low numbers → (slots_at numbers i view).pre_prepare ≡ o → is_some o ≡ true → low + 1 + i < 2 ^ 48
small_here c low numbers i view None h e t = absurd cc
small_here c low numbers i view (Some m) h e t =
    let vote = vote_here c low numbers i view m h e in
    let small = vote.proper.number in
    let own = vote.of_number in
    omega (arith, small, own)

pub greatest_inside : (c : Configuration) (v : ℕ) (floor : Option SeqNo) (low : ℕ) (numbers : List ViewSlots) (view : ℕ) (answer : Option SeqNo) → IsConfiguration c → AreKept c low numbers → IsLastNumber view numbers answer
    → IfSome answer (λ n. IsBetweenMarks (record { config = c; log = log_in v floor low numbers }) n.0)
greatest_inside c v floor low numbers view None k h none = tt
greatest_inside c v floor low numbers view (Some n) k h w =
    let is = last_number c low numbers view n k h w in
    elim (cases_lt w.index (length numbers)) [
      | inl lt ↦
          let small = small_here c low numbers w.index view (slots_at numbers w.index view).pre_prepare h refl (numbered_some n (slots_at numbers w.index view).pre_prepare w.here) in
          record { above = omega (arith, is); within = omega (arith, is, lt, h.span); small = omega (arith, is, small) }
      | inr le ↦ none_some n (sym (ap number_here (beyond numbers w.index view le)) ∙ w.here)
    ]

-- ---- between the marks

nothing_there : (kind : VoteKind) (low : ℕ) (numbers : List ViewSlots) (number view signer : ℕ) → slot_of low numbers number view ≡ empty_slot → vote_at_key kind low numbers (number ∷ view ∷ signer ∷ []) ≡ None
nothing_there kind low numbers number view signer e =
    either_none (nat_lt signer 10) (vote_by kind signer (slot_of low numbers number view)) (ap (vote_by kind signer) e ∙ no_vote kind signer)

not_none : {X : Type 0} {P : Type 0} (o : Option X) → o ≡ None → IsSome o → P
not_none None e h = absurd cc
not_none (Some x) e h = absurd cc

-- the vote of a slot
voted : (c : Configuration) (kind : VoteKind) (view number signer : ℕ) (s : Slot) (m : CheckedMessage) → IsSlotAt c view number s → vote_by kind signer s ≡ Some m → IsVoteAt c kind view number m
voted c kinds.PrePrepare view number signer s m h e = h.pre_prepare m (by_signer signer s.pre_prepare m e)
voted c kinds.Prepare view number signer s m h e = (h.prepares signer m e).0
voted c kinds.Commit view number signer s m h e = (h.commits signer m e).0

some_read : {B : Type 0} (pick : Signed Body → Body → Option (Signed B)) (o : Option CheckedMessage) → IsSome (read_by pick o) → (m : CheckedMessage) × (o ≡ Some m)
some_read pick None s = absurd cc
some_read pick (Some m) s = (m, refl)

small_at : {B : Type 0} (pick : Signed Body → Body → Option (Signed B)) (kind : VoteKind) (c : Configuration) (low : ℕ) (numbers : List ViewSlots) (number view signer : ℕ) → AreKept c low numbers
    → IsSome (read_by pick (vote_at_key kind low numbers (number ∷ view ∷ signer ∷ []))) → number < 2 ^ 48
small_at pick kind c low numbers number view signer h s =
    let w = some_read pick (vote_at_key kind low numbers (number ∷ view ∷ signer ∷ [])) s in
    let vote = voted c kind view number signer (slot_of low numbers number view) w.0 (h.slots number view) (if_true (nat_lt signer 10) (vote_by kind signer (slot_of low numbers number view)) w.0 w.1) in
    let small = vote.proper.number in
    let own = vote.of_number in
    omega (arith, small, own)

inside_at : {B : Type 0} (pick : Signed Body → Body → Option (Signed B)) (kind : VoteKind) (c : Configuration) (v : ℕ) (floor : Option SeqNo) (low : ℕ) (numbers : List ViewSlots) (key : Key) → AreKept c low numbers
    → IsSome (read_by pick (vote_at_key kind low numbers key)) → IsBetweenMarks (record { config = c; log = log_in v floor low numbers }) (first_in key)
inside_at pick kind c v floor low numbers [] h s = absurd cc
inside_at pick kind c v floor low numbers (number ∷ []) h s = absurd cc
inside_at pick kind c v floor low numbers (number ∷ view ∷ []) h s = absurd cc
inside_at pick kind c v floor low numbers (number ∷ view ∷ signer ∷ []) h s = elim (cases_lt low number) [
  | inl above ↦ elim (cases_lt (number - low - 1) (length numbers)) [
    | inl lt ↦ record { above = above; within = omega (arith, above, lt, h.span); small = small_at pick kind c low numbers number view signer h s }
    | inr le ↦ not_none (read_by pick (vote_at_key kind low numbers (number ∷ view ∷ signer ∷ [])))
        (ap (read_by pick) (nothing_there kind low numbers number view signer (slot_was low number view numbers above ∙ beyond numbers (number - low - 1) view le))) s
  ]
  | inr under ↦ not_none (read_by pick (vote_at_key kind low numbers (number ∷ view ∷ signer ∷ [])))
      (ap (read_by pick) (nothing_there kind low numbers number view signer (ap (λ b. cond b (slots_at numbers (number - low - 1) view) empty_slot) (le-ltb low number under)))) s
]
inside_at pick kind c v floor low numbers (number ∷ view ∷ signer ∷ more ∷ rest) h s = absurd cc

inside_table : {B : Type 0} (pick : Signed Body → Body → Option (Signed B)) (kind : VoteKind) (c : Configuration) (v : ℕ) (floor : Option SeqNo) (low : ℕ) (numbers : List ViewSlots) (key : Key) → AreKept c low numbers
    → IsSome (at (table_of pick kind low numbers) key) → IsBetweenMarks (record { config = c; log = log_in v floor low numbers }) (first_in key)
inside_table pick kind c v floor low numbers key h s =
    inside_at pick kind c v floor low numbers key h
    (subst (λ o. IsSome o) (found (λ q. read_by pick (vote_at_key kind low numbers q)) (keys_by_number low numbers) key (covers_table pick kind low numbers)) s)

pub are_between_marks : (c : Configuration) (v : ℕ) (floor : Option SeqNo) (low : ℕ) (numbers : List ViewSlots) → AreKept c low numbers → AreBetweenMarks (record { config = c; log = log_in v floor low numbers })
are_between_marks c v floor low numbers h = record {
  pre_prepares = λ key s. inside_table as_pre_prepare kinds.PrePrepare c v floor low numbers key h s;
  prepares = λ key s. inside_table as_prepare kinds.Prepare c v floor low numbers key h s;
  commits = λ key s. inside_table as_commit kinds.Commit c v floor low numbers key h s;
}
