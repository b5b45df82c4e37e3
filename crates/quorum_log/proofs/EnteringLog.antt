-- The log as a view is entered.
use Rattle.std.proofs.Common.{◌≡◌, ◌≢◌, ℕ, zero, suc, ◌+◌, ◌-◌, ◌<◌, ◌≤◌, ◌==◌, Bool, true, false, cond, not, ◌&&◌, ◌||◌, List, Bor, [], ◌∷◌, ◌++◌, get_or, map, length, Option, Some, None, refl, sym, ap, subst, ◌∙◌, arith, ◌⊎◌, inl, inr}
use Rattle.std.specs.Prelude.{IfSome, is_some, nat_lt, slice_get}
use Rattle.std.specs.Ordering.{eq_by_cmp}
use Rattle.std.specs.List.{cons_option}
use Rattle.std.specs.Option.{option_copied, option_map}
use Rattle.std.specs.FinMap.Entries.{find-where_key}
use Rattle.std.proofs.lemmas.Bool.{cases_eq, cases_lt, eq-eqb, ne_eqb, eqb-true, lt-ltb, le-ltb, ltb-true}
use Rattle.std.proofs.lemmas.Option.{slice_get-map}
use Rattle.host_types.specs.Configuration.{Configuration}
use Rattle.host_types.specs.declared.SeqNo.{SeqNo}
use Rattle.pbft_codec.specs.declared.body.Body.{Body}
use Rattle.ballots.specs.Words.{Signed, PrePrepare}
use Rattle.ballots.specs.Acts.{is_of_entered, with_body}
use Rattle.ballots.specs.Tables.{Key, Table, add_if, at, keep, vote_key}
use Rattle.seal.specs.Lists.{under}
use Rattle.seal.specs.Opening.{CheckedMessage}
use Rattle.seal.specs.Votes.{vote_of, vote_in}
use Rattle.seal.specs.declared.vote.Vote.{Vote}
use Rattle.seal.specs.declared.vote.VoteKind.{VoteKind}
use Rattle.seal.specs.declared.vote.VoteKind.TheVariants as kinds
use Rattle.quorum_log.specs.declared.view_slots.ViewSlots.{ViewSlots}
use Rattle.quorum_log.specs.declared.slot.Slot.{Slot}
use Rattle.quorum_log.specs.Entering.{AreEntered, AreProper, IsProper, entered_slot, offered_for}
use Rattle.quorum_log.specs.Log.{AreProposals, IsProposal, Log, as_pre_prepare, is_within, pre_prepares_in, with_all}
use Rattle.quorum_log.specs.Reading.{AreKept, read_by, table_of}
use Rattle.quorum_log.specs.Slots.{IsSlotAt, IsVoteAt, empty_slot}
use Rattle.quorum_log.specs.Windows.{keys_by_number, slot_of, slots_at, vote_at_key, vote_by}
use Rattle.quorum_log.proofs.Accepting.{apart_keys, not_tied, number_of, signer_of, slot_was}
use Rattle.quorum_log.proofs.Covering.{covers_table, no_vote}
use Rattle.quorum_log.proofs.EnteringSlots.{none_past}
use Rattle.quorum_log.proofs.Slots.{slot_none}
use Rattle.ballots.proofs.Tables.{at_add, by, found, kept_table, same_key, ties}
use Rattle.quorum_log.proofs.Windows.{beyond}

-- ---- the slots

pub inside_slot : (low floor view : ℕ) (ms : List CheckedMessage) (numbers news : List ViewSlots) (n v : ℕ) → AreEntered (length numbers) low floor view ms numbers news → low < n → n ≤ low + length numbers
    → slot_of low news n v ≡ entered_slot view (nat_lt floor n) (nat_lt (floor + length ms) n) (offered_for floor ms n) v (slot_of low numbers n v)
inside_slot low floor view ms numbers news n v h lt le =
    let back : low + 1 + (n - low - 1) ≡ n = omega (arith, lt) in
    slot_was low n v news lt ∙ h.slots (n - low - 1) v (omega (arith, lt, le))
    ∙ ap (λ m. entered_slot view (nat_lt floor m) (nat_lt (floor + length ms) m) (offered_for floor ms m) v (slots_at numbers (n - low - 1) v)) back
    ∙ sym (ap (entered_slot view (nat_lt floor n) (nat_lt (floor + length ms) n) (offered_for floor ms n) v) (slot_was low n v numbers lt))

below_slot : (low : ℕ) (numbers : List ViewSlots) (n v : ℕ) → n ≤ low → slot_of low numbers n v ≡ empty_slot
below_slot low numbers n v le = ap (λ b. cond b (slots_at numbers (n - low - 1) v) empty_slot) (le-ltb low n le)

past_slot : (low : ℕ) (numbers : List ViewSlots) (n v : ℕ) → low + length numbers < n → slot_of low numbers n v ≡ empty_slot
past_slot low numbers n v lt = slot_was low n v numbers (omega (arith, lt)) ∙ beyond numbers (n - low - 1) v (omega (arith, lt))

-- between the marks, or not
pub data Where (low : ℕ) (numbers news : List ViewSlots) (n : ℕ) : Type 0 where
  inside : low < n → n ≤ low + length numbers → Where low numbers news n
  outside : (n ≤ low) ⊎ (low + length numbers < n) → ((v : ℕ) → slot_of low numbers n v ≡ empty_slot) → ((v : ℕ) → slot_of low news n v ≡ empty_slot) → Where low numbers news n

pub where_is : (low : ℕ) (numbers news : List ViewSlots) (n : ℕ) → length news ≡ length numbers → (low < n) ⊎ (n ≤ low) → (low + length numbers < n) ⊎ (n ≤ low + length numbers) → Where low numbers news n
where_is low numbers news n long (inr le) o = outside (inl le) (λ v. below_slot low numbers n v le) (λ v. below_slot low news n v le)
where_is low numbers news n long (inl lt) (inl past) = outside (inr past) (λ v. past_slot low numbers n v past) (λ v. past_slot low news n v (omega (arith, past, long)))
where_is low numbers news n long (inl lt) (inr le) = inside lt le

-- ---- Prepares and Commits

pub equal_other : (a b : ℕ) → (a == b) ≡ (b == a)
equal_other a b = pick (cases_eq a b) where
  pick : (a ≡ b) ⊎ (a ≢ b) → (a == b) ≡ (b == a)
  pick (inl e) = eq-eqb a b e ∙ sym (eq-eqb b a (sym e))
  pick (inr ne) = ne_eqb a b ne ∙ sym (ne_eqb b a (λ e. ne (sym e)))

pub prepare_entered : (s : ℕ) (slot : Slot) (given : Option CheckedMessage) (higher own above top : Bool)
    → vote_by kinds.Prepare s (cond higher slot (cond own (cond above (cond top slot (record slot { pre_prepare = given })) empty_slot) empty_slot)) ≡ cond (higher || (own && above)) (vote_by kinds.Prepare s slot) None
prepare_entered s slot given true own above top = refl
prepare_entered s slot given false true true true = refl
prepare_entered s slot given false true true false = refl
prepare_entered s slot given false true false top = no_vote kinds.Prepare s
prepare_entered s slot given false false above top = no_vote kinds.Prepare s

pub commit_entered : (s : ℕ) (slot : Slot) (given : Option CheckedMessage) (higher own above top : Bool)
    → vote_by kinds.Commit s (cond higher slot (cond own (cond above (cond top slot (record slot { pre_prepare = given })) empty_slot) empty_slot)) ≡ cond (higher || (own && above)) (vote_by kinds.Commit s slot) None
commit_entered s slot given true own above top = refl
commit_entered s slot given false true true true = refl
commit_entered s slot given false true true false = refl
commit_entered s slot given false true false top = no_vote kinds.Commit s
commit_entered s slot given false false above top = no_vote kinds.Commit s

-- of a kind whose votes stay above the floor
abbrev pub Stays : VoteKind → Type 0
Stays kind = (s : ℕ) (slot : Slot) (given : Option CheckedMessage) (higher own above top : Bool)
    → vote_by kind s (cond higher slot (cond own (cond above (cond top slot (record slot { pre_prepare = given })) empty_slot) empty_slot)) ≡ cond (higher || (own && above)) (vote_by kind s slot) None

pub none_either : {X : Type 0} (b : Bool) → ◌≡◌ {A = Option X} None (cond b None None)
none_either true = refl
none_either false = refl

pub read_if : {B : Type 0} (pick : Signed Body → Body → Option (Signed B)) (small b : Bool) (o : Option CheckedMessage) → read_by pick (cond small (cond b o None) None) ≡ cond b (read_by pick (cond small o None)) None
read_if pick true true o = refl
read_if pick true false o = refl
read_if pick false true o = refl
read_if pick false false o = refl

stays_at : {B : Type 0} (pick : Signed Body → Body → Option (Signed B)) (kind : VoteKind) (low floor view : ℕ) (ms : List CheckedMessage) (numbers news : List ViewSlots) → Stays kind → AreEntered (length numbers) low floor view ms numbers news → (n v s : ℕ) → Where low numbers news n
    → read_by pick (vote_at_key kind low news (vote_key n v s)) ≡ cond (is_of_entered view floor (vote_key n v s)) (read_by pick (vote_at_key kind low numbers (vote_key n v s))) None
stays_at pick kind low floor view ms numbers news k h n v s (inside lt le) =
    ap (λ slot. read_by pick (cond (nat_lt s 10) (vote_by kind s slot) None)) (inside_slot low floor view ms numbers news n v h lt le)
    ∙ ap (λ o. read_by pick (cond (nat_lt s 10) o None)) (k s (slot_of low numbers n v) (offered_for floor ms n) (nat_lt view v) (v == view) (nat_lt floor n) (nat_lt (floor + length ms) n))
    ∙ read_if pick (nat_lt s 10) (nat_lt view v || ((v == view) && nat_lt floor n)) (vote_by kind s (slot_of low numbers n v))
    ∙ ap (λ b. cond (nat_lt view v || (b && nat_lt floor n)) (read_by pick (vote_at_key kind low numbers (vote_key n v s))) None) (equal_other v view)
stays_at pick kind low floor view ms numbers news k h n v s (outside o empty empty_now) =
    let none = λ (slot : Slot) (e : slot ≡ empty_slot). ap (λ slot. read_by pick (cond (nat_lt s 10) (vote_by kind s slot) None)) e ∙ ap (λ o. read_by pick (cond (nat_lt s 10) o None)) (no_vote kind s) in
    none (slot_of low news n v) (empty_now v) ∙ small_none (nat_lt s 10)
    ∙ none_either (is_of_entered view floor (vote_key n v s))
    ∙ sym (ap (λ o. cond (is_of_entered view floor (vote_key n v s)) o None) (none (slot_of low numbers n v) (empty v) ∙ small_none (nat_lt s 10))) where
      small_none : (b : Bool) → read_by pick (cond b None None) ≡ None
      small_none true = refl
      small_none false = refl

stays_key : {B : Type 0} (pick : Signed Body → Body → Option (Signed B)) (kind : VoteKind) (low floor view : ℕ) (ms : List CheckedMessage) (numbers news : List ViewSlots) → Stays kind → AreEntered (length numbers) low floor view ms numbers news → (q : Key)
    → read_by pick (vote_at_key kind low news q) ≡ cond (is_of_entered view floor q) (read_by pick (vote_at_key kind low numbers q)) None
stays_key pick kind low floor view ms numbers news k h [] = none_either (is_of_entered view floor [])
stays_key pick kind low floor view ms numbers news k h (n ∷ []) = none_either (is_of_entered view floor (n ∷ []))
stays_key pick kind low floor view ms numbers news k h (n ∷ v ∷ []) = none_either (is_of_entered view floor (n ∷ v ∷ []))
stays_key pick kind low floor view ms numbers news k h (n ∷ v ∷ s ∷ []) = stays_at pick kind low floor view ms numbers news k h n v s (where_is low numbers news n h.as_long (cases_lt low n) (cases_lt (low + length numbers) n))
stays_key pick kind low floor view ms numbers news k h (n ∷ v ∷ s ∷ more ∷ rest) = none_either (is_of_entered view floor (n ∷ v ∷ s ∷ more ∷ rest))

pub stays_table : {B : Type 0} (pick : Signed Body → Body → Option (Signed B)) (kind : VoteKind) (low floor view : ℕ) (ms : List CheckedMessage) (numbers news : List ViewSlots) → Stays kind → AreEntered (length numbers) low floor view ms numbers news
    → table_of pick kind low news ≡ keep (is_of_entered view floor) (table_of pick kind low numbers)
stays_table pick kind low floor view ms numbers news k h =
    kept_table (is_of_entered view floor) (λ q. read_by pick (vote_at_key kind low numbers q)) (λ q. read_by pick (vote_at_key kind low news q)) (keys_by_number low numbers) (keys_by_number low news)
    (covers_table pick kind low numbers) (covers_table pick kind low news) (stays_key pick kind low floor view ms numbers news k h)

-- ---- the list of PrePrepares

-- they are for the numbers from this one on
abbrev pub AreNumbered : ℕ → ℕ → List (Signed PrePrepare) → Type 0
AreNumbered view number [] = Unit {0}
AreNumbered view number (y ∷ ys) = (y.body.view.0 ≡ view) × (y.body.number.0 ≡ number) × AreNumbered view (number + 1) ys

-- none is recorded for these numbers of the view
abbrev pub AreFree : ℕ → ℕ → ℕ → Table (Signed PrePrepare) → Type 0
AreFree view number top table = (n s : ℕ) → number ≤ n → n ≤ top → at table (vote_key n view s) ≡ None

abbrev pub added_one : Configuration → Log → Signed PrePrepare → Table (Signed PrePrepare) → Table (Signed PrePrepare)
added_one c l y table = add_if (is_within c l y.body.view.0 y.body.number.0) (vote_key y.body.number.0 y.body.view.0 y.id) y table

pub at_added : (key q : Key) (y : Signed PrePrepare) (table : Table (Signed PrePrepare)) (admitted : Bool) → at (add_if admitted key y table) q ≡ cond (admitted && (eq_by_cmp by q key && not (is_some (at table key)))) (Some y) (at table q)
at_added key q y table true = at_add key q y table (is_some (at table key))
at_added key q y table false = refl

-- elsewhere nothing changes
pub added_apart : (c : Configuration) (l : Log) (y : Signed PrePrepare) (table : Table (Signed PrePrepare)) (q : Key) → q ≢ vote_key y.body.number.0 y.body.view.0 y.id → at (added_one c l y table) q ≡ at table q
added_apart c l y table q ne =
    at_added (vote_key y.body.number.0 y.body.view.0 y.id) q y table (is_within c l y.body.view.0 y.body.number.0)
    ∙ ap (λ b. cond (is_within c l y.body.view.0 y.body.number.0 && (b && not (is_some (at table (vote_key y.body.number.0 y.body.view.0 y.id))))) (Some y) (at table q)) (not_tied q (vote_key y.body.number.0 y.body.view.0 y.id) ne)
    ∙ either (is_within c l y.body.view.0 y.body.number.0) where
      either : (b : Bool) → cond (b && false) (Some y) (at table q) ≡ at table q
      either true = refl
      either false = refl

-- a key that none of them has
abbrev pub IsOther : ℕ → ℕ → ℕ → Key → Type 0
IsOther view number many q = (n s : ℕ) → number ≤ n → n < number + many → q ≢ vote_key n view s

pub with_others : (c : Configuration) (l : Log) (view number : ℕ) (ys : List (Signed PrePrepare)) (table : Table (Signed PrePrepare)) (q : Key) → AreNumbered view number ys → IsOther view number (length ys) q → at (with_all c l ys table) q ≡ at table q
with_others c l view number [] table q h o = refl
with_others c l view number (y ∷ ys) table q h o =
    with_others c l view (number + 1) ys (added_one c l y table) q h.2 (λ n s le lt. o n s (omega (arith, le)) (omega (arith, lt)))
    ∙ added_apart c l y table q (λ e. o number y.id (omega arith) (omega arith) (e ∙ (λ i. h.1 i ∷ h.0 i ∷ y.id ∷ [])))

-- the key of the first of them
first_key : (c : Configuration) (l : Log) (view number s : ℕ) (y : Signed PrePrepare) (table : Table (Signed PrePrepare)) → y.body.view.0 ≡ view → y.body.number.0 ≡ number → at table (vote_key number view s) ≡ None → at table (vote_key number view y.id) ≡ None
    → (s ≡ y.id) ⊎ (s ≢ y.id) → at (added_one c l y table) (vote_key number view s) ≡ cond (is_within c l view number && (s == y.id)) (Some y) None
first_key c l view number s y table v n none none_own (inr ne) =
    added_apart c l y table (vote_key number view s) (λ e. ne (signer_of number view s y.body.number.0 y.body.view.0 y.id e)) ∙ none
    ∙ sym (ap (λ b. cond (is_within c l view number && b) (Some y) None) (ne_eqb s y.id ne) ∙ either (is_within c l view number)) where
      either : (b : Bool) → cond (b && false) (Some y) None ≡ None
      either true = refl
      either false = refl
first_key c l view number s y table v n none none_own (inl e) =
    let key = vote_key y.body.number.0 y.body.view.0 y.id in
    let same : vote_key number view s ≡ key = λ i. sym n i ∷ sym v i ∷ e i ∷ [] in
    let free : at table key ≡ None = ap (at table) (λ i. n i ∷ v i ∷ y.id ∷ []) ∙ none_own in
    at_added key (vote_key number view s) y table (is_within c l y.body.view.0 y.body.number.0)
    ∙ ap (λ b. cond (is_within c l y.body.view.0 y.body.number.0 && (b && not (is_some (at table key)))) (Some y) (at table (vote_key number view s))) (ap (λ q. eq_by_cmp by q key) same ∙ ties key)
    ∙ ap (λ o. cond (is_within c l y.body.view.0 y.body.number.0 && not (is_some o)) (Some y) (at table (vote_key number view s))) free
    ∙ ap (λ o. cond (is_within c l y.body.view.0 y.body.number.0 && true) (Some y) o) none
    ∙ (λ i. cond (is_within c l (v i) (n i) && true) (Some y) None)
    ∙ sym (ap (λ b. cond (is_within c l view number && b) (Some y) None) (eq-eqb s y.id e))

still_free : (c : Configuration) (l : Log) (view number top : ℕ) (y : Signed PrePrepare) (table : Table (Signed PrePrepare)) → y.body.number.0 ≡ number → AreFree view number top table → AreFree view (number + 1) top (added_one c l y table)
still_free c l view number top y table e h n s le up =
    added_apart c l y table (vote_key n view s) (λ f. absurd (omega (arith, le, e, number_of n view s y.body.number.0 y.body.view.0 y.id f))) ∙ h n s (omega (arith, le)) up

pub listed_key : (c : Configuration) (l : Log) (view number top s : ℕ) (ys : List (Signed PrePrepare)) (table : Table (Signed PrePrepare)) (j : ℕ) (y : Signed PrePrepare) → AreNumbered view number ys → AreFree view number top table → number + length ys ≤ top + 1
    → slice_get ys j ≡ Some y → at (with_all c l ys table) (vote_key (number + j) view s) ≡ cond (is_within c l view (number + j) && (s == y.id)) (Some y) None
listed_key c l view number top s [] table j y h free up e = absurd cc
listed_key c l view number top s (x ∷ ys) table zero y h free up e =
    let here : number + zero ≡ number = omega arith in
    let first : x ≡ y = the_same e in
    ap (λ n. at (with_all c l (x ∷ ys) table) (vote_key n view s)) here
    ∙ with_others c l view (number + 1) ys (added_one c l x table) (vote_key number view s) h.2 (λ n t le lt. apart_keys number view s n view t (inl (λ is. absurd (omega (arith, is, le)))))
    ∙ first_key c l view number s x table h.0 h.1 (free number s (omega arith) (omega (arith, up))) (free number x.id (omega arith) (omega (arith, up))) (cases_eq s x.id)
    ∙ ap (λ y. cond (is_within c l view number && (s == y.id)) (Some y) None) first
    ∙ ap (λ n. cond (is_within c l view n && (s == y.id)) (Some y) None) (sym here) where
      the_same : Some x ≡ Some y → x ≡ y
      the_same e = cc
listed_key c l view number top s (x ∷ ys) table (suc j) y h free up e =
    let next : (number + 1) + j ≡ number + suc j = omega arith in
    sym (ap (λ n. at (with_all c l (x ∷ ys) table) (vote_key n view s)) next)
    ∙ listed_key c l view (number + 1) top s ys (added_one c l x table) j y h.2 (still_free c l view number top x table h.1 free) (omega (arith, up)) e
    ∙ ap (λ n. cond (is_within c l view n && (s == y.id)) (Some y) None) next

-- ---- and the messages that they are in

one_proposal : (view number : ℕ) (m : Signed Body) → IsProposal view number m → (y : Signed PrePrepare) × (as_pre_prepare m m.body ≡ Some y) × (y.body.view.0 ≡ view) × (y.body.number.0 ≡ number) × (y.id ≡ m.id)
one_proposal view number m h = (with_body m h.body, ap (as_pre_prepare m) h.is, h.view_is, h.number_is, refl)

pub numbered : (view number : ℕ) (ms : List (Signed Body)) → AreProposals view number ms → AreNumbered view number (pre_prepares_in ms)
numbered view number [] h = tt
numbered view number (m ∷ ms) h =
    let y = one_proposal view number m h.0 in
    subst (λ o. AreNumbered view number (cons_option o (pre_prepares_in ms))) (sym y.1) (y.2, y.3, numbered view (number + 1) ms h.1)

pub as_many : (view number : ℕ) (ms : List (Signed Body)) → AreProposals view number ms → length (pre_prepares_in ms) ≡ length ms
as_many view number [] h = refl
as_many view number (m ∷ ms) h =
    let y = one_proposal view number m h.0 in
    ap (λ o. length (cons_option o (pre_prepares_in ms))) y.1 ∙ ap suc (as_many view (number + 1) ms h.1)

-- the one in the j-th message
pub read_listed : (c : Configuration) (view number : ℕ) (ms : List (Signed Body)) (j : ℕ) → AreProposals view number ms → read_by as_pre_prepare (slice_get (map (under c) ms) j) ≡ slice_get (pre_prepares_in ms) j
read_listed c view number [] j h = refl
read_listed c view number (m ∷ ms) zero h =
    let y = one_proposal view number m h.0 in
    y.1 ∙ sym (ap (λ o. slice_get (cons_option o (pre_prepares_in ms)) zero) y.1)
read_listed c view number (m ∷ ms) (suc j) h =
    let y = one_proposal view number m h.0 in
    read_listed c view (number + 1) ms j h.1 ∙ sym (ap (λ o. slice_get (cons_option o (pre_prepares_in ms)) (suc j)) y.1)

-- ---- PrePrepares

abbrev pub top_of : ℕ → List (Signed Body) → ℕ
top_of floor xs = floor + length xs

-- what a log has of PrePrepares before the list comes
abbrev pub Table_before : ℕ → ℕ → ℕ → List ViewSlots → Table (Signed PrePrepare)
Table_before view top low numbers = keep (is_of_entered view top) (table_of as_pre_prepare kinds.PrePrepare low numbers)

pub before_at : (view top low : ℕ) (numbers : List ViewSlots) (q : Key) → at (Table_before view top low numbers) q ≡ cond (is_of_entered view top q) (read_by as_pre_prepare (vote_at_key kinds.PrePrepare low numbers q)) None
before_at view top low numbers q =
    find-where_key by (is_of_entered view top) q (λ x e. ap (is_of_entered view top) (sym (same_key q x e))) (table_of as_pre_prepare kinds.PrePrepare low numbers)
    ∙ ap (λ o. cond (is_of_entered view top q) o None) (found (λ q. read_by as_pre_prepare (vote_at_key kinds.PrePrepare low numbers q)) (keys_by_number low numbers) q (covers_table as_pre_prepare kinds.PrePrepare low numbers))

below_top : (view top n : ℕ) → n ≤ top → (nat_lt view view || ((view == view) && nat_lt top n)) ≡ false
below_top view top n le = ap (λ b. b || ((view == view) && nat_lt top n)) (le-ltb view view (omega arith)) ∙ ap (λ b. (view == view) && b) (le-ltb top n le) ∙ and_false (view == view) where
  and_false : (b : Bool) → (b && false) ≡ false
  and_false true = refl
  and_false false = refl

pub before_free : (view top low number : ℕ) (numbers : List ViewSlots) → AreFree view number top (Table_before view top low numbers)
before_free view top low number numbers n s le up =
    before_at view top low numbers (vote_key n view s) ∙ ap (λ b. cond b (read_by as_pre_prepare (vote_at_key kinds.PrePrepare low numbers (vote_key n view s))) None) (below_top view top n up)

-- the slot's PrePrepare
pub proposal_entered : (s : ℕ) (slot : Slot) (given : Option CheckedMessage) (higher own above top : Bool) → (own ≡ true → above ≡ true → top ≡ false → ⊥)
    → vote_by kinds.PrePrepare s (cond higher slot (cond own (cond above (cond top slot (record slot { pre_prepare = given })) empty_slot) empty_slot)) ≡ cond (higher || (own && (above && top))) (vote_by kinds.PrePrepare s slot) None
proposal_entered s slot given true own above top out = refl
proposal_entered s slot given false true true true out = refl
proposal_entered s slot given false true true false out = absurd (out refl refl refl)
proposal_entered s slot given false true false top out = refl
proposal_entered s slot given false false above top out = refl

pub both_above : (floor many n : ℕ) → (nat_lt floor n && nat_lt (floor + many) n) ≡ nat_lt (floor + many) n
both_above floor many n = pick (cases_lt (floor + many) n) where
  pick : (floor + many < n) ⊎ (n ≤ floor + many) → (nat_lt floor n && nat_lt (floor + many) n) ≡ nat_lt (floor + many) n
  pick (inl lt) = ap (λ b. b && nat_lt (floor + many) n) (lt-ltb floor n (omega (arith, lt)))
  pick (inr le) = ap (λ b. nat_lt floor n && b) (le-ltb (floor + many) n le) ∙ and_false (nat_lt floor n) ∙ sym (le-ltb (floor + many) n le) where
    and_false : (b : Bool) → (b && false) ≡ false
    and_false true = refl
    and_false false = refl

true_lt : (a b : ℕ) → nat_lt a b ≡ true → a < b
true_lt a b e = ltb-true a b e

false_lt : (a b : ℕ) → nat_lt a b ≡ false → b ≤ a
false_lt a b e = pick (cases_lt a b) where
  pick : (a < b) ⊎ (b ≤ a) → b ≤ a
  pick (inl lt) = absurd (no (sym (lt-ltb a b lt) ∙ e)) where
    no : true ≡ false → ⊥
    no e = absurd cc
  pick (inr le) = le

-- a number of the list, or another key
pub data Given (view floor many : ℕ) (n v : ℕ) : Type 0 where
  listed : (j : ℕ) → n ≡ floor + 1 + j → j < many → v ≡ view → Given view floor many n v
  other : ((v == view) ≡ true → nat_lt floor n ≡ true → nat_lt (floor + many) n ≡ false → ⊥) → (v ≢ view) ⊎ ((n ≤ floor) ⊎ (floor + many < n)) → Given view floor many n v

not_view : (v view floor many n : ℕ) → v ≢ view → (v == view) ≡ true → nat_lt floor n ≡ true → nat_lt (floor + many) n ≡ false → ⊥
not_view v view floor many n ne e f g = no (sym (ne_eqb v view ne) ∙ e) where
  no : false ≡ true → ⊥
  no e = absurd cc

pub given_is : (view floor many n v : ℕ) → (v ≡ view) ⊎ (v ≢ view) → (floor < n) ⊎ (n ≤ floor) → (floor + many < n) ⊎ (n ≤ floor + many) → Given view floor many n v
given_is view floor many n v (inr ne) a b = other (not_view v view floor many n ne) (inl ne)
given_is view floor many n v (inl e) (inr le) b = other (λ x y z. absurd (omega (arith, le, true_lt floor n y))) (inr (inl le))
given_is view floor many n v (inl e) (inl lt) (inl past) = other (λ x y z. absurd (omega (arith, past, false_lt (floor + many) n z))) (inr (inr past))
given_is view floor many n v (inl e) (inl lt) (inr le) = listed (n - floor - 1) (omega (arith, lt)) (omega (arith, lt, le)) e

pub other_key : (view floor many n v s : ℕ) → (v ≢ view) ⊎ ((n ≤ floor) ⊎ (floor + many < n)) → IsOther view (floor + 1) many (vote_key n v s)
other_key view floor many n v s (inl ne) m t le lt = apart_keys n v s m view t (inr ne)
other_key view floor many n v s (inr (inl down)) m t le lt = apart_keys n v s m view t (inl (λ e. absurd (omega (arith, e, down, le))))
other_key view floor many n v s (inr (inr past)) m t le lt = apart_keys n v s m view t (inl (λ e. absurd (omega (arith, e, past, lt))))

-- ---- one message of the list

pub map_length : {X Y : Type 0} (g : X → Y) (xs : List X) → length (map g xs) ≡ length xs
map_length g [] = refl
map_length g (x ∷ xs) = ap suc (map_length g xs)

pub element_at : (xs : List (Signed Body)) (j : ℕ) → j < length xs → (m : Signed Body) × (slice_get xs j ≡ Some m)
element_at [] j lt = absurd (omega (arith, lt))
element_at (m ∷ xs) zero lt = (m, refl)
element_at (m ∷ xs) (suc j) lt = element_at xs j (omega (arith, lt))

pub proposal_at : (view number : ℕ) (xs : List (Signed Body)) (j : ℕ) (m : Signed Body) → AreProposals view number xs → slice_get xs j ≡ Some m → IsProposal view (number + j) m
proposal_at view number [] j m h e = absurd cc
proposal_at view number (x ∷ xs) zero m h e = subst (IsProposal view (number + zero)) (the_same e) (subst (λ n. IsProposal view n x) (omega arith) h.0) where
  the_same : Some x ≡ Some m → x ≡ m
  the_same e = cc
proposal_at view number (x ∷ xs) (suc j) m h e = subst (λ n. IsProposal view n m) (omega arith) (proposal_at view (number + 1) xs j m h.1 e)

pub proposal_vote : (c : Configuration) (view number : ℕ) (m : Signed Body) → IsProposal view number m → IsProper (Some (under c m)) → IsVoteAt c kinds.PrePrepare view number (under c m)
proposal_vote c view number m h proper =
    let v : Vote = record { kind = kinds.PrePrepare; view = h.body.view; number = h.body.number; digest = h.body.digest; signer = record { 0 = m.id } } in
    let is : vote_of m ≡ Some v = ap (vote_in m.id) h.is in
    record { config = refl; vote = v; is = is; proper = proper v is; of_kind = refl; of_view = h.view_is; of_number = h.number_is }

pub offered_at_number : (c : Configuration) (floor n j : ℕ) (xs : List (Signed Body)) (m : Signed Body) → n ≡ floor + 1 + j → slice_get xs j ≡ Some m → offered_for floor (map (under c) xs) n ≡ Some (under c m)
offered_at_number c floor n j xs m e is =
    ap (λ b. cond b (slice_get (map (under c) xs) (n - floor - 1)) None) (lt-ltb floor n (omega (arith, e)))
    ∙ ap (slice_get (map (under c) xs)) (omega (arith, e)) ∙ slice_get-map (under c) xs j ∙ ap (option_map (under c)) is

-- the message offered for a number is a vote there
offered_vote : (c : Configuration) (view floor n : ℕ) (xs : List (Signed Body)) (m : CheckedMessage) → AreProposals view (floor + 1) xs → IsProper (offered_for floor (map (under c) xs) n) → offered_for floor (map (under c) xs) n ≡ Some m
    → (floor < n) ⊎ (n ≤ floor) → (floor + length xs < n) ⊎ (n ≤ floor + length xs) → IsVoteAt c kinds.PrePrepare view n m
offered_vote c view floor n xs m h proper e (inr le) b = absurd (no_message (sym (ap (λ b. cond b (slice_get (map (under c) xs) (n - floor - 1)) None) (le-ltb floor n le)) ∙ e)) where
  no_message : None ≡ Some m → ⊥
  no_message e = absurd cc
offered_vote c view floor n xs m h proper e (inl lt) (inl past) = absurd (no_message (sym (none_past floor n (map (under c) xs) (omega (arith, past, map_length (under c) xs))) ∙ e)) where
  no_message : None ≡ Some m → ⊥
  no_message e = absurd cc
offered_vote c view floor n xs m h proper e (inl lt) (inr le) =
    let there = element_at xs (n - floor - 1) (omega (arith, lt, le)) in
    let here = offered_at_number c floor n (n - floor - 1) xs there.0 (omega (arith, lt)) there.1 in
    let is = proposal_vote c view n there.0 (subst (λ n. IsProposal view n there.0) (omega (arith, lt)) (proposal_at view (floor + 1) xs (n - floor - 1) there.0 h there.1)) (subst IsProper here proper) in
    subst (IsVoteAt c kinds.PrePrepare view n) (the_same (sym here ∙ e)) is where
      the_same : {x : CheckedMessage} → Some x ≡ Some m → x ≡ m
      the_same e = cc

-- ---- each slot stays lawful

entered_kept : (c : Configuration) (view floor n v : ℕ) (xs : List (Signed Body)) (slot : Slot) (higher own above top : Bool) → AreProposals view (floor + 1) xs → IsProper (offered_for floor (map (under c) xs) n) → IsSlotAt c v n slot → (own ≡ true → v ≡ view)
    → IsSlotAt c v n (cond higher slot (cond own (cond above (cond top slot (record slot { pre_prepare = offered_for floor (map (under c) xs) n })) empty_slot) empty_slot))
entered_kept c view floor n v xs slot true own above top h p k is = k
entered_kept c view floor n v xs slot false true true true h p k is = k
entered_kept c view floor n v xs slot false true true false h p k is = record {
  pre_prepare = λ m e. subst (λ v. IsVoteAt c kinds.PrePrepare v n m) (sym (is refl)) (offered_vote c view floor n xs m h p e (cases_lt floor n) (cases_lt (floor + length xs) n));
  prepares = k.prepares;
  commits = k.commits;
  ten = k.ten;
}
entered_kept c view floor n v xs slot false true false top h p k is = slot_none c v n
entered_kept c view floor n v xs slot false false above top h p k is = slot_none c v n

same_view : (v view : ℕ) → (v == view) ≡ true → v ≡ view
same_view v view e = eqb-true v view e

slot_entered_kept : (c : Configuration) (low floor view : ℕ) (xs : List (Signed Body)) (numbers news : List ViewSlots) (n v : ℕ) → AreKept c low numbers → AreProposals view (floor + 1) xs → AreEntered (length numbers) low floor view (map (under c) xs) numbers news → AreProper (length numbers) low floor (map (under c) xs)
    → Where low numbers news n → IsSlotAt c v n (slot_of low news n v)
slot_entered_kept c low floor view xs numbers news n v k h e p (outside o empty empty_now) = subst (IsSlotAt c v n) (sym (empty_now v)) (slot_none c v n)
slot_entered_kept c low floor view xs numbers news n v k h e p (inside lt le) =
    let back : low + 1 + (n - low - 1) ≡ n = omega (arith, lt) in
    let proper = subst (λ m. IsProper (offered_for floor (map (under c) xs) m)) back (p (n - low - 1) (omega (arith, lt, le))) in
    subst (IsSlotAt c v n) (sym (inside_slot low floor view (map (under c) xs) numbers news n v e lt le))
    (entered_kept c view floor n v xs (slot_of low numbers n v) (nat_lt view v) (v == view) (nat_lt floor n) (nat_lt (floor + length (map (under c) xs)) n) h proper (k.slots n v) (same_view v view))

pub entered_are_kept : (c : Configuration) (low floor view : ℕ) (now : SeqNo) (xs : List (Signed Body)) (numbers news : List ViewSlots) → AreKept c low numbers → AreProposals view (floor + 1) xs → AreEntered (length numbers) low floor view (map (under c) xs) numbers news → AreProper (length numbers) low floor (map (under c) xs) → now.0 ≡ low
    → AreKept c now.0 news
entered_are_kept c low floor view now xs numbers news k h e p same = subst (λ n. AreKept c n news) (sym same) (record {
  span = e.as_long ∙ k.span;
  slots = λ n v. slot_entered_kept c low floor view xs numbers news n v k h e p (where_is low numbers news n e.as_long (cases_lt low n) (cases_lt (low + length numbers) n));
})

-- ---- the table of PrePrepares

same_if : (small own : Bool) (y : Signed PrePrepare) (o : Option CheckedMessage) → small ≡ true → read_by as_pre_prepare o ≡ Some y → read_by as_pre_prepare (cond small (cond own o None) None) ≡ cond own (Some y) None
same_if true true y o e is = is
same_if true false y o e is = refl
same_if false own y o e is = absurd cc

-- one proposal more
pub proposal_more : (view number : ℕ) (xs : List (Signed Body)) (m : Signed Body) → AreProposals view number xs → IsProposal view (number + length xs) m → AreProposals view number (xs ++ m ∷ [])
proposal_more view number [] m h is = (subst (λ n. IsProposal view n m) (omega arith) is, tt)
proposal_more view number (x ∷ xs) m h is = (h.0, proposal_more view (number + 1) xs m h.1 (subst (λ n. IsProposal view n m) (omega arith) is))

-- the messages of a list are under its configuration
config_at : (c : Configuration) (xs : List (Signed Body)) (i : ℕ) (m : CheckedMessage) → i < length xs → (get_or (map (under c) xs) i m).config ≡ c
config_at c [] i m lt = absurd (omega (arith, lt))
config_at c (x ∷ xs) zero m lt = refl
config_at c (x ∷ xs) (suc i) m lt = config_at c xs i m (omega (arith, lt))

pub listed_config : (c : Configuration) (xs : List (Signed Body)) (ms : List CheckedMessage) (i : ℕ) (r : Option (Bor CheckedMessage)) → ms ≡ map (under c) xs → is_some r ≡ nat_lt i (length ms) → IfSome r (λ x. x.now ≡ get_or ms i x.now)
    → IfSome (option_copied r) (λ m. m.config ≡ c)
listed_config c xs ms i None e b h = tt
listed_config c xs ms i (Some x) e b h =
    let within : i < length xs = subst (λ n. i < n) (ap length e ∙ map_length (under c) xs) (ltb-true i (length ms) (sym b)) in
    ap (λ m. m.config) (h ∙ ap (λ ms. get_or ms i x.now) e) ∙ config_at c xs i x.now within
