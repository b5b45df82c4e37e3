-- The log's PrePrepares as a view is entered, and the log.
use Rattle.std.proofs.Common.{◌≡◌, ◌≢◌, ℕ, ◌+◌, ◌-◌, ◌*◌, ◌<◌, ◌≤◌, ◌==◌, Bool, true, false, cond, not, ◌&&◌, ◌||◌, List, [], ◌∷◌, map, length, Option, Some, None, refl, sym, ap, subst, ◌∙◌, arith, ◌⊎◌, inl, inr, T}
use Rattle.std.specs.Prelude.{is_some, nat_lt, nat_le, slice_get}
use Rattle.std.specs.Option.{option_map}
use Rattle.std.specs.FinMap.{is_sorted}
use Rattle.std.specs.FinMap.Entries.{is_sorted-where_key}
use Rattle.std.proofs.lemmas.Bool.{cases_Bool, cases_eq, cases_lt, eq-eqb, ne_eqb, lt-ltb, le-ltb, le-leb, leb-true}
use Rattle.std.proofs.lemmas.Option.{slice_get-map}
use Rattle.host_types.specs.Configuration.{Configuration, IsConfiguration}
use Rattle.host_types.specs.declared.SeqNo.{SeqNo}
use Rattle.pbft_codec.specs.declared.body.Body.{Body}
use Rattle.ballots.specs.Words.{Signed, PrePrepare}
use Rattle.ballots.specs.Acts.{is_of_entered, with_body}
use Rattle.ballots.specs.Tables.{Key, Table, add_if, at, vote_key}
use Rattle.seal.specs.Lists.{under}
use Rattle.seal.specs.declared.vote.VoteKind.TheVariants as kinds
use Rattle.quorum_log.specs.declared.view_slots.ViewSlots.{ViewSlots}
use Rattle.quorum_log.specs.declared.slot.Slot.{Slot}
use Rattle.quorum_log.specs.Entering.{AreEntered, AreProper, IsProper, offered_for}
use Rattle.quorum_log.specs.Log.{AreProposals, IsProposal, KeptLog, Log, as_pre_prepare, entered, is_within, opened, pre_prepares_in, with_all}
use Rattle.quorum_log.specs.Reading.{AreKept, as_prepare, as_commit, log_in, read_by, table_of}
use Rattle.quorum_log.specs.Slots.{empty_slot}
use Rattle.quorum_log.specs.Windows.{if_by, keys_by_number, slot_of, vote_at_key, vote_by}
use Rattle.quorum_log.proofs.Covering.{covers_table}
use Rattle.quorum_log.proofs.KindReadings.{voter_small}
use Rattle.ballots.proofs.Tables.{by, is_read_off, sorted_add, sorted_by}
use Rattle.quorum_log.proofs.EnteringLog.{Given, Table_before, Where, inside, outside, listed, other, added_one, as_many, before_at, before_free, both_above, commit_entered, element_at, equal_other, given_is, inside_slot, listed_key, map_length, none_either, numbered, offered_at_number, other_key, prepare_entered, proposal_at, proposal_entered, proposal_vote, read_if, read_listed, stays_table, top_of, where_is, with_others}

-- ---- where the list has one

same_if : (c : Configuration) (s : ℕ) (m : Signed Body) (y : Signed PrePrepare) → m.id < 10 → as_pre_prepare m m.body ≡ Some y → y.id ≡ m.id → (s ≡ y.id) ⊎ (s ≢ y.id)
    → read_by as_pre_prepare (cond (nat_lt s 10) (if_by s (Some (under c m))) None) ≡ cond (s == y.id) (Some y) None
same_if c s m y lt is id (inl e) =
    ap (λ b. read_by as_pre_prepare (cond b (if_by s (Some (under c m))) None)) (lt-ltb s 10 (omega (arith, lt, id, e)))
    ∙ ap (λ b. read_by as_pre_prepare (cond b (Some (under c m)) None)) (eq-eqb m.id s (sym id ∙ sym e)) ∙ is
    ∙ sym (ap (λ b. cond b (Some y) None) (eq-eqb s y.id e))
same_if c s m y lt is id (inr ne) =
    ap (λ b. read_by as_pre_prepare (cond (nat_lt s 10) (cond b (Some (under c m)) None) None)) (ne_eqb m.id s (λ e. ne (sym e ∙ sym id)))
    ∙ none (nat_lt s 10) ∙ sym (ap (λ b. cond b (Some y) None) (ne_eqb s y.id ne)) where
      none : (b : Bool) → read_by as_pre_prepare (cond b None None) ≡ None
      none true = refl
      none false = refl

no_read : (low : ℕ) (numbers : List ViewSlots) (n v s : ℕ) → slot_of low numbers n v ≡ empty_slot → read_by as_pre_prepare (vote_at_key kinds.PrePrepare low numbers (vote_key n v s)) ≡ None
no_read low numbers n v s e = ap (λ slot. read_by as_pre_prepare (cond (nat_lt s 10) (vote_by kinds.PrePrepare s slot) None)) e ∙ none (nat_lt s 10) where
  none : (b : Bool) → read_by as_pre_prepare (cond b None None) ≡ None
  none true = refl
  none false = refl

lt-leb : (n m : ℕ) → m < n → nat_le n m ≡ false
lt-leb n m lt = pick (cases_Bool (nat_le n m)) where
  pick : (nat_le n m ≡ true) ⊎ (nat_le n m ≡ false) → nat_le n m ≡ false
  pick (inl t) = absurd (omega (arith, lt, leb-true n m t))
  pick (inr f) = f

within_now : (c : Configuration) (l : Log) (view floor top n : ℕ) → l.low < n → n ≤ l.low + 2 * c.k → floor < n → is_within c (opened view floor top l) view n ≡ true
within_now c l view floor top n lt le above =
    ap (λ b. b && (nat_le n (l.low + 2 * c.k) && not ((view == view) && nat_le n floor))) (lt-ltb l.low n lt)
    ∙ ap (λ b. b && not ((view == view) && nat_le n floor)) (le-leb n (l.low + 2 * c.k) le)
    ∙ ap (λ b. not ((view == view) && b)) (lt-leb n floor above) ∙ ap not (and_false (view == view)) where
      and_false : (b : Bool) → (b && false) ≡ false
      and_false true = refl
      and_false false = refl

not_within : (c : Configuration) (l : Log) (view floor top n : ℕ) → (n ≤ l.low) ⊎ (l.low + 2 * c.k < n) → is_within c (opened view floor top l) view n ≡ false
not_within c l view floor top n (inl le) = ap (λ b. b && (nat_le n (l.low + 2 * c.k) && not ((view == view) && nat_le n floor))) (le-ltb l.low n le)
not_within c l view floor top n (inr past) =
    ap (λ b. nat_lt l.low n && (b && not ((view == view) && nat_le n floor))) (lt-leb n (l.low + 2 * c.k) past) ∙ and_false (nat_lt l.low n) where
      and_false : (b : Bool) → (b && false) ≡ false
      and_false true = refl
      and_false false = refl

listed_inside : (c : Configuration) (low floor view : ℕ) (xs : List (Signed Body)) (numbers news : List ViewSlots) (n j s : ℕ) (m : Signed Body) (y : Signed PrePrepare) → AreEntered (length numbers) low floor view (map (under c) xs) numbers news
    → low < n → n ≤ low + length numbers → n ≡ floor + 1 + j → j < length xs → slice_get xs j ≡ Some m → m.id < 10 → as_pre_prepare m m.body ≡ Some y → y.id ≡ m.id
    → read_by as_pre_prepare (vote_at_key kinds.PrePrepare low news (vote_key n view s)) ≡ cond (s == y.id) (Some y) None
listed_inside c low floor view xs numbers news n j s m y e lt le number in_list there id is same =
    let old = slot_of low numbers n view in
    let given = offered_for floor (map (under c) xs) n in
    let read : Slot → Option (Signed PrePrepare) = λ slot. read_by as_pre_prepare (cond (nat_lt s 10) (vote_by kinds.PrePrepare s slot) None) in
    ap read (inside_slot low floor view (map (under c) xs) numbers news n view e lt le
    ∙ ap (λ b. cond b old (cond (view == view) (cond (nat_lt floor n) (cond (nat_lt (floor + length (map (under c) xs)) n) old (record old { pre_prepare = given })) empty_slot) empty_slot)) (le-ltb view view (omega arith))
    ∙ ap (λ b. cond b (cond (nat_lt floor n) (cond (nat_lt (floor + length (map (under c) xs)) n) old (record old { pre_prepare = given })) empty_slot) empty_slot) (eq-eqb view view refl)
    ∙ ap (λ b. cond b (cond (nat_lt (floor + length (map (under c) xs)) n) old (record old { pre_prepare = given })) empty_slot) (lt-ltb floor n (omega (arith, number)))
    ∙ ap (λ b. cond b old (record old { pre_prepare = given })) (le-ltb (floor + length (map (under c) xs)) n (omega (arith, number, in_list, map_length (under c) xs))))
    ∙ ap (λ o. read_by as_pre_prepare (cond (nat_lt s 10) (if_by s o) None)) (offered_at_number c floor n j xs m number there)
    ∙ same_if c s m y id is same (cases_eq s y.id)

proper_at : (c : Configuration) (low floor n : ℕ) (xs : List (Signed Body)) (numbers : List ViewSlots) → AreProper (length numbers) low floor (map (under c) xs) → low < n → n ≤ low + length numbers → IsProper (offered_for floor (map (under c) xs) n)
proper_at c low floor n xs numbers p lt le = subst (λ m. IsProper (offered_for floor (map (under c) xs) m)) (omega (arith, lt)) (p (n - low - 1) (omega (arith, lt, le)))

at_listed : (c : Configuration) (low floor view : ℕ) (xs : List (Signed Body)) (numbers news : List ViewSlots) (l : Log) (n j s : ℕ) (m : Signed Body) (y : Signed PrePrepare) → IsConfiguration c → AreProposals view (floor + 1) xs → AreEntered (length numbers) low floor view (map (under c) xs) numbers news
    → AreProper (length numbers) low floor (map (under c) xs) → length numbers ≡ 2 * c.k → l.low ≡ low → n ≡ floor + 1 + j → j < length xs → slice_get xs j ≡ Some m → as_pre_prepare m m.body ≡ Some y → y.id ≡ m.id → Where low numbers news n
    → cond (is_within c (opened view floor (top_of floor xs) l) view n && (s == y.id)) (Some y) None ≡ read_by as_pre_prepare (vote_at_key kinds.PrePrepare low news (vote_key n view s))
at_listed c low floor view xs numbers news l n j s m y k h e p span same number in_list there is id (inside lt le) =
    let proper = subst IsProper (offered_at_number c floor n j xs m number there) (proper_at c low floor n xs numbers p lt le) in
    let vote = proposal_vote c view n m (subst (λ n. IsProposal view n m) (sym number) (proposal_at view (floor + 1) xs j m h there)) proper in
    ap (λ b. cond (b && (s == y.id)) (Some y) None) (within_now c l view floor (top_of floor xs) n (omega (arith, lt, same)) (omega (arith, le, same, span)) (omega (arith, number)))
    ∙ sym (listed_inside c low floor view xs numbers news n j s m y e lt le number in_list there (voter_small c view n kinds.PrePrepare (under c m) k vote) is id)
at_listed c low floor view xs numbers news l n j s m y k h e p span same number in_list there is id (outside (inl le) empty empty_now) =
    ap (λ b. cond (b && (s == y.id)) (Some y) None) (not_within c l view floor (top_of floor xs) n (inl (omega (arith, le, same))))
    ∙ sym (no_read low news n view s (empty_now view))
at_listed c low floor view xs numbers news l n j s m y k h e p span same number in_list there is id (outside (inr past) empty empty_now) =
    ap (λ b. cond (b && (s == y.id)) (Some y) None) (not_within c l view floor (top_of floor xs) n (inr (omega (arith, past, same, span))))
    ∙ sym (no_read low news n view s (empty_now view))

-- ---- elsewhere

at_other : (c : Configuration) (low floor view : ℕ) (xs : List (Signed Body)) (numbers news : List ViewSlots) (n v s : ℕ) → AreEntered (length numbers) low floor view (map (under c) xs) numbers news → ((v == view) ≡ true → nat_lt floor n ≡ true → nat_lt (floor + length xs) n ≡ false → ⊥) → Where low numbers news n
    → cond (is_of_entered view (top_of floor xs) (vote_key n v s)) (read_by as_pre_prepare (vote_at_key kinds.PrePrepare low numbers (vote_key n v s))) None ≡ read_by as_pre_prepare (vote_at_key kinds.PrePrepare low news (vote_key n v s))
at_other c low floor view xs numbers news n v s e out (inside lt le) =
    let many : length (map (under c) xs) ≡ length xs = map_length (under c) xs in
    let read : Slot → Option (Signed PrePrepare) = λ slot. read_by as_pre_prepare (cond (nat_lt s 10) (vote_by kinds.PrePrepare s slot) None) in
    sym (ap read (inside_slot low floor view (map (under c) xs) numbers news n v e lt le)
    ∙ ap (λ o. read_by as_pre_prepare (cond (nat_lt s 10) o None)) (proposal_entered s (slot_of low numbers n v) (offered_for floor (map (under c) xs) n) (nat_lt view v) (v == view) (nat_lt floor n) (nat_lt (floor + length (map (under c) xs)) n)
    (λ a b d. out a b (ap (λ m. nat_lt (floor + m) n) (sym many) ∙ d)))
    ∙ read_if as_pre_prepare (nat_lt s 10) (nat_lt view v || ((v == view) && (nat_lt floor n && nat_lt (floor + length (map (under c) xs)) n))) (vote_by kinds.PrePrepare s (slot_of low numbers n v))
    ∙ ap (λ m. cond (nat_lt view v || ((v == view) && (nat_lt floor n && nat_lt (floor + m) n))) (read_by as_pre_prepare (vote_at_key kinds.PrePrepare low numbers (vote_key n v s))) None) many
    ∙ ap (λ b. cond (nat_lt view v || ((v == view) && b)) (read_by as_pre_prepare (vote_at_key kinds.PrePrepare low numbers (vote_key n v s))) None) (both_above floor (length xs) n)
    ∙ ap (λ b. cond (nat_lt view v || (b && nat_lt (floor + length xs) n)) (read_by as_pre_prepare (vote_at_key kinds.PrePrepare low numbers (vote_key n v s))) None) (equal_other v view))
at_other c low floor view xs numbers news n v s e out (outside o empty empty_now) =
    ap (λ o. cond (is_of_entered view (top_of floor xs) (vote_key n v s)) o None) (no_read low numbers n v s (empty v))
    ∙ sym (none_either (is_of_entered view (top_of floor xs) (vote_key n v s))) ∙ sym (no_read low news n v s (empty_now v))

-- ---- each key

abbrev Entered : Configuration → ℕ → ℕ → List (Signed Body) → Log → ℕ → List ViewSlots → Table (Signed PrePrepare)
Entered c floor view xs l low numbers = with_all c (opened view floor (top_of floor xs) l) (pre_prepares_in xs) (Table_before view (top_of floor xs) low numbers)

entered_at : (c : Configuration) (low floor view : ℕ) (xs : List (Signed Body)) (numbers news : List ViewSlots) (l : Log) (n v s : ℕ) → IsConfiguration c → AreProposals view (floor + 1) xs → AreEntered (length numbers) low floor view (map (under c) xs) numbers news
    → AreProper (length numbers) low floor (map (under c) xs) → length numbers ≡ 2 * c.k → l.low ≡ low → Given view floor (length xs) n v
    → at (Entered c floor view xs l low numbers) (vote_key n v s) ≡ read_by as_pre_prepare (vote_at_key kinds.PrePrepare low news (vote_key n v s))
entered_at c low floor view xs numbers news l n v s k h e p span same (listed j number in_list v_is) =
    let t = opened view floor (top_of floor xs) l in
    let ys = pre_prepares_in xs in
    let there = element_at xs j in_list in
    let m = there.0 in
    let is = proposal_at view (floor + 1) xs j m h there.1 in
    let y = with_body m is.body in
    let read : as_pre_prepare m m.body ≡ Some y = ap (as_pre_prepare m) is.is in
    let found_y : slice_get ys j ≡ Some y = sym (read_listed c view (floor + 1) xs j h) ∙ ap (read_by as_pre_prepare) (slice_get-map (under c) xs j ∙ ap (option_map (under c)) there.1) ∙ read in
    ap (λ v. at (Entered c floor view xs l low numbers) (vote_key n v s)) v_is ∙ ap (λ n. at (Entered c floor view xs l low numbers) (vote_key n view s)) number
    ∙ listed_key c t view (floor + 1) (top_of floor xs) s ys (Table_before view (top_of floor xs) low numbers) j y (numbered view (floor + 1) xs h) (before_free view (top_of floor xs) low (floor + 1) numbers) (omega (arith, as_many view (floor + 1) xs h)) found_y
    ∙ ap (λ n. cond (is_within c t view n && (s == y.id)) (Some y) None) (sym number)
    ∙ at_listed c low floor view xs numbers news l n j s m y k h e p span same number in_list there.1 read refl (where_is low numbers news n e.as_long (cases_lt low n) (cases_lt (low + length numbers) n))
    ∙ ap (λ v. read_by as_pre_prepare (vote_at_key kinds.PrePrepare low news (vote_key n v s))) (sym v_is)
entered_at c low floor view xs numbers news l n v s k h e p span same (other out apart) =
    let t = opened view floor (top_of floor xs) l in
    with_others c t view (floor + 1) (pre_prepares_in xs) (Table_before view (top_of floor xs) low numbers) (vote_key n v s) (numbered view (floor + 1) xs h)
    (λ m u le lt. other_key view floor (length xs) n v s apart m u le (omega (arith, lt, as_many view (floor + 1) xs h)))
    ∙ before_at view (top_of floor xs) low numbers (vote_key n v s)
    ∙ at_other c low floor view xs numbers news n v s e out (where_is low numbers news n e.as_long (cases_lt low n) (cases_lt (low + length numbers) n))

no_entry : (c : Configuration) (low floor view : ℕ) (xs : List (Signed Body)) (numbers : List ViewSlots) (l : Log) (q : Key) → AreProposals view (floor + 1) xs → ((n v s : ℕ) → q ≢ vote_key n v s) → vote_at_key kinds.PrePrepare low numbers q ≡ None → at (Entered c floor view xs l low numbers) q ≡ None
no_entry c low floor view xs numbers l q h ne none =
    with_others c (opened view floor (top_of floor xs) l) view (floor + 1) (pre_prepares_in xs) (Table_before view (top_of floor xs) low numbers) q (numbered view (floor + 1) xs h) (λ n s le lt. ne n view s)
    ∙ before_at view (top_of floor xs) low numbers q ∙ ap (λ o. cond (is_of_entered view (top_of floor xs) q) (read_by as_pre_prepare o) None) none ∙ sym (none_either (is_of_entered view (top_of floor xs) q))

entered_key : (c : Configuration) (low floor view : ℕ) (xs : List (Signed Body)) (numbers news : List ViewSlots) (l : Log) → IsConfiguration c → AreProposals view (floor + 1) xs → AreEntered (length numbers) low floor view (map (under c) xs) numbers news
    → AreProper (length numbers) low floor (map (under c) xs) → length numbers ≡ 2 * c.k → l.low ≡ low → (q : Key) → at (Entered c floor view xs l low numbers) q ≡ read_by as_pre_prepare (vote_at_key kinds.PrePrepare low news q)
entered_key c low floor view xs numbers news l k h e p span same [] = no_entry c low floor view xs numbers l [] h (λ n v s e. absurd cc) refl
entered_key c low floor view xs numbers news l k h e p span same (n ∷ []) = no_entry c low floor view xs numbers l (n ∷ []) h (λ n v s e. absurd cc) refl
entered_key c low floor view xs numbers news l k h e p span same (n ∷ v ∷ []) = no_entry c low floor view xs numbers l (n ∷ v ∷ []) h (λ n v s e. absurd cc) refl
entered_key c low floor view xs numbers news l k h e p span same (n ∷ v ∷ s ∷ []) =
    entered_at c low floor view xs numbers news l n v s k h e p span same (given_is view floor (length xs) n v (cases_eq v view) (cases_lt floor n) (cases_lt (floor + length xs) n))
entered_key c low floor view xs numbers news l k h e p span same (n ∷ v ∷ s ∷ more ∷ rest) = no_entry c low floor view xs numbers l (n ∷ v ∷ s ∷ more ∷ rest) h (λ n v s e. absurd cc) refl

-- ---- the table, and the log

sorted_one : (key : Key) (y : Signed PrePrepare) (table : Table (Signed PrePrepare)) (admitted : Bool) → T (is_sorted by table) → T (is_sorted by (add_if admitted key y table))
sorted_one key y table true h = sorted_add key y table (is_some (at table key)) h
sorted_one key y table false h = h

sorted_with : (c : Configuration) (l : Log) (ys : List (Signed PrePrepare)) (table : Table (Signed PrePrepare)) → T (is_sorted by table) → T (is_sorted by (with_all c l ys table))
sorted_with c l [] table h = h
sorted_with c l (y ∷ ys) table h = sorted_with c l ys (added_one c l y table) (sorted_one (vote_key y.body.number.0 y.body.view.0 y.id) y table (is_within c l y.body.view.0 y.body.number.0) h)

entered_table : (c : Configuration) (low floor view : ℕ) (xs : List (Signed Body)) (numbers news : List ViewSlots) (l : Log) → IsConfiguration c → AreProposals view (floor + 1) xs → AreEntered (length numbers) low floor view (map (under c) xs) numbers news
    → AreProper (length numbers) low floor (map (under c) xs) → length numbers ≡ 2 * c.k → l.low ≡ low → table_of as_pre_prepare kinds.PrePrepare low news ≡ Entered c floor view xs l low numbers
entered_table c low floor view xs numbers news l k h e p span same =
    is_read_off (λ q. read_by as_pre_prepare (vote_at_key kinds.PrePrepare low news q)) (keys_by_number low news) (Entered c floor view xs l low numbers) (covers_table as_pre_prepare kinds.PrePrepare low news)
    (sorted_with c (opened view floor (top_of floor xs) l) (pre_prepares_in xs) (Table_before view (top_of floor xs) low numbers)
    (is_sorted-where_key by (is_of_entered view (top_of floor xs)) (table_of as_pre_prepare kinds.PrePrepare low numbers) (sorted_by (λ q. read_by as_pre_prepare (vote_at_key kinds.PrePrepare low numbers q)) (keys_by_number low numbers))))
    (entered_key c low floor view xs numbers news l k h e p span same)

entered_log : (c : Configuration) (was : ℕ) (before : Option SeqNo) (low view : ℕ) (floor : SeqNo) (xs : List (Signed Body)) (numbers news : List ViewSlots) → IsConfiguration c → AreKept c low numbers → AreProposals view (floor.0 + 1) xs → AreEntered (length numbers) low floor.0 view (map (under c) xs) numbers news
    → AreProper (length numbers) low floor.0 (map (under c) xs) → log_in view (Some floor) low news ≡ entered c view floor.0 (floor.0 + length xs) (pre_prepares_in xs) (log_in was before low numbers)
entered_log c was before low view floor xs numbers news k kept h e p = λ i. record (log_in view (Some floor) low news) {
  pre_prepares = entered_table c low floor.0 view xs numbers news (log_in was before low numbers) k h e p kept.span refl i;
  prepares = stays_table as_prepare kinds.Prepare low floor.0 view (map (under c) xs) numbers news prepare_entered e i;
  commits = stays_table as_commit kinds.Commit low floor.0 view (map (under c) xs) numbers news commit_entered e i;
}

pub entered_is : (c : Configuration) (was : ℕ) (before : Option SeqNo) (low view : ℕ) (now floor : SeqNo) (xs : List (Signed Body)) (numbers news : List ViewSlots) (k : KeptLog) → IsConfiguration c → AreKept c low numbers → AreProposals view (floor.0 + 1) xs → AreEntered (length numbers) low floor.0 view (map (under c) xs) numbers news
    → AreProper (length numbers) low floor.0 (map (under c) xs) → now.0 ≡ low → ◌≡◌ {A = KeptLog} (record { config = c; log = log_in was before low numbers }) k
    → ◌≡◌ {A = KeptLog} (record { config = c; log = log_in view (Some floor) now.0 news }) (record { config = k.config; log = entered k.config view floor.0 (floor.0 + length xs) (pre_prepares_in xs) k.log })
entered_is c was before low view now floor xs numbers news k legal kept h e p same viewed =
    ap (λ n. record { config = c; log = log_in view (Some floor) n news }) same ∙ ap (λ l. record { config = c; log = l }) (entered_log c was before low view floor xs numbers news legal kept h e p)
    ∙ ap (λ (k : KeptLog). record { config = k.config; log = entered k.config view floor.0 (floor.0 + length xs) (pre_prepares_in xs) k.log }) viewed
