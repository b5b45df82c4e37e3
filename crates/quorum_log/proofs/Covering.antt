-- Where there is a vote, its key is among those that are read off.
use Rattle.std.proofs.Common.{◌≡◌, ◌≢◌, ℕ, zero, suc, ◌+◌, ◌-◌, ◌*◌, ◌<◌, ◌≤◌, Bool, true, false, cond, ◌||◌, List, [], ◌∷◌, ◌++◌, length, Option, Some, None, refl, sym, ap, subst, ◌∙◌, arith, ◌⊎◌, inl, inr}
use Rattle.std.specs.Prelude.{nat_lt}
use Rattle.std.specs.Ordering.{nat_cmp, eq_by_cmp, is_eq}
use Rattle.std.specs.Cmp.Lexicographic.{slice_cmp}
use Rattle.std.specs.Option.{unwrap_or}
use Rattle.std.specs.BTreeMap as tree
use Rattle.std.proofs.lemmas.Bool.{cases_Bool, cases_eq, cases_lt, lt-ltb, le-ltb}
use Rattle.seal.specs.declared.vote.VoteKind.{VoteKind}
use Rattle.seal.specs.declared.vote.VoteKind.TheVariants.{PrePrepare, Prepare, Commit}
use Rattle.ballots.specs.Tables.{Key}
use Rattle.quorum_log.specs.declared.view_slots.ViewSlots.{ViewSlots}
use Rattle.quorum_log.specs.declared.slot.Slot.{Slot}
use Rattle.quorum_log.specs.Slots.{empty_slot, IsSlotAt}
use Rattle.quorum_log.specs.Windows.{slots_at, slot_of, vote_by, vote_at_key, keys_by_signer, keys_by_view, keys_by_number}
use Rattle.ballots.specs.ByKey.{is_among, Covers}
use Rattle.ballots.proofs.Ballots.{nobody}
use Rattle.ballots.proofs.Tables.{among_append, ties, is_equal, is_read_off}
use Rattle.quorum_log.proofs.Slots.{slot_none}
use Rattle.quorum_log.specs.Log.{start}
use Rattle.quorum_log.specs.Reading.{read_by, table_of, log_in, AreKept, as_pre_prepare, as_prepare, as_commit}
use Rattle.host_types.specs.Configuration.{Configuration}
use Rattle.pbft_codec.specs.declared.body.Body.{Body}
use Rattle.ballots.specs.Words.{Signed}
use Rattle.seal.specs.Opening.{CheckedMessage}
use Rattle.std.specs.Map.{keys_of, lookup}
use Rattle.std.specs.FinMap.{nat_cmp-IsAntisymmetric}

pub left_false : (a b : Bool) → (a || b) ≡ false → a ≡ false
left_false true b e = absurd cc
left_false false b e = refl

pub right_false : (a b : Bool) → (a || b) ≡ false → b ≡ false
right_false true b e = absurd cc
right_false false b e = e

not_among_left : (q : Key) (ks others : List Key) → is_among q (ks ++ others) ≡ false → is_among q ks ≡ false
not_among_left q ks others e = left_false (is_among q ks) (is_among q others) (sym (among_append q ks others) ∙ e)

not_among_right : (q : Key) (ks others : List Key) → is_among q (ks ++ others) ≡ false → is_among q others ≡ false
not_among_right q ks others e = right_false (is_among q ks) (is_among q others) (sym (among_append q ks others) ∙ e)

true_not_false : (b : Bool) → b ≡ true → b ≡ false → ⊥
true_not_false true e f = absurd cc
true_not_false false e f = absurd cc

signer_step : (number view n s : ℕ) → (s < n → is_among (number ∷ view ∷ s ∷ []) (keys_by_signer number view n) ≡ false → ⊥) → s < suc n → is_among (number ∷ view ∷ s ∷ []) (keys_by_signer number view (suc n)) ≡ false → (s ≡ n) ⊎ (s ≢ n) → ⊥
signer_step number view n s rest lt e (inl is) =
    true_not_false _ (ap (λ k. eq_by_cmp (slice_cmp nat_cmp) (number ∷ view ∷ s ∷ []) (number ∷ view ∷ k ∷ [])) (sym is) ∙ ties (number ∷ view ∷ s ∷ [])) (left_false _ _ e)
signer_step number view n s rest lt e (inr ne) = rest (omega (arith, lt)) (right_false _ _ e)

signer_among : (number view n s : ℕ) → s < n → is_among (number ∷ view ∷ s ∷ []) (keys_by_signer number view n) ≡ false → ⊥
signer_among number view zero s lt e = absurd (omega arith)
signer_among number view (suc n) s lt e = signer_step number view n s (signer_among number view n s) lt e (cases_eq s n)

view_step : (view number s : ℕ) (x : ℕ × Slot) (es : List (ℕ × Slot)) → s < 10 → is_among (number ∷ view ∷ s ∷ []) (keys_by_signer number x.0 10 ++ keys_by_view number (keys_of es)) ≡ false
    → (is_among (number ∷ view ∷ s ∷ []) (keys_by_view number (keys_of es)) ≡ false → lookup (tree.is_at (nat_cmp view)) es ≡ None)
    → (is_eq (nat_cmp view x.0) ≡ true) ⊎ (is_eq (nat_cmp view x.0) ≡ false) → lookup (tree.is_at (nat_cmp view)) (x ∷ es) ≡ None
view_step view number s x es lt e rest (inl is) =
    absurd (signer_among number view 10 s lt (ap (λ v. is_among (number ∷ view ∷ s ∷ []) (keys_by_signer number v 10)) (nat_cmp-IsAntisymmetric view x.0 (is_equal (nat_cmp view x.0) is))
    ∙ not_among_left (number ∷ view ∷ s ∷ []) (keys_by_signer number x.0 10) (keys_by_view number (keys_of es)) e))
view_step view number s x es lt e rest (inr not) =
    ap (λ b. cond b (Some x.1) (lookup (tree.is_at (nat_cmp view)) es)) not ∙ rest (not_among_right (number ∷ view ∷ s ∷ []) (keys_by_signer number x.0 10) (keys_by_view number (keys_of es)) e)

slot_view : (view number s : ℕ) (es : List (ℕ × Slot)) → s < 10 → is_among (number ∷ view ∷ s ∷ []) (keys_by_view number (keys_of es)) ≡ false → lookup (tree.is_at (nat_cmp view)) es ≡ None
slot_view view number s [] lt e = refl
slot_view view number s (x ∷ es) lt e = view_step view number s x es lt e (slot_view view number s es lt) (cases_Bool (is_eq (nat_cmp view x.0)))

-- where no key stands, the slot is empty
index_is : (low i number : ℕ) → number ≡ low + 1 + suc i → number ≡ (low + 1) + 1 + i
index_is low i number e = omega (arith, e)

first_is : (low number : ℕ) → number ≡ low + 1 + zero → number ≡ low + 1
first_is low number e = omega (arith, e)

slot_missing : (numbers : List ViewSlots) (low i number view s : ℕ) → number ≡ low + 1 + i → s < 10 → is_among (number ∷ view ∷ s ∷ []) (keys_by_number low numbers) ≡ false → slots_at numbers i view ≡ empty_slot
slot_missing [] low i number view s is lt e = refl
slot_missing (p ∷ numbers) low zero number view s is lt e =
    let at : number ≡ low + 1 = first_is low number is in
    let q : Key = number ∷ view ∷ s ∷ [] in
    let missed = not_among_left q (keys_by_view (low + 1) (tree.keys p.slots)) (keys_by_number (low + 1) numbers) e in
    ap (λ o. unwrap_or o empty_slot) (slot_view view number s p.slots.entries lt (ap (λ n. is_among q (keys_by_view n (tree.keys p.slots))) at ∙ missed))
slot_missing (p ∷ numbers) low (suc i) number view s is lt e =
    slot_missing numbers (low + 1) i number view s (index_is low i number is) lt
    (not_among_right (number ∷ view ∷ s ∷ []) (keys_by_view (low + 1) (tree.keys p.slots)) (keys_by_number (low + 1) numbers) e)

pub no_vote : (kind : VoteKind) (signer : ℕ) → vote_by kind signer empty_slot ≡ None
no_vote PrePrepare signer = refl
no_vote Prepare signer = nobody 10 signer
no_vote Commit signer = nobody 10 signer

slot_out : (low : ℕ) (numbers : List ViewSlots) (number view s : ℕ) → (low < number) ⊎ (number ≤ low) → s < 10 → is_among (number ∷ view ∷ s ∷ []) (keys_by_number low numbers) ≡ false → slot_of low numbers number view ≡ empty_slot
slot_out low numbers number view s (inl above) lt e =
    ap (λ b. cond b (slots_at numbers (number - low - 1) view) empty_slot) (lt-ltb low number above) ∙ slot_missing numbers low (number - low - 1) number view s (omega (arith, above)) lt e
slot_out low numbers number view s (inr under) lt e = ap (λ b. cond b (slots_at numbers (number - low - 1) view) empty_slot) (le-ltb low number under)

vote_out : (kind : VoteKind) (low : ℕ) (numbers : List ViewSlots) (number view s : ℕ) → is_among (number ∷ view ∷ s ∷ []) (keys_by_number low numbers) ≡ false → (s < 10) ⊎ (10 ≤ s) → vote_at_key kind low numbers (number ∷ view ∷ s ∷ []) ≡ None
vote_out kind low numbers number view s e (inl lt) =
    ap (λ b. cond b (vote_by kind s (slot_of low numbers number view)) None) (lt-ltb s 10 lt) ∙ ap (vote_by kind s) (slot_out low numbers number view s (cases_lt low number) lt e) ∙ no_vote kind s
vote_out kind low numbers number view s e (inr le) = ap (λ b. cond b (vote_by kind s (slot_of low numbers number view)) None) (le-ltb s 10 le)

pub covers_votes : (kind : VoteKind) (low : ℕ) (numbers : List ViewSlots) → Covers (vote_at_key kind low numbers) (keys_by_number low numbers)
covers_votes kind low numbers [] e = refl
covers_votes kind low numbers (number ∷ []) e = refl
covers_votes kind low numbers (number ∷ view ∷ []) e = refl
covers_votes kind low numbers (number ∷ view ∷ signer ∷ []) e = vote_out kind low numbers number view signer e (cases_lt signer 10)
covers_votes kind low numbers (number ∷ view ∷ signer ∷ more ∷ rest) e = refl

covers_read : {B : Type 0} (pick : Signed Body → Body → Option (Signed B)) (value : Key → Option CheckedMessage) (ks : List Key) → Covers value ks → Covers (λ q. read_by pick (value q)) ks
covers_read pick value ks h q e = ap (read_by pick) (h q e)

pub covers_table : {B : Type 0} (pick : Signed Body → Body → Option (Signed B)) (kind : VoteKind) (low : ℕ) (numbers : List ViewSlots) → Covers (λ q. read_by pick (vote_at_key kind low numbers q)) (keys_by_number low numbers)
covers_table pick kind low numbers = covers_read pick (vote_at_key kind low numbers) (keys_by_number low numbers) (covers_votes kind low numbers)

-- ---- nothing recorded

pub either_none : {X : Type 0} (b : Bool) (o : Option X) → o ≡ None → cond b o None ≡ None
either_none true o e = e
either_none false o e = refl

pub either_empty : (b : Bool) (s : Slot) → s ≡ empty_slot → cond b s empty_slot ≡ empty_slot
either_empty true s e = e
either_empty false s e = refl

nothing_at : (kind : VoteKind) (low : ℕ) (numbers : List ViewSlots) → ((i v : ℕ) → slots_at numbers i v ≡ empty_slot) → (q : Key) → vote_at_key kind low numbers q ≡ None
nothing_at kind low numbers h [] = refl
nothing_at kind low numbers h (number ∷ []) = refl
nothing_at kind low numbers h (number ∷ view ∷ []) = refl
nothing_at kind low numbers h (number ∷ view ∷ signer ∷ []) =
    either_none (nat_lt signer 10) (vote_by kind signer (slot_of low numbers number view))
    (ap (vote_by kind signer) (either_empty (nat_lt low number) (slots_at numbers (number - low - 1) view) (h (number - low - 1) view)) ∙ no_vote kind signer)
nothing_at kind low numbers h (number ∷ view ∷ signer ∷ more ∷ rest) = refl

pub empty_table : {B : Type 0} (pick : Signed Body → Body → Option (Signed B)) (kind : VoteKind) (low : ℕ) (numbers : List ViewSlots) → ((i v : ℕ) → slots_at numbers i v ≡ empty_slot) → table_of pick kind low numbers ≡ []
empty_table pick kind low numbers h =
    is_read_off (λ q. read_by pick (vote_at_key kind low numbers q)) (keys_by_number low numbers) [] (covers_table pick kind low numbers) tt
    (λ q. sym (ap (read_by pick) (nothing_at kind low numbers h q)))

pub empty_log : (numbers : List ViewSlots) → ((i v : ℕ) → slots_at numbers i v ≡ empty_slot) → log_in 0 (Some (record { 0 = 0 })) 0 numbers ≡ start
empty_log numbers h = λ i. record {
  view = 0;
  floor = Some 0;
  low = 0;
  pre_prepares = empty_table as_pre_prepare PrePrepare 0 numbers h i;
  prepares = empty_table as_prepare Prepare 0 numbers h i;
  commits = empty_table as_commit Commit 0 numbers h i;
}

-- each vote of empty slots is at its own view and number
pub empty_kept : (c : Configuration) (numbers : List ViewSlots) → length numbers ≡ 2 * c.k → ((i v : ℕ) → slots_at numbers i v ≡ empty_slot) → AreKept c 0 numbers
empty_kept c numbers e h = record {
  span = e;
  slots = λ number view. subst (IsSlotAt c view number) (sym (either_empty (nat_lt 0 number) (slots_at numbers (number - 0 - 1) view) (h (number - 0 - 1) view))) (slot_none c view number);
}

-- ---- numbers go

further : (low by n : ℕ) → low < by → by < n → (n - by - 1) + (by - low) ≡ n - low - 1
further low by n lt le = omega (arith, lt, le)

pub slot_kept : (low by : ℕ) (numbers news : List ViewSlots) → low < by → ((i v : ℕ) → slots_at news i v ≡ slots_at numbers (i + (by - low)) v) → (n v : ℕ) → (by < n) ⊎ (n ≤ by) → slot_of by news n v ≡ cond (nat_lt by n) (slot_of low numbers n v) empty_slot
slot_kept low by numbers news lt h n v (inl above) =
    ap (λ b. cond b (slots_at news (n - by - 1) v) empty_slot) (lt-ltb by n above) ∙ h (n - by - 1) v ∙ ap (λ i. slots_at numbers i v) (further low by n lt above)
    ∙ sym (ap (λ b. cond b (slots_at numbers (n - low - 1) v) empty_slot) (lt-ltb low n (omega (arith, lt, above))))
    ∙ sym (ap (λ b. cond b (slot_of low numbers n v) empty_slot) (lt-ltb by n above))
slot_kept low by numbers news lt h n v (inr under) =
    ap (λ b. cond b (slots_at news (n - by - 1) v) empty_slot) (le-ltb by n under) ∙ sym (ap (λ b. cond b (slot_of low numbers n v) empty_slot) (le-ltb by n under))
