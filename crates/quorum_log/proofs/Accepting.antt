-- What is recorded after one more vote at one slot.
use Rattle.std.proofs.Common.{◌≡◌, ◌≢◌, ℕ, ◌-◌, ◌<◌, ◌≤◌, ◌==◌, Bool, true, false, cond, not, ◌&&◌, List, [], ◌∷◌, Option, Some, None, refl, sym, ap, subst, ◌∙◌, arith, ◌⊎◌, inl, inr}
use Rattle.std.specs.Prelude.{is_some, nat_lt}
use Rattle.std.specs.Ordering.{nat_cmp, eq_by_cmp}
use Rattle.std.specs.Cmp.Lexicographic.{slice_cmp}
use Rattle.std.proofs.lemmas.Bool.{cases_Bool, cases_eq, cases_lt, lt-ltb, le-ltb, eq-eqb}
use Rattle.std.proofs.lemmas.Bool.Decides.{eqb_tells}
use Rattle.pbft_codec.specs.declared.body.Body.{Body}
use Rattle.ballots.specs.Words.{Signed}
use Rattle.ballots.specs.Tables.{Key, vote_key, add_if}
use Rattle.seal.specs.Opening.{CheckedMessage}
use Rattle.seal.specs.declared.vote.VoteKind.{VoteKind}
use Rattle.quorum_log.specs.declared.view_slots.ViewSlots.{ViewSlots}
use Rattle.quorum_log.specs.declared.slot.Slot.{Slot}
use Rattle.quorum_log.specs.Slots.{empty_slot, with_vote}
use Rattle.quorum_log.specs.Windows.{HasSlotAt, HaveSameWindows, slots_at, slot_of, vote_by, vote_at_key, keys_by_number}
use Rattle.quorum_log.specs.Reading.{read_by, table_of}
use Rattle.quorum_log.proofs.Covering.{covers_table}
use Rattle.quorum_log.proofs.Recording.{AfterFirst, other_kind}
use Rattle.ballots.proofs.Tables.{added_table, same_table, same_key, is_equal, ties}

-- ---- the slot itself, and the others

pub slot_here : (low number view : ℕ) (s : Slot) (numbers news : List ViewSlots) → low < number → HasSlotAt (number - low - 1) view s numbers news → slot_of low news number view ≡ s
slot_here low number view s numbers news lt h = ap (λ b. cond b (slots_at news (number - low - 1) view) empty_slot) (lt-ltb low number lt) ∙ h.here

pub slot_was : (low number view : ℕ) (numbers : List ViewSlots) → low < number → slot_of low numbers number view ≡ slots_at numbers (number - low - 1) view
slot_was low number view numbers lt = ap (λ b. cond b (slots_at numbers (number - low - 1) view) empty_slot) (lt-ltb low number lt)

apart_index : (low number n view v : ℕ) → low < number → low < n → (n ≢ number) ⊎ (v ≢ view) → (n - low - 1 ≢ number - low - 1) ⊎ (v ≢ view)
apart_index low number n view v lt below (inl ne) = inl (λ is. ne (omega (arith, is, lt, below)))
apart_index low number n view v lt below (inr ne) = inr ne

pub slot_apart : (low number view : ℕ) (s : Slot) (numbers news : List ViewSlots) → low < number → HasSlotAt (number - low - 1) view s numbers news → (n v : ℕ) → (n ≢ number) ⊎ (v ≢ view) → (low < n) ⊎ (n ≤ low) → slot_of low news n v ≡ slot_of low numbers n v
slot_apart low number view s numbers news lt h n v apart (inl below) =
    ap (λ b. cond b (slots_at news (n - low - 1) v) empty_slot) (lt-ltb low n below) ∙ h.elsewhere (n - low - 1) v (apart_index low number n view v lt below apart)
    ∙ sym (ap (λ b. cond b (slots_at numbers (n - low - 1) v) empty_slot) (lt-ltb low n below))
slot_apart low number view s numbers news lt h n v apart (inr le) =
    ap (λ b. cond b (slots_at news (n - low - 1) v) empty_slot) (le-ltb low n le) ∙ sym (ap (λ b. cond b (slots_at numbers (n - low - 1) v) empty_slot) (le-ltb low n le))

pub vote_key_at : (kind : VoteKind) (low : ℕ) (numbers : List ViewSlots) (number view s : ℕ) (slot : Slot) → s < 10 → slot_of low numbers number view ≡ slot → vote_at_key kind low numbers (vote_key number view s) ≡ vote_by kind s slot
vote_key_at kind low numbers number view s slot lt e = ap (λ b. cond b (vote_by kind s (slot_of low numbers number view)) None) (lt-ltb s 10 lt) ∙ ap (vote_by kind s) e

-- ---- keys

abbrev first : Key → ℕ
first [] = 0
first (a ∷ rest) = a

abbrev second : Key → ℕ
second [] = 0
second (a ∷ []) = 0
second (a ∷ b ∷ rest) = b

abbrev third : Key → ℕ
third [] = 0
third (a ∷ []) = 0
third (a ∷ b ∷ []) = 0
third (a ∷ b ∷ c ∷ rest) = c

-- a key is this one, or stands apart from it
pub data AtKey (number view signer : ℕ) (q : Key) : Type 0 where
  here : q ≡ vote_key number view signer → AtKey number view signer q
  other_signer : (s : ℕ) → q ≡ vote_key number view s → s ≢ signer → AtKey number view signer q
  other_slot : (n v s : ℕ) → q ≡ vote_key n v s → (n ≢ number) ⊎ (v ≢ view) → AtKey number view signer q
  no_vote : q ≢ vote_key number view signer → ((kind : VoteKind) (low : ℕ) (numbers : List ViewSlots) → vote_at_key kind low numbers q ≡ None) → AtKey number view signer q

key_cases : (number view signer n v s : ℕ) → (n ≡ number) ⊎ (n ≢ number) → (v ≡ view) ⊎ (v ≢ view) → (s ≡ signer) ⊎ (s ≢ signer) → AtKey number view signer (n ∷ v ∷ s ∷ [])
key_cases number view signer n v s (inr ne) f g = other_slot n v s refl (inl ne)
key_cases number view signer n v s (inl e) (inr ne) g = other_slot n v s refl (inr ne)
key_cases number view signer n v s (inl e) (inl f) (inr ne) = other_signer s (λ i. e i ∷ f i ∷ s ∷ []) ne
key_cases number view signer n v s (inl e) (inl f) (inl g) = here (λ i. e i ∷ f i ∷ g i ∷ [])

pub at_key : (number view signer : ℕ) (q : Key) → AtKey number view signer q
at_key number view signer [] = no_vote (λ e. absurd cc) (λ kind low numbers. refl)
at_key number view signer (n ∷ []) = no_vote (λ e. absurd cc) (λ kind low numbers. refl)
at_key number view signer (n ∷ v ∷ []) = no_vote (λ e. absurd cc) (λ kind low numbers. refl)
at_key number view signer (n ∷ v ∷ s ∷ []) = key_cases number view signer n v s (cases_eq n number) (cases_eq v view) (cases_eq s signer)
at_key number view signer (n ∷ v ∷ s ∷ more ∷ rest) = no_vote (λ e. absurd cc) (λ kind low numbers. refl)

pub not_tied : (q k : Key) → q ≢ k → eq_by_cmp (slice_cmp nat_cmp) q k ≡ false
not_tied q k ne = pick (cases_Bool (eq_by_cmp (slice_cmp nat_cmp) q k)) where
  pick : (eq_by_cmp (slice_cmp nat_cmp) q k ≡ true) ⊎ (eq_by_cmp (slice_cmp nat_cmp) q k ≡ false) → eq_by_cmp (slice_cmp nat_cmp) q k ≡ false
  pick (inl e) = absurd (ne (same_key q k (is_equal (slice_cmp nat_cmp q k) e)))
  pick (inr e) = e

pub signer_of : (n v s m w t : ℕ) → vote_key n v s ≡ vote_key m w t → s ≡ t
signer_of n v s m w t e = ap third e

pub number_of : (n v s m w t : ℕ) → vote_key n v s ≡ vote_key m w t → n ≡ m
number_of n v s m w t e = ap first e

view_of : (n v s m w t : ℕ) → vote_key n v s ≡ vote_key m w t → v ≡ w
view_of n v s m w t e = ap second e

pub apart_keys : (n v s number view signer : ℕ) → (n ≢ number) ⊎ (v ≢ view) → vote_key n v s ≢ vote_key number view signer
apart_keys n v s number view signer (inl ne) e = ne (number_of n v s number view signer e)
apart_keys n v s number view signer (inr ne) e = ne (view_of n v s number view signer e)

-- ---- the tables

-- of another kind, the same votes
votes_of_other : (kind other : VoteKind) (low number view : ℕ) (m : CheckedMessage) (numbers news : List ViewSlots) → low < number → other ≢ kind
    → HasSlotAt (number - low - 1) view (with_vote kind m (slots_at numbers (number - low - 1) view)) numbers news
    → (n v s : ℕ) → (n ≡ number) ⊎ (n ≢ number) → (v ≡ view) ⊎ (v ≢ view) → vote_by other s (slot_of low news n v) ≡ vote_by other s (slot_of low numbers n v)
votes_of_other kind other low number view m numbers news lt ne h n v s (inl e) (inl f) =
    ap (λ n. vote_by other s (slot_of low news n v)) e ∙ ap (λ v. vote_by other s (slot_of low news number v)) f
    ∙ ap (vote_by other s) (slot_here low number view (with_vote kind m (slots_at numbers (number - low - 1) view)) numbers news lt h)
    ∙ other_kind kind other s m (slots_at numbers (number - low - 1) view) ne
    ∙ sym (ap (λ n. vote_by other s (slot_of low numbers n v)) e ∙ ap (λ v. vote_by other s (slot_of low numbers number v)) f ∙ ap (vote_by other s) (slot_was low number view numbers lt))
votes_of_other kind other low number view m numbers news lt ne h n v s (inr e) f =
    ap (vote_by other s) (slot_apart low number view (with_vote kind m (slots_at numbers (number - low - 1) view)) numbers news lt h n v (inl e) (cases_lt low n))
votes_of_other kind other low number view m numbers news lt ne h n v s (inl e) (inr f) =
    ap (vote_by other s) (slot_apart low number view (with_vote kind m (slots_at numbers (number - low - 1) view)) numbers news lt h n v (inr f) (cases_lt low n))

keys_of_other : (kind other : VoteKind) (low number view : ℕ) (m : CheckedMessage) (numbers news : List ViewSlots) → low < number → other ≢ kind
    → HasSlotAt (number - low - 1) view (with_vote kind m (slots_at numbers (number - low - 1) view)) numbers news
    → (q : Key) → vote_at_key other low news q ≡ vote_at_key other low numbers q
keys_of_other kind other low number view m numbers news lt ne h [] = refl
keys_of_other kind other low number view m numbers news lt ne h (n ∷ []) = refl
keys_of_other kind other low number view m numbers news lt ne h (n ∷ v ∷ []) = refl
keys_of_other kind other low number view m numbers news lt ne h (n ∷ v ∷ s ∷ []) =
    ap (λ o. cond (nat_lt s 10) o None) (votes_of_other kind other low number view m numbers news lt ne h n v s (cases_eq n number) (cases_eq v view))
keys_of_other kind other low number view m numbers news lt ne h (n ∷ v ∷ s ∷ more ∷ rest) = refl

pub table_of_other : {B : Type 0} (pick : Signed Body → Body → Option (Signed B)) (kind other : VoteKind) (low number view : ℕ) (m : CheckedMessage) (numbers news : List ViewSlots) → low < number → other ≢ kind
    → HasSlotAt (number - low - 1) view (with_vote kind m (slots_at numbers (number - low - 1) view)) numbers news
    → table_of pick other low news ≡ table_of pick other low numbers
table_of_other pick kind other low number view m numbers news lt ne h =
    same_table (λ q. read_by pick (vote_at_key other low numbers q)) (λ q. read_by pick (vote_at_key other low news q)) (keys_by_number low numbers) (keys_by_number low news)
    (covers_table pick other low numbers) (covers_table pick other low news) (λ q. ap (read_by pick) (keys_of_other kind other low number view m numbers news lt ne h q))

-- the same window has the same votes
same_slot : (low : ℕ) (numbers news : List ViewSlots) → HaveSameWindows numbers news → (n v : ℕ) → (low < n) ⊎ (n ≤ low) → slot_of low news n v ≡ slot_of low numbers n v
same_slot low numbers news h n v (inl lt) = ap (λ s. cond (nat_lt low n) s empty_slot) (h (n - low - 1) v)
same_slot low numbers news h n v (inr le) = ap (λ s. cond (nat_lt low n) s empty_slot) (h (n - low - 1) v)

same_keys : (kind : VoteKind) (low : ℕ) (numbers news : List ViewSlots) → HaveSameWindows numbers news → (q : Key) → vote_at_key kind low news q ≡ vote_at_key kind low numbers q
same_keys kind low numbers news h [] = refl
same_keys kind low numbers news h (n ∷ []) = refl
same_keys kind low numbers news h (n ∷ v ∷ []) = refl
same_keys kind low numbers news h (n ∷ v ∷ s ∷ []) = ap (λ slot. cond (nat_lt s 10) (vote_by kind s slot) None) (same_slot low numbers news h n v (cases_lt low n))
same_keys kind low numbers news h (n ∷ v ∷ s ∷ more ∷ rest) = refl

pub same_table_of : {B : Type 0} (pick : Signed Body → Body → Option (Signed B)) (kind : VoteKind) (low : ℕ) (numbers news : List ViewSlots) → HaveSameWindows numbers news → table_of pick kind low news ≡ table_of pick kind low numbers
same_table_of pick kind low numbers news h =
    same_table (λ q. read_by pick (vote_at_key kind low numbers q)) (λ q. read_by pick (vote_at_key kind low news q)) (keys_by_number low numbers) (keys_by_number low news)
    (covers_table pick kind low numbers) (covers_table pick kind low news) (λ q. ap (read_by pick) (same_keys kind low numbers news h q))

-- of its own kind, one more where there was none
first_read : {B : Type 0} (pick : Signed Body → Body → Option (Signed B)) (m : CheckedMessage) (x : Signed B) (b : Bool) (own : Option CheckedMessage)
    → pick m.message m.message.body ≡ Some x → read_by pick (cond b (Some m) own) ≡ cond b (Some x) (read_by pick own)
first_read pick m x true own e = e
first_read pick m x false own e = refl

first_here : {B : Type 0} (pick : Signed Body → Body → Option (Signed B)) (kind : VoteKind) (low number view : ℕ) (m : CheckedMessage) (x : Signed B) (slot : Slot) (numbers news : List ViewSlots)
    → m.message.id < 10 → slot_of low numbers number view ≡ slot → slot_of low news number view ≡ with_vote kind m slot
    → AfterFirst m.message.id m (vote_by kind m.message.id slot) (vote_by kind m.message.id slot) (vote_by kind m.message.id (with_vote kind m slot))
    → pick m.message m.message.body ≡ Some x → is_some (read_by pick (vote_by kind m.message.id slot)) ≡ is_some (vote_by kind m.message.id slot)
    → read_by pick (vote_at_key kind low news (vote_key number view m.message.id))
    ≡ cond (eq_by_cmp (slice_cmp nat_cmp) (vote_key number view m.message.id) (vote_key number view m.message.id) && not (is_some (read_by pick (vote_at_key kind low numbers (vote_key number view m.message.id)))))
    (Some x) (read_by pick (vote_at_key kind low numbers (vote_key number view m.message.id)))
first_here pick kind low number view m x slot numbers news lt was now after is reads =
    let key = vote_key number view m.message.id in
    let own = vote_by kind m.message.id slot in
    let before = vote_key_at kind low numbers number view m.message.id slot lt was in
    ap (read_by pick) (vote_key_at kind low news number view m.message.id (with_vote kind m slot) lt now ∙ after)
    ∙ first_read pick m x ((m.message.id == m.message.id) && not (is_some own)) own is
    ∙ ap (λ b. cond (b && not (is_some own)) (Some x) (read_by pick own)) (eq-eqb m.message.id m.message.id refl ∙ sym (ties key))
    ∙ ap (λ b. cond (eq_by_cmp (slice_cmp nat_cmp) key key && not b) (Some x) (read_by pick own)) (sym reads)
    ∙ ap (λ o. cond (eq_by_cmp (slice_cmp nat_cmp) key key && not (is_some (read_by pick o))) (Some x) (read_by pick o)) (sym before)

unequal : (s t : ℕ) → s ≢ t → (s == t) ≡ false
unequal s t ne = pick (eqb_tells s t) where
  pick : ((s == t) ≡ true) × (s ≡ t) ⊎ ((s == t) ≡ false) × (s ≢ t) → (s == t) ≡ false
  pick (inl (e, is)) = absurd (ne is)
  pick (inr (e, n)) = e

not_here : {X : Type 0} (b c : Bool) (x : X) (o p : Option X) → b ≡ false → o ≡ p → o ≡ cond (b && c) (Some x) p
not_here true c x o p e is = absurd cc
not_here false c x o p e is = is

has_first : {B : Type 0} (pick : Signed Body → Body → Option (Signed B)) (kind : VoteKind) (low number view : ℕ) (m : CheckedMessage) (x : Signed B) (numbers news : List ViewSlots)
    → low < number → m.message.id < 10 → HasSlotAt (number - low - 1) view (with_vote kind m (slots_at numbers (number - low - 1) view)) numbers news
    → ((s : ℕ) → AfterFirst s m (vote_by kind m.message.id (slots_at numbers (number - low - 1) view)) (vote_by kind s (slots_at numbers (number - low - 1) view)) (vote_by kind s (with_vote kind m (slots_at numbers (number - low - 1) view))))
    → pick m.message m.message.body ≡ Some x
    → is_some (read_by pick (vote_by kind m.message.id (slots_at numbers (number - low - 1) view))) ≡ is_some (vote_by kind m.message.id (slots_at numbers (number - low - 1) view))
    → (q : Key) → AtKey number view m.message.id q
    → read_by pick (vote_at_key kind low news q)
    ≡ cond (eq_by_cmp (slice_cmp nat_cmp) q (vote_key number view m.message.id) && not (is_some (read_by pick (vote_at_key kind low numbers (vote_key number view m.message.id)))))
    (Some x) (read_by pick (vote_at_key kind low numbers q))
has_first pick kind low number view m x numbers news lt id h after is reads q (here e) =
    subst (λ q. read_by pick (vote_at_key kind low news q)
    ≡ cond (eq_by_cmp (slice_cmp nat_cmp) q (vote_key number view m.message.id) && not (is_some (read_by pick (vote_at_key kind low numbers (vote_key number view m.message.id)))))
    (Some x) (read_by pick (vote_at_key kind low numbers q))) (sym e)
    (first_here pick kind low number view m x (slots_at numbers (number - low - 1) view) numbers news id (slot_was low number view numbers lt)
    (slot_here low number view (with_vote kind m (slots_at numbers (number - low - 1) view)) numbers news lt h) (after m.message.id) is reads)
has_first pick kind low number view m x numbers news lt id h after is reads q (other_signer s e ne) =
    let slot = slots_at numbers (number - low - 1) view in
    not_here (eq_by_cmp (slice_cmp nat_cmp) q (vote_key number view m.message.id)) (not (is_some (read_by pick (vote_at_key kind low numbers (vote_key number view m.message.id))))) x
    (read_by pick (vote_at_key kind low news q)) (read_by pick (vote_at_key kind low numbers q))
    (not_tied q (vote_key number view m.message.id) (λ f. ne (signer_of number view s number view m.message.id (sym e ∙ f))))
    (ap (λ q. read_by pick (vote_at_key kind low news q)) e
    ∙ ap (λ slot. read_by pick (cond (nat_lt s 10) (vote_by kind s slot) None)) (slot_here low number view (with_vote kind m slot) numbers news lt h)
    ∙ ap (λ o. read_by pick (cond (nat_lt s 10) o None)) (after s ∙ ap (λ b. cond (b && not (is_some (vote_by kind m.message.id slot))) (Some m) (vote_by kind s slot)) (unequal s m.message.id ne))
    ∙ sym (ap (λ slot. read_by pick (cond (nat_lt s 10) (vote_by kind s slot) None)) (slot_was low number view numbers lt))
    ∙ sym (ap (λ q. read_by pick (vote_at_key kind low numbers q)) e))
has_first pick kind low number view m x numbers news lt id h after is reads q (other_slot n v s e apart) =
    not_here (eq_by_cmp (slice_cmp nat_cmp) q (vote_key number view m.message.id)) (not (is_some (read_by pick (vote_at_key kind low numbers (vote_key number view m.message.id))))) x
    (read_by pick (vote_at_key kind low news q)) (read_by pick (vote_at_key kind low numbers q))
    (not_tied q (vote_key number view m.message.id) (λ f. apart_keys n v s number view m.message.id apart (sym e ∙ f)))
    (ap (λ q. read_by pick (vote_at_key kind low news q)) e
    ∙ ap (λ slot. read_by pick (cond (nat_lt s 10) (vote_by kind s slot) None))
    (slot_apart low number view (with_vote kind m (slots_at numbers (number - low - 1) view)) numbers news lt h n v apart (cases_lt low n))
    ∙ sym (ap (λ q. read_by pick (vote_at_key kind low numbers q)) e))
has_first pick kind low number view m x numbers news lt id h after is reads q (no_vote ne none) =
    not_here (eq_by_cmp (slice_cmp nat_cmp) q (vote_key number view m.message.id)) (not (is_some (read_by pick (vote_at_key kind low numbers (vote_key number view m.message.id))))) x
    (read_by pick (vote_at_key kind low news q)) (read_by pick (vote_at_key kind low numbers q)) (not_tied q (vote_key number view m.message.id) ne)
    (ap (read_by pick) (none kind low news) ∙ sym (ap (read_by pick) (none kind low numbers)))

pub table_with : {B : Type 0} (pick : Signed Body → Body → Option (Signed B)) (kind : VoteKind) (low number view : ℕ) (m : CheckedMessage) (x : Signed B) (numbers news : List ViewSlots)
    → low < number → m.message.id < 10 → HasSlotAt (number - low - 1) view (with_vote kind m (slots_at numbers (number - low - 1) view)) numbers news
    → ((s : ℕ) → AfterFirst s m (vote_by kind m.message.id (slots_at numbers (number - low - 1) view)) (vote_by kind s (slots_at numbers (number - low - 1) view)) (vote_by kind s (with_vote kind m (slots_at numbers (number - low - 1) view))))
    → pick m.message m.message.body ≡ Some x
    → is_some (read_by pick (vote_by kind m.message.id (slots_at numbers (number - low - 1) view))) ≡ is_some (vote_by kind m.message.id (slots_at numbers (number - low - 1) view))
    → table_of pick kind low news ≡ add_if true (vote_key number view m.message.id) x (table_of pick kind low numbers)
table_with pick kind low number view m x numbers news lt id h after is reads =
    added_table (vote_key number view m.message.id) x (λ q. read_by pick (vote_at_key kind low numbers q)) (λ q. read_by pick (vote_at_key kind low news q)) (keys_by_number low numbers) (keys_by_number low news)
    (covers_table pick kind low numbers) (covers_table pick kind low news) (λ q. has_first pick kind low number view m x numbers news lt id h after is reads q (at_key number view m.message.id q))
