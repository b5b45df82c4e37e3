-- Where there is a Checkpoint or a snapshot, its key is among those that are read off.
use Rattle.std.proofs.Common.{◌≡◌, ◌≢◌, ℕ, zero, suc, ◌<◌, ◌≤◌, Bool, true, false, cond, ◌||◌, ◌&&◌, not, List, [], ◌∷◌, ◌++◌, Option, Some, None, refl, sym, ap, ◌∙◌, arith, ◌⊎◌, inl, inr}
use Rattle.std.specs.Prelude.{nat_lt, nat_le, filter, bytes_eq, ◌==◌}
use Rattle.std.specs.Ordering.{nat_cmp, eq_by_cmp, is_eq}
use Rattle.std.specs.Cmp.Lexicographic.{slice_cmp, nat_list_cmp_total}
use Rattle.std.specs.FinMap.{nat_cmp-IsAntisymmetric}
use Rattle.std.specs.FinMap.Entries.{find-put, is_sorted-put}
use Rattle.std.specs.Map.{keys_of, lookup}
use Rattle.std.specs.Option.{unwrap_or}
use Rattle.std.specs.BTreeMap as tree
use Rattle.std.proofs.lemmas.Bool.{cases_Bool, cases_eq, cases_lt, le-ltb}
use Rattle.std.proofs.lemmas.Map.Entries.{lookup-filter-keys}
use Rattle.std.proofs.lemmas.Map.Text.{is_eq-slice_cmp}
use Rattle.ballots.specs.Tables.{Key, at, with_entry}
use Rattle.ballots.specs.Ballots.{Ballot}
use Rattle.ballots.specs.ByKey.{is_among, table_by, Covers}
use Rattle.ballots.proofs.Tables.{among_append, ties, is_equal, is_read_off, sorted_by, found}
use Rattle.checkpoints.specs.Reading.{ballot_in, bytes_at_key, checkpoint_at_key, keys_by_number, keys_by_signer, no_votes, number_keys, said_by, snapshots_in, checkpoints_in}
use Rattle.checkpoints.proofs.Voting.{nothing_in}

-- ---- a number that a map has

pub at_number : (number k : ℕ) → is_eq (nat_cmp number k) ≡ true → number ≡ k
at_number number k e = nat_cmp-IsAntisymmetric number k (is_equal (nat_cmp number k) e)

-- the entries of numbers from one on
pub after_filter : {X : Type 0} (old new : tree.BTreeMap ℕ X) (number n : ℕ) → new.entries ≡ filter (λ e. nat_le number e.0) old.entries → tree.get nat_cmp new n ≡ cond (nat_le number n) (tree.get nat_cmp old n) None
after_filter old new number n e =
    ap (lookup (tree.is_at (nat_cmp n))) e
    ∙ lookup-filter-keys (tree.is_at (nat_cmp n)) (nat_le number) (nat_le number n) (λ k same. ap (nat_le number) (sym (at_number n k same))) old.entries

-- ---- keys

left_false : (a b : Bool) → (a || b) ≡ false → a ≡ false
left_false true b e = absurd cc
left_false false b e = refl

right_false : (a b : Bool) → (a || b) ≡ false → b ≡ false
right_false true b e = absurd cc
right_false false b e = e

not_among_left : (q : Key) (ks others : List Key) → is_among q (ks ++ others) ≡ false → is_among q ks ≡ false
not_among_left q ks others e = left_false (is_among q ks) (is_among q others) (sym (among_append q ks others) ∙ e)

not_among_right : (q : Key) (ks others : List Key) → is_among q (ks ++ others) ≡ false → is_among q others ≡ false
not_among_right q ks others e = right_false (is_among q ks) (is_among q others) (sym (among_append q ks others) ∙ e)

both_ways : (b : Bool) → b ≡ true → b ≡ false → ⊥
both_ways true e f = absurd cc
both_ways false e f = absurd cc

signer_step : (number n s : ℕ) → (s < n → is_among (number ∷ s ∷ []) (keys_by_signer number n) ≡ false → ⊥) → s < suc n → is_among (number ∷ s ∷ []) (keys_by_signer number (suc n)) ≡ false → (s ≡ n) ⊎ (s ≢ n) → ⊥
signer_step number n s rest lt e (inl is) =
    both_ways _ (ap (λ k. eq_by_cmp (slice_cmp nat_cmp) (number ∷ s ∷ []) (number ∷ k ∷ [])) (sym is) ∙ ties (number ∷ s ∷ [])) (left_false _ _ e)
signer_step number n s rest lt e (inr ne) = rest (omega (arith, lt)) (right_false _ _ e)

signer_among : (number n s : ℕ) → s < n → is_among (number ∷ s ∷ []) (keys_by_signer number n) ≡ false → ⊥
signer_among number zero s lt e = absurd (omega arith)
signer_among number (suc n) s lt e = signer_step number n s (signer_among number n s) lt e (cases_eq s n)

number_step : {X : Type 0} (number s : ℕ) (x : ℕ × X) (es : List (ℕ × X)) → s < 10 → is_among (number ∷ s ∷ []) (keys_by_signer x.0 10 ++ keys_by_number (keys_of es)) ≡ false
    → (is_among (number ∷ s ∷ []) (keys_by_number (keys_of es)) ≡ false → lookup (tree.is_at (nat_cmp number)) es ≡ None)
    → (is_eq (nat_cmp number x.0) ≡ true) ⊎ (is_eq (nat_cmp number x.0) ≡ false) → lookup (tree.is_at (nat_cmp number)) (x ∷ es) ≡ None
number_step number s x es lt e rest (inl is) =
    absurd (signer_among number 10 s lt (ap (λ v. is_among (number ∷ s ∷ []) (keys_by_signer v 10)) (at_number number x.0 is) ∙ not_among_left (number ∷ s ∷ []) (keys_by_signer x.0 10) (keys_by_number (keys_of es)) e))
number_step number s x es lt e rest (inr not) =
    ap (λ b. cond b (Some x.1) (lookup (tree.is_at (nat_cmp number)) es)) not ∙ rest (not_among_right (number ∷ s ∷ []) (keys_by_signer x.0 10) (keys_by_number (keys_of es)) e)

no_entry : {X : Type 0} (number s : ℕ) (es : List (ℕ × X)) → s < 10 → is_among (number ∷ s ∷ []) (keys_by_number (keys_of es)) ≡ false → lookup (tree.is_at (nat_cmp number)) es ≡ None
no_entry number s [] lt e = refl
no_entry number s (x ∷ es) lt e = number_step number s x es lt e (no_entry number s es lt) (cases_Bool (is_eq (nat_cmp number x.0)))

either_none : {X : Type 0} (b : Bool) (o : Option X) → o ≡ None → cond b o None ≡ None
either_none true o e = e
either_none false o e = refl

out : (low : ℕ) (ballots : tree.BTreeMap ℕ Ballot) (number s : ℕ) → is_among (number ∷ s ∷ []) (keys_by_number (tree.keys ballots)) ≡ false → (s < 10) ⊎ (10 ≤ s) → checkpoint_at_key low ballots (number ∷ s ∷ []) ≡ None
out low ballots number s e (inl lt) =
    either_none (nat_lt low number) (cond (nat_lt s 10) (said_by (ballot_in ballots number) s) None)
    (either_none (nat_lt s 10) (said_by (ballot_in ballots number) s)
    (ap (λ o. said_by (unwrap_or o no_votes) s) (no_entry number s ballots.entries lt e) ∙ (λ j. nothing_in j s)))
out low ballots number s e (inr le) =
    either_none (nat_lt low number) (cond (nat_lt s 10) (said_by (ballot_in ballots number) s) None) (ap (λ b. cond b (said_by (ballot_in ballots number) s) None) (le-ltb s 10 le))

pub covers_checkpoints : (low : ℕ) (ballots : tree.BTreeMap ℕ Ballot) → Covers (checkpoint_at_key low ballots) (keys_by_number (tree.keys ballots))
covers_checkpoints low ballots [] e = refl
covers_checkpoints low ballots (number ∷ []) e = refl
covers_checkpoints low ballots (number ∷ s ∷ []) e = out low ballots number s e (cases_lt s 10)
covers_checkpoints low ballots (number ∷ s ∷ more ∷ rest) e = refl

snapshot_step : {X : Type 0} (number : ℕ) (x : ℕ × X) (es : List (ℕ × X)) → is_among (number ∷ []) (number_keys (keys_of (x ∷ es))) ≡ false
    → (is_among (number ∷ []) (number_keys (keys_of es)) ≡ false → lookup (tree.is_at (nat_cmp number)) es ≡ None)
    → (is_eq (nat_cmp number x.0) ≡ true) ⊎ (is_eq (nat_cmp number x.0) ≡ false) → lookup (tree.is_at (nat_cmp number)) (x ∷ es) ≡ None
snapshot_step number x es e rest (inl is) =
    absurd (both_ways _ (ap (λ k. eq_by_cmp (slice_cmp nat_cmp) (number ∷ []) (k ∷ [])) (sym (at_number number x.0 is)) ∙ ties (number ∷ [])) (left_false _ _ e))
snapshot_step number x es e rest (inr not) =
    ap (λ b. cond b (Some x.1) (lookup (tree.is_at (nat_cmp number)) es)) not ∙ rest (right_false _ _ e)

no_snapshot : {X : Type 0} (number : ℕ) (es : List (ℕ × X)) → is_among (number ∷ []) (number_keys (keys_of es)) ≡ false → lookup (tree.is_at (nat_cmp number)) es ≡ None
no_snapshot number [] e = refl
no_snapshot number (x ∷ es) e = snapshot_step number x es e (no_snapshot number es) (cases_Bool (is_eq (nat_cmp number x.0)))

pub covers_snapshots : (snapshots : tree.BTreeMap ℕ (List ℕ)) → Covers (bytes_at_key snapshots) (number_keys (tree.keys snapshots))
covers_snapshots snapshots [] e = refl
covers_snapshots snapshots (number ∷ []) e = no_snapshot number snapshots.entries e
covers_snapshots snapshots (number ∷ more ∷ rest) e = refl

-- ---- what is found in the tables

pub checkpoint_found : (low : ℕ) (ballots : tree.BTreeMap ℕ Ballot) (q : Key) → at (checkpoints_in low ballots) q ≡ checkpoint_at_key low ballots q
checkpoint_found low ballots q = found (checkpoint_at_key low ballots) (keys_by_number (tree.keys ballots)) q (covers_checkpoints low ballots)

pub snapshot_found : (snapshots : tree.BTreeMap ℕ (List ℕ)) (q : Key) → at (snapshots_in snapshots) q ≡ bytes_at_key snapshots q
snapshot_found snapshots q = found (bytes_at_key snapshots) (number_keys (tree.keys snapshots)) q (covers_snapshots snapshots)

-- ---- a snapshot is put

pub put_table : {X : Type 0} (key : Key) (x : X) (value other : Key → Option X) (ks others : List Key) → Covers value ks → Covers other others → ((q : Key) → other q ≡ cond (eq_by_cmp (slice_cmp nat_cmp) q key) (Some x) (value q))
    → table_by other others ≡ with_entry (table_by value ks) key x
put_table key x value other ks others h g is =
    let t = table_by value ks in
    is_read_off other others (with_entry t key x) g (is_sorted-put (slice_cmp nat_cmp) nat_list_cmp_total key x t (sorted_by value ks))
    (λ q. find-put (slice_cmp nat_cmp) nat_list_cmp_total q key x t ∙ ap (cond (eq_by_cmp (slice_cmp nat_cmp) q key) (Some x)) (found value ks q h) ∙ sym (is q))

-- keys tie exactly where they are the same numbers
pub key_test : (q k : Key) → eq_by_cmp (slice_cmp nat_cmp) q k ≡ bytes_eq q k
key_test q k = is_eq-slice_cmp q k

and_true : (b : Bool) → (b && true) ≡ b
and_true true = refl
and_true false = refl

pub number_test : (n k : ℕ) → eq_by_cmp (slice_cmp nat_cmp) (n ∷ []) (k ∷ []) ≡ (n == k)
number_test n k = key_test (n ∷ []) (k ∷ []) ∙ and_true (n == k)

pub signer_test : (n i k j : ℕ) → eq_by_cmp (slice_cmp nat_cmp) (n ∷ i ∷ []) (k ∷ j ∷ []) ≡ ((n == k) && (i == j))
signer_test n i k j = key_test (n ∷ i ∷ []) (k ∷ j ∷ []) ∙ ap (λ b. (n == k) && b) (and_true (i == j))

-- other keys have other lengths
pub no_test : (q : Key) (k : ℕ) → bytes_eq q (k ∷ []) ≡ false → eq_by_cmp (slice_cmp nat_cmp) q (k ∷ []) ≡ false
no_test q k e = key_test q (k ∷ []) ∙ e
