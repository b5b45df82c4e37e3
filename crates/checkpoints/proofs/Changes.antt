-- What a contract sees of the tables after a change.
use Rattle.std.proofs.Common.{◌≡◌, ◌≢◌, ℕ, ◌<◌, ◌≤◌, Bool, true, false, cond, ◌&&◌, List, [], ◌∷◌, Option, Some, None, refl, sym, ap, subst, ◌∙◌, arith, ◌⊎◌, inl, inr}
use Rattle.std.specs.Prelude.{nat_le, is_some, ◌==◌}
use Rattle.std.specs.Ordering.{nat_cmp, eq_by_cmp, is_eq}
use Rattle.std.specs.Cmp.{tied_itself, nat_cmp_total}
use Rattle.std.specs.Cmp.Lexicographic.{slice_cmp}
use Rattle.std.specs.Map.{keys_of, lookup}
use Rattle.std.specs.Option.{unwrap_or}
use Rattle.std.specs.BTreeMap as tree
use Rattle.std.proofs.lemmas.Bool.{cases_eq, eq-eqb, ne_eqb}
use Rattle.host_types.specs.Configuration.{Configuration, IsConfiguration}
use Rattle.host_types.specs.declared.Digest.{Digest}
use Rattle.host_types.specs.declared.SeqNo.{SeqNo}
use Rattle.ballots.specs.Tables.{Key, with_entry, number_key}
use Rattle.ballots.specs.Ballots.{Ballot}
use Rattle.ballots.specs.ByKey.{table_by}
use Rattle.checkpoints.specs.Kept.{IsGreatestStable, KeptCheckpoints, NoneStableAbove, start}
use Rattle.checkpoints.specs.Reading.{AreKept, IsBallotAt, IsGreatest, ballot_in, bytes_at_key, checkpoint_at_key, keys_by_number, kept_in, no_votes, number_keys, quorum_digest, quorum_proof, said_by, snapshots_in, stable_now}
use Rattle.checkpoints.proofs.Keys.{at_number, covers_snapshots, key_test, number_test, put_table}
use Rattle.checkpoints.proofs.Views.{none_at, stable_seen}
use Rattle.checkpoints.proofs.Voting.{empty_ballot}

-- ---- nothing is kept

none_entered : {X : Type 0} (m : tree.BTreeMap ℕ X) (number : ℕ) → m.entries ≡ [] → tree.get nat_cmp m number ≡ None
none_entered m number e = ap (lookup (tree.is_at (nat_cmp number))) e

pub started : (c d : Configuration) (ballots : tree.BTreeMap ℕ Ballot) (snapshots : tree.BTreeMap ℕ (List ℕ)) → c ≡ d → ballots.entries ≡ [] → snapshots.entries ≡ [] → kept_in c 0 ballots snapshots ≡ start d
started c d ballots snapshots is e f = ap (λ (x : Configuration). kept_in x 0 ballots snapshots) is ∙ (λ i. record {
  config = d;
  low = 0;
  proof = ap (λ (o : Option Digest). quorum_proof d (said_by (ballot_in ballots 0)) 0 o) (none_at d ballots 0 (none_entered ballots 0 e)) i;
  checkpoints = ap (λ (es : List (ℕ × Ballot)). table_by (checkpoint_at_key 0 ballots) (keys_by_number (keys_of es))) e i;
  snapshots = ap (λ (es : List (ℕ × List ℕ)). table_by (bytes_at_key snapshots) (number_keys (keys_of es))) f i;
})

either_none : {X : Type 0} (b : Bool) (o : Option X) → o ≡ None → cond b o None ≡ None
either_none true o e = e
either_none false o e = refl

pub none_kept : (c : Configuration) (ballots : tree.BTreeMap ℕ Ballot) → IsConfiguration c → ballots.entries ≡ [] → AreKept c 0 ballots None
none_kept c ballots k e = record {
  configuration = k;
  each = λ number. subst (IsBallotAt c number) (sym (ap (λ (o : Option Ballot). unwrap_or o no_votes) (none_entered ballots number e))) (empty_ballot c number);
  top = λ n. either_none (nat_le 0 n) (quorum_digest c (said_by (ballot_in ballots n)) n) (none_at c ballots n (none_entered ballots n e));
}

-- ---- the greatest stable number

pub greatest_seen : (c : Configuration) (low : ℕ) (ballots : tree.BTreeMap ℕ Ballot) (snapshots : tree.BTreeMap ℕ (List ℕ)) (greatest : Option SeqNo) (g : SeqNo) (number : ℕ) (k : KeptCheckpoints) → AreKept c low ballots greatest → kept_in c low ballots snapshots ≡ k → greatest ≡ Some g → number < g.0
    → IsGreatestStable k number g.0
greatest_seen c low ballots snapshots greatest g number k h view is lt =
    let top : IsGreatest c low ballots (Some g) = subst (IsGreatest c low ballots) is h.top in
    subst (λ x. IsGreatestStable x number g.0) view (record {
      above = lt;
      stable = ap is_some (stable_seen c low ballots snapshots g.0 h.configuration h.each) ∙ top.0;
      greatest = λ n more. stable_seen c low ballots snapshots n h.configuration h.each ∙ top.1 n more;
    })

abbrev pub IsUpTo : ℕ → Option SeqNo → Type 0
IsUpTo number None = Unit {0}
IsUpTo number (Some g) = g.0 ≤ number

none_from : (c : Configuration) (low : ℕ) (ballots : tree.BTreeMap ℕ Ballot) (greatest : Option SeqNo) (number n : ℕ) → IsGreatest c low ballots greatest → IsUpTo number greatest → number < n → stable_now c low ballots n ≡ None
none_from c low ballots None number n top le lt = top n
none_from c low ballots (Some g) number n top le lt = top.1 n (omega (arith, le, lt))

pub none_above : (c : Configuration) (low : ℕ) (ballots : tree.BTreeMap ℕ Ballot) (snapshots : tree.BTreeMap ℕ (List ℕ)) (greatest : Option SeqNo) (number : ℕ) (k : KeptCheckpoints) → AreKept c low ballots greatest → kept_in c low ballots snapshots ≡ k → IsUpTo number greatest
    → NoneStableAbove k number
none_above c low ballots snapshots greatest number k h view le =
    subst (λ x. NoneStableAbove x number) view (λ n lt. stable_seen c low ballots snapshots n h.configuration h.each ∙ none_from c low ballots greatest number n h.top le lt)

-- ---- a snapshot is put

same_number : (number : ℕ) → is_eq (nat_cmp number number) ≡ true
same_number number = ap is_eq (tied_itself nat_cmp_total number)

put_at : (old new : tree.BTreeMap ℕ (List ℕ)) (number : ℕ) (bytes : List ℕ) → ((q : ℕ) → tree.get nat_cmp new q ≡ cond (tree.is_at (nat_cmp number) q) (Some bytes) (tree.get nat_cmp old q)) → (q : Key)
    → bytes_at_key new q ≡ cond (eq_by_cmp (slice_cmp nat_cmp) q (number_key number)) (Some bytes) (bytes_at_key old q)
put_at old new number bytes h [] = sym (ap (λ b. cond b (Some bytes) None) (key_test [] (number_key number)))
put_at old new number bytes h (n ∷ []) = h n ∙ ap (λ b. cond b (Some bytes) (tree.get nat_cmp old n)) (both_ways (cases_eq n number)) where
  both_ways : (n ≡ number) ⊎ (n ≢ number) → is_eq (nat_cmp number n) ≡ eq_by_cmp (slice_cmp nat_cmp) (n ∷ []) (number ∷ [])
  both_ways (inl is) = ap (λ m. is_eq (nat_cmp number m)) is ∙ same_number number ∙ sym (number_test n number ∙ eq-eqb n number is)
  both_ways (inr ne) = other_number (is_eq (nat_cmp number n)) refl ∙ sym (number_test n number ∙ ne_eqb n number ne) where
    other_number : (b : Bool) → is_eq (nat_cmp number n) ≡ b → b ≡ false
    other_number true e = absurd (ne (sym (at_number number n e)))
    other_number false e = refl
put_at old new number bytes h (n ∷ more ∷ rest) = sym (ap (λ b. cond b (Some bytes) None) (key_test (n ∷ more ∷ rest) (number_key number) ∙ longer (n == number))) where
  longer : (b : Bool) → (b && false) ≡ false
  longer true = refl
  longer false = refl

pub snapshot_put : (old new : tree.BTreeMap ℕ (List ℕ)) (number : ℕ) (bytes : List ℕ) → ((q : ℕ) → tree.get nat_cmp new q ≡ cond (tree.is_at (nat_cmp number) q) (Some bytes) (tree.get nat_cmp old q))
    → snapshots_in new ≡ with_entry (snapshots_in old) (number_key number) bytes
snapshot_put old new number bytes h =
    put_table (number_key number) bytes (bytes_at_key old) (bytes_at_key new) (number_keys (tree.keys old)) (number_keys (tree.keys new)) (covers_snapshots old) (covers_snapshots new) (put_at old new number bytes h)
