-- What a contract sees after numbers are discarded.
use Rattle.std.proofs.Common.{◌≡◌, ℕ, ◌<◌, ◌≤◌, Bool, true, false, cond, List, [], ◌∷◌, Option, Some, None, refl, sym, ap, subst, ◌∙◌, arith, ◌⊎◌, inl, inr}
use Rattle.std.specs.Prelude.{nat_lt, nat_le, is_some}
use Rattle.std.specs.Ordering.{nat_cmp}
use Rattle.std.specs.Option.{unwrap_or}
use Rattle.std.specs.BTreeMap as tree
use Rattle.std.proofs.lemmas.Bool.{cases_lt, lt-ltb, le-ltb, le-leb, lt-leb, cond-true, cond-false}
use Rattle.host_types.specs.Configuration.{Configuration, IsConfiguration}
use Rattle.host_types.specs.declared.SeqNo.{SeqNo}
use Rattle.ballots.specs.Core.{if_passes}
use Rattle.ballots.specs.Tables.{Key, keep, first_in, is_above}
use Rattle.ballots.specs.Words.{Signed, Checkpoint}
use Rattle.ballots.specs.Ballots.{Ballot}
use Rattle.ballots.proofs.Tables.{kept_table}
use Rattle.checkpoints.specs.Kept.{KeptCheckpoints, discarded, proof_at}
use Rattle.checkpoints.specs.Reading.{AreKept, IsBallotAt, IsGreatest, ballot_in, bytes_at_key, checkpoint_at_key, keys_by_number, kept_in, no_votes, number_keys, proof_now, quorum_digest, quorum_proof, said_by, stable_now}
use Rattle.checkpoints.proofs.Keys.{covers_checkpoints, covers_snapshots}
use Rattle.checkpoints.proofs.Views.{proof_seen}
use Rattle.checkpoints.proofs.Voting.{either_ballot}

-- what stands below a number is dropped
abbrev pub Dropped : {X : Type 0} → ℕ → tree.BTreeMap ℕ X → tree.BTreeMap ℕ X → Type 0
Dropped number old new = (n : ℕ) → tree.get nat_cmp new n ≡ cond (nat_le number n) (tree.get nat_cmp old n) None

ballot_kept : (number : ℕ) (old new : tree.BTreeMap ℕ Ballot) → Dropped number old new → (n : ℕ) → ballot_in new n ≡ cond (nat_le number n) (ballot_in old n) no_votes
ballot_kept number old new h n = ap (λ (o : Option Ballot). unwrap_or o no_votes) (h n) ∙ pick (nat_le number n) where
  pick : (b : Bool) → unwrap_or (cond b (tree.get nat_cmp old n) None) no_votes ≡ cond b (ballot_in old n) no_votes
  pick true = refl
  pick false = refl

ballot_above : (number : ℕ) (old new : tree.BTreeMap ℕ Ballot) → Dropped number old new → (n : ℕ) → number ≤ n → ballot_in new n ≡ ballot_in old n
ballot_above number old new h n le = ballot_kept number old new h n ∙ cond-true (nat_le number n) (ballot_in old n) no_votes (le-leb number n le)

either : {X : Type 0} (b : Bool) → ◌≡◌ {A = Option X} None (cond b None None)
either true = refl
either false = refl

key_kept : (low number : ℕ) (old new : tree.BTreeMap ℕ Ballot) → low < number → Dropped number old new → (n s : ℕ) → (number < n) ⊎ (n ≤ number)
    → checkpoint_at_key number new (n ∷ s ∷ []) ≡ cond (nat_lt number n) (checkpoint_at_key low old (n ∷ s ∷ [])) None
key_kept low number old new lt h n s (inl above) =
    let said : Ballot → Option (Signed Checkpoint) = λ votes. cond (nat_lt s 10) (said_by votes s) None in
    cond-true (nat_lt number n) (said (ballot_in new n)) None (lt-ltb number n above)
    ∙ ap said (ballot_above number old new h n (omega (arith, above)))
    ∙ sym (cond-true (nat_lt low n) (said (ballot_in old n)) None (lt-ltb low n (omega (arith, lt, above))))
    ∙ sym (cond-true (nat_lt number n) (checkpoint_at_key low old (n ∷ s ∷ [])) None (lt-ltb number n above))
key_kept low number old new lt h n s (inr under) =
    cond-false (nat_lt number n) (cond (nat_lt s 10) (said_by (ballot_in new n) s) None) None (le-ltb number n under)
    ∙ sym (cond-false (nat_lt number n) (checkpoint_at_key low old (n ∷ s ∷ [])) None (le-ltb number n under))

checkpoint_kept : (low number : ℕ) (old new : tree.BTreeMap ℕ Ballot) → low < number → Dropped number old new → (q : Key) → checkpoint_at_key number new q ≡ cond (is_above number q) (checkpoint_at_key low old q) None
checkpoint_kept low number old new lt h [] = either (is_above number [])
checkpoint_kept low number old new lt h (n ∷ []) = either (is_above number (n ∷ []))
checkpoint_kept low number old new lt h (n ∷ s ∷ []) = key_kept low number old new lt h n s (cases_lt number n)
checkpoint_kept low number old new lt h (n ∷ s ∷ more ∷ rest) = either (is_above number (n ∷ s ∷ more ∷ rest))

snapshot_kept : (number : ℕ) (old new : tree.BTreeMap ℕ (List ℕ)) → Dropped number old new → (q : Key) → bytes_at_key new q ≡ cond (nat_le number (first_in q)) (bytes_at_key old q) None
snapshot_kept number old new h [] = either (nat_le number (first_in []))
snapshot_kept number old new h (n ∷ []) = h n
snapshot_kept number old new h (n ∷ more ∷ rest) = either (nat_le number (first_in (n ∷ more ∷ rest)))

proof_kept : (c : Configuration) (low number : ℕ) (ballots news : tree.BTreeMap ℕ Ballot) (snapshots : tree.BTreeMap ℕ (List ℕ)) → IsConfiguration c → ((n : ℕ) → IsBallotAt c n (ballot_in ballots n)) → low < number → Dropped number ballots news
    → proof_now c news number ≡ proof_at (kept_in c low ballots snapshots) number
proof_kept c low number ballots news snapshots k each lt h =
    ap now (ballot_above number ballots news h number (omega arith))
    ∙ sym (proof_seen c low ballots snapshots number k each ∙ cond-true (nat_le low number) (proof_now c ballots number) [] (le-leb low number (omega (arith, lt)))) where
      now : Ballot → List (Signed Checkpoint)
      now votes = quorum_proof c (said_by votes) number (quorum_digest c (said_by votes) number)

pub discarded_seen : (c : Configuration) (low number : ℕ) (ballots news : tree.BTreeMap ℕ Ballot) (snapshots later : tree.BTreeMap ℕ (List ℕ)) (greatest : Option SeqNo) (k : KeptCheckpoints) → AreKept c low ballots greatest → kept_in c low ballots snapshots ≡ k
    → low < number → Dropped number ballots news → Dropped number snapshots later → kept_in c number news later ≡ discarded number k
discarded_seen c low number ballots news snapshots later greatest k h view lt drop gone =
    let old = kept_in c low ballots snapshots in
    let new : KeptCheckpoints = record old {
      low = number;
      proof = proof_at old number;
      checkpoints = keep (is_above number) old.checkpoints;
      snapshots = keep (λ key. nat_le number (first_in key)) old.snapshots;
    } in
    let seen : kept_in c number news later ≡ new = λ i. record {
      config = c;
      low = number;
      proof = proof_kept c low number ballots news snapshots h.configuration h.each lt drop i;
      checkpoints = kept_table (is_above number) (checkpoint_at_key low ballots) (checkpoint_at_key number news) (keys_by_number (tree.keys ballots)) (keys_by_number (tree.keys news)) (covers_checkpoints low ballots) (covers_checkpoints number news) (checkpoint_kept low number ballots news lt drop) i;
      snapshots = kept_table (λ key. nat_le number (first_in key)) (bytes_at_key snapshots) (bytes_at_key later) (number_keys (tree.keys snapshots)) (number_keys (tree.keys later)) (covers_snapshots snapshots) (covers_snapshots later) (snapshot_kept number snapshots later gone) i;
    } in
    seen ∙ sym (cond-true (nat_lt low number) new old (lt-ltb low number lt)) ∙ ap (discarded number) view

-- ---- what stays true

stable_kept : (c : Configuration) (low number : ℕ) (ballots news : tree.BTreeMap ℕ Ballot) → low < number → Dropped number ballots news → (n : ℕ) → (n < number) ⊎ (number ≤ n)
    → stable_now c number news n ≡ cond (nat_le number n) (stable_now c low ballots n) None
stable_kept c low number ballots news lt h n (inl under) =
    cond-false (nat_le number n) (quorum_digest c (said_by (ballot_in news n)) n) None (lt-leb number n under)
    ∙ sym (cond-false (nat_le number n) (stable_now c low ballots n) None (lt-leb number n under))
stable_kept c low number ballots news lt h n (inr le) =
    cond-true (nat_le number n) (quorum_digest c (said_by (ballot_in news n)) n) None (le-leb number n le)
    ∙ ap (λ (votes : Ballot). quorum_digest c (said_by votes) n) (ballot_above number ballots news h n le)
    ∙ sym (cond-true (nat_le low n) (quorum_digest c (said_by (ballot_in ballots n)) n) None (le-leb low n (omega (arith, lt, le))))
    ∙ sym (cond-true (nat_le number n) (stable_now c low ballots n) None (le-leb number n le))

none_kept : (c : Configuration) (low number : ℕ) (ballots news : tree.BTreeMap ℕ Ballot) → low < number → Dropped number ballots news → (n : ℕ) → (number ≤ n → stable_now c low ballots n ≡ None) → stable_now c number news n ≡ None
none_kept c low number ballots news lt h n none = split (cases_lt n number) where
  split : (n < number) ⊎ (number ≤ n) → stable_now c number news n ≡ None
  split (inl under) = stable_kept c low number ballots news lt h n (inl under) ∙ cond-false (nat_le number n) (stable_now c low ballots n) None (lt-leb number n under)
  split (inr le) = stable_kept c low number ballots news lt h n (inr le) ∙ cond-true (nat_le number n) (stable_now c low ballots n) None (le-leb number n le) ∙ none le

top_kept : (c : Configuration) (low number : ℕ) (ballots news : tree.BTreeMap ℕ Ballot) (greatest : Option SeqNo) → low < number → Dropped number ballots news → IsGreatest c low ballots greatest → IsGreatest c number news (if_passes (λ g. nat_le number g.0) greatest)
top_kept c low number ballots news None lt h top = λ n. none_kept c low number ballots news lt h n (λ le. top n)
top_kept c low number ballots news (Some g) lt h top = split (cases_lt g.0 number) where
  stays : number ≤ g.0 → IsGreatest c number news (Some g)
  stays le = (
    ap is_some (stable_kept c low number ballots news lt h g.0 (inr le) ∙ cond-true (nat_le number g.0) (stable_now c low ballots g.0) None (le-leb number g.0 le)) ∙ top.0,
    λ n above. none_kept c low number ballots news lt h n (λ from. top.1 n above),
  )

  split : (g.0 < number) ⊎ (number ≤ g.0) → IsGreatest c number news (cond (nat_le number g.0) (Some g) None)
  split (inl under) =
      subst (λ (b : Bool). IsGreatest c number news (cond b (Some g) None)) (sym (lt-leb number g.0 under)) (λ n. none_kept c low number ballots news lt h n (λ le. top.1 n (omega (arith, under, le))))
  split (inr le) = subst (λ (b : Bool). IsGreatest c number news (cond b (Some g) None)) (sym (le-leb number g.0 le)) (stays le)

pub kept_after : (c : Configuration) (low number : ℕ) (ballots news : tree.BTreeMap ℕ Ballot) (greatest left : Option SeqNo) → AreKept c low ballots greatest → low < number → Dropped number ballots news → left ≡ if_passes (λ g. nat_le number g.0) greatest → AreKept c number news left
kept_after c low number ballots news greatest left h lt drop is = record {
  configuration = h.configuration;
  each = λ n. subst (IsBallotAt c n) (sym (ballot_kept number ballots news drop n)) (either_ballot c n (nat_le number n) (ballot_in ballots n) (h.each n));
  top = subst (IsGreatest c number news) (sym is) (top_kept c low number ballots news greatest lt drop h.top);
}
