-- What a contract sees of the tables of ballots and of snapshots.
use Rattle.std.proofs.Common.{◌≡◌, ℕ, ◌<◌, ◌≤◌, cond, List, [], Option, None, sym, ap, ◌∙◌, arith, ◌⊎◌, inl, inr}
use Rattle.std.specs.Prelude.{nat_lt, nat_le, ◌==◌}
use Rattle.std.specs.Ordering.{nat_cmp}
use Rattle.std.specs.Option.{unwrap_or}
use Rattle.std.specs.BTreeMap as tree
use Rattle.std.proofs.lemmas.Bool.{cases_eq, cases_lt, lt-ltb, le-ltb, le-leb, lt-leb, eq-eqb, ne_eqb, cond-true, cond-false}
use Rattle.host_types.specs.Configuration.{Configuration, IsConfiguration}
use Rattle.host_types.specs.declared.Digest.{Digest}
use Rattle.host_types.specs.declared.SeqNo.{SeqNo}
use Rattle.ballots.specs.Tables.{at, checkpoint_key}
use Rattle.ballots.specs.Words.{Signed, Checkpoint}
use Rattle.ballots.specs.Ballots.{Ballot}
use Rattle.checkpoints.specs.Kept.{KeptCheckpoints, digest_of_proof, proof_at, proof_for, stable_at, stable_digest}
use Rattle.checkpoints.specs.Reading.{AreKept, IsBallotAt, as_checkpoint, ballot_in, checkpoints_in, kept_in, no_votes, proof_now, quorum_digest, quorum_proof, said_by, stable_now}
use Rattle.checkpoints.proofs.Keys.{checkpoint_found}
use Rattle.checkpoints.proofs.Stable.{digest_proved, nothing_said}
use Rattle.checkpoints.proofs.Voting.{listed, nothing_in}

abbrev pub AreBallots : Configuration → tree.BTreeMap ℕ Ballot → Type 0
AreBallots c ballots = (number : ℕ) → IsBallotAt c number (ballot_in ballots number)

-- no ballot at a number
pub none_in : (c : Configuration) (votes : Ballot) (number : ℕ) → votes ≡ no_votes → quorum_digest c (said_by votes) number ≡ None
none_in c votes number e = ap (λ (v : Ballot). quorum_digest c (said_by v) number) e ∙ ap (λ (by : ℕ → Option (Signed Checkpoint)). quorum_digest c by number) nothing_in ∙ nothing_said c number

pub none_at : (c : Configuration) (ballots : tree.BTreeMap ℕ Ballot) (number : ℕ) → tree.get nat_cmp ballots number ≡ None → quorum_digest c (said_by (ballot_in ballots number)) number ≡ None
none_at c ballots number e = none_in c (ballot_in ballots number) number (ap (λ (o : Option Ballot). unwrap_or o no_votes) e)

-- ---- what the table says at a number

within_ten : (c : Configuration) (number : ℕ) (votes : Ballot) (i : ℕ) → IsConfiguration c → IsBallotAt c number votes → (i < 10) ⊎ (10 ≤ i) → cond (nat_lt i 10) (said_by votes i) None ≡ said_by votes i
within_ten c number votes i k h (inl lt) = cond-true (nat_lt i 10) (said_by votes i) None (lt-ltb i 10 lt)
within_ten c number votes i k h (inr le) =
    cond-false (nat_lt i 10) (said_by votes i) None (le-ltb i 10 le) ∙ sym (ap as_checkpoint (listed c number votes h i (omega (arith, le, k.max_faulty))))

pub said_above : (c : Configuration) (low : ℕ) (ballots : tree.BTreeMap ℕ Ballot) (number : ℕ) → IsConfiguration c → AreBallots c ballots → low < number
    → ◌≡◌ {A = ℕ → Option (Signed Checkpoint)} (λ i. at (checkpoints_in low ballots) (checkpoint_key number i)) (said_by (ballot_in ballots number))
said_above c low ballots number k h above = λ j i. step i j where
  step : (i : ℕ) → at (checkpoints_in low ballots) (checkpoint_key number i) ≡ said_by (ballot_in ballots number) i
  step i =
      checkpoint_found low ballots (checkpoint_key number i)
      ∙ cond-true (nat_lt low number) (cond (nat_lt i 10) (said_by (ballot_in ballots number) i) None) None (lt-ltb low number above)
      ∙ within_ten c number (ballot_in ballots number) i k (h number) (cases_lt i 10)

pub said_below : (low : ℕ) (ballots : tree.BTreeMap ℕ Ballot) (number : ℕ) → number ≤ low → ◌≡◌ {A = ℕ → Option (Signed Checkpoint)} (λ i. at (checkpoints_in low ballots) (checkpoint_key number i)) (λ i. None)
said_below low ballots number under = λ j i. step i j where
  step : (i : ℕ) → at (checkpoints_in low ballots) (checkpoint_key number i) ≡ None
  step i = checkpoint_found low ballots (checkpoint_key number i) ∙ cond-false (nat_lt low number) (cond (nat_lt i 10) (said_by (ballot_in ballots number) i) None) None (le-ltb low number under)

stable_above : (c : Configuration) (low : ℕ) (ballots : tree.BTreeMap ℕ Ballot) (number : ℕ) → IsConfiguration c → AreBallots c ballots → low < number
    → stable_digest c (checkpoints_in low ballots) number ≡ quorum_digest c (said_by (ballot_in ballots number)) number
stable_above c low ballots number k h above = ap (λ (by : ℕ → Option (Signed Checkpoint)). quorum_digest c by number) (said_above c low ballots number k h above)

proof_above : (c : Configuration) (low : ℕ) (ballots : tree.BTreeMap ℕ Ballot) (number : ℕ) → IsConfiguration c → AreBallots c ballots → low < number
    → proof_for c (checkpoints_in low ballots) number (stable_digest c (checkpoints_in low ballots) number) ≡ proof_now c ballots number
proof_above c low ballots number k h above =
    ap (λ (by : ℕ → Option (Signed Checkpoint)). again by) (said_above c low ballots number k h above) where
      again : (ℕ → Option (Signed Checkpoint)) → List (Signed Checkpoint)
      again by = quorum_proof c by number (quorum_digest c by number)

stable_below : (c : Configuration) (low : ℕ) (ballots : tree.BTreeMap ℕ Ballot) (number : ℕ) → number ≤ low → stable_digest c (checkpoints_in low ballots) number ≡ None
stable_below c low ballots number under = ap (λ (by : ℕ → Option (Signed Checkpoint)). quorum_digest c by number) (said_below low ballots number under) ∙ nothing_said c number

-- a number is the mark, above it, or below it
data Side (low number : ℕ) : Type 0 where
  AtMark : number ≡ low → Side low number
  Above : low < number → Side low number
  Below : number < low → Side low number

side : (low number : ℕ) → Side low number
side low number = elim (cases_lt low number) [
  | inl lt ↦ Above lt
  | inr le ↦ elim (cases_eq number low) [ inl is ↦ AtMark is | inr ne ↦ Below (omega (arith, le, ne)) ]
]

-- the digest that is stable
pub stable_seen : (c : Configuration) (low : ℕ) (ballots : tree.BTreeMap ℕ Ballot) (snapshots : tree.BTreeMap ℕ (List ℕ)) (number : ℕ) → IsConfiguration c → AreBallots c ballots → stable_at (kept_in c low ballots snapshots) number ≡ stable_now c low ballots number
stable_seen c low ballots snapshots number k h = split (side low number) where
  split : Side low number → stable_at (kept_in c low ballots snapshots) number ≡ stable_now c low ballots number
  split (AtMark is) =
      cond-true (number == low) (digest_of_proof (proof_now c ballots low)) (stable_digest c (checkpoints_in low ballots) number) (eq-eqb number low is)
      ∙ digest_proved c (said_by (ballot_in ballots low)) low
      ∙ ap (λ (n : ℕ). quorum_digest c (said_by (ballot_in ballots n)) n) (sym is)
      ∙ sym (cond-true (nat_le low number) (quorum_digest c (said_by (ballot_in ballots number)) number) None (le-leb low number (omega (arith, is))))
  split (Above lt) =
      cond-false (number == low) (digest_of_proof (proof_now c ballots low)) (stable_digest c (checkpoints_in low ballots) number) (ne_eqb number low (λ is. absurd (omega (arith, is, lt))))
      ∙ stable_above c low ballots number k h lt
      ∙ sym (cond-true (nat_le low number) (quorum_digest c (said_by (ballot_in ballots number)) number) None (le-leb low number (omega (arith, lt))))
  split (Below lt) =
      cond-false (number == low) (digest_of_proof (proof_now c ballots low)) (stable_digest c (checkpoints_in low ballots) number) (ne_eqb number low (λ is. absurd (omega (arith, is, lt))))
      ∙ stable_below c low ballots number (omega (arith, lt))
      ∙ sym (cond-false (nat_le low number) (quorum_digest c (said_by (ballot_in ballots number)) number) None (lt-leb low number lt))

-- and its proof
pub proof_seen : (c : Configuration) (low : ℕ) (ballots : tree.BTreeMap ℕ Ballot) (snapshots : tree.BTreeMap ℕ (List ℕ)) (number : ℕ) → IsConfiguration c → AreBallots c ballots → proof_at (kept_in c low ballots snapshots) number ≡ cond (nat_le low number) (proof_now c ballots number) []
proof_seen c low ballots snapshots number k h = split (side low number) where
  table : List (Signed Checkpoint)
  table = proof_for c (checkpoints_in low ballots) number (stable_digest c (checkpoints_in low ballots) number)

  split : Side low number → cond (number == low) (proof_now c ballots low) table ≡ cond (nat_le low number) (proof_now c ballots number) []
  split (AtMark is) =
      cond-true (number == low) (proof_now c ballots low) table (eq-eqb number low is) ∙ ap (proof_now c ballots) (sym is)
      ∙ sym (cond-true (nat_le low number) (proof_now c ballots number) [] (le-leb low number (omega (arith, is))))
  split (Above lt) =
      cond-false (number == low) (proof_now c ballots low) table (ne_eqb number low (λ is. absurd (omega (arith, is, lt))))
      ∙ proof_above c low ballots number k h lt
      ∙ sym (cond-true (nat_le low number) (proof_now c ballots number) [] (le-leb low number (omega (arith, lt))))
  split (Below lt) =
      cond-false (number == low) (proof_now c ballots low) table (ne_eqb number low (λ is. absurd (omega (arith, is, lt))))
      ∙ ap (proof_for c (checkpoints_in low ballots) number) (stable_below c low ballots number (omega (arith, lt)))
      ∙ sym (cond-false (nat_le low number) (proof_now c ballots number) [] (lt-leb low number lt))

-- what `stable` returns
pub stable_below_low : (c : Configuration) (low : ℕ) (ballots : tree.BTreeMap ℕ Ballot) (snapshots : tree.BTreeMap ℕ (List ℕ)) (greatest : Option SeqNo) (number : ℕ) (k : KeptCheckpoints) → AreKept c low ballots greatest → kept_in c low ballots snapshots ≡ k → number < low → None ≡ stable_at k number
stable_below_low c low ballots snapshots greatest number k h view lt =
    sym (stable_seen c low ballots snapshots number h.configuration h.each ∙ cond-false (nat_le low number) (quorum_digest c (said_by (ballot_in ballots number)) number) None (lt-leb low number lt)) ∙ ap (λ (x : KeptCheckpoints). stable_at x number) view

pub stable_from_low : (c d : Configuration) (low : ℕ) (ballots : tree.BTreeMap ℕ Ballot) (snapshots : tree.BTreeMap ℕ (List ℕ)) (greatest : Option SeqNo) (number : ℕ) (k : KeptCheckpoints) (o : Option Digest) → AreKept c low ballots greatest → kept_in c low ballots snapshots ≡ k → low ≤ number
    → d ≡ c → o ≡ quorum_digest d (said_by (ballot_in ballots number)) number → o ≡ stable_at k number
stable_from_low c d low ballots snapshots greatest number k o h view le is e =
    e ∙ ap (λ (x : Configuration). quorum_digest x (said_by (ballot_in ballots number)) number) is
    ∙ sym (stable_seen c low ballots snapshots number h.configuration h.each ∙ cond-true (nat_le low number) (quorum_digest c (said_by (ballot_in ballots number)) number) None (le-leb low number le)) ∙ ap (λ (x : KeptCheckpoints). stable_at x number) view
