-- The proof of a number as a list of messages, and what an offer is refused for.
use Rattle.std.proofs.Common.{◌≡◌, ℕ, ◌<◌, ◌≤◌, Bool, true, false, cond, List, [], map, Option, Some, None, refl, sym, ap, ◌∙◌, arith}
use Rattle.std.specs.Prelude.{nat_le, ◌==◌}
use Rattle.std.proofs.lemmas.Slice.Eq.{bytes_eq-Decides}
use Rattle.std.specs.BTreeMap as tree
use Rattle.std.proofs.lemmas.Bool.{false≢true, le-leb, lt-leb, ne_eqb, cond-true, cond-false}
use Rattle.sha2.specs.Sha256.{sha256}
use Rattle.host_types.specs.Configuration.{Configuration}
use Rattle.host_types.specs.declared.Digest.{Digest}
use Rattle.host_types.specs.declared.SeqNo.{SeqNo}
use Rattle.pbft_codec.specs.declared.body.Body.TheVariants as bodies
use Rattle.ballots.specs.Certificates.{is_stable}
use Rattle.ballots.specs.Setup.{quorum}
use Rattle.seal.specs.Lists.{CheckedMessages}
use Rattle.seal.specs.Parts.{as_message}
use Rattle.ballots.specs.Ballots.{Ballot, is_digest, least_votes}
use Rattle.checkpoints.specs.declared.fault.CheckpointFault.TheVariants.{Old, DigestDiffers}
use Rattle.checkpoints.specs.Kept.{IsStableExactly, proof_list, KeptCheckpoints, digest_of_proof, offer_fault, proof_at, stable_at, stable_digest}
use Rattle.checkpoints.specs.Reading.{AreKept, ballot_in, kept_in, proof_now, quorum_digest, quorum_proof, said_by}
use Rattle.checkpoints.proofs.Stable.{is_stable_one, stable_is}
use Rattle.checkpoints.proofs.Views.{proof_seen}
use Rattle.checkpoints.proofs.Voting.{least_proof}

pub proof_below : (c : Configuration) (low : ℕ) (ballots : tree.BTreeMap ℕ Ballot) (snapshots : tree.BTreeMap ℕ (List ℕ)) (greatest : Option SeqNo) (number : ℕ) (k : KeptCheckpoints) → AreKept c low ballots greatest → kept_in c low ballots snapshots ≡ k → number < low
    → ◌≡◌ {A = CheckedMessages} (record { config = c; messages = [] }) (proof_list k number)
proof_below c low ballots snapshots greatest number k h view lt =
    let none = proof_seen c low ballots snapshots number h.configuration h.each ∙ cond-false (nat_le low number) (proof_now c ballots number) [] (lt-leb low number lt) in
    sym (λ i. record { config = c; messages = map (as_message bodies.Checkpoint) (none i) }) ∙ ap (λ (x : KeptCheckpoints). proof_list x number) view

proof_from : (c : Configuration) (low : ℕ) (ballots : tree.BTreeMap ℕ Ballot) (snapshots : tree.BTreeMap ℕ (List ℕ)) (greatest : Option SeqNo) (number : ℕ) (o : Option Digest) → AreKept c low ballots greatest → low ≤ number
    → o ≡ quorum_digest c (said_by (ballot_in ballots number)) number → proof_at (kept_in c low ballots snapshots) number ≡ quorum_proof c (said_by (ballot_in ballots number)) number o
proof_from c low ballots snapshots greatest number o h le e =
    proof_seen c low ballots snapshots number h.configuration h.each ∙ cond-true (nat_le low number) (proof_now c ballots number) [] (le-leb low number le)
    ∙ ap (quorum_proof c (said_by (ballot_in ballots number)) number) (sym e)

pub proof_none : (c : Configuration) (low : ℕ) (ballots : tree.BTreeMap ℕ Ballot) (snapshots : tree.BTreeMap ℕ (List ℕ)) (greatest : Option SeqNo) (number : ℕ) (k : KeptCheckpoints) → AreKept c low ballots greatest → kept_in c low ballots snapshots ≡ k → low ≤ number
    → None ≡ quorum_digest c (said_by (ballot_in ballots number)) number → ◌≡◌ {A = CheckedMessages} (record { config = c; messages = [] }) (proof_list k number)
proof_none c low ballots snapshots greatest number k h view le e =
    let none = proof_from c low ballots snapshots greatest number None h le e in
    sym (λ i. record { config = c; messages = map (as_message bodies.Checkpoint) (none i) }) ∙ ap (λ (x : KeptCheckpoints). proof_list x number) view

pub proof_some : (c : Configuration) (low : ℕ) (ballots : tree.BTreeMap ℕ Ballot) (snapshots : tree.BTreeMap ℕ (List ℕ)) (greatest : Option SeqNo) (number : ℕ) (k : KeptCheckpoints) (votes : Ballot) (d : Digest) (many : ℕ) → AreKept c low ballots greatest → kept_in c low ballots snapshots ≡ k → low ≤ number
    → Some d ≡ quorum_digest c (said_by (ballot_in ballots number)) number → votes ≡ ballot_in ballots number → many ≡ quorum c → ◌≡◌ {A = CheckedMessages} (record { config = c; messages = least_votes many d.0 votes }) (proof_list k number)
proof_some c low ballots snapshots greatest number k votes d many h view le e own all =
    let messages = ap (least_votes many d.0) own ∙ least_proof c number (ballot_in ballots number) d many h.configuration (h.each number) all ∙ ap (map (as_message bodies.Checkpoint)) (sym (proof_from c low ballots snapshots greatest number (Some d) h le e)) in
    (λ i. record { config = c; messages = messages i }) ∙ ap (λ (x : KeptCheckpoints). proof_list x number) view

-- ---- an offer

pub above_mark : (k : KeptCheckpoints) (number : ℕ) → k.low < number → stable_at k number ≡ stable_digest k.config k.checkpoints number
above_mark k number lt = cond-false (number == k.low) (digest_of_proof k.proof) (stable_digest k.config k.checkpoints number) (ne_eqb number k.low (λ e. absurd (omega (arith, e, lt))))

-- above the mark a digest is stable exactly where it is the one that is found
pub stable_exactly : (k : KeptCheckpoints) (number : ℕ) (o : Option Digest) → o ≡ stable_at k number → IsStableExactly k number o
stable_exactly k number o is = λ d lt. (
  λ t. is ∙ above_mark k number lt ∙ stable_is k.config k.checkpoints number d t,
  λ e. is_stable_one k.config k.checkpoints number d (sym (is ∙ above_mark k number lt) ∙ e),
)

fault_is : (k : KeptCheckpoints) (number : ℕ) (bytes : List ℕ) → k.low < number → offer_fault k number bytes ≡ cond (is_stable k.config k.checkpoints number (sha256 bytes)) None (Some DigestDiffers)
fault_is k number bytes lt = cond-false (nat_le number k.low) (Some Old) (cond (is_stable k.config k.checkpoints number (sha256 bytes)) None (Some DigestDiffers)) (lt-leb number k.low lt)

pub offer_old : (k : KeptCheckpoints) (number : ℕ) (bytes : List ℕ) → number ≤ k.low → offer_fault k number bytes ≡ Some Old
offer_old k number bytes le = cond-true (nat_le number k.low) (Some Old) (cond (is_stable k.config k.checkpoints number (sha256 bytes)) None (Some DigestDiffers)) (le-leb number k.low le)

pub offer_taken : (k : KeptCheckpoints) (number : ℕ) (bytes : List ℕ) → k.low < number → is_digest (sha256 bytes) (stable_at k number) ≡ true → offer_fault k number bytes ≡ None
offer_taken k number bytes lt t = split (stable_at k number) refl t where
  split : (o : Option Digest) → stable_at k number ≡ o → is_digest (sha256 bytes) o ≡ true → offer_fault k number bytes ≡ None
  split None e t = absurd (false≢true t)
  split (Some d) e t =
      let stable = is_stable_one k.config k.checkpoints number d (sym (above_mark k number lt) ∙ e) in
      fault_is k number bytes lt
      ∙ cond-true (is_stable k.config k.checkpoints number (sha256 bytes)) None (Some DigestDiffers) (ap (is_stable k.config k.checkpoints number) (sym ((bytes_eq-Decides d.0 (sha256 bytes)).0 t)) ∙ stable)

pub offer_refused : (k : KeptCheckpoints) (number : ℕ) (bytes : List ℕ) → k.low < number → is_digest (sha256 bytes) (stable_at k number) ≡ false → offer_fault k number bytes ≡ Some DigestDiffers
offer_refused k number bytes lt f = fault_is k number bytes lt ∙ split (is_stable k.config k.checkpoints number (sha256 bytes)) refl where
  digest : Digest
  digest = record { 0 = sha256 bytes }

  split : (b : Bool) → is_stable k.config k.checkpoints number (sha256 bytes) ≡ b → cond b None (Some DigestDiffers) ≡ Some DigestDiffers
  split false e = refl
  split true e =
      let found = above_mark k number lt ∙ stable_is k.config k.checkpoints number digest e in
      absurd (false≢true (sym f ∙ ap (is_digest (sha256 bytes)) found ∙ (bytes_eq-Decides (sha256 bytes) (sha256 bytes)).1 refl))
