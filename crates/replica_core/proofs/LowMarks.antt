-- What is kept of Checkpoints proves the low mark.
use Rattle.std.proofs.Common.{◌≡◌, ℕ, ◌<◌, List, [], map, Some, refl, sym, ap, subst, ◌∙◌, arith}
use Rattle.std.specs.Prelude.{◌==◌, nat_le, nat_lt}
use Rattle.std.proofs.lemmas.Bool.{cond-true, cond-false, eq-eqb, lt-ltb, ne_eqb}
use Rattle.host_types.specs.declared.Digest.{Digest}
use Rattle.pbft_codec.specs.declared.body.Body.TheVariants as bodies
use Rattle.pbft_model.specs.Core.{Core, start_of}
use Rattle.pbft_model.specs.Tables.{first_in, is_above, keep}
use Rattle.pbft_model.specs.Words.{Checkpoint, Signed}
use Rattle.pbft_model.specs.Setup.{fresh, setup_of}
use Rattle.seal.specs.Parts.{as_message}
use Rattle.checkpoints.specs.Kept.{KeptCheckpoints, discarded, proof_at, proof_for, proof_list, stable_at, stable_digest}
use Rattle.checkpoints.proofs.Cores.{proof_is}
use Rattle.checkpoints.proofs.Proving.{above_mark}
use Rattle.checkpoints.proofs.Stable.{is_stable_one}
use Rattle.replica_stores.specs.Made.{IsStableBy}
use Rattle.replica_stores.proofs.StableProofs.{stable_proof}

-- a core with these Checkpoints
abbrev core_with : KeptCheckpoints → Core
core_with k = record (start_of (setup_of k.config) (fresh [] [])) { checkpoints = k.checkpoints }

pub proof_fits : (k : KeptCheckpoints) (number : ℕ) (digest : Digest) → k.low < number → stable_at k number ≡ Some digest → IsStableBy k.config number (proof_list k number).messages
proof_fits k number digest above is =
    let c = setup_of k.config in
    let found : stable_digest k.config k.checkpoints number ≡ Some digest = sym (above_mark k number above) ∙ is in
    let stable = is_stable_one k.config k.checkpoints number digest found in
    let here : proof_at k number ≡ proof_for k.config k.checkpoints number (stable_digest k.config k.checkpoints number)
    = cond-false (number == k.low) k.proof (proof_for k.config k.checkpoints number (stable_digest k.config k.checkpoints number)) (ne_eqb number k.low (λ e. absurd (omega (arith, e, above)))) in
    subst (λ (ms : List (Signed Checkpoint)). IsStableBy k.config number (map (as_message bodies.Checkpoint) ms)) (sym (here ∙ proof_is c (core_with k) number digest stable)) (stable_proof c (core_with k) number digest.0 stable)

-- the same with the mark at the number
abbrev raised : ℕ → KeptCheckpoints → KeptCheckpoints
raised number k = record k {
  low = number;
  proof = proof_at k number;
  checkpoints = keep (is_above number) k.checkpoints;
  snapshots = keep (λ key. nat_le number (first_in key)) k.snapshots;
}

pub proof_kept : (k : KeptCheckpoints) (number : ℕ) → k.low < number → proof_list (discarded number k) number ≡ proof_list k number
proof_kept k number above =
    ap (λ (x : KeptCheckpoints). proof_list x number) (cond-true (nat_lt k.low number) (raised number k) k (lt-ltb k.low number above))
    ∙ (λ i. record { config = k.config; messages = map (as_message bodies.Checkpoint) (there i) }) where
      there : proof_at (raised number k) number ≡ proof_at k number
      there = let later = keep (is_above number) k.checkpoints in
          cond-true (number == number) (proof_at k number) (proof_for k.config later number (stable_digest k.config later number)) (eq-eqb number number refl)
