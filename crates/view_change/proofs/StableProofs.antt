-- The Checkpoints that prove a stable number are those that a ViewChange's proof asks for.
use Rattle.std.proofs.Common.{◌≡◌, ℕ, ◌+◌, ◌*◌, Bool, true, cond, List, [], ◌∷◌, length, map, Option, Some, None, refl, sym, subst, ◌∙◌, arith, inl, inr}
use Rattle.std.specs.Prelude.{bytes_eq, ◌==◌}
use Rattle.std.specs.List.{AllByRecursion}
use Rattle.std.proofs.lemmas.Bool.{and_parts, eqb-true, leb-true}
use Rattle.std.proofs.lemmas.List.{length-map}
use Rattle.std.proofs.lemmas.Option.{same_Some}
use Rattle.std.proofs.lemmas.Slice.Eq.{bytes_eq-Decides}
use Rattle.pbft_codec.specs.declared.body.Body.TheVariants as bodies
use Rattle.pbft_codec.specs.Limits.{AscendFrom}
use Rattle.quorum_log.proofs.Found.{from_gathered}
use Rattle.quorum_log.proofs.Gathering.{count_least, length_gathered}
use Rattle.quorum_log.proofs.Stages.{by_is}
use Rattle.quorum_log.specs.Certificates.{checkpointed, is_checkpoint_of, is_stable, some_by}
use Rattle.quorum_log.specs.Core.{Core, proof_of}
use Rattle.quorum_log.specs.Histories.{IsIn}
use Rattle.quorum_log.specs.Setup.{Setup, count, is_least, quorum, replicas}
use Rattle.quorum_log.specs.Tables.{at, checkpoint_key}
use Rattle.quorum_log.specs.Words.{Checkpoint, Signed}
use Rattle.seal.specs.Parts.{as_message}
use Rattle.view_change.specs.Made.{IsCheckpointAt, IsStableBy}
use Rattle.view_change.proofs.LogCertificates.{as_ascend, filtered_ascends, taken_if}

module _ (c : Setup) (s : Core) (number : ℕ) (digest : List ℕ) where
  abbrev IsMine : ℕ → Signed Checkpoint → Type 0
  IsMine i m = (m.id ≡ i) × ((m.body.number.0 ≡ number) × (m.body.digest.0 ≡ digest))

  abbrev test : ℕ → Bool
  test = is_least (quorum c.config) (checkpointed s.checkpoints number digest)

  abbrev value : ℕ → Option (Signed Checkpoint)
  value i = at s.checkpoints (checkpoint_key number i)

  some_said : (i : ℕ) (o : Option (Signed Checkpoint)) → some_by i (is_checkpoint_of number digest) o ≡ true → (m : Signed Checkpoint) × (o ≡ Some m) × IsMine i m
  some_said i (Some m) t =
      let by = by_is i (is_checkpoint_of number digest) m t in
      let both = and_parts (m.body.number.0 == number) (bytes_eq m.body.digest.0 digest) by.2 in
      (m, refl, (by.1, (eqb-true m.body.number.0 number both.0, (bytes_eq-Decides m.body.digest.0 digest).0 both.1)))
  some_said i None t = absurd cc

  said_at : (i : ℕ) → test i ≡ true → (m : Signed Checkpoint) × (value i ≡ Some m) × IsMine i m
  said_at i t = some_said i (value i) (and_parts (checkpointed s.checkpoints number digest i) _ t).0

  mine : (i : ℕ) (m : Signed Checkpoint) → test i ≡ true → value i ≡ Some m → IsMine i m
  mine i m t is = let w = said_at i t in subst (IsMine i) (same_Some _ _ (sym w.1 ∙ is)) w.2

  each : (ms : List (Signed Checkpoint)) → ((m : Signed Checkpoint) → IsIn m ms → (m.body.number.0 ≡ number) × (m.body.digest.0 ≡ digest))
      → AllByRecursion (IsCheckpointAt number digest) (map (as_message bodies.Checkpoint) ms)
  each [] all = tt
  each (m ∷ ms) all =
      let here = all m (inl refl) in
      (record { checkpoint = m.body; is = refl; number_is = here.0; digest_is = here.1 }, each ms (λ x within. all x (inr within)))

  matches : (m : Signed Checkpoint) → IsIn m (proof_of c s number digest) → (m.body.number.0 ≡ number) × (m.body.digest.0 ≡ digest)
  matches m within = let w = from_gathered test value (replicas c.config) m within in (mine w.0 m w.1 w.2).1

  ascends : AscendFrom 0 (proof_of c s number digest)
  ascends = filtered_ascends (λ i. cond (test i) (value i) None) (replicas c.config) 0 (λ i m e. let w = taken_if (test i) (value i) m e in (mine i m w.0 w.1).0)

  many : is_stable c.config s.checkpoints number digest ≡ true → length (proof_of c s number digest) ≡ 2 * c.config.f + 1
  many t =
      let enough = leb-true (quorum c.config) (count (checkpointed s.checkpoints number digest) (replicas c.config)) t in
      let least = count_least (quorum c.config) (checkpointed s.checkpoints number digest) (replicas c.config) in
      let long = length_gathered test value (replicas c.config) (λ i t. let w = said_at i t in (w.0, w.1)) in
      omega (arith, enough, least, long)

  pub stable_proof : is_stable c.config s.checkpoints number digest ≡ true → IsStableBy c.config number (map (as_message bodies.Checkpoint) (proof_of c s number digest))
  stable_proof t = record {
    digest = digest;
    each = each (proof_of c s number digest) matches;
    many = length-map (proof_of c s number digest) (as_message bodies.Checkpoint) ∙ many t;
    ascend = as_ascend bodies.Checkpoint 0 (proof_of c s number digest) ascends;
  }
