-- Internal: the tests of a ViewChange and a NewView over messages that were opened. Their signers are
-- listed and differ, so that a count of different signers is the length of a list.
use Rattle.std.specs.Prelude.{ℕ, ◌+◌, ◌*◌, ◌==◌, Bool, ◌&&◌, ◌||◌, List, length, Option}
use Rattle.std.specs.List.{AllByRecursion, list_all}
use Rattle.host_types.specs.Configuration.{Configuration}
use Rattle.pbft_codec.specs.Limits.{ViewChangeWellFormed}
use Rattle.quorum_log.specs.Words.{Signed, Checkpoint, Certificate, ViewChange, NewView}
use Rattle.quorum_log.specs.Setup.{primary, setup_of}
use Rattle.quorum_log.specs.Certificates.{of_pre_prepare, of_prepare, same_fields, is_checkpoint_of}
use Rattle.quorum_log.specs.Validity.{ViewFault, digest_in, has_view, has_order, first_fault, given, are_given}
use Rattle.seal.specs.Parts.{in_view_change}
use Rattle.seal.specs.Signers.{IsAuthentic}

-- A ViewChange of the grammar whose nested messages are authentic.
pub record IsOpened (c : Configuration) (v : ViewChange) : Type 0 where
  pub well_formed : ViewChangeWellFormed v
  pub authentic : AllByRecursion (IsAuthentic c) (in_view_change v)

abbrev pub is_full_proof : Configuration → ℕ → List (Signed Checkpoint) → Bool
is_full_proof c number ms = length ms == 2 * c.f + 1 && list_all (λ m. is_checkpoint_of number (digest_in ms) m.body) ms

abbrev pub has_full_proof : Configuration → ViewChange → Bool
has_full_proof c v = is_full_proof c v.low.0 v.checkpoints || (v.low.0 == 0 && length v.checkpoints == 0)

abbrev pub is_full_certificate : Configuration → Certificate → Bool
is_full_certificate c x =
    length x.prepares == 2 * c.f
    && list_all (λ m. same_fields (of_prepare m.body) (of_pre_prepare x.pre_prepare.body)) x.prepares

abbrev pub has_full_certificates : Configuration → ViewChange → Bool
has_full_certificates c v = list_all (is_full_certificate c) v.certificates

abbrev pub change_fault : Configuration → ViewChange → Option ViewFault
change_fault c v = first_fault (has_view v) (has_full_proof c v) (has_full_certificates c v) (has_order (setup_of c) v)

-- each ViewChange passes
abbrev pub each_change : (ViewChange → Bool) → List (Signed ViewChange) → Bool
each_change test ms = list_all (λ m. test m.body) ms

abbrev pub is_for_view : NewView → ViewChange → Bool
is_for_view n v = has_view v && v.view.0 == n.view.0

abbrev pub have_full_proofs : Configuration → NewView → Bool
have_full_proofs c n = each_change (has_full_proof c) n.changes && length n.changes == 2 * c.f + 1

abbrev pub have_given_order : Configuration → NewView → Bool
have_given_order c n =
    each_change (has_order (setup_of c)) n.changes
    && are_given (primary c n.view.0) (given (setup_of c) n.view.0 n.changes) n.pre_prepares

abbrev pub opening_fault : Configuration → NewView → Option ViewFault
opening_fault c n =
    first_fault (each_change (is_for_view n) n.changes) (have_full_proofs c n)
    (each_change (has_full_certificates c) n.changes) (have_given_order c n)
