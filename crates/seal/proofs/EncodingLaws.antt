-- How long a signed message is.
use Rattle.std.proofs.Common.{◌≡◌, ℕ, ◌+◌, ◌≤◌, length, arith}
use Rattle.lms_tree.specs.Keys.{signature_length}
use Rattle.lms_tree.specs.SigningState.{SigningState}
use Rattle.pbft_codec.specs.declared.body.Body.{Body}
use Rattle.pbft_codec.specs.declared.signed.Signed.{Signed}
use Rattle.pbft_codec.specs.Encoding.{body, encoding}
use Rattle.pbft_codec.proofs.Widths.{length_signed}

-- a message that a signer makes keeps the limit where its body does
pub sealed_within : (s : SigningState) (m : Signed Body) (max : ℕ) → length m.sig ≡ signature_length s → length (body m.body) + (13 + signature_length s) ≤ max → length (encoding m) ≤ max
sealed_within s m max long le = omega (arith, length_signed body m, long)
