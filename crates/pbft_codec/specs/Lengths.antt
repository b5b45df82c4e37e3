-- Statement: how many bytes each body's encoding has, with the byte of its kind.
use Rattle.std.specs.Prelude.{ℕ, ◌+◌, List, [], ◌∷◌, length}
use Rattle.pbft_codec.specs.declared.body.certificate.Certificate.{Certificate}
use Rattle.pbft_codec.specs.declared.body.fetch.Fetch.{Fetch}
use Rattle.pbft_codec.specs.declared.body.fetch.Fetch.TheVariants as fetches
use Rattle.pbft_codec.specs.declared.body.new_view.NewView.{NewView}
use Rattle.pbft_codec.specs.declared.body.view_change.ViewChange.{ViewChange}
use Rattle.pbft_codec.specs.declared.signed.Signed.{Signed}

-- The sum over a list.
abbrev pub total : {A : Type 0} → (A → ℕ) → List A → ℕ
total of [] = 0
total of (x ∷ xs) = of x + total of xs

-- A signed body: role, id, two lengths and the signature are around the body.
abbrev pub signed_length : {B : Type 0} → (B → ℕ) → Signed B → ℕ
signed_length body m = 13 + body m.body + length m.sig

-- 45 is a PrePrepare or a Prepare, 41 a Checkpoint.
abbrev pub certificate_length : Certificate → ℕ
certificate_length c = signed_length (λ _. 45) c.pre_prepare + 4 + total (signed_length (λ _. 45)) c.prepares

abbrev pub view_change_length : ViewChange → ℕ
view_change_length v = 21 + total (signed_length (λ _. 41)) v.checkpoints + total certificate_length v.certificates

abbrev pub new_view_length : NewView → ℕ
new_view_length n = 13 + total (signed_length view_change_length) n.changes + total (signed_length (λ _. 45)) n.pre_prepares

abbrev pub fetch_length : Fetch → ℕ
fetch_length (fetches.Request digest) = 34
fetch_length (fetches.State n) = 10
