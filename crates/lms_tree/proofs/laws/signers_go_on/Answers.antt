use Rattle.std.proofs.Common.{◌≡◌, ℕ, zero, suc, ◌+◌, List, Option, sym, ◌∙◌, ap, arith}
use Rattle.std.specs.Fn.{iterate}
use Rattle.lms_level.specs.declared.height.Height.{Height}
use Rattle.lms_tree.specs.Keys.{after_signing, signature_of, signer_at}
use Rattle.lms_tree.proofs.laws.signers_go_on.Goals as goal

-- from any leaf on
on_from : (height : Height) (bottom : Option Height) (id secret : List ℕ) (n leaf : ℕ)
    → iterate after_signing n (signer_at height bottom id secret leaf) ≡ signer_at height bottom id secret (leaf + n)
on_from height bottom id secret zero leaf = let same : leaf ≡ leaf + 0 = omega arith in ap (signer_at height bottom id secret) same
on_from height bottom id secret (suc n) leaf =
    let same : leaf + 1 + n ≡ leaf + suc n = omega arith in
    on_from height bottom id secret n (leaf + 1) ∙ ap (signer_at height bottom id secret) same

from_first : (height : Height) (bottom : Option Height) (id secret : List ℕ) (n : ℕ)
    → iterate after_signing n (signer_at height bottom id secret 0) ≡ signer_at height bottom id secret n
from_first height bottom id secret n =
    let same : 0 + n ≡ n = omega arith in
    on_from height bottom id secret n 0 ∙ ap (signer_at height bottom id secret) same

pub returns-clause-same : goal.returns-clause-same
returns-clause-same c height bottom id secret n = from_first height bottom id secret n

pub returns-clause-next : goal.returns-clause-next
returns-clause-next c height bottom id secret n message =
    ap (λ s. signature_of s message) (from_first height bottom id secret n)
