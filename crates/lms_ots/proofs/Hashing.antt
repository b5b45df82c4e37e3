-- What a hasher holds, as parts are fed to it.
use Rattle.std.proofs.Common.{◌≡◌, ℕ, ◌+◌, List, ◌++◌, sym, ◌∙◌, ap, subst}
use Rattle.std.proofs.lemmas.List.{append-nil, append_assoc}
use Rattle.sha2.specs.Hashers.{Holds256}
use Rattle.sha2.specs.declared.Sha256.{Sha256}
use Rattle.sha2.specs.Sha256.{sha256}
use Rattle.lms_ots.specs.Ots.{concatenation, message_hash, message_prefix, tagged_hash}
use Rattle.lms_ots.proofs.Concatenation.{concatenation-none, joined_push}

pub Holds_same : (s : Sha256) (m n : List ℕ) → m ≡ n → Holds256 s m → Holds256 s n
Holds_same s m n e h = let P : List ℕ → Type 0 = λ t. Holds256 s t in subst P e h

-- no piece of a joining yet
pub Holds-none : (s : Sha256) (p : List ℕ) (f : ℕ → List ℕ) → Holds256 s p → Holds256 s (p ++ concatenation f 0)
Holds-none s p f h = Holds_same s p _ (sym (ap (λ t. p ++ t) (concatenation-none f) ∙ append-nil p)) h

-- one piece more
pub Holds-more : (s : Sha256) (p : List ℕ) (f : ℕ → List ℕ) (n : ℕ) (x : List ℕ) → x ≡ f n
    → Holds256 s (p ++ concatenation f n ++ x) → Holds256 s (p ++ concatenation f (n + 1))
Holds-more s p f n x e h = Holds_same s _ _ (ap (λ t. p ++ concatenation f n ++ t) e ∙ joined_push p f n) h

-- the hash of a message is that of what comes before it and the message
pub hash_behind_prefix : (id : List ℕ) (leaf : ℕ) (c message : List ℕ) → sha256 (message_prefix id leaf c ++ message) ≡ message_hash id leaf c message
unfolding tagged_hash
hash_behind_prefix id leaf c message = ap sha256 (simp append_assoc)
