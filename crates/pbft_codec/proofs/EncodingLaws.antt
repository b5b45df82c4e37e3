-- What a signature covers, as a part of an encoding.
use Rattle.std.proofs.Common.{◌≡◌, ℕ, ◌+◌, ◌-◌, List, [], ◌∷◌, ◌++◌, length, take, drop, refl, ap, ◌∙◌, arith, length-append}
use Rattle.std.specs.Int.{w32, to_be_bytes}
use Rattle.std.proofs.lemmas.List.{take-append-le}
use Rattle.std.proofs.Math.Seq.{take-length}
use Rattle.pbft_codec.specs.declared.body.Body.{Body}
use Rattle.pbft_codec.specs.declared.signed.Signed.{Signed}
use Rattle.pbft_codec.specs.Layouts.{length_prefixed, role_byte, signed}
use Rattle.pbft_codec.specs.Encoding.{body, encoding}
use Rattle.pbft_codec.proofs.Widths.{length_length_prefixed}

-- who signs
abbrev pub head : Signed Body → List ℕ
head m = (role_byte m.role ∷ []) ++ to_be_bytes w32 m.id

-- the first five bytes, and what is behind the length of the body
pub front : (m : Signed Body) → take 5 (encoding m) ≡ head m
unfolding signed length_prefixed
front m = refl

pub behind : (m : Signed Body) → drop 4 (drop 5 (encoding m)) ≡ body m.body ++ length_prefixed m.sig
unfolding signed length_prefixed
behind m = refl

pub take_front : (a b : List ℕ) (n : ℕ) → n ≡ length a → take n (a ++ b) ≡ a
take_front a b n e = take-append-le n a b (omega arith) ∙ ap (λ (k : ℕ). take k a) e ∙ take-length a

pub said : (m : Signed Body) (bytes rest : List ℕ) (n : ℕ) → bytes ≡ encoding m → rest ≡ drop 4 (drop 5 bytes) → n ≡ length rest - (4 + length m.sig) → take n rest ≡ body m.body
said m bytes rest n e r k =
    let is : rest ≡ body m.body ++ length_prefixed m.sig = r ∙ ap (λ (s : List ℕ). drop 4 (drop 5 s)) e ∙ behind m in
    let long : n ≡ length (body m.body) = omega (arith, ap length is, length-append (body m.body) (length_prefixed m.sig), length_length_prefixed m.sig) in
    ap (λ (s : List ℕ). take n s) is ∙ take_front (body m.body) (length_prefixed m.sig) n long
