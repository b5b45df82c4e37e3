-- Reading and writing values one after the other, as loops do.
use Rattle.std.proofs.Common.{◌≡◌, ℕ, suc, ◌-◌, ◌+◌, ◌≤◌, ◌<◌, List, [], ◌∷◌, ◌++◌, Result, Ok, Err, refl, sym, ap, ◌∙◌, append_assoc, arith}
use Rattle.std.proofs.lemmas.List.{append-nil}
use Rattle.codec_fields.specs.declared.fault.CodecFault.{CodecFault}
use Rattle.codec_fields.specs.declared.fault.ReadError.{ReadError}
use Rattle.codec_fields.specs.declared.fault.ReadError.TheVariants as errors
use Rattle.codec_fields.specs.Fields.{◌>>=◌, Fails, Reading}
use Rattle.pbft_codec.specs.Reading.{many_at}

-- what was read before, and what is still read
abbrev pub with_front : {A : Type 0} → List A → Result (List A × List ℕ) CodecFault → Result (List A × List ℕ) CodecFault
with_front front read = read >>= λ x. Ok (front ++ x.0, x.1)

regroup : {A : Type 0} (front : List A) (v : A) (read : Result (List A × List ℕ) CodecFault) → with_front front (read >>= λ x. Ok (v ∷ x.0, x.1)) ≡ with_front (front ++ v ∷ []) read
regroup {A} front v (Ok x) = ap (λ (vs : List A). Ok (vs, x.1)) (simp append_assoc)
regroup front v (Err f) = refl

pub continues : {A : Type 0} (reading : ℕ → Reading A) (next : A → ℕ) (front : List A) (count i low : ℕ) (bytes : List ℕ) (v : A) (after : List ℕ) (total : Result (List A × List ℕ) CodecFault) → i < count → reading low bytes ≡ Ok (v, after)
    → with_front front (many_at reading next (count - i) low bytes) ≡ total → with_front (front ++ v ∷ []) (many_at reading next (count - (i + 1)) (next v) after) ≡ total
unfolding many_at
continues reading next front count i low bytes v after total lt h so_far =
    let k : count - i ≡ suc (count - (i + 1)) = omega arith in
    let one : with_front front (many_at reading next (count - i) low bytes) ≡ with_front (front ++ v ∷ []) (many_at reading next (count - (i + 1)) (next v) after) = rw (k, h) (regroup front v (many_at reading next (count - (i + 1)) (next v) after)) in
    sym one ∙ so_far

pub ends : {A : Type 0} (e : ReadError) (reading : ℕ → Reading A) (next : A → ℕ) (front : List A) (count i low : ℕ) (bytes : List ℕ) (total : Result (List A × List ℕ) CodecFault) → i < count → Fails e (reading low bytes)
    → with_front front (many_at reading next (count - i) low bytes) ≡ total → Fails e total
unfolding many_at
ends errors.Memory reading next front count i low bytes total lt h so_far = tt
ends (errors.Fault f) reading next front count i low bytes total lt h so_far =
    let k : count - i ≡ suc (count - (i + 1)) = omega arith in
    let one : with_front front (many_at reading next (count - i) low bytes) ≡ Err f = rw (k, h) refl in
    sym so_far ∙ one

pub is_done : {A : Type 0} (reading : ℕ → Reading A) (next : A → ℕ) (front : List A) (count i low : ℕ) (bytes : List ℕ) (total : Result (List A × List ℕ) CodecFault) → count ≤ i → with_front front (many_at reading next (count - i) low bytes) ≡ total → total ≡ Ok (front, bytes)
unfolding many_at
is_done {A} reading next front count i low bytes total le so_far =
    let k : count - i ≡ 0 = omega arith in
    let one : with_front front (many_at reading next (count - i) low bytes) ≡ Ok (front, bytes) = rw k (ap (λ (vs : List A). Ok (vs, bytes)) (append-nil front)) in
    sym so_far ∙ one

-- what five writes in a row leave
pub five_parts : (a b c d e f v w x y z : List ℕ) → b ≡ a ++ v → c ≡ b ++ w → d ≡ c ++ x → e ≡ d ++ y → f ≡ e ++ z → f ≡ a ++ (v ++ w ++ x ++ y ++ z)
five_parts a b c d e f v w x y z p q r s t = rw (t, s, r, q, p) (simp append_assoc)

-- what four writes in a row leave
pub four_parts : (a b c d e v w x y : List ℕ) → b ≡ a ++ v → c ≡ b ++ w → d ≡ c ++ x → e ≡ d ++ y → e ≡ a ++ (v ++ w ++ x ++ y)
four_parts a b c d e v w x y p q r s = rw (s, r, q, p) (simp append_assoc)
