-- The 8 bytes of a slot give its fields back, and the other way round; an instruction and its slot likewise.
use Rattle.std.proofs.Common.{◌≡◌, ℕ, ◌+◌, ◌*◌, ◌/◌, ◌%◌, ◌^◌, ◌<◌, List, [], ◌∷◌, length, get_or, ℤ, refl, arith, bit_and}
use Rattle.std.specs.Int.{w16, w32, cast_unsigned, cast_signed}
use Rattle.std.proofs.lemmas.Nat.{and_mask}
use Rattle.std.proofs.lemmas.Int.{of_z-to_z}

-- ---- bytes and fields

-- a list of eight is its eight elements
eight : (bytes : List ℕ) → length bytes ≡ 8 → (get_or bytes 0 0 ∷ get_or bytes 1 0 ∷ get_or bytes 2 0 ∷ get_or bytes 3 0 ∷ get_or bytes 4 0 ∷ get_or bytes 5 0 ∷ get_or bytes 6 0 ∷ get_or bytes 7 0 ∷ []) ≡ bytes
eight (a ∷ b ∷ c ∷ d ∷ e ∷ f ∷ g ∷ h ∷ []) l = refl
eight bytes l = absurd (omega arith)

-- the bits of a field that was read from two or four bytes, stored and written again
pub field_16 : (a b : ℕ) (z : ℤ) → a < 256 → b < 256 → z ≡ cast_signed w16 (a + b * 256) → cast_unsigned w16 (cast_signed w16 (cast_unsigned w16 z)) ≡ a + b * 256
field_16 a b z la lb e =
    let k : a + b * 256 < 2 ^ 16 = omega arith in
    rw (e, of_z-to_z w16 (a + b * 256) k, of_z-to_z w16 (a + b * 256) k) refl

pub field_32 : (a b c d : ℕ) (z : ℤ) → a < 256 → b < 256 → c < 256 → d < 256 → z ≡ cast_signed w32 (((a + b * 256) + c * 65536) + d * 16777216) → cast_unsigned w32 (cast_signed w32 (cast_unsigned w32 z)) ≡ ((a + b * 256) + c * 65536) + d * 16777216
field_32 a b c d z la lb lc ld e =
    let k : ((a + b * 256) + c * 65536) + d * 16777216 < 2 ^ 32 = omega arith in
    rw (e, of_z-to_z w32 _ k, of_z-to_z w32 _ k) refl

registers_again : (b : ℕ) → bit_and b 15 + 16 * (b / 16) ≡ b
registers_again b = let low : bit_and b 15 ≡ b % 16 = and_mask b 4 in omega (arith, low)

-- what `from_bytes` reads encodes the bytes, where m and n are the bits of the offset and the immediate
pub slot_read : (bytes : List ℕ) (m n : ℕ) → length bytes ≡ 8 → ((i : ℕ) → get_or bytes i 0 < 256) → m ≡ get_or bytes 2 0 + get_or bytes 3 0 * 256 → n ≡ ((get_or bytes 4 0 + get_or bytes 5 0 * 256) + get_or bytes 6 0 * 65536) + get_or bytes 7 0 * 16777216 → (get_or bytes 0 0 ∷ (bit_and (get_or bytes 1 0) 15 + 16 * (get_or bytes 1 0 / 16)) ∷ m % 256 ∷ (m / 256) % 256 ∷ n % 256 ∷ (n / 256) % 256 ∷ (n / 65536) % 256 ∷ (n / 16777216) % 256 ∷ []) ≡ bytes
slot_read bytes m n long fits m-is n-is =
    let b2 = fits 2 in
    let b3 = fits 3 in
    let b4 = fits 4 in
    let b5 = fits 5 in
    let b6 = fits 6 in
    let b7 = fits 7 in
    let e1 = registers_again (get_or bytes 1 0) in
    let e2 : m % 256 ≡ get_or bytes 2 0 = omega arith in
    let e3 : (m / 256) % 256 ≡ get_or bytes 3 0 = omega arith in
    let e4 : n % 256 ≡ get_or bytes 4 0 = omega arith in
    let e5 : (n / 256) % 256 ≡ get_or bytes 5 0 = omega arith in
    let e6 : (n / 65536) % 256 ≡ get_or bytes 6 0 = omega arith in
    let e7 : (n / 16777216) % 256 ≡ get_or bytes 7 0 = omega arith in
    rw (e1, e2, e3, e4, e5, e6, e7) (eight bytes long)
