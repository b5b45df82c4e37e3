-- The block that a step hashes, word by word.
use Rattle.std.proofs.Common.{◌≡◌, ℕ, zero, suc, ◌+◌, ◌*◌, ◌/◌, ◌%◌, ◌^◌, ◌<◌, ◌≤◌, List, [], ◌∷◌, ◌++◌, drop, get_or, length, slice_index, take, refl, sym, ap, ◌∙◌, arith, length-append, add-one}
use Rattle.std.proofs.lemmas.List.{append_assoc, get_or-drop, get_or-take, take_all, take_more}
use Rattle.std.proofs.lemmas.Nat.{be_bytes_4, from_be_bytes-to_be_bytes_4}
use Rattle.std.specs.Int.{from_be_bytes, to_be_bytes, w32}
use Rattle.sha2.specs.Sha256.{compress, digest_bytes, hash_after, initial_hash_256, padded_message, padding, sha256, word_at}
use Rattle.sha_lanes.specs.Lanes.{HoldsBlock, word_in}
use Rattle.lms_ots.specs.Ots.{u16str, u32str}
use Rattle.lms_ots.specs.Words.{bytes_of, step_block}

-- what holds of each list of n + 4
four_more : (P : List ℕ → Type 0) (n : ℕ) → ((a b c d : ℕ) (rest : List ℕ) → length rest ≡ n → P (a ∷ b ∷ c ∷ d ∷ rest))
    → (xs : List ℕ) → length xs ≡ n + 4 → P xs
four_more P n p (a ∷ b ∷ c ∷ d ∷ rest) e = p a b c d rest (omega arith)
four_more P n p [] e = absurd (omega arith)
four_more P n p (a ∷ []) e = absurd (omega arith)
four_more P n p (a ∷ b ∷ []) e = absurd (omega arith)
four_more P n p (a ∷ b ∷ c ∷ []) e = absurd (omega arith)

none : (P : List ℕ → Type 0) → P [] → (xs : List ℕ) → length xs ≡ 0 → P xs
none P p [] e = p
none P p (x ∷ xs) e = absurd (omega arith)

-- what holds of each list of sixteen
sixteen : (P : List ℕ → Type 0)
    → ((a b c d e f g h i j k l m n o p : ℕ) → P (a ∷ b ∷ c ∷ d ∷ e ∷ f ∷ g ∷ h ∷ i ∷ j ∷ k ∷ l ∷ m ∷ n ∷ o ∷ p ∷ []))
    → (xs : List ℕ) → length xs ≡ 16 → P xs
sixteen P each =
    four_more P 12 (λ a b c d.
    four_more (λ r. P (a ∷ b ∷ c ∷ d ∷ r)) 8 (λ e f g h.
    four_more (λ r. P (a ∷ b ∷ c ∷ d ∷ e ∷ f ∷ g ∷ h ∷ r)) 4 (λ i j k l.
    four_more (λ r. P (a ∷ b ∷ c ∷ d ∷ e ∷ f ∷ g ∷ h ∷ i ∷ j ∷ k ∷ l ∷ r)) 0 (λ m n o p.
    none (λ r. P (a ∷ b ∷ c ∷ d ∷ e ∷ f ∷ g ∷ h ∷ i ∷ j ∷ k ∷ l ∷ m ∷ n ∷ o ∷ p ∷ r)) (each a b c d e f g h i j k l m n o p)))))

-- what holds of each of sixteen
pub below_sixteen : (P : ℕ → Type 0) → P 0 → P 1 → P 2 → P 3 → P 4 → P 5 → P 6 → P 7 → P 8 → P 9 → P 10 → P 11 → P 12 → P 13 → P 14 → P 15
    → (k : ℕ) → k < 16 → P k
below_sixteen P a b c d e f g h i j k l m n o p zero lt = a
below_sixteen P a b c d e f g h i j k l m n o p (suc zero) lt = b
below_sixteen P a b c d e f g h i j k l m n o p (suc (suc zero)) lt = c
below_sixteen P a b c d e f g h i j k l m n o p (suc (suc (suc zero))) lt = d
below_sixteen P a b c d e f g h i j k l m n o p (suc (suc (suc (suc x)))) lt =
    rest (λ y. P (suc (suc (suc (suc y))))) e f g h i j k l m n o p x (omega arith) where
      last : (P : ℕ → Type 0) → P 0 → P 1 → P 2 → P 3 → (k : ℕ) → k < 4 → P k
      last P a b c d zero lt = a
      last P a b c d (suc zero) lt = b
      last P a b c d (suc (suc zero)) lt = c
      last P a b c d (suc (suc (suc zero))) lt = d
      last P a b c d (suc (suc (suc (suc x)))) lt = absurd (omega arith)

      more : (P : ℕ → Type 0) → P 0 → P 1 → P 2 → P 3 → P 4 → P 5 → P 6 → P 7 → (k : ℕ) → k < 8 → P k
      more P a b c d e f g h zero lt = a
      more P a b c d e f g h (suc zero) lt = b
      more P a b c d e f g h (suc (suc zero)) lt = c
      more P a b c d e f g h (suc (suc (suc zero))) lt = d
      more P a b c d e f g h (suc (suc (suc (suc x)))) lt = last (λ y. P (suc (suc (suc (suc y))))) e f g h x (omega arith)

      rest : (P : ℕ → Type 0) → P 0 → P 1 → P 2 → P 3 → P 4 → P 5 → P 6 → P 7 → P 8 → P 9 → P 10 → P 11 → (k : ℕ) → k < 12 → P k
      rest P a b c d e f g h i j k l zero lt = a
      rest P a b c d e f g h i j k l (suc zero) lt = b
      rest P a b c d e f g h i j k l (suc (suc zero)) lt = c
      rest P a b c d e f g h i j k l (suc (suc (suc zero))) lt = d
      rest P a b c d e f g h i j k l (suc (suc (suc (suc x)))) lt = more (λ y. P (suc (suc (suc (suc y))))) e f g h i j k l x (omega arith)

-- ---- words from bytes

pub over_is : (a b : ℕ) → a < 2 ^ 32 → b < 2 ^ 32
    → (a * 2 ^ 8 % 2 ^ 32 + b / 2 ^ 24) % 2 ^ 32 ≡ word_at (to_be_bytes w32 a ++ to_be_bytes w32 b) 1
over_is a b fa fb = omega arith

pub heads_is : (i s a : ℕ) → i < 2 ^ 16 → s < 2 ^ 8 → a < 2 ^ 32
    → ((i * 2 ^ 16 % 2 ^ 32 + s * 2 ^ 8 % 2 ^ 32) % 2 ^ 32 + a / 2 ^ 24) % 2 ^ 32 ≡ word_at (u16str i ++ s ∷ to_be_bytes w32 a) 0
unfolding u16str
heads_is i s a fi fs fa = omega arith

-- the bytes at i and the three behind it, behind those before them
four_on : (b : List ℕ) (i : ℕ) → i + 4 ≤ length b
    → take i b ++ (get_or b i 0 ∷ get_or b (i + 1) 0 ∷ get_or b (i + 2) 0 ∷ get_or b (i + 3) 0 ∷ []) ≡ take (i + 4) b
four_on b i fits =
    let one : take (i + 1) b ≡ take i b ++ get_or b i 0 ∷ [] = take_more b i 0 (omega arith) in
    let e2 : i + 2 ≡ i + 1 + 1 = omega arith in
    let two : take (i + 2) b ≡ take (i + 1) b ++ get_or b (i + 1) 0 ∷ [] = ap (λ n. take n b) e2 ∙ take_more b (i + 1) 0 (omega arith) in
    let e3 : i + 3 ≡ i + 2 + 1 = omega arith in
    let three : take (i + 3) b ≡ take (i + 2) b ++ get_or b (i + 2) 0 ∷ [] = ap (λ n. take n b) e3 ∙ take_more b (i + 2) 0 (omega arith) in
    let e4 : i + 4 ≡ i + 3 + 1 = omega arith in
    let four : take (i + 4) b ≡ take (i + 3) b ++ get_or b (i + 3) 0 ∷ [] = ap (λ n. take n b) e4 ∙ take_more b (i + 3) 0 (omega arith) in
    sym (four ∙ rw (three, two, one) (simp append_assoc))

-- words that are a list's, from its bytes
digest_of_words : (h b : List ℕ) (n : ℕ) → ((k : ℕ) → k < n → slice_index h k ≡ word_at b (4 * k))
    → ((i : ℕ) → get_or b i 0 < 256) → 4 * n ≤ length b → digest_bytes h n ≡ take (4 * n) b
unfolding digest_bytes
digest_of_words h b zero words bytes fits = refl
digest_of_words h b (suc n) words bytes fits =
    let i = 4 * n in
    let four : List ℕ = get_or b i 0 ∷ get_or b (i + 1) 0 ∷ get_or b (i + 2) 0 ∷ get_or b (i + 3) 0 ∷ [] in
    let small : (k : ℕ) → get_or four k 0 < 256 = of_four (bytes i) (bytes (i + 1)) (bytes (i + 2)) (bytes (i + 3)) in
    let last : to_be_bytes w32 (slice_index h n) ≡ four = be_bytes_4 four (slice_index h n) refl small (words n (omega arith)) in
    let before : digest_bytes h n ≡ take i b = digest_of_words h b n (λ k lt. words k (omega arith)) bytes (omega arith) in
    let next : 4 * n + 4 ≡ 4 * suc n = omega arith in
    rw (last, before) (four_on b i (omega arith) ∙ ap (λ k. take k b) next) where
      of_four : {w x y z : ℕ} → w < 256 → x < 256 → y < 256 → z < 256 → (k : ℕ) → get_or (w ∷ x ∷ y ∷ z ∷ []) k 0 < 256
      of_four a b c d zero = a
      of_four a b c d (suc zero) = b
      of_four a b c d (suc (suc zero)) = c
      of_four a b c d (suc (suc (suc zero))) = d
      of_four a b c d (suc (suc (suc (suc k)))) = omega arith

pub bytes_of_words : (h b : List ℕ) → ((k : ℕ) → k < 8 → slice_index h k ≡ word_at b (4 * k)) → ((i : ℕ) → get_or b i 0 < 256)
    → length b ≡ 32 → bytes_of h ≡ b
unfolding bytes_of
bytes_of_words h b words bytes long = digest_of_words h b 8 words bytes (omega arith) ∙ take_all 32 b (omega arith)

-- ---- one block

pub length-bytes_of : (v : List ℕ) → length (bytes_of v) ≡ 32
unfolding bytes_of digest_bytes
length-bytes_of v = refl

pub one_block : (m : List ℕ) → length m ≡ 55 → sha256 m ≡ bytes_of (compress initial_hash_256 (padded_message m))
unfolding sha256 hash_after bytes_of
one_block m e =
    let p : List ℕ = padded_message m in
    let padded : length (padding (length m)) ≡ 9 = ap (λ n. length (padding n)) e in
    let long : length p ≡ 64 = omega (arith, length-append m (padding (length m))) in
    let count : length p / 64 ≡ 1 = omega arith in
    ap (λ n. digest_bytes (hash_after initial_hash_256 p n) 8) count
    ∙ ap (λ b. digest_bytes (compress initial_hash_256 b) 8) (take_all 64 p (omega arith))

-- the words of the block that a step hashes
pub holds_step : (words : List (List ℕ)) (j q i s a b c d e f g h : ℕ) → q < 2 ^ 32 → (id : List ℕ) → length id ≡ 16
    → word_in words j 0 ≡ word_at id 0 → word_in words j 1 ≡ word_at id 4 → word_in words j 2 ≡ word_at id 8 → word_in words j 3 ≡ word_at id 12
    → word_in words j 4 ≡ q
    → word_in words j 5 ≡ word_at (u16str i ++ s ∷ to_be_bytes w32 a) 0
    → word_in words j 6 ≡ word_at (to_be_bytes w32 a ++ to_be_bytes w32 b) 1
    → word_in words j 7 ≡ word_at (to_be_bytes w32 b ++ to_be_bytes w32 c) 1
    → word_in words j 8 ≡ word_at (to_be_bytes w32 c ++ to_be_bytes w32 d) 1
    → word_in words j 9 ≡ word_at (to_be_bytes w32 d ++ to_be_bytes w32 e) 1
    → word_in words j 10 ≡ word_at (to_be_bytes w32 e ++ to_be_bytes w32 f) 1
    → word_in words j 11 ≡ word_at (to_be_bytes w32 f ++ to_be_bytes w32 g) 1
    → word_in words j 12 ≡ word_at (to_be_bytes w32 g ++ to_be_bytes w32 h) 1
    → word_in words j 13 ≡ word_at (to_be_bytes w32 h ++ to_be_bytes w32 0x80000000) 1
    → word_in words j 14 ≡ 0 → word_in words j 15 ≡ 440
    → HoldsBlock words j (step_block id q i s (a ∷ b ∷ c ∷ d ∷ e ∷ f ∷ g ∷ h ∷ []))
unfolding bytes_of digest_bytes u16str u32str
holds_step words j q i s a b c d e f g h fits id long w0 w1 w2 w3 w4 w5 w6 w7 w8 w9 w10 w11 w12 w13 w14 w15 =
    sixteen (λ id. word_in words j 0 ≡ word_at id 0 → word_in words j 1 ≡ word_at id 4 → word_in words j 2 ≡ word_at id 8 → word_in words j 3 ≡ word_at id 12
    → HoldsBlock words j (step_block id q i s (a ∷ b ∷ c ∷ d ∷ e ∷ f ∷ g ∷ h ∷ [])))
    (λ b0 b1 b2 b3 b4 b5 b6 b7 b8 b9 b10 b11 b12 b13 b14 b15 v0 v1 v2 v3.
    below_sixteen _ v0 v1 v2 v3 (w4 ∙ sym (from_be_bytes-to_be_bytes_4 q fits)) w5 w6 w7 w8 w9 w10 w11 w12 w13 w14 w15)
    id long w0 w1 w2 w3

-- ---- blocks of a longer message

-- a word of a block is the message's
word_of_block : (b : List ℕ) (at j : ℕ) → j + 4 ≤ 64 → word_at (take 64 (drop at b)) j ≡ word_at b (at + j)
word_of_block b at j within =
    let place : (k : ℕ) → k < 64 → slice_index (take 64 (drop at b)) k ≡ slice_index b (at + k) = λ k lt. get_or-take 64 (drop at b) k 0 lt ∙ get_or-drop at b k 0 in
    let one : at + (j + 1) ≡ at + j + 1 = omega arith in
    let two : at + (j + 2) ≡ at + j + 2 = omega arith in
    let three : at + (j + 3) ≡ at + j + 3 = omega arith in
    rw (place j (omega arith), place (j + 1) (omega arith), place (j + 2) (omega arith), place (j + 3) (omega arith), one, two, three) refl

pub holds_block : (words : List (List ℕ)) (l : ℕ) (b : List ℕ) (at : ℕ) → ((k : ℕ) → k < 16 → word_in words l k ≡ word_at b (at + 4 * k))
    → HoldsBlock words l (take 64 (drop at b))
holds_block words l b at each k lt = each k lt ∙ sym (word_of_block b at (4 * k) (omega arith))

-- the hash of a message of 2,166 bytes, which are 34 blocks with their padding
pub hash_of_ends_padded : (m : List ℕ) → length m ≡ 2166 → bytes_of (hash_after initial_hash_256 (padded_message m) 34) ≡ sha256 m
unfolding sha256 bytes_of
hash_of_ends_padded m e =
    let padded : length (padding (length m)) ≡ 10 = ap (λ n. length (padding n)) e in
    let long : length (padded_message m) ≡ 2176 = omega (arith, length-append m (padding (length m))) in
    let count : 34 ≡ length (padded_message m) / 64 = omega arith in
    ap (λ n. digest_bytes (hash_after initial_hash_256 (padded_message m) n) 8) count
