-- The SHA-256 digests of the example: of the null request, of the request and of the state after it.
use Rattle.std.proofs.Common.{◌≡◌, ℕ, zero, suc, ◌+◌, Bool, true, false, cond, List, [], ◌∷◌, ◌++◌, length, refl, sym, ap, ◌∙◌}
use Rattle.std.specs.Prelude.{bytes_eq}
use Rattle.std.specs.FinMap as finite
use Rattle.std.specs.FinMap.{get-insert, len-empty, len-entries}
use Rattle.std.specs.Ordering.{nat_cmp}
use Rattle.std.specs.Cmp.Lexicographic.{slice_cmp}
use Rattle.std.specs.Cmp.{nat_cmp_total}
use Rattle.std.proofs.lemmas.Slice.Eq.{bytes_eq-Decides}
use Rattle.sha2.specs.Sha256.{sha256, hash_after, compress, schedule, first_words, next_word, rounds, add_state, digest_bytes, initial_hash_256}
use Rattle.pbft_codec.specs.Encoding.{body}
use Rattle.pbft_codec.specs.Layouts.{request, length_prefixed}
use Rattle.pbft_codec.specs.declared.body.Body.TheVariants as bodies
use Rattle.service_model.specs.Words.{u32_bytes, u64_bytes}
use Rattle.pbft_model.specs.Words.{as_message, signed_text}
use Rattle.pbft_model.specs.Sequential.{encoded}
use Rattle.pbft_agreement.specs.Worked.{after_request}
use Rattle.pbft_agreement.specs.Example.{a_request, the_config, the_digest}

-- ---- the words of a block, each after those before it, so that they are computed once

abbrev with_next : ℕ → List ℕ → List ℕ
with_next n words = words ++ next_word words (n + 16) ∷ []

abbrev words_of : List ℕ → ℕ → List ℕ
words_of block zero = first_words block 16
words_of block (suc n) = with_next n (words_of block n)

words_are : (block : List ℕ) (n : ℕ) → schedule block n ≡ words_of block n
unfolding schedule
words_are block zero = refl
words_are block (suc n) = ap (with_next n) (words_are block n)

abbrev compressed : List ℕ → List ℕ
compressed block = add_state initial_hash_256 (rounds initial_hash_256 (words_of block 48) 64)

compress_is : (block : List ℕ) → compress initial_hash_256 block ≡ compressed block
unfolding compress
compress_is block = ap (λ (words : List ℕ). add_state initial_hash_256 (rounds initial_hash_256 words 64)) (words_are block 48)

-- ---- the strings

abbrev pub request_bytes : List ℕ
request_bytes = 2 ∷ 0 ∷ 0 ∷ 0 ∷ 100 ∷ 1 ∷ 0 ∷ 0 ∷ 0 ∷ 0 ∷ 0 ∷ 0 ∷ 0 ∷ 1 ∷ 0 ∷ 0 ∷ 0 ∷ 1 ∷ 7 ∷ []

abbrev pub state_bytes : List ℕ
state_bytes = 2 ∷ 0 ∷ 0 ∷ 0 ∷ 0 ∷ 0 ∷ 0 ∷ 0 ∷ 1 ∷ 0 ∷ 0 ∷ 0 ∷ 1 ∷ 0 ∷ 0 ∷ 0 ∷ 100 ∷ 0 ∷ 0 ∷ 0 ∷ 0 ∷ 0 ∷ 0 ∷ 0 ∷ 1 ∷ 0 ∷ 0 ∷ 0 ∷ 0 ∷ 0 ∷ 0 ∷ 0 ∷ 1 ∷ 0 ∷ 0 ∷ 0 ∷ 1 ∷ 1 ∷ 0 ∷ 0 ∷ 0 ∷ 1 ∷ 0 ∷ 0 ∷ 0 ∷ 0 ∷ 0 ∷ 0 ∷ 0 ∷ 0 ∷ 0 ∷ 0 ∷ 0 ∷ 0 ∷ []

pub request_encoded : (secrets : ℕ → List ℕ) → signed_text (as_message bodies.Request (a_request secrets)) ≡ request_bytes
unfolding body request length_prefixed
request_encoded secrets = refl

no_entries : {X : Type 0} (xs : List X) → length xs ≡ 0 → xs ≡ []
no_entries [] e = refl
no_entries (x ∷ xs) e = absurd cc

none : finite.entries (finite.empty {K = List ℕ} {X = List ℕ} {R = slice_cmp nat_cmp}) ≡ []
none = no_entries _ (sym (len-entries finite.empty) ∙ len-empty (slice_cmp nat_cmp) (List ℕ))

pub state_encoded : (secrets : ℕ → List ℕ) → encoded (after_request (the_config secrets)) ≡ state_bytes
unfolding u32_bytes u64_bytes
state_encoded secrets = rw (get-insert nat_cmp_total, len-empty, none) refl

-- ---- their digests

abbrev pub digest_of_nothing : List ℕ
digest_of_nothing = 227 ∷ 176 ∷ 196 ∷ 66 ∷ 152 ∷ 252 ∷ 28 ∷ 20 ∷ 154 ∷ 251 ∷ 244 ∷ 200 ∷ 153 ∷ 111 ∷ 185 ∷ 36 ∷ 39 ∷ 174 ∷ 65 ∷ 228 ∷ 100 ∷ 155 ∷ 147 ∷ 76 ∷ 164 ∷ 149 ∷ 153 ∷ 27 ∷ 120 ∷ 82 ∷ 184 ∷ 85 ∷ []

abbrev pub digest_of_state : List ℕ
digest_of_state = 25 ∷ 178 ∷ 37 ∷ 10 ∷ 209 ∷ 26 ∷ 170 ∷ 192 ∷ 172 ∷ 195 ∷ 236 ∷ 89 ∷ 83 ∷ 152 ∷ 241 ∷ 244 ∷ 109 ∷ 196 ∷ 71 ∷ 112 ∷ 39 ∷ 196 ∷ 128 ∷ 145 ∷ 195 ∷ 146 ∷ 233 ∷ 37 ∷ 156 ∷ 147 ∷ 133 ∷ 216 ∷ []

abbrev block0 : List ℕ
block0 = 128 ∷ 0 ∷ 0 ∷ 0 ∷ 0 ∷ 0 ∷ 0 ∷ 0 ∷ 0 ∷ 0 ∷ 0 ∷ 0 ∷ 0 ∷ 0 ∷ 0 ∷ 0 ∷ 0 ∷ 0 ∷ 0 ∷ 0 ∷ 0 ∷ 0 ∷ 0 ∷ 0 ∷ 0 ∷ 0 ∷ 0 ∷ 0 ∷ 0 ∷ 0 ∷ 0 ∷ 0 ∷ 0 ∷ 0 ∷ 0 ∷ 0 ∷ 0 ∷ 0 ∷ 0 ∷ 0 ∷ 0 ∷ 0 ∷ 0 ∷ 0 ∷ 0 ∷ 0 ∷ 0 ∷ 0 ∷ 0 ∷ 0 ∷ 0 ∷ 0 ∷ 0 ∷ 0 ∷ 0 ∷ 0 ∷ 0 ∷ 0 ∷ 0 ∷ 0 ∷ 0 ∷ 0 ∷ 0 ∷ 0 ∷ []

hash0 : compressed block0 ≡ 3820012610 ∷ 2566659092 ∷ 2600203464 ∷ 2574235940 ∷ 665731556 ∷ 1687917388 ∷ 2761267483 ∷ 2018687061 ∷ []
unfolding first_words rounds
hash0 = refl

abbrev block1 : List ℕ
block1 = 2 ∷ 0 ∷ 0 ∷ 0 ∷ 100 ∷ 1 ∷ 0 ∷ 0 ∷ 0 ∷ 0 ∷ 0 ∷ 0 ∷ 0 ∷ 1 ∷ 0 ∷ 0 ∷ 0 ∷ 1 ∷ 7 ∷ 128 ∷ 0 ∷ 0 ∷ 0 ∷ 0 ∷ 0 ∷ 0 ∷ 0 ∷ 0 ∷ 0 ∷ 0 ∷ 0 ∷ 0 ∷ 0 ∷ 0 ∷ 0 ∷ 0 ∷ 0 ∷ 0 ∷ 0 ∷ 0 ∷ 0 ∷ 0 ∷ 0 ∷ 0 ∷ 0 ∷ 0 ∷ 0 ∷ 0 ∷ 0 ∷ 0 ∷ 0 ∷ 0 ∷ 0 ∷ 0 ∷ 0 ∷ 0 ∷ 0 ∷ 0 ∷ 0 ∷ 0 ∷ 0 ∷ 0 ∷ 0 ∷ 152 ∷ []

hash1 : compressed block1 ≡ 2153688134 ∷ 925650564 ∷ 1828899811 ∷ 1673208772 ∷ 3185359450 ∷ 3733930211 ∷ 900726922 ∷ 3813736845 ∷ []
unfolding first_words rounds
hash1 = refl

abbrev block2 : List ℕ
block2 = 2 ∷ 0 ∷ 0 ∷ 0 ∷ 0 ∷ 0 ∷ 0 ∷ 0 ∷ 1 ∷ 0 ∷ 0 ∷ 0 ∷ 1 ∷ 0 ∷ 0 ∷ 0 ∷ 100 ∷ 0 ∷ 0 ∷ 0 ∷ 0 ∷ 0 ∷ 0 ∷ 0 ∷ 1 ∷ 0 ∷ 0 ∷ 0 ∷ 0 ∷ 0 ∷ 0 ∷ 0 ∷ 1 ∷ 0 ∷ 0 ∷ 0 ∷ 1 ∷ 1 ∷ 0 ∷ 0 ∷ 0 ∷ 1 ∷ 0 ∷ 0 ∷ 0 ∷ 0 ∷ 0 ∷ 0 ∷ 0 ∷ 0 ∷ 0 ∷ 0 ∷ 0 ∷ 0 ∷ 128 ∷ 0 ∷ 0 ∷ 0 ∷ 0 ∷ 0 ∷ 0 ∷ 0 ∷ 1 ∷ 176 ∷ []

hash2 : compressed block2 ≡ 431105290 ∷ 3508185792 ∷ 2898521177 ∷ 1402532340 ∷ 1841579888 ∷ 667189393 ∷ 3281185061 ∷ 2626913752 ∷ []
unfolding first_words rounds
hash2 = refl

pub hashed_nothing : sha256 [] ≡ digest_of_nothing
unfolding sha256 hash_after digest_bytes
hashed_nothing = ap (λ (h : List ℕ). digest_bytes h 8) (compress_is block0 ∙ hash0)

pub hashed_request : sha256 request_bytes ≡ the_digest
unfolding sha256 hash_after digest_bytes
hashed_request = ap (λ (h : List ℕ). digest_bytes h 8) (compress_is block1 ∙ hash1)

pub hashed_state : sha256 state_bytes ≡ digest_of_state
unfolding sha256 hash_after digest_bytes
hashed_state = ap (λ (h : List ℕ). digest_bytes h 8) (compress_is block2 ∙ hash2)

-- ---- SHA-256, with the digests that the histories compute

abbrev pub table_or : List ℕ → Bool → List ℕ
table_or text known = cond known the_digest (sha256 text)

abbrev pub by_table : List ℕ → List ℕ
by_table [] = digest_of_nothing
by_table (x ∷ xs) = table_or (x ∷ xs) (bytes_eq (x ∷ xs) request_bytes)

pub table_is : (text : List ℕ) → by_table text ≡ sha256 text
table_is [] = sym hashed_nothing
table_is (x ∷ xs) = cases (bytes_eq (x ∷ xs) request_bytes) refl where
  cases : (known : Bool) → bytes_eq (x ∷ xs) request_bytes ≡ known → table_or (x ∷ xs) known ≡ sha256 (x ∷ xs)
  cases true e = sym hashed_request ∙ ap sha256 (sym ((bytes_eq-Decides (x ∷ xs) request_bytes).0 e))
  cases false e = refl
