-- Encodings that determine their value, whatever follows.
use Rattle.std.proofs.Common.{◌≡◌, ℕ, ◌^◌, ◌<◌, List, [], ◌∷◌, ◌++◌, length, refl, sym, ap, ◌∙◌, append_assoc, arith}
use Rattle.std.specs.Prelude.{flat_map, All}
use Rattle.std.specs.Int.{w32, w64, from_be_bytes}
use Rattle.std.proofs.lemmas.List.Elements.{All-head, All-tail}
use Rattle.std.proofs.lemmas.Nat.{from_be_bytes-to_be_bytes_4, from_be_bytes-to_be_bytes_8}
use Rattle.host_types.specs.declared.request.Reply.{Reply}
use Rattle.bpf_model.specs.declared.profile.Profile.{Profile}
use Rattle.bpf_model.specs.declared.profile.Profile.TheVariants.{One, Two}
use Rattle.bpf_model.specs.Profiles.{number_of}
use Rattle.service_model.specs.declared.version.Version.{Version}
use Rattle.service_model.specs.declared.version.Version.TheVariants.{First, Second}
use Rattle.service_model.specs.Words.{u32_bytes, u64_bytes}
use Rattle.service_model.specs.Versions.{encoded_profile, IsTold}
use Rattle.service_model.specs.TenantStates.{Procedure}
use Rattle.service_model.specs.Encoding.{length_prefixed, encoded_procedure, encoded_reply}

abbrev pub IsPrefixFree : {A : Type 0} → (A → List ℕ) → (A → Type 0) → Type 0
IsPrefixFree {A} s F = (x y : A) (r t : List ℕ) → F x → F y → s x ++ r ≡ s y ++ t → (x ≡ y) × (r ≡ t)

pub same_length : (xs ys r t : List ℕ) → length xs ≡ length ys → xs ++ r ≡ ys ++ t → (xs ≡ ys) × (r ≡ t)
same_length [] [] r t e h = (refl, h)
same_length [] (y ∷ ys) r t e h = absurd (omega (arith, e))
same_length (x ∷ xs) [] r t e h = absurd (omega (arith, e))
same_length (x ∷ xs) (y ∷ ys) r t e h =
    let head : x ≡ y = cc in
    let tail : xs ++ r ≡ ys ++ t = cc in
    let rest = same_length xs ys r t (omega (arith, e)) tail in
    (λ i. head i ∷ rest.0 i, rest.1)

pub free_bytes : (n : ℕ) → IsPrefixFree (λ (bytes : List ℕ). bytes) (λ bytes. length bytes ≡ n)
free_bytes n x y r t p q h = same_length x y r t (p ∙ sym q) h

pub free_four : IsPrefixFree u32_bytes (λ n. n < 2 ^ 32)
unfolding u32_bytes
free_four x y r t p q h =
    let both = same_length (u32_bytes x) (u32_bytes y) r t refl h in
    (sym (from_be_bytes-to_be_bytes_4 x p) ∙ ap (from_be_bytes w32) both.0 ∙ from_be_bytes-to_be_bytes_4 y q, both.1)

pub free_eight : IsPrefixFree u64_bytes (λ n. n < 2 ^ 64)
unfolding u64_bytes
free_eight x y r t p q h =
    let both = same_length (u64_bytes x) (u64_bytes y) r t refl h in
    (sym (from_be_bytes-to_be_bytes_8 x p) ∙ ap (from_be_bytes w64) both.0 ∙ from_be_bytes-to_be_bytes_8 y q, both.1)

pub free_then : {A B : Type 0} (s : A → List ℕ) (F : A → Type 0) (u : B → List ℕ) (G : B → Type 0) → IsPrefixFree s F → IsPrefixFree u G
    → (a a' : A) (b b' : B) (r t : List ℕ) → F a → F a' → G b → G b' → (s a ++ u b) ++ r ≡ (s a' ++ u b') ++ t → (a ≡ a') × (b ≡ b') × (r ≡ t)
free_then s F u G first second a a' b b' r t fa fa' gb gb' h =
    let one = first a a' (u b ++ r) (u b' ++ t) fa fa' (sym (append_assoc (s a) (u b) r) ∙ h ∙ append_assoc (s a') (u b') t) in
    let two = second b b' r t gb gb' one.1 in
    (one.0, two.0, two.1)

pub free_length_prefixed : IsPrefixFree length_prefixed (λ bytes. length bytes < 2 ^ 32)
free_length_prefixed x y r t p q h =
    let one = free_four (length x) (length y) (x ++ r) (y ++ t) p q (sym (append_assoc (u32_bytes (length x)) x r) ∙ h ∙ append_assoc (u32_bytes (length y)) y t) in
    same_length x y r t one.0 one.1

-- a profile that the version tells
pub free_profile : (version : Version) → IsPrefixFree (encoded_profile version) (IsTold version)
free_profile First x y r t p q h = (p ∙ sym q, h)
free_profile Second x y r t p q h = let number : number_of x ≡ number_of y = cc in let rest : r ≡ t = cc in (same x y number, rest) where
  same : (x y : Profile) → number_of x ≡ number_of y → x ≡ y
  same One One e = refl
  same One Two e = absurd (omega (arith, e))
  same Two One e = absurd (omega (arith, e))
  same Two Two e = refl

-- a procedure that the version tells
abbrev pub FitsIn : Version → Procedure → Type 0
FitsIn version procedure = (length procedure.code < 2 ^ 32) × IsTold version procedure.profile

pub free_procedure : (version : Version) → IsPrefixFree (encoded_procedure version) (FitsIn version)
free_procedure version x y r t p q h =
    let profile = free_profile version x.profile y.profile (length_prefixed x.code ++ r) (length_prefixed y.code ++ t) p.1 q.1
    (sym (append_assoc (encoded_profile version x.profile) (length_prefixed x.code) r) ∙ h ∙ append_assoc (encoded_profile version y.profile) (length_prefixed y.code) t) in
    let code = free_length_prefixed x.code y.code r t p.0 q.0 profile.1 in
    (λ i. record { profile = profile.0 i; code = code.0 i }, code.1)

pub free_items : {A : Type 0} (s : A → List ℕ) (F : A → Type 0) → IsPrefixFree s F → (xs ys : List A) (r t : List ℕ) → length xs ≡ length ys → All F xs → All F ys
    → flat_map s xs ++ r ≡ flat_map s ys ++ t → (xs ≡ ys) × (r ≡ t)
free_items s F free [] [] r t e f g h = (refl, h)
free_items s F free [] (y ∷ ys) r t e f g h = absurd (omega (arith, e))
free_items s F free (x ∷ xs) [] r t e f g h = absurd (omega (arith, e))
free_items s F free (x ∷ xs) (y ∷ ys) r t e f g h =
    let one = free x y (flat_map s xs ++ r) (flat_map s ys ++ t) (All-head F x xs f) (All-head F y ys g)
    (sym (append_assoc (s x) (flat_map s xs) r) ∙ h ∙ append_assoc (s y) (flat_map s ys) t) in
    let rest = free_items s F free xs ys r t (omega (arith, e)) (All-tail F x xs f) (All-tail F y ys g) one.1 in
    (λ i. one.0 i ∷ rest.0 i, rest.1)

-- a list after its count
pub free_list : {A : Type 0} (s : A → List ℕ) (F : A → Type 0) → IsPrefixFree s F
    → IsPrefixFree (λ xs. u32_bytes (length xs) ++ flat_map s xs) (λ xs. (length xs < 2 ^ 32) × All F xs)
free_list s F free xs ys r t p q h =
    let one = free_four (length xs) (length ys) (flat_map s xs ++ r) (flat_map s ys ++ t) p.0 q.0
    (sym (append_assoc (u32_bytes (length xs)) (flat_map s xs) r) ∙ h ∙ append_assoc (u32_bytes (length ys)) (flat_map s ys) t) in
    free_items s F free xs ys r t one.0 p.1 q.1 one.1

-- what a reply's fields hold
pub record FieldsInRange (reply : Reply) : Type 0 where
  pub client : reply.client.0 < 2 ^ 32
  pub time : reply.time < 2 ^ 64
  pub number : reply.number.0 < 2 ^ 64
  pub result : length reply.result < 2 ^ 32

regrouped : (a b c d r : List ℕ) → (((a ++ b) ++ c) ++ d) ++ r ≡ a ++ (b ++ (c ++ (d ++ r)))
regrouped a b c d r = simp append_assoc

pub free_reply : IsPrefixFree encoded_reply FieldsInRange
free_reply x y r t p q h =
    let client = free_four x.client.0 y.client.0 _ _ p.client q.client
    (sym (regrouped (u32_bytes x.client.0) (u64_bytes x.time) (u64_bytes x.number.0) (length_prefixed x.result) r) ∙ h
    ∙ regrouped (u32_bytes y.client.0) (u64_bytes y.time) (u64_bytes y.number.0) (length_prefixed y.result) t) in
    let time = free_eight x.time y.time _ _ p.time q.time client.1 in
    let number = free_eight x.number.0 y.number.0 _ _ p.number q.number time.1 in
    let result = free_length_prefixed x.result y.result r t p.result q.result number.1 in
    (λ i. record { client = record { 0 = client.0 i }; time = time.0 i; number = record { 0 = number.0 i }; result = result.0 i }, result.1)
