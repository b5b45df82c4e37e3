-- What stands in the bytes of a reply, behind each of its fields.
use Rattle.std.proofs.Common.{◌≡◌, ℕ, ◌^◌, ◌<◌, List, ◌++◌, sym, ◌∙◌, append_assoc, arith}
use Rattle.host_types.specs.declared.request.Reply.{Reply}
use Rattle.service_model.specs.Words.{u32_bytes, u64_bytes}
use Rattle.service_model.specs.Encoding.{length_prefixed, encoded_reply}
use Rattle.service_model.specs.Bounded.{IsBoundedReply}
use Rattle.service_core.specs.Readings.{Begins}
use Rattle.service_model.proofs.PrefixFree.{IsPrefixFree, FieldsInRange, free_four, free_eight, free_reply}

abbrev pub IsFit : ℕ → Reply → Type 0
IsFit taken reply = IsBoundedReply taken reply.client.0 reply

regrouped : (a b c d r : List ℕ) → (((a ++ b) ++ c) ++ d) ++ r ≡ a ++ (b ++ (c ++ (d ++ r)))
regrouped a b c d r = simp append_assoc

-- the rest of a reply's bytes, behind its client, its time and its number
abbrev pub BehindClient : ℕ → List ℕ → Type 0
BehindClient taken rest = (y : Reply) × (more : List ℕ) × IsFit taken y × (rest ≡ u64_bytes y.time ++ (u64_bytes y.number.0 ++ (length_prefixed y.result ++ more)))

abbrev pub BehindTime : ℕ → List ℕ → Type 0
BehindTime taken rest = (y : Reply) × (more : List ℕ) × IsFit taken y × (rest ≡ u64_bytes y.number.0 ++ (length_prefixed y.result ++ more))

abbrev pub BehindNumber : ℕ → ℕ → List ℕ → Type 0
BehindNumber taken number rest = (y : Reply) × (more : List ℕ) × IsFit taken y × (rest ≡ length_prefixed y.result ++ more) × (number ≡ y.number.0)

pub behind_client : (taken client : ℕ) (bytes rest : List ℕ) → client < 2 ^ 32 → bytes ≡ u32_bytes client ++ rest → Begins encoded_reply (IsFit taken) bytes → BehindClient taken rest
behind_client taken client bytes rest lt e (y, more, fits, h) =
    let one = free_four client y.client.0 rest _ lt fits.client_in_range (sym e ∙ h ∙ regrouped (u32_bytes y.client.0) (u64_bytes y.time) (u64_bytes y.number.0) (length_prefixed y.result) more) in
    (y, more, fits, one.1)

pub behind_time : (taken time : ℕ) (bytes rest : List ℕ) → time < 2 ^ 64 → bytes ≡ u64_bytes time ++ rest → BehindClient taken bytes → BehindTime taken rest
behind_time taken time bytes rest lt e (y, more, fits, h) =
    let one = free_eight time y.time rest _ lt fits.time_in_range (sym e ∙ h) in
    (y, more, fits, one.1)

pub behind_number : (taken number : ℕ) (bytes rest : List ℕ) → taken < 2 ^ 64 → number < 2 ^ 64 → bytes ≡ u64_bytes number ++ rest → BehindTime taken bytes → BehindNumber taken number rest
behind_number taken number bytes rest few lt e (y, more, fits, h) =
    let one = free_eight number y.number.0 rest _ lt (omega (arith, fits.not_later, few)) (sym e ∙ h) in
    (y, more, fits, one.1, one.0)

-- a reply's bytes determine it
pub free_fit : (taken : ℕ) → taken < 2 ^ 64 → IsPrefixFree encoded_reply (IsFit taken)
free_fit taken few x y r t p q h = free_reply x y r t (in_range x p) (in_range y q) h where
  in_range : (reply : Reply) → IsFit taken reply → FieldsInRange reply
  in_range reply is = record {
    client = is.client_in_range;
    time = is.time_in_range;
    number = omega (arith, is.not_later, few);
    result = omega (arith, is.result_in_range);
  }
