-- Statement: how the fields of a message are read, with the first fault that is met.
--
-- Each field is checked in its turn: first whether enough bytes are left in what holds it, and then the field's own value.
-- A length is checked in its turn, before the bytes behind it are looked at.
use Rattle.std.specs.Prelude.{◌≡◌, ℕ, ◌^◌, List, length, take, drop, Result, Ok, Err, Bool, nat_lt, nat_le, if◌then◌else◌}
use Rattle.std.specs.Int.{Width, w32, w64, byte_len, from_be_bytes}
use Rattle.host_types.specs.declared.ClientId.{ClientId}
use Rattle.host_types.specs.declared.Digest.{Digest}
use Rattle.host_types.specs.declared.SeqNo.{SeqNo}
use Rattle.host_types.specs.declared.View.{View}
use Rattle.codec_fields.specs.declared.fault.CodecFault.{CodecFault}
use Rattle.codec_fields.specs.declared.fault.CodecFault.TheVariants.{Truncated, BadField, NotAscending}
use Rattle.codec_fields.specs.declared.fault.ReadError.{ReadError}
use Rattle.codec_fields.specs.declared.fault.ReadError.TheVariants as errors

infixl 10 ◌>>=◌
abbrev pub ◌>>=◌ : {A B : Type 0} → Result A CodecFault → (A → Result B CodecFault) → Result B CodecFault
(Ok x) >>= f = f x
(Err e) >>= f = Err e

-- What a function returned, seen by view, is what reading gives, unless memory ran out.
abbrev pub Fails : {Y : Type 0} → ReadError → Result Y CodecFault → Type 0
Fails errors.Memory read = Unit {0}
Fails (errors.Fault f) read = read ≡ Err f

-- A fault of the bytes: what takes no memory fails with no other.
abbrev pub IsFault : ReadError → Type 0
IsFault errors.Memory = ⊥
IsFault (errors.Fault f) = Unit {0}

abbrev pub Gives : {X Y : Type 0} → (X → Y) → Result X ReadError → Result Y CodecFault → Type 0
Gives view (Ok x) read = read ≡ Ok (view x)
Gives view (Err e) read = Fails e read

-- A value and the bytes behind it, or a fault.
abbrev pub Reading : Type 0 → Type 0
Reading A = List ℕ → Result (A × List ℕ) CodecFault

-- One field and then another.
abbrev pub pair : {A B : Type 0} → Reading A → Reading B → Reading (A × B)
pair first second bytes = do
  a ← first bytes
  b ← second a.1
  Ok ((a.0, b.0), b.1)

-- What is read, made into another value.
abbrev pub map : {A B : Type 0} → (A → B) → Reading A → Reading B
map make reading bytes = do
  a ← reading bytes
  Ok (make a.0, a.1)

-- ---- fields

abbrev pub number_at : Width → Reading ℕ
number_at w bytes =
    if nat_lt (length bytes) (byte_len w) then Err Truncated
    else Ok (from_be_bytes w (take (byte_len w) bytes), drop (byte_len w) bytes)

unfoldable pub view_at : Reading View
view_at = map (λ n. record { 0 = n }) (number_at w32)

unfoldable pub client_at : Reading ClientId
client_at = map (λ n. record { 0 = n }) (number_at w32)

-- A number that passes a test.
abbrev pub number_unless : Width → (ℕ → Bool) → CodecFault → Reading ℕ
number_unless w refused fault bytes = do
  n ← number_at w bytes
  if refused n.0 then Err fault else Ok n

-- A sequence number: below 2^48.
unfoldable pub sequence_number_at : Reading SeqNo
sequence_number_at = map (λ n. record { 0 = n }) (number_unless w64 (λ n. nat_le (2 ^ 48) n) BadField)

unfoldable pub digest_at : Reading Digest
digest_at bytes = if nat_lt (length bytes) 32 then Err Truncated else Ok (record { 0 = take 32 bytes }, drop 32 bytes)

-- A length, and so many bytes. A length that reaches past the end is refused at once.
unfoldable pub length_prefixed_at : Reading (List ℕ)
length_prefixed_at bytes = do
  n ← number_at w32 bytes
  if nat_lt (length n.1) n.0 then Err Truncated else Ok (take n.0 n.1, drop n.0 n.1)

-- A count, at most this one.
unfoldable pub count_at : ℕ → Reading ℕ
count_at max = number_unless w32 (λ n. nat_lt max n) BadField

-- An id, at least this one.
unfoldable pub id_at : ℕ → Reading ℕ
id_at low = number_unless w32 (λ n. nat_lt n low) NotAscending
