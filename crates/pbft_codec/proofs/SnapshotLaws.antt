-- The laws of Snapshots as messages: what is read as one is so encoded, and where its state stands.
use Rattle.std.proofs.Common.{◌≡◌, ℕ, ◌+◌, ◌-◌, ◌≤◌, List, ◌++◌, length, take, drop, Result, Ok, Err, refl, sym, ap, ◌∙◌, arith}
use Rattle.std.specs.List.{slice_range}
use Rattle.pbft_codec.specs.declared.body.Body.TheVariants as bodies
use Rattle.pbft_codec.specs.declared.body.snapshot.Snapshot.{Snapshot}
use Rattle.codec_fields.specs.declared.fault.CodecFault.{CodecFault}
use Rattle.codec_fields.specs.declared.fault.ReadError.{ReadError}
use Rattle.codec_fields.specs.declared.fault.ReadError.TheVariants as errors
use Rattle.pbft_codec.specs.declared.kind.Kind.TheVariants as kinds
use Rattle.pbft_codec.specs.declared.signed.Signed.{Signed}
use Rattle.pbft_codec.specs.Encoding.{body, encoding, max_bytes}
use Rattle.pbft_codec.specs.Layouts.{length_prefixed, of_kind, signed, snapshot}
use Rattle.codec_fields.specs.Fields.{Fails, IsFault}
use Rattle.pbft_codec.specs.Reading.{whole, kind_at, signed_at, snapshot_at}
use Rattle.pbft_codec.specs.Snapshots.{message_of}
use Rattle.pbft_codec.specs.WellFormed.{Encodes}
use Rattle.pbft_codec.proofs.Forms.{IsBytes, IsForm, whole_takes, whole_again}
use Rattle.pbft_codec.proofs.FieldLaws.{form_signed}
use Rattle.pbft_codec.proofs.BodyLaws.{BodyReadable, form_kind, form_snapshot}
use Rattle.pbft_codec.proofs.EncodingLaws.{take_front}
use Rattle.pbft_codec.proofs.LengthLaws.{length_body, length_encoding}
use Rattle.pbft_codec.proofs.MessageLaws.{MessageReadable, fits_from, fits_for}
use Rattle.pbft_codec.proofs.Widths.{SignedWidths}

abbrev IsReadable : Signed Snapshot → Type 0
IsReadable m = (0 ≤ m.id) × SignedWidths (of_kind kinds.Snapshot snapshot) (λ s. BodyReadable (bodies.Snapshot s)) m

form_signed_snapshot : IsForm (signed_at (kind_at kinds.Snapshot snapshot_at) 0) (signed (of_kind kinds.Snapshot snapshot)) IsReadable
form_signed_snapshot = form_signed (kind_at kinds.Snapshot snapshot_at) (of_kind kinds.Snapshot snapshot) (λ s. BodyReadable (bodies.Snapshot s)) 0 (form_kind kinds.Snapshot snapshot_at snapshot (λ s. BodyReadable (bodies.Snapshot s)) form_snapshot)

same_encoding : (m : Signed Snapshot) → signed (of_kind kinds.Snapshot snapshot) m ≡ encoding (message_of m)
unfolding signed body
same_encoding m = refl

as_readable : (m : Signed Snapshot) → IsReadable m → MessageReadable (message_of m)
unfolding body
as_readable m fits = (fits.0, record { id_in_range = fits.1.id_in_range; body_in_range = fits.1.body_in_range; body_length_in_range = fits.1.body_length_in_range; sig_length_in_range = fits.1.sig_length_in_range })

-- what is read as a Snapshot is so encoded
pub snapshot_found : (bytes : List ℕ) (m : Signed Snapshot) → IsBytes bytes → length bytes ≤ max_bytes → whole (signed_at (kind_at kinds.Snapshot snapshot_at) 0) bytes ≡ Ok m → Encodes bytes (message_of m)
snapshot_found bytes m fits le e =
    let one = whole_takes (signed_at (kind_at kinds.Snapshot snapshot_at) 0) (signed (of_kind kinds.Snapshot snapshot)) IsReadable bytes m form_signed_snapshot fits e in
    record { well_formed = fits_from (message_of m) (as_readable m one.1); encoded = one.0 ∙ same_encoding m; within = le }

from_readable : (m : Signed Snapshot) → MessageReadable (message_of m) → IsReadable m
unfolding body
from_readable m fits = (fits.0, record { id_in_range = fits.1.id_in_range; body_in_range = fits.1.body_in_range; body_length_in_range = fits.1.body_length_in_range; sig_length_in_range = fits.1.sig_length_in_range })

-- what is encoded as one is so read
pub snapshot_read : (bytes : List ℕ) (m : Signed Snapshot) → Encodes bytes (message_of m) → whole (signed_at (kind_at kinds.Snapshot snapshot_at) 0) bytes ≡ Ok m
snapshot_read bytes m encodes =
    let fits = from_readable m (fits_for (message_of m) encodes.well_formed (omega (arith, encodes.within, ap length encodes.encoded))) in
    ap (whole (signed_at (kind_at kinds.Snapshot snapshot_at) 0)) (encodes.encoded ∙ sym (same_encoding m)) ∙ whole_again (signed_at (kind_at kinds.Snapshot snapshot_at) 0) (signed (of_kind kinds.Snapshot snapshot)) IsReadable m form_signed_snapshot fits

-- what fails with a fault is not read
pub not_read : {A : Type 0} (e : ReadError) (read : Result A CodecFault) (x : A) → Fails e read → IsFault e → read ≡ Ok x → ⊥
not_read errors.Memory read x fails fault is = fault
not_read (errors.Fault f) read x fails fault is = let both : Err f ≡ Ok x = sym fails ∙ is in absurd cc

-- ---- the place of the state

-- the state, and the signature behind it
behind_front : (m : Signed Snapshot) → drop 22 (encoding (message_of m)) ≡ m.body.state ++ length_prefixed m.sig
unfolding signed length_prefixed body snapshot
behind_front m = refl

pub state_within : (bytes : List ℕ) (m : Signed Snapshot) → bytes ≡ encoding (message_of m) → 22 + length m.body.state ≤ length bytes
state_within bytes m e = omega (arith, ap length e, length_encoding (message_of m), length_body (bodies.Snapshot m.body) tt)

pub state_there : (bytes : List ℕ) (m : Signed Snapshot) → bytes ≡ encoding (message_of m) → slice_range bytes 22 (22 + length m.body.state) ≡ m.body.state
state_there bytes m e =
    let n : ℕ = 22 + length m.body.state in
    ap (λ (s : List ℕ). slice_range s 22 n) e ∙ ap (λ (s : List ℕ). take (n - 22) s) (behind_front m) ∙ take_front m.body.state (length_prefixed m.sig) (n - 22) (omega arith)
