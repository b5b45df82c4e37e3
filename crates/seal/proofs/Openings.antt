-- What opening answers, from what decoding and verifying answered.
use Rattle.std.proofs.Common.{◌≡◌, ℕ, Bool, true, false, not, cond, List, [], ◌∷◌, Option, Some, None, Result, Ok, Err, refl, sym, ap, subst, ◌∙◌, ◌⊎◌, inl, inr}
use Rattle.std.specs.List.{AllByRecursion}
use Rattle.host_types.specs.Configuration.{Configuration}
use Rattle.host_types.specs.declared.key.PublicKey.{PublicKey}
use Rattle.pbft_codec.specs.declared.body.Body.{Body}
use Rattle.pbft_codec.specs.CodecFault.{CodecFault}
use Rattle.pbft_codec.specs.CodecFault.TheVariants as codec
use Rattle.pbft_codec.specs.declared.signed.Signed.{Signed}
use Rattle.pbft_codec.specs.Reading.{reading, IsUnlessMemory as IsReadUnlessMemory}
use Rattle.pbft_codec.specs.WellFormed.{Encodes}
use Rattle.pbft_codec.proofs.MessageLaws.{reading_only}
use Rattle.seal.specs.declared.fault.SealFault.{SealFault}
use Rattle.seal.specs.declared.fault.SealFault.TheVariants.{Codec, UnknownSigner, BadSignature, WrongRole, Memory}
use Rattle.seal.specs.Faults.{from_codec, IsProper}
use Rattle.seal.specs.Opening.{CheckedMessage, IsUnlessMemory, verified, unless_fault, opening}
use Rattle.seal.specs.Parts.{messages_in}
use Rattle.seal.specs.Signers.{IsAuthentic, key_of, may_sign, fault_under, own_fault, or_later, first_fault}
use Rattle.seal.proofs.Authenticity.{all_faultless}

pub decode_refused : (c : Configuration) (bytes : List ℕ) (f : CodecFault) → IsReadUnlessMemory {A = Signed Body} (Err f) (reading bytes) → IsUnlessMemory {A = CheckedMessage} (Err (from_codec f)) (opening c bytes)
unfolding opening
decode_refused c bytes codec.Memory e = tt
decode_refused c bytes _ e = ap (verified c) e

memory_or : (f : SealFault) (is : Result CheckedMessage SealFault) → (f ≡ Memory) ⊎ (is ≡ Err f) → IsUnlessMemory {A = CheckedMessage} (Err f) is
memory_or Memory is h = tt
memory_or (Codec x) is (inl e) = absurd cc
memory_or (Codec x) is (inr e) = e
memory_or UnknownSigner is (inl e) = absurd cc
memory_or UnknownSigner is (inr e) = e
memory_or BadSignature is (inl e) = absurd cc
memory_or BadSignature is (inr e) = e
memory_or WrongRole is (inl e) = absurd cc
memory_or WrongRole is (inr e) = e

fault_of : (c : Configuration) (bytes : List ℕ) (m : Signed Body) (o : Option SealFault) → reading bytes ≡ Ok m → first_fault c (messages_in m) ≡ o → opening c bytes ≡ unless_fault c m o
unfolding opening
fault_of c bytes m o read e = ap (verified c) read ∙ ap (unless_fault c m) e

pub verify_refused : (c : Configuration) (bytes : List ℕ) (m : Signed Body) (f : SealFault) → reading bytes ≡ Ok m → (f ≡ Memory) ⊎ (first_fault c (messages_in m) ≡ Some f) → IsUnlessMemory {A = CheckedMessage} (Err f) (opening c bytes)
verify_refused c bytes m f read (inl e) = memory_or f (opening c bytes) (inl e)
verify_refused c bytes m f read (inr e) = memory_or f (opening c bytes) (inr (fault_of c bytes m (Some f) read e))

pub opens : (c : Configuration) (bytes : List ℕ) (m : Signed Body) → reading bytes ≡ Ok m → first_fault c (messages_in m) ≡ None → opening c bytes ≡ Ok (record { config = c; message = m })
opens c bytes m read e = fault_of c bytes m None read e

pub only_from_exact : (r : Result CheckedMessage SealFault) (c : Configuration) (bytes : List ℕ) (m : Signed Body) → IsUnlessMemory r (opening c bytes) → Encodes bytes m → AllByRecursion (IsAuthentic c) (messages_in m) → IsUnlessMemory r (Ok (record { config = c; message = m }))
only_from_exact r c bytes m exact encodes authentic =
    subst (λ (o : Result CheckedMessage SealFault). IsUnlessMemory r o) (opens c bytes m (reading_only bytes m encodes) (all_faultless c (messages_in m) authentic)) exact

-- ---- out of memory is never reported as a fault of the bytes

pub proper_codec : (f : CodecFault) → IsProper (from_codec f)
proper_codec codec.Memory = tt
proper_codec _ = tt

proper_some : (f g : SealFault) → Some f ≡ Some g → IsProper f → IsProper g
proper_some f g e h =
    let same : f ≡ g = cc in
    subst IsProper same h

proper_test : (t s : Bool) (f : SealFault) → cond (not t) (Some WrongRole) (cond s (Some BadSignature) None) ≡ Some f → IsProper f
proper_test true true f e = proper_some BadSignature f e tt
proper_test true false f e = absurd cc
proper_test false s f e = proper_some WrongRole f e tt

proper_under : (c : Configuration) (key : Option PublicKey) (m : Signed Body) (f : SealFault) → fault_under c key m ≡ Some f → IsProper f
proper_under c None m f e = proper_some UnknownSigner f e tt
proper_under c (Some key) m f e = proper_test (may_sign c m.role m.id m.body) _ f e

proper_or : (one later : Option SealFault) (f : SealFault) → ((g : SealFault) → one ≡ Some g → IsProper g) → (later ≡ Some f → IsProper f) → or_later one later ≡ Some f → IsProper f
proper_or None later f p q e = q e
proper_or (Some g) later f p q e = proper_some g f e (p g refl)

proper_first : (c : Configuration) (ms : List (Signed Body)) (f : SealFault) → first_fault c ms ≡ Some f → IsProper f
unfolding first_fault own_fault
proper_first c [] f e = absurd cc
proper_first c (m ∷ ms) f e = proper_or (own_fault c m) (first_fault c ms) f (proper_under c (key_of c m.role m.id) m) (proper_first c ms f) e

pub proper_verified : (c : Configuration) (ms : List (Signed Body)) (f : SealFault) → (f ≡ Memory) ⊎ (first_fault c ms ≡ Some f) → IsProper f
proper_verified c ms f (inl e) = subst IsProper (sym e) tt
proper_verified c ms f (inr e) = proper_first c ms f e
