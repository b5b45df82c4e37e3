-- The laws, by what the codec's own lemmas say of reading.
use Rattle.std.proofs.Common.{ℕ, List, ◌++◌, length, take, drop, refl, sym, subst, ap, arith}
use Rattle.std.proofs.lemmas.List.{length-drop, take-append-drop}
use Rattle.std.proofs.lemmas.Bool.{lt-ltb}
use Rattle.pbft_codec.specs.declared.body.Body.{Body}
use Rattle.pbft_codec.specs.declared.signed.Signed.{Signed}
use Rattle.pbft_codec.specs.Encoding.{max_bytes}
use Rattle.pbft_codec.specs.Reading.{reading}
use Rattle.pbft_codec.specs.WellFormed.{Encodes}
use Rattle.pbft_codec.proofs.MessageLaws.{reading_cut, reading_behind}
use Rattle.codec_laws.specs.Damaged.{AreTooLong, IsTrailingBeforeMore, IsTruncatedWhereCut}

pub cut : (bytes : List ℕ) (m : Signed Body) → Encodes bytes m → IsTruncatedWhereCut bytes
cut bytes m encodes count lt =
    let whole : Encodes (take count bytes ++ drop count bytes) m = subst (λ (b : List ℕ). Encodes b m) (sym (take-append-drop count bytes)) encodes in
    reading_cut (take count bytes) m (drop count bytes) (omega (arith, lt, length-drop count bytes)) whole

pub behind : (bytes : List ℕ) (m : Signed Body) → Encodes bytes m → IsTrailingBeforeMore bytes
behind bytes m encodes more some le =
    reading_behind (bytes ++ more) m more some encodes.well_formed (ap (λ (b : List ℕ). b ++ more) encodes.encoded) le

pub too_long : AreTooLong
unfolding reading
too_long bytes lt = rw (lt-ltb max_bytes (length bytes) lt) refl
