use Rattle.std.proofs.Common.{ap}
use Rattle.pbft_codec.specs.declared.body.Body.{Body}
use Rattle.pbft_codec.specs.declared.signed.Signed.{Signed}
use Rattle.seal.proofs.EncodingLaws.{sealed_within}
use Rattle.seal.proofs.sealing.seal.Goals as goal

pub encoded-requires-clause-within : goal.encoded-requires-clause-within
encoded-requires-clause-within c =
    let s = c.args.signer.now in
    let body = ap (λ (m : Signed Body). m.body) c.with_empty_signature-unsigned.ensures in
    let long = rw (← c.from_vec.ensures) at c.in_ok-signature.ensures.length in
    sealed_within s _ _ long (rw body c.requires.within)
