-- Requests with equal signed bytes are equal.
use Rattle.std.proofs.Common.{◌≡◌}
use Rattle.pbft_codec.proofs.MessageLaws.{one_signed_text}
use Rattle.pbft_model.specs.Words.{Configuration, Signed, RequestBody, IsChecked, as_message, signed_text}
use Rattle.pbft_codec.specs.declared.body.Body.TheVariants as bodies
use Rattle.pbft_model.specs.Setup.{request_in}

same_body : (b d : RequestBody) → bodies.Request b ≡ bodies.Request d → b ≡ d
same_body b d e = cc

pub same_request_text : (config : Configuration) (m p : Signed RequestBody) → IsChecked (record { config = config; message = as_message bodies.Request m })
    → IsChecked (record { config = config; message = as_message bodies.Request p }) → signed_text (as_message bodies.Request m) ≡ signed_text (as_message bodies.Request p)
    → request_in m ≡ request_in p
same_request_text config m p h k e =
    let same = one_signed_text (as_message bodies.Request m) (as_message bodies.Request p) h.encodes.well_formed k.encodes.well_formed h.encodes.within k.encodes.within e in
    let body = same_body m.body p.body same.2 in
    λ i. record { client = record { 0 = same.1 i }; time = (body i).time; op = (body i).op }
