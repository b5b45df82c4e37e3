-- Internal: what a list of held requests stands for.
use Rattle.std.specs.Prelude.{◌≡◌, List, [], map}
use Rattle.std.specs.List.{AllByRecursion}
use Rattle.host_types.specs.Configuration.{Configuration}
use Rattle.pbft_codec.specs.declared.body.Body.{Body}
use Rattle.pbft_codec.specs.declared.body.Body.TheVariants as bodies
use Rattle.pbft_model.specs.Acts.{with_body}
use Rattle.pbft_model.specs.Setup.{digest_of, setup_of}
use Rattle.pbft_model.specs.Words.{RequestBody, Signed}
use Rattle.seal.specs.Opening.{CheckedMessage}
use Rattle.replica_stores.specs.declared.requests.Held.{Held}

-- A Request's body. No message of another kind is held.
abbrev pub request_body : Body → RequestBody
request_body (bodies.Request b) = b
request_body _ = record { time = 0; op = [] }

abbrev pub as_request : CheckedMessage → Signed RequestBody
as_request m = with_body m.message (request_body m.message.body)

abbrev pub requests_in : List Held → List (Signed RequestBody)
requests_in hs = map (λ h. as_request h.message) hs

-- A Request under the configuration, with its digest.
pub record IsHeld (c : Configuration) (h : Held) : Type 0 where
  pub config : h.message.config ≡ c
  pub is : h.message.message.body ≡ bodies.Request (request_body h.message.message.body)
  pub digest : h.digest.0 ≡ digest_of (setup_of c) (as_request h.message)

abbrev pub AreHeld : Configuration → List Held → Type 0
AreHeld c hs = AllByRecursion (IsHeld c) hs
