-- Internal: what the parts do that make, keep and take messages.
use Rattle.std.specs.Prelude.{◌≡◌, ℕ, List, [], Option, Some, None, Result, Ok, Err, find, slice_get, take, ◌∷◌, true}
use Rattle.host_types.specs.Configuration.{Configuration}
use Rattle.host_types.specs.declared.ClientId.{ClientId}
use Rattle.host_types.specs.declared.config.ClientEntry.{ClientEntry}
use Rattle.lms_tree.specs.SigningState.{SigningState}
use Rattle.client_session.specs.Sessions.{SessionState, next_request, session_behind}
use Rattle.seal.specs.Opening.{CheckedMessage}
use Rattle.seal.specs.declared.fault.SealFault.{SealFault}
use Rattle.script_text.specs.declared.script.Filter.{Filter}
use Rattle.script_text.specs.declared.script.Forgery.{Forgery}
use Rattle.pbft_codec.specs.Encoding.{encoding}
use Rattle.pbft_codec.specs.declared.body.Body.{Body}
use Rattle.world_queue.specs.Letters.{LetterFacts, is_meant, meant_count}
use Rattle.world_queue.specs.declared.forging.Forger.{Forger}
use Rattle.world_queue.specs.Parties.{after_asking, after_forging, after_offer, at_first, forged_message, is_forger, is_of, signing_forger, signing_session, text_at}

-- A request is the session's next one.
pub record IsRequestOf (session : SessionState) (op : List ℕ) (made : Option CheckedMessage) : Type 0 where
  pub message : CheckedMessage
  pub is : made ≡ Some message
  pub next : message.message ≡ next_request session op

abbrev pub RequestsBy : Option SessionState → List SessionState → ClientId → List ℕ → List SessionState → Option CheckedMessage → Type 0
RequestsBy None old client op new made = (made ≡ None) × (new ≡ old)
RequestsBy (Some session) old client op new made = IsRequestOf session op made × (new ≡ at_first (is_of client) (after_asking op) old)

-- A client asks for an operation, unless it can't sign.
abbrev pub Requests : List SessionState → ClientId → List ℕ → List SessionState → Option CheckedMessage → Type 0
Requests old client op new made = RequestsBy (signing_session old client) old client op new made

-- A client is offered what bytes open to.
abbrev pub Offers : List SessionState → ClientId → Result CheckedMessage SealFault → List ℕ → List SessionState → Type 0
Offers old client (Err fault) text new = (text ≡ []) × (new ≡ old)
Offers old client (Ok m) text new = (text ≡ text_at (find (is_of client) old) m.message) × (new ≡ after_offer old client m.message)

abbrev pub ForgesBy : Option Forger → List Forger → Forgery → Body → List Forger → Option (List ℕ) → Type 0
ForgesBy None old f body new bytes = (bytes ≡ None) × (new ≡ old)
ForgesBy (Some g) old f body new bytes = (bytes ≡ Some (encoding (forged_message g.signer f body))) × (new ≡ at_first (is_forger f.from) after_forging old)

-- A faulty replica signs a message, unless it can't sign.
abbrev pub Forges : List Forger → Forgery → Body → List Forger → Option (List ℕ) → Type 0
Forges old f body new bytes = ForgesBy (signing_forger old f.from) old f body new bytes

-- The letter at an index is meant, and so many before it are.
pub record IsPlace (f : Filter) (passed : ℕ) (ls : List LetterFacts) (index : ℕ) : Type 0 where
  pub letter : LetterFacts
  pub is_at : slice_get ls index ≡ Some letter
  pub is_meant_one : is_meant f letter ≡ true
  pub passed_is : meant_count f (take index ls) ≡ passed

-- a client's session before its first request, which signs by this signer
abbrev pub fresh_session : Configuration → ClientEntry → SigningState → SessionState
fresh_session c e s = session_behind c e.id s 0

abbrev pub fresh_sessions : Configuration → List ClientEntry → List SigningState → List SessionState
fresh_sessions c [] ss = []
fresh_sessions c (e ∷ es) [] = []
fresh_sessions c (e ∷ es) (s ∷ ss) = fresh_session c e s ∷ fresh_sessions c es ss
