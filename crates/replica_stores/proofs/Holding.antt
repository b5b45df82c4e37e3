-- The requests that a list holds, with their digests.
use Rattle.std.proofs.Common.{◌≡◌, ℕ, Bool, true, false, cond, ◌||◌, List, [], ◌∷◌, ◌++◌, filter, Option, Some, None, refl, sym, ap, ◌∙◌}
use Rattle.std.specs.Prelude.{bytes_eq, find, is_some}
use Rattle.std.specs.Option.{option_map}
use Rattle.sha2.specs.Sha256.{sha256}
use Rattle.host_types.specs.Configuration.{Configuration}
use Rattle.host_types.specs.declared.Digest.{Digest}
use Rattle.pbft_codec.specs.declared.body.Body.{Body}
use Rattle.pbft_codec.specs.declared.body.Body.TheVariants as bodies
use Rattle.pbft_codec.specs.Encoding.{signed_text}
use Rattle.pbft_model.specs.Acts.{add_request, still_held, with_body}
use Rattle.pbft_model.specs.Core.{held_with, is_named, is_new, names}
use Rattle.pbft_model.specs.Sequential.{Service}
use Rattle.pbft_model.specs.Setup.{digest_of, setup_of}
use Rattle.pbft_model.specs.Words.{PrePrepare, RequestBody, Signed, as_message}
use Rattle.seal.specs.Lists.{under}
use Rattle.seal.specs.Opening.{CheckedMessage}
use Rattle.replica_stores.specs.Requests.{AreHeld, IsHeld, as_request, request_body, requests_in}
use Rattle.replica_stores.specs.declared.requests.Held.{Held}
use Rattle.replica_stores.proofs.Lists.{all_implied, filter_alike, filter_mapped, find_alike, find_in, find_mapped}

abbrev pub request_of : Held → Signed RequestBody
request_of h = as_request h.message

abbrev pub checked_under : Configuration → Signed RequestBody → CheckedMessage
checked_under c m = under c (as_message bodies.Request m)

-- two tests that agree on what is held
pub first_found : (c : Configuration) (hs : List Held) (p : Signed RequestBody → Bool) (q : Held → Bool) → AreHeld c hs → ((h : Held) → IsHeld c h → p (request_of h) ≡ q h)
    → find p (requests_in hs) ≡ option_map request_of (find q hs)
first_found c hs p q all alike =
    find_mapped p request_of hs ∙ ap (option_map request_of) (find_alike (λ h. p (request_of h)) q hs (all_implied (IsHeld c) (λ h. p (request_of h) ≡ q h) hs alike all))

pub held_found : (c : Configuration) (hs : List Held) (digest : List ℕ) → AreHeld c hs → held_with (setup_of c) (requests_in hs) digest ≡ option_map request_of (find (λ h. bytes_eq h.digest.0 digest) hs)
held_found c hs digest all = first_found c hs (is_named (setup_of c) digest) (λ h. bytes_eq h.digest.0 digest) all (λ h is. ap (λ d. bytes_eq d digest) (sym is.digest))

is_message : (c : Configuration) (h : Held) → IsHeld c h → h.message ≡ checked_under c (request_of h)
is_message c h is = λ i. record { config = is.config i; message = record { role = h.message.message.role; id = h.message.message.id; body = is.is i; sig = h.message.message.sig } }

pub find_some : (c : Configuration) (hs : List Held) (digest : List ℕ) (h : Held) → AreHeld c hs → Some h ≡ find (λ h. bytes_eq h.digest.0 digest) hs
    → Some h.message ≡ option_map (checked_under c) (held_with (setup_of c) (requests_in hs) digest)
find_some c hs digest h all e =
    ap (λ (m : CheckedMessage). Some m) (is_message c h (find_in (IsHeld c) (λ h. bytes_eq h.digest.0 digest) hs h all e))
    ∙ ap (λ o. option_map (checked_under c) (option_map request_of o)) e ∙ ap (option_map (checked_under c)) (sym (held_found c hs digest all))

pub find_none : (c : Configuration) (hs : List Held) (digest : List ℕ) → AreHeld c hs → None ≡ find (λ h. bytes_eq h.digest.0 digest) hs
    → None ≡ option_map (checked_under c) (held_with (setup_of c) (requests_in hs) digest)
find_none c hs digest all e =
    ap (λ o. option_map (checked_under c) (option_map request_of o)) e ∙ ap (option_map (checked_under c)) (sym (held_found c hs digest all))

-- ---- a request is added

pub digest_is : (c : Configuration) (m : CheckedMessage) (b : RequestBody) (digest : List ℕ) → m.message.body ≡ bodies.Request b → digest ≡ sha256 (signed_text m.message) → digest ≡ digest_of (setup_of c) (with_body m.message b)
digest_is c m b digest is e = e ∙ (λ i. sha256 (signed_text (record { role = m.message.role; id = m.message.id; body = is i; sig = m.message.sig })))

pub request_is : (m : CheckedMessage) (b : RequestBody) → m.message.body ≡ bodies.Request b → as_request m ≡ with_body m.message b
request_is m b is = ap (λ (x : Body). with_body m.message (request_body x)) is

pub held_new : (c : Configuration) (m : CheckedMessage) (b : RequestBody) (digest : Digest) → m.config ≡ c → m.message.body ≡ bodies.Request b → digest.0 ≡ sha256 (signed_text m.message) → IsHeld c (record { digest = digest; message = m })
held_new c m b digest at is e = record {
  config = at;
  is = is ∙ sym (ap (λ (x : Body). bodies.Request (request_body x)) is);
  digest = digest_is c m b digest.0 is e ∙ ap (digest_of (setup_of c)) (sym (request_is m b is));
}

seen : (c : Configuration) (o : Option (Signed RequestBody)) → is_some (option_map (checked_under c) o) ≡ is_some o
seen c None = refl
seen c (Some m) = refl

pub add_new : (c : Configuration) (held : List (Signed RequestBody)) (m : Signed RequestBody) (digest : List ℕ) → digest ≡ digest_of (setup_of c) m → is_some (option_map (checked_under c) (held_with (setup_of c) held digest)) ≡ false
    → held ++ m ∷ [] ≡ add_request (setup_of c) m held
add_new c held m digest e none =
    sym (ap (λ b. cond b held (held ++ m ∷ [])) (ap (λ d. is_some (held_with (setup_of c) held d)) (sym e) ∙ sym (seen c (held_with (setup_of c) held digest)) ∙ none))

pub add_again : (c : Configuration) (held : List (Signed RequestBody)) (m : Signed RequestBody) (digest : List ℕ) → digest ≡ digest_of (setup_of c) m → is_some (option_map (checked_under c) (held_with (setup_of c) held digest)) ≡ true
    → held ≡ add_request (setup_of c) m held
add_again c held m digest e some =
    sym (ap (λ b. cond b held (held ++ m ∷ [])) (ap (λ d. is_some (held_with (setup_of c) held d)) (sym e) ∙ sym (seen c (held_with (setup_of c) held digest)) ∙ some))

-- ---- what is forgotten, and what is proposed

pub still_found : (c : Configuration) (service : Service) (ms : List (Signed PrePrepare)) (hs : List Held) → AreHeld c hs
    → requests_in (filter (λ h. is_new service (request_of h) || names ms h.digest.0) hs) ≡ still_held (setup_of c) service ms (requests_in hs)
still_found c service ms hs all =
    ap requests_in (sym (filter_alike (λ h. is_new service (request_of h) || names ms (digest_of (setup_of c) (request_of h))) (λ h. is_new service (request_of h) || names ms h.digest.0) hs
    (all_implied (IsHeld c) (λ h. (is_new service (request_of h) || names ms (digest_of (setup_of c) (request_of h))) ≡ (is_new service (request_of h) || names ms h.digest.0)) hs (λ h is. ap (λ d. is_new service (request_of h) || names ms d) (sym is.digest)) all)))
    ∙ sym (filter_mapped (λ m. is_new service m || names ms (digest_of (setup_of c) m)) request_of hs)

abbrev pub digest_as : Configuration → Signed RequestBody → Digest
digest_as c m = record { 0 = digest_of (setup_of c) m }

pub digest_some : (c : Configuration) (hs : List Held) (p : Signed RequestBody → Bool) (q : Held → Bool) (h : Held) → AreHeld c hs → ((h : Held) → IsHeld c h → p (request_of h) ≡ q h) → Some h ≡ find q hs
    → Some h.digest ≡ option_map (digest_as c) (find p (requests_in hs))
digest_some c hs p q h all alike e =
    (λ i. Some (record { 0 = (find_in (IsHeld c) q hs h all e).digest i })) ∙ ap (λ o. option_map (digest_as c) (option_map request_of o)) e ∙ ap (option_map (digest_as c)) (sym (first_found c hs p q all alike))

pub digest_none : (c : Configuration) (hs : List Held) (p : Signed RequestBody → Bool) (q : Held → Bool) → AreHeld c hs → ((h : Held) → IsHeld c h → p (request_of h) ≡ q h) → None ≡ find q hs
    → None ≡ option_map (digest_as c) (find p (requests_in hs))
digest_none c hs p q all alike e = ap (λ o. option_map (digest_as c) (option_map request_of o)) e ∙ ap (option_map (digest_as c)) (sym (first_found c hs p q all alike))
