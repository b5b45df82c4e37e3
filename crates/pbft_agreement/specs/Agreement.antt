-- Statement: agreement: one list of requests is behind all that correct replicas did. Nobody forges, and among the
-- strings that were hashed no two have one digest.
use Rattle.std.specs.Prelude.{◌≡◌, ◌⊎◌, ℕ, zero, suc, ◌-◌, ◌≤◌, ◌++◌, max, if◌then◌else◌, List, [], ◌∷◌, length, map, take, slice_get, Option, Some, None}
use Rattle.std.specs.List.{AllByRecursion}
use Rattle.std.specs.Option.{option_map}
use Rattle.pbft_model.specs.Words.{Signed, Body, RequestBody, ReplyBody, Snapshot, Request, IsConfiguration, IsAuthentic, as_message, signed_text}
use Rattle.pbft_codec.specs.declared.body.Body.TheVariants as bodies
use Rattle.pbft_model.specs.Sequential.{Service, Outcome, Serves, encoded, last_reply_of}
use Rattle.pbft_model.specs.Setup.{Setup, replicas, null_digest, digest_of, request_in}
use Rattle.pbft_model.specs.Core.{Core}
use Rattle.pbft_model.specs.Acts.{Act, Send, Destination}
use Rattle.pbft_model.specs.Rules.{reply_in}
use Rattle.pbft_model.specs.Histories.{IsIn, HasTaken, IsEarlier, core_after}
use Rattle.pbft_model.specs.Families.{Family, IsCorrect, IsUnforged, HasExecuted}

-- ---- honest families

-- A correct replica took the message.
abbrev pub IsTaken : Setup → Family → Signed Body → Type 0
IsTaken c family m = (i : ℕ) × IsCorrect c family.faulty i × HasTaken m (family.acts i)

-- The strings that correct replicas hash: the null request's, which is empty; the signed bytes of the requests and
-- the bytes of the snapshots that they took; and those of the states that they executed to.
abbrev pub IsHashed : Setup → Family → List ℕ → Type 0
IsHashed c family text =
    (text ≡ [])
    ⊎ (((m : Signed RequestBody) × IsTaken c family (as_message bodies.Request m) × (text ≡ signed_text (as_message bodies.Request m)))
    ⊎ (((m : Signed Snapshot) × IsTaken c family (as_message bodies.Snapshot m) × (text ≡ m.body.state))
    ⊎ ((i number : ℕ) × (digest : List ℕ) × (w : HasExecuted c family i number digest) × (text ≡ encoded w.service))))

-- At most f replicas are faulty, nobody forges, and among the strings that were hashed equal digests mean equal
-- strings.
pub record IsHonest (c : Setup) (family : Family) : Type 0 where
  pub configuration : IsConfiguration c.config
  pub unforged : IsUnforged c family
  pub apart : (x y : List ℕ) → IsHashed c family x → IsHashed c family y → c.hash x ≡ c.hash y → x ≡ y

-- ---- the list of requests

-- the digest of an entry: a client's request, or the null request
abbrev pub entry_digest : Setup → Option (Signed RequestBody) → List ℕ
entry_digest c None = null_digest c
entry_digest c (Some m) = digest_of c m

-- An entry is null, or a request that verifies under a listed client's key.
abbrev pub IsAsked : Setup → Option (Signed RequestBody) → Type 0
IsAsked c None = Unit {0}
IsAsked c (Some m) = IsAuthentic c.config (as_message bodies.Request m)

abbrev pub requests_in : List (Option (Signed RequestBody)) → List (Option Request)
requests_in entries = map (option_map request_in) entries

-- The sequential service, on the first so many entries, comes to this state by these outcomes.
abbrev pub ServesFirst : Setup → List (Option (Signed RequestBody)) → ℕ → Service → List Outcome → Type 0
ServesFirst c entries number state outcomes = Serves c.config (requests_in (take number entries)) state outcomes

-- the number that a replica reached, if it is correct
abbrev pub reached_by : Setup → Family → ℕ → ℕ
reached_by c family i = if family.faulty i then 0 else (core_after c (family.signer i) (family.acts i)).executed

-- the greatest number that one of the first n replicas reached
abbrev pub greatest_reached : Setup → Family → ℕ → ℕ
greatest_reached c family zero = 0
greatest_reached c family (suc n) = max (reached_by c family n) (greatest_reached c family n)

-- ---- what the list accounts for

-- A replica's state is the sequential service's on the entries up to the number that it has reached.
pub record HoldsState (c : Setup) (entries : List (Option (Signed RequestBody))) (s : Core) : Type 0 where
  pub within : s.executed ≤ length entries
  pub outcomes : List Outcome
  pub serves : ServesFirst c entries s.executed s.service outcomes

-- An execution is that of the entry at its number: it has its digest, and its outcome is the sequential service's.
pub record IsServed (c : Setup) (entries : List (Option (Signed RequestBody))) (number : ℕ) (digest : List ℕ) (state : Service) (outcome : Outcome) : Type 0 where
  pub not_zero : 1 ≤ number
  pub entry : Option (Signed RequestBody)
  pub is_entry : slice_get entries (number - 1) ≡ Some entry
  pub digest_is : digest ≡ entry_digest c entry
  pub earlier : List Outcome
  pub serves : ServesFirst c entries number state (earlier ++ outcome ∷ [])

-- A reply is the last one to its client after this number of entries.
pub record IsLastReplyAt (c : Setup) (entries : List (Option (Signed RequestBody))) (number : ℕ) (b : ReplyBody) : Type 0 where
  pub not_zero : 1 ≤ number
  pub within : number ≤ length entries
  pub state : Service
  pub outcomes : List Outcome
  pub serves : ServesFirst c entries number state outcomes
  pub kept : last_reply_of state b.client.0 ≡ Some (reply_in b)

-- One list of requests, as long as the greatest number reached, accounts for every state, every execution and every
-- reply of a correct replica. Its requests were taken by correct replicas.
pub record AgreesOn (c : Setup) (family : Family) (entries : List (Option (Signed RequestBody))) : Type 0 where
  pub as_long : length entries ≡ greatest_reached c family (replicas c.config)
  pub asked : AllByRecursion (IsAsked c) entries
  pub taken : (m : Signed RequestBody) → IsIn (Some m) entries → IsTaken c family (as_message bodies.Request m)
  pub states : (i : ℕ) → IsCorrect c family.faulty i → (acts : List Act) → IsEarlier acts (family.acts i)
      → HoldsState c entries (core_after c (family.signer i) acts)
  pub executed : (i number : ℕ) (digest : List ℕ) (w : HasExecuted c family i number digest) → IsServed c entries number digest w.service w.outcome
  pub replies : (i : ℕ) (to : Destination) (m : Signed Body) (b : ReplyBody) (early : List Act) → IsCorrect c family.faulty i
      → IsEarlier (Send to m ∷ early) (family.acts i) → m.body ≡ bodies.Reply b → IsLastReplyAt c entries (core_after c (family.signer i) early).executed b

abbrev pub AgreesByNumber : Setup → Family → Type 0
AgreesByNumber c family = (entries : List (Option (Signed RequestBody))) × AgreesOn c family entries
