-- Statement: what a replica keeps, and what it reads off it (Castro and Liskov, section 4).
use Rattle.std.specs.Prelude.{ℕ, ◌+◌, ◌*◌, ◌==◌, Bool, true, false, ◌&&◌, ◌||◌, not, nat_lt, nat_le, List, [], ◌∷◌, map, filter, find, max, Option, Some, None, is_some, bytes_eq, if◌then◌else◌}
use Rattle.std.specs.List.{list_any}
use Rattle.std.specs.Option.{option_map}
use Rattle.pbft_model.specs.Words.{SigningState, Signed, Body, RequestBody, PrePrepare, Prepare, Commit, Checkpoint, Certificate, ViewChange, Request, Reply}
use Rattle.pbft_model.specs.Sequential.{Service, genesis_of, last_reply_of}
use Rattle.pbft_model.specs.Setup.{Setup, replicas, quorum, primary, span, null_digest, digest_of, request_in, numbers_from, is_least, gathered}
use Rattle.pbft_model.specs.Tables.{Table, at, with_entry, vote_key, checkpoint_key, number_key, entries_in}
use Rattle.pbft_model.specs.Certificates.{checkpointed, Fields, of_pre_prepare, of_prepare, of_commit, is_by, voted, certified, has_quorum}
use Rattle.pbft_model.specs.Validity.{floor_of, greatest_of}

pub record Core : Type 0 where
  pub view : ℕ
  -- active in the view, or changing to it
  pub active : Bool
  -- the ViewChanges that the active view was entered by: its floor follows from them
  pub basis : List (Signed ViewChange)
  -- the low water mark, and the Checkpoints that prove it
  pub low : ℕ
  pub proof : List (Signed Checkpoint)
  -- the last executed number, and the state after it
  pub executed : ℕ
  pub service : Service
  -- what is recorded
  pub pre_prepares : Table (Signed PrePrepare)
  pub prepares : Table (Signed Prepare)
  pub commits : Table (Signed Commit)
  pub checkpoints : Table (Signed Checkpoint)
  pub changes : Table (Signed ViewChange)
  -- the certificates of views that were left, by number
  pub kept : Table Certificate
  -- requests in the order of receipt
  pub held : List (Signed RequestBody)
  -- own proposals of this view above the low mark
  pub proposed : List Fields
  -- the numbers above the low mark for which a Prepare and a Commit of this view were sent
  pub prepared_numbers : List ℕ
  pub committed_numbers : List ℕ
  -- the bytes of states by number
  pub snapshots : Table (List ℕ)
  -- the snapshots that were asked for, and the requests of this view
  pub asked_states : List ℕ
  pub asked_requests : List (List ℕ)
  -- the message just taken, and its reading as a state
  pub taken : Option (Signed Body)
  pub reading : Option Service
  -- nothing was done since it was taken
  pub is_fresh : Bool
  -- a timeout has come, and nothing was done since
  pub timed_out : Bool
  -- what the last execution still has to send
  pub reply_due : Option Reply
  pub checkpoint_due : Bool
  pub signer : SigningState

abbrev pub start_of : Setup → SigningState → Core
start_of c signer = record {
  view = 0;
  active = true;
  basis = [];
  low = 0;
  proof = [];
  executed = 0;
  service = genesis_of c.config;
  pre_prepares = [];
  prepares = [];
  commits = [];
  checkpoints = [];
  changes = [];
  kept = [];
  held = [];
  proposed = [];
  prepared_numbers = [];
  committed_numbers = [];
  snapshots = [];
  asked_states = [];
  asked_requests = [];
  taken = None;
  reading = None;
  is_fresh = false;
  timed_out = false;
  reply_due = None;
  checkpoint_due = false;
  signer = signer;
}

abbrev pub floor_in : Core → ℕ
floor_in s = floor_of s.basis

-- above the low and not above the high water mark
abbrev pub is_inside : Setup → Core → ℕ → Bool
is_inside c s number = nat_lt s.low number && nat_le number (s.low + span c.config)

-- the numbers between the marks
abbrev pub inside : Setup → Core → List ℕ
inside c s = numbers_from (s.low + 1) (span c.config)

-- A vote is recorded if its view is not below the replica's and its number lies between the marks; in the
-- view that the replica is active in also above the floor.
abbrev pub is_admitted : Setup → Core → ℕ → ℕ → Bool
is_admitted c s view number =
    nat_le s.view view
    && (is_inside c s number && not (s.active && (view == s.view && nat_le number (floor_in s))))

-- ---- requests

abbrev pub is_named : Setup → List ℕ → Signed RequestBody → Bool
is_named c digest m = bytes_eq (digest_of c m) digest

-- the held request with this digest
abbrev pub held_with : Setup → List (Signed RequestBody) → List ℕ → Option (Signed RequestBody)
held_with c held digest = find (is_named c digest) held

-- held, or the null request
abbrev pub is_known : Setup → Core → List ℕ → Bool
is_known c s digest = bytes_eq digest (null_digest c) || is_some (held_with c s.held digest)

-- what a digest stands for: nothing for the null request
abbrev pub request_of : Setup → Core → List ℕ → Option Request
request_of c s digest =
    if bytes_eq digest (null_digest c) then None else option_map request_in (held_with c s.held digest)

abbrev pub is_later : Signed RequestBody → Option Reply → Bool
is_later m None = true
is_later m (Some last) = nat_lt last.time m.body.time

-- its time is above that of its client's last reply, or its client has none
abbrev pub is_new : Service → Signed RequestBody → Bool
is_new service m = is_later m (last_reply_of service m.id)

-- some of these PrePrepares names the digest
abbrev pub names : List (Signed PrePrepare) → List ℕ → Bool
names ms digest = list_any (λ m. bytes_eq m.body.digest.0 digest) ms

-- ---- certificates over what is recorded

abbrev pub if_passes : {X : Type 0} → (X → Bool) → Option X → Option X
if_passes test None = None
if_passes test (Some x) = if test x then Some x else None

abbrev pub has_position : ℕ → ℕ → PrePrepare → Bool
has_position view number p = p.view.0 == view && p.number.0 == number

-- the PrePrepare of the view's primary for a number
abbrev pub pre_prepare_at : Setup → Core → ℕ → ℕ → Option (Signed PrePrepare)
pre_prepare_at c s view number =
    if_passes (is_by (primary c.config view) (has_position view number)) (at s.pre_prepares (vote_key number view (primary c.config view)))

abbrev pub is_certified : Setup → Core → Fields → Bool
is_certified c s x = certified c.config (voted of_pre_prepare s.pre_prepares x) (voted of_prepare s.prepares x) x.view

-- Prepared: certified, and the request is held or null (section 4.2).
abbrev pub is_prepared : Setup → Core → Fields → Bool
is_prepared c s x = is_certified c s x && is_known c s x.digest

-- Committed-local: prepared, and Commits of a quorum (section 4.2).
abbrev pub is_committed : Setup → Core → Fields → Bool
is_committed c s x = is_prepared c s x && has_quorum c.config (voted of_commit s.commits x)

-- the PrePrepare of the replica's view with which the number is prepared
abbrev pub prepared_at : Setup → Core → ℕ → Option (Signed PrePrepare)
prepared_at c s number = if_passes (λ m. is_prepared c s (of_pre_prepare m.body)) (pre_prepare_at c s s.view number)

-- a backup whose recorded Prepare has these fields
abbrev pub is_matching : Setup → Core → Fields → ℕ → Bool
is_matching c s x i = not (i == primary c.config x.view) && voted of_prepare s.prepares x i

-- the certificate of a PrePrepare: with the 2f matching Prepares of least signers
abbrev pub certificate_of : Setup → Core → Signed PrePrepare → Certificate
certificate_of c s m = record {
  pre_prepare = m;
  prepares = gathered (is_least (2 * c.config.f) (is_matching c s (of_pre_prepare m.body)))
      (λ i. at s.prepares (vote_key m.body.number.0 m.body.view.0 i)) (replicas c.config);
}

-- the proof that a number is stable: the Checkpoints of a quorum's least signers
abbrev pub proof_of : Setup → Core → ℕ → List ℕ → List (Signed Checkpoint)
proof_of c s number digest =
    gathered (is_least (quorum c.config) (checkpointed s.checkpoints number digest)) (λ i. at s.checkpoints (checkpoint_key number i)) (replicas c.config)

-- ---- leaving a view

abbrev pub with_certificate : Setup → Core → ℕ → Option (Signed PrePrepare) → Table Certificate → Table Certificate
with_certificate c s number None kept = kept
with_certificate c s number (Some m) kept = with_entry kept (number_key number) (certificate_of c s m)

abbrev pub with_certificates : Setup → Core → List ℕ → Table Certificate → Table Certificate
with_certificates c s [] kept = kept
with_certificates c s (number ∷ ns) kept = with_certificate c s number (prepared_at c s number) (with_certificates c s ns kept)

-- The certificates kept as the view is left: for each number that is prepared in it, the one of this view.
abbrev pub kept_on_leaving : Setup → Core → Table Certificate
kept_on_leaving c s = with_certificates c s (inside c s) s.kept

-- ---- proposals

-- the PrePrepares recorded for the replica's view
abbrev pub of_view : ℕ → List (Signed PrePrepare) → List (Signed PrePrepare)
of_view view ms = filter (λ m. m.body.view.0 == view) ms

-- The next number: one above the greatest of the low mark, the floor, and the numbers recorded as PrePrepare
-- in this view; the list of an own NewView counts whole.
abbrev pub next_number : Core → ℕ
next_number s =
    1 + max (max s.low (floor_in s))
    (max (greatest_of (map (λ m. m.body.number.0) (of_view s.view (entries_in s.pre_prepares)))) (greatest_of (map (λ x. x.number) s.proposed)))

-- a PrePrepare of this view names the digest
abbrev pub is_proposed : Core → List ℕ → Bool
is_proposed s digest =
    names (of_view s.view (entries_in s.pre_prepares)) digest || list_any (λ x. bytes_eq x.digest digest) s.proposed
