-- Layer: what the stores of a replica keep, as the protocol's core keeps it.
use Rattle.std.specs.Prelude.{ℕ, Bool, ◌||◌, List, [], filter, bytes_eq, nat_lt}
use Rattle.std.specs.List.{list_any}
use Rattle.host_types.specs.Configuration.{Configuration}
use Rattle.pbft_codec.specs.declared.body.Body.TheVariants as bodies
use Rattle.pbft_model.specs.Words.{Signed, Body, PrePrepare, RequestBody, ViewChange, Certificate}
use Rattle.pbft_model.specs.Certificates.{Fields}
use Rattle.pbft_model.specs.Core.{names, of_view}
use Rattle.pbft_model.specs.Tables.{Table}

-- What was sent in the view and what was asked for, newest first. A replica's core has the same lists.
pub record KeptSent : Type 0 where
  -- own proposals of this view above the low mark
  pub proposed : List Fields
  -- the numbers above the low mark for which a Prepare and a Commit of this view were sent
  pub prepared : List ℕ
  pub committed : List ℕ
  -- the snapshots that were asked for, and the requests of this view
  pub asked_states : List ℕ
  pub asked_requests : List (List ℕ)

abbrev pub nothing_sent : KeptSent
nothing_sent = record { proposed = []; prepared = []; committed = []; asked_states = []; asked_requests = [] }

-- as the view is left or entered
abbrev pub only_states_asked : KeptSent → KeptSent
only_states_asked s = record { proposed = []; prepared = []; committed = []; asked_states = s.asked_states; asked_requests = [] }

-- as the low mark rises to a number
abbrev pub sent_above : ℕ → KeptSent → KeptSent
sent_above number s = record {
  proposed = filter (λ x. nat_lt number x.number) s.proposed;
  prepared = filter (nat_lt number) s.prepared;
  committed = filter (nat_lt number) s.committed;
  asked_states = filter (nat_lt number) s.asked_states;
  asked_requests = s.asked_requests;
}

-- The ViewChanges that are kept, by view and signer.
pub record KeptChanges : Type 0 where
  pub config : Configuration
  pub changes : Table (Signed ViewChange)

-- The certificates of views that were left, by number.
pub record KeptCertificates : Type 0 where
  pub config : Configuration
  pub kept : Table Certificate

-- Requests in the order of receipt.
pub record KeptRequests : Type 0 where
  pub config : Configuration
  pub held : List (Signed RequestBody)

abbrev pub IsRequest : Body → Type 0
IsRequest (bodies.Request b) = Unit {0}
IsRequest _ = ⊥

-- a PrePrepare of the view or an own proposal names the digest
abbrev pub is_proposed_in : ℕ → List (Signed PrePrepare) → List Fields → List ℕ → Bool
is_proposed_in view ms proposed digest = names (of_view view ms) digest || list_any (λ x. bytes_eq x.digest digest) proposed
