-- Statement: worked histories: what some messages make a replica do, act by act. They pin the duties.
use Rattle.std.specs.Prelude.{ℕ, List, [], ◌∷◌, Some, None, false, ◌≡◌, map, length}
use Rattle.std.specs.FinMap as finite
use Rattle.host_types.specs.declared.config.ClientEntry.{ClientEntry}
use Rattle.pbft_model.specs.Duties.{reply_body}
use Rattle.pbft_model.specs.Words.{Configuration, SigningState, Signed, Body, RequestBody, Certificate, ViewChange, NewView, Replica, Client, Reply, as_message}
use Rattle.host_types.specs.declared.key.PublicKey.{PublicKey}
use Rattle.host_types.specs.declared.key.PublicKey.TheVariants.{Lms}
use Rattle.pbft_codec.specs.declared.body.Body.TheVariants as bodies
use Rattle.pbft_codec.specs.declared.body.fetch.Fetch.TheVariants as fetches
use Rattle.pbft_model.specs.Sequential.{Service, Outcome}
use Rattle.pbft_model.specs.Setup.{Setup, fresh, signed_by, signer_after}
use Rattle.pbft_model.specs.Certificates.{Fields}
use Rattle.pbft_model.specs.Core.{Core}
use Rattle.pbft_model.specs.Acts.{Act, Rise, Install, Take, Timeout, Send, Enter, Execute, All, ToClient, after}
use Rattle.pbft_model.specs.Rules.{pre_prepare_of}
use Rattle.pbft_model.specs.Rows.{Reacts}

-- f = 1, k = 2, and a hash that distinguishes nothing from something
abbrev pub toy_hash : List ℕ → List ℕ
toy_hash [] = 0 ∷ []
toy_hash (x ∷ xs) = 1 ∷ []

abbrev pub toy : Setup
toy = record { config = record { f = 1; k = 2; keys = []; clients = [] }; hash = toy_hash }

-- The same with a client, whatever its key is and whatever the replicas' keys are.
abbrev pub the_client : PublicKey → ClientEntry
the_client key = record { id = record { 0 = 100 }; tenant = record { 0 = 0 }; key = key }

abbrev pub serving : Setup
serving = record { config = record { f = 1; k = 2; keys = []; clients = the_client (Lms []) ∷ [] }; hash = toy_hash }

-- the core after acts, the first first
abbrev pub through : Setup → Core → List Act → Core
through c s [] = s
through c s (a ∷ acts) = through c (after c s a) acts

-- and after several such lists
abbrev pub through_all : Setup → Core → List (List Act) → Core
through_all c s [] = s
through_all c s (acts ∷ rest) = through_all c (through c s acts) rest

-- Each begins with what is taken, and the acts behind it are what is due, up to where nothing is.
abbrev pub Works : Setup → ℕ → Core → List (List Act) → Type 0
Works c me s [] = Unit {0}
Works c me s ([] ∷ rest) = ⊥
Works c me s ((first ∷ acts) ∷ rest) = Reacts c me (after c s first) acts (through c s (first ∷ acts)) × Works c me (through c s (first ∷ acts)) rest

-- ---- a request through a backup and through the primary: its operation is none, and that is what is answered

abbrev pub the_request : Signed RequestBody
the_request = record { role = Client; id = 100; body = record { time = 1; op = 7 ∷ [] }; sig = [] }

abbrev pub fields_at : ℕ → ℕ → List ℕ → Fields
fields_at view number digest = record { view = view; number = number; digest = digest }

abbrev pub from_replica : ℕ → Body → Signed Body
from_replica id body = record { role = Replica; id = id; body = body; sig = [] }

abbrev pub a_pre_prepare : ℕ → ℕ → List ℕ → Body
a_pre_prepare view number digest = bodies.PrePrepare (record { view = record { 0 = view }; number = record { 0 = number }; digest = record { 0 = digest } })

abbrev pub a_prepare : ℕ → ℕ → List ℕ → Body
a_prepare view number digest = bodies.Prepare (record { view = record { 0 = view }; number = record { 0 = number }; digest = record { 0 = digest } })

abbrev pub a_commit : ℕ → ℕ → List ℕ → Body
a_commit view number digest = bodies.Commit (record { view = record { 0 = view }; number = record { 0 = number }; digest = record { 0 = digest } })

-- own messages, by the leaf that signs
abbrev pub own : SigningState → ℕ → ℕ → Body → Signed Body
own signer me leaf body = signed_by (λ b. b) (signer_after signer leaf) me body

abbrev pub the_reply : Reply
the_reply = record { client = record { 0 = 100 }; time = 1; number = record { 0 = 1 }; result = 1 ∷ [] }

abbrev pub the_outcome : Outcome
the_outcome = record { number = record { 0 = 1 }; reply = Some the_reply; kept = false }

-- the state after it
abbrev pub after_request : Configuration → Service
after_request config = record {
  config = config;
  number = 1;
  tenants = record { tenant = 0; procedures = []; entries = finite.empty; last_replies = finite.insert finite.empty 100 the_reply } ∷ [];
}

abbrev pub reply_in_view_0 : Body
reply_in_view_0 = reply_body 0 the_reply

abbrev pub through_backup : List ℕ → List ℕ → List (List Act)
through_backup id secret =
    let signer = fresh id secret in
    (Take (as_message bodies.Request the_request) None ∷ [])
    ∷ (Take (from_replica 0 (a_pre_prepare 0 1 (1 ∷ []))) None ∷ Send All (own signer 1 0 (a_prepare 0 1 (1 ∷ []))) ∷ [])
    ∷ (Take (from_replica 2 (a_prepare 0 1 (1 ∷ []))) None ∷ Send All (own signer 1 1 (a_commit 0 1 (1 ∷ []))) ∷ [])
    ∷ (Take (from_replica 0 (a_commit 0 1 (1 ∷ []))) None ∷ [])
    ∷ (Take (from_replica 3 (a_commit 0 1 (1 ∷ []))) None
    ∷ Execute 1 (1 ∷ []) (after_request serving.config) the_outcome
    ∷ Send (ToClient 100) (own signer 1 2 reply_in_view_0)
    ∷ [])
    ∷ []

abbrev pub through_primary : List ℕ → List ℕ → List (List Act)
through_primary id secret =
    let signer = fresh id secret in
    (Take (as_message bodies.Request the_request) None ∷ Send All (own signer 0 0 (a_pre_prepare 0 1 (1 ∷ []))) ∷ [])
    ∷ (Take (from_replica 1 (a_prepare 0 1 (1 ∷ []))) None ∷ [])
    ∷ (Take (from_replica 2 (a_prepare 0 1 (1 ∷ []))) None ∷ Send All (own signer 0 1 (a_commit 0 1 (1 ∷ []))) ∷ [])
    ∷ (Take (from_replica 1 (a_commit 0 1 (1 ∷ []))) None ∷ [])
    ∷ (Take (from_replica 2 (a_commit 0 1 (1 ∷ []))) None
    ∷ Execute 1 (1 ∷ []) (after_request serving.config) the_outcome
    ∷ Send (ToClient 100) (own signer 0 2 reply_in_view_0)
    ∷ [])
    ∷ []

-- ---- a timeout with the last leaf

abbrev pub timing_out : List ℕ → List ℕ → List (List Act)
timing_out id secret =
    let signer = record (fresh id secret) { next_leaf = 31 } in
    (Timeout ∷ Send All (own signer 1 0 (bodies.ViewChange (record { view = record { 0 = 1 }; low = record { 0 = 0 }; checkpoints = []; certificates = [] }))) ∷ []) ∷ []

-- ---- a view change, at the primary of the next view

abbrev pub a_view_change : ℕ → ℕ → Body
a_view_change view low = bodies.ViewChange (record { view = record { 0 = view }; low = record { 0 = low }; checkpoints = []; certificates = [] })

abbrev pub typed : {B : Type 0} → ℕ → B → Signed B
typed id body = record { role = Replica; id = id; body = body; sig = [] }

-- what replica 1 prepared at 2 in view 0: the PrePrepare, and the two Prepares of least signers, its own among them
abbrev pub prepared_at_two : SigningState → Certificate
prepared_at_two signer = record {
  pre_prepare = typed 0 (pre_prepare_of (fields_at 0 2 (1 ∷ [])));
  prepares = signed_by bodies.Prepare signer 1 (record { view = record { 0 = 0 }; number = record { 0 = 2 }; digest = record { 0 = 1 ∷ [] } })
      ∷ typed 2 (record { view = record { 0 = 0 }; number = record { 0 = 2 }; digest = record { 0 = 1 ∷ [] } })
      ∷ [];
}

abbrev pub own_view_change : SigningState → ViewChange
own_view_change signer =
    record { view = record { 0 = 1 }; low = record { 0 = 0 }; checkpoints = []; certificates = prepared_at_two signer ∷ [] }

abbrev pub empty_view_change : ViewChange
empty_view_change = record { view = record { 0 = 1 }; low = record { 0 = 0 }; checkpoints = []; certificates = [] }

-- the null request in the gap, and the certificate's digest carried into view 1
abbrev pub own_new_view : SigningState → NewView
own_new_view signer = record {
  view = record { 0 = 1 };
  changes = signed_by bodies.ViewChange (signer_after signer 2) 1 (own_view_change signer) ∷ typed 2 empty_view_change ∷ typed 3 empty_view_change ∷ [];
  pre_prepares = signed_by bodies.PrePrepare (signer_after signer 3) 1 (pre_prepare_of (fields_at 1 1 (0 ∷ [])))
      ∷ signed_by bodies.PrePrepare (signer_after signer 4) 1 (pre_prepare_of (fields_at 1 2 (1 ∷ [])))
      ∷ [];
}

abbrev pub changing_view : List ℕ → List ℕ → List (List Act)
changing_view id secret =
    let signer = fresh id secret in
    (Take (as_message bodies.Request the_request) None ∷ [])
    ∷ (Take (from_replica 0 (a_pre_prepare 0 2 (1 ∷ []))) None ∷ Send All (own signer 1 0 (a_prepare 0 2 (1 ∷ []))) ∷ [])
    ∷ (Take (from_replica 2 (a_prepare 0 2 (1 ∷ []))) None ∷ Send All (own signer 1 1 (a_commit 0 2 (1 ∷ []))) ∷ [])
    ∷ (Take (from_replica 3 (a_prepare 0 2 (1 ∷ []))) None ∷ [])
    ∷ (Timeout ∷ Send All (own signer 1 2 (bodies.ViewChange (own_view_change signer))) ∷ [])
    ∷ (Take (from_replica 2 (a_view_change 1 0)) None ∷ [])
    ∷ (Take (from_replica 3 (a_view_change 1 0)) None ∷ Send All (own signer 1 5 (bodies.NewView (own_new_view signer))) ∷ [])
    ∷ (Take (from_replica 2 (a_prepare 1 1 (0 ∷ []))) None ∷ [])
    ∷ (Take (from_replica 3 (a_prepare 1 1 (0 ∷ []))) None ∷ Send All (own signer 1 6 (a_commit 1 1 (0 ∷ []))) ∷ [])
    ∷ []

-- ---- the same view change, at a backup that lagged: it joins two others, enters by the NewView, prepares the null request
-- and asks for the other
abbrev pub others_new_view : NewView
others_new_view = record {
  view = record { 0 = 1 };
  changes = typed 1 (record {
    view = record { 0 = 1 };
    low = record { 0 = 0 };
    checkpoints = [];
    certificates = record {
      pre_prepare = typed 0 (pre_prepare_of (fields_at 0 2 (1 ∷ [])));
      prepares = typed 1 (record { view = record { 0 = 0 }; number = record { 0 = 2 }; digest = record { 0 = 1 ∷ [] } })
          ∷ typed 2 (record { view = record { 0 = 0 }; number = record { 0 = 2 }; digest = record { 0 = 1 ∷ [] } })
          ∷ [];
    } ∷ [];
  })
      ∷ typed 2 empty_view_change ∷ typed 3 empty_view_change ∷ [];
  pre_prepares = typed 1 (pre_prepare_of (fields_at 1 1 (0 ∷ []))) ∷ typed 1 (pre_prepare_of (fields_at 1 2 (1 ∷ []))) ∷ [];
}

abbrev pub joining_view : List ℕ → List ℕ → List (List Act)
joining_view id secret =
    let signer = fresh id secret in
    (Take (from_replica 1 (a_view_change 1 0)) None ∷ [])
    ∷ (Take (from_replica 2 (a_view_change 1 0)) None ∷ Send All (own signer 3 0 (a_view_change 1 0)) ∷ [])
    ∷ (Take (from_replica 1 (bodies.NewView others_new_view)) None
    ∷ Enter (typed 1 others_new_view)
    ∷ Send All (own signer 3 1 (a_prepare 1 1 (0 ∷ [])))
    ∷ Send All (own signer 3 2 (bodies.Fetch (fetches.Request (record { 0 = 1 ∷ [] }))))
    ∷ [])
    ∷ (Take (as_message bodies.Request the_request) None ∷ Send All (own signer 3 3 (a_prepare 1 2 (1 ∷ []))) ∷ [])
    ∷ []

-- ---- a checkpoint at a backup: two null requests are executed, the number 2 becomes stable, and all up to it is discarded

abbrev pub a_checkpoint : ℕ → List ℕ → Body
a_checkpoint number digest = bodies.Checkpoint (record { number = record { 0 = number }; digest = record { 0 = digest } })

-- the state after so many null requests
abbrev pub after_null : ℕ → Service
after_null number = record { config = toy.config; number = number; tenants = [] }

abbrev pub no_reply : ℕ → Outcome
no_reply number = record { number = record { 0 = number }; reply = None; kept = false }

abbrev pub reaching_a_checkpoint : List ℕ → List ℕ → List (List Act)
reaching_a_checkpoint id secret =
    let signer = fresh id secret in
    (Take (from_replica 0 (a_pre_prepare 0 1 (0 ∷ []))) None ∷ Send All (own signer 3 0 (a_prepare 0 1 (0 ∷ []))) ∷ [])
    ∷ (Take (from_replica 1 (a_prepare 0 1 (0 ∷ []))) None ∷ Send All (own signer 3 1 (a_commit 0 1 (0 ∷ []))) ∷ [])
    ∷ (Take (from_replica 0 (a_commit 0 1 (0 ∷ []))) None ∷ [])
    ∷ (Take (from_replica 1 (a_commit 0 1 (0 ∷ []))) None ∷ Execute 1 (0 ∷ []) (after_null 1) (no_reply 1) ∷ [])
    ∷ (Take (from_replica 0 (a_pre_prepare 0 2 (0 ∷ []))) None ∷ Send All (own signer 3 2 (a_prepare 0 2 (0 ∷ []))) ∷ [])
    ∷ (Take (from_replica 1 (a_prepare 0 2 (0 ∷ []))) None ∷ Send All (own signer 3 3 (a_commit 0 2 (0 ∷ []))) ∷ [])
    ∷ (Take (from_replica 0 (a_commit 0 2 (0 ∷ []))) None ∷ [])
    ∷ (Take (from_replica 1 (a_commit 0 2 (0 ∷ []))) None
    ∷ Execute 2 (0 ∷ []) (after_null 2) (no_reply 2)
    ∷ Send All (own signer 3 4 (a_checkpoint 2 (1 ∷ [])))
    ∷ [])
    ∷ (Take (from_replica 0 (a_checkpoint 2 (1 ∷ []))) None ∷ [])
    ∷ (Take (from_replica 1 (a_checkpoint 2 (1 ∷ []))) None ∷ Rise 2 (1 ∷ []) ∷ [])
    ∷ []

-- what is left after it: the proof of the low mark, and nothing recorded
pub record IsDiscarded (s : Core) : Type 0 where
  pub low : s.low ≡ 2
  pub proof : map (λ m. m.id) s.proof ≡ 0 ∷ 1 ∷ 3 ∷ []
  pub pre_prepares : s.pre_prepares ≡ []
  pub prepares : s.prepares ≡ []
  pub commits : s.commits ≡ []
  pub checkpoints : s.checkpoints ≡ []
  pub snapshots : length s.snapshots ≡ 1

-- ---- a snapshot is fetched and installed by a replica that lagged; no Checkpoint is signed for it

abbrev pub installing : List ℕ → List ℕ → Service → List (List Act)
installing id secret state =
    let signer = fresh id secret in
    (Take (from_replica 0 (a_checkpoint 2 (1 ∷ []))) None ∷ [])
    ∷ (Take (from_replica 1 (a_checkpoint 2 (1 ∷ []))) None ∷ [])
    ∷ (Take (from_replica 2 (a_checkpoint 2 (1 ∷ []))) None ∷ Send All (own signer 3 0 (bodies.Fetch (fetches.State (record { 0 = 2 })))) ∷ [])
    ∷ (Take (from_replica 1 (bodies.Snapshot (record { number = record { 0 = 2 }; state = 5 ∷ [] }))) (Some state) ∷ Install 2 (5 ∷ []) state ∷ [])
    ∷ []
