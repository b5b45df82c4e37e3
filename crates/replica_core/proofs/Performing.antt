-- To execute: a step of the service, and what it leaves to send.
use Rattle.std.proofs.Common.{◌≡◌, ℕ, ◌+◌, ◌%◌, ◌<◌, ◌≤◌, ◌^◌, Bool, cond, List, [], ◌∷◌, ◌++◌, length, Option, Some, None, refl, sym, ap, subst, ◌∙◌, arith}
use Rattle.std.specs.Prelude.{IfSome, ◌==◌}
use Rattle.std.proofs.lemmas.List.{append-nil}
use Rattle.host_types.specs.declared.request.Request.{Request}
use Rattle.service_model.proofs.Bounds.{reply_is_last, step_bounded}
use Rattle.service_model.proofs.Injective.{last_bounded}
use Rattle.service_model.specs.Bounded.{IsBounded, IsBoundedReply}
use Rattle.pbft_model.specs.Acts.{acted}
use Rattle.pbft_model.specs.Core.{request_of}
use Rattle.pbft_model.specs.Rows as rows
use Rattle.pbft_model.specs.Rows.{result_of}
use Rattle.pbft_model.specs.Sequential.{IsSound, IsStep, Outcome, Service, encoded}
use Rattle.pbft_model.specs.Tables.{number_key, with_entry}
use Rattle.pbft_model.specs.Words.{Reply}
use Rattle.pbft_model.specs.Setup.{setup_of}
use Rattle.replica_core.specs.Doing.{Executes, reported}
use Rattle.replica_core.specs.Replicas.{KeptReplica}

-- a step keeps the configuration and raises the number by one
pub step_keeps : (s : Service) (request : Option Request) (t : Service) (o : Outcome) → IsStep s request t o → (t.config ≡ s.config) × (t.number ≡ s.number + 1)
step_keeps s None t o h = (ap (λ (x : Service). x.config) h.0, ap (λ (x : Service). x.number) h.0)
step_keeps s (Some request) t o h = (ap (λ (x : Service). x.config) h.state_is, ap (λ (x : Service). x.number) h.state_is)

-- ---- the reply has room in a message

abbrev IsRoomy : Reply → Type 0
IsRoomy r = (length r.result ≤ 265) × (r.number.0 < 2 ^ 48)

roomy : (t : Service) (client : ℕ) (r : Reply) → t.number < 2 ^ 48 → IsBoundedReply t.number client r → IsRoomy r
roomy t client r low is = (is.result_in_range, omega (arith, low, is.not_later))

pub step_owed_of : (s : Service) (request : Option Request) (t : Service) (o : Outcome) → IsBounded s → s.number + 1 < 2 ^ 48 → IfSome request (λ r. (r.client.0 < 2 ^ 32) × (r.time < 2 ^ 64))
    → IsStep s request t o → IfSome o.reply (λ r. (length r.result ≤ 265) × (r.number.0 < 2 ^ 48))
step_owed_of s None t o bounded low range h = subst (λ (x : Option Reply). IfSome x IsRoomy) (sym (ap (λ (x : Outcome). x.reply) h.1)) tt
step_owed_of s (Some request) t o before low range h = split o.reply refl where
  split : (x : Option Reply) → o.reply ≡ x → IfSome x IsRoomy
  split None e = tt
  split (Some r) e =
      let bounded = step_bounded s (Some request) t o before low range h in
      roomy t request.client.0 r bounded.number_in_range
      (subst (λ (x : Option Reply). IfSome x (IsBoundedReply t.number request.client.0)) (reply_is_last s request t o r h e) (last_bounded t bounded request.client.0))

abbrev IsInRange : Request → Type 0
IsInRange r = (r.client.0 < 2 ^ 32) × (r.time < 2 ^ 64)

pub owes : (k : KeptReplica) (number : ℕ) (request taken : Option Request) (t : Service) (o : Outcome) → k.core.executed ≡ k.core.service.number → number ≡ k.core.executed + 1 → number < 2 ^ 48
    → IsSound k.core.service → taken ≡ request → IfSome request (λ r. (r.client.0 < 2 ^ 32) × (r.time < 2 ^ 64)) → IsStep k.core.service taken t o
    → IfSome o.reply (λ r. (length r.result ≤ 265) × (r.number.0 < 2 ^ 48))
owes k number request taken t o here next low sound same range step =
    step_owed_of k.core.service taken t o sound.bounded (omega (arith, here, next, low)) (subst (λ (x : Option Request). IfSome x IsInRange) (sym same) range) step

-- ---- the act

module _ (k : KeptReplica) (number : ℕ) (digest : List ℕ) (s : Service) (o : Outcome) where
  abbrev taken_at : ℕ → KeptReplica
  taken_at n = record k { core = record k.core { service = s; executed = n } }

  executed : (request : Option Request) (t : KeptReplica) → IsStep k.core.service request s o → request ≡ request_of (setup_of k.config) k.core digest
      → t ≡ reported (taken_at number) number digest o.reply → Executes k number digest t
  executed request t step is all = record {
    service = s;
    outcome = o;
    step = subst (λ (r : Option Request). IsStep k.core.service r s o) is step;
    does = record {
      config = ap (λ (x : KeptReplica). x.config) all;
      me = ap (λ (x : KeptReplica). x.me) all;
      core = ap (λ (x : KeptReplica). acted x.core) all;
      outputs = ap (λ (x : KeptReplica). x.outputs) all ∙ sym (append-nil k.outputs);
      done = ap (λ (x : KeptReplica). x.done) all;
      leaves = let same = ap (λ (x : KeptReplica). x.leaves) all in omega (arith, same);
    };
  }

  pub executes : (request : Option Request) (k1 t : KeptReplica) → number ≡ k.core.executed + 1 → k.core.executed ≡ k.core.service.number
      → IsStep k.core.service request s o → request ≡ request_of (setup_of k.config) k.core digest → k1 ≡ taken_at s.number → t ≡ reported k1 number digest o.reply → Executes k number digest t
  executes request k1 t next at step is e1 e2 =
      let raised = (step_keeps k.core.service request s o step).1 in
      let here : s.number ≡ number = omega (arith, raised, next, at) in
      executed request t step is (e2 ∙ ap (λ (x : KeptReplica). reported x number digest o.reply) (e1 ∙ ap taken_at here))

-- what is noted of an execution
module _ (k : KeptReplica) (number : ℕ) (digest : List ℕ) (reply : Option Reply) where
  abbrev noting : List ℕ → KeptReplica
  noting result = record k { done = k.done ++ rows.Executed number digest result ∷ [] }

  abbrev keeping : KeptReplica → KeptReplica
  keeping x = record x { core = record x.core { snapshots = cond (number % x.config.k == 0) (with_entry x.core.snapshots (number_key number) (encoded x.core.service)) x.core.snapshots } }

  abbrev owing : Bool → KeptReplica → KeptReplica
  owing multiple x = record x { core = record x.core { reply_due = reply; checkpoint_due = multiple } }

  pub reports : (k1 k2 t : KeptReplica) (result : List ℕ) (multiple : Bool) → result ≡ result_of reply → k1 ≡ noting result → multiple ≡ (number % k1.config.k == 0) → k2 ≡ keeping k1 → t ≡ owing multiple k2
      → t ≡ reported k number digest reply
  reports k1 k2 t result multiple r e1 m e2 e3 =
      let one : k1 ≡ noting (result_of reply) = e1 ∙ ap noting r in
      e3 ∙ ap (λ (b : Bool). owing b k2) (m ∙ ap (λ (x : KeptReplica). number % x.config.k == 0) one) ∙ ap (owing (number % k.config.k == 0)) (e2 ∙ ap keeping one)
