-- A tenant's steps, case by case.
use Rattle.std.proofs.Common.{◌≡◌, ℕ, ◌<◌, ◌≤◌, Bool, true, false, eqb, List, Option, Some, None, refl, ap, subst, ◌∙◌, arith}
use Rattle.std.specs.FinMap as finite
use Rattle.std.proofs.lemmas.Bool.{lt-ltb, le-ltb, eq-eqb, ne_eqb}
use Rattle.host_types.specs.declared.request.Request.{Request}
use Rattle.host_types.specs.declared.request.Reply.{Reply}
use Rattle.tenant_maps.specs.Entries.{Entries}
use Rattle.service_model.specs.Operations.{Operation, operation_of, Does}
use Rattle.service_model.specs.TenantStates.{Procedure, Replies, TenantState}
use Rattle.service_model.specs.Steps.{reply_to, Executes, IsTenantStep}
use Rattle.service_model.proofs.Matches.{match_true, match_false, match_none, match_some}

pub executed : (number tenant : ℕ) (procedures procedures' : List Procedure) (entries entries' : Entries) (replies replies' : Replies) (request : Request) (op : Operation) (result bytes : List ℕ) (copy : Reply)
    → op ≡ operation_of request.op → bytes ≡ result → Does request.client.0 op procedures entries procedures' entries' result
    → replies' ≡ finite.insert replies request.client.0 (reply_to request number bytes) → copy ≡ reply_to request number bytes
    → Executes number (record { tenant = tenant; procedures = procedures; entries = entries; last_replies = replies }) request
    (record { tenant = tenant; procedures = procedures'; entries = entries'; last_replies = replies' }) (Some copy) false
executed number tenant procedures procedures' entries entries' replies replies' request op result bytes copy is_op is does keeps copies = record {
  procedures = procedures';
  entries = entries';
  result = result;
  does = subst (λ (o : Operation). Does request.client.0 o procedures entries procedures' entries' result) is_op does;
  part_is = ap (λ (k : Replies). let p : TenantState = record { tenant = tenant; procedures = procedures'; entries = entries'; last_replies = k } in p) (keeps ∙ ap (λ (r : List ℕ). finite.insert replies request.client.0 (reply_to request number r)) is);
  reply_is = ap Some (copies ∙ ap (reply_to request number) is);
  is_new = refl;
}

module _ (number : ℕ) (part : TenantState) (request : Request) (after : TenantState) (reply : Option Reply) (kept : Bool) where
  pub step_first : finite.get part.last_replies request.client.0 ≡ None → Executes number part request after reply kept → IsTenantStep number part request after reply kept
  step_first e h = match_none _ _ _ e h

  pub step_older : (last : Reply) → finite.get part.last_replies request.client.0 ≡ Some last → request.time < last.time → after ≡ part → reply ≡ None → kept ≡ false → IsTenantStep number part request after reply kept
  step_older last e lt a r k = match_some _ last _ _ e (match_true _ _ _ (lt-ltb request.time last.time lt) (a, r, k))

  pub step_again : (last : Reply) → finite.get part.last_replies request.client.0 ≡ Some last → request.time ≡ last.time → after ≡ part → reply ≡ Some last → kept ≡ true → IsTenantStep number part request after reply kept
  step_again last e same a r k = match_some _ last _ _ e (match_false _ _ _ (le-ltb request.time last.time (omega arith)) (match_true _ _ _ (eq-eqb request.time last.time same) (a, r, k)))

  pub step_later : (last : Reply) → finite.get part.last_replies request.client.0 ≡ Some last → last.time ≤ request.time → (request.time ≡ last.time → ⊥) → Executes number part request after reply kept → IsTenantStep number part request after reply kept
  step_later last e le apart h = match_some _ last _ _ e (match_false _ _ _ (le-ltb request.time last.time le) (match_false _ _ _ (ne_eqb request.time last.time apart) h))
