-- The worked histories.
use Rattle.std.proofs.Common.{◌≡◌, ℕ, true, List, [], ◌∷◌, Option, Some, None, refl, sym, subst, arith}
use Rattle.std.specs.Prelude.{MatchBool, MatchOption, nat_lt, false, ◌==◌}
use Rattle.std.specs.Ordering.{nat_cmp}
use Rattle.std.specs.Cmp.{nat_cmp_total}
use Rattle.std.specs.FinMap as finite
use Rattle.std.specs.FinMap.{get-empty, get-insert}
use Rattle.host_types.specs.declared.key.PublicKey.{PublicKey}
use Rattle.host_types.specs.declared.key.PublicKey.TheVariants.{Lms}
use Rattle.host_types.specs.declared.request.Reply.{Reply}
use Rattle.service_model.specs.TenantStates.{TenantState, empty_tenant}
use Rattle.service_model.specs.Steps.{Executes, IsTenantStep}
use Rattle.pbft_model.specs.Sequential.{Service, IsStep, genesis_of}
use Rattle.pbft_model.specs.Setup.{request_in, fresh}
use Rattle.pbft_model.specs.Core.{start_of}
use Rattle.pbft_agreement.specs.Worked.{Works, toy, serving, the_client, through_backup, through_primary, after_request, the_request, the_reply, the_outcome, changing_view, reaching_a_checkpoint, installing, after_null, no_reply, through_all, IsDiscarded, joining_view}

-- the request is served: it is its client's first
pub request_serves : (f k : ℕ) (keys : List PublicKey) (key : PublicKey)
    → IsStep (genesis_of (record { f = f; k = k; keys = keys; clients = the_client key ∷ [] })) (Some (request_in the_request))
    (after_request (record { f = f; k = k; keys = keys; clients = the_client key ∷ [] })) the_outcome
request_serves f k keys key = record { part = empty_tenant 0; is_part = refl; changed = changed; step = first_time; state_is = refl; number_is = refl } where
  changed : TenantState
  changed = record { tenant = 0; procedures = []; entries = finite.empty; last_replies = finite.insert finite.empty 100 the_reply }

  Doing : Type 0
  Doing = Executes 1 (empty_tenant 0) (request_in the_request) changed (Some the_reply) false

  first_time : IsTenantStep 1 (empty_tenant 0) (request_in the_request) changed (Some the_reply) false
  first_time = subst (λ (o : Option Reply). MatchOption o Doing (λ last. MatchBool (nat_lt 1 last.time) ((changed ≡ empty_tenant 0) × (Some the_reply ≡ None) × (false ≡ false))
      (MatchBool (1 == last.time) ((changed ≡ empty_tenant 0) × (Some the_reply ≡ Some last) × (false ≡ true)) Doing))) (sym (get-empty nat_cmp 100))
      (record { procedures = []; entries = finite.empty; result = 1 ∷ []; does = (refl, refl, refl); part_is = refl; reply_is = refl; is_new = refl })

pub backup_works : (id secret : List ℕ) → Works serving 1 (start_of serving (fresh id secret)) (through_backup id secret)
backup_works id secret = (
  record { follows = refl; rests = rw get-empty },
  (
    record { follows = (refl, omega arith, refl); rests = refl },
    (
      record { follows = (refl, omega arith, refl); rests = refl },
      (
        record { follows = refl; rests = refl },
        (
          record { follows = ((after_request serving.config, the_outcome, request_serves 1 2 [] (Lms []), refl), omega arith, (refl, omega arith, refl)); rests = refl },
          tt,
        ),
      ),
    ),
  ),
)

pub primary_works : (id secret : List ℕ) → Works serving 0 (start_of serving (fresh id secret)) (through_primary id secret)
primary_works id secret = (
  record { follows = (rw get-empty, omega arith, refl); rests = rw get-empty },
  (
    record { follows = refl; rests = rw get-empty },
    (
      record { follows = (rw get-empty, omega arith, refl); rests = rw get-empty },
      (
        record { follows = refl; rests = rw get-empty },
        (
          record {
            follows = (rw get-empty (after_request serving.config, the_outcome, request_serves 1 2 [] (Lms []), refl), omega arith, (refl, omega arith, refl));
            rests = rw (get-insert nat_cmp_total);
          },
          tt,
        ),
      ),
    ),
  ),
)

pub view_changes : (id secret : List ℕ) → Works toy 1 (start_of toy (fresh id secret)) (changing_view id secret)
view_changes id secret = (
  record { follows = refl; rests = refl },
  (
    record { follows = (refl, omega arith, refl); rests = refl },
    (
      record { follows = (refl, omega arith, refl); rests = refl },
      (
        record { follows = refl; rests = refl },
        (
          record { follows = (refl, omega arith, refl); rests = refl },
          (
            record { follows = refl; rests = refl },
            (
              record { follows = (refl, omega arith, refl); rests = refl },
              (
                record { follows = refl; rests = refl },
                (
                  record { follows = (refl, omega arith, refl); rests = refl },
                  tt,
                ),
              ),
            ),
          ),
        ),
      ),
    ),
  ),
)

pub joins : (id secret : List ℕ) → Works toy 3 (start_of toy (fresh id secret)) (joining_view id secret)
joins id secret = (
  record { follows = refl; rests = refl },
  (
    record { follows = (refl, omega arith, refl); rests = refl },
    (
      record { follows = (refl, omega arith, (refl, omega arith, (refl, omega arith, refl))); rests = refl },
      (
        record { follows = (refl, omega arith, refl); rests = refl },
        tt,
      ),
    ),
  ),
)

pub checkpoints : (id secret : List ℕ) → Works toy 3 (start_of toy (fresh id secret)) (reaching_a_checkpoint id secret)
checkpoints id secret = (
  record { follows = (refl, omega arith, refl); rests = refl },
  (
    record { follows = (refl, omega arith, refl); rests = refl },
    (
      record { follows = refl; rests = refl },
      (
        record { follows = ((after_null 1, no_reply 1, (refl, refl), refl), omega arith, refl); rests = refl },
        (
          record { follows = (refl, omega arith, refl); rests = refl },
          (
            record { follows = (refl, omega arith, refl); rests = refl },
            (
              record { follows = refl; rests = refl },
              (
                record { follows = ((after_null 2, no_reply 2, (refl, refl), refl), omega arith, (refl, omega arith, refl)); rests = refl },
                (
                  record { follows = refl; rests = refl },
                  (
                    record { follows = (refl, omega arith, refl); rests = refl },
                    tt,
                  ),
                ),
              ),
            ),
          ),
        ),
      ),
    ),
  ),
)

pub discards : (id secret : List ℕ) → IsDiscarded (through_all toy (start_of toy (fresh id secret)) (reaching_a_checkpoint id secret))
discards id secret = record { low = refl; proof = refl; pre_prepares = refl; prepares = refl; commits = refl; checkpoints = refl; snapshots = refl }

pub installs : (id secret : List ℕ) (state : Service) → Works toy 3 (start_of toy (fresh id secret)) (installing id secret state)
installs id secret state = (
  record { follows = refl; rests = refl },
  (
    record { follows = refl; rests = refl },
    (
      record { follows = (refl, omega arith, refl); rests = refl },
      (
        record { follows = (refl, omega arith, refl); rests = refl },
        tt,
      ),
    ),
  ),
)
