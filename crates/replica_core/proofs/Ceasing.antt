-- What is due comes to an end.
use Rattle.std.proofs.Common.{ℕ, ◌<◌, ◌≤◌, ◌^◌, List, [], ◌∷◌, ◌++◌, refl, sym, subst}
use Rattle.host_types.specs.Configuration.{Configuration, IsConfiguration}
use Rattle.pbft_model.specs.Acts.{Act}
use Rattle.pbft_model.specs.Core.{Core}
use Rattle.pbft_model.specs.Ending.{left_to_do}
use Rattle.pbft_model.specs.Rows.{Follows}
use Rattle.pbft_model.proofs.Events.{low_reached}
use Rattle.pbft_model.proofs.Ending.{less_to_do}
use Rattle.replica_core.specs.Replicas.{KeptReplica}
use Rattle.replica_core.specs.Settling.{Advances, Comes, HaltsAfter, IsAfter, IsHaltedAt, IsReached}
use Rattle.replica_core.specs.declared.halt.Halt.{Halt}
use Rattle.replica_core.proofs.Asking.{allowed, low_number}
use Rattle.replica_core.proofs.Growing.{after_more, continues, joined}
use Rattle.pbft_model.specs.Setup.{setup_of}

-- a replica that was reached continues to one that is
pub still_reached : (k t : KeptReplica) (acts : List Act) → IsReached (setup_of k.config) k.me k.core → IsAfter k acts t → IsReached (setup_of t.config) t.me t.core
still_reached k t acts reached is =
    subst (λ (c : Configuration). IsReached (setup_of c) t.me t.core) (sym is.config)
    (subst (λ (me : ℕ). IsReached (setup_of k.config) me t.core) (sym is.me) (continues (setup_of k.config) k.me acts k.core t.core reached is.follows))

pub one_more : (k t u : KeptReplica) → (acts : List Act) × IsAfter k acts t → Advances t u → (acts : List Act) × IsAfter k acts u
one_more k t u (acts, before) (a, step) = (acts ++ a ∷ [], after_more k t u acts (a ∷ []) before step)

pub less_left : (k u : KeptReplica) → IsConfiguration k.config → IsReached (setup_of k.config) k.me k.core → k.core.view < 2 ^ 32 → Advances k u → left_to_do u.core < left_to_do k.core
less_left k u legal reached view (a, is) =
    subst (λ (x : Core). left_to_do x < left_to_do k.core) (sym is.follows.2)
    (less_to_do (setup_of k.config) k.me k.core a low (low_number (setup_of k.config) k.me k.core legal reached) view (allowed (setup_of k.config) k.me k.core legal reached a is.follows.0) is.follows.0 is.follows.1) where
      low : k.core.low ≤ k.core.executed
      low = subst (λ (x : Core). x.low ≤ x.executed) reached.here (low_reached (setup_of k.config) k.me reached.signer reached.acts reached.history)

-- ---- several acts

pub comes : (k u : KeptReplica) → IsConfiguration k.config → IsReached (setup_of k.config) k.me k.core → k.core.view < 2 ^ 32 → Advances k u → Comes k u
comes k u legal reached view (a, is) = record { acts = a ∷ []; after = is; less = less_left k u legal reached view (a, is) }

pub comes_more : (k t u : KeptReplica) → (acts : List Act) × IsAfter k acts t → Comes t u → (acts : List Act) × IsAfter k acts u
comes_more k t u (acts, before) next = (acts ++ next.acts, after_more k t u acts next.acts before next.after)

pub halts_here : (k : KeptReplica) (halt : Halt) → IsHaltedAt (setup_of k.config) k.me k.core halt → HaltsAfter k halt
halts_here k halt h = record { acts = []; last = k.core; follows = refl; halted = h }

pub halts_later : (k t : KeptReplica) → (acts : List Act) × IsAfter k acts t → (halt : Halt) → HaltsAfter t halt → HaltsAfter k halt
halts_later k t (acts, before) halt h = record {
  acts = acts ++ h.acts;
  last = h.last;
  follows = joined (setup_of k.config) k.me acts h.acts k.core t.core h.last before.follows
      (subst (λ (c : Configuration). Follows (setup_of c) k.me t.core h.acts h.last) before.config (subst (λ (me : ℕ). Follows (setup_of t.config) me t.core h.acts h.last) before.me h.follows));
  halted = subst (λ (c : Configuration). IsHaltedAt (setup_of c) k.me h.last halt) before.config (subst (λ (me : ℕ). IsHaltedAt (setup_of t.config) me h.last halt) before.me h.halted);
}
