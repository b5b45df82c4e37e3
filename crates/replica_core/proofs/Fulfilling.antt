-- What it is to do what is due.
use Rattle.std.proofs.Common.{◌≡◌, ℕ, ◌+◌, ◌≤◌, arith, Bool, true, false, ◌&&◌, List, [], ◌∷◌, ◌++◌, Option, Some, None, refl, sym, ap, subst, ◌∙◌}
use Rattle.std.specs.Prelude.{IsSome, OnOk, Result}
use Rattle.std.proofs.lemmas.Bool.{false≢true}
use Rattle.host_types.specs.Configuration.{Configuration}
use Rattle.lms_tree.specs.Keys.{leaf_count}
use Rattle.lms_tree.specs.SigningState.{SigningState}
use Rattle.pbft_codec.specs.declared.body.Body.{Body}
use Rattle.pbft_codec.specs.declared.body.Body.TheVariants as bodies
use Rattle.pbft_model.specs.Words.{Signed, NewView}
use Rattle.pbft_model.specs.Setup.{Setup, setup_of}
use Rattle.pbft_model.specs.Acts.{Enter, acted, entered, is_awaited, with_body}
use Rattle.pbft_model.specs.Core.{Core}
use Rattle.pbft_model.specs.Duties.{Do, Duty, due_enter, enter_by, on_taken, when}
use Rattle.pbft_model.specs.Validity.{is_valid_new_view}
use Rattle.seal.specs.Opening.{CheckedMessage}
use Rattle.replica_core.specs.declared.halt.Halt.{Halt}
use Rattle.replica_core.specs.Doing.{Fulfilled}
use Rattle.replica_core.specs.Replicas.{AreOne, KeptReplica, Parts, kept_in}
use Rattle.pbft_model.specs.Rows.{Fulfils}
use Rattle.replica_core.proofs.Entering.{same_new_view}
use Rattle.replica_stores.proofs.Results.{on_ok}

pub no_more : {X : Type 0} (xs : List X) → xs ≡ xs ++ []
no_more [] = refl
no_more {X} (x ∷ xs) = ap (λ (ys : List X). x ∷ ys) (no_more xs)

-- the leaves that are taken are among those that there are
pub are_taken : (s : SigningState) (left : ℕ) → s.next_leaf + left ≡ leaf_count s → s.next_leaf ≤ leaf_count s
are_taken s left e = omega (arith, e)

-- ---- a NewView is entered

-- the NewView just taken, which is due to be entered
pub record IsDueToEnter (c : Setup) (s : Core) (m : Signed Body) (due : Option Duty) : Type 0 where
  pub entry : NewView
  pub is : m.body ≡ bodies.NewView entry
  pub valid : is_valid_new_view c entry ≡ true
  pub duty : due ≡ Some (Do (Enter (with_body m entry)))

due_by : (c : Setup) (s : Core) (m : Signed Body) (body : Body) → m.body ≡ body → IsSome (enter_by c s m body) → IsDueToEnter c s m (enter_by c s m body)
due_by c s m (bodies.NewView n) e some = parts (is_awaited s n.view.0) (is_valid_new_view c n) refl some where
  parts : (a b : Bool) → is_valid_new_view c n ≡ b → IsSome (when (a && b) (Do (Enter (with_body m n)))) → IsDueToEnter c s m (when (a && b) (Do (Enter (with_body m n))))
  parts true true is here = record { entry = n; is = e; valid = is; duty = refl }
  parts true false is here = absurd (false≢true here)
  parts false b is here = absurd (false≢true here)
due_by c s m _ e some = absurd (false≢true some)

module _ (c : Configuration) (me : ℕ) (p : Parts) (one : AreOne c me p) (k : KeptReplica) (x : CheckedMessage) (e : kept_in c me p ≡ k) (is : p.step.taken ≡ Some x) (some : IsSome (due_enter (setup_of k.config) k.core)) where
  taken_is : k.core.taken ≡ Some x.message
  taken_is = sym (ap (λ (t : KeptReplica). t.core.taken) e) ∙ ap (λ (o : Option CheckedMessage). option_of o) is where
    option_of : Option CheckedMessage → Option (Signed Body)
    option_of None = None
    option_of (Some y) = Some y.message

  due_is : due_enter (setup_of k.config) k.core ≡ enter_by (setup_of k.config) k.core x.message x.message.body
  due_is = ap (λ (o : Option (Signed Body)). on_taken (enter_by (setup_of k.config) k.core) o) taken_is

  pub to_enter : IsDueToEnter (setup_of k.config) k.core x.message (due_enter (setup_of k.config) k.core)
  to_enter = subst (IsDueToEnter (setup_of k.config) k.core x.message) (sym due_is) (due_by (setup_of k.config) k.core x.message x.message.body refl (subst (λ (o : Option Duty). IsSome o) due_is some))

  pub may_enter : (m : CheckedMessage) (n : NewView) → m ≡ x → m.message.body ≡ bodies.NewView n → is_valid_new_view (setup_of k.config) n ≡ true
  may_enter m n same body = subst (λ (b : NewView). is_valid_new_view (setup_of k.config) b ≡ true) (same_new_view to_enter.entry n (sym to_enter.is ∙ ap (λ (y : CheckedMessage). y.message.body) (sym same) ∙ body)) to_enter.valid

  pub has_entered : (m : CheckedMessage) (t : KeptReplica) (r : Result (Unit {0}) Halt) → m ≡ x → k.core.signer.next_leaf ≤ leaf_count k.core.signer
      → ((n : NewView) → m.message.body ≡ bodies.NewView n → OnOk r (t ≡ record k { core = entered (setup_of k.config) k.core n })) → OnOk r (Fulfilled k (due_enter (setup_of k.config) k.core) t)
  has_entered m t r same leaves entered_by =
      on_ok r (entered_by to_enter.entry (ap (λ (y : CheckedMessage). y.message.body) same ∙ to_enter.is)) (λ is. (
        Enter (with_body x.message to_enter.entry),
        subst (λ (o : Option Duty). Fulfils (setup_of k.config) k.core o (Enter (with_body x.message to_enter.entry))) (sym to_enter.duty) refl,
        omega (arith, leaves),
        record {
          config = ap (λ (y : KeptReplica). y.config) is;
          me = ap (λ (y : KeptReplica). y.me) is;
          core = ap (λ (y : KeptReplica). acted y.core) is;
          outputs = ap (λ (y : KeptReplica). y.outputs) is ∙ no_more k.outputs;
          done = ap (λ (y : KeptReplica). y.done) is ∙ no_more k.done;
          leaves = ap (λ (y : KeptReplica). y.leaves) is ∙ omega arith;
        },
      ))
