-- To install the state that the Snapshot just taken reads as.
use Rattle.std.proofs.Common.{◌≡◌, ℕ, ◌+◌, ◌<◌, ◌≤◌, ◌^◌, Bool, true, false, ◌&&◌, List, [], ◌∷◌, ◌++◌, Option, Some, None, refl, sym, ap, subst, ◌∙◌, arith}
use Rattle.std.specs.Prelude.{IfSome, IsSome, nat_lt}
use Rattle.std.specs.Option.{option_map}
use Rattle.std.proofs.lemmas.Bool.{and_parts, false≢true, ltb-true}
use Rattle.std.proofs.lemmas.List.{append-nil}
use Rattle.sha2.specs.Sha256.{sha256}
use Rattle.host_types.specs.Configuration.{Configuration}
use Rattle.seal.specs.Opening.{CheckedMessage}
use Rattle.lms_tree.specs.Keys.{leaf_count}
use Rattle.pbft_codec.specs.declared.body.Body.{Body}
use Rattle.pbft_codec.specs.declared.body.Body.TheVariants as bodies
use Rattle.pbft_model.specs.Acts.{Install, acted, discarded_to}
use Rattle.pbft_model.specs.Certificates.{is_stable}
use Rattle.pbft_model.specs.Core.{Core, proof_of}
use Rattle.pbft_model.specs.Duties.{Do, Duty, due_install, install_from, install_read, on_taken, when}
use Rattle.pbft_model.specs.Rows as rows
use Rattle.pbft_model.specs.Rules.{IsStateAt}
use Rattle.pbft_model.specs.Sequential.{Service}
use Rattle.pbft_model.specs.Setup.{Setup, setup_of}
use Rattle.pbft_model.specs.Tables.{number_key, with_entry}
use Rattle.pbft_model.specs.Words.{Signed, Snapshot}
use Rattle.replica_core.specs.Doing.{Does, Fulfilled}
use Rattle.replica_core.specs.Replicas.{AreOne, KeptReplica, Parts, kept_in}

-- what is due where a Snapshot is to be installed
pub record IsToInstall (c : Setup) (s : Core) (b : Snapshot) : Type 0 where
  pub state : Service
  pub reading : s.reading ≡ Some state
  pub above : s.executed < b.number.0
  pub stable : is_stable c.config s.checkpoints b.number.0 (c.hash b.state) ≡ true
  pub due : due_install c s ≡ Some (Do (Install b.number.0 b.state state))

some_when : (test : Bool) (duty : Duty) → IsSome (when test duty) → test ≡ true
some_when true duty h = refl
some_when false duty h = absurd (false≢true h)

pub to_install : (c : Setup) (s : Core) (m : Signed Body) (b : Snapshot) → s.taken ≡ Some m → m.body ≡ bodies.Snapshot b → IsSome (due_install c s) → IsToInstall c s b
to_install c s m b taken is some = cases s.reading refl where
  due_is : due_install c s ≡ install_read c s b s.reading
  due_is = ap (on_taken (install_from c s)) taken ∙ ap (install_from c s m) is

  cases : (o : Option Service) → s.reading ≡ o → IsToInstall c s b
  cases None e = absurd (false≢true (subst (λ (x : Option Duty). IsSome x) (due_is ∙ ap (install_read c s b) e) some))
  cases (Some state) e =
      let test = nat_lt s.executed b.number.0 && is_stable c.config s.checkpoints b.number.0 (c.hash b.state) in
      let duty = Do (Install b.number.0 b.state state) in
      let passes : test ≡ true = some_when test duty (subst (λ (x : Option Duty). IsSome x) (due_is ∙ ap (install_read c s b) e) some) in
      let parts = and_parts (nat_lt s.executed b.number.0) (is_stable c.config s.checkpoints b.number.0 (c.hash b.state)) passes in
      record {
        state = state;
        reading = e;
        above = ltb-true s.executed b.number.0 parts.0;
        stable = parts.1;
        due = due_is ∙ ap (install_read c s b) e ∙ ap (λ (t : Bool). when t duty) passes;
      }

-- ---- and what it reads as, at a number above the low mark

pub record IsReady (k : KeptReplica) (b : Snapshot) : Type 0 where
  pub to : IsToInstall (setup_of k.config) k.core b
  pub reads : IsStateAt (setup_of k.config) b.number.0 b.state to.state
  pub reached : k.core.low ≤ k.core.executed
  pub leaves : k.core.signer.next_leaf ≤ leaf_count k.core.signer

abbrev message_in : Option CheckedMessage → Option (Signed Body)
message_in o = option_map (λ m. m.message) o

pub is_ready : (c : Configuration) (me : ℕ) (p : Parts) → AreOne c me p → (k : KeptReplica) (m : CheckedMessage) (b : Snapshot) (body : Body) (left : ℕ) → kept_in c me p ≡ k
    → p.signer.next_leaf + left ≡ leaf_count p.signer → p.step.taken ≡ Some m → body ≡ m.message.body → body ≡ bodies.Snapshot b → IsSome (due_install (setup_of k.config) k.core)
    → ((m : Signed Body) (b : Snapshot) (state : Service) → k.core.taken ≡ Some m → m.body ≡ bodies.Snapshot b → k.core.reading ≡ Some state
    → IsStateAt (setup_of k.config) b.number.0 b.state state)
    → IsReady k b
is_ready c me p one k m b body left is leaves taken_in of_message as_snapshot some reads =
    let taken : k.core.taken ≡ Some m.message = ap (λ (x : KeptReplica). x.core.taken) (sym is) ∙ ap message_in taken_in in
    let body_is : m.message.body ≡ bodies.Snapshot b = sym of_message ∙ as_snapshot in
    let to = to_install (setup_of k.config) k.core m.message b taken body_is some in
    record {
      to = to;
      reads = reads m.message b to.state taken body_is to.reading;
      reached = subst (λ (x : KeptReplica). x.core.low ≤ x.core.executed) is one.reached;
      leaves = subst (λ (x : KeptReplica). x.core.signer.next_leaf ≤ leaf_count x.core.signer) is (omega (arith, leaves));
    }

-- ---- the act

module _ (k : KeptReplica) (b : Snapshot) (digest bytes : List ℕ) (ready : IsReady k b) where
  abbrev with_bytes : List ℕ → KeptReplica → KeptReplica
  with_bytes state x = record x { core = record x.core { snapshots = with_entry x.core.snapshots (number_key b.number.0) state } }

  abbrev noted : KeptReplica → KeptReplica
  noted x = record x { done = x.done ++ rows.Installed b.number.0 digest ∷ [] }

  abbrev kept : KeptReplica
  kept = noted (with_bytes b.state k)

  abbrev moved_to : ℕ → KeptReplica → KeptReplica
  moved_to n x = record x { core = record x.core { executed = n; service = ready.to.state; reading = None; reply_due = None; checkpoint_due = false } }

  abbrev moved : KeptReplica
  moved = moved_to b.number.0 kept

  abbrev risen : KeptReplica → KeptReplica
  risen x = record x { core = discarded_to (setup_of x.config) x.core b.number.0 (proof_of (setup_of x.config) x.core b.number.0 digest) }

  installed : (t : KeptReplica) → digest ≡ sha256 b.state → t ≡ risen moved → Fulfilled k (due_install (setup_of k.config) k.core) t
  installed t is all =
      let leaves = ready.leaves in
      let act = Install b.number.0 b.state ready.to.state in
      let does : Does k act t = record {
        config = ap (λ (x : KeptReplica). x.config) all;
        me = ap (λ (x : KeptReplica). x.me) all;
        core = ap (λ (x : KeptReplica). acted x.core) all
            ∙ ap (λ (d : List ℕ). acted (discarded_to (setup_of k.config) moved.core b.number.0 (proof_of (setup_of k.config) k.core b.number.0 d))) is;
        outputs = ap (λ (x : KeptReplica). x.outputs) all ∙ sym (append-nil k.outputs);
        done = ap (λ (x : KeptReplica). x.done) all ∙ ap (λ (d : List ℕ). k.done ++ rows.Installed b.number.0 d ∷ []) is;
        leaves = ap (λ (x : KeptReplica). x.leaves) all ∙ omega arith;
      } in
      subst (λ (o : Option Duty). Fulfilled k o t) (sym ready.to.due) (act, refl, omega (arith, leaves), does)

  module _ (k1 k2 : KeptReplica) (same : bytes ≡ b.state) (e1 : k1 ≡ with_bytes bytes k) (e2 : k2 ≡ noted k1) where
    two : k2 ≡ kept
    two = e2 ∙ ap noted (e1 ∙ ap (λ (state : List ℕ). with_bytes state k) same)

    number_is : ready.to.state.number ≡ b.number.0
    number_is = ready.reads.number_is

    fits_here : (ready.to.state.config ≡ k.config) × (k.core.low ≤ ready.to.state.number) × (ready.to.state.number < 2 ^ 48)
    fits_here =
        let low = ready.reached in
        let above = ready.to.above in
        let most = ready.reads.sound.bounded.number_in_range in
        (ready.reads.config_is, omega (arith, low, above, number_is), omega (arith, most))

    pub fits : IfSome k2.core.reading (λ state. (state.config ≡ k2.config) × (k2.core.low ≤ state.number) × (state.number < 2 ^ 48))
    fits =
        subst (λ (x : KeptReplica). IfSome x.core.reading (λ state. (state.config ≡ x.config) × (x.core.low ≤ state.number) × (state.number < 2 ^ 48))) (sym two)
        (subst (λ (o : Option Service). IfSome o (λ state. (state.config ≡ k.config) × (k.core.low ≤ state.number) × (state.number < 2 ^ 48))) (sym ready.to.reading) fits_here)

    module _ (k3 : KeptReplica)
        (e3 : (state : Service) → k2.core.reading ≡ Some state → k3 ≡ record k2 { core = record k2.core { executed = state.number; service = state; reading = None; reply_due = None; checkpoint_due = false } }) where
      three : k3 ≡ moved
      three =
          e3 ready.to.state (ap (λ (x : KeptReplica). x.core.reading) two ∙ ready.to.reading)
          ∙ ap (λ (n : ℕ). moved_to n k2) number_is ∙ ap (moved_to b.number.0) two

      pub is_above : k3.core.low < b.number.0
      is_above =
          let low = ready.reached in
          let above = ready.to.above in
          subst (λ (x : KeptReplica). x.core.low < b.number.0) (sym three) (omega (arith, low, above))

      pub is_reached : b.number.0 ≤ k3.core.executed
      is_reached = subst (λ (x : KeptReplica). b.number.0 ≤ x.core.executed) (sym three) (omega arith)

      pub stays_stable : digest ≡ sha256 b.state → is_stable k3.config k3.core.checkpoints b.number.0 digest ≡ true
      stays_stable is =
          subst (λ (x : KeptReplica). is_stable x.config x.core.checkpoints b.number.0 digest ≡ true) (sym three)
          (ap (λ (d : List ℕ). is_stable k.config k.core.checkpoints b.number.0 d) is ∙ ready.to.stable)

      pub installs : digest ≡ sha256 b.state → (t : KeptReplica) → t ≡ risen k3 → Fulfilled k (due_install (setup_of k.config) k.core) t
      installs is t e4 = installed t is (e4 ∙ ap risen three)
