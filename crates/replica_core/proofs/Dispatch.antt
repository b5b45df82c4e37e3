-- An act that its duty asked for, and the halt where it failed.
use Rattle.std.proofs.Common.{◌≡◌, ℕ, ◌+◌, Bool, true, false, List, ◌++◌, length, Option, Some, None, refl, sym, ap, subst, ◌∙◌, arith}
use Rattle.std.specs.Prelude.{IfErr, IsSome, OnOk, Result, Ok, Err, is_some}
use Rattle.std.specs.Option.{option_map}
use Rattle.std.proofs.lemmas.Bool.{false≢true}
use Rattle.lms_tree.specs.Keys.{leaf_count}
use Rattle.lms_tree.specs.SigningState.{SigningState}
use Rattle.pbft_codec.specs.declared.body.Body.{Body}
use Rattle.pbft_codec.specs.declared.body.Body.TheVariants as bodies
use Rattle.host_types.specs.declared.SeqNo.{SeqNo}
use Rattle.pbft_model.specs.Words.{Reply, RequestBody, Signed, as_message}
use Rattle.pbft_model.specs.Acts.{Act, All, Destination, Execute, Relay, Rise, Send, ToClient, ToReplica, acted, after, discarded_to}
use Rattle.pbft_model.specs.Core.{Core, proof_of}
use Rattle.pbft_model.specs.Duties.{Do, Duty, Executing, WornOut, due, due_open, due_reply, reply_body, say, when}
use Rattle.pbft_model.specs.Rows as model
use Rattle.pbft_model.specs.Rows.{Fulfils, HasLeaves, Lacks, done_of, leaves_for, outputs_of}
use Rattle.pbft_model.specs.Rules.{new_view_of, own_message}
use Rattle.pbft_model.specs.Setup.{signer_after, setup_of}
use Rattle.pbft_model.proofs.Leaves.{signer_by}
use Rattle.replica_core.specs.declared.halt.Halt.{Halt}
use Rattle.replica_core.specs.declared.halt.Halt.TheVariants as halts
use Rattle.replica_core.specs.Doing.{Does, Executes, Fulfilled, IsShortOf, Performs, Says}
use Rattle.replica_core.specs.Replicas.{KeptReplica}
use Rattle.replica_core.specs.Settling.{Advances, IsHaltedAt}
use Rattle.replica_core.proofs.Fulfilling.{no_more}
use Rattle.replica_stores.proofs.Results.{on_ok}

none_some : {X : Type 0} (o : Option X) → o ≡ None → IsSome o → ⊥
none_some o e some = false≢true (sym (ap is_some e) ∙ some)

-- ---- what an act gives, and where it halts

module _ (k : KeptReplica) where
  abbrev is_due : Option Duty
  is_due = due (setup_of k.config) k.me k.core

  abbrev Halts : Halt → Type 0
  Halts = IsHaltedAt (setup_of k.config) k.me k.core

  does_due : (t : KeptReplica) (a : Act) → is_due ≡ Some (Do a) → Does k a t → Performs k is_due t
  does_due t a e does = (a, subst (λ (o : Option Duty). Fulfils (setup_of k.config) k.core o a) (sym e) refl, does)

  pub says_due : (t : KeptReplica) (r : Result (Unit {0}) Halt) (to : Destination) (body : Body) → is_due ≡ Some (say k.me k.core to body) → OnOk r (Says k to body t) → OnOk r (Performs k is_due t)
  says_due t r to body e says = on_ok r says (does_due t (Send to (own_message k.core k.me body)) e)

  pub fulfilled_due : (t : KeptReplica) (r : Result (Unit {0}) Halt) (o : Option Duty) → is_due ≡ o → OnOk r (Fulfilled k o t) → OnOk r (Performs k is_due t)
  fulfilled_due t r o e done = on_ok r done (λ w. (w.0, subst (λ (x : Option Duty). Fulfils (setup_of k.config) k.core x w.0) (sym e) w.1, w.3))

  pub answers_due : (t : KeptReplica) (r : Result (Unit {0}) Halt) (client : ℕ) (o : Option Reply) → is_due ≡ option_map (λ (last : Reply). say k.me k.core (ToClient client) (reply_body k.core.view last)) o → IsSome o
      → ((last : Reply) → o ≡ Some last → OnOk r (Says k (ToClient client) (reply_body k.core.view last) t)) → OnOk r (Performs k is_due t)
  answers_due t r client None e some says = absurd (false≢true some)
  answers_due t r client (Some last) e some says = says_due t r (ToClient client) (reply_body k.core.view last) e (says last refl)

  pub relays_due : (t : KeptReplica) (r : Result (Unit {0}) Halt) (asker : ℕ) (o : Option (Signed RequestBody)) → is_due ≡ option_map (λ (m : Signed RequestBody). Do (Relay (ToReplica asker) (as_message bodies.Request m))) o → IsSome o
      → ((m : Signed RequestBody) → o ≡ Some m → OnOk r (Does k (Relay (ToReplica asker) (as_message bodies.Request m)) t)) → OnOk r (Performs k is_due t)
  relays_due t r asker None e some given = absurd (false≢true some)
  relays_due t r asker (Some m) e some given = on_ok r (given m refl) (does_due t (Relay (ToReplica asker) (as_message bodies.Request m)) e)

  pub supplies_due : (t : KeptReplica) (r : Result (Unit {0}) Halt) (number : SeqNo) (asker : ℕ) (o : Option (List ℕ))
      → is_due ≡ option_map (λ (bytes : List ℕ). say k.me k.core (ToReplica asker) (bodies.Snapshot (record { number = number; state = bytes }))) o → IsSome o
      → ((bytes : List ℕ) → o ≡ Some bytes → OnOk r (Says k (ToReplica asker) (bodies.Snapshot (record { number = number; state = bytes })) t)) → OnOk r (Performs k is_due t)
  supplies_due t r number asker None e some says = absurd (false≢true some)
  supplies_due t r number asker (Some bytes) e some says = says_due t r (ToReplica asker) (bodies.Snapshot (record { number = number; state = bytes })) e (says bytes refl)

  pub rises_due : (t : KeptReplica) (number digest : _) → is_due ≡ Some (Do (Rise number digest))
      → t ≡ record k { core = discarded_to (setup_of k.config) k.core number (proof_of (setup_of k.config) k.core number digest) } → Performs k is_due t
  rises_due t number digest e is = does_due t (Rise number digest) e (record {
    config = ap (λ (x : KeptReplica). x.config) is;
    me = ap (λ (x : KeptReplica). x.me) is;
    core = ap (λ (x : KeptReplica). acted x.core) is;
    outputs = ap (λ (x : KeptReplica). x.outputs) is ∙ no_more k.outputs;
    done = ap (λ (x : KeptReplica). x.done) is ∙ no_more k.done;
    leaves = ap (λ (x : KeptReplica). x.leaves) is ∙ omega arith;
  })

  pub executes_due : (t : KeptReplica) (r : Result (Unit {0}) Halt) (number : ℕ) (digest : List ℕ) → is_due ≡ Some (Executing number digest) → OnOk r (Executes k number digest t) → OnOk r (Performs k is_due t)
  executes_due t r number digest e done = on_ok r done (λ x. (
    Execute number digest x.service x.outcome,
    subst (λ (o : Option Duty). Fulfils (setup_of k.config) k.core o (Execute number digest x.service x.outcome)) (sym e) (x.service, x.outcome, x.step, refl),
    x.does,
  ))

  pub opens_due : (t : KeptReplica) (r : Result (Unit {0}) Halt) → is_due ≡ due_open (setup_of k.config) k.me k.core → IsSome (due_open (setup_of k.config) k.me k.core)
      → OnOk r (Says k All (bodies.NewView (new_view_of (setup_of k.config) k.me k.core)) t) → OnOk r (Performs k is_due t)
  opens_due t r e some says = cases _ refl some where
    cases : (b : Bool) → due_open (setup_of k.config) k.me k.core ≡ when b (say k.me k.core All (bodies.NewView (new_view_of (setup_of k.config) k.me k.core))) → IsSome (due_open (setup_of k.config) k.me k.core) → OnOk r (Performs k is_due t)
    cases true same some = says_due t r All (bodies.NewView (new_view_of (setup_of k.config) k.me k.core)) (e ∙ same) says
    cases false same some = absurd (none_some _ same some)

  -- ---- halts

  pub short_due : (r : Result (Unit {0}) Halt) (a : Act) (n : ℕ) → leaves_for a ≡ n → is_due ≡ Some (Do a) → IfErr r (IsShortOf k n) → IfErr r Halts
  short_due (Ok x) a n many e short = tt
  short_due (Err halts.Exhausted) a n many e short = subst (λ (o : Option Duty). Lacks k.core o model.Exhausted) (sym e) (omega (arith, many, short))
  short_due (Err halts.Memory) a n many e short = tt
  short_due (Err halts.Worn) a n many e short = absurd short
  short_due (Err halts.JournalFull) a n many e short = absurd short
  short_due (Err halts.AlreadyHalted) a n many e short = absurd short

  pub says_short : (r : Result (Unit {0}) Halt) (to : Destination) (body : Body) → leaves_for (Send to (own_message k.core k.me body)) ≡ 1 → is_due ≡ Some (say k.me k.core to body) → IfErr r (IsShortOf k 1) → IfErr r Halts
  says_short r to body many e short = short_due r (Send to (own_message k.core k.me body)) 1 many e short

  pub reply_short : (r : Result (Unit {0}) Halt) (o : Option Reply) → is_due ≡ due_reply k.me k.core o → IsSome o → IfErr r (IsShortOf k 1) → IfErr r Halts
  reply_short r None e some short = absurd (false≢true some)
  reply_short r (Some reply) e some short = says_short r (ToClient reply.client.0) (reply_body k.core.view reply) refl e short

  pub answer_short : (r : Result (Unit {0}) Halt) (client : ℕ) (o : Option Reply) → is_due ≡ option_map (λ (last : Reply). say k.me k.core (ToClient client) (reply_body k.core.view last)) o → IsSome o → IfErr r (IsShortOf k 1) → IfErr r Halts
  answer_short r client None e some short = absurd (false≢true some)
  answer_short r client (Some last) e some short = says_short r (ToClient client) (reply_body k.core.view last) refl e short

  pub supply_short : (r : Result (Unit {0}) Halt) (number : SeqNo) (asker : ℕ) (o : Option (List ℕ))
      → is_due ≡ option_map (λ (bytes : List ℕ). say k.me k.core (ToReplica asker) (bodies.Snapshot (record { number = number; state = bytes }))) o → IsSome o → IfErr r (IsShortOf k 1) → IfErr r Halts
  supply_short r number asker None e some short = absurd (false≢true some)
  supply_short r number asker (Some bytes) e some short = says_short r (ToReplica asker) (bodies.Snapshot (record { number = number; state = bytes })) refl e short

  pub open_short : (r : Result (Unit {0}) Halt) → is_due ≡ due_open (setup_of k.config) k.me k.core → IsSome (due_open (setup_of k.config) k.me k.core)
      → IfErr r (IsShortOf k (1 + length (new_view_of (setup_of k.config) k.me k.core).pre_prepares)) → IfErr r Halts
  open_short r e some short = cases _ refl some where
    cases : (b : Bool) → due_open (setup_of k.config) k.me k.core ≡ when b (say k.me k.core All (bodies.NewView (new_view_of (setup_of k.config) k.me k.core))) → IsSome (due_open (setup_of k.config) k.me k.core) → IfErr r Halts
    cases true same some =
        short_due r (Send All (own_message k.core k.me (bodies.NewView (new_view_of (setup_of k.config) k.me k.core)))) (1 + length (new_view_of (setup_of k.config) k.me k.core).pre_prepares) refl (e ∙ same) short
    cases false same some = absurd (none_some _ same some)

  pub of_memory : (r : Result (Unit {0}) Halt) → IfErr r (λ halt. halt ≡ halts.Memory) → IfErr r Halts
  of_memory (Ok x) e = tt
  of_memory (Err halt) e = subst Halts (sym e) tt

  pub worn : is_due ≡ Some WornOut → Halts halts.Worn
  worn e = subst (λ (o : Option Duty). Lacks k.core o model.Worn) (sym e) tt

  -- ---- the act is noted

  pub advances : (t u : KeptReplica) (left : ℕ) → Performs k is_due t → u ≡ record t { core = acted t.core } → u.core.signer.next_leaf + left ≡ leaf_count u.core.signer → Advances k u
  advances t u left (a, does, is) noted leaves = (
    a,
    record {
      config = ap (λ (x : KeptReplica). x.config) noted ∙ is.config;
      me = ap (λ (x : KeptReplica). x.me) noted ∙ is.me;
      follows = (does, enough, core);
      outputs = ap (λ (x : KeptReplica). x.outputs) noted ∙ is.outputs ∙ ap (λ xs. k.outputs ++ xs) (no_more (outputs_of a));
      done = ap (λ (x : KeptReplica). x.done) noted ∙ is.done ∙ ap (λ xs. k.done ++ xs) (no_more (done_of (setup_of k.config) a));
      leaves = let e = ap (λ (x : KeptReplica). x.leaves) noted in let e' = is.leaves in omega (arith, e, e');
    },
  ) where
    core : u.core ≡ after (setup_of k.config) k.core a
    core = ap (λ (x : KeptReplica). x.core) noted ∙ is.core

    signer : u.core.signer ≡ signer_after k.core.signer (leaves_for a)
    signer = ap (λ (x : Core). x.signer) core ∙ signer_by (setup_of k.config) k.core a

    enough : HasLeaves k.core a
    enough =
        let next : u.core.signer.next_leaf ≡ k.core.signer.next_leaf + leaves_for a = ap (λ (x : SigningState). x.next_leaf) signer in
        let many : leaf_count u.core.signer ≡ leaf_count k.core.signer = ap (λ (x : SigningState). leaf_count x) signer in
        omega (arith, next, many, leaves)
