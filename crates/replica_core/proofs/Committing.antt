-- Numbers that are committed one behind another, and the executions that a batch of them has.
use Rattle.std.proofs.Common.{◌≡◌, ℕ, suc, ◌+◌, ◌%◌, ◌<◌, inl, inr, Bool, true, false, ◌&&◌, cond, List, [], ◌∷◌, ◌++◌, length, map, get_or, Option, Some, None, refl, sym, ap, subst, ◌∙◌, arith}
use Rattle.std.specs.Prelude.{◌==◌, IsSome, find, if◌then◌else◌, is_some, not}
use Rattle.std.specs.Option.{option_map}
use Rattle.std.proofs.lemmas.Bool.{and_parts, cases_lt, eqb-true, false≢true}
use Rattle.std.proofs.lemmas.List.{get_or_append_left, get_or_push, length-map, length_push}
use Rattle.std.proofs.lemmas.Option.{same_Some}
use Rattle.host_types.specs.declared.Digest.{Digest}
use Rattle.service_model.specs.Steps.{Follows}
use Rattle.pbft_model.specs.Words.{Body, Signed, PrePrepare, Reply}
use Rattle.pbft_model.specs.Setup.{Setup, digest_of, number_limit, primary}
use Rattle.pbft_model.specs.Tables.{at, vote_key}
use Rattle.pbft_model.specs.Certificates.{Fields, of_pre_prepare, of_commit, voted, has_quorum, is_by}
use Rattle.pbft_model.specs.Core.{Core, has_position, inside, is_certified, is_known, is_new, is_prepared, is_proposed, is_committed, pre_prepare_at, if_passes, request_of}
use Rattle.pbft_model.specs.Acts.{Act, Destination, Relay}
use Rattle.pbft_model.specs.Duties.{Do, Duty, Executing, NothingBefore, WornOut, answer_to_fetch, answer_to_request, commit_for, due, due_answer, due_checkpoint, due_commit, due_enter, due_execute, due_install, due_on_timeout, due_prepare, due_propose, due_reply, due_rise, due_supply, enter_by, execute_at, install_from, leads, or_else, prepare_for}
use Rattle.pbft_model.specs.Sequential.{Outcome, Service}
use Rattle.pbft_model.specs.Together.{AreExecutions, Execution}
use Rattle.pbft_model.proofs.Found.{passed, passes}
use Rattle.pbft_model.proofs.Reactions.{IsOwn, Reacting, answer_reacting, commit_reacting, enter_reacting, fetch_reacting, first_reacting, if_reacting, install_reacting, prepare_reacting, propose_reacting, reply_reacting, rise_reacting, taken_reacting, timeout_reacting, when_reacting}
use Rattle.pbft_model.proofs.Stages.{by_is, prepared_from}
use Rattle.replica_core.specs.Batching.{Ends, IsBatch, state_after}
use Rattle.replica_core.specs.Replicas.{AreNumbered}

module _ (c : Setup) (s : Core) where
  abbrev At : ℕ → List ℕ → Fields
  At number digest = record { view = s.view; number = number; digest = digest }

  abbrev is_fine : Signed PrePrepare → Bool
  is_fine m = is_committed c s (of_pre_prepare m.body)

  -- a committed number has its PrePrepare
  there : (x : Fields) → x.view ≡ s.view → is_committed c s x ≡ true
      → (m : Signed PrePrepare) × (if_passes (λ p. is_committed c s (of_pre_prepare p.body)) (pre_prepare_at c s s.view x.number) ≡ Some m) × (of_pre_prepare m.body ≡ x)
  there x view e =
      let a = and_parts (is_prepared c s x) (has_quorum c.config (voted of_commit s.commits x)) e in
      let b = and_parts (is_certified c s x) (is_known c s x.digest) a.0 in
      let w = prepared_from c s x view b.0 b.1 in
      let found = passed (λ p. is_prepared c s (of_pre_prepare p.body)) (pre_prepare_at c s s.view x.number) w.0 w.1 in
      let committed : is_committed c s (of_pre_prepare w.0.body) ≡ true = subst (λ (y : Fields). is_committed c s y ≡ true) (sym w.2) e in
      (w.0, passes (λ p. is_committed c s (of_pre_prepare p.body)) (pre_prepare_at c s s.view x.number) w.0 found.0 committed, w.2)

  -- to execute the next number is due, if nothing comes before
  pub execute_due : (number : ℕ) (digest : List ℕ) → s.active ≡ true → number ≡ s.executed + 1 → is_committed c s (record { view = s.view; number = number; digest = digest }) ≡ true
      → due_execute c s ≡ Some (Executing number digest)
  execute_due number digest active next e =
      let w = there (At number digest) refl e in
      let here : execute_at number (if_passes (λ p. is_committed c s (of_pre_prepare p.body)) (pre_prepare_at c s s.view number)) ≡ Some (Executing number w.0.body.digest.0) = ap (execute_at number) w.1 in
      let named : Some (Executing number w.0.body.digest.0) ≡ Some (Executing number digest) = ap (λ (y : Fields). Some (Executing number y.digest)) w.2 in
      ap (λ (b : Bool). cond b (execute_at (s.executed + 1) (if_passes (λ p. is_committed c s (of_pre_prepare p.body)) (pre_prepare_at c s s.view (s.executed + 1)))) None) active
      ∙ ap (λ (n : ℕ). execute_at n (if_passes (λ p. is_committed c s (of_pre_prepare p.body)) (pre_prepare_at c s s.view n))) (sym next) ∙ here ∙ named

  -- ---- what the log answers

  named : (o : Option (Signed PrePrepare)) (d : Digest) → option_map (λ m. m.body.digest) o ≡ Some d → (m : Signed PrePrepare) × (o ≡ Some m) × (m.body.digest ≡ d)
  named None d e = absurd cc
  named (Some m) d e = (m, refl, same_Some m.body.digest d e)

  located : (number : ℕ) (m : Signed PrePrepare) → if_passes (λ p. is_committed c s (of_pre_prepare p.body)) (pre_prepare_at c s s.view number) ≡ Some m
      → (is_committed c s (record { view = s.view; number = number; digest = m.body.digest.0 }) ≡ true) × (at s.pre_prepares (vote_key number s.view (primary c.config s.view)) ≡ Some m)
  located number m e =
      let p = passed (λ p. is_committed c s (of_pre_prepare p.body)) (pre_prepare_at c s s.view number) m e in
      let q = passed (is_by (primary c.config s.view) (has_position s.view number)) (at s.pre_prepares (vote_key number s.view (primary c.config s.view))) m p.0 in
      let b = by_is (primary c.config s.view) (has_position s.view number) m q.1 in
      let v = and_parts (m.body.view.0 == s.view) (m.body.number.0 == number) b.2 in
      let view : m.body.view.0 ≡ s.view = eqb-true m.body.view.0 s.view v.0 in
      let at_number : m.body.number.0 ≡ number = eqb-true m.body.number.0 number v.1 in
      let same : of_pre_prepare m.body ≡ At number m.body.digest.0 = λ i. record { view = view i; number = at_number i; digest = m.body.digest.0 } in
      (subst (λ (x : Fields). is_committed c s x ≡ true) same p.1, q.0)

  -- a digest that is found committed is, and its number is a sequence number
  pub found : AreNumbered s → (number : ℕ) (d : Digest) → Some d ≡ option_map (λ m. m.body.digest) (if_passes (λ m. is_committed c s (of_pre_prepare m.body)) (pre_prepare_at c s s.view number))
      → (is_committed c s (record { view = s.view; number = number; digest = d.0 }) ≡ true) × (number < number_limit)
  found numbered number d e =
      let w = named (if_passes (λ m. is_committed c s (of_pre_prepare m.body)) (pre_prepare_at c s s.view number)) d (sym e) in
      let l = located number w.0 w.1 in
      (subst (λ (x : Digest). is_committed c s (At number x.0) ≡ true) w.2 l.0, numbered (vote_key number s.view (primary c.config s.view)) (ap is_some l.1))

  -- where none is found, none is committed
  pub none_found : (number : ℕ) → None ≡ option_map (λ m. m.body.digest) (if_passes (λ m. is_committed c s (of_pre_prepare m.body)) (pre_prepare_at c s s.view number))
      → (digest : List ℕ) → is_committed c s (record { view = s.view; number = number; digest = digest }) ≡ true → ⊥
  none_found number e digest committed =
      let w = there (At number digest) refl committed in
      let some : option_map (λ m. m.body.digest) (if_passes (λ m. is_committed c s (of_pre_prepare m.body)) (pre_prepare_at c s s.view number)) ≡ Some w.0.body.digest = ap (λ o. option_map (λ m. m.body.digest) o) w.1 in
      cc

  -- where to execute is due, a digest is committed at the next number
  pub next_committed : IsSome (due_execute c s) → (digest : List ℕ) × (is_committed c s (record { view = s.view; number = s.executed + 1; digest = digest }) ≡ true)
  next_committed some = by_found s.active (if_passes (λ p. is_committed c s (of_pre_prepare p.body)) (pre_prepare_at c s s.view (s.executed + 1))) refl some where
    by_found : (b : Bool) (o : Option (Signed PrePrepare)) → if_passes (λ p. is_committed c s (of_pre_prepare p.body)) (pre_prepare_at c s s.view (s.executed + 1)) ≡ o → IsSome (if b then execute_at (s.executed + 1) o else None)
        → (digest : List ℕ) × (is_committed c s (record { view = s.view; number = s.executed + 1; digest = digest }) ≡ true)
    by_found false o e some = absurd (false≢true some)
    by_found true None e some = absurd (false≢true some)
    by_found true (Some m) e some = (m.body.digest.0, (located (s.executed + 1) m e).0)

  -- ---- a batch

  -- it is not empty
  pub some_there : (ds : List Digest) → IsSome (due_execute c s) → Ends c s s.executed ds → 0 < length ds
  some_there [] some ends = elim ends [
    | inl last ↦ last.0
    | inr none ↦
        let w = next_committed some in
        let same : s.executed + 1 ≡ s.executed + 0 + 1 = omega arith in
        absurd (none w.0 (subst (λ (n : ℕ). is_committed c s (At n w.0) ≡ true) same w.1))
  ]
  some_there (d ∷ ds) some ends = omega arith

  pub empty_batch : (executed : ℕ) → IsBatch c s executed []
  empty_batch executed = record { committed = λ i d below. absurd (omega arith); between = λ i below. absurd (omega arith) }

  pub longer_batch : (executed : ℕ) (ds : List Digest) (d : Digest) → IsBatch c s executed ds → (0 < length ds → ((executed + length ds) % c.config.k == 0) ≡ false)
      → is_committed c s (record { view = s.view; number = executed + length ds + 1; digest = d.0 }) ≡ true → IsBatch c s executed (ds ++ d ∷ [])
  longer_batch executed ds d batch last next = record { committed = committed; between = between } where
    many : length (ds ++ d ∷ []) ≡ length ds + 1
    many = length_push ds d

    committed : (i : ℕ) (e : Digest) → i < length (ds ++ d ∷ []) → is_committed c s (record { view = s.view; number = executed + 1 + i; digest = (get_or (ds ++ d ∷ []) i e).0 }) ≡ true
    committed i e below = elim (cases_lt i (length ds)) [
      | inl lt ↦ subst (λ (x : Digest). is_committed c s (At (executed + 1 + i) x.0) ≡ true) (sym (get_or_append_left ds (d ∷ []) e i lt)) (batch.committed i e lt)
      | inr le ↦
          let eq : i ≡ length ds = omega (arith, many, le, below) in
          let number : executed + length ds + 1 ≡ executed + 1 + i = omega (arith, eq) in
          subst (λ (x : Digest). is_committed c s (At (executed + 1 + i) x.0) ≡ true) (sym (get_or_push ds d e i (sym eq))) (subst (λ (n : ℕ). is_committed c s (At n d.0) ≡ true) number next)
    ]

    between : (i : ℕ) → i + 1 < length (ds ++ d ∷ []) → ((executed + 1 + i) % c.config.k == 0) ≡ false
    between i below = elim (cases_lt (i + 1) (length ds)) [
      | inl lt ↦ batch.between i lt
      | inr le ↦
          let eq : i + 1 ≡ length ds = omega (arith, many, le, below) in
          let number : executed + length ds ≡ executed + 1 + i = omega (arith, eq) in
          subst (λ (n : ℕ). (n % c.config.k == 0) ≡ false) number (last (omega (arith, eq)))
    ]

  shorter_batch : (executed : ℕ) (d : Digest) (ds : List Digest) → IsBatch c s executed (d ∷ ds) → IsBatch c s (executed + 1) ds
  shorter_batch executed d ds batch = record {
    committed = λ i e below.
        let number : executed + 1 + suc i ≡ executed + 1 + 1 + i = omega arith in
        subst (λ (n : ℕ). is_committed c s (At n (get_or ds i e).0) ≡ true) number (batch.committed (suc i) e (omega (arith, below)));
    between = λ i below.
        let number : executed + 1 + suc i ≡ executed + 1 + 1 + i = omega arith in
        subst (λ (n : ℕ). (n % c.config.k == 0) ≡ false) number (batch.between (suc i) (omega (arith, below)));
  }

  -- ---- its executions

  abbrev pub AreAll : Service → ℕ → List Execution → Type 0
  AreAll state executed [] = Unit {0}
  AreAll state executed (x ∷ xs) = AreExecutions c s state executed x xs

  pub record Have (state : Service) (executed : ℕ) (digests : List Digest) (outcomes : List Outcome) (last : Service) : Type 0 where
    pub all : List Execution
    pub digests_are : map (λ x. x.digest) all ≡ map (λ d. d.0) digests
    pub outcomes_are : map (λ x. x.outcome) all ≡ outcomes
    pub are : AreAll state executed all
    pub last_is : state_after state all ≡ last

  pub executions : (ds : List Digest) (state : Service) (executed : ℕ) (outcomes : List Outcome) (last : Service) → IsBatch c s executed ds
      → Follows state (map (λ d. request_of c s d.0) ds) last outcomes → Have state executed ds outcomes last
  executions [] state executed outcomes last batch (same, none) = record { all = []; digests_are = refl; outcomes_are = sym none; are = tt; last_is = sym same }
  executions (d ∷ ds) state executed outcomes last batch (mid, outcome, others, step, rest, is) =
      let later = executions ds mid (executed + 1) others last (shorter_batch executed d ds batch) rest in
      record {
        all = x ∷ later.all;
        digests_are = ap (λ (l : List (List ℕ)). d.0 ∷ l) later.digests_are;
        outcomes_are = ap (λ (l : List Outcome). outcome ∷ l) later.outcomes_are ∙ sym is;
        are = put later.all later.digests_are later.are;
        last_is = later.last_is;
      } where
        x : Execution
        x = record { number = executed + 1; digest = d.0; service = mid; outcome = outcome }

        number : executed + 1 + 0 ≡ executed + 1
        number = omega arith

        put : (xs : List Execution) → map (λ x. x.digest) xs ≡ map (λ d. d.0) ds → AreAll mid (executed + 1) xs → AreExecutions c s state executed x xs
        put [] same are = record { next = refl; committed = subst (λ (n : ℕ). is_committed c s (At n d.0) ≡ true) number (batch.committed 0 d (omega arith)); step = step }
        put (y ∷ ys) same are =
            let many : length ds ≡ suc (length ys) = sym (length-map ds (λ d. d.0)) ∙ ap length (sym same) ∙ ap suc (length-map ys (λ x. x.digest)) in (
              record { next = refl; committed = subst (λ (n : ℕ). is_committed c s (At n d.0) ≡ true) number (batch.committed 0 d (omega arith)); step = step },
              subst (λ (n : ℕ). (n % c.config.k == 0) ≡ false) number (batch.between 0 (omega (arith, many))),
              are,
            )

-- ---- what is due

-- Where to execute is due, it is what the cause of executions gives, and nothing that comes before is.
module _ (c : Setup) (me : ℕ) (s : Core) (number : ℕ) (digest : List ℕ) where
  abbrev Other : Duty → Type 0
  Other d = d ≡ Executing number digest → ⊥

  other_act : (a : Act) → IsOwn a → Other (Do a)
  other_act a own e = cc

  other_worn : Other WornOut
  other_worn e = cc

  other_relay : (to : Destination) (m : Signed Body) → Other (Do (Relay to m))
  other_relay to m e = cc

  abbrev None_of : Option Duty → Type 0
  None_of o = Reacting Other other_act other_worn o

  peel : (o p : Option Duty) → None_of o → or_else o p ≡ Some (Executing number digest) → (o ≡ None) × (p ≡ Some (Executing number digest))
  peel None p h e = (refl, e)
  peel (Some d) p h e = absurd (h (same_Some d (Executing number digest) e))

  no_reply : (o : Option Reply) → due_reply me s o ≡ None → o ≡ None
  no_reply None e = refl
  no_reply (Some reply) e = absurd cc

  first_some : (o p : Option Duty) → IsSome o → or_else o p ≡ Some (Executing number digest) → o ≡ Some (Executing number digest)
  first_some None p some e = absurd (false≢true some)
  first_some (Some d) p some e = e

  is_on : (b : Bool) (o : Option Duty) → IsSome (if b then o else None) → b ≡ true
  is_on true o some = refl
  is_on false o some = absurd (false≢true some)

  pub executes_alone : due c me s ≡ Some (Executing number digest) → IsSome (due_execute c s) → (s.reply_due ≡ None) × (s.active ≡ true) × (due_execute c s ≡ Some (Executing number digest))
  executes_alone e some =
      let e1 = peel (due_on_timeout c me s) _ (timeout_reacting Other other_act other_worn c me s) e in
      let e2 = peel (due_reply me s s.reply_due) _ (reply_reacting Other other_act other_worn c me s s.reply_due) e1.1 in
      let e3 = peel (due_checkpoint c me s) _ (when_reacting Other other_act other_worn s.checkpoint_due _ (other_act _ tt)) e2.1 in
      let e4 = peel (due_answer me s) _ (if_reacting Other other_act other_worn s.is_fresh _ (taken_reacting Other other_act other_worn c me s (answer_to_request me s) s.taken (answer_reacting Other other_act other_worn c me s))) e3.1 in
      let e5 = peel (due_supply c me s) _ (if_reacting Other other_act other_worn s.is_fresh _ (taken_reacting Other other_act other_worn c me s (answer_to_fetch c me s) s.taken (fetch_reacting Other other_act other_worn c me s other_relay))) e4.1 in
      let e6 = peel (due_enter c s) _ (taken_reacting Other other_act other_worn c me s (enter_by c s) s.taken (enter_reacting Other other_act other_worn c me s)) e5.1 in
      let e7 = peel (due_install c s) _ (taken_reacting Other other_act other_worn c me s (install_from c s) s.taken (install_reacting Other other_act other_worn c me s)) e6.1 in
      let e8 = peel (due_rise c s) _ (rise_reacting Other other_act other_worn c me s s.snapshots) e7.1 in
      let e9 = peel (due_propose c me s) _ (if_reacting Other other_act other_worn (s.active && leads c me s) _ (propose_reacting Other other_act other_worn c me s (find (λ m. is_new s.service m && not (is_proposed s (digest_of c m))) s.held))) e8.1 in
      let e10 = peel (due_prepare c me s) _ (if_reacting Other other_act other_worn (s.active && not (leads c me s)) _ (first_reacting Other other_act other_worn (prepare_for c me s) (inside c s) (prepare_reacting Other other_act other_worn c me s))) e9.1 in
      let e11 = peel (due_commit c me s) _ (if_reacting Other other_act other_worn s.active _ (first_reacting Other other_act other_worn (commit_for c me s) (inside c s) (commit_reacting Other other_act other_worn c me s))) e10.1 in
      (no_reply s.reply_due e2.0, is_on s.active _ some, first_some (due_execute c s) _ some e11.1)

skip : (o p : Option Duty) (d : Duty) → o ≡ None → p ≡ Some d → or_else o p ≡ Some d
skip o p d e f = ap (λ (x : Option Duty). or_else x p) e ∙ f

take : (o p : Option Duty) (d : Duty) → o ≡ Some d → or_else o p ≡ Some d
take o p d e = ap (λ (x : Option Duty). or_else x p) e

first_due : (c : Setup) (me : ℕ) (s : Core) (d : Duty) → NothingBefore c me s → due_execute c s ≡ Some d → due c me s ≡ Some d
first_due c me s d h e =
    skip _ _ d h.timeout (skip _ _ d h.reply (skip _ _ d h.checkpoint (skip _ _ d h.answer (skip _ _ d h.supply (skip _ _ d h.enter (skip _ _ d h.install (skip _ _ d h.rise (skip _ _ d h.propose (skip _ _ d h.prepare (skip _ _ d h.commit (take _ _ d e)))))))))))

-- a committed number is due to be executed where nothing comes before
pub next_due : (c : Setup) (me : ℕ) (s : Core) (number : ℕ) (digest : List ℕ) → NothingBefore c me s → s.active ≡ true → number ≡ s.executed + 1
    → is_committed c s (record { view = s.view; number = number; digest = digest }) ≡ true → due c me s ≡ Some (Executing number digest)
next_due c me s number digest nothing active next committed = first_due c me s (Executing number digest) nothing (execute_due c s number digest active next committed)
