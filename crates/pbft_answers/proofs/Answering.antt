-- Where no vote comes early, what the primary gave out is executed by more correct replicas than may be faulty.
use Rattle.std.proofs.Common.{◌≡◌, ◌⊎◌, ℕ, zero, suc, ◌+◌, ◌<◌, ◌≤◌, Bool, true, false, ◌&&◌, List, ◌∷◌, Option, Some, None, refl, sym, ap, subst, ◌∙◌, arith, inl, inr}
use Rattle.std.specs.Prelude.{not, bytes_eq, ◌==◌}
use Rattle.std.proofs.lemmas.Bool.{false≢true, cases_lt, cases_eq, and_parts, eqb-true, leb-true, not-true, not_from_false}
use Rattle.pbft_model.specs.Words.{Signed, RequestBody, Checkpoint, Replica, Part, part_of}
use Rattle.pbft_codec.specs.declared.body.Body.TheVariants as bodies
use Rattle.pbft_model.specs.Sequential.{Service}
use Rattle.pbft_model.specs.Setup.{Setup, primary, replicas, quorum, count, digest_of}
use Rattle.pbft_model.specs.Tables.{at, checkpoint_key}
use Rattle.pbft_model.specs.Certificates.{Fields, is_by, some_by, is_checkpoint_of, checkpointed}
use Rattle.pbft_model.specs.Core.{Core, start_of, is_known}
use Rattle.pbft_model.specs.Acts.{Act, Take, Timeout, Send, Relay, Enter, Rise, Execute, Install}
use Rattle.pbft_model.specs.Rows.{Executed, done_of}
use Rattle.pbft_model.specs.Histories.{core_after, IsEarlier, IsIn, HasSigned}
use Rattle.pbft_model.specs.Families.{IsCorrect}
use Rattle.pbft_agreement.specs.Journals.{Journals, HasGiven, HasDone, IsHonestFamily}
use Rattle.pbft_progress.specs.Progress.{IsDrained, EachEnds, Enough}
use Rattle.pbft_progress.specs.Votes.{HasProposed}
use Rattle.pbft_answers.specs.Window.{AsksInOrder, SpreadsRequests, InstallsNothing}
use Rattle.pbft_model.proofs.Counting.{found_outside}
use Rattle.pbft_model.proofs.Events.{before, earlier_trans, history_at}
use Rattle.pbft_model.proofs.Stages.{by_is}
use Rattle.pbft_model.proofs.Real.{real_core}
use Rattle.pbft_model.proofs.ByView.{signed_real}
use Rattle.pbft_model.proofs.Holdings.{held_taken}
use Rattle.pbft_agreement.proofs.Reporting.{one_core}
use Rattle.pbft_agreement.proofs.RowRules.{checks_where_executed}
use Rattle.pbft_progress.proofs.Duties.{count_outside}
use Rattle.pbft_progress.proofs.Views.{each_or_one}
use Rattle.pbft_answers.proofs.Kin.{family, told, unforged}
use Rattle.pbft_answers.proofs.Reaching.{Done, Jumped, reaches, number_rises}
use Rattle.pbft_answers.proofs.Speaking.{alone}
use Rattle.pbft_answers.proofs.Deciding.{Asked, InTime, last, AllPrepare, AllCommit, GavePrepare, GaveCommit, prepares, commits, none_rests_before, none_rests_behind, above_zero}
use Rattle.pbft_answers.proofs.Proposing.{Signs, signs_asked, asked_signs, signs_below, signs_view}
use Rattle.pbft_answers.proofs.Holding.{behind, known_last, StaysNew}
use Rattle.pbft_answers.proofs.OneResult.{one_result}
use Rattle.pbft_answers.proofs.Listing.{above_new}
use Rattle.pbft_answers.proofs.Ordering.{times_rise}
use Rattle.pbft_answers.proofs.Counts.{many_right}
use Rattle.pbft_answers.proofs.Executing.{timely_of, number_in_time, executes_it, all_reach}

module _ (c : Setup) (j : Journals) (h : IsHonestFamily c j) (first : EachEnds c j (λ i s. s.view ≡ 0)) (leader : IsCorrect c j.faulty (primary c.config 0)) where
  abbrev acts_of : ℕ → List Act
  acts_of i = (family c j h).acts i

  -- ---- what is proposed is known where it is not yet reached

  module _ (asks : AsksInOrder c j) (spread : SpreadsRequests c j) where
    stays_new : (x : Fields) → Signs c j h first leader x → (m : Signed RequestBody) → digest_of c m ≡ x.digest → (i : ℕ) → IsCorrect c j.faulty i → (last c j h first leader i).executed < x.number
        → (a : Act) (early : List Act) → IsEarlier (a ∷ early) (acts_of i) → StaysNew c (digest_of c m) (core_after c (j.signer i) early) a
    stays_new x signs m named i correct less (Rise n d) early at = λ p within same.
        let point = before (Rise n d) early (acts_of i) at in
        let up = number_rises c i (j.signer i) early (acts_of i) point (told c j h i correct).is in
        let taken = held_taken c i (j.signer i) (acts_of i) (told c j h i correct).is early point p within in
        above_new c j h first leader i correct early point x p (omega (arith, less, up))
        (λ y q signs_y lower q_taken q_named id. times_rise c j h first leader asks x y signs signs_y lower q p q_taken (i, correct, taken) q_named (same ∙ named) id)
    stays_new x signs m named i correct less (Install n b t) early at = λ p within same.
        let point = before (Install n b t) early (acts_of i) at in
        let up = number_rises c i (j.signer i) (Install n b t ∷ early) (acts_of i) at (told c j h i correct).is in
        let taken = held_taken c i (j.signer i) (acts_of i) (told c j h i correct).is early point p within in
        above_new c j h first leader i correct (Install n b t ∷ early) at x p (omega (arith, less, up))
        (λ y q signs_y lower q_taken q_named id. times_rise c j h first leader asks x y signs signs_y lower q p q_taken (i, correct, taken) q_named (same ∙ named) id)
    stays_new x signs m named i correct less (Take q r) early at = tt
    stays_new x signs m named i correct less Timeout early at = tt
    stays_new x signs m named i correct less (Send to q) early at = tt
    stays_new x signs m named i correct less (Relay to q) early at = tt
    stays_new x signs m named i correct less (Enter q) early at = tt
    stays_new x signs m named i correct less (Execute n d t o) early at = tt

    pub knows : (x : Fields) → Asked c j h first leader x → (i : ℕ) → IsCorrect c j.faulty i → (last c j h first leader i).executed < x.number → is_known c (last c j h first leader i) x.digest ≡ true
    knows x asked i correct less =
        let r = behind c j h first leader x asked in
        let received = spread (primary c.config 0) i r.request leader correct r.received in
        subst (λ (d : List ℕ). is_known c (last c j h first leader i) d ≡ true) (sym r.digest_is)
        (known_last c j h first leader i correct r.request received (stays_new x (asked_signs c j h first leader x asked) r.request (sym r.digest_is) i correct less))

  -- ---- who jumped shows that enough have executed

  abbrev DoneBy : ℕ → ℕ → Type 0
  DoneBy n i = Done n ((family c j h).acts i)

  -- a Checkpoint that was signed is of a number that was executed
  checkpoint_done : (v : ℕ) → IsCorrect c j.faulty v → (b : Checkpoint) (p : Part) → HasSigned p (acts_of v) → p.body ≡ bodies.Checkpoint b → Done b.number.0 (acts_of v)
  checkpoint_done v right b p signed body =
      let t = told c j h v right in
      let given = t.gives p signed in
      let output = given.1 in
      let own_part : HasGiven (part_of output.message) (j.rows v) = (given.0, output, given.2, given.3, given.4, inl refl) in
      let same = alone c j h first v right output.message p (t.signs (part_of output.message) own_part) given.5 in
      let is : output.message.body ≡ bodies.Checkpoint b = ap (λ (q : Part). q.body) (sym same) ∙ body in
      let done = checks_where_executed c v (j.signer v) (j.rows v) t.core t.comes given.0 output b given.2 given.3 given.4 is in
      let w = t.did (Executed b.number.0 done.0 done.1) (given.0, given.2, done.2) in
      from_act w.0 w.1 w.2 done.0 done.1 w.3 where
        from_act : (a : Act) (early : List Act) → IsEarlier (a ∷ early) (acts_of v) → (d r : List ℕ) → IsIn (Executed b.number.0 d r) (done_of c a) → Done b.number.0 (acts_of v)
        from_act (Execute k e t o) early at d r (inl same) = let number : b.number.0 ≡ k = cc in (e, t, o, early, subst (λ (n : ℕ). IsEarlier (Execute n e t o ∷ early) (acts_of v)) (sym number) at)
        from_act (Execute k e t o) early at d r (inr none) = absurd none
        from_act (Install k e t) early at d r (inl same) = absurd cc
        from_act (Install k e t) early at d r (inr none) = absurd none
        from_act (Take m q) early at d r none = absurd none
        from_act Timeout early at d r none = absurd none
        from_act (Send to m) early at d r none = absurd none
        from_act (Relay to m) early at d r none = absurd none
        from_act (Enter m) early at d r none = absurd none
        from_act (Rise k e) early at d r none = absurd none

  -- A snapshot of at least this number, and below this bound, was installed by a correct replica.
  abbrev Jump : ℕ → ℕ → Type 0
  Jump n bound = (i : ℕ) × IsCorrect c j.faulty i × (k : ℕ) × (b : List ℕ) × (t : Service) × (early : List Act) × IsEarlier (Install k b t ∷ early) ((family c j h).acts i) × (n ≤ k) × (k < bound)

  later_done : (n : ℕ) (x acts : List Act) → IsEarlier x acts → Done n x → Done n acts
  later_done n x acts at (d, t, o, early, point) = (d, t, o, early, earlier_trans (Execute n d t o ∷ early) x acts point at)

  -- who executed a number executed a lower one, or jumped over that one alone
  done_below : (v : ℕ) → IsCorrect c j.faulty v → (n k : ℕ) → 1 ≤ n → n ≤ k → Done k (acts_of v) → DoneBy n v ⊎ Jump n k
  done_below v right n k one le (d, t, o, early, at) = elim (cases_eq n k) [
    | inl same ↦ inl (d, t, o, early, subst (λ (m : ℕ). IsEarlier (Execute m d t o ∷ early) (acts_of v)) (sym same) at)
    | inr other ↦
        let is = history_at c v (j.signer v) (Execute k d t o ∷ early) (acts_of v) at (told c j h v right).is in
        let next : k ≡ (core_after c (j.signer v) early).executed + 1 = is.1.next in
        let point = before (Execute k d t o) early (acts_of v) at in
        let below : n < k = elim (cases_lt n k) [ inl less ↦ less | inr more ↦ absurd (other (omega (arith, le, more))) ] in
        elim (reaches c v (j.signer v) n early is.0 one (omega (arith, below, next))) [
          | inl done ↦ inl (later_done n early (acts_of v) point done)
          | inr (m, b, u, before_it, jump, up) ↦
              let rises = number_rises c v (j.signer v) (Install m b u ∷ before_it) early jump is.0 in
              let low : m ≤ (core_after c (j.signer v) early).executed = rises in
              inr (v, right, m, b, u, before_it, earlier_trans (Install m b u ∷ before_it) early (acts_of v) jump point, up, omega (arith, low, next))
        ]
  ]

  jump_enough : (bound n : ℕ) → 1 ≤ n → Jump n bound → Enough c j (DoneBy n)
  jump_enough zero n one (i, correct, k, b, t, early, at, up, less) = absurd (omega (arith, less))
  jump_enough (suc bound) n one (i, correct, k, b, t, early, spot, up, less) =
      let point = before (Install k b t) early (acts_of i) spot in
      let s = core_after c (j.signer i) early in
      let ok = (history_at c i (j.signer i) (Install k b t ∷ early) (acts_of i) spot (told c j h i correct).is).1 in
      let voters = checkpointed s.checkpoints k (c.hash b) in
      let those : ℕ → Bool = λ v. voters v && not (j.faulty v) in
      let many = leb-true (quorum c.config) (count voters (replicas c.config)) ok.stable in
      let outside = count_outside voters j.faulty (replicas c.config) in
      let few = h.few in
      elim (each_or_one those (DoneBy n) (Jump n k) (replicas c.config) (λ v below t. voter v below ((and_parts (voters v) (not (j.faulty v)) t).0) (not-true (j.faulty v) ((and_parts (voters v) (not (j.faulty v)) t).1)) point)) [
        | inl all ↦ (those, omega (arith, many, outside, few), λ v below t. ((below, not-true (j.faulty v) ((and_parts (voters v) (not (j.faulty v)) t).1)), all v below t))
        | inr (i', correct', k', b', t', early', spot', up', less') ↦ jump_enough bound n one (i', correct', k', b', t', early', spot', up', omega (arith, less, less'))
      ] where
        voter : (v : ℕ) → v < replicas c.config → checkpointed (core_after c (j.signer i) early).checkpoints k (c.hash b) v ≡ true → j.faulty v ≡ false → IsEarlier early (acts_of i) → DoneBy n v ⊎ Jump n k
        voter v below t right point =
            let s = core_after c (j.signer i) early in
            let correct_v : IsCorrect c j.faulty v = (below, right) in
            let w = checkpointed_is s v t in
            let by = by_is v (is_checkpoint_of k (c.hash b)) w.0 w.2 in
            let real = (real_core c (family c j h) i correct (unforged c j h) early point).3 (checkpoint_key k v) w.0 w.1 in
            let signed = signed_real c (family c j h) (unforged c j h) bodies.Checkpoint v (is_checkpoint_of k (c.hash b)) w.0 w.2 real correct_v in
            let number : w.0.body.number.0 ≡ k = eqb-true w.0.body.number.0 k ((and_parts (w.0.body.number.0 == k) (bytes_eq w.0.body.digest.0 (c.hash b)) by.2).0) in
            done_below v correct_v n k one up (subst (λ (m : ℕ). Done m (acts_of v)) number (checkpoint_done v correct_v w.0.body (record { role = Replica; id = v; body = bodies.Checkpoint w.0.body }) signed refl)) where
              checkpointed_is : (s : Core) (v : ℕ) → checkpointed s.checkpoints k (c.hash b) v ≡ true → (m : Signed Checkpoint) × (at s.checkpoints (checkpoint_key k v) ≡ Some m) × (is_by v (is_checkpoint_of k (c.hash b)) m ≡ true)
              checkpointed_is s v e = found (at s.checkpoints (checkpoint_key k v)) refl e where
                found : (o : Option (Signed Checkpoint)) → at s.checkpoints (checkpoint_key k v) ≡ o → some_by v (is_checkpoint_of k (c.hash b)) o ≡ true → (m : Signed Checkpoint) × (at s.checkpoints (checkpoint_key k v) ≡ Some m) × (is_by v (is_checkpoint_of k (c.hash b)) m ≡ true)
                found None is e = absurd (false≢true e)
                found (Some m) is e = (m, is, e)

  -- ---- what was proposed is executed by enough

  -- a number jumped over, without a bound
  jumped_enough : (n : ℕ) → 1 ≤ n → (i : ℕ) → IsCorrect c j.faulty i → Jumped n (acts_of i) → Enough c j (DoneBy n)
  jumped_enough n one i correct (k, b, t, early, at, up) = jump_enough (suc k) n one (i, correct, k, b, t, early, at, up, omega arith)

  -- who executed a number has reached it
  done_reached : (n i : ℕ) → IsCorrect c j.faulty i → DoneBy n i → n ≤ (last c j h first leader i).executed
  done_reached n i correct (d, t, o, early, at) = number_rises c i (j.signer i) (Execute n d t o ∷ early) (acts_of i) at (told c j h i correct).is

  module _ (drained : IsDrained c j) (asks : AsksInOrder c j) (spread : SpreadsRequests c j) where
    abbrev Right : ℕ → Bool
    Right k = not (j.faulty k)

    -- all correct replicas, of which there are more than may be faulty
    all_enough : (is : ℕ → Type 0) → ((k : ℕ) → IsCorrect c j.faulty k → is k) → Enough c j is
    all_enough is each =
        let many = many_right c.config.f (replicas c.config) j.faulty (λ k. not (j.faulty k)) refl h.few (λ k below right. not_from_false (j.faulty k) right) in
        ((λ k. not (j.faulty k)), omega (arith, many), λ k below t. ((below, not-true (j.faulty k) t), each k (below, not-true (j.faulty k) t)))

    -- where enough have reached the number before, enough have executed it
    next_enough : (x : Fields) (asked : Asked c j h first leader x) → (n : ℕ) → x.number ≡ n + 1 → Enough c j (λ i. n ≤ (last c j h first leader i).executed) → Enough c j (DoneBy x.number)
    next_enough x asked n number (those, many, each) = elim (each_or_one Right (λ k. (k ≡ primary c.config 0 → ⊥) → GavePrepare c j h first leader drained x asked k) (Enough c j (DoneBy x.number)) (replicas c.config) prepared) [
      | inr enough ↦ enough
      | inl all ↦
          let all_prepare : AllPrepare c j h first leader drained x asked = λ k right backup. all k right.0 (not_from_false (j.faulty k) right.1) backup in
          elim (each_or_one Right (GaveCommit c j h first leader drained x asked) (Enough c j (DoneBy x.number)) (replicas c.config) (committed all_prepare)) [
            | inr enough ↦ enough
            | inl every ↦
                let all_commit : AllCommit c j h first leader drained x asked = λ k right. every k right.0 (not_from_false (j.faulty k) right.1) in
                elim (each_or_one those (DoneBy x.number) (Enough c j (DoneBy x.number)) (replicas c.config) (executed all_prepare all_commit)) [
                  | inr enough ↦ enough
                  | inl done ↦ (those, many, λ k below t. ((each k below t).0, done k below t))
                ]
          ]
    ] where
      one : 1 ≤ x.number
      one = above_zero c j h first leader drained x asked

      known : (i : ℕ) → IsCorrect c j.faulty i → (last c j h first leader i).executed < x.number → is_known c (last c j h first leader i) x.digest ≡ true
      known = knows asks spread x asked

      prepared : (k : ℕ) → k < replicas c.config → not (j.faulty k) ≡ true → ((k ≡ primary c.config 0 → ⊥) → GavePrepare c j h first leader drained x asked k) ⊎ Enough c j (DoneBy x.number)
      prepared k below t = elim (cases_eq k (primary c.config 0)) [
        | inl same ↦ inl (λ backup. absurd (backup same))
        | inr backup ↦ elim (prepares c j h first leader drained x asked known k (below, not-true (j.faulty k) t) backup) [
          | inl gave ↦ inl (λ other. gave)
          | inr jumped ↦ inr (jumped_enough x.number one k (below, not-true (j.faulty k) t) jumped)
        ]
      ]

      committed : AllPrepare c j h first leader drained x asked → (k : ℕ) → k < replicas c.config → not (j.faulty k) ≡ true → GaveCommit c j h first leader drained x asked k ⊎ Enough c j (DoneBy x.number)
      committed all k below t = elim (commits c j h first leader drained x asked known all k (below, not-true (j.faulty k) t)) [
        | inl gave ↦ inl gave
        | inr jumped ↦ inr (jumped_enough x.number one k (below, not-true (j.faulty k) t) jumped)
      ]

      executed : AllPrepare c j h first leader drained x asked → AllCommit c j h first leader drained x asked → (k : ℕ) → k < replicas c.config → those k ≡ true → DoneBy x.number k ⊎ Enough c j (DoneBy x.number)
      executed all_prepare all_commit k below t =
          let w = each k below t in
          let up = w.1 in
          let reached : x.number ≤ (last c j h first leader k).executed = elim (cases_lt (last c j h first leader k).executed x.number) [
            | inr more ↦ more
            | inl less ↦ absurd (none_rests_before c j h first leader drained x asked known all_prepare all_commit k w.0 (omega (arith, less, up, number)))
          ] in
          elim (reaches c k (j.signer k) x.number (acts_of k) (told c j h k w.0).is one reached) [
            | inl done ↦ inl done
            | inr jumped ↦ inr (jumped_enough x.number one k w.0 jumped)
          ]

    enough_done : (n : ℕ) → (x : Fields) → x.number ≡ n → Asked c j h first leader x → Enough c j (DoneBy x.number)
    enough_done zero x number asked = let one = above_zero c j h first leader drained x asked in absurd (omega (arith, one, number))
    enough_done (suc n) x number asked =
        next_enough x asked n (number ∙ omega arith) (elim (cases_lt 0 n) [
          | inr none ↦ all_enough (λ i. n ≤ (last c j h first leader i).executed) (λ k right. omega (arith, none))
          | inl some ↦
              let below = signs_below c j h first leader (suc n) (x, number, asked_signs c j h first leader x asked) n (omega (arith, some)) (omega arith) in
              let number_is : below.0.number ≡ n = below.1 in
              let down = signs_asked c j h first leader below.0 (signs_view c j h first leader below.0 below.2) (number_in_time c j h first leader x below.0 asked (omega (arith, number, number_is))) below.2 in
              let enough = enough_done n below.0 below.1 down in
              (enough.0, enough.1, λ k under t. let w = enough.2 k under t in (w.0, subst (λ (m : ℕ). m ≤ (last c j h first leader k).executed) number_is (done_reached below.0.number k w.0 w.1)))
        ])

    zero_count : (n : ℕ) → count (λ i. false) n ≡ 0
    zero_count zero = refl
    zero_count (suc n) = let rest = zero_count n in omega (arith, rest)

    none_less : (n m : ℕ) → c.config.f < m → count (λ i. false) n < m
    none_less n m more = let none = zero_count n in omega (arith, more, none)

    -- Each own PrePrepare of the primary is executed by more correct replicas than may be faulty, with one result.
    pub enough_execute : (x : Fields) → ((n : ℕ) → n ≤ x.number → InTime c j h first leader n) → HasProposed x (j.rows (primary c.config 0)) → (result : List ℕ) × Enough c j (λ i. HasDone (Executed x.number x.digest result) (j.rows i))
    enough_execute x in_time proposed =
        let asked = timely_of c j h first leader x in_time proposed in
        let enough = enough_done x.number x refl asked in
        let some = found_outside enough.0 (λ i. false) (replicas c.config) (none_less (replicas c.config) (count enough.0 (replicas c.config)) enough.1) in
        let those = enough.2 in
        let someone = those some.0 some.1 some.2 in
        let done = executes_it c j h first leader x asked some.0 someone.0 someone.1 in (
          done.0,
          (
            enough.0,
            enough.1,
            λ k below t.
                let w = those k below t in
                let own = executes_it c j h first leader x asked k w.0 w.1 in
                let same = one_result c j h k some.0 x.number x.digest own.0 x.digest done.0 w.0 someone.0 own.1 done.1 in
                (w.0, subst (λ (r : List ℕ). HasDone (Executed x.number x.digest r) (j.rows k)) same.1 own.1),
          ),
        )

    -- ---- where nobody installed a snapshot, all execute it

    module _ (nothing : InstallsNothing c j) where
      nobody : (k : ℕ) → IsCorrect c j.faulty k → (n : ℕ) → 1 ≤ n → Jumped n (acts_of k) → ⊥
      nobody k right n one jumped = nothing k jumped.0 (c.hash jumped.1) right ((told c j h k right).installs jumped.0 jumped.1 jumped.2 jumped.3 jumped.4)

      all_done : (x : Fields) → Asked c j h first leader x → (i : ℕ) → IsCorrect c j.faulty i → DoneBy x.number i
      all_done x asked i correct =
          let up = all_reach c j h first leader drained nobody (knows asks spread) x.number x refl asked i correct in
          let one = above_zero c j h first leader drained x asked in
          elim (reaches c i (j.signer i) x.number (acts_of i) (told c j h i correct).is one up) [ inl done ↦ done | inr jumped ↦ absurd (nobody i correct x.number one jumped) ]

      pub all_end : (x : Fields) → ((n : ℕ) → n ≤ x.number → InTime c j h first leader n) → HasProposed x (j.rows (primary c.config 0)) → EachEnds c j (λ i s. x.number ≤ s.executed)
      all_end x in_time proposed i correct s comes =
          let t = told c j h i correct in
          let up = done_reached x.number i correct (all_done x (timely_of c j h first leader x in_time proposed) i correct) in
          let same : core_after c (j.signer i) (acts_of i) ≡ s = t.core_is ∙ one_core c i (j.signer i) (j.rows i) (start_of c (j.signer i)) t.core s t.comes comes in
          subst (λ (u : Core). x.number ≤ u.executed) same up

      pub all_execute : (x : Fields) → ((n : ℕ) → n ≤ x.number → InTime c j h first leader n) → HasProposed x (j.rows (primary c.config 0))
          → (result : List ℕ) × ((i : ℕ) → IsCorrect c j.faulty i → HasDone (Executed x.number x.digest result) (j.rows i))
      all_execute x in_time proposed =
          let lead = primary c.config 0 in
          let asked = timely_of c j h first leader x in_time proposed in
          let w = executes_it c j h first leader x asked lead leader (all_done x asked lead leader) in (
            w.0,
            λ i correct.
                let v = executes_it c j h first leader x asked i correct (all_done x asked i correct) in
                let same = one_result c j h i lead x.number x.digest v.0 x.digest w.0 correct leader v.1 w.1 in
                subst (λ (r : List ℕ). HasDone (Executed x.number x.digest r) (j.rows i)) same.1 v.1,
          )

    -- Where nobody is faulty, all execute it, whatever was installed.
    honest_reach : ((v : ℕ) → v < replicas c.config → j.faulty v ≡ false) → (n : ℕ) → (x : Fields) → x.number ≡ n → Asked c j h first leader x → (i : ℕ) → IsCorrect c j.faulty i → n ≤ (last c j h first leader i).executed
    honest_reach nobody zero x number asked i correct = omega arith
    honest_reach nobody (suc n) x number asked i correct =
        let lower : n ≤ (last c j h first leader i).executed = elim (cases_lt 0 n) [
          | inr none ↦ omega (arith, none)
          | inl some ↦
              let below = signs_below c j h first leader (suc n) (x, number, asked_signs c j h first leader x asked) n (omega (arith, some)) (omega arith) in
              let number_is : below.0.number ≡ n = below.1 in
              let down = signs_asked c j h first leader below.0 (signs_view c j h first leader below.0 below.2) (number_in_time c j h first leader x below.0 asked (omega (arith, number, number_is))) below.2 in
              honest_reach nobody n below.0 below.1 down i correct
        ] in
        let enough = enough_done x.number x refl asked in
        let some = found_outside enough.0 (λ k. false) (replicas c.config) (none_less (replicas c.config) (count enough.0 (replicas c.config)) enough.1) in
        let someone = enough.2 some.0 some.1 some.2 in
        elim (cases_lt (last c j h first leader i).executed (suc n)) [
          | inr up ↦ up
          | inl less ↦ absurd (none_rests_behind c j h first leader drained x asked nobody (knows asks spread x asked) some.0 someone.0 someone.1 i correct (omega (arith, less, lower, number)))
        ]

    pub honest_end : ((v : ℕ) → v < replicas c.config → j.faulty v ≡ false) → (x : Fields) → ((n : ℕ) → n ≤ x.number → InTime c j h first leader n) → HasProposed x (j.rows (primary c.config 0)) → EachEnds c j (λ i s. x.number ≤ s.executed)
    honest_end nobody x in_time proposed i correct s comes =
        let t = told c j h i correct in
        let up = honest_reach nobody x.number x refl (timely_of c j h first leader x in_time proposed) i correct in
        let same : core_after c (j.signer i) (acts_of i) ≡ s = t.core_is ∙ one_core c i (j.signer i) (j.rows i) (start_of c (j.signer i)) t.core s t.comes comes in
        subst (λ (u : Core). x.number ≤ u.executed) same up
