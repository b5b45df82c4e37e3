-- Agreement over journals: their acts are an honest family of histories.
use Rattle.std.proofs.Common.{◌≡◌, ℕ, zero, suc, ◌+◌, ◌<◌, ◌≤◌, Bool, true, false, cond, List, [], ◌∷◌, ◌++◌, max, Option, refl, sym, ap, subst, ◌∙◌, arith, inl, inr}
use Rattle.std.specs.Prelude.{nat_lt}
use Rattle.std.specs.List.{flat_map}
use Rattle.std.proofs.lemmas.Bool.{true≢false, ltb-true, lt-ltb}
use Rattle.pbft_model.specs.Words.{Signed, Body, RequestBody, ReplyBody, as_message, part_of}
use Rattle.pbft_codec.specs.declared.body.Body.TheVariants as bodies
use Rattle.pbft_model.specs.Sequential.{Service, Outcome}
use Rattle.pbft_model.specs.Setup.{Setup, replicas}
use Rattle.pbft_model.specs.Core.{Core, start_of}
use Rattle.pbft_model.specs.Acts.{Act, Take, Timeout, Send, Relay, Enter, Rise, Execute, Install, after}
use Rattle.pbft_model.specs.Rows.{Row, Output, Done, Executed, Installed, Follows, IsNext, IsLawfulFrom, outputs_of, all_outputs, done_of, all_done, result_of}
use Rattle.pbft_model.specs.Histories.{core_after, IsHistory, IsEarlier, IsIn, HasTaken, HasSigned}
use Rattle.pbft_model.specs.Families.{Family, IsCorrect, IsUnforged, HasExecuted}
use Rattle.pbft_agreement.specs.Agreement.{IsTaken, IsHashed, IsHonest, reached_by, greatest_reached, HoldsState, AgreesOn}
use Rattle.pbft_agreement.specs.Journals.{Journals, HasReceived, HasDone, greatest_in, ComesTo, IsWithin, IsWithinFirst, HadCore, HasReached, IsReceived, IsHashedIn, IsHonestFamily, reached_in, greatest_among, ExecutesEach, IsAccountedFor, IsInstalledFrom, IsLastReply, AgreesOver, Agrees}
use Rattle.pbft_model.proofs.Events.{earlier_trans, history_at}
use Rattle.pbft_agreement.proofs.ByNumber.{agrees, executor}
use Rattle.pbft_model.proofs.Unique.{one_beginning, same_acts}
use Rattle.pbft_agreement.proofs.Reporting.{pushed, earlier_pushed, acts_from, earlier_from, core_from, core_follows, history_from, taken_from, sends, given_from, done_from, executed_from, execution_reported, parted, one_core, number_from}
use Rattle.pbft_agreement.proofs.Within.{follows_first, pushed_append, earlier_first, giving, IsReachedFrom, reached_more, reached_within, reached_rows, one_acts}

module _ (c : Setup) (j : Journals) (h : IsHonestFamily c j) where
  -- ---- the family of histories

  abbrev start : ℕ → Core
  start i = start_of c (j.signer i)

  abbrev pick : (i : ℕ) (a b : Bool) → nat_lt i (replicas c.config) ≡ a → j.faulty i ≡ b → List Act
  pick i true false e f = let w = h.lawful i (ltb-true i (replicas c.config) e, f) in acts_from c i (j.signer i) [] (j.rows i) (start i) w.0 w.1
  pick i true true e f = []
  pick i false b e f = []

  abbrev family : Family
  family = record { faulty = j.faulty; signer = j.signer; acts = λ i. pick i (nat_lt i (replicas c.config)) (j.faulty i) refl refl }

  -- a correct replica's acts are those of its journal
  record Reported (i : ℕ) (acts : List Act) : Type 0 where
    last : Core
    lawful : ComesTo c j i (j.rows i) last
    is : acts ≡ acts_from c i (j.signer i) [] (j.rows i) (start i) last lawful

  reported_by : (i : ℕ) (a b : Bool) (e : nat_lt i (replicas c.config) ≡ a) (f : j.faulty i ≡ b) → IsCorrect c j.faulty i → Reported i (pick i a b e f)
  reported_by i true false e f correct = let w = h.lawful i (ltb-true i (replicas c.config) e, f) in record { last = w.0; lawful = w.1; is = refl }
  reported_by i true true e f correct = absurd (true≢false (sym f ∙ correct.1))
  reported_by i false b e f correct = absurd (true≢false (sym (lt-ltb i (replicas c.config) correct.0) ∙ e))

  reported : (i : ℕ) → IsCorrect c j.faulty i → Reported i (family.acts i)
  reported i correct = reported_by i (nat_lt i (replicas c.config)) (j.faulty i) refl refl correct

  abbrev acts_of : (i : ℕ) → Reported i (family.acts i) → List Act
  acts_of i w = acts_from c i (j.signer i) [] (j.rows i) (start i) w.last w.lawful

  histories : (i : ℕ) → IsCorrect c j.faulty i → IsHistory c i (j.signer i) (family.acts i)
  histories i correct = let w = reported i correct in
      subst (λ (acts : List Act). IsHistory c i (j.signer i) acts) (sym w.is) (history_from c i (j.signer i) [] (j.rows i) (start i) w.last w.lawful refl tt)

  received : (i : ℕ) → IsCorrect c j.faulty i → (m : Signed Body) → HasTaken m (family.acts i) → HasReceived m (j.rows i)
  received i correct m taken = let w = reported i correct in
      elim (taken_from c i (j.signer i) m [] (j.rows i) (start i) w.last w.lawful (subst (λ (acts : List Act). HasTaken m acts) w.is taken)) [ inl none ↦ absurd none | inr is ↦ is ]

  unforged : IsUnforged c family
  unforged = record {
    few = h.few;
    histories = histories;
    real = λ i correct m p taken within role right.
        let given = h.real i correct m p (received i correct m taken) within role right in
        let w = reported p.id right in
        subst (λ (acts : List Act). HasSigned (part_of p) acts) (sym w.is)
        (given_from c p.id (j.signer p.id) (part_of p) [] (j.rows p.id) (start p.id) w.last w.lawful given);
  }

  received_by : (m : Signed Body) → IsTaken c family m → IsReceived c j m
  received_by m (i, correct, taken) = (i, correct, received i correct m taken)

  hashed : (text : List ℕ) → IsHashed c family text → IsHashedIn c j text
  hashed text (inl none) = inl none
  hashed text (inr (inl (m, taken, is))) = inr (inl (m, received_by (as_message bodies.Request m) taken, is))
  hashed text (inr (inr (inl (m, taken, is)))) = inr (inr (inl (m, received_by (as_message bodies.Snapshot m) taken, is)))
  hashed text (inr (inr (inr (i, number, digest, done, is)))) =
      let w = reported i done.correct in
      elim (executed_from c i (j.signer i) number digest done.service done.outcome done.early [] (j.rows i) (start i) w.last w.lawful
      (subst (λ (acts : List Act). IsEarlier (Execute number digest done.service done.outcome ∷ done.early) acts) w.is done.point)) [
        | inl none ↦ absurd (nothing done.early none)
        | inr runs ↦ inr (inr (inr (i, done.service, done.correct, runs, is)))
      ] where
        nothing : (early : List Act) → Execute number digest done.service done.outcome ∷ early ≡ [] → ⊥
        nothing early e = cc

  honest : IsHonest c family
  honest = record {
    configuration = h.configuration;
    unforged = unforged;
    apart = λ x y a b same. h.apart x y (hashed x a) (hashed y b) same;
  }

  -- ---- numbers

  number_is : (i : ℕ) (correct : IsCorrect c j.faulty i) → (core_after c (j.signer i) (family.acts i)).executed ≡ greatest_in (j.rows i)
  number_is i correct =
      let w = reported i correct in
      let last : core_after c (j.signer i) (family.acts i) ≡ w.last = ap (core_after c (j.signer i)) w.is ∙ core_from c i (j.signer i) [] (j.rows i) (start i) w.last w.lawful refl in
      let number = number_from c i (j.signer i) [] (j.rows i) (start i) w.last w.lawful refl tt in
      ap (λ (s : Core). s.executed) last ∙ number ∙ from_zero (greatest_in (j.rows i)) where
        from_zero : (n : ℕ) → max 0 n ≡ n
        from_zero n = omega arith

  same_reached : (i : ℕ) → i < replicas c.config → reached_by c family i ≡ reached_in j i
  same_reached i lt = split (j.faulty i) refl where
    split : (b : Bool) → j.faulty i ≡ b → cond b 0 (core_after c (j.signer i) (family.acts i)).executed ≡ cond b 0 (greatest_in (j.rows i))
    split true e = refl
    split false e = number_is i (lt, e)

  same_greatest : (n : ℕ) → n ≤ replicas c.config → greatest_reached c family n ≡ greatest_among j n
  same_greatest zero le = refl
  same_greatest (suc n) le =
      let one = same_reached n (omega (arith, le)) in
      let rest = same_greatest n (omega (arith, le)) in
      λ k. max (one k) (rest k)

  executed_in : (i number : ℕ) (digest : List ℕ) (w : HasExecuted c family i number digest) → HasDone (Executed number digest (result_of w.outcome.reply)) (j.rows i)
  executed_in i number digest w =
      let r = reported i w.correct in
      elim (execution_reported c i (j.signer i) number digest w.service w.outcome w.early [] (j.rows i) (start i) r.last r.lawful
      (subst (λ (acts : List Act). IsEarlier (Execute number digest w.service w.outcome ∷ w.early) acts) r.is w.point)) [
        | inl none ↦ absurd (nothing w.early none)
        | inr done ↦ done
      ] where
        nothing : (early : List Act) → Execute number digest w.service w.outcome ∷ early ≡ [] → ⊥
        nothing early e = cc

  pub each_executed : ExecutesEach c j
  each_executed n lt =
      let same : greatest_reached c family (replicas c.config) ≡ greatest_among j (replicas c.config) = same_greatest (replicas c.config) (omega arith) in
      let w = executor c family honest n (omega (arith, lt, same)) in
      let next : suc n ≡ n + 1 = omega arith in (
        w.replica,
        w.digest,
        result_of w.done.outcome.reply,
        w.done.correct,
        subst (λ (k : ℕ). HasDone (Executed k w.digest (result_of w.done.outcome.reply)) (j.rows w.replica)) next (executed_in w.replica (suc n) w.digest w.done),
      )

  -- ---- what the list accounts for

  module _ (entries : List (Option (Signed RequestBody))) (on : AgreesOn c family entries) where
    -- the acts of a journal in two parts, where it has these rows up to this core
    record Parts (i : ℕ) (early : List Act) (s : Core) (rest : List Row) : Type 0 where
      last : Core
      lawful : IsLawfulFrom c i s rest last
      is : family.acts i ≡ acts_from c i (j.signer i) early rest s last lawful

    abbrev acts_to : (i : ℕ) (rows : List Row) (s : Core) → ComesTo c j i rows s → List Act
    acts_to i rows s comes = acts_from c i (j.signer i) [] rows (start i) s comes

    parts_of : (i : ℕ) → IsCorrect c j.faulty i → (rows rest : List Row) → j.rows i ≡ rows ++ rest → (s : Core) (comes : ComesTo c j i rows s) → Parts i (acts_to i rows s comes) s rest
    parts_of i correct rows rest is s comes = subst P (sym is) whole (reported i correct).last (reported i correct).lawful (reported i correct).is where
      P : List Row → Type 0
      P all = (last : Core) (w : IsLawfulFrom c i (start i) all last) → family.acts i ≡ acts_from c i (j.signer i) [] all (start i) last w → Parts i (acts_to i rows s comes) s rest

      whole : P (rows ++ rest)
      whole last w same =
          let p = parted c i (j.signer i) [] rows rest (start i) last w in
          let first : acts_to i rows p.mid p.first ≡ acts_to i rows s comes = one_acts c i (j.signer i) rows [] (start i) p.mid s p.first comes in
          let acts = same ∙ p.same ∙ ap (λ (early : List Act). acts_from c i (j.signer i) early rest p.mid last p.second) first in
          let Q : Core → Type 0 = λ (mid : Core). (second : IsLawfulFrom c i mid rest last) → family.acts i ≡ acts_from c i (j.signer i) (acts_to i rows s comes) rest mid last second → Parts i (acts_to i rows s comes) s rest in
          let here : Q s = λ second e. record { last = last; lawful = second; is = e } in
          subst Q (sym (one_core c i (j.signer i) rows (start i) p.mid s p.first comes)) here p.second acts

    lawful_to : (i : ℕ) → IsCorrect c j.faulty i → (rows rest : List Row) → j.rows i ≡ rows ++ rest → (s : Core) × ComesTo c j i rows s
    lawful_to i correct rows rest is =
        let w = reported i correct in
        let p = parted c i (j.signer i) [] rows rest (start i) w.last (subst (λ (rs : List Row). IsLawfulFrom c i (start i) rs w.last) is w.lawful) in
        (p.mid, p.first)

    core_to : (i : ℕ) (rows : List Row) (s : Core) (comes : ComesTo c j i rows s) → core_after c (j.signer i) (acts_to i rows s comes) ≡ s
    core_to i rows s comes = core_from c i (j.signer i) [] rows (start i) s comes refl

    -- behind rows
    behind : (i : ℕ) → IsCorrect c j.faulty i → (rows rest : List Row) → j.rows i ≡ rows ++ rest → (s : Core) → ComesTo c j i rows s → HoldsState c entries s
    behind i correct rows rest is s comes =
        let w = parts_of i correct rows rest is s comes in
        let acts = acts_to i rows s comes in
        let point = subst (λ (xs : List Act). IsEarlier acts xs) (sym w.is) (earlier_from c i (j.signer i) acts rest s w.last w.lawful) in
        subst (λ (t : Core). HoldsState c entries t) (core_to i rows s comes) (on.states i correct acts point)

    -- the acts of a row are in the history
    row_earlier : (i : ℕ) (early : List Act) (s : Core) (row : Row) (rest : List Row) (w : Parts i early s (row ∷ rest)) (last : Core) (next : IsNext c i s row last)
        → IsEarlier (pushed (next.first ∷ next.acts) early) (family.acts i)
    row_earlier i early s row rest w last next = at w.last w.lawful w.is where
      at : (end : Core) (lawful : IsLawfulFrom c i s (row ∷ rest) end) → family.acts i ≡ acts_from c i (j.signer i) early (row ∷ rest) s end lawful → IsEarlier (pushed (next.first ∷ next.acts) early) (family.acts i)
      at end (u, next', others) same =
          let first = one_beginning c i row.input next'.first next.first next'.begins next.begins in
          let alike = same_acts c i s u last row row refl next' next in
          let acts : pushed (next'.first ∷ next'.acts) early ≡ pushed (next.first ∷ next.acts) early = λ k. pushed (first k ∷ alike.0 k) early in
          let done : List Act = pushed (next'.first ∷ next'.acts) early in
          subst (λ (xs : List Act). IsEarlier xs (family.acts i)) acts
          (subst (λ (xs : List Act). IsEarlier done xs) (sym same) (earlier_from c i (j.signer i) done rest u end others))

    -- within a row
    within_row : (i : ℕ) → IsCorrect c j.faulty i → (rows rest : List Row) (row : Row) → j.rows i ≡ rows ++ row ∷ rest → (s t : Core) → ComesTo c j i rows s → IsWithin c i s row t → HoldsState c entries t
    within_row i correct rows rest row is s t comes w =
        let early = acts_to i rows s comes in
        let acts = pushed (w.next.first ∷ w.acts) early in
        let whole = row_earlier i early s row rest (parts_of i correct rows (row ∷ rest) is s comes) w.last w.next in
        let point = earlier_trans acts (pushed (w.next.first ∷ w.next.acts) early) (family.acts i) (earlier_first w.next.acts w.acts w.later (w.next.first ∷ early) w.splits) whole in
        let follows = subst (λ (x : Core). Follows c i (after c x w.next.first) w.acts t) (sym (core_to i rows s comes)) w.follows in
        let core_is = core_follows c i (j.signer i) w.acts (w.next.first ∷ early) t follows in
        subst (λ (x : Core). HoldsState c entries x) core_is (on.states i correct acts point)

    within_first : (i : ℕ) → IsCorrect c j.faulty i → (rows rest : List Row) → j.rows i ≡ rows ++ rest → (s t : Core) → ComesTo c j i rows s → IsWithinFirst c i s rest t → HoldsState c entries t
    within_first i correct rows [] is s t comes none = absurd none
    within_first i correct rows (row ∷ rest) is s t comes w = within_row i correct rows rest row is s t comes w

    states : (i : ℕ) → IsCorrect c j.faulty i → (s : Core) → HadCore c j i s → HoldsState c entries s
    states i correct s w = elim w.there [
      | inl same ↦ subst (λ (t : Core). HoldsState c entries t) (sym same) (behind i correct w.rows w.rest w.splits w.core w.comes)
      | inr within ↦ within_first i correct w.rows w.rest w.splits w.core s w.comes within
    ]

    executed_act : (number : ℕ) (digest result : List ℕ) (a : Act) → IsIn (Executed number digest result) (done_of c a)
        → (t : Service) × (o : Outcome) × (a ≡ Execute number digest t o) × (result ≡ result_of o.reply)
    executed_act number digest result (Take m r) none = absurd none
    executed_act number digest result Timeout none = absurd none
    executed_act number digest result (Send to m) none = absurd none
    executed_act number digest result (Relay to m) none = absurd none
    executed_act number digest result (Enter m) none = absurd none
    executed_act number digest result (Rise n d) none = absurd none
    executed_act number digest result (Execute n d t o) (inl same) =
        let parts = fields number n digest d result (result_of o.reply) same in
        (t, o, (λ k. Execute (sym parts.0 k) (sym parts.1 k) t o), parts.2) where
          fields : (number n : ℕ) (digest d result r : List ℕ) → Executed number digest result ≡ Executed n d r → (number ≡ n) × (digest ≡ d) × (result ≡ r)
          fields number n digest d result r e = (cc, cc, cc)
    executed_act number digest result (Execute n d t o) (inr none) = absurd none
    executed_act number digest result (Install n b t) (inl same) = absurd (never same) where
      never : Executed number digest result ≡ Installed n (c.hash b) → ⊥
      never e = cc
    executed_act number digest result (Install n b t) (inr none) = absurd none

    accounted : (i number : ℕ) (digest result : List ℕ) → IsCorrect c j.faulty i → HasDone (Executed number digest result) (j.rows i) → IsAccountedFor c entries number digest result
    accounted i number digest result correct done =
        let w = reported i correct in
        let a = done_from c i (j.signer i) (Executed number digest result) [] (j.rows i) (start i) w.last w.lawful done in
        let e = executed_act number digest result a.0 a.3 in
        let point : IsEarlier (Execute number digest e.0 e.1 ∷ a.1) (family.acts i) =
        subst (λ (acts : List Act). IsEarlier (Execute number digest e.0 e.1 ∷ a.1) acts) (sym w.is) (subst (λ (b : Act). IsEarlier (b ∷ a.1) (acts_of i w)) e.2 a.2) in
        let k = on.executed i number digest (record { correct = correct; service = e.0; outcome = e.1; early = a.1; point = point }) in
        record {
          not_zero = k.not_zero;
          entry = k.entry;
          is_entry = k.is_entry;
          digest_is = k.digest_is;
          state = e.0;
          earlier = k.earlier;
          outcome = e.1;
          serves = k.serves;
          result_is = e.3;
        }

    installed_act : (number : ℕ) (digest : List ℕ) (a : Act) → IsIn (Installed number digest) (done_of c a)
        → (bytes : List ℕ) × (t : Service) × (a ≡ Install number bytes t) × (digest ≡ c.hash bytes)
    installed_act number digest (Take m r) none = absurd none
    installed_act number digest Timeout none = absurd none
    installed_act number digest (Send to m) none = absurd none
    installed_act number digest (Relay to m) none = absurd none
    installed_act number digest (Enter m) none = absurd none
    installed_act number digest (Rise n d) none = absurd none
    installed_act number digest (Execute n d t o) (inl same) = absurd (never same) where
      never : Installed number digest ≡ Executed n d (result_of o.reply) → ⊥
      never e = cc
    installed_act number digest (Execute n d t o) (inr none) = absurd none
    installed_act number digest (Install n b t) (inl same) =
        let parts = fields number n digest (c.hash b) same in
        (b, t, (λ k. Install (sym parts.0 k) b t), parts.1) where
          fields : (number n : ℕ) (digest d : List ℕ) → Installed number digest ≡ Installed n d → (number ≡ n) × (digest ≡ d)
          fields number n digest d e = (cc, cc)
    installed_act number digest (Install n b t) (inr none) = absurd none

    installed_from : (i number : ℕ) (digest : List ℕ) → IsCorrect c j.faulty i → HasDone (Installed number digest) (j.rows i) → IsInstalledFrom c entries number digest
    installed_from i number digest correct done =
        let w = reported i correct in
        let a = done_from c i (j.signer i) (Installed number digest) [] (j.rows i) (start i) w.last w.lawful done in
        let e = installed_act number digest a.0 a.3 in
        let point : IsEarlier (Install number e.0 e.1 ∷ a.1) (family.acts i) =
        subst (λ (acts : List Act). IsEarlier (Install number e.0 e.1 ∷ a.1) acts) (sym w.is) (subst (λ (b : Act). IsEarlier (b ∷ a.1) (acts_of i w)) e.2 a.2) in
        let held = on.states i correct (Install number e.0 e.1 ∷ a.1) point in
        let ok = (history_at c i (j.signer i) (Install number e.0 e.1 ∷ a.1) (family.acts i) point (histories i correct)).1 in
        record {
          within = held.within;
          state = e.1;
          outcomes = held.outcomes;
          serves = held.serves;
          digest_is = e.3 ∙ ap c.hash (sym ok.reads.encodes);
        }

    -- a number that isn't 0 was reached
    reached_one : (i : ℕ) (t : Core) (items : List Done) → 1 ≤ t.executed → IsReachedFrom (start i) t items → HasReached t.executed items
    reached_one i t items above (inl none) = absurd (omega (arith, above, none))
    reached_one i t items above (inr reached) = reached

    replied : (i : ℕ) (rows rest : List Row) (row : Row) (output : Output) (b : ReplyBody) → IsCorrect c j.faulty i → j.rows i ≡ rows ++ row ∷ rest
        → IsIn output row.outputs → output.own ≡ true → output.message.body ≡ bodies.Reply b → IsLastReply c j entries i rows row output b
    replied i rows rest row output b correct is within own body_is =
        let lawful = lawful_to i correct rows (row ∷ rest) is in
        let whole = parts_of i correct rows (row ∷ rest) is lawful.0 lawful.1 in
        at lawful.0 lawful.1 whole whole.last whole.lawful where
          earlier_sent : (acts xs ys : List Act) (first : Act) (early : List Act) → acts ≡ xs ++ Send output.to output.message ∷ ys
              → IsEarlier (Send output.to output.message ∷ pushed (first ∷ xs) early) (pushed (first ∷ acts) early)
          earlier_sent acts xs ys first early e =
              subst (λ (zs : List Act). IsEarlier (Send output.to output.message ∷ pushed (first ∷ xs) early) zs)
              (sym (ap (λ (zs : List Act). pushed zs (first ∷ early)) e ∙ pushed_append xs (Send output.to output.message ∷ ys) (first ∷ early)))
              (earlier_pushed ys (Send output.to output.message ∷ pushed (first ∷ xs) early))

          at : (s : Core) (comes : ComesTo c j i rows s) (whole : Parts i (acts_to i rows s comes) s (row ∷ rest)) (end : Core) → IsLawfulFrom c i s (row ∷ rest) end → IsLastReply c j entries i rows row output b
          at s comes whole end (u, next, others) =
              let early = acts_to i rows s comes in
              let w = giving outputs_of all_outputs refl (λ a later. refl) output next.acts (subst (λ (os : List Output). IsIn output os) next.outputs within) in
              let send = sends c i (j.signer i) output w.act w.gives own in
              let splits : next.acts ≡ w.earlier ++ Send output.to output.message ∷ w.later = w.splits ∙ ap (λ (a : Act). w.earlier ++ a ∷ w.later) send in
              let acts = pushed (next.first ∷ w.earlier) early in
              let from = follows_first c i w.earlier (Send output.to output.message ∷ w.later) (after c s next.first) u (subst (λ (zs : List Act). Follows c i (after c s next.first) zs u) splits next.reacts.follows) in
              let point = earlier_trans (Send output.to output.message ∷ acts) (pushed (next.first ∷ next.acts) early) (family.acts i) (earlier_sent next.acts w.earlier w.later next.first early splits)
              (row_earlier i early s row rest whole u next) in
              let kept = on.replies i output.to output.message b acts correct point body_is in
              let reached = reached_more (start i) (core_after c (j.signer i) early) (core_after c (j.signer i) acts) (flat_map (λ row. row.done) rows) (all_done c w.earlier)
              (reached_rows c i (j.signer i) rows [] (start i) s comes) (reached_within c i (j.signer i) early w.earlier s u row next) in
              record {
                core = s;
                comes = comes;
                sent = record { last = u; next = next; earlier = w.earlier; later = w.later; splits = splits; from = from.0; follows = from.1 };
                number = (core_after c (j.signer i) acts).executed;
                reached = reached_one i (core_after c (j.signer i) acts) (flat_map (λ row. row.done) rows ++ all_done c w.earlier) kept.not_zero reached;
                kept = kept;
              }

    over : AgreesOver c j entries
    over = record {
      as_long = on.as_long ∙ same_greatest (replicas c.config) (omega arith);
      asked = on.asked;
      received = λ m at. received_by (as_message bodies.Request m) (on.taken m at);
      states = states;
      executed = accounted;
      installed = installed_from;
      replies = replied;
    }

  pub agrees_over : Agrees c j
  agrees_over = let w = agrees c family honest in (w.0, over w.0 w.1)
