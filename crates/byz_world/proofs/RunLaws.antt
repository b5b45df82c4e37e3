-- Runs of a world, event by event, and what a run answers.
use Rattle.std.proofs.Common.{◌≡◌, ℕ, suc, ◌+◌, ◌<◌, inl, inr, Bool, List, [], ◌∷◌, ◌++◌, length, get_or, take, drop, map, Option, Some, None, Result, Ok, Err, refl, sym, ap, subst, ◌∙◌}
use Rattle.std.specs.Prelude.{MatchOption, IfErr, IfOk, IsErrAnd, is_ok}
use Rattle.std.proofs.lemmas.Bool.{false≢true}
use Rattle.std.proofs.lemmas.List.{append-nil, take-append-drop, take_more}
use Rattle.std.proofs.Math.Seq.{drop-cons}
use Rattle.host_types.specs.Configuration.{Configuration, IsConfiguration}
use Rattle.pbft_agreement.specs.Agreement.{HoldsState}
use Rattle.pbft_model.specs.Core.{Core}
use Rattle.pbft_model.specs.Families.{IsCorrect}
use Rattle.pbft_agreement.specs.Journals.{Agrees, AgreesOver, Journals}
use Rattle.pbft_model.specs.Words.{RequestBody, Signed, SigningState}
use Rattle.replica_journal.specs.Facts.{RowFacts}
use Rattle.replica_journal.specs.Input.{Input}
use Rattle.replica_journal.specs.Input.TheVariants as inputs
use Rattle.replica_journal.specs.Output.{Output}
use Rattle.seal.specs.Opening.{CheckedMessage, opening}
use Rattle.seal.specs.declared.fault.SealFault.{SealFault}
use Rattle.pbft_model.specs.Setup.{setup_of}
use Rattle.byz_world.specs.declared.event.Event.{Event}
use Rattle.byz_world.specs.declared.event.Event.TheVariants as events
use Rattle.byz_world.specs.declared.fault.WorldFault.{WorldFault}
use Rattle.byz_world.specs.declared.fault.WorldFault.TheVariants as faults
use Rattle.byz_world.specs.Worlds.{Answer, AreListed, AtReplica, Comes, Delivers, Forwards, Gives, Hands, Happens, IsHonestReport, IsRefused, IsReported, IsSignedBy, MemberFacts, OutcomeFacts, Passes, Runs, WorldFacts, correct_ids, first_world, member_of, outcome_of, output_of}
use Rattle.byz_world.specs.Procedures.{StaysSafe}
use Rattle.byz_world.specs.Leading.{AreJournalsOf, IsSoundWorld, IsToldOf, LeadsTo, LeadsToSoundWorlds}
use Rattle.byz_world.proofs.HonestLaws.{at_kept, world_agrees, world_family, world_lawful, world_told}
use Rattle.byz_world.proofs.ProcedureLaws.{lawful_safe}
use Rattle.byz_world.proofs.WorldAudits.{world_alike, world_audited}

runs_more : (w : WorldFacts) (es : List Event) (e : Event) (u v : WorldFacts) (row : Option RowFacts) → Runs w es u → Gives u e (Ok row) v → Runs w (es ++ e ∷ []) v
runs_more w [] e u v row runs gives = (row, v, subst (λ (x : WorldFacts). Gives x e (Ok row) v) runs gives, refl)
runs_more w (x ∷ es) e u v row (r, m, first, rest) gives = (r, m, first, runs_more m es e u v row rest gives)

pub run_on : (w : WorldFacts) (es : List Event) (i : ℕ) (e : Event) (u v : WorldFacts) (row : Option RowFacts) → i < length es → e ≡ get_or es i e → Runs w (take i es) u → Gives u e (Ok row) v
    → Runs w (take (i + 1) es) v
run_on w es i e u v row below is runs gives =
    subst (λ (xs : List Event). Runs w xs v) (sym (take_more es i e below ∙ ap (λ (x : Event). take i es ++ x ∷ []) (sym is))) (runs_more w (take i es) e u v row runs gives)

-- ---- refusals

comes_same : (w : WorldFacts) (id : ℕ) (input : Input) (fault : WorldFault) (t : WorldFacts) → Comes w id input (Err fault) t → t ≡ w
comes_same w id input fault t comes = either (member_of w id) comes where
  either : (o : Option MemberFacts) → MatchOption o (Passes w (Err fault) t) (λ m. Hands w m input (Err fault) t) → t ≡ w
  either None passes = passes.1
  either (Some m) (inl gives) = absurd (false≢true (ap is_ok gives.answer))
  either (Some m) (inr gives) = absurd (false≢true (ap is_ok gives.answer))

delivers_same : (w : WorldFacts) (id : ℕ) (x : Result CheckedMessage SealFault) (fault : WorldFault) (t : WorldFacts) → Delivers w id x (Err fault) t → t ≡ w
delivers_same w id (Ok m) fault t comes = comes_same w id _ fault t comes
delivers_same w id (Err f) fault t passes = passes.1

forwards_same : (w : WorldFacts) (id : ℕ) (o : Option Output) (fault : WorldFault) (t : WorldFacts) → Forwards w id o (Err fault) t → t ≡ w
forwards_same w id None fault t refuses = refuses.1
forwards_same w id (Some output) fault t delivers = delivers_same w id _ fault t delivers

pub gives_same : (w : WorldFacts) (event : Event) (fault : WorldFault) (t : WorldFacts) → Gives w event (Err fault) t → t ≡ w
gives_same w (events.Deliver to bytes) fault t gives =
    at_kept w to.0 (Err fault) t (Delivers w to.0 (opening w.config bytes) (Err fault) t) (t ≡ w) (delivers_same w to.0 (opening w.config bytes) fault t) (λ n. n.1) gives
gives_same w (events.Forward to from output) fault t gives =
    let there : Type 0 = Forwards w to.0 (output_of w from.0 output) (Err fault) t in
    at_kept w to.0 (Err fault) t (AtReplica w from.0 (Err fault) t there) (t ≡ w)
    (at_kept w from.0 (Err fault) t there (t ≡ w) (forwards_same w to.0 (output_of w from.0 output) fault t) (λ n. n.1)) (λ n. n.1) gives
gives_same w (events.Timeout at) fault t gives =
    at_kept w at.0 (Err fault) t (Comes w at.0 inputs.Timeout (Err fault) t) (t ≡ w) (comes_same w at.0 inputs.Timeout fault t) (λ n. n.1) gives

whole : (es : List Event) (i : ℕ) (e : Event) → i < length es → e ≡ get_or es i e → es ≡ take i es ++ e ∷ drop (suc i) es
whole es i e below is = sym (ap (λ (x : Event). take i es ++ x ∷ drop (suc i) es) is ∙ ap (λ (xs : List Event). take i es ++ xs) (sym (drop-cons es i e below)) ∙ take-append-drop i es)

pub run_refused : (w : WorldFacts) (es : List Event) (i : ℕ) (e : Event) (u v : WorldFacts) (fault : WorldFault) (r : Result (List OutcomeFacts) WorldFault) → i < length es → e ≡ get_or es i e
    → Runs w (take i es) u → Happens u e (Err fault) v → IsErrAnd r (λ f. f ≡ fault) → IfErr r (IsRefused w es)
run_refused w es i e u v fault (Ok x) below is runs happens err = tt
run_refused w es i e u v fault (Err x) below is runs happens err = subst (IsRefused w es) (sym err) (by fault happens) where
  by : (f : WorldFault) → Happens u e (Err f) v → IsRefused w es f
  by faults.NoSuchReplica gives = (take i es, drop (suc i) es, e, whole es i e below is, (u, runs, subst (Gives u e (Err faults.NoSuchReplica)) (gives_same u e faults.NoSuchReplica v gives) gives))
  by faults.NoSuchOutput gives = (take i es, drop (suc i) es, e, whole es i e below is, (u, runs, subst (Gives u e (Err faults.NoSuchOutput)) (gives_same u e faults.NoSuchOutput v gives) gives))
  by faults.Memory gives = tt

-- ---- worlds that events lead to

pub runs_lead : (w : WorldFacts) (es : List Event) (t : WorldFacts) → Runs w es t → LeadsTo w es t
runs_lead w [] t runs = runs
runs_lead w (e ∷ es) t (row, u, gives, rest) = (Ok row, u, gives, runs_lead u es t rest)

pub leads_more : (w : WorldFacts) (es : List Event) (e : Event) (u v : WorldFacts) (answer : Answer) → LeadsTo w es u → Gives u e answer v → LeadsTo w (es ++ e ∷ []) v
leads_more w [] e u v answer leads gives = (answer, v, subst (λ (x : WorldFacts). Gives x e answer v) leads gives, refl)
leads_more w (x ∷ es) e u v answer (r, m, first, rest) gives = (r, m, first, leads_more m es e u v answer rest gives)

-- what happened without lack of memory
pub happened : (w : WorldFacts) (event : Event) (answer : Answer) (t : WorldFacts) → (answer ≡ Err faults.Memory → ⊥) → Happens w event answer t → Gives w event answer t
happened w event (Ok row) t remembers happens = happens
happened w event (Err faults.NoSuchReplica) t remembers happens = happens
happened w event (Err faults.NoSuchOutput) t remembers happens = happens
happened w event (Err faults.Memory) t remembers happens = absurd (remembers refl)

pub sound_worlds : (c : Configuration) (faulty : ℕ → Bool) (signers : List SigningState) → IsConfiguration c → AreListed c (correct_ids c faulty) signers → LeadsToSoundWorlds c faulty signers
sound_worlds c faulty signers legal listed = λ es t leads. record {
  family = λ j of honest. world_family c faulty signers es t leads j of legal listed honest;
  agrees = λ j of honest. world_agrees c faulty signers es t leads j of legal listed honest;
  audited = λ j of honest. world_audited c faulty signers es t leads j of legal listed honest;
  alike = λ j of honest. world_alike c faulty signers es t leads j of legal listed honest;
  safe = λ j of. lawful_safe (setup_of c) j legal (λ i correct. world_lawful c faulty signers es t leads j of i);
  told = λ j of id m is. world_told c faulty signers es t leads j of id m is;
}

-- ---- what a run reports

of_report : (c : Configuration) (faulty : ℕ → Bool) (signers : List SigningState) (t : WorldFacts) (outcomes : List OutcomeFacts) (j : Journals) → outcomes ≡ map outcome_of t.members
    → IsReported faulty outcomes j → IsSignedBy (correct_ids c faulty) signers j → AreJournalsOf c faulty signers t j
of_report c faulty signers t outcomes j is as_reported signed =
    record { reported = subst (λ (os : List OutcomeFacts). IsReported faulty os j) is as_reported; signed = signed }

pub run_sound : (c : Configuration) (faulty : ℕ → Bool) (signers : List SigningState) (es : List Event) (i : ℕ) (t : WorldFacts) → IsConfiguration c → AreListed c (correct_ids c faulty) signers
    → Runs (first_world c faulty signers) (take i es) t → IsSoundWorld c faulty signers t
run_sound c faulty signers es i t legal listed runs = sound_worlds c faulty signers legal listed (take i es) t (runs_lead (first_world c faulty signers) (take i es) t runs)

pub run_agrees : (c : Configuration) (faulty : ℕ → Bool) (signers : List SigningState) (t : WorldFacts) (r : Result (List OutcomeFacts) WorldFault) → IsSoundWorld c faulty signers t
    → IfOk r (λ outcomes. outcomes ≡ map outcome_of t.members)
    → IfOk r (λ outcomes. (j : Journals) → IsReported faulty outcomes j → IsSignedBy (correct_ids c faulty) signers j → IsHonestReport (setup_of c) j → Agrees (setup_of c) j)
run_agrees c faulty signers t (Ok outcomes) sound is = λ j as_reported signed honest. sound.agrees j (of_report c faulty signers t outcomes j is as_reported signed) honest
run_agrees c faulty signers t (Err fault) sound is = tt

pub run_safe : (c : Configuration) (faulty : ℕ → Bool) (signers : List SigningState) (t : WorldFacts) (r : Result (List OutcomeFacts) WorldFault) → IsSoundWorld c faulty signers t
    → IfOk r (λ outcomes. outcomes ≡ map outcome_of t.members)
    → IfOk r (λ outcomes. (j : Journals) → IsReported faulty outcomes j → IsSignedBy (correct_ids c faulty) signers j → StaysSafe (setup_of c) j)
run_safe c faulty signers t (Ok outcomes) sound is = λ j as_reported signed. sound.safe j (of_report c faulty signers t outcomes j is as_reported signed)
run_safe c faulty signers t (Err fault) sound is = tt
