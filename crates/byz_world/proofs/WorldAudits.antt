-- The members of a world are its correct replicas: an audit of their rows finds no fault, and equal numbers have equal states.
use Rattle.std.proofs.Common.{◌≡◌, ℕ, zero, suc, ◌+◌, ◌<◌, ◌≤◌, inl, inr, Bool, true, false, not, cond, eqb, List, [], ◌∷◌, find, length, map, take, Option, Some, None, Result, Ok, Err, refl, sym, ap, subst, ◌∙◌, arith}
use Rattle.std.specs.Prelude.{filter, is_some, MatchOption}
use Rattle.std.specs.List.{range_with_len}
use Rattle.std.specs.Option.{option_map}
use Rattle.std.proofs.lemmas.Bool.{false≢true, eqb-true, eq-eqb, ne_eqb}
use Rattle.std.proofs.lemmas.List.{append-nil, length-map, length-take-le}
use Rattle.std.proofs.lemmas.Option.{same_Some}
use Rattle.host_types.specs.Configuration.{Configuration, IsConfiguration, replicas_for}
use Rattle.host_types.specs.declared.request.Request.{Request}
use Rattle.pbft_agreement.specs.Agreement.{HoldsState, requests_in}
use Rattle.pbft_agreement.specs.Journals.{AgreesOver, Journals}
use Rattle.pbft_model.specs.Core.{Core}
use Rattle.pbft_model.specs.Families.{IsCorrect}
use Rattle.pbft_model.specs.Histories.{IsIn}
use Rattle.pbft_model.specs.Rows.{Row}
use Rattle.pbft_model.specs.Setup.{request_in, setup_of}
use Rattle.pbft_model.specs.Words.{RequestBody, Signed, SigningState}
use Rattle.replica_journal.specs.Facts.{RowFacts, row_of}
use Rattle.replica_journal.specs.Input.{Input}
use Rattle.replica_journal.specs.Input.TheVariants as inputs
use Rattle.replica_journal.specs.Output.{Output}
use Rattle.seal.specs.Opening.{CheckedMessage, opening}
use Rattle.seal.specs.declared.fault.SealFault.{SealFault}
use Rattle.service_model.proofs.Determined.{same_follows}
use Rattle.service_model.specs.Steps.{Follows, IsStep}
use Rattle.service_model.specs.TenantStates.{Service, genesis_of}
use Rattle.service_model.specs.declared.outcome.Outcome.{Outcome}
use Rattle.byz_world.specs.Audits.{IsAudit}
use Rattle.byz_world.specs.Leading.{AreJournalsOf, HoldOneState, IsToldOf, LeadsTo}
use Rattle.byz_world.specs.Records.{AreRecords, FindsNoFault}
use Rattle.byz_world.specs.Worlds.{Answer, AreListed, AtReplica, Comes, Delivers, Forwards, Gives, Hands, IsHonestReport, MemberFacts, Passes, Refuses, WorldFacts, correct_ids, first_members, first_world, member_of, outcome_of, output_of, rows_in}
use Rattle.byz_world.specs.declared.audit_fault.AuditFault.{AuditFault}
use Rattle.byz_world.specs.declared.event.Event.{Event}
use Rattle.byz_world.specs.declared.event.Event.TheVariants as events
use Rattle.byz_world.specs.declared.fault.WorldFault.TheVariants as faults
use Rattle.byz_world.specs.declared.history.Execution.{Execution}
use Rattle.byz_world.proofs.HonestLaws.{among, at_kept, found_rows, world_agrees, world_family, world_told}
use Rattle.byz_world.proofs.RecordLaws.{in_mapped, mapped_in, records_pass}

-- ---- events keep the ids

abbrev me_of : MemberFacts → ℕ
me_of m = m.replica.me

abbrev ids_of : List MemberFacts → List ℕ
ids_of ms = map me_of ms

abbrev put : MemberFacts → MemberFacts → MemberFacts
put t x = cond (eqb x.replica.me t.replica.me) t x

put_ids : (t : MemberFacts) (ms : List MemberFacts) → ids_of (map (put t) ms) ≡ ids_of ms
put_ids t [] = refl
put_ids t (m ∷ ms) = let first = same (eqb m.replica.me t.replica.me) refl in let rest = put_ids t ms in λ i. first i ∷ rest i where
  same : (b : Bool) → eqb m.replica.me t.replica.me ≡ b → me_of (cond b t m) ≡ me_of m
  same true is = sym (eqb-true m.replica.me t.replica.me is)
  same false is = refl

passes_ids : (w : WorldFacts) (r : Answer) (t : WorldFacts) → Passes w r t → ids_of t.members ≡ ids_of w.members
passes_ids w r t passes = ap (λ (x : WorldFacts). ids_of x.members) passes.1

refused_ids : (w : WorldFacts) (r : Answer) (t : WorldFacts) → Refuses faults.NoSuchReplica w r t → ids_of t.members ≡ ids_of w.members
refused_ids w r t refuses = ap (λ (x : WorldFacts). ids_of x.members) refuses.1

hands_ids : (w : WorldFacts) (m : MemberFacts) (input : Input) (r : Answer) (t : WorldFacts) → Hands w m input r t → ids_of t.members ≡ ids_of w.members
hands_ids w m input r t (inl gives) = ap (λ (x : WorldFacts). ids_of x.members) gives.new ∙ put_ids _ w.members
hands_ids w m input r t (inr gives) = ap (λ (x : WorldFacts). ids_of x.members) gives.new ∙ put_ids _ w.members

comes_ids : (w : WorldFacts) (id : ℕ) (input : Input) (r : Answer) (t : WorldFacts) → Comes w id input r t → ids_of t.members ≡ ids_of w.members
comes_ids w id input r t comes = either (member_of w id) comes where
  either : (o : Option MemberFacts) → MatchOption o (Passes w r t) (λ m. Hands w m input r t) → ids_of t.members ≡ ids_of w.members
  either None passes = passes_ids w r t passes
  either (Some m) hands = hands_ids w m input r t hands

delivers_ids : (w : WorldFacts) (id : ℕ) (x : Result CheckedMessage SealFault) (r : Answer) (t : WorldFacts) → Delivers w id x r t → ids_of t.members ≡ ids_of w.members
delivers_ids w id (Ok m) r t comes = comes_ids w id _ r t comes
delivers_ids w id (Err fault) r t passes = passes_ids w r t passes

forwards_ids : (w : WorldFacts) (id : ℕ) (o : Option Output) (r : Answer) (t : WorldFacts) → Forwards w id o r t → ids_of t.members ≡ ids_of w.members
forwards_ids w id None r t refuses = ap (λ (x : WorldFacts). ids_of x.members) refuses.1
forwards_ids w id (Some output) r t delivers = delivers_ids w id _ r t delivers

gives_ids : (w : WorldFacts) (event : Event) (r : Answer) (t : WorldFacts) → Gives w event r t → ids_of t.members ≡ ids_of w.members
gives_ids w (events.Deliver to bytes) r t gives =
    at_kept w to.0 r t (Delivers w to.0 (opening w.config bytes) r t) (ids_of t.members ≡ ids_of w.members) (delivers_ids w to.0 (opening w.config bytes) r t) (refused_ids w r t) gives
gives_ids w (events.Forward to from output) r t gives =
    let there : Type 0 = Forwards w to.0 (output_of w from.0 output) r t in
    at_kept w to.0 r t (AtReplica w from.0 r t there) (ids_of t.members ≡ ids_of w.members)
    (at_kept w from.0 r t there (ids_of t.members ≡ ids_of w.members) (forwards_ids w to.0 (output_of w from.0 output) r t) (refused_ids w r t)) (refused_ids w r t) gives
gives_ids w (events.Timeout at) r t gives =
    at_kept w at.0 r t (Comes w at.0 inputs.Timeout r t) (ids_of t.members ≡ ids_of w.members) (comes_ids w at.0 inputs.Timeout r t) (refused_ids w r t) gives

leads_ids : (w : WorldFacts) (es : List Event) (t : WorldFacts) → LeadsTo w es t → ids_of t.members ≡ ids_of w.members
leads_ids w [] t leads = ap (λ (x : WorldFacts). ids_of x.members) leads
leads_ids w (e ∷ es) t (answer, u, gives, rest) = leads_ids u es t rest ∙ gives_ids w e answer u gives

first_ids : (c : Configuration) (ids : List ℕ) (signers : List SigningState) → AreListed c ids signers → ids_of (first_members c ids signers) ≡ ids
first_ids c [] signers listed = refl
first_ids c (id ∷ ids) [] listed = absurd listed
first_ids c (id ∷ ids) (signer ∷ signers) listed = let rest = first_ids c ids signers listed.1 in λ i. id ∷ rest i

-- ---- ids of correct replicas

-- a number that stands there is in the range, and passes
pub record IsAmong (p : ℕ → Bool) (a n x : ℕ) : Type 0 where
  pub from : a ≤ x
  pub below : x < a + n
  pub passes : p x ≡ true

is_among : (p : ℕ → Bool) (a n x : ℕ) → IsIn x (filter p (range_with_len a n)) → IsAmong p a n x
is_among p a zero x at = absurd at
is_among p a (suc n) x at = either (p a) refl at (λ more. is_among p (a + 1) n x more) where
  later : IsAmong p (a + 1) n x → IsAmong p a (suc n) x
  later is = let from = is.from in let below = is.below in record { from = omega (arith, from); below = omega (arith, below); passes = is.passes }

  either : (b : Bool) → p a ≡ b → IsIn x (cond b (a ∷ filter p (range_with_len (a + 1) n)) (filter p (range_with_len (a + 1) n)))
      → (IsIn x (filter p (range_with_len (a + 1) n)) → IsAmong p (a + 1) n x) → IsAmong p a (suc n) x
  either true is (inl same) more = record { from = omega (arith, same); below = omega (arith, same); passes = ap p same ∙ is }
  either true is (inr at) more = later (more at)
  either false is at more = later (more at)

-- no number stands there twice
Apart : List ℕ → Type 0
Apart [] = Unit {0}
Apart (x ∷ xs) = ((y : ℕ) → IsIn y xs → eqb x y ≡ false) × Apart xs

ranged_apart : (p : ℕ → Bool) (a n : ℕ) → Apart (filter p (range_with_len a n))
unfolding Apart
ranged_apart p a zero = tt
ranged_apart p a (suc n) = either (p a) (ranged_apart p (a + 1) n) where
  either : (b : Bool) → Apart (filter p (range_with_len (a + 1) n)) → Apart (cond b (a ∷ filter p (range_with_len (a + 1) n)) (filter p (range_with_len (a + 1) n)))
  either true rest = (λ y at. ne_eqb a y (λ same. let from = (is_among p (a + 1) n y at).from in absurd (omega (arith, from, same))), rest)
  either false rest = rest

-- what is reported of a member's id are its rows
own_rows : (ms : List MemberFacts) → Apart (ids_of ms) → (m : MemberFacts) → IsIn m ms → rows_in (map outcome_of ms) m.replica.me ≡ m.rows
unfolding Apart
own_rows [] apart m at = absurd at
own_rows (x ∷ ms) apart m (inl here) =
    subst (λ (y : MemberFacts). rows_in (map outcome_of (x ∷ ms)) y.replica.me ≡ y.rows) (sym here)
    (ap (λ (b : Bool). cond b x.rows (rows_in (map outcome_of ms) x.replica.me)) (eq-eqb x.replica.me x.replica.me refl))
own_rows (x ∷ ms) apart m (inr later) =
    ap (λ (b : Bool). cond b x.rows (rows_in (map outcome_of ms) m.replica.me)) (apart.0 m.replica.me (in_mapped me_of m ms later)) ∙ own_rows ms apart.1 m later

found_in : (p : MemberFacts → Bool) (ms : List MemberFacts) (m : MemberFacts) → find p ms ≡ Some m → IsIn m ms
found_in p [] m is = absurd (false≢true (ap is_some is))
found_in p (x ∷ ms) m is = either (p x) is (λ later. found_in p ms m later) where
  either : (b : Bool) → cond b (Some x) (find p ms) ≡ Some m → (find p ms ≡ Some m → IsIn m ms) → IsIn m (x ∷ ms)
  either true here later = inl (sym (same_Some _ _ here))
  either false there later = inr (later there)

-- ---- numbers of states

step_counts : (s : Service) (request : Option Request) (t : Service) (o : Outcome) → IsStep s request t o → t.number ≡ s.number + 1
step_counts s None t o h = ap (λ (x : Service). x.number) h.0
step_counts s (Some request) t o h = ap (λ (x : Service). x.number) h.state_is

counted : (s : Service) (requests : List (Option Request)) (t : Service) (outcomes : List Outcome) → Follows s requests t outcomes → t.number ≡ s.number + length requests
counted s [] t outcomes h = let same : t.number ≡ s.number = ap (λ (x : Service). x.number) h.0 in omega (arith, same)
counted s (request ∷ requests) t outcomes (mid, o, os, step, rest, is) =
    let first = step_counts s request mid o step in
    let more = counted mid requests t os rest in
    omega (arith, first, more)

held_number : (c : Configuration) (entries : List (Option (Signed RequestBody))) (s : Core) → HoldsState (setup_of c) entries s → s.service.number ≡ s.executed
held_number c entries s holds =
    let many : length (requests_in (take s.executed entries)) ≡ s.executed = length-map (take s.executed entries) (option_map request_in) ∙ length-take-le s.executed entries holds.within in
    let counts = counted (genesis_of c) (requests_in (take s.executed entries)) s.service holds.outcomes holds.serves in
    omega (arith, many, counts)

held_alike : (c : Configuration) (entries : List (Option (Signed RequestBody))) (s u : Core) → HoldsState (setup_of c) entries s → HoldsState (setup_of c) entries u
    → s.service.number ≡ u.service.number → s.service ≡ u.service
held_alike c entries s u a b same =
    let equal : u.executed ≡ s.executed = sym (held_number c entries u b) ∙ sym same ∙ held_number c entries s a in
    (same_follows (genesis_of c) (requests_in (take s.executed entries)) s.service u.service a.outcomes b.outcomes a.serves
    (subst (λ (n : ℕ). Follows (genesis_of c) (requests_in (take n entries)) u.service b.outcomes) equal b.serves)).0

pub told_state : (c : Configuration) (j : Journals) (id : ℕ) (m : MemberFacts) (s : Core) (entries : List (Option (Signed RequestBody))) → IsToldOf c j id m → m.replica.core ≡ Some s
    → IsCorrect (setup_of c) j.faulty id → AgreesOver (setup_of c) j entries → HoldsState (setup_of c) entries s
told_state c j id m s entries told is correct over =
    over.states id correct s (record { rows = j.rows id; rest = []; splits = sym (append-nil (j.rows id)); core = told.last; comes = told.comes; there = inl (told.core_is s is) })

-- ---- a world that events led to

module _ (c : Configuration) (faulty : ℕ → Bool) (signers : List SigningState) (es : List Event) (t : WorldFacts) (leads : LeadsTo (first_world c faulty signers) es t) (j : Journals)
    (of : AreJournalsOf c faulty signers t j) (legal : IsConfiguration c) (listed : AreListed c (correct_ids c faulty) signers) (honest : IsHonestReport (setup_of c) j) where
  ids_are : ids_of t.members ≡ correct_ids c faulty
  ids_are = leads_ids (first_world c faulty signers) es t leads ∙ first_ids c (correct_ids c faulty) signers listed

  apart : Apart (ids_of t.members)
  apart = subst Apart (sym ids_are) (ranged_apart (λ i. not (faulty i)) 0 (replicas_for c.f))

  negated : (b : Bool) → not b ≡ true → b ≡ false
  negated true is = absurd (false≢true is)
  negated false is = refl

  is_correct : (m : MemberFacts) → IsIn m t.members → IsCorrect (setup_of c) j.faulty m.replica.me
  is_correct m at =
      let is = is_among (λ i. not (faulty i)) 0 (replicas_for c.f) m.replica.me (subst (IsIn m.replica.me) ids_are (in_mapped me_of m t.members at)) in
      let below = is.below in
      (omega (arith, below), ap (λ (f : ℕ → Bool). f m.replica.me) of.reported.faulty_is ∙ negated (faulty m.replica.me) is.passes)

  rows_are : (m : MemberFacts) → IsIn m t.members → j.rows m.replica.me ≡ map row_of m.rows
  rows_are m at = of.reported.rows_are m.replica.me ∙ ap (map row_of) (own_rows t.members apart m at)

  each : (rows : List RowFacts) → IsIn rows (map (λ (m : MemberFacts). m.rows) t.members) → (i : ℕ) × IsCorrect (setup_of c) j.faulty i × (j.rows i ≡ map row_of rows)
  each rows at = let w = mapped_in (λ (m : MemberFacts). m.rows) rows t.members at in (w.0.replica.me, is_correct w.0 w.1, rows_are w.0 w.1 ∙ ap (map row_of) w.2)

  all : (i : ℕ) → IsCorrect (setup_of c) j.faulty i → (rows : List RowFacts) × IsIn rows (map (λ (m : MemberFacts). m.rows) t.members) × (j.rows i ≡ map row_of rows)
  all i correct =
      let within = among (λ (n : ℕ). not (faulty n)) i 0 (replicas_for c.f) (omega arith) (omega (arith, correct.0)) (ap not (sym (ap (λ (f : ℕ → Bool). f i) of.reported.faulty_is) ∙ correct.1)) in
      let w = mapped_in me_of i t.members (subst (IsIn i) (sym ids_are) within) in
      (w.0.rows, in_mapped (λ (m : MemberFacts). m.rows) w.0 t.members w.1, subst (λ (n : ℕ). j.rows n ≡ map row_of w.0.rows) w.2 (rows_are w.0 w.1))

  pub world_audited : (answer : Result (List Execution) AuditFault) → IsAudit (map (λ (m : MemberFacts). m.rows) t.members) answer → FindsNoFault answer
  world_audited answer is =
      records_pass (setup_of c) j (world_family c faulty signers es t leads j of legal listed honest) (map (λ (m : MemberFacts). m.rows) t.members) (record { each = each; all = all }) answer is

  pub world_alike : HoldOneState t
  world_alike a b m n s u found found' has has' same =
      let agreed = world_agrees c faulty signers es t leads j of legal listed honest in
      held_alike c agreed.0 s u (holds a m s found has) (holds b n u found' has') same where
        holds : (id : ℕ) (x : MemberFacts) (k : Core) → member_of t id ≡ Some x → x.replica.core ≡ Some k → HoldsState (setup_of c) (world_agrees c faulty signers es t leads j of legal listed honest).0 k
        holds id x k is core =
            let agreed = world_agrees c faulty signers es t leads j of legal listed honest in
            told_state c j id x k agreed.0 (world_told c faulty signers es t leads j of id x is) core
            (subst (IsCorrect (setup_of c) j.faulty) (found_rows t.members id x is).0 (is_correct x (found_in (λ (y : MemberFacts). eqb y.replica.me id) t.members x is))) agreed.1
