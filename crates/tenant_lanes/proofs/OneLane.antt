-- Two lanes without a common tenant are one lane.
use Rattle.std.proofs.Common.{◌≡◌, ◌⊎◌, ℕ, ◌+◌, ◌<◌, List, [], ◌∷◌, ◌++◌, length, get_or, set, take, replicate, Option, Some, None, refl, sym, ap, subst, ◌∙◌, arith, inl, inr}
use Rattle.std.specs.Prelude.{IfSome}
use Rattle.std.proofs.lemmas.Bool.{cases_eq}
use Rattle.std.proofs.lemmas.Option.{MatchOption-at_some, MatchOption-at_none}
use Rattle.std.proofs.lemmas.List.{get_or-set_other, get_or_default, length-set, length-take-le, take_more}
use Rattle.std.proofs.lemmas.List.Elements.{All-head, All-tail}
use Rattle.host_types.specs.declared.SeqNo.{SeqNo}
use Rattle.host_types.specs.declared.request.Request.{Request}
use Rattle.service_model.specs.declared.outcome.Outcome.{Outcome}
use Rattle.service_model.specs.TenantStates.{TenantState}
use Rattle.service_model.specs.Steps.{IsTenantStep}
use Rattle.service_model.proofs.Matches.{match_none, match_some}
use Rattle.tenant_lanes.specs.Runs.{Slots, TakesInSlot, PassesBy, LaneStep, LaneRuns, or_other, filled, IsApart, NoneAsked}
use Rattle.tenant_lanes.specs.Settled.{outcome_of, settled}
use Rattle.tenant_lanes.proofs.Filling.{get_or-filled, filled-set_left, filled-set_right}

both_pass : (a b a' b' : Slots) (o o' : Option Outcome) → PassesBy a a' o → PassesBy b b' o' → PassesBy (filled a b) (filled a' b') (or_other o o')
both_pass a b a' b' o o' h k = (λ i. filled (h.0 i) (k.0 i), λ i. or_other (h.1 i) (k.1 i))

-- lanes stay apart where one changes a part that it has
left_changed : (a b : Slots) (i : ℕ) (part changed : TenantState) → get_or a i None ≡ Some part → IsApart a b → IsApart (set a i (Some changed)) b
left_changed a b i part changed has h = record { same_length = length-set a i (Some changed) ∙ h.same_length; apart = at } where
  none : (get_or a i None ≡ None) ⊎ (get_or b i None ≡ None) → get_or b i None ≡ None
  none (inl e) = absurd (let bad : Some part ≡ None = sym has ∙ e in cc)
  none (inr e) = e

  at : (index : ℕ) → (get_or (set a i (Some changed)) index None ≡ None) ⊎ (get_or b index None ≡ None)
  at index = elim (cases_eq index i) [
    | inl same ↦ inr (ap (λ (j : ℕ). get_or b j None) same ∙ none (h.apart i))
    | inr other ↦ elim (h.apart index) [ inl e ↦ inl (get_or-set_other a i index (Some changed) None other ∙ e) | inr e ↦ inr e ]
  ]

swapped : (a b : Slots) → IsApart a b → IsApart b a
swapped a b h = record { same_length = sym h.same_length; apart = λ i. elim (h.apart i) [ inl e ↦ inr e | inr e ↦ inl e ] }

abbrev Joined : ℕ → Slots → Slots → Option ℕ → Option Request → Slots → Slots → Option Outcome → Option Outcome → Type 0
Joined n a b place request a' b' o o' = LaneStep n (filled a b) place request (filled a' b') (or_other o o') × IsApart a' b'

kept_apart : (a b a' b' : Slots) → a' ≡ a → b' ≡ b → IsApart a b → IsApart a' b'
kept_apart a b a' b' e f h = subst (λ (x : Slots). IsApart x b') (sym e) (subst (λ (y : Slots). IsApart a y) (sym f) h)

module _ (n : ℕ) (a b : Slots) (i : ℕ) (request : Request) (a' b' : Slots) (o o' : Option Outcome) (apart : IsApart a b) where
  at_both : (x y : Option TenantState) → get_or a i None ≡ x → get_or b i None ≡ y → get_or (filled a b) i None ≡ or_other x y
  at_both x y e f = get_or-filled a b i apart.same_length ∙ (λ j. or_other (e j) (f j))

  neither : get_or a i None ≡ None → get_or b i None ≡ None → PassesBy a a' o → PassesBy b b' o' → Joined n a b (Some i) (Some request) a' b' o o'
  neither e f h k = (match_none (get_or (filled a b) i None) _ _ (at_both None None e f) (both_pass a b a' b' o o' h k), kept_apart a b a' b' h.0 k.0 apart)

  left_takes : (part : TenantState) → get_or a i None ≡ Some part → get_or b i None ≡ None → TakesInSlot n a i part request a' o → PassesBy b b' o' → Joined n a b (Some i) (Some request) a' b' o o'
  left_takes part e f h k = (
    match_some (get_or (filled a b) i None) part _ _ (at_both (Some part) None e f) (record {
      changed = h.changed;
      answer = h.answer;
      step = h.step;
      number_is = h.number_is;
      after_is = (λ j. filled (h.after_is j) (k.0 j)) ∙ filled-set_left a b i h.changed apart.same_length;
      outcome_is = λ j. or_other (h.outcome_is j) (k.1 j);
    }),
    kept_apart (set a i (Some h.changed)) b a' b' h.after_is k.0 (left_changed a b i part h.changed e apart),
  )

  right_takes : (part : TenantState) → get_or a i None ≡ None → get_or b i None ≡ Some part → PassesBy a a' o → TakesInSlot n b i part request b' o' → Joined n a b (Some i) (Some request) a' b' o o'
  right_takes part e f h k = (
    match_some (get_or (filled a b) i None) part _ _ (at_both None (Some part) e f) (record {
      changed = k.changed;
      answer = k.answer;
      step = k.step;
      number_is = k.number_is;
      after_is = (λ j. filled (h.0 j) (k.after_is j)) ∙ filled-set_right a b i k.changed apart.same_length e;
      outcome_is = λ j. or_other (h.1 j) (k.outcome_is j);
    }),
    kept_apart a (set b i (Some k.changed)) a' b' h.0 k.after_is (swapped (set b i (Some k.changed)) a (left_changed b a i part k.changed f (swapped a b apart))),
  )

  not_both : (x y : TenantState) → get_or a i None ≡ Some x → get_or b i None ≡ Some y → ⊥
  not_both x y e f = elim (apart.apart i) [ inl none ↦ absurd (let bad : Some x ≡ None = sym e ∙ none in cc) | inr none ↦ absurd (let bad : Some y ≡ None = sym f ∙ none in cc) ]

  taken_step : LaneStep n a (Some i) (Some request) a' o → LaneStep n b (Some i) (Some request) b' o' → Joined n a b (Some i) (Some request) a' b' o o'
  taken_step h k = cases (get_or a i None) (get_or b i None) refl refl where
    cases : (x y : Option TenantState) → get_or a i None ≡ x → get_or b i None ≡ y → Joined n a b (Some i) (Some request) a' b' o o'
    cases None None e f = neither e f (MatchOption-at_none _ _ e h) (MatchOption-at_none _ _ f k)
    cases (Some part) None e f = left_takes part e f (MatchOption-at_some _ (λ p. TakesInSlot n a i p request a' o) part e h) (MatchOption-at_none _ _ f k)
    cases None (Some part) e f = right_takes part e f (MatchOption-at_none _ _ e h) (MatchOption-at_some _ (λ p. TakesInSlot n b i p request b' o') part f k)
    cases (Some x) (Some y) e f = absurd (not_both x y e f)

join_step : (n : ℕ) (a b : Slots) (place : Option ℕ) (request : Option Request) (a' b' : Slots) (o o' : Option Outcome) → IsApart a b
    → LaneStep n a place request a' o → LaneStep n b place request b' o' → Joined n a b place request a' b' o o'
join_step n a b None request a' b' o o' apart h k = (both_pass a b a' b' o o' h k, kept_apart a b a' b' h.0 k.0 apart)
join_step n a b (Some i) None a' b' o o' apart h k = (both_pass a b a' b' o o' h k, kept_apart a b a' b' h.0 k.0 apart)
join_step n a b (Some i) (Some request) a' b' o o' apart h k = taken_step n a b i request a' b' o o' apart h k

pub join_runs : (n : ℕ) (a b : Slots) (places : List (Option ℕ)) (requests : List (Option Request)) (a' b' : Slots) (os os' : List (Option Outcome)) → IsApart a b
    → LaneRuns n a places requests a' os → LaneRuns n b places requests b' os' → LaneRuns n (filled a b) places requests (filled a' b') (filled os os')
join_runs n a b [] requests a' b' os os' apart h k = (λ i. filled (h.0 i) (k.0 i), λ i. filled (h.1 i) (k.1 i))
join_runs n a b (place ∷ places) [] a' b' os os' apart h k = (λ i. filled (h.0 i) (k.0 i), λ i. filled (h.1 i) (k.1 i))
join_runs n a b (place ∷ places) (request ∷ requests) a' b' os os' apart (mid, o, others, step, rest, is) (mid', o', others', step', rest', is') =
    let both = join_step (n + 1) a b place request mid mid' o o' apart step step' in (
      filled mid mid',
      or_other o o',
      filled others others',
      both.0,
      join_runs (n + 1) mid mid' places requests a' b' others others' both.1 rest rest',
      λ i. filled (is i) (is' i),
    )

-- slots for whose tenants there is no request
passes : (n : ℕ) (slots : Slots) (place : Option ℕ) (request : Option Request) → IfSome place (λ index. get_or slots index None ≡ None) → LaneStep n slots place request slots None
passes n slots None request h = (refl, refl)
passes n slots (Some i) None h = (refl, refl)
passes n slots (Some i) (Some request) h = match_none (get_or slots i None) _ _ h (refl, refl)

pub none_run : (n : ℕ) (slots : Slots) (places : List (Option ℕ)) (requests : List (Option Request)) → length places ≡ length requests → NoneAsked slots places
    → LaneRuns n slots places requests slots (replicate (length requests) None)
none_run n slots [] [] e h = (refl, refl)
none_run n slots [] (request ∷ requests) e h = absurd (omega arith)
none_run n slots (place ∷ places) [] e h = absurd (omega arith)
none_run n slots (place ∷ places) (request ∷ requests) e h =
    let P : Option ℕ → Type 0 = λ p. IfSome p (λ index. get_or slots index None ≡ None) in (
      slots,
      None,
      replicate (length requests) None,
      passes (n + 1) slots place request (All-head P place places h),
      none_run (n + 1) slots places requests (omega arith) (All-tail P place places h),
      refl,
    )

-- a step more
runs_more : (n k : ℕ) (slots : Slots) (places : List (Option ℕ)) (requests : List (Option Request)) (mid : Slots) (os : List (Option Outcome)) (place : Option ℕ) (request : Option Request) (after : Slots) (o : Option Outcome)
    → length places ≡ length requests → k ≡ n + length requests + 1 → LaneRuns n slots places requests mid os → LaneStep k mid place request after o
    → LaneRuns n slots (places ++ place ∷ []) (requests ++ request ∷ []) after (os ++ o ∷ [])
runs_more n k slots [] [] mid os place request after o e is h step =
    let number : k ≡ n + 1 = omega arith in
    let here : LaneStep (n + 1) mid place request after o = subst (λ (j : ℕ). LaneStep j mid place request after o) number step in
    (after, o, [], subst (λ (s : Slots). LaneStep (n + 1) s place request after o) h.0 here, (refl, refl), ap (λ (xs : List (Option Outcome)). xs ++ o ∷ []) h.1)
runs_more n k slots [] (r ∷ requests) mid os place request after o e is h step = absurd (omega arith)
runs_more n k slots (p ∷ places) [] mid os place request after o e is h step = absurd (omega arith)
runs_more n k slots (p ∷ places) (r ∷ requests) mid os place request after o e is (next, first, others, one, rest, all) step = (
  next,
  first,
  others ++ o ∷ [],
  one,
  runs_more (n + 1) k next places requests mid others place request after o (omega arith) (omega arith) rest step,
  ap (λ (xs : List (Option Outcome)). xs ++ o ∷ []) all,
)

pub loop_more : (n k i : ℕ) (slots : Slots) (places : List (Option ℕ)) (requests : List (Option Request)) (mid : Slots) (os : List (Option Outcome)) (after : Slots) (o : Option Outcome) (d : Option ℕ) (e : Option Request)
    → length places ≡ length requests → i < length requests → k ≡ n + i + 1 → LaneRuns n slots (take i places) (take i requests) mid os → LaneStep k mid (get_or places i d) (get_or requests i e) after o
    → LaneRuns n slots (take (i + 1) places) (take (i + 1) requests) after (os ++ o ∷ [])
loop_more n k i slots places requests mid os after o d e same lt is h step =
    let short : length (take i places) ≡ i = length-take-le i places (omega arith) in
    let few : length (take i requests) ≡ i = length-take-le i requests (omega arith) in
    let more = runs_more n k slots (take i places) (take i requests) mid os (get_or places i d) (get_or requests i e) after o (short ∙ sym few) (omega arith) h step in
    let first : i < length places = omega arith in
    subst (λ (ps : List (Option ℕ)). LaneRuns n slots ps (take (i + 1) requests) after (os ++ o ∷ [])) (sym (take_more places i d first))
    (subst (λ (rs : List (Option Request)). LaneRuns n slots (take i places ++ get_or places i d ∷ []) rs after (os ++ o ∷ [])) (sym (take_more requests i e lt)) more)

-- a request that the lane takes
pub took : (n : ℕ) (slots : Slots) (place : Option ℕ) (request : Option Request) (i : ℕ) (r : Request) (slot : Option TenantState) (part changed : TenantState) (answer : Outcome)
    → place ≡ Some i → request ≡ Some r → i < length slots → get_or slots i slot ≡ Some part
    → IsTenantStep n part r changed answer.reply answer.kept → answer.number ≡ (let s : SeqNo = record { 0 = n } in s) → LaneStep n slots place request (set slots i (Some changed)) (Some answer)
took n slots place request i r slot part changed answer at is lt has step number =
    let here : get_or slots i None ≡ Some part = sym (get_or_default slots i slot None lt) ∙ has in
    let step : LaneStep n slots (Some i) (Some r) (set slots i (Some changed)) (Some answer) = match_some (get_or slots i None) part _ _ here (record {
      changed = changed;
      answer = answer;
      step = step;
      number_is = ap (λ (s : SeqNo). s.0) number;
      after_is = refl;
      outcome_is = refl;
    }) in
    subst (λ (p : Option ℕ). LaneStep n slots p request (set slots i (Some changed)) (Some answer)) (sym at)
    (subst (λ (q : Option Request). LaneStep n slots (Some i) q (set slots i (Some changed)) (Some answer)) (sym is) step)

-- an outcome more
pub settled_more : (n k : ℕ) (slots : List (Option Outcome)) (slot : Option Outcome) → k ≡ n + length slots + 1 → settled n (slots ++ slot ∷ []) ≡ settled n slots ++ outcome_of k slot ∷ []
settled_more n k [] slot e = let one : n + 1 ≡ k = omega arith in ap (λ (j : ℕ). outcome_of j slot ∷ []) one
settled_more n k (s ∷ slots) slot e = ap (λ (os : List Outcome). outcome_of (n + 1) s ∷ os) (settled_more (n + 1) k slots slot (omega arith))
