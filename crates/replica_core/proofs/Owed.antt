-- What is due is the first of a list that is due.
use Rattle.std.proofs.Common.{◌≡◌, ℕ, ◌+◌, ◌<◌, ◌≤◌, ◌⊎◌, inl, inr, Bool, true, false, ◌&&◌, Option, Some, None, zero, suc, refl, sym, ap, subst, ◌∙◌, arith}
use Rattle.std.specs.Prelude.{IsSome, not, if◌then◌else◌}
use Rattle.std.proofs.lemmas.Bool.{cases_lt, false≢true}
use Rattle.pbft_model.specs.Setup.{Setup, numbers_from, span}
use Rattle.pbft_model.specs.Core.{Core, inside}
use Rattle.pbft_model.specs.Duties as model
use Rattle.pbft_model.specs.Duties.{commit_for, due, due_answer, due_checkpoint, due_commit, due_enter, due_execute, due_fetch_request, due_fetch_state, due_install, due_join, due_on_timeout, due_open, due_prepare, due_propose, due_reply, due_rise, due_supply, first_for, leads, or_else, prepare_for}
use Rattle.replica_core.specs.Meanings.{IsDue, Means, at_once, by_taken, fetch_for, in_view}
use Rattle.replica_core.specs.declared.duties.Duty.{Duty}

abbrev Due : Type 0
Due = Option model.Duty

-- ---- one or else the next

module _ (c : Setup) (me : ℕ) (s : Core) where
  pub this_one : (a b : Due) (d : Duty) → Means c me s a (Some d) → Means c me s (or_else a b) (Some d)
  this_one None b d m = absurd (false≢true m.1)
  this_one (Some x) b d m = m

  pub or_next : (a b : Due) (r : Option Duty) → Means c me s a None → Means c me s b r → Means c me s (or_else a b) r
  or_next a b r none next = subst (λ (o : Due). Means c me s (or_else o b) r) (sym none) next

  pub same_due : (a b : Due) (r : Option Duty) → a ≡ b → Means c me s b r → Means c me s a r
  same_due a b r e m = subst (λ (o : Due). Means c me s o r) (sym e) m

  -- where nothing was found
  pub none_here : (a : Due) (r : Option Duty) → r ≡ None → a ≡ None → Means c me s a r
  none_here a r none e = subst (λ (x : Option Duty). Means c me s a x) (sym none) e

pub two_in_one : (a b rest : Due) → or_else (or_else a b) rest ≡ or_else a (or_else b rest)
two_in_one None b rest = refl
two_in_one (Some x) b rest = refl

pub three_in_one : (a b d rest : Due) → or_else (or_else a (or_else b d)) rest ≡ or_else a (or_else b (or_else d rest))
three_in_one None b d rest = two_in_one b d rest
three_in_one (Some x) b d rest = refl

pub four_in_one : (a b d e rest : Due) → or_else (or_else a (or_else b (or_else d e))) rest ≡ or_else a (or_else b (or_else d (or_else e rest)))
four_in_one None b d e rest = three_in_one b d e rest
four_in_one (Some x) b d e rest = refl

-- the list in groups
pub in_groups : (a1 a2 a3 b1 b2 b3 b4 g d1 d2 d3 d4 rest : Due)
    → or_else (or_else a1 (or_else a2 a3)) (or_else (or_else b1 (or_else b2 (or_else b3 b4))) (or_else g (or_else (or_else d1 (or_else d2 (or_else d3 d4))) rest)))
    ≡ or_else a1 (or_else a2 (or_else a3 (or_else b1 (or_else b2 (or_else b3 (or_else b4 (or_else g (or_else d1 (or_else d2 (or_else d3 (or_else d4 rest)))))))))))
in_groups a1 a2 a3 b1 b2 b3 b4 g d1 d2 d3 d4 rest =
    three_in_one a1 a2 a3 _
    ∙ ap (λ (o : Due). or_else a1 (or_else a2 (or_else a3 o)))
    (four_in_one b1 b2 b3 b4 _ ∙ ap (λ (o : Due). or_else b1 (or_else b2 (or_else b3 (or_else b4 (or_else g o))))) (four_in_one d1 d2 d3 d4 rest))

-- ---- the first number that has a duty

first_at : (duty : ℕ → Due) (first many index : ℕ) → index < many → ((k : ℕ) → k < index → duty (first + k) ≡ None) → IsSome (duty (first + index)) → first_for duty (numbers_from first many) ≡ duty (first + index)
first_at duty first zero index below none some = absurd (omega (arith, below))
first_at duty first (suc many) zero below none some =
    let e : first + 0 ≡ first = omega arith in
    here (duty first) (subst (λ (n : ℕ). IsSome (duty n)) e some) ∙ ap duty (sym e) where
      here : (o : Due) → IsSome o → or_else o (first_for duty (numbers_from (first + 1) many)) ≡ o
      here None h = absurd (false≢true h)
      here (Some x) h = refl
first_at duty first (suc many) (suc index) below none some =
    let e : first + 0 ≡ first = omega arith in
    let next : first + suc index ≡ first + 1 + index = omega arith in
    ap (λ (o : Due). or_else o (first_for duty (numbers_from (first + 1) many))) (ap duty (sym e) ∙ none 0 (omega arith))
    ∙ first_at duty (first + 1) many index (omega (arith, below)) (λ k lt. let n : first + 1 + k ≡ first + suc k = omega arith in ap duty n ∙ none (suc k) (omega (arith, lt))) (subst (λ (n : ℕ). IsSome (duty n)) next some)
    ∙ ap duty (sym next)

none_at : (duty : ℕ → Due) (first many : ℕ) → ((k : ℕ) → k < many → duty (first + k) ≡ None) → first_for duty (numbers_from first many) ≡ None
none_at duty first zero none = refl
none_at duty first (suc many) none =
    let e : first + 0 ≡ first = omega arith in
    ap (λ (o : Due). or_else o (first_for duty (numbers_from (first + 1) many))) (ap duty (sym e) ∙ none 0 (omega arith))
    ∙ none_at duty (first + 1) many (λ k lt. let n : first + 1 + k ≡ first + suc k = omega arith in ap duty n ∙ none (suc k) (omega (arith, lt)))

-- none of the first numbers inside the marks has a duty
abbrev pub NoneYet : Core → (ℕ → Due) → ℕ → Type 0
NoneYet s duty index = (k : ℕ) → k < index → duty (s.low + 1 + k) ≡ None

pub one_more : (s : Core) (duty : ℕ → Due) (index number : ℕ) → NoneYet s duty index → number ≡ s.low + 1 + index → duty number ≡ None → NoneYet s duty (index + 1)
one_more s duty index number none is here k lt = cases (cases_lt k index) where
  cases : (k < index) ⊎ (index ≤ k) → duty (s.low + 1 + k) ≡ None
  cases (inl below) = none k below
  cases (inr above) = let same : s.low + 1 + k ≡ number = omega (arith, is, above, lt) in ap duty same ∙ here

pub found_inside : (c : Setup) (me : ℕ) (s : Core) (duty : ℕ → Due) (index number : ℕ) (d : Duty) → NoneYet s duty index → index < span c.config → number ≡ s.low + 1 + index
    → Means c me s (duty number) (Some d) → Means c me s (first_for duty (inside c s)) (Some d)
found_inside c me s duty index number d none below is m =
    same_due c me s _ _ (Some d) (first_at duty (s.low + 1) (span c.config) index below none (subst (λ (n : ℕ). IsSome (duty n)) is m.1) ∙ ap duty (sym is)) m

pub none_inside : (c : Setup) (s : Core) (duty : ℕ → Due) (many : ℕ) → NoneYet s duty many → many ≡ span c.config → first_for duty (inside c s) ≡ None
none_inside c s duty many none is = none_at duty (s.low + 1) (span c.config) (subst (NoneYet s duty) is none)

-- ---- in the view

module _ (c : Setup) (me : ℕ) (s : Core) where
  pub as_backup : s.active ≡ true → false ≡ leads c me s → due_prepare c me s ≡ first_for (prepare_for c me s) (inside c s)
  as_backup active other =
      ap (λ (b : Bool). if b && not (leads c me s) then first_for (prepare_for c me s) (inside c s) else None) active
      ∙ ap (λ (b : Bool). if not b then first_for (prepare_for c me s) (inside c s) else None) (sym other)

  pub as_active : s.active ≡ true → due_commit c me s ≡ first_for (commit_for c me s) (inside c s)
  as_active active = ap (λ (b : Bool). if b then first_for (commit_for c me s) (inside c s) else None) active

  pub fetch_active : true ≡ s.active → due_fetch_request c me s ≡ first_for (fetch_for c me s) (inside c s)
  fetch_active active = ap (λ (b : Bool). if b then first_for (fetch_for c me s) (inside c s) else None) (sym active)

-- ---- the whole list

module _ (c : Setup) (me : ℕ) (s : Core) where
  abbrev fetches : Due
  fetches = or_else (due_fetch_state c me s) (due_fetch_request c me s)

  abbrev from_join : Due
  from_join = or_else (due_join c me s) (or_else (due_open c me s) fetches)

  from_view : (r : Option Duty) → (at_once c me s) ≡ None → (by_taken c me s) ≡ None → due_rise c s ≡ None → Means c me s (or_else (in_view c me s) from_join) r → IsDue c me s r
  from_view r once taken rise m =
      same_due c me s (due c me s) _ r
      (sym (in_groups (due_on_timeout c me s) (due_reply me s s.reply_due) (due_checkpoint c me s) (due_answer me s) (due_supply c me s) (due_enter c s) (due_install c s) (due_rise c s)
      (due_propose c me s) (due_prepare c me s) (due_commit c me s) (due_execute c s) from_join))
      (or_next c me s (at_once c me s) _ r once (or_next c me s (by_taken c me s) _ r taken (or_next c me s (due_rise c s) _ r rise m)))

  pub is_in_view : (d : Duty) → (at_once c me s) ≡ None → (by_taken c me s) ≡ None → due_rise c s ≡ None → Means c me s (in_view c me s) (Some d) → IsDue c me s (Some d)
  is_in_view d once taken rise m = from_view (Some d) once taken rise (this_one c me s (in_view c me s) from_join d m)

  pub is_join : (d : Duty) → (at_once c me s) ≡ None → (by_taken c me s) ≡ None → due_rise c s ≡ None → (in_view c me s) ≡ None → Means c me s (due_join c me s) (Some d) → IsDue c me s (Some d)
  is_join d once taken rise view m = from_view (Some d) once taken rise (or_next c me s (in_view c me s) from_join (Some d) view (this_one c me s (due_join c me s) (or_else (due_open c me s) fetches) d m))

  from_open : (r : Option Duty) → (at_once c me s) ≡ None → (by_taken c me s) ≡ None → due_rise c s ≡ None → (in_view c me s) ≡ None → due_join c me s ≡ None → Means c me s (or_else (due_open c me s) fetches) r → IsDue c me s r
  from_open r once taken rise view join m =
      from_view r once taken rise (or_next c me s (in_view c me s) from_join r view (or_next c me s (due_join c me s) (or_else (due_open c me s) fetches) r join m))

  pub is_open : (d : Duty) → (at_once c me s) ≡ None → (by_taken c me s) ≡ None → due_rise c s ≡ None → (in_view c me s) ≡ None → due_join c me s ≡ None → Means c me s (due_open c me s) (Some d) → IsDue c me s (Some d)
  is_open d once taken rise view join m = from_open (Some d) once taken rise view join (this_one c me s (due_open c me s) fetches d m)

  pub is_fetch_state : (d : Duty) → (at_once c me s) ≡ None → (by_taken c me s) ≡ None → due_rise c s ≡ None → (in_view c me s) ≡ None → due_join c me s ≡ None → due_open c me s ≡ None → Means c me s (due_fetch_state c me s) (Some d)
      → IsDue c me s (Some d)
  is_fetch_state d once taken rise view join opening m =
      from_open (Some d) once taken rise view join (or_next c me s (due_open c me s) fetches (Some d) opening (this_one c me s (due_fetch_state c me s) (due_fetch_request c me s) d m))

  pub is_last : (r : Option Duty) → (at_once c me s) ≡ None → (by_taken c me s) ≡ None → due_rise c s ≡ None → (in_view c me s) ≡ None → due_join c me s ≡ None → due_open c me s ≡ None → due_fetch_state c me s ≡ None
      → Means c me s (due_fetch_request c me s) r → IsDue c me s r
  is_last r once taken rise view join opening state m =
      from_open r once taken rise view join (or_next c me s (due_open c me s) fetches r opening (or_next c me s (due_fetch_state c me s) (due_fetch_request c me s) r state m))
