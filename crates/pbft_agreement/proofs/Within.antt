-- Points of a history that lie within rows, and the numbers reached by then.
use Rattle.std.proofs.Common.{◌≡◌, ◌⊎◌, ℕ, List, [], ◌∷◌, ◌++◌, refl, sym, ap, subst, ◌∙◌, inl, inr}
use Rattle.std.specs.List.{flat_map}
use Rattle.pbft_model.specs.Words.{SigningState}
use Rattle.pbft_model.specs.Setup.{Setup}
use Rattle.pbft_model.specs.Core.{Core}
use Rattle.pbft_model.specs.Acts.{Act, Take, Timeout, Send, Relay, Enter, Rise, Execute, Install, after}
use Rattle.pbft_model.specs.Rows.{Row, Done, Executed, Installed, Follows, IsNext, IsLawfulFrom, done_of, all_done}
use Rattle.pbft_model.specs.Histories.{core_after, IsEarlier, IsIn}
use Rattle.pbft_agreement.specs.Journals.{HasReached}
use Rattle.pbft_model.proofs.Entries.{from_append}
use Rattle.pbft_model.proofs.Found.{in_append_left, in_append_right}
use Rattle.pbft_model.proofs.Origins.{recorded_keeps, said_keeps, left_keeps}
use Rattle.pbft_model.proofs.Unique.{one_beginning, same_acts}
use Rattle.pbft_agreement.proofs.Reporting.{pushed, earlier_pushed, acts_from, first_number}

pub pushed_append : (xs ys early : List Act) → pushed (xs ++ ys) early ≡ pushed ys (pushed xs early)
pushed_append [] ys early = refl
pushed_append (a ∷ xs) ys early = pushed_append xs ys (a ∷ early)

-- acts that begin others are an earlier point
pub earlier_first : (acts xs ys early : List Act) → acts ≡ xs ++ ys → IsEarlier (pushed xs early) (pushed acts early)
earlier_first acts xs ys early is =
    subst (λ (zs : List Act). IsEarlier (pushed xs early) zs) (sym (ap (λ (zs : List Act). pushed zs early) is ∙ pushed_append xs ys early)) (earlier_pushed ys (pushed xs early))

-- Acts in two parts round one that gives something.
pub record Giving {X : Type 0} (g : Act → List X) (x : X) (acts : List Act) : Type 0 where
  pub earlier : List Act
  pub act : Act
  pub later : List Act
  pub splits : acts ≡ earlier ++ act ∷ later
  pub gives : IsIn x (g act)

pub giving : {X : Type 0} (g : Act → List X) (all : List Act → List X) → all [] ≡ [] → ((a : Act) (later : List Act) → all (a ∷ later) ≡ g a ++ all later) → (x : X) (acts : List Act) → IsIn x (all acts) → Giving g x acts
giving {X} g all none more x [] h = absurd (subst (λ (xs : List X). IsIn x xs) none h)
giving {X} g all none more x (a ∷ acts) h = elim (from_append x (g a) (all acts) (subst (λ (xs : List X). IsIn x xs) (more a acts) h)) [
  | inl here ↦ record { earlier = []; act = a; later = acts; splits = refl; gives = here }
  | inr there ↦
      let w = giving g all none more x acts there in
      record { earlier = a ∷ w.earlier; act = w.act; later = w.later; splits = ap (λ (xs : List Act). a ∷ xs) w.splits; gives = w.gives }
]

-- ---- parts of what follows

module _ (c : Setup) (me : ℕ) where
  pub follows_rest : (xs ys : List Act) (s t u : Core) → Follows c me s (xs ++ ys) t → Follows c me s xs u → Follows c me u ys t
  follows_rest [] ys s t u all same = subst (λ (x : Core). Follows c me x ys t) (sym same) all
  follows_rest (a ∷ xs) ys s t u (does, leaves, rest) (does', leaves', rest') = follows_rest xs ys (after c s a) t u rest rest'

  pub follows_first : (xs ys : List Act) (s t : Core) → Follows c me s (xs ++ ys) t → (u : Core) × Follows c me s xs u
  follows_first [] ys s t all = (s, refl)
  follows_first (a ∷ xs) ys s t (does, leaves, rest) = let w = follows_first xs ys (after c s a) t rest in (w.0, (does, leaves, w.1))

-- ---- numbers reached

-- the number stays that of the first core, or was reached by what was done
abbrev pub IsReachedFrom : Core → Core → List Done → Type 0
IsReachedFrom s t items = (t.executed ≡ s.executed) ⊎ HasReached t.executed items

pub reached_more : (s t u : Core) (first later : List Done) → IsReachedFrom s t first → IsReachedFrom t u later → IsReachedFrom s u (first ++ later)
reached_more s t u first later h (inr (done, within, is)) = inr (done, in_append_right done first later within, is)
reached_more s t u first later (inl same) (inl same') = inl (same' ∙ same)
reached_more s t u first later (inr (done, within, is)) (inl same) = inr (done, in_append_left done first later within, is ∙ sym same)

module _ (c : Setup) (me : ℕ) (signer : SigningState) where
  reached_by : (s : Core) (a : Act) → IsReachedFrom s (after c s a) (done_of c a)
  reached_by s (Take m r) = inl (recorded_keeps c s m m.body).number
  reached_by s (Send to m) = inl (said_keeps c s m m.body).number
  reached_by s (Enter m) = inl (left_keeps c s m.body.view.0).number
  reached_by s (Execute n d t o) = inr (Executed n d _, inl refl, refl)
  reached_by s (Install n b t) = inr (Installed n _, inl refl, refl)
  reached_by s _ = inl refl

  pub reached_pushed : (acts early : List Act) → IsReachedFrom (core_after c signer early) (core_after c signer (pushed acts early)) (all_done c acts)
  reached_pushed [] early = inl refl
  reached_pushed (a ∷ acts) early =
      reached_more (core_after c signer early) (core_after c signer (a ∷ early)) (core_after c signer (pushed acts (a ∷ early))) (done_of c a) (all_done c acts)
      (reached_by (core_after c signer early) a) (reached_pushed acts (a ∷ early))

  -- an input reaches nothing
  pub reached_within : (early acts : List Act) (s u : Core) (row : Row) (next : IsNext c me s row u)
      → IsReachedFrom (core_after c signer early) (core_after c signer (pushed (next.first ∷ acts) early)) (all_done c acts)
  reached_within early acts s u row next =
      reached_more (core_after c signer early) (core_after c signer (next.first ∷ early)) (core_after c signer (pushed acts (next.first ∷ early))) [] (all_done c acts)
      (inl (first_number c me signer row.input (core_after c signer early) next.first next.begins)) (reached_pushed acts (next.first ∷ early))

  pub reached_rows : (rows : List Row) (early : List Act) (s t : Core) (w : IsLawfulFrom c me s rows t)
      → IsReachedFrom (core_after c signer early) (core_after c signer (acts_from c me signer early rows s t w)) (flat_map (λ row. row.done) rows)
  reached_rows [] early s t w = inl refl
  reached_rows (row ∷ rows) early s t (u, next, rest) =
      let middle = pushed (next.first ∷ next.acts) early in
      reached_more (core_after c signer early) (core_after c signer middle) (core_after c signer (acts_from c me signer middle rows u t rest)) row.done (flat_map (λ row. row.done) rows)
      (subst (λ (items : List Done). IsReachedFrom (core_after c signer early) (core_after c signer middle) items) (sym next.done) (reached_within early next.acts s u row next))
      (reached_rows rows middle u t rest)

  -- ---- the acts of rows are one list

  pub one_acts : (rows : List Row) (early : List Act) (s t t' : Core) (w : IsLawfulFrom c me s rows t) (w' : IsLawfulFrom c me s rows t')
      → acts_from c me signer early rows s t w ≡ acts_from c me signer early rows s t' w'
  one_acts [] early s t t' w w' = refl
  one_acts (row ∷ rows) early s t t' (u, next, rest) (u', next', rest') =
      let first = one_beginning c me row.input next.first next'.first next.begins next'.begins in
      let same = same_acts c me s u u' row row refl next next' in
      let middle : List Act = pushed (next'.first ∷ next'.acts) early in
      let moved : pushed (next.first ∷ next.acts) early ≡ middle = λ k. pushed (first k ∷ same.0 k) early in
      ap (λ (xs : List Act). acts_from c me signer xs rows u t rest) moved
      ∙ subst (λ (x : Core). (r : IsLawfulFrom c me x rows t') → acts_from c me signer middle rows u t rest ≡ acts_from c me signer middle rows x t' r) same.1
      (λ r. one_acts rows middle u t t' rest r) rest'
