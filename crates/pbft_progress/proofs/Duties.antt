-- Where enough others have changed to higher views, to join them is due; where a quorum wants the view, to open it is.
use Rattle.std.proofs.Common.{◌≡◌, ℕ, zero, suc, ◌+◌, ◌<◌, ◌≤◌, Bool, true, false, ◌&&◌, cond, List, [], ◌∷◌, filter, Option, Some, None, refl, sym, ap, subst, ◌∙◌, arith, inl, inr}
use Rattle.std.specs.Prelude.{nat_lt, nat_le, not, ◌==◌}
use Rattle.std.specs.List.{list_any}
use Rattle.std.proofs.lemmas.Bool.{true≢false, false≢true, and_from, eq-eqb, ne_eqb, lt-ltb, le-leb, not_from_false}
use Rattle.pbft_model.specs.Words.{Signed, Body, NewView, ViewChange, Replica}
use Rattle.pbft_codec.specs.declared.body.Body.TheVariants as bodies
use Rattle.pbft_model.specs.Setup.{Setup, replicas, count, is_replica}
use Rattle.pbft_model.specs.Tables.{entries_in}
use Rattle.pbft_model.specs.Certificates.{is_by, has_quorum}
use Rattle.pbft_model.specs.Validity.{is_valid_new_view}
use Rattle.pbft_model.specs.Core.{Core}
use Rattle.pbft_model.specs.Acts.{is_awaited}
use Rattle.pbft_model.specs.Rules.{wants_view}
use Rattle.pbft_model.specs.Duties.{Duty, when, leads, enter_by, on_taken, due_enter, change_to, least_view, higher_changes, join, due_join, due_open}
use Rattle.pbft_model.specs.Histories.{IsIn}
use Rattle.pbft_model.proofs.Calm.{any_in}
use Rattle.pbft_model.proofs.Found.{no_some}

-- ---- counts

pub count_below : (p q : ℕ → Bool) (n : ℕ) → ((i : ℕ) → i < n → p i ≡ true → q i ≡ true) → count p n ≤ count q n
count_below p q zero h = omega arith
count_below p q (suc n) h = step (p n) (q n) (h n (omega arith)) (count_below p q n (λ i below t. h i (omega (arith, below)) t)) where
  step : (a b : Bool) → (a ≡ true → b ≡ true) → count p n ≤ count q n → cond a 1 0 + count p n ≤ cond b 1 0 + count q n
  step true true k rest = omega (arith, rest)
  step true false k rest = absurd (false≢true (k refl))
  step false true k rest = omega (arith, rest)
  step false false k rest = omega (arith, rest)

count_none : (n : ℕ) → count (λ i. false) n ≡ 0
count_none zero = refl
count_none (suc n) = let rest = count_none n in omega (arith, rest)

-- those that pass are outside, or among as many as there are
pub count_outside : (p out : ℕ → Bool) (n : ℕ) → count p n ≤ count (λ i. p i && not (out i)) n + count out n
count_outside p out zero = omega arith
count_outside p out (suc n) = step (p n) (out n) (count_outside p out n) where
  step : (a b : Bool) → count p n ≤ count (λ i. p i && not (out i)) n + count out n
      → cond a 1 0 + count p n ≤ (cond (a && not b) 1 0 + count (λ i. p i && not (out i)) n) + (cond b 1 0 + count out n)
  step true true rest = omega (arith, rest)
  step true false rest = omega (arith, rest)
  step false true rest = omega (arith, rest)
  step false false rest = omega (arith, rest)

-- those outside and those not are all
pub count_all : (out : ℕ → Bool) (n : ℕ) → n ≤ count (λ i. not (out i)) n + count out n
count_all out zero = omega arith
count_all out (suc n) = step (out n) (count_all out n) where
  step : (b : Bool) → n ≤ count (λ i. not (out i)) n + count out n → suc n ≤ (cond (not b) 1 0 + count (λ i. not (out i)) n) + (cond b 1 0 + count out n)
  step true rest = omega (arith, rest)
  step false rest = omega (arith, rest)

-- ---- what is not due

when_none : (b : Bool) (d : Duty) → when b d ≡ None → b ≡ false
when_none true d e = no_some d (sym e)
when_none false d e = refl

in_filtered : {X : Type 0} (test : X → Bool) (xs : List X) (x : X) → IsIn x xs → test x ≡ true → IsIn x (filter test xs)
in_filtered test [] x h t = absurd h
in_filtered {X} test (y ∷ xs) x (inl same) t = here (test y) (subst (λ (z : X). test z ≡ true) same t) where
  here : (b : Bool) → b ≡ true → IsIn x (cond b (y ∷ filter test xs) (filter test xs))
  here true e = inl same
  here false e = absurd (false≢true e)
in_filtered {X} test (y ∷ xs) x (inr later) t = there (test y) (in_filtered test xs x later t) where
  there : (b : Bool) → IsIn x (filter test xs) → IsIn x (cond b (y ∷ filter test xs) (filter test xs))
  there true h = inr h
  there false h = h

pub by_from : {B : Type 0} (i : ℕ) (test : B → Bool) (m : Signed B) → m.role ≡ Replica → m.id ≡ i → test m.body ≡ true → is_by i test m ≡ true
by_from i test m role id e =
    and_from (is_replica m.role) ((m.id == i) && test m.body) (ap is_replica role) (and_from (m.id == i) (test m.body) (eq-eqb m.id i id) e)

module _ (c : Setup) (me : ℕ) (s : Core) where
  -- another's ViewChange for a higher view is recorded
  pub record Calls (i : ℕ) : Type 0 where
    pub change : Signed ViewChange
    pub recorded : IsIn change (entries_in s.changes)
    pub higher : s.view < change.body.view.0
    pub by : change.id ≡ i
    pub role : change.role ≡ Replica
    pub other : i ≡ me → ⊥

  calls : (i : ℕ) → Calls i → list_any (is_by i (λ v. true)) (higher_changes me s) ≡ true
  calls i w =
      let test : Signed ViewChange → Bool = λ m. nat_lt s.view m.body.view.0 && not (m.id == me) in
      let passes : test w.change ≡ true =
      and_from (nat_lt s.view w.change.body.view.0) (not (w.change.id == me)) (lt-ltb s.view w.change.body.view.0 w.higher)
      (not_from_false (w.change.id == me) (ne_eqb w.change.id me (λ e. w.other (sym w.by ∙ e)))) in
      any_in (is_by i (λ v. true)) w.change (higher_changes me s) (in_filtered test (entries_in s.changes) w.change w.recorded passes)
      (by_from i (λ v. true) w.change w.role w.by refl)

  joins : (ms : List (Signed ViewChange)) → c.config.f < count (λ i. list_any (is_by i (λ v. true)) ms) (replicas c.config) → join c me s ms ≡ None → ⊥
  joins [] many e = let none = count_none (replicas c.config) in omega (arith, many, none)
  joins (m ∷ ms) many e =
      let n = count (λ i. list_any (is_by i (λ v. true)) (m ∷ ms)) (replicas c.config) in
      true≢false (sym (le-leb (c.config.f + 1) n (omega (arith, many))) ∙ when_none (nat_le (c.config.f + 1) n) (change_to c me s (least_view ms m.body.view.0)) e)

  -- With more than f of them, to join is due.
  pub join_due : (those : ℕ → Bool) → c.config.f < count those (replicas c.config) → ((i : ℕ) → i < replicas c.config → those i ≡ true → Calls i) → due_join c me s ≡ None → ⊥
  join_due those many call e =
      let more = count_below those (λ i. list_any (is_by i (λ v. true)) (higher_changes me s)) (replicas c.config) (λ i below t. calls i (call i below t)) in
      joins (higher_changes me s) (omega (arith, many, more)) e

  -- ---- to open a view

  pub open_due : s.active ≡ false → leads c me s ≡ true → wants_view s me ≡ true → has_quorum c.config (wants_view s) ≡ true → due_open c me s ≡ None → ⊥
  open_due off lead own many e =
      true≢false
      (sym (and_from (not s.active) (leads c me s && (wants_view s me && has_quorum c.config (wants_view s))) (ap not off)
      (and_from (leads c me s) (wants_view s me && has_quorum c.config (wants_view s)) lead (and_from (wants_view s me) (has_quorum c.config (wants_view s)) own many)))
      ∙ when_none _ _ e)

  -- ---- to enter a view

  -- a valid NewView is the message just taken, and its view is not awaited
  pub not_awaited : (m : Signed Body) (n : NewView) → s.taken ≡ Some m → m.body ≡ bodies.NewView n → is_valid_new_view c n ≡ true → due_enter c s ≡ None → is_awaited s n.view.0 ≡ false
  not_awaited m n taken body valid e =
      let at : enter_by c s m m.body ≡ None = subst (λ (o : Option (Signed Body)). on_taken (enter_by c s) o ≡ None) taken e in
      let here : enter_by c s m (bodies.NewView n) ≡ None = subst (λ (b : Body). enter_by c s m b ≡ None) body at in
      no_more (is_awaited s n.view.0) refl (when_none (is_awaited s n.view.0 && is_valid_new_view c n) _ here) where
        no_more : (b : Bool) → is_awaited s n.view.0 ≡ b → (is_awaited s n.view.0 && is_valid_new_view c n) ≡ false → is_awaited s n.view.0 ≡ false
        no_more false t none = t
        no_more true t none = absurd (true≢false (sym (and_from (is_awaited s n.view.0) (is_valid_new_view c n) t valid) ∙ none))
