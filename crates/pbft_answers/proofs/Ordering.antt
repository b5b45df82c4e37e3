-- The correct primary of view 0 proposes each client's requests in the order of their times, where they came to it so.
use Rattle.std.proofs.Common.{◌≡◌, ◌⊎◌, ℕ, ◌+◌, ◌<◌, ◌≤◌, Bool, true, false, ◌&&◌, ◌||◌, cond, max, List, [], ◌∷◌, ◌++◌, map, filter, Option, Some, None, refl, sym, ap, subst, ◌∙◌, arith, inl, inr}
use Rattle.std.specs.Prelude.{IsTrue, is_some, bytes_eq, find, nat_lt, nat_le, not, ◌==◌}
use Rattle.std.specs.List.{list_any}
use Rattle.std.specs.Ordering.{nat_cmp}
use Rattle.std.specs.Cmp.Lexicographic.{slice_cmp}
use Rattle.std.specs.declared.cmp.Ordering.{Ordering}
use Rattle.std.specs.declared.cmp.Ordering.TheVariants.{Less, Equal, Greater}
use Rattle.std.specs.FinMap.Entries.{by_order}
use Rattle.std.specs.FinMap.{slice_cmp-IsAntisymmetric, nat_cmp-IsAntisymmetric}
use Rattle.std.proofs.lemmas.Bool.{true≢false, cases_lt, and_parts, and_from, or_cases, or_right, eq-eqb, eqb-true, lt-ltb, ltb-true, leb-true, not-true, not_from_false, false_from_ne_true}
use Rattle.std.proofs.lemmas.Slice.Eq.{bytes_eq-Decides}
use Rattle.std.proofs.lemmas.Option.{same_Some}
use Rattle.pbft_model.specs.Words.{Signed, Body, RequestBody, PrePrepare, Request, Replica, Part, as_message, part_of}
use Rattle.pbft_codec.specs.declared.body.Body.TheVariants as bodies
use Rattle.pbft_codec.specs.declared.body.fetch.Fetch.TheVariants as fetches
use Rattle.pbft_model.specs.Sequential.{Service, Outcome, last_reply_of, genesis_of}
use Rattle.pbft_model.specs.Setup.{Setup, primary, span, digest_of, request_in}
use Rattle.pbft_model.specs.Tables.{Key, Table, at, with_entry, add_if, keep, entries_in, first_in, view_in, is_above, vote_key}
use Rattle.pbft_model.specs.Certificates.{Fields, of_pre_prepare}
use Rattle.pbft_model.specs.Validity.{floor_of}
use Rattle.seal.specs.Signers.{may_sign}
use Rattle.pbft_model.specs.Core.{Core, held_with, is_named, is_new, is_proposed, is_admitted, is_inside, floor_in, names, of_view, next_number, request_of}
use Rattle.pbft_model.specs.Acts.{Act, Destination, Take, Timeout, Send, Relay, Enter, Rise, Execute, Install, after, said, recorded, add_request, with_body}
use Rattle.pbft_model.specs.Rules.{Allowed, MaySay, IsInside}
use Rattle.pbft_model.specs.Histories.{core_after, IsHistory, IsEarlier, IsIn, HasSigned, HasTaken, signed_in, signed_by_act, listed_in}
use Rattle.pbft_model.specs.Families.{IsCorrect}
use Rattle.pbft_agreement.specs.Journals.{Journals, HasGiven, IsHonestFamily}
use Rattle.pbft_progress.specs.Progress.{EachEnds}
use Rattle.pbft_answers.specs.Window.{AsksInOrder}
use Rattle.pbft_model.proofs.Found.{no_some, in_any, from_map, in_map}
use Rattle.pbft_model.proofs.Entries.{from_append}
use Rattle.pbft_model.proofs.Events.{now, before, earlier_trans, in_order, history_at, low_reached, sent_of, signed_at, taken_at}
use Rattle.pbft_model.proofs.Views.{greatest_above}
use Rattle.pbft_model.proofs.Calm.{IsCalm, IsCalmBody, any_in, at_in}
use Rattle.pbft_model.proofs.Later.{new_before}
use Rattle.pbft_model.proofs.Holdings.{from_find, held_taken, taken_opened}
use Rattle.pbft_progress.proofs.Telling.{Proposes, proposes_due}
use Rattle.pbft_progress.proofs.Noting.{Led, unfiltered}
use Rattle.pbft_model.proofs.Stages.{Stage}
use Rattle.pbft_progress.proofs.Recording.{Stands, pre_prepare_taken}
use Rattle.pbft_answers.proofs.FirstView.{First, calm_last, shapes}
use Rattle.pbft_answers.proofs.Kin.{family, told}
use Rattle.pbft_answers.proofs.Speaking.{opening_of, spoken, first_then}
use Rattle.pbft_answers.proofs.Proposing.{Signs, proposed_by, from_filtered, taken_later, noted_signs}
use Rattle.pbft_answers.proofs.Listing.{IsTakenBy, same_request, reached_old, renewed}

-- ---- lists of requests whose times rise

-- Of each client the times rise.
abbrev Ordered : List (Signed RequestBody) → Type 0
Ordered [] = Unit {0}
Ordered (m ∷ ms) = ((p : Signed RequestBody) → IsIn p ms → m.id ≡ p.id → m.body.time < p.body.time) × Ordered ms

ordered_behind : (ms : List (Signed RequestBody)) (p : Signed RequestBody) → Ordered ms → ((m : Signed RequestBody) → IsIn m ms → m.id ≡ p.id → m.body.time < p.body.time) → Ordered (ms ++ p ∷ [])
ordered_behind [] p h less = ((λ q none. absurd none), tt)
ordered_behind (m ∷ ms) p h less = (
  (λ q is same. elim (from_append q ms (p ∷ []) is) [
    | inl old ↦ h.0 q old same
    | inr (inl new) ↦ subst (λ (z : Signed RequestBody). m.body.time < z.body.time) (sym new) (less m (inl refl) (same ∙ ap (λ (z : Signed RequestBody). z.id) new))
    | inr (inr none) ↦ absurd none
  ]),
  ordered_behind ms p h.1 (λ q is. less q (inr is)),
)

ordered_kept : (test : Signed RequestBody → Bool) (ms : List (Signed RequestBody)) → Ordered ms → Ordered (filter test ms)
ordered_kept test [] h = h
ordered_kept test (m ∷ ms) h = cases (test m) (ordered_kept test ms h.1) where
  cases : (b : Bool) → Ordered (filter test ms) → Ordered (cond b (m ∷ filter test ms) (filter test ms))
  cases true rest = ((λ p is same. h.0 p (unfiltered test ms p is) same), rest)
  cases false rest = rest

-- the first that passes comes before each that passes
first_before : (test : Signed RequestBody → Bool) (ms : List (Signed RequestBody)) (r x : Signed RequestBody) → find test ms ≡ Some r → IsIn x ms → test x ≡ true → Ordered ms
    → (r ≡ x) ⊎ (r.id ≡ x.id → r.body.time < x.body.time)
first_before test [] r x e is t h = absurd is
first_before test (m ∷ ms) r x e is t h = cases (test m) refl e is (λ found later. first_before test ms r x found later t h.1) where
  cases : (b : Bool) → test m ≡ b → cond b (Some m) (find test ms) ≡ Some r → IsIn x (m ∷ ms) → (find test ms ≡ Some r → IsIn x ms → (r ≡ x) ⊎ (r.id ≡ x.id → r.body.time < x.body.time))
      → (r ≡ x) ⊎ (r.id ≡ x.id → r.body.time < x.body.time)
  cases true f e (inl same) rest = inl (sym (same_Some m r e) ∙ sym same)
  cases true f e (inr later) rest = inr (subst (λ (z : Signed RequestBody). z.id ≡ x.id → z.body.time < x.body.time) (same_Some m r e) (h.0 x later))
  cases false f e (inl same) rest = absurd (true≢false (sym t ∙ ap test same ∙ f))
  cases false f e (inr later) rest = rest e later

pub find_in : {X : Type 0} (test : X → Bool) (xs : List X) (x : X) → IsIn x xs → test x ≡ true → is_some (find test xs) ≡ true
find_in test [] x none t = absurd none
find_in {X} test (y ∷ xs) x is t = cases (test y) refl is (find_in test xs x) where
  cases : (b : Bool) → test y ≡ b → IsIn x (y ∷ xs) → (IsIn x xs → test x ≡ true → is_some (find test xs) ≡ true) → is_some (cond b (Some y) (find test xs)) ≡ true
  cases true f is rest = refl
  cases false f (inl same) rest = absurd (true≢false (sym t ∙ ap test same ∙ f))
  cases false f (inr later) rest = rest later t

in_kept : {X : Type 0} (test : X → Bool) (xs : List X) (x : X) → IsIn x xs → test x ≡ true → IsIn x (filter test xs)
in_kept test [] x none t = absurd none
in_kept {X} test (y ∷ xs) x is t = cases (test y) refl is (in_kept test xs x) where
  cases : (b : Bool) → test y ≡ b → IsIn x (y ∷ xs) → (IsIn x xs → test x ≡ true → IsIn x (filter test xs)) → IsIn x (cond b (y ∷ filter test xs) (filter test xs))
  cases true f (inl same) rest = inl same
  cases true f (inr later) rest = inr (rest later t)
  cases false f (inl same) rest = absurd (true≢false (sym t ∙ ap test same ∙ f))
  cases false f (inr later) rest = rest later t

-- ---- pairs of a table

pair_from_entry : {X : Type 0} (t : Table X) (k : Key) (x : X) (p : Key × X) → IsIn p (with_entry t k x) → (p ≡ (k, x)) ⊎ IsIn p t
pair_from_entry [] k x p (inl same) = inl same
pair_from_entry [] k x p (inr none) = absurd none
pair_from_entry {X} (e ∷ t) k x p h = cases (slice_cmp nat_cmp k e.0) refl h (pair_from_entry t k x p) where
  cases : (o : Ordering) → slice_cmp nat_cmp k e.0 ≡ o → IsIn p (by_order o ((k, x) ∷ e ∷ t) ((e.0, x) ∷ t) (e ∷ with_entry t k x)) → (IsIn p (with_entry t k x) → (p ≡ (k, x)) ⊎ IsIn p t)
      → (p ≡ (k, x)) ⊎ IsIn p (e ∷ t)
  cases Less f (inl same) rest = inl same
  cases Less f (inr old) rest = inr old
  cases Equal f (inl same) rest = inl (same ∙ (λ i. (sym (slice_cmp-IsAntisymmetric nat_cmp-IsAntisymmetric k e.0 f) i, x)))
  cases Equal f (inr old) rest = inr (inr old)
  cases Greater f (inl same) rest = inr (inl same)
  cases Greater f (inr later) rest = elim (rest later) [ inl same ↦ inl same | inr old ↦ inr (inr old) ]

pair_from_add : {X : Type 0} (b : Bool) (t : Table X) (k : Key) (x : X) (p : Key × X) → IsIn p (add_if b k x t) → ((p ≡ (k, x)) × (b ≡ true)) ⊎ IsIn p t
pair_from_add {X} true t k x p h = cases (is_some (at t k)) h where
  cases : (s : Bool) → IsIn p (cond s t (with_entry t k x)) → ((p ≡ (k, x)) × (true ≡ true)) ⊎ IsIn p t
  cases true h = inr h
  cases false h = elim (pair_from_entry t k x p h) [ inl same ↦ inl (same, refl) | inr old ↦ inr old ]
pair_from_add false t k x p h = inr h

pair_from_keep : {X : Type 0} (test : Key → Bool) (t : Table X) (p : Key × X) → IsIn p (keep test t) → IsIn p t × (test p.0 ≡ true)
pair_from_keep test [] p h = absurd h
pair_from_keep {X} test (e ∷ t) p h = cases (test e.0) refl h (pair_from_keep test t p) where
  cases : (b : Bool) → test e.0 ≡ b → IsIn p (cond b (e ∷ keep test t) (keep test t)) → (IsIn p (keep test t) → IsIn p t × (test p.0 ≡ true)) → IsIn p (e ∷ t) × (test p.0 ≡ true)
  cases true f (inl same) rest = (inl same, ap (λ (q : Key × X). test q.0) same ∙ f)
  cases true f (inr later) rest = let w = rest later in (inr w.0, w.1)
  cases false f h rest = let w = rest h in (inr w.0, w.1)

-- ---- the next number is above what was given out

next_above_low : (s : Core) → s.low < next_number s
next_above_low s = omega arith

next_above_proposed : (s : Core) (z : Fields) → IsIn z s.proposed → z.number < next_number s
next_above_proposed s z is =
    let le = greatest_above z.number (map (λ (x : Fields). x.number) s.proposed) (in_map (λ (x : Fields). x.number) s.proposed z is) in omega (arith, le)

next_above_recorded : (s : Core) (y : Signed PrePrepare) → IsIn y (entries_in s.pre_prepares) → y.body.view.0 ≡ s.view → y.body.number.0 < next_number s
next_above_recorded s y is view =
    let within = in_kept (λ (m : Signed PrePrepare). m.body.view.0 == s.view) (entries_in s.pre_prepares) y is (eq-eqb y.body.view.0 s.view view) in
    let le = greatest_above y.body.number.0 (map (λ (m : Signed PrePrepare). m.body.number.0) (of_view s.view (entries_in s.pre_prepares))) (in_map (λ (m : Signed PrePrepare). m.body.number.0) (of_view s.view (entries_in s.pre_prepares)) y within) in
    omega (arith, le)

-- ---- what is signed as a PrePrepare in an own message that leaves the view is that message

signed_as : (m : Signed Body) (p : Part) (b : PrePrepare) → IsCalmBody m.body → IsIn p (signed_in m) → p.body ≡ bodies.PrePrepare b → m.body ≡ bodies.PrePrepare b
signed_as m p b calm (inl same) is = ap (λ (x : Part). x.body) (sym same) ∙ is
signed_as m p b calm (inr listed) is =
    let w = from_map (λ (q : Signed PrePrepare). part_of (as_message bodies.PrePrepare q)) (listed_in m.body) p listed in
    let n = opening_of m.body w.0 w.1 in
    absurd (subst IsCalmBody n.1 calm)

module _ (c : Setup) (j : Journals) (h : IsHonestFamily c j) (first : EachEnds c j (λ i s. s.view ≡ 0)) (leader : IsCorrect c j.faulty (primary c.config 0)) where
  abbrev all : List Act
  all = (family c j h).acts (primary c.config 0)

  abbrev core : List Act → Core
  core acts = core_after c (j.signer (primary c.config 0)) acts

  abbrev Point : List Act → Type 0
  Point acts = IsEarlier acts ((family c j h).acts (primary c.config 0))

  history : (acts : List Act) → Point acts → IsHistory c (primary c.config 0) (j.signer (primary c.config 0)) acts
  history acts at = history_at c (primary c.config 0) (j.signer (primary c.config 0)) acts all at (told c j h (primary c.config 0) leader).is

  -- what is led so far is signed
  led_signs : (acts : List Act) → Point acts → (y : Fields) → Led y acts → Signs c j h first leader y
  led_signs acts at y (p, b, signed, body, fields) = (p, b, more acts all at signed, body, fields) where
    more : (x zs : List Act) → IsEarlier x zs → HasSigned p x → HasSigned p zs
    more x [] e signed = subst (HasSigned p) e signed
    more x (a ∷ zs) (inl e) signed = subst (HasSigned p) e signed
    more x (a ∷ zs) (inr e) signed = inr (more x zs e signed)

  -- ---- what was led is noted above the low mark

  abbrev Noted : List Act → Core → Type 0
  Noted acts s = (y : Fields) → Led y acts → (y.number ≤ s.low) ⊎ IsIn y s.proposed

  noted_quiet : (a : Act) (acts : List Act) (s t : Core) → ((p : Part) → IsIn p (signed_by_act a) → ⊥) → t.low ≡ s.low → t.proposed ≡ s.proposed → Noted acts s → Noted (a ∷ acts) t
  noted_quiet a acts s t none low proposed h y (p, b, inl new, body, fields) = absurd (none p new)
  noted_quiet a acts s t none low proposed h y (p, b, inr old, body, fields) = elim (h y (p, b, old, body, fields)) [
    | inl below ↦ inl (omega (arith, below, low))
    | inr is ↦ inr (subst (λ (xs : List Fields). IsIn y xs) (sym proposed) is)
  ]

  noted_discarded : (a : Act) (acts : List Act) (s t : Core) (k : ℕ) → ((p : Part) → IsIn p (signed_by_act a) → ⊥) → s.low ≤ k → t.low ≡ k → t.proposed ≡ filter (λ x. nat_lt k x.number) s.proposed → Noted acts s → Noted (a ∷ acts) t
  noted_discarded a acts s t k none up low proposed h y (p, b, inl new, body, fields) = absurd (none p new)
  noted_discarded a acts s t k none up low proposed h y (p, b, inr old, body, fields) = elim (cases_lt k y.number) [
    | inr below ↦ inl (omega (arith, below, low))
    | inl above ↦ elim (h y (p, b, old, body, fields)) [
      | inl below ↦ inl (omega (arith, below, low, up))
      | inr is ↦ inr (subst (λ (xs : List Fields). IsIn y xs) (sym proposed) (in_kept (λ x. nat_lt k x.number) s.proposed y is (lt-ltb k y.number above)))
    ]
  ]

  -- a message of another kind leads nothing
  nothing_led : (m : Signed Body) → IsCalmBody m.body → ((b : PrePrepare) → m.body ≡ bodies.PrePrepare b → ⊥) → (p : Part) (b : PrePrepare) → IsIn p (signed_in m) → p.body ≡ bodies.PrePrepare b → ⊥
  nothing_led m calm other p b new body = other b (signed_as m p b calm new body)

  noted_other : (acts : List Act) (s t : Core) (to : Destination) (m : Signed Body) → IsCalmBody m.body → ((b : PrePrepare) → m.body ≡ bodies.PrePrepare b → ⊥) → t.low ≡ s.low → t.proposed ≡ s.proposed → Noted acts s → Noted (Send to m ∷ acts) t
  noted_other acts s t to m calm other low proposed h y (p, b, inl new, body, fields) = absurd (nothing_led m calm other p b new body)
  noted_other acts s t to m calm other low proposed h y (p, b, inr old, body, fields) = elim (h y (p, b, old, body, fields)) [
    | inl below ↦ inl (omega (arith, below, low))
    | inr is ↦ inr (subst (λ (xs : List Fields). IsIn y xs) (sym proposed) is)
  ]

  noted_proposing : (acts : List Act) (s : Core) (to : Destination) (m : Signed Body) (b : PrePrepare) → m.body ≡ bodies.PrePrepare b → IsCalmBody m.body → Noted acts s → Noted (Send to m ∷ acts) (said c s m (bodies.PrePrepare b))
  noted_proposing acts s to m b e calm h y (p, b', inl new, body, fields) =
      let both : bodies.PrePrepare b ≡ bodies.PrePrepare b' = sym e ∙ signed_as m p b' calm new body in
      let same : b ≡ b' = cc in
      inr (inl (sym (ap of_pre_prepare same ∙ fields)))
  noted_proposing acts s to m b e calm h y (p, b', inr old, body, fields) = elim (h y (p, b', old, body, fields)) [ inl below ↦ inl below | inr is ↦ inr (inr is) ]

  noted_said : (acts : List Act) (s : Core) (to : Destination) (m : Signed Body) (b : Body) → m.body ≡ b → IsCalmBody m.body → Noted acts s → Noted (Send to m ∷ acts) (said c s m b)
  noted_said acts s to m (bodies.PrePrepare b) e calm h = noted_proposing acts s to m b e calm h
  noted_said acts s to m (bodies.Request b) e calm h = absurd (subst IsCalmBody e calm)
  noted_said acts s to m (bodies.ViewChange b) e calm h = absurd (subst IsCalmBody e calm)
  noted_said acts s to m (bodies.NewView b) e calm h = absurd (subst IsCalmBody e calm)
  noted_said acts s to m (bodies.Prepare b) e calm h = noted_other acts s (said c s m (bodies.Prepare b)) to m calm (λ q f. let both : bodies.Prepare b ≡ bodies.PrePrepare q = sym e ∙ f in cc) refl refl h
  noted_said acts s to m (bodies.Commit b) e calm h = noted_other acts s (said c s m (bodies.Commit b)) to m calm (λ q f. let both : bodies.Commit b ≡ bodies.PrePrepare q = sym e ∙ f in cc) refl refl h
  noted_said acts s to m (bodies.Reply b) e calm h = noted_other acts s (said c s m (bodies.Reply b)) to m calm (λ q f. let both : bodies.Reply b ≡ bodies.PrePrepare q = sym e ∙ f in cc) refl refl h
  noted_said acts s to m (bodies.Checkpoint b) e calm h = noted_other acts s (said c s m (bodies.Checkpoint b)) to m calm (λ q f. let both : bodies.Checkpoint b ≡ bodies.PrePrepare q = sym e ∙ f in cc) refl refl h
  noted_said acts s to m (bodies.Snapshot b) e calm h = noted_other acts s (said c s m (bodies.Snapshot b)) to m calm (λ q f. let both : bodies.Snapshot b ≡ bodies.PrePrepare q = sym e ∙ f in cc) refl refl h
  noted_said acts s to m (bodies.Fetch (fetches.Request d)) e calm h =
      noted_other acts s (said c s m (bodies.Fetch (fetches.Request d))) to m calm (λ q f. let both : bodies.Fetch (fetches.Request d) ≡ bodies.PrePrepare q = sym e ∙ f in cc) refl refl h
  noted_said acts s to m (bodies.Fetch (fetches.State n)) e calm h =
      noted_other acts s (said c s m (bodies.Fetch (fetches.State n))) to m calm (λ q f. let both : bodies.Fetch (fetches.State n) ≡ bodies.PrePrepare q = sym e ∙ f in cc) refl refl h

  recorded_low : (s : Core) (m : Signed Body) (b : Body) → (recorded c s m b).low ≡ s.low
  recorded_low s m (bodies.Request b) = refl
  recorded_low s m _ = refl

  recorded_proposed : (s : Core) (m : Signed Body) (b : Body) → (recorded c s m b).proposed ≡ s.proposed
  recorded_proposed s m (bodies.Request b) = refl
  recorded_proposed s m _ = refl

  noted_after : (acts : List Act) (s : Core) (a : Act) → s.low ≤ s.executed → Allowed c (primary c.config 0) s a → IsCalm a → Noted acts s → Noted (a ∷ acts) (after c s a)
  noted_after acts s (Take m r) low ok calm h = noted_quiet (Take m r) acts s (after c s (Take m r)) (λ p none. none) (recorded_low s m m.body) (recorded_proposed s m m.body) h
  noted_after acts s (Send to m) low ok calm h = noted_said acts s to m m.body refl calm h
  noted_after acts s (Enter m) low ok calm h = absurd calm
  noted_after acts s (Rise k d) low ok calm h = let above = ok.above in noted_discarded (Rise k d) acts s (after c s (Rise k d)) k (λ p none. none) (omega (arith, above)) refl refl h
  noted_after acts s (Install k b t) low ok calm h = let above = ok.above in noted_discarded (Install k b t) acts s (after c s (Install k b t)) k (λ p none. none) (omega (arith, above, low)) refl refl h
  noted_after acts s a low ok calm h = noted_quiet a acts s (after c s a) (λ p none. none) refl refl h

  -- what keeps the leader calm at each point
  calm_at : (a : Act) (acts : List Act) → Point (a ∷ acts) → IsCalm a × First (core acts)
  calm_at a acts at = calm_last c (primary c.config 0) (j.signer (primary c.config 0)) a acts (history (a ∷ acts) at) (first_then c j h first (primary c.config 0) leader (a ∷ acts) at).0

  pub noted : (acts : List Act) → Point acts → Noted acts (core acts)
  noted [] at = λ y led. absurd led.2
  noted (a ∷ acts) at =
      let is = history (a ∷ acts) at in
      noted_after acts (core acts) a (low_reached c (primary c.config 0) (j.signer (primary c.config 0)) acts is.0) is.1 (calm_at a acts at).0 (noted acts (before a acts all at))

  -- ---- a proposal was led before each of a higher number

  -- An own proposal at a point.
  pub record Proposal (x : Fields) : Type 0 where
    pub early : List Act
    pub to : Destination
    pub message : Signed Body
    pub body : PrePrepare
    pub point : IsEarlier (Send to message ∷ early) ((family c j h).acts (primary c.config 0))
    pub body_is : message.body ≡ bodies.PrePrepare body
    pub fields : of_pre_prepare body ≡ x

  pub proposal : (x : Fields) → Signs c j h first leader x → Proposal x
  proposal x (p, b, signed, body, fields) =
      let w = spoken c j h first (primary c.config 0) leader p signed in
      record {
        early = w.early;
        to = w.to;
        message = w.message;
        body = b;
        point = w.point;
        body_is = ap (λ (q : Part). q.body) (sym w.part_is) ∙ body;
        fields = fields;
      }

  may_propose : (x : Fields) (w : Proposal x) → MaySay c (primary c.config 0) (core w.early) (bodies.PrePrepare w.body)
  may_propose x w = subst (λ (b : Body). MaySay c (primary c.config 0) (core w.early) b) w.body_is ((history (Send w.to w.message ∷ w.early) w.point).1.says)

  number_next : (x : Fields) (w : Proposal x) → x.number ≡ next_number (core w.early)
  number_next x w = ap (λ (y : Fields). y.number) (sym w.fields) ∙ (may_propose x w).next

  led_at : (x : Fields) (w : Proposal x) (acts : List Act) → IsEarlier (Send w.to w.message ∷ w.early) acts → Led x acts
  led_at x w acts at = (part_of w.message, w.body, signed_at (part_of w.message) (Send w.to w.message) w.early acts at (inl refl), w.body_is, w.fields)

  same_sent : (to to' : Destination) (m m' : Signed Body) (x y : List Act) → Send to m ∷ x ≡ Send to' m' ∷ y → m ≡ m'
  same_sent to to' m m' x y e = cc

  pub led_before : (x y : Fields) (w : Proposal x) → Signs c j h first leader y → y.number < x.number → Led y w.early
  led_before x y w signs less =
      let v = proposal y signs in
      elim (in_order (Send v.to v.message ∷ v.early) (Send w.to w.message ∷ w.early) all v.point w.point) [
        | inl (inr at) ↦ led_at y v w.early at
        | inl (inl same) ↦ absurd (one v (same_sent v.to w.to v.message w.message v.early w.early same))
        | inr (inl same) ↦ absurd (one v (sym (same_sent w.to v.to w.message v.message w.early v.early same)))
        | inr (inr at) ↦
            let point = before (Send v.to v.message) v.early all v.point in
            let next = number_next y v in
            absurd (elim (noted v.early point x (led_at x w v.early at)) [
              | inl below ↦ let up = next_above_low (core v.early) in omega (arith, less, below, next, up)
              | inr is ↦ let up = next_above_proposed (core v.early) x is in omega (arith, less, next, up)
            ])
      ] where
        one : (v : Proposal y) → v.message ≡ w.message → ⊥
        one v same =
            let both : bodies.PrePrepare v.body ≡ bodies.PrePrepare w.body = sym v.body_is ∙ ap (λ (m : Signed Body). m.body) same ∙ w.body_is in
            let alike : v.body ≡ w.body = cc in
            let number : y.number ≡ x.number = ap (λ (z : Fields). z.number) (sym v.fields ∙ ap of_pre_prepare alike ∙ w.fields) in
            omega (arith, less, number)

  -- ---- what stands in the table was led, and is noted

  -- Each PrePrepare in the table stands under its own number, and is noted as proposed if it is of view 0.
  abbrev Tabled : Core → Type 0
  Tabled s = (p : Key × Signed PrePrepare) → IsIn p s.pre_prepares → (first_in p.0 ≡ p.1.body.number.0) × (p.1.body.view.0 ≡ 0 → IsIn (of_pre_prepare p.1.body) s.proposed)

  tabled_same : (s t : Core) → t.pre_prepares ≡ s.pre_prepares → t.proposed ≡ s.proposed → Tabled s → Tabled t
  tabled_same s t table proposed h p is =
      let w = h p (subst (λ (x : Table (Signed PrePrepare)). IsIn p x) table is) in
      (w.0, λ view. subst (λ (xs : List Fields). IsIn (of_pre_prepare p.1.body) xs) (sym proposed) (w.1 view))

  tabled_kept : (s t : Core) (k : ℕ) → t.pre_prepares ≡ keep (is_above k) s.pre_prepares → t.proposed ≡ filter (λ x. nat_lt k x.number) s.proposed → Tabled s → Tabled t
  tabled_kept s t k table proposed h p is =
      let v = pair_from_keep (is_above k) s.pre_prepares p (subst (λ (x : Table (Signed PrePrepare)). IsIn p x) table is) in
      let w = h p v.0 in
      let above : nat_lt k p.1.body.number.0 ≡ true = subst (λ (n : ℕ). nat_lt k n ≡ true) w.0 v.1 in
      (w.0, λ view. subst (λ (xs : List Fields). IsIn (of_pre_prepare p.1.body) xs) (sym proposed) (in_kept (λ x. nat_lt k x.number) s.proposed (of_pre_prepare p.1.body) (w.1 view) above))

  tabled_added : (s : Core) (b : Bool) (m : Signed PrePrepare) (xs : List Fields) → (b ≡ true → m.body.view.0 ≡ 0 → IsIn (of_pre_prepare m.body) xs) → ((x : Fields) → IsIn x s.proposed → IsIn x xs) → Tabled s
      → (p : Key × Signed PrePrepare) → IsIn p (add_if b (vote_key m.body.number.0 m.body.view.0 m.id) m s.pre_prepares) → (first_in p.0 ≡ p.1.body.number.0) × (p.1.body.view.0 ≡ 0 → IsIn (of_pre_prepare p.1.body) xs)
  tabled_added s b m xs new more h p is = elim (pair_from_add b s.pre_prepares (vote_key m.body.number.0 m.body.view.0 m.id) m p is) [
    | inr old ↦ let w = h p old in (w.0, λ view. more (of_pre_prepare p.1.body) (w.1 view))
    | inl w ↦ (
      ap (λ (q : Key × Signed PrePrepare). first_in q.0) w.0 ∙ ap (λ (q : Key × Signed PrePrepare). q.1.body.number.0) (sym w.0),
      λ view. subst (λ (q : Key × Signed PrePrepare). IsIn (of_pre_prepare q.1.body) xs) (sym w.0) (new w.1 (ap (λ (q : Key × Signed PrePrepare). q.1.body.view.0) (sym w.0) ∙ view)),
    )
  ]

  never_taken : (to : Destination) (q : Signed Body) (x : List Act) (m : Signed Body) (r : Option Service) (y : List Act) → Send to q ∷ x ≡ Take m r ∷ y → ⊥
  never_taken to q x m r y e = cc

  -- a PrePrepare of view 0 that was taken is the leader's own
  received_signs : (m : Signed Body) (b : PrePrepare) → m.body ≡ bodies.PrePrepare b → b.view.0 ≡ 0 → HasTaken m all → Signs c j h first leader (of_pre_prepare b)
  received_signs m b e view taken =
      let lead = primary c.config 0 in
      let t = told c j h lead leader in
      let opened = taken_opened c lead (j.signer lead) m all t.is taken in
      let by = proposed_by c.config m.role m.id b (subst (λ (x : Body). IsTrue (may_sign c.config m.role m.id x)) e opened.authentic.0.role) in
      let id : m.id ≡ lead = sym by.1 ∙ ap (primary c.config) view in
      let given = h.real lead leader m m (t.received m taken) (inl refl) by.0 (subst (IsCorrect c j.faulty) (sym id) leader) in
      (part_of m, b, t.signs (part_of m) (subst (λ (k : ℕ). HasGiven (part_of m) (j.rows k)) id given), e, refl)

  -- it cannot be taken before it is sent
  too_early : (m : Signed Body) (r : Option Service) (acts : List Act) (b : PrePrepare) → m.body ≡ bodies.PrePrepare b → (v : Proposal (of_pre_prepare b)) → IsEarlier (Take m r ∷ acts) v.early → IsInside c (core acts) b.view.0 b.number.0 → ⊥
  too_early m r acts b e v later inside =
      let lead = primary c.config 0 in
      let point = before (Send v.to v.message) v.early all v.point in
      let is = history v.early point in
      let here = first_then c j h first lead leader v.early point in
      let next = number_next (of_pre_prepare b) v in
      stands here next (shapes c lead (j.signer lead) v.early is here.0).0 (pre_prepare_taken c lead (j.signer lead) v.early is m r acts b later e inside) where
        stands : First (core v.early) → b.number.0 ≡ next_number (core v.early)
            → ((q : Key) (y : Signed PrePrepare) → at (core v.early).pre_prepares q ≡ Some y → (q ≡ vote_key y.body.number.0 y.body.view.0 y.id) × (y.role ≡ Replica))
            → Stage b.view.0 (Stands (λ s. s.pre_prepares) b.number.0 b.view.0 m.id) (core v.early) → ⊥
        stands here next shape (inr higher) = let view = here.0 in omega (arith, higher, view)
        stands here next shape (inl w) = elim w.2 [
          | inl below ↦ let up = next_above_low (core v.early) in omega (arith, below, next, up)
          | inr y ↦
              let place = (shape (vote_key b.number.0 b.view.0 m.id) y.0 y.1).0 in
              let number : b.number.0 ≡ y.0.body.number.0 = ap first_in place in
              let view : b.view.0 ≡ y.0.body.view.0 = ap view_in place in
              let up = next_above_recorded (core v.early) y.0 (at_in (core v.early).pre_prepares (vote_key b.number.0 b.view.0 m.id) y.0 y.1) (sym view ∙ sym w.0) in
              omega (arith, next, number, up)
        ]

  -- what is taken of its own is noted
  taken_noted : (m : Signed Body) (r : Option Service) (acts : List Act) (b : PrePrepare) → Point (Take m r ∷ acts) → m.body ≡ bodies.PrePrepare b → is_admitted c (core acts) b.view.0 b.number.0 ≡ true → b.view.0 ≡ 0
      → IsIn (of_pre_prepare b) (core acts).proposed
  taken_noted m r acts b at e ok view =
      let s = core acts in
      let here = first_then c j h first (primary c.config 0) leader acts (before (Take m r) acts all at) in
      let parts = and_parts (nat_le s.view b.view.0) (is_inside c s b.number.0 && not (s.active && ((b.view.0 == s.view) && nat_le b.number.0 (floor_in s)))) ok in
      let marks = (and_parts (is_inside c s b.number.0) (not (s.active && ((b.view.0 == s.view) && nat_le b.number.0 (floor_in s)))) parts.1).0 in
      let inside = and_parts (nat_lt s.low b.number.0) (nat_le b.number.0 (s.low + span c.config)) marks in
      let low = ltb-true s.low b.number.0 inside.0 in
      let high = leb-true b.number.0 (s.low + span c.config) inside.1 in
      let floor : floor_in s ≡ 0 = ap floor_of here.2 in
      let x = of_pre_prepare b in
      let v = proposal x (received_signs m b e view (taken_at m r acts all at)) in
      elim (in_order (Send v.to v.message ∷ v.early) (Take m r ∷ acts) all v.point at) [
        | inl (inl same) ↦ absurd (never_taken v.to v.message v.early m r acts same)
        | inr (inl same) ↦ absurd (never_taken v.to v.message v.early m r acts (sym same))
        | inl (inr led) ↦ elim (noted acts (before (Take m r) acts all at) x (led_at x v acts led)) [
          | inl below ↦ absurd (omega (arith, low, below))
          | inr noted_there ↦ noted_there
        ]
        | inr (inr later) ↦ absurd (too_early m r acts b e v later (record { active = here.1; view_is = view ∙ sym here.0; above_floor = omega (arith, low, floor); above_low = low; up_to_high = high }))
      ]

  tabled_recorded : (m : Signed Body) (r : Option Service) (acts : List Act) (b : Body) → Point (Take m r ∷ acts) → m.body ≡ b → Tabled (core acts) → Tabled (recorded c (core acts) m b)
  tabled_recorded m r acts (bodies.PrePrepare b) at e h =
      tabled_added (core acts) (is_admitted c (core acts) b.view.0 b.number.0) (with_body m b) (core acts).proposed (λ ok view. taken_noted m r acts b at e ok view) (λ x is. is) h
  tabled_recorded m r acts (bodies.Request b) at e h = h
  tabled_recorded m r acts _ at e h = h

  tabled_said : (s : Core) (m : Signed Body) (b : Body) → IsCalmBody b → Tabled s → Tabled (said c s m b)
  tabled_said s m (bodies.PrePrepare b) calm h = tabled_added s (is_admitted c s b.view.0 b.number.0) (with_body m b) (of_pre_prepare b ∷ s.proposed) (λ ok view. inl refl) (λ x is. inr is) h
  tabled_said s m (bodies.Request b) calm h = absurd calm
  tabled_said s m (bodies.ViewChange b) calm h = absurd calm
  tabled_said s m (bodies.NewView b) calm h = absurd calm
  tabled_said s m (bodies.Fetch (fetches.Request d)) calm h = h
  tabled_said s m (bodies.Fetch (fetches.State n)) calm h = h
  tabled_said s m _ calm h = h

  tabled_after : (a : Act) (acts : List Act) → Point (a ∷ acts) → IsCalm a → Tabled (core acts) → Tabled (after c (core acts) a)
  tabled_after (Take m r) acts at calm h = tabled_recorded m r acts m.body at refl h
  tabled_after (Send to m) acts at calm h = tabled_said (core acts) m m.body calm h
  tabled_after (Enter m) acts at calm h = absurd calm
  tabled_after (Rise k d) acts at calm h = tabled_kept (core acts) (after c (core acts) (Rise k d)) k refl refl h
  tabled_after (Install k b t) acts at calm h = tabled_kept (core acts) (after c (core acts) (Install k b t)) k refl refl h
  tabled_after a acts at calm h = h

  tabled : (acts : List Act) → Point acts → Tabled (core acts)
  tabled [] at = λ p none. absurd none
  tabled (a ∷ acts) at = tabled_after a acts at (calm_at a acts at).0 (tabled acts (before a acts all at))

  -- ---- requests that are new and not noted

  -- No proposal that is noted has the digest.
  abbrev IsFree : List Fields → List ℕ → Type 0
  IsFree xs digest = (z : Fields) → IsIn z xs → z.digest ≡ digest → ⊥

  -- what is proposed is noted
  pub proposed_named : (acts : List Act) → Point acts → (digest : List ℕ) → is_proposed (core acts) digest ≡ true → (z : Fields) × IsIn z (core acts).proposed × (z.digest ≡ digest)
  proposed_named acts at digest e = elim (or_cases (names (of_view (core acts).view (entries_in (core acts).pre_prepares)) digest) (list_any (λ x. bytes_eq x.digest digest) (core acts).proposed) e) [
    | inr listed ↦
        let w = in_any (λ (x : Fields). bytes_eq x.digest digest) (core acts).proposed listed in
        (w.0, w.1, (bytes_eq-Decides w.0.digest digest).0 w.2)
    | inl named ↦
        let w = in_any (λ (m : Signed PrePrepare). bytes_eq m.body.digest.0 digest) (of_view (core acts).view (entries_in (core acts).pre_prepares)) named in
        let v = from_filtered (λ (m : Signed PrePrepare). m.body.view.0 == (core acts).view) (entries_in (core acts).pre_prepares) w.0 w.1 in
        let p = from_map (λ (q : Key × Signed PrePrepare). q.1) (core acts).pre_prepares w.0 v.0 in
        let view : p.0.1.body.view.0 ≡ 0 = ap (λ (m : Signed PrePrepare). m.body.view.0) (sym p.2) ∙ eqb-true w.0.body.view.0 (core acts).view v.1 ∙ (first_then c j h first (primary c.config 0) leader acts at).0 in
        (of_pre_prepare p.0.1.body, (tabled acts at p.0 p.1).1 view, ap (λ (m : Signed PrePrepare). m.body.digest.0) (sym p.2) ∙ (bytes_eq-Decides w.0.body.digest.0 digest).0 w.2)
  ]

  free_proposed : (acts : List Act) → Point acts → (digest : List ℕ) → IsFree (core acts).proposed digest → is_proposed (core acts) digest ≡ false
  free_proposed acts at digest free = false_from_ne_true (is_proposed (core acts) digest) (λ e. let w = proposed_named acts at digest e in absurd (free w.0 w.1 w.2))

  -- ---- of each client the times of what is free are above those of what was led

  abbrev IsTaken : Signed RequestBody → Type 0
  IsTaken m = IsTakenBy c j h first leader m

  pub here_taken : (m : Signed RequestBody) → HasTaken (as_message bodies.Request m) all → IsTaken m
  here_taken m taken = (primary c.config 0, leader, taken)

  held_here : (acts : List Act) → Point acts → (m : Signed RequestBody) → IsIn m (core acts).held → HasTaken (as_message bodies.Request m) acts
  held_here acts at m within = held_taken c (primary c.config 0) (j.signer (primary c.config 0)) acts (history acts at) acts (now acts) m within

  abbrev Rising : List Act → Core → Type 0
  Rising acts s = (x : Signed RequestBody) → IsIn x s.held → is_new s.service x ≡ true → IsFree s.proposed (digest_of c x)
      → (y : Fields) → Led y acts → (m : Signed RequestBody) → IsTaken m → digest_of c m ≡ y.digest → m.id ≡ x.id → m.body.time < x.body.time

  abbrev Inv : List Act → Core → Type 0
  Inv acts s = Ordered s.held × Rising acts s

  old_led : (a : Act) (acts : List Act) (y : Fields) → ((p : Part) → IsIn p (signed_by_act a) → ⊥) → Led y (a ∷ acts) → Led y acts
  old_led a acts y none (p, b, inl new, body, fields) = absurd (none p new)
  old_led a acts y none (p, b, inr old, body, fields) = (p, b, old, body, fields)

  inv_quiet : (a : Act) (acts : List Act) (s t : Core) → ((p : Part) → IsIn p (signed_by_act a) → ⊥) → t.held ≡ s.held → t.proposed ≡ s.proposed → ((x : Signed RequestBody) → is_new t.service x ≡ true → is_new s.service x ≡ true)
      → Inv acts s → Inv (a ∷ acts) t
  inv_quiet a acts s t none held proposed new h = (
    subst Ordered (sym held) h.0,
    λ x within is_new_now free y led m taken digest id.
        h.1 x (subst (λ (ms : List (Signed RequestBody)). IsIn x ms) held within) (new x is_new_now) (subst (λ (xs : List Fields). IsFree xs (digest_of c x)) proposed free) y (old_led a acts y none led) m taken digest id,
  )

  -- ---- a request comes

  pub same_time : (m p : Signed RequestBody) → request_in m ≡ request_in p → (m.id ≡ p.id) × (m.body.time ≡ p.body.time)
  same_time m p e = (ap (λ (r : Request). r.client.0) e, ap (λ (r : Request). r.time) e)

  module _ (asks : AsksInOrder c j) where
    -- what came before it of its client has a lower time, or is it
    came_before : (p m : Signed RequestBody) (r : Option Service) (acts : List Act) → Point (Take (as_message bodies.Request p) r ∷ acts) → HasTaken (as_message bodies.Request m) acts → m.id ≡ p.id → (m ≡ p) ⊎ (m.body.time < p.body.time)
    came_before p m r acts at taken id =
        let w = (told c j h (primary c.config 0) leader).splits (as_message bodies.Request p) r acts at in
        elim (w.before_it (as_message bodies.Request m) taken) [
          | inl none ↦ absurd none
          | inr received ↦ asks w.earlier w.later w.row m p w.splits w.came received id
        ]

    -- the request of what was led so far came before
    led_request : (acts : List Act) → Point acts → (y : Fields) → Led y acts → (q : Signed RequestBody) × HasTaken (as_message bodies.Request q) acts × (digest_of c q ≡ y.digest)
    led_request acts at y (p, b, signed, body, fields) =
        let lead = primary c.config 0 in
        let w = sent_of p acts signed in
        let point = earlier_trans (Send w.sent.to w.message ∷ w.sent.early) acts all w.sent.at at in
        let calm : IsCalm (Send w.sent.to w.message) = (calm_at (Send w.sent.to w.message) w.sent.early point).0 in
        let is_b = signed_as w.message p b calm w.within body in
        let s = core w.sent.early in
        let found = subst (Proposes c s) is_b (proposes_due c lead s w.sent.to w.message ((told c j h lead leader).does (Send w.sent.to w.message ∷ w.sent.early) point tt)) in
        let early_at = before (Send w.sent.to w.message) w.sent.early all point in
        let within = (from_find _ s.held found.0 found.1).0 in
        let taken = taken_later (as_message bodies.Request found.0) w.sent.early acts (before (Send w.sent.to w.message) w.sent.early acts w.sent.at) (held_here w.sent.early early_at found.0 within) in
        (found.0, taken, ap (λ (x : PrePrepare). x.digest.0) (sym found.2) ∙ ap (λ (x : Fields). x.digest) fields)

    reached_one : (y : Fields) → Signs c j h first leader y → 1 ≤ y.number
    reached_one y signs =
        let v = proposal y signs in
        let next = number_next y v in
        let up = next_above_low (core v.early) in
        omega (arith, next, up)

    inv_request : (p : Signed RequestBody) (r : Option Service) (acts : List Act) → Point (Take (as_message bodies.Request p) r ∷ acts) → Inv acts (core acts) → Inv (Take (as_message bodies.Request p) r ∷ acts) (after c (core acts) (Take (as_message bodies.Request p) r))
    inv_request p r acts at so = split (is_some (held_with c (core acts).held (digest_of c p))) refl where
      s : Core
      s = core acts

      point : Point acts
      point = before (Take (as_message bodies.Request p) r) acts all at

      old : (x : Signed RequestBody) → IsIn x s.held → is_new s.service x ≡ true → IsFree s.proposed (digest_of c x) → (y : Fields) → Led y (Take (as_message bodies.Request p) r ∷ acts)
          → (m : Signed RequestBody) → IsTaken m → digest_of c m ≡ y.digest → m.id ≡ x.id → m.body.time < x.body.time
      old x within new free y led m taken digest id = so.1 x within new free y (old_led (Take (as_message bodies.Request p) r) acts y (λ q none. none) led) m taken digest id

      -- the one that came
      fresh : is_new s.service p ≡ true → IsFree s.proposed (digest_of c p) → (y : Fields) → Led y acts → (m : Signed RequestBody) → IsTaken m → digest_of c m ≡ y.digest → m.id ≡ p.id → m.body.time < p.body.time
      fresh new free y led m taken digest id =
          let q = led_request acts point y led in
          let one = same_time m q.0 (same_request c j h first leader m q.0 taken (here_taken q.0 (taken_later (as_message bodies.Request q.0) acts all point q.1)) (digest ∙ sym q.2)) in
          let same_id = one.0 in
          let time = one.1 in
          elim (came_before p q.0 r acts at q.1 (sym same_id ∙ id)) [
            | inr less ↦ omega (arith, less, time)
            | inl same ↦ absurd (elim (noted acts point y led) [
              | inr is ↦ free y is (sym q.2 ∙ ap (digest_of c) same)
              | inl below ↦
                  let signs = led_signs acts point y led in
                  let low = low_reached c (primary c.config 0) (j.signer (primary c.config 0)) acts (history acts point) in
                  let old_now = reached_old c j h first leader (primary c.config 0) leader acts point y signs (reached_one y signs) (omega (arith, below, low)) p
                  (here_taken p (taken_at (as_message bodies.Request p) r acts all at)) (sym (ap (digest_of c) same) ∙ q.2) in
                  true≢false (sym new ∙ old_now)
            ])
          ]

      split : (b : Bool) → is_some (held_with c s.held (digest_of c p)) ≡ b → Inv (Take (as_message bodies.Request p) r ∷ acts) (record s { held = cond b s.held (s.held ++ p ∷ []); taken = Some (as_message bodies.Request p); reading = r; is_fresh = true; timed_out = false })
      split true e = (so.0, old)
      split false e = (
        ordered_behind s.held p so.0 (λ m within id.
            elim (came_before p m r acts at (held_here acts point m within) id) [
              | inr less ↦ less
              | inl same ↦ absurd (true≢false (sym (find_in (is_named c (digest_of c p)) s.held m within ((bytes_eq-Decides (digest_of c m) (digest_of c p)).1 (ap (digest_of c) same))) ∙ e))
            ]),
        λ x within new free y led m taken digest id. elim (from_append x s.held (p ∷ []) within) [
          | inl held_before ↦ old x held_before new free y led m taken digest id
          | inr (inr none) ↦ absurd none
          | inr (inl same) ↦
              let led_then = old_led (Take (as_message bodies.Request p) r) acts y (λ q none. none) led in
              subst (λ (z : Signed RequestBody). m.body.time < z.body.time) (sym same)
              (fresh (subst (λ (z : Signed RequestBody). is_new s.service z ≡ true) same new) (subst (λ (z : Signed RequestBody). IsFree s.proposed (digest_of c z)) same free) y led_then m taken digest
              (id ∙ ap (λ (z : Signed RequestBody). z.id) same))
        ],
      )

    inv_taken : (m : Signed Body) (r : Option Service) (acts : List Act) (b : Body) → Point (Take m r ∷ acts) → m.body ≡ b → Inv acts (core acts)
        → Inv (Take m r ∷ acts) (record (recorded c (core acts) m b) { taken = Some m; reading = r; is_fresh = true; timed_out = false })
    inv_taken m r acts (bodies.Request b) at e h =
        let same : m ≡ as_message bodies.Request (with_body m b) = λ i. record { role = m.role; id = m.id; body = e i; sig = m.sig } in
        subst (λ (x : Signed Body). Inv (Take x r ∷ acts) (record (recorded c (core acts) m (bodies.Request b)) { taken = Some x; reading = r; is_fresh = true; timed_out = false })) (sym same)
        (inv_request (with_body m b) r acts (subst (λ (x : Signed Body). Point (Take x r ∷ acts)) same at) h)
    inv_taken m r acts b at e h = inv_quiet (Take m r) acts (core acts) (record (recorded c (core acts) m b) { taken = Some m; reading = r; is_fresh = true; timed_out = false }) (λ q none. none) refl refl (λ x new. new) h

    -- ---- a proposal is sent

    inv_proposal : (to : Destination) (m : Signed Body) (acts : List Act) (b : PrePrepare) → Point (Send to m ∷ acts) → m.body ≡ bodies.PrePrepare b → Inv acts (core acts) → Inv (Send to m ∷ acts) (said c (core acts) m (bodies.PrePrepare b))
    inv_proposal to m acts b at e so = (so.0, rising) where
      s : Core
      s = core acts

      point : Point acts
      point = before (Send to m) acts all at

      found : Proposes c s (bodies.PrePrepare b)
      found = subst (Proposes c s) e (proposes_due c (primary c.config 0) s to m ((told c j h (primary c.config 0) leader).does (Send to m ∷ acts) at tt))

      calm : IsCalmBody m.body
      calm = (calm_at (Send to m) acts at).0

      -- the request that was found comes before each other that is free
      lower : (x : Signed RequestBody) → IsIn x s.held → is_new s.service x ≡ true → IsFree (of_pre_prepare b ∷ s.proposed) (digest_of c x) → found.0.id ≡ x.id → found.0.body.time < x.body.time
      lower x within new free id =
          let unproposed = free_proposed acts point (digest_of c x) (λ z is. free z (inr is)) in
          elim (first_before (λ r. is_new s.service r && not (is_proposed s (digest_of c r))) s.held found.0 x found.1 within
          (and_from (is_new s.service x) (not (is_proposed s (digest_of c x))) new (not_from_false (is_proposed s (digest_of c x)) unproposed)) so.0) [
            | inr less ↦ less id
            | inl same ↦ absurd (free (of_pre_prepare b) (inl refl) (ap (λ (y : PrePrepare). y.digest.0) found.2 ∙ ap (digest_of c) same))
          ]

      rising : Rising (Send to m ∷ acts) (said c s m (bodies.PrePrepare b))
      rising x within new free y (p, b', inr older, body, fields) q taken digest id = so.1 x within new (λ z is. free z (inr is)) y (p, b', older, body, fields) q taken digest id
      rising x within new free y (p, b', inl newest, body, fields) q taken digest id =
          let both : bodies.PrePrepare b ≡ bodies.PrePrepare b' = sym e ∙ signed_as m p b' calm newest body in
          let same : b ≡ b' = cc in
          let named : y.digest ≡ digest_of c found.0 = ap (λ (z : Fields). z.digest) (sym fields) ∙ ap (λ (z : PrePrepare). z.digest.0) (sym same ∙ found.2) in
          let found_taken = here_taken found.0 (taken_later (as_message bodies.Request found.0) acts all point (held_here acts point found.0 (from_find _ s.held found.0 found.1).0)) in
          let one = same_time q found.0 (same_request c j h first leader q found.0 taken found_taken (digest ∙ named)) in
          let less = lower x within new free (sym one.0 ∙ id) in
          let time = one.1 in
          omega (arith, less, time)

    inv_other : (to : Destination) (m : Signed Body) (acts : List Act) (t : Core) → Point (Send to m ∷ acts) → ((b : PrePrepare) → m.body ≡ bodies.PrePrepare b → ⊥) → t.held ≡ (core acts).held → t.proposed ≡ (core acts).proposed → t.service ≡ (core acts).service
        → Inv acts (core acts) → Inv (Send to m ∷ acts) t
    inv_other to m acts t at other held proposed service h = (
      subst Ordered (sym held) h.0,
      λ x within new free y led q taken digest id.
          h.1 x (subst (λ (ms : List (Signed RequestBody)). IsIn x ms) held within) (subst (λ (w : Service). is_new w x ≡ true) service new) (subst (λ (xs : List Fields). IsFree xs (digest_of c x)) proposed free) y (older y led) q taken digest id,
    ) where
      older : (y : Fields) → Led y (Send to m ∷ acts) → Led y acts
      older y (p, b, inl new, body, fields) = absurd (nothing_led m (calm_at (Send to m) acts at).0 other p b new body)
      older y (p, b, inr old, body, fields) = (p, b, old, body, fields)

    inv_said : (to : Destination) (m : Signed Body) (acts : List Act) (b : Body) → Point (Send to m ∷ acts) → m.body ≡ b → Inv acts (core acts) → Inv (Send to m ∷ acts) (said c (core acts) m b)
    inv_said to m acts (bodies.PrePrepare b) at e h = inv_proposal to m acts b at e h
    inv_said to m acts (bodies.Request b) at e h = absurd (subst IsCalmBody e (calm_at (Send to m) acts at).0)
    inv_said to m acts (bodies.ViewChange b) at e h = absurd (subst IsCalmBody e (calm_at (Send to m) acts at).0)
    inv_said to m acts (bodies.NewView b) at e h = absurd (subst IsCalmBody e (calm_at (Send to m) acts at).0)
    inv_said to m acts (bodies.Prepare b) at e h = inv_other to m acts (said c (core acts) m (bodies.Prepare b)) at (λ q f. let both : bodies.Prepare b ≡ bodies.PrePrepare q = sym e ∙ f in cc) refl refl refl h
    inv_said to m acts (bodies.Commit b) at e h = inv_other to m acts (said c (core acts) m (bodies.Commit b)) at (λ q f. let both : bodies.Commit b ≡ bodies.PrePrepare q = sym e ∙ f in cc) refl refl refl h
    inv_said to m acts (bodies.Reply b) at e h = inv_other to m acts (said c (core acts) m (bodies.Reply b)) at (λ q f. let both : bodies.Reply b ≡ bodies.PrePrepare q = sym e ∙ f in cc) refl refl refl h
    inv_said to m acts (bodies.Checkpoint b) at e h = inv_other to m acts (said c (core acts) m (bodies.Checkpoint b)) at (λ q f. let both : bodies.Checkpoint b ≡ bodies.PrePrepare q = sym e ∙ f in cc) refl refl refl h
    inv_said to m acts (bodies.Snapshot b) at e h = inv_other to m acts (said c (core acts) m (bodies.Snapshot b)) at (λ q f. let both : bodies.Snapshot b ≡ bodies.PrePrepare q = sym e ∙ f in cc) refl refl refl h
    inv_said to m acts (bodies.Fetch (fetches.Request d)) at e h =
        inv_other to m acts (said c (core acts) m (bodies.Fetch (fetches.Request d))) at (λ q f. let both : bodies.Fetch (fetches.Request d) ≡ bodies.PrePrepare q = sym e ∙ f in cc) refl refl refl h
    inv_said to m acts (bodies.Fetch (fetches.State n)) at e h =
        inv_other to m acts (said c (core acts) m (bodies.Fetch (fetches.State n))) at (λ q f. let both : bodies.Fetch (fetches.State n) ≡ bodies.PrePrepare q = sym e ∙ f in cc) refl refl refl h

    -- ---- what is discarded, executed and installed

    -- what is free after a mark rose was so before, or is new no more
    free_before : (acts : List Act) (a : Act) (k : ℕ) → Point (a ∷ acts) → k ≤ (core (a ∷ acts)).executed → (x : Signed RequestBody) → IsTaken x → is_new (core (a ∷ acts)).service x ≡ true
        → IsFree (filter (λ z. nat_lt k z.number) (core acts).proposed) (digest_of c x) → IsFree (core acts).proposed (digest_of c x)
    free_before acts a k at reached x taken new free z is named = elim (cases_lt k z.number) [
      | inl above ↦ free z (in_kept (λ y. nat_lt k y.number) (core acts).proposed z is (lt-ltb k z.number above)) named
      | inr below ↦
          let signs = noted_signs c j h first leader acts (before a acts all at) z is in
          let old = reached_old c j h first leader (primary c.config 0) leader (a ∷ acts) at z signs (reached_one z signs) (omega (arith, below, reached)) x taken (sym named) in
          true≢false (sym new ∙ old)
    ]

    inv_discarded : (acts : List Act) (a : Act) (k : ℕ) (test : Signed RequestBody → Bool) → Point (a ∷ acts) → ((p : Part) → IsIn p (signed_by_act a) → ⊥) → k ≤ (core (a ∷ acts)).executed
        → (core (a ∷ acts)).held ≡ filter test (core acts).held → (core (a ∷ acts)).proposed ≡ filter (λ z. nat_lt k z.number) (core acts).proposed
        → ((x : Signed RequestBody) → is_new (core (a ∷ acts)).service x ≡ true → is_new (core acts).service x ≡ true) → Inv acts (core acts) → Inv (a ∷ acts) (core (a ∷ acts))
    inv_discarded acts a k test at none reached held proposed renew h = (
      subst Ordered (sym held) (ordered_kept test (core acts).held h.0),
      λ x within new free y led m taken digest id.
          let before_it = unfiltered test (core acts).held x (subst (λ (ms : List (Signed RequestBody)). IsIn x ms) held within) in
          let point = before a acts all at in
          let x_taken = here_taken x (taken_later (as_message bodies.Request x) acts all point (held_here acts point x before_it)) in
          h.1 x before_it (renew x new) (free_before acts a k at reached x x_taken new (subst (λ (xs : List Fields). IsFree xs (digest_of c x)) proposed free)) y (old_led a acts y none led) m taken digest id,
    )

    inv_after : (a : Act) (acts : List Act) → Point (a ∷ acts) → Inv acts (core acts) → Inv (a ∷ acts) (core (a ∷ acts))
    inv_after (Take m r) acts at so = inv_taken m r acts m.body at refl so
    inv_after Timeout acts at so = inv_quiet Timeout acts (core acts) (core (Timeout ∷ acts)) (λ q none. none) refl refl (λ x new. new) so
    inv_after (Send to m) acts at so = inv_said to m acts m.body at refl so
    inv_after (Relay to m) acts at so = inv_quiet (Relay to m) acts (core acts) (core (Relay to m ∷ acts)) (λ q none. none) refl refl (λ x new. new) so
    inv_after (Enter m) acts at so = absurd (calm_at (Enter m) acts at).0
    inv_after (Rise k d) acts at so =
        let ok = (history (Rise k d ∷ acts) at).1 in
        inv_discarded acts (Rise k d) k (λ m. is_new (core acts).service m || names (entries_in (keep (is_above k) (core acts).pre_prepares)) (digest_of c m)) at (λ q none. none) ok.reached refl refl (λ x new. new) so
    inv_after (Execute n d t o) acts at so =
        let ok = (history (Execute n d t o ∷ acts) at).1 in
        inv_quiet (Execute n d t o) acts (core acts) (core (Execute n d t o ∷ acts)) (λ q none. none) refl refl (λ x new. new_before (core acts).service (request_of c (core acts) d) t o ok.step x new) so
    inv_after (Install k b t) acts at so =
        let ok = (history (Install k b t ∷ acts) at).1 in
        let above = ok.above in
        let point = before (Install k b t) acts all at in
        inv_discarded acts (Install k b t) k (λ m. is_new t m || names (entries_in (keep (is_above k) (core acts).pre_prepares)) (digest_of c m)) at (λ q none. none) (omega arith) refl refl
        (λ x new. renewed c j h first leader (primary c.config 0) leader acts (Install k b t) point at (omega (arith, above)) x new) so

    inv : (acts : List Act) → Point acts → Inv acts (core acts)
    inv [] at = (tt, λ x none. absurd none)
    inv (a ∷ acts) at = inv_after a acts at (inv acts (before a acts all at))

    -- ---- the times of one client's proposals rise with their numbers

    pub times_rise : (x y : Fields) → Signs c j h first leader x → Signs c j h first leader y → y.number < x.number → (p m : Signed RequestBody) → IsTaken p → IsTaken m → digest_of c p ≡ y.digest → digest_of c m ≡ x.digest
        → p.id ≡ m.id → p.body.time < m.body.time
    times_rise x y signs_x signs_y less p m taken_p taken_m named_p named_m id =
        let lead = primary c.config 0 in
        let w = proposal x signs_x in
        let s = core w.early in
        let point = before (Send w.to w.message) w.early all w.point in
        let found = subst (Proposes c s) w.body_is (proposes_due c lead s w.to w.message ((told c j h lead leader).does (Send w.to w.message ∷ w.early) w.point tt)) in
        let v = from_find (λ r. is_new s.service r && not (is_proposed s (digest_of c r))) s.held found.0 found.1 in
        let tests = and_parts (is_new s.service found.0) (not (is_proposed s (digest_of c found.0))) v.1 in
        let free : IsFree s.proposed (digest_of c found.0) = λ z is same.
        true≢false (sym (or_right (names (of_view s.view (entries_in s.pre_prepares)) (digest_of c found.0)) (list_any (λ (u : Fields). bytes_eq u.digest (digest_of c found.0)) s.proposed)
        (any_in (λ (u : Fields). bytes_eq u.digest (digest_of c found.0)) z s.proposed is ((bytes_eq-Decides z.digest (digest_of c found.0)).1 same))) ∙ not-true (is_proposed s (digest_of c found.0)) tests.1) in
        let named : x.digest ≡ digest_of c found.0 = ap (λ (z : Fields). z.digest) (sym w.fields) ∙ ap (λ (z : PrePrepare). z.digest.0) found.2 in
        let found_taken = here_taken found.0 (taken_later (as_message bodies.Request found.0) w.early all point (held_here w.early point found.0 v.0)) in
        let one = same_time m found.0 (same_request c j h first leader m found.0 taken_m found_taken (named_m ∙ named)) in
        let rising = (inv w.early point).1 found.0 v.0 tests.0 free y (led_before x y w signs_y less) p taken_p named_p (id ∙ one.0) in
        let time = one.1 in
        omega (arith, rising, time)
