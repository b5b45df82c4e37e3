-- What acts that stay in the view keep.
use Rattle.std.proofs.Common.{◌≡◌, ℕ, ◌<◌, ◌≤◌, Bool, true, false, ◌||◌, cond, List, [], ◌∷◌, ◌++◌, filter, Some, None, refl, sym, ap, subst, ◌∙◌, arith, inl, inr, ◌⊎◌}
use Rattle.std.specs.Prelude.{is_some, bytes_eq, find, nat_lt, ◌==◌}
use Rattle.std.specs.List.{list_any}
use Rattle.std.specs.Ordering.{nat_cmp, eq_by_cmp}
use Rattle.std.specs.Cmp.Lexicographic.{slice_cmp}
use Rattle.std.proofs.lemmas.Bool.{false≢true, or_cases, or_left, or_right, cond-true, eqb-true, lt-ltb}
use Rattle.std.proofs.lemmas.Slice.Eq.{bytes_eq-Decides}
use Rattle.std.proofs.lemmas.Option.{same_Some}
use Rattle.pbft_model.specs.Words.{Signed, Body, RequestBody, PrePrepare, Prepare, Checkpoint}
use Rattle.pbft_codec.specs.declared.body.Body.TheVariants as bodies
use Rattle.pbft_codec.specs.declared.body.fetch.Fetch.{Fetch}
use Rattle.pbft_codec.specs.declared.body.fetch.Fetch.TheVariants as fetches
use Rattle.pbft_model.specs.Sequential.{Service}
use Rattle.pbft_model.specs.Setup.{Setup, null_digest, digest_of}
use Rattle.pbft_model.specs.Tables.{Key, Table, at, keep, entries_in, first_in, is_above, vote_key, number_key, with_entry}
use Rattle.pbft_model.specs.Certificates.{Fields}
use Rattle.pbft_model.specs.Core.{Core, is_known, held_with, is_named, is_new, names, proof_of}
use Rattle.pbft_model.specs.Acts.{Act, Take, Timeout, Send, Relay, Enter, Rise, Execute, Install, after, said, acted, left_for, recorded, discarded_to, still_held, add_request, with_body}
use Rattle.pbft_model.specs.Rules.{Allowed, MaySay}
use Rattle.pbft_model.specs.Duties.{among}
use Rattle.pbft_model.specs.Histories.{IsIn}
use Rattle.pbft_model.proofs.Found.{kept_add, kept_keep, no_some}

-- ---- lists

pub any_filter : {X : Type 0} (p q : X → Bool) (xs : List X) → ((x : X) → p x ≡ true → q x ≡ true) → list_any p xs ≡ true → list_any p (filter q xs) ≡ true
any_filter p q [] h e = e
any_filter {X} p q (x ∷ xs) h e = cases (q x) refl (or_cases _ _ e) (any_filter p q xs h) where
  cases : (b : Bool) → q x ≡ b → (p x ≡ true) ⊎ (list_any p xs ≡ true) → (list_any p xs ≡ true → list_any p (filter q xs) ≡ true) → list_any p (cond b (x ∷ filter q xs) (filter q xs)) ≡ true
  cases true t (inl here) rest = or_left _ _ here
  cases true t (inr later) rest = or_right _ _ (rest later)
  cases false t (inl here) rest = absurd (false≢true (sym t ∙ h x here))
  cases false t (inr later) rest = rest later

pub any_in : {X : Type 0} (p : X → Bool) (x : X) (xs : List X) → IsIn x xs → p x ≡ true → list_any p xs ≡ true
any_in p x [] h e = absurd h
any_in {X} p x (y ∷ xs) (inl same) e = or_left _ _ (subst (λ (z : X). p z ≡ true) same e)
any_in p x (y ∷ xs) (inr later) e = or_right _ _ (any_in p x xs later e)

find_some : {X : Type 0} (p : X → Bool) (x : X) (xs : List X) → is_some (find p xs) ≡ true → is_some (find p (x ∷ xs)) ≡ true
find_some {X} p x xs e = cases (p x) where
  cases : (b : Bool) → is_some (cond b (Some x) (find p xs)) ≡ true
  cases true = refl
  cases false = e

pub find_append : {X : Type 0} (p : X → Bool) (xs ys : List X) → is_some (find p xs) ≡ true → is_some (find p (xs ++ ys)) ≡ true
find_append p [] ys e = absurd (false≢true e)
find_append {X} p (x ∷ xs) ys e = cases (p x) e (find_append p xs ys) where
  cases : (b : Bool) → is_some (cond b (Some x) (find p xs)) ≡ true → (is_some (find p xs) ≡ true → is_some (find p (xs ++ ys)) ≡ true) → is_some (cond b (Some x) (find p (xs ++ ys))) ≡ true
  cases true e rest = refl
  cases false e rest = rest e

pub find_filter : {X : Type 0} (p q : X → Bool) (xs : List X) → ((x : X) → p x ≡ true → q x ≡ true) → is_some (find p xs) ≡ true → is_some (find p (filter q xs)) ≡ true
find_filter p q [] h e = e
find_filter {X} p q (x ∷ xs) h e = cases (p x) (q x) refl refl e (find_filter p q xs h) where
  cases : (a b : Bool) → p x ≡ a → q x ≡ b → is_some (cond a (Some x) (find p xs)) ≡ true → (is_some (find p xs) ≡ true → is_some (find p (filter q xs)) ≡ true)
      → is_some (find p (cond b (x ∷ filter q xs) (filter q xs))) ≡ true
  cases true true s t e rest = ap is_some (cond-true (p x) (Some x) (find p (filter q xs)) s)
  cases true false s t e rest = absurd (false≢true (sym t ∙ h x s))
  cases false true s t e rest = find_some p x (filter q xs) (rest e)
  cases false false s t e rest = rest e

-- what is found is among the values
pub at_in : {X : Type 0} (t : Table X) (q : Key) (x : X) → at t q ≡ Some x → IsIn x (entries_in t)
at_in [] q x e = no_some x e
at_in {X} (e ∷ t) q x is = cases (eq_by_cmp (slice_cmp nat_cmp) q e.0) is (at_in t q x) where
  cases : (b : Bool) → cond b (Some e.1) (at t q) ≡ Some x → (at t q ≡ Some x → IsIn x (entries_in t)) → IsIn x (entries_in (e ∷ t))
  cases true is rest = inl (sym (same_Some _ _ is))
  cases false is rest = inr (rest is)

-- ---- calm

-- all entries above the low mark stay
abbrev pub Stays : {X : Type 0} → ℕ → Table X → Table X → Type 0
Stays {X} low s t = (q : Key) (x : X) → low < first_in q → at s q ≡ Some x → at t q ≡ Some x

abbrev pub has_number : List Fields → ℕ → Bool
has_number xs n = list_any (λ x. x.number == n) xs

-- The view, its floor, what was signed for numbers above the low mark and what is recorded there stay.
abbrev pub Calm : Setup → Core → Core → Type 0
Calm c s t =
    (t.view ≡ s.view) × (t.active ≡ s.active) × (t.basis ≡ s.basis) × (s.low ≤ t.low)
    × Stays t.low s.pre_prepares t.pre_prepares
    × Stays t.low s.prepares t.prepares
    × ((n : ℕ) → t.low < n → among s.prepared_numbers n ≡ true → among t.prepared_numbers n ≡ true)
    × ((n : ℕ) → t.low < n → has_number s.proposed n ≡ true → has_number t.proposed n ≡ true)
    × ((q : Key) (m : Signed PrePrepare) → t.low < first_in q → at s.pre_prepares q ≡ Some m → is_known c s m.body.digest.0 ≡ true → is_known c t m.body.digest.0 ≡ true)
    × Stays t.low s.kept t.kept

pub stays : {X : Type 0} (low : ℕ) (t : Table X) → Stays low t t
stays low t q x h e = e

calm_self : (c : Setup) (s : Core) → Calm c s s
calm_self c s = (refl, refl, refl, omega arith, stays _ _, stays _ _, λ n h e. e, λ n h e. e, λ q m h f e. e, stays _ _)

with_pre_prepares : (c : Setup) (s : Core) (t : Table (Signed PrePrepare)) → Stays s.low s.pre_prepares t → Calm c s (record s { pre_prepares = t })
with_pre_prepares c s t h = (refl, refl, refl, omega arith, h, stays _ _, λ n h e. e, λ n h e. e, λ q m h f e. e, stays _ _)

with_prepares : (c : Setup) (s : Core) (t : Table (Signed Prepare)) → Stays s.low s.prepares t → Calm c s (record s { prepares = t })
with_prepares c s t h = (refl, refl, refl, omega arith, stays _ _, h, λ n h e. e, λ n h e. e, λ q m h f e. e, stays _ _)

known_with : (c : Setup) (held held' : List (Signed RequestBody)) (digest : List ℕ)
    → (is_some (held_with c held digest) ≡ true → is_some (held_with c held' digest) ≡ true)
    → (bytes_eq digest (null_digest c) || is_some (held_with c held digest)) ≡ true → (bytes_eq digest (null_digest c) || is_some (held_with c held' digest)) ≡ true
known_with c held held' digest h e = elim (or_cases _ _ e) [ inl null ↦ or_left _ _ null | inr is ↦ or_right _ _ (h is) ]

request_added : (c : Setup) (m : Signed RequestBody) (held : List (Signed RequestBody)) (digest : List ℕ) → is_some (held_with c held digest) ≡ true
    → is_some (held_with c (add_request c m held) digest) ≡ true
request_added c m held digest e = cases (is_some (held_with c held (digest_of c m))) where
  cases : (b : Bool) → is_some (held_with c (cond b held (held ++ m ∷ [])) digest) ≡ true
  cases true = e
  cases false = find_append (is_named c digest) held (m ∷ []) e

with_held : (c : Setup) (s : Core) (m : Signed RequestBody) → Calm c s (record s { held = add_request c m s.held })
with_held c s m = (
  refl,
  refl,
  refl,
  omega arith,
  stays _ _,
  stays _ _,
  λ n h e. e,
  λ n h e. e,
  λ q p h f e. known_with c s.held (add_request c m s.held) p.body.digest.0 (request_added c m s.held p.body.digest.0) e,
  stays _ _,
)

-- a request that a PrePrepare names stays held
named_held : (c : Setup) (service : Service) (ms : List (Signed PrePrepare)) (held : List (Signed RequestBody)) (digest : List ℕ) → names ms digest ≡ true
    → is_some (held_with c held digest) ≡ true → is_some (held_with c (still_held c service ms held) digest) ≡ true
named_held c service ms held digest named e =
    find_filter (is_named c digest) (λ m. is_new service m || names ms (digest_of c m)) held
    (λ m t. or_right (is_new service m) (names ms (digest_of c m)) (subst (λ (d : List ℕ). names ms d ≡ true) (sym ((bytes_eq-Decides (digest_of c m) digest).0 t)) named)) e

above_key : (number : ℕ) (q : Key) → number < first_in q → is_above number q ≡ true
above_key number q h = lt-ltb number (first_in q) h

discard_calm : (c : Setup) (s : Core) (number : ℕ) (proof : List (Signed Checkpoint)) → s.low ≤ number → Calm c s (acted (discarded_to c s number proof))
discard_calm c s number proof h = (
  refl,
  refl,
  refl,
  h,
  λ q m above e. kept_keep (is_above number) s.pre_prepares q m (above_key number q above) e,
  λ q m above e. kept_keep (is_above number) s.prepares q m (above_key number q above) e,
  λ n above e. any_filter (λ k. k == n) (nat_lt number) s.prepared_numbers (λ k t. subst (λ (j : ℕ). nat_lt number j ≡ true) (sym (eqb-true k n t)) (lt-ltb number n above)) e,
  λ n above e. any_filter (λ x. x.number == n) (λ x. nat_lt number x.number) s.proposed (λ x t. subst (λ (j : ℕ). nat_lt number j ≡ true) (sym (eqb-true x.number n t)) (lt-ltb number n above)) e,
  λ q m above found e.
      let stays_at = kept_keep (is_above number) s.pre_prepares q m (above_key number q above) found in
      let named : names (entries_in (keep (is_above number) s.pre_prepares)) m.body.digest.0 ≡ true =
      any_in (λ p. bytes_eq p.body.digest.0 m.body.digest.0) m (entries_in (keep (is_above number) s.pre_prepares)) (at_in (keep (is_above number) s.pre_prepares) q m stays_at) ((bytes_eq-Decides m.body.digest.0 m.body.digest.0).1 refl) in
      known_with c s.held (still_held c s.service (entries_in (keep (is_above number) s.pre_prepares)) s.held) m.body.digest.0
      (named_held c s.service (entries_in (keep (is_above number) s.pre_prepares)) s.held m.body.digest.0 named) e,
  λ q x above e. kept_keep (is_above number) s.kept q x (above_key number q above) e,
)

calm_recorded : (c : Setup) (s : Core) (m : Signed Body) (b : Body) → Calm c s (recorded c s m b)
calm_recorded c s m (bodies.Request b) = with_held c s (with_body m b)
calm_recorded c s m (bodies.PrePrepare b) = with_pre_prepares c s _ (λ q x h e. kept_add _ s.pre_prepares (vote_key b.number.0 b.view.0 m.id) q (with_body m b) x e)
calm_recorded c s m (bodies.Prepare b) = with_prepares c s _ (λ q x h e. kept_add _ s.prepares (vote_key b.number.0 b.view.0 m.id) q (with_body m b) x e)
calm_recorded c s m _ = calm_self c s

calm_asked : (c : Setup) (s : Core) (m : Signed Body) (b : Fetch) → Calm c s (acted (said c s m (bodies.Fetch b)))
calm_asked c s m (fetches.Request d) = calm_self c s
calm_asked c s m (fetches.State n) = calm_self c s

-- the bodies of own messages that leave the view as it is
abbrev pub IsCalmBody : Body → Type 0
IsCalmBody (bodies.Request b) = ⊥
IsCalmBody (bodies.ViewChange b) = ⊥
IsCalmBody (bodies.NewView b) = ⊥
IsCalmBody _ = Unit {0}

pub calm_said : (c : Setup) (s : Core) (m : Signed Body) (b : Body) → IsCalmBody b → Calm c s (said c s m b)
calm_said c s m (bodies.Request b) k = absurd k
calm_said c s m (bodies.PrePrepare b) k = (
  refl,
  refl,
  refl,
  omega arith,
  (λ q x h e. kept_add _ s.pre_prepares (vote_key b.number.0 b.view.0 m.id) q (with_body m b) x e),
  stays _ _,
  λ n h e. e,
  (λ n h e. or_right _ _ e),
  λ q m h f e. e,
  stays _ _,
)
calm_said c s m (bodies.Prepare b) k = (
  refl,
  refl,
  refl,
  omega arith,
  stays _ _,
  (λ q x h e. kept_add _ s.prepares (vote_key b.number.0 b.view.0 m.id) q (with_body m b) x e),
  (λ n h e. or_right _ _ e),
  λ n h e. e,
  λ q m h f e. e,
  stays _ _,
)
calm_said c s m (bodies.Commit b) k = calm_self c s
calm_said c s m (bodies.Reply b) k = calm_self c s
calm_said c s m (bodies.Checkpoint b) k = calm_self c s
calm_said c s m (bodies.ViewChange b) k = absurd k
calm_said c s m (bodies.NewView b) k = absurd k
calm_said c s m (bodies.Fetch (fetches.Request d)) k = calm_self c s
calm_said c s m (bodies.Fetch (fetches.State n)) k = calm_self c s
calm_said c s m (bodies.Snapshot b) k = calm_self c s

-- the acts that leave the view as it is
abbrev pub IsCalm : Act → Type 0
IsCalm (Send to m) = IsCalmBody m.body
IsCalm (Enter m) = ⊥
IsCalm _ = Unit {0}

pub calm : (c : Setup) (me : ℕ) (s : Core) (a : Act) → s.low ≤ s.executed → Allowed c me s a → IsCalm a → Calm c s (after c s a)
calm c me s (Take m r) low ok k = calm_recorded c s m m.body
calm c me s (Send to m) low ok k = calm_said c s m m.body k
calm c me s (Enter m) low ok k = absurd k
calm c me s (Rise n d) low ok k = let above = ok.above in discard_calm c s n (proof_of c s n d) (omega arith)
calm c me s (Install n b t) low ok k =
    let above = ok.above in
    discard_calm c (record s { executed = n; service = t; reply_due = None; checkpoint_due = false; snapshots = with_entry s.snapshots (number_key n) b }) n (proof_of c s n (c.hash b)) (omega arith)
calm c me s _ low ok k = calm_self c s

-- the low mark never falls
said_low : (c : Setup) (me : ℕ) (s : Core) (m : Signed Body) (b : Body) → MaySay c me s b → s.low ≤ (said c s m b).low
said_low c me s m (bodies.Request b) says = absurd says
said_low c me s m (bodies.NewView b) says = elim (nat_lt s.view b.view.0) as (λ t. s.low ≤ (cond t (left_for c s b.view.0) s).low) [ true ↦ omega arith | false ↦ omega arith ]
said_low c me s m (bodies.Fetch b) says = (calm_said c s m (bodies.Fetch b) tt).3
said_low c me s m _ says = omega arith

pub low_up : (c : Setup) (me : ℕ) (s : Core) (a : Act) → s.low ≤ s.executed → Allowed c me s a → s.low ≤ (after c s a).low
low_up c me s (Take m r) low ok = (calm c me s (Take m r) low ok tt).3
low_up c me s (Send to m) low ok = said_low c me s m m.body ok.says
low_up c me s (Enter m) low ok = elim (nat_lt s.view m.body.view.0) as (λ t. s.low ≤ (cond t (left_for c s m.body.view.0) s).low) [ true ↦ omega arith | false ↦ omega arith ]
low_up c me s (Rise n d) low ok = (calm c me s (Rise n d) low ok tt).3
low_up c me s (Install n b t) low ok = (calm c me s (Install n b t) low ok tt).3
low_up c me s _ low ok = omega arith
