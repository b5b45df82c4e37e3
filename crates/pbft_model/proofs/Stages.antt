-- What a replica remembers of what it said.
use Rattle.std.proofs.Common.{◌≡◌, ℕ, zero, suc, ◌+◌, ◌*◌, ◌<◌, ◌≤◌, Bool, true, false, ◌&&◌, cond, List, [], ◌∷◌, Option, Some, None, refl, sym, ap, subst, ◌∙◌, arith, inl, inr, ◌⊎◌}
use Rattle.std.specs.Prelude.{nat_lt, not, ◌==◌, bytes_eq}
use Rattle.std.proofs.lemmas.Bool.{true≢false, false≢true, cases_lt, cases_eq, and_parts, and_from, or_cases, eqb-true, eq-eqb, ltb-true, ltb-false, leb-true, le-leb}
use Rattle.std.proofs.lemmas.Slice.Eq.{bytes_eq-Decides}
use Rattle.pbft_model.specs.Words.{Signed, Body, PrePrepare, Certificate, ViewChange, NewView, Role, Replica, Client}
use Rattle.pbft_codec.specs.declared.body.Body.TheVariants as bodies
use Rattle.pbft_model.specs.Setup.{Setup, primary, replicas, span, count, numbers_from, is_replica}
use Rattle.pbft_model.specs.Tables.{Table, at, with_entry, number_key, vote_key, first_in}
use Rattle.pbft_model.specs.Certificates.{Fields, of_pre_prepare, of_prepare, same_fields, is_by, some_by, voted, certified}
use Rattle.pbft_model.specs.Core.{Core, is_certified, is_prepared, is_known, has_position, pre_prepare_at, prepared_at, certificate_of, with_certificate, with_certificates, kept_on_leaving, inside}
use Rattle.pbft_model.specs.Acts.{Act, Take, Timeout, Send, Relay, Enter, Rise, Execute, Install, after, said, acted, signed_once_more, entered, left_for, is_awaited}
use Rattle.pbft_model.specs.Rules.{Allowed, MaySay}
use Rattle.pbft_model.specs.Duties.{among}
use Rattle.pbft_model.specs.Histories.{IsIn}
use Rattle.pbft_model.proofs.Found.{passed, passes, same_entry, other_entry}
use Rattle.pbft_model.proofs.Calm.{Calm, calm, calm_said, has_number, Stays}

-- ---- tests

pub replica_is : (r : Role) → is_replica r ≡ true → r ≡ Replica
replica_is Replica e = refl
replica_is Client e = absurd (false≢true e)

pub by_is : {B : Type 0} (i : ℕ) (test : B → Bool) (m : Signed B) → is_by i test m ≡ true → (m.role ≡ Replica) × (m.id ≡ i) × (test m.body ≡ true)
by_is i test m e =
    let a = and_parts _ _ e in
    let b = and_parts _ _ a.1 in
    (replica_is m.role a.0, eqb-true _ _ b.0, b.1)

pub is_by_from : {B : Type 0} (i : ℕ) (test test' : B → Bool) (m : Signed B) → (test m.body ≡ true → test' m.body ≡ true) → is_by i test m ≡ true → is_by i test' m ≡ true
is_by_from i test test' m h e =
    let a = and_parts (is_replica m.role) ((m.id == i) && test m.body) e in
    let b = and_parts (m.id == i) (test m.body) a.1 in
    and_from _ _ a.0 (and_from _ _ b.0 (h b.1))

pub fields_are : (p q : Fields) → same_fields p q ≡ true → p ≡ q
fields_are p q e =
    let a = and_parts (p.view == q.view) ((p.number == q.number) && bytes_eq p.digest q.digest) e in
    let b = and_parts (p.number == q.number) (bytes_eq p.digest q.digest) a.1 in
    let view = eqb-true p.view q.view a.0 in
    let number = eqb-true p.number q.number b.0 in
    let digest = (bytes_eq-Decides p.digest q.digest).0 b.1 in
    λ i. record { view = view i; number = number i; digest = digest i }

some_by_is : {B : Type 0} (i : ℕ) (test : B → Bool) (o : Option (Signed B)) → some_by i test o ≡ true → (m : Signed B) × (o ≡ Some m) × (is_by i test m ≡ true)
some_by_is i test None e = absurd (false≢true e)
some_by_is i test (Some m) e = (m, refl, e)

pub voted_is : {B : Type 0} (of : B → Fields) (votes : Table (Signed B)) (x : Fields) (i : ℕ) → voted of votes x i ≡ true
    → (m : Signed B) × (at votes (vote_key x.number x.view i) ≡ Some m) × (is_by i (λ b. same_fields (of b) x) m ≡ true)
voted_is of votes x i e = some_by_is i (λ b. same_fields (of b) x) (at votes (vote_key x.number x.view i)) e

voted_stays : {B : Type 0} (of : B → Fields) (low : ℕ) (votes votes' : Table (Signed B)) (x : Fields) (i : ℕ) → low < x.number → Stays low votes votes' → voted of votes x i ≡ true → voted of votes' x i ≡ true
voted_stays {B} of low votes votes' x i above stays e =
    let w = voted_is of votes x i e in
    let found = stays (vote_key x.number x.view i) w.0 above w.1 in
    subst (λ (o : Option (Signed B)). some_by i (λ b. same_fields (of b) x) o ≡ true) (sym found) w.2

count_step : (a b : Bool) (x y : ℕ) → (a ≡ true → b ≡ true) → x ≤ y → cond a 1 0 + x ≤ cond b 1 0 + y
count_step true true x y h k = omega arith
count_step true false x y h k = absurd (false≢true (h refl))
count_step false true x y h k = omega arith
count_step false false x y h k = omega arith

pub count_more : (p q : ℕ → Bool) (n : ℕ) → ((i : ℕ) → p i ≡ true → q i ≡ true) → count p n ≤ count q n
count_more p q zero h = omega arith
count_more p q (suc n) h = count_step (p n) (q n) _ _ (h n) (count_more p q n h)

pub certified_more : (c : Setup) (a b a' b' : ℕ → Bool) (view : ℕ) → ((i : ℕ) → a i ≡ true → a' i ≡ true) → ((i : ℕ) → b i ≡ true → b' i ≡ true) → certified c.config a b view ≡ true → certified c.config a' b' view ≡ true
certified_more c a b a' b' view h k e =
    let w = and_parts _ _ e in
    let enough = leb-true (2 * c.config.f) (count (λ i. not (i == primary c.config view) && b i) (replicas c.config)) w.1 in
    let more = count_more (λ i. not (i == primary c.config view) && b i) (λ i. not (i == primary c.config view) && b' i) (replicas c.config)
    (λ i t. let s = and_parts (not (i == primary c.config view)) (b i) t in and_from _ _ s.0 (k i s.1)) in
    and_from _ _ (h (primary c.config view) w.0) (le-leb (2 * c.config.f) (count (λ i. not (i == primary c.config view) && b' i) (replicas c.config)) (omega arith))

-- what is certified above the low mark stays so
certified_calm : (c : Setup) (s t : Core) (x : Fields) → t.low < x.number → Calm c s t → is_certified c s x ≡ true → is_certified c t x ≡ true
certified_calm c s t x above calm e =
    certified_more c (voted of_pre_prepare s.pre_prepares x) (voted of_prepare s.prepares x) (voted of_pre_prepare t.pre_prepares x) (voted of_prepare t.prepares x) x.view
    (λ i. voted_stays of_pre_prepare t.low s.pre_prepares t.pre_prepares x i above calm.4)
    (λ i. voted_stays of_prepare t.low s.prepares t.prepares x i above calm.5) e

known_calm : (c : Setup) (s t : Core) (x : Fields) → t.low < x.number → Calm c s t → is_certified c s x ≡ true → is_known c s x.digest ≡ true → is_known c t x.digest ≡ true
known_calm c s t x above calm e known =
    let w = voted_is of_pre_prepare s.pre_prepares x (primary c.config x.view) ((and_parts _ _ e).0) in
    let by = by_is (primary c.config x.view) (λ b. same_fields (of_pre_prepare b) x) w.0 w.2 in
    let digest : w.0.body.digest.0 ≡ x.digest = ap (λ (y : Fields). y.digest) (fields_are (of_pre_prepare w.0.body) x by.2) in
    subst (λ (d : List ℕ). is_known c t d ≡ true) digest
    (calm.8 (vote_key x.number x.view (primary c.config x.view)) w.0 above w.1 (subst (λ (d : List ℕ). is_known c s d ≡ true) (sym digest) known))

-- ---- views

pub awaited_above : (s : Core) (view : ℕ) → is_awaited s view ≡ true → s.view ≤ view
awaited_above s view e = elim (or_cases _ _ e) [
  | inl h ↦ let less = ltb-true s.view view h in omega arith
  | inr h ↦ let same = eqb-true view s.view ((and_parts _ _ h).0) in omega arith
]

awaited_active : (s : Core) (view : ℕ) → s.active ≡ true → is_awaited s view ≡ true → s.view < view
awaited_active s view active e = elim (or_cases _ _ e) [
  | inl h ↦ ltb-true s.view view h
  | inr h ↦ absurd (false≢true (subst (λ (b : Bool). not b ≡ true) active ((and_parts (view == s.view) (not s.active) h).1)))
]

-- X, while the replica is active in the view u, or it is in a higher one
abbrev pub Stage : ℕ → (Core → Type 0) → Core → Type 0
Stage u X s = ((s.view ≡ u) × (s.active ≡ true) × X s) ⊎ (u < s.view)

module _ (c : Setup) (me u : ℕ) (X : Core → Type 0) (keeps : (s t : Core) → Calm c s t → X s → X t) where
  stay : (s t : Core) → Calm c s t → Stage u X s → Stage u X t
  stay s t calm (inl w) = inl (calm.0 ∙ w.0, calm.1 ∙ w.1, keeps s t calm w.2)
  stay s t calm (inr h) = inr (subst (λ (v : ℕ). u < v) (sym calm.0) h)

  move : (s t : Core) → (s.active ≡ true → s.view < t.view) → (s.view ≤ t.view) → Stage u X s → Stage u X t
  move s t up up' (inl w) = let same = w.0 in let more : s.view < t.view = up w.1 in inr (omega arith)
  move s t up up' (inr h) = inr (omega arith)

  said_stage : (s : Core) (m : Signed Body) (b : Body) → MaySay c me s b → Stage u X s → Stage u X (acted (signed_once_more (said c s m b) b))
  said_stage s m (bodies.Request b) says st = absurd says
  said_stage s m (bodies.PrePrepare b) says st = stay s _ (calm_said c s m (bodies.PrePrepare b) tt) st
  said_stage s m (bodies.Prepare b) says st = stay s _ (calm_said c s m (bodies.Prepare b) tt) st
  said_stage s m (bodies.Commit b) says st = stay s _ (calm_said c s m (bodies.Commit b) tt) st
  said_stage s m (bodies.Reply b) says st = stay s _ (calm_said c s m (bodies.Reply b) tt) st
  said_stage s m (bodies.Checkpoint b) says st = stay s _ (calm_said c s m (bodies.Checkpoint b) tt) st
  said_stage s m (bodies.ViewChange b) says st = let higher = says.higher in move s _ (λ _. higher) (omega arith) st
  said_stage s m (bodies.NewView b) says st =
      let same : b.view.0 ≡ s.view = ap (λ (n : NewView). n.view.0) says.is in
      move s _ (λ active. absurd (true≢false (sym active ∙ says.changing))) (omega arith) st
  said_stage s m (bodies.Fetch b) says st = stay s _ (calm_said c s m (bodies.Fetch b) tt) st
  said_stage s m (bodies.Snapshot b) says st = stay s _ (calm_said c s m (bodies.Snapshot b) tt) st

  pub stage_after : (s : Core) (a : Act) → s.low ≤ s.executed → Allowed c me s a → Stage u X s → Stage u X (after c s a)
  stage_after s (Take m r) low ok st = stay s (after c s (Take m r)) (calm c me s (Take m r) low ok tt) st
  stage_after s Timeout low ok st = stay s (after c s Timeout) (calm c me s Timeout low ok tt) st
  stage_after s (Send to m) low ok st = said_stage s m m.body ok.says st
  stage_after s (Relay to m) low ok st = stay s (after c s (Relay to m)) (calm c me s (Relay to m) low ok tt) st
  stage_after s (Enter m) low ok st = move s _ (λ active. awaited_active s m.body.view.0 active ok.awaited) (awaited_above s m.body.view.0 ok.awaited) st
  stage_after s (Rise n d) low ok st = stay s (after c s (Rise n d)) (calm c me s (Rise n d) low ok tt) st
  stage_after s (Execute n d t o) low ok st = stay s (after c s (Execute n d t o)) (calm c me s (Execute n d t o) low ok tt) st
  stage_after s (Install n b t) low ok st = stay s (after c s (Install n b t)) (calm c me s (Install n b t) low ok tt) st

-- ---- what was said for a number

abbrev pub Prepared : ℕ → Core → Type 0
Prepared n s = (n ≤ s.low) ⊎ (among s.prepared_numbers n ≡ true)

pub prepared_keeps : (c : Setup) (n : ℕ) (s t : Core) → Calm c s t → Prepared n s → Prepared n t
prepared_keeps c n s t calm h = let low = calm.3 in elim (cases_lt t.low n) [
  | inl above ↦ elim h [ inl below ↦ absurd (omega arith) | inr is ↦ inr (calm.6 n above is) ]
  | inr below ↦ inl below
]

abbrev pub Proposed : ℕ → Core → Type 0
Proposed n s = (n ≤ s.low) ⊎ (has_number s.proposed n ≡ true)

pub proposed_keeps : (c : Setup) (n : ℕ) (s t : Core) → Calm c s t → Proposed n s → Proposed n t
proposed_keeps c n s t calm h = let low = calm.3 in elim (cases_lt t.low n) [
  | inl above ↦ elim h [ inl below ↦ absurd (omega arith) | inr is ↦ inr (calm.7 n above is) ]
  | inr below ↦ inl below
]

-- the PrePrepare recorded for a view and number has this digest
abbrev pub Holds : ℕ → ℕ → ℕ → List ℕ → Core → Type 0
Holds n view leader digest s = (n ≤ s.low) ⊎ ((m : Signed PrePrepare) × (at s.pre_prepares (vote_key n view leader) ≡ Some m) × (m.body.digest.0 ≡ digest))

pub holds_keeps : (c : Setup) (n view leader : ℕ) (digest : List ℕ) (s t : Core) → Calm c s t → Holds n view leader digest s → Holds n view leader digest t
holds_keeps c n view leader digest s t calm h = let low = calm.3 in elim (cases_lt t.low n) [
  | inl above ↦ elim h [ inl below ↦ absurd (omega arith) | inr w ↦ inr (w.0, calm.4 (vote_key n view leader) w.0 above w.1, w.2) ]
  | inr below ↦ inl below
]

abbrev pub EnteredBy : List (Signed ViewChange) → Core → Type 0
EnteredBy basis s = s.basis ≡ basis

pub basis_keeps : (c : Setup) (basis : List (Signed ViewChange)) (s t : Core) → Calm c s t → EnteredBy basis s → EnteredBy basis t
basis_keeps c basis s t calm h = calm.2 ∙ h

-- ---- what was committed is remembered

pub in_numbers : (many first n : ℕ) → first ≤ n → n < first + many → IsIn n (numbers_from first many)
in_numbers zero first n h k = absurd (omega arith)
in_numbers (suc many) first n h k = elim (cases_eq n first) [
  | inl same ↦ inl same
  | inr other ↦ inr (in_numbers many (first + 1) n (elim (cases_lt first n) [ inl less ↦ omega arith | inr more ↦ absurd (other (omega arith)) ]) (omega arith))
]

pub prepared_is : (c : Setup) (s : Core) (n : ℕ) (m : Signed PrePrepare) → prepared_at c s n ≡ Some m
    → (m.body.view.0 ≡ s.view) × (m.body.number.0 ≡ n) × (is_prepared c s (of_pre_prepare m.body) ≡ true) × (m.role ≡ Replica) × (m.id ≡ primary c.config s.view)
prepared_is c s n m e =
    let w = passed (λ p. is_prepared c s (of_pre_prepare p.body)) (pre_prepare_at c s s.view n) m e in
    let v = passed (is_by (primary c.config s.view) (has_position s.view n)) (at s.pre_prepares (vote_key n s.view (primary c.config s.view))) m w.0 in
    let by = by_is (primary c.config s.view) (has_position s.view n) m v.1 in
    let position = and_parts (m.body.view.0 == s.view) (m.body.number.0 == n) by.2 in
    (eqb-true _ _ position.0, eqb-true _ _ position.1, w.1, by.0, by.1)

pub prepared_from : (c : Setup) (s : Core) (x : Fields) → x.view ≡ s.view → is_certified c s x ≡ true → is_known c s x.digest ≡ true → (m : Signed PrePrepare) × (prepared_at c s x.number ≡ Some m) × (of_pre_prepare m.body ≡ x)
prepared_from c s x view e known =
    let w = voted_is of_pre_prepare s.pre_prepares x (primary c.config x.view) ((and_parts _ _ e).0) in
    let by = by_is (primary c.config x.view) (λ b. same_fields (of_pre_prepare b) x) w.0 w.2 in
    let same = fields_are (of_pre_prepare w.0.body) x by.2 in
    let at_position : is_by (primary c.config x.view) (has_position x.view x.number) w.0 ≡ true =
    is_by_from (primary c.config x.view) (λ b. same_fields (of_pre_prepare b) x) (has_position x.view x.number) w.0
    (λ _. and_from _ _ (eq-eqb _ _ (ap (λ (y : Fields). y.view) same)) (eq-eqb _ _ (ap (λ (y : Fields). y.number) same))) w.2 in
    let found : pre_prepare_at c s x.view x.number ≡ Some w.0 = passes (is_by (primary c.config x.view) (has_position x.view x.number)) (at s.pre_prepares (vote_key x.number x.view (primary c.config x.view))) w.0 w.1 at_position in
    let found' : pre_prepare_at c s s.view x.number ≡ Some w.0 = subst (λ (v : ℕ). pre_prepare_at c s v x.number ≡ Some w.0) view found in
    let prepared : is_prepared c s (of_pre_prepare w.0.body) ≡ true = subst (λ (y : Fields). is_prepared c s y ≡ true) (sym same) (and_from _ _ e known) in
    (w.0, passes (λ p. is_prepared c s (of_pre_prepare p.body)) (pre_prepare_at c s s.view x.number) w.0 found' prepared, same)

-- a certificate at the number, of this view or a higher one
abbrev pub KeepsOne : ℕ → ℕ → Table Certificate → Type 0
KeepsOne view n kept = (x : Certificate) × (at kept (number_key n) ≡ Some x) × (x.pre_prepare.body.number.0 ≡ n) × (view ≤ x.pre_prepare.body.view.0)

keeps_step : (c : Setup) (s : Core) (view n k : ℕ) (kept : Table Certificate) → view ≤ s.view → KeepsOne view n kept → KeepsOne view n (with_certificate c s k (prepared_at c s k) kept)
keeps_step c s view n k kept below w = cases (prepared_at c s k) refl where
  cases : (o : Option (Signed PrePrepare)) → prepared_at c s k ≡ o → KeepsOne view n (with_certificate c s k o kept)
  cases None e = w
  cases (Some m) e = elim (cases_eq n k) [
    | inl same ↦
        let is = prepared_is c s k m e in (
          certificate_of c s m,
          subst (λ (j : ℕ). at (with_entry kept (number_key k) (certificate_of c s m)) (number_key j) ≡ Some (certificate_of c s m)) (sym same) (same_entry kept (number_key k) (certificate_of c s m)),
          is.1 ∙ sym same,
          subst (λ (v : ℕ). view ≤ v) (sym is.0) below,
        )
    | inr other ↦ (w.0, other_entry kept (number_key k) (number_key n) (certificate_of c s m) (λ e. other (ap first_in e)) ∙ w.1, w.2, w.3)
  ]

keeps_old : (c : Setup) (s : Core) (view n : ℕ) (ns : List ℕ) (kept : Table Certificate) → view ≤ s.view → KeepsOne view n kept → KeepsOne view n (with_certificates c s ns kept)
keeps_old c s view n [] kept below w = w
keeps_old c s view n (k ∷ ns) kept below w = keeps_step c s view n k (with_certificates c s ns kept) below (keeps_old c s view n ns kept below w)

keeps_new : (c : Setup) (s : Core) (view n : ℕ) (ns : List ℕ) (kept : Table Certificate) (m : Signed PrePrepare) → view ≤ s.view → IsIn n ns → prepared_at c s n ≡ Some m → KeepsOne view n (with_certificates c s ns kept)
keeps_new c s view n [] kept m below h e = absurd h
keeps_new c s view n (k ∷ ns) kept m below (inl same) e =
    let is = prepared_is c s n m e in
    let made = same_entry (with_certificates c s ns kept) (number_key n) (certificate_of c s m) in
    let here : KeepsOne view n (with_entry (with_certificates c s ns kept) (number_key n) (certificate_of c s m)) = (certificate_of c s m, made, is.1, subst (λ (v : ℕ). view ≤ v) (sym is.0) below) in
    subst (λ (j : ℕ). KeepsOne view n (with_certificate c s j (prepared_at c s j) (with_certificates c s ns kept))) same
    (subst (λ (o : Option (Signed PrePrepare)). KeepsOne view n (with_certificate c s n o (with_certificates c s ns kept))) (sym e) here)
keeps_new c s view n (k ∷ ns) kept m below (inr later) e = keeps_step c s view n k (with_certificates c s ns kept) below (keeps_new c s view n ns kept m below later e)

-- After a Commit: while the view lasts the number is prepared, afterwards a certificate is kept, unless the low mark has passed it.
abbrev pub Still : Setup → Fields → Core → Type 0
Still c x s = (s.view ≡ x.view) × (s.active ≡ true) × ((x.number ≤ s.low) ⊎ ((is_certified c s x ≡ true) × (is_known c s x.digest ≡ true)))

abbrev pub Left : Fields → Core → Type 0
Left x s = (x.view < s.view) × ((x.number ≤ s.low) ⊎ KeepsOne x.view x.number s.kept)

abbrev pub Remembers : Setup → Fields → Core → Type 0
Remembers c x s = (x.number ≤ s.low + span c.config) × (Still c x s ⊎ Left x s)

-- as the view is left
pub remembers_leaving : (c : Setup) (x : Fields) (s : Core) → Remembers c x s → (x.number ≤ s.low) ⊎ KeepsOne x.view x.number (kept_on_leaving c s)
remembers_leaving c x s r = let inside_high = r.0 in elim r.1 [
  | inl still ↦ elim still.2 [
    | inl below ↦ inl below
    | inr w ↦ elim (cases_lt s.low x.number) [
      | inl above ↦
          let p = prepared_from c s x (sym still.0) w.0 w.1 in
          let view = still.0 in
          inr (keeps_new c s x.view x.number (inside c s) s.kept p.0 (omega arith) (in_numbers (span c.config) (s.low + 1) x.number (omega arith) (omega arith)) p.1)
      | inr below ↦ inl below
    ]
  ]
  | inr left ↦ elim left.1 [
    | inl below ↦ inl below
    | inr w ↦ let less = left.0 in inr (keeps_old c s x.view x.number (inside c s) s.kept (omega arith) w)
  ]
]

module _ (c : Setup) (me : ℕ) (x : Fields) where
  calm_remembers : (s t : Core) → Calm c s t → Remembers c x s → Remembers c x t
  calm_remembers s t calm r = let low = calm.3 in let inside_high = r.0 in (
    omega arith,
    elim r.1 [
      | inl still ↦ inl (
        calm.0 ∙ still.0,
        calm.1 ∙ still.1,
        elim (cases_lt t.low x.number) [
          | inl above ↦ elim still.2 [
            | inl below ↦ absurd (omega arith)
            | inr w ↦ inr (certified_calm c s t x above calm w.0, known_calm c s t x above calm w.0 w.1)
          ]
          | inr below ↦ inl below
        ],
      )
      | inr left ↦ inr (
        subst (λ (v : ℕ). x.view < v) (sym calm.0) left.0,
        elim (cases_lt t.low x.number) [
          | inl above ↦ elim left.1 [
            | inl below ↦ absurd (omega arith)
            | inr w ↦ inr (w.0, calm.9 (number_key x.number) w.0 above w.1, w.2, w.3)
          ]
          | inr below ↦ inl below
        ],
      )
    ],
  )

  view_of : (s : Core) → Remembers c x s → x.view ≤ s.view
  view_of s r = elim r.1 [ inl still ↦ let same = still.0 in omega arith | inr left ↦ let less = left.0 in omega arith ]

  left_remembers : (s : Core) (view : ℕ) → s.view < view → Remembers c x s → Remembers c x (left_for c s view)
  left_remembers s view higher r = let below = view_of s r in (r.0, inr (omega arith, remembers_leaving c x s r))

  -- entering: from a lower view it is left, and from the view itself nothing of it was committed
  entered_remembers : (s : Core) (n : NewView) → (s.active ≡ true → s.view < n.view.0) → s.view ≤ n.view.0 → Remembers c x s → Remembers c x (entered c s n)
  entered_remembers s n up up' r = cases (nat_lt s.view n.view.0) refl where
    cases : (b : Bool) → nat_lt s.view n.view.0 ≡ b → (x.number ≤ (cond b (left_for c s n.view.0) s).low + span c.config) × (Still c x (entered c s n) ⊎ ((x.view < n.view.0) × ((x.number ≤ (cond b (left_for c s n.view.0) s).low) ⊎ KeepsOne x.view x.number (cond b (left_for c s n.view.0) s).kept)))
    cases true e = let higher = ltb-true s.view n.view.0 e in let below = view_of s r in (r.0, inr (omega arith, remembers_leaving c x s r))
    cases false e = let below = ltb-false s.view n.view.0 e in (
      r.0,
      elim r.1 [
        | inl still ↦ let less = up still.1 in absurd (omega arith)
        | inr left ↦ let less = left.0 in inr (omega arith, left.1)
      ],
    )

  said_remembers : (s : Core) (m : Signed Body) (b : Body) → MaySay c me s b → Remembers c x s → Remembers c x (acted (signed_once_more (said c s m b) b))
  said_remembers s m (bodies.Request b) says r = absurd says
  said_remembers s m (bodies.PrePrepare b) says r = calm_remembers s (said c s m (bodies.PrePrepare b)) (calm_said c s m (bodies.PrePrepare b) tt) r
  said_remembers s m (bodies.Prepare b) says r = calm_remembers s (said c s m (bodies.Prepare b)) (calm_said c s m (bodies.Prepare b) tt) r
  said_remembers s m (bodies.Commit b) says r = calm_remembers s (said c s m (bodies.Commit b)) (calm_said c s m (bodies.Commit b) tt) r
  said_remembers s m (bodies.Reply b) says r = calm_remembers s (said c s m (bodies.Reply b)) (calm_said c s m (bodies.Reply b) tt) r
  said_remembers s m (bodies.Checkpoint b) says r = calm_remembers s (said c s m (bodies.Checkpoint b)) (calm_said c s m (bodies.Checkpoint b) tt) r
  said_remembers s m (bodies.ViewChange b) says r = left_remembers s b.view.0 says.higher r
  said_remembers s m (bodies.NewView b) says r =
      let same : b.view.0 ≡ s.view = ap (λ (n : NewView). n.view.0) says.is in
      entered_remembers s b (λ active. absurd (true≢false (sym active ∙ says.changing))) (omega arith) r
  said_remembers s m (bodies.Fetch b) says r = calm_remembers s (said c s m (bodies.Fetch b)) (calm_said c s m (bodies.Fetch b) tt) r
  said_remembers s m (bodies.Snapshot b) says r = calm_remembers s (said c s m (bodies.Snapshot b)) (calm_said c s m (bodies.Snapshot b) tt) r

  pub remembers_after : (s : Core) (a : Act) → s.low ≤ s.executed → Allowed c me s a → Remembers c x s → Remembers c x (after c s a)
  remembers_after s (Take m y) low ok r = calm_remembers s (after c s (Take m y)) (calm c me s (Take m y) low ok tt) r
  remembers_after s Timeout low ok r = calm_remembers s (after c s Timeout) (calm c me s Timeout low ok tt) r
  remembers_after s (Send to m) low ok r = said_remembers s m m.body ok.says r
  remembers_after s (Relay to m) low ok r = calm_remembers s (after c s (Relay to m)) (calm c me s (Relay to m) low ok tt) r
  remembers_after s (Enter m) low ok r = entered_remembers s m.body (λ active. awaited_active s m.body.view.0 active ok.awaited) (awaited_above s m.body.view.0 ok.awaited) r
  remembers_after s (Rise n d) low ok r = calm_remembers s (after c s (Rise n d)) (calm c me s (Rise n d) low ok tt) r
  remembers_after s (Execute n d t o) low ok r = calm_remembers s (after c s (Execute n d t o)) (calm c me s (Execute n d t o) low ok tt) r
  remembers_after s (Install n b t) low ok r = calm_remembers s (after c s (Install n b t)) (calm c me s (Install n b t) low ok tt) r

-- the view never falls
said_up : (c : Setup) (me : ℕ) (s : Core) (m : Signed Body) (b : Body) → MaySay c me s b → s.view ≤ (said c s m b).view
said_up c me s m (bodies.Request b) says = absurd says
said_up c me s m (bodies.ViewChange b) says = let higher = says.higher in omega arith
said_up c me s m (bodies.NewView b) says = let same : b.view.0 ≡ s.view = ap (λ (n : NewView). n.view.0) says.is in omega arith
said_up c me s m (bodies.Fetch b) says = let same : (said c s m (bodies.Fetch b)).view ≡ s.view = (calm_said c s m (bodies.Fetch b) tt).0 in omega arith
said_up c me s m _ says = omega arith

pub view_up : (c : Setup) (me : ℕ) (s : Core) (a : Act) → s.low ≤ s.executed → Allowed c me s a → s.view ≤ (after c s a).view
view_up c me s (Take m r) low ok = let same : (after c s (Take m r)).view ≡ s.view = (calm c me s (Take m r) low ok tt).0 in omega arith
view_up c me s (Send to m) low ok = said_up c me s m m.body ok.says
view_up c me s (Enter m) low ok = awaited_above s m.body.view.0 ok.awaited
view_up c me s _ low ok = omega arith
