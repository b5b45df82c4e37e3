-- What the primary of view 0 proposes: requests that it holds, at numbers one after another.
use Rattle.std.proofs.Common.{◌≡◌, ◌⊎◌, ℕ, zero, suc, ◌+◌, ◌<◌, ◌≤◌, Bool, true, false, cond, max, List, [], ◌∷◌, map, filter, refl, sym, ap, subst, ◌∙◌, arith, inl, inr}
use Rattle.std.specs.Prelude.{IsTrue, is_some, ◌==◌}
use Rattle.std.proofs.lemmas.Bool.{false≢true, cases_lt, cases_eq, and_parts, eqb-true}
use Rattle.pbft_model.specs.Words.{SigningState, Signed, Body, PrePrepare, Configuration, Role, Replica, Client, Part, as_message, part_of}
use Rattle.pbft_codec.specs.declared.body.Body.TheVariants as bodies
use Rattle.pbft_codec.specs.declared.body.fetch.Fetch.TheVariants as fetches
use Rattle.seal.specs.Signers.{may_sign}
use Rattle.pbft_model.specs.Setup.{Setup, primary, replicas}
use Rattle.pbft_model.specs.Tables.{Key, Table, at, with_entry, add_if, entries_in, vote_key}
use Rattle.pbft_model.specs.Certificates.{Fields, of_pre_prepare, of_commit, same_fields, voted, has_quorum}
use Rattle.pbft_model.specs.Validity.{greatest_of, floor_of}
use Rattle.pbft_model.specs.Core.{Core, start_of, floor_in, next_number, of_view, is_admitted, is_certified, is_known, is_prepared}
use Rattle.pbft_model.specs.Acts.{Act, Take, Timeout, Send, Relay, Enter, Rise, Execute, Install, after, said, recorded, with_body}
use Rattle.pbft_model.specs.Rules.{MaySay, MayExecute}
use Rattle.pbft_model.specs.Rows.{Executed, Installed, done_of, result_of}
use Rattle.pbft_model.specs.Sequential.{Service, Outcome}
use Rattle.pbft_model.specs.Histories.{core_after, IsHistory, IsEarlier, IsIn, HasSigned, HasTaken}
use Rattle.pbft_model.specs.Families.{IsCorrect}
use Rattle.pbft_agreement.specs.Journals.{Journals, HasGiven, HasDone, IsHonestFamily, greatest_in, reached_in, greatest_among}
use Rattle.pbft_progress.specs.Progress.{EachEnds}
use Rattle.pbft_model.proofs.Found.{from_map}
use Rattle.pbft_model.proofs.Entries.{from_entry, from_keep}
use Rattle.pbft_model.proofs.Events.{before, history_at, low_reached}
use Rattle.pbft_model.proofs.Holdings.{taken_opened}
use Rattle.pbft_model.proofs.Stages.{by_is, fields_are, voted_is}
use Rattle.pbft_model.proofs.Real.{real_core}
use Rattle.pbft_model.proofs.Voices.{led_part}
use Rattle.pbft_model.proofs.ByView.{signed_real}
use Rattle.pbft_model.proofs.Calm.{IsCalm, IsCalmBody}
use Rattle.pbft_agreement.proofs.Reporting.{number_from}
use Rattle.pbft_agreement.proofs.OverJournals.{each_executed}
use Rattle.pbft_progress.proofs.Noting.{notes}
use Rattle.pbft_answers.proofs.FirstView.{First, calm_last}
use Rattle.pbft_answers.proofs.Kin.{family, told, unforged}
use Rattle.pbft_answers.proofs.Reaching.{number_rises}
use Rattle.pbft_answers.proofs.Speaking.{spoken, first_then}
use Rattle.pbft_answers.proofs.Certifying.{Proposed, one_proposal}
use Rattle.pbft_answers.proofs.Deciding.{Asked, InTime}

-- ---- what is recorded was taken or sent

from_added : {X : Type 0} (b : Bool) (t : Table X) (k : Key) (x y : X) → IsIn y (entries_in (add_if b k x t)) → (y ≡ x) ⊎ IsIn y (entries_in t)
from_added {X} true t k x y h = cases (is_some (at t k)) h where
  cases : (s : Bool) → IsIn y (entries_in (cond s t (with_entry t k x))) → (y ≡ x) ⊎ IsIn y (entries_in t)
  cases true h = inr h
  cases false h = from_entry t k x y h
from_added false t k x y h = inr h

-- The PrePrepare was taken, or signed.
abbrev pub Sourced : List Act → Signed PrePrepare → Type 0
Sourced acts y = HasTaken (as_message bodies.PrePrepare y) acts ⊎ HasSigned (part_of (as_message bodies.PrePrepare y)) acts

abbrev AreSourced : List Act → Core → Type 0
AreSourced acts s = (y : Signed PrePrepare) → IsIn y (entries_in s.pre_prepares) → Sourced acts y

later_sourced : (a : Act) (acts : List Act) (y : Signed PrePrepare) → Sourced acts y → Sourced (a ∷ acts) y
later_sourced a acts y (inl taken) = inl (inr taken)
later_sourced a acts y (inr signed) = inr (inr signed)

same_message : (m : Signed Body) (b : PrePrepare) → m.body ≡ bodies.PrePrepare b → m ≡ as_message bodies.PrePrepare (with_body m b)
same_message m b e = λ i. record { role = m.role; id = m.id; body = e i; sig = m.sig }

sourced_recorded : (c : Setup) (acts : List Act) (s : Core) (m : Signed Body) (a : Act) (b : Body) → m.body ≡ b → HasTaken m (a ∷ acts) → AreSourced acts s → AreSourced (a ∷ acts) (recorded c s m b)
sourced_recorded c acts s m a (bodies.PrePrepare b) e taken h y is = elim (from_added (is_admitted c s b.view.0 b.number.0) s.pre_prepares (vote_key b.number.0 b.view.0 m.id) (with_body m b) y is) [
  | inl same ↦ inl (subst (λ (z : Signed PrePrepare). HasTaken (as_message bodies.PrePrepare z) (a ∷ acts)) (sym same) (subst (λ (x : Signed Body). HasTaken x (a ∷ acts)) (same_message m b e) taken))
  | inr old ↦ later_sourced a acts y (h y old)
]
sourced_recorded c acts s m a (bodies.Request b) e taken h y is = later_sourced a acts y (h y is)
sourced_recorded c acts s m a _ e taken h y is = later_sourced a acts y (h y is)

sourced_said : (c : Setup) (acts : List Act) (s : Core) (m : Signed Body) (a : Act) (b : Body) → IsCalmBody b → m.body ≡ b → HasSigned (part_of m) (a ∷ acts) → AreSourced acts s → AreSourced (a ∷ acts) (said c s m b)
sourced_said c acts s m a (bodies.Request b) k e signed h y is = absurd k
sourced_said c acts s m a (bodies.ViewChange b) k e signed h y is = absurd k
sourced_said c acts s m a (bodies.NewView b) k e signed h y is = absurd k
sourced_said c acts s m a (bodies.PrePrepare b) k e signed h y is = elim (from_added (is_admitted c s b.view.0 b.number.0) s.pre_prepares (vote_key b.number.0 b.view.0 m.id) (with_body m b) y is) [
  | inl same ↦ inr (subst (λ (z : Signed PrePrepare). HasSigned (part_of (as_message bodies.PrePrepare z)) (a ∷ acts)) (sym same) (subst (λ (x : Signed Body). HasSigned (part_of x) (a ∷ acts)) (same_message m b e) signed))
  | inr old ↦ later_sourced a acts y (h y old)
]
sourced_said c acts s m a (bodies.Fetch (fetches.Request d)) k e signed h y is = later_sourced a acts y (h y is)
sourced_said c acts s m a (bodies.Fetch (fetches.State n)) k e signed h y is = later_sourced a acts y (h y is)
sourced_said c acts s m a _ k e signed h y is = later_sourced a acts y (h y is)

sourced_after : (c : Setup) (acts : List Act) (s : Core) (a : Act) → IsCalm a → AreSourced acts s → AreSourced (a ∷ acts) (after c s a)
sourced_after c acts s (Take m r) k h = sourced_recorded c acts s m (Take m r) m.body refl (inl (r, refl)) h
sourced_after c acts s (Send to m) k h = sourced_said c acts s m (Send to m) m.body k refl (inl (inl refl)) h
sourced_after c acts s (Enter m) k h = absurd k
sourced_after c acts s (Rise n d) k h = λ y is. later_sourced (Rise n d) acts y (h y (from_keep _ s.pre_prepares y is))
sourced_after c acts s (Install n b t) k h = λ y is. later_sourced (Install n b t) acts y (h y (from_keep _ s.pre_prepares y is))
sourced_after c acts s a k h = λ y is. later_sourced a acts y (h y is)

pub sourced : (c : Setup) (me : ℕ) (signer : SigningState) (acts : List Act) → IsHistory c me signer acts → (core_after c signer acts).view ≡ 0 → AreSourced acts (core_after c signer acts)
sourced c me signer [] is e = λ y none. absurd none
sourced c me signer (a ∷ acts) is e =
    let k = calm_last c me signer a acts is e in
    sourced_after c acts (core_after c signer acts) a k.0 (sourced c me signer acts is.0 k.1.0)

-- what was signed or taken at one point was so at later ones
pub signed_later : (p : Part) (x acts : List Act) → IsEarlier x acts → HasSigned p x → HasSigned p acts
signed_later p x [] e signed = subst (HasSigned p) e signed
signed_later p x (a ∷ acts) (inl e) signed = subst (HasSigned p) e signed
signed_later p x (a ∷ acts) (inr e) signed = inr (signed_later p x acts e signed)

pub taken_later : (m : Signed Body) (x acts : List Act) → IsEarlier x acts → HasTaken m x → HasTaken m acts
taken_later m x [] e taken = subst (HasTaken m) e taken
taken_later m x (a ∷ acts) (inl e) taken = subst (HasTaken m) e taken
taken_later m x (a ∷ acts) (inr e) taken = inr (taken_later m x acts e taken)

-- a PrePrepare's signer is the view's primary
pub proposed_by : (c : Configuration) (r : Role) (id : ℕ) (b : PrePrepare) → IsTrue (may_sign c r id (bodies.PrePrepare b)) → (r ≡ Replica) × (primary c b.view.0 ≡ id)
proposed_by c Replica id b h = (refl, eqb-true (primary c b.view.0) id h)
proposed_by c Client id b h = absurd (false≢true h)

-- ---- the greatest of numbers

greatest_in_list : (ns : List ℕ) (n : ℕ) → 1 ≤ n → n ≡ greatest_of ns → IsIn n ns
greatest_in_list [] n one e = absurd (omega (arith, one, e))
greatest_in_list (k ∷ ns) n one e = elim (cases_eq n k) [
  | inl same ↦ inl same
  | inr other ↦ inr (greatest_in_list ns n one (elim (cases_eq n (greatest_of ns)) [
    | inl same ↦ same
    | inr neither ↦ absurd (elim (cases_lt k (greatest_of ns)) [
      | inl less ↦ neither (omega (arith, e, less))
      | inr more ↦ other (omega (arith, e, more))
    ])
  ]))
]

pub from_filtered : {X : Type 0} (test : X → Bool) (xs : List X) (x : X) → IsIn x (filter test xs) → IsIn x xs × (test x ≡ true)
from_filtered test [] x h = absurd h
from_filtered {X} test (y ∷ xs) x h = cases (test y) refl h (from_filtered test xs x) where
  cases : (b : Bool) → test y ≡ b → IsIn x (cond b (y ∷ filter test xs) (filter test xs)) → (IsIn x (filter test xs) → IsIn x xs × (test x ≡ true)) → IsIn x (y ∷ xs) × (test x ≡ true)
  cases true t (inl same) rest = (inl same, subst (λ (z : X). test z ≡ true) (sym same) t)
  cases true t (inr later) rest = let w = rest later in (inr w.0, w.1)
  cases false t h rest = let w = rest h in (inr w.0, w.1)

-- which of the four the number before the next is
data Before (s : Core) (n : ℕ) : Type 0 where
  AtLow : n ≡ s.low → Before s n
  AtFloor : n ≡ floor_in s → Before s n
  AtRecorded : n ≡ greatest_of (map (λ m. m.body.number.0) (of_view s.view (entries_in s.pre_prepares))) → Before s n
  AtProposed : n ≡ greatest_of (map (λ x. x.number) s.proposed) → Before s n

before_next : (s : Core) (n : ℕ) → n + 1 ≡ next_number s → Before s n
before_next s n e = split s.low (floor_in s) (greatest_of (map (λ m. m.body.number.0) (of_view s.view (entries_in s.pre_prepares)))) (greatest_of (map (λ x. x.number) s.proposed)) refl refl refl refl e where
  split : (low floor recorded_there proposed_there : ℕ) → s.low ≡ low → floor_in s ≡ floor → greatest_of (map (λ m. m.body.number.0) (of_view s.view (entries_in s.pre_prepares))) ≡ recorded_there
      → greatest_of (map (λ x. x.number) s.proposed) ≡ proposed_there → n + 1 ≡ 1 + max (max low floor) (max recorded_there proposed_there) → Before s n
  split low floor recorded_there proposed_there a b d g e = elim (cases_eq n low) [
    | inl same ↦ AtLow (same ∙ sym a)
    | inr not_low ↦ elim (cases_eq n floor) [
      | inl same ↦ AtFloor (same ∙ sym b)
      | inr not_floor ↦ elim (cases_eq n recorded_there) [
        | inl same ↦ AtRecorded (same ∙ sym d)
        | inr not_recorded ↦ AtProposed (last_one not_low not_floor not_recorded ∙ sym g)
      ]
    ]
  ] where
    last_one : (n ≡ low → ⊥) → (n ≡ floor → ⊥) → (n ≡ recorded_there → ⊥) → n ≡ proposed_there
    last_one x y z = elim (cases_eq n proposed_there) [
      | inl same ↦ same
      | inr w ↦ absurd (elim (cases_lt n low) [
        | inl l ↦ omega (arith, e, l)
        | inr l ↦ elim (cases_lt n floor) [
          | inl f ↦ omega (arith, e, f)
          | inr f ↦ elim (cases_lt n recorded_there) [
            | inl r ↦ omega (arith, e, r)
            | inr r ↦ elim (cases_lt n proposed_there) [
              | inl p ↦ omega (arith, e, p)
              | inr p ↦ below (strict low l x) (strict floor f y) (strict recorded_there r z) (strict proposed_there p w)
            ]
          ]
        ]
      ])
    ] where
      strict : (k : ℕ) → k ≤ n → (n ≡ k → ⊥) → k < n
      strict k le other = elim (cases_lt k n) [ inl less ↦ less | inr more ↦ absurd (other (omega (arith, le, more))) ]

      below : low < n → floor < n → recorded_there < n → proposed_there < n → ⊥
      below p q r t = omega (arith, e, p, q, r, t)

module _ (c : Setup) (j : Journals) (h : IsHonestFamily c j) (first : EachEnds c j (λ i s. s.view ≡ 0)) (leader : IsCorrect c j.faulty (primary c.config 0)) where
  -- the primary signed this proposal
  abbrev pub Signs : Fields → Type 0
  Signs x = (p : Part) × (b : PrePrepare) × HasSigned p ((family c j h).acts (primary c.config 0)) × (p.body ≡ bodies.PrePrepare b) × (of_pre_prepare b ≡ x)

  pub signs_asked : (x : Fields) → x.view ≡ 0 → ((n : ℕ) → n ≤ x.number → InTime c j h first leader n) → Signs x → Asked c j h first leader x
  signs_asked x view in_time (p, b, signed, body, fields) = record {
    view = view;
    body = b;
    part = p;
    given = (told c j h (primary c.config 0) leader).gives p signed;
    body_is = body;
    fields = fields;
    in_time = in_time;
  }

  pub asked_signs : (x : Fields) → Asked c j h first leader x → Signs x
  asked_signs x w = (w.part, w.body, (told c j h (primary c.config 0) leader).signs w.part w.given, w.body_is, w.fields)

  -- a PrePrepare of view 0 that is voted at a correct replica the primary signed
  pub voted_signs : (i : ℕ) → IsCorrect c j.faulty i → (acts : List Act) → IsEarlier acts ((family c j h).acts i) → (x : Fields) → x.view ≡ 0
      → voted of_pre_prepare (core_after c (j.signer i) acts).pre_prepares x (primary c.config x.view) ≡ true → Signs x
  voted_signs i correct acts at x view t =
      let s = core_after c (j.signer i) acts in
      let lead = primary c.config x.view in
      let is_leader : lead ≡ primary c.config 0 = ap (primary c.config) view in
      let right : IsCorrect c j.faulty lead = subst (IsCorrect c j.faulty) (sym is_leader) leader in
      let w = voted_is of_pre_prepare s.pre_prepares x lead t in
      let by = by_is lead (λ b. same_fields (of_pre_prepare b) x) w.0 w.2 in
      let real = (real_core c (family c j h) i correct (unforged c j h) acts at).0 (vote_key x.number x.view lead) w.0 w.1 in
      let signed = signed_real c (family c j h) (unforged c j h) bodies.PrePrepare lead (λ b. same_fields (of_pre_prepare b) x) w.0 w.2 real right in
      let p : Part = record { role = Replica; id = lead; body = bodies.PrePrepare w.0.body } in
      (p, w.0.body, subst (λ (k : ℕ). HasSigned p ((family c j h).acts k)) is_leader signed, refl, fields_are (of_pre_prepare w.0.body) x by.2)

  -- what is certified in view 0 the primary signed
  pub certified_signs : (i : ℕ) → IsCorrect c j.faulty i → (acts : List Act) → IsEarlier acts ((family c j h).acts i) → (x : Fields) → x.view ≡ 0 → is_certified c (core_after c (j.signer i) acts) x ≡ true → Signs x
  certified_signs i correct acts at x view e =
      voted_signs i correct acts at x view ((and_parts (voted of_pre_prepare (core_after c (j.signer i) acts).pre_prepares x (primary c.config x.view)) _ e).0)

  -- What a correct replica executed the primary proposed.
  pub point_signs : (i : ℕ) → IsCorrect c j.faulty i → (n : ℕ) (d : List ℕ) (t : Service) (o : Outcome) (early : List Act) → IsEarlier (Execute n d t o ∷ early) ((family c j h).acts i)
      → Signs (record { view = 0; number = n; digest = d })
  point_signs i correct n d t o early point =
      let s = core_after c (j.signer i) early in
      let here = before (Execute n d t o) early ((family c j h).acts i) point in
      let ok : MayExecute c s n d t o = (history_at c i (j.signer i) (Execute n d t o ∷ early) ((family c j h).acts i) point (told c j h i correct).is).1 in
      let view : s.view ≡ 0 = (first_then c j h first i correct early here).0 in
      let y : Fields = record { view = s.view; number = n; digest = d } in
      let prepared = (and_parts (is_prepared c s y) (has_quorum c.config (voted of_commit s.commits y)) ok.committed).0 in
      let certified = (and_parts (is_certified c s y) (is_known c s y.digest) prepared).0 in
      subst (λ (v : ℕ). Signs (record { view = v; number = n; digest = d })) view (certified_signs i correct early here y view certified)

  same_done : (n k : ℕ) (d e result r : List ℕ) → Executed n d result ≡ Executed k e r → (n ≡ k) × (d ≡ e)
  same_done n k d e result r is = (cc, cc)

  never_installed : (n k : ℕ) (d e result : List ℕ) → Executed n d result ≡ Installed k e → ⊥
  never_installed n k d e result is = cc

  done_signs : (i : ℕ) → IsCorrect c j.faulty i → (n : ℕ) (d result : List ℕ) (a : Act) (early : List Act) → IsEarlier (a ∷ early) ((family c j h).acts i) → IsIn (Executed n d result) (done_of c a)
      → Signs (record { view = 0; number = n; digest = d })
  done_signs i correct n d result (Execute k e t o) early point (inl same) =
      let parts = same_done n k d e result (result_of o.reply) same in
      subst Signs (λ q. record { view = 0; number = sym parts.0 q; digest = sym parts.1 q }) (point_signs i correct k e t o early point)
  done_signs i correct n d result (Execute k e t o) early point (inr none) = absurd none
  done_signs i correct n d result (Install k b t) early point (inl same) = absurd (never_installed n k d (c.hash b) result same)
  done_signs i correct n d result (Install k b t) early point (inr none) = absurd none
  done_signs i correct n d result (Take m r) early point none = absurd none
  done_signs i correct n d result Timeout early point none = absurd none
  done_signs i correct n d result (Send to m) early point none = absurd none
  done_signs i correct n d result (Relay to m) early point none = absurd none
  done_signs i correct n d result (Enter m) early point none = absurd none
  done_signs i correct n d result (Rise k e) early point none = absurd none

  pub executed_signs : (i : ℕ) → IsCorrect c j.faulty i → (n : ℕ) (d result : List ℕ) → HasDone (Executed n d result) (j.rows i) → Signs (record { view = 0; number = n; digest = d })
  executed_signs i correct n d result done =
      let w = (told c j h i correct).did (Executed n d result) done in done_signs i correct n d result w.0 w.1 w.2 w.3

  -- a number that a correct replica reached
  pub reached_signs : (i : ℕ) → IsCorrect c j.faulty i → (n : ℕ) → 1 ≤ n → n ≤ (core_after c (j.signer i) ((family c j h).acts i)).executed → (d : List ℕ) × Signs (record { view = 0; number = n; digest = d })
  reached_signs i correct zero one le = absurd (omega (arith, one))
  reached_signs i correct (suc n) one le =
      let e = told c j h i correct in
      let number : e.core.executed ≡ max 0 (greatest_in (j.rows i)) = number_from c i (j.signer i) [] (j.rows i) (start_of c (j.signer i)) e.core e.comes refl tt in
      let same : (core_after c (j.signer i) ((family c j h).acts i)).executed ≡ e.core.executed = ap (λ (s : Core). s.executed) e.core_is in
      let most = among_most (replicas c.config) i correct.0 correct.1 in
      let w = each_executed c j h n (omega (arith, le, number, same, most)) in
      let next : n + 1 ≡ suc n = omega arith in
      (w.1, subst (λ (k : ℕ). Signs (record { view = 0; number = k; digest = w.1 })) next (executed_signs w.0 w.3 (n + 1) w.1 w.2 w.4)) where
        among_most : (m k : ℕ) → k < m → j.faulty k ≡ false → greatest_in (j.rows k) ≤ greatest_among j m
        among_most zero k below right = absurd (omega (arith, below))
        among_most (suc m) k below right = elim (cases_eq k m) [
          | inl same_one ↦
              let own : reached_in j k ≡ greatest_in (j.rows k) = ap (λ (b : Bool). cond b 0 (greatest_in (j.rows k))) right in
              let here : reached_in j k ≡ reached_in j m = ap (reached_in j) same_one in
              omega (arith, own, here)
          | inr other ↦
              let rest = among_most m k (elim (cases_lt k m) [ inl less ↦ less | inr more ↦ absurd (other (omega (arith, below, more))) ]) right in
              omega (arith, rest)
        ]

  -- ---- the number before

  abbrev the_acts : List Act
  the_acts = (family c j h).acts (primary c.config 0)

  -- a PrePrepare of view 0 that stands in a table of the primary it signed
  recorded_signs : (early : List Act) → IsEarlier early the_acts → (y : Signed PrePrepare) → IsIn y (entries_in (core_after c (j.signer (primary c.config 0)) early).pre_prepares) → y.body.view.0 ≡ 0 → Signs (of_pre_prepare y.body)
  recorded_signs early at y within view =
      let me = primary c.config 0 in
      let e = told c j h me leader in
      let is = history_at c me (j.signer me) early the_acts at e.is in
      let p : Part = part_of (as_message bodies.PrePrepare y) in
      elim (sourced c me (j.signer me) early is (first_then c j h first me leader early at).0 y within) [
        | inr signed ↦ (p, y.body, signed_later p early the_acts at signed, refl, refl)
        | inl taken ↦
            let m : Signed Body = as_message bodies.PrePrepare y in
            let opened = taken_opened c me (j.signer me) m early is taken in
            let by = proposed_by c.config y.role y.id y.body opened.authentic.0.role in
            let id : y.id ≡ me = sym by.1 ∙ ap (primary c.config) view in
            let given = h.real me leader m m (e.received m (taken_later m early the_acts at taken)) (inl refl) by.0 (subst (IsCorrect c j.faulty) (sym id) leader) in
            (p, y.body, e.signs p (subst (λ (k : ℕ). HasGiven p (j.rows k)) id given), refl, refl)
      ]

  -- what is signed as a proposal is of view 0
  signed_view : (x : Fields) → Signs x → x.view ≡ 0
  signed_view x (p, b, signed, body, fields) =
      let me = primary c.config 0 in
      let w = spoken c j h first me leader p signed in
      let says = subst (λ (y : Body). MaySay c me (core_after c (j.signer me) w.early) y) body w.says in
      ap (λ (y : Fields). y.view) (sym fields) ∙ says.inside.view_is ∙ (first_then c j h first me leader w.early (before (Send w.to w.message) w.early the_acts w.point)).0

  -- what is noted as proposed at a point of the primary it signed
  pub noted_signs : (early : List Act) → IsEarlier early the_acts → (x : Fields) → IsIn x (core_after c (j.signer (primary c.config 0)) early).proposed → Signs x
  noted_signs early at x within =
      let me = primary c.config 0 in
      let w = (notes c me (j.signer me) early (history_at c me (j.signer me) early the_acts at (told c j h me leader).is)).2 x within in
      (w.0, w.1, signed_later w.0 early the_acts at w.2, w.3, w.4)

  abbrev SignsAt : ℕ → Type 0
  SignsAt n = (x : Fields) × (x.number ≡ n) × Signs x

  signs_before : (n : ℕ) → 1 ≤ n → (x : Fields) → x.number ≡ n + 1 → Signs x → SignsAt n
  signs_before n one x number (p, b, signed, body, fields) =
      let me = primary c.config 0 in
      let w = spoken c j h first me leader p signed in
      let s = core_after c (j.signer me) w.early in
      let at = before (Send w.to w.message) w.early the_acts w.point in
      let says = subst (λ (y : Body). MaySay c me s y) body w.says in
      let next : n + 1 ≡ next_number s = sym (ap (λ (y : Fields). y.number) fields ∙ number) ∙ says.next in
      from s w.early at refl (first_then c j h first me leader w.early at) (before_next s n next) where
        from : (s : Core) (early : List Act) → IsEarlier early the_acts → s ≡ core_after c (j.signer (primary c.config 0)) early → First s → Before s n → SignsAt n
        from s early at is view (AtFloor e) = let floor : floor_in s ≡ 0 = ap floor_of view.2 in absurd (omega (arith, one, e, floor))
        from s early at is view (AtLow e) =
            let me = primary c.config 0 in
            let hist = (told c j h me leader).is in
            let low = low_reached c me (j.signer me) early (history_at c me (j.signer me) early the_acts at hist) in
            let up = number_rises c me (j.signer me) early the_acts at hist in
            let same : s.low ≡ (core_after c (j.signer me) early).low = ap (λ (t : Core). t.low) is in
            let w = reached_signs me leader n one (omega (arith, e, low, up, same)) in
            (record { view = 0; number = n; digest = w.0 }, refl, w.1)
        from s early at is view (AtRecorded e) =
            let w = from_map (λ (m : Signed PrePrepare). m.body.number.0) (of_view s.view (entries_in s.pre_prepares)) n (greatest_in_list _ n one e) in
            let v = from_filtered (λ (m : Signed PrePrepare). m.body.view.0 == s.view) (entries_in s.pre_prepares) w.0 w.1 in
            let here : IsIn w.0 (entries_in (core_after c (j.signer (primary c.config 0)) early).pre_prepares) = subst (λ (t : Core). IsIn w.0 (entries_in t.pre_prepares)) is v.0 in
            (of_pre_prepare w.0.body, sym w.2, recorded_signs early at w.0 here (eqb-true w.0.body.view.0 s.view v.1 ∙ view.0))
        from s early at is view (AtProposed e) =
            let w = from_map (λ (x : Fields). x.number) s.proposed n (greatest_in_list _ n one e) in
            (w.0, sym w.2, noted_signs early at w.0 (subst (λ (t : Core). IsIn w.0 t.proposed) is w.1))

  -- The primary proposed each number below one that it proposed.
  pub signs_below : (n : ℕ) → SignsAt n → (k : ℕ) → 1 ≤ k → k ≤ n → SignsAt k
  signs_below zero w k one le = absurd (omega (arith, one, le))
  signs_below (suc n) w k one le = elim (cases_eq k (suc n)) [
    | inl same ↦ subst SignsAt (sym same) w
    | inr other ↦
        let less : k ≤ n = elim (cases_lt n k) [ inl more ↦ absurd (other (omega (arith, more, le))) | inr no_more ↦ no_more ] in
        let next : suc n ≡ n + 1 = omega arith in
        signs_below n (signs_before n (omega (arith, one, less)) w.0 (w.1 ∙ next) w.2) k one less
  ]

  pub signs_view : (x : Fields) → Signs x → x.view ≡ 0
  signs_view = signed_view

  -- its proposals are one for each number
  pub one_signed : (x y : Fields) → Signs x → Signs y → x.number ≡ y.number → x ≡ y
  one_signed x y a b number = one_proposal c j h first leader x y (as_led x a) (as_led y b) (signed_view x a ∙ sym (signed_view y b)) number where
    as_led : (z : Fields) → Signs z → Proposed c j h first leader z
    as_led z (p, b, signed, body, fields) =
        subst (Proposed c j h first leader) fields (led_part c (family c j h) (IsCorrect c j.faulty) (unforged c j h).histories (primary c.config 0) p b body leader signed)
