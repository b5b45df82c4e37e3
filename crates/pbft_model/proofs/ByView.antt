-- Agreement by view.
use Rattle.std.proofs.Common.{◌≡◌, ℕ, zero, suc, ◌+◌, ◌-◌, ◌*◌, ◌<◌, ◌≤◌, Bool, true, false, ◌&&◌, cond, List, [], ◌∷◌, map, Some, refl, sym, ap, subst, ◌∙◌, arith, inl, inr, ◌⊎◌}
use Rattle.std.specs.Prelude.{nat_lt, nat_le, not, ◌==◌, length}
use Rattle.std.specs.List.{list_all}
use Rattle.std.proofs.lemmas.Bool.{false≢true, cases_lt, and_parts, eqb-true, leb-true, ltb-true}
use Rattle.std.proofs.lemmas.Option.{same_Some}
use Rattle.pbft_model.specs.Words.{Signed, Body, PrePrepare, Prepare, Commit, Certificate, ViewChange, NewView, Role, Replica, as_message}
use Rattle.pbft_codec.specs.declared.body.Body.TheVariants as bodies
use Rattle.pbft_model.specs.Setup.{Setup, primary, replicas, quorum, span, count, numbers_from}
use Rattle.pbft_model.specs.Tables.{at, vote_key, change_key}
use Rattle.pbft_model.specs.Certificates.{Fields, of_pre_prepare, of_prepare, of_commit, same_fields, is_by, voted, voted_among, certified, is_certificate, has_quorum}
use Rattle.pbft_model.specs.Validity.{is_valid_new_view, given, given_numbers, given_digest, digest_or_null, floor_of, top_of, certificates_in, changed_by, are_for_view, have_proofs, have_certificates, have_order, has_view, has_proof, has_certificates, bodies_in}
use Rattle.pbft_model.specs.Core.{Core, is_prepared, is_certified, is_known, kept_on_leaving}
use Rattle.pbft_model.specs.Acts.{Act, Destination, Take, Timeout, Send, Relay, Enter, Rise, Execute, Install, after, said, acted, signed_once_more, left_if_above, left_for}
use Rattle.pbft_model.specs.Rules.{Allowed, MaySay, IsInside, change_of, is_chosen, chosen_changes}
use Rattle.pbft_model.specs.Histories.{IsEarlier, IsIn, HasSigned}
use Rattle.pbft_model.specs.Families.{Family, IsCorrect, IsUnforged, HasCommitted, AgreesByView}
use Rattle.pbft_model.proofs.Counting.{quorums_meet, quorum_has, count_with}
use Rattle.pbft_model.proofs.Found.{in_any, in_all, from_map, in_map, in_flat, from_gathered}
use Rattle.pbft_model.proofs.Entries.{from_append}
use Rattle.pbft_model.proofs.Events.{before, in_order, history_at, holds_on, earlier_trans, low_reached}
use Rattle.pbft_model.proofs.Calm.{at_in, calm, calm_said, low_up}
use Rattle.pbft_model.proofs.Real.{RealAs, RealCertificate, RealChange, RealCore, real_core, changes_in, list_in, real_change}
use Rattle.pbft_model.proofs.Stages.{Stage, Holds, holds_keeps, EnteredBy, basis_keeps, by_is, fields_are, voted_is, Remembers, remembers_after, remembers_leaving, view_up}
use Rattle.pbft_model.proofs.Views.{greatest_above, given_one, given_role, one_given, given_at, below_top, highest_above, entered_holds}
use Rattle.pbft_model.proofs.Voices.{core_at, Said, Led, CommittedTo, Vouched, vouched_one, led_one, led_from, prepare_said, commit_said, change_said, two_said, later, core_then, listed_fields, valid_list}

pub from_certificates : (ms : List (Signed ViewChange)) (x : Certificate) → IsIn x (certificates_in ms) → (m : Signed ViewChange) × IsIn m ms × IsIn x m.body.certificates
from_certificates [] x h = absurd h
from_certificates (m ∷ ms) x h = elim (from_append x m.body.certificates (certificates_in ms) h) [
  | inl here ↦ (m, inl refl, here)
  | inr later ↦ let w = from_certificates ms x later in (w.0, inr w.1, w.2)
]

-- the ViewChanges chosen are recorded ones
pub from_chosen : (c : Setup) (me : ℕ) (s : Core) (m : Signed ViewChange) → IsIn m (chosen_changes c me s) → (i : ℕ) × (change_of s i ≡ Some m)
from_chosen c me s m h = let w = from_gathered (is_chosen c me s) (change_of s) (replicas c.config) m h in (w.0, w.2)

module _ (c : Setup) (family : Family) (u : IsUnforged c family) where
  pub signed_real : {B : Type 0} (kind : B → Body) (i : ℕ) (test : B → Bool) (m : Signed B) → is_by i test m ≡ true → RealAs c family kind m → IsCorrect c family.faulty i
      → HasSigned (record { role = Replica; id = i; body = kind m.body }) (family.acts i)
  signed_real kind i test m e real correct =
      let by = by_is i test m e in
      let h = real by.0 (subst (λ (j : ℕ). IsCorrect c family.faulty j) (sym by.1) correct) in
      subst (λ (r : Role). HasSigned (record { role = r; id = i; body = kind m.body }) (family.acts i)) by.0
      (subst (λ (j : ℕ). HasSigned (record { role = m.role; id = j; body = kind m.body }) (family.acts j)) by.1 h)

  -- ---- certificates that are real

  pub record Certain (x : Fields) : Type 0 where
    pub voters : ℕ → Bool
    pub many : quorum c.config ≤ count voters (replicas c.config)
    pub vouch : (i : ℕ) → IsCorrect c family.faulty i → voters i ≡ true → Vouched c family (IsCorrect c family.faulty) u.histories i x

  pub certain_of : (x : Fields) (pre prep : ℕ → Bool) → certified c.config pre prep x.view ≡ true
      → (pre (primary c.config x.view) ≡ true → (m : Signed PrePrepare) × (is_by (primary c.config x.view) (λ b. same_fields (of_pre_prepare b) x) m ≡ true) × RealAs c family bodies.PrePrepare m)
      → ((i : ℕ) → prep i ≡ true → (m : Signed Prepare) × (is_by i (λ b. same_fields (of_prepare b) x) m ≡ true) × RealAs c family bodies.Prepare m) → Certain x
  certain_of x pre prep e real_pre real_prep =
      let p = primary c.config x.view in
      let parts = and_parts (pre p) (nat_le (2 * c.config.f) (count (λ i. not (i == p) && prep i) (replicas c.config))) e in
      let enough = leb-true (2 * c.config.f) (count (λ i. not (i == p) && prep i) (replicas c.config)) parts.1 in
      let below : p < replicas c.config = omega arith in
      let with_one = count_with p (pre p) prep (replicas c.config) parts.0 below in
      record { voters = λ i. cond (i == p) (pre p) (prep i); many = omega arith; vouch = λ i correct t. cases i correct (i == p) refl t } where
        cases : (i : ℕ) → IsCorrect c family.faulty i → (b : Bool) → (i == primary c.config x.view) ≡ b → cond b (pre (primary c.config x.view)) (prep i) ≡ true → Vouched c family (IsCorrect c family.faulty) u.histories i x
        cases i correct true same t =
            let w = real_pre t in
            let is_i : primary c.config x.view ≡ i = sym (eqb-true i (primary c.config x.view) same) in
            let by = subst (λ (j : ℕ). is_by j (λ b. same_fields (of_pre_prepare b) x) w.0 ≡ true) is_i w.1 in
            let fields = fields_are (of_pre_prepare w.0.body) x ((by_is i (λ b. same_fields (of_pre_prepare b) x) w.0 by).2) in
            inl (subst (λ (y : Fields). Led c family (IsCorrect c family.faulty) u.histories i y) fields (led_from c family (IsCorrect c family.faulty) u.histories i w.0.body correct (signed_real bodies.PrePrepare i (λ b. same_fields (of_pre_prepare b) x) w.0 by w.2 correct)))
        cases i correct false other t =
            let w = real_prep i t in
            let fields = fields_are (of_prepare w.0.body) x ((by_is i (λ b. same_fields (of_prepare b) x) w.0 w.1).2) in
            inr (w.0.body, prepare_said c family (IsCorrect c family.faulty) u.histories i w.0.body correct (signed_real bodies.Prepare i (λ b. same_fields (of_prepare b) x) w.0 w.1 w.2 correct), fields)

  -- what is certified at a correct replica is real
  pub certain_at : (i : ℕ) → IsCorrect c family.faulty i → (acts : List Act) → IsEarlier acts (family.acts i) → (x : Fields) → is_certified c (core_at c family i acts) x ≡ true → Certain x
  certain_at i correct acts h x e =
      let s = core_at c family i acts in
      let real = real_core c family i correct u acts h in
      certain_of x (voted of_pre_prepare s.pre_prepares x) (voted of_prepare s.prepares x) e
      (λ t. let w = voted_is of_pre_prepare s.pre_prepares x (primary c.config x.view) t in (w.0, w.2, real.0 (vote_key x.number x.view (primary c.config x.view)) w.0 w.1))
      (λ j t. let w = voted_is of_prepare s.prepares x j t in (w.0, w.2, real.1 (vote_key x.number x.view j) w.0 w.1))

  -- and so is a certificate in a real ViewChange
  pub certain_nested : (y : Certificate) → is_certificate c.config y ≡ true → RealCertificate c family y → Certain (of_pre_prepare y.pre_prepare.body)
  certain_nested y e real =
      let x = of_pre_prepare y.pre_prepare.body in
      certain_of x (voted_among of_pre_prepare (y.pre_prepare ∷ []) x) (voted_among of_prepare y.prepares x)
      ((and_parts (certified c.config (voted_among of_pre_prepare (y.pre_prepare ∷ []) x) (voted_among of_prepare y.prepares x) x.view) (length y.prepares == 2 * c.config.f) e).0)
      (λ t. let w = in_any (is_by (primary c.config x.view) (λ b. same_fields (of_pre_prepare b) x)) (y.pre_prepare ∷ []) t in
      (w.0, w.2, elim w.1 [ inl same ↦ subst (λ (m : Signed PrePrepare). RealAs c family bodies.PrePrepare m) (sym same) real.pre_prepare | inr none ↦ absurd none ]))
      (λ j t. let w = in_any (is_by j (λ b. same_fields (of_prepare b) x)) y.prepares t in (w.0, w.2, real.prepares w.0 w.1))

  -- one certificate for each view and number
  pub one_certain : (x y : Fields) → Certain x → Certain y → x.view ≡ y.view → x.number ≡ y.number → x ≡ y
  one_certain x y a b view number =
      let w = quorums_meet c.config.f (replicas c.config) a.voters b.voters family.faulty refl a.many b.many u.few in
      let correct : IsCorrect c family.faulty w.0 = (w.1, w.4) in
      vouched_one c family (IsCorrect c family.faulty) u.histories w.0 x y correct (a.vouch w.0 correct w.2) (b.vouch w.0 correct w.3) view number

  pub record Committing (x : Fields) : Type 0 where
    pub voters : ℕ → Bool
    pub many : quorum c.config ≤ count voters (replicas c.config)
    pub commit : (i : ℕ) → IsCorrect c family.faulty i → voters i ≡ true → CommittedTo c family (IsCorrect c family.faulty) u.histories i x

  pub committing_at : (i : ℕ) → IsCorrect c family.faulty i → (acts : List Act) → IsEarlier acts (family.acts i) → (x : Fields) → has_quorum c.config (voted of_commit (core_at c family i acts).commits x) ≡ true → Committing x
  committing_at i correct acts h x e =
      let s = core_at c family i acts in
      let real = real_core c family i correct u acts h in
      record {
        voters = voted of_commit s.commits x;
        many = leb-true (quorum c.config) (count (voted of_commit s.commits x) (replicas c.config)) e;
        commit = λ j right t.
            let w = voted_is of_commit s.commits x j t in
            let fields = fields_are (of_commit w.0.body) x ((by_is j (λ b. same_fields (of_commit b) x) w.0 w.2).2) in
            (w.0.body, commit_said c family (IsCorrect c family.faulty) u.histories j w.0.body right (signed_real bodies.Commit j (λ b. same_fields (of_commit b) x) w.0 w.2 (real.2 (vote_key x.number x.view j) w.0 w.1) right), fields);
      }

  -- ---- what is remembered of a Commit

  commit_remembered : (i : ℕ) (x : Fields) (b : Commit) (w : Said c family i (bodies.Commit b)) → of_commit b ≡ x → Remembers c x (core_at c family i (Send w.to w.message ∷ w.early))
  commit_remembered i x b w is =
      subst (λ (s : Core). Remembers c x s) (sym (core_then c family (IsCorrect c family.faulty) u.histories i (bodies.Commit b) w))
      (subst (λ (y : Fields). Remembers c y (acted (signed_once_more (said c (core_at c family i w.early) w.message (bodies.Commit b)) (bodies.Commit b)))) is
      (let inside = w.says.inside in
      let parts = and_parts (is_certified c (core_at c family i w.early) (of_commit b)) (is_known c (core_at c family i w.early) b.digest.0) w.says.prepared in
      (inside.up_to_high, inl (sym inside.view_is, inside.active, inr (parts.0, parts.1)))))

  remembers_at : (i : ℕ) (x : Fields) → IsCorrect c family.faulty i → (b : Commit) (w : Said c family i (bodies.Commit b)) → of_commit b ≡ x → (y : List Act) → IsEarlier (Send w.to w.message ∷ w.early) y → IsEarlier y (family.acts i)
      → Remembers c x (core_at c family i y)
  remembers_at i x correct b w is y h k =
      holds_on c i (family.signer i) (Remembers c x) (remembers_after c i x) (Send w.to w.message ∷ w.early) y h (history_at c i (family.signer i) y (family.acts i) k (u.histories i correct)) (commit_remembered i x b w is)

  above_at : (i view : ℕ) → IsCorrect c family.faulty i → (x y : List Act) → IsEarlier x y → IsEarlier y (family.acts i) → view ≤ (core_at c family i x).view → view ≤ (core_at c family i y).view
  above_at i view correct x y h k below =
      holds_on c i (family.signer i) (λ s. view ≤ s.view) (λ s a low ok is. let up = view_up c i s a low ok in omega arith) x y h (history_at c i (family.signer i) y (family.acts i) k (u.histories i correct)) below

  low_at : (i low : ℕ) → IsCorrect c family.faulty i → (x y : List Act) → IsEarlier x y → IsEarlier y (family.acts i) → low ≤ (core_at c family i x).low → low ≤ (core_at c family i y).low
  low_at i low correct x y h k below =
      holds_on c i (family.signer i) (λ s. low ≤ s.low) (λ s a reached ok is. let up = low_up c i s a reached ok in omega arith) x y h (history_at c i (family.signer i) y (family.acts i) k (u.histories i correct)) below

  -- A ViewChange for a higher view was said after the Commit, and shows it.
  shows_commit : (i : ℕ) (x : Fields) (v : ViewChange) → IsCorrect c family.faulty i → CommittedTo c family (IsCorrect c family.faulty) u.histories i x → Said c family i (bodies.ViewChange v) → x.view < v.view.0
      → (x.number ≤ v.low.0) ⊎ ((y : Certificate) × IsIn y v.certificates × (y.pre_prepare.body.number.0 ≡ x.number) × (x.view ≤ y.pre_prepare.body.view.0))
  shows_commit i x v correct (b, w, is) w' higher = elim (two_said c family (IsCorrect c family.faulty) u.histories i (bodies.Commit b) (bodies.ViewChange v) w w') [
    | inl same ↦ absurd cc
    | inr (inl h) ↦
        let s = core_at c family i w'.early in
        let complete = w'.says.reports_all in
        elim (remembers_leaving c x s (remembers_at i x correct b w is w'.early h (before (Send w'.to w'.message) w'.early (family.acts i) w'.point))) [
          | inl below ↦ inl (subst (λ (l : ℕ). x.number ≤ l) (sym (ap (λ (z : ViewChange). z.low.0) complete)) below)
          | inr k ↦ inr (k.0, subst (λ (xs : List Certificate). IsIn k.0 xs) (sym (ap (λ (z : ViewChange). z.certificates) complete)) (at_in (kept_on_leaving c s) (x.number ∷ []) k.0 k.1), k.2, k.3)
        ]
    | inr (inr h) ↦
        let left : v.view.0 ≤ (core_at c family i (Send w'.to w'.message ∷ w'.early)).view = subst (λ (s : Core). v.view.0 ≤ s.view) (sym (core_then c family (IsCorrect c family.faulty) u.histories i (bodies.ViewChange v) w')) (omega arith) in
        let at_commit = above_at i v.view.0 correct (Send w'.to w'.message ∷ w'.early) w.early h (before (Send w.to w.message) w.early (family.acts i) w.point) left in
        let view_is : b.view.0 ≡ (core_at c family i w.early).view = w.says.inside.view_is in
        let same : b.view.0 ≡ x.view = ap (λ (f : Fields). f.view) is in
        absurd (omega arith)
  ]

  -- ---- what a valid NewView carries

  for_view : (n : NewView) (m : Signed ViewChange) → is_valid_new_view c n ≡ true → IsIn m n.changes → (has_view m.body ≡ true) × (m.body.view.0 ≡ n.view.0)
  for_view n m valid h =
      let a = and_parts (are_for_view n) (have_proofs c n && (have_certificates c n && have_order c n)) valid in
      let t = in_all (λ v. has_view v && (v.view.0 == n.view.0)) (bodies_in n.changes) a.0 m.body (in_map (λ (x : Signed ViewChange). x.body) n.changes m h) in
      let parts = and_parts (has_view m.body) (m.body.view.0 == n.view.0) t in
      (parts.0, eqb-true _ _ parts.1)

  many_changes : (n : NewView) → is_valid_new_view c n ≡ true → quorum c.config ≤ count (changed_by n.changes) (replicas c.config)
  many_changes n valid =
      let a = and_parts (are_for_view n) (have_proofs c n && (have_certificates c n && have_order c n)) valid in
      let b = and_parts (have_proofs c n) (have_certificates c n && have_order c n) a.1 in
      let d = and_parts (list_all (has_proof c) (bodies_in n.changes)) ((length n.changes == quorum c.config) && has_quorum c.config (changed_by n.changes)) b.0 in
      leb-true (quorum c.config) (count (changed_by n.changes) (replicas c.config)) ((and_parts (length n.changes == quorum c.config) (has_quorum c.config (changed_by n.changes)) d.1).1)

  certificate_in : (n : NewView) (m : Signed ViewChange) (y : Certificate) → is_valid_new_view c n ≡ true → IsIn m n.changes → IsIn y m.body.certificates → (is_certificate c.config y ≡ true) × (y.pre_prepare.body.view.0 < n.view.0)
  certificate_in n m y valid h k =
      let a = and_parts (are_for_view n) (have_proofs c n && (have_certificates c n && have_order c n)) valid in
      let b = and_parts (have_proofs c n) (have_certificates c n && have_order c n) a.1 in
      let d = and_parts (have_certificates c n) (have_order c n) b.1 in
      let own = in_all (has_certificates c) (bodies_in n.changes) d.0 m.body (in_map (λ (x : Signed ViewChange). x.body) n.changes m h) in
      let is = in_all (is_certificate c.config) m.body.certificates own y k in
      let view = for_view n m valid h in
      let below = in_all (λ x. nat_lt x.pre_prepare.body.view.0 m.body.view.0) m.body.certificates ((and_parts (nat_lt 0 m.body.view.0) (list_all (λ x. nat_lt x.pre_prepare.body.view.0 m.body.view.0) m.body.certificates) view.0).1) y k in
      let less = ltb-true y.pre_prepare.body.view.0 m.body.view.0 below in
      let same = view.1 in
      (is, omega arith)

  pub carried : (x : Fields) (n : NewView) → Committing x → is_valid_new_view c n ≡ true → ((m : Signed ViewChange) → IsIn m n.changes → RealChange c family m) → x.view < n.view.0 → floor_of n.changes < x.number
      → (y : Certificate) × IsIn y (certificates_in n.changes) × (y.pre_prepare.body.number.0 ≡ x.number) × (x.view ≤ y.pre_prepare.body.view.0)
  carried x n k valid real higher above =
      let w = quorums_meet c.config.f (replicas c.config) k.voters (changed_by n.changes) family.faulty refl k.many (many_changes n valid) u.few in
      let correct : IsCorrect c family.faulty w.0 = (w.1, w.4) in
      let v = in_any (is_by w.0 (λ v. true)) n.changes w.3 in
      let view = (for_view n v.0 valid v.1).1 in
      let said_it = change_said c family (IsCorrect c family.faulty) u.histories w.0 v.0.body correct (signed_real bodies.ViewChange w.0 (λ v. true) v.0 v.2 ((real v.0 v.1).own) correct) in
      elim (shows_commit w.0 x v.0.body correct (k.commit w.0 correct w.2) said_it (omega arith)) [
        | inl below ↦
            let low = greatest_above v.0.body.low.0 (map (λ (m : Signed ViewChange). m.body.low.0) n.changes) (in_map (λ (m : Signed ViewChange). m.body.low.0) n.changes v.0 v.1) in
            absurd (omega arith)
        | inr y ↦ (y.0, in_flat (λ (m : Signed ViewChange). m.body.certificates) n.changes v.0 y.0 v.1 y.1, y.2, y.3)
      ]

  -- ---- how a view was entered

  -- A replica entered the view by a valid NewView, at this point.
  pub record Entry (i view : ℕ) (acts : List Act) : Type 0 where
    pub act : Act
    pub early : List Act
    pub n : NewView
    pub point : IsEarlier (act ∷ early) acts
    pub is : ((m : Signed NewView) × (act ≡ Enter m) × (m.body ≡ n)) ⊎ ((to : Destination) × (m : Signed Body) × (act ≡ Send to m) × (m.body ≡ bodies.NewView n))
    pub view_is : n.view.0 ≡ view

  earlier_entry : (i view view' : ℕ) (a : Act) (acts : List Act) → view ≡ view' → Entry i view acts → Entry i view' (a ∷ acts)
  earlier_entry i view view' a acts same o = record { act = o.act; early = o.early; n = o.n; point = inr o.point; is = o.is; view_is = o.view_is ∙ same }

  pub entry_of : (i : ℕ) → IsCorrect c family.faulty i → (acts : List Act) → IsEarlier acts (family.acts i) → (core_at c family i acts).active ≡ true → 0 < (core_at c family i acts).view → Entry i (core_at c family i acts).view acts
  entry_of i correct [] h active above = absurd (omega arith)
  entry_of i correct (a ∷ acts) h active above =
      let is = history_at c i (family.signer i) (a ∷ acts) (family.acts i) h (u.histories i correct) in
      split a is.1 (low_reached c i (family.signer i) acts is.0) active above (entry_of i correct acts (before a acts (family.acts i) h)) where
        s : Core
        s = core_at c family i acts

        through : (a : Act) → (after c s a).view ≡ s.view → (after c s a).active ≡ s.active → (after c s a).active ≡ true → 0 < (after c s a).view → (s.active ≡ true → 0 < s.view → Entry i s.view acts) → Entry i (after c s a).view (a ∷ acts)
        through a view active is above rest = earlier_entry i s.view (after c s a).view a acts (sym view) (rest (sym active ∙ is) (subst (λ (v : ℕ). 0 < v) view above))

        sent : (to : Destination) (m : Signed Body) (b : Body) → m.body ≡ b → MaySay c i s b → (after c s (Send to m)).active ≡ true → 0 < (after c s (Send to m)).view → (s.active ≡ true → 0 < s.view → Entry i s.view acts) → Entry i (after c s (Send to m)).view (Send to m ∷ acts)
        sent to m (bodies.Request b) e says is above rest = absurd says
        sent to m (bodies.ViewChange b) e says is above rest = absurd (false≢true (sym (ap (λ (x : Body). (said c s m x).active) e) ∙ is))
        sent to m (bodies.NewView b) e says is above rest = record { act = Send to m; early = acts; n = b; point = inl refl; is = inr (to, m, refl, e); view_is = ap (λ (x : Body). (said c s m x).view) (sym e) }
        sent to m (bodies.Fetch b) e says is above rest = through (Send to m) (ap (λ (x : Body). (said c s m x).view) e ∙ (calm_said c s m (bodies.Fetch b) tt).0) (ap (λ (x : Body). (said c s m x).active) e ∙ (calm_said c s m (bodies.Fetch b) tt).1) is above rest
        sent to m _ e says is above rest = through (Send to m) (ap (λ (x : Body). (said c s m x).view) e) (ap (λ (x : Body). (said c s m x).active) e) is above rest

        split : (a : Act) → Allowed c i s a → s.low ≤ s.executed → (after c s a).active ≡ true → 0 < (after c s a).view → (s.active ≡ true → 0 < s.view → Entry i s.view acts) → Entry i (after c s a).view (a ∷ acts)
        split (Take m r) ok low is above rest = let k = calm c i s (Take m r) low ok tt in through (Take m r) k.0 k.1 is above rest
        split Timeout ok low is above rest = through Timeout refl refl is above rest
        split (Send to m) ok low is above rest = sent to m m.body refl ok.says is above rest
        split (Relay to m) ok low is above rest = through (Relay to m) refl refl is above rest
        split (Enter m) ok low is above rest = record { act = Enter m; early = acts; n = m.body; point = inl refl; is = inl (m, refl, refl); view_is = refl }
        split (Rise n d) ok low is above rest = through (Rise n d) refl refl is above rest
        split (Execute n d t o) ok low is above rest = through (Execute n d t o) refl refl is above rest
        split (Install n b t) ok low is above rest = through (Install n b t) refl refl is above rest

  -- what an entry gives
  pub record Enters (i : ℕ) (n : NewView) (early : List Act) (s : Core) : Type 0 where
    pub valid : is_valid_new_view c n ≡ true
    pub changes : (m : Signed ViewChange) → IsIn m n.changes → RealChange c family m
    pub leads : (q : Signed PrePrepare) → IsIn q n.pre_prepares → q.id ≡ i → q.role ≡ Replica → Led c family (IsCorrect c family.faulty) u.histories i (of_pre_prepare q.body)
    pub basis : Stage n.view.0 (EnteredBy n.changes) s
    pub view_now : s.view ≡ n.view.0
    pub low_is : s.low ≡ (core_at c family i early).low
    pub holds : (k : ℕ) → floor_of n.changes < k → k ≤ top_of n.changes → (core_at c family i early).low < k → k ≤ (core_at c family i early).low + span c.config
        → Stage n.view.0 (Holds k n.view.0 (primary c.config n.view.0) (given_digest c n.changes k)) s

  same_low : (s : Core) (view : ℕ) → (left_if_above c s view).low ≡ s.low
  same_low s view = elim (nat_lt s.view view) as (λ b. (cond b (left_for c s view) s).low ≡ s.low) [ true ↦ refl | false ↦ refl ]

  pub enters : (i view : ℕ) (acts : List Act) → IsCorrect c family.faulty i → IsEarlier acts (family.acts i) → (o : Entry i view acts) → Enters i o.n o.early (core_at c family i (o.act ∷ o.early))
  enters i view acts correct h o = elim o.is [
    | inl w ↦ by_enter w.0 (subst (λ (a : Act). IsEarlier (a ∷ o.early) (family.acts i)) w.1 at) o.n w.2 (core_at c family i (o.act ∷ o.early)) (ap (λ (a : Act). core_at c family i (a ∷ o.early)) w.1)
    | inr w ↦ by_send w.0 w.1 (subst (λ (a : Act). IsEarlier (a ∷ o.early) (family.acts i)) w.2 at) o.n w.3 (core_at c family i (o.act ∷ o.early)) (ap (λ (a : Act). core_at c family i (a ∷ o.early)) w.2)
  ] where
    at : IsEarlier (o.act ∷ o.early) (family.acts i)
    at = earlier_trans (o.act ∷ o.early) acts (family.acts i) o.point h

    s : Core
    s = core_at c family i o.early

    real : IsEarlier o.early (family.acts i) → RealCore c family s
    real k = real_core c family i correct u o.early k

    by_enter : (m : Signed NewView) → IsEarlier (Enter m ∷ o.early) (family.acts i) → (n : NewView) → m.body ≡ n → (t : Core) → t ≡ core_at c family i (Enter m ∷ o.early) → Enters i n o.early t
    by_enter m k n e t is = subst (λ (t : Core). Enters i n o.early t) (sym is) (subst (λ (n : NewView). Enters i n o.early (core_at c family i (Enter m ∷ o.early))) e
        (let ok = (history_at c i (family.signer i) (Enter m ∷ o.early) (family.acts i) k (u.histories i correct)).1 in
        let message = (real (before (Enter m) o.early (family.acts i) k)).6 (as_message bodies.NewView m) ok.taken in
        record {
          valid = ok.valid;
          changes = λ v within. real_change c family v (changes_in c family m.body m.role m.id m.sig message v within);
          leads = λ q within id role.
              let own = list_in c family m.body m.role m.id m.sig message q within role (subst (λ (j : ℕ). IsCorrect c family.faulty j) (sym id) correct) in
              led_from c family (IsCorrect c family.faulty) u.histories i q.body correct
              (subst (λ (r : Role). HasSigned (record { role = r; id = i; body = bodies.PrePrepare q.body }) (family.acts i)) role
              (subst (λ (j : ℕ). HasSigned (record { role = q.role; id = j; body = bodies.PrePrepare q.body }) (family.acts j)) id own));
          basis = inl (refl, refl, refl);
          view_now = refl;
          low_is = same_low s m.body.view.0;
          holds = λ j floor top low high. inl (refl, refl, entered_holds c s m.body (primary c.config m.body.view.0) j (valid_list c family (IsCorrect c family.faulty) u.histories m.body ok.valid) floor top low high);
        }))

    by_send : (to : Destination) (m : Signed Body) → IsEarlier (Send to m ∷ o.early) (family.acts i) → (n : NewView) → m.body ≡ bodies.NewView n → (t : Core) → t ≡ core_at c family i (Send to m ∷ o.early) → Enters i n o.early t
    by_send to m k n e t is =
        let ok = (history_at c i (family.signer i) (Send to m ∷ o.early) (family.acts i) k (u.histories i correct)).1 in
        let says : MaySay c i s (bodies.NewView n) = subst (λ (b : Body). MaySay c i s b) e ok.says in
        let w : Said c family i (bodies.NewView n) = record { early = o.early; to = to; message = m; point = k; body_is = e; says = says } in
        subst (λ (t : Core). Enters i n o.early t) (sym (is ∙ core_then c family (IsCorrect c family.faulty) u.histories i (bodies.NewView n) w))
        (record {
          valid = says.valid;
          changes = λ v within.
              let f = from_chosen c i s v (subst (λ (xs : List (Signed ViewChange)). IsIn v xs) (ap (λ (z : NewView). z.changes) says.is) within) in
              (real (before (Send to m) o.early (family.acts i) k)).5 (change_key s.view f.0) v f.1;
          leads = λ q within id role. (bodies.NewView n, w, inr (n, refl, (q, within, refl)));
          basis = inl (refl, refl, refl);
          view_now = refl;
          low_is = same_low s n.view.0;
          holds = λ j floor top low high. inl (refl, refl, entered_holds c s n (primary c.config n.view.0) j (valid_list c family (IsCorrect c family.faulty) u.histories n says.valid) floor top low high);
        })

  -- ---- after a Commit

  -- A valid NewView that was entered for the view, below the number, and whose list binds what was vouched for.
  pub record Opening (y : Fields) : Type 0 where
    pub n : NewView
    pub valid : is_valid_new_view c n ≡ true
    pub view_is : n.view.0 ≡ y.view
    pub changes : (m : Signed ViewChange) → IsIn m n.changes → RealChange c family m
    pub above : floor_of n.changes < y.number
    pub bound : y.number ≤ top_of n.changes → y.digest ≡ given_digest c n.changes y.number

  from_numbers : (many first n : ℕ) → IsIn n (numbers_from first many) → first ≤ n
  from_numbers zero first n h = absurd h
  from_numbers (suc many) first n (inl same) = omega arith
  from_numbers (suc many) first n (inr later) = let above = from_numbers many (first + 1) n later in omega arith

  given_above : (view : ℕ) (ms : List (Signed ViewChange)) (x : Fields) → IsIn x (given c view ms) → floor_of ms < x.number
  given_above view ms x h =
      let w = from_map (λ (number : ℕ). record { view = view; number = number; digest = given_digest c ms number }) (given_numbers ms) x h in
      let same : x.number ≡ w.0 = ap (λ (f : Fields). f.number) w.2 in
      let above = from_numbers (top_of ms - floor_of ms) (floor_of ms + 1) w.0 w.1 in
      omega arith

  stage_is : (view : ℕ) (X : Core → Type 0) (s : Core) → s.view ≡ view → Stage view X s → X s
  stage_is view X s same (inl w) = w.2
  stage_is view X s same (inr higher) = absurd (omega arith)

  -- the low mark as a view is entered that is higher than that of a Commit
  commit_before : (i : ℕ) (x : Fields) → IsCorrect c family.faulty i → (b : Commit) (w : Said c family i (bodies.Commit b)) → of_commit b ≡ x → (view : ℕ) (acts : List Act) → IsEarlier acts (family.acts i) → (o : Entry i view acts) → x.view < view
      → (core_at c family i (o.act ∷ o.early)).view ≡ view → x.number ≤ (core_at c family i o.early).low + span c.config
  commit_before i x correct b w is view acts h o higher at_view =
      let point = earlier_trans (o.act ∷ o.early) acts (family.acts i) o.point h in
      let view_is : b.view.0 ≡ (core_at c family i w.early).view = w.says.inside.view_is in
      let same : b.view.0 ≡ x.view = ap (λ (f : Fields). f.view) is in
      elim (in_order (Send w.to w.message ∷ w.early) (o.act ∷ o.early) (family.acts i) w.point point) [
        | inl (inl equal) ↦ absurd (no_commit equal o.is)
        | inl (inr k) ↦ (remembers_at i x correct b w is o.early k (before o.act o.early (family.acts i) point)).0
        | inr (inl equal) ↦ absurd (no_commit (sym equal) o.is)
        | inr (inr k) ↦
            let below = above_at i view correct (o.act ∷ o.early) w.early k (before (Send w.to w.message) w.early (family.acts i) w.point) (omega arith) in
            absurd (omega arith)
      ] where
        no_commit : Send w.to w.message ∷ w.early ≡ o.act ∷ o.early → ((m : Signed NewView) × (o.act ≡ Enter m) × (m.body ≡ o.n)) ⊎ ((to : Destination) × (m : Signed Body) × (o.act ≡ Send to m) × (m.body ≡ bodies.NewView o.n)) → ⊥
        no_commit e (inl (m, act, body)) = let both : Send w.to w.message ≡ Enter m = (let q : Send w.to w.message ≡ o.act = cc in q ∙ act) in cc
        no_commit e (inr (to, m, act, body)) =
            let both : Send w.to w.message ≡ Send to m = (let q : Send w.to w.message ≡ o.act = cc in q ∙ act) in
            let one : w.message ≡ m = cc in
            let clash : bodies.Commit b ≡ bodies.NewView o.n = sym w.body_is ∙ ap (λ (x : Signed Body). x.body) one ∙ body in
            cc

  -- what is known at a point inside the active view
  record Since (i view number : ℕ) (acts : List Act) : Type 0 where
    pub o : Entry i view acts
    pub enter : Enters i o.n o.early (core_at c family i (o.act ∷ o.early))
    pub floor : floor_of o.n.changes < number

  since : (i : ℕ) → IsCorrect c family.faulty i → (acts : List Act) → IsEarlier acts (family.acts i) → (view number : ℕ) → IsInside c (core_at c family i acts) view number → 0 < view → Since i (core_at c family i acts).view number acts
  since i correct acts h view number inside above =
      let s = core_at c family i acts in
      let o = entry_of i correct acts h inside.active (subst (λ (v : ℕ). 0 < v) inside.view_is above) in
      let enter = enters i s.view acts correct h o in
      let basis = stage_is o.n.view.0 (EnteredBy o.n.changes) s (sym o.view_is) (later c family (IsCorrect c family.faulty) u.histories i o.n.view.0 (EnteredBy o.n.changes) (basis_keeps c o.n.changes) correct (o.act ∷ o.early) acts o.point h enter.basis) in
      record { o = o; enter = enter; floor = subst (λ (ms : List (Signed ViewChange)). floor_of ms < number) basis inside.above_floor }

  -- a Prepare follows what is recorded
  bound_by : (i : ℕ) (s : Core) (n : NewView) (p : Prepare) → MaySay c i s (bodies.Prepare p) → n.view.0 ≡ p.view.0 → Holds p.number.0 n.view.0 (primary c.config n.view.0) (given_digest c n.changes p.number.0) s
      → p.digest.0 ≡ given_digest c n.changes p.number.0
  bound_by i s n p says view (inl below) = let above = says.inside.above_low in absurd (omega arith)
  bound_by i s n p says view (inr (m, found, digest)) =
      let w = voted_is of_pre_prepare s.pre_prepares (of_prepare p) (primary c.config p.view.0) says.proposed in
      let found' : at s.pre_prepares (vote_key p.number.0 p.view.0 (primary c.config p.view.0)) ≡ Some m = subst (λ (v : ℕ). at s.pre_prepares (vote_key p.number.0 v (primary c.config v)) ≡ Some m) view found in
      let same : w.0 ≡ m = same_Some w.0 m (sym w.1 ∙ found') in
      let fields = fields_are (of_pre_prepare w.0.body) (of_prepare p) ((by_is (primary c.config p.view.0) (λ b. same_fields (of_pre_prepare b) (of_prepare p)) w.0 w.2).2) in
      ap (λ (f : Fields). f.digest) (sym fields) ∙ ap (λ (x : Signed PrePrepare). x.body.digest.0) same ∙ digest

  followed_after : (i : ℕ) (x : Fields) (p : Prepare) → IsCorrect c family.faulty i → CommittedTo c family (IsCorrect c family.faulty) u.histories i x → Said c family i (bodies.Prepare p) → x.view < p.view.0 → x.number ≡ p.number.0 → Opening (of_prepare p)
  followed_after i x p correct (b, w, is) v higher number =
      let s = core_at c family i v.early in
      let inside = v.says.inside in
      let early = before (Send v.to v.message) v.early (family.acts i) v.point in
      let k = since i correct v.early early p.view.0 p.number.0 inside (omega arith) in
      let o = k.o in
      let enter = k.enter in
      let floor = k.floor in
      let view_at : (core_at c family i (o.act ∷ o.early)).view ≡ s.view = enter.view_now ∙ o.view_is in
      let view_is : p.view.0 ≡ s.view = inside.view_is in
      let high = commit_before i x correct b w is s.view v.early early o (omega arith) view_at in
      let low_here = low_at i (core_at c family i (o.act ∷ o.early)).low correct (o.act ∷ o.early) v.early o.point early (omega arith) in
      let low_is = enter.low_is in
      let above_low = inside.above_low in
      record {
        n = o.n;
        valid = enter.valid;
        view_is = o.view_is ∙ sym view_is;
        changes = enter.changes;
        above = floor;
        bound = λ top. bound_by i s o.n p v.says (o.view_is ∙ sym view_is)
            (stage_is o.n.view.0 (Holds p.number.0 o.n.view.0 (primary c.config o.n.view.0) (given_digest c o.n.changes p.number.0)) s (sym o.view_is)
            (later c family (IsCorrect c family.faulty) u.histories i o.n.view.0 (Holds p.number.0 o.n.view.0 (primary c.config o.n.view.0) (given_digest c o.n.changes p.number.0)) (holds_keeps c p.number.0 o.n.view.0 (primary c.config o.n.view.0) (given_digest c o.n.changes p.number.0)) correct
            (o.act ∷ o.early) v.early o.point early (enter.holds p.number.0 floor top (omega arith) (omega arith))));
      }

  -- what the list of an entered NewView has at a number, its primary signed
  list_led : (i view : ℕ) (acts : List Act) (o : Entry i view acts) → Enters i o.n o.early (core_at c family i (o.act ∷ o.early)) → (primary c.config view == i) ≡ true → (n : ℕ) → floor_of o.n.changes < n → n ≤ top_of o.n.changes
      → Led c family (IsCorrect c family.faulty) u.histories i (record { view = o.n.view.0; number = n; digest = given_digest c o.n.changes n })
  list_led i view acts o enter leads n floor top =
      let w = one_given (primary c.config o.n.view.0) (given c o.n.view.0 o.n.changes) o.n.pre_prepares (record { view = o.n.view.0; number = n; digest = given_digest c o.n.changes n })
      (valid_list c family (IsCorrect c family.faulty) u.histories o.n enter.valid) (given_at c o.n.view.0 o.n.changes n floor top) in
      let g = given_role (primary c.config o.n.view.0) (given c o.n.view.0 o.n.changes) o.n.pre_prepares w.0 (valid_list c family (IsCorrect c family.faulty) u.histories o.n enter.valid) w.1 in
      let me : primary c.config o.n.view.0 ≡ i = ap (primary c.config) o.view_is ∙ eqb-true _ _ leads in
      subst (λ (f : Fields). Led c family (IsCorrect c family.faulty) u.histories i f) w.2 (enter.leads w.0 w.1 (g.1 ∙ me) g.0)

  proposed_after : (i : ℕ) (x : Fields) (p : PrePrepare) → IsCorrect c family.faulty i → Said c family i (bodies.PrePrepare p) → x.view < p.view.0 → x.number ≡ p.number.0 → Opening (of_pre_prepare p)
  proposed_after i x p correct v higher number =
      let s = core_at c family i v.early in
      let inside = v.says.inside in
      let early = before (Send v.to v.message) v.early (family.acts i) v.point in
      let k = since i correct v.early early p.view.0 p.number.0 inside (omega arith) in
      let o = k.o in
      let floor = k.floor in
      let view_is : o.n.view.0 ≡ p.view.0 = o.view_is ∙ sym inside.view_is in
      record {
        n = o.n;
        valid = k.enter.valid;
        view_is = view_is;
        changes = k.enter.changes;
        above = floor;
        bound = λ top.
            let one = led_one c family (IsCorrect c family.faulty) u.histories i (of_pre_prepare p) (record { view = o.n.view.0; number = p.number.0; digest = given_digest c o.n.changes p.number.0 }) correct
            (bodies.PrePrepare p, v, inl (p, refl, refl)) (list_led i s.view v.early o k.enter v.says.leads p.number.0 floor top) (sym view_is) refl in
            ap (λ (f : Fields). f.digest) one;
      }

  listed_after : (i : ℕ) (y : Fields) (n : NewView) (q : Signed PrePrepare) → IsCorrect c family.faulty i → Said c family i (bodies.NewView n) → IsIn q n.pre_prepares → of_pre_prepare q.body ≡ y → Opening y
  listed_after i y n q correct w within is =
      let s = core_at c family i w.early in
      let f = listed_fields c family (IsCorrect c family.faulty) u.histories n q y w.says.valid within is in
      let g = given_one (primary c.config n.view.0) (given c n.view.0 n.changes) n.pre_prepares q (valid_list c family (IsCorrect c family.faulty) u.histories n w.says.valid) within in
      let above = given_above n.view.0 n.changes g.0 g.1 in
      let number : g.0.number ≡ y.number = ap (λ (z : Fields). z.number) (sym g.2 ∙ is) in
      record {
        n = n;
        valid = w.says.valid;
        view_is = sym f.0;
        above = omega arith;
        bound = λ top. f.1;
        changes = λ v inside.
            let k = from_chosen c i s v (subst (λ (xs : List (Signed ViewChange)). IsIn v xs) (ap (λ (z : NewView). z.changes) w.says.is) inside) in
            (real_core c family i correct u w.early (before (Send w.to w.message) w.early (family.acts i) w.point)).5 (change_key s.view k.0) v k.1;
      }

  pub after_commit : (i : ℕ) (x y : Fields) → IsCorrect c family.faulty i → CommittedTo c family (IsCorrect c family.faulty) u.histories i x → Vouched c family (IsCorrect c family.faulty) u.histories i y → x.view < y.view → x.number ≡ y.number → Opening y
  after_commit i x y correct k (inr (p, v, is)) higher number =
      subst (λ (f : Fields). Opening f) is (followed_after i x p correct k v (subst (λ (f : Fields). x.view < f.view) (sym is) higher) (number ∙ ap (λ (f : Fields). f.number) (sym is)))
  after_commit i x y correct k (inl (body, v, inl (p, e, is))) higher number =
      subst (λ (f : Fields). Opening f) is (proposed_after i x p correct (subst (λ (b : Body). Said c family i b) e v) (subst (λ (f : Fields). x.view < f.view) (sym is) higher) (number ∙ ap (λ (f : Fields). f.number) (sym is)))
  after_commit i x y correct k (inl (body, v, inr (n, e, (q, within, is)))) higher number = listed_after i y n q correct (subst (λ (b : Body). Said c family i b) e v) within is

  -- ---- the heart: what is committed is what every later certificate is for

  pub committed_only : (bound : ℕ) (x y : Fields) → Committing x → Certain y → y.view < bound → x.view ≤ y.view → x.number ≡ y.number → x.digest ≡ y.digest
  committed_only zero x y k certain below above number = absurd (omega arith)
  committed_only (suc bound) x y k certain below above number =
      split (cases_lt x.view y.view) (λ z sure less more same. committed_only bound x z k sure less more same) where
        split : (x.view < y.view) ⊎ (y.view ≤ x.view) → ((z : Fields) → Certain z → z.view < bound → x.view ≤ z.view → x.number ≡ z.number → x.digest ≡ z.digest) → x.digest ≡ y.digest
        split (inr same) rest =
            let w = quorum_has c.config.f (replicas c.config) k.voters family.faulty k.many u.few in
            let correct : IsCorrect c family.faulty w.0 = (w.1, w.3) in
            let (b, v, is) = k.commit w.0 correct w.2 in
            let parts = and_parts (is_certified c (core_at c family w.0 v.early) (of_commit b)) (is_known c (core_at c family w.0 v.early) b.digest.0) v.says.prepared in
            let own : Certain x = subst (λ (f : Fields). Certain f) is (certain_at w.0 correct v.early (before (Send v.to v.message) v.early (family.acts w.0) v.point) (of_commit b) parts.0) in
            ap (λ (f : Fields). f.digest) (one_certain x y own certain (omega arith) number)
        split (inl higher) rest =
            let w = quorums_meet c.config.f (replicas c.config) k.voters certain.voters family.faulty refl k.many certain.many u.few in
            let correct : IsCorrect c family.faulty w.0 = (w.1, w.4) in
            let o = after_commit w.0 x y correct (k.commit w.0 correct w.2) (certain.vouch w.0 correct w.3) higher number in
            let view_is = o.view_is in
            let above_floor = o.above in
            let z = carried x o.n k o.valid o.changes (omega arith) (omega arith) in
            let h = highest_above x.number (certificates_in o.n.changes) z.0 z.1 z.2 in
            let m = from_certificates o.n.changes h.0 h.2 in
            let fits = certificate_in o.n m.0 h.0 o.valid m.1 m.2 in
            let lower = fits.1 in
            let more = z.3 in
            let higher_still = h.4 in
            let digest = rest (of_pre_prepare h.0.pre_prepare.body) (certain_nested h.0 fits.0 ((o.changes m.0 m.1).certificates h.0 m.2)) (omega arith) (omega arith) (sym h.3) in
            let top = below_top o.n.changes m.0 h.0 m.1 m.2 in
            let number_is = h.3 in
            let given_is : given_digest c o.n.changes x.number ≡ h.0.pre_prepare.body.digest.0 = ap (digest_or_null c) h.1 in
            digest ∙ sym given_is ∙ ap (given_digest c o.n.changes) number ∙ sym (o.bound (omega arith))

  -- ---- agreement

  committed_parts : (i view number : ℕ) (digest : List ℕ) (w : HasCommitted c family i view number digest) → Certain (record { view = view; number = number; digest = digest }) × Committing (record { view = view; number = number; digest = digest })
  committed_parts i view number digest w =
      let x : Fields = record { view = view; number = number; digest = digest } in
      let s = core_at c family i w.acts in
      let a = and_parts (is_prepared c s x) (has_quorum c.config (voted of_commit s.commits x)) w.committed in
      let b = and_parts (is_certified c s x) (is_known c s digest) a.0 in
      (certain_at i w.correct w.acts w.earlier x b.0, committing_at i w.correct w.acts w.earlier x a.1)

  pub agrees_by_view : AgreesByView c family
  agrees_by_view i j view view' number digest digest' w w' =
      let a = committed_parts i view number digest w in
      let b = committed_parts j view' number digest' w' in
      let x : Fields = record { view = view; number = number; digest = digest } in
      let y : Fields = record { view = view'; number = number; digest = digest' } in
      elim (cases_lt view view') [
        | inl less ↦ committed_only (suc view') x y a.1 b.0 (omega arith) (omega arith) refl
        | inr more ↦ sym (committed_only (suc view) y x b.1 a.0 (omega arith) (omega arith) refl)
      ]
