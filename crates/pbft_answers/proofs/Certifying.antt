-- In view 0 under a correct primary what is recorded of correct replicas has the primary's digest, so that what all of them said
-- is certified and committed.
use Rattle.std.proofs.Common.{◌≡◌, ◌⊎◌, ℕ, ◌+◌, ◌*◌, ◌<◌, ◌≤◌, Bool, true, false, ◌&&◌, List, [], ◌∷◌, Option, Some, refl, sym, ap, subst, ◌∙◌, arith, inl, inr}
use Rattle.std.specs.Prelude.{nat_le, not, slice_index, ◌==◌}
use Rattle.std.proofs.lemmas.Bool.{and_parts, and_from, eq-eqb, le-leb}
use Rattle.pbft_model.specs.Words.{Signed, Body, PrePrepare, Prepare, Commit, Role, Replica, part_of}
use Rattle.pbft_codec.specs.declared.body.Body.TheVariants as bodies
use Rattle.pbft_model.specs.Setup.{Setup, primary, replicas, quorum, count}
use Rattle.pbft_model.specs.Tables.{Key, Table, at, vote_key, first_in, view_in}
use Rattle.pbft_model.specs.Certificates.{Fields, of_pre_prepare, of_prepare, of_commit, same_fields, is_by, some_by, voted, certified, has_quorum}
use Rattle.pbft_model.specs.Core.{Core, has_position, is_certified, is_known, is_prepared, pre_prepare_at}
use Rattle.pbft_model.specs.Acts.{Act, Send}
use Rattle.pbft_model.specs.Histories.{core_after, IsEarlier, HasSigned}
use Rattle.pbft_model.specs.Families.{IsCorrect}
use Rattle.pbft_agreement.specs.Journals.{Journals, IsHonestFamily}
use Rattle.pbft_progress.specs.Progress.{EachEnds}
use Rattle.pbft_model.proofs.Found.{passes}
use Rattle.pbft_model.proofs.Events.{before, history_at}
use Rattle.pbft_model.proofs.Made.{same_self}
use Rattle.pbft_model.proofs.Stages.{by_is, is_by_from, fields_are, voted_is}
use Rattle.pbft_model.proofs.Real.{real_core}
use Rattle.pbft_model.proofs.Voices.{Led, led_one, led_from, Said, prepare_said, commit_said}
use Rattle.pbft_model.proofs.ByView.{signed_real}
use Rattle.pbft_progress.proofs.Duties.{by_from}
use Rattle.pbft_answers.proofs.Counts.{many_right, many_beside}
use Rattle.pbft_answers.proofs.FirstView.{First, shapes}
use Rattle.pbft_answers.proofs.Kin.{family, told, unforged}
use Rattle.pbft_answers.proofs.Speaking.{first_then}

-- what is voted as a PrePrepare stands where it is looked for
pub proposal_at : (c : Setup) (s : Core) (x : Fields) → x.view ≡ s.view → voted of_pre_prepare s.pre_prepares x (primary c.config x.view) ≡ true
    → (m : Signed PrePrepare) × (pre_prepare_at c s s.view x.number ≡ Some m) × (of_pre_prepare m.body ≡ x)
proposal_at c s x view e =
    let w = voted_is of_pre_prepare s.pre_prepares x (primary c.config x.view) e in
    let by = by_is (primary c.config x.view) (λ b. same_fields (of_pre_prepare b) x) w.0 w.2 in
    let same = fields_are (of_pre_prepare w.0.body) x by.2 in
    let at_position : is_by (primary c.config x.view) (has_position x.view x.number) w.0 ≡ true =
    is_by_from (primary c.config x.view) (λ b. same_fields (of_pre_prepare b) x) (has_position x.view x.number) w.0
    (λ _. and_from _ _ (eq-eqb _ _ (ap (λ (y : Fields). y.view) same)) (eq-eqb _ _ (ap (λ (y : Fields). y.number) same))) w.2 in
    let found : pre_prepare_at c s x.view x.number ≡ Some w.0 = passes (is_by (primary c.config x.view) (has_position x.view x.number)) (at s.pre_prepares (vote_key x.number x.view (primary c.config x.view))) w.0 w.1 at_position in
    (w.0, subst (λ (v : ℕ). pre_prepare_at c s v x.number ≡ Some w.0) view found, same)

abbrev pub signer_in : Key → ℕ
signer_in key = slice_index key 2

-- a vote of these fields that stands in its place counts
counts : {B : Type 0} (of : B → Fields) (votes : Table (Signed B)) (x : Fields) (k : ℕ) (y : Signed B) → at votes (vote_key x.number x.view k) ≡ Some y → y.role ≡ Replica → y.id ≡ k → of y.body ≡ x → voted of votes x k ≡ true
counts {B} of votes x k y found role id same =
    subst (λ (o : Option (Signed B)). some_by k (λ b. same_fields (of b) x) o ≡ true) (sym found)
    (by_from k (λ b. same_fields (of b) x) y role id (subst (λ (z : Fields). same_fields z x ≡ true) (sym same) (same_self x)))

module _ (c : Setup) (j : Journals) (h : IsHonestFamily c j) (first : EachEnds c j (λ i s. s.view ≡ 0)) (leader : IsCorrect c j.faulty (primary c.config 0)) where
  abbrev pub the_leader : ℕ
  the_leader = primary c.config 0

  abbrev pub core_then : ℕ → List Act → Core
  core_then i acts = core_after c (j.signer i) acts

  abbrev pub IsPoint : ℕ → List Act → Type 0
  IsPoint i acts = IsEarlier acts ((family c j h).acts i)

  -- the leader proposed it
  abbrev pub Proposed : Fields → Type 0
  Proposed x = Led c (family c j h) (IsCorrect c j.faulty) (unforged c j h).histories the_leader x

  -- the leader's proposals are one for each number
  pub one_proposal : (x y : Fields) → Proposed x → Proposed y → x.view ≡ y.view → x.number ≡ y.number → x ≡ y
  one_proposal x y = led_one c (family c j h) (IsCorrect c j.faulty) (unforged c j h).histories the_leader x y leader

  -- a PrePrepare of view 0 that is voted at a correct replica is the leader's
  pub voted_proposed : (i : ℕ) → IsCorrect c j.faulty i → (acts : List Act) → IsPoint i acts → (x : Fields) → x.view ≡ 0 → voted of_pre_prepare (core_then i acts).pre_prepares x (primary c.config x.view) ≡ true → Proposed x
  voted_proposed i correct acts at x view e =
      let lead = primary c.config x.view in
      let is_leader : lead ≡ the_leader = ap (primary c.config) view in
      let right : IsCorrect c j.faulty lead = subst (IsCorrect c j.faulty) (sym is_leader) leader in
      let w = voted_is of_pre_prepare (core_then i acts).pre_prepares x lead e in
      let by = by_is lead (λ b. same_fields (of_pre_prepare b) x) w.0 w.2 in
      let real = (real_core c (family c j h) i correct (unforged c j h) acts at).0 (vote_key x.number x.view lead) w.0 w.1 in
      let signed = signed_real c (family c j h) (unforged c j h) bodies.PrePrepare lead (λ b. same_fields (of_pre_prepare b) x) w.0 w.2 real right in
      let led = led_from c (family c j h) (IsCorrect c j.faulty) (unforged c j h).histories lead w.0.body right signed in
      subst Proposed (fields_are (of_pre_prepare w.0.body) x by.2) (subst (λ (k : ℕ). Led c (family c j h) (IsCorrect c j.faulty) (unforged c j h).histories k (of_pre_prepare w.0.body)) is_leader led)

  pub certified_proposed : (i : ℕ) → IsCorrect c j.faulty i → (acts : List Act) → IsPoint i acts → (x : Fields) → x.view ≡ 0 → is_certified c (core_then i acts) x ≡ true → Proposed x
  certified_proposed i correct acts at x view e =
      voted_proposed i correct acts at x view
      ((and_parts (voted of_pre_prepare (core_then i acts).pre_prepares x (primary c.config x.view)) (nat_le (2 * c.config.f) (count (λ k. not (k == primary c.config x.view) && voted of_prepare (core_then i acts).prepares x k) (replicas c.config))) e).0)

  pub prepared_proposed : (i : ℕ) → IsCorrect c j.faulty i → (acts : List Act) → IsPoint i acts → (x : Fields) → x.view ≡ 0 → is_prepared c (core_then i acts) x ≡ true → Proposed x
  prepared_proposed i correct acts at x view e = certified_proposed i correct acts at x view ((and_parts (is_certified c (core_then i acts) x) (is_known c (core_then i acts) x.digest) e).0)

  view_is : (i : ℕ) → IsCorrect c j.faulty i → (acts : List Act) → IsPoint i acts → (v : ℕ) → v ≡ (core_then i acts).view → v ≡ 0
  view_is i correct acts at v e = e ∙ (first_then c j h first i correct acts at).0

  -- ---- what a correct replica said for a number is what the leader proposed

  prepare_proposed : (k : ℕ) → IsCorrect c j.faulty k → (b : Prepare) → Said c (family c j h) k (bodies.Prepare b) → Proposed (of_prepare b)
  prepare_proposed k right b w =
      let at = before (Send w.to w.message) w.early ((family c j h).acts k) w.point in
      voted_proposed k right w.early at (of_prepare b) (view_is k right w.early at b.view.0 w.says.inside.view_is) w.says.proposed

  commit_proposed : (k : ℕ) → IsCorrect c j.faulty k → (b : Commit) → Said c (family c j h) k (bodies.Commit b) → Proposed (of_commit b)
  commit_proposed k right b w =
      let at = before (Send w.to w.message) w.early ((family c j h).acts k) w.point in
      prepared_proposed k right w.early at (of_commit b) (view_is k right w.early at b.view.0 w.says.inside.view_is) w.says.prepared

  -- ---- what stands in a correct replica's place counts

  module _ (x : Fields) (view : x.view ≡ 0) (proposed : Proposed x) (i : ℕ) (correct : IsCorrect c j.faulty i) (acts : List Act) (point : IsPoint i acts) where
    shaped_here : First (core_then i acts)
    shaped_here = first_then c j h first i correct acts point

    place_is : {B : Type 0} (of : B → Fields) (k : ℕ) (y : Signed B) → vote_key x.number x.view k ≡ vote_key (of y.body).number (of y.body).view y.id → (y.id ≡ k) × (x.view ≡ (of y.body).view) × (x.number ≡ (of y.body).number)
    place_is of k y e = (sym (ap signer_in e), ap view_in e, ap first_in e)

    pub pre_prepare_counts : (y : Signed PrePrepare) → at (core_then i acts).pre_prepares (vote_key x.number x.view the_leader) ≡ Some y → voted of_pre_prepare (core_then i acts).pre_prepares x the_leader ≡ true
    pre_prepare_counts y found =
        let shape = (shapes c i (j.signer i) acts (history_at c i (j.signer i) acts ((family c j h).acts i) point (told c j h i correct).is) shaped_here.0).0 (vote_key x.number x.view the_leader) y found in
        let place = place_is of_pre_prepare the_leader y shape.0 in
        let real = (real_core c (family c j h) i correct (unforged c j h) acts point).0 (vote_key x.number x.view the_leader) y found in
        let by = by_from the_leader (λ (b : PrePrepare). true) y shape.1 place.0 refl in
        let led = led_from c (family c j h) (IsCorrect c j.faulty) (unforged c j h).histories the_leader y.body leader (signed_real c (family c j h) (unforged c j h) bodies.PrePrepare the_leader (λ b. true) y by real leader) in
        counts of_pre_prepare (core_then i acts).pre_prepares x the_leader y found shape.1 place.0 (one_proposal (of_pre_prepare y.body) x led proposed (sym place.1) (sym place.2))

    pub prepare_counts : (k : ℕ) → IsCorrect c j.faulty k → (y : Signed Prepare) → at (core_then i acts).prepares (vote_key x.number x.view k) ≡ Some y → voted of_prepare (core_then i acts).prepares x k ≡ true
    prepare_counts k right y found =
        let shape = (shapes c i (j.signer i) acts (history_at c i (j.signer i) acts ((family c j h).acts i) point (told c j h i correct).is) shaped_here.0).1 (vote_key x.number x.view k) y found in
        let place = place_is of_prepare k y shape.0 in
        let real = (real_core c (family c j h) i correct (unforged c j h) acts point).1 (vote_key x.number x.view k) y found in
        let by = by_from k (λ (b : Prepare). true) y shape.1 place.0 refl in
        let said = prepare_said c (family c j h) (IsCorrect c j.faulty) (unforged c j h).histories k y.body right (signed_real c (family c j h) (unforged c j h) bodies.Prepare k (λ b. true) y by real right) in
        counts of_prepare (core_then i acts).prepares x k y found shape.1 place.0 (one_proposal (of_prepare y.body) x (prepare_proposed k right y.body said) proposed (sym place.1) (sym place.2))

    pub commit_counts : (k : ℕ) → IsCorrect c j.faulty k → (y : Signed Commit) → at (core_then i acts).commits (vote_key x.number x.view k) ≡ Some y → voted of_commit (core_then i acts).commits x k ≡ true
    commit_counts k right y found =
        let shape = (shapes c i (j.signer i) acts (history_at c i (j.signer i) acts ((family c j h).acts i) point (told c j h i correct).is) shaped_here.0).2 (vote_key x.number x.view k) y found in
        let place = place_is of_commit k y shape.0 in
        let real = (real_core c (family c j h) i correct (unforged c j h) acts point).2 (vote_key x.number x.view k) y found in
        let by = by_from k (λ (b : Commit). true) y shape.1 place.0 refl in
        let said = commit_said c (family c j h) (IsCorrect c j.faulty) (unforged c j h).histories k y.body right (signed_real c (family c j h) (unforged c j h) bodies.Commit k (λ b. true) y by real right) in
        counts of_commit (core_then i acts).commits x k y found shape.1 place.0 (one_proposal (of_commit y.body) x (commit_proposed k right y.body said) proposed (sym place.1) (sym place.2))

    -- ---- of all correct replicas

    pub all_certify : voted of_pre_prepare (core_then i acts).pre_prepares x the_leader ≡ true
        → ((k : ℕ) → IsCorrect c j.faulty k → (k ≡ the_leader → ⊥) → voted of_prepare (core_then i acts).prepares x k ≡ true) → is_certified c (core_then i acts) x ≡ true
    all_certify pre each =
        let s = core_then i acts in
        let many = many_beside c.config.f (replicas c.config) the_leader j.faulty (voted of_prepare s.prepares x) refl h.few (λ k below right other. each k (below, right) other) in
        subst (λ (v : ℕ). certified c.config (voted of_pre_prepare s.pre_prepares x) (voted of_prepare s.prepares x) v ≡ true) (sym view)
        (and_from (voted of_pre_prepare s.pre_prepares x the_leader) (nat_le (2 * c.config.f) (count (λ k. not (k == the_leader) && voted of_prepare s.prepares x k) (replicas c.config))) pre
        (le-leb (2 * c.config.f) (count (λ k. not (k == the_leader) && voted of_prepare s.prepares x k) (replicas c.config)) many))

    pub all_commit : ((k : ℕ) → IsCorrect c j.faulty k → voted of_commit (core_then i acts).commits x k ≡ true) → has_quorum c.config (voted of_commit (core_then i acts).commits x) ≡ true
    all_commit each =
        let s = core_then i acts in
        let many = many_right c.config.f (replicas c.config) j.faulty (voted of_commit s.commits x) refl h.few (λ k below right. each k (below, right)) in
        le-leb (quorum c.config) (count (voted of_commit s.commits x) (replicas c.config)) many
