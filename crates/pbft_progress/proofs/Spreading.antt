-- An honest drained family: ViewChanges and NewViews that one correct replica gives come to the others, and a valid NewView
-- has ViewChanges of more correct replicas than may be faulty.
use Rattle.std.proofs.Common.{◌≡◌, ℕ, ◌<◌, Bool, true, ◌&&◌, map, refl, sym, ap, subst, ◌∙◌, arith, inl, inr}
use Rattle.std.specs.Prelude.{not, IsTrue, ◌==◌}
use Rattle.std.specs.List.{list_all, flat_map}
use Rattle.std.proofs.lemmas.Bool.{and_parts, eqb-true, leb-true, not-true}
use Rattle.pbft_model.specs.Words.{Configuration, Signed, Body, ViewChange, NewView, Role, Replica, Client, Part, part_of, as_message, messages_in}
use Rattle.pbft_codec.specs.declared.body.Body.TheVariants as bodies
use Rattle.seal.specs.Parts.{with_nested}
use Rattle.seal.specs.Signers.{may_sign}
use Rattle.pbft_model.specs.Setup.{Setup, replicas, quorum, primary, count}
use Rattle.pbft_model.specs.Certificates.{is_by, has_quorum}
use Rattle.pbft_model.specs.Validity.{is_valid_new_view, are_for_view, have_proofs, have_certificates, have_order, has_proof, has_view, bodies_in, changed_by}
use Rattle.pbft_model.specs.Core.{Core, start_of}
use Rattle.pbft_model.specs.Acts.{All}
use Rattle.pbft_model.specs.Rows.{Row, Output}
use Rattle.pbft_model.specs.Histories.{IsIn}
use Rattle.pbft_model.specs.Families.{IsCorrect}
use Rattle.pbft_agreement.specs.Journals.{Journals, HasReceived, HasGiven, ComesTo, IsHonestFamily}
use Rattle.pbft_progress.specs.Progress.{IsFor, IsDrained, Enough}
use Rattle.pbft_model.proofs.Found.{in_any, in_all, in_map, in_flat, in_append_left}
use Rattle.pbft_model.proofs.Holdings.{taken_opened}
use Rattle.pbft_model.proofs.Stages.{by_is}
use Rattle.pbft_progress.proofs.Telling.{GoesRight, rows_tell}
use Rattle.pbft_progress.proofs.Lives.{Life, life}
use Rattle.pbft_progress.proofs.Standing.{HasFollowed, change_alone, opening_alone, change_uttered}
use Rattle.pbft_progress.proofs.Duties.{count_outside}

-- the parts of a valid NewView that this needs
for_view : (c : Setup) (n : NewView) → is_valid_new_view c n ≡ true → are_for_view n ≡ true
for_view c n e = (and_parts (are_for_view n) (have_proofs c n && (have_certificates c n && have_order c n)) e).0

by_quorum : (c : Setup) (n : NewView) → is_valid_new_view c n ≡ true → has_quorum c.config (changed_by n.changes) ≡ true
by_quorum c n e =
    let rest = (and_parts (are_for_view n) (have_proofs c n && (have_certificates c n && have_order c n)) e).1 in
    let proofs = (and_parts (have_proofs c n) (have_certificates c n && have_order c n) rest).0 in
    let lengths = (and_parts (list_all (has_proof c) (bodies_in n.changes)) _ proofs).1 in
    (and_parts _ (has_quorum c.config (changed_by n.changes)) lengths).1

-- a NewView's signer is the view's primary
opening_by : (c : Configuration) (r : Role) (id : ℕ) (n : NewView) → IsTrue (may_sign c r id (bodies.NewView n)) → (r ≡ Replica) × (primary c n.view.0 ≡ id)
opening_by c Replica id n h = (refl, eqb-true (primary c n.view.0) id h)
opening_by c Client id n h = absurd cc

-- A correct replica has given a ViewChange for the view, or a NewView.
abbrev pub Changed : Journals → ℕ → ℕ → Type 0
Changed j view i = (p : Part) × (b : ViewChange) × HasGiven p (j.rows i) × (p.body ≡ bodies.ViewChange b) × (b.view.0 ≡ view)

abbrev pub Opened : Journals → ℕ → ℕ → Type 0
Opened j view i = (p : Part) × (n : NewView) × HasGiven p (j.rows i) × (p.body ≡ bodies.NewView n) × (n.view.0 ≡ view)

-- The core that a correct replica has come to, and the history behind it.
pub record Ended (c : Setup) (j : Journals) (i : ℕ) : Type 0 where
  pub core : Core
  pub comes : ComesTo c j i (j.rows i) core
  pub history : Life c i (j.signer i) (j.rows i) core

module _ (c : Setup) (j : Journals) (h : IsHonestFamily c j) where
  pub ended : (i : ℕ) → IsCorrect c j.faulty i → Ended c j i
  ended i correct = let w = h.lawful i correct in record { core = w.0; comes = w.1; history = life c i (j.signer i) (j.rows i) w.0 w.1 }

  -- ---- what a NewView that was taken shows

  -- Its primary opened the view, if it is correct.
  pub opened_by_primary : (i view : ℕ) → IsCorrect c j.faulty i → (e : Ended c j i) → IsCorrect c j.faulty (primary c.config view) → HasFollowed c view e.history.acts → Opened j view (primary c.config view)
  opened_by_primary i view correct e leader (n, taken, valid, is) =
      let m : Signed Body = as_message bodies.NewView n in
      let checked = taken_opened c i (j.signer i) m e.history.acts e.history.is taken in
      let by = opening_by c.config n.role n.id n.body checked.authentic.0.role in
      let id : n.id ≡ primary c.config view = sym by.1 ∙ ap (primary c.config) is in
      let given = h.real i correct m m (e.history.received m taken) (inl refl) by.0 (subst (IsCorrect c j.faulty) (sym id) leader) in
      (part_of m, n.body, subst (λ (q : ℕ). HasGiven (part_of m) (j.rows q)) id given, refl, is)

  -- More correct replicas than may be faulty changed to it.
  pub changed_by_enough : (i : ℕ) → IsCorrect c j.faulty i → (n : Signed NewView) → HasReceived (as_message bodies.NewView n) (j.rows i) → is_valid_new_view c n.body ≡ true
      → Enough c j (Changed j n.body.view.0)
  changed_by_enough i correct n received valid = (those, many, each) where
    those : ℕ → Bool
    those k = changed_by n.body.changes k && not (j.faulty k)

    many : c.config.f < count those (replicas c.config)
    many =
        let voters = leb-true (quorum c.config) (count (changed_by n.body.changes) (replicas c.config)) (by_quorum c n.body valid) in
        let outside = count_outside (changed_by n.body.changes) j.faulty (replicas c.config) in
        let few = h.few in
        omega (arith, voters, outside, few)

    each : (k : ℕ) → k < replicas c.config → those k ≡ true → IsCorrect c j.faulty k × Changed j n.body.view.0 k
    each k below t =
        let parts = and_parts (changed_by n.body.changes k) (not (j.faulty k)) t in
        let right : IsCorrect c j.faulty k = (below, not-true (j.faulty k) parts.1) in
        let x = in_any (is_by k (λ v. true)) n.body.changes parts.0 in
        let by = by_is k (λ (v : ViewChange). true) x.0 x.2 in
        let p : Signed Body = as_message bodies.ViewChange x.0 in
        let within : IsIn p (messages_in (as_message bodies.NewView n)) =
        inr (in_append_left p (flat_map with_nested n.body.changes) (map (as_message bodies.PrePrepare) n.body.pre_prepares) (in_flat with_nested n.body.changes x.0 p x.1 (inl refl))) in
        let given = h.real i correct (as_message bodies.NewView n) p received within by.0 (subst (IsCorrect c j.faulty) (sym by.1) right) in
        let view = in_all (λ v. has_view v && (v.view.0 == n.body.view.0)) (bodies_in n.body.changes) (for_view c n.body valid) x.0.body (in_map (λ (m : Signed ViewChange). m.body) n.body.changes x.0 x.1) in
        let same = eqb-true x.0.body.view.0 n.body.view.0 ((and_parts (has_view x.0.body) (x.0.body.view.0 == n.body.view.0) view).1) in
        (right, (part_of p, x.0.body, subst (λ (q : ℕ). HasGiven (part_of p) (j.rows q)) by.1 given, refl, same))

  -- ---- what comes, where all is drained

  module _ (drained : IsDrained c j) where
    -- an own output that goes to all comes to each other
    comes_to : (k i : ℕ) → IsCorrect c j.faulty k → IsCorrect c j.faulty i → (k ≡ i → ⊥) → (row : Row) (output : Output) → IsIn row (j.rows k) → IsIn output row.outputs
        → output.to ≡ All → HasReceived output.message (j.rows i)
    comes_to k i correct right other row output at within all =
        drained k i row output correct right other at within (subst (IsFor i) (sym all) tt)

    -- A ViewChange that one correct replica gave comes to each other, from its signer.
    pub change_comes : (k i : ℕ) → IsCorrect c j.faulty k → IsCorrect c j.faulty i → (k ≡ i → ⊥) → (p : Part) (b : ViewChange) → HasGiven p (j.rows k) → p.body ≡ bodies.ViewChange b
        → (m : Signed Body) × HasReceived m (j.rows i) × (m.body ≡ bodies.ViewChange b) × (m.id ≡ k)
    change_comes k i correct right other p b given body =
        let output : Output = given.1 in
        let same = change_alone b output.message p body given.5 in
        let e = ended k correct in
        let goes = rows_tell c k (j.signer k) (j.rows k) (start_of c (j.signer k)) e.core e.comes given.0 output given.2 given.3 given.4 in
        let all : output.to ≡ All = subst (GoesRight output.to) same goes in
        let own_part : HasGiven (part_of output.message) (j.rows k) = (given.0, output, given.2, given.3, given.4, inl refl) in
        let own = change_uttered c k (j.signer k) e.history.acts (part_of output.message) b e.history.is same (e.history.signs (part_of output.message) own_part) in
        (output.message, comes_to k i correct right other given.0 output given.2 given.3 all, same, own.part_own)

    -- So does a NewView.
    pub opening_comes : (k i : ℕ) → IsCorrect c j.faulty k → IsCorrect c j.faulty i → (k ≡ i → ⊥) → (p : Part) (n : NewView) → HasGiven p (j.rows k) → p.body ≡ bodies.NewView n
        → (m : Signed Body) × HasReceived m (j.rows i) × (m.body ≡ bodies.NewView n)
    opening_comes k i correct right other p n given body =
        let output : Output = given.1 in
        let same = opening_alone n output.message p body given.5 in
        let e = ended k correct in
        let goes = rows_tell c k (j.signer k) (j.rows k) (start_of c (j.signer k)) e.core e.comes given.0 output given.2 given.3 given.4 in
        let all : output.to ≡ All = subst (GoesRight output.to) same goes in
        (output.message, comes_to k i correct right other given.0 output given.2 given.3 all, same)
