-- Worked values: which Commits a ViewChange hides, and what is claimed of a view.
use Rattle.std.proofs.Common.{◌≡◌, ℕ, List, [], ◌∷◌, true, false, refl}
use Rattle.std.specs.Prelude.{Some}
use Rattle.pbft_codec.specs.declared.body.Body.TheVariants as bodies
use Rattle.pbft_codec.specs.declared.body.certificate.Certificate.{Certificate}
use Rattle.pbft_codec.specs.declared.body.commit.Commit.{Commit}
use Rattle.pbft_codec.specs.declared.body.pre_prepare.PrePrepare.{PrePrepare}
use Rattle.pbft_codec.specs.declared.body.new_view.NewView.{NewView}
use Rattle.pbft_codec.specs.declared.body.view_change.ViewChange.{ViewChange}
use Rattle.pbft_codec.specs.declared.signed.Role.TheVariants.{Replica}
use Rattle.conflicts.specs.declared.claim.Topic.TheVariants as topics
use Rattle.conflicts.specs.Views.{hides, view_claim_in}

abbrev commit : ℕ → ℕ → Commit
commit view number = record { view = record { 0 = view }; number = record { 0 = number }; digest = record { 0 = [] } }

-- a certificate for a number of a view
abbrev certified : ℕ → ℕ → Certificate
certified view number =
    let proposal : PrePrepare = record { view = record { 0 = view }; number = record { 0 = number }; digest = record { 0 = [] } } in
    record { pre_prepare = record { role = Replica; id = 0; body = proposal; sig = [] }; prepares = [] }

-- a ViewChange for a view above a low mark
abbrev leaving : ℕ → ℕ → List Certificate → ViewChange
leaving view low certificates = record { view = record { 0 = view }; low = record { 0 = low }; checkpoints = []; certificates = certificates }

-- A Commit of each lower view is hidden, of no other one.
of_the_view_before : hides (leaving 1 0 []) (commit 0 1) ≡ true
of_the_view_before = refl

of_a_view_long_before : hides (leaving 3 0 []) (commit 0 1) ≡ true
of_a_view_long_before = refl

of_the_same_view : hides (leaving 1 0 []) (commit 1 1) ≡ false
of_the_same_view = refl

-- It is hidden from the number behind the low mark on.
at_the_low_mark : hides (leaving 1 8 []) (commit 0 8) ≡ false
at_the_low_mark = refl

behind_the_low_mark : hides (leaving 1 8 []) (commit 0 9) ≡ true
behind_the_low_mark = refl

far_behind_the_low_mark : hides (leaving 1 8 []) (commit 0 11) ≡ true
far_behind_the_low_mark = refl

-- A certificate for its number shows it, of its view or a later one.
shown_by_its_view : hides (leaving 3 0 (certified 1 1 ∷ [])) (commit 1 1) ≡ false
shown_by_its_view = refl

shown_by_a_later_view : hides (leaving 3 0 (certified 0 2 ∷ certified 2 1 ∷ [])) (commit 1 1) ≡ false
shown_by_a_later_view = refl

of_another_number : hides (leaving 3 0 (certified 1 2 ∷ [])) (commit 1 1) ≡ true
of_another_number = refl

of_an_earlier_view : hides (leaving 3 0 (certified 0 1 ∷ [])) (commit 1 1) ≡ true
of_an_earlier_view = refl

-- A NewView claims itself for its view, as a ViewChange does.
of_a_new_view : (n : NewView) → view_claim_in 3 (record { 0 = [] }) (bodies.NewView n) ≡ Some (record { signer = 3; topic = topics.NewView n.view; digest = record { 0 = [] } })
of_a_new_view n = refl
