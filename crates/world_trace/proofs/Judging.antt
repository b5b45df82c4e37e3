-- Whether a call that answers the first fault answers one.
use Rattle.std.proofs.Common.{◌≡◌, Bool, true, false, refl, ap, ◌∙◌}
use Rattle.std.specs.Prelude.{◌&&◌, not, Result, is_err}
use Rattle.pbft_model.specs.Setup.{Setup}
use Rattle.pbft_model.specs.Validity.{are_for_view, first_fault, has_certificates, has_order, has_proof, has_view, have_certificates, have_order, have_proofs, is_valid, is_valid_new_view, new_view_fault, view_change_fault}
use Rattle.pbft_model.specs.Words.{NewView, ViewChange}
use Rattle.view_change.specs.Faults.{answer}
use Rattle.view_change.specs.declared.fault.ViewFault.{ViewFault}

has_fault : (a b c d : Bool) → is_err (answer (first_fault a b c d)) ≡ not (a && (b && (c && d)))
has_fault true true true true = refl
has_fault true true true false = refl
has_fault true true false d = refl
has_fault true false c d = refl
has_fault false b c d = refl

pub change_invalid : (c : Setup) (v : ViewChange) (r : Result (Unit {0}) ViewFault) → r ≡ answer (view_change_fault c v) → is_err r ≡ not (is_valid c v)
change_invalid c v r is = ap is_err is ∙ has_fault (has_view v) (has_proof c v) (has_certificates c v) (has_order c v)

pub opening_invalid : (c : Setup) (n : NewView) (r : Result (Unit {0}) ViewFault) → r ≡ answer (new_view_fault c n) → is_err r ≡ not (is_valid_new_view c n)
opening_invalid c n r is = ap is_err is ∙ has_fault (are_for_view n) (have_proofs c n) (have_certificates c n) (have_order c n)
