-- Records from equal parts.
use Rattle.std.proofs.Common.{◌≡◌, List, Option, Some, sym, ap, ◌∙◌}
use Rattle.std.proofs.lemmas.Option.{same_Some}
use Rattle.host_types.specs.declared.SeqNo.{SeqNo}
use Rattle.host_types.specs.declared.View.{View}
use Rattle.quorum_log.specs.Words.{Signed, PrePrepare, Prepare, Checkpoint, Certificate, NewView, ViewChange}

same_certificate : (p : Signed PrePrepare) (ps : List (Signed Prepare)) (x : Certificate) → p ≡ x.pre_prepare → ps ≡ x.prepares → record { pre_prepare = p; prepares = ps } ≡ x
same_certificate p ps x e f = λ i. record { pre_prepare = e i; prepares = f i }

pub found_certificate : (o : Option (Signed PrePrepare)) (p : Signed PrePrepare) (ps : List (Signed Prepare)) (x : Certificate) → o ≡ Some p → o ≡ Some x.pre_prepare → ps ≡ x.prepares
    → Some (record { pre_prepare = p; prepares = ps }) ≡ Some x
found_certificate o p ps x is found same = ap (λ (y : Certificate). Some y) (same_certificate p ps x (same_Some p x.pre_prepare (sym is ∙ found)) same)

pub same_change : (view : View) (low : SeqNo) (checkpoints : List (Signed Checkpoint)) (certificates : List Certificate) (v : ViewChange)
    → view ≡ v.view → low ≡ v.low → checkpoints ≡ v.checkpoints → certificates ≡ v.certificates
    → record { view = view; low = low; checkpoints = checkpoints; certificates = certificates } ≡ v
same_change view low checkpoints certificates v a b c d = λ i. record { view = a i; low = b i; checkpoints = c i; certificates = d i }

pub same_new_view : (view : View) (changes : List (Signed ViewChange)) (pre_prepares : List (Signed PrePrepare)) (n : NewView)
    → view ≡ n.view → changes ≡ n.changes → pre_prepares ≡ n.pre_prepares → record { view = view; changes = changes; pre_prepares = pre_prepares } ≡ n
same_new_view view changes pre_prepares n a b c = λ i. record { view = a i; changes = b i; pre_prepares = c i }
