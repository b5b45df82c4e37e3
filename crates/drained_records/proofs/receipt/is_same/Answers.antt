use Rattle.std.proofs.Common.{◌≡◌, Bool, sym, ap, subst, ◌∙◌}
use Rattle.std.specs.Bool.{Decides}
use Rattle.std.proofs.lemmas.Slice.Eq.{bytes_eq-Decides}
use Rattle.byz_world.specs.Encoding.{encoding}
use Rattle.drained_records.proofs.Receiving.{same_bytes}
use Rattle.drained_records.proofs.receipt.is_same.Goals as goal

pub returns : goal.returns
returns c =
    let one = c.bytes.result.now in
    let other = c.bytes-2.result.now in
    let decides = subst (λ (t : Bool). Decides t (one ≡ other)) (sym c.eq.ensures) (bytes_eq-Decides one other) in (
      λ t. same_bytes c.args.one.now c.args.other.now c.bytes.ensures.checked c.bytes-2.ensures.checked
          (sym c.bytes.ensures.value ∙ decides.0 t ∙ c.bytes-2.ensures.value),
      λ e. decides.1 (c.bytes.ensures.value ∙ ap encoding e ∙ sym c.bytes-2.ensures.value),
    )
