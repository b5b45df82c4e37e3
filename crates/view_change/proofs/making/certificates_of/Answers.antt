use Rattle.std.proofs.Common.{sym, ap, ◌∙◌}
use Rattle.view_change.specs.Made.{IsCertificateOf}
use Rattle.view_change.proofs.Paired.{walked, walked_all, with_some}
use Rattle.view_change.proofs.Sealing.{all_checked, more_checked}
use Rattle.view_change.proofs.making.certificates_of.Goals as goal
use Rattle.view_change.proofs.making.certificates_of.Goals.{in-Some+in_ok-push, in_default}

pub loop-certificate-preserved : goal.loop-certificate-preserved
loop-certificate-preserved c = record {
  copies = λ xs are.
      elim c.match-branch-2.branch [
        | in-Some+in_ok-push w ↦
            walked IsCertificateOf c.args.certificates.now xs c.loop-certificate.certificate-index c.certificate-item.result c.loop-certificate.copies.items c.match-branch-2.copies.items c.in_ok-copy.field-0
            are c.loop-certificate-test.true c.certificate-item.is c.in_ok-copy.ensures.copy
            (ap (λ v. v.items) w.copies-is ∙ w.in_ok-push.ensures.items ∙ ap (with_some c.loop-certificate.copies.items) (sym w.in-Some.is)) (c.loop-certificate.invariant.copies xs are)
        | in_default w ↦
            walked IsCertificateOf c.args.certificates.now xs c.loop-certificate.certificate-index c.certificate-item.result c.loop-certificate.copies.items c.match-branch-2.copies.items c.in_ok-copy.field-0
            are c.loop-certificate-test.true c.certificate-item.is c.in_ok-copy.ensures.copy
            (ap (λ v. v.items) w.copies-is ∙ ap (with_some c.loop-certificate.copies.items) (sym w.in_default.is)) (c.loop-certificate.invariant.copies xs are)
      ];
  checked = more_checked c.args.certificates.now c.loop-certificate.certificate-index c.certificate-item.result c.loop-certificate-test.true c.certificate-item.is c.loop-certificate.invariant.checked (c.in_ok-copy.ensures {u = tt}).checked;
}

pub returns : goal.returns
returns c = record {
  checked = all_checked c.args.certificates.now c.loop-certificate.certificate-index c.loop-certificate-test.false c.loop-certificate.invariant.checked;
  copies = λ xs are.
      c.from_vec.ensures ∙ walked_all IsCertificateOf c.args.certificates.now xs c.loop-certificate.certificate-index c.loop-certificate.copies.items are c.loop-certificate-test.false (c.loop-certificate.invariant.copies xs are);
}
