use Rattle.std.proofs.Common.{◌≡◌, ◌++◌, List, drop, take}
use Rattle.std.specs.List.{AllByRecursion}
use Rattle.quorum_log.specs.Words.{Certificate}
use Rattle.view_change.specs.Made.{IsCertificateOf, OneForOne}
use Rattle.view_change.specs.Sealable.{IsCheckedCertificate}
use Rattle.view_change.proofs.making.certificates_of.Given as goal

abbrev pub invariant-loop-certificate : goal.invariant-loop-certificate
invariant-loop-certificate l = record {
  copies : (xs : List Certificate) → OneForOne IsCertificateOf l.certificates xs → l.copies.items ++ drop l.certificate-index xs ≡ xs;
  checked : AllByRecursion IsCheckedCertificate (take l.certificate-index l.certificates);
}
