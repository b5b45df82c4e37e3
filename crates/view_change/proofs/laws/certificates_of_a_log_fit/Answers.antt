use Rattle.view_change.proofs.LogCertificates.{log_certificate}
use Rattle.view_change.proofs.laws.certificates_of_a_log_fit.Goals as goal

pub returns : goal.returns
returns c = log_certificate
