use Rattle.service_model.proofs.Soundness.{none_goes_wrong}
use Rattle.service_model.proofs.law.installed_procedures_cannot_go_wrong.Goals as goal

pub returns : goal.returns
returns c = λ config requests after outcomes h. none_goes_wrong config requests after outcomes h
