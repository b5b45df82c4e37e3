use Rattle.world_script.proofs.Honest.{audited_so, one_state}
use Rattle.world_script.proofs.laws.honest_scripts_agree.Goals as goal

pub returns : goal.returns
returns c = record {
  audited = λ h t j text on of honest audits. audited_so h t j text on of honest audits;
  digests = λ h t j a b s u on of honest. one_state h t j a b s u on of honest;
}
