use Rattle.std.proofs.Common.{◌∙◌, ap}
use Rattle.std.proofs.lemmas.Result.{MatchResult-weaker}
use Rattle.lms_tree.specs.Signature.{signature_fault}
use Rattle.lms_tree.proofs.VerifierLemmas.{last_below, last_of_one}
use Rattle.lms_tree.proofs.parts.last_tree.Goals as goal

pub returns-in-Lms : goal.returns-in-Lms
returns-in-Lms c =
    MatchResult-weaker c.new.result c.new.ensures
    (λ v h. last_of_one v c.args.key.now c.in-Lms.own c.args.sig.now c.in-Lms.is h.0 h.1 h.2)
    (λ fault h body. ap (λ k. signature_fault k body c.args.sig.now) c.in-Lms.is ∙ h body)

pub returns-in-Hss : goal.returns-in-Hss
returns-in-Hss c =
    MatchResult-weaker c.last_verifier.result c.last_verifier.ensures
    (λ v h. last_below v c.args.key.now c.in-Hss.levels c.args.sig.now c.in-Hss.is h)
    (λ fault h body. ap (λ k. signature_fault k body c.args.sig.now) c.in-Hss.is ∙ h body)
