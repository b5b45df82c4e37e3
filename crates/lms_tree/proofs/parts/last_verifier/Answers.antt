use Rattle.std.proofs.Common.{◌∙◌}
use Rattle.std.proofs.lemmas.Result.{MatchResult-weaker}
use Rattle.lms_tree.proofs.PartLemmas.{fault_of_first, fault_of_last}
use Rattle.lms_tree.proofs.VerifierLemmas.{last_of_two}
use Rattle.lms_tree.proofs.parts.last_verifier.Goals as goal

pub returns-in-Ok : goal.returns-in-Ok
returns-in-Ok c =
    MatchResult-weaker c.new.result c.new.ensures
    (λ v h. last_of_two v c.args.key.now c.args.sig.now _ _ _ c.in_ok-top_key.ensures c.in-Ok.ensures h.0 h.1 h.2)
    (λ fault h body. c.in_ok-top_key.ensures body ∙ fault_of_last _ _ _ c.in-Ok.ensures (h body))

pub returns-in-Err : goal.returns-in-Err
returns-in-Err c body = c.in_ok-top_key.ensures body ∙ fault_of_first _ _ _ c.in-Err.ensures
