use Rattle.std.proofs.Common.{◌≡◌, ◌++◌, cond, ◌⊎◌, inl, inr, List, ℕ, Option, Some, None, Ok, Err, Result, refl, sym, ◌∙◌, ap}
use Rattle.std.specs.Prelude.{is_some, IfErr, IfOk, MatchResult}
use Rattle.std.proofs.lemmas.Result.{err_from_is_err_and}
use Rattle.lms_tree.specs.declared.SigFault.{SigFault}
use Rattle.lms_tree.specs.Signature.{signature_fault}
use Rattle.pbft_codec.specs.declared.body.Body.{Body}
use Rattle.pbft_codec.specs.declared.signed.Signed.{Signed}
use Rattle.pbft_codec.specs.Snapshots.{message_in}
use Rattle.seal.specs.declared.fault.SealFault.{SealFault}
use Rattle.seal.specs.declared.fault.SealFault.TheVariants.{BadSignature, Memory}
use Rattle.seal.proofs.Authenticity.{first_alone, own_fault_by_key}
use Rattle.seal.proofs.verify_parts.copy_verified.Goals as goal

-- what a check of a signature says of the message whose fault it decides
verdict_of : {A : Type 0} (r : Result A SealFault) (found : Option SigFault) (fault : Option SealFault)
    → ((f : Option SigFault) → found ≡ f → fault ≡ cond (is_some f) (Some BadSignature) None)
    → IfOk r (λ _. found ≡ None) → IfErr r (λ e. (e ≡ Memory) ⊎ ((e ≡ BadSignature) × (f : SigFault) × (found ≡ Some f)))
    → MatchResult r (λ _. fault ≡ None) (λ e. (e ≡ Memory) ⊎ (fault ≡ Some e))
verdict_of (Ok a) found fault decided valid refused = decided None valid
verdict_of (Err e) found fault decided valid (inl memory) = inl memory
verdict_of (Err e) found fault decided valid (inr (bad, f, is)) = inr (decided (Some f) is ∙ ap Some (sym bad))

pub returns-in_err-key-clause-verdict : goal.returns-in_err-key-clause-verdict
returns-in_err-key-clause-verdict c =
    let m : Signed Body = message_in c.args.snapshot.now in
    let p = err_from_is_err_and c.from_residual.result c.from_residual.ensures.1 in
    let own = c.in_err-key.ensures m (record { role = refl; id = refl; sender = sym c.sender.ensures; sig = refl }) in
    rw (p.1, p.2) (inr (first_alone c.args.config.now m ∙ own))

pub returns-clause-verdict : goal.returns-clause-verdict
returns-clause-verdict c =
    let m : Signed Body = message_in c.args.snapshot.now in
    let may = c.in_ok-key.ensures m (record { role = refl; id = refl; sender = sym c.sender.ensures; sig = refl }) in
    let text : List ℕ = c.signed_parts.result.0.now ++ c.signed_parts.result.1.now in
    verdict_of c.copy_checked.result (signature_fault c.in_ok-key.key.now text c.args.snapshot.now.sig.now) _
    (λ f is. first_alone c.args.config.now m ∙ own_fault_by_key c.args.config.now m c.in_ok-key.key.now text c.args.snapshot.now.sig.now f may refl c.signed_parts.ensures is)
    c.copy_checked.ensures.valid c.copy_checked.ensures.refused
