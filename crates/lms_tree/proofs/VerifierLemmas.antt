-- The last tree's verification, and the fault of the whole signature.
use Rattle.std.proofs.Common.{◌≡◌, ℕ, List, [], Option, None, ◌∙◌, ap, subst, sym}
use Rattle.lms_level.specs.declared.fault.SigFault.{SigFault}
use Rattle.lms_level.specs.declared.validity.Verifier.{Verifier}
use Rattle.lms_level.specs.Signature.{signature_fault}
use Rattle.lms_level.specs.Verifying.{Holds}
use Rattle.host_types.specs.declared.key.PublicKey.{PublicKey}
use Rattle.host_types.specs.declared.key.PublicKey.TheVariants.{Lms, Hss}
use Rattle.lms_tree.specs.Parts.{IsFedTo, IsLast, IsLastOf}
use Rattle.lms_tree.specs.Signature.{hss_fault, or_then, signature_fault as fault_of}

-- the fault of a verification is that under its own key and signature
own_fault : (v : Verifier) (key body sig : List ℕ) → v.key.now ≡ key → v.sig.now ≡ sig
    → signature_fault key body sig ≡ signature_fault v.key.now body v.sig.now
own_fault v key body sig same_key same_sig =
    ap (λ k. signature_fault k body sig) (sym same_key) ∙ ap (λ s. signature_fault v.key.now body s) (sym same_sig)

own_feed : (v : Verifier) (key sig : List ℕ) → v.key.now ≡ key → v.sig.now ≡ sig → Holds v.hasher key sig [] → IsFedTo v []
own_feed v key sig same_key same_sig holds =
    subst (λ k. Holds v.hasher k v.sig.now []) (sym same_key) (subst (λ s. Holds v.hasher key s []) (sym same_sig) holds)

pub last_of_two : (v : Verifier) (key sig signed last : List ℕ) (first : Option SigFault)
    → ((body : List ℕ) → hss_fault key body sig ≡ or_then first (signature_fault signed body last)) → first ≡ None
    → v.key.now ≡ signed → v.sig.now ≡ last → Holds v.hasher signed last [] → IsLastOf v key sig
last_of_two v key sig signed last first parts none same_key same_sig holds = record {
  last = λ body. parts body ∙ (ap (λ f. or_then f (signature_fault signed body last)) none ∙ own_fault v signed body last same_key same_sig);
  begun = own_feed v signed last same_key same_sig holds;
}

pub last_of_one : (v : Verifier) (key : PublicKey) (own sig : List ℕ) → key ≡ Lms own → v.key.now ≡ own → v.sig.now ≡ sig
    → Holds v.hasher own sig [] → IsLast v key sig × IsFedTo v []
last_of_one v key own sig is same_key same_sig holds =
    (λ body. ap (λ k. fault_of k body sig) is ∙ own_fault v own body sig same_key same_sig, own_feed v own sig same_key same_sig holds)

pub last_below : (v : Verifier) (key : PublicKey) (levels sig : List ℕ) → key ≡ Hss levels → IsLastOf v levels sig → IsLast v key sig × IsFedTo v []
last_below v key levels sig is last = (λ body. ap (λ k. fault_of k body sig) is ∙ last.last body, last.begun)
