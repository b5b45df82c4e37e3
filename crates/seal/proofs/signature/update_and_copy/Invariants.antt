use Rattle.std.proofs.Common.{◌≡◌, ◌++◌, ℕ, List, length}
use Rattle.lms_tree.specs.Verifying.{IsFed}
use Rattle.seal.proofs.signature.update_and_copy.Given as goal

abbrev pub invariant-loop-unhashed : goal.invariant-loop-unhashed
invariant-loop-unhashed l = record {
  of_key : l.verifier.key.now ≡ l.fn.verifier.key.now;
  of_sig : l.verifier.sig.now ≡ l.fn.verifier.sig.now;
  fed : (body : List ℕ) → IsFed l.fn.verifier body → (x : List ℕ) × IsFed l.verifier (body ++ x) × (x ++ l.unhashed ≡ l.fn.text);
  copied : l.copy.items ++ l.uncopied ≡ l.fn.copy.items ++ l.fn.bytes;
}

abbrev pub decreases-loop-unhashed : goal.decreases-loop-unhashed
decreases-loop-unhashed l = length l.unhashed
