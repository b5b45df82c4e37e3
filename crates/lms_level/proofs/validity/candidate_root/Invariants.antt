use Rattle.std.proofs.Common.{◌≡◌, List, ℕ}
use Rattle.lms_ots.specs.Ots.{candidate_of}
use Rattle.lms_level.specs.Signature.{ots_in, path_in, word_at}
use Rattle.lms_level.specs.Tree.{root_from_path, leaf_node}
use Rattle.lms_level.specs.Verifying.{IsHashOf}
use Rattle.lms_level.proofs.validity.candidate_root.Given as goal

abbrev pub invariant-path : goal.invariant-path
invariant-path l = (message : List ℕ) → IsHashOf l.q l.id l.sig message → l.value ≡ root_from_path l.id l.first
    (leaf_node l.id l.first (candidate_of l.id (word_at l.sig 0) message (ots_in l.sig))) (path_in l.sig) l.i
