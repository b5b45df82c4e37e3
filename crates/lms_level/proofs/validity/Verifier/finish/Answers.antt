use Rattle.std.proofs.Common.{ℕ, List, sym, ◌∙◌, ap}
use Rattle.std.specs.Prelude.{Some, None}
use Rattle.std.proofs.lemmas.Bool.{cond-false, cond-true}
use Rattle.lms_ots.specs.Ots.{message_hash, randomizer_in}
use Rattle.lms_ots.proofs.Hashing.{hash_behind_prefix}
use Rattle.lms_level.specs.Signature.{candidate_root, key_id, levels_of, ots_in, word_at}
use Rattle.lms_level.specs.Verifying.{IsHashOf}
use Rattle.lms_level.specs.declared.fault.SigFault.TheVariants.{Mismatch}
use Rattle.lms_level.proofs.SignatureLemmas.{root_fault}
use Rattle.lms_level.proofs.validity.Verifier.finish.Goals as goal

pub returns-then-is_root : goal.returns-then-is_root
returns-then-is_root c body holds =
    let a = c.args.self in
    let key : List ℕ = a.key.now in
    let sig : List ℕ = a.sig.now in
    let hash_with : List ℕ → List ℕ = λ i. message_hash i (word_at sig 0) (randomizer_in (ots_in sig)) body in
    let hash : IsHashOf c.finalize-q.result c.bytes_at.result sig body = c.finalize-q.ensures _ holds
    ∙ (hash_behind_prefix (key_id key) (word_at sig 0) (randomizer_in (ots_in sig)) body ∙ ap hash_with (sym c.bytes_at.ensures)) in
    let root = c.candidate_root-root.ensures body hash ∙ ap (λ i. candidate_root (levels_of a.height) i body sig) c.bytes_at.ensures in
    root_fault a.height key body sig c.candidate_root-root.result c.is_root.result a.of_key a.long a.ots_type a.type_of_tree a.leaf root c.is_root.ensures
    ∙ cond-true c.is_root.result None (Some Mismatch) c.if-is_root.true

pub returns-else-is_root : goal.returns-else-is_root
returns-else-is_root c body holds =
    let a = c.args.self in
    let key : List ℕ = a.key.now in
    let sig : List ℕ = a.sig.now in
    let hash_with : List ℕ → List ℕ = λ i. message_hash i (word_at sig 0) (randomizer_in (ots_in sig)) body in
    let hash : IsHashOf c.finalize-q.result c.bytes_at.result sig body = c.finalize-q.ensures _ holds
    ∙ (hash_behind_prefix (key_id key) (word_at sig 0) (randomizer_in (ots_in sig)) body ∙ ap hash_with (sym c.bytes_at.ensures)) in
    let root = c.candidate_root-root.ensures body hash ∙ ap (λ i. candidate_root (levels_of a.height) i body sig) c.bytes_at.ensures in
    root_fault a.height key body sig c.candidate_root-root.result c.is_root.result a.of_key a.long a.ots_type a.type_of_tree a.leaf root c.is_root.ensures
    ∙ cond-false c.is_root.result None (Some Mismatch) c.if-is_root.false
