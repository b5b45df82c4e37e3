use Rattle.std.proofs.Common.{◌≡◌, ℕ, ◌+◌, ◌/◌, ◌^◌, List, sym, ◌∙◌, ap, arith}
use Rattle.lms_ots.specs.Ots.{candidate_of, message_hash, randomizer_in}
use Rattle.lms_level.specs.Signature.{levels_of, ots_in, path_in, word_at}
use Rattle.lms_level.specs.Tree.{root_from_path, leaf_node, parent}
use Rattle.lms_level.proofs.TreeLemmas.{root_from_path-more, root_from_path-none}
use Rattle.lms_level.proofs.validity.candidate_root.Goals as goal

pub path-init : goal.path-init
path-init c message is_hash =
    let id : List ℕ = c.args.id.now in
    let sig : List ℕ = c.args.sig.now in
    let first : ℕ = c.leaf_count.result + c.word_at-leaf.result in
    let hash : c.args.q.now ≡ message_hash id c.word_at-leaf.result (randomizer_in c.bytes_at-ots.result) message = is_hash
    ∙ (ap (λ q. message_hash id q (randomizer_in (ots_in sig)) message) (sym c.word_at-leaf.ensures)
    ∙ ap (λ s. message_hash id c.word_at-leaf.result (randomizer_in s) message) (sym c.bytes_at-ots.ensures)) in
    let value : c.ots_candidate_of_hash.result ≡ candidate_of id (word_at sig 0) message (ots_in sig) =
    c.ots_candidate_of_hash.ensures message hash
    ∙ (ap (λ q. candidate_of id q message c.bytes_at-ots.result) c.word_at-leaf.ensures
    ∙ ap (λ s. candidate_of id (word_at sig 0) message s) c.bytes_at-ots.ensures) in
    c.leaf_node-value.ensures ∙ (ap (λ k. leaf_node id first k) value ∙ sym (root_from_path-none id first _ (path_in sig)))

pub path-preserved : goal.path-preserved
path-preserved c message is_hash =
    let id : List ℕ = c.args.id.now in
    let sig : List ℕ = c.args.sig.now in
    let first : ℕ = c.leaf_count.result + c.word_at-leaf.result in
    let i : ℕ = c.path.i in
    let value : List ℕ = leaf_node id first (candidate_of id (word_at sig 0) message (ots_in sig)) in
    c.parent-value.ensures
    ∙ (ap (λ v. parent id (first / 2 ^ i) v c.bytes_at-sibling_node.result) (c.path.invariant message is_hash)
    ∙ (ap (λ b. parent id (first / 2 ^ i) (root_from_path id first value (path_in sig) i) b) c.bytes_at-sibling_node.ensures
    ∙ sym (root_from_path-more id first i value (path_in sig))))

pub returns : goal.returns
returns c message is_hash =
    let id : List ℕ = c.args.id.now in
    let sig : List ℕ = c.args.sig.now in
    let h : ℕ = levels_of c.args.height in
    let over = c.path-test.false in
    let within = c.path.auto.i-end in
    let all : c.path.i ≡ c.levels-i-end.result = omega arith in
    let first_is : c.leaf_count.result + c.word_at-leaf.result ≡ 2 ^ h + word_at sig 0 =
    ap (λ n. n + c.word_at-leaf.result) c.leaf_count.ensures ∙ ap (λ q. 2 ^ h + q) c.word_at-leaf.ensures in
    let node : ℕ → List ℕ = λ k. leaf_node id k (candidate_of id (word_at sig 0) message (ots_in sig)) in
    c.path.invariant message is_hash
    ∙ (ap (λ k. root_from_path id k (node k) (path_in sig) c.path.i) first_is
    ∙ ap (λ n. root_from_path id (2 ^ h + word_at sig 0) (node (2 ^ h + word_at sig 0)) (path_in sig) n) (all ∙ c.levels-i-end.ensures))
