use Rattle.std.proofs.Common.{◌∙◌, arith, replicate}
use Rattle.lms_ots.specs.Ots.{chain, chain_start}
use Rattle.lms_ots.proofs.EndLemmas.{end_is, in_each}
use Rattle.lms_ots.proofs.ots_public.Goals as goal

pub ends-ends-requires : goal.ends-ends-requires
ends-ends-requires c i lt = omega (arith, in_each 0 i lt, in_each 15 i lt)

pub returns : goal.returns
returns c =
    let a = c.args in
    c.hash_of_ends.ensures (λ i. chain a.id.now a.leaf i 0 15 (chain_start a.id.now a.leaf a.secret.now i)) (λ i lt.
    c.ends-ends.ensures i lt
    ∙ end_is a.id.now a.leaf (replicate 67 0) (replicate 67 15) c.chain_starts.result i 0 15 (chain_start a.id.now a.leaf a.secret.now i)
    (in_each 0 i lt) (in_each 15 i lt) (c.chain_starts.ensures i lt))
