use Rattle.std.proofs.Common.{◌≡◌, ℕ, ◌+◌, ◌-◌, ◌<◌, ◌≤◌, List, get_or, ◌∙◌, ap, arith, refl}
use Rattle.lms_ots.specs.Ots.{chain, digit, digits_of, message_hash, randomizer_in, value_in}
use Rattle.lms_ots.proofs.DigitLemmas.{get_or-digits_of}
use Rattle.lms_ots.proofs.EndLemmas.{end_is}
use Rattle.lms_ots.proofs.Law.{digit-le}
use Rattle.lms_ots.proofs.ots_candidate_of_hash.Goals as goal

pub steps_left-requires : goal.steps_left-requires
steps_left-requires c i lt =
    let q : List ℕ = c.args.q.now in
    let here : get_or c.digits-digits.result i 0 ≡ digit q i = ap (λ ds. get_or ds i 0) c.digits-digits.ensures ∙ get_or-digits_of q i lt in
    omega (arith, here, digit-le q i)

pub ends-ends-requires : goal.ends-ends-requires
ends-ends-requires c i lt =
    let q : List ℕ = c.args.q.now in
    let here : get_or c.digits-digits.result i 0 ≡ digit q i = ap (λ ds. get_or ds i 0) c.digits-digits.ensures ∙ get_or-digits_of q i lt in
    omega (arith, here, digit-le q i, c.steps_left.ensures i lt)

pub returns : goal.returns
returns c message is_hash =
    let a = c.args in
    let q : List ℕ = message_hash a.id.now a.leaf (randomizer_in a.signature.now) message in
    let digits : c.digits-digits.result ≡ digits_of q = c.digits-digits.ensures ∙ ap digits_of is_hash in
    let each_digit : (i : ℕ) → i < 67 → get_or c.digits-digits.result i 0 ≡ digit q i =
    λ i h. ap (λ ds. get_or ds i 0) digits ∙ get_or-digits_of q i h in
    c.hash_of_ends.ensures (λ i. chain a.id.now a.leaf i (digit q i) (15 - digit q i) (value_in a.signature.now i)) (λ i lt.
    c.ends-ends.ensures i lt
    ∙ end_is a.id.now a.leaf _ _ _ i (digit q i) (15 - digit q i) (value_in a.signature.now i)
    (each_digit i lt) (c.steps_left.ensures i lt ∙ ap (λ d. 15 - d) (each_digit i lt)) (c.values_in.ensures i lt))
