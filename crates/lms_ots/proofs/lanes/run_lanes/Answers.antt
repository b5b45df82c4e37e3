use Rattle.std.proofs.Common.{◌≡◌, ◌∙◌, ◌+◌, ◌-◌, ◌<◌, ◌≤◌, ◌⊎◌, ℕ, ap, arith, inl, inr, min, refl, slice_index, sym}
use Rattle.std.proofs.lemmas.Bool.{cases_lt}
use Rattle.sha_lanes.specs.Lanes.{hash_in}
use Rattle.lms_ots.specs.Ots.{chain, chain_step}
use Rattle.lms_ots.specs.Words.{bytes_of}
use Rattle.lms_ots.proofs.Chains.{chain-more, chain-none}
use Rattle.lms_ots.proofs.LaneLemmas.{same, same_in_each}
use Rattle.lms_ots.proofs.lanes.run_lanes.Goals as goal

pub steps-init : goal.steps-init
steps-init c j lt =
    let f = slice_index c.args.froms.now j in
    let low : c.least-step.result ≤ f = c.least-step.ensures j lt in
    let zero : min (c.least-step.result - f) (slice_index c.args.counts.now j) ≡ 0 = omega arith in
    sym (ap (λ n. chain c.args.id.now (slice_index c.args.leaves j) (slice_index c.args.chains j) f n (bytes_of (hash_in c.args.values.now j))) zero
    ∙ chain-none c.args.id.now (slice_index c.args.leaves j) (slice_index c.args.chains j) f (bytes_of (hash_in c.args.values.now j)))

pub steps-preserved : goal.steps-preserved
steps-preserved c j lt =
    let id = c.args.id.now in
    let q = slice_index c.args.leaves j in
    let i = slice_index c.args.chains j in
    let f = slice_index c.args.froms.now j in
    let n = slice_index c.args.counts.now j in
    let s = c.steps.step in
    let v = bytes_of (hash_in c.args.values.now j) in
    let at : slice_index (same s) j ≡ s = same_in_each s j lt in
    let before = c.steps.invariant j lt in
    let on : (k : ℕ) → min (s - f) n ≡ k → min (s + 1 - f) n ≡ k → hash_in c.chosen_values.result j ≡ hash_in c.steps.values j
    → bytes_of (hash_in c.chosen_values.result j) ≡ chain id q i f (min (s + 1 - f) n) v =
    λ k here there same. ap bytes_of same ∙ (before ∙ ap (λ m. chain id q i f m v) (here ∙ sym there)) in
    elim (cases_lt s f) [
      | inl early ↦ on 0 (omega arith) (omega arith) (c.chosen_values.ensures.before j lt (omega arith))
      | inr past ↦ elim (cases_lt s (f + n)) [
        | inl within ↦
            let done : min (s - f) n ≡ s - f = omega arith in
            let next : s - f + 1 ≡ min (s + 1 - f) n = omega arith in
            let place : f + (s - f) ≡ s = omega arith in
            ap bytes_of (c.chosen_values.ensures.within j lt (omega arith) (omega arith))
            ∙ (c.step_lanes-stepped.ensures j lt
            ∙ (ap (λ k. chain_step id q i k (bytes_of (hash_in c.steps.values j))) at
            ∙ (ap (λ w. chain_step id q i s w) (before ∙ ap (λ m. chain id q i f m v) done)
            ∙ (sym (chain-more id q i f (s - f) s v place) ∙ ap (λ m. chain id q i f m v) next))))
        | inr late ↦ on n (omega arith) (omega arith) (c.chosen_values.ensures.behind j lt (omega arith))
      ]
    ]

pub returns : goal.returns
returns c j lt =
    let f = slice_index c.args.froms.now j in
    let n = slice_index c.args.counts.now j in
    let over : c.end_of_all-step-end.result ≤ c.steps.step = c.steps-test.false in
    let all : f + n ≤ c.end_of_all-step-end.result = c.end_of_all-step-end.ensures.behind j lt in
    let done : min (c.steps.step - f) n ≡ n = omega arith in
    c.steps.invariant j lt
    ∙ ap (λ m. chain c.args.id.now (slice_index c.args.leaves j) (slice_index c.args.chains j) f m (bytes_of (hash_in c.args.values.now j))) done
