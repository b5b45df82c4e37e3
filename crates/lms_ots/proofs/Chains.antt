-- A chain in two parts, and the lengths of what is hashed.
use Rattle.std.proofs.Common.{◌≡◌, ℕ, zero, suc, ◌+◌, List, length, refl, sym, ◌∙◌, ap, arith, add-one, add-suc, add-zero}
use Rattle.sha2.proofs.Facts256.{length-sha256}
use Rattle.lms_ots.specs.Ots.{chain, chain_step, tagged_hash, u16str, u32str}

pub length-u32str : (n : ℕ) → length (u32str n) ≡ 4
unfolding u32str
length-u32str n = refl

pub length-u16str : (n : ℕ) → length (u16str n) ≡ 2
unfolding u16str
length-u16str n = refl

pub length-tagged_hash : (id : List ℕ) (number tag : ℕ) (rest : List ℕ) → length (tagged_hash id number tag rest) ≡ 32
unfolding tagged_hash
length-tagged_hash id number tag rest = length-sha256 _

pub chain-none : (id : List ℕ) (leaf i from : ℕ) (value : List ℕ) → chain id leaf i from 0 value ≡ value
unfolding chain
chain-none id leaf i from value = refl

pub chain-more : (id : List ℕ) (leaf i from steps j : ℕ) (value : List ℕ) → from + steps ≡ j
    → chain id leaf i from (steps + 1) value ≡ chain_step id leaf i j (chain id leaf i from steps value)
unfolding chain
chain-more id leaf i from steps j value e =
    ap (λ k. chain id leaf i from k value) (add-one steps)
    ∙ ap (λ k. chain_step id leaf i k (chain id leaf i from steps value)) e

-- steps from `from` on, and then those from where they end, are all of them
pub chain-chain : (id : List ℕ) (leaf i from steps more : ℕ) (value : List ℕ)
    → chain id leaf i (from + steps) more (chain id leaf i from steps value) ≡ chain id leaf i from (steps + more) value
unfolding chain
chain-chain id leaf i from steps zero value = sym (ap (λ k. chain id leaf i from k value) (add-zero steps))
chain-chain id leaf i from steps (suc more) value =
    let same_step : from + steps + more ≡ from + (steps + more) = omega arith in
    ap (λ v. chain_step id leaf i (from + steps + more) v) (chain-chain id leaf i from steps more value)
    ∙ (ap (λ k. chain_step id leaf i k (chain id leaf i from (steps + more) value)) same_step
    ∙ sym (ap (λ k. chain id leaf i from k value) (add-suc steps more)))

pub length-chain : (id : List ℕ) (leaf i from steps : ℕ) (value : List ℕ) → length value ≡ 32
    → length (chain id leaf i from steps value) ≡ 32
unfolding chain
length-chain id leaf i from zero value e = e
length-chain id leaf i from (suc steps) value e = length-tagged_hash id leaf i _
