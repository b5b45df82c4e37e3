-- What a sink has taken, one instruction at a time.
use Rattle.std.proofs.Common.{◌≡◌, ◌⊎◌, ◌*◌, ℕ, List, [], ◌∷◌, ◌++◌, take, Result, Ok, Err, refl, sym, ap, subst, ◌∙◌, append_assoc}
use Rattle.std.specs.Prelude.{IfErr}
use Rattle.bpf_decode.specs.Encoding.{encoding}
use Rattle.bpf_decode.specs.declared.refusal.Refusal.{Refusal}
use Rattle.bpf_decode.specs.declared.refusal.DecodeFault.TheVariants.{Memory}
use Rattle.std.proofs.lemmas.List.{append-nil}
use Rattle.std.specs.Global.{Vec}
use Rattle.bpf_decode.specs.declared.insn.Insn.{Insn}
use Rattle.bpf_decode.specs.Taken.{TakesAll}

-- one more instruction
pub takes_more : {S : Type 0} (takes : S → Insn → S → Type 0) (before mid after : S) (insns : List Insn) (insn : Insn) → TakesAll takes before insns mid → takes mid insn after → TakesAll takes before (insns ++ insn ∷ []) after
takes_more takes before mid after [] insn all one = (after, subst (λ s. takes s insn after) (sym all) one, refl)
takes_more takes before mid after (x ∷ xs) insn (next, first, rest) one = (next, first, takes_more takes next mid after xs insn rest one)

-- a list that takes each at its end
pub appended : (before after : Vec Insn) (insns : List Insn) → TakesAll (λ (b : Vec Insn) (x : Insn) (a : Vec Insn). a.items ≡ b.items ++ x ∷ []) before insns after → after.items ≡ before.items ++ insns
appended before after [] all = ap (λ (v : Vec Insn). v.items) (sym all) ∙ sym (append-nil before.items)
appended before after (x ∷ xs) (mid, first, rest) =
    appended mid after xs rest ∙ ap (λ (l : List Insn). l ++ xs) first ∙ append_assoc before.items (x ∷ []) xs

-- what a refusal that is handed on leaves
pub left_on : {S : Type 0} (bytes : List ℕ) (A : Type 0) (result : Result A Refusal) (r : Refusal) (takes : S → Insn → S → Type 0) (start now : S) → (r.fault ≡ Memory) ⊎ ((before : List Insn) × (take (8 * r.slot) bytes ≡ encoding before) × TakesAll takes start before now) → IfErr result (λ x. x ≡ r) → IfErr result (λ x. (x.fault ≡ Memory) ⊎ ((before : List Insn) × (take (8 * x.slot) bytes ≡ encoding before) × TakesAll takes start before now))
left_on bytes A (Ok x) r takes start now is same = tt
left_on bytes A (Err x) r takes start now is same =
    subst (λ (y : Refusal). (y.fault ≡ Memory) ⊎ ((before : List Insn) × (take (8 * y.slot) bytes ≡ encoding before) × TakesAll takes start before now)) (sym same) is
