use Rattle.std.proofs.Common.{◌≡◌, ℕ, ◌++◌, List, [], ◌∷◌, Some, None, sym, ap, ◌∙◌, refl, arith}
use Rattle.service_model.specs.declared.version.Version.{Version}
use Rattle.service_model.specs.declared.version.Version.TheVariants.{First, Second}
use Rattle.service_model.specs.Words.{u64_bytes}
use Rattle.service_model.specs.Versions.{version_number, version_of}
use Rattle.service_model.proofs.PrefixFree.{free_eight, same_length}
use Rattle.service_core.proofs.reader.read_head.Goals as goal

-- a byte that is no version's
no_version : (n : ℕ) (version : Version) (r t : List ℕ) → version_of n ≡ None → n ∷ r ≡ version_number version ∷ t → ⊥
no_version n First r t none e = let number : n ≡ 1 = cc in let some : version_of n ≡ Some First = ap version_of number in cc
no_version n Second r t none e = let number : n ≡ 2 = cc in let some : version_of n ≡ Some Second = ap version_of number in cc

pub returns-in_default-of : goal.returns-in_default-of
returns-in_default-of c = λ begins. no_version c.in-Some.first.now begins.0.0 c.in-Some.rest.now (u64_bytes begins.0.1 ++ begins.1) (sym c.of.ensures ∙ c.in_default-of.is) (sym c.in-Some.ensures.cases.0 ∙ begins.3)

pub returns-then-number-ge-SEQUENCE_NUMBER_LIMIT : goal.returns-then-number-ge-SEQUENCE_NUMBER_LIMIT
returns-then-number-ge-SEQUENCE_NUMBER_LIMIT c = λ begins.
    let here = c.in_ok-number.ensures in
    let one = same_length (c.in-Some.first.now ∷ []) (version_number begins.0.0 ∷ []) c.in-Some.rest.now (u64_bytes begins.0.1 ++ begins.1) refl (sym c.in-Some.ensures.cases.0 ∙ begins.3) in
    let two = free_eight c.in_ok-number.number begins.0.1 c.in_ok-number.rest.now begins.1 here.0 (omega (arith, begins.2)) (sym here.1 ∙ one.1) in
    omega (arith, two.0, begins.2, c.if-number-ge-SEQUENCE_NUMBER_LIMIT.true)
