use Rattle.std.proofs.Common.{◌≡◌, ℕ, List, [], ◌++◌, sym, ◌∙◌, ap, subst}
use Rattle.std.proofs.lemmas.List.{append-nil, append_assoc, nil_from_length}
use Rattle.std.proofs.lemmas.Bool.{eqb-true}
use Rattle.lms_tree.specs.Verifying.{IsFed}
use Rattle.lms_tree.specs.declared.validity.Verifier.{Verifier}
use Rattle.seal.proofs.signature.update_and_copy.Goals as goal

-- one piece more was fed
more : (before after : Verifier) (body unhashed piece later text : List ℕ) → unhashed ≡ piece ++ later
    → ((b : List ℕ) → IsFed before b → IsFed after (b ++ piece))
    → ((x : List ℕ) × IsFed before (body ++ x) × (x ++ unhashed ≡ text))
    → (x : List ℕ) × IsFed after (body ++ x) × (x ++ later ≡ text)
more before after body unhashed piece later text cut fed (x, holds, whole) =
    (x ++ piece, subst (IsFed after) (append_assoc body x piece) (fed (body ++ x) holds), append_assoc x piece later ∙ (ap (λ t. x ++ t) (sym cut) ∙ whole))

-- nothing is left to feed
all_fed : (verifier : Verifier) (body unhashed text : List ℕ) → unhashed ≡ []
    → ((x : List ℕ) × IsFed verifier (body ++ x) × (x ++ unhashed ≡ text)) → IsFed verifier (body ++ text)
all_fed verifier body unhashed text none (x, holds, whole) =
    let P : List ℕ → Type 0 = λ t. IsFed verifier (body ++ t) in
    subst P (sym (append-nil x) ∙ (ap (λ t. x ++ t) (sym none) ∙ whole)) holds

pub loop-unhashed-preserved : goal.loop-unhashed-preserved
loop-unhashed-preserved c =
    let i = c.loop-unhashed.invariant in
    let copied : List ℕ = c.loop-unhashed.copy.items in
    let rest : List ℕ = c.split_at-in-loop-unhashed.result.1.now in
    record {
      of_key = c.update.ensures.same.0 ∙ i.of_key;
      of_sig = c.update.ensures.same.1 ∙ i.of_sig;
      fed = λ body holds. more c.loop-unhashed.verifier c.update.new.self body _ c.split_at.result.0.now _ _ c.split_at.ensures.by_index.0
          (λ b held. c.update.ensures.fed b held) (i.fed body holds);
      copied = ap (λ t. t ++ rest) c.in_ok-extend_from_slice.ensures.items
          ∙ (append_assoc copied c.split_at-in-loop-unhashed.result.0.now rest
          ∙ (ap (λ t. copied ++ t) (sym c.split_at-in-loop-unhashed.ensures.by_index.0) ∙ i.copied));
    }

pub returns-clause-fed : goal.returns-clause-fed
returns-clause-fed c body holds =
    let none = eqb-true _ _ (sym c.is_empty.ensures ∙ c.loop-unhashed-test.false) in
    all_fed c.loop-unhashed.verifier body _ _ (nil_from_length _ none) (c.loop-unhashed.invariant.fed body holds)
