use Rattle.std.proofs.Common.{◌≡◌, ℕ, ◌+◌, ◌<◌, ◌≤◌, List, length, None, inl, inr, sym, ◌∙◌, ap, subst, arith}
use Rattle.std.proofs.lemmas.Bool.{cases_lt}
use Rattle.lms_tree.specs.Keys.{key_by, leaf_count, number_by, public_key_of_signer, signature_length, signature_number}
use Rattle.lms_tree.specs.Signature.{signature_fault}
use Rattle.lms_tree.specs.SigningState.{SigningState, total_of}
use Rattle.lms_tree.proofs.KeyLemmas.{length-signature_by, number-signature_by, valid-signature_by}
use Rattle.lms_tree.proofs.signer.Signer.sign.Goals as goal

not_last : (n total : ℕ) → n ≤ total → (n ≡ total → ⊥) → n < total
not_last n total most other =
    elim (cases_lt n total) [
      | inl below ↦ below
      | inr above ↦ absurd (other (omega arith))
    ]

-- a leaf is left
left : (c : goal.In-Ok) → c.self.inside.next_leaf < total_of c.self.inside.top.height c.self.inside.bottom
left c = not_last _ _ c.self.invariant.0 (λ all. c.if-number-total.false (all ∙ (ap leaf_count c.self.view_is ∙ sym c.total.ensures)))

pub returns-in-Ok-clause-valid : goal.returns-in-Ok-clause-valid
returns-in-Ok-clause-valid c =
    let s = c.self.inside in
    let body : List ℕ = c.args.body.now in
    subst (λ (t : SigningState). signature_fault (public_key_of_signer t) body c.in-Ok.sig.items ≡ None) c.self.view_is
    (ap (λ sig. signature_fault (key_by s.top.height s.bottom s.top.id s.top.secret) body sig) c.in-Ok.ensures.signature
    ∙ valid-signature_by s.top.height s.bottom s.top.id s.top.secret s.next_leaf body c.self.invariant.1 (left c))

pub returns-in-Ok-clause-length : goal.returns-in-Ok-clause-length
returns-in-Ok-clause-length c =
    let s = c.self.inside in
    subst (λ (t : SigningState). length c.in-Ok.sig.items ≡ signature_length t) c.self.view_is
    (ap length c.in-Ok.ensures.signature ∙ length-signature_by s.top.height s.bottom s.top.id s.top.secret s.next_leaf c.args.body.now)

pub returns-in-Ok-clause-once : goal.returns-in-Ok-clause-once
returns-in-Ok-clause-once c =
    let s = c.self.inside in
    let number = subst (λ (t : SigningState). signature_number t c.in-Ok.sig.items ≡ t.next_leaf) c.self.view_is
    (ap (number_by s.top.height s.bottom) c.in-Ok.ensures.signature
    ∙ number-signature_by s.top.height s.bottom s.top.id s.top.secret s.next_leaf c.args.body.now (left c)) in
    let before : s.next_leaf ≡ c.args.self.now.next_leaf = ap (λ (t : SigningState). t.next_leaf) c.self.view_is in
    let after : c.signature.new.self.next_leaf ≡ s.next_leaf + 1 = ap (λ (t : SigningState). t.next_leaf) c.in-Ok.ensures.same in
    (number, omega (arith, before, after))
