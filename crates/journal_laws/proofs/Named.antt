-- What is read of messages that are blamed: claims of views, and leaves of signatures.
use Rattle.std.proofs.Common.{◌≡◌, ℕ, List, [], Option, Some, None, length, refl, sym, ap, ◌∙◌, arith}
use Rattle.std.specs.Prelude.{◌==◌, Bool, if◌then◌else◌}
use Rattle.std.proofs.lemmas.Bool.{eq-eqb}
use Rattle.std.proofs.lemmas.Option.{same_Some}
use Rattle.conflicts.specs.Claims.{Contradict}
use Rattle.conflicts.specs.Leaves.{leaf_above, leaf_by, leaf_named, leaf_of_levels, leaf_of_tree}
use Rattle.conflicts.specs.Views.{digest_of, view_claim_in, view_claim_of}
use Rattle.conflicts.specs.declared.claim.Claim.{Claim}
use Rattle.conflicts.specs.declared.claim.Topic.{Topic}
use Rattle.conflicts.specs.declared.claim.Topic.TheVariants as topics
use Rattle.lms_level.specs.Signature.{key_height}
use Rattle.lms_level.specs.declared.height.Height.{Height}
use Rattle.lms_level.proofs.SignatureLemmas.{key_height-public_key}
use Rattle.lms_tree.specs.Keys.{key_by, length_by, number_by, signature_by}
use Rattle.lms_tree.proofs.KeyLemmas.{length-signature_by}
use Rattle.lms_tree.proofs.PositionLemmas.{key_top, signed_key-part}
use Rattle.pbft_codec.specs.declared.body.Body.TheVariants as bodies
use Rattle.pbft_model.specs.Words.{Body, Digest, NewView, Role, Signed, View, ViewChange}
use Rattle.pbft_model.proofs.Found.{no_some}
use Rattle.journal_laws.specs.Views.{Differ}

-- ---- views

same_text : (m n : Signed Body) → m.role ≡ n.role → m.id ≡ n.id → m.body ≡ n.body → digest_of m ≡ digest_of n
same_text m n role id body =
    ap (λ (r : Role). digest_of (record { role = r; id = m.id; body = m.body; sig = m.sig })) role
    ∙ (ap (λ (i : ℕ). digest_of (record { role = n.role; id = i; body = m.body; sig = m.sig })) id
    ∙ ap (λ (b : Body). digest_of (record { role = n.role; id = n.id; body = b; sig = m.sig })) body)

abbrev kind : Topic → ℕ
kind (topics.ViewChange view) = 1
kind (topics.NewView view) = 2
kind _ = 0

abbrev view_of : Topic → View
view_of (topics.ViewChange view) = view
view_of (topics.NewView view) = view
view_of _ = record { 0 = 0 }

abbrev changing : ℕ → View → Digest → Claim
changing id view digest = record { signer = id; topic = topics.ViewChange view; digest = digest }

abbrev opening : ℕ → View → Digest → Claim
opening id view digest = record { signer = id; topic = topics.NewView view; digest = digest }

topics_meet : (x y one other : Claim) → Some x ≡ Some one → Some y ≡ Some other → one.topic ≡ other.topic → x.topic ≡ y.topic
topics_meet x y one other e e' same = ap (λ (c : Claim). c.topic) (same_Some x one e) ∙ (same ∙ sym (ap (λ (c : Claim). c.topic) (same_Some y other e')))

digests_meet : (x y one other : Claim) → Some x ≡ Some one → Some y ≡ Some other → x.digest ≡ y.digest → one.digest ≡ other.digest
digests_meet x y one other e e' same = sym (ap (λ (c : Claim). c.digest) (same_Some x one e)) ∙ (same ∙ ap (λ (c : Claim). c.digest) (same_Some y other e'))

differ_by : (x y : Body) (i j : ℕ) (d e : Digest) (one other : Claim) → view_claim_in i d x ≡ Some one → view_claim_in j e y ≡ Some other
    → Contradict one other → (x ≡ y → d ≡ e) → Differ x y
differ_by (bodies.ViewChange v) (bodies.ViewChange w) i j d e one other is is' c same = (
  ap view_of (topics_meet (changing i v.view d) (changing j w.view e) one other is is' c.1),
  λ equal. c.2 (digests_meet (changing i v.view d) (changing j w.view e) one other is is' (same (ap bodies.ViewChange equal))),
)
differ_by (bodies.NewView m) (bodies.NewView n) i j d e one other is is' c same = (
  ap view_of (topics_meet (opening i m.view d) (opening j n.view e) one other is is' c.1),
  λ equal. c.2 (digests_meet (opening i m.view d) (opening j n.view e) one other is is' (same (ap bodies.NewView equal))),
)
differ_by (bodies.ViewChange v) (bodies.NewView n) i j d e one other is is' c same =
    let k = ap kind (topics_meet (changing i v.view d) (opening j n.view e) one other is is' c.1) in absurd (omega (arith, k))
differ_by (bodies.NewView m) (bodies.ViewChange w) i j d e one other is is' c same =
    let k = ap kind (topics_meet (opening i m.view d) (changing j w.view e) one other is is' c.1) in absurd (omega (arith, k))
differ_by (bodies.ViewChange v) _ i j d e one other is is' c same = no_some other is'
differ_by (bodies.NewView m) _ i j d e one other is is' c same = no_some other is'
differ_by _ y i j d e one other is is' c same = no_some one is

signer_is : (id : ℕ) (d : Digest) (body : Body) (one : Claim) → view_claim_in id d body ≡ Some one → id ≡ one.signer
signer_is id d (bodies.ViewChange v) one is = ap (λ (c : Claim). c.signer) (same_Some (changing id v.view d) one is)
signer_is id d (bodies.NewView n) one is = ap (λ (c : Claim). c.signer) (same_Some (opening id n.view d) one is)
signer_is id d _ one is = no_some one is

pub views_differ : (m n : Signed Body) (one other : Claim) → m.role ≡ n.role → view_claim_of m ≡ Some one → view_claim_of n ≡ Some other
    → Contradict one other → Differ m.body n.body
views_differ m n one other role is is' c =
    let id : m.id ≡ n.id = signer_is m.id (digest_of m) m.body one is ∙ (c.0 ∙ sym (signer_is n.id (digest_of n) n.body other is')) in
    differ_by m.body n.body m.id n.id (digest_of m) (digest_of n) one other is is' c (λ body. same_text m n role id body)

-- ---- leaves

read_by : (top : Height) (bottom : Option Height) (sig : List ℕ) → length sig ≡ length_by top bottom → leaf_by top bottom sig ≡ Some (number_by top bottom sig)
read_by top bottom sig long = ap (λ (t : Bool). if t then Some (number_by top bottom sig) else None) (eq-eqb (length sig) (length_by top bottom) long)

pub leaf_read : (top : Height) (bottom : Option Height) (id secret : List ℕ) (n : ℕ) (text : List ℕ)
    → leaf_named (key_by top bottom id secret) (signature_by top bottom id secret n text) ≡ Some (number_by top bottom (signature_by top bottom id secret n text))
leaf_read top None id secret n text =
    let sig : List ℕ = signature_by top None id secret n text in
    ap (λ h. leaf_of_tree h sig) (key_height-public_key top id secret) ∙ read_by top None sig (length-signature_by top None id secret n text)
leaf_read top (Some bottom) id secret n text =
    let sig : List ℕ = signature_by top (Some bottom) id secret n text in
    ap (λ h. leaf_of_levels h sig) (ap key_height (key_top top id secret) ∙ key_height-public_key top id secret)
    ∙ (ap (λ h. leaf_above top h sig) (ap key_height (signed_key-part top bottom id secret n text) ∙ key_height-public_key bottom _ _)
    ∙ read_by top (Some bottom) sig (length-signature_by top (Some bottom) id secret n text))
