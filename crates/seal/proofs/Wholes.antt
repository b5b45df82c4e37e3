-- What is nested in a message is what it holds, each with what is nested in that.
use Rattle.std.proofs.Common.{◌≡◌, List, [], ◌∷◌, ◌++◌, refl, sym, ap, ◌∙◌}
use Rattle.std.specs.Prelude.{map}
use Rattle.std.specs.List.{flat_map}
use Rattle.std.proofs.lemmas.List.{map-append}
use Rattle.std.proofs.lemmas.List.Concat.{flat_map-append}
use Rattle.host_types.specs.Configuration.{Configuration}
use Rattle.pbft_codec.specs.declared.body.Body.{Body}
use Rattle.pbft_codec.specs.declared.body.Body.TheVariants as bodies
use Rattle.pbft_codec.specs.declared.body.certificate.Certificate.{Certificate}
use Rattle.pbft_codec.specs.declared.body.view_change.ViewChange.{ViewChange}
use Rattle.pbft_codec.specs.declared.signed.Signed.{Signed}
use Rattle.seal.specs.declared.part.Part.{Part}
use Rattle.seal.specs.Opening.{CheckedMessage}
use Rattle.pbft_codec.specs.Bodies.{Contents, Nothing, InViewChange, InNewView, contents_of}
use Rattle.seal.specs.Parts.{children_in, descendants_in, as_message, in_certificate, in_view_change, with_nested, children_of, nested_in, messages_in, part_of, parts_of}

leaves : {B : Type 0} (kind : B → Body) (ms : List (Signed B)) → ((b : B) → nested_in (kind b) ≡ []) → flat_map messages_in (map (as_message kind) ms) ≡ map (as_message kind) ms
leaves kind [] none = refl
leaves kind (m ∷ ms) none =
    ap (λ (inside : List (Signed Body)). (as_message kind m ∷ inside) ++ flat_map messages_in (map (as_message kind) ms)) (none m.body) ∙ ap (λ (rest : List (Signed Body)). as_message kind m ∷ rest) (leaves kind ms none)

-- two lists, of which each is the whole of what its messages hold
pair : (one two wide : List (Signed Body)) (whole : List (Signed Body)) → flat_map messages_in one ≡ wide → flat_map messages_in two ≡ whole → flat_map messages_in (one ++ two) ≡ wide ++ whole
pair one two wide whole p q =
    flat_map-append messages_in one two ∙ ap (λ (x : List (Signed Body)). x ++ flat_map messages_in two) p ∙ ap (λ (x : List (Signed Body)). wide ++ x) q

certificate_whole : (proof : Certificate) → flat_map messages_in (in_certificate proof) ≡ in_certificate proof
certificate_whole proof =
    ap (λ (rest : List (Signed Body)). as_message bodies.PrePrepare proof.pre_prepare ∷ rest) (leaves bodies.Prepare proof.prepares (λ _. refl))

certificates_whole : (proofs : List Certificate) → flat_map messages_in (flat_map in_certificate proofs) ≡ flat_map in_certificate proofs
certificates_whole [] = refl
certificates_whole (p ∷ ps) =
    pair (in_certificate p) (flat_map in_certificate ps) (in_certificate p) (flat_map in_certificate ps) (certificate_whole p) (certificates_whole ps)

view_change_whole : (v : ViewChange) → flat_map messages_in (in_view_change v) ≡ in_view_change v
view_change_whole v =
    pair (map (as_message bodies.Checkpoint) v.checkpoints) (flat_map in_certificate v.certificates) (map (as_message bodies.Checkpoint) v.checkpoints) (flat_map in_certificate v.certificates)
    (leaves bodies.Checkpoint v.checkpoints (λ _. refl)) (certificates_whole v.certificates)

changes_whole : (ms : List (Signed ViewChange)) → flat_map messages_in (map (as_message bodies.ViewChange) ms) ≡ flat_map with_nested ms
changes_whole [] = refl
changes_whole (m ∷ ms) = ap (λ (rest : List (Signed Body)). with_nested m ++ rest) (changes_whole ms)

contents_whole : (k : Contents) → flat_map messages_in (children_in k) ≡ descendants_in k
contents_whole Nothing = refl
contents_whole (InViewChange v) = view_change_whole v
contents_whole (InNewView n) =
    pair (map (as_message bodies.ViewChange) n.changes) (map (as_message bodies.PrePrepare) n.pre_prepares) (flat_map with_nested n.changes) (map (as_message bodies.PrePrepare) n.pre_prepares)
    (changes_whole n.changes) (leaves bodies.PrePrepare n.pre_prepares (λ _. refl))

pub children_whole : (b : Body) → flat_map messages_in (children_of b) ≡ nested_in b
children_whole b = contents_whole (contents_of b)

parts_of_all : (c : Configuration) (ms : List (Signed Body)) → map part_of (flat_map messages_in ms) ≡ flat_map (λ x. parts_of x.message) (map (λ m. let x : CheckedMessage = record { config = c; message = m } in x) ms)
parts_of_all c [] = refl
parts_of_all c (m ∷ ms) =
    map-append part_of (messages_in m) (flat_map messages_in ms) ∙ ap (λ (rest : List Part). parts_of m ++ rest) (parts_of_all c ms)

pub parts_by_children : (c : CheckedMessage) (messages_within : List CheckedMessage) → messages_within ≡ map (λ m. let x : CheckedMessage = record { config = c.config; message = m } in x) (children_of c.message.body) → parts_of c.message ≡ part_of c.message ∷ flat_map (λ x. parts_of x.message) messages_within
parts_by_children c messages_within is =
    ap (λ (rest : List Part). part_of c.message ∷ rest)
    (ap (map part_of) (sym (children_whole c.message.body)) ∙ parts_of_all c.config (children_of c.message.body) ∙ ap (flat_map (λ (x : CheckedMessage). parts_of x.message)) (sym is))
