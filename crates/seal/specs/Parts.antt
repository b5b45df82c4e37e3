-- Statement: the parts of a message, which are what each signer in it says.
use Rattle.std.specs.Prelude.{List, [], ◌∷◌, ◌++◌, map}
use Rattle.std.specs.List.{flat_map}
use Rattle.pbft_codec.specs.declared.body.Body.{Body}
use Rattle.pbft_codec.specs.declared.body.Body.TheVariants as bodies
use Rattle.pbft_codec.specs.declared.body.certificate.Certificate.{Certificate}
use Rattle.pbft_codec.specs.declared.body.view_change.ViewChange.{ViewChange}
use Rattle.pbft_codec.specs.declared.signed.Signed.{Signed}
use Rattle.pbft_codec.specs.Bodies.{Contents, Nothing, InViewChange, InNewView, contents_of}
use Rattle.seal.specs.declared.part.Part.{Part}

-- A signed body of one kind as a message.
abbrev pub as_message : {B : Type 0} → (B → Body) → Signed B → Signed Body
as_message kind m = record { role = m.role; id = m.id; body = kind m.body; sig = m.sig }

abbrev pub in_certificate : Certificate → List (Signed Body)
in_certificate c = as_message bodies.PrePrepare c.pre_prepare ∷ map (as_message bodies.Prepare) c.prepares

abbrev pub in_view_change : ViewChange → List (Signed Body)
in_view_change v = map (as_message bodies.Checkpoint) v.checkpoints ++ flat_map in_certificate v.certificates

-- A ViewChange, and what is nested in it.
abbrev pub with_nested : Signed ViewChange → List (Signed Body)
with_nested m = as_message bodies.ViewChange m ∷ in_view_change m.body

-- The messages that a body holds itself, from left to right.
abbrev pub children_in : Contents → List (Signed Body)
children_in Nothing = []
children_in (InViewChange v) = in_view_change v
children_in (InNewView n) = map (as_message bodies.ViewChange) n.changes ++ map (as_message bodies.PrePrepare) n.pre_prepares

abbrev pub children_of : Body → List (Signed Body)
children_of b = children_in (contents_of b)

-- The Checkpoints that a ViewChange holds, or the ViewChanges of a NewView hold, in order.
abbrev pub checkpoints_in : Contents → List (Signed Body)
checkpoints_in Nothing = []
checkpoints_in (InViewChange v) = map (as_message bodies.Checkpoint) v.checkpoints
checkpoints_in (InNewView n) = flat_map (λ m. map (as_message bodies.Checkpoint) m.body.checkpoints) n.changes

abbrev pub checkpoints_of : Body → List (Signed Body)
checkpoints_of b = checkpoints_in (contents_of b)

-- The PrePrepares that a NewView holds itself.
abbrev pub pre_prepares_in : Contents → List (Signed Body)
pre_prepares_in Nothing = []
pre_prepares_in (InViewChange v) = []
pre_prepares_in (InNewView n) = map (as_message bodies.PrePrepare) n.pre_prepares

abbrev pub pre_prepares_of : Body → List (Signed Body)
pre_prepares_of b = pre_prepares_in (contents_of b)

-- The messages nested in a body, each before those nested in it, from left to right.
abbrev pub descendants_in : Contents → List (Signed Body)
descendants_in Nothing = []
descendants_in (InViewChange v) = in_view_change v
descendants_in (InNewView n) = flat_map with_nested n.changes ++ map (as_message bodies.PrePrepare) n.pre_prepares

abbrev pub nested_in : Body → List (Signed Body)
nested_in b = descendants_in (contents_of b)

-- A message and all that is nested in it.
abbrev pub messages_in : Signed Body → List (Signed Body)
messages_in m = m ∷ nested_in m.body

-- What a message says, without its own signature.
abbrev pub part_of : Signed Body → Part
part_of m = record { role = m.role; id = m.id; body = m.body }

abbrev pub parts_of : Signed Body → List Part
parts_of m = map part_of (messages_in m)
