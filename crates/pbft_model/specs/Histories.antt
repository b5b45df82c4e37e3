-- Statement: histories of acts.
use Rattle.std.specs.Prelude.{◌≡◌, ◌⊎◌, ℕ, List, [], ◌∷◌, map, Option}
use Rattle.pbft_model.specs.Words.{SigningState, Signed, Body, PrePrepare, Part, part_of, as_message}
use Rattle.pbft_codec.specs.declared.body.Body.TheVariants as bodies
use Rattle.pbft_model.specs.Sequential.{Service}
use Rattle.pbft_model.specs.Setup.{Setup}
use Rattle.pbft_model.specs.Core.{Core, start_of}
use Rattle.pbft_model.specs.Acts.{Act, Take, Send, after}
use Rattle.pbft_model.specs.Rules.{Allowed}

-- The core after acts, the newest first.
abbrev pub core_after : Setup → SigningState → List Act → Core
core_after c signer [] = start_of c signer
core_after c signer (a ∷ acts) = after c (core_after c signer acts) a

-- A history: each act was allowed where it was done.
abbrev pub IsHistory : Setup → ℕ → SigningState → List Act → Type 0
IsHistory c me signer [] = Unit {0}
IsHistory c me signer (a ∷ acts) = IsHistory c me signer acts × Allowed c me (core_after c signer acts) a

abbrev pub IsIn : {X : Type 0} → X → List X → Type 0
IsIn x [] = ⊥
IsIn x (y ∷ ys) = (x ≡ y) ⊎ IsIn x ys

-- an earlier point of a history
abbrev pub IsEarlier : List Act → List Act → Type 0
IsEarlier early [] = early ≡ []
IsEarlier early (a ∷ acts) = (early ≡ a ∷ acts) ⊎ IsEarlier early acts

-- The PrePrepares that a NewView's signer signs with it.
abbrev pub listed_in : Body → List (Signed PrePrepare)
listed_in (bodies.NewView b) = b.pre_prepares
listed_in _ = []

-- The parts that are signed afresh in an own message: what it says itself, and the PrePrepares inside an own NewView.
-- What else is nested in it was signed before, or by others.
abbrev pub signed_in : Signed Body → List Part
signed_in m = part_of m ∷ map (λ p. part_of (as_message bodies.PrePrepare p)) (listed_in m.body)

abbrev pub signed_by_act : Act → List Part
signed_by_act (Send to m) = signed_in m
signed_by_act _ = []

-- The replica signed the part in this history.
abbrev pub HasSigned : Part → List Act → Type 0
HasSigned p [] = ⊥
HasSigned p (a ∷ acts) = IsIn p (signed_by_act a) ⊎ HasSigned p acts

-- The message was taken in this history.
abbrev pub HasTaken : Signed Body → List Act → Type 0
HasTaken m [] = ⊥
HasTaken m (a ∷ acts) = ((reading : Option Service) × (a ≡ Take m reading)) ⊎ HasTaken m acts
