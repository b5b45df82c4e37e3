-- Statement: an honest family of journals whose messages have all come: two replicas time out, the third joins them, and view 1
-- opens, while the fourth is faulty and silent.
use Rattle.std.specs.Prelude.{ℕ, zero, suc, ◌==◌, List, [], ◌∷◌, None}
use Rattle.pbft_model.specs.Words.{Signed, Body, NewView, as_message}
use Rattle.pbft_codec.specs.declared.body.Body.TheVariants as bodies
use Rattle.pbft_model.specs.Setup.{signed_by, signer_after}
use Rattle.pbft_model.specs.Acts.{Send, Enter, All}
use Rattle.pbft_model.specs.Rows.{TimedOut}
use Rattle.pbft_agreement.specs.Journals.{Journals}
use Rattle.pbft_agreement.specs.Example.{signer_of, the_setup}
use Rattle.pbft_agreement.specs.Episode.{change_by, Turn, taking, rows_of_turns}

-- a ViewChange for view 1, with a replica's first leaf
abbrev pub view_change : (ℕ → List ℕ) → ℕ → Signed Body
view_change secrets me = as_message bodies.ViewChange (change_by secrets me 0 [])

-- nothing was prepared, so that nothing is carried
abbrev pub the_new_view : (ℕ → List ℕ) → NewView
the_new_view secrets = record {
  view = record { 0 = 1 };
  changes = change_by secrets 0 0 [] ∷ change_by secrets 1 0 [] ∷ change_by secrets 2 0 [] ∷ [];
  pre_prepares = [];
}

abbrev pub new_view_by_1 : (ℕ → List ℕ) → Signed NewView
new_view_by_1 secrets = signed_by bodies.NewView (signer_after (signer_of secrets 1) 1) 1 (the_new_view secrets)

abbrev pub new_view : (ℕ → List ℕ) → Signed Body
new_view secrets = as_message bodies.NewView (new_view_by_1 secrets)

abbrev pub timing_out : (ℕ → List ℕ) → ℕ → Turn
timing_out secrets me = record { input = TimedOut; reading = None; acts = Send All (view_change secrets me) ∷ [] }

-- Replica 0 joins the two others, and replica 1, the primary of view 1, opens it with its ViewChange.
abbrev pub turns_by : (ℕ → List ℕ) → ℕ → List Turn
turns_by secrets zero =
    taking (view_change secrets 1) []
    ∷ taking (view_change secrets 2) (Send All (view_change secrets 0) ∷ [])
    ∷ taking (new_view secrets) (Enter (new_view_by_1 secrets) ∷ [])
    ∷ []
turns_by secrets (suc zero) =
    timing_out secrets 1
    ∷ taking (view_change secrets 2) []
    ∷ taking (view_change secrets 0) (Send All (new_view secrets) ∷ [])
    ∷ []
turns_by secrets (suc (suc zero)) =
    timing_out secrets 2
    ∷ taking (view_change secrets 1) []
    ∷ taking (view_change secrets 0) []
    ∷ taking (new_view secrets) (Enter (new_view_by_1 secrets) ∷ [])
    ∷ []
turns_by secrets (suc (suc (suc n))) = []

-- Replica 3 is faulty.
abbrev pub the_drained : (List ℕ → List ℕ) → (ℕ → List ℕ) → Journals
the_drained hash secrets =
    record { faulty = λ i. i == 3; signer = signer_of secrets; rows = λ i. rows_of_turns (the_setup hash secrets) (turns_by secrets i) }
