-- Statement: what an `expect` compares, and where that differs.
use Rattle.std.specs.Prelude.{◌≡◌, ℕ, ◌+◌, ◌==◌, List, [], ◌∷◌, ◌++◌, length, Option, Some, None, ◌⊎◌, if◌then◌else◌, codes, decimal}
use Rattle.script_text.specs.declared.script.NamedStep.{NamedStep}
use Rattle.script_text.specs.declared.script.Step.{Step}
use Rattle.script_text.specs.declared.script.Step.TheVariants as steps
use Rattle.world_script.specs.Facts.{StageFacts}
use Rattle.world_script.specs.Stages.{Begins, after_naming}
use Rattle.world_script.specs.Starts.{start_of}
use Rattle.script_text.specs.Heads.{HeadFacts}

-- What a run holds between two steps: the stage, and what was printed since the last `expect`.
pub record Scene : Type 0 where
  pub stage : StageFacts
  pub unread : List ℕ

abbrev pub first_scene : HeadFacts → Scene
first_scene h = record { stage = start_of h; unread = [] }

-- the line of the first byte where two texts differ, or one of them ends, if they stand in this line
abbrev pub differing_from : ℕ → List ℕ → List ℕ → Option ℕ
differing_from line [] [] = None
differing_from line [] (c ∷ cs) = Some line
differing_from line (b ∷ bs) [] = Some line
differing_from line (b ∷ bs) (c ∷ cs) =
    if b == c then differing_from (if b == 10 then line + 1 else line) bs cs else Some line

-- the first line that differs, lines counted from 1
abbrev pub differing_line : List ℕ → List ℕ → Option ℕ
differing_line expected printed = differing_from 1 expected printed

-- where an `expect` finds other lines: its step, and which of its lines is the first that differs
abbrev pub unexpected_line : ℕ → ℕ → List ℕ
unexpected_line step line = codes "expect fault step " ++ (decimal step ++ (codes " line " ++ (decimal line ++ codes "\n")))

-- An `expect` finds its lines; any other step may follow whatever was printed.
abbrev pub Holds : List ℕ → Step → Type 0
Holds unread (steps.Expect expected) = differing_line expected unread ≡ None
Holds unread other = Unit {0}

-- what is unread behind a step that printed this
abbrev pub unread_behind : List ℕ → Step → List ℕ → List ℕ
unread_behind unread (steps.Expect expected) text = []
unread_behind unread other text = unread ++ text

-- what is held behind a step that printed this and led to this stage
abbrev pub behind : Scene → NamedStep → List ℕ → StageFacts → Scene
behind s x text t = record { stage = after_naming (length s.stage.queue) x t; unread = unread_behind s.unread x.step text }

-- An `expect`, the step of this number, finds other lines, and says which.
abbrev pub IsUnexpected : ℕ → Scene → Step → List ℕ → Type 0
IsUnexpected number s (steps.Expect expected) text =
    (line : ℕ) × (differing_line expected s.unread ≡ Some line) × (text ≡ unexpected_line number line)
IsUnexpected number s other text = ⊥

-- What a step may have been about to print.
abbrev pub MayPrint : ℕ → Scene → Step → List ℕ → Type 0
MayPrint number s step text = Begins s.stage step text ⊎ IsUnexpected number s step text
