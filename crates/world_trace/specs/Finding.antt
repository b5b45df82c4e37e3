-- Internal: how a search goes on, a seed at a time.
use Rattle.std.specs.Prelude.{◌≡◌, ◌≢◌, ℕ, ◌+◌, Bool, true, false, List, [], ◌∷◌, ◌++◌, Contains, map, take, Option, Some, None, String, Result, Ok, Err, ◌⊎◌, IfOk, length, slice_index_or, ◌<◌}
use Rattle.std.specs.List.{concat}
use Rattle.std.specs.Io.KnownBytes.{Appends}
use Rattle.std.specs.String.{string_bytes}
use Rattle.std.specs.declared.alloc.AllocError.{AllocError}
use Rattle.std.specs.declared.alloc.Global.{Global}
use Rattle.conflicts.specs.declared.blame.Blame.{Blame}
use Rattle.script_text.specs.Orders.{ordered}
use Rattle.script_text.specs.declared.script.Script.{Script}
use Rattle.world_chart.specs.Lines.{blame_line}
use Rattle.world_script.specs.Writing.{AppendsFront}
use Rattle.world_script.specs.declared.fault.RunFault.{RunFault}
use Rattle.world_script.specs.declared.fault.RunFault.TheVariants.{TooManyDeliveries, Write, Memory}
use Rattle.world_trace.specs.Exploring.{IsOutcome}
use Rattle.world_trace.specs.Searches.{AllAgree, AreBlameLines, AreChoices, AreNews, Searches, explored_line, outcome_line, seed_line}
use Rattle.world_trace.specs.declared.explore.Explored.{Explored}
use Rattle.world_trace.specs.declared.explore.Outcome.{Outcome}
use Rattle.world_trace.specs.declared.explore.Outcome.TheVariants as outcomes
use Rattle.world_trace.specs.declared.explore.Wanted.{Wanted}
use Rattle.world_trace.specs.declared.findings.Search.{Search}
use Rattle.world_trace.specs.declared.findings.Searched.{Searched}
use Rattle.world_trace.specs.declared.findings.Searched.TheVariants.{Agreed, Refused}

-- ---- blame

abbrev pub told_line : ℕ → Blame → List ℕ
told_line seed blame = seed_line seed (blame_line blame)

-- the lines of news
abbrev pub told : ℕ → List Blame → List ℕ
told seed news = concat (map (told_line seed) news)

-- Whether someone wasn't blamed so before; then he is now.
abbrev pub IsNew : Blame → List Blame → List Blame → Bool → Type 0
IsNew blame said later true = (Contains said blame → ⊥) × (later ≡ said ++ blame ∷ [])
IsNew blame said later false = Contains said blame × (later ≡ said)

-- Someone is blamed, and that is written if it is new.
abbrev pub TellsOne : ℕ → Blame → List Blame → List Blame → Option (List ℕ) → Option (List ℕ) → Result (Unit {0}) RunFault → Type 0
TellsOne seed blame said later old new (Ok done) =
    (Contains said blame × (later ≡ said) × (new ≡ old))
    ⊎ ((Contains said blame → ⊥) × (later ≡ said ++ blame ∷ []) × Appends old new (told_line seed blame))
TellsOne seed blame said later old new (Err Memory) = new ≡ old
TellsOne seed blame said later old new (Err Write) = (Contains said blame → ⊥) × AppendsFront old new (told_line seed blame)
TellsOne seed blame said later old new (Err TooManyDeliveries) = ⊥

-- All that is heard under a seed; or some of it.
abbrev pub TellsBlame : ℕ → List Blame → List Blame → List Blame → Option (List ℕ) → Option (List ℕ) → Result (Unit {0}) RunFault → Type 0
TellsBlame seed heard said later old new (Ok done) =
    (news : List Blame) × AreNews said heard news × (later ≡ said ++ news) × Appends old new (told seed news)
TellsBlame seed heard said later old new (Err Memory) =
    (part : List Blame) × (news : List Blame) × AreNews said part news × Appends old new (told seed news)
TellsBlame seed heard said later old new (Err Write) =
    (part : List Blame) × (news : List Blame) × AreNews said part news × AppendsFront old new (told seed news)
TellsBlame seed heard said later old new (Err TooManyDeliveries) = ⊥

-- ---- the end

-- The line of an outcome under a seed; none of the one that is wanted.
abbrev pub IsLineOf : ℕ → Outcome → Option (String Global) → Type 0
IsLineOf seed outcome None = outcome ≡ outcomes.Agreed
IsLineOf seed outcome (Some line) = (outcome ≢ outcomes.Agreed) × (string_bytes line ≡ seed_line seed (outcome_line outcome))

-- It is written how many seeds there were.
abbrev pub TellsEnd : ℕ → Option (List ℕ) → Option (List ℕ) → Result Searched RunFault → Type 0
TellsEnd many old new (Ok Agreed) = Appends old new (explored_line many)
TellsEnd many old new (Ok Refused) = ⊥
TellsEnd many old new (Err Memory) = new ≡ old
TellsEnd many old new (Err Write) = AppendsFront old new (explored_line many)
TellsEnd many old new (Err TooManyDeliveries) = ⊥

-- Such lines are written, or some of them.
abbrev pub TellsLines : (List (List ℕ) → Type 0) → Option (List ℕ) → Option (List ℕ) → Result (Unit {0}) RunFault → Type 0
TellsLines Are old new (Ok done) = (lines : List (List ℕ)) × Are lines × Appends old new (concat lines)
TellsLines Are old new (Err Memory) = (new ≡ old) ⊎ ((lines : List (List ℕ)) × Are lines × ((n : ℕ) × Appends old new (concat (take n lines))))
TellsLines Are old new (Err Write) = (lines : List (List ℕ)) × Are lines × AppendsFront old new (concat lines)
TellsLines Are old new (Err TooManyDeliveries) = ⊥

abbrev pub TellsChoices : Script → Search → Outcome → Option (List ℕ) → Option (List ℕ) → Result (Unit {0}) RunFault → Type 0
TellsChoices script search outcome old new result = TellsLines (AreChoices script search outcome) old new result

-- ---- a search

-- It has come to this seed: what is wanted holds under each seed before it, and this is said of them.
pub record Stands (script : Script) (search : Search) (next : ℕ) (said : List Blame) (old new : Option (List ℕ)) : Type 0 where
  pub heard : List (List Blame)
  pub counted : search.seeds.first + length heard ≡ next
  pub agree : AllAgree script search.wanted search.seeds.first next
  pub lines : List (List ℕ)
  pub lines_are : AreBlameLines search.seeds.first [] heard lines said
  pub written : Appends old new (concat lines)

-- It goes on from there to this seed, or ends.
abbrev pub TakesSeeds : Script → Search → ℕ → List Blame → Option (List ℕ) → Option (List ℕ) → Result Searched RunFault → Type 0
TakesSeeds script search next said old new (Ok Agreed) = Stands script search next said old new
TakesSeeds script search next said old new (Ok Refused) = Searches script search old new (Ok Refused)
TakesSeeds script search next said old new (Err fault) = Searches script search old new (Err fault)

-- Each came of the script under its seed, from one on; or memory ran out.
abbrev pub AreExplored : Script → Wanted → ℕ → List (Result Explored AllocError) → Type 0
AreExplored script wanted first batch =
    (i : ℕ) (d : Result Explored AllocError) → i < length batch → IfOk (slice_index_or batch i d) (λ explored. IsOutcome (ordered (first + i) script) wanted explored.outcome)
