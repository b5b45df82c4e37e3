-- Statement: how a script ends, but for what memory and streams do.
use Rattle.std.specs.Prelude.{ℕ, List}
use Rattle.script_text.specs.ScriptFault.{ScriptFault}
use Rattle.world_script.specs.Expecting.{IsUnexpected}
use Rattle.world_script.specs.Scripts.{Breaks, IsRefused, IsRun}
use Rattle.world_script.specs.Stages.{Overruns}

-- All its steps are done; the `expect` of a step, of this number, finds other lines; a step has too many deliveries; or the text is
-- refused.
pub data End : Type 0 where
  Whole : End
  Unexpected : ℕ → End
  Overrun : ℕ → End
  Refused : ScriptFault → End

-- It ends so, and this was printed.
abbrev pub EndsBy : List ℕ → End → List ℕ → Type 0
EndsBy input Whole text = IsRun input text
EndsBy input (Unexpected number) text = Breaks input number (IsUnexpected number) text
EndsBy input (Overrun number) text = Breaks input number (λ s. Overruns s.stage) text
EndsBy input (Refused fault) text = IsRefused input fault text
