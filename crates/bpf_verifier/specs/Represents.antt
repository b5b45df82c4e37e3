-- Statement: what the verifier's arrays say of an abstract state.
use Rattle.std.specs.Prelude.{◌≡◌, ℕ, Bool, List, Option, Some, None}
use Rattle.reg_ranges.specs.Ranges as reg
use Rattle.reg_ranges.specs.declared.range.Range.{Range}
use Rattle.bpf_model.specs.Words.{Words}
use Rattle.bpf_model.specs.AbstractState as model
use Rattle.bpf_verifier.specs.declared.abstract_state.AbstractState.{AbstractState}
use Rattle.bpf_verifier.specs.declared.registers.RegisterRanges.{RegisterRanges}
use Rattle.bpf_verifier.specs.FrameBytes.{AreBitsOf}
use Rattle.bpf_verifier.specs.Registers.{range_at}
use Rattle.bpf_verifier.specs.StackWords.{AreWordsOf}

-- The range of each register that has one.
abbrev pub ranges_of : RegisterRanges → ℕ → Option reg.Range
ranges_of ranges r = range_at ranges.lo ranges.hi ranges.known r

-- What is known of the stack: the bytes that are initialized, and its words.
pub record Stack : Type 0 where
  pub initialized : ℕ → Bool
  pub words : Words

-- The bits are those of the initialized bytes, and the array has the words that are followed, so many.
pub record IsStackOf (bits : List ℕ) (n : ℕ) (ranges : List Range) (stack : Stack) : Type 0 where
  pub initialized_are : AreBitsOf bits stack.initialized
  pub words_are : AreWordsOf n ranges stack.words

-- The state of these registers, with this stack.
abbrev pub state_of : RegisterRanges → Stack → model.AbstractState
state_of ranges stack =
    record { ranges = ranges_of ranges; initialized = stack.initialized; words = stack.words }

-- The ranges are those of the state, the bits are those of the initialized bytes of the stack, and the array has its
-- words.
pub record Represents {n : ℕ} (state : AbstractState n) (of : model.AbstractState) : Type 0 where
  pub ranges_are : (r : ℕ) → ranges_of state.ranges r ≡ of.ranges r
  pub initialized_are : AreBitsOf state.initialized.words of.initialized
  pub words_are : AreWordsOf n state.words.ranges of.words

-- The same, where there may be no state.
abbrev pub RepresentsOption : {n : ℕ} → Option (AbstractState n) → Option model.AbstractState → Type 0
RepresentsOption None None = Unit {0}
RepresentsOption None (Some of) = ⊥
RepresentsOption (Some state) None = ⊥
RepresentsOption (Some state) (Some of) = Represents state of

-- A state after one more edge: the edge's, or the join of both.
abbrev pub join_with : Option model.AbstractState → model.AbstractState → model.AbstractState
join_with None state = state
join_with (Some before) state = model.join before state
