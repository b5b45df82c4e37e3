-- Statement: what the steps do that change the queue alone.
use Rattle.std.specs.Prelude.{ℕ, List, [], ◌++◌, map, filter, not, Option, Some, None}
use Rattle.script_text.specs.declared.script.Damage.{Damage}
use Rattle.script_text.specs.declared.script.Filter.{Filter}
use Rattle.script_text.specs.Node.{Node}
use Rattle.script_text.specs.declared.script.Payload.{Payload}
use Rattle.script_text.specs.declared.script.QueueEdit.{QueueEdit}
use Rattle.script_text.specs.declared.script.QueueEdit.TheVariants as edits
use Rattle.world_script.specs.Facts.{StageFacts}
use Rattle.world_queue.specs.Letters.{LetterFacts, copies, is_meant}
use Rattle.world_queue.specs.Lines.{nothing_queued_line}
use Rattle.world_queue.specs.Changes.{mangled, payload_bytes, raw_letter}

-- what is printed, and the messages on their way then
abbrev pub Edited : Type 0
Edited = List ℕ × List LetterFacts

abbrev pub unsaid : List LetterFacts → Edited
unsaid queue = ([], queue)

-- The letters that are meant are removed, or queued once more.
abbrev pub dropped : StageFacts → Filter → Edited
dropped s f = unsaid (filter (λ (l : LetterFacts). not (is_meant f l)) s.queue)

abbrev pub repeated : StageFacts → Filter → Edited
repeated s f = unsaid (s.queue ++ filter (is_meant f) s.queue)

-- A changed copy of each letter that is meant is queued.
abbrev pub mangled_by : StageFacts → Filter → Damage → Edited
mangled_by s f damage = unsaid (s.queue ++ map (mangled damage) (filter (is_meant f) s.queue))

abbrev pub raw_by : StageFacts → List Node → Option (List ℕ) → Edited
raw_by s to None = (nothing_queued_line, s.queue)
raw_by s to (Some bytes) = unsaid (s.queue ++ copies (raw_letter bytes) to)

-- Bytes are queued; a message that there isn't is not.
abbrev pub raws : StageFacts → List Node → Payload → Edited
raws s to payload = raw_by s to (payload_bytes s.named payload)

-- What comes of an edit.
abbrev pub edited : StageFacts → QueueEdit → Edited
edited s (edits.Drop f) = dropped s f
edited s (edits.Repeat f) = repeated s f
edited s (edits.Mangle f damage) = mangled_by s f damage
edited s (edits.Raw to payload) = raws s to payload
