-- The message of a name, as raw bytes.
use Rattle.std.proofs.Common.{◌≡◌, ℕ, List, Option, Some, find, bytes_eq, sym, ap, ◌∙◌}
use Rattle.std.specs.Option.{option_map}
use Rattle.script_text.specs.declared.script.Damage.{Damage}
use Rattle.script_text.specs.declared.script.Payload.{Payload}
use Rattle.script_text.specs.declared.script.Payload.TheVariants.{Message}
use Rattle.world_queue.specs.Changes.{changed, payload_bytes, raw_letter}
use Rattle.world_queue.specs.Letters.{LetterFacts}
use Rattle.world_queue.specs.declared.named.Named.{Named}

pub message_letter : (messages : List Named) (payload : Payload) (name : List ℕ) (change : Option Damage) (n : Named) (letter : LetterFacts) (given bytes : List ℕ) → payload ≡ Message name change
    → Some n ≡ find (λ (m : Named). bytes_eq m.name name) messages → given ≡ n.letter.bytes → bytes ≡ changed change given → letter ≡ raw_letter bytes
    → Some letter ≡ option_map raw_letter (payload_bytes messages payload)
message_letter messages payload name change n letter given bytes is found at made same =
    ap Some (same ∙ ap raw_letter (made ∙ ap (changed change) at))
    ∙ ap (λ (o : Option Named). option_map raw_letter (option_map (λ (l : LetterFacts). changed change l.bytes) (option_map (λ (m : Named). m.letter) o))) found
    ∙ ap (λ (p : Payload). option_map raw_letter (payload_bytes messages p)) (sym is)
