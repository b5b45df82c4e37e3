-- Statement: a client's session that is offered bytes.
use Rattle.std.specs.Prelude.{◌≡◌, ◌⊎◌, ℕ, List, Result, Ok, Err}
use Rattle.seal.specs.Opening.{CheckedMessage, opening}
use Rattle.seal.specs.declared.fault.SealFault.{SealFault}
use Rattle.seal.specs.declared.fault.SealFault.TheVariants as seals
use Rattle.client_session.specs.Sessions.{SessionState, offered}

-- What bytes make of a session: the message that they are, opened under its configuration, is offered to it. Bytes that
-- aren't opened, and memory that ran out, change nothing.
abbrev pub Hears : SessionState → List ℕ → Result (Unit {0}) SealFault → SessionState → Type 0
Hears s bytes (Ok done) t =
    (message : CheckedMessage) × (opening s.config bytes ≡ Ok message) × (t ≡ offered s message.message)
Hears s bytes (Err fault) t = ((fault ≡ seals.Memory) ⊎ (opening s.config bytes ≡ Err fault)) × (t ≡ s)
