use Rattle.std.proofs.Common.{◌≡◌}
use Rattle.std.specs.Prelude.{map}
use Rattle.seal.specs.Opening.{CheckedMessage}
use Rattle.seal.proofs.opening.messages_within.Given as goal

abbrev pub invariant-loop-inside : goal.invariant-loop-inside
invariant-loop-inside l = l.nested.items ≡ map (λ m. let x : CheckedMessage = record { config = l.message.config; message = m } in x) l.yielded
