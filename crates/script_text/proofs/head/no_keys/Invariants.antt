use Rattle.std.proofs.Common.{◌≡◌, replicate}
use Rattle.script_text.specs.Heads.{no_key}
use Rattle.script_text.proofs.head.no_keys.Given as goal

abbrev pub invariant-loop : goal.invariant-loop
invariant-loop l = l.keys.items ≡ replicate l.counter no_key
