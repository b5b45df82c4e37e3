use Rattle.std.proofs.Common.{◌≡◌, ◌-◌, ◌+◌}
use Rattle.pbft_codec.specs.Reading.{many_at, signed_at}
use Rattle.pbft_codec.proofs.Loops.{with_front}
use Rattle.pbft_codec.proofs.lists.read_ascending_of.Given as goal

abbrev pub invariant-loop : goal.invariant-loop
invariant-loop g l =
    let reading = g.B.Codec.reading in
    with_front l.values.items (many_at (signed_at reading) (λ m. m.id + 1) (l.count - l.counter) l.low l.rest) ≡ many_at (signed_at reading) (λ m. m.id + 1) l.count 0 l.bytes
