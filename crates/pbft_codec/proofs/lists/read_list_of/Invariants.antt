use Rattle.std.proofs.Common.{◌≡◌, ◌-◌}
use Rattle.pbft_codec.specs.Reading.{many_at}
use Rattle.pbft_codec.proofs.Loops.{with_front}
use Rattle.pbft_codec.proofs.lists.read_list_of.Given as goal

abbrev pub invariant-loop : goal.invariant-loop
invariant-loop g l =
    let reading = g.T.Codec.reading in
    with_front l.values.items (many_at (λ _. reading) (λ _. 0) (l.count - l.counter) 0 l.rest) ≡ many_at (λ _. reading) (λ _. 0) l.count 0 l.bytes
