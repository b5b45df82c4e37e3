use Rattle.std.proofs.Common.{ap, ◌∙◌}
use Rattle.std.specs.Prelude.{bit_or}
use Rattle.std.proofs.lemmas.Nat.{one_shl}
use Rattle.std.proofs.Common.{arith}
use Rattle.ballots.proofs.Masks.{or_bit}
use Rattle.ballots.proofs.votes.with_bit.Goals as goal

pub returns : goal.returns
returns c = ap (bit_or c.args.mask) (one_shl c.args.signer 16 (omega (arith, c.requires.listed))) ∙ or_bit c.args.mask c.args.signer c.requires.not_set
