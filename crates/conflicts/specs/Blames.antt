-- Statement: who is blamed.
use Rattle.std.specs.Prelude.{ℕ}
use Rattle.conflicts.specs.declared.blame.Blame.{Blame}
use Rattle.conflicts.specs.declared.blame.Blame.TheVariants as blames

abbrev pub signer_of : Blame → ℕ
signer_of (blames.Twice one other) = one.signer
signer_of (blames.Hidden change view number digest) = change.signer
signer_of (blames.Invalid claim) = claim.signer
