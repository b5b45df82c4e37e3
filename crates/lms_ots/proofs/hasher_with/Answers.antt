use Rattle.std.proofs.lemmas.List.{append_assoc}
use Rattle.lms_ots.proofs.Hashing.{Holds_same}
use Rattle.lms_ots.proofs.hasher_with.Goals as goal

pub returns : goal.returns
returns c = Holds_same _ _ _ (simp append_assoc) (c.update.ensures _ c.hasher-hasher.ensures)
