use Rattle.byz_world.proofs.RunLaws.{sound_worlds}
use Rattle.byz_world.proofs.laws.worlds_are_sound.Goals as goal

pub returns : goal.returns
returns c = sound_worlds
