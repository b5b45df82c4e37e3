-- Statement: the states that the services of correct replicas come to, and the procedures that are installed in them.
use Rattle.std.specs.Prelude.{◌≡◌, ◌⊎◌, ℕ, List, ◌++◌}
use Rattle.service_model.specs.Sound.{NoneGoesWrong}
use Rattle.pbft_model.specs.Acts.{Act, after}
use Rattle.pbft_model.specs.Core.{Core}
use Rattle.pbft_model.specs.Families.{IsCorrect}
use Rattle.pbft_agreement.specs.Journals.{ComesTo, Journals}
use Rattle.pbft_model.specs.Rows.{Begins, Follows, Input, Row}
use Rattle.pbft_model.specs.Setup.{Setup}

-- From this core on an input came, and so many acts did what was due. The input's row may end there, or later; or the
-- input may halt the replica.
pub record IsOnTheWay (c : Setup) (me : ℕ) (s t : Core) : Type 0 where
  pub input : Input
  pub first : Act
  pub acts : List Act
  pub begins : Begins c input first
  pub follows : Follows c me (after c s first) acts t

-- A replica has this core behind some of its rows, or on the way of an input that comes there.
pub record HasCore (c : Setup) (j : Journals) (i : ℕ) (t : Core) : Type 0 where
  pub rows : List Row
  pub rest : List Row
  pub splits : j.rows i ≡ rows ++ rest
  pub core : Core
  pub comes : ComesTo c j i rows core
  pub there : (t ≡ core) ⊎ IsOnTheWay c i core t

-- Each correct replica's rows lead to a core; and in no state of its service a procedure is installed that can go wrong,
-- whoever is faulty and whatever anyone signed.
pub record StaysSafe (c : Setup) (j : Journals) : Type 0 where
  pub lawful : (i : ℕ) → IsCorrect c j.faulty i → (last : Core) × ComesTo c j i (j.rows i) last
  pub safe : (i : ℕ) → IsCorrect c j.faulty i → (s : Core) → HasCore c j i s → NoneGoesWrong s.service
