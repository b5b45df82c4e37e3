-- Statement: the number of each fault.
use Rattle.std.specs.Prelude.{ℕ}
use Rattle.quorum_log.specs.declared.fault.LogFault.{LogFault}
use Rattle.quorum_log.specs.declared.fault.LogFault.TheVariants.{OutsideMarks, OtherDigest, WrongView, Memory}

abbrev pub number_of : LogFault → ℕ
number_of OutsideMarks = 1
number_of OtherDigest = 2
number_of WrongView = 3
number_of Memory = 4
