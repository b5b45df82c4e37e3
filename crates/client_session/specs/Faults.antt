-- Statement: the number of each fault.
use Rattle.std.specs.Prelude.{ℕ}
use Rattle.lms_tree.specs.declared.fault.SignFault.{SignFault}
use Rattle.lms_tree.specs.declared.fault.SignFault.TheVariants as signing
use Rattle.client_session.specs.declared.fault.SessionFault.{SessionFault}
use Rattle.client_session.specs.declared.fault.SessionFault.TheVariants.{Exhausted, NoQuorum, Closed, Memory}

abbrev pub number_of : SessionFault → ℕ
number_of Exhausted = 1
number_of NoQuorum = 2
number_of Closed = 3
number_of Memory = 4

-- what a failure to sign is to a session
abbrev pub of_signing : SignFault → SessionFault
of_signing signing.Exhausted = Exhausted
of_signing signing.Memory = Memory
