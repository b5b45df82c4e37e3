-- Statement: the number of each fault, and what a call answers.
use Rattle.std.specs.Prelude.{ℕ, Option, Some, None, Result, Ok, Err}
use Rattle.quorum_log.specs.Validity as rules
use Rattle.view_change.specs.declared.fault.ViewFault.{ViewFault}
use Rattle.view_change.specs.declared.fault.ViewFault.TheVariants.{Proof, Certificate, View, Order, Memory}

abbrev pub number_of : ViewFault → ℕ
number_of Proof = 1
number_of Certificate = 2
number_of View = 3
number_of Order = 4
number_of Memory = 5

-- What is answered where a message has this fault, or none. It is never `Memory`.
abbrev pub answer : Option rules.ViewFault → Result (Unit {0}) ViewFault
answer None = Ok tt
answer (Some rules.View) = Err View
answer (Some rules.Proof) = Err Proof
answer (Some rules.Certificates) = Err Certificate
answer (Some rules.Order) = Err Order
