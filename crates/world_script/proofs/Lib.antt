mod Deliveries
mod Delivering
mod Differing
mod Entries
mod Events
mod Hearing
mod Honest
mod Legal
mod LegalHeads
mod Listed
mod Naming
mod OneForEach
pub mod Playing
mod Reporting
mod Printed
mod Ranges
mod Telling
mod Turns
pub mod Written
mod FaultLine
