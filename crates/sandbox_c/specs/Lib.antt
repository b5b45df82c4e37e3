pub mod Inside
pub mod Statuses
pub mod Verdicts
pub mod RunAnswers
pub mod MapAnswers
pub mod Texts
pub mod Slots
