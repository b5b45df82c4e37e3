pub mod Statuses
pub mod Folds
pub mod MapTexts
pub mod Numbers
pub mod Calls
pub mod Faults
pub mod Forms
