pub mod LastReplies
pub mod Doing
pub mod TenantSteps
