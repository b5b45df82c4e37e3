pub mod Entries
pub mod PutAnswer
pub mod TenantEntries
