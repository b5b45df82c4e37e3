-- Internal: the words of the crates below that the exports' contracts speak with.
pub use Rattle.host_types.specs.Configuration.{Configuration}
pub use Rattle.lms_tree.specs.Keys.{public_key_of_signer}
pub use Rattle.lms_tree.specs.SigningState.{SigningState}
pub use Rattle.client_session.specs.Sessions.{session_behind}
pub use Rattle.handles.specs.Accounts.{none_noted}
pub use Rattle.handles.specs.Members.{first_member}
pub use Rattle.handles.specs.Votes.{no_votes}
pub use Rattle.handles.specs.Repeating.{none_kept}
