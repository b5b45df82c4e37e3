-- Statement: what a NewView is made of.
pub use Rattle.view_change.specs.declared.opening.Opening.{Opening}
