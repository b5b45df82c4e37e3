-- Statement: which messages are ViewChanges and NewViews.
use Rattle.pbft_codec.specs.declared.body.Body.{Body}
use Rattle.pbft_codec.specs.declared.body.Body.TheVariants as bodies

abbrev pub IsViewChange : Body → Type 0
IsViewChange (bodies.ViewChange v) = Unit {0}
IsViewChange _ = ⊥

abbrev pub IsNewView : Body → Type 0
IsNewView (bodies.NewView n) = Unit {0}
IsNewView _ = ⊥
