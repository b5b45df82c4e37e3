-- Statement: which message isn't one that a correct replica changes views by.
use Rattle.std.specs.Prelude.{Bool, false, not}
use Rattle.pbft_codec.specs.declared.body.Body.{Body}
use Rattle.pbft_codec.specs.declared.body.Body.TheVariants as bodies
use Rattle.pbft_model.specs.Setup.{Setup}
use Rattle.pbft_model.specs.Validity.{is_valid, is_valid_new_view}

-- A ViewChange that isn't valid, or a NewView: its V isn't, or its O isn't what V gives.
abbrev pub is_invalid : Setup → Body → Bool
is_invalid c (bodies.ViewChange v) = not (is_valid c v)
is_invalid c (bodies.NewView n) = not (is_valid_new_view c n)
is_invalid c _ = false
