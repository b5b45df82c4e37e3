use Rattle.std.proofs.Common.{◌≡◌, map, take}
use Rattle.tenant_lanes.specs.Dealing.{place_of}
use Rattle.tenant_lanes.proofs.dealing.places_of.Given as goal

abbrev pub invariant-loop-request : goal.invariant-loop-request
invariant-loop-request l = l.places.items ≡ map (place_of l.state) (take l.request-index l.requests)
