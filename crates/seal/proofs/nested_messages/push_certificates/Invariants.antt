use Rattle.std.proofs.Common.{◌≡◌, ◌++◌, take}
use Rattle.std.specs.List.{flat_map}
use Rattle.seal.specs.Parts.{in_certificate}
use Rattle.seal.proofs.nested_messages.push_certificates.Given as goal

abbrev pub invariant-loop-proof : goal.invariant-loop-proof
invariant-loop-proof l = l.out.items ≡ l.fn.out.items ++ flat_map in_certificate (take l.proof-index l.proofs)
