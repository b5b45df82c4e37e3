use Rattle.std.proofs.Common.{◌≡◌, List, Option, None, Some, Box, Global, length, take, [], replicate, ap, rules}
use Rattle.std.specs.Prelude.{slice_set}
use Rattle.bpf_verifier.specs.declared.dataflow.Visit.{Visit}
use Rattle.bpf_verifier.proofs.Functions.{all_none}
use Rattle.bpf_verifier.proofs.dataflow.pending_at_entry.Goals as goal

pub returns : goal.returns
returns g c =
    let i = c.in_ok-resize_with.ensures.items in
    let long : length c.resize_with.new.self.items ≡ c.args.slots = search rules in
    let empty : take c.args.slots c.new-pending.result.items ≡ [] = search rules in
    let filled : c.resize_with.new.self.items ≡ replicate c.args.slots None = all_none _ _ (take c.args.slots c.new-pending.result.items) _ _ empty i (λ p x q s. search rules) long in
    ap (λ (l : List (Option (Box (Visit g.row.WORDS) Global))). slice_set l c.args.entry (Some c.args.visit)) filled
