use Rattle.std.proofs.Common.{[]}
use Rattle.std.proofs.lemmas.List.Elements.{All-nil, All-same}
use Rattle.world_trace.specs.Heard.{IsClaimed, RestsOn}
use Rattle.world_trace.proofs.Resting.{none_in}
use Rattle.world_trace.proofs.evidence.Evidence.new.Goals as goal

pub returns : goal.returns
returns c = record {
  said = none_in (IsClaimed []) _ c.new.ensures.empty;
  leavings = c.new-2.ensures [];
  news = All-same (RestsOn []) _ [] c.new-3.ensures.items (All-nil (RestsOn []));
}
