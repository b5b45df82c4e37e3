use Rattle.world_queue.proofs.Lists.{some_meant}
use Rattle.world_script.proofs.stage.Stage.be_late.Goals as goal

pub returns : goal.returns
returns g c = (
  record {
    more = some_meant c.args.filter.now c.args.self.now.queue c.requires;
    times_out = c.in_ok-time_out_at.ensures.0;
    text_is = c.new.ensures.bytes;
  },
  c.in_ok-time_out_at.ensures.1,
)
