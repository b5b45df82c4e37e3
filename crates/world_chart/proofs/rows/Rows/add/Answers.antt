use Rattle.world_chart.proofs.Drawing.{on_ok}
use Rattle.world_chart.proofs.rows.Rows.add.Goals as goal

pub returns-clause-rows : goal.returns-clause-rows
returns-clause-rows c = on_ok c.add_one.result _ _ (λ e. (c.add_view_of.new.self.rows.items, c.in_ok-add_view_of.ensures.rows, e)) c.add_one.ensures.rows
