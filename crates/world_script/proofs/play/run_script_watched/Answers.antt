use Rattle.world_script.proofs.Reporting.{reported}
use Rattle.world_script.proofs.play.run_script_watched.Goals as goal

pub returns-in-Err : goal.returns-in-Err
returns-in-Err g c = reported _ c.in-Err.fault c.report.result _ _ _ c.in-Err.ensures c.report.ensures
