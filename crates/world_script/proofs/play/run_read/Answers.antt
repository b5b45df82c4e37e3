use Rattle.world_script.proofs.play.run_read.Goals as goal

pub returns-in-Err : goal.returns-in-Err
returns-in-Err g c = (c.in-Err.fault, g.O.Write.contents c.run_steps.new.writer, c.in-Err.ensures, c.report-reported.ensures)
