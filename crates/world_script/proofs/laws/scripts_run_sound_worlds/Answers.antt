use Rattle.script_text.specs.Orders.{ordered}
use Rattle.world_script.proofs.Events.{on_run}
use Rattle.world_script.proofs.LegalHeads.{script_legal}
use Rattle.world_script.proofs.laws.scripts_run_sound_worlds.Goals as goal

pub returns-clause-own : goal.returns-clause-own
returns-clause-own c = λ dialect files input script t is p. on_run script t (script_legal dialect files input script is) p

pub returns-clause-seeded : goal.returns-clause-seeded
returns-clause-seeded c = λ dialect files input script seed t is p. on_run (ordered seed script) t (script_legal dialect files input script is) p
