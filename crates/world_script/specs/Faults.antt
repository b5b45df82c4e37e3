-- Statement: how a script ends where a step does.
use Rattle.script_text.specs.ScriptKind.{ScriptKind}
use Rattle.script_text.specs.ScriptKind.TheVariants as kinds
use Rattle.world_script.specs.declared.fault.RunFault.{RunFault}
use Rattle.world_script.specs.declared.fault.RunFault.TheVariants.{TooManyDeliveries, Write, Memory}

abbrev pub kind_of : RunFault → ScriptKind
kind_of TooManyDeliveries = kinds.TooManyDeliveries
kind_of Write = kinds.Write
kind_of Memory = kinds.Memory
