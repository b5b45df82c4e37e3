-- Statement: the number and the name of each fault of an audit.
use Rattle.std.specs.Prelude.{ℕ, List, codes}
use Rattle.byz_world.specs.declared.audit_fault.AuditFault.{AuditFault}
use Rattle.byz_world.specs.declared.audit_fault.AuditFault.TheVariants.{Differ, Gap, Unrecorded, Memory}

abbrev pub audit_number_of : AuditFault → ℕ
audit_number_of Differ = 1
audit_number_of Gap = 2
audit_number_of Unrecorded = 3
audit_number_of Memory = 4

abbrev pub audit_name_of : AuditFault → List ℕ
audit_name_of Differ = codes "Differ"
audit_name_of Gap = codes "Gap"
audit_name_of Unrecorded = codes "Unrecorded"
audit_name_of Memory = codes "Memory"
