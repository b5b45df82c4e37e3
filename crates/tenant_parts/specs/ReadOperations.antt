-- Internal: what the operations and result codes that the code reads and writes stand for.
use Rattle.std.specs.Prelude.{ℕ}
use Rattle.tenant_parts.specs.declared.operation.Operation.{Operation as Read}
use Rattle.tenant_parts.specs.declared.operation.Operation.TheVariants.{Install as ReadInstall, Call as ReadCall, Bad as ReadBad}
use Rattle.tenant_parts.specs.declared.operation.ResultCode.{ResultCode}
use Rattle.tenant_parts.specs.declared.operation.ResultCode.TheVariants.{Done, BadOperation, Refused, NoProcedure, TooManyProcedures, ArgumentsTooLong}
use Rattle.service_model.specs.Operations.{Operation, Install, Call, Bad}

-- the operation that was read
abbrev pub meaning_of : Read → Operation
meaning_of (ReadInstall profile code) = Install profile code.now
meaning_of (ReadCall procedure arguments) = Call procedure arguments.now
meaning_of ReadBad = Bad

-- the byte of a result code
abbrev pub result_byte : ResultCode → ℕ
result_byte Done = 0
result_byte BadOperation = 1
result_byte Refused = 2
result_byte NoProcedure = 3
result_byte TooManyProcedures = 4
result_byte ArgumentsTooLong = 5
