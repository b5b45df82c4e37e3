use Rattle.bpf_decode.proofs.Encodings.{read_is_only}
use Rattle.bpf_decode.proofs.code.decode_all.Goals as goal

pub returns-clause-only : goal.returns-clause-only
returns-clause-only c =
    read_is_only c.args.bytes.now c.read_code.result c.read_code.ensures.found c.read_code.ensures.refused
