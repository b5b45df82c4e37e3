use Rattle.std.proofs.Common.{sym, ◌∙◌, ap}
use Rattle.bpf_asm.specs.Lines.{body_statement}
use Rattle.bpf_asm.proofs.Statements.{ascii_line}
use Rattle.bpf_asm.proofs.line.read_line.Goals as goal

pub returns-then-is_ascii : goal.returns-then-is_ascii
returns-then-is_ascii c =
    c.read_body.ensures ∙ ap body_statement c.body_of.ensures ∙ sym (ascii_line c.args.line.now (sym c.if-is_ascii.ensures))
