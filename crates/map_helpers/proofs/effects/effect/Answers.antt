use Rattle.map_helpers.specs.Effects.{effect as made, written_bytes}
use Rattle.map_helpers.proofs.BytesRead.{del_read, emit_read, put_read}
use Rattle.map_helpers.proofs.effects.effect.Goals as goal

pub returns-in-Put-clause-effect : goal.returns-in-Put-clause-effect
returns-in-Put-clause-effect g c =
    put_read c.args.helper (g.P.MapPort.entries c.args.port.now) c.args.output.now.items c.args.client.0 c.args.first.now c.args.second.now (λ answer out. made answer.value (written_bytes answer.written) (g.P.MapPort.entries c.put.new.port) out) c.put.result c.in-Put.is c.requires c.put.ensures.effect

pub returns-in-Del-clause-effect : goal.returns-in-Del-clause-effect
returns-in-Del-clause-effect g c =
    del_read c.args.helper _ c.args.first.now c.args.second.now _ c.in-Del.is c.requires (c.del.ensures c.args.output.now.items c.args.client.0)

pub returns-in-Emit-clause-effect : goal.returns-in-Emit-clause-effect
returns-in-Emit-clause-effect g c =
    emit_read c.args.helper _ c.args.first.now c.args.second.now _ c.in-Emit.is c.requires (c.emit.ensures (g.P.MapPort.entries c.args.port.now) c.args.client.0)
