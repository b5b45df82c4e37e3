use Rattle.service_model.specs.Encoding.{encoded_reply}
use Rattle.service_model.specs.Bounded.{IsBoundedReply}
use Rattle.service_core.proofs.Encoded.{HasRead}
use Rattle.service_core.proofs.reader.read_replies_of.Given as goal

abbrev pub invariant-loop : goal.invariant-loop
invariant-loop l = HasRead encoded_reply (λ reply. IsBoundedReply l.taken reply.client.0 reply) l.bytes l.replies.items l.counter l.rest
