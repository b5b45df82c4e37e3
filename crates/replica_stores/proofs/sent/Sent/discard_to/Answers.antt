use Rattle.std.proofs.Common.{◌≡◌, ◌∙◌, sym, ap, filter, map, List}
use Rattle.std.specs.Prelude.{ℕ, nat_lt}
use Rattle.host_types.specs.declared.SeqNo.{SeqNo}
use Rattle.replica_stores.specs.Sent.{fields_of, numbers_of, digests_of}
use Rattle.replica_stores.specs.Stores.{sent_above}
use Rattle.pbft_model.specs.Certificates.{Fields}
use Rattle.replica_stores.proofs.Lists.{filter_mapped}
use Rattle.replica_stores.proofs.sent.Sent.discard_to.Goals as goal

left_above : (number : ℕ) (old new : List SeqNo) → new ≡ filter (λ n. nat_lt number n.0) old → numbers_of new ≡ filter (nat_lt number) (numbers_of old)
left_above number old new e = ap numbers_of e ∙ sym (filter_mapped (nat_lt number) (λ (n : SeqNo). n.0) old)

pub returns : goal.returns
returns c =
    let number = c.args.number.0 in
    let proposals : map fields_of c.discard_proposals.new.proposals.items ≡ filter (λ (x : Fields). nat_lt number x.number) (map fields_of c.self.inside.proposed.items)
    = ap (map fields_of) c.discard_proposals.ensures ∙ sym (filter_mapped (λ (x : Fields). nat_lt number x.number) fields_of c.self.inside.proposed.items) in
    let prepares = left_above number c.self.inside.prepared.items c.discard.new.numbers.items c.discard.ensures in
    let commits = left_above number c.self.inside.committed.items c.discard-2.new.numbers.items c.discard-2.ensures in
    let states = left_above number c.self.inside.asked_states.items c.discard-3.new.numbers.items c.discard-3.ensures in
    (λ i. record { proposed = proposals i; prepared = prepares i; committed = commits i; asked_states = states i; asked_requests = digests_of c.self.inside.asked_requests.items }) ∙ ap (sent_above number) c.self.view_is
