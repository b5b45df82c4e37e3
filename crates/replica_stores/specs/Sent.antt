-- Layer: what a replica's lists of what it sent stand for.
use Rattle.std.specs.Prelude.{ℕ, List, map}
use Rattle.host_types.specs.declared.Digest.{Digest}
use Rattle.host_types.specs.declared.SeqNo.{SeqNo}
use Rattle.pbft_codec.specs.declared.body.pre_prepare.PrePrepare.{PrePrepare}
use Rattle.pbft_model.specs.Certificates.{Fields}
use Rattle.replica_stores.specs.declared.sent.Proposal.{Proposal}

abbrev pub fields_of : Proposal → Fields
fields_of p = record { view = p.view.0; number = p.number.0; digest = p.digest.0 }

abbrev pub proposal_of : PrePrepare → Proposal
proposal_of said = record { view = said.view; number = said.number; digest = said.digest }

abbrev pub numbers_of : List SeqNo → List ℕ
numbers_of ns = map (λ n. n.0) ns

abbrev pub digests_of : List Digest → List (List ℕ)
digests_of ds = map (λ d. d.0) ds
