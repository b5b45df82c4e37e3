use Rattle.std.proofs.Common.{◌≡◌, true, refl, ap, subst, sym, ◌∙◌}
use Rattle.host_types.specs.Configuration.{IsConfiguration}
use Rattle.pbft_codec.specs.declared.body.Body.{Body}
use Rattle.pbft_model.specs.Acts.{with_body}
use Rattle.pbft_model.specs.Tables.{add_if, change_key}
use Rattle.replica_stores.specs.Changes.{AreChanges, change_in}
use Rattle.replica_stores.specs.Stores.{KeptChanges}
use Rattle.replica_stores.proofs.Changing.{checked_change}
use Rattle.replica_stores.proofs.Results.{either, on_ok}
use Rattle.replica_stores.proofs.changes.Changes.keep.Goals as goal

pub invariant_of-self : goal.invariant_of-self
invariant_of-self c =
    let config = c.self.inside.config.value in
    let legal = subst (λ d. IsConfiguration d) c.deref.ensures c.f.ensures.legal in
    let under = c.requires.config ∙ sym (ap (λ (k : KeptChanges). k.config) c.self.view_is) in
    let here = checked_change config c.args.message.now c.in-ViewChange.change c.in-ViewChange.change.view.0 c.signer-signer.result.1 legal under c.body.ensures.checked (sym c.body.ensures.value ∙ c.in-ViewChange.is) refl (sym (ap (λ r. r.1) c.signer-signer.ensures.value)) in
    either c.put.result c.put.ensures.sound c.put.ensures.unchanged (λ all. all config here c.self.invariant) (λ same. subst (AreChanges config) (sym same) c.self.invariant)

pub returns-clause-kept : goal.returns-clause-kept
returns-clause-kept c = λ b is.
    let view : c.in-ViewChange.change.view.0 ≡ b.view.0 = ap (λ (x : Body). (change_in x).view.0) (sym c.in-ViewChange.is ∙ c.body.ensures.value ∙ is) in
    let signer : c.signer-signer.result.1 ≡ c.args.message.now.message.id = ap (λ r. r.1) c.signer-signer.ensures.value in
    on_ok c.put.result c.put.ensures.kept (λ put. λ i. record {
      config = (c.self.view_is i).config;
      changes = (put ∙ (λ j. add_if true (change_key (view j) (signer j)) (with_body c.args.message.now.message (change_in (is j))) (c.self.view_is j).changes)) i;
    })
