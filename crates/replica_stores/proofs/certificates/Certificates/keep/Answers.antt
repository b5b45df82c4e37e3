use Rattle.std.proofs.Common.{ap, subst, sym, ◌∙◌}
use Rattle.pbft_model.specs.Tables.{number_key, with_entry}
use Rattle.view_change.specs.Log.{as_checked}
use Rattle.replica_stores.specs.Certificates.{AreCheckedCertificates, certificate_in}
use Rattle.replica_stores.specs.Stores.{KeptCertificates}
use Rattle.replica_stores.proofs.Certifying.{certificate_again, is_checked}
use Rattle.replica_stores.proofs.Results.{either, on_ok}
use Rattle.replica_stores.proofs.certificates.Certificates.keep.Goals as goal

pub invariant_of-self : goal.invariant_of-self
invariant_of-self c =
    let config = ap (λ (k : KeptCertificates). k.config) c.self.view_is in
    let under = c.requires.1 ∙ ap (λ d. as_checked d c.requires.0) (sym config) in
    either c.put.result c.put.ensures.checked c.put.ensures.unchanged
    (λ all. all c.self.inside.config.value (is_checked c.self.inside.config.value c.requires.0 c.args.certificate under) c.self.invariant)
    (λ same. subst (AreCheckedCertificates c.self.inside.config.value) (sym same) c.self.invariant)

pub returns-clause-kept : goal.returns-clause-kept
returns-clause-kept c = λ x is.
    let own = ap certificate_in is ∙ certificate_again c.args.self.now.config x in
    on_ok c.put.result c.put.ensures.kept (λ put. λ i. record {
      config = (c.self.view_is i).config;
      kept = (put ∙ (λ j. with_entry (c.self.view_is j).kept (number_key c.args.number.0) (own j))) i;
    })
