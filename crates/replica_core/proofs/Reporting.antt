-- The ViewChange that is made of what a replica keeps.
use Rattle.std.proofs.Common.{◌≡◌, ℕ, Bool, cond, List, [], ◌∷◌, refl, sym, ap, subst, ◌∙◌}
use Rattle.std.specs.Prelude.{map}
use Rattle.std.proofs.lemmas.Bool.{eq-eqb}
use Rattle.host_types.specs.Configuration.{Configuration}
use Rattle.host_types.specs.declared.SeqNo.{SeqNo}
use Rattle.host_types.specs.declared.View.{View}
use Rattle.pbft_codec.specs.declared.body.Body.TheVariants as bodies
use Rattle.pbft_model.specs.Words.{Certificate, Checkpoint, Signed}
use Rattle.pbft_model.specs.Tables.{entries_in}
use Rattle.checkpoints.specs.Kept.{proof_at, proof_for, proof_list, stable_digest}
use Rattle.replica_stores.specs.CheckedCertificate.{CheckedCertificate}
use Rattle.replica_stores.specs.Log.{as_checked}
use Rattle.seal.specs.Lists.{CheckedMessages}
use Rattle.seal.specs.Parts.{as_message}
use Rattle.replica_stores.specs.Made.{IsCertificateOf, IsMadeOf, OneForOne}
use Rattle.replica_stores.specs.Sealable.{AreUnder}
use Rattle.replica_core.specs.Replicas.{AreOne, KeptReplica, Parts, kept_in}
use Rattle.replica_core.specs.OwnViewChange.{own_view_change}

each_checked : (c : Configuration) (xs : List Certificate) → OneForOne IsCertificateOf (map (as_checked c) xs) xs
each_checked c [] = tt
each_checked c (x ∷ xs) = (record { pre_prepare = refl; prepares = refl }, each_checked c xs)

each_under : (c d : Configuration) (xs : List Certificate) → c ≡ d → AreUnder d (map (as_checked c) xs)
each_under c d [] e = tt
each_under c d (x ∷ xs) e = ((e, e), each_under c d xs e)

module _ (c : Configuration) (me : ℕ) (p : Parts) (one : AreOne c me p) (k : KeptReplica) (e : kept_in c me p ≡ k) (low : SeqNo) (proof : CheckedMessages) (certificates : List CheckedCertificate)
    (low_is : low.0 ≡ k.core.low) (proof_is : proof ≡ proof_list p.table low.0) (are : certificates ≡ map (as_checked p.kept.config) (entries_in p.kept.kept)) where
  at_mark : low.0 ≡ p.table.low
  at_mark = low_is ∙ sym (ap (λ (t : KeptReplica). t.core.low) e) ∙ sym one.low

  proof_kept : proof_at p.table low.0 ≡ p.table.proof
  proof_kept = ap (λ (b : Bool). cond b p.table.proof (proof_for p.table.config p.table.checkpoints low.0 (stable_digest p.table.config p.table.checkpoints low.0))) (eq-eqb low.0 p.table.low at_mark)

  pub made_of : (view : View) → IsMadeOf view low proof certificates (own_view_change k.core view)
  made_of view = record {
    view_is = refl;
    low_is = λ i. record { 0 = sym low_is i };
    checkpoints =
        ap (λ (l : CheckedMessages). l.messages) proof_is ∙ ap (λ (ms : List (Signed Checkpoint)). map (as_message bodies.Checkpoint) ms) proof_kept
        ∙ ap (λ (t : KeptReplica). map (as_message bodies.Checkpoint) t.core.proof) e;
    carries =
        subst (λ (xs : List CheckedCertificate). OneForOne IsCertificateOf xs (entries_in k.core.kept)) (sym are)
        (subst (λ (t : KeptReplica). OneForOne IsCertificateOf (map (as_checked p.kept.config) (entries_in p.kept.kept)) (entries_in t.core.kept)) e (each_checked p.kept.config (entries_in p.kept.kept)));
  }

  pub under_one : AreUnder proof.config certificates
  under_one =
      subst (AreUnder proof.config) (sym are)
      (each_under p.kept.config proof.config (entries_in p.kept.kept) (one.kept ∙ sym one.table ∙ sym (ap (λ (l : CheckedMessages). l.config) proof_is)))

  pub its_config : proof.config ≡ k.config
  its_config = ap (λ (l : CheckedMessages). l.config) proof_is ∙ one.table ∙ ap (λ (t : KeptReplica). t.config) e
