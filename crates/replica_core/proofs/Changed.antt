-- What a replica does as it changes to a view.
use Rattle.std.proofs.Common.{◌≡◌, ℕ, ◌+◌, arith, Bool, true, ◌||◌, ◌&&◌, [], ◌∷◌, ◌++◌, refl, sym, ap, ◌∙◌}
use Rattle.std.specs.Prelude.{◌==◌, nat_lt}
use Rattle.std.proofs.lemmas.Bool.{eq-eqb, or_right}
use Rattle.host_types.specs.Configuration.{Configuration}
use Rattle.host_types.specs.declared.View.{View}
use Rattle.lms_tree.specs.Keys.{after_signing}
use Rattle.pbft_codec.specs.declared.body.Body.{Body}
use Rattle.pbft_codec.specs.declared.body.Body.TheVariants as bodies
use Rattle.pbft_codec.specs.declared.signed.Role.TheVariants as roles
use Rattle.pbft_model.specs.Acts.{All, acted, left_for, with_body}
use Rattle.pbft_model.specs.Rules.{own_message, view_change_of}
use Rattle.pbft_model.specs.Setup.{signature_by, setup_of}
use Rattle.pbft_model.specs.Tables.{add_if, change_key}
use Rattle.pbft_model.specs.Words.{Signed, ViewChange}
use Rattle.seal.specs.Opening.{CheckedMessage, sealed_message}
use Rattle.replica_core.specs.Doing.{Says}
use Rattle.replica_core.specs.Replicas.{AreOne, KeptReplica, Parts, kept_in}
use Rattle.replica_stores.specs.Stores.{KeptChanges}
use Rattle.replica_core.specs.OwnViewChange.{own_view_change}
use Rattle.replica_core.proofs.Fulfilling.{no_more}

-- an own message that takes no leaf before its own is what the signer makes
own_is : (k : KeptReplica) (v : ViewChange) → sealed_message k.core.signer roles.Replica k.me (bodies.ViewChange v) ≡ own_message k.core k.me (bodies.ViewChange v)
unfolding signature_by
own_is k v =
    ap (λ (n : ℕ). sealed_message (record k.core.signer { next_leaf = n }) roles.Replica k.me (bodies.ViewChange v)) (same k.core.signer.next_leaf) where
      same : (n : ℕ) → n ≡ n + 0
      same n = omega arith

-- the message is sent
abbrev Sent : KeptReplica → Body → KeptReplica
Sent t body = record t {
  core = record t.core { signer = after_signing t.core.signer };
  outputs = t.outputs ++ record { to = All; message = sealed_message t.core.signer roles.Replica t.me body; own = true } ∷ [];
  leaves = t.leaves + 1;
}

abbrev Left : KeptReplica → View → KeptReplica
Left k view = record k { core = left_for (setup_of k.config) k.core view.0 }

abbrev ViewChangeFrom : KeptReplica → View → ViewChange
ViewChangeFrom k view = view_change_of (setup_of k.config) k.core view.0

-- and recorded
abbrev Keeping : Bool → View → Signed Body → ViewChange → KeptReplica → KeptReplica
Keeping b view m v t = record t { core = record t.core { changes = add_if b (change_key view.0 m.id) (with_body m v) t.core.changes } }

awaited : (view : ℕ) → true ≡ (nat_lt view view || (view == view && true))
awaited view = sym (or_right (nat_lt view view) (view == view && true) (ap (λ (b : Bool). b && true) (eq-eqb view view refl)))

done_all : (k u : KeptReplica) (view : View) → u ≡ Keeping true view (own_message k.core k.me (bodies.ViewChange (ViewChangeFrom k view))) (ViewChangeFrom k view) (Sent (Left k view) (bodies.ViewChange (ViewChangeFrom k view)))
    → Says k All (bodies.ViewChange (ViewChangeFrom k view)) u
done_all k u view e =
    let m = own_message k.core k.me (bodies.ViewChange (ViewChangeFrom k view)) in
    let is = e ∙ ap (λ (b : Bool). Keeping b view m (ViewChangeFrom k view) (Sent (Left k view) (bodies.ViewChange (ViewChangeFrom k view)))) (awaited view.0) in
    record {
      config = ap (λ (y : KeptReplica). y.config) is;
      me = ap (λ (y : KeptReplica). y.me) is;
      core = ap (λ (y : KeptReplica). acted y.core) is;
      outputs = ap (λ (y : KeptReplica). y.outputs) is ∙ ap (λ (x : Signed Body). k.outputs ++ record { to = All; message = x; own = true } ∷ []) (own_is k (ViewChangeFrom k view));
      done = ap (λ (y : KeptReplica). y.done) is ∙ no_more k.done;
      leaves = ap (λ (y : KeptReplica). y.leaves) is;
    }

module _ (c : Configuration) (me : ℕ) (p : Parts) (one : AreOne c me p) where
  pub changed : (k t s : KeptReplica) (view : View) (body : Body) (m : CheckedMessage) (changes : KeptChanges) → kept_in c me p ≡ s → t ≡ Left k view → body ≡ bodies.ViewChange (own_view_change t.core view) → s ≡ Sent t body
      → m.message ≡ sealed_message t.core.signer roles.Replica t.me body
      → ((v : ViewChange) → m.message.body ≡ bodies.ViewChange v → changes ≡ record p.changes { changes = add_if true (change_key v.view.0 m.message.id) (with_body m.message v) p.changes.changes })
      → Says k All (bodies.ViewChange (ViewChangeFrom k view)) (kept_in c me (record p { changes = changes }))
  changed k t s view body m changes e left body_is sent message_is kept =
      let is_own : body ≡ bodies.ViewChange (ViewChangeFrom k view) = body_is ∙ ap (λ (y : KeptReplica). bodies.ViewChange (own_view_change y.core view)) left in
      let own : m.message ≡ own_message k.core k.me (bodies.ViewChange (ViewChangeFrom k view)) = message_is ∙ (λ i. sealed_message (left i).core.signer roles.Replica (left i).me (is_own i)) ∙ own_is k (ViewChangeFrom k view) in
      done_all k (kept_in c me (record p { changes = changes })) view
      (ap (λ (x : KeptChanges). kept_in c me (record p { changes = x })) (kept (ViewChangeFrom k view) (ap (λ (x : Signed Body). x.body) own))
      ∙ ap (λ (x : Signed Body). Keeping true view x (ViewChangeFrom k view) (kept_in c me p)) own
      ∙ ap (Keeping true view (own_message k.core k.me (bodies.ViewChange (ViewChangeFrom k view))) (ViewChangeFrom k view)) (e ∙ sent ∙ (λ i. Sent (left i) (is_own i))))
