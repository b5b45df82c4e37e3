-- The ViewChanges that a map holds, by their views and signers.
use Rattle.std.proofs.Common.{◌≡◌, ℕ, ◌<◌, Bool, true, false, cond, ◌&&◌, List, Option, Some, None, refl, sym, ap, subst, ◌∙◌, arith}
use Rattle.std.specs.Prelude.{is_some, slice_index, ◌==◌, IsTrue}
use Rattle.std.specs.Map.{lookup}
use Rattle.std.specs.Option.{option_map}
use Rattle.std.specs.Ordering.{nat_cmp, ordering_then}
use Rattle.std.specs.declared.cmp.Ordering.{Ordering}
use Rattle.std.specs.declared.cmp.Ordering.TheVariants.{Equal}
use Rattle.std.specs.BTreeMap as tree
use Rattle.std.proofs.lemmas.Bool.{eq-eqb}
use Rattle.std.proofs.lemmas.Option.{slice_get_within}
use Rattle.host_types.specs.Configuration.{Configuration, IsConfiguration, replicas_for}
use Rattle.host_types.specs.declared.key.PublicKey.{PublicKey}
use Rattle.pbft_codec.specs.declared.body.Body.{Body}
use Rattle.pbft_codec.specs.declared.body.Body.TheVariants as bodies
use Rattle.pbft_model.specs.Certificates.{is_by, some_by}
use Rattle.pbft_model.specs.Setup.{is_replica}
use Rattle.pbft_model.specs.Tables.{add_if, at, with_entry}
use Rattle.pbft_model.specs.Words.{Replica, Client, Role, ViewChange, as_message}
use Rattle.seal.specs.Lists.{under}
use Rattle.seal.specs.Opening.{CheckedMessage, IsChecked}
use Rattle.seal.specs.Signers.{key_of as listed_key, may_sign}
use Rattle.view_change.proofs.Tables.{is_equal, same_key}
use Rattle.replica_stores.specs.Changes.{AreChanges, IsChange, Entry, Origin, as_change, change_in, is_wanted, key_of}
use Rattle.replica_stores.specs.Entries.{table_of}
use Rattle.replica_stores.proofs.Certifying.{then_equal}
use Rattle.replica_stores.proofs.Entries.{IsKey, all_found, all_inserted, table_at, table_put}

abbrev pub by_origin : Origin → Origin → Ordering
by_origin j k = ordering_then (nat_cmp j.0 k.0) (nat_cmp j.1 k.1)

pub change_keyed : IsKey by_origin key_of
change_keyed j k = ap (ordering_then (nat_cmp j.0 k.0)) (then_equal (nat_cmp j.1 k.1))

-- those that tie are the same
pub same_origin : (j k : Origin) → by_origin j k ≡ Equal → j ≡ k
same_origin j k e =
    let keys : key_of j ≡ key_of k = same_key (key_of j) (key_of k) (change_keyed j k ∙ e) in
    λ i. (slice_index (keys i) 0, slice_index (keys i) 1)

-- ---- a message is put

pub absent : (es : List Entry) (k : Origin) → is_some (lookup (tree.is_at (by_origin k)) es) ≡ is_some (at (table_of key_of as_change es) (key_of k))
absent es k = some_seen (lookup (tree.is_at (by_origin k)) es) ∙ sym (ap is_some (table_at by_origin key_of as_change change_keyed es k)) where
  some_seen : (o : Option CheckedMessage) → is_some o ≡ is_some (option_map as_change o)
  some_seen None = refl
  some_seen (Some m) = refl

pub put_new : (es news : List Entry) (k : Origin) (m : CheckedMessage) → is_some (lookup (tree.is_at (by_origin k)) es) ≡ false → news ≡ tree.insert_entry by_origin es k m
    → table_of key_of as_change news ≡ add_if true (key_of k) (as_change m) (table_of key_of as_change es)
put_new es news k m none e =
    ap (table_of key_of as_change) e ∙ table_put by_origin key_of as_change change_keyed es k m
    ∙ sym (ap (λ b. cond b (table_of key_of as_change es) (with_entry (table_of key_of as_change es) (key_of k) (as_change m))) (sym (absent es k) ∙ none))

pub put_again : (es : List Entry) (k : Origin) (m : CheckedMessage) → is_some (lookup (tree.is_at (by_origin k)) es) ≡ true
    → table_of key_of as_change es ≡ add_if true (key_of k) (as_change m) (table_of key_of as_change es)
put_again es k m some =
    sym (ap (λ b. cond b (table_of key_of as_change es) (with_entry (table_of key_of as_change es) (key_of k) (as_change m))) (sym (absent es k) ∙ some))

pub sound_put : (c : Configuration) (es news : List Entry) (k : Origin) (m : CheckedMessage) → news ≡ tree.insert_entry by_origin es k m → IsChange c (k, m) → AreChanges c es → AreChanges c news
sound_put c es news k m e here all =
    subst (AreChanges c) (sym e) (all_inserted (IsChange c) by_origin es k m here (λ j tied. subst (λ (p : Origin). IsChange c (p, m)) (same_origin k j tied) here) all)

-- ---- what is found

is_message : (c : Configuration) (k : Origin) (m : CheckedMessage) → IsChange c (k, m) → m ≡ under c (as_message bodies.ViewChange (as_change m))
is_message c k m h = λ i. record { config = h.config i; message = record { role = m.message.role; id = m.message.id; body = h.is i; sig = m.message.sig } }

pub change_found : (c : Configuration) (es : List Entry) (k : Origin) → AreChanges c es
    → lookup (tree.is_at (by_origin k)) es ≡ option_map (λ m. under c (as_message bodies.ViewChange m)) (at (table_of key_of as_change es) (key_of k))
change_found c es k all = cases (lookup (tree.is_at (by_origin k)) es) refl ∙ sym (ap (option_map (λ m. under c (as_message bodies.ViewChange m))) (table_at by_origin key_of as_change change_keyed es k)) where
  cases : (o : Option CheckedMessage) → lookup (tree.is_at (by_origin k)) es ≡ o → lookup (tree.is_at (by_origin k)) es ≡ option_map (λ m. under c (as_message bodies.ViewChange m)) (option_map as_change (lookup (tree.is_at (by_origin k)) es))
  cases None e = e ∙ sym (ap (λ o. option_map (λ m. under c (as_message bodies.ViewChange m)) (option_map as_change o)) e)
  cases (Some m) e =
      let w = all_found (IsChange c) (tree.is_at (by_origin k)) es m all e in
      e ∙ ap (λ (x : CheckedMessage). Some x) (is_message c w.0 m w.2)
      ∙ sym (ap (λ o. option_map (λ m. under c (as_message bodies.ViewChange m)) (option_map as_change o)) e)

wanted_at : (c : Configuration) (view id : ℕ) (k : Origin) (m : CheckedMessage) → by_origin (view, id) k ≡ Equal → IsChange c (k, m) → is_by id (λ v. v.view.0 == view) (as_change m) ≡ true
wanted_at c view id k m at h =
    let origin : (view, id) ≡ k = same_origin (view, id) k at in
    let role : is_replica m.message.role ≡ true = ap is_replica h.role in
    let signer : (m.message.id == id) ≡ true = eq-eqb m.message.id id (h.signer ∙ sym (ap (λ (p : Origin). p.1) origin)) in
    let said : ((change_in m.message.body).view.0 == view) ≡ true = eq-eqb (change_in m.message.body).view.0 view (h.view ∙ sym (ap (λ (p : Origin). p.0) origin)) in
    λ i. cond_and (role i) (signer i) (said i) where
      cond_and : Bool → Bool → Bool → Bool
      cond_and a b c = a && (b && c)

pub wanted_found : (c : Configuration) (es : List Entry) (view id : ℕ) → AreChanges c es → is_some (lookup (tree.is_at (by_origin (view, id))) es) ≡ is_wanted (table_of key_of as_change es) view id
wanted_found c es view id all =
    cases (lookup (tree.is_at (by_origin (view, id))) es) refl ∙ sym (ap (some_by id (λ v. v.view.0 == view)) (table_at by_origin key_of as_change change_keyed es (view, id))) where
      cases : (o : Option CheckedMessage) → lookup (tree.is_at (by_origin (view, id))) es ≡ o → is_some (lookup (tree.is_at (by_origin (view, id))) es) ≡ some_by id (λ v. v.view.0 == view) (option_map as_change (lookup (tree.is_at (by_origin (view, id))) es))
      cases None e = ap is_some e ∙ sym (ap (λ o. some_by id (λ v. v.view.0 == view) (option_map as_change o)) e)
      cases (Some m) e =
          let w = all_found (IsChange c) (tree.is_at (by_origin (view, id))) es m all e in
          ap is_some e ∙ sym (wanted_at c view id w.0 m (is_equal (by_origin (view, id) w.0) w.1) w.2)
          ∙ sym (ap (λ o. some_by id (λ v. v.view.0 == view) (option_map as_change o)) e)

-- ---- what a checked ViewChange is

by_replica : (c : Configuration) (role : Role) (id : ℕ) (b : ViewChange) (key : PublicKey) → IsConfiguration c → listed_key c role id ≡ Some key → IsTrue (may_sign c role id (bodies.ViewChange b)) → (role ≡ Replica) × (id < replicas_for c.f)
by_replica c Replica id b key k e may = (refl, omega (arith, slice_get_within c.keys id key e, k.a_key_each))
by_replica c Client id b key k e may = absurd cc

pub signed_by_replica : (c : Configuration) (m : CheckedMessage) (b : ViewChange) → IsConfiguration c → m.config ≡ c → IsChecked m → m.message.body ≡ bodies.ViewChange b → (m.message.role ≡ Replica) × (m.message.id < replicas_for c.f)
signed_by_replica c m b k under h is =
    let a = h.authentic.0 in
    by_replica c m.message.role m.message.id b a.key k (ap (λ d. listed_key d m.message.role m.message.id) (sym under) ∙ a.listed)
    (subst (λ (d : Configuration). IsTrue (may_sign d m.message.role m.message.id (bodies.ViewChange b))) under (subst (λ (x : Body). IsTrue (may_sign m.config m.message.role m.message.id x)) is a.role))

pub checked_change : (c : Configuration) (m : CheckedMessage) (b : ViewChange) (view id : ℕ) → IsConfiguration c → m.config ≡ c → IsChecked m → m.message.body ≡ bodies.ViewChange b → b.view.0 ≡ view → m.message.id ≡ id
    → IsChange c ((view, id), m)
checked_change c m b view id k under h is of by = record {
  config = under;
  is = is ∙ sym (ap (λ (x : Body). bodies.ViewChange (change_in x)) is);
  view = ap (λ (x : Body). (change_in x).view.0) is ∙ of;
  signer = by;
  role = (signed_by_replica c m b k under h is).0;
}
