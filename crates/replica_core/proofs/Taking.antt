-- What is recorded of ViewChanges and NewViews is what the protocol's core records.
use Rattle.std.proofs.Common.{◌≡◌, ℕ, Bool, true, false, ◌&&◌, cond, List, [], ◌∷◌, ◌++◌, map, refl, sym, ap, ◌∙◌}
use Rattle.std.proofs.lemmas.List.{map-append}
use Rattle.std.proofs.lemmas.Bool.{false≢true, true≢false}
use Rattle.std.specs.Prelude.{not, Result, Ok, Err, OnOk, OnErr, is_err}
use Rattle.std.specs.List.{flat_map}
use Rattle.host_types.specs.Configuration.{Configuration}
use Rattle.pbft_codec.specs.declared.body.Body.{Body}
use Rattle.pbft_codec.specs.declared.body.Body.TheVariants as bodies
use Rattle.pbft_model.specs.Words.{Signed, Checkpoint, NewView, ViewChange}
use Rattle.pbft_model.specs.Setup.{Setup, setup_of}
use Rattle.pbft_model.specs.Tables.{add_if, change_key}
use Rattle.pbft_model.specs.Validity.{first_fault, has_view, has_proof, has_certificates, has_order, are_for_view, have_proofs, have_certificates, have_order, is_valid, is_valid_new_view, view_change_fault, new_view_fault}
use Rattle.pbft_model.specs.Acts.{add_checkpoints, is_awaited, recorded, with_body}
use Rattle.seal.specs.Parts.{as_message, checkpoints_of}
use Rattle.checkpoints.specs.Kept.{KeptCheckpoints}
use Rattle.replica_stores.specs.Faults.{answer}
use Rattle.replica_stores.specs.ViewFault.{ViewFault}
use Rattle.replica_stores.specs.Messages.{IsViewChange, IsNewView}
use Rattle.replica_stores.specs.Stores.{KeptChanges}
use Rattle.replica_core.specs.Replicas.{AreOne, KeptReplica, Parts, core_in, kept_in}

-- ---- valid or not

valid_is : (a b c d : Bool) → is_err (answer (first_fault a b c d)) ≡ not (a && (b && (c && d)))
valid_is true true true true = refl
valid_is true true true false = refl
valid_is true true false d = refl
valid_is true false c d = refl
valid_is false b c d = refl

turned : (a b : Bool) → a ≡ not b → b ≡ not a
turned true true e = absurd (true≢false e)
turned true false e = refl
turned false true e = refl
turned false false e = absurd (false≢true e)

pub change_valid : (c : Setup) (v : ViewChange) (r : Result (Unit {0}) ViewFault) (b : Bool) → r ≡ answer (view_change_fault c v) → b ≡ is_err r → is_valid c v ≡ not b
change_valid c v r b is e = turned b (is_valid c v) (e ∙ ap is_err is ∙ valid_is (has_view v) (has_proof c v) (has_certificates c v) (has_order c v))

pub new_view_valid : (c : Setup) (n : NewView) (r : Result (Unit {0}) ViewFault) (b : Bool) → r ≡ answer (new_view_fault c n) → b ≡ is_err r → is_valid_new_view c n ≡ not b
new_view_valid c n r b is e = turned b (is_valid_new_view c n) (e ∙ ap is_err is ∙ valid_is (are_for_view n) (have_proofs c n) (have_certificates c n) (have_order c n))

-- ---- the Checkpoints inside

nested_list : (ms : List (Signed ViewChange)) → flat_map (λ m. map (as_message bodies.Checkpoint) m.body.checkpoints) ms ≡ map (as_message bodies.Checkpoint) (flat_map (λ v. v.body.checkpoints) ms)
nested_list [] = refl
nested_list (m ∷ ms) =
    ap (λ (xs : List (Signed Body)). map (as_message bodies.Checkpoint) m.body.checkpoints ++ xs) (nested_list ms)
    ∙ sym (map-append (as_message bodies.Checkpoint) m.body.checkpoints (flat_map (λ v. v.body.checkpoints) ms))

abbrev pub AreCheckpoints : List (Signed Body) → Type 0
AreCheckpoints all = (ms : List (Signed Checkpoint)) × (all ≡ map (as_message bodies.Checkpoint) ms)

pub in_change : (body : Body) → IsViewChange body → AreCheckpoints (checkpoints_of body)
in_change (bodies.ViewChange v) is = (v.checkpoints, refl)
in_change _ is = absurd is

pub in_new_view : (body : Body) → IsNewView body → AreCheckpoints (checkpoints_of body)
in_new_view (bodies.NewView n) is = (flat_map (λ v. v.body.checkpoints) n.changes, nested_list n.changes)
in_new_view _ is = absurd is

pub new_view_checkpoints : (body : Body) (n : NewView) → body ≡ bodies.NewView n → checkpoints_of body ≡ map (as_message bodies.Checkpoint) (flat_map (λ v. v.body.checkpoints) n.changes)
new_view_checkpoints body n is = ap checkpoints_of is ∙ nested_list n.changes

pub a_change : (body : Body) → IsViewChange body → (v : ViewChange) × (body ≡ bodies.ViewChange v)
a_change (bodies.ViewChange v) is = (v, refl)
a_change _ is = absurd is

-- ---- a replica's

module _ (c : Configuration) (me : ℕ) (p : Parts) (one : AreOne c me p) where
  abbrev Recorded : KeptReplica → Signed Body → Body → KeptReplica
  Recorded k m body = record k { core = recorded (setup_of k.config) k.core m body }

  pub change_recorded : (k : KeptReplica) (m : Signed Body) (b : ViewChange) (valid awaited : Bool) (table : KeptCheckpoints) (changes : KeptChanges) → kept_in c me p ≡ k → is_valid (setup_of c) b ≡ valid → is_awaited (core_in p) b.view.0 ≡ awaited
      → table ≡ record p.table { checkpoints = add_checkpoints p.table.low (cond valid b.checkpoints []) p.table.checkpoints }
      → changes ≡ record p.changes { changes = add_if (valid && awaited) (change_key b.view.0 m.id) (with_body m b) p.changes.changes }
      → kept_in c me (record p { table = table; changes = changes }) ≡ Recorded k m (bodies.ViewChange b)
  change_recorded k m b valid awaited table changes e v a t h =
      ap (λ (x : KeptCheckpoints). kept_in c me (record p { table = x; changes = changes })) t
      ∙ ap (λ (x : KeptChanges). kept_in c me (record p { table = record p.table { checkpoints = add_checkpoints p.table.low (cond valid b.checkpoints []) p.table.checkpoints }; changes = x })) h
      ∙ ap (λ (low : ℕ). Both low valid awaited) one.low
      ∙ ap (λ (x : Bool). Both p.log.log.low x awaited) (sym v)
      ∙ ap (λ (x : Bool). Both p.log.log.low (is_valid (setup_of c) b) x) (sym a)
      ∙ ap (λ (x : KeptReplica). Recorded x m (bodies.ViewChange b)) e where
        Both : ℕ → Bool → Bool → KeptReplica
        Both low x y = record (kept_in c me p) {
          core = record (core_in p) {
            checkpoints = add_checkpoints low (cond x b.checkpoints []) p.table.checkpoints;
            changes = add_if (x && y) (change_key b.view.0 m.id) (with_body m b) p.changes.changes;
          };
        }

  pub new_view_recorded : (k : KeptReplica) (m : Signed Body) (n : NewView) (valid : Bool) (table : KeptCheckpoints) → kept_in c me p ≡ k → is_valid_new_view (setup_of c) n ≡ valid
      → table ≡ record p.table { checkpoints = add_checkpoints p.table.low (cond valid (flat_map (λ v. v.body.checkpoints) n.changes) []) p.table.checkpoints }
      → kept_in c me (record p { table = table }) ≡ Recorded k m (bodies.NewView n)
  new_view_recorded k m n valid table e v t =
      ap (λ (x : KeptCheckpoints). kept_in c me (record p { table = x })) t
      ∙ ap (λ (low : ℕ). With low valid) one.low
      ∙ ap (λ (x : Bool). With p.log.log.low x) (sym v)
      ∙ ap (λ (x : KeptReplica). Recorded x m (bodies.NewView n)) e where
        With : ℕ → Bool → KeptReplica
        With low x = record (kept_in c me p) { core = record (core_in p) { checkpoints = add_checkpoints low (cond x (flat_map (λ v. v.body.checkpoints) n.changes) []) p.table.checkpoints } }

-- ---- a store's configuration stays

pub changes_config : {A E : Type 0} (r : Result A E) (old new : KeptChanges) (cs : KeptChanges) → OnOk r (new ≡ record old { changes = cs.changes }) → OnErr r (new ≡ old) → new.config ≡ old.config
changes_config (Ok x) old new cs ok err = ap (λ (k : KeptChanges). k.config) ok
changes_config (Err x) old new cs ok err = ap (λ (k : KeptChanges). k.config) err
