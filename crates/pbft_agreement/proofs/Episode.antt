-- The messages of the honest family through a view change: each may be taken, and what is hashed.
use Rattle.std.proofs.Common.{◌≡◌, ℕ, ◌+◌, ◌<◌, ◌≤◌, Bool, true, false, cond, List, [], ◌∷◌, length, Some, None, refl, sym, ap, ◌∙◌, arith}
use Rattle.std.specs.Prelude.{IsTrue, slice_get, bytes_eq}
use Rattle.std.specs.List.{AllByRecursion}
use Rattle.std.proofs.lemmas.List.Elements.{All-cons, All-nil}
use Rattle.std.proofs.lemmas.Slice.Eq.{bytes_eq-Decides}
use Rattle.host_types.specs.declared.config.ClientEntry.{ClientEntry}
use Rattle.seal.specs.Height.TheVariants.{H5}
use Rattle.seal.specs.Keys.{signature_by as signature_of_leaf}
use Rattle.seal.specs.Signature.{signature_fault}
use Rattle.seal.proofs.KeyLemmas.{length-signature_by, valid-signature_by}
use Rattle.pbft_codec.specs.declared.body.Body.TheVariants as bodies
use Rattle.pbft_codec.specs.Bodies.{BodyWellFormed, BodyFieldsInRange, encoded_length_of}
use Rattle.pbft_codec.specs.Limits.{NewViewWellFormed, ViewChangeWellFormed, ViewChangeFieldsInRange, NewViewFieldsInRange}
use Rattle.pbft_codec.proofs.LengthLaws.{length_body, length_encoding}
use Rattle.sha2.specs.Sha256.{sha256}
use Rattle.seal.specs.Parts.{nested_in}
use Rattle.seal.specs.Signers.{may_sign, IsAuthentic}
use Rattle.service_model.proofs.Bounds.{step_bounded, genesis_bounded}
use Rattle.service_model.proofs.Soundness.{step_sound, genesis_sound}
use Rattle.pbft_model.specs.Words.{Signed, Body, Replica, IsConfiguration, IsChecked, as_message, signed_text}
use Rattle.pbft_model.specs.Sequential.{IsStep, genesis_of, encoded}
use Rattle.pbft_model.specs.Setup.{Setup, request_in, signature_by}
use Rattle.pbft_model.specs.Rules.{IsStateAt}
use Rattle.pbft_agreement.specs.Worked.{the_client, the_request, the_outcome, a_pre_prepare, a_prepare, a_commit}
use Rattle.pbft_agreement.specs.Example.{tree_id, key_of, a_request, the_digest, message_of}
use Rattle.pbft_agreement.specs.Episode.{episode_setup, the_state, the_state_digest, the_certificate, change_with, change_by, the_new_view, new_view_by_1, checkpoint_by, the_fetch, the_snapshot, request_of_client}
use Rattle.pbft_agreement.proofs.Working.{request_serves}
use Rattle.pbft_agreement.proofs.Digests.{digest_of_nothing, state_bytes, state_encoded, hashed_nothing, hashed_state, by_table, table_is}

-- ---- SHA-256, with the digests that the rows compute

abbrev pub state_or : List ℕ → Bool → List ℕ
state_or text known = cond known the_state_digest (by_table text)

abbrev pub by_tables : List ℕ → List ℕ
by_tables [] = digest_of_nothing
by_tables (x ∷ xs) = state_or (x ∷ xs) (bytes_eq (x ∷ xs) state_bytes)

pub tables_are : (text : List ℕ) → by_tables text ≡ sha256 text
tables_are [] = sym hashed_nothing
tables_are (x ∷ xs) = cases (bytes_eq (x ∷ xs) state_bytes) refl where
  cases : (known : Bool) → bytes_eq (x ∷ xs) state_bytes ≡ known → state_or (x ∷ xs) known ≡ sha256 (x ∷ xs)
  cases true e = sym hashed_state ∙ ap sha256 (sym ((bytes_eq-Decides (x ∷ xs) state_bytes).0 e))
  cases false e = table_is (x ∷ xs)

module _ (secrets : ℕ → List ℕ) where
  abbrev pub c : Setup
  c = episode_setup by_tables secrets

  -- the state's bytes are those of the table
  pub state_known : bytes_eq (encoded (the_state secrets)) state_bytes ≡ true
  state_known = (bytes_eq-Decides (encoded (the_state secrets)) state_bytes).1 (state_encoded secrets)

  pub configuration : IsConfiguration c.config
  configuration = record {
    min_faulty = omega arith;
    max_faulty = omega arith;
    min_interval = omega arith;
    max_interval = omega arith;
    a_key_each = refl;
    clients = omega arith;
    tenants = omega arith;
    client_ids = All-cons (λ (client : ClientEntry). 16 ≤ client.id.0) (the_client (key_of secrets 100)) [] (omega arith) (All-nil (λ (client : ClientEntry). 16 ≤ client.id.0));
    different_clients = λ i j d lt below. absurd (omega (arith, lt, below));
  }

  pub step : IsStep (genesis_of c.config) (Some (request_in (a_request secrets))) (the_state secrets) the_outcome
  step = request_serves 1 1 c.config.keys (key_of secrets 100)

  pub reads : IsStateAt c 1 (encoded (the_state secrets)) (the_state secrets)
  reads = record {
    config_is = refl;
    number_is = refl;
    encodes = refl;
    sound = record {
      bounded = step_bounded (genesis_of c.config) (Some (request_in (a_request secrets))) (the_state secrets) the_outcome
          (genesis_bounded c.config configuration) (omega arith) (omega arith, omega arith) step;
      sound = step_sound (genesis_of c.config) (Some (request_in (a_request secrets))) (the_state secrets) the_outcome (genesis_sound c.config) step;
    };
  }

  -- ---- signatures

  small_leaf : (n leaf : ℕ) → leaf < 32 → (text : List ℕ)
      → signature_fault (key_of secrets n) text (signature_of_leaf H5 None (tree_id n) (secrets n) leaf text) ≡ None
  small_leaf n leaf small text = valid-signature_by H5 None (tree_id n) (secrets n) leaf text refl small

  authentic : (n leaf : ℕ) (b : Body) → leaf < 32 → slice_get c.config.keys n ≡ Some (key_of secrets n) → IsTrue (may_sign c.config Replica n b)
      → IsAuthentic c.config (message_of secrets n leaf b)
  unfolding signature_by
  authentic n leaf b small listed role =
      record { key = key_of secrets n; listed = listed; role = role; signature = small_leaf n (0 + leaf) (omega (arith, small)) (signed_text (message_of secrets n leaf b)) }

  signature_length : (n leaf : ℕ) (b : Body) → leaf < 32 → length (message_of secrets n leaf b).sig ≡ 2348
  unfolding signature_by
  signature_length n leaf b small =
      let m : Signed Body = message_of secrets n leaf b in
      length-signature_by H5 None (tree_id n) (secrets n) (0 + leaf) (signed_text m)

  -- a message is opened whose nested ones are authentic
  opened : (n leaf : ℕ) (b : Body) → n < 4 → leaf < 32 → slice_get c.config.keys n ≡ Some (key_of secrets n) → IsTrue (may_sign c.config Replica n b)
      → BodyWellFormed b → BodyFieldsInRange b → encoded_length_of b ≤ 100_000 → AllByRecursion (IsAuthentic c.config) (nested_in b)
      → IsChecked (record { config = c.config; message = message_of secrets n leaf b })
  opened n leaf b below small listed role fits range short nested =
      let m : Signed Body = message_of secrets n leaf b in
      let long = signature_length n leaf b small in
      let whole = length_encoding m in
      let inner = length_body b range in
      record {
        encodes = record {
          well_formed = record { well_formed = fits; fields_in_range = record { id_in_range = omega (arith, below); body_in_range = range } };
          encoded = refl;
          within = omega (arith, long, whole, inner, short);
        };
        authentic = (authentic n leaf b small listed role, nested);
      }

  pub request_opened : IsChecked (record { config = c.config; message = request_of_client secrets })
  request_opened =
      let m : Signed Body = request_of_client secrets in
      let valid = small_leaf 100 0 (omega arith) (signed_text m) in
      let long = length-signature_by H5 None (tree_id 100) (secrets 100) 0 (signed_text m) in
      let whole = length_encoding m in
      let range : BodyFieldsInRange (bodies.Request the_request.body) = omega arith in
      let inner = length_body (bodies.Request the_request.body) range in
      record {
        encodes = record {
          well_formed = record { well_formed = tt; fields_in_range = record { id_in_range = omega arith; body_in_range = range } };
          encoded = refl;
          within = omega (arith, long, whole, inner);
        };
        authentic = (record { key = key_of secrets 100; listed = refl; role = refl; signature = valid }, tt);
      }

  pub proposal_opened : IsChecked (record { config = c.config; message = message_of secrets 0 0 (a_pre_prepare 0 1 the_digest) })
  proposal_opened = opened 0 0 (a_pre_prepare 0 1 the_digest) (omega arith) (omega arith) refl refl (omega arith) (record { view_in_range = omega arith; digest_in_range = refl }) (omega arith) tt

  pub prepare_opened : (n leaf view : ℕ) → n < 4 → leaf < 32 → view < 2 → slice_get c.config.keys n ≡ Some (key_of secrets n) → IsTrue (may_sign c.config Replica n (a_prepare view 1 the_digest))
      → IsChecked (record { config = c.config; message = message_of secrets n leaf (a_prepare view 1 the_digest) })
  prepare_opened n leaf view below small early listed role =
      opened n leaf (a_prepare view 1 the_digest) below small listed role (omega arith) (record { view_in_range = omega (arith, early); digest_in_range = refl }) (omega arith) tt

  pub commit_opened : (n leaf view : ℕ) → n < 4 → leaf < 32 → view < 2 → slice_get c.config.keys n ≡ Some (key_of secrets n)
      → IsChecked (record { config = c.config; message = message_of secrets n leaf (a_commit view 1 the_digest) })
  commit_opened n leaf view below small early listed =
      opened n leaf (a_commit view 1 the_digest) below small listed refl (omega arith) (record { view_in_range = omega (arith, early); digest_in_range = refl }) (omega arith) tt

  pub checkpoint_opened : (n leaf : ℕ) → n < 4 → leaf < 32 → slice_get c.config.keys n ≡ Some (key_of secrets n)
      → IsChecked (record { config = c.config; message = checkpoint_by secrets n leaf })
  checkpoint_opened n leaf below small listed = opened n leaf (checkpoint_by secrets n leaf).body below small listed refl (omega arith) refl (omega arith) tt

  pub fetch_opened : IsChecked (record { config = c.config; message = the_fetch secrets })
  fetch_opened = opened 2 3 (the_fetch secrets).body (omega arith) (omega arith) refl refl (omega arith) tt (omega arith) tt

  pub snapshot_opened : IsChecked (record { config = c.config; message = the_snapshot secrets })
  snapshot_opened =
      let long : length (encoded (the_state secrets)) ≡ 54 = ap length (state_encoded secrets) in
      opened 0 4 (the_snapshot secrets).body (omega arith) (omega arith) refl refl (omega arith) tt (omega (arith, long)) tt

  -- ---- the view change

  empty_fits : ViewChangeWellFormed (change_with [])
  empty_fits = record { low = omega arith; few_checkpoints = omega arith; ascend = tt; numbers = tt; few_certificates = omega arith; certificates = tt }

  empty_in_range : ViewChangeFieldsInRange (change_with [])
  empty_in_range = record { view_in_range = omega arith; checkpoints_in_range = tt; certificates_in_range = tt }

  full_fits : ViewChangeWellFormed (change_with (the_certificate secrets ∷ []))
  full_fits = record {
    low = omega arith;
    few_checkpoints = omega arith;
    ascend = tt;
    numbers = tt;
    few_certificates = omega arith;
    certificates = (record { number = omega arith; few = omega arith; ascend = (omega arith, (omega arith, tt)); numbers = (omega arith, (omega arith, tt)) }, tt);
  }

  full_in_range : ViewChangeFieldsInRange (change_with (the_certificate secrets ∷ []))
  full_in_range = record {
    view_in_range = omega arith;
    checkpoints_in_range = tt;
    certificates_in_range = (
      record {
        pre_prepare_in_range = record { id_in_range = omega arith; body_in_range = record { view_in_range = omega arith; digest_in_range = refl } };
        prepares_in_range = (record { id_in_range = omega arith; body_in_range = record { view_in_range = omega arith; digest_in_range = refl } }, (record { id_in_range = omega arith; body_in_range = record { view_in_range = omega arith; digest_in_range = refl } }, tt));
      },
      tt,
    );
  }

  pub empty_opened : (n leaf : ℕ) → n < 4 → leaf < 32 → slice_get c.config.keys n ≡ Some (key_of secrets n)
      → IsChecked (record { config = c.config; message = as_message bodies.ViewChange (change_by secrets n leaf []) })
  empty_opened n leaf below small listed = opened n leaf (bodies.ViewChange (change_with [])) below small listed refl empty_fits empty_in_range (omega arith) tt

  new_view_fits : NewViewWellFormed (the_new_view secrets)
  new_view_fits = record {
    few_changes = omega arith;
    ascend = (omega arith, (omega arith, (omega arith, tt)));
    changes = (full_fits, (empty_fits, (empty_fits, tt)));
    few_pre_prepares = omega arith;
    numbers = (omega arith, tt);
  }

  new_view_in_range : NewViewFieldsInRange (the_new_view secrets)
  new_view_in_range = record {
    view_in_range = omega arith;
    changes_in_range = (record { id_in_range = omega arith; body_in_range = full_in_range }, (record { id_in_range = omega arith; body_in_range = empty_in_range }, (record { id_in_range = omega arith; body_in_range = empty_in_range }, tt)));
    pre_prepares_in_range = (record { id_in_range = omega arith; body_in_range = record { view_in_range = omega arith; digest_in_range = refl } }, tt);
  }

  pub new_view_opened : IsChecked (record { config = c.config; message = as_message bodies.NewView (new_view_by_1 secrets) })
  new_view_opened =
      let proposed = signature_length 0 0 (a_pre_prepare 0 1 the_digest) (omega arith) in
      let prepared = signature_length 1 0 (a_prepare 0 1 the_digest) (omega arith) in
      let also = signature_length 3 0 (a_prepare 0 1 the_digest) (omega arith) in
      let full = signature_length 1 2 (bodies.ViewChange (change_with (the_certificate secrets ∷ []))) (omega arith) in
      let second = signature_length 2 0 (bodies.ViewChange (change_with [])) (omega arith) in
      let third = signature_length 3 2 (bodies.ViewChange (change_with [])) (omega arith) in
      let again = signature_length 1 3 (a_pre_prepare 1 1 the_digest) (omega arith) in
      opened 1 4 (bodies.NewView (the_new_view secrets)) (omega arith) (omega arith) refl refl new_view_fits new_view_in_range
      (omega (arith, proposed, prepared, also, full, second, third, again))
      (authentic 1 2 (bodies.ViewChange (change_with (the_certificate secrets ∷ []))) (omega arith) refl refl, (authentic 0 0 (a_pre_prepare 0 1 the_digest) (omega arith) refl refl, (authentic 1 0 (a_prepare 0 1 the_digest) (omega arith) refl refl, (authentic 3 0 (a_prepare 0 1 the_digest) (omega arith) refl refl, (authentic 2 0 (bodies.ViewChange (change_with [])) (omega arith) refl refl, (authentic 3 2 (bodies.ViewChange (change_with [])) (omega arith) refl refl, (authentic 1 3 (a_pre_prepare 1 1 the_digest) (omega arith) refl refl, tt)))))))
