-- The honest family in which a request is executed.
use Rattle.std.proofs.Common.{◌≡◌, ◌⊎◌, ℕ, zero, suc, ◌+◌, ◌<◌, ◌≤◌, List, [], ◌∷◌, ◌++◌, Option, Some, None, refl, sym, ap, subst, ◌∙◌, arith, inl, inr}
use Rattle.std.specs.Prelude.{IsTrue, slice_get}
use Rattle.std.proofs.lemmas.List.Elements.{All-cons, All-nil}
use Rattle.std.proofs.lemmas.Bool.{true≢false}
use Rattle.host_types.specs.declared.config.ClientEntry.{ClientEntry}
use Rattle.std.specs.List.{AllByRecursion}
use Rattle.seal.specs.Height.TheVariants.{H5}
use Rattle.seal.specs.Keys.{signature_by as signature_of_leaf}
use Rattle.seal.specs.Signature.{signature_fault}
use Rattle.seal.proofs.KeyLemmas.{length-signature_by, valid-signature_by}
use Rattle.pbft_codec.specs.declared.body.Body.TheVariants as bodies
use Rattle.pbft_codec.specs.Bodies.{BodyWellFormed, BodyFieldsInRange, encoded_length_of}
use Rattle.pbft_codec.specs.Encoding.{body, signed_text}
use Rattle.pbft_codec.specs.Layouts.{request, length_prefixed}
use Rattle.sha2.specs.Sha256.{sha256}
use Rattle.pbft_codec.proofs.LengthLaws.{length_body, length_encoding}
use Rattle.seal.specs.Parts.{nested_in, messages_in}
use Rattle.seal.specs.Signers.{may_sign, IsAuthentic}
use Rattle.pbft_model.specs.Words.{Signed, Body, RequestBody, Snapshot, Replica, IsConfiguration, IsChecked, as_message, part_of, signed_text}
use Rattle.pbft_model.specs.Sequential.{Service, Outcome, IsStep, genesis_of, encoded}
use Rattle.pbft_model.specs.Setup.{Setup, request_in, signature_by}
use Rattle.pbft_model.specs.Acts.{Act, Take, Timeout, Send, Relay, Enter, Rise, Execute, Install}
use Rattle.pbft_model.specs.Rules.{IsReading, MayTake}
use Rattle.pbft_model.proofs.Found.{in_append_left, in_append_right}
use Rattle.pbft_model.specs.Histories.{IsIn, IsEarlier, IsHistory, HasTaken, HasSigned}
use Rattle.pbft_model.specs.Families.{IsReal, HasExecuted, Family, IsCorrect}
use Rattle.pbft_agreement.specs.Agreement.{IsHashed, IsHonest}
use Rattle.pbft_agreement.specs.Worked.{the_client, the_request, the_outcome, after_request, a_pre_prepare, a_prepare, a_commit}
use Rattle.pbft_agreement.proofs.Working.{request_serves}
use Rattle.pbft_agreement.proofs.Digests.{digest_of_nothing, digest_of_state, request_encoded, state_encoded, hashed_nothing, hashed_request, hashed_state, by_table, table_is}
use Rattle.pbft_agreement.specs.Example.{tree_id, signer_of, key_of, the_setup, a_request, the_digest, message_of, acts_of_primary, acts_of_backup, the_family}

-- the messages that acts take, and the states that they execute to
abbrev takes : List Act → List (Signed Body)
takes [] = []
takes (Take m r ∷ acts) = m ∷ takes acts
takes (Timeout ∷ acts) = takes acts
takes (Send to m ∷ acts) = takes acts
takes (Relay to m ∷ acts) = takes acts
takes (Enter m ∷ acts) = takes acts
takes (Rise n d ∷ acts) = takes acts
takes (Execute n d t o ∷ acts) = takes acts
takes (Install n b t ∷ acts) = takes acts

same_taken : (m x : Signed Body) (r q : Option Service) → Take m r ≡ Take x q → m ≡ x
same_taken m x r q e = cc

from_takes : (m : Signed Body) (acts : List Act) → HasTaken m acts → IsIn m (takes acts)
from_takes m [] h = absurd h
from_takes m (Take x q ∷ acts) (inl (r, e)) = inl (sym (same_taken x m q r e))
from_takes m (Take x q ∷ acts) (inr h) = inr (from_takes m acts h)
from_takes m (Timeout ∷ acts) (inl (r, e)) = absurd cc
from_takes m (Timeout ∷ acts) (inr h) = from_takes m acts h
from_takes m (Send to x ∷ acts) (inl (r, e)) = absurd cc
from_takes m (Send to x ∷ acts) (inr h) = from_takes m acts h
from_takes m (Relay to x ∷ acts) (inl (r, e)) = absurd cc
from_takes m (Relay to x ∷ acts) (inr h) = from_takes m acts h
from_takes m (Enter x ∷ acts) (inl (r, e)) = absurd cc
from_takes m (Enter x ∷ acts) (inr h) = from_takes m acts h
from_takes m (Rise n d ∷ acts) (inl (r, e)) = absurd cc
from_takes m (Rise n d ∷ acts) (inr h) = from_takes m acts h
from_takes m (Execute n d t o ∷ acts) (inl (r, e)) = absurd cc
from_takes m (Execute n d t o ∷ acts) (inr h) = from_takes m acts h
from_takes m (Install n b t ∷ acts) (inl (r, e)) = absurd cc
from_takes m (Install n b t ∷ acts) (inr h) = from_takes m acts h

abbrev pub state_in : Act → List Service
state_in (Execute n d t o) = t ∷ []
state_in _ = []

abbrev pub states_in : List Act → List Service
states_in [] = []
states_in (a ∷ acts) = state_in a ++ states_in acts

from_states : (t : Service) (acts : List Act) (n : ℕ) (d : List ℕ) (o : Outcome) (early : List Act) → IsEarlier (Execute n d t o ∷ early) acts → IsIn t (states_in acts)
from_states t [] n d o early h = absurd cc
from_states t (a ∷ acts) n d o early (inl same) = in_append_left t (state_in a) (states_in acts) (subst (λ (b : Act). IsIn t (state_in b)) (head (Execute n d t o) a early acts same) (inl refl)) where
  head : (b a : Act) (xs ys : List Act) → b ∷ xs ≡ a ∷ ys → b ≡ a
  head b a xs ys e = cc
from_states t (a ∷ acts) n d o early (inr h) = in_append_right t (state_in a) (states_in acts) (from_states t acts n d o early h)

module _ (secrets : ℕ → List ℕ) where
  abbrev c : Setup
  c = the_setup by_table secrets

  abbrev family : Family
  family = the_family secrets

  -- ---- the messages were opened

  small_leaf : (n leaf : ℕ) → leaf < 32 → (text : List ℕ)
      → signature_fault (key_of secrets n) text (signature_of_leaf H5 None (tree_id n) (secrets n) leaf text) ≡ None
  small_leaf n leaf small text = valid-signature_by H5 None (tree_id n) (secrets n) leaf text refl small

  opened : (n leaf : ℕ) (b : Body) → n < 4 → leaf < 32 → slice_get c.config.keys n ≡ Some (key_of secrets n) → BodyWellFormed b → BodyFieldsInRange b → nested_in b ≡ [] → encoded_length_of b ≤ 1000
      → IsTrue (may_sign c.config Replica n b) → IsChecked (record { config = c.config; message = message_of secrets n leaf b })
  unfolding signature_by
  opened n leaf b below small listed fits range alone short role =
      let m : Signed Body = message_of secrets n leaf b in
      let valid = small_leaf n (0 + leaf) (omega (arith, small)) (signed_text m) in
      let long = length-signature_by H5 None (tree_id n) (secrets n) (0 + leaf) (signed_text m) in
      let whole = length_encoding m in
      let inner = length_body b range in
      let authentic : IsAuthentic c.config m = record { key = key_of secrets n; listed = listed; role = role; signature = valid } in
      record {
        encodes = record {
          well_formed = record { well_formed = fits; fields_in_range = record { id_in_range = omega (arith, below); body_in_range = range } };
          encoded = refl;
          within = omega (arith, long, whole, inner, short);
        };
        authentic = subst (λ (ms : List (Signed Body)). AllByRecursion (IsAuthentic c.config) (m ∷ ms)) (sym alone) (authentic, tt);
      }

  pub request_opened : IsChecked (record { config = c.config; message = as_message bodies.Request (a_request secrets) })
  request_opened =
      let m : Signed Body = as_message bodies.Request (a_request secrets) in
      let valid = small_leaf 100 0 (omega arith) (signed_text m) in
      let long = length-signature_by H5 None (tree_id 100) (secrets 100) 0 (signed_text m) in
      let whole = length_encoding m in
      let range : BodyFieldsInRange (bodies.Request the_request.body) = omega arith in
      let inner = length_body (bodies.Request the_request.body) range in
      record {
        encodes = record {
          well_formed = record { well_formed = tt; fields_in_range = record { id_in_range = omega arith; body_in_range = range } };
          encoded = refl;
          within = omega (arith, long, whole, inner);
        };
        authentic = (record { key = key_of secrets 100; listed = refl; role = refl; signature = valid }, tt);
      }

  pub proposal_opened : IsChecked (record { config = c.config; message = message_of secrets 0 0 (a_pre_prepare 0 1 the_digest) })
  proposal_opened = opened 0 0 (a_pre_prepare 0 1 the_digest) (omega arith) (omega arith) refl (omega arith) (record { view_in_range = omega arith; digest_in_range = refl }) refl (omega arith) refl

  pub prepare_opened : (n : ℕ) → n < 4 → slice_get c.config.keys n ≡ Some (key_of secrets n) → IsTrue (may_sign c.config Replica n (a_prepare 0 1 the_digest))
      → IsChecked (record { config = c.config; message = message_of secrets n 0 (a_prepare 0 1 the_digest) })
  prepare_opened n below listed role = opened n 0 (a_prepare 0 1 the_digest) below (omega arith) listed (omega arith) (record { view_in_range = omega arith; digest_in_range = refl }) refl (omega arith) role

  pub commit_opened : (n : ℕ) → n < 4 → slice_get c.config.keys n ≡ Some (key_of secrets n) → IsChecked (record { config = c.config; message = message_of secrets n 1 (a_commit 0 1 the_digest) })
  commit_opened n below listed = opened n 1 (a_commit 0 1 the_digest) below (omega arith) listed (omega arith) (record { view_in_range = omega arith; digest_in_range = refl }) refl (omega arith) refl

  pub step : IsStep (genesis_of c.config) (Some (request_in (a_request secrets))) (after_request c.config) the_outcome
  step = request_serves 1 2 c.config.keys (key_of secrets 100)

  -- ---- the histories

  taking : (m : Signed Body) → IsChecked (record { config = c.config; message = m }) → IsReading c m.body None → MayTake c m None
  taking m h reads = record { opened = h; reads = reads }

  primary_history : IsHistory c 0 (signer_of secrets 0) (acts_of_primary secrets)
  unfolding body request length_prefixed
  primary_history = (
    (
      (
        (
          (tt, taking (as_message bodies.Request (a_request secrets)) request_opened refl),
          record { signed = refl; says = record { inside = record { active = refl; view_is = refl; above_floor = omega arith; above_low = omega arith; up_to_high = omega arith }; leads = refl; next = refl } },
        ),
        taking (message_of secrets 1 0 (a_prepare 0 1 the_digest)) (prepare_opened 1 (omega arith) refl refl) refl,
      ),
      taking (message_of secrets 3 0 (a_prepare 0 1 the_digest)) (prepare_opened 3 (omega arith) refl refl) refl,
    ),
    record { signed = refl; says = record { inside = record { active = refl; view_is = refl; above_floor = omega arith; above_low = omega arith; up_to_high = omega arith }; prepared = refl; once = refl } },
  )

  backup_history : IsHistory c 1 (signer_of secrets 1) (acts_of_backup secrets)
  unfolding body request length_prefixed
  backup_history = (
    (
      (
        (
          (
            (
              (
                (tt, taking (as_message bodies.Request (a_request secrets)) request_opened refl),
                taking (message_of secrets 0 0 (a_pre_prepare 0 1 the_digest)) proposal_opened refl,
              ),
              record { signed = refl; says = record { inside = record { active = refl; view_is = refl; above_floor = omega arith; above_low = omega arith; up_to_high = omega arith }; follows = refl; proposed = refl; once = refl } },
            ),
            taking (message_of secrets 3 0 (a_prepare 0 1 the_digest)) (prepare_opened 3 (omega arith) refl refl) refl,
          ),
          record { signed = refl; says = record { inside = record { active = refl; view_is = refl; above_floor = omega arith; above_low = omega arith; up_to_high = omega arith }; prepared = refl; once = refl } },
        ),
        taking (message_of secrets 0 1 (a_commit 0 1 the_digest)) (commit_opened 0 (omega arith) refl) refl,
      ),
      taking (message_of secrets 3 1 (a_commit 0 1 the_digest)) (commit_opened 3 (omega arith) refl) refl,
    ),
    record { active = refl; next = refl; committed = refl; step = step },
  )

  histories : (i : ℕ) → IsCorrect c family.faulty i → IsHistory c i (family.signer i) (family.acts i)
  histories zero correct = primary_history
  histories (suc zero) correct = backup_history
  histories (suc (suc n)) correct = tt

  -- ---- what was taken, and that it is real

  alone_real : (m x p : Signed Body) → m ≡ x → messages_in x ≡ x ∷ [] → IsIn p (messages_in m) → IsReal c family (part_of x) → IsReal c family (part_of p)
  alone_real m x p same alone within real = elim (subst (λ (ms : List (Signed Body)). IsIn p ms) alone (subst (λ (y : Signed Body). IsIn p (messages_in y)) same within)) [
    | inl is ↦ subst (λ (y : Signed Body). IsReal c family (part_of y)) (sym is) real
    | inr none ↦ absurd none
  ]

  real : (i : ℕ) → IsCorrect c family.faulty i → (m p : Signed Body) → HasTaken m (family.acts i) → IsIn p (messages_in m) → IsReal c family (part_of p)
  real zero correct m p taken within = elim (from_takes m (acts_of_primary secrets) taken) [
    | inl is ↦ alone_real m (message_of secrets 3 0 (a_prepare 0 1 the_digest)) p is refl within (λ role right. absurd (true≢false right.1))
    | inr (inl is) ↦ alone_real m (message_of secrets 1 0 (a_prepare 0 1 the_digest)) p is refl within (λ role right. prepared)
    | inr (inr (inl is)) ↦ alone_real m (as_message bodies.Request (a_request secrets)) p is refl within (λ role right. absurd cc)
    | inr (inr (inr none)) ↦ absurd none
  ] where
    prepared : HasSigned (part_of (message_of secrets 1 0 (a_prepare 0 1 the_digest))) (acts_of_backup secrets)
    prepared = inr (inr (inr (inr (inr (inl (inl refl))))))
  real (suc zero) correct m p taken within = elim (from_takes m (acts_of_backup secrets) taken) [
    | inl is ↦ alone_real m (message_of secrets 3 1 (a_commit 0 1 the_digest)) p is refl within (λ role right. absurd (true≢false right.1))
    | inr (inl is) ↦ alone_real m (message_of secrets 0 1 (a_commit 0 1 the_digest)) p is refl within (λ role right. inl (inl refl))
    | inr (inr (inl is)) ↦ alone_real m (message_of secrets 3 0 (a_prepare 0 1 the_digest)) p is refl within (λ role right. absurd (true≢false right.1))
    | inr (inr (inr (inl is))) ↦ alone_real m (message_of secrets 0 0 (a_pre_prepare 0 1 the_digest)) p is refl within (λ role right. inr (inr (inr (inl (inl refl)))))
    | inr (inr (inr (inr (inl is)))) ↦ alone_real m (as_message bodies.Request (a_request secrets)) p is refl within (λ role right. absurd cc)
    | inr (inr (inr (inr (inr none)))) ↦ absurd none
  ]
  real (suc (suc n)) correct m p taken within = absurd taken

  pub configuration : IsConfiguration c.config
  configuration = record {
    min_faulty = omega arith;
    max_faulty = omega arith;
    min_interval = omega arith;
    max_interval = omega arith;
    a_key_each = refl;
    clients = omega arith;
    tenants = omega arith;
    client_ids = All-cons (λ (client : ClientEntry). 16 ≤ client.id.0) (the_client (key_of secrets 100)) [] (omega arith) (All-nil (λ (client : ClientEntry). 16 ≤ client.id.0));
    different_clients = λ i j d lt below. absurd (omega (arith, lt, below));
  }

  -- ---- what was hashed

  abbrev pub text : List ℕ
  text = signed_text (as_message bodies.Request (a_request secrets))

  abbrev pub bytes : List ℕ
  bytes = encoded (after_request c.config)

  abbrev pub Known : List ℕ → Type 0
  Known x = (x ≡ []) ⊎ ((x ≡ text) ⊎ (x ≡ bytes))

  other_kind : (m : Signed RequestBody) (x : Signed Body) → as_message bodies.Request m ≡ x → ((b : RequestBody) → bodies.Request b ≡ x.body → ⊥) → ⊥
  other_kind m x e never = never m.body (ap (λ (y : Signed Body). y.body) e)

  request_text : (i : ℕ) (m : Signed RequestBody) → HasTaken (as_message bodies.Request m) (family.acts i) → signed_text (as_message bodies.Request m) ≡ text
  request_text zero m taken = elim (from_takes (as_message bodies.Request m) (acts_of_primary secrets) taken) [
    | inl is ↦ absurd (other_kind m (message_of secrets 3 0 (a_prepare 0 1 the_digest)) is (λ b e. cc))
    | inr (inl is) ↦ absurd (other_kind m (message_of secrets 1 0 (a_prepare 0 1 the_digest)) is (λ b e. cc))
    | inr (inr (inl is)) ↦ ap signed_text is
    | inr (inr (inr none)) ↦ absurd none
  ]
  request_text (suc zero) m taken = elim (from_takes (as_message bodies.Request m) (acts_of_backup secrets) taken) [
    | inl is ↦ absurd (other_kind m (message_of secrets 3 1 (a_commit 0 1 the_digest)) is (λ b e. cc))
    | inr (inl is) ↦ absurd (other_kind m (message_of secrets 0 1 (a_commit 0 1 the_digest)) is (λ b e. cc))
    | inr (inr (inl is)) ↦ absurd (other_kind m (message_of secrets 3 0 (a_prepare 0 1 the_digest)) is (λ b e. cc))
    | inr (inr (inr (inl is))) ↦ absurd (other_kind m (message_of secrets 0 0 (a_pre_prepare 0 1 the_digest)) is (λ b e. cc))
    | inr (inr (inr (inr (inl is)))) ↦ ap signed_text is
    | inr (inr (inr (inr (inr none)))) ↦ absurd none
  ]
  request_text (suc (suc n)) m taken = absurd taken

  no_snapshot : (i : ℕ) (m : Signed Snapshot) → HasTaken (as_message bodies.Snapshot m) (family.acts i) → ⊥
  no_snapshot zero m taken = elim (from_takes (as_message bodies.Snapshot m) (acts_of_primary secrets) taken) [
    | inl is ↦ never m (message_of secrets 3 0 (a_prepare 0 1 the_digest)) is (λ b e. cc)
    | inr (inl is) ↦ never m (message_of secrets 1 0 (a_prepare 0 1 the_digest)) is (λ b e. cc)
    | inr (inr (inl is)) ↦ never m (as_message bodies.Request (a_request secrets)) is (λ b e. cc)
    | inr (inr (inr none)) ↦ none
  ] where
    never : (m : Signed Snapshot) (x : Signed Body) → as_message bodies.Snapshot m ≡ x → ((b : Snapshot) → bodies.Snapshot b ≡ x.body → ⊥) → ⊥
    never m x e h = h m.body (ap (λ (y : Signed Body). y.body) e)
  no_snapshot (suc zero) m taken = elim (from_takes (as_message bodies.Snapshot m) (acts_of_backup secrets) taken) [
    | inl is ↦ never m (message_of secrets 3 1 (a_commit 0 1 the_digest)) is (λ b e. cc)
    | inr (inl is) ↦ never m (message_of secrets 0 1 (a_commit 0 1 the_digest)) is (λ b e. cc)
    | inr (inr (inl is)) ↦ never m (message_of secrets 3 0 (a_prepare 0 1 the_digest)) is (λ b e. cc)
    | inr (inr (inr (inl is))) ↦ never m (message_of secrets 0 0 (a_pre_prepare 0 1 the_digest)) is (λ b e. cc)
    | inr (inr (inr (inr (inl is)))) ↦ never m (as_message bodies.Request (a_request secrets)) is (λ b e. cc)
    | inr (inr (inr (inr (inr none)))) ↦ none
  ] where
    never : (m : Signed Snapshot) (x : Signed Body) → as_message bodies.Snapshot m ≡ x → ((b : Snapshot) → bodies.Snapshot b ≡ x.body → ⊥) → ⊥
    never m x e h = h m.body (ap (λ (y : Signed Body). y.body) e)
  no_snapshot (suc (suc n)) m taken = taken

  state_text : (i number : ℕ) (digest : List ℕ) (w : HasExecuted c family i number digest) → w.service ≡ after_request c.config
  state_text zero number digest w = absurd (from_states w.service (acts_of_primary secrets) number digest w.outcome w.early w.point)
  state_text (suc zero) number digest w = elim (from_states w.service (acts_of_backup secrets) number digest w.outcome w.early w.point) [ inl is ↦ is | inr none ↦ absurd none ]
  state_text (suc (suc n)) number digest w = absurd (from_states w.service [] number digest w.outcome w.early w.point)

  known : (x : List ℕ) → IsHashed c family x → Known x
  known x (inl none) = inl none
  known x (inr (inl (m, (i, correct, taken), is))) = inr (inl (is ∙ request_text i m taken))
  known x (inr (inr (inl (m, (i, correct, taken), is)))) = absurd (no_snapshot i m taken)
  known x (inr (inr (inr (i, number, digest, w, is)))) = inr (inr (is ∙ ap encoded (state_text i number digest w)))

  text_hashed : sha256 text ≡ the_digest
  text_hashed = ap sha256 (request_encoded secrets) ∙ hashed_request

  bytes_hashed : sha256 bytes ≡ digest_of_state
  bytes_hashed = ap sha256 (state_encoded secrets) ∙ hashed_state

  -- what is hashed has another digest than the rest
  abbrev digest_at : (x : List ℕ) → Known x → List ℕ
  digest_at x (inl a) = digest_of_nothing
  digest_at x (inr (inl a)) = the_digest
  digest_at x (inr (inr a)) = digest_of_state

  digest_is : (x : List ℕ) (known : Known x) → sha256 x ≡ digest_at x known
  digest_is x (inl a) = ap sha256 a ∙ hashed_nothing
  digest_is x (inr (inl a)) = ap sha256 a ∙ text_hashed
  digest_is x (inr (inr a)) = ap sha256 a ∙ bytes_hashed

  one_string : (x y : List ℕ) (a : Known x) (b : Known y) → digest_at x a ≡ digest_at y b → x ≡ y
  one_string x y (inl a) (inl b) e = a ∙ sym b
  one_string x y (inl a) (inr (inl b)) e = absurd cc
  one_string x y (inl a) (inr (inr b)) e = absurd cc
  one_string x y (inr (inl a)) (inl b) e = absurd cc
  one_string x y (inr (inl a)) (inr (inl b)) e = a ∙ sym b
  one_string x y (inr (inl a)) (inr (inr b)) e = absurd cc
  one_string x y (inr (inr a)) (inl b) e = absurd cc
  one_string x y (inr (inr a)) (inr (inl b)) e = absurd cc
  one_string x y (inr (inr a)) (inr (inr b)) e = a ∙ sym b

  pub apart : (x y : List ℕ) → Known x → Known y → by_table x ≡ by_table y → x ≡ y
  apart x y a b e = one_string x y a b (sym (digest_is x a) ∙ sym (table_is x) ∙ e ∙ table_is y ∙ digest_is y b)

  honest_by_table : IsHonest c family
  honest_by_table = record {
    configuration = configuration;
    unforged = record { few = omega arith; histories = histories; real = real };
    apart = λ x y a b e. apart x y (known x a) (known y b) e;
  }

  pub is_honest : IsHonest (the_setup sha256 secrets) family
  is_honest = subst (λ (hash : List ℕ → List ℕ). IsHonest (the_setup hash secrets) family) (λ k text. table_is text k) honest_by_table

  pub has_executed : HasExecuted (the_setup sha256 secrets) family 1 1 the_digest
  has_executed = record { correct = (omega arith, refl); service = after_request c.config; outcome = the_outcome; early = _; point = inl refl }
