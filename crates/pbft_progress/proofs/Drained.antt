-- The honest drained family in which a view changes.
use Rattle.std.proofs.Common.{◌≡◌, ℕ, zero, suc, ◌+◌, ◌<◌, ◌≤◌, true, List, [], ◌∷◌, length, Some, None, refl, sym, subst, ◌∙◌, arith, inl, inr}
use Rattle.std.specs.Prelude.{IsTrue, nat_lt, slice_get}
use Rattle.std.specs.List.{AllByRecursion}
use Rattle.std.proofs.lemmas.Bool.{true≢false, ltb-true, ne_eqb}
use Rattle.std.proofs.lemmas.List.Elements.{All-cons, All-nil}
use Rattle.host_types.specs.declared.config.ClientEntry.{ClientEntry}
use Rattle.seal.specs.Height.TheVariants.{H5}
use Rattle.seal.specs.Keys.{signature_by as signature_of_leaf}
use Rattle.seal.specs.Parts.{messages_in, nested_in}
use Rattle.seal.specs.Signature.{signature_fault}
use Rattle.seal.specs.Signers.{may_sign, IsAuthentic}
use Rattle.seal.proofs.KeyLemmas.{length-signature_by, valid-signature_by}
use Rattle.pbft_codec.specs.declared.body.Body.TheVariants as bodies
use Rattle.pbft_codec.specs.Bodies.{BodyWellFormed, BodyFieldsInRange, encoded_length_of}
use Rattle.pbft_codec.specs.Limits.{NewViewWellFormed, ViewChangeWellFormed, ViewChangeFieldsInRange, NewViewFieldsInRange}
use Rattle.pbft_codec.proofs.LengthLaws.{length_body, length_encoding}
use Rattle.pbft_model.specs.Words.{Signed, Body, RequestBody, Snapshot, Replica, IsConfiguration, IsChecked, as_message, part_of, signed_text}
use Rattle.pbft_model.specs.Sequential.{Service}
use Rattle.pbft_model.specs.Setup.{Setup, primary, signature_by}
use Rattle.pbft_model.specs.Core.{Core, start_of}
use Rattle.pbft_model.specs.Acts.{All}
use Rattle.pbft_model.specs.Rules.{MayTake}
use Rattle.pbft_model.specs.Rows.{Row, Output, IsListed, all_outputs}
use Rattle.pbft_model.specs.Histories.{IsIn}
use Rattle.pbft_model.specs.Families.{IsCorrect}
use Rattle.pbft_agreement.specs.Journals.{Journals, HasReceived, HasGiven, IsHashedIn, IsHonestFamily, ComesTo}
use Rattle.pbft_agreement.specs.Worked.{the_client}
use Rattle.pbft_agreement.specs.Example.{tree_id, signer_of, key_of, the_setup, the_journals, message_of}
use Rattle.pbft_agreement.specs.Episode.{change_with, Turn, rows_of_turns}
use Rattle.pbft_progress.specs.Progress.{IsFor, IsDrained, Ends, EachEnds, Enough}
use Rattle.pbft_progress.specs.Drained.{view_change, the_new_view, new_view, turns_by, the_drained}
use Rattle.pbft_agreement.proofs.Reporting.{one_core}
use Rattle.pbft_agreement.proofs.Turns.{Arises, lawful_turns, core_over, states_over, ran_to, EachReceived, received_one, one_of_all}

-- ---- what holds of each output of rows that are made of turns

one_of : {X : Type 0} (P : X → Type 0) (xs : List X) (x : X) → AllByRecursion P xs → IsIn x xs → P x
one_of P [] x all none = absurd none
one_of P (y ∷ xs) x (here, rest) (inl same) = subst P (sym same) here
one_of P (y ∷ xs) x (here, rest) (inr later) = one_of P xs x rest later

abbrev pub EachGiven : (Output → Type 0) → List Turn → Type 0
EachGiven P [] = Unit {0}
EachGiven P (t ∷ ts) = AllByRecursion P (all_outputs t.acts) × EachGiven P ts

pub given_one : (c : Setup) (P : Output → Type 0) (ts : List Turn) (row : Row) (output : Output) → EachGiven P ts → IsIn row (rows_of_turns c ts) → IsIn output row.outputs → P output
given_one c P [] row output each none within = absurd none
given_one c P (t ∷ ts) row output (here, rest) (inl same) within = one_of P (all_outputs t.acts) output here (subst (λ (r : Row). IsIn output r.outputs) same within)
given_one c P (t ∷ ts) row output (here, rest) (inr later) within = given_one c P ts row output rest later within

module _ (hash : List ℕ → List ℕ) (secrets : ℕ → List ℕ) where
  abbrev c : Setup
  c = the_setup hash secrets

  abbrev journals : Journals
  journals = the_drained hash secrets

  configuration : IsConfiguration c.config
  configuration = record {
    min_faulty = omega arith;
    max_faulty = omega arith;
    min_interval = omega arith;
    max_interval = omega arith;
    a_key_each = refl;
    clients = omega arith;
    tenants = omega arith;
    client_ids = All-cons (λ (client : ClientEntry). 16 ≤ client.id.0) (the_client (key_of secrets 100)) [] (omega arith) (All-nil (λ (client : ClientEntry). 16 ≤ client.id.0));
    different_clients = λ i j d lt below. absurd (omega (arith, lt, below));
  }

  -- ---- the messages were opened

  small_leaf : (n leaf : ℕ) → leaf < 32 → (text : List ℕ)
      → signature_fault (key_of secrets n) text (signature_of_leaf H5 None (tree_id n) (secrets n) leaf text) ≡ None
  small_leaf n leaf small text = valid-signature_by H5 None (tree_id n) (secrets n) leaf text refl small

  authentic : (n leaf : ℕ) (b : Body) → leaf < 32 → slice_get c.config.keys n ≡ Some (key_of secrets n) → IsTrue (may_sign c.config Replica n b)
      → IsAuthentic c.config (message_of secrets n leaf b)
  unfolding signature_by
  authentic n leaf b small listed role =
      record { key = key_of secrets n; listed = listed; role = role; signature = small_leaf n (0 + leaf) (omega (arith, small)) (signed_text (message_of secrets n leaf b)) }

  signature_length : (n leaf : ℕ) (b : Body) → leaf < 32 → length (message_of secrets n leaf b).sig ≡ 2348
  unfolding signature_by
  signature_length n leaf b small =
      let m : Signed Body = message_of secrets n leaf b in
      length-signature_by H5 None (tree_id n) (secrets n) (0 + leaf) (signed_text m)

  opened : (n leaf : ℕ) (b : Body) → n < 4 → leaf < 32 → slice_get c.config.keys n ≡ Some (key_of secrets n) → IsTrue (may_sign c.config Replica n b)
      → BodyWellFormed b → BodyFieldsInRange b → encoded_length_of b ≤ 100_000 → AllByRecursion (IsAuthentic c.config) (nested_in b)
      → IsChecked (record { config = c.config; message = message_of secrets n leaf b })
  opened n leaf b below small listed role fits range short nested =
      let m : Signed Body = message_of secrets n leaf b in
      let long = signature_length n leaf b small in
      let whole = length_encoding m in
      let inner = length_body b range in
      record {
        encodes = record {
          well_formed = record { well_formed = fits; fields_in_range = record { id_in_range = omega (arith, below); body_in_range = range } };
          encoded = refl;
          within = omega (arith, long, whole, inner, short);
        };
        authentic = (authentic n leaf b small listed role, nested);
      }

  change_fits : ViewChangeWellFormed (change_with [])
  change_fits = record { low = omega arith; few_checkpoints = omega arith; ascend = tt; numbers = tt; few_certificates = omega arith; certificates = tt }

  change_in_range : ViewChangeFieldsInRange (change_with [])
  change_in_range = record { view_in_range = omega arith; checkpoints_in_range = tt; certificates_in_range = tt }

  change_taken : (n : ℕ) → n < 4 → slice_get c.config.keys n ≡ Some (key_of secrets n) → MayTake c (view_change secrets n) None
  change_taken n below listed =
      record { opened = opened n 0 (bodies.ViewChange (change_with [])) below (omega arith) listed refl change_fits change_in_range (omega arith) tt; reads = refl }

  new_view_fits : NewViewWellFormed (the_new_view secrets)
  new_view_fits = record {
    few_changes = omega arith;
    ascend = (omega arith, (omega arith, (omega arith, tt)));
    changes = (change_fits, (change_fits, (change_fits, tt)));
    few_pre_prepares = omega arith;
    numbers = tt;
  }

  new_view_in_range : NewViewFieldsInRange (the_new_view secrets)
  new_view_in_range = record {
    view_in_range = omega arith;
    changes_in_range = (record { id_in_range = omega arith; body_in_range = change_in_range }, (record { id_in_range = omega arith; body_in_range = change_in_range }, (record { id_in_range = omega arith; body_in_range = change_in_range }, tt)));
    pre_prepares_in_range = tt;
  }

  new_view_taken : MayTake c (new_view secrets) None
  new_view_taken =
      let change : Body = bodies.ViewChange (change_with []) in
      let first = signature_length 0 0 change (omega arith) in
      let second = signature_length 1 0 change (omega arith) in
      let third = signature_length 2 0 change (omega arith) in
      record {
        opened = opened 1 1 (bodies.NewView (the_new_view secrets)) (omega arith) (omega arith) refl refl new_view_fits new_view_in_range (omega (arith, first, second, third))
            (authentic 0 0 change (omega arith) refl refl, (authentic 1 0 change (omega arith) refl refl, (authentic 2 0 change (omega arith) refl refl, tt)));
        reads = refl;
      }

  -- ---- the rows are lawful

  arises_0 : Arises c 0 (start_of c (signer_of secrets 0)) (turns_by secrets 0)
  arises_0 = (
    change_taken 1 (omega arith) refl,
    record { follows = refl; rests = refl },
    (
      change_taken 2 (omega arith) refl,
      record { follows = (refl, omega arith, refl); rests = refl },
      (new_view_taken, record { follows = (refl, omega arith, refl); rests = refl }, tt),
    ),
  )

  arises_1 : Arises c 1 (start_of c (signer_of secrets 1)) (turns_by secrets 1)
  arises_1 = (
    tt,
    record { follows = (refl, omega arith, refl); rests = refl },
    (
      change_taken 2 (omega arith) refl,
      record { follows = refl; rests = refl },
      (change_taken 0 (omega arith) refl, record { follows = (refl, omega arith, refl); rests = refl }, tt),
    ),
  )

  arises_2 : Arises c 2 (start_of c (signer_of secrets 2)) (turns_by secrets 2)
  arises_2 = (
    tt,
    record { follows = (refl, omega arith, refl); rests = refl },
    (
      change_taken 1 (omega arith) refl,
      record { follows = refl; rests = refl },
      (
        change_taken 0 (omega arith) refl,
        record { follows = refl; rests = refl },
        (new_view_taken, record { follows = (refl, omega arith, refl); rests = refl }, tt),
      ),
    ),
  )

  arises : (i : ℕ) → Arises c i (start_of c (signer_of secrets i)) (turns_by secrets i)
  arises zero = arises_0
  arises (suc zero) = arises_1
  arises (suc (suc zero)) = arises_2
  arises (suc (suc (suc n))) = tt

  listed : (i : ℕ) → IsCorrect c journals.faulty i → IsListed c i (signer_of secrets i)
  listed zero correct = (key_of secrets 0, refl, refl)
  listed (suc zero) correct = (key_of secrets 1, refl, refl)
  listed (suc (suc zero)) correct = (key_of secrets 2, refl, refl)
  listed (suc (suc (suc zero))) correct = absurd (true≢false correct.1)
  listed (suc (suc (suc (suc n)))) correct = absurd (omega (arith, correct.0))

  -- ---- what was received is real

  abbrev IsSent : Signed Body → Type 0
  IsSent p = p.role ≡ Replica → IsCorrect c journals.faulty p.id → HasGiven (part_of p) (journals.rows p.id)

  abbrev AreSent : Signed Body → Type 0
  AreSent m = AllByRecursion IsSent (messages_in m)

  sent_0 : IsSent (view_change secrets 0)
  sent_0 role right = (_, _, inr (inl refl), inl refl, refl, inl refl)

  sent_1 : IsSent (view_change secrets 1)
  sent_1 role right = (_, _, inl refl, inl refl, refl, inl refl)

  sent_2 : IsSent (view_change secrets 2)
  sent_2 role right = (_, _, inl refl, inl refl, refl, inl refl)

  new_view_sent : IsSent (new_view secrets)
  new_view_sent role right = (_, _, inr (inr (inl refl)), inl refl, refl, inl refl)

  all_sent : AreSent (new_view secrets)
  all_sent = (new_view_sent, (sent_0, (sent_1, (sent_2, tt))))

  sent : (i : ℕ) → EachReceived AreSent (turns_by secrets i)
  sent zero = ((sent_1, tt), ((sent_2, tt), (all_sent, tt)))
  sent (suc zero) = (tt, ((sent_2, tt), ((sent_0, tt), tt)))
  sent (suc (suc zero)) = (tt, ((sent_1, tt), ((sent_0, tt), (all_sent, tt))))
  sent (suc (suc (suc n))) = tt

  real : (i : ℕ) (m p : Signed Body) → HasReceived m (journals.rows i) → IsIn p (messages_in m) → IsSent p
  real i m p received within = one_of_all IsSent (messages_in m) p (received_one c AreSent (turns_by secrets i) m (sent i) received) within

  -- ---- nothing but the null request's text was hashed

  abbrev IsOther : Signed Body → Type 0
  IsOther m = ((b : RequestBody) → bodies.Request b ≡ m.body → ⊥) × ((b : Snapshot) → bodies.Snapshot b ≡ m.body → ⊥)

  change_other : (n : ℕ) → IsOther (view_change secrets n)
  change_other n = ((λ b e. cc), (λ b e. cc))

  new_view_other : IsOther (new_view secrets)
  new_view_other = ((λ b e. cc), (λ b e. cc))

  others : (i : ℕ) → EachReceived IsOther (turns_by secrets i)
  others zero = (change_other 1, (change_other 2, (new_view_other, tt)))
  others (suc zero) = (tt, (change_other 2, (change_other 0, tt)))
  others (suc (suc zero)) = (tt, (change_other 1, (change_other 0, (new_view_other, tt))))
  others (suc (suc (suc n))) = tt

  other : (i : ℕ) (m : Signed Body) → HasReceived m (journals.rows i) → IsOther m
  other i m received = received_one c IsOther (turns_by secrets i) m (others i) received

  no_state : (i : ℕ) (state : Service) → IsIn state (states_over (turns_by secrets i)) → ⊥
  no_state zero state none = none
  no_state (suc zero) state none = none
  no_state (suc (suc zero)) state none = none
  no_state (suc (suc (suc n))) state none = none

  hashed : (x : List ℕ) → IsHashedIn c journals x → x ≡ []
  hashed x (inl none) = none
  hashed x (inr (inl (m, (i, correct, received), is))) = absurd ((other i (as_message bodies.Request m) received).0 m.body refl)
  hashed x (inr (inr (inl (m, (i, correct, received), is)))) = absurd ((other i (as_message bodies.Snapshot m) received).1 m.body refl)
  hashed x (inr (inr (inr (i, state, correct, runs, is)))) =
      absurd (no_state i state (ran_to c i (start_of c (signer_of secrets i)) (turns_by secrets i) state (arises i) runs))

  comes : (i : ℕ) → ComesTo c journals i (journals.rows i) (core_over c (start_of c (signer_of secrets i)) (turns_by secrets i))
  comes i = lawful_turns c i (start_of c (signer_of secrets i)) (turns_by secrets i) (arises i)

  pub is_honest : IsHonestFamily c journals
  is_honest = record {
    configuration = configuration;
    few = omega arith;
    listed = listed;
    lawful = λ i correct. (core_over c (start_of c (signer_of secrets i)) (turns_by secrets i), comes i);
    real = λ i correct m p received within. real i m p received within;
    apart = λ x y a b e. hashed x a ∙ sym (hashed y b);
  }

  -- ---- what was given came

  abbrev ComesFrom : ℕ → Output → Type 0
  ComesFrom from output = (i : ℕ) → IsCorrect c journals.faulty i → (from ≡ i → ⊥) → IsFor i output.to → HasReceived output.message (journals.rows i)

  from_0 : ComesFrom 0 (record { to = All; message = view_change secrets 0; own = true })
  from_0 zero right apart named = absurd (apart refl)
  from_0 (suc zero) right apart named = (_, inr (inr (inl refl)), refl)
  from_0 (suc (suc zero)) right apart named = (_, inr (inr (inl refl)), refl)
  from_0 (suc (suc (suc zero))) right apart named = absurd (true≢false right.1)
  from_0 (suc (suc (suc (suc n)))) right apart named = absurd (omega (arith, right.0))

  from_1 : ComesFrom 1 (record { to = All; message = view_change secrets 1; own = true })
  from_1 zero right apart named = (_, inl refl, refl)
  from_1 (suc zero) right apart named = absurd (apart refl)
  from_1 (suc (suc zero)) right apart named = (_, inr (inl refl), refl)
  from_1 (suc (suc (suc zero))) right apart named = absurd (true≢false right.1)
  from_1 (suc (suc (suc (suc n)))) right apart named = absurd (omega (arith, right.0))

  new_view_from_1 : ComesFrom 1 (record { to = All; message = new_view secrets; own = true })
  new_view_from_1 zero right apart named = (_, inr (inr (inl refl)), refl)
  new_view_from_1 (suc zero) right apart named = absurd (apart refl)
  new_view_from_1 (suc (suc zero)) right apart named = (_, inr (inr (inr (inl refl))), refl)
  new_view_from_1 (suc (suc (suc zero))) right apart named = absurd (true≢false right.1)
  new_view_from_1 (suc (suc (suc (suc n)))) right apart named = absurd (omega (arith, right.0))

  from_2 : ComesFrom 2 (record { to = All; message = view_change secrets 2; own = true })
  from_2 zero right apart named = (_, inr (inl refl), refl)
  from_2 (suc zero) right apart named = (_, inr (inl refl), refl)
  from_2 (suc (suc zero)) right apart named = absurd (apart refl)
  from_2 (suc (suc (suc zero))) right apart named = absurd (true≢false right.1)
  from_2 (suc (suc (suc (suc n)))) right apart named = absurd (omega (arith, right.0))

  given : (from : ℕ) → EachGiven (ComesFrom from) (turns_by secrets from)
  given zero = (tt, ((from_0, tt), (tt, tt)))
  given (suc zero) = ((from_1, tt), (tt, ((new_view_from_1, tt), tt)))
  given (suc (suc zero)) = ((from_2, tt), (tt, (tt, (tt, tt))))
  given (suc (suc (suc n))) = tt

  pub is_drained : IsDrained c journals
  is_drained from i row output correct right apart at within named = given_one c (ComesFrom from) (turns_by secrets from) row output (given from) at within i right apart named

  -- ---- what there is in it

  pub gave : HasGiven (part_of (view_change secrets 0)) (journals.rows 0) × HasGiven (part_of (new_view secrets)) (journals.rows 1)
  gave = ((_, _, inr (inl refl), inl refl, refl, inl refl), (_, _, inr (inr (inl refl)), inl refl, refl, inl refl))

  abbrev IsOthers : ℕ → Signed Body → Type 0
  IsOthers i m = m.id ≡ i → ⊥

  of_others : (i : ℕ) → EachReceived (IsOthers i) (turns_by secrets i)
  of_others zero = ((λ e. omega (arith, e)), ((λ e. omega (arith, e)), ((λ e. omega (arith, e)), tt)))
  of_others (suc zero) = (tt, ((λ e. omega (arith, e)), ((λ e. omega (arith, e)), tt)))
  of_others (suc (suc zero)) = (tt, ((λ e. omega (arith, e)), ((λ e. omega (arith, e)), ((λ e. omega (arith, e)), tt))))
  of_others (suc (suc (suc n))) = tt

  pub not_own : (i : ℕ) (m : Signed Body) → HasReceived m (journals.rows i) → m.id ≡ i → ⊥
  not_own i m received = received_one c (IsOthers i) (turns_by secrets i) m (of_others i) received

  view_1 : (i : ℕ) → IsCorrect c journals.faulty i → (core_over c (start_of c (signer_of secrets i)) (turns_by secrets i)).view ≡ 1
  view_1 zero correct = refl
  view_1 (suc zero) correct = refl
  view_1 (suc (suc zero)) correct = refl
  view_1 (suc (suc (suc zero))) correct = absurd (true≢false correct.1)
  view_1 (suc (suc (suc (suc n)))) correct = absurd (omega (arith, correct.0))

  pub all_stand : EachEnds c journals (λ i s. s.view ≡ 1)
  all_stand i correct s ends =
      subst (λ (x : Core). x.view ≡ 1) (one_core c i (signer_of secrets i) (journals.rows i) (start_of c (signer_of secrets i)) (core_over c (start_of c (signer_of secrets i)) (turns_by secrets i)) s (comes i) ends) (view_1 i correct)

  -- replicas 0 and 1
  pub are_enough : Enough c journals (λ i. Ends c journals i (λ s. 1 ≤ s.view))
  are_enough = (
    (λ i. nat_lt i 2),
    omega arith,
    λ i below t.
        let less = ltb-true i 2 t in
        let right : IsCorrect c journals.faulty i = (below, ne_eqb i 3 (λ e. absurd (omega (arith, less, e)))) in
        (right, λ s ends. let same = all_stand i right s ends in omega (arith, same)),
  )

  pub led : IsCorrect c journals.faulty (primary c.config 1)
  led = (omega arith, refl)

  pub not_drained : IsDrained c (the_journals hash secrets) → ⊥
  not_drained all = (all 0 2 _ _ (omega arith, refl) (omega arith, refl) (λ e. absurd (omega (arith, e))) (inl refl) (inl refl) tt).1
