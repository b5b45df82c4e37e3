-- The honest family of journals in which a request is executed.
use Rattle.std.proofs.Common.{◌≡◌, ◌⊎◌, ℕ, zero, suc, List, [], ◌∷◌, ◌++◌, map, None, refl, sym, ap, subst, ◌∙◌, arith, inl, inr}
use Rattle.std.specs.FinMap.{get-empty}
use Rattle.std.proofs.lemmas.Bool.{true≢false}
use Rattle.pbft_codec.specs.declared.body.Body.TheVariants as bodies
use Rattle.pbft_codec.specs.Encoding.{body}
use Rattle.pbft_codec.specs.Layouts.{length_prefixed}
use Rattle.pbft_codec.specs.Layouts as layouts
use Rattle.sha2.specs.Sha256.{sha256}
use Rattle.seal.specs.Parts.{messages_in}
use Rattle.pbft_model.specs.Words.{Signed, Body, RequestBody, Snapshot, Replica, as_message, part_of, signed_text}
use Rattle.pbft_model.specs.Sequential.{Service, encoded}
use Rattle.pbft_model.specs.Setup.{Setup}
use Rattle.pbft_model.specs.Core.{Core, start_of}
use Rattle.pbft_model.specs.Acts.{Act, Take, after}
use Rattle.pbft_model.specs.Rules.{MayTake}
use Rattle.pbft_model.specs.Rows.{Row, Received, Executed, Reacts, IsNext, IsLawfulFrom, IsListed}
use Rattle.pbft_model.specs.Histories.{IsIn}
use Rattle.pbft_model.specs.Families.{IsCorrect}
use Rattle.pbft_agreement.specs.Journals.{Journals, HasReceived, HasGiven, HasDone, ExecutesTo, RunsTo, IsHashedIn, IsHonestFamily}
use Rattle.pbft_agreement.specs.Worked.{through, the_outcome, after_request, a_pre_prepare, a_prepare, a_commit, reply_in_view_0}
use Rattle.pbft_agreement.specs.Example.{signer_of, key_of, the_setup, a_request, the_digest, message_of, Reaction, row_of, rows_of, reactions_of_primary, reactions_of_backup, reactions_by, the_journals}
use Rattle.pbft_model.proofs.Found.{in_append_left, in_append_right}
use Rattle.pbft_agreement.proofs.Digests.{by_table, table_is}
use Rattle.pbft_model.proofs.Unique.{same_acts}
use Rattle.pbft_agreement.proofs.Example.{state_in, states_in, request_opened, proposal_opened, prepare_opened, commit_opened, step, configuration, text, Known, apart}

-- ---- rows of reactions

-- the core after one, and after several
abbrev core_by : Setup → Core → Reaction → Core
core_by c s r = through c s (Take r.0 None ∷ r.1)

abbrev core_over : Setup → Core → List Reaction → Core
core_over c s [] = s
core_over c s (r ∷ rs) = core_over c (core_by c s r) rs

-- each message may be taken, and makes the replica do just that
abbrev Arises : Setup → ℕ → Core → List Reaction → Type 0
Arises c me s [] = Unit {0}
Arises c me s (r ∷ rs) =
    MayTake c r.0 None × Reacts c me (after c s (Take r.0 None)) r.1 (core_by c s r) × Arises c me (core_by c s r) rs

abbrev next_row : (c : Setup) (me : ℕ) (s : Core) (r : Reaction) → MayTake c r.0 None → Reacts c me (after c s (Take r.0 None)) r.1 (core_by c s r) → IsNext c me s (row_of c r) (core_by c s r)
next_row c me s r may reacts = record { first = Take r.0 None; acts = r.1; begins = (None, may, refl); reacts = reacts; outputs = refl; done = refl; leaves = refl }

lawful_rows : (c : Setup) (me : ℕ) (s : Core) (rs : List Reaction) → Arises c me s rs → IsLawfulFrom c me s (rows_of c rs) (core_over c s rs)
lawful_rows c me s [] h = refl
lawful_rows c me s (r ∷ rs) (may, reacts, rest) = (core_by c s r, next_row c me s r may reacts, lawful_rows c me (core_by c s r) rs rest)

-- the messages that they begin with
received_in : (c : Setup) (m : Signed Body) (rs : List Reaction) → HasReceived m (rows_of c rs) → IsIn m (map (λ r. r.0) rs)
received_in c m [] (row, none, e) = absurd none
received_in c m (r ∷ rs) (row, inl same, e) = inl (input_is m r.0 (sym e ∙ ap (λ (x : Row). x.input) same)) where
  input_is : (x y : Signed Body) → Received x ≡ Received y → x ≡ y
  input_is x y e = cc
received_in c m (r ∷ rs) (row, inr later, e) = inr (received_in c m rs (row, later, e))

-- the states that they execute to
pub executed_in : (state : Service) (acts : List Act) → ExecutesTo state acts → IsIn state (states_in acts)
executed_in state [] (n, d, o, none) = absurd none
executed_in state (a ∷ acts) (n, d, o, inl same) = in_append_left state (state_in a) (states_in acts) (subst (λ (b : Act). IsIn state (state_in b)) same (inl refl))
executed_in state (a ∷ acts) (n, d, o, inr later) = in_append_right state (state_in a) (states_in acts) (executed_in state acts (n, d, o, later))

abbrev states_over : List Reaction → List Service
states_over [] = []
states_over (r ∷ rs) = states_in r.1 ++ states_over rs

ran_to : (c : Setup) (me : ℕ) (s : Core) (rs : List Reaction) (state : Service) → Arises c me s rs → RunsTo c me s (rows_of c rs) state → IsIn state (states_over rs)
ran_to c me s [] state h none = absurd none
ran_to c me s (r ∷ rs) state (may, reacts, rest) (u, next, inl here) =
    let same = same_acts c me s u (core_by c s r) (row_of c r) (row_of c r) refl next (next_row c me s r may reacts) in
    in_append_left state (states_in r.1) (states_over rs) (executed_in state r.1 (subst (ExecutesTo state) same.0 here))
ran_to c me s (r ∷ rs) state (may, reacts, rest) (u, next, inr later) =
    let same = same_acts c me s u (core_by c s r) (row_of c r) (row_of c r) refl next (next_row c me s r may reacts) in
    in_append_right state (states_in r.1) (states_over rs) (ran_to c me (core_by c s r) rs state rest (subst (λ (t : Core). RunsTo c me t (rows_of c rs) state) same.1 later))

module _ (secrets : ℕ → List ℕ) where
  abbrev c : Setup
  c = the_setup by_table secrets

  abbrev journals : Journals
  journals = the_journals by_table secrets

  abbrev request : Signed Body
  request = as_message bodies.Request (a_request secrets)

  abbrev proposal : Signed Body
  proposal = message_of secrets 0 0 (a_pre_prepare 0 1 the_digest)

  abbrev prepare_by : ℕ → Signed Body
  prepare_by n = message_of secrets n 0 (a_prepare 0 1 the_digest)

  abbrev commit_by : ℕ → Signed Body
  commit_by n = message_of secrets n 1 (a_commit 0 1 the_digest)

  -- ---- the rows are lawful

  request_taken : MayTake c request None
  request_taken = record { opened = request_opened secrets; reads = refl }

  proposal_taken : MayTake c proposal None
  proposal_taken = record { opened = proposal_opened secrets; reads = refl }

  primary_arises : Arises c 0 (start_of c (signer_of secrets 0)) (reactions_of_primary secrets)
  unfolding body layouts.request length_prefixed
  primary_arises = (
    request_taken,
    record { follows = (rw get-empty, omega arith, refl); rests = rw get-empty },
    (
      record { opened = prepare_opened secrets 1 (omega arith) refl refl; reads = refl },
      record { follows = refl; rests = rw get-empty },
      (
        record { opened = prepare_opened secrets 3 (omega arith) refl refl; reads = refl },
        record { follows = (rw get-empty, omega arith, refl); rests = rw get-empty },
        tt,
      ),
    ),
  )

  backup_arises : Arises c 1 (start_of c (signer_of secrets 1)) (reactions_of_backup secrets)
  unfolding body layouts.request length_prefixed
  backup_arises = (
    request_taken,
    record { follows = refl; rests = rw get-empty },
    (
      proposal_taken,
      record { follows = (refl, omega arith, refl); rests = refl },
      (
        record { opened = prepare_opened secrets 3 (omega arith) refl refl; reads = refl },
        record { follows = (refl, omega arith, refl); rests = refl },
        (
          record { opened = commit_opened secrets 0 (omega arith) refl; reads = refl },
          record { follows = refl; rests = refl },
          (
            record { opened = commit_opened secrets 3 (omega arith) refl; reads = refl },
            record { follows = ((after_request c.config, the_outcome, step secrets, refl), omega arith, (refl, omega arith, refl)); rests = refl },
            tt,
          ),
        ),
      ),
    ),
  )

  arises : (i : ℕ) → Arises c i (start_of c (signer_of secrets i)) (reactions_by secrets i)
  arises zero = primary_arises
  arises (suc zero) = backup_arises
  arises (suc (suc n)) = tt

  listed : (i : ℕ) → IsCorrect c journals.faulty i → IsListed c i (signer_of secrets i)
  listed zero correct = (key_of secrets 0, refl, refl)
  listed (suc zero) correct = (key_of secrets 1, refl, refl)
  listed (suc (suc zero)) correct = (key_of secrets 2, refl, refl)
  listed (suc (suc (suc zero))) correct = absurd (true≢false correct.1)
  listed (suc (suc (suc (suc n)))) correct = absurd (omega (arith, correct.0))

  -- ---- what was received is real

  abbrev IsSent : Signed Body → Type 0
  IsSent p = p.role ≡ Replica → IsCorrect c journals.faulty p.id → HasGiven (part_of p) (journals.rows p.id)

  alone_sent : (m x p : Signed Body) → m ≡ x → messages_in x ≡ x ∷ [] → IsIn p (messages_in m) → IsSent x → IsSent p
  alone_sent m x p same alone within sent = elim (subst (λ (ms : List (Signed Body)). IsIn p ms) alone (subst (λ (y : Signed Body). IsIn p (messages_in y)) same within)) [
    | inl is ↦ subst IsSent (sym is) sent
    | inr none ↦ absurd none
  ]

  proposal_sent : HasGiven (part_of proposal) (journals.rows 0)
  proposal_sent = (_, _, inl refl, inl refl, refl, inl refl)

  prepare_sent : HasGiven (part_of (prepare_by 1)) (journals.rows 1)
  prepare_sent = (_, _, inr (inl refl), inl refl, refl, inl refl)

  commit_sent : HasGiven (part_of (commit_by 0)) (journals.rows 0)
  commit_sent = (_, _, inr (inr (inl refl)), inl refl, refl, inl refl)

  real : (i : ℕ) → (m p : Signed Body) → HasReceived m (journals.rows i) → IsIn p (messages_in m) → IsSent p
  real zero m p received within = elim (received_in c m (reactions_of_primary secrets) received) [
    | inl is ↦ alone_sent m request p is refl within (λ role right. absurd cc)
    | inr (inl is) ↦ alone_sent m (prepare_by 1) p is refl within (λ role right. prepare_sent)
    | inr (inr (inl is)) ↦ alone_sent m (prepare_by 3) p is refl within (λ role right. absurd (true≢false right.1))
    | inr (inr (inr none)) ↦ absurd none
  ]
  real (suc zero) m p received within = elim (received_in c m (reactions_of_backup secrets) received) [
    | inl is ↦ alone_sent m request p is refl within (λ role right. absurd cc)
    | inr (inl is) ↦ alone_sent m proposal p is refl within (λ role right. proposal_sent)
    | inr (inr (inl is)) ↦ alone_sent m (prepare_by 3) p is refl within (λ role right. absurd (true≢false right.1))
    | inr (inr (inr (inl is))) ↦ alone_sent m (commit_by 0) p is refl within (λ role right. commit_sent)
    | inr (inr (inr (inr (inl is)))) ↦ alone_sent m (commit_by 3) p is refl within (λ role right. absurd (true≢false right.1))
    | inr (inr (inr (inr (inr none)))) ↦ absurd none
  ]
  real (suc (suc n)) m p received within = absurd (received_in c m [] received)

  -- ---- what was hashed

  -- a message of the rows is the request, or no Request and no Snapshot
  abbrev IsPlain : Signed Body → Type 0
  IsPlain m = (m ≡ request) ⊎ ((((b : RequestBody) → bodies.Request b ≡ m.body → ⊥) × ((b : Snapshot) → bodies.Snapshot b ≡ m.body → ⊥)))

  plain : (i : ℕ) (m : Signed Body) → HasReceived m (journals.rows i) → IsPlain m
  plain zero m received = elim (received_in c m (reactions_of_primary secrets) received) [
    | inl is ↦ inl is
    | inr (inl is) ↦ subst IsPlain (sym is) (inr ((λ b e. cc), (λ b e. cc)))
    | inr (inr (inl is)) ↦ subst IsPlain (sym is) (inr ((λ b e. cc), (λ b e. cc)))
    | inr (inr (inr none)) ↦ absurd none
  ]
  plain (suc zero) m received = elim (received_in c m (reactions_of_backup secrets) received) [
    | inl is ↦ inl is
    | inr (inl is) ↦ subst IsPlain (sym is) (inr ((λ b e. cc), (λ b e. cc)))
    | inr (inr (inl is)) ↦ subst IsPlain (sym is) (inr ((λ b e. cc), (λ b e. cc)))
    | inr (inr (inr (inl is))) ↦ subst IsPlain (sym is) (inr ((λ b e. cc), (λ b e. cc)))
    | inr (inr (inr (inr (inl is)))) ↦ subst IsPlain (sym is) (inr ((λ b e. cc), (λ b e. cc)))
    | inr (inr (inr (inr (inr none)))) ↦ absurd none
  ]
  plain (suc (suc n)) m received = absurd (received_in c m [] received)

  request_text : (m : Signed RequestBody) → IsPlain (as_message bodies.Request m) → signed_text (as_message bodies.Request m) ≡ text secrets
  request_text m (inl is) = ap signed_text is
  request_text m (inr other) = absurd (other.0 m.body refl)

  no_snapshot : (m : Signed Snapshot) → IsPlain (as_message bodies.Snapshot m) → ⊥
  no_snapshot m (inl is) = let same : bodies.Snapshot m.body ≡ request.body = ap (λ (x : Signed Body). x.body) is in cc
  no_snapshot m (inr other) = other.1 m.body refl

  state_is : (i : ℕ) (state : Service) → IsIn state (states_over (reactions_by secrets i)) → state ≡ after_request c.config
  state_is zero state none = absurd none
  state_is (suc zero) state (inl is) = is
  state_is (suc zero) state (inr none) = absurd none
  state_is (suc (suc n)) state none = absurd none

  known : (x : List ℕ) → IsHashedIn c journals x → Known secrets x
  known x (inl none) = inl none
  known x (inr (inl (m, (i, correct, received), is))) = inr (inl (is ∙ request_text m (plain i (as_message bodies.Request m) received)))
  known x (inr (inr (inl (m, (i, correct, received), is)))) = absurd (no_snapshot m (plain i (as_message bodies.Snapshot m) received))
  known x (inr (inr (inr (i, state, correct, runs, is)))) =
      inr (inr (is ∙ ap encoded (state_is i state (ran_to c i (start_of c (signer_of secrets i)) (reactions_by secrets i) state (arises i) runs))))

  honest_by_table : IsHonestFamily c journals
  honest_by_table = record {
    configuration = configuration secrets;
    few = omega arith;
    listed = listed;
    lawful = λ i correct. (core_over c (start_of c (signer_of secrets i)) (reactions_by secrets i), lawful_rows c i (start_of c (signer_of secrets i)) (reactions_by secrets i) (arises i));
    real = λ i correct m p received within. real i m p received within;
    apart = λ x y a b e. apart secrets x y (known x a) (known y b) e;
  }

  pub is_honest_family : IsHonestFamily (the_setup sha256 secrets) (the_journals sha256 secrets)
  is_honest_family = subst (λ (hash : List ℕ → List ℕ). IsHonestFamily (the_setup hash secrets) (the_journals hash secrets)) (λ k text. table_is text k) honest_by_table

  pub one_executes : IsCorrect (the_setup sha256 secrets) (the_journals sha256 secrets).faulty 1 × HasDone (Executed 1 the_digest (1 ∷ [])) ((the_journals sha256 secrets).rows 1)
  one_executes = ((omega arith, refl), (_, inr (inr (inr (inr (inl refl)))), inl refl))

  pub one_replies : HasGiven (part_of (message_of secrets 1 2 reply_in_view_0)) ((the_journals sha256 secrets).rows 1)
  one_replies = (_, _, inr (inr (inr (inr (inl refl)))), inl refl, refl, inl refl)
