-- The honest drained family in which each correct replica executes a client's request.
use Rattle.std.proofs.Common.{◌≡◌, ◌⊎◌, ℕ, zero, suc, ◌<◌, ◌≤◌, List, [], ◌∷◌, ◌++◌, None, refl, sym, ap, subst, ◌∙◌, arith, inl, inr, true}
use Rattle.std.specs.FinMap.{get-empty, get-insert}
use Rattle.std.specs.Cmp.{nat_cmp_total}
use Rattle.std.specs.List.{AllByRecursion}
use Rattle.std.proofs.lemmas.Bool.{true≢false}
use Rattle.sha2.specs.Sha256.{sha256}
use Rattle.seal.specs.Parts.{messages_in}
use Rattle.pbft_codec.specs.declared.body.Body.TheVariants as bodies
use Rattle.pbft_codec.specs.Encoding.{body}
use Rattle.pbft_codec.specs.Layouts.{length_prefixed}
use Rattle.pbft_codec.specs.Layouts as layouts
use Rattle.pbft_model.specs.Words.{Signed, Body, RequestBody, PrePrepare, Snapshot, Replica, Part, as_message, part_of, signed_text}
use Rattle.pbft_model.specs.Sequential.{Service, encoded}
use Rattle.pbft_model.specs.Setup.{Setup}
use Rattle.pbft_model.specs.Certificates.{Fields}
use Rattle.pbft_model.specs.Core.{Core, start_of}
use Rattle.pbft_model.specs.Acts.{All, ToClient}
use Rattle.pbft_model.specs.Rules.{MayTake}
use Rattle.pbft_model.specs.Rows.{Row, Output, Done, Executed, Installed, IsListed, all_done}
use Rattle.pbft_model.specs.Histories.{IsIn, signed_in}
use Rattle.pbft_model.specs.Families.{IsCorrect}
use Rattle.pbft_agreement.specs.Journals.{Journals, HasReceived, HasGiven, HasDone, IsHashedIn, IsHonestFamily, ComesTo}
use Rattle.pbft_agreement.specs.Worked.{after_request, the_outcome, a_pre_prepare, a_prepare, a_commit, reply_in_view_0}
use Rattle.pbft_agreement.specs.Example.{signer_of, key_of, the_setup, a_request, the_digest, message_of}
use Rattle.pbft_agreement.specs.Episode.{Turn, rows_of_turns}
use Rattle.pbft_progress.specs.Progress.{IsFor, IsDrained, EachEnds}
use Rattle.pbft_progress.specs.Votes.{HasProposed}
use Rattle.pbft_answers.specs.Window.{AsksInOrder, SpreadsRequests, IsFirstWindow, InstallsNothing}
use Rattle.pbft_answers.specs.Answered.{the_proposal, prepare_by, commit_by, reply_by, turns_by, the_answered}
use Rattle.pbft_model.proofs.Found.{in_append_left, in_append_right}
use Rattle.pbft_agreement.proofs.Digests.{by_table, table_is}
use Rattle.pbft_agreement.proofs.Example.{request_opened, proposal_opened, prepare_opened, commit_opened, step, configuration, text, Known, apart}
use Rattle.pbft_agreement.proofs.Reporting.{one_core}
use Rattle.pbft_agreement.proofs.Turns.{Arises, lawful_turns, core_over, states_over, ran_to, EachReceived, received_one, one_of_all}
use Rattle.pbft_progress.proofs.Drained.{EachGiven, given_one}

module _ (secrets : ℕ → List ℕ) where
  abbrev c : Setup
  c = the_setup by_table secrets

  abbrev journals : Journals
  journals = the_answered by_table secrets

  -- ---- the rows are lawful

  request_taken : MayTake c (as_message bodies.Request (a_request secrets)) None
  request_taken = record { opened = request_opened secrets; reads = refl }

  proposal_taken : MayTake c (the_proposal secrets) None
  proposal_taken = record { opened = proposal_opened secrets; reads = refl }

  arises_0 : Arises c 0 (start_of c (signer_of secrets 0)) (turns_by secrets 0)
  unfolding body layouts.request length_prefixed
  arises_0 = (
    request_taken,
    record { follows = (rw get-empty, omega arith, refl); rests = rw get-empty },
    (
      record { opened = prepare_opened secrets 1 (omega arith) refl refl; reads = refl },
      record { follows = refl; rests = rw get-empty },
      (
        record { opened = prepare_opened secrets 2 (omega arith) refl refl; reads = refl },
        record { follows = (rw get-empty, omega arith, refl); rests = rw get-empty },
        (
          record { opened = commit_opened secrets 1 (omega arith) refl; reads = refl },
          record { follows = refl; rests = rw get-empty },
          (
            record { opened = commit_opened secrets 2 (omega arith) refl; reads = refl },
            record {
              follows = (rw get-empty (after_request c.config, the_outcome, step secrets, refl), omega arith, (refl, omega arith, refl));
              rests = rw (get-insert nat_cmp_total);
            },
            tt,
          ),
        ),
      ),
    ),
  )

  arises_1 : Arises c 1 (start_of c (signer_of secrets 1)) (turns_by secrets 1)
  unfolding body layouts.request length_prefixed
  arises_1 = (
    request_taken,
    record { follows = refl; rests = rw get-empty },
    (
      proposal_taken,
      record { follows = (refl, omega arith, refl); rests = refl },
      (
        record { opened = prepare_opened secrets 2 (omega arith) refl refl; reads = refl },
        record { follows = (refl, omega arith, refl); rests = refl },
        (
          record { opened = commit_opened secrets 0 (omega arith) refl; reads = refl },
          record { follows = refl; rests = refl },
          (
            record { opened = commit_opened secrets 2 (omega arith) refl; reads = refl },
            record { follows = ((after_request c.config, the_outcome, step secrets, refl), omega arith, (refl, omega arith, refl)); rests = refl },
            tt,
          ),
        ),
      ),
    ),
  )

  arises_2 : Arises c 2 (start_of c (signer_of secrets 2)) (turns_by secrets 2)
  unfolding body layouts.request length_prefixed
  arises_2 = (
    request_taken,
    record { follows = refl; rests = rw get-empty },
    (
      proposal_taken,
      record { follows = (refl, omega arith, refl); rests = refl },
      (
        record { opened = prepare_opened secrets 1 (omega arith) refl refl; reads = refl },
        record { follows = (refl, omega arith, refl); rests = refl },
        (
          record { opened = commit_opened secrets 0 (omega arith) refl; reads = refl },
          record { follows = refl; rests = refl },
          (
            record { opened = commit_opened secrets 1 (omega arith) refl; reads = refl },
            record { follows = ((after_request c.config, the_outcome, step secrets, refl), omega arith, (refl, omega arith, refl)); rests = refl },
            tt,
          ),
        ),
      ),
    ),
  )

  arises : (i : ℕ) → Arises c i (start_of c (signer_of secrets i)) (turns_by secrets i)
  arises zero = arises_0
  arises (suc zero) = arises_1
  arises (suc (suc zero)) = arises_2
  arises (suc (suc (suc n))) = tt

  listed : (i : ℕ) → IsCorrect c journals.faulty i → IsListed c i (signer_of secrets i)
  listed zero correct = (key_of secrets 0, refl, refl)
  listed (suc zero) correct = (key_of secrets 1, refl, refl)
  listed (suc (suc zero)) correct = (key_of secrets 2, refl, refl)
  listed (suc (suc (suc zero))) correct = absurd (true≢false correct.1)
  listed (suc (suc (suc (suc n)))) correct = absurd (omega (arith, correct.0))

  -- ---- what was received is real

  abbrev IsSent : Signed Body → Type 0
  IsSent p = p.role ≡ Replica → IsCorrect c journals.faulty p.id → HasGiven (part_of p) (journals.rows p.id)

  abbrev AreSent : Signed Body → Type 0
  AreSent m = AllByRecursion IsSent (messages_in m)

  by_client : AreSent (as_message bodies.Request (a_request secrets))
  by_client = ((λ role right. absurd cc), tt)

  proposal_sent : IsSent (the_proposal secrets)
  proposal_sent role right = (_, _, inl refl, inl refl, refl, inl refl)

  prepare_1_sent : IsSent (prepare_by secrets 1)
  prepare_1_sent role right = (_, _, inr (inl refl), inl refl, refl, inl refl)

  prepare_2_sent : IsSent (prepare_by secrets 2)
  prepare_2_sent role right = (_, _, inr (inl refl), inl refl, refl, inl refl)

  commit_0_sent : IsSent (commit_by secrets 0)
  commit_0_sent role right = (_, _, inr (inr (inl refl)), inl refl, refl, inl refl)

  commit_1_sent : IsSent (commit_by secrets 1)
  commit_1_sent role right = (_, _, inr (inr (inl refl)), inl refl, refl, inl refl)

  commit_2_sent : IsSent (commit_by secrets 2)
  commit_2_sent role right = (_, _, inr (inr (inl refl)), inl refl, refl, inl refl)

  sent : (i : ℕ) → EachReceived AreSent (turns_by secrets i)
  sent zero = (by_client, ((prepare_1_sent, tt), ((prepare_2_sent, tt), ((commit_1_sent, tt), ((commit_2_sent, tt), tt)))))
  sent (suc zero) = (by_client, ((proposal_sent, tt), ((prepare_2_sent, tt), ((commit_0_sent, tt), ((commit_2_sent, tt), tt)))))
  sent (suc (suc zero)) = (by_client, ((proposal_sent, tt), ((prepare_1_sent, tt), ((commit_0_sent, tt), ((commit_1_sent, tt), tt)))))
  sent (suc (suc (suc n))) = tt

  real : (i : ℕ) (m p : Signed Body) → HasReceived m (journals.rows i) → IsIn p (messages_in m) → IsSent p
  real i m p received within = one_of_all IsSent (messages_in m) p (received_one c AreSent (turns_by secrets i) m (sent i) received) within

  -- ---- what was hashed

  -- It is the client's request, or no Request and no Snapshot.
  abbrev IsPlain : Signed Body → Type 0
  IsPlain m = (m ≡ as_message bodies.Request (a_request secrets)) ⊎ ((((b : RequestBody) → bodies.Request b ≡ m.body → ⊥) × ((b : Snapshot) → bodies.Snapshot b ≡ m.body → ⊥)))

  vote_plain : (n leaf : ℕ) (b : Body) → ((r : RequestBody) → bodies.Request r ≡ b → ⊥) → ((s : Snapshot) → bodies.Snapshot s ≡ b → ⊥) → IsPlain (message_of secrets n leaf b)
  vote_plain n leaf b no_request no_snapshot = inr (no_request, no_snapshot)

  proposal_plain : IsPlain (the_proposal secrets)
  proposal_plain = vote_plain 0 0 (a_pre_prepare 0 1 the_digest) (λ r e. cc) (λ s e. cc)

  prepare_plain : (n : ℕ) → IsPlain (prepare_by secrets n)
  prepare_plain n = vote_plain n 0 (a_prepare 0 1 the_digest) (λ r e. cc) (λ s e. cc)

  commit_plain : (n : ℕ) → IsPlain (commit_by secrets n)
  commit_plain n = vote_plain n 1 (a_commit 0 1 the_digest) (λ r e. cc) (λ s e. cc)

  plains : (i : ℕ) → EachReceived IsPlain (turns_by secrets i)
  plains zero = (inl refl, (prepare_plain 1, (prepare_plain 2, (commit_plain 1, (commit_plain 2, tt)))))
  plains (suc zero) = (inl refl, (proposal_plain, (prepare_plain 2, (commit_plain 0, (commit_plain 2, tt)))))
  plains (suc (suc zero)) = (inl refl, (proposal_plain, (prepare_plain 1, (commit_plain 0, (commit_plain 1, tt)))))
  plains (suc (suc (suc n))) = tt

  plain : (i : ℕ) (m : Signed Body) → HasReceived m (journals.rows i) → IsPlain m
  plain i m received = received_one c IsPlain (turns_by secrets i) m (plains i) received

  request_text : (m : Signed RequestBody) → IsPlain (as_message bodies.Request m) → signed_text (as_message bodies.Request m) ≡ text secrets
  request_text m (inl is) = ap signed_text is
  request_text m (inr other) = absurd (other.0 m.body refl)

  no_snapshot : (m : Signed Snapshot) → IsPlain (as_message bodies.Snapshot m) → ⊥
  no_snapshot m (inl is) = let same : bodies.Snapshot m.body ≡ bodies.Request (a_request secrets).body = ap (λ (x : Signed Body). x.body) is in cc
  no_snapshot m (inr other) = other.1 m.body refl

  state_is : (i : ℕ) (state : Service) → IsIn state (states_over (turns_by secrets i)) → state ≡ after_request c.config
  state_is zero state (inl is) = is
  state_is zero state (inr none) = absurd none
  state_is (suc zero) state (inl is) = is
  state_is (suc zero) state (inr none) = absurd none
  state_is (suc (suc zero)) state (inl is) = is
  state_is (suc (suc zero)) state (inr none) = absurd none
  state_is (suc (suc (suc n))) state none = absurd none

  known : (x : List ℕ) → IsHashedIn c journals x → Known secrets x
  known x (inl none) = inl none
  known x (inr (inl (m, (i, correct, received), is))) = inr (inl (is ∙ request_text m (plain i (as_message bodies.Request m) received)))
  known x (inr (inr (inl (m, (i, correct, received), is)))) = absurd (no_snapshot m (plain i (as_message bodies.Snapshot m) received))
  known x (inr (inr (inr (i, state, correct, runs, is)))) =
      inr (inr (is ∙ ap encoded (state_is i state (ran_to c i (start_of c (signer_of secrets i)) (turns_by secrets i) state (arises i) runs))))

  comes : (i : ℕ) → ComesTo c journals i (journals.rows i) (core_over c (start_of c (signer_of secrets i)) (turns_by secrets i))
  comes i = lawful_turns c i (start_of c (signer_of secrets i)) (turns_by secrets i) (arises i)

  honest_by_table : IsHonestFamily c journals
  honest_by_table = record {
    configuration = configuration secrets;
    few = omega arith;
    listed = listed;
    lawful = λ i correct. (core_over c (start_of c (signer_of secrets i)) (turns_by secrets i), comes i);
    real = λ i correct m p received within. real i m p received within;
    apart = λ x y a b e. apart secrets x y (known x a) (known y b) e;
  }

  -- ---- what was given came

  abbrev ComesFrom : ℕ → Output → Type 0
  ComesFrom from output = (i : ℕ) → IsCorrect c journals.faulty i → (from ≡ i → ⊥) → IsFor i output.to → HasReceived output.message (journals.rows i)

  -- to the two others
  proposal_comes : ComesFrom 0 (record { to = All; message = the_proposal secrets; own = true })
  proposal_comes zero right apart named = absurd (apart refl)
  proposal_comes (suc zero) right apart named = (_, inr (inl refl), refl)
  proposal_comes (suc (suc zero)) right apart named = (_, inr (inl refl), refl)
  proposal_comes (suc (suc (suc zero))) right apart named = absurd (true≢false right.1)
  proposal_comes (suc (suc (suc (suc n)))) right apart named = absurd (omega (arith, right.0))

  commit_0_comes : ComesFrom 0 (record { to = All; message = commit_by secrets 0; own = true })
  commit_0_comes zero right apart named = absurd (apart refl)
  commit_0_comes (suc zero) right apart named = (_, inr (inr (inr (inl refl))), refl)
  commit_0_comes (suc (suc zero)) right apart named = (_, inr (inr (inr (inl refl))), refl)
  commit_0_comes (suc (suc (suc zero))) right apart named = absurd (true≢false right.1)
  commit_0_comes (suc (suc (suc (suc n)))) right apart named = absurd (omega (arith, right.0))

  prepare_1_comes : ComesFrom 1 (record { to = All; message = prepare_by secrets 1; own = true })
  prepare_1_comes zero right apart named = (_, inr (inl refl), refl)
  prepare_1_comes (suc zero) right apart named = absurd (apart refl)
  prepare_1_comes (suc (suc zero)) right apart named = (_, inr (inr (inl refl)), refl)
  prepare_1_comes (suc (suc (suc zero))) right apart named = absurd (true≢false right.1)
  prepare_1_comes (suc (suc (suc (suc n)))) right apart named = absurd (omega (arith, right.0))

  commit_1_comes : ComesFrom 1 (record { to = All; message = commit_by secrets 1; own = true })
  commit_1_comes zero right apart named = (_, inr (inr (inr (inl refl))), refl)
  commit_1_comes (suc zero) right apart named = absurd (apart refl)
  commit_1_comes (suc (suc zero)) right apart named = (_, inr (inr (inr (inr (inl refl)))), refl)
  commit_1_comes (suc (suc (suc zero))) right apart named = absurd (true≢false right.1)
  commit_1_comes (suc (suc (suc (suc n)))) right apart named = absurd (omega (arith, right.0))

  prepare_2_comes : ComesFrom 2 (record { to = All; message = prepare_by secrets 2; own = true })
  prepare_2_comes zero right apart named = (_, inr (inr (inl refl)), refl)
  prepare_2_comes (suc zero) right apart named = (_, inr (inr (inl refl)), refl)
  prepare_2_comes (suc (suc zero)) right apart named = absurd (apart refl)
  prepare_2_comes (suc (suc (suc zero))) right apart named = absurd (true≢false right.1)
  prepare_2_comes (suc (suc (suc (suc n)))) right apart named = absurd (omega (arith, right.0))

  commit_2_comes : ComesFrom 2 (record { to = All; message = commit_by secrets 2; own = true })
  commit_2_comes zero right apart named = (_, inr (inr (inr (inr (inl refl)))), refl)
  commit_2_comes (suc zero) right apart named = (_, inr (inr (inr (inr (inl refl)))), refl)
  commit_2_comes (suc (suc zero)) right apart named = absurd (apart refl)
  commit_2_comes (suc (suc (suc zero))) right apart named = absurd (true≢false right.1)
  commit_2_comes (suc (suc (suc (suc n)))) right apart named = absurd (omega (arith, right.0))

  -- no replica waits for a reply
  reply_comes : (n : ℕ) → ComesFrom n (record { to = ToClient 100; message = reply_by secrets n; own = true })
  reply_comes n i right apart named = absurd named

  given : (from : ℕ) → EachGiven (ComesFrom from) (turns_by secrets from)
  given zero = ((proposal_comes, tt), (tt, ((commit_0_comes, tt), (tt, ((reply_comes 0, tt), tt)))))
  given (suc zero) = (tt, ((prepare_1_comes, tt), ((commit_1_comes, tt), (tt, ((reply_comes 1, tt), tt)))))
  given (suc (suc zero)) = (tt, ((prepare_2_comes, tt), ((commit_2_comes, tt), (tt, ((reply_comes 2, tt), tt)))))
  given (suc (suc (suc n))) = tt

  drained_by_table : IsDrained c journals
  drained_by_table from i row output correct right apart at within named = given_one c (ComesFrom from) (turns_by secrets from) row output (given from) at within i right apart named

  -- ---- where they are

  stands : (i : ℕ) → IsCorrect c journals.faulty i → let s = core_over c (start_of c (signer_of secrets i)) (turns_by secrets i) in (s.view ≡ 0) × (s.low ≡ 0)
  stands zero correct = (refl, refl)
  stands (suc zero) correct = (refl, refl)
  stands (suc (suc zero)) correct = (refl, refl)
  stands (suc (suc (suc zero))) correct = absurd (true≢false correct.1)
  stands (suc (suc (suc (suc n)))) correct = absurd (omega (arith, correct.0))

  pub end_is : (i : ℕ) (s : Core) → ComesTo c journals i (journals.rows i) s → core_over c (start_of c (signer_of secrets i)) (turns_by secrets i) ≡ s
  end_is i s ends = one_core c i (signer_of secrets i) (journals.rows i) (start_of c (signer_of secrets i)) (core_over c (start_of c (signer_of secrets i)) (turns_by secrets i)) s (comes i) ends

  view_by_table : EachEnds c journals (λ i s. s.view ≡ 0)
  view_by_table i correct s ends = subst (λ (x : Core). x.view ≡ 0) (end_is i s ends) (stands i correct).0

  low_by_table : EachEnds c journals (λ i s. s.low ≡ 0)
  low_by_table i correct s ends = subst (λ (x : Core). x.low ≡ 0) (end_is i s ends) (stands i correct).1

  -- ---- requests

  abbrev IsRequest : Signed Body → Type 0
  IsRequest m = (b : RequestBody) → bodies.Request b ≡ m.body → m ≡ as_message bodies.Request (a_request secrets)

  only_request : (m : Signed Body) → IsPlain m → IsRequest m
  only_request m (inl is) = λ b e. is
  only_request m (inr other) = λ b e. absurd (other.0 b e)

  has_request : (i : ℕ) → IsCorrect c journals.faulty i → HasReceived (as_message bodies.Request (a_request secrets)) (journals.rows i)
  has_request zero right = (_, inl refl, refl)
  has_request (suc zero) right = (_, inl refl, refl)
  has_request (suc (suc zero)) right = (_, inl refl, refl)
  has_request (suc (suc (suc zero))) right = absurd (true≢false right.1)
  has_request (suc (suc (suc (suc n)))) right = absurd (omega (arith, right.0))

  spreads_by_table : SpreadsRequests c journals
  spreads_by_table from i m correct right received =
      let is = only_request (as_message bodies.Request m) (plain from (as_message bodies.Request m) received) m.body refl in
      subst (λ (x : Signed Body). HasReceived x (journals.rows i)) (sym is) (has_request i right)

  -- they are the one request
  pub same_asked : (m p : Signed RequestBody) → as_message bodies.Request m ≡ as_message bodies.Request p → m ≡ p
  same_asked m p e =
      let both : bodies.Request m.body ≡ bodies.Request p.body = ap (λ (x : Signed Body). x.body) e in
      let body : m.body ≡ p.body = cc in
      λ i. record { role = (e i).role; id = (e i).id; body = body i; sig = (e i).sig }

  pub one_asked : (m : Signed RequestBody) → HasReceived (as_message bodies.Request m) (journals.rows 0) → as_message bodies.Request m ≡ as_message bodies.Request (a_request secrets)
  one_asked m received = only_request (as_message bodies.Request m) (plain 0 (as_message bodies.Request m) received) m.body refl

  asks_by_table : AsksInOrder c journals
  asks_by_table earlier later row m p splits came received id =
      let m_there : HasReceived (as_message bodies.Request m) (journals.rows 0) =
      subst (λ (rows : List Row). HasReceived (as_message bodies.Request m) rows) (sym splits) (received.0, in_append_left received.0 earlier (row ∷ later) received.1, received.2) in
      let p_there : HasReceived (as_message bodies.Request p) (journals.rows 0) =
      subst (λ (rows : List Row). HasReceived (as_message bodies.Request p) rows) (sym splits) (row, in_append_right row earlier (row ∷ later) (inl refl), came) in
      inl (same_asked m p (one_asked m m_there ∙ sym (one_asked p p_there)))

  -- ---- what the primary gave out

  -- Its PrePrepares have numbers in the first window.
  abbrev IsLow : Output → Type 0
  IsLow output = (p : Part) (b : PrePrepare) → IsIn p (signed_in output.message) → p.body ≡ bodies.PrePrepare b → b.number.0 ≤ 4

  proposal_low : IsLow (record { to = All; message = the_proposal secrets; own = true })
  proposal_low p b (inl same) is = number_of b (record { view = record { 0 = 0 }; number = record { 0 = 1 }; digest = record { 0 = the_digest } }) (sym is ∙ ap (λ (x : Part). x.body) same) (omega arith) where
    number_of : (b q : PrePrepare) → bodies.PrePrepare b ≡ bodies.PrePrepare q → q.number.0 ≤ 4 → b.number.0 ≤ 4
    number_of b q e low = let both : b ≡ q = cc in subst (λ (x : PrePrepare). x.number.0 ≤ 4) (sym both) low
  proposal_low p b (inr none) is = absurd none

  commit_low : IsLow (record { to = All; message = commit_by secrets 0; own = true })
  commit_low p b (inl same) is = let both : bodies.PrePrepare b ≡ a_commit 0 1 the_digest = sym is ∙ ap (λ (x : Part). x.body) same in absurd cc
  commit_low p b (inr none) is = absurd none

  reply_low : IsLow (record { to = ToClient 100; message = reply_by secrets 0; own = true })
  reply_low p b (inl same) is = let both : bodies.PrePrepare b ≡ reply_in_view_0 = sym is ∙ ap (λ (x : Part). x.body) same in absurd cc
  reply_low p b (inr none) is = absurd none

  all_low : EachGiven IsLow (turns_by secrets 0)
  all_low = ((proposal_low, tt), (tt, ((commit_low, tt), (tt, ((reply_low, tt), tt)))))

  within_by_table : (x : Fields) → HasProposed x (journals.rows 0) → x.number ≤ 4
  within_by_table x (b, (p, (row, output, at, within, own, signed), body), fields) =
      subst (λ (y : Fields). y.number ≤ 4) fields (given_one c IsLow (turns_by secrets 0) row output all_low at within p b signed body)

  window_by_table : IsFirstWindow c journals
  window_by_table = record {
    leader = (omega arith, refl);
    stands = view_by_table;
    within = within_by_table;
    asks = asks_by_table;
    spreads = spreads_by_table;
  }

  -- ---- nothing was installed

  abbrev IsExecution : Done → Type 0
  IsExecution (Executed n d r) = Unit {0}
  IsExecution (Installed n d) = ⊥

  abbrev EachDid : List Turn → Type 0
  EachDid [] = Unit {0}
  EachDid (t ∷ ts) = AllByRecursion IsExecution (all_done c t.acts) × EachDid ts

  one_of_done : (ds : List Done) (d : Done) → AllByRecursion IsExecution ds → IsIn d ds → IsExecution d
  one_of_done [] d all none = absurd none
  one_of_done (x ∷ ds) d (here, rest) (inl same) = subst IsExecution (sym same) here
  one_of_done (x ∷ ds) d (here, rest) (inr later) = one_of_done ds d rest later

  did_one : (ts : List Turn) (d : Done) → EachDid ts → HasDone d (rows_of_turns c ts) → IsExecution d
  did_one [] d each (row, none, within) = absurd none
  did_one (t ∷ ts) d (here, rest) (row, inl same, within) = one_of_done (all_done c t.acts) d here (subst (λ (r : Row). IsIn d r.done) same within)
  did_one (t ∷ ts) d (here, rest) (row, inr later, within) = did_one ts d rest (row, later, within)

  did : (i : ℕ) → EachDid (turns_by secrets i)
  did zero = (tt, (tt, (tt, (tt, ((tt, tt), tt)))))
  did (suc zero) = (tt, (tt, (tt, (tt, ((tt, tt), tt)))))
  did (suc (suc zero)) = (tt, (tt, (tt, (tt, ((tt, tt), tt)))))
  did (suc (suc (suc n))) = tt

  installs_by_table : InstallsNothing c journals
  installs_by_table i n d correct done = did_one (turns_by secrets i) (Installed n d) (did i) done

  -- ---- for SHA-256

  pub is_honest : IsHonestFamily (the_setup sha256 secrets) (the_answered sha256 secrets)
  is_honest = subst (λ (hash : List ℕ → List ℕ). IsHonestFamily (the_setup hash secrets) (the_answered hash secrets)) (λ k text. table_is text k) honest_by_table

  pub is_drained : IsDrained (the_setup sha256 secrets) (the_answered sha256 secrets)
  is_drained = subst (λ (hash : List ℕ → List ℕ). IsDrained (the_setup hash secrets) (the_answered hash secrets)) (λ k text. table_is text k) drained_by_table

  pub window : IsFirstWindow (the_setup sha256 secrets) (the_answered sha256 secrets)
  window = subst (λ (hash : List ℕ → List ℕ). IsFirstWindow (the_setup hash secrets) (the_answered hash secrets)) (λ k text. table_is text k) window_by_table

  pub installs : InstallsNothing (the_setup sha256 secrets) (the_answered sha256 secrets)
  installs = subst (λ (hash : List ℕ → List ℕ). InstallsNothing (the_setup hash secrets) (the_answered hash secrets)) (λ k text. table_is text k) installs_by_table

  pub unmoved : EachEnds (the_setup sha256 secrets) (the_answered sha256 secrets) (λ i s. s.low ≡ 0)
  unmoved = subst (λ (hash : List ℕ → List ℕ). EachEnds (the_setup hash secrets) (the_answered hash secrets) (λ i s. s.low ≡ 0)) (λ k text. table_is text k) low_by_table

  pub proposes : HasProposed (record { view = 0; number = 1; digest = the_digest }) ((the_answered sha256 secrets).rows 0)
  proposes = (record { view = record { 0 = 0 }; number = record { 0 = 1 }; digest = record { 0 = the_digest } }, (part_of (the_proposal secrets), (_, _, inl refl, inl refl, refl, inl refl), refl), refl)

  pub executes : (i : ℕ) → IsCorrect (the_setup sha256 secrets) (the_answered sha256 secrets).faulty i → HasDone (Executed 1 the_digest (1 ∷ [])) ((the_answered sha256 secrets).rows i)
  executes zero right = (_, inr (inr (inr (inr (inl refl)))), inl refl)
  executes (suc zero) right = (_, inr (inr (inr (inr (inl refl)))), inl refl)
  executes (suc (suc zero)) right = (_, inr (inr (inr (inr (inl refl)))), inl refl)
  executes (suc (suc (suc zero))) right = absurd (true≢false right.1)
  executes (suc (suc (suc (suc n)))) right = absurd (omega (arith, right.0))
