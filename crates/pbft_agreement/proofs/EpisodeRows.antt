-- The honest family of journals through a view change.
use Rattle.std.proofs.Common.{◌≡◌, ◌⊎◌, ℕ, zero, suc, List, [], ◌∷◌, map, None, refl, sym, ap, subst, ◌∙◌, arith, inl, inr}
use Rattle.std.specs.FinMap.{get-empty, get-insert}
use Rattle.std.specs.Cmp.{nat_cmp_total}
use Rattle.std.proofs.lemmas.Bool.{true≢false}
use Rattle.std.specs.List.{AllByRecursion}
use Rattle.pbft_codec.specs.declared.body.Body.TheVariants as bodies
use Rattle.pbft_codec.specs.Encoding.{body}
use Rattle.pbft_codec.specs.Layouts.{length_prefixed}
use Rattle.pbft_codec.specs.Layouts as layouts
use Rattle.sha2.specs.Sha256.{sha256}
use Rattle.seal.specs.Parts.{messages_in}
use Rattle.pbft_model.specs.Words.{Signed, Body, RequestBody, Snapshot, Replica, IsChecked, as_message, part_of, signed_text}
use Rattle.pbft_model.specs.Sequential.{Service, encoded}
use Rattle.pbft_model.specs.Setup.{Setup}
use Rattle.pbft_model.specs.Core.{start_of}
use Rattle.pbft_model.specs.Rules.{MayTake, IsReading}
use Rattle.pbft_model.specs.Rows.{Executed, Installed, IsListed}
use Rattle.pbft_model.specs.Histories.{IsIn}
use Rattle.pbft_model.specs.Families.{IsCorrect}
use Rattle.pbft_agreement.specs.Journals.{Journals, HasReceived, HasGiven, HasDone, IsHashedIn, IsHonestFamily}
use Rattle.pbft_agreement.specs.Worked.{the_outcome, the_reply, a_pre_prepare, a_prepare, a_commit, reply_in_view_0}
use Rattle.pbft_model.specs.Duties.{reply_body}
use Rattle.pbft_agreement.specs.Example.{signer_of, key_of, the_digest, message_of}
use Rattle.pbft_agreement.specs.Episode.{episode_setup, the_state, the_state_digest, the_certificate, change_by, new_view_by_1, checkpoint_by, the_fetch, the_snapshot, request_of_client, turns_of_0, turns_of_1, turns_of_2, turns_by, the_episode, IsStableAfter}
use Rattle.pbft_agreement.proofs.Digests.{table_is}
use Rattle.pbft_agreement.proofs.Example.{text, Known, apart}
use Rattle.pbft_agreement.proofs.Turns.{Arises, lawful_turns, core_over, states_over, ran_to, EachReceived, received_one, one_of_all}
use Rattle.pbft_agreement.proofs.Episode.{by_tables, tables_are, state_known, configuration, step, reads, request_opened, proposal_opened, prepare_opened, commit_opened, checkpoint_opened, fetch_opened, snapshot_opened, empty_opened, new_view_opened}

module _ (secrets : ℕ → List ℕ) where
  abbrev d : Setup
  d = episode_setup by_tables secrets

  abbrev journals : Journals
  journals = the_episode by_tables secrets

  -- ---- the rows are lawful

  taken : (m : Signed Body) → IsChecked (record { config = d.config; message = m }) → IsReading d m.body None → MayTake d m None
  taken m h r = record { opened = h; reads = r }

  arises_0 : Arises d 0 (start_of d (signer_of secrets 0)) (turns_of_0 secrets)
  unfolding body layouts.request length_prefixed
  arises_0 = (
    taken (request_of_client secrets) (request_opened secrets) refl,
    record { follows = (rw get-empty, omega arith, refl); rests = rw get-empty },
    (
      taken (message_of secrets 1 0 (a_prepare 0 1 the_digest)) (prepare_opened secrets 1 0 0 (omega arith) (omega arith) (omega arith) refl refl) refl,
      record { follows = refl; rests = rw get-empty },
      (
        taken (message_of secrets 3 0 (a_prepare 0 1 the_digest)) (prepare_opened secrets 3 0 0 (omega arith) (omega arith) (omega arith) refl refl) refl,
        record { follows = (rw get-empty, omega arith, refl); rests = rw get-empty },
        (
          taken (message_of secrets 1 1 (a_commit 0 1 the_digest)) (commit_opened secrets 1 1 0 (omega arith) (omega arith) (omega arith) refl) refl,
          record { follows = refl; rests = rw get-empty },
          (
            taken (message_of secrets 3 1 (a_commit 0 1 the_digest)) (commit_opened secrets 3 1 0 (omega arith) (omega arith) (omega arith) refl) refl,
            record {
              follows = (rw get-empty (the_state secrets, the_outcome, step secrets, refl), omega arith, (refl, omega arith, (rw (state_known secrets), omega arith, refl)));
              rests = rw (state_known secrets, get-insert nat_cmp_total);
            },
            (
              taken (checkpoint_by secrets 1 7) (checkpoint_opened secrets 1 7 (omega arith) (omega arith) refl) refl,
              record { follows = refl; rests = rw (state_known secrets, get-insert nat_cmp_total) },
              (
                taken (checkpoint_by secrets 3 5) (checkpoint_opened secrets 3 5 (omega arith) (omega arith) refl) refl,
                record { follows = (rw (state_known secrets), omega arith, refl); rests = rw (get-insert nat_cmp_total) },
                (
                  taken (the_fetch secrets) (fetch_opened secrets) refl,
                  record { follows = (refl, omega arith, refl); rests = rw (get-insert nat_cmp_total) },
                  tt,
                ),
              ),
            ),
          ),
        ),
      ),
    ),
  )

  arises_1 : Arises d 1 (start_of d (signer_of secrets 1)) (turns_of_1 secrets)
  unfolding body layouts.request length_prefixed
  arises_1 = (
    taken (request_of_client secrets) (request_opened secrets) refl,
    record { follows = refl; rests = rw get-empty },
    (
      taken (message_of secrets 0 0 (a_pre_prepare 0 1 the_digest)) (proposal_opened secrets) refl,
      record { follows = (refl, omega arith, refl); rests = refl },
      (
        taken (message_of secrets 3 0 (a_prepare 0 1 the_digest)) (prepare_opened secrets 3 0 0 (omega arith) (omega arith) (omega arith) refl refl) refl,
        record { follows = (refl, omega arith, refl); rests = refl },
        (
          tt,
          record { follows = (refl, omega arith, refl); rests = refl },
          (
            taken (as_message bodies.ViewChange (change_by secrets 2 0 [])) (empty_opened secrets 2 0 (omega arith) (omega arith) refl) refl,
            record { follows = refl; rests = refl },
            (
              taken (as_message bodies.ViewChange (change_by secrets 3 2 [])) (empty_opened secrets 3 2 (omega arith) (omega arith) refl) refl,
              record { follows = (refl, omega arith, refl); rests = rw get-empty },
              (
                taken (message_of secrets 2 1 (a_prepare 1 1 the_digest)) (prepare_opened secrets 2 1 1 (omega arith) (omega arith) (omega arith) refl refl) refl,
                record { follows = refl; rests = rw get-empty },
                (
                  taken (message_of secrets 3 3 (a_prepare 1 1 the_digest)) (prepare_opened secrets 3 3 1 (omega arith) (omega arith) (omega arith) refl refl) refl,
                  record { follows = (rw get-empty, omega arith, refl); rests = rw get-empty },
                  (
                    taken (message_of secrets 2 2 (a_commit 1 1 the_digest)) (commit_opened secrets 2 2 1 (omega arith) (omega arith) (omega arith) refl) refl,
                    record { follows = refl; rests = rw get-empty },
                    (
                      taken (message_of secrets 3 4 (a_commit 1 1 the_digest)) (commit_opened secrets 3 4 1 (omega arith) (omega arith) (omega arith) refl) refl,
                      record {
                        follows = (rw get-empty (the_state secrets, the_outcome, step secrets, refl), omega arith, (refl, omega arith, (rw (state_known secrets), omega arith, refl)));
                        rests = rw (state_known secrets, get-insert nat_cmp_total);
                      },
                      (
                        taken (checkpoint_by secrets 0 3) (checkpoint_opened secrets 0 3 (omega arith) (omega arith) refl) refl,
                        record { follows = refl; rests = rw (state_known secrets, get-insert nat_cmp_total) },
                        (
                          taken (checkpoint_by secrets 3 5) (checkpoint_opened secrets 3 5 (omega arith) (omega arith) refl) refl,
                          record { follows = (rw (state_known secrets), omega arith, refl); rests = rw (get-insert nat_cmp_total) },
                          tt,
                        ),
                      ),
                    ),
                  ),
                ),
              ),
            ),
          ),
        ),
      ),
    ),
  )

  arises_2 : Arises d 2 (start_of d (signer_of secrets 2)) (turns_of_2 secrets)
  unfolding body layouts.request length_prefixed
  arises_2 = (
    taken (request_of_client secrets) (request_opened secrets) refl,
    record { follows = refl; rests = rw get-empty },
    (
      tt,
      record { follows = (refl, omega arith, refl); rests = refl },
      (
        taken (as_message bodies.NewView (new_view_by_1 secrets)) (new_view_opened secrets) refl,
        record { follows = (refl, omega arith, (refl, omega arith, refl)); rests = refl },
        (
          taken (message_of secrets 3 3 (a_prepare 1 1 the_digest)) (prepare_opened secrets 3 3 1 (omega arith) (omega arith) (omega arith) refl refl) refl,
          record { follows = (refl, omega arith, refl); rests = refl },
          (
            taken (checkpoint_by secrets 0 3) (checkpoint_opened secrets 0 3 (omega arith) (omega arith) refl) refl,
            record { follows = refl; rests = refl },
            (
              taken (checkpoint_by secrets 1 7) (checkpoint_opened secrets 1 7 (omega arith) (omega arith) refl) refl,
              record { follows = refl; rests = refl },
              (
                taken (checkpoint_by secrets 3 5) (checkpoint_opened secrets 3 5 (omega arith) (omega arith) refl) refl,
                record { follows = (refl, omega arith, refl); rests = refl },
                (
                  record { opened = snapshot_opened secrets; reads = reads secrets },
                  record { follows = (rw (state_known secrets), omega arith, refl); rests = refl },
                  tt,
                ),
              ),
            ),
          ),
        ),
      ),
    ),
  )

  arises : (i : ℕ) → Arises d i (start_of d (signer_of secrets i)) (turns_by secrets i)
  arises zero = arises_0
  arises (suc zero) = arises_1
  arises (suc (suc zero)) = arises_2
  arises (suc (suc (suc n))) = tt

  listed : (i : ℕ) → IsCorrect d journals.faulty i → IsListed d i (signer_of secrets i)
  listed zero correct = (key_of secrets 0, refl, refl)
  listed (suc zero) correct = (key_of secrets 1, refl, refl)
  listed (suc (suc zero)) correct = (key_of secrets 2, refl, refl)
  listed (suc (suc (suc zero))) correct = absurd (true≢false correct.1)
  listed (suc (suc (suc (suc n)))) correct = absurd (omega (arith, correct.0))

  -- ---- what was received is real

  abbrev IsSent : Signed Body → Type 0
  IsSent p = p.role ≡ Replica → IsCorrect d journals.faulty p.id → HasGiven (part_of p) (journals.rows p.id)

  abbrev AreSent : Signed Body → Type 0
  AreSent m = AllByRecursion IsSent (messages_in m)

  by_client : AreSent (request_of_client secrets)
  by_client = ((λ role right. absurd cc), tt)

  by_faulty : (leaf : ℕ) (b : Body) → IsSent (message_of secrets 3 leaf b)
  by_faulty leaf b role right = absurd (true≢false right.1)

  proposal_sent : IsSent (message_of secrets 0 0 (a_pre_prepare 0 1 the_digest))
  proposal_sent role right = (_, _, inl refl, inl refl, refl, inl refl)

  commit_sent : IsSent (message_of secrets 1 1 (a_commit 0 1 the_digest))
  commit_sent role right = (_, _, inr (inr (inl refl)), inl refl, refl, inl refl)

  prepare_sent : IsSent (message_of secrets 1 0 (a_prepare 0 1 the_digest))
  prepare_sent role right = (_, _, inr (inl refl), inl refl, refl, inl refl)

  change_sent : IsSent (as_message bodies.ViewChange (change_by secrets 1 2 (the_certificate secrets ∷ [])))
  change_sent role right = (_, _, inr (inr (inr (inl refl))), inl refl, refl, inl refl)

  other_change_sent : IsSent (as_message bodies.ViewChange (change_by secrets 2 0 []))
  other_change_sent role right = (_, _, inr (inl refl), inl refl, refl, inl refl)

  new_view_sent : IsSent (as_message bodies.NewView (new_view_by_1 secrets))
  new_view_sent role right = (_, _, inr (inr (inr (inr (inr (inl refl))))), inl refl, refl, inl refl)

  again_sent : IsSent (message_of secrets 1 3 (a_pre_prepare 1 1 the_digest))
  again_sent role right = (_, _, inr (inr (inr (inr (inr (inl refl))))), inl refl, refl, inr (inl refl))

  prepare_again_sent : IsSent (message_of secrets 2 1 (a_prepare 1 1 the_digest))
  prepare_again_sent role right = (_, _, inr (inr (inl refl)), inl refl, refl, inl refl)

  commit_again_sent : IsSent (message_of secrets 2 2 (a_commit 1 1 the_digest))
  commit_again_sent role right = (_, _, inr (inr (inr (inl refl))), inl refl, refl, inl refl)

  checkpoint_0_sent : IsSent (checkpoint_by secrets 0 3)
  checkpoint_0_sent role right = (_, _, inr (inr (inr (inr (inl refl)))), inr (inl refl), refl, inl refl)

  checkpoint_1_sent : IsSent (checkpoint_by secrets 1 7)
  checkpoint_1_sent role right = (_, _, inr (inr (inr (inr (inr (inr (inr (inr (inr (inl refl))))))))), inr (inl refl), refl, inl refl)

  fetch_sent : IsSent (the_fetch secrets)
  fetch_sent role right = (_, _, inr (inr (inr (inr (inr (inr (inl refl)))))), inl refl, refl, inl refl)

  snapshot_sent : IsSent (the_snapshot secrets)
  snapshot_sent role right = (_, _, inr (inr (inr (inr (inr (inr (inr (inl refl))))))), inl refl, refl, inl refl)

  all_in_new_view : AreSent (as_message bodies.NewView (new_view_by_1 secrets))
  all_in_new_view = (new_view_sent, (change_sent, (proposal_sent, (prepare_sent, (by_faulty 0 (a_prepare 0 1 the_digest), (other_change_sent, (by_faulty 2 (as_message bodies.ViewChange (change_by secrets 3 2 [])).body, (again_sent, tt))))))))

  sent_0 : EachReceived AreSent (turns_of_0 secrets)
  sent_0 = (by_client, ((prepare_sent, tt), ((by_faulty 0 (a_prepare 0 1 the_digest), tt), ((commit_sent, tt), ((by_faulty 1 (a_commit 0 1 the_digest), tt), ((checkpoint_1_sent, tt), ((by_faulty 5 (checkpoint_by secrets 3 5).body, tt), ((fetch_sent, tt), tt))))))))

  sent_1 : EachReceived AreSent (turns_of_1 secrets)
  sent_1 = (by_client, ((proposal_sent, tt), ((by_faulty 0 (a_prepare 0 1 the_digest), tt), (tt, ((other_change_sent, tt), ((by_faulty 2 (as_message bodies.ViewChange (change_by secrets 3 2 [])).body, tt), ((prepare_again_sent, tt), ((by_faulty 3 (a_prepare 1 1 the_digest), tt), ((commit_again_sent, tt), ((by_faulty 4 (a_commit 1 1 the_digest), tt), ((checkpoint_0_sent, tt), ((by_faulty 5 (checkpoint_by secrets 3 5).body, tt), tt))))))))))))

  sent_2 : EachReceived AreSent (turns_of_2 secrets)
  sent_2 = (by_client, (tt, (all_in_new_view, ((by_faulty 3 (a_prepare 1 1 the_digest), tt), ((checkpoint_0_sent, tt), ((checkpoint_1_sent, tt), ((by_faulty 5 (checkpoint_by secrets 3 5).body, tt), ((snapshot_sent, tt), tt))))))))

  sent : (i : ℕ) → EachReceived AreSent (turns_by secrets i)
  sent zero = sent_0
  sent (suc zero) = sent_1
  sent (suc (suc zero)) = sent_2
  sent (suc (suc (suc n))) = tt

  real : (i : ℕ) (m p : Signed Body) → HasReceived m (journals.rows i) → IsIn p (messages_in m) → IsSent p
  real i m p received within = one_of_all IsSent (messages_in m) p (received_one d AreSent (turns_by secrets i) m (sent i) received) within

  -- ---- what was hashed

  -- If it is a Request, its text is the client's; if it is a Snapshot, it is of the one state.
  pub record IsKnown (m : Signed Body) : Type 0 where
    pub asks : (b : RequestBody) → bodies.Request b ≡ m.body → signed_text m ≡ text secrets
    pub holds : (b : Snapshot) → bodies.Snapshot b ≡ m.body → b.state ≡ encoded (the_state secrets)

  other_kind : (m : Signed Body) → ((b : RequestBody) → bodies.Request b ≡ m.body → ⊥) → ((b : Snapshot) → bodies.Snapshot b ≡ m.body → ⊥) → IsKnown m
  other_kind m no_request no_snapshot = record { asks = λ b e. absurd (no_request b e); holds = λ b e. absurd (no_snapshot b e) }

  request_known : IsKnown (request_of_client secrets)
  request_known = record { asks = λ b e. refl; holds = λ b e. absurd cc }

  snapshot_known : IsKnown (the_snapshot secrets)
  snapshot_known = record { asks = λ b e. absurd cc; holds = λ b e. same b (record { number = record { 0 = 1 }; state = encoded (the_state secrets) }) e } where
    same : (b a : Snapshot) → bodies.Snapshot b ≡ bodies.Snapshot a → b.state ≡ a.state
    same b a e = cc

  known_0 : EachReceived IsKnown (turns_of_0 secrets)
  known_0 = (request_known, (other_kind _ (λ b e. cc) (λ b e. cc), (other_kind _ (λ b e. cc) (λ b e. cc), (other_kind _ (λ b e. cc) (λ b e. cc), (other_kind _ (λ b e. cc) (λ b e. cc), (other_kind _ (λ b e. cc) (λ b e. cc), (other_kind _ (λ b e. cc) (λ b e. cc), (other_kind _ (λ b e. cc) (λ b e. cc), tt))))))))

  known_1 : EachReceived IsKnown (turns_of_1 secrets)
  known_1 = (request_known, (other_kind _ (λ b e. cc) (λ b e. cc), (other_kind _ (λ b e. cc) (λ b e. cc), (tt, (other_kind _ (λ b e. cc) (λ b e. cc), (other_kind _ (λ b e. cc) (λ b e. cc), (other_kind _ (λ b e. cc) (λ b e. cc), (other_kind _ (λ b e. cc) (λ b e. cc), (other_kind _ (λ b e. cc) (λ b e. cc), (other_kind _ (λ b e. cc) (λ b e. cc), (other_kind _ (λ b e. cc) (λ b e. cc), (other_kind _ (λ b e. cc) (λ b e. cc), tt))))))))))))

  known_2 : EachReceived IsKnown (turns_of_2 secrets)
  known_2 = (request_known, (tt, (other_kind _ (λ b e. cc) (λ b e. cc), (other_kind _ (λ b e. cc) (λ b e. cc), (other_kind _ (λ b e. cc) (λ b e. cc), (other_kind _ (λ b e. cc) (λ b e. cc), (other_kind _ (λ b e. cc) (λ b e. cc), (snapshot_known, tt))))))))

  all_known : (i : ℕ) → EachReceived IsKnown (turns_by secrets i)
  all_known zero = known_0
  all_known (suc zero) = known_1
  all_known (suc (suc zero)) = known_2
  all_known (suc (suc (suc n))) = tt

  one_known : (i : ℕ) (m : Signed Body) → HasReceived m (journals.rows i) → IsKnown m
  one_known i m received = received_one d IsKnown (turns_by secrets i) m (all_known i) received

  state_is : (i : ℕ) (state : Service) → IsIn state (states_over (turns_by secrets i)) → state ≡ the_state secrets
  state_is zero state (inl is) = is
  state_is zero state (inr none) = absurd none
  state_is (suc zero) state (inl is) = is
  state_is (suc zero) state (inr none) = absurd none
  state_is (suc (suc zero)) state none = absurd none
  state_is (suc (suc (suc n))) state none = absurd none

  known : (x : List ℕ) → IsHashedIn d journals x → Known secrets x
  known x (inl none) = inl none
  known x (inr (inl (m, (i, correct, received), is))) = inr (inl (is ∙ (one_known i (as_message bodies.Request m) received).asks m.body refl))
  known x (inr (inr (inl (m, (i, correct, received), is)))) = inr (inr (is ∙ (one_known i (as_message bodies.Snapshot m) received).holds m.body refl))
  known x (inr (inr (inr (i, state, correct, runs, is)))) =
      inr (inr (is ∙ ap encoded (state_is i state (ran_to d i (start_of d (signer_of secrets i)) (turns_by secrets i) state (arises i) runs))))

  honest_by_tables : IsHonestFamily d journals
  honest_by_tables = record {
    configuration = configuration secrets;
    few = omega arith;
    listed = listed;
    lawful = λ i correct. (core_over d (start_of d (signer_of secrets i)) (turns_by secrets i), lawful_turns d i (start_of d (signer_of secrets i)) (turns_by secrets i) (arises i));
    real = λ i correct m p received within. real i m p received within;
    apart = λ x y a b e. apart secrets x y (known x a) (known y b) (table_is x ∙ sym (tables_are x) ∙ e ∙ tables_are y ∙ sym (table_is y));
  }

  pub honest_episode : IsHonestFamily (episode_setup sha256 secrets) (the_episode sha256 secrets)
  honest_episode = subst (λ (hash : List ℕ → List ℕ). IsHonestFamily (episode_setup hash secrets) (the_episode hash secrets)) (λ k text. tables_are text k) honest_by_tables

  -- ---- what they did

  pub executed_twice : HasDone (Executed 1 the_digest (1 ∷ [])) ((the_episode sha256 secrets).rows 0) × HasDone (Executed 1 the_digest (1 ∷ [])) ((the_episode sha256 secrets).rows 1)
  executed_twice = ((_, inr (inr (inr (inr (inl refl)))), inl refl), (_, inr (inr (inr (inr (inr (inr (inr (inr (inr (inl refl))))))))), inl refl))

  pub replied_twice : HasGiven (part_of (message_of secrets 0 2 reply_in_view_0)) ((the_episode sha256 secrets).rows 0) × HasGiven (part_of (message_of secrets 1 6 (reply_body 1 the_reply))) ((the_episode sha256 secrets).rows 1)
  replied_twice = ((_, _, inr (inr (inr (inr (inl refl)))), inl refl, refl, inl refl), (_, _, inr (inr (inr (inr (inr (inr (inr (inr (inr (inl refl))))))))), inl refl, refl, inl refl))

  pub carried : HasGiven (part_of (as_message bodies.NewView (new_view_by_1 secrets))) ((the_episode sha256 secrets).rows 1)
  carried = (_, _, inr (inr (inr (inr (inr (inl refl))))), inl refl, refl, inl refl)

  installed_by_table : HasDone (Installed 1 the_state_digest) (journals.rows 2)
  installed_by_table = (_, inr (inr (inr (inr (inr (inr (inr (inl refl))))))), inl (rw (state_known secrets)))

  pub installed : HasDone (Installed 1 the_state_digest) ((the_episode sha256 secrets).rows 2)
  installed = subst (λ (hash : List ℕ → List ℕ). HasDone (Installed 1 the_state_digest) ((the_episode hash secrets).rows 2)) (λ k text. tables_are text k) installed_by_table

  stable_by_table : (i : ℕ) (signers : List ℕ) → (core_over d (start_of d (signer_of secrets i)) (turns_by secrets i)).low ≡ 1
      → map (λ m. m.id) (core_over d (start_of d (signer_of secrets i)) (turns_by secrets i)).proof ≡ signers → IsStableAfter d journals i 1 signers
  stable_by_table i signers low proof = record {
    core = core_over d (start_of d (signer_of secrets i)) (turns_by secrets i);
    comes = lawful_turns d i (start_of d (signer_of secrets i)) (turns_by secrets i) (arises i);
    low = low;
    proof = proof;
  }

  pub stable : (i : ℕ) → i ≡ 0 ⊎ (i ≡ 1 ⊎ i ≡ 2) → IsStableAfter (episode_setup sha256 secrets) (the_episode sha256 secrets) i 1 (0 ∷ 1 ∷ 3 ∷ [])
  stable i which = subst (λ (hash : List ℕ → List ℕ). IsStableAfter (episode_setup hash secrets) (the_episode hash secrets) i 1 (0 ∷ 1 ∷ 3 ∷ [])) (λ k text. tables_are text k) (by_index which) where
    by_index : i ≡ 0 ⊎ (i ≡ 1 ⊎ i ≡ 2) → IsStableAfter d journals i 1 (0 ∷ 1 ∷ 3 ∷ [])
    by_index (inl is) = subst (λ (n : ℕ). IsStableAfter d journals n 1 (0 ∷ 1 ∷ 3 ∷ [])) (sym is) (stable_by_table 0 (0 ∷ 1 ∷ 3 ∷ []) refl refl)
    by_index (inr (inl is)) = subst (λ (n : ℕ). IsStableAfter d journals n 1 (0 ∷ 1 ∷ 3 ∷ [])) (sym is) (stable_by_table 1 (0 ∷ 1 ∷ 3 ∷ []) refl refl)
    by_index (inr (inr is)) = subst (λ (n : ℕ). IsStableAfter d journals n 1 (0 ∷ 1 ∷ 3 ∷ [])) (sym is) (stable_by_table 2 (0 ∷ 1 ∷ 3 ∷ []) refl (rw (state_known secrets)))
