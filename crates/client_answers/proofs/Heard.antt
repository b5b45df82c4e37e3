-- The worked family's client is answered.
use Rattle.std.proofs.Common.{◌≡◌, ℕ, zero, suc, ◌+◌, ◌<◌, ◌≤◌, List, [], ◌∷◌, Some, None, refl, sym, subst, arith, inl, inr, true}
use Rattle.std.specs.Prelude.{IsTrue, slice_get}
use Rattle.std.proofs.lemmas.Bool.{true≢false}
use Rattle.sha2.specs.Sha256.{sha256}
use Rattle.seal.specs.Height.TheVariants.{H5}
use Rattle.seal.specs.Signers.{may_sign}
use Rattle.seal.proofs.KeyLemmas.{valid-signature_by}
use Rattle.pbft_codec.specs.Encoding.{body}
use Rattle.pbft_codec.specs.Layouts.{length_prefixed}
use Rattle.pbft_codec.specs.Layouts as layouts
use Rattle.pbft_answers.specs.Words.{Signed, Body, Reply, Replica, IsAuthentic, part_of, signed_text}
use Rattle.pbft_answers.specs.Setup.{signature_by}
use Rattle.pbft_answers.specs.Certificates.{Fields}
use Rattle.pbft_answers.specs.Core.{Core, start_of, next_number}
use Rattle.pbft_answers.specs.Acts.{All, ToClient}
use Rattle.pbft_answers.specs.Duties.{reply_body}
use Rattle.pbft_answers.specs.Rows.{Output}
use Rattle.pbft_answers.specs.Histories.{IsIn}
use Rattle.pbft_answers.specs.Families.{IsCorrect}
use Rattle.pbft_answers.specs.Example.{signer_of, key_of, tree_id, the_config, the_setup, the_digest, a_request, message_of}
use Rattle.pbft_answers.specs.Worked.{the_reply}
use Rattle.pbft_answers.specs.Answered.{the_proposal, prepare_by, commit_by, reply_by, turns_by, the_answered}
use Rattle.pbft_answers.proofs.Digests.{by_table, table_is}
use Rattle.pbft_answers.proofs.Turns.{core_over}
use Rattle.pbft_answers.proofs.Answered.{end_is, same_asked, one_asked}
use Rattle.pbft_answers.proofs.Drained.{EachGiven, given_one}
use Rattle.client_session.specs.Accepted.{AreReal, after_offers}
use Rattle.client_session.specs.Journals.{HasGiven}
use Rattle.client_session.specs.Sessions.{accepted_by, backers}
use Rattle.client_answers.specs.Replies.{HasAsked, HearsAll, IsGivenOut, IsNewest}
use Rattle.client_answers.specs.Heard.{the_session, a_lie, the_messages}

module _ (secrets : ℕ → List ℕ) where
  pub asks : HasAsked (the_setup sha256 secrets) (the_session secrets) (a_request secrets)
  asks = record { config_is = refl; pending = refl; client_is = refl; time_is = refl }

  abbrev fields : Fields
  fields = record { view = 0; number = 1; digest = the_digest }

  out_by_table : IsGivenOut (the_setup by_table secrets) (the_answered by_table secrets) fields (a_request secrets)
  unfolding body layouts.request length_prefixed
  out_by_table = record {
    received = (_, inl refl, refl);
    digest_is = refl;
    proposed = (record { view = record { 0 = 0 }; number = record { 0 = 1 }; digest = record { 0 = the_digest } }, (part_of (the_proposal secrets), (_, _, inl refl, inl refl, refl, inl refl), refl), refl);
  }

  pub given_out : IsGivenOut (the_setup sha256 secrets) (the_answered sha256 secrets) fields (a_request secrets)
  given_out = subst (λ (hash : List ℕ → List ℕ). IsGivenOut (the_setup hash secrets) (the_answered hash secrets) fields (a_request secrets)) (λ k text. table_is text k) out_by_table

  -- ---- it is the newest that the primary received, which has room for three more numbers

  end_number : next_number (core_over (the_setup by_table secrets) (start_of (the_setup by_table secrets) (signer_of secrets 0)) (turns_by secrets 0)) ≡ 2
  end_number = refl

  newest_by_table : IsNewest (the_setup by_table secrets) (the_answered by_table secrets) (a_request secrets)
  newest_by_table = record {
    received = (_, inl refl, refl);
    newest = λ p received id. inl (same_asked secrets p (a_request secrets) (one_asked secrets p received));
    room = λ s comes. subst (λ (x : Core). next_number x ≤ x.low + 4) (end_is secrets 0 s comes) (let two = end_number in omega (arith, two));
  }

  pub newest : IsNewest (the_setup sha256 secrets) (the_answered sha256 secrets) (a_request secrets)
  newest = subst (λ (hash : List ℕ → List ℕ). IsNewest (the_setup hash secrets) (the_answered hash secrets) (a_request secrets)) (λ k text. table_is text k) newest_by_table

  -- ---- what it hears

  abbrev IsHeard : Output → Type 0
  IsHeard output = output.to ≡ ToClient 100 → IsIn output.message (the_messages secrets)

  -- what goes to all doesn't go to the client
  to_all : (m : Signed Body) → IsHeard (record { to = All; message = m; own = true })
  to_all m e = absurd cc

  each_heard : (i : ℕ) → EachGiven IsHeard (turns_by secrets i)
  each_heard zero = ((to_all (the_proposal secrets), tt), (tt, ((to_all (commit_by secrets 0), tt), (tt, (((λ e. inr (inr (inl refl))), tt), tt)))))
  each_heard (suc zero) = (tt, ((to_all (prepare_by secrets 1), tt), ((to_all (commit_by secrets 1), tt), (tt, (((λ e. inr (inr (inr (inl refl)))), tt), tt)))))
  each_heard (suc (suc zero)) = (tt, ((to_all (prepare_by secrets 2), tt), ((to_all (commit_by secrets 2), tt), (tt, (((λ e. inr (inl refl)), tt), tt)))))
  each_heard (suc (suc (suc n))) = tt

  pub hears : HearsAll (the_setup sha256 secrets) (the_answered sha256 secrets) 100 (the_messages secrets)
  hears i row output correct at within to = given_one (the_setup sha256 secrets) IsHeard (turns_by secrets i) row output (each_heard i) at within to

  -- ---- nobody forged

  authentic : (n leaf : ℕ) (reply : Reply) → leaf < 32 → slice_get (the_config secrets).keys n ≡ Some (key_of secrets n) → IsTrue (may_sign (the_config secrets) Replica n (reply_body 0 reply))
      → IsAuthentic (the_config secrets) (message_of secrets n leaf (reply_body 0 reply))
  unfolding signature_by
  authentic n leaf reply small listed role = record {
    key = key_of secrets n;
    listed = listed;
    role = role;
    signature = valid-signature_by H5 None (tree_id n) (secrets n) (0 + leaf) (signed_text (message_of secrets n leaf (reply_body 0 reply))) refl (omega (arith, small));
  }

  abbrev IsReal : Signed Body → Type 0
  IsReal m = IsAuthentic (the_config secrets) m × (m.role ≡ Replica → IsCorrect (the_setup sha256 secrets) (the_answered sha256 secrets).faulty m.id → HasGiven (part_of m) ((the_answered sha256 secrets).rows m.id))

  lie_real : IsReal (a_lie secrets)
  lie_real = (authentic 3 0 (record the_reply { result = 2 ∷ [] }) (omega arith) refl refl, (λ role correct. absurd (true≢false correct.1)))

  real_0 : IsReal (reply_by secrets 0)
  real_0 = (authentic 0 2 the_reply (omega arith) refl refl, (λ role correct. (_, _, inr (inr (inr (inr (inl refl)))), inl refl, refl, inl refl)))

  real_1 : IsReal (reply_by secrets 1)
  real_1 = (authentic 1 2 the_reply (omega arith) refl refl, (λ role correct. (_, _, inr (inr (inr (inr (inl refl)))), inl refl, refl, inl refl)))

  real_2 : IsReal (reply_by secrets 2)
  real_2 = (authentic 2 2 the_reply (omega arith) refl refl, (λ role correct. (_, _, inr (inr (inr (inr (inl refl)))), inl refl, refl, inl refl)))

  each_real : (m : Signed Body) → IsIn m (the_messages secrets) → IsReal m
  each_real m (inl is) = subst IsReal (sym is) lie_real
  each_real m (inr (inl is)) = subst IsReal (sym is) real_2
  each_real m (inr (inr (inl is))) = subst IsReal (sym is) real_0
  each_real m (inr (inr (inr (inl is)))) = subst IsReal (sym is) real_1
  each_real m (inr (inr (inr (inr none)))) = absurd none

  pub real : AreReal (the_setup sha256 secrets) (the_answered sha256 secrets) (the_messages secrets)
  real = record { authentic = λ m at. (each_real m at).0; given = λ m at. (each_real m at).1 }

  -- ---- it accepts

  pub accepted : accepted_by (after_offers (the_session secrets) (the_messages secrets)) ≡ Some the_reply
  unfolding backers
  accepted = refl
