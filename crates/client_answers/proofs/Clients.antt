-- In a timely first view a session whose request the primary gave out accepts its reply, once it has heard the correct replicas.
use Rattle.std.proofs.Common.{◌≡◌, ℕ, suc, ◌-◌, ◌<◌, Bool, false, List, [], ◌∷◌, ◌++◌, take, Some, refl, sym, ap, subst, ◌∙◌, arith, inl, inr}
use Rattle.std.specs.Prelude.{is_some}
use Rattle.std.proofs.lemmas.Bool.{cases_order}
use Rattle.service_model.proofs.Determined.{same_follows}
use Rattle.service_model.specs.Steps.{reply_to}
use Rattle.pbft_answers.specs.Words.{Configuration, ClientId, Signed, Body, RequestBody, Reply, as_message}
use Rattle.pbft_codec.specs.declared.body.Body.TheVariants as bodies
use Rattle.pbft_answers.specs.Sequential.{Outcome, Serves, genesis_of}
use Rattle.pbft_answers.specs.Setup.{Setup, replicas, count, digest_of, request_in}
use Rattle.pbft_answers.specs.Certificates.{Fields}
use Rattle.pbft_answers.specs.Core.{Core, is_new}
use Rattle.pbft_answers.specs.Acts.{ToClient}
use Rattle.pbft_answers.specs.Rows.{Row, Executed, result_of}
use Rattle.pbft_answers.specs.Histories.{IsIn}
use Rattle.pbft_answers.specs.Families.{IsCorrect}
use Rattle.pbft_answers.specs.Agreement.{HoldsState, requests_in}
use Rattle.client_session.specs.Journals.{Journals, HasReceived, HasDone, IsHonestFamily}
use Rattle.pbft_answers.specs.Progress.{IsDrained, Enough}
use Rattle.pbft_answers.specs.Window.{leader_of}
use Rattle.pbft_answers.specs.Early.{IsTimely}
use Rattle.pbft_answers.proofs.Counting.{found_outside}
use Rattle.pbft_answers.proofs.Kin.{told}
use Rattle.pbft_answers.proofs.Proposing.{Signs, asked_signs}
use Rattle.pbft_answers.proofs.Executing.{timely_of}
use Rattle.pbft_answers.proofs.Timely.{comes_in_time}
use Rattle.pbft_answers.proofs.Listing.{IsTakenBy, got_in}
use Rattle.pbft_answers.proofs.Ordering.{times_rise}
use Rattle.pbft_answers.proofs.Answering.{enough_execute}
use Rattle.pbft_answers.proofs.Asking.{asked}
use Rattle.client_session.specs.Accepted.{IsAnswered, IsReplyTo, after_offers}
use Rattle.client_session.specs.Sessions.{SessionState, accepted_by}
use Rattle.client_answers.specs.Replies.{SaysReply, EnoughSay, HasAsked, HearsAll, IsGivenOut, IsNewest, GivesReply, answer_at}
use Rattle.client_answers.proofs.Certificate.{accepts, zero_count}
use Rattle.client_answers.proofs.Listed.{old_entry, entries, over, received_taken, entry_taken, entry_signs, replied}

whole : {X : Type 0} (xs : List X) → xs ≡ xs ++ []
whole [] = refl
whole (x ∷ xs) = ap (λ ys. x ∷ ys) (whole xs)

abbrev last_in : Outcome → List Outcome → Outcome
last_in o [] = o
last_in o (p ∷ ps) = last_in p ps

last_behind : (o : Outcome) (os : List Outcome) (p : Outcome) → last_in o (os ++ p ∷ []) ≡ p
last_behind o [] p = refl
last_behind o (q ∷ os) p = last_behind q os p

module _ (c : Setup) (j : Journals) (h : IsHonestFamily c j) (w : IsTimely c j) where
  abbrev SignsIt : Fields → Type 0
  SignsIt = Signs c j h w.stands w.leader

  abbrev TakenBy : Signed RequestBody → Type 0
  TakenBy = IsTakenBy c j h w.stands w.leader

  -- ---- the client's newest request is given out, where there is room

  -- what the primary signed it gave out
  given_out : (x : Fields) → SignsIt x → (m : Signed RequestBody) → HasReceived (as_message bodies.Request m) (j.rows (leader_of c)) → x.digest ≡ digest_of c m → IsGivenOut c j x m
  given_out x signs m received digest =
      let given = (told c j h (leader_of c) w.leader).gives signs.0 signs.2 in
      record { received = received; digest_is = digest; proposed = (signs.1, (signs.0, given, signs.3), signs.4) }

  pub newest_out : (m : Signed RequestBody) → IsNewest c j m → (x : Fields) × IsGivenOut c j x m
  newest_out m n =
      let t = told c j h (leader_of c) w.leader in
      elim (asked c j h w.stands w.leader m n.received t.core t.comes (n.room t.core t.comes)) [
        | inr (x, digest, proposed) ↦ (x, record { received = n.received; digest_is = digest; proposed = proposed })
        | inl old ↦ listed t.core old ((over c j h w.stands w.leader).states (leader_of c) w.leader t.core (record { rows = j.rows (leader_of c); rest = []; splits = whole (j.rows (leader_of c)); core = t.core; comes = t.comes; there = inl refl }))
      ] where
        listed : (core : Core) → is_new core.service m ≡ false → HoldsState c (entries c j h w.stands w.leader) core → (x : Fields) × IsGivenOut c j x m
        listed core old held =
            let (k, p, below, found, id, le) = old_entry c j h w.stands w.leader core held m old in
            let from = (over c j h w.stands w.leader).received p (got_in (entries c j h w.stands w.leader) k (Some p) found) in
            elim (n.newest p (w.spreads from.0 (leader_of c) p from.1 w.leader from.2) id) [
              | inl one ↦
                  let x : Fields = record { view = 0; number = suc k; digest = digest_of c p } in
                  (x, given_out x (entry_signs c j h w.stands w.leader k (Some p) found) m n.received (ap (digest_of c) one))
              | inr less ↦ absurd (omega (arith, less, le))
            ]

  module _ (x : Fields) (m : Signed RequestBody) (out : IsGivenOut c j x m) where
    signs : SignsIt x
    signs = asked_signs c j h w.stands w.leader x (timely_of c j h w.stands w.leader x (λ n le. comes_in_time c j h w.stands w.leader w.in_time n) out.proposed)

    taken : TakenBy m
    taken = received_taken c j h w.stands w.leader (leader_of c) w.leader m out.received

    -- each correct replica that executed it replied
    pub replies : (i : ℕ) → IsCorrect c j.faulty i → (result : List ℕ) → HasDone (Executed x.number x.digest result) (j.rows i)
        → (row : Row) × (view : ℕ) × IsIn row (j.rows i) × GivesReply i view (reply_to (request_in m) x.number result) row.outputs
    replies i correct result done = replied c j h w.stands w.leader w.asks x signs m taken out.digest_is i correct result done

    module _ (drained : IsDrained c j) where
      -- its result, which more correct replicas than may be faulty came to
      pub executes : (result : List ℕ) × Enough c j (λ i. HasDone (Executed x.number x.digest result) (j.rows i))
      executes = enough_execute c j h w.stands w.leader drained w.asks w.spreads x (λ n le. comes_in_time c j h w.stands w.leader w.in_time n) out.proposed

      module _ (s : SessionState) (ms : List (Signed Body)) (session : HasAsked c s m) where
        -- ---- a session that hears them accepts

        module _ (hears : HearsAll c j s.client.0 ms) where
          says : (i : ℕ) → IsCorrect c j.faulty i → (result : List ℕ) → HasDone (Executed x.number x.digest result) (j.rows i) → SaysReply ms (answer_at s x.number result) i
          says i correct result done =
              let (row, view, at, (output, within, own, to, id, body)) = replies i correct result done in
              let client : output.to ≡ ToClient s.client.0 = to ∙ ap ToClient session.client_is in (
                output.message,
                record { view = record { 0 = view }; client = record { 0 = m.id }; time = m.body.time; number = record { 0 = x.number }; result = result },
                hears i row output correct at within client,
                id,
                body,
                (λ k. record { client = record { 0 = session.client_is k }; time = session.time_is k; number = record { 0 = x.number }; result = result }),
              )

          enough_say : EnoughSay s ms (answer_at s x.number executes.0)
          enough_say =
              let those : ℕ → Bool = executes.1.0 in
              let more : s.config.f < count those (replicas s.config) = subst (λ (config : Configuration). config.f < count those (replicas config)) (sym session.config_is) executes.1.1 in
              (those, more, λ k below t. let v = executes.1.2 k (subst (λ (config : Configuration). k < replicas config) session.config_is below) t in says k v.0 executes.0 v.1)

          pub accepts_some : (accepted : Reply) × (accepted_by (after_offers s ms) ≡ Some accepted)
          accepts_some = accepts s ms (answer_at s x.number executes.0) (ap is_some session.pending) (record { client_is = refl; time_is = refl }) enough_say

        -- ---- what it accepts is what was executed

        -- who executed it
        someone : (i : ℕ) × IsCorrect c j.faulty i × HasDone (Executed x.number x.digest executes.0) (j.rows i)
        someone =
            let nobody = zero_count (replicas c.config) in
            let many = executes.1.1 in
            let one = found_outside executes.1.0 (λ i. false) (replicas c.config) (omega (arith, nobody, many)) in
            let v = executes.1.2 one.0 one.1 one.2 in
            (one.0, v.0, v.1)

        one_number : (r : Reply) → IsReplyTo s r → IsAnswered c (entries c j h w.stands w.leader) r → r.number.0 ≡ x.number
        one_number r to v =
            let one = v.not_zero in
            let up : suc (r.number.0 - 1) ≡ r.number.0 = omega (arith, one) in
            let y : Fields = record { view = 0; number = suc (r.number.0 - 1); digest = digest_of c v.request } in
            let signs_y : SignsIt y = entry_signs c j h w.stands w.leader (r.number.0 - 1) (Some v.request) v.is_entry in
            let y_taken = entry_taken c j h w.stands w.leader (r.number.0 - 1) v.request v.is_entry in
            let id : v.request.id ≡ m.id = v.client_is ∙ ap (λ (q : ClientId). q.0) to.client_is ∙ sym session.client_is in
            let time : v.request.body.time ≡ m.body.time = v.time_is ∙ to.time_is ∙ sym session.time_is in
            elim (cases_order r.number.0 x.number) [
              | inl same ↦ same
              | inr (inl below) ↦
                  let less = times_rise c j h w.stands w.leader w.asks x y signs signs_y (omega (arith, below, up)) v.request m y_taken taken refl (sym out.digest_is) id in
                  absurd (omega (arith, less, time))
              | inr (inr above) ↦
                  let less = times_rise c j h w.stands w.leader w.asks y x signs_y signs (omega (arith, above, up)) m v.request taken y_taken (sym out.digest_is) refl (sym id) in
                  absurd (omega (arith, less, time))
            ]

        pub only : (r : Reply) → IsReplyTo s r → IsAnswered c (entries c j h w.stands w.leader) r → r ≡ answer_at s x.number executes.0
        only r to v =
            let list = entries c j h w.stands w.leader in
            let number = one_number r to v in
            let d = (over c j h w.stands w.leader).executed someone.0 x.number x.digest executes.0 someone.1 someone.2 in
            let theirs = subst (λ (n : ℕ). Serves c.config (requests_in (take n list)) v.state (v.earlier ++ v.outcome ∷ [])) number v.serves in
            let same = same_follows (genesis_of c.config) (requests_in (take x.number list)) v.state d.state (v.earlier ++ v.outcome ∷ []) (d.earlier ++ d.outcome ∷ []) theirs d.serves in
            let outcome : v.outcome ≡ d.outcome = sym (last_behind v.outcome v.earlier v.outcome) ∙ ap (last_in v.outcome) same.1 ∙ last_behind v.outcome d.earlier d.outcome in
            let result : r.result ≡ executes.0 = ap result_of (sym v.reply_is) ∙ ap (λ (o : Outcome). result_of o.reply) outcome ∙ sym d.result_is in
            λ k. record { client = to.client_is k; time = to.time_is k; number = record { 0 = number k }; result = result k }
