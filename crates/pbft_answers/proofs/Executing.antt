-- Until a mark rises, all is executed by all.
use Rattle.std.proofs.Common.{◌≡◌, ℕ, zero, suc, ◌<◌, ◌≤◌, true, List, ◌∷◌, refl, sym, ap, subst, ◌∙◌, arith, inl, inr}
use Rattle.std.proofs.lemmas.Bool.{cases_lt}
use Rattle.pbft_model.specs.Words.{Body}
use Rattle.pbft_model.specs.Setup.{Setup, primary, span, digest_of}
use Rattle.pbft_model.specs.Certificates.{Fields}
use Rattle.pbft_model.specs.Core.{Core, is_known}
use Rattle.pbft_model.specs.Acts.{Act, Send, Rise, Install}
use Rattle.pbft_model.specs.Rules.{MaySay}
use Rattle.pbft_model.specs.Rows.{Executed, result_of}
use Rattle.pbft_model.specs.Histories.{core_after, IsEarlier}
use Rattle.pbft_model.specs.Families.{IsCorrect}
use Rattle.pbft_agreement.specs.Journals.{Journals, HasDone, IsHonestFamily}
use Rattle.pbft_progress.specs.Progress.{IsDrained, EachEnds}
use Rattle.pbft_progress.specs.Votes.{HasProposed}
use Rattle.pbft_answers.specs.Window.{SpreadsRequests}
use Rattle.pbft_model.proofs.Events.{before, history_at}
use Rattle.pbft_answers.proofs.Kin.{family, told}
use Rattle.pbft_answers.proofs.Reaching.{Done, Jumped, reaches, low_rises}
use Rattle.pbft_answers.proofs.Speaking.{spoken}
use Rattle.pbft_answers.proofs.Deciding.{Asked, InTime, last, AllPrepare, AllCommit, prepares, commits, none_rests_before, above_zero}
use Rattle.pbft_answers.proofs.Proposing.{Signs, signs_asked, asked_signs, signs_below, signs_view, executed_signs, one_signed}
use Rattle.pbft_answers.proofs.OneResult.{one_result}
use Rattle.pbft_answers.proofs.Holding.{behind, known_last, StaysNew}

module _ (c : Setup) (j : Journals) (h : IsHonestFamily c j) (first : EachEnds c j (λ i s. s.view ≡ 0)) (leader : IsCorrect c j.faulty (primary c.config 0)) where
  -- what the primary proposed, as its journal reports it
  pub timely_of : (x : Fields) → ((n : ℕ) → n ≤ x.number → InTime c j h first leader n) → HasProposed x (j.rows (primary c.config 0)) → Asked c j h first leader x
  timely_of x in_time (b, (p, given, body), fields) =
      let signs : Signs c j h first leader x = (p, b, (told c j h (primary c.config 0) leader).signs p given, body, fields) in
      signs_asked c j h first leader x (signs_view c j h first leader x signs) in_time signs

  -- up to the first high mark no vote comes early
  pub window_in_time : (x : Fields) → x.number ≤ span c.config → (n : ℕ) → n ≤ x.number → InTime c j h first leader n
  window_in_time x within n le i correct m r early at right number = omega (arith, within, le)

  pub asked_of : (x : Fields) → x.number ≤ span c.config → HasProposed x (j.rows (primary c.config 0)) → Asked c j h first leader x
  asked_of x within = timely_of x (window_in_time x within)

  pub number_in_time : (x y : Fields) → Asked c j h first leader x → y.number ≤ x.number → (n : ℕ) → n ≤ y.number → InTime c j h first leader n
  number_in_time x y asked less n le = asked.in_time n (omega (arith, less, le))

  module _ (drained : IsDrained c j) (nobody_jumps : (i : ℕ) → IsCorrect c j.faulty i → (n : ℕ) → 1 ≤ n → Jumped n ((family c j h).acts i) → ⊥)
      (knows : (x : Fields) → Asked c j h first leader x → (i : ℕ) → IsCorrect c j.faulty i → (last c j h first leader i).executed < x.number → is_known c (last c j h first leader i) x.digest ≡ true) where
    -- Nobody rests below a number that was proposed.
    pub all_reach : (n : ℕ) → (x : Fields) → x.number ≡ n → Asked c j h first leader x → (i : ℕ) → IsCorrect c j.faulty i → n ≤ (last c j h first leader i).executed
    all_reach zero x number asked i correct = omega arith
    all_reach (suc n) x number asked i correct =
        let one = above_zero c j h first leader drained x asked in
        let all_prepare : AllPrepare c j h first leader drained x asked = λ k right backup. elim (prepares c j h first leader drained x asked (knows x asked) k right backup) [
          | inl gave ↦ gave
          | inr jumped ↦ absurd (nobody_jumps k right x.number one jumped)
        ] in
        let all_commit : AllCommit c j h first leader drained x asked = λ k right. elim (commits c j h first leader drained x asked (knows x asked) all_prepare k right) [
          | inl gave ↦ gave
          | inr jumped ↦ absurd (nobody_jumps k right x.number one jumped)
        ] in
        let lower : n ≤ (last c j h first leader i).executed = elim (cases_lt 0 n) [
          | inr none ↦ omega (arith, none)
          | inl some ↦
              let below = signs_below c j h first leader (suc n) (x, number, asked_signs c j h first leader x asked) n (omega (arith, some)) (omega arith) in
              let number_is : below.0.number ≡ n = below.1 in
              let down = signs_asked c j h first leader below.0 (signs_view c j h first leader below.0 below.2) (number_in_time x below.0 asked (omega (arith, number, number_is))) below.2 in
              all_reach n below.0 below.1 down i correct
        ] in
        elim (cases_lt (last c j h first leader i).executed (suc n)) [
          | inr up ↦ up
          | inl less ↦ absurd (none_rests_before c j h first leader drained x asked (knows x asked) all_prepare all_commit i correct (omega (arith, less, lower, number)))
        ]

  -- ---- what was reached without a jump was executed

  pub executes_it : (x : Fields) → Asked c j h first leader x → (i : ℕ) → IsCorrect c j.faulty i → Done x.number ((family c j h).acts i) → (result : List ℕ) × HasDone (Executed x.number x.digest result) (j.rows i)
  executes_it x asked i correct (d, t, o, early, at) =
      let done = (told c j h i correct).reports x.number d t o early at in
      let y : Fields = record { view = 0; number = x.number; digest = d } in
      let same = one_signed c j h first leader y x (executed_signs c j h first leader i correct x.number d (result_of o.reply) done) (asked_signs c j h first leader x asked) refl in
      (result_of o.reply, subst (λ (z : Fields). HasDone (Executed x.number z.digest (result_of o.reply)) (j.rows i)) same done)

  -- ---- until a mark rises

  module _ (drained : IsDrained c j) (unmoved : EachEnds c j (λ i s. s.low ≡ 0)) (spread : SpreadsRequests c j) where
    low_last : (i : ℕ) → IsCorrect c j.faulty i → (last c j h first leader i).low ≡ 0
    low_last i correct = let e = told c j h i correct in ap (λ (s : Core). s.low) e.core_is ∙ unmoved i correct e.core e.comes

    low_then : (i : ℕ) → IsCorrect c j.faulty i → (acts : List Act) → IsEarlier acts ((family c j h).acts i) → (core_after c (j.signer i) acts).low ≡ 0
    low_then i correct acts at =
        let up = low_rises c i (j.signer i) acts ((family c j h).acts i) at (told c j h i correct).is in
        let end = low_last i correct in
        omega (arith, up, end)

    nobody_jumps : (i : ℕ) → IsCorrect c j.faulty i → (n : ℕ) → 1 ≤ n → Jumped n ((family c j h).acts i) → ⊥
    nobody_jumps i correct n one (k, b, t, early, at, le) =
        let low : k ≡ 0 = low_then i correct (Install k b t ∷ early) at in
        omega (arith, one, le, low)

    discards_nothing : (i : ℕ) → IsCorrect c j.faulty i → (digest : List ℕ) (a : Act) (early : List Act) → IsEarlier (a ∷ early) ((family c j h).acts i) → StaysNew c digest (core_after c (j.signer i) early) a
    discards_nothing i correct digest (Rise n d) early at =
        let ok = (history_at c i (j.signer i) (Rise n d ∷ early) ((family c j h).acts i) at (told c j h i correct).is).1 in
        let above = ok.above in
        let low : n ≡ 0 = low_then i correct (Rise n d ∷ early) at in
        absurd (omega (arith, above, low))
    discards_nothing i correct digest (Install n b t) early at =
        let ok = (history_at c i (j.signer i) (Install n b t ∷ early) ((family c j h).acts i) at (told c j h i correct).is).1 in
        let above = ok.above in
        let low : n ≡ 0 = low_then i correct (Install n b t ∷ early) at in
        absurd (omega (arith, above, low))
    discards_nothing i correct digest _ early at = tt

    knows : (x : Fields) → Asked c j h first leader x → (i : ℕ) → IsCorrect c j.faulty i → (last c j h first leader i).executed < x.number → is_known c (last c j h first leader i) x.digest ≡ true
    knows x asked i correct less =
        let r = behind c j h first leader x asked in
        let received = spread (primary c.config 0) i r.request leader correct r.received in
        subst (λ (d : List ℕ). is_known c (last c j h first leader i) d ≡ true) (sym r.digest_is)
        (known_last c j h first leader i correct r.request received (discards_nothing i correct (digest_of c r.request)))

    within : (x : Fields) → HasProposed x (j.rows (primary c.config 0)) → x.number ≤ span c.config
    within x (b, (p, given, body), fields) =
        let me = primary c.config 0 in
        let w = spoken c j h first me leader p ((told c j h me leader).signs p given) in
        let says = subst (λ (y : Body). MaySay c me (core_after c (j.signer me) w.early) y) body w.says in
        let high = says.inside.up_to_high in
        let low = low_then me leader w.early (before (Send w.to w.message) w.early ((family c j h).acts me) w.point) in
        let number : b.number.0 ≡ x.number = ap (λ (y : Fields). y.number) fields in
        omega (arith, high, low, number)

    one_executes : (x : Fields) → HasProposed x (j.rows (primary c.config 0)) → (i : ℕ) → IsCorrect c j.faulty i → (result : List ℕ) × HasDone (Executed x.number x.digest result) (j.rows i)
    one_executes x proposed i correct =
        let asked = asked_of x (within x proposed) proposed in
        let up = all_reach drained nobody_jumps knows x.number x refl asked i correct in
        let one = above_zero c j h first leader drained x asked in
        elim (reaches c i (j.signer i) x.number ((family c j h).acts i) (told c j h i correct).is one up) [
          | inl done ↦ executes_it x asked i correct done
          | inr jumped ↦ absurd (nobody_jumps i correct x.number one jumped)
        ]

    -- Each own PrePrepare of the primary is executed by each correct replica, with one result.
    pub all_execute : (x : Fields) → HasProposed x (j.rows (primary c.config 0)) → (result : List ℕ) × ((i : ℕ) → IsCorrect c j.faulty i → HasDone (Executed x.number x.digest result) (j.rows i))
    all_execute x proposed =
        let w = one_executes x proposed (primary c.config 0) leader in (
          w.0,
          λ i correct.
              let v = one_executes x proposed i correct in
              let same = one_result c j h i (primary c.config 0) x.number x.digest v.0 x.digest w.0 correct leader v.1 w.1 in
              subst (λ (r : List ℕ). HasDone (Executed x.number x.digest r) (j.rows i)) same.1 v.1,
        )
