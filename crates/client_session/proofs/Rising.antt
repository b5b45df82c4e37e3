-- The numbers of a client's answered requests rise with their times; and an answered request is the client's own.
use Rattle.std.proofs.Common.{◌≡◌, ℕ, zero, suc, ◌+◌, ◌-◌, ◌<◌, ◌≤◌, inl, inr, List, [], ◌∷◌, ◌++◌, length, take, Option, Some, refl, sym, ap, subst, ◌∙◌, arith}
use Rattle.std.specs.Prelude.{is_some, slice_get}
use Rattle.std.specs.Option.{option_map}
use Rattle.std.proofs.lemmas.Bool.{cases_order, false≢true}
use Rattle.std.proofs.lemmas.List.{map-append}
use Rattle.std.proofs.lemmas.Option.{same_Some}
use Rattle.host_types.specs.declared.request.Reply.{Reply}
use Rattle.host_types.specs.declared.request.Request.{Request}
use Rattle.pbft_codec.specs.declared.body.request.RequestBody.{RequestBody}
use Rattle.pbft_codec.specs.declared.signed.Signed.{Signed}
use Rattle.service_model.proofs.Bounds.{reply_is_last}
use Rattle.service_model.proofs.Determined.{same_follows}
use Rattle.service_model.specs.Steps.{Follows}
use Rattle.service_model.specs.TenantStates.{Service, genesis_of, last_reply_of}
use Rattle.service_model.specs.declared.outcome.Outcome.{Outcome}
use Rattle.pbft_agreement.specs.Agreement.{requests_in}
use Rattle.pbft_model.specs.Histories.{IsIn}
use Rattle.pbft_agreement.specs.Journals.{AgreesOver, Journals}
use Rattle.pbft_model.specs.Setup.{Setup, request_in}
use Rattle.client_session.specs.Accepted.{IsAnswered, SignsAlone}
use Rattle.client_session.proofs.Accepting.{located}
use Rattle.client_session.proofs.LastReplies.{Point, answered_in, none_at_first, numbers_follow, times_follow}

-- ---- lists

last_or : {X : Type 0} → X → List X → X
last_or x [] = x
last_or x (y ∷ ys) = last_or y ys

last_or-append : {X : Type 0} (d x : X) (xs : List X) → last_or d (xs ++ x ∷ []) ≡ x
unfolding last_or
last_or-append d x [] = refl
last_or-append d x (y ∷ ys) = last_or-append y x ys

-- one more is taken
taken_one : {X : Type 0} (es : List X) (k : ℕ) (e : X) → slice_get es k ≡ Some e → take (suc k) es ≡ take k es ++ e ∷ []
taken_one [] k e is = absurd (false≢true (ap is_some is))
taken_one (x ∷ es) zero e is = ap (λ z. z ∷ []) (same_Some _ _ is)
taken_one (x ∷ es) (suc k) e is = ap (λ zs. x ∷ zs) (taken_one es k e is)

-- more are taken
taken_more : {X : Type 0} (es : List X) (k n : ℕ) → k ≤ n → (more : List X) × (take n es ≡ take k es ++ more)
taken_more es zero n less = (take n es, refl)
taken_more [] (suc k) zero less = absurd (omega (arith, less))
taken_more [] (suc k) (suc n) less = ([], refl)
taken_more (x ∷ es) (suc k) zero less = absurd (omega (arith, less))
taken_more (x ∷ es) (suc k) (suc n) less = let w = taken_more es k n (omega (arith, less)) in (w.0, ap (λ zs. x ∷ zs) w.1)

-- ---- runs of the service in two parts

record InParts (s : Service) (xs ys : List (Option Request)) (t : Service) (os : List Outcome) : Type 0 where
  mid : Service
  early : List Outcome
  late : List Outcome
  first : Follows s xs mid early
  second : Follows mid ys t late
  outcomes : os ≡ early ++ late

in_parts : (s : Service) (xs ys : List (Option Request)) (t : Service) (os : List Outcome) → Follows s (xs ++ ys) t os → InParts s xs ys t os
in_parts s [] ys t os w = record { mid = s; early = []; late = os; first = (refl, refl); second = w; outcomes = refl }
in_parts s (x ∷ xs) ys t os (mid, o, others, step, rest, is) =
    let p = in_parts mid xs ys t others rest in
    record { mid = p.mid; early = o ∷ p.early; late = p.late; first = (mid, o, p.early, step, p.first, refl); second = p.second; outcomes = is ∙ ap (λ (zs : List Outcome). o ∷ zs) p.outcomes }

module _ (c : Setup) (entries : List (Option (Signed RequestBody))) where
  -- the reply is then the last one to its client
  kept_then : (reply : Reply) (w : IsAnswered c entries reply) → last_reply_of w.state reply.client.0 ≡ Some reply
  kept_then reply w =
      let k = reply.number.0 - 1 in
      let up : reply.number.0 ≡ suc (reply.number.0 - 1) = one_up reply.number.0 w.not_zero in
      let shown : requests_in (take reply.number.0 entries) ≡ requests_in (take (reply.number.0 - 1) entries) ++ Some (request_in w.request) ∷ [] =
      ap (λ (n : ℕ). requests_in (take n entries)) up ∙ ap requests_in (taken_one entries (reply.number.0 - 1) (Some w.request) w.is_entry)
      ∙ map-append (option_map request_in) (take (reply.number.0 - 1) entries) (Some w.request ∷ []) in
      let p = in_parts (genesis_of c.config) (requests_in (take (reply.number.0 - 1) entries)) (Some (request_in w.request) ∷ []) w.state (w.earlier ++ w.outcome ∷ [])
      (subst (λ (qs : List (Option Request)). Follows (genesis_of c.config) qs w.state (w.earlier ++ w.outcome ∷ [])) shown w.serves) in
      by p.mid p.early p.late p.second p.outcomes where
        one_up : (n : ℕ) → 1 ≤ n → n ≡ suc (n - 1)
        one_up n h = omega (arith, h)

        by : (mid : Service) (early late : List Outcome) → Follows mid (Some (request_in w.request) ∷ []) w.state late → w.earlier ++ w.outcome ∷ [] ≡ early ++ late → last_reply_of w.state reply.client.0 ≡ Some reply
        by mid early late (then, o, none, step, (same, empty), is) outcomes =
            let whole : w.earlier ++ w.outcome ∷ [] ≡ early ++ o ∷ [] = outcomes ∙ ap (λ (zs : List Outcome). early ++ zs) (is ∙ ap (λ (zs : List Outcome). o ∷ zs) empty) in
            let outcome : o ≡ w.outcome = sym (last_or-append w.outcome o early) ∙ ap (last_or w.outcome) (sym whole) ∙ last_or-append w.outcome w.outcome w.earlier in
            let last = reply_is_last mid (request_in w.request) then o reply step (ap (λ (x : Outcome). x.reply) outcome ∙ w.reply_is) in
            ap (λ (u : Service). last_reply_of u reply.client.0) same ∙ ap (last_reply_of then) (sym w.client_is) ∙ last

  -- what was replied before that to the client has a lower time
  earlier_time : (reply before : Reply) → IsAnswered c entries reply → IsAnswered c entries before → reply.client.0 ≡ before.client.0 → before.number.0 < reply.number.0 → before.time < reply.time
  earlier_time reply before w v client less =
      elim (answered_in (genesis_of c.config) (requests_in (take reply.number.0 entries)) w.state (w.earlier ++ w.outcome ∷ []) reply.client.0 reply w.serves (kept_then reply w)) [
        | inl first ↦ absurd (none_at_first c.config reply.client.0 reply first)
        | inr p ↦ at p
      ] where
        at : Point (genesis_of c.config) (requests_in (take reply.number.0 entries)) reply.client.0 reply → before.time < reply.time
        at p =
            let place = located (option_map request_in) reply.number.0 entries p.before p.q p.after p.splits in
            let mid : p.mid.number ≡ 0 + length p.before = numbers_follow (genesis_of c.config) p.before p.mid p.earlier p.first in
            let number_is : reply.number.0 ≡ p.mid.number + 1 = ap (λ (r : Reply). r.number.0) p.answers.reply_is in
            let up_to : before.number.0 ≤ length p.before = within before.number.0 reply.number.0 p.mid.number (length p.before) less mid number_is in
            let more = taken_more entries before.number.0 (length p.before) up_to in
            let front : p.before ≡ requests_in (take before.number.0 entries) ++ requests_in more.0 =
            place.front ∙ ap requests_in more.1 ∙ map-append (option_map request_in) (take before.number.0 entries) more.0 in
            let parts = in_parts (genesis_of c.config) (requests_in (take before.number.0 entries)) (requests_in more.0) p.mid p.earlier
            (subst (λ (qs : List (Option Request)). Follows (genesis_of c.config) qs p.mid p.earlier) front p.first) in
            let state : v.state ≡ parts.mid =
            (same_follows (genesis_of c.config) (requests_in (take before.number.0 entries)) v.state parts.mid (v.earlier ++ v.outcome ∷ []) parts.early v.serves parts.first).0 in
            let was : last_reply_of parts.mid reply.client.0 ≡ Some before =
            ap (λ (u : Service). last_reply_of u reply.client.0) (sym state) ∙ ap (last_reply_of v.state) client ∙ kept_then before v in
            let later = times_follow parts.mid (requests_in more.0) p.mid parts.late reply.client.0 before parts.second was in
            let time : reply.time ≡ p.answers.request.time = ap (λ (r : Reply). r.time) p.answers.reply_is in
            chained before.time later.0.time p.answers.request.time reply.time later.2 (p.answers.later later.0 later.1) time where
              within : (b n m l : ℕ) → b < n → m ≡ 0 + l → n ≡ m + 1 → b ≤ l
              within b n m l less e f = omega (arith, less, e, f)

              chained : (x y z t : ℕ) → x ≤ y → y < z → t ≡ z → x < t
              chained x y z t a b e = omega (arith, a, b, e)

  pub numbers_rise : (earlier later : Reply) → IsAnswered c entries earlier → IsAnswered c entries later → earlier.client.0 ≡ later.client.0 → earlier.time < later.time → earlier.number.0 < later.number.0
  numbers_rise earlier later w v client less = elim (cases_order earlier.number.0 later.number.0) [
    | inr (inl up) ↦ up
    | inr (inr down) ↦ let other = earlier_time earlier later w v client down in absurd (omega (arith, less, other))
    | inl same ↦
        let entry = same_Some _ _ (same_Some _ _ (sym w.is_entry ∙ ap (λ (n : ℕ). slice_get entries (n - 1)) same ∙ v.is_entry)) in
        let time : earlier.time ≡ later.time = sym w.time_is ∙ ap (λ (m : Signed RequestBody). m.body.time) entry ∙ v.time_is in absurd (omega (arith, less, time))
  ]

-- ---- the request

got_in : {X : Type 0} (x : X) (xs : List X) (n : ℕ) → slice_get xs n ≡ Some x → IsIn x xs
got_in x [] n is = absurd (false≢true (ap is_some is))
got_in x (y ∷ xs) zero is = inl (sym (same_Some _ _ is))
got_in x (y ∷ xs) (suc n) is = inr (got_in x xs n is)

pub own_request : (c : Setup) (j : Journals) (entries : List (Option (Signed RequestBody))) (reply : Reply) (operation : ℕ → List ℕ) → AgreesOver c j entries → SignsAlone c j reply.client.0 operation
    → (w : IsAnswered c entries reply) → w.request.body.op ≡ operation reply.time
own_request c j entries reply operation over alone w =
    alone w.request (over.received w.request (got_in (Some w.request) entries (reply.number.0 - 1) w.is_entry)) w.client_is ∙ ap operation w.time_is
