-- Replies of more replicas than may be faulty make a certificate: a session that was offered them accepts a reply.
use Rattle.std.proofs.Common.{◌≡◌, ◌⊎◌, ℕ, zero, suc, ◌+◌, ◌<◌, ◌≤◌, Bool, true, false, ◌&&◌, cond, List, [], ◌∷◌, ◌++◌, find, Option, Some, None, refl, sym, ap, subst, ◌∙◌, arith, inl, inr}
use Rattle.std.specs.Prelude.{◌==◌, bytes_eq, is_none, is_some, nat_lt}
use Rattle.std.specs.List.{list_any}
use Rattle.std.specs.Option.{option_map}
use Rattle.std.proofs.lemmas.Bool.{true≢false, false≢true, and_from, eq-eqb, lt-ltb, or_left, or_right}
use Rattle.std.proofs.lemmas.Slice.Eq.{bytes_eq-Decides}
use Rattle.pbft_codec.specs.declared.body.Body.TheVariants as bodies
use Rattle.pbft_answers.specs.Words.{Configuration, replicas_for, ClientId, Signed, Body, ReplyBody, Reply}
use Rattle.pbft_answers.specs.Setup.{count}
use Rattle.pbft_answers.specs.Histories.{IsIn}
use Rattle.pbft_answers.proofs.Counting.{found_outside}
use Rattle.pbft_answers.proofs.Found.{in_append_left, in_append_right}
use Rattle.client_session.specs.Accepted.{IsReplyTo, after_offers}
use Rattle.client_session.specs.Sessions.{SessionState, accepted_by, after_offer, answer_in, awaits, backers, has_said, is_vouched_answer, offered, reply_to, says}
use Rattle.client_session.specs.declared.answer.Answer.{Answer}
use Rattle.client_session.proofs.Hearing.{offer_same, offers_same}
use Rattle.client_answers.specs.Replies.{SaysReply, EnoughSay}

-- ---- a session accepts once

stays_by : (s : SessionState) (i : ℕ) (b : Body) (r : Reply) → accepted_by s ≡ Some r → after_offer s i b ≡ s
stays_by s i (bodies.Reply b) r e = by (awaits s b) refl where
  by : (t : Bool) → awaits s b ≡ t → cond t (record s { answers = s.answers ++ answer_in i b ∷ [] }) s ≡ s
  by false is = refl
  by true is = absurd (false≢true (sym (none_awaited (is_some s.request) (is_none (accepted_by s)) _ (ap is_none e)) ∙ is)) where
    none_awaited : (p q r : Bool) → q ≡ false → (p && (q && r)) ≡ false
    none_awaited true true r e = absurd (true≢false e)
    none_awaited true false r e = refl
    none_awaited false q r e = refl
stays_by s i _ r e = refl

pub stays : (s : SessionState) (ms : List (Signed Body)) (r : Reply) → accepted_by s ≡ Some r → after_offers s ms ≡ s
stays s [] r e = refl
stays s (m ∷ ms) r e =
    let first = stays_by s m.id m.body r e in
    ap (λ (t : SessionState). after_offers t ms) first ∙ stays s ms r e

-- ---- what is replied to the open request is among the answers

none_or_some : (o : Option Reply) → (o ≡ None) ⊎ ((r : Reply) × (o ≡ Some r))
none_or_some None = inl refl
none_or_some (Some r) = inr (r, refl)

never_both : (r : Reply) → Some r ≡ None → ⊥
never_both r e = cc

-- answers stay
more_by : (s : SessionState) (i : ℕ) (b : Body) (a : Answer) → IsIn a s.answers → IsIn a (after_offer s i b).answers
more_by s i (bodies.Reply b) a at = by (awaits s b) where
  by : (t : Bool) → IsIn a (cond t (record s { answers = s.answers ++ answer_in i b ∷ [] }) s).answers
  by false = at
  by true = in_append_left a s.answers (answer_in i b ∷ []) at
more_by s i _ a at = at

more : (s : SessionState) (ms : List (Signed Body)) (a : Answer) → IsIn a s.answers → IsIn a (after_offers s ms).answers
more s [] a at = at
more s (m ∷ ms) a at = more (offered s m) ms a (more_by s m.id m.body a at)

answered_by : (s : SessionState) (i : ℕ) (b : ReplyBody) → is_some s.request ≡ true → accepted_by s ≡ None → b.client.0 ≡ s.client.0 → b.time ≡ s.time → IsIn (answer_in i b) (after_offer s i (bodies.Reply b)).answers
answered_by s i b pending none client time = by (awaits s b) awaited where
  awaited : awaits s b ≡ true
  awaited = and_from (is_some s.request) (is_none (accepted_by s) && ((b.client.0 == s.client.0) && (b.time == s.time))) pending
      (and_from (is_none (accepted_by s)) ((b.client.0 == s.client.0) && (b.time == s.time)) (ap is_none none)
      (and_from (b.client.0 == s.client.0) (b.time == s.time) (eq-eqb b.client.0 s.client.0 client) (eq-eqb b.time s.time time)))

  by : (t : Bool) → t ≡ true → IsIn (answer_in i b) (cond t (record s { answers = s.answers ++ answer_in i b ∷ [] }) s).answers
  by true e = in_append_right (answer_in i b) s.answers (answer_in i b ∷ []) (inl refl)
  by false e = absurd (false≢true e)

-- Where none is accepted by the end, each Reply to the open request is an answer.
answered : (s : SessionState) (ms : List (Signed Body)) → is_some s.request ≡ true → accepted_by (after_offers s ms) ≡ None → (m : Signed Body) (b : ReplyBody) → IsIn m ms → m.body ≡ bodies.Reply b
    → b.client.0 ≡ s.client.0 → b.time ≡ s.time → IsIn (answer_in m.id b) (after_offers s ms).answers
answered s [] pending none m b at is client time = absurd at
answered s (x ∷ ms) pending none m b (inl same) is client time = elim (none_or_some (accepted_by s)) [
  | inr accepted ↦ absurd (never_both accepted.0 (sym (ap accepted_by (stays s (x ∷ ms) accepted.0 accepted.1) ∙ accepted.1) ∙ none))
  | inl nothing ↦
      let here = answered_by s m.id b pending nothing client time in
      let body : bodies.Reply b ≡ x.body = sym is ∙ ap (λ (y : Signed Body). y.body) same in
      let id : m.id ≡ x.id = ap (λ (y : Signed Body). y.id) same in
      let there : IsIn (answer_in m.id b) (offered s x).answers = subst (λ (y : Body). IsIn (answer_in m.id b) (after_offer s x.id y).answers) body
      (subst (λ (k : ℕ). IsIn (answer_in m.id b) (after_offer s k (bodies.Reply b)).answers) id here) in
      more (offered s x) ms (answer_in m.id b) there
]
answered s (x ∷ ms) pending none m b (inr later) is client time =
    let same = offer_same s x.id x.body in
    answered (offered s x) ms (ap is_some same.4 ∙ pending) none m b later is (client ∙ ap (λ (k : ClientId). k.0) (sym same.1)) (time ∙ sym same.2)

-- ---- enough of them

in_any : {X : Type 0} (test : X → Bool) (xs : List X) (x : X) → IsIn x xs → test x ≡ true → list_any test xs ≡ true
in_any test [] x none t = absurd none
in_any test (y ∷ xs) x (inl same) t = or_left (test y) _ (ap test (sym same) ∙ t)
in_any test (y ∷ xs) x (inr later) t = or_right (test y) _ (in_any test xs x later t)

-- an answer says what it says
itself : (a : Answer) → says a.number.0 a.result a ≡ true
itself a = and_from (a.number.0 == a.number.0) (bytes_eq a.result a.result) (eq-eqb a.number.0 a.number.0 refl) ((bytes_eq-Decides a.result a.result).1 refl)

said_in : (answers : List Answer) (a : Answer) → IsIn a answers → has_said answers a.number.0 a.result a.replica ≡ true
said_in answers a at = in_any (λ x. (x.replica == a.replica) && says a.number.0 a.result x) answers a at (and_from (a.replica == a.replica) (says a.number.0 a.result a) (eq-eqb a.replica a.replica refl) (itself a))

counted : (answers : List Answer) (number : ℕ) (result : List ℕ) (n : ℕ) → backers answers number result n ≡ count (has_said answers number result) n
unfolding backers
counted answers number result zero = refl
counted answers number result (suc n) = ap (λ (k : ℕ). cond (has_said answers number result n) 1 0 + k) (counted answers number result n)

count_more : (p q : ℕ → Bool) (n : ℕ) → ((i : ℕ) → i < n → p i ≡ true → q i ≡ true) → count p n ≤ count q n
count_more p q zero h = omega arith
count_more p q (suc n) h = by (p n) (q n) (h n (omega arith)) (count_more p q n (λ i less. h i (omega (arith, less)))) where
  by : (a b : Bool) → (a ≡ true → b ≡ true) → count p n ≤ count q n → cond a 1 0 + count p n ≤ cond b 1 0 + count q n
  by true true k rest = omega (arith, rest)
  by true false k rest = absurd (false≢true (k refl))
  by false true k rest = omega (arith, rest)
  by false false k rest = omega (arith, rest)

pub zero_count : (n : ℕ) → count (λ i. false) n ≡ 0
zero_count zero = refl
zero_count (suc n) = let rest = zero_count n in omega (arith, rest)

found_in : (test : Answer → Bool) (xs : List Answer) (x : Answer) → IsIn x xs → test x ≡ true → is_some (find test xs) ≡ true
found_in test [] x none t = absurd none
found_in test (y ∷ xs) x at t = by (test y) refl at (found_in test xs x) where
  by : (b : Bool) → test y ≡ b → IsIn x (y ∷ xs) → (IsIn x xs → test x ≡ true → is_some (find test xs) ≡ true) → is_some (cond b (Some y) (find test xs)) ≡ true
  by true e at rest = refl
  by false e (inl same) rest = absurd (true≢false (sym t ∙ ap test same ∙ e))
  by false e (inr later) rest = rest later t

mapped : (s : SessionState) (o : Option Answer) → is_some o ≡ true → option_map (reply_to s) o ≡ None → ⊥
mapped s None e none = false≢true e
mapped s (Some a) e none = never_both (reply_to s a) none

module _ (s : SessionState) (ms : List (Signed Body)) (reply : Reply) (pending : is_some s.request ≡ true) (to : IsReplyTo s reply) (enough : EnoughSay s ms reply) where
  abbrev IsAnswer : ℕ → Answer → Type 0
  IsAnswer i a = IsIn a (after_offers s ms).answers × (a.replica ≡ i) × (a.number.0 ≡ reply.number.0) × (a.result ≡ reply.result)

  answer_of : accepted_by (after_offers s ms) ≡ None → (i : ℕ) → SaysReply ms reply i → (a : Answer) × IsAnswer i a
  answer_of none i (m, b, at, id, body, is) =
      let client : b.client.0 ≡ s.client.0 = ap (λ (r : Reply). r.client.0) is ∙ ap (λ (k : ClientId). k.0) to.client_is in
      let time : b.time ≡ s.time = ap (λ (r : Reply). r.time) is ∙ to.time_is in
      (answer_in m.id b, (answered s ms pending none m b at body client time, id, ap (λ (r : Reply). r.number.0) is, ap (λ (r : Reply). r.result) is))

  said : (i : ℕ) (a : Answer) → IsAnswer i a → has_said (after_offers s ms).answers reply.number.0 reply.result i ≡ true
  said i a (at, replica, number, result) =
      subst (λ (k : ℕ). has_said (after_offers s ms).answers reply.number.0 reply.result k ≡ true) replica
      (subst (λ (n : ℕ). has_said (after_offers s ms).answers n reply.result a.replica ≡ true) number
      (subst (λ (r : List ℕ). has_said (after_offers s ms).answers a.number.0 r a.replica ≡ true) result (said_in (after_offers s ms).answers a at)))

  vouched : accepted_by (after_offers s ms) ≡ None → (i : ℕ) (a : Answer) → IsAnswer i a → is_vouched_answer (after_offers s ms).config.f (after_offers s ms).answers a ≡ true
  vouched none i a (at, replica, number, result) =
      let f_is : (after_offers s ms).config ≡ s.config = (offers_same s ms).0 in
      let each = count_more enough.0 (has_said (after_offers s ms).answers reply.number.0 reply.result) (replicas_for s.config.f)
      (λ k below those. let w = answer_of none k (enough.2 k below those) in said k w.0 w.1) in
      let many = enough.1 in
      let all = counted (after_offers s ms).answers reply.number.0 reply.result (replicas_for s.config.f) in
      let here : nat_lt s.config.f (backers (after_offers s ms).answers reply.number.0 reply.result (replicas_for s.config.f)) ≡ true = lt-ltb _ _ (omega (arith, each, many, all)) in
      let P : Configuration → ℕ → List ℕ → Type 0 = λ c n r. nat_lt c.f (backers (after_offers s ms).answers n r (replicas_for c.f)) ≡ true in
      subst (λ (c : Configuration). P c a.number.0 a.result) (sym f_is) (subst (λ (n : ℕ). P s.config n a.result) (sym number) (subst (λ (r : List ℕ). P s.config reply.number.0 r) (sym result) here))

  -- Where enough say it, a reply is accepted.
  pub accepts : (r : Reply) × (accepted_by (after_offers s ms) ≡ Some r)
  accepts = elim (none_or_some (accepted_by (after_offers s ms))) [
    | inr accepted ↦ accepted
    | inl none ↦
        let nobody = zero_count (replicas_for s.config.f) in
        let many = enough.1 in
        let one = found_outside enough.0 (λ i. false) (replicas_for s.config.f) (omega (arith, nobody, many)) in
        let w = answer_of none one.0 (enough.2 one.0 one.1 one.2) in
        absurd (mapped (after_offers s ms) (find (is_vouched_answer (after_offers s ms).config.f (after_offers s ms).answers) (after_offers s ms).answers)
        (found_in (is_vouched_answer (after_offers s ms).config.f (after_offers s ms).answers) (after_offers s ms).answers w.0 w.1.0 (vouched none one.0 w.0 w.1)) none)
  ]
