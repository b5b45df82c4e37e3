-- What a client accepts is what the service answered.
use Rattle.std.proofs.Common.{◌≡◌, ◌⊎◌, ℕ, zero, suc, ◌+◌, ◌-◌, ◌<◌, ◌≤◌, inl, inr, Bool, true, false, ◌&&◌, cond, List, [], ◌∷◌, ◌++◌, length, map, take, find, Option, Some, None, refl, sym, ap, subst, ◌∙◌, arith}
use Rattle.std.specs.Prelude.{◌==◌, IsTrue, bytes_eq, is_none, is_some, slice_get}
use Rattle.std.specs.Option.{option_map}
use Rattle.std.proofs.lemmas.Bool.{and_parts, eqb-true, false≢true, ltb-true, or_cases}
use Rattle.std.proofs.lemmas.Option.{same_Some}
use Rattle.std.proofs.lemmas.Slice.Eq.{bytes_eq-Decides}
use Rattle.host_types.specs.Configuration.{Configuration, replicas_for}
use Rattle.host_types.specs.declared.ClientId.{ClientId}
use Rattle.host_types.specs.declared.request.Reply.{Reply}
use Rattle.host_types.specs.declared.request.Request.{Request}
use Rattle.pbft_codec.specs.declared.body.Body.{Body}
use Rattle.pbft_codec.specs.declared.body.Body.TheVariants as bodies
use Rattle.pbft_codec.specs.declared.body.pre_prepare.PrePrepare.{PrePrepare}
use Rattle.pbft_codec.specs.declared.body.reply.ReplyBody.{ReplyBody}
use Rattle.pbft_codec.specs.declared.body.request.RequestBody.{RequestBody}
use Rattle.pbft_codec.specs.declared.signed.Role.{Role}
use Rattle.pbft_codec.specs.declared.signed.Role.TheVariants as roles
use Rattle.pbft_codec.specs.declared.signed.Signed.{Signed}
use Rattle.seal.specs.Parts.{as_message, part_of}
use Rattle.seal.specs.Signers.{may_sign}
use Rattle.seal.specs.declared.part.Part.{Part}
use Rattle.service_model.proofs.Determined.{follows_more}
use Rattle.service_model.specs.Steps.{Follows}
use Rattle.service_model.specs.TenantStates.{genesis_of}
use Rattle.pbft_model.proofs.Counting.{found_outside}
use Rattle.pbft_agreement.specs.Agreement.{IsLastReplyAt, requests_in}
use Rattle.pbft_model.specs.Histories.{IsIn, listed_in}
use Rattle.pbft_model.specs.Families.{IsCorrect}
use Rattle.pbft_agreement.specs.Journals.{AgreesOver, HasGiven, IsHonestFamily, Journals}
use Rattle.pbft_model.specs.Rows.{Output, Row}
use Rattle.pbft_model.specs.Rules.{reply_in}
use Rattle.pbft_model.specs.Setup.{Setup, count, replicas, request_in}
use Rattle.client_session.specs.Accepted.{AreReal, IsAnswered, IsReplyTo, after_offers}
use Rattle.client_session.specs.Sessions.{SessionState, accepted_by, after_offer, answer_in, awaits, backers, has_said, is_vouched_answer, offered, reply_to, says}
use Rattle.client_session.specs.declared.answer.Answer.{Answer}
use Rattle.client_session.proofs.Hearing.{Same, offer_same, offers_same}
use Rattle.client_session.proofs.LastReplies.{Point, answered_in, none_at_first, numbers_follow}

-- ---- lists

in_split : {X : Type 0} (x : X) (xs : List X) → IsIn x xs → (before after : List X) × (xs ≡ before ++ x ∷ after)
in_split x [] at = absurd at
in_split x (y ∷ xs) (inl here) = ([], xs, ap (λ z. z ∷ xs) (sym here))
in_split x (y ∷ xs) (inr later) = let w = in_split x xs later in (y ∷ w.0, w.1, ap (λ zs. y ∷ zs) w.2)

in_parts : {X : Type 0} (x : X) (xs ys : List X) → IsIn x (xs ++ ys) → IsIn x xs ⊎ IsIn x ys
in_parts x [] ys at = inr at
in_parts x (y ∷ xs) ys (inl here) = inl (inl here)
in_parts x (y ∷ xs) ys (inr later) = elim (in_parts x xs ys later) [ inl first ↦ inl (inr first) | inr last ↦ inr last ]

found_in : {X : Type 0} (p : X → Bool) (xs : List X) (x : X) → find p xs ≡ Some x → IsIn x xs × (p x ≡ true)
found_in p [] x is = absurd (false≢true (ap is_some is))
found_in {X} p (y ∷ xs) x is = split (p y) refl is (found_in p xs x) where
  split : (b : Bool) → p y ≡ b → cond b (Some y) (find p xs) ≡ Some x → (find p xs ≡ Some x → IsIn x xs × (p x ≡ true)) → IsIn x (y ∷ xs) × (p x ≡ true)
  split true e h rest = (inl (sym (same_Some _ _ h)), ap p (sym (same_Some _ _ h)) ∙ e)
  split false e h rest = let w = rest h in (inr w.0, w.1)

-- ---- what the answers of a session say

-- f + 1 replicas are more than the faulty ones
counted : (answers : List Answer) (number : ℕ) (result : List ℕ) (n : ℕ) → backers answers number result n ≡ count (has_said answers number result) n
unfolding backers
counted answers number result zero = refl
counted answers number result (suc n) = ap (λ (k : ℕ). cond (has_said answers number result n) 1 0 + k) (counted answers number result n)

pub record HasSaid (answers : List Answer) (number : ℕ) (result : List ℕ) (replica : ℕ) : Type 0 where
  pub answer : Answer
  pub among : IsIn answer answers
  pub replica_is : answer.replica ≡ replica
  pub number_is : answer.number.0 ≡ number
  pub result_is : answer.result ≡ result

said : (answers : List Answer) (number : ℕ) (result : List ℕ) (replica : ℕ) → has_said answers number result replica ≡ true → HasSaid answers number result replica
said [] number result replica is = absurd (false≢true is)
said (a ∷ answers) number result replica is = elim (or_cases ((a.replica == replica) && says number result a) (has_said answers number result replica) is) [
  | inl here ↦
      let parts = and_parts (a.replica == replica) (says number result a) here in
      let same = and_parts (a.number.0 == number) (bytes_eq a.result result) parts.1 in
      record { answer = a; among = inl refl; replica_is = eqb-true a.replica replica parts.0; number_is = eqb-true a.number.0 number same.0; result_is = (bytes_eq-Decides a.result result).0 same.1 }
  | inr later ↦
      let w = said answers number result replica later in
      record { answer = w.answer; among = inr w.among; replica_is = w.replica_is; number_is = w.number_is; result_is = w.result_is }
]

-- ---- offers

-- an answer of a Reply to the session's request that was offered
pub record IsOffered (s : SessionState) (ms : List (Signed Body)) (a : Answer) : Type 0 where
  pub message : Signed Body
  pub among : IsIn message ms
  pub body : ReplyBody
  pub body_is : message.body ≡ bodies.Reply body
  pub answer_is : a ≡ answer_in message.id body
  pub client_is : body.client.0 ≡ s.client.0
  pub time_is : body.time ≡ s.time

offer_adds : (s : SessionState) (m : Signed Body) (body : Body) (a : Answer) → m.body ≡ body → IsIn a (after_offer s m.id body).answers → IsIn a s.answers ⊎ IsOffered s (m ∷ []) a
offer_adds s m (bodies.Reply b) a is at = split (awaits s b) refl at where
  split : (e : Bool) → awaits s b ≡ e → IsIn a (cond e (record s { answers = s.answers ++ answer_in m.id b ∷ [] }) s).answers → IsIn a s.answers ⊎ IsOffered s (m ∷ []) a
  split false e at = inl at
  split true e at = elim (in_parts a s.answers (answer_in m.id b ∷ []) at) [
    | inl old ↦ inl old
    | inr (inr none) ↦ absurd none
    | inr (inl new) ↦
        let open_one = and_parts (is_none (accepted_by s)) ((b.client.0 == s.client.0) && (b.time == s.time)) (and_parts (is_some s.request) (is_none (accepted_by s) && ((b.client.0 == s.client.0) && (b.time == s.time))) e).1 in
        let fits = and_parts (b.client.0 == s.client.0) (b.time == s.time) open_one.1 in
        inr (record { message = m; among = inl refl; body = b; body_is = is; answer_is = new; client_is = eqb-true b.client.0 s.client.0 fits.0; time_is = eqb-true b.time s.time fits.1 })
  ]
offer_adds s m _ a is at = inl at

first_offered : (s : SessionState) (m : Signed Body) (ms : List (Signed Body)) (a : Answer) → IsOffered s (m ∷ []) a → IsOffered s (m ∷ ms) a
first_offered s m ms a w = record { message = w.message; among = only w.among; body = w.body; body_is = w.body_is; answer_is = w.answer_is; client_is = w.client_is; time_is = w.time_is } where
  only : IsIn w.message (m ∷ []) → IsIn w.message (m ∷ ms)
  only (inl here) = inl here
  only (inr none) = absurd none

offered_in : (s : SessionState) (ms : List (Signed Body)) (a : Answer) → IsIn a (after_offers s ms).answers → IsIn a s.answers ⊎ IsOffered s ms a
offered_in s [] a at = inl at
offered_in s (m ∷ ms) a at = elim (offered_in (offered s m) ms a at) [
  | inl first ↦ elim (offer_adds s m m.body a refl first) [ inl old ↦ inl old | inr new ↦ inr (first_offered s m ms a new) ]
  | inr w ↦
      let same = offer_same s m.id m.body in
      inr (record {
        message = w.message;
        among = inr w.among;
        body = w.body;
        body_is = w.body_is;
        answer_is = w.answer_is;
        client_is = w.client_is ∙ ap (λ (k : ClientId). k.0) same.1;
        time_is = w.time_is ∙ same.2;
      })
]

-- ---- a Reply is a replica's, and one that was given is an own output

reply_role : (c : Configuration) (role : Role) (id : ℕ) (b : ReplyBody) → IsTrue (may_sign c role id (bodies.Reply b)) → role ≡ roles.Replica
reply_role c roles.Replica id b h = refl
reply_role c roles.Client id b h = absurd (false≢true h)

pub record IsGiven (rows : List Row) (b : ReplyBody) : Type 0 where
  pub before : List Row
  pub row : Row
  pub after : List Row
  pub splits : rows ≡ before ++ row ∷ after
  pub output : Output
  pub among : IsIn output row.outputs
  pub own : output.own ≡ true
  pub body_is : output.message.body ≡ bodies.Reply b

no_listed : (m : Signed Body) (b : ReplyBody) (ps : List (Signed PrePrepare)) → m.body ≡ bodies.Reply b → IsIn (part_of m) (map (λ p. part_of (as_message bodies.PrePrepare p)) ps) → ⊥
no_listed m b [] is at = at
no_listed m b (p ∷ ps) is (inl here) = never (sym is ∙ ap (λ (x : Part). x.body) here) where
  never : bodies.Reply b ≡ bodies.PrePrepare p.body → ⊥
  never e = cc
no_listed m b (p ∷ ps) is (inr later) = no_listed m b ps is later

given_reply : (rows : List Row) (m : Signed Body) (b : ReplyBody) → m.body ≡ bodies.Reply b → HasGiven (part_of m) rows → IsGiven rows b
given_reply rows m b is (row, output, at, among, own, inl here) =
    let w = in_split row rows at in
    record { before = w.0; row = row; after = w.1; splits = w.2; output = output; among = among; own = own; body_is = sym (ap (λ (x : Part). x.body) here) ∙ is }
given_reply rows m b is (row, output, at, among, own, inr later) = absurd (no_listed m b (listed_in output.message.body) is later)

-- ---- the entry that was answered

heads : {X : Type 0} (x y : X) (xs ys : List X) → x ∷ xs ≡ y ∷ ys → x ≡ y
heads x y xs ys e = cc

tails : {X : Type 0} (x y : X) (xs ys : List X) → x ∷ xs ≡ y ∷ ys → xs ≡ ys
tails x y xs ys e = cc

no_end : {X : Type 0} (before : List X) (x : X) (after : List X) → [] ≡ before ++ x ∷ after → ⊥
no_end [] x after e = cc
no_end (y ∷ before) x after e = cc

pub record IsLocated {X Y : Type 0} (g : X → Y) (es : List X) (before : List Y) (y : Y) : Type 0 where
  pub entry : X
  pub is_entry : slice_get es (length before) ≡ Some entry
  pub shows : g entry ≡ y
  pub up_to : map g (take (suc (length before)) es) ≡ before ++ y ∷ []
  pub front : before ≡ map g (take (length before) es)

pub located : {X Y : Type 0} (g : X → Y) (n : ℕ) (es : List X) (before : List Y) (y : Y) (after : List Y) → map g (take n es) ≡ before ++ y ∷ after → IsLocated g es before y
located g zero [] before y after e = absurd (no_end before y after e)
located g zero (x ∷ es) before y after e = absurd (no_end before y after e)
located g (suc n) [] before y after e = absurd (no_end before y after e)
located g (suc n) (x ∷ es) [] y after e =
    let same = heads (g x) y (map g (take n es)) after e in
    record { entry = x; is_entry = refl; shows = same; up_to = ap (λ z. z ∷ []) same; front = refl }
located g (suc n) (x ∷ es) (z ∷ before) y after e =
    let w = located g n es before y after (tails (g x) z (map g (take n es)) (before ++ y ∷ after) e) in
    let same = heads (g x) z (map g (take n es)) (before ++ y ∷ after) e in
    record { entry = w.entry; is_entry = w.is_entry; shows = w.shows; up_to = λ i. same i ∷ w.up_to i; front = sym (λ i. same i ∷ sym w.front i) }

some_request : (e : Option (Signed RequestBody)) (request : Request) → option_map request_in e ≡ Some request → (m : Signed RequestBody) × (e ≡ Some m) × (request_in m ≡ request)
some_request None request is = absurd (false≢true (ap is_some is))
some_request (Some m) request is = (m, refl, same_Some _ _ is)

module _ (c : Setup) (entries : List (Option (Signed RequestBody))) where
  -- the last reply to a client was answered at its number
  last_is_answered : (number : ℕ) (b : ReplyBody) → IsLastReplyAt c entries number b → IsAnswered c entries (reply_in b)
  last_is_answered number b last = elim (answered_in (genesis_of c.config) (requests_in (take number entries)) last.state last.outcomes b.client.0 (reply_in b) last.serves last.kept) [
    | inl first ↦ absurd (none_at_first c.config b.client.0 (reply_in b) first)
    | inr p ↦ at p
  ] where
    at : Point (genesis_of c.config) (requests_in (take number entries)) b.client.0 (reply_in b) → IsAnswered c entries (reply_in b)
    at p =
        let w = located (option_map request_in) number entries p.before p.q p.after p.splits in
        let m = some_request w.entry p.answers.request (w.shows ∙ p.answers.is_request) in
        let mid : p.mid.number ≡ 0 + length p.before = numbers_follow (genesis_of c.config) p.before p.mid p.earlier p.first in
        let number_is : b.number.0 ≡ p.mid.number + 1 = ap (λ (r : Reply). r.number.0) p.answers.reply_is in
        let here : b.number.0 ≡ suc (length p.before) = counted_up b.number.0 p.mid.number (length p.before) mid number_is in
        record {
          not_zero = omega (arith, here);
          request = m.0;
          is_entry = ap (slice_get entries) (less_one b.number.0 (length p.before) here) ∙ w.is_entry ∙ ap Some m.1;
          client_is = ap (λ (r : Request). r.client.0) m.2 ∙ p.answers.client_is;
          time_is = ap (λ (r : Request). r.time) m.2 ∙ sym (ap (λ (r : Reply). r.time) p.answers.reply_is);
          state = p.then;
          earlier = p.earlier;
          outcome = p.outcome;
          serves = subst (λ (qs : List (Option Request)). Follows (genesis_of c.config) qs p.then (p.earlier ++ p.outcome ∷ []))
              (sym (ap (λ (k : ℕ). requests_in (take k entries)) here ∙ w.up_to))
              (follows_more (genesis_of c.config) p.before p.mid p.earlier p.q p.then p.outcome p.first p.step);
          reply_is = p.answers.answered;
        } where
          counted_up : (n k l : ℕ) → k ≡ 0 + l → n ≡ k + 1 → n ≡ suc l
          counted_up n k l e f = omega (arith, e, f)

          less_one : (n l : ℕ) → n ≡ suc l → n - 1 ≡ l
          less_one n l e = omega (arith, e)

-- ---- what is accepted

accepted_answer : (s : SessionState) (o : Option Answer) (reply : Reply) → option_map (reply_to s) o ≡ Some reply → (a : Answer) × (o ≡ Some a) × (reply_to s a ≡ reply)
accepted_answer s None reply is = absurd (false≢true (ap is_some is))
accepted_answer s (Some a) reply is = (a, refl, same_Some _ _ is)

module _ (c : Setup) (j : Journals) (s : SessionState) (ms : List (Signed Body)) (reply : Reply) (h : IsHonestFamily c j) (config : s.config ≡ c.config) (fresh : s.answers ≡ []) (real : AreReal c j ms)
    (accepts : accepted_by (after_offers s ms) ≡ Some reply) where
  t : SessionState
  t = after_offers s ms

  same : Same s (after_offers s ms)
  same = offers_same s ms

  found : (a : Answer) × (find (is_vouched_answer (after_offers s ms).config.f (after_offers s ms).answers) (after_offers s ms).answers ≡ Some a) × (reply_to (after_offers s ms) a ≡ reply)
  found = accepted_answer (after_offers s ms) (find (is_vouched_answer (after_offers s ms).config.f (after_offers s ms).answers) (after_offers s ms).answers) reply accepts

  a : Answer
  a = found.0

  pub is_reply_to : IsReplyTo s reply
  is_reply_to = record {
    client_is = sym (ap (λ (r : Reply). r.client) found.2) ∙ same.1;
    time_is = sym (ap (λ (r : Reply). r.time) found.2) ∙ same.2;
  }

  -- a correct replica that said so
  pub record Backer : Type 0 where
    pub replica : ℕ
    pub correct : IsCorrect c j.faulty replica
    pub says : HasSaid (after_offers s ms).answers reply.number.0 reply.result replica

  backer : Backer
  backer =
      let vouched = (found_in (is_vouched_answer (after_offers s ms).config.f (after_offers s ms).answers) (after_offers s ms).answers found.0 found.1).1 in
      let f_is : (after_offers s ms).config.f ≡ c.config.f = ap (λ (k : Configuration). k.f) (same.0 ∙ config) in
      let many = ltb-true (after_offers s ms).config.f (backers (after_offers s ms).answers found.0.number.0 found.0.result (replicas_for (after_offers s ms).config.f)) vouched in
      let count_is = counted (after_offers s ms).answers found.0.number.0 found.0.result (replicas_for (after_offers s ms).config.f) in
      let more = more_than (after_offers s ms).config.f c.config.f _ _ (count j.faulty (replicas c.config)) f_is many
      (count_is ∙ ap (λ (k : ℕ). count (has_said (after_offers s ms).answers found.0.number.0 found.0.result) (replicas_for k)) f_is) h.few in
      let w = found_outside (has_said (after_offers s ms).answers found.0.number.0 found.0.result) j.faulty (replicas c.config) more in
      let of : HasSaid (after_offers s ms).answers found.0.number.0 found.0.result w.0 = said (after_offers s ms).answers found.0.number.0 found.0.result w.0 w.2 in
      record {
        replica = w.0;
        correct = (w.1, w.3);
        says = record {
          answer = of.answer;
          among = of.among;
          replica_is = of.replica_is;
          number_is = of.number_is ∙ ap (λ (r : Reply). r.number.0) found.2;
          result_is = of.result_is ∙ ap (λ (r : Reply). r.result) found.2;
        };
      } where
        more_than : (f g x y z : ℕ) → f ≡ g → f < x → x ≡ y → z ≤ g → z < y
        more_than f g x y z e less same few = omega (arith, e, less, same, few)

  -- what it said, it gave
  gave : (b : Backer) → (body : ReplyBody) × IsGiven (j.rows b.replica) body × (reply_in body ≡ reply)
  gave b = elim (offered_in s ms b.says.answer b.says.among) [
    | inl old ↦ absurd (subst (λ (xs : List Answer). IsIn b.says.answer xs) fresh old)
    | inr w ↦
        let id : w.message.id ≡ b.replica = sym (ap (λ (x : Answer). x.replica) w.answer_is) ∙ b.says.replica_is in
        let is_authentic = real.authentic w.message w.among in
        let role = reply_role c.config w.message.role w.message.id w.body (subst (λ (x : Body). IsTrue (may_sign c.config w.message.role w.message.id x)) w.body_is is_authentic.role) in
        let correct : IsCorrect c j.faulty w.message.id = subst (λ (k : ℕ). IsCorrect c j.faulty k) (sym id) b.correct in
        let has = subst (λ (k : ℕ). HasGiven (part_of w.message) (j.rows k)) id (real.given w.message w.among role correct) in
        let client : w.body.client.0 ≡ reply.client.0 = w.client_is ∙ sym (ap (λ (k : ClientId). k.0) is_reply_to.client_is) in
        let time : w.body.time ≡ reply.time = w.time_is ∙ sym is_reply_to.time_is in
        let number : w.body.number.0 ≡ reply.number.0 = sym (ap (λ (x : Answer). x.number.0) w.answer_is) ∙ b.says.number_is in
        let result : w.body.result ≡ reply.result = sym (ap (λ (x : Answer). x.result) w.answer_is) ∙ b.says.result_is in (
          w.body,
          given_reply (j.rows b.replica) w.message w.body w.body_is has,
          (λ i. record { client = record { 0 = client i }; time = time i; number = record { 0 = number i }; result = result i }),
        )
  ]

  pub is_answered : (entries : List (Option (Signed RequestBody))) → AgreesOver c j entries → IsAnswered c entries reply
  is_answered entries over =
      let b = backer in
      let w = gave b in
      let last = over.replies b.replica w.1.before w.1.after w.1.row w.1.output w.0 b.correct w.1.splits w.1.among w.1.own w.1.body_is in
      subst (λ (r : Reply). IsAnswered c entries r) w.2 (last_is_answered c entries last.number w.0 last.kept)
