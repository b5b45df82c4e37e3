-- One more answer: what was not vouched for before is now only if the answer says it.
use Rattle.std.proofs.Common.{◌≡◌, ℕ, zero, suc, ◌+◌, Bool, true, false, ◌&&◌, ◌||◌, cond, List, [], ◌∷◌, ◌++◌, Option, Some, None, refl, sym, ap, subst, ◌∙◌, arith}
use Rattle.std.specs.Prelude.{nat_lt, ◌==◌, bytes_eq, find, is_none, is_some}
use Rattle.std.specs.Option.{option_map}
use Rattle.std.proofs.lemmas.Bool.{false≢true, and_parts, eqb-true}
use Rattle.std.proofs.lemmas.List.Folds.{list_any-append}
use Rattle.std.proofs.lemmas.Slice.Eq.{bytes_eq-Decides}
use Rattle.host_types.specs.Configuration.{replicas_for}
use Rattle.host_types.specs.declared.request.Reply.{Reply}
use Rattle.pbft_codec.specs.declared.body.reply.ReplyBody.{ReplyBody}
use Rattle.client_session.specs.declared.answer.Answer.{Answer}
use Rattle.client_session.specs.Sessions.{SessionState, accepted_by, awaits, backers, has_said, is_vouched, is_vouched_answer, reply_to, says}

-- an answer that doesn't say it backs nothing new
said_as_before : (answers : List Answer) (a : Answer) (number : ℕ) (result : List ℕ) (n : ℕ) → says number result a ≡ false → has_said (answers ++ a ∷ []) number result n ≡ has_said answers number result n
said_as_before answers a number result n other =
    list_any-append (λ b. (b.replica == n) && says number result b) answers (a ∷ []) ∙ none where
      both_false : (p q : Bool) → (p && false) ≡ false
      both_false true q = refl
      both_false false q = refl

      or_false : (p : Bool) → (p || false) ≡ p
      or_false true = refl
      or_false false = refl

      none : (has_said answers number result n || (((a.replica == n) && says number result a) || false)) ≡ has_said answers number result n
      none = rw (other, both_false (a.replica == n) true) (or_false (has_said answers number result n))

backers_as_before : (answers : List Answer) (a : Answer) (number : ℕ) (result : List ℕ) (n : ℕ) → says number result a ≡ false → backers (answers ++ a ∷ []) number result n ≡ backers answers number result n
unfolding backers
backers_as_before answers a number result zero other = refl
backers_as_before answers a number result (suc n) other =
    let said = said_as_before answers a number result n other in
    let rest = backers_as_before answers a number result n other in
    rw (said, rest) refl

-- two that say the same are one reply
same_reply : (s : SessionState) (a b : Answer) → says a.number.0 a.result b ≡ true → reply_to s b ≡ reply_to s a
same_reply s a b same =
    let parts = and_parts (b.number.0 == a.number.0) (bytes_eq b.result a.result) same in
    let number : b.number.0 ≡ a.number.0 = eqb-true b.number.0 a.number.0 parts.0 in
    let result : b.result ≡ a.result = (bytes_eq-Decides b.result a.result).0 parts.1 in
    made number result where
      of_parts : ℕ → List ℕ → Reply
      of_parts number result = record { client = s.client; time = s.time; number = record { 0 = number }; result = result }

      made : b.number.0 ≡ a.number.0 → b.result ≡ a.result → of_parts b.number.0 b.result ≡ of_parts a.number.0 a.result
      made e f = ap (λ (n : ℕ). of_parts n b.result) e ∙ ap (λ (r : List ℕ). of_parts a.number.0 r) f

-- ---- the loop that counts

add-one : (n : ℕ) → n + 1 ≡ suc n
add-one n = omega arith

pub backers_said : (answers : List Answer) (number : ℕ) (result : List ℕ) (n : ℕ) → has_said answers number result n ≡ true → backers answers number result (n + 1) ≡ backers answers number result n + 1
unfolding backers
backers_said answers number result n said = rw (add-one n, said) (omega arith)

pub backers_unsaid : (answers : List Answer) (number : ℕ) (result : List ℕ) (n : ℕ) → has_said answers number result n ≡ false → backers answers number result (n + 1) ≡ backers answers number result n
unfolding backers
backers_unsaid answers number result n said = rw (add-one n, said) (omega arith)

pub no_backers : (answers : List Answer) (number : ℕ) (result : List ℕ) → 0 ≡ backers answers number result 0
unfolding backers
no_backers answers number result = refl

-- ---- the reply that is found

vouched_as_before : (f : ℕ) (answers : List Answer) (a z : Answer) → says z.number.0 z.result a ≡ false → is_vouched_answer f (answers ++ a ∷ []) z ≡ is_vouched_answer f answers z
vouched_as_before f answers a z other =
    ap (λ (n : ℕ). nat_lt f n) (backers_as_before answers a z.number.0 z.result (replicas_for f) other)

vouched_alike : (f : ℕ) (answers : List Answer) (a z : Answer) → says z.number.0 z.result a ≡ true → is_vouched_answer f answers z ≡ is_vouched_answer f answers a
vouched_alike f answers a z same =
    let parts = and_parts (a.number.0 == z.number.0) (bytes_eq a.result z.result) same in
    let number : a.number.0 ≡ z.number.0 = eqb-true a.number.0 z.number.0 parts.0 in
    let result : a.result ≡ z.result = (bytes_eq-Decides a.result z.result).0 parts.1 in
    ap (λ (n : ℕ). is_vouched f answers n z.result) (sym number) ∙ ap (λ (r : List ℕ). is_vouched f answers a.number.0 r) (sym result)

rest_none : (b : Bool) (z : Answer) (rest : Option Answer) → cond b (Some z) rest ≡ None → (b ≡ false) × (rest ≡ None)
rest_none true z rest e = absurd cc
rest_none false z rest e = (refl, e)

-- a list in which nothing is vouched for, with one more answer that is
found : (s : SessionState) (answers : List Answer) (a : Answer) (zs : List Answer) → find (is_vouched_answer s.config.f answers) zs ≡ None → is_vouched_answer s.config.f (answers ++ a ∷ []) a ≡ true → option_map (reply_to s) (find (is_vouched_answer s.config.f (answers ++ a ∷ [])) (zs ++ a ∷ [])) ≡ Some (reply_to s a)
found s answers a [] none here = ap (λ (b : Bool). option_map (reply_to s) (cond b (Some a) None)) here
found s answers a (z ∷ zs) none here =
    let parts = rest_none (is_vouched_answer s.config.f answers z) z (find (is_vouched_answer s.config.f answers) zs) none in
    split (is_vouched_answer s.config.f (answers ++ a ∷ []) z) refl (says z.number.0 z.result a) refl parts.0 (found s answers a zs parts.1 here) where
      split : (b : Bool) → is_vouched_answer s.config.f (answers ++ a ∷ []) z ≡ b → (q : Bool) → says z.number.0 z.result a ≡ q → is_vouched_answer s.config.f answers z ≡ false
          → option_map (reply_to s) (find (is_vouched_answer s.config.f (answers ++ a ∷ [])) (zs ++ a ∷ [])) ≡ Some (reply_to s a)
          → option_map (reply_to s) (cond b (Some z) (find (is_vouched_answer s.config.f (answers ++ a ∷ [])) (zs ++ a ∷ []))) ≡ Some (reply_to s a)
      split true is true same was rest = ap Some (sym (same_reply s z a same))
      split true is false other was rest = absurd (false≢true (sym was ∙ sym (vouched_as_before s.config.f answers a z other) ∙ is))
      split false is q says_so was rest = rest

not_found : (f : ℕ) (answers : List Answer) (a : Answer) (zs : List Answer) → find (is_vouched_answer f answers) zs ≡ None → is_vouched_answer f (answers ++ a ∷ []) a ≡ false → find (is_vouched_answer f (answers ++ a ∷ [])) (zs ++ a ∷ []) ≡ None
not_found f answers a [] none here = ap (λ (b : Bool). cond b (Some a) None) here
not_found f answers a (z ∷ zs) none here =
    let parts = rest_none (is_vouched_answer f answers z) z (find (is_vouched_answer f answers) zs) none in
    split (is_vouched_answer f (answers ++ a ∷ []) z) refl (says z.number.0 z.result a) refl parts.0 (not_found f answers a zs parts.1 here) where
      split : (b : Bool) → is_vouched_answer f (answers ++ a ∷ []) z ≡ b → (q : Bool) → says z.number.0 z.result a ≡ q → is_vouched_answer f answers z ≡ false
          → find (is_vouched_answer f (answers ++ a ∷ [])) (zs ++ a ∷ []) ≡ None
          → cond b (Some z) (find (is_vouched_answer f (answers ++ a ∷ [])) (zs ++ a ∷ [])) ≡ None
      split true is true same was rest = absurd (false≢true (sym here ∙ sym (vouched_alike f (answers ++ a ∷ []) a z same) ∙ is))
      split true is false other was rest = absurd (false≢true (sym was ∙ sym (vouched_as_before f answers a z other) ∙ is))
      split false is q says_so was rest = rest

nothing_found : (s : SessionState) (o : Option Answer) → option_map (reply_to s) o ≡ None → o ≡ None
nothing_found s None e = refl
nothing_found s (Some a) e = absurd cc

pub accepts : (s : SessionState) (a : Answer) (answers : List Answer) → answers ≡ s.answers ++ a ∷ [] → accepted_by s ≡ None → is_vouched s.config.f answers a.number.0 a.result ≡ true → accepted_by (record s { answers = answers }) ≡ Some (reply_to s a)
accepts s a answers is none here =
    let before = nothing_found s (find (is_vouched_answer s.config.f s.answers) s.answers) none in
    let then : is_vouched_answer s.config.f (s.answers ++ a ∷ []) a ≡ true = subst (λ (xs : List Answer). is_vouched s.config.f xs a.number.0 a.result ≡ true) is here in
    subst (λ (xs : List Answer). option_map (reply_to s) (find (is_vouched_answer s.config.f xs) xs) ≡ Some (reply_to s a)) (sym is) (found s s.answers a s.answers before then)

pub waits : (s : SessionState) (a : Answer) (answers : List Answer) → answers ≡ s.answers ++ a ∷ [] → accepted_by s ≡ None → is_vouched s.config.f answers a.number.0 a.result ≡ false → accepted_by (record s { answers = answers }) ≡ None
waits s a answers is none here =
    let before = nothing_found s (find (is_vouched_answer s.config.f s.answers) s.answers) none in
    let then : is_vouched_answer s.config.f (s.answers ++ a ∷ []) a ≡ false = subst (λ (xs : List Answer). is_vouched s.config.f xs a.number.0 a.result ≡ false) is here in
    subst (λ (xs : List Answer). option_map (reply_to s) (find (is_vouched_answer s.config.f xs) xs) ≡ None) (sym is) (ap (option_map (reply_to s)) (not_found s.config.f s.answers a s.answers before then))

-- ---- an answer that its replica has given before

said_again : (answers : List Answer) (a : Answer) (number : ℕ) (result : List ℕ) (n : ℕ) → has_said answers number result a.replica ≡ true → has_said (answers ++ a ∷ []) number result n ≡ has_said answers number result n
said_again answers a number result n before =
    list_any-append (λ b. (b.replica == n) && says number result b) answers (a ∷ []) ∙ by (a.replica == n) refl where
      or_false : (p : Bool) → (p || false) ≡ p
      or_false true = refl
      or_false false = refl

      by : (e : Bool) → (a.replica == n) ≡ e → (has_said answers number result n || (((a.replica == n) && says number result a) || false)) ≡ has_said answers number result n
      by true same = let here : has_said answers number result n ≡ true = subst (λ (i : ℕ). has_said answers number result i ≡ true) (eqb-true a.replica n same) before in rw here refl
      by false other = rw other (or_false (has_said answers number result n))

backers_again : (answers : List Answer) (a : Answer) (number : ℕ) (result : List ℕ) (n : ℕ) → has_said answers number result a.replica ≡ true → backers (answers ++ a ∷ []) number result n ≡ backers answers number result n
unfolding backers
backers_again answers a number result zero before = refl
backers_again answers a number result (suc n) before =
    let said = said_again answers a number result n before in
    let rest = backers_again answers a number result n before in
    rw (said, rest) refl

-- where nothing is vouched for, what one of these says is not
unvouched : (f : ℕ) (answers zs : List Answer) (number : ℕ) (result : List ℕ) (n : ℕ) → find (is_vouched_answer f answers) zs ≡ None → has_said zs number result n ≡ true → is_vouched f answers number result ≡ false
unvouched f answers [] number result n none said = absurd (false≢true said)
unvouched f answers (z ∷ zs) number result n none said =
    let parts = rest_none (is_vouched_answer f answers z) z (find (is_vouched_answer f answers) zs) none in
    by ((z.replica == n) && says number result z) refl parts.0 (unvouched f answers zs number result n parts.1) where
      by : (e : Bool) → ((z.replica == n) && says number result z) ≡ e → is_vouched_answer f answers z ≡ false → (has_said zs number result n ≡ true → is_vouched f answers number result ≡ false) → is_vouched f answers number result ≡ false
      by true is here rest =
          let same = and_parts (z.number.0 == number) (bytes_eq z.result result) (and_parts (z.replica == n) (says number result z) is).1 in
          ap (λ (m : ℕ). is_vouched f answers m result) (sym (eqb-true z.number.0 number same.0)) ∙ ap (λ (r : List ℕ). is_vouched f answers z.number.0 r) (sym ((bytes_eq-Decides z.result result).0 same.1)) ∙ here
      by false is here rest = rest (ap (λ (e : Bool). e || has_said zs number result n) (sym is) ∙ said)

pub repeats : (s : SessionState) (a : Answer) (answers : List Answer) → answers ≡ s.answers ++ a ∷ [] → accepted_by s ≡ None → has_said s.answers a.number.0 a.result a.replica ≡ true → accepted_by (record s { answers = answers }) ≡ None
repeats s a answers is none before =
    let nothing = nothing_found s (find (is_vouched_answer s.config.f s.answers) s.answers) none in
    let was = unvouched s.config.f s.answers s.answers a.number.0 a.result a.replica nothing before in
    let now = ap (λ (n : ℕ). nat_lt s.config.f n) (backers_again s.answers a a.number.0 a.result (replicas_for s.config.f) before) in
    waits s a answers is none (subst (λ (xs : List Answer). is_vouched s.config.f xs a.number.0 a.result ≡ false) (sym is) (now ∙ was))

-- where a reply is awaited, none is accepted
pub awaits-none : (s : SessionState) (b : ReplyBody) → awaits s b ≡ true → accepted_by s ≡ None
awaits-none s b e = is_none-None (accepted_by s) (and_parts (is_none (accepted_by s)) ((b.client.0 == s.client.0) && (b.time == s.time)) (and_parts (is_some s.request) (is_none (accepted_by s) && ((b.client.0 == s.client.0) && (b.time == s.time))) e).1).0 where
  is_none-None : (o : Option Reply) → is_none o ≡ true → o ≡ None
  is_none-None None h = refl
  is_none-None (Some x) h = absurd (false≢true h)
