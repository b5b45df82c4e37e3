-- Whose execution has a reply gives it before its row ends.
use Rattle.std.proofs.Common.{◌≡◌, ◌⊎◌, ℕ, ◌+◌, ◌<◌, ◌≤◌, Bool, true, false, List, [], ◌∷◌, ◌++◌, Option, Some, None, refl, sym, ap, subst, ◌∙◌, arith, inl, inr}
use Rattle.std.specs.Prelude.{MatchBool, MatchOption, nat_lt, nat_eq, option_and_then}
use Rattle.std.specs.FinMap as finite
use Rattle.std.proofs.lemmas.Bool.{cases_lt, cases_order, eq-eqb, eqb-true, lt-ltb, ltb-true, true≢false}
use Rattle.std.proofs.lemmas.Option.{same_Some}
use Rattle.service_model.specs.TenantStates.{TenantState}
use Rattle.service_model.specs.Steps.{Executes, IsTenantStep, reply_to}
use Rattle.pbft_answers.specs.Words.{SigningState, Signed, Body, RequestBody, Request, Reply}
use Rattle.pbft_answers.specs.Sequential.{Service, Outcome, IsStep, last_reply_of}
use Rattle.pbft_answers.specs.Setup.{Setup, request_in}
use Rattle.pbft_answers.specs.Core.{Core, start_of, request_of, is_later, is_new}
use Rattle.pbft_answers.specs.Acts.{Act, Take, Timeout, Send, Relay, Enter, Rise, Execute, Install, ToClient, after}
use Rattle.pbft_answers.specs.Rules.{Allowed, MayExecute, own_message}
use Rattle.pbft_answers.specs.Duties.{Duty, or_else, say, reply_body, due_on_timeout, due_reply, due}
use Rattle.pbft_answers.specs.Rows.{Row, Output, Done, Executed, Installed, Fulfils, Follows, IsNext, IsLawfulFrom, outputs_of, all_outputs, done_of, all_done, result_of}
use Rattle.pbft_answers.specs.Histories.{core_after, IsHistory, IsIn, HasTaken}
use Rattle.pbft_answers.proofs.Found.{no_some, in_append_right}
use Rattle.pbft_answers.proofs.Origins.{recorded_keeps, said_keeps, left_keeps}
use Rattle.pbft_answers.proofs.Following.{or_none}
use Rattle.pbft_answers.proofs.Rowed.{due_allowed, begun}
use Rattle.client_session.specs.Journals.{HasReceived}
use Rattle.pbft_answers.proofs.Reporting.{pushed, acts_from, core_from, core_follows, history_from, history_follows, taken_from, taken_before, begins_take, reactions}
use Rattle.pbft_answers.proofs.Within.{giving, follows_first, follows_rest}
use Rattle.client_answers.specs.Replies.{IsExecuted, GivesReply}

-- ---- what a row did, by an act of it

-- an execution is an act's
executed_act : (c : Setup) (number : ℕ) (digest result : List ℕ) (a : Act) → IsIn (Executed number digest result) (done_of c a)
    → (t : Service) × (o : Outcome) × (a ≡ Execute number digest t o) × (result ≡ result_of o.reply)
executed_act c number digest result (Execute n d t o) (inl same) =
    let w = fields number n digest d result (result_of o.reply) same in
    (t, o, (λ k. Execute (sym w.0 k) (sym w.1 k) t o), w.2) where
      fields : (number n : ℕ) (digest d result r : List ℕ) → Executed number digest result ≡ Executed n d r → (number ≡ n) × (digest ≡ d) × (result ≡ r)
      fields number n digest d result r e = (cc, cc, cc)
executed_act c number digest result (Execute n d t o) (inr none) = absurd none
executed_act c number digest result (Install n b t) (inl same) = absurd (never (c.hash b) same) where
  never : (d : List ℕ) → Executed number digest result ≡ Installed n d → ⊥
  never d e = cc
executed_act c number digest result (Install n b t) (inr none) = absurd none
executed_act c number digest result (Take m r) none = absurd none
executed_act c number digest result Timeout none = absurd none
executed_act c number digest result (Send to m) none = absurd none
executed_act c number digest result (Relay to m) none = absurd none
executed_act c number digest result (Enter m) none = absurd none
executed_act c number digest result (Rise n d) none = absurd none

pub executed_in : (c : Setup) (me : ℕ) (s : Core) (row : Row) (last : Core) → IsNext c me s row last → (number : ℕ) (digest result : List ℕ) → IsIn (Executed number digest result) row.done → IsExecuted c me s row number digest result
executed_in c me s row last next number digest result within =
    let g = giving (done_of c) (all_done c) refl (λ a later. refl) (Executed number digest result) next.acts (subst (λ (ds : List Done). IsIn (Executed number digest result) ds) next.done within) in
    let e = executed_act c number digest result g.act g.gives in
    let splits : next.acts ≡ g.earlier ++ Execute number digest e.0 e.1 ∷ g.later = g.splits ∙ ap (λ (a : Act). g.earlier ++ a ∷ g.later) e.2 in
    let f = follows_first c me g.earlier (Execute number digest e.0 e.1 ∷ g.later) (after c s next.first) last (subst (λ (zs : List Act). Follows c me (after c s next.first) zs last) splits next.reacts.follows) in
    record { last = last; next = next; earlier = g.earlier; later = g.later; state = e.0; outcome = e.1; splits = splits; result_is = e.3; from = f.0; follows = f.1 }

-- ---- the reply is due at once

module _ (c : Setup) (me : ℕ) (reply : Reply) where
  first_due : (s : Core) (o : Option Reply) (rest : Option Duty) → o ≡ Some reply → or_else (due_reply me s o) rest ≡ Some (say me s (ToClient reply.client.0) (reply_body s.view reply))
  first_due s o rest e = ap (λ (x : Option Reply). or_else (due_reply me s x) rest) e

  still_due : (s : Core) (o : Option Reply) → o ≡ Some reply → due_reply me s o ≡ None → ⊥
  still_due s o e none = no_some (say me s (ToClient reply.client.0) (reply_body s.view reply)) (sym none ∙ ap (due_reply me s) e)

  -- behind an execution with this reply: what is done next gives it
  given_next : (from : Core) (number : ℕ) (digest : List ℕ) (state : Service) (o : Outcome) → o.reply ≡ Some reply → (later : List Act) (t : Core) → Follows c me (after c from (Execute number digest state o)) later t → due c me t ≡ None
      → GivesReply me from.view reply (all_outputs later)
  given_next from number digest state o e [] t same rests =
      let s = after c from (Execute number digest state o) in
      let none = subst (λ (x : Core). due c me x ≡ None) same rests in
      let a = or_none (due_on_timeout c me s) _ none in
      let b = or_none (due_reply me s o.reply) _ a.1 in
      absurd (still_due s o.reply e b.0)
  given_next from number digest state o e (a ∷ later) t (does, leaves, follows) rests =
      let s = after c from (Execute number digest state o) in
      let output : Output = record { to = ToClient reply.client.0; message = own_message s me (reply_body s.view reply); own = true } in
      let act : a ≡ Send (ToClient reply.client.0) (own_message s me (reply_body s.view reply)) = subst (λ (x : Option Duty). Fulfils c s x a) (first_due s o.reply _ e) does in
      (output, subst (λ (x : Act). IsIn output (outputs_of x ++ all_outputs later)) (sym act) (inl refl), refl, refl, refl, refl)

outputs_later : (earlier later : List Act) (a : Act) (output : Output) → IsIn output (all_outputs later) → IsIn output (all_outputs (earlier ++ a ∷ later))
outputs_later [] later a output at = in_append_right output (outputs_of a) (all_outputs later) at
outputs_later (b ∷ earlier) later a output at = in_append_right output (outputs_of b) (all_outputs (earlier ++ a ∷ later)) (outputs_later earlier later a output at)

-- the execution, and what follows it in its row
pub on_from : (c : Setup) (me : ℕ) (s : Core) (row : Row) (number : ℕ) (digest result : List ℕ) (w : IsExecuted c me s row number digest result) → Follows c me w.from (Execute number digest w.state w.outcome ∷ w.later) w.last
on_from c me s row number digest result w =
    follows_rest c me w.earlier (Execute number digest w.state w.outcome ∷ w.later) (after c s w.next.first) w.last w.from
    (subst (λ (zs : List Act). Follows c me (after c s w.next.first) zs w.last) w.splits w.next.reacts.follows) w.follows

-- An execution whose outcome has a reply gives it in its row.
pub gives : (c : Setup) (me : ℕ) (s : Core) (row : Row) (number : ℕ) (digest result : List ℕ) (w : IsExecuted c me s row number digest result) → (reply : Reply) → w.outcome.reply ≡ Some reply → GivesReply me w.from.view reply row.outputs
gives c me s row number digest result w reply e =
    let (does, leaves, follows) = on_from c me s row number digest result w in
    let g = given_next c me reply w.from number digest w.state w.outcome e w.later w.last follows w.next.reacts.rests in
    let here : IsIn g.0 (all_outputs w.next.acts) = subst (λ (xs : List Act). IsIn g.0 (all_outputs xs)) (sym w.splits) (outputs_later w.earlier w.later (Execute number digest w.state w.outcome) g.0 g.1) in
    (g.0, subst (λ (os : List Output). IsIn g.0 os) (sym w.next.outputs) here, g.2, g.3, g.4, g.5)

-- ---- the reply of a new request

-- what is new is done
new_step : (n : ℕ) (x after : TenantState) (request : Request) (reply : Option Reply) (kept : Bool) → IsTenantStep n x request after reply kept → ((r : Reply) → finite.get x.last_replies request.client.0 ≡ Some r → r.time < request.time)
    → (result : List ℕ) × (reply ≡ Some (reply_to request n result))
new_step n x after request reply kept h later = cases (finite.get x.last_replies request.client.0) later h where
  cases : (o : Option Reply) → ((r : Reply) → o ≡ Some r → r.time < request.time)
      → MatchOption o (Executes n x request after reply kept)
      (λ last. MatchBool (nat_lt request.time last.time) ((after ≡ x) × (reply ≡ None) × (kept ≡ false))
      (MatchBool (nat_eq request.time last.time) ((after ≡ x) × (reply ≡ Some last) × (kept ≡ true)) (Executes n x request after reply kept)))
      → (result : List ℕ) × (reply ≡ Some (reply_to request n result))
  cases None later k = (k.result, k.reply_is)
  cases (Some r) later k = lower (nat_lt request.time r.time) (nat_eq request.time r.time) refl refl k where
    less : r.time < request.time
    less = later r refl

    lower : (b d : Bool) → nat_lt request.time r.time ≡ b → nat_eq request.time r.time ≡ d
        → MatchBool b ((after ≡ x) × (reply ≡ None) × (kept ≡ false)) (MatchBool d ((after ≡ x) × (reply ≡ Some r) × (kept ≡ true)) (Executes n x request after reply kept))
        → (result : List ℕ) × (reply ≡ Some (reply_to request n result))
    lower true d e f w = let more = ltb-true request.time r.time e in absurd (omega (arith, less, more))
    lower false true e f w = let same = eqb-true request.time r.time f in absurd (omega (arith, less, same))
    lower false false e f w = (w.result, w.reply_is)

later_than : (m : Signed RequestBody) (o : Option Reply) → is_later m o ≡ true → (r : Reply) → o ≡ Some r → r.time < m.body.time
later_than m None e r is = no_some r is
later_than m (Some last) e r is = subst (λ (x : Reply). x.time < m.body.time) (same_Some last r is) (ltb-true last.time m.body.time e)

pub new_reply : (s t : Service) (o : Outcome) (m : Signed RequestBody) → IsStep s (Some (request_in m)) t o → is_new s m ≡ true → (result : List ℕ) × (o.reply ≡ Some (reply_to (request_in m) (s.number + 1) result))
new_reply s t o m step new =
    let last_is : last_reply_of s m.id ≡ finite.get step.part.last_replies m.id = ap (option_and_then (λ (p : TenantState). finite.get p.last_replies m.id)) step.is_part in
    new_step (s.number + 1) step.part step.changed (request_in m) o.reply o.kept step.step (λ r is. later_than m (last_reply_of s m.id) new r (last_is ∙ is))

-- ---- the reply of an old one

old_step : (n : ℕ) (x after : TenantState) (request : Request) (reply : Option Reply) (kept : Bool) → IsTenantStep n x request after reply kept → (last : Reply) → finite.get x.last_replies request.client.0 ≡ Some last
    → request.time ≤ last.time → (reply ≡ None) ⊎ (reply ≡ Some last)
old_step n x after request reply kept h last found le =
    lower (nat_lt request.time last.time) (nat_eq request.time last.time) refl refl (subst (λ (o : Option Reply). MatchOption o (Executes n x request after reply kept)
    (λ last. MatchBool (nat_lt request.time last.time) ((after ≡ x) × (reply ≡ None) × (kept ≡ false))
    (MatchBool (nat_eq request.time last.time) ((after ≡ x) × (reply ≡ Some last) × (kept ≡ true)) (Executes n x request after reply kept)))) found h) where
      lower : (b d : Bool) → nat_lt request.time last.time ≡ b → nat_eq request.time last.time ≡ d
          → MatchBool b ((after ≡ x) × (reply ≡ None) × (kept ≡ false)) (MatchBool d ((after ≡ x) × (reply ≡ Some last) × (kept ≡ true)) (Executes n x request after reply kept))
          → (reply ≡ None) ⊎ (reply ≡ Some last)
      lower true d e f w = inl w.1
      lower false true e f w = inr w.1
      lower false false e f w = elim (cases_order request.time last.time) [
        | inl same ↦ absurd (true≢false (sym (eq-eqb request.time last.time same) ∙ f))
        | inr (inl less) ↦ absurd (true≢false (sym (lt-ltb request.time last.time less) ∙ e))
        | inr (inr more) ↦ absurd (omega (arith, le, more))
      ]

pub old_reply : (s t : Service) (o : Outcome) (m : Signed RequestBody) → IsStep s (Some (request_in m)) t o → is_new s m ≡ false → (o.reply ≡ None) ⊎ (o.reply ≡ last_reply_of s m.id)
old_reply s t o m step old = by (last_reply_of s m.id) refl old where
  found : last_reply_of s m.id ≡ finite.get step.part.last_replies m.id
  found = ap (option_and_then (λ (p : TenantState). finite.get p.last_replies m.id)) step.is_part

  by : (kept : Option Reply) → last_reply_of s m.id ≡ kept → is_later m kept ≡ false → (o.reply ≡ None) ⊎ (o.reply ≡ last_reply_of s m.id)
  by None is e = absurd (true≢false e)
  by (Some last) is e = elim (old_step (s.number + 1) step.part step.changed (request_in m) o.reply o.kept step.step last (sym found ∙ is) (elim (cases_lt last.time m.body.time) [
    | inl less ↦ absurd (true≢false (sym (lt-ltb last.time m.body.time less) ∙ e))
    | inr le ↦ le
  ])) [
    | inl none ↦ inl none
    | inr same ↦ inr (same ∙ sym is)
  ]

-- ---- numbers

step_number : (s : Service) (request : Option Request) (t : Service) (o : Outcome) → IsStep s request t o → t.number ≡ s.number + 1
step_number s None t o h = ap (λ (x : Service). x.number) h.0
step_number s (Some request) t o h = ap (λ (x : Service). x.number) h.state_is

module _ (c : Setup) (me : ℕ) (signer : SigningState) where
  -- the service has taken as many requests as were executed
  number_by : (s : Core) (a : Act) → Allowed c me s a → s.service.number ≡ s.executed → (after c s a).service.number ≡ (after c s a).executed
  number_by s (Take m r) ok h = let k = recorded_keeps c s m m.body in ap (λ (x : Service). x.number) k.service ∙ h ∙ sym k.number
  number_by s Timeout ok h = h
  number_by s (Send to m) ok h = let k = said_keeps c s m m.body in ap (λ (x : Service). x.number) k.service ∙ h ∙ sym k.number
  number_by s (Relay to m) ok h = h
  number_by s (Enter m) ok h = let k = left_keeps c s m.body.view.0 in ap (λ (x : Service). x.number) k.service ∙ h ∙ sym k.number
  number_by s (Rise n d) ok h = h
  number_by s (Execute n d t o) ok h =
      let up = step_number s.service (request_of c s d) t o ok.step in
      let next = ok.next in
      omega (arith, up, next, h)
  number_by s (Install n b t) ok h = ok.reads.number_is

  number_at : (acts : List Act) → IsHistory c me signer acts → (core_after c signer acts).service.number ≡ (core_after c signer acts).executed
  number_at [] is = refl
  number_at (a ∷ acts) is = number_by (core_after c signer acts) a is.1 (number_at acts is.0)

  -- ---- the history behind a core within a row

  -- It ends in this core, and what was taken in it was received in these rows.
  pub record IsBehind (rows : List Row) (t : Core) : Type 0 where
    pub acts : List Act
    pub is : IsHistory c me signer acts
    pub core_is : core_after c signer acts ≡ t
    pub received : (m : Signed Body) → HasTaken m acts → HasReceived m rows

  in_rows : (m : Signed Body) (rows : List Row) (row : Row) → HasReceived m rows → HasReceived m (rows ++ row ∷ [])
  in_rows m rows row (r, at, is) = (r, left rows at, is) where
    left : (xs : List Row) → IsIn r xs → IsIn r (xs ++ row ∷ [])
    left [] none = absurd none
    left (x ∷ xs) (inl same) = inl same
    left (x ∷ xs) (inr later) = inr (left xs later)

  at_end : (rows : List Row) (row : Row) → IsIn row (rows ++ row ∷ [])
  at_end [] row = inl refl
  at_end (x ∷ rows) row = inr (at_end rows row)

  pub behind : (rows : List Row) (s : Core) → IsLawfulFrom c me (start_of c signer) rows s → (row : Row) (last : Core) (next : IsNext c me s row last) (acts : List Act) (t : Core) → Follows c me (after c s next.first) acts t → IsBehind (rows ++ row ∷ []) t
  behind rows s lawful row last next acts t follows =
      let early = acts_from c me signer [] rows (start_of c signer) s lawful in
      let core_is : core_after c signer early ≡ s = core_from c me signer [] rows (start_of c signer) s lawful refl in
      let is_early = history_from c me signer [] rows (start_of c signer) s lawful refl tt in
      let there = subst (λ (x : Core). Follows c me (after c x next.first) acts t) (sym core_is) follows in
      record {
        acts = pushed acts (next.first ∷ early);
        is = history_follows c me signer acts (next.first ∷ early) t (is_early, begun c me signer (core_after c signer early) row.input next.first next.begins) there;
        core_is = core_follows c me signer acts (next.first ∷ early) t there;
        received = λ m taken. elim (taken_before m acts (next.first ∷ early) (reactions c me signer acts (after c s next.first) t follows) taken) [
          | inl (r, e) ↦ (row, at_end rows row, begins_take c me signer row.input m r next.first next.begins e)
          | inr older ↦ elim (taken_from c me signer m [] rows (start_of c signer) s lawful older) [ inl none ↦ absurd none | inr had ↦ in_rows m rows row had ]
        ];
      }

  -- the execution was allowed
  pub may_execute : (rows : List Row) (t : Core) → IsBehind rows t → (number : ℕ) (digest : List ℕ) (state : Service) (o : Outcome) (later : List Act) (last : Core) → Follows c me t (Execute number digest state o ∷ later) last
      → MayExecute c t number digest state o
  may_execute rows t w number digest state o later last (does, leaves, rest) =
      let does' : Fulfils c (core_after c signer w.acts) (due c me (core_after c signer w.acts)) (Execute number digest state o) = subst (λ (x : Core). Fulfils c x (due c me x) (Execute number digest state o)) (sym w.core_is) does in
      subst (λ (x : Core). MayExecute c x number digest state o) w.core_is (due_allowed c me signer w.acts w.is (Execute number digest state o) does')

  -- In a lawful journal a new request's execution gives a Reply with its number, its time and its result.
  pub new_gives : (rows : List Row) (s : Core) → IsLawfulFrom c me (start_of c signer) rows s → (row : Row) (number : ℕ) (digest result : List ℕ) (w : IsExecuted c me s row number digest result)
      → (m : Signed RequestBody) → request_of c w.from digest ≡ Some (request_in m) → is_new w.from.service m ≡ true → GivesReply me w.from.view (reply_to (request_in m) number result) row.outputs
  new_gives rows s lawful row number digest result w m named new =
      let b = behind rows s lawful row w.last w.next w.earlier w.from w.follows in
      let ok = may_execute (rows ++ row ∷ []) w.from b number digest w.state w.outcome w.later w.last (on_from c me s row number digest result w) in
      let step : IsStep w.from.service (Some (request_in m)) w.state w.outcome = subst (λ (r : Option Request). IsStep w.from.service r w.state w.outcome) named ok.step in
      let r = new_reply w.from.service w.state w.outcome m step new in
      let counted : w.from.service.number ≡ w.from.executed = subst (λ (x : Core). x.service.number ≡ x.executed) b.core_is (number_at b.acts b.is) in
      let next = ok.next in
      let number_is : w.from.service.number + 1 ≡ number = omega (arith, counted, next) in
      let result_is : r.0 ≡ result = sym (w.result_is ∙ ap result_of r.1) in
      gives c me s row number digest result w (reply_to (request_in m) number result) (r.1 ∙ (λ i. Some (reply_to (request_in m) (number_is i) (result_is i))))

  -- An old request's execution has the reply that was kept, or none.
  pub old_gives : (rows : List Row) (s : Core) → IsLawfulFrom c me (start_of c signer) rows s → (row : Row) (number : ℕ) (digest result : List ℕ) (w : IsExecuted c me s row number digest result)
      → (m : Signed RequestBody) → request_of c w.from digest ≡ Some (request_in m) → is_new w.from.service m ≡ false → (w.outcome.reply ≡ None) ⊎ (w.outcome.reply ≡ last_reply_of w.from.service m.id)
  old_gives rows s lawful row number digest result w m named old =
      let b = behind rows s lawful row w.last w.next w.earlier w.from w.follows in
      let ok = may_execute (rows ++ row ∷ []) w.from b number digest w.state w.outcome w.later w.last (on_from c me s row number digest result w) in
      old_reply w.from.service w.state w.outcome m (subst (λ (r : Option Request). IsStep w.from.service r w.state w.outcome) named ok.step) old
