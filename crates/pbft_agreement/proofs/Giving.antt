-- An input that is taken leads to its row or to a halt: what is due comes to an end within a row.
use Rattle.std.proofs.Common.{◌≡◌, ◌⊎◌, ℕ, zero, suc, ◌+◌, ◌-◌, ◌<◌, ◌≤◌, Bool, true, false, cond, List, [], ◌∷◌, ◌++◌, Option, Some, None, refl, sym, ap, subst, ◌∙◌, arith, inl, inr}
use Rattle.std.specs.Prelude.{nat_lt, not, ◌==◌, ◌&&◌, ◌||◌}
use Rattle.std.proofs.lemmas.Bool.{cases_eq, or_cases, or_left, and_parts, true≢false, ltb-true, lt-ltb, eqb-true, not-true}
use Rattle.pbft_codec.specs.declared.body.Body.TheVariants as bodies
use Rattle.pbft_codec.specs.declared.body.fetch.Fetch.TheVariants as fetches
use Rattle.service_model.specs.declared.version.Version.TheVariants.{Second}
use Rattle.service_model.specs.Decoding.{Encodes}
use Rattle.service_model.proofs.Decided.{decided}
use Rattle.service_model.proofs.Injective.{same_state}
use Rattle.pbft_model.specs.Words.{leaf_count, Signed, Body, NewView, Snapshot, as_message}
use Rattle.pbft_model.specs.Sequential.{Service}
use Rattle.pbft_model.specs.Setup.{Setup, number_limit}
use Rattle.pbft_model.specs.Core.{Core, start_of}
use Rattle.pbft_model.specs.Acts.{Act, Take, Timeout, Send, Relay, Enter, Rise, Execute, Install, after, said, is_awaited, left_if_above, left_for}
use Rattle.pbft_model.specs.Ending.{bit}
use Rattle.pbft_model.specs.Rules.{Allowed, MaySay, IsReading, IsReadingOf}
use Rattle.pbft_model.specs.Duties.{due}
use Rattle.pbft_model.specs.Rows.{Input, Received, TimedOut, Fulfils, HasLeaves, Follows, Begins, all_outputs, all_done, all_leaves}
use Rattle.pbft_model.specs.Histories.{core_after, IsHistory}
use Rattle.pbft_agreement.specs.Received.{ComesBehind, IsOpened, HasReading, IsSnapshot, GivesRowOrHalt}
use Rattle.pbft_model.proofs.Calm.{low_up}
use Rattle.pbft_model.proofs.Origins.{executed_up}
use Rattle.pbft_model.proofs.Events.{low_reached}
use Rattle.pbft_model.proofs.Fitting.{in_step_at}
use Rattle.pbft_model.proofs.Reactions.{is_reaction}
use Rattle.pbft_model.proofs.Rowed.{due_allowed, begun}
use Rattle.pbft_model.proofs.Ending.{due_fresh, leaves_left, one_leaf}
use Rattle.pbft_model.proofs.Halting.{follows_more}
use Rattle.pbft_agreement.proofs.Stepping.{row_continues}
use Rattle.pbft_agreement.proofs.Reporting.{pushed, acts_from, core_from, core_follows, history_from, history_follows}

-- ---- a NewView that was taken is entered once

-- the message is a NewView for a view that the replica awaits
abbrev brings : Core → Body → Bool
brings s (bodies.NewView b) = is_awaited s b.view.0
brings s _ = false

abbrev some_brings : Core → Option (Signed Body) → Bool
some_brings s None = false
some_brings s (Some m) = brings s m.body

abbrev may_enter : Core → Bool
may_enter s = some_brings s s.taken

-- what the second awaits, the first does
abbrev AwaitsLess : Core → Core → Type 0
AwaitsLess s t = (view : ℕ) → is_awaited t view ≡ true → is_awaited s view ≡ true

bit_less : (a b : Bool) → (a ≡ true → b ≡ true) → bit a ≤ bit b
bit_less true true h = omega arith
bit_less true false h = absurd (true≢false (sym (h refl)))
bit_less false b h = omega arith

brings_less : (s t : Core) → AwaitsLess s t → (b : Body) → brings t b ≡ true → brings s b ≡ true
brings_less s t less (bodies.NewView b) e = less b.view.0 e
brings_less s t less _ e = e

some_less : (s t : Core) → AwaitsLess s t → (o : Option (Signed Body)) → some_brings t o ≡ true → some_brings s o ≡ true
some_less s t less None e = e
some_less s t less (Some m) e = brings_less s t less m.body e

enters_less : (s t : Core) → t.taken ≡ s.taken → AwaitsLess s t → bit (may_enter t) ≤ bit (may_enter s)
enters_less s t same less =
    subst (λ (o : Option (Signed Body)). bit (some_brings t o) ≤ bit (may_enter s)) (sym same) (bit_less (some_brings t s.taken) (some_brings s s.taken) (some_less s t less s.taken))

-- in a higher view less is awaited, and so is in the view once it is active
higher_less : (s t : Core) → s.view < t.view → AwaitsLess s t
higher_less s t up view e = elim (or_cases (nat_lt t.view view) (view == t.view && not t.active) e) [
  | inl above ↦ let lt = ltb-true t.view view above in or_left (nat_lt s.view view) (view == s.view && not s.active) (lt-ltb s.view view (omega arith))
  | inr here ↦
      let same = eqb-true view t.view ((and_parts (view == t.view) (not t.active) here).0) in
      or_left (nat_lt s.view view) (view == s.view && not s.active) (lt-ltb s.view view (omega arith))
]

active_less : (s t : Core) → t.view ≡ s.view → t.active ≡ true → AwaitsLess s t
active_less s t same active view e = elim (or_cases (nat_lt t.view view) (view == t.view && not t.active) e) [
  | inl above ↦ let lt = ltb-true t.view view above in or_left (nat_lt s.view view) (view == s.view && not s.active) (lt-ltb s.view view (omega arith))
  | inr here ↦ absurd (true≢false (sym active ∙ not-true t.active ((and_parts (view == t.view) (not t.active) here).1)))
]

left_view : (c : Setup) (s : Core) (view : ℕ) → (left_if_above c s view).taken ≡ s.taken
left_view c s view = cases (nat_lt s.view view) where
  cases : (b : Bool) → (cond b (left_for c s view) s).taken ≡ s.taken
  cases true = refl
  cases false = refl

module _ (c : Setup) (me : ℕ) (s : Core) where
  said_taken : (m : Signed Body) (b : Body) → (said c s m b).taken ≡ s.taken
  said_taken m (bodies.Request b) = refl
  said_taken m (bodies.PrePrepare b) = refl
  said_taken m (bodies.Prepare b) = refl
  said_taken m (bodies.Commit b) = refl
  said_taken m (bodies.Reply b) = refl
  said_taken m (bodies.Checkpoint b) = refl
  said_taken m (bodies.ViewChange b) = refl
  said_taken m (bodies.NewView b) = left_view c s b.view.0
  said_taken m (bodies.Fetch (fetches.Request d)) = refl
  said_taken m (bodies.Fetch (fetches.State n)) = refl
  said_taken m (bodies.Snapshot b) = refl

  said_awaits : (m : Signed Body) (b : Body) → MaySay c me s b → AwaitsLess s (said c s m b)
  said_awaits m (bodies.Request b) says = absurd says
  said_awaits m (bodies.PrePrepare b) says = λ view e. e
  said_awaits m (bodies.Prepare b) says = λ view e. e
  said_awaits m (bodies.Commit b) says = λ view e. e
  said_awaits m (bodies.Reply b) says = λ view e. e
  said_awaits m (bodies.Checkpoint b) says = λ view e. e
  said_awaits m (bodies.ViewChange b) says = higher_less s (said c s m (bodies.ViewChange b)) says.higher
  said_awaits m (bodies.NewView b) says = active_less s (said c s m (bodies.NewView b)) (ap (λ (n : NewView). n.view.0) says.is) refl
  said_awaits m (bodies.Fetch (fetches.Request d)) says = λ view e. e
  said_awaits m (bodies.Fetch (fetches.State n)) says = λ view e. e
  said_awaits m (bodies.Snapshot b) says = λ view e. e

  said_enters : (m : Signed Body) → MaySay c me s m.body → bit (may_enter (said c s m m.body)) ≤ bit (may_enter s)
  said_enters m says = enters_less s (said c s m m.body) (said_taken m m.body) (said_awaits m m.body says)

  not_awaited : (view : ℕ) → (nat_lt view view || (view == view && not true)) ≡ true → ⊥
  not_awaited view e = elim (or_cases (nat_lt view view) (view == view && not true) e) [
    | inl above ↦ let lt = ltb-true view view above in omega arith
    | inr here ↦ true≢false (sym ((and_parts (view == view) (not true) here).1))
  ]

  bit_none : (b : Bool) → (b ≡ true → ⊥) → bit b ≡ 0
  bit_none true h = absurd (h refl)
  bit_none false h = refl

  -- after a NewView that was taken was entered, it is not awaited
  entered_once : (m : Signed NewView) → s.taken ≡ Some (as_message bodies.NewView m) → bit (may_enter (after c s (Enter m))) ≡ 0
  entered_once m taken =
      subst (λ (o : Option (Signed Body)). bit (some_brings (after c s (Enter m)) o) ≡ 0) (sym (left_view c s m.body.view.0 ∙ taken))
      (bit_none (is_awaited (after c s (Enter m)) m.body.view.0) (not_awaited m.body.view.0))

  enters_now : (m : Signed NewView) → s.taken ≡ Some (as_message bodies.NewView m) → is_awaited s m.body.view.0 ≡ true → bit (may_enter s) ≡ 1
  enters_now m taken awaited = subst (λ (o : Option (Signed Body)). bit (some_brings s o) ≡ 1) (sym taken) (ap bit awaited)

  -- ---- what is left to do within a row

  abbrev left_in : Core → ℕ
  left_in t = (leaf_count t.signer - t.signer.next_leaf) + (number_limit - t.executed) + (number_limit - t.low) + bit (may_enter t) + bit t.is_fresh

  -- whatever act does what is due, less is left
  less_in : (a : Act) → s.low ≤ s.executed → s.executed < number_limit → Allowed c me s a → Fulfils c s (due c me s) a → HasLeaves s a → left_in (after c s a) < left_in s
  less_in (Take m r) low small ok does has = absurd (is_reaction c me s (Take m r) does)
  less_in Timeout low small ok does has = absurd (is_reaction c me s Timeout does)
  less_in (Send to m) low small ok does has =
      let leaves = leaves_left c me s (Send to m) in
      let one = one_leaf c me s m.body in
      let enters = said_enters m ok.says in
      let e = executed_up c me s (Send to m) ok in
      let l = low_up c me s (Send to m) low ok in
      omega (arith, leaves, one, enters, e, l, has)
  less_in (Relay to m) low small ok does has =
      let leaves = leaves_left c me s (Relay to m) in
      let fresh : bit s.is_fresh ≡ 1 = ap bit (due_fresh c me s (Relay to m) does) in
      omega (arith, leaves, fresh)
  less_in (Enter m) low small ok does has =
      let leaves = leaves_left c me s (Enter m) in
      let once = entered_once m ok.taken in
      let now = enters_now m ok.taken ok.awaited in
      let e = executed_up c me s (Enter m) ok in
      let l = low_up c me s (Enter m) low ok in
      omega (arith, leaves, once, now, e, l)
  less_in (Rise n d) low small ok does has =
      let leaves = leaves_left c me s (Rise n d) in
      let above = ok.above in
      omega (arith, leaves, above, low, small)
  less_in (Execute n d t o) low small ok does has =
      let leaves = leaves_left c me s (Execute n d t o) in
      let next = ok.next in
      omega (arith, leaves, next, small)
  less_in (Install n b t) low small ok does has =
      let leaves = leaves_left c me s (Install n b t) in
      let above = ok.above in
      omega (arith, leaves, above, low, small)

-- ---- a row or a halt

module _ (c : Setup) (me : ℕ) (s : Core) (input : Input) (h : ComesBehind c me s input) where
  abbrev early : List Act
  early = acts_from c me h.signer [] h.rows (start_of c h.signer) s h.lawful

  module _ (first : Act) (begins : Begins c input first) where
    -- a point of a history
    record Point (t : Core) : Type 0 where
      acts : List Act
      is : IsHistory c me h.signer acts
      core_is : core_after c h.signer acts ≡ t

    at_point : (acts : List Act) (t : Core) → Follows c me (after c s first) acts t → Point t
    at_point acts t follows =
        let core_is : core_after c h.signer early ≡ s = core_from c me h.signer [] h.rows (start_of c h.signer) s h.lawful refl in
        let is_early = history_from c me h.signer [] h.rows (start_of c h.signer) s h.lawful refl tt in
        let there = subst (λ (x : Core). Follows c me (after c x first) acts t) (sym core_is) follows in
        record {
          acts = pushed acts (first ∷ early);
          is = history_follows c me h.signer acts (first ∷ early) t (is_early, begun c me h.signer (core_after c h.signer early) input first begins) there;
          core_is = core_follows c me h.signer acts (first ∷ early) t there;
        }

    less_at : (t : Core) (a : Act) → Point t → Fulfils c t (due c me t) a → HasLeaves t a → left_in c me t (after c t a) < left_in c me t t
    less_at t a p does leaves = subst P p.core_is here does leaves where
      P : Core → Type 0
      P x = Fulfils c x (due c me x) a → HasLeaves x a → left_in c me x (after c x a) < left_in c me x x

      here : P (core_after c h.signer p.acts)
      here does' leaves' =
          let x = core_after c h.signer p.acts in
          let fit = in_step_at c me h.signer h.configuration p.acts p.is in
          let number : x.service.number ≡ x.executed = fit.number_is in
          let small = fit.sound.bounded.number_in_range in
          less_in c me x a (low_reached c me h.signer p.acts p.is) (omega arith) (due_allowed c me h.signer p.acts p.is a does') does' leaves'

    goes : (n : ℕ) (acts : List Act) (t : Core) → Follows c me (after c s first) acts t → left_in c me t t < n → GivesRowOrHalt c me s input
    goes zero acts t follows few = absurd (omega (arith, few))
    goes (suc n) acts t follows few = elim (row_continues c me h.signer h.configuration h.spare h.rows s h.lawful input h.bytes first begins acts t follows) [
      | inl rests ↦
          inl (
            record { input = input; outputs = all_outputs acts; done = all_done c acts; leaves = all_leaves acts },
            t,
            refl,
            record { first = first; acts = acts; begins = begins; reacts = record { follows = follows; rests = rests }; outputs = refl; done = refl; leaves = refl },
          )
      | inr (inl (a, does, leaves)) ↦
          let less = less_at t a (at_point acts t follows) does leaves in
          goes n (acts ++ a ∷ []) (after c t a) (follows_more c me acts (after c s first) t a follows does leaves) (omega (arith, less, few))
      | inr (inr (halt, lacks)) ↦ inr (halt, record { first = first; acts = acts; last = t; begins = begins; follows = follows; lacks = lacks })
    ]

    pub gives : GivesRowOrHalt c me s input
    gives = goes (suc (left_in c me (after c s first) (after c s first))) [] (after c s first) refl (omega arith)

  -- ---- from a message that was opened

  begin : (i : Input) → IsOpened c i → HasReading c i → (a : Act) × Begins c i a
  begin (Received m) opened (reading, reads) = (Take m reading, (reading, record { opened = opened; reads = reads }, refl))
  begin TimedOut opened reads = (Timeout, refl)

  pub read_gives : IsOpened c input → HasReading c input → GivesRowOrHalt c me s input
  read_gives opened reads = let w = begin input opened reads in gives w.0 w.1

body_reads : (c : Setup) (m : Signed Body) (b : Body) → (IsSnapshot (Received (record m { body = b })) → ⊥) → (reading : Option Service) × IsReading c b reading
body_reads c m (bodies.Snapshot b) other = absurd (other tt)
body_reads c m _ other = (None, refl)

-- a message that is no Snapshot has a reading
pub other_reads : (c : Setup) (input : Input) → (IsSnapshot input → ⊥) → HasReading c input
other_reads c (Received m) other = body_reads c m m.body other
other_reads c TimedOut other = tt

snapshot_reads : (c : Setup) (b : Body) → ((reading : Option Service) → IsReading c b reading → ⊥) → ⊥
snapshot_reads c (bodies.Snapshot b) none = none None (λ state is. none (Some state) is)
snapshot_reads c _ none = none None refl

-- no message is without one
pub none_unread : (c : Setup) (input : Input) → (HasReading c input → ⊥) → ⊥
none_unread c (Received m) none = snapshot_reads c m.body (λ reading is. none (reading, is))
none_unread c TimedOut none = none tt

-- ---- a Snapshot has a reading

pub snapshot_read : (c : Setup) (b : Snapshot) → (reading : Option Service) × IsReadingOf c b reading
snapshot_read c b = elim (decided Second c.config b.state) [
  | inl (state, is) ↦ at_number state is (cases_eq state.number b.number.0)
  | inr never ↦ (None, λ state is. never state (record { config_is = is.config_is; encodes = is.encodes; bounded = is.sound.bounded; sound = is.sound.sound; told = λ k part lt. λ j procedure below. tt }))
] where
  at_number : (state : Service) → Encodes c.config b.state state → (state.number ≡ b.number.0) ⊎ (state.number ≡ b.number.0 → ⊥) → (reading : Option Service) × IsReadingOf c b reading
  at_number state is (inl number) = (Some state, record { config_is = is.config_is; number_is = number; encodes = is.encodes; sound = record { bounded = is.bounded; sound = is.sound } })
  at_number state is (inr other) = (
    None,
    λ t read. other (ap (λ (u : Service). u.number)
        (same_state state t is.bounded read.sound.bounded is.sound read.sound.sound (is.config_is ∙ sym read.config_is) (is.encodes ∙ sym read.encodes)) ∙ read.number_is),
  )

body_read : (c : Setup) (b : Body) → (reading : Option Service) × IsReading c b reading
body_read c (bodies.Snapshot b) = snapshot_read c b
body_read c _ = (None, refl)

-- every input has a reading
pub input_read : (c : Setup) (input : Input) → HasReading c input
input_read c (Received m) = body_read c m.body
input_read c TimedOut = tt
