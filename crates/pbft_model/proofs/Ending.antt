-- What is due comes to an end: each act uses up a leaf, a number or a turn.
use Rattle.std.proofs.Common.{◌≡◌, ℕ, ◌+◌, ◌-◌, ◌*◌, ◌<◌, ◌≤◌, Bool, true, false, Option, Some, None, sym, ap, subst, arith, inl, inr}
use Rattle.std.specs.Prelude.{nat_lt, not, ◌==◌, ◌&&◌}
use Rattle.seal.specs.Keys.{leaf_count}
use Rattle.pbft_codec.specs.declared.body.Body.{Body}
use Rattle.pbft_codec.specs.declared.body.Body.TheVariants as bodies
use Rattle.pbft_codec.specs.declared.body.fetch.Fetch.TheVariants as fetches
use Rattle.pbft_model.specs.Words.{NewView, Signed, SigningState}
use Rattle.pbft_model.specs.Setup.{Setup, number_limit, view_limit}
use Rattle.pbft_model.specs.Acts.{Act, Take, Timeout, Send, Relay, Enter, Rise, Execute, Install, after, is_awaited, leaves_of, said}
use Rattle.pbft_model.specs.Core.{Core}
use Rattle.pbft_model.specs.Ending.{bit, left_to_do, stage}
use Rattle.pbft_model.specs.Duties.{Duty, Do, Executing, WornOut, due}
use Rattle.pbft_model.specs.Rows.{Fulfils, HasLeaves, leaves_for}
use Rattle.pbft_model.specs.Rules.{Allowed, MaySay}
use Rattle.std.proofs.lemmas.Bool.{and_parts, eqb-true, ltb-true, not-true, or_cases}
use Rattle.pbft_model.proofs.Calm.{low_up}
use Rattle.pbft_model.proofs.Leaves.{signer_by}
use Rattle.pbft_model.proofs.Origins.{executed_up}
use Rattle.pbft_model.proofs.Reactions.{IsOwn, Reacting, due_reacting, is_reaction}

bit_le : (b : Bool) → bit b ≤ 1
bit_le true = omega arith
bit_le false = omega arith

-- ---- views

module _ (c : Setup) (me : ℕ) (s : Core) where
  said_up : (m : Signed Body) (b : Body) → MaySay c me s b → stage s ≤ stage (said c s m b)
  said_up m (bodies.Request b) says = absurd says
  said_up m (bodies.PrePrepare b) says = omega arith
  said_up m (bodies.Prepare b) says = omega arith
  said_up m (bodies.Commit b) says = omega arith
  said_up m (bodies.Reply b) says = omega arith
  said_up m (bodies.Checkpoint b) says = omega arith
  said_up m (bodies.ViewChange b) says = let higher = says.higher in let le = bit_le s.active in omega (arith, higher, le)
  said_up m (bodies.NewView b) says = let same : b.view.0 ≡ s.view = ap (λ (n : NewView). n.view.0) says.is in let le = bit_le s.active in omega (arith, same, le)
  said_up m (bodies.Fetch (fetches.Request d)) says = omega arith
  said_up m (bodies.Fetch (fetches.State n)) says = omega arith
  said_up m (bodies.Snapshot b) says = omega arith

  -- to enter is a step
  entered_up : (view : ℕ) → is_awaited s view ≡ true → stage s < 2 * view + 1
  entered_up view e = elim (or_cases (nat_lt s.view view) (view == s.view && not s.active) e) [
    | inl lt ↦ let above = ltb-true s.view view lt in let le = bit_le s.active in omega (arith, above, le)
    | inr here ↦
        let parts = and_parts (view == s.view) (not s.active) here in
        let same = eqb-true view s.view parts.0 in
        let idle : bit s.active ≡ 0 = ap bit (not-true s.active parts.1) in
        omega (arith, same, idle)
  ]

  -- ---- who passes on has just taken a message

  abbrev IsFresh : Act → Type 0
  IsFresh (Relay to m) = s.is_fresh ≡ true
  IsFresh _ = Unit {0}

  abbrev FreshDuty : Duty → Type 0
  FreshDuty (Do a) = IsFresh a
  FreshDuty (Executing n d) = Unit {0}
  FreshDuty WornOut = Unit {0}

  own_fresh : (a : Act) → IsOwn a → FreshDuty (Do a)
  own_fresh (Take m r) own = absurd own
  own_fresh Timeout own = absurd own
  own_fresh (Relay to m) own = absurd own
  own_fresh _ own = tt

  fulfilled_fresh : (o : Option Duty) (a : Act) → Reacting FreshDuty own_fresh tt o → Fulfils c s o a → IsFresh a
  fulfilled_fresh None a h does = absurd does
  fulfilled_fresh (Some (Do b)) a h does = subst IsFresh (sym does) h
  fulfilled_fresh (Some (Executing n d)) a h (t, o, step, is) = subst IsFresh (sym is) tt
  fulfilled_fresh (Some WornOut) a h does = absurd does

  pub due_fresh : (a : Act) → Fulfils c s (due c me s) a → IsFresh a
  due_fresh a does = fulfilled_fresh (due c me s) a (due_reacting FreshDuty own_fresh tt c me s (λ fresh to m. fresh) (λ n d. tt)) does

  -- ---- the end

  pub leaves_left : (a : Act) → leaf_count (after c s a).signer - (after c s a).signer.next_leaf ≡ leaf_count s.signer - (s.signer.next_leaf + leaves_for a)
  leaves_left a = ap (λ (x : SigningState). leaf_count x - x.next_leaf) (signer_by c s a)

  pub one_leaf : (b : Body) → 1 ≤ leaves_of b
  one_leaf (bodies.Request b) = omega arith
  one_leaf _ = omega arith

  -- Whatever act does what is due, less is left to do.
  pub less_to_do : (a : Act) → s.low ≤ s.executed → s.executed < number_limit → s.view < view_limit → Allowed c me s a → Fulfils c s (due c me s) a → HasLeaves s a → left_to_do (after c s a) < left_to_do s
  less_to_do (Take m r) low small view ok does has = absurd (is_reaction c me s (Take m r) does)
  less_to_do Timeout low small view ok does has = absurd (is_reaction c me s Timeout does)
  less_to_do (Send to m) low small view ok does has =
      let leaves = leaves_left (Send to m) in
      let one = one_leaf m.body in
      let up = said_up m m.body ok.says in
      let e = executed_up c me s (Send to m) ok in
      let l = low_up c me s (Send to m) low ok in
      omega (arith, leaves, one, up, e, l, has)
  less_to_do (Relay to m) low small view ok does has =
      let leaves = leaves_left (Relay to m) in
      let fresh : bit s.is_fresh ≡ 1 = ap bit (due_fresh (Relay to m) does) in
      omega (arith, leaves, fresh)
  less_to_do (Enter m) low small view ok does has =
      let leaves = leaves_left (Enter m) in
      let up = entered_up m.body.view.0 ok.awaited in
      let le = bit_le s.active in
      let e = executed_up c me s (Enter m) ok in
      let l = low_up c me s (Enter m) low ok in
      omega (arith, leaves, up, le, e, l, view)
  less_to_do (Rise n d) low small view ok does has =
      let leaves = leaves_left (Rise n d) in
      let above = ok.above in
      omega (arith, leaves, above, low, small)
  less_to_do (Execute n d t o) low small view ok does has =
      let leaves = leaves_left (Execute n d t o) in
      let next = ok.next in
      omega (arith, leaves, next, small)
  less_to_do (Install n b t) low small view ok does has =
      let leaves = leaves_left (Install n b t) in
      let above = ok.above in
      omega (arith, leaves, above, low, small)
