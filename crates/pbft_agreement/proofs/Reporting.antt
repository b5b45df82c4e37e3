-- The acts of a lawful journal, and what its rows report of them.
use Rattle.std.proofs.Common.{◌≡◌, ◌⊎◌, ℕ, ◌+◌, true, List, [], ◌∷◌, ◌++◌, map, max, Option, refl, sym, ap, subst, ◌∙◌, arith, inl, inr}
use Rattle.std.specs.List.{AllByRecursion, flat_map}
use Rattle.std.proofs.lemmas.Bool.{true≢false}
use Rattle.pbft_model.specs.Words.{SigningState, Signed, Body, Part}
use Rattle.pbft_model.specs.Sequential.{Service, Outcome}
use Rattle.pbft_model.specs.Setup.{Setup}
use Rattle.pbft_model.specs.Validity.{greatest_of}
use Rattle.pbft_model.specs.Core.{Core}
use Rattle.pbft_model.specs.Acts.{Act, Take, Timeout, Send, Relay, Enter, Rise, Execute, Install, after}
use Rattle.pbft_model.specs.Rules.{Allowed}
use Rattle.pbft_model.specs.Rows.{Row, Input, Received, TimedOut, Output, Done, Follows, Begins, IsNext, IsLawfulFrom, Executed, outputs_of, done_of, all_outputs, all_done, result_of}
use Rattle.pbft_model.specs.Histories.{core_after, IsHistory, IsEarlier, IsIn, HasSigned, HasTaken, signed_by_act}
use Rattle.pbft_agreement.specs.Journals.{HasReceived, HasGiven, HasDone, RunsTo, number_in, greatest_in}
use Rattle.pbft_model.proofs.Entries.{from_append}
use Rattle.pbft_model.proofs.Found.{in_append_left, in_append_right}
use Rattle.pbft_model.proofs.Events.{now, earlier_trans, signed_at}
use Rattle.pbft_model.proofs.Origins.{recorded_keeps, said_keeps, left_keeps}
use Rattle.pbft_model.proofs.Reactions.{IsReaction, is_reaction}
use Rattle.pbft_model.proofs.Rowed.{due_allowed, begun}
use Rattle.pbft_model.proofs.Unique.{one_row}

-- acts that follow others, which are the newest first
abbrev pub pushed : List Act → List Act → List Act
pushed [] early = early
pushed (a ∷ acts) early = pushed acts (a ∷ early)

pub earlier_pushed : (acts early : List Act) → IsEarlier early (pushed acts early)
earlier_pushed [] early = now early
earlier_pushed (a ∷ acts) early = earlier_trans early (a ∷ early) (pushed acts (a ∷ early)) (inr (now early)) (earlier_pushed acts (a ∷ early))

-- what acts give stems from one of them
act_of : {X : Type 0} (g : Act → List X) (all : List Act → List X) → all [] ≡ [] → ((a : Act) (later : List Act) → all (a ∷ later) ≡ g a ++ all later) → (x : X) (acts early : List Act) → IsIn x (all acts)
    → (a : Act) × (before : List Act) × IsEarlier (a ∷ before) (pushed acts early) × IsIn x (g a)
act_of {X} g all none more x [] early h = absurd (subst (λ (xs : List X). IsIn x xs) none h)
act_of {X} g all none more x (a ∷ acts) early h = elim (from_append x (g a) (all acts) (subst (λ (xs : List X). IsIn x xs) (more a acts) h)) [
  | inl here ↦ (a, early, earlier_pushed acts (a ∷ early), here)
  | inr later ↦ act_of g all none more x acts (a ∷ early) later
]

-- an act behind others stands among them, or before them
from_pushed : (b : Act) (before acts early : List Act) → IsEarlier (b ∷ before) (pushed acts early) → IsEarlier (b ∷ before) early ⊎ IsIn b acts
from_pushed b before [] early h = inl h
from_pushed b before (a ∷ acts) early h = elim (from_pushed b before acts (a ∷ early) h) [
  | inl (inl same) ↦ inr (inl (head b a before early same))
  | inl (inr older) ↦ inl older
  | inr later ↦ inr (inr later)
] where
  head : (b a : Act) (xs ys : List Act) → b ∷ xs ≡ a ∷ ys → b ≡ a
  head b a xs ys e = cc

pub taken_before : (m : Signed Body) (acts early : List Act) → AllByRecursion IsReaction acts → HasTaken m (pushed acts early) → HasTaken m early
taken_before m [] early all h = h
taken_before m (a ∷ acts) early all h = elim (taken_before m acts (a ∷ early) all.1 h) [
  | inl (r, e) ↦ absurd (subst IsReaction e all.0)
  | inr older ↦ older
]

-- the greatest of two lists of numbers
greatest_append : (xs ys : List ℕ) → greatest_of (xs ++ ys) ≡ max (greatest_of xs) (greatest_of ys)
greatest_append [] ys = omega arith
greatest_append (x ∷ xs) ys = let rest = greatest_append xs ys in omega arith

map_append : {X Y : Type 0} (g : X → Y) (xs ys : List X) → map g (xs ++ ys) ≡ map g xs ++ map g ys
map_append g [] ys = refl
map_append {X} {Y} g (x ∷ xs) ys = ap (λ (zs : List Y). g x ∷ zs) (map_append g xs ys)

module _ (c : Setup) (me : ℕ) (signer : SigningState) where
  -- the acts of rows, behind others
  abbrev pub acts_from : (early : List Act) (rows : List Row) (s t : Core) → IsLawfulFrom c me s rows t → List Act
  acts_from early [] s t w = early
  acts_from early (row ∷ rows) s t (u, next, rest) = acts_from (pushed (next.first ∷ next.acts) early) rows u t rest

  pub earlier_from : (early : List Act) (rows : List Row) (s t : Core) (w : IsLawfulFrom c me s rows t) → IsEarlier early (acts_from early rows s t w)
  earlier_from early [] s t w = now early
  earlier_from early (row ∷ rows) s t (u, next, rest) =
      earlier_trans early (pushed (next.first ∷ next.acts) early) (acts_from (pushed (next.first ∷ next.acts) early) rows u t rest)
      (earlier_pushed (next.first ∷ next.acts) early) (earlier_from (pushed (next.first ∷ next.acts) early) rows u t rest)

  -- ---- they are a history, which ends in the core after the rows

  pub core_follows : (acts early : List Act) (t : Core) → Follows c me (core_after c signer early) acts t → core_after c signer (pushed acts early) ≡ t
  core_follows [] early t same = sym same
  core_follows (a ∷ acts) early t (does, leaves, rest) = core_follows acts (a ∷ early) t rest

  pub history_follows : (acts early : List Act) (t : Core) → IsHistory c me signer early → Follows c me (core_after c signer early) acts t → IsHistory c me signer (pushed acts early)
  history_follows [] early t is same = is
  history_follows (a ∷ acts) early t is (does, leaves, rest) = history_follows acts (a ∷ early) t (is, due_allowed c me signer early is a does) rest

  pub reactions : (acts : List Act) (s t : Core) → Follows c me s acts t → AllByRecursion IsReaction acts
  reactions [] s t same = tt
  reactions (a ∷ acts) s t (does, leaves, rest) = (is_reaction c me s a does, reactions acts (after c s a) t rest)

  pub row_follows : (early : List Act) (s u : Core) (row : Row) (next : IsNext c me s row u) → core_after c signer early ≡ s → Follows c me (core_after c signer (next.first ∷ early)) next.acts u
  row_follows early s u row next same = subst (λ (x : Core). Follows c me (after c x next.first) next.acts u) (sym same) next.reacts.follows

  pub row_core : (early : List Act) (s u : Core) (row : Row) (next : IsNext c me s row u) → core_after c signer early ≡ s → core_after c signer (pushed (next.first ∷ next.acts) early) ≡ u
  row_core early s u row next same = core_follows next.acts (next.first ∷ early) u (row_follows early s u row next same)

  pub row_history : (early : List Act) (s u : Core) (row : Row) (next : IsNext c me s row u) → core_after c signer early ≡ s → IsHistory c me signer early → IsHistory c me signer (pushed (next.first ∷ next.acts) early)
  row_history early s u row next same is =
      history_follows next.acts (next.first ∷ early) u (is, begun c me signer (core_after c signer early) row.input next.first next.begins) (row_follows early s u row next same)

  pub core_from : (early : List Act) (rows : List Row) (s t : Core) (w : IsLawfulFrom c me s rows t) → core_after c signer early ≡ s → core_after c signer (acts_from early rows s t w) ≡ t
  core_from early [] s t w same = same ∙ sym w
  core_from early (row ∷ rows) s t (u, next, rest) same = core_from (pushed (next.first ∷ next.acts) early) rows u t rest (row_core early s u row next same)

  pub history_from : (early : List Act) (rows : List Row) (s t : Core) (w : IsLawfulFrom c me s rows t) → core_after c signer early ≡ s → IsHistory c me signer early → IsHistory c me signer (acts_from early rows s t w)
  history_from early [] s t w same is = is
  history_from early (row ∷ rows) s t (u, next, rest) same is =
      history_from (pushed (next.first ∷ next.acts) early) rows u t rest (row_core early s u row next same) (row_history early s u row next same is)

  -- ---- what was taken was received

  pub begins_take : (input : Input) (m : Signed Body) (r : Option Service) (a : Act) → Begins c input a → a ≡ Take m r → input ≡ Received m
  begins_take (Received m') m r a (reading, may, is) e = let both : Take m' reading ≡ Take m r = sym is ∙ e in let same : m' ≡ m = taken_same m' m reading r both in ap Received same where
    taken_same : (m' m : Signed Body) (q r : Option Service) → Take m' q ≡ Take m r → m' ≡ m
    taken_same m' m q r e = cc
  begins_take TimedOut m r a is e = absurd (never m r (sym is ∙ e)) where
    never : (m : Signed Body) (r : Option Service) → Timeout ≡ Take m r → ⊥
    never m r e = cc

  pub taken_from : (m : Signed Body) (early : List Act) (rows : List Row) (s t : Core) (w : IsLawfulFrom c me s rows t) → HasTaken m (acts_from early rows s t w) → HasTaken m early ⊎ HasReceived m rows
  taken_from m early [] s t w h = inl h
  taken_from m early (row ∷ rows) s t (u, next, rest) h = elim (taken_from m (pushed (next.first ∷ next.acts) early) rows u t rest h) [
    | inl here ↦ elim (taken_before m next.acts (next.first ∷ early) (reactions next.acts (after c s next.first) u next.reacts.follows) here) [
      | inl (r, e) ↦ inr (row, inl refl, begins_take row.input m r next.first next.begins e)
      | inr older ↦ inl older
    ]
    | inr later ↦ inr (later.0, inr later.1, later.2)
  ]

  -- ---- what was given and what was done, each by an act

  -- rows up to one of them, and those behind it
  pub given_act : (output : Output) (row : Row) (early : List Act) (s u : Core) (next : IsNext c me s row u) → IsIn output row.outputs
      → (a : Act) × (before : List Act) × IsEarlier (a ∷ before) (pushed (next.first ∷ next.acts) early) × IsIn output (outputs_of a)
  given_act output row early s u next h =
      act_of outputs_of all_outputs refl (λ a later. refl) output next.acts (next.first ∷ early) (subst (λ (os : List Output). IsIn output os) next.outputs h)

  done_act : (done : Done) (row : Row) (early : List Act) (s u : Core) (next : IsNext c me s row u) → IsIn done row.done
      → (a : Act) × (before : List Act) × IsEarlier (a ∷ before) (pushed (next.first ∷ next.acts) early) × IsIn done (done_of c a)
  done_act done row early s u next h = act_of (done_of c) (all_done c) refl (λ a later. refl) done next.acts (next.first ∷ early) (subst (λ (ds : List Done). IsIn done ds) next.done h)

  pub sends : (output : Output) (a : Act) → IsIn output (outputs_of a) → output.own ≡ true → a ≡ Send output.to output.message
  sends output (Take m r) h own = absurd h
  sends output Timeout h own = absurd h
  sends output (Send to m) (inl same) own = λ i. Send (sym (ap (λ (o : Output). o.to) same) i) (sym (ap (λ (o : Output). o.message) same) i)
  sends output (Send to m) (inr none) own = absurd none
  sends output (Relay to m) (inl same) own = absurd (true≢false (sym own ∙ ap (λ (o : Output). o.own) same))
  sends output (Relay to m) (inr none) own = absurd none
  sends output (Enter m) h own = absurd h
  sends output (Rise n d) h own = absurd h
  sends output (Execute n d t o) h own = absurd h
  sends output (Install n b t) h own = absurd h

  pub given_from : (p : Part) (early : List Act) (rows : List Row) (s t : Core) (w : IsLawfulFrom c me s rows t) → HasGiven p rows → HasSigned p (acts_from early rows s t w)
  given_from p early [] s t w (row, output, none, within, own, is) = absurd none
  given_from p early (row ∷ rows) s t (u, next, rest) (row', output, inr later, within, own, is) =
      given_from p (pushed (next.first ∷ next.acts) early) rows u t rest (row', output, later, within, own, is)
  given_from p early (row ∷ rows) s t (u, next, rest) (row', output, inl same, within, own, is) =
      let here : IsIn output row.outputs = subst (λ (r : Row). IsIn output r.outputs) same within in
      let w = given_act output row early s u next here in
      let a_is = sends output w.0 w.3 own in
      let at = earlier_trans (w.0 ∷ w.1) (pushed (next.first ∷ next.acts) early) (acts_from (pushed (next.first ∷ next.acts) early) rows u t rest) w.2
      (earlier_from (pushed (next.first ∷ next.acts) early) rows u t rest) in
      signed_at p w.0 w.1 (acts_from (pushed (next.first ∷ next.acts) early) rows u t rest) at (subst (λ (b : Act). IsIn p (signed_by_act b)) (sym a_is) is)

  pub done_from : (done : Done) (early : List Act) (rows : List Row) (s t : Core) (w : IsLawfulFrom c me s rows t) → HasDone done rows
      → (a : Act) × (before : List Act) × IsEarlier (a ∷ before) (acts_from early rows s t w) × IsIn done (done_of c a)
  done_from done early [] s t w (row, none, within) = absurd none
  done_from done early (row ∷ rows) s t (u, next, rest) (row', inr later, within) = done_from done (pushed (next.first ∷ next.acts) early) rows u t rest (row', later, within)
  done_from done early (row ∷ rows) s t (u, next, rest) (row', inl same, within) =
      let w = done_act done row early s u next (subst (λ (r : Row). IsIn done r.done) same within) in (
        w.0,
        w.1,
        earlier_trans (w.0 ∷ w.1) (pushed (next.first ∷ next.acts) early) (acts_from (pushed (next.first ∷ next.acts) early) rows u t rest) w.2
            (earlier_from (pushed (next.first ∷ next.acts) early) rows u t rest),
        w.3,
      )

  -- ---- executions

  no_execution : (input : Input) (a : Act) (n : ℕ) (d : List ℕ) (t : Service) (o : Outcome) → Begins c input a → Execute n d t o ≡ a → ⊥
  no_execution (Received m) a n d t o (reading, may, is) e = never (e ∙ is) where
    never : Execute n d t o ≡ Take m reading → ⊥
    never e = cc
  no_execution TimedOut a n d t o is e = never (e ∙ is) where
    never : Execute n d t o ≡ Timeout → ⊥
    never e = cc

  pub executed_from : (n : ℕ) (d : List ℕ) (x : Service) (o : Outcome) (before early : List Act) (rows : List Row) (s t : Core) (w : IsLawfulFrom c me s rows t)
      → IsEarlier (Execute n d x o ∷ before) (acts_from early rows s t w) → IsEarlier (Execute n d x o ∷ before) early ⊎ RunsTo c me s rows x
  executed_from n d x o before early [] s t w h = inl h
  executed_from n d x o before early (row ∷ rows) s t (u, next, rest) h = elim (executed_from n d x o before (pushed (next.first ∷ next.acts) early) rows u t rest h) [
    | inl here ↦ elim (from_pushed (Execute n d x o) before (next.first ∷ next.acts) early here) [
      | inl older ↦ inl older
      | inr (inl first) ↦ absurd (no_execution row.input next.first n d x o next.begins first)
      | inr (inr within) ↦ inr (u, next, inl (n, d, o, within))
    ]
    | inr later ↦ inr (u, next, inr later)
  ]

  in_all_done : (a : Act) (done : Done) (acts : List Act) → IsIn a acts → IsIn done (done_of c a) → IsIn done (all_done c acts)
  in_all_done a done [] none h = absurd none
  in_all_done a done (b ∷ acts) (inl same) h = in_append_left done (done_of c b) (all_done c acts) (subst (λ (x : Act). IsIn done (done_of c x)) same h)
  in_all_done a done (b ∷ acts) (inr later) h = in_append_right done (done_of c b) (all_done c acts) (in_all_done a done acts later h)

  -- an execution is reported
  pub execution_reported : (n : ℕ) (d : List ℕ) (x : Service) (o : Outcome) (before early : List Act) (rows : List Row) (s t : Core) (w : IsLawfulFrom c me s rows t)
      → IsEarlier (Execute n d x o ∷ before) (acts_from early rows s t w) → IsEarlier (Execute n d x o ∷ before) early ⊎ HasDone (Executed n d (result_of o.reply)) rows
  execution_reported n d x o before early [] s t w h = inl h
  execution_reported n d x o before early (row ∷ rows) s t (u, next, rest) h = elim (execution_reported n d x o before (pushed (next.first ∷ next.acts) early) rows u t rest h) [
    | inl here ↦ elim (from_pushed (Execute n d x o) before (next.first ∷ next.acts) early here) [
      | inl older ↦ inl older
      | inr (inl first) ↦ absurd (no_execution row.input next.first n d x o next.begins first)
      | inr (inr within) ↦
          let done : IsIn (Executed n d (result_of o.reply)) (all_done c next.acts) = in_all_done (Execute n d x o) (Executed n d (result_of o.reply)) next.acts within (inl refl) in
          inr (row, inl refl, subst (λ (ds : List Done). IsIn (Executed n d (result_of o.reply)) ds) (sym next.done) done)
    ]
    | inr (row', later, done) ↦ inr (row', inr later, done)
  ]

  -- ---- rows in two parts

  pub record Parted (early : List Act) (rows rest : List Row) (s t : Core) (w : IsLawfulFrom c me s (rows ++ rest) t) : Type 0 where
    pub mid : Core
    pub first : IsLawfulFrom c me s rows mid
    pub second : IsLawfulFrom c me mid rest t
    pub same : acts_from early (rows ++ rest) s t w ≡ acts_from (acts_from early rows s mid first) rest mid t second

  pub parted : (early : List Act) (rows rest : List Row) (s t : Core) (w : IsLawfulFrom c me s (rows ++ rest) t) → Parted early rows rest s t w
  parted early [] rest s t w = record { mid = s; first = refl; second = w; same = refl }
  parted early (row ∷ rows) rest s t (u, next, w) =
      let p = parted (pushed (next.first ∷ next.acts) early) rows rest u t w in
      record { mid = p.mid; first = (u, next, p.first); second = p.second; same = p.same }

  -- the core after rows is one
  pub one_core : (rows : List Row) (s t t' : Core) → IsLawfulFrom c me s rows t → IsLawfulFrom c me s rows t' → t ≡ t'
  one_core [] s t t' h k = h ∙ sym k
  one_core (row ∷ rows) s t t' (u, next, rest) (u', next', rest') =
      let same = (one_row c me s u u' row row refl next next').1 in
      one_core rows u t t' rest (subst (λ (x : Core). IsLawfulFrom c me x rows t') (sym same) rest')

  -- ---- the number reached

  number_after : (s : Core) (a : Act) → Allowed c me s a → (after c s a).executed ≡ max s.executed (greatest_of (map number_in (done_of c a)))
  number_after s (Take m r) ok = let k = recorded_keeps c s m m.body in k.number ∙ omega arith
  number_after s (Send to m) ok = let k = said_keeps c s m m.body in k.number ∙ omega arith
  number_after s (Enter m) ok = let k = left_keeps c s m.body.view.0 in k.number ∙ omega arith
  number_after s (Execute n d t o) ok = let next : n ≡ s.executed + 1 = ok.next in omega arith
  number_after s (Install n b t) ok = let above = ok.above in omega arith
  number_after s _ ok = omega arith

  numbers_done : (acts early : List Act) (t : Core) → IsHistory c me signer early → Follows c me (core_after c signer early) acts t
      → t.executed ≡ max (core_after c signer early).executed (greatest_of (map number_in (all_done c acts)))
  numbers_done [] early t is same = ap (λ (x : Core). x.executed) same ∙ omega arith
  numbers_done (a ∷ acts) early t is (does, leaves, rest) =
      let ok = due_allowed c me signer early is a does in
      let one = number_after (core_after c signer early) a ok in
      let others = numbers_done acts (a ∷ early) t (is, ok) rest in
      let joined : greatest_of (map number_in (done_of c a ++ all_done c acts)) ≡ max (greatest_of (map number_in (done_of c a))) (greatest_of (map number_in (all_done c acts)))
      = ap greatest_of (map_append number_in (done_of c a) (all_done c acts)) ∙ greatest_append (map number_in (done_of c a)) (map number_in (all_done c acts)) in
      omega arith

  pub first_number : (input : Input) (s : Core) (a : Act) → Begins c input a → (after c s a).executed ≡ s.executed
  first_number (Received m) s a (reading, may, is) = ap (λ (x : Act). (after c s x).executed) is ∙ (recorded_keeps c s m m.body).number
  first_number TimedOut s a is = ap (λ (x : Act). (after c s x).executed) is

  row_number : (early : List Act) (s u : Core) (row : Row) (next : IsNext c me s row u) → core_after c signer early ≡ s → IsHistory c me signer early → u.executed ≡ max s.executed (greatest_of (map number_in row.done))
  row_number early s u row next same is =
      let begin = first_number row.input (core_after c signer early) next.first next.begins in
      let others = numbers_done next.acts (next.first ∷ early) u (is, begun c me signer (core_after c signer early) row.input next.first next.begins) (row_follows early s u row next same) in
      let at_start : (core_after c signer early).executed ≡ s.executed = ap (λ (x : Core). x.executed) same in
      let done : greatest_of (map number_in row.done) ≡ greatest_of (map number_in (all_done c next.acts)) = ap (λ (ds : List Done). greatest_of (map number_in ds)) next.done in
      omega arith

  pub number_from : (early : List Act) (rows : List Row) (s t : Core) (w : IsLawfulFrom c me s rows t) → core_after c signer early ≡ s → IsHistory c me signer early → t.executed ≡ max s.executed (greatest_in rows)
  number_from early [] s t w same is = ap (λ (x : Core). x.executed) w ∙ omega arith
  number_from early (row ∷ rows) s t (u, next, rest) same is =
      let one = row_number early s u row next same is in
      let others = number_from (pushed (next.first ∷ next.acts) early) rows u t rest (row_core early s u row next same) (row_history early s u row next same is) in
      let joined : greatest_in (row ∷ rows) ≡ max (greatest_of (map number_in row.done)) (greatest_in rows) = greatest_append (map number_in row.done) (flat_map (λ r. map number_in r.done) rows) in
      omega arith
