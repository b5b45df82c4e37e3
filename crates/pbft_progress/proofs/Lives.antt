-- The history behind a journal: what was received was taken at a point of it, what was signed was given, and behind the row
-- of a message nothing is due while it is the message just taken.
use Rattle.std.proofs.Common.{◌≡◌, ◌⊎◌, ℕ, Bool, true, false, cond, List, [], ◌∷◌, ◌++◌, Option, Some, None, refl, sym, ap, subst, ◌∙◌, inl, inr}
use Rattle.std.specs.Prelude.{nat_lt}
use Rattle.std.specs.List.{AllByRecursion}
use Rattle.pbft_model.specs.Words.{SigningState, Signed, Body, Part}
use Rattle.pbft_codec.specs.declared.body.Body.TheVariants as bodies
use Rattle.pbft_codec.specs.declared.body.fetch.Fetch.TheVariants as fetches
use Rattle.pbft_model.specs.Sequential.{Service, Outcome}
use Rattle.pbft_model.specs.Setup.{Setup}
use Rattle.pbft_model.specs.Core.{Core, start_of}
use Rattle.pbft_model.specs.Acts.{Act, Take, Timeout, Send, Enter, Execute, Install, after, said, left_for, left_if_above}
use Rattle.pbft_model.specs.Duties.{due}
use Rattle.pbft_model.specs.Rows.{Row, Input, Received, TimedOut, Output, Done, Executed, Installed, Begins, Follows, Fulfils, IsLawfulFrom, outputs_of, all_outputs, done_of, all_done, result_of}
use Rattle.pbft_model.specs.Histories.{core_after, IsHistory, IsEarlier, IsIn, HasSigned, HasTaken, signed_in, signed_by_act}
use Rattle.pbft_agreement.specs.Journals.{HasReceived, HasGiven, HasDone, RunsTo}
use Rattle.pbft_model.proofs.Events.{earlier_trans}
use Rattle.pbft_model.proofs.Found.{in_append_left, in_append_right}
use Rattle.pbft_model.proofs.Reactions.{IsReaction, is_reaction}
use Rattle.pbft_agreement.proofs.Reporting.{pushed, earlier_pushed, acts_from, earlier_from, row_core, row_follows, core_from, history_from, taken_from, given_from, done_from, execution_reported, executed_from, reactions, taken_before, begins_take}

-- ---- the message just taken

left_taken : (c : Setup) (s : Core) (view : ℕ) → (left_if_above c s view).taken ≡ s.taken
left_taken c s view = cases (nat_lt s.view view) where
  cases : (b : Bool) → (cond b (left_for c s view) s).taken ≡ s.taken
  cases true = refl
  cases false = refl

said_taken : (c : Setup) (s : Core) (m : Signed Body) (b : Body) → (said c s m b).taken ≡ s.taken
said_taken c s m (bodies.NewView b) = left_taken c s b.view.0
said_taken c s m (bodies.Fetch (fetches.Request d)) = refl
said_taken c s m (bodies.Fetch (fetches.State n)) = refl
said_taken c s m _ = refl

taken_by : (c : Setup) (s : Core) (a : Act) → IsReaction a → (after c s a).taken ≡ s.taken
taken_by c s (Take m r) h = absurd h
taken_by c s Timeout h = absurd h
taken_by c s (Send to m) h = said_taken c s m m.body
taken_by c s (Enter m) h = left_taken c s m.body.view.0
taken_by c s _ h = refl

-- what does what is due leaves it as it is
taken_follows : (c : Setup) (me : ℕ) (acts : List Act) (s t : Core) → Follows c me s acts t → t.taken ≡ s.taken
taken_follows c me [] s t same = ap (λ (x : Core). x.taken) same
taken_follows c me (a ∷ acts) s t (does, leaves, rest) = taken_follows c me acts (after c s a) t rest ∙ taken_by c s a (is_reaction c me s a does)

-- ---- inputs

same_received : (m x : Signed Body) → Received m ≡ Received x → m ≡ x
same_received m x e = cc

never_received : (m : Signed Body) → TimedOut ≡ Received m → ⊥
never_received m e = cc

pub begins_received : (c : Setup) (input : Input) (a : Act) (m : Signed Body) → Begins c input a → input ≡ Received m → (reading : Option Service) × (a ≡ Take m reading)
begins_received c (Received x) a m (reading, may, is) e = (reading, is ∙ ap (λ (y : Signed Body). Take y reading) (same_received x m e))
begins_received c TimedOut a m is e = absurd (never_received m e)

begins_unsigned : (c : Setup) (input : Input) (a : Act) (p : Part) → Begins c input a → IsIn p (signed_by_act a) → ⊥
begins_unsigned c (Received m) a p (reading, may, is) h = subst (λ (x : Act). IsIn p (signed_by_act x)) is h
begins_unsigned c TimedOut a p is h = subst (λ (x : Act). IsIn p (signed_by_act x)) is h

-- ---- what acts sign

signed_pushed : (p : Part) (acts early : List Act) → HasSigned p (pushed acts early) → HasSigned p early ⊎ ((a : Act) × IsIn a acts × IsIn p (signed_by_act a))
signed_pushed p [] early h = inl h
signed_pushed p (a ∷ acts) early h = elim (signed_pushed p acts (a ∷ early) h) [
  | inl (inl here) ↦ inr (a, inl refl, here)
  | inl (inr older) ↦ inl older
  | inr w ↦ inr (w.0, inr w.1, w.2)
]

-- in an own output
own_output : (p : Part) (a : Act) → IsIn p (signed_by_act a) → (output : Output) × IsIn output (outputs_of a) × (output.own ≡ true) × IsIn p (signed_in output.message)
own_output p (Send to m) h = (record { to = to; message = m; own = true }, inl refl, refl, h)
own_output p _ h = absurd h

in_outputs : (a : Act) (output : Output) (acts : List Act) → IsIn a acts → IsIn output (outputs_of a) → IsIn output (all_outputs acts)
in_outputs a output [] none h = absurd none
in_outputs a output (b ∷ acts) (inl same) h = in_append_left output (outputs_of b) (all_outputs acts) (subst (λ (x : Act). IsIn output (outputs_of x)) same h)
in_outputs a output (b ∷ acts) (inr later) h = in_append_right output (outputs_of b) (all_outputs acts) (in_outputs a output acts later h)

-- ---- points of a history

-- a message was taken at a point
pub record TakenAt (m : Signed Body) (acts : List Act) : Type 0 where
  pub reading : Option Service
  pub early : List Act
  pub point : IsEarlier (Take m reading ∷ early) acts

module _ (c : Setup) (me : ℕ) (signer : SigningState) where
  -- at a point nothing is due, with a message as the one just taken
  pub record Heard (m : Signed Body) (acts : List Act) : Type 0 where
    pub early : List Act
    pub point : IsEarlier early acts
    pub taken : (core_after c signer early).taken ≡ Some m
    pub rests : due c me (core_after c signer early) ≡ None

  taken_in : (m : Signed Body) (early : List Act) (rows : List Row) (s t : Core) (w : IsLawfulFrom c me s rows t) → HasReceived m rows → TakenAt m (acts_from c me signer early rows s t w)
  taken_in m early [] s t w (row, none, e) = absurd none
  taken_in m early (row ∷ rows) s t (u, next, rest) (r, inr later, e) = taken_in m (pushed (next.first ∷ next.acts) early) rows u t rest (r, later, e)
  taken_in m early (row ∷ rows) s t (u, next, rest) (r, inl same, e) =
      let b = begins_received c row.input next.first m next.begins (ap (λ (x : Row). x.input) (sym same) ∙ e) in
      let done : List Act = pushed (next.first ∷ next.acts) early in
      record {
        reading = b.0;
        early = early;
        point = earlier_trans (Take m b.0 ∷ early) done (acts_from c me signer done rows u t rest)
            (subst (λ (a : Act). IsEarlier (a ∷ early) done) b.1 (earlier_pushed next.acts (next.first ∷ early)))
            (earlier_from c me signer done rows u t rest);
      }

  heard_in : (m : Signed Body) (early : List Act) (rows : List Row) (s t : Core) (w : IsLawfulFrom c me s rows t) → core_after c signer early ≡ s → HasReceived m rows → Heard m (acts_from c me signer early rows s t w)
  heard_in m early [] s t w at (row, none, e) = absurd none
  heard_in m early (row ∷ rows) s t (u, next, rest) at (r, inr later, e) =
      heard_in m (pushed (next.first ∷ next.acts) early) rows u t rest (row_core c me signer early s u row next at) (r, later, e)
  heard_in m early (row ∷ rows) s t (u, next, rest) at (r, inl same, e) =
      let b = begins_received c row.input next.first m next.begins (ap (λ (x : Row). x.input) (sym same) ∙ e) in
      let done : List Act = pushed (next.first ∷ next.acts) early in
      let core = row_core c me signer early s u row next at in
      let first : (after c s next.first).taken ≡ Some m = ap (λ (a : Act). (after c s a).taken) b.1 in
      record {
        early = done;
        point = earlier_from c me signer done rows u t rest;
        taken = ap (λ (x : Core). x.taken) core ∙ taken_follows c me next.acts (after c s next.first) u next.reacts.follows ∙ first;
        rests = subst (λ (x : Core). due c me x ≡ None) (sym core) next.reacts.rests;
      }

  signed_given : (p : Part) (early : List Act) (rows : List Row) (s t : Core) (w : IsLawfulFrom c me s rows t) → HasSigned p (acts_from c me signer early rows s t w) → HasSigned p early ⊎ HasGiven p rows
  signed_given p early [] s t w h = inl h
  signed_given p early (row ∷ rows) s t (u, next, rest) h = elim (signed_given p (pushed (next.first ∷ next.acts) early) rows u t rest h) [
    | inl here ↦ elim (signed_pushed p next.acts (next.first ∷ early) here) [
      | inl (inl first) ↦ absurd (begins_unsigned c row.input next.first p next.begins first)
      | inl (inr older) ↦ inl older
      | inr w ↦
          let o = own_output p w.0 w.2 in
          inr (row, o.0, inl refl, subst (λ (os : List Output). IsIn o.0 os) (sym next.outputs) (in_outputs w.0 o.0 next.acts w.1 o.1), o.2, o.3)
    ]
    | inr v ↦ inr (v.0, v.1, inr v.2, v.3, v.4, v.5)
  ]

  -- ---- each act does what is due

  -- an act that is no input does what is due before it
  abbrev pub DoesDue : List Act → Type 0
  DoesDue [] = Unit {0}
  DoesDue (a ∷ early) = IsReaction a → Fulfils c (core_after c signer early) (due c me (core_after c signer early)) a

  does_pushed : (x acts early : List Act) (t : Core) → Follows c me (core_after c signer early) acts t → IsEarlier x (pushed acts early) → IsEarlier x early ⊎ DoesDue x
  does_pushed x [] early t same h = inl h
  does_pushed x (a ∷ acts) early t (does, leaves, rest) h = elim (does_pushed x acts (a ∷ early) t rest h) [
    | inl (inl same) ↦ inr (subst DoesDue (sym same) (λ r. does))
    | inl (inr older) ↦ inl older
    | inr done ↦ inr done
  ]

  no_reaction : (input : Input) (a : Act) → Begins c input a → IsReaction a → ⊥
  no_reaction (Received m) a (reading, may, is) h = subst IsReaction is h
  no_reaction TimedOut a is h = subst IsReaction is h

  does_in : (x early : List Act) (rows : List Row) (s t : Core) (w : IsLawfulFrom c me s rows t) → core_after c signer early ≡ s → IsEarlier x (acts_from c me signer early rows s t w) → IsEarlier x early ⊎ DoesDue x
  does_in x early [] s t w at h = inl h
  does_in x early (row ∷ rows) s t (u, next, rest) at h =
      let done : List Act = pushed (next.first ∷ next.acts) early in
      elim (does_in x done rows u t rest (row_core c me signer early s u row next at) h) [
        | inr due_done ↦ inr due_done
        | inl here ↦ elim (does_pushed x next.acts (next.first ∷ early) u (row_follows c me signer early s u row next at) here) [
          | inl (inl same) ↦ inr (subst DoesDue (sym same) (λ r. absurd (no_reaction row.input next.first next.begins r)))
          | inl (inr older) ↦ inl older
          | inr due_done ↦ inr due_done
        ]
      ]

  does_all : (x early : List Act) (rows : List Row) (s t : Core) (w : IsLawfulFrom c me s rows t) → early ≡ [] → core_after c signer early ≡ s → IsEarlier x (acts_from c me signer early rows s t w) → DoesDue x
  does_all x early rows s t w none at h = elim (does_in x early rows s t w at h) [
    | inl first ↦ subst DoesDue (sym (subst (λ (acts : List Act). IsEarlier x acts) none first)) tt
    | inr done ↦ done
  ]

  -- ---- what was received in rows before

  -- The message came in this row, and what was taken before it in the rows before, which lead to the core that took it.
  pub record Split (m : Signed Body) (x early : List Act) (s : Core) (rows : List Row) : Type 0 where
    pub earlier : List Row
    pub row : Row
    pub later : List Row
    pub splits : rows ≡ earlier ++ row ∷ later
    pub came : row.input ≡ Received m
    pub leads : IsLawfulFrom c me s earlier (core_after c signer x)
    pub before_it : (p : Signed Body) → HasTaken p x → HasTaken p early ⊎ HasReceived p earlier

  -- acts that are no inputs take nothing
  react_pushed : (m : Signed Body) (r : Option Service) (x acts early : List Act) → AllByRecursion IsReaction acts → IsEarlier (Take m r ∷ x) (pushed acts early) → IsEarlier (Take m r ∷ x) early
  react_pushed m r x [] early all h = h
  react_pushed m r x (a ∷ acts) early all h = elim (react_pushed m r x acts (a ∷ early) all.1 h) [
    | inl same ↦ absurd (subst IsReaction (head m r x a early same) all.0)
    | inr older ↦ older
  ] where
    head : (m : Signed Body) (r : Option Service) (x : List Act) (a : Act) (early : List Act) → Take m r ∷ x ≡ a ∷ early → a ≡ Take m r
    head m r x a early e = cc

  split_in : (m : Signed Body) (r : Option Service) (x early : List Act) (rows : List Row) (s t : Core) (w : IsLawfulFrom c me s rows t) → core_after c signer early ≡ s
      → IsEarlier (Take m r ∷ x) (acts_from c me signer early rows s t w) → IsEarlier (Take m r ∷ x) early ⊎ Split m x early s rows
  split_in m r x early [] s t w start h = inl h
  split_in m r x early (row ∷ rows) s t (u, next, rest) start h =
      let done : List Act = pushed (next.first ∷ next.acts) early in
      let quiet = reactions c me signer next.acts (after c s next.first) u next.reacts.follows in
      elim (split_in m r x done rows u t rest (row_core c me signer early s u row next start) h) [
        | inr w ↦ inr (record {
          earlier = row ∷ w.earlier;
          row = w.row;
          later = w.later;
          splits = ap (λ (rs : List Row). row ∷ rs) w.splits;
          came = w.came;
          leads = (u, next, w.leads);
          before_it = λ p taken. elim (w.before_it p taken) [
            | inr later ↦ inr (later.0, inr later.1, later.2)
            | inl here ↦ elim (taken_before p next.acts (next.first ∷ early) quiet here) [
              | inl first ↦ inr (row, inl refl, begins_take c me signer row.input p first.0 next.first next.begins first.1)
              | inr older ↦ inl older
            ]
          ];
        })
        | inl here ↦ elim (react_pushed m r x next.acts (next.first ∷ early) quiet here) [
          | inr older ↦ inl older
          | inl same ↦ inr (record {
            earlier = [];
            row = row;
            later = rows;
            splits = refl;
            came = begins_take c me signer row.input m r next.first next.begins (first_is m r x next.first early same);
            leads = ap (core_after c signer) (rest_is m r x next.first early same) ∙ start;
            before_it = λ p taken. inl (subst (HasTaken p) (rest_is m r x next.first early same) taken);
          })
        ]
      ] where
        first_is : (m : Signed Body) (r : Option Service) (x : List Act) (a : Act) (early : List Act) → Take m r ∷ x ≡ a ∷ early → a ≡ Take m r
        first_is m r x a early e = cc

        rest_is : (m : Signed Body) (r : Option Service) (x : List Act) (a : Act) (early : List Act) → Take m r ∷ x ≡ a ∷ early → x ≡ early
        rest_is m r x a early e = cc

  -- ---- an installation is reported

  from_pushed : (b : Act) (x acts early : List Act) → IsEarlier (b ∷ x) (pushed acts early) → IsEarlier (b ∷ x) early ⊎ IsIn b acts
  from_pushed b x [] early h = inl h
  from_pushed b x (a ∷ acts) early h = elim (from_pushed b x acts (a ∷ early) h) [
    | inl (inl same) ↦ inr (inl (head b a x early same))
    | inl (inr older) ↦ inl older
    | inr later ↦ inr (inr later)
  ] where
    head : (b a : Act) (xs ys : List Act) → b ∷ xs ≡ a ∷ ys → b ≡ a
    head b a xs ys e = cc

  in_done : (a : Act) (done : Done) (acts : List Act) → IsIn a acts → IsIn done (done_of c a) → IsIn done (all_done c acts)
  in_done a done [] none h = absurd none
  in_done a done (b ∷ acts) (inl same) h = in_append_left done (done_of c b) (all_done c acts) (subst (λ (x : Act). IsIn done (done_of c x)) same h)
  in_done a done (b ∷ acts) (inr later) h = in_append_right done (done_of c b) (all_done c acts) (in_done a done acts later h)

  no_installation : (input : Input) (a : Act) (k : ℕ) (b : List ℕ) (t : Service) → Begins c input a → Install k b t ≡ a → ⊥
  no_installation (Received m) a k b t (reading, may, is) e = let both : Install k b t ≡ Take m reading = e ∙ is in absurd cc
  no_installation TimedOut a k b t is e = let both : Install k b t ≡ Timeout = e ∙ is in absurd cc

  installed_in : (k : ℕ) (b : List ℕ) (y : Service) (x early : List Act) (rows : List Row) (s t : Core) (w : IsLawfulFrom c me s rows t) → IsEarlier (Install k b y ∷ x) (acts_from c me signer early rows s t w)
      → IsEarlier (Install k b y ∷ x) early ⊎ HasDone (Installed k (c.hash b)) rows
  installed_in k b y x early [] s t w h = inl h
  installed_in k b y x early (row ∷ rows) s t (u, next, rest) h = elim (installed_in k b y x (pushed (next.first ∷ next.acts) early) rows u t rest h) [
    | inl here ↦ elim (from_pushed (Install k b y) x (next.first ∷ next.acts) early here) [
      | inl older ↦ inl older
      | inr (inl first) ↦ absurd (no_installation row.input next.first k b y next.begins first)
      | inr (inr within) ↦
          inr (row, inl refl, subst (λ (ds : List Done). IsIn (Installed k (c.hash b)) ds) (sym next.done) (in_done (Install k b y) (Installed k (c.hash b)) next.acts within (inl refl)))
    ]
    | inr (row', later, done) ↦ inr (row', inr later, done)
  ]

  none_installed : (k : ℕ) (b : List ℕ) (y : Service) (x : List Act) → Install k b y ∷ x ≡ [] → ⊥
  none_installed k b y x e = cc

  -- A journal's history, which ends in this core.
  pub record Life (rows : List Row) (s : Core) : Type 0 where
    pub acts : List Act
    pub is : IsHistory c me signer acts
    pub core_is : core_after c signer acts ≡ s
    pub takes : (m : Signed Body) → HasReceived m rows → TakenAt m acts
    pub hears : (m : Signed Body) → HasReceived m rows → Heard m acts
    pub received : (m : Signed Body) → HasTaken m acts → HasReceived m rows
    pub gives : (p : Part) → HasSigned p acts → HasGiven p rows
    pub signs : (p : Part) → HasGiven p rows → HasSigned p acts
    pub does : (x : List Act) → IsEarlier x acts → DoesDue x
    pub reports : (n : ℕ) (d : List ℕ) (t : Service) (o : Outcome) (early : List Act) → IsEarlier (Execute n d t o ∷ early) acts → HasDone (Executed n d (result_of o.reply)) rows
    pub runs : (n : ℕ) (d : List ℕ) (t : Service) (o : Outcome) (early : List Act) → IsEarlier (Execute n d t o ∷ early) acts → RunsTo c me (start_of c signer) rows t
    pub splits : (m : Signed Body) (r : Option Service) (x : List Act) → IsEarlier (Take m r ∷ x) acts → Split m x [] (start_of c signer) rows
    pub installs : (k : ℕ) (b : List ℕ) (t : Service) (x : List Act) → IsEarlier (Install k b t ∷ x) acts → HasDone (Installed k (c.hash b)) rows
    pub did : (done : Done) → HasDone done rows → (a : Act) × (early : List Act) × IsEarlier (a ∷ early) acts × IsIn done (done_of c a)

  nothing : (n : ℕ) (d : List ℕ) (t : Service) (o : Outcome) (early : List Act) → Execute n d t o ∷ early ≡ [] → ⊥
  nothing n d t o early e = cc

  never : (m : Signed Body) (r : Option Service) (x : List Act) → Take m r ∷ x ≡ [] → ⊥
  never m r x e = cc

  pub life : (rows : List Row) (s : Core) → IsLawfulFrom c me (start_of c signer) rows s → Life rows s
  life rows s w = record {
    acts = acts_from c me signer [] rows (start_of c signer) s w;
    is = history_from c me signer [] rows (start_of c signer) s w refl tt;
    core_is = core_from c me signer [] rows (start_of c signer) s w refl;
    takes = λ m h. taken_in m [] rows (start_of c signer) s w h;
    hears = λ m h. heard_in m [] rows (start_of c signer) s w refl h;
    received = λ m h. elim (taken_from c me signer m [] rows (start_of c signer) s w h) [ inl none ↦ absurd none | inr is ↦ is ];
    gives = λ p h. elim (signed_given p [] rows (start_of c signer) s w h) [ inl none ↦ absurd none | inr is ↦ is ];
    signs = λ p h. given_from c me signer p [] rows (start_of c signer) s w h;
    does = λ x h. does_all x [] rows (start_of c signer) s w refl refl h;
    reports = λ n d t o early h. elim (execution_reported c me signer n d t o early [] rows (start_of c signer) s w h) [ inl none ↦ absurd (nothing n d t o early none) | inr done ↦ done ];
    runs = λ n d t o early h. elim (executed_from c me signer n d t o early [] rows (start_of c signer) s w h) [ inl none ↦ absurd (nothing n d t o early none) | inr run ↦ run ];
    splits = λ m r x h. elim (split_in m r x [] rows (start_of c signer) s w refl h) [ inl none ↦ absurd (never m r x none) | inr at ↦ at ];
    installs = λ k b y x h. elim (installed_in k b y x [] rows (start_of c signer) s w h) [ inl none ↦ absurd (none_installed k b y x none) | inr done ↦ done ];
    did = λ done h. done_from c me signer done [] rows (start_of c signer) s w h;
  }
