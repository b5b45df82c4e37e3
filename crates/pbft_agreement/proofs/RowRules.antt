-- Rules that the rows of a lawful journal show.
use Rattle.std.proofs.Common.{◌≡◌, ◌⊎◌, ℕ, ◌≤◌, true, false, Bool, List, [], ◌∷◌, ◌++◌, None, refl, sym, ap, subst, ◌∙◌, arith, inl, inr}
use Rattle.std.specs.Prelude.{IfSome}
use Rattle.std.proofs.lemmas.Bool.{true≢false}
use Rattle.pbft_model.specs.Words.{SigningState, Signed, Body, PrePrepare, Checkpoint, NewView, Part, as_message, part_of}
use Rattle.pbft_codec.specs.declared.body.Body.TheVariants as bodies
use Rattle.pbft_model.specs.Setup.{Setup}
use Rattle.pbft_model.specs.Certificates.{Fields, of_pre_prepare}
use Rattle.pbft_model.specs.Core.{Core, start_of}
use Rattle.pbft_model.specs.Acts.{Act, Destination, Take, Timeout, Send, Relay, Enter, Rise, Execute, Install, after}
use Rattle.pbft_model.specs.Rules.{MaySay}
use Rattle.pbft_model.specs.Duties.{Duty, when, due, due_checkpoint, due_reply, due_on_timeout}
use Rattle.pbft_model.specs.Rows.{Row, Input, Received, TimedOut, Output, Done, Executed, Fulfils, Begins, Follows, IsNext, IsLawfulFrom, outputs_of, all_outputs, done_of, all_done, result_of}
use Rattle.pbft_model.specs.Histories.{core_after, IsHistory, IsEarlier, IsIn, signed_in, listed_in}
use Rattle.pbft_model.specs.Families.{Family}
use Rattle.pbft_agreement.specs.RowRules.{HasVouched, HasOneVoice, view_of, KeepsViews, ChecksWhereExecuted}
use Rattle.pbft_model.proofs.Events.{now, holds_on}
use Rattle.pbft_model.proofs.Entries.{from_append}
use Rattle.pbft_model.proofs.Found.{no_some, from_map, in_append_left, in_append_right}
use Rattle.pbft_model.proofs.Origins.{Keeps, recorded_keeps, said_keeps, left_keeps}
use Rattle.pbft_model.proofs.Stages.{view_up}
use Rattle.pbft_model.proofs.Voices.{Led, Vouched, vouched_one, led_part, prepare_part, listed_fields}
use Rattle.pbft_model.proofs.Rowed.{due_allowed, begun}
use Rattle.pbft_model.proofs.Following.{or_none}
use Rattle.pbft_agreement.proofs.Reporting.{pushed, earlier_pushed, acts_from, core_from, core_follows, history_from, history_follows, given_from, sends}
use Rattle.pbft_agreement.proofs.Within.{giving, follows_first, follows_rest}

module _ (c : Setup) (me : ℕ) (signer : SigningState) where
  -- ---- one voice

  -- a family of one history
  abbrev lone : List Act → Family
  lone acts = record { faulty = λ i. false; signer = λ i. signer; acts = λ i. acts }

  abbrev IsMe : ℕ → Type 0
  IsMe i = me ≡ i

  mine : (acts : List Act) → IsHistory c me signer acts → (i : ℕ) → IsMe i → IsHistory c i signer acts
  mine acts is i same = subst (λ (k : ℕ). IsHistory c k signer acts) same is

  vouched : (rows : List Row) (last : Core) (w : IsLawfulFrom c me (start_of c signer) rows last) (is : IsHistory c me signer (acts_from c me signer [] rows (start_of c signer) last w)) (x : Fields)
      → HasVouched x rows → let acts = acts_from c me signer [] rows (start_of c signer) last w in Vouched c (lone acts) IsMe (mine acts is) me x
  vouched rows last w is x (inl (b, (p, given, body), same)) =
      let acts = acts_from c me signer [] rows (start_of c signer) last w in
      inl (subst (λ (y : Fields). Led c (lone acts) IsMe (mine acts is) me y) same
      (led_part c (lone acts) IsMe (mine acts is) me p b body refl (given_from c me signer p [] rows (start_of c signer) last w given)))
  vouched rows last w is x (inr (b, (p, given, body), same)) =
      let acts = acts_from c me signer [] rows (start_of c signer) last w in
      inr (b, prepare_part c (lone acts) IsMe (mine acts is) me p b body refl (given_from c me signer p [] rows (start_of c signer) last w given), same)

  pub one_voice : (rows : List Row) (last : Core) → IsLawfulFrom c me (start_of c signer) rows last → HasOneVoice rows
  one_voice rows last w x y h k view number =
      let acts = acts_from c me signer [] rows (start_of c signer) last w in
      let is = history_from c me signer [] rows (start_of c signer) last w refl tt in
      ap (λ (f : Fields). f.digest) (vouched_one c (lone acts) IsMe (mine acts is) me x y refl (vouched rows last w is x h) (vouched rows last w is y k) view number)

  -- ---- views

  view_rises : (x acts : List Act) → IsEarlier x acts → IsHistory c me signer acts → (core_after c signer x).view ≤ (core_after c signer acts).view
  view_rises x acts at is =
      holds_on c me signer (λ s. (core_after c signer x).view ≤ s.view) (λ s a low ok le. let up = view_up c me s a low ok in omega arith) x acts at is (omega arith)

  -- a history that ends in a core
  record Ends (s : Core) : Type 0 where
    acts : List Act
    is : IsHistory c me signer acts
    core_is : core_after c signer acts ≡ s

  ends : (rows : List Row) (s : Core) → IsLawfulFrom c me (start_of c signer) rows s → Ends s
  ends rows s w = record {
    acts = acts_from c me signer [] rows (start_of c signer) s w;
    is = history_from c me signer [] rows (start_of c signer) s w refl tt;
    core_is = core_from c me signer [] rows (start_of c signer) s w refl;
  }

  -- a later one, whose view is no lower
  record Later (s t : Core) : Type 0 where
    history : Ends t
    up : s.view ≤ t.view

  follows_later : (s t : Core) (acts : List Act) → Ends s → Follows c me s acts t → Later s t
  follows_later s t acts w follows =
      let there = subst (λ (x : Core). Follows c me x acts t) (sym w.core_is) follows in
      let is = history_follows c me signer acts w.acts t w.is there in
      let core_is = core_follows c me signer acts w.acts t there in
      let rises = view_rises w.acts (pushed acts w.acts) (earlier_pushed acts w.acts) is in
      record {
        history = record { acts = pushed acts w.acts; is = is; core_is = core_is };
        up = subst (λ (x : Core). s.view ≤ x.view) core_is (subst (λ (x : Core). x.view ≤ (core_after c signer (pushed acts w.acts)).view) w.core_is rises);
      }

  begins_later : (s : Core) (row : Row) (last : Core) (next : IsNext c me s row last) → Ends s → Later s (after c s next.first)
  begins_later s row last next w =
      let is : IsHistory c me signer (next.first ∷ w.acts) = (w.is, begun c me signer (core_after c signer w.acts) row.input next.first next.begins) in
      let core_is : core_after c signer (next.first ∷ w.acts) ≡ after c s next.first = ap (λ (x : Core). after c x next.first) w.core_is in
      let rises = view_rises w.acts (next.first ∷ w.acts) (inr (now w.acts)) is in
      record {
        history = record { acts = next.first ∷ w.acts; is = is; core_is = core_is };
        up = subst (λ (x : Core). s.view ≤ x.view) core_is (subst (λ (x : Core). x.view ≤ (core_after c signer (next.first ∷ w.acts)).view) w.core_is rises);
      }

  later_trans : (s t u : Core) → Later s t → Later t u → Later s u
  later_trans s t u h k = let a = h.up in let b = k.up in record { history = k.history; up = omega arith }

  to_point : (s t : Core) (row : Row) (last : Core) (next : IsNext c me s row last) (acts : List Act) → Ends s → Follows c me (after c s next.first) acts t → Later s t
  to_point s t row last next acts w follows =
      let first = begins_later s row last next w in
      later_trans s (after c s next.first) t first (follows_later (after c s next.first) t acts first.history follows)

  rows_later : (rows : List Row) (s t : Core) → Ends s → IsLawfulFrom c me s rows t → Later s t
  rows_later [] s t w same = subst (Later s) (sym same) (record { history = w; up = omega arith })
  rows_later (row ∷ rows) s t w (u, next, rest) =
      let one = to_point s u row u next next.acts w next.reacts.follows in
      later_trans s u t one (rows_later rows u t one.history rest)

  -- ---- what an own message says of views

  abbrev NotLeft : Core → Part → Type 0
  NotLeft t p = IfSome (view_of p.body) (λ view. t.view ≤ view)

  own_view : (t : Core) (b : Body) → MaySay c me t b → IfSome (view_of b) (λ view. t.view ≤ view)
  own_view t (bodies.PrePrepare b) says = let same = says.inside.view_is in omega arith
  own_view t (bodies.Prepare b) says = let same = says.inside.view_is in omega arith
  own_view t (bodies.Commit b) says = let same = says.inside.view_is in omega arith
  own_view t (bodies.Reply b) says = let same = says.view_is in omega arith
  own_view t (bodies.ViewChange b) says = let higher = says.higher in omega arith
  own_view t (bodies.NewView b) says = let same : b.view.0 ≡ t.view = ap (λ (n : NewView). n.view.0) says.is in omega arith
  own_view t _ says = tt

  listed_view : (t : Core) (w : Ends t) (b : Body) → MaySay c me t b → (q : Signed PrePrepare) → IsIn q (listed_in b) → t.view ≤ q.body.view.0
  listed_view t w (bodies.NewView b) says q h =
      let same : b.view.0 ≡ t.view = ap (λ (n : NewView). n.view.0) says.is in
      let fields = listed_fields c (lone w.acts) IsMe (mine w.acts w.is) b q (of_pre_prepare q.body) says.valid h refl in
      let listed : q.body.view.0 ≡ b.view.0 = fields.0 in omega arith
  listed_view t w _ says q h = absurd h

  signed_view : (t : Core) (w : Ends t) (m : Signed Body) → MaySay c me t m.body → (p : Part) → IsIn p (signed_in m) → NotLeft t p
  signed_view t w m says p (inl same) = subst (NotLeft t) (sym same) (own_view t m.body says)
  signed_view t w m says p (inr listed) =
      let v = from_map (λ (q : Signed PrePrepare). part_of (as_message bodies.PrePrepare q)) (listed_in m.body) p listed in
      subst (NotLeft t) (sym v.2) (listed_view t w m.body says v.0 v.1)

  -- ---- where an own message is sent

  may_say : (t : Core) (w : Ends t) (to : Destination) (m : Signed Body) (later : List Act) (last : Core) → Follows c me t (Send to m ∷ later) last → MaySay c me t m.body
  may_say t w to m later last (does, leaves, rest) =
      let does' : Fulfils c (core_after c signer w.acts) (due c me (core_after c signer w.acts)) (Send to m) = subst (λ (x : Core). Fulfils c x (due c me x) (Send to m)) (sym w.core_is) does in
      let ok = due_allowed c me signer w.acts w.is (Send to m) does' in
      subst (λ (x : Core). MaySay c me x m.body) w.core_is ok.says

  -- the acts of a row from a point on
  from_point : (s t : Core) (row : Row) (last : Core) (next : IsNext c me s row last) (xs ys : List Act) → next.acts ≡ xs ++ ys → Follows c me (after c s next.first) xs t → Follows c me t ys last
  from_point s t row last next xs ys splits follows =
      follows_rest c me xs ys (after c s next.first) last t (subst (λ (zs : List Act). Follows c me (after c s next.first) zs last) splits next.reacts.follows) follows

  pub keeps_views : (rows : List Row) (s : Core) → IsLawfulFrom c me (start_of c signer) rows s → KeepsViews c me s
  keeps_views rows s lawful = record {
    later = λ more t w. (rows_later more s t here w).up;
    within = λ row t w. (to_point s t row w.last w.next w.acts here w.follows).up;
    rises = λ row t w acts u follows. (follows_later t u acts (to_point s t row w.last w.next w.acts here w.follows).history follows).up;
    signed = λ row output sent p within.
        let point = to_point s sent.from row sent.last sent.next sent.earlier here sent.follows in
        let on = from_point s sent.from row sent.last sent.next sent.earlier (Send output.to output.message ∷ sent.later) sent.splits sent.follows in
        signed_view sent.from point.history output.message (may_say sent.from point.history output.to output.message sent.later sent.last on) p within;
  } where
    here : Ends s
    here = ends rows s lawful

  -- ---- Checkpoints

  -- no Checkpoint is due, or the number reached last was executed
  abbrev Checks : (Done → Type 0) → Core → Type 0
  Checks P t = (t.checkpoint_due ≡ false) ⊎ ((digest result : List ℕ) × P (Executed t.executed digest result))

  checks_keep : (P : Done → Type 0) (s t : Core) → Keeps s t → Checks P s → Checks P t
  checks_keep P s t k h = elim k.checkpoint [
    | inl sent ↦ inl sent
    | inr same ↦ elim h [
      | inl none ↦ inl (same ∙ none)
      | inr (d, r, is) ↦ inr (d, r, subst (λ (n : ℕ). P (Executed n d r)) (sym k.number) is)
    ]
  ]

  keeps : (s t : Core) → t.executed ≡ s.executed → t.service ≡ s.service → t.reply_due ≡ s.reply_due → t.checkpoint_due ≡ s.checkpoint_due → Keeps s t
  keeps s t a b d e = record { number = a; service = b; reply = inr d; checkpoint = inr e }

  checks_by : (P : Done → Type 0) (s : Core) (a : Act) → ((done : Done) → IsIn done (done_of c a) → P done) → Checks P s → Checks P (after c s a)
  checks_by P s (Take m r) all h = let k = recorded_keeps c s m m.body in checks_keep P s (after c s (Take m r)) (record { number = k.number; service = k.service; reply = k.reply; checkpoint = k.checkpoint }) h
  checks_by P s Timeout all h = checks_keep P s (after c s Timeout) (keeps s (after c s Timeout) refl refl refl refl) h
  checks_by P s (Send to m) all h = let k = said_keeps c s m m.body in checks_keep P s (after c s (Send to m)) (record { number = k.number; service = k.service; reply = k.reply; checkpoint = k.checkpoint }) h
  checks_by P s (Relay to m) all h = checks_keep P s (after c s (Relay to m)) (keeps s (after c s (Relay to m)) refl refl refl refl) h
  checks_by P s (Enter m) all h = let k = left_keeps c s m.body.view.0 in checks_keep P s (after c s (Enter m)) (record { number = k.number; service = k.service; reply = k.reply; checkpoint = k.checkpoint }) h
  checks_by P s (Rise n d) all h = checks_keep P s (after c s (Rise n d)) (keeps s (after c s (Rise n d)) refl refl refl refl) h
  checks_by P s (Execute n d t o) all h = inr (d, result_of o.reply, all (Executed n d (result_of o.reply)) (inl refl))
  checks_by P s (Install n b t) all h = inl refl

  checks_follow : (P : Done → Type 0) (acts : List Act) (s t : Core) → ((done : Done) → IsIn done (all_done c acts) → P done) → Checks P s → Follows c me s acts t → Checks P t
  checks_follow P [] s t all h same = subst (Checks P) (sym same) h
  checks_follow P (a ∷ acts) s t all h (does, leaves, rest) =
      checks_follow P acts (after c s a) t (λ done within. all done (in_append_right done (done_of c a) (all_done c acts) within))
      (checks_by P s a (λ done within. all done (in_append_left done (done_of c a) (all_done c acts) within)) h) rest

  begins_checks : (P : Done → Type 0) (s : Core) (input : Input) (a : Act) → Begins c input a → s.checkpoint_due ≡ false → Checks P (after c s a)
  begins_checks P s (Received m) a (reading, may, is) none =
      subst (λ (x : Act). Checks P (after c s x)) (sym is) (checks_by P s (Take m reading) (λ done h. absurd h) (inl none))
  begins_checks P s TimedOut a is none = subst (λ (x : Act). Checks P (after c s x)) (sym is) (inl none)

  unless_due : (b : Bool) (d : Duty) → when b d ≡ None → b ≡ false
  unless_due true d e = no_some d (sym e)
  unless_due false d e = refl

  -- where nothing is due, no Checkpoint is
  rests_checked : (s : Core) → due c me s ≡ None → s.checkpoint_due ≡ false
  rests_checked s e =
      let a = or_none (due_on_timeout c me s) _ e in
      let b = or_none (due_reply me s s.reply_due) _ a.1 in
      let d = or_none (due_checkpoint c me s) _ b.1 in
      unless_due s.checkpoint_due _ d.0

  done_first : (xs ys : List Act) (done : Done) → IsIn done (all_done c xs) → IsIn done (all_done c (xs ++ ys))
  done_first [] ys done h = absurd h
  done_first (a ∷ xs) ys done h = elim (from_append done (done_of c a) (all_done c xs) h) [
    | inl here ↦ in_append_left done (done_of c a) (all_done c (xs ++ ys)) here
    | inr later ↦ in_append_right done (done_of c a) (all_done c (xs ++ ys)) (done_first xs ys done later)
  ]

  abbrev Executes : ℕ → Row → Type 0
  Executes number row = (digest result : List ℕ) × IsIn (Executed number digest result) row.done

  checked : (s last : Core) (row : Row) (next : IsNext c me s row last) → Ends s → s.checkpoint_due ≡ false → (output : Output) (b : Checkpoint) → IsIn output row.outputs → output.own ≡ true
      → output.message.body ≡ bodies.Checkpoint b → Executes b.number.0 row
  checked s last row next w none output b within own body =
      let g = giving outputs_of all_outputs refl (λ a later. refl) output next.acts (subst (λ (os : List Output). IsIn output os) next.outputs within) in
      let send = sends c me signer output g.act g.gives own in
      let splits : next.acts ≡ g.earlier ++ Send output.to output.message ∷ g.later = g.splits ∙ ap (λ (a : Act). g.earlier ++ a ∷ g.later) send in
      let f = follows_first c me g.earlier (Send output.to output.message ∷ g.later) (after c s next.first) last (subst (λ (zs : List Act). Follows c me (after c s next.first) zs last) splits next.reacts.follows) in
      let point = to_point s f.0 row last next g.earlier w f.1 in
      let says = may_say f.0 point.history output.to output.message g.later last (from_point s f.0 row last next g.earlier (Send output.to output.message ∷ g.later) splits f.1) in
      let ok : MaySay c me f.0 (bodies.Checkpoint b) = subst (λ (x : Body). MaySay c me f.0 x) body says in
      let P : Done → Type 0 = λ done. IsIn done row.done in
      let all : (done : Done) → IsIn done (all_done c g.earlier) → P done =
      λ done h. subst (λ (ds : List Done). IsIn done ds) (sym (next.done ∙ ap (all_done c) splits)) (done_first g.earlier (Send output.to output.message ∷ g.later) done h) in
      elim (checks_follow P g.earlier (after c s next.first) f.0 all (begins_checks P s row.input next.first next.begins none) f.1) [
        | inl none_due ↦ absurd (true≢false (sym ok.due ∙ none_due))
        | inr (d, r, is) ↦ (d, r, subst (λ (n : ℕ). P (Executed n d r)) (sym ok.number_is) is)
      ]

  checked_rows : (rows : List Row) (s last : Core) → IsLawfulFrom c me s rows last → Ends s → s.checkpoint_due ≡ false → ChecksWhereExecuted rows
  checked_rows [] s last w e none row output b at within own body = absurd at
  checked_rows (r ∷ rows) s last (u, next, rest) e none row output b (inl same) within own body =
      subst (Executes b.number.0) (sym same) (checked s u r next e none output b (subst (λ (x : Row). IsIn output x.outputs) same within) own body)
  checked_rows (r ∷ rows) s last (u, next, rest) e none row output b (inr later) within own body =
      checked_rows rows u last rest (to_point s u r u next next.acts e next.reacts.follows).history (rests_checked u next.reacts.rests) row output b later within own body

  pub checks_where_executed : (rows : List Row) (last : Core) → IsLawfulFrom c me (start_of c signer) rows last → ChecksWhereExecuted rows
  checks_where_executed rows last w = checked_rows rows (start_of c signer) last w (record { acts = []; is = tt; core_is = refl }) refl
