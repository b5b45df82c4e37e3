-- An input gives a row or a halt, and not both.
use Rattle.std.proofs.Common.{◌≡◌, ◌⊎◌, ℕ, arith, inl, inr, List, [], ◌∷◌, ◌++◌, Option, Some, None, refl, sym, ap, subst}
use Rattle.pbft_model.specs.Setup.{Setup}
use Rattle.pbft_model.specs.Core.{Core}
use Rattle.pbft_model.specs.Acts.{Act, after}
use Rattle.pbft_model.specs.Duties.{Duty, Do, Executing, WornOut, due}
use Rattle.pbft_model.specs.Rows.{Row, Input, Halt, Exhausted, Worn, Fulfils, HasLeaves, Follows, Begins, Continues, HaltsBy, IsNext, Lacks, all_outputs, all_done, all_leaves, leaves_for}
use Rattle.pbft_model.proofs.Unique.{one_act, one_beginning}

module _ (c : Setup) (me : ℕ) where
  -- ---- what comes next

  pub follows_more : (acts : List Act) (s t : Core) (a : Act) → Follows c me s acts t → Fulfils c t (due c me t) a → HasLeaves t a → Follows c me s (acts ++ a ∷ []) (after c t a)
  follows_more [] s t a is does leaves = (subst (λ u. Fulfils c u (due c me u) a) is does, subst (λ u. HasLeaves u a) is leaves, ap (λ u. after c u a) is)
  follows_more (b ∷ acts) s t a (first, enough, rest) does leaves = (first, enough, follows_more acts (after c s b) t a rest does leaves)

  abbrev pub Outcome : Core → Input → Act → List Act → Core → Type 0
  Outcome s input first acts t =
      ((row : Row) × (row.input ≡ input) × IsNext c me s row t)
      ⊎ (((a : Act) × Follows c me (after c s first) (acts ++ a ∷ []) (after c t a))
      ⊎ ((halt : Halt) × HaltsBy c me s input halt))

  pub what_comes : (s : Core) (input : Input) (first : Act) (acts : List Act) (t : Core) → Begins c input first → Follows c me (after c s first) acts t → Continues c me t → Outcome s input first acts t
  what_comes s input first acts t begins follows (inl rests) =
      inl (
        record { input = input; outputs = all_outputs acts; done = all_done c acts; leaves = all_leaves acts },
        refl,
        record { first = first; acts = acts; begins = begins; reacts = record { follows = follows; rests = rests }; outputs = refl; done = refl; leaves = refl },
      )
  what_comes s input first acts t begins follows (inr (inl (a, does, leaves))) = inr (inl (a, follows_more acts (after c s first) t a follows does leaves))
  what_comes s input first acts t begins follows (inr (inr (halt, lacks))) =
      inr (inr (halt, record { first = first; acts = acts; last = t; begins = begins; follows = follows; lacks = lacks }))

  -- ---- a row and a halt

  nothing_lacks : (s : Core) (o : Option Duty) (halt : Halt) → o ≡ None → Lacks s o halt → ⊥
  nothing_lacks s o halt e h = subst (λ (x : Option Duty). Lacks s x halt) e h

  nothing_does : (s : Core) (o : Option Duty) (a : Act) → o ≡ None → Fulfils c s o a → ⊥
  nothing_does s o a e h = subst (λ (x : Option Duty). Fulfils c s x a) e h

  -- what halts is not done
  done_or_lacking : (s : Core) (o : Option Duty) (a : Act) (halt : Halt) → Fulfils c s o a → HasLeaves s a → Lacks s o halt → ⊥
  done_or_lacking s None a halt does leaves lacks = absurd does
  done_or_lacking s (Some (Do b)) a Exhausted does leaves lacks =
      let same : leaves_for a ≡ leaves_for b = ap leaves_for does in
      absurd (omega (arith, leaves, lacks, same))
  done_or_lacking s (Some (Do b)) a Worn does leaves lacks = absurd lacks
  done_or_lacking s (Some (Executing n d)) a halt does leaves lacks = absurd lacks
  done_or_lacking s (Some WornOut) a halt does leaves lacks = absurd does

  rest_or_halt : (acts others : List Act) (s t u : Core) (halt : Halt) → Follows c me s acts t → due c me t ≡ None → Follows c me s others u → Lacks u (due c me u) halt → ⊥
  rest_or_halt [] [] s t u halt h e k f = nothing_lacks s (due c me s) halt (subst (λ (x : Core). due c me x ≡ None) h e) (subst (λ (x : Core). Lacks x (due c me x) halt) k f)
  rest_or_halt [] (a ∷ others) s t u halt h e (does, leaves, rest) f = nothing_does s (due c me s) a (subst (λ (x : Core). due c me x ≡ None) h e) does
  rest_or_halt (a ∷ acts) [] s t u halt (does, leaves, rest) e k f = done_or_lacking s (due c me s) a halt does leaves (subst (λ (x : Core). Lacks x (due c me x) halt) k f)
  rest_or_halt (a ∷ acts) (b ∷ others) s t u halt (does, leaves, rest) e (does', leaves', rest') f =
      let same = one_act c me s (due c me s) a b does does' in
      rest_or_halt acts others (after c s a) t u halt rest e (subst (λ (x : Act). Follows c me (after c s x) others u) (sym same) rest') f

  pub row_or_halt : (s t : Core) (row : Row) (halt : Halt) → IsNext c me s row t → HaltsBy c me s row.input halt → ⊥
  row_or_halt s t row halt n h =
      let first = one_beginning c me row.input n.first h.first n.begins h.begins in
      rest_or_halt n.acts h.acts (after c s n.first) t h.last halt n.reacts.follows n.reacts.rests (subst (λ (x : Act). Follows c me (after c s x) h.acts h.last) (sym first) h.follows) h.lacks

  -- ---- one halt

  one_lack : (s : Core) (o : Option Duty) (halt halt' : Halt) → Lacks s o halt → Lacks s o halt' → halt ≡ halt'
  one_lack s None halt halt' h k = absurd h
  one_lack s (Some (Do a)) Exhausted Exhausted h k = refl
  one_lack s (Some (Do a)) Exhausted Worn h k = absurd k
  one_lack s (Some (Do a)) Worn halt' h k = absurd h
  one_lack s (Some (Executing n d)) halt halt' h k = absurd h
  one_lack s (Some WornOut) Worn Worn h k = refl
  one_lack s (Some WornOut) Worn Exhausted h k = absurd k
  one_lack s (Some WornOut) Exhausted halt' h k = absurd h

  halts_alike : (acts others : List Act) (s t u : Core) (halt halt' : Halt) → Follows c me s acts t → Lacks t (due c me t) halt → Follows c me s others u → Lacks u (due c me u) halt' → halt ≡ halt'
  halts_alike [] [] s t u halt halt' h l k f = one_lack s (due c me s) halt halt' (subst (λ (x : Core). Lacks x (due c me x) halt) h l) (subst (λ (x : Core). Lacks x (due c me x) halt') k f)
  halts_alike [] (b ∷ others) s t u halt halt' h l (does, leaves, rest) f = absurd (done_or_lacking s (due c me s) b halt does leaves (subst (λ (x : Core). Lacks x (due c me x) halt) h l))
  halts_alike (a ∷ acts) [] s t u halt halt' (does, leaves, rest) l k f = absurd (done_or_lacking s (due c me s) a halt' does leaves (subst (λ (x : Core). Lacks x (due c me x) halt') k f))
  halts_alike (a ∷ acts) (b ∷ others) s t u halt halt' (does, leaves, rest) l (does', leaves', rest') f =
      let same = one_act c me s (due c me s) a b does does' in
      halts_alike acts others (after c s a) t u halt halt' rest l (subst (λ (x : Act). Follows c me (after c s x) others u) (sym same) rest') f

  pub one_halt : (s : Core) (input : Input) (halt halt' : Halt) → HaltsBy c me s input halt → HaltsBy c me s input halt' → halt ≡ halt'
  one_halt s input halt halt' h k =
      let first = one_beginning c me input h.first k.first h.begins k.begins in
      halts_alike h.acts k.acts (after c s h.first) h.last k.last halt halt' h.follows h.lacks (subst (λ (x : Act). Follows c me (after c s x) k.acts k.last) (sym first) k.follows) k.lacks
