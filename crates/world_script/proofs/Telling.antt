-- What one who watches is told, event by event.
use Rattle.std.proofs.Common.{◌≡◌, ℕ, zero, suc, ◌+◌, ◌<◌, ◌≤◌, Bool, true, false, cond, List, [], ◌∷◌, ◌++◌, length, get_or, take, map, Option, Some, None, Ok, refl, sym, ap, subst, ◌∙◌, inl, inr, arith, if◌then◌else◌}
use Rattle.std.specs.Prelude.{◌⊎◌, filter, slice_get}
use Rattle.std.proofs.lemmas.List.{append-nil, append_assoc, map-append, take_all, take_more}
use Rattle.std.proofs.lemmas.List.Elements.{filter-append}
use Rattle.std.proofs.lemmas.Option.{slice_get_cases}
use Rattle.host_types.specs.declared.ReplicaId.{ReplicaId}
use Rattle.drained_records.specs.Event.TheVariants as events
use Rattle.drained_records.specs.Facts.{RowFacts}
use Rattle.drained_records.specs.Status.{Status}
use Rattle.drained_records.specs.Worlds.{Where}
use Rattle.script_text.specs.Node.TheVariants.{Replica}
use Rattle.script_text.specs.declared.script.DeliveryOrder.{DeliveryOrder}
use Rattle.script_text.specs.declared.script.Filter.{Filter}
use Rattle.world_queue.specs.Letters.{LetterFacts, is_meant, meant_one}
use Rattle.world_script.specs.Facts.{StageFacts}
use Rattle.world_script.specs.Parts.{Expires, Happened, Takes, TellsFate, TellsHanding, TellsTimeout, TellsTimeouts}
use Rattle.world_script.specs.Seen as seen
use Rattle.world_script.specs.Seen.{Seen, Tells, deliveries_seen, expiring, row_where, standing, timeouts_seen}
use Rattle.world_script.specs.Stages.{AllTimeOut, Deliveries, Occurs, Receives, TimesOut, Turn, fate_at, is_running, quiet}

-- ---- one after another

module _ (told : List Seen → Type 0) where
  pub told_none : Tells told [] told
  told_none before is = subst told (sym (append-nil before)) is

module _ (a b c : List Seen → Type 0) (xs : List Seen) where
  pub told_more : (ys : List Seen) → Tells a xs b → Tells b ys c → Tells a (xs ++ ys) c
  told_more ys one other before is = subst c (append_assoc before xs ys) (other (before ++ xs) (one before is))

  -- Nothing more is told.
  pub told_still : Tells a xs b → Tells b [] c → Tells a xs c
  told_still one other before is = subst c (append-nil (before ++ xs)) (other (before ++ xs) (one before is))

-- Nothing is told before.
pub told_first : (a b c : List Seen → Type 0) (ys : List Seen) → Tells a [] b → Tells b ys c → Tells a ys c
told_first a b c ys one other before is = subst (λ (xs : List Seen). c (xs ++ ys)) (append-nil before) (other (before ++ []) (one before is))

-- ---- a replica that runs, and one that rests

module _ (s t : StageFacts) (id : ReplicaId) (bytes text : List ℕ) where
  abbrev Took : Bool → Option RowFacts → Type 0
  Took b row =
      (handed : Where b (Receives s id bytes text t) (◌≡◌ {A = Turn} (text, t) (quiet s)))
      × (row ≡ row_where (Receives s id bytes text t) (◌≡◌ {A = Turn} (text, t) (quiet s)) b (λ (r : Receives s id bytes text t). r.occurs.row) handed)

  pub takes_running : is_running s.world id ≡ true → (r : Receives s id bytes text t) → Takes (Replica id) s bytes text r.occurs.row t
  takes_running runs r = subst (λ (b : Bool). Took b r.occurs.row) (sym runs) (r, refl)

  pub takes_resting : is_running s.world id ≡ false → ◌≡◌ {A = Turn} (text, t) (quiet s) → Takes (Replica id) s bytes text None t
  takes_resting rests same = subst (λ (b : Bool). Took b None) (sym rests) (same, refl)

module _ (s t : StageFacts) (id : ReplicaId) where
  abbrev Expired : Bool → Option RowFacts → Type 0
  Expired b row =
      (expires : Where b (Occurs s id (events.Timeout id) t) (t ≡ s))
      × (row ≡ row_where (Occurs s id (events.Timeout id) t) (t ≡ s) b (λ (o : Occurs s id (events.Timeout id) t). o.row) expires)

  pub expires_running : (row : Option RowFacts) → is_running s.world id ≡ true → Happened s id (events.Timeout id) row t → Expires s id row t
  expires_running row runs h =
      subst (λ (b : Bool). Expired b row) (sym runs) (record { row = row; world = h.world; gives = h.gives; continues = h.continues; new = h.new }, refl)

  pub expires_resting : is_running s.world id ≡ false → t ≡ s → Expires s id None t
  expires_resting rests same = subst (λ (b : Bool). Expired b None) (sym rests) (same, refl)

-- ---- an event

-- What came of a letter is told, as it was noted.
pub handing_told : (letter : LetterFacts) (passed : ℕ) (s : StageFacts) (text line : List ℕ) (row : Option RowFacts) (t : StageFacts) (stood : Option Status) (told later : List Seen → Type 0)
    → Takes letter.to s letter.bytes text row t → stood ≡ standing s.world letter.to → line ≡ text
    → Tells told (seen.Handed stood letter passed row line t.world ∷ []) later → TellsHanding letter passed s text t told later
handing_told letter passed s text line row t stood told later takes stands same tells = (
  takes.0,
  subst (λ (r : Option RowFacts). Tells told (seen.Handed (standing s.world letter.to) letter passed r text t.world ∷ []) later) takes.1
      (subst (λ (o : Option Status). Tells told (seen.Handed o letter passed row text t.world ∷ []) later) stands
      (subst (λ (bs : List ℕ). Tells told (seen.Handed stood letter passed row bs t.world ∷ []) later) same tells)),
)

pub timeout_told : (at : ReplicaId) (s t : StageFacts) (row : Option RowFacts) (stood : Option Status) (told later : List Seen → Type 0) → Expires s at row t → stood ≡ standing s.world (Replica at)
    → Tells told (seen.TimedOut stood at row t.world ∷ []) later → TellsTimeout s at t told later
timeout_told at s t row stood told later expires stands tells = (
  expires.0,
  subst (λ (r : Option RowFacts). Tells told (seen.TimedOut (standing s.world (Replica at)) at r t.world ∷ []) later) expires.1
      (subst (λ (o : Option Status). Tells told (seen.TimedOut o at row t.world ∷ []) later) stands tells),
)

-- ---- timeouts

-- One more, and what is seen of it.
abbrev TimedSo : StageFacts → List ReplicaId → StageFacts → List Seen → Type 0
TimedSo s ids t ss = (all : AllTimeOut s ids t) × (timeouts_seen s ids t all ≡ ss)

timed_more : (ids : List ReplicaId) (id : ReplicaId) (s u t : StageFacts) (are : AllTimeOut s ids u) (one : TimesOut u id t) → TimedSo s (ids ++ id ∷ []) t (timeouts_seen s ids u are ++ expiring u id t one ∷ [])
timed_more [] id s u t are one = subst (λ (v : StageFacts). TimedSo v (id ∷ []) t (expiring u id t one ∷ [])) are ((t, one, refl), refl)
timed_more (x ∷ ids) id s u t are one =
    let more = timed_more ids id are.0 u t are.2 one in
    ((are.0, are.1, more.0), ap (λ (xs : List Seen). expiring s x are.0 are.1 ∷ xs) more.1)

pub timeouts_told : (ids : List ReplicaId) (id : ReplicaId) (s u t : StageFacts) (a b c : List Seen → Type 0) → TellsTimeouts s ids u a b → TellsTimeout u id t b c → TellsTimeouts s (ids ++ id ∷ []) t a c
timeouts_told ids id s u t a b c are one =
    let more = timed_more ids id s u t are.0 one.0 in
    (more.0, subst (λ (xs : List Seen). Tells a xs c) (sym more.1) (told_more a b c (timeouts_seen s ids u are.0) (expiring u id t one.0 ∷ []) are.1 one.1))

-- ---- deliveries

-- So many deliveries, of which one is told.
abbrev pub TellsMany : Filter → DeliveryOrder → ℕ → StageFacts → List ℕ → StageFacts → (List Seen → Type 0) → (List Seen → Type 0) → Type 0
TellsMany f order n s text t told later = (many : Deliveries f order n s text t) × Tells told (deliveries_seen f order n s text t many) later

pub none_delivered : (f : Filter) (order : DeliveryOrder) (s : StageFacts) (told : List Seen → Type 0) → TellsMany f order 0 s [] s told told
none_delivered f order s told = ((refl, refl), told_none told)

pub one_told : (f : Filter) (order : DeliveryOrder) (n : ℕ) (s u t : StageFacts) (before line : List ℕ) (a b c : List Seen → Type 0) → TellsMany f order n s before u a b
    → TellsFate (fate_at f order n u) f u line t b c → TellsMany f order (n + 1) s (before ++ line) t a c
one_told f order n s u t before line a b c many one =
    subst (λ (k : ℕ). TellsMany f order k s (before ++ line) t a c) (sym (same n))
    ((before, line, u, many.0, one.0, refl), told_more a b c (deliveries_seen f order n s before u many.0) (seen.befalling (fate_at f order n u) f u line t one.0 ∷ []) many.1 one.1) where
      same : (n : ℕ) → n + 1 ≡ suc n
      same n = omega arith

-- ---- letters that are lost

-- what is seen where these are lost
abbrev pub lost_of : Filter → List LetterFacts → List Seen
lost_of f ls = map seen.Lost (filter (is_meant f) ls)

lost_more : (f : Filter) (ls : List LetterFacts) (l : LetterFacts) → lost_of f (ls ++ l ∷ []) ≡ lost_of f ls ++ lost_of f (l ∷ [])
lost_more f ls l = ap (map seen.Lost) (filter-append (is_meant f) ls (l ∷ [])) ∙ map-append seen.Lost (filter (is_meant f) ls) (filter (is_meant f) (l ∷ []))

some_same : {X : Type 0} {x y : X} → Some x ≡ Some y → x ≡ y
some_same h = cc h

none_some : {X : Type 0} {x : X} → None ≡ Some x → ⊥
none_some h = cc h

-- a letter where it is meant
abbrev where_meant : LetterFacts → Bool → Option LetterFacts
where_meant l b = if b then Some l else None

found_one : (f : Filter) (l m : LetterFacts) → Some m ≡ meant_one f (Some l) → lost_of f (l ∷ []) ≡ seen.Lost m ∷ []
found_one f l m is = by (is_meant f l) refl where
  by : (b : Bool) → is_meant f l ≡ b → lost_of f (l ∷ []) ≡ seen.Lost m ∷ []
  by true it =
      ap (λ (c : Bool). map seen.Lost (cond c (l ∷ []) [])) it
      ∙ ap (λ (x : LetterFacts). seen.Lost x ∷ []) (sym (some_same (is ∙ ap (where_meant l) it)))
  by false it = absurd (none_some (sym (is ∙ ap (where_meant l) it)))

found_none : (f : Filter) (l : LetterFacts) → None ≡ meant_one f (Some l) → lost_of f (l ∷ []) ≡ []
found_none f l is = by (is_meant f l) refl where
  by : (b : Bool) → is_meant f l ≡ b → lost_of f (l ∷ []) ≡ []
  by true it = absurd (none_some (is ∙ ap (where_meant l) it))
  by false it = ap (λ (c : Bool). map seen.Lost (cond c (l ∷ []) [])) it

-- what is seen where those among the first so many are lost
abbrev pub lost_until : Filter → List LetterFacts → ℕ → List Seen
lost_until f q i = lost_of f (take i q)

next_lost : (f : Filter) (q : List LetterFacts) (i : ℕ) (x : LetterFacts) (ss : List Seen) → i < length q → get_or q i x ≡ x → lost_of f (x ∷ []) ≡ ss → lost_until f q i ++ ss ≡ lost_until f q (i + 1)
next_lost f q i x ss below read is =
    sym (ap (lost_of f) (take_more q i x below ∙ ap (λ (y : LetterFacts). take i q ++ y ∷ []) read) ∙ lost_more f (take i q) x
    ∙ ap (λ (ys : List Seen). lost_until f q i ++ ys) is)

past : (i n : ℕ) → i < n → n ≤ i → ⊥
past i n h k = omega (arith, h, k)

pub one_lost : (f : Filter) (q : List LetterFacts) (i : ℕ) (m : LetterFacts) (a b c : List Seen → Type 0) → i < length q → Some m ≡ meant_one f (slice_get q i) → Tells a (lost_until f q i) b
    → Tells b (seen.Lost m ∷ []) c → Tells a (lost_until f q (i + 1)) c
one_lost f q i m a b c below is one other = by (slice_get_cases q i).1 where
  by : ((x : LetterFacts) × (i < length q) × (slice_get q i ≡ Some x) × (get_or q i x ≡ x)) ⊎ ((length q ≤ i) × (slice_get q i ≡ None)) → Tells a (lost_until f q (i + 1)) c
  by (inl at) =
      subst (λ (ss : List Seen). Tells a ss c) (next_lost f q i at.0 (seen.Lost m ∷ []) at.1 at.3 (found_one f at.0 m (is ∙ ap (meant_one f) at.2)))
      (told_more a b c (lost_until f q i) (seen.Lost m ∷ []) one other)
  by (inr none) = absurd (past i (length q) below none.0)

pub none_lost : (f : Filter) (q : List LetterFacts) (i : ℕ) (a b : List Seen → Type 0) → i < length q → None ≡ meant_one f (slice_get q i) → Tells a (lost_until f q i) b → Tells a (lost_until f q (i + 1)) b
none_lost f q i a b below is one = by (slice_get_cases q i).1 where
  by : ((x : LetterFacts) × (i < length q) × (slice_get q i ≡ Some x) × (get_or q i x ≡ x)) ⊎ ((length q ≤ i) × (slice_get q i ≡ None)) → Tells a (lost_until f q (i + 1)) b
  by (inl at) =
      subst (λ (ss : List Seen). Tells a ss b) (next_lost f q i at.0 [] at.1 at.3 (found_none f at.0 (is ∙ ap (meant_one f) at.2)))
      (told_more a b b (lost_until f q i) [] one (told_none b))
  by (inr none) = absurd (past i (length q) below none.0)

-- All of them are.
pub all_lost : (f : Filter) (q : List LetterFacts) (i : ℕ) (a b : List Seen → Type 0) → length q ≤ i → Tells a (lost_until f q i) b → Tells a (lost_of f q) b
all_lost f q i a b all one = subst (λ (ls : List LetterFacts). Tells a (lost_of f ls) b) (take_all i q all) one
