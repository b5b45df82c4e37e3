-- The steps of a script, one after another.
use Rattle.std.proofs.Common.{◌≡◌, ℕ, suc, ◌+◌, ◌<◌, ◌≤◌, List, [], ◌∷◌, ◌++◌, length, get_or, take, drop, Option, Some, None, Ok, Err, refl, sym, ap, subst, ◌∙◌, inl, inr, arith}
use Rattle.std.specs.Prelude.{Result, String, min}
use Rattle.std.specs.Io.KnownBytes.{Appends}
use Rattle.std.specs.String.{string_bytes}
use Rattle.std.specs.declared.alloc.Global.{Global}
use Rattle.std.proofs.lemmas.Option.{slice_get_past}
use Rattle.std.proofs.lemmas.List.{append-nil, append_assoc, drop_more, length-take-le, take-append-drop, take_more}
use Rattle.script_text.specs.declared.script.DeliveryOrder.{DeliveryOrder}
use Rattle.script_text.specs.declared.script.Filter.{Filter}
use Rattle.script_text.specs.declared.script.NamedStep.{NamedStep}
use Rattle.script_text.specs.declared.script.Script.{Script}
use Rattle.script_text.specs.declared.script.Step.{Step}
use Rattle.script_text.specs.declared.script.Step.TheVariants as steps
use Rattle.world_script.specs.Endings.{StepEnds}
use Rattle.world_script.specs.Faults.{kind_of}
use Rattle.world_script.specs.Expecting.{Holds, IsUnexpected, MayPrint, Scene, behind, first_scene, unread_behind, unexpected_line}
use Rattle.world_script.specs.Running.{Compares, Fails, RunsSteps}
use Rattle.world_script.specs.Scripts.{BreaksOff, Plays}
use Rattle.world_script.specs.Parts.{TellsActs, TellsStep}
use Rattle.world_script.specs.Seen as seen
use Rattle.world_script.specs.Seen.{RunTells, Seen, StepTells, Tells, acts_seen, step_seen}
use Rattle.world_queue.specs.Letters.{LetterFacts}
use Rattle.world_script.specs.Facts.{StageFacts}
use Rattle.world_script.specs.Stages.{Begins, Overruns, Prints, after_naming, with_named}
use Rattle.world_script.specs.Writing.{AppendsFront}
use Rattle.world_script.specs.declared.fault.RunFault.{RunFault}
use Rattle.world_script.specs.declared.fault.RunFault.TheVariants.{TooManyDeliveries, Write, Memory}
use Rattle.world_script.specs.declared.played.Played.{Played}
use Rattle.world_script.specs.declared.played.Played.TheVariants.{Whole, Unexpected}
use Rattle.world_script.proofs.Telling.{told_more, told_none}
use Rattle.world_script.proofs.Written.{both, front_then, nothing}

pub plays_more : (steps : List NamedStep) (step : NamedStep) (s u : Scene) (t : StageFacts) (text line : List ℕ) → Plays s steps text u → Prints u.stage step.step line t → Holds u.unread step.step
    → Plays s (steps ++ step ∷ []) (text ++ line) (behind u step line t)
plays_more [] step s u t text line p one holds = (
  line,
  [],
  t,
  subst (λ (v : Scene). Prints v.stage step.step line t) p.1 one,
  subst (λ (v : Scene). Holds v.unread step.step) p.1 holds,
  (refl, ap (λ (v : Scene). behind v step line t) p.1),
  ap (λ (bs : List ℕ). bs ++ line) p.0 ∙ sym (append-nil line),
)
plays_more (x ∷ xs) step s u t text line p one holds =
    (p.0, p.1 ++ line, p.2, p.3, p.4, plays_more xs step (behind s x p.0 p.2) u t p.1 line p.5 one holds, ap (λ (bs : List ℕ). bs ++ line) p.6 ∙ append_assoc p.0 p.1 line)

-- the step at this index breaks off
pub breaks_at : (steps : List NamedStep) (i : ℕ) (x : NamedStep) (start scene : Scene) (number : ℕ) (Early : Scene → Step → List ℕ → Type 0) (front last : List ℕ) → i < length steps → x ≡ get_or steps i x
    → number ≡ min (i + 1) 4294967295 → Plays start (take i steps) front scene → Early scene x.step last → BreaksOff start steps number Early (front ++ last)
breaks_at steps i x start scene number Early front last below read numbered plays early = record {
  before = take i steps;
  step = x;
  after = drop (i + 1) steps;
  splits = sym (take-append-drop i steps) ∙ ap (λ (xs : List NamedStep). take i steps ++ xs) (drop_more steps i x below) ∙ ap (λ (y : NamedStep). take i steps ++ y ∷ drop (i + 1) steps) (sym read);
  number_is = numbered ∙ ap (λ (n : ℕ). min (n + 1) 4294967295) (sym (length-take-le i steps (within i (length steps) below)));
  front = front;
  last = last;
  scene = scene;
  plays = plays;
  early = early;
  text_is = refl;
} where
  within : (i n : ℕ) → i < n → i ≤ n
  within i n h = omega (arith, h)

-- Steps that were done.
abbrev pub AreDone : Script → ℕ → Option (List ℕ) → Option (List ℕ) → Scene → Type 0
AreDone script i old new t = (text : List ℕ) × Plays (first_scene script.head) (take i script.steps) text t × Appends old new text

pub fails : (fault : RunFault) (script : Script) (i : ℕ) (x : NamedStep) (number : ℕ) (s t : Scene) (old mid new : Option (List ℕ)) → i < length script.steps → x ≡ get_or script.steps i x
    → number ≡ min (i + 1) 4294967295 → AreDone script i old mid s → StepEnds number s x mid new (Err fault) t → Fails (kind_of fault) script number old new
fails TooManyDeliveries script i x number s t old mid new below read numbered is e =
    (is.0 ++ e.0, breaks_at script.steps i x (first_scene script.head) s number (λ s. Overruns s.stage) is.0 e.0 below read numbered is.1 e.1, both old mid new is.0 e.0 is.2 e.2)
fails Memory script i x number s t old mid new below read numbered is e =
    (is.0 ++ e.0, inr (breaks_at script.steps i x (first_scene script.head) s number (λ s. Begins s.stage) is.0 e.0 below read numbered is.1 e.1), both old mid new is.0 e.0 is.2 e.2)
fails Write script i x number s t old mid new below read numbered is e =
    (is.0 ++ e.0, breaks_at script.steps i x (first_scene script.head) s number (MayPrint number) is.0 e.0 below read numbered is.1 e.1, front_then old mid new is.0 e.0 is.2 e.2)

pub stops_unexpected : (script : Script) (i : ℕ) (x : NamedStep) (number : ℕ) (s t : Scene) (old mid new : Option (List ℕ)) → i < length script.steps → x ≡ get_or script.steps i x
    → number ≡ min (i + 1) 4294967295 → AreDone script i old mid s → StepEnds number s x mid new (Ok Unexpected) t → RunsSteps script old new (Ok Unexpected)
stops_unexpected script i x number s t old mid new below read numbered is e = (
  is.0 ++ e.0,
  (number, breaks_at script.steps i x (first_scene script.head) s number (IsUnexpected number) is.0 e.0 below read numbered is.1 e.1),
  both old mid new is.0 e.0 is.2 e.2,
)

pub one_more_done : (script : Script) (i : ℕ) (x : NamedStep) (number : ℕ) (s t : Scene) (old mid new : Option (List ℕ)) → i < length script.steps → x ≡ get_or script.steps i x
    → AreDone script i old mid s → StepEnds number s x mid new (Ok Whole) t → AreDone script (i + 1) old new t
one_more_done script i x number s t old mid new below read is e = (
  is.0 ++ e.0,
  subst (λ (v : Scene). Plays (first_scene script.head) (take (i + 1) script.steps) (is.0 ++ e.0) v) (sym e.4)
      (subst (λ (xs : List NamedStep). Plays (first_scene script.head) xs (is.0 ++ e.0) (behind s x e.0 e.1)) (sym (take_more script.steps i x below ∙ ap (λ (y : NamedStep). take i script.steps ++ y ∷ []) (sym read)))
      (plays_more (take i script.steps) x (first_scene script.head) s e.1 is.0 e.0 is.1 e.2 e.3)),
  both old mid new is.0 e.0 is.2 e.5,
)

-- ---- an `expect`

nothing_more : (old new : Option (List ℕ)) → new ≡ old → Appends old new []
nothing_more old new same = subst (λ (x : Option (List ℕ)). Appends old x []) (sym same) (nothing old)

-- a step without a message names none
unnamed : (t : StageFacts) (name : Option (List ℕ)) → with_named t name None ≡ t
unnamed t None = refl
unnamed t (Some name) = refl

nothing_named : (t : StageFacts) (name : Option (List ℕ)) (expected : List ℕ) → after_naming (length t.queue) (record { step = steps.Expect expected; name = name }) t ≡ t
nothing_named t name expected =
    ap (λ (o : Option LetterFacts). with_named t name o) (slice_get_past t.queue (length t.queue) (omega arith)) ∙ unnamed t name

compares : (number : ℕ) (s : Scene) (name : Option (List ℕ)) (expected : List ℕ) (old new : Option (List ℕ)) (r : Result Played RunFault) (later : List ℕ) (told : List Seen → Type 0)
    → Compares number expected s.unread old new r later → StepTells number s (record { step = steps.Expect expected; name = name }) old new r (record { stage = s.stage; unread = later }) told told
compares number s name expected old new (Ok Whole) later told c = (
  (
    [],
    s.stage,
    (refl, refl),
    c.0,
    ap (λ (x : List ℕ). record { stage = s.stage; unread = x }) c.1 ∙ ap (λ (u : StageFacts). record { stage = u; unread = [] }) (sym (nothing_named s.stage name expected)),
    nothing_more old new c.2,
  ),
  told_none told,
)
compares number s name expected old new (Ok Unexpected) later told c = ((unexpected_line number c.0, (c.0, c.1, refl), c.2), told_none told)
compares number s name expected old new (Err TooManyDeliveries) later told c = absurd c
compares number s name expected old new (Err Memory) later told c = (([], inl refl, nothing_more old new c), tt)
compares number s name expected old new (Err Write) later told c = ((unexpected_line number c.0, inr (c.0, c.1, refl), c.2), tt)

pub compared : (number : ℕ) (s : Scene) (x : NamedStep) (expected given : List ℕ) (old new : Option (List ℕ)) (r : Result Played RunFault) (later : List ℕ) (told : List Seen → Type 0) → x.step ≡ steps.Expect expected
    → given ≡ expected → Compares number given s.unread old new r later → StepTells number s x old new r (record { stage = s.stage; unread = later }) told told
compared number s x expected given old new r later told is same c =
    subst (λ (step : Step). StepTells number s (record { step = step; name = x.name }) old new r (record { stage = s.stage; unread = later }) told told) (sym is)
    (compares number s x.name expected old new r later told (subst (λ (xs : List ℕ). Compares number xs s.unread old new r later) same c))

-- ---- another step

pub begun : (s : StageFacts) (step : Step) (text : List ℕ) (t : StageFacts) → Prints s step text t → Begins s step text
begun s (steps.Deliver f order) text t p = (p.0, t, p.1, p.2)
begun s other text t p = inr (t, p)

abbrev IsOther : Step → Type 0
IsOther step = (e : List ℕ) → step ≡ steps.Expect e → ⊥

other_holds : (unread : List ℕ) (step : Step) → IsOther step → Holds unread step
other_holds unread (steps.Expect e) other = absurd (other e refl)
other_holds unread step other = tt

other_unread : (unread text : List ℕ) (step : Step) → IsOther step → unread_behind unread step text ≡ unread ++ text
other_unread unread text (steps.Expect e) other = absurd (other e refl)
other_unread unread text step other = refl

module _ (number : ℕ) (s : Scene) (x : NamedStep) (old new : Option (List ℕ)) (t : Scene) (told after : List Seen → Type 0) where
  -- It is done, and its text and the message that it names are noted.
  pub step_done : (line : String Global) (later : List ℕ) (u v : StageFacts) → IsOther x.step → RunTells s.stage x.step old new (Ok line) u told after → later ≡ s.unread ++ string_bytes line
      → v ≡ after_naming (length s.stage.queue) x u → t ≡ record { stage = v; unread = later } → StepTells number s x old new (Ok Whole) t told after
  step_done line later u v other e is named same = (
    (
      string_bytes line,
      u,
      e.0.0,
      other_holds s.unread x.step other,
      same ∙ ap (λ (w : StageFacts). record { stage = w; unread = later }) named
          ∙ ap (λ (l : List ℕ). record { stage = after_naming (length s.stage.queue) x u; unread = l }) (is ∙ sym (other_unread s.unread (string_bytes line) x.step other)),
      e.0.1,
    ),
    e.1,
  )

  pub step_fails : (fault : RunFault) (u : StageFacts) → RunTells s.stage x.step old new (Err fault) u told after → StepTells number s x old new (Err fault) t told after
  step_fails TooManyDeliveries u e = e
  step_fails Memory u e = e
  step_fails Write u e = ((e.0.0, inl e.0.1, e.0.2), tt)

  -- It is done, but memory runs out for its text or its message.
  pub step_unnoted : (line : String Global) (u : StageFacts) (between : List Seen → Type 0) → RunTells s.stage x.step old new (Ok line) u told between → StepTells number s x old new (Err Memory) t told after
  step_unnoted line u between e = ((string_bytes line, begun s.stage x.step (string_bytes line) u e.0.0, e.0.1), tt)

-- ---- a step that delivers nothing

abbrev IsQuiet : Step → Type 0
IsQuiet step = (f : Filter) (order : DeliveryOrder) → step ≡ steps.Deliver f order → ⊥

module _ (s t : StageFacts) (told : List Seen → Type 0) where
  -- It prints nothing, or this is told.
  pub performed_quietly : (step : Step) (text : List ℕ) (later : List Seen → Type 0) → length text ≡ 0 → TellsActs s step text t told later → TellsStep s step text t told later
  performed_quietly (steps.Deliver f order) text later none tells = tells
  performed_quietly other [] later none tells = (tells.0, subst (λ (xs : List Seen). Tells told xs later) (sym (append-nil (acts_seen s other [] t tells.0))) tells.1)
  performed_quietly other (c ∷ cs) later none tells = absurd (more none) where
    more : {n : ℕ} → suc n ≡ 0 → ⊥
    more h = omega (arith, h)

  pub performed_aloud : (step : Step) (text : List ℕ) (between later : List Seen → Type 0) → (length text ≡ 0 → ⊥) → TellsActs s step text t told between → Tells between (seen.Printed t step text ∷ []) later
      → TellsStep s step text t told later
  performed_aloud (steps.Deliver f order) text between later some tells printed = tells
  performed_aloud other [] between later some tells printed = absurd (some refl)
  performed_aloud other (c ∷ cs) between later some tells printed =
      (tells.0, told_more told between later (acts_seen s other (c ∷ cs) t tells.0) (seen.Printed t other (c ∷ cs) ∷ []) tells.1 printed)

module _ (s t : StageFacts) (text : List ℕ) (told later : List Seen → Type 0) where
  abbrev TellsAll : Step → List ℕ → Type 0
  TellsAll step line = (prints : Prints s step line t) × Tells told (step_seen s step line t prints) later

  tells_all : (step : Step) → IsQuiet step → TellsStep s step text t told later → TellsAll step text
  tells_all (steps.Deliver f order) rest p = absurd (rest f order refl)
  tells_all other rest p = p

  begins_all : (step : Step) → IsQuiet step → TellsStep s step text t told later → Begins s step text
  begins_all (steps.Deliver f order) rest p = absurd (rest f order refl)
  begins_all other rest p = inr (t, p.0)

  pub ends_whole : (step : Step) (old new : Option (List ℕ)) (line : String Global) → text ≡ string_bytes line → IsQuiet step → TellsStep s step text t told later → Appends old new text
      → RunTells s step old new (Ok line) t told later
  ends_whole step old new line is rest p whole =
      let all = subst (TellsAll step) is (tells_all step rest p) in ((all.0, subst (Appends old new) is whole), all.1)

  pub ends_cut : (step : Step) (old new : Option (List ℕ)) (fault : RunFault) → IsQuiet step → TellsStep s step text t told later → AppendsFront old new text → fault ≡ Write
      → RunTells s step old new (Err fault) t told later
  ends_cut step old new fault rest p front is =
      subst (λ (g : RunFault). RunTells s step old new (Err g) t told later) (sym is) ((text, begins_all step rest p, front), tt)

-- Memory runs out before it prints anything.
pub ends_unprinted : (s t : StageFacts) (step : Step) (old : Option (List ℕ)) (told later : List Seen → Type 0) → IsQuiet step → RunTells s step old old (Err Memory) t told later
ends_unprinted s t step old told later rest = (([], begins_with step rest, nothing old), tt) where
  begins_with : (step : Step) → IsQuiet step → Begins s step []
  begins_with (steps.Deliver f order) rest = absurd (rest f order refl)
  begins_with other rest = inl refl
