-- Rows that are made of turns: what holds of each turn holds of the rows.
use Rattle.std.proofs.Common.{ℕ, List, [], ◌∷◌, ◌++◌, Option, refl, sym, ap, subst, ◌∙◌, inl, inr}
use Rattle.std.specs.List.{AllByRecursion}
use Rattle.pbft_model.specs.Words.{Signed, Body}
use Rattle.pbft_model.specs.Sequential.{Service}
use Rattle.pbft_model.specs.Setup.{Setup}
use Rattle.pbft_model.specs.Core.{Core}
use Rattle.pbft_model.specs.Acts.{Act, Take, Timeout, after}
use Rattle.pbft_model.specs.Rules.{MayTake}
use Rattle.pbft_model.specs.Rows.{Row, Input, Received, TimedOut, Begins, Reacts, IsNext, IsLawfulFrom}
use Rattle.pbft_model.specs.Histories.{IsIn}
use Rattle.pbft_agreement.specs.Journals.{HasReceived, ExecutesTo, RunsTo}
use Rattle.pbft_agreement.specs.Worked.{through}
use Rattle.pbft_agreement.specs.Episode.{Turn, row_of_turn, rows_of_turns}
use Rattle.pbft_model.proofs.Found.{in_append_left, in_append_right}
use Rattle.pbft_model.proofs.Unique.{same_acts}
use Rattle.pbft_agreement.proofs.Example.{states_in}
use Rattle.pbft_agreement.proofs.ExampleRows.{executed_in}

abbrev pub first_act : Input → Option Service → Act
first_act (Received m) reading = Take m reading
first_act TimedOut reading = Timeout

abbrev pub MayBegin : Setup → Input → Option Service → Type 0
MayBegin c (Received m) reading = MayTake c m reading
MayBegin c TimedOut reading = Unit {0}

begins : (c : Setup) (input : Input) (reading : Option Service) → MayBegin c input reading → Begins c input (first_act input reading)
begins c (Received m) reading may = (reading, may, refl)
begins c TimedOut reading may = refl

-- the core after a turn, and after several
abbrev pub core_by : Setup → Core → Turn → Core
core_by c s t = through c (after c s (first_act t.input t.reading)) t.acts

abbrev pub core_over : Setup → Core → List Turn → Core
core_over c s [] = s
core_over c s (t ∷ ts) = core_over c (core_by c s t) ts

-- each input may come, and makes the replica do just that
abbrev pub Arises : Setup → ℕ → Core → List Turn → Type 0
Arises c me s [] = Unit {0}
Arises c me s (t ∷ ts) =
    MayBegin c t.input t.reading × Reacts c me (after c s (first_act t.input t.reading)) t.acts (core_by c s t) × Arises c me (core_by c s t) ts

abbrev next_row : (c : Setup) (me : ℕ) (s : Core) (t : Turn) → MayBegin c t.input t.reading
    → Reacts c me (after c s (first_act t.input t.reading)) t.acts (core_by c s t) → IsNext c me s (row_of_turn c t) (core_by c s t)
next_row c me s t may reacts = record {
  first = first_act t.input t.reading;
  acts = t.acts;
  begins = begins c t.input t.reading may;
  reacts = reacts;
  outputs = refl;
  done = refl;
  leaves = refl;
}

pub lawful_turns : (c : Setup) (me : ℕ) (s : Core) (ts : List Turn) → Arises c me s ts → IsLawfulFrom c me s (rows_of_turns c ts) (core_over c s ts)
lawful_turns c me s [] h = refl
lawful_turns c me s (t ∷ ts) (may, reacts, rest) = (core_by c s t, next_row c me s t may reacts, lawful_turns c me (core_by c s t) ts rest)

abbrev pub states_over : List Turn → List Service
states_over [] = []
states_over (t ∷ ts) = states_in t.acts ++ states_over ts

pub ran_to : (c : Setup) (me : ℕ) (s : Core) (ts : List Turn) (state : Service) → Arises c me s ts → RunsTo c me s (rows_of_turns c ts) state → IsIn state (states_over ts)
ran_to c me s [] state h none = absurd none
ran_to c me s (t ∷ ts) state (may, reacts, rest) (u, next, inl here) =
    let same = same_acts c me s u (core_by c s t) (row_of_turn c t) (row_of_turn c t) refl next (next_row c me s t may reacts) in
    in_append_left state (states_in t.acts) (states_over ts) (executed_in state t.acts (subst (ExecutesTo state) same.0 here))
ran_to c me s (t ∷ ts) state (may, reacts, rest) (u, next, inr later) =
    let same = same_acts c me s u (core_by c s t) (row_of_turn c t) (row_of_turn c t) refl next (next_row c me s t may reacts) in
    in_append_right state (states_in t.acts) (states_over ts) (ran_to c me (core_by c s t) ts state rest (subst (λ (v : Core). RunsTo c me v (rows_of_turns c ts) state) same.1 later))

-- ---- what holds of the messages that are received

abbrev Holds : (Signed Body → Type 0) → Input → Type 0
Holds P (Received m) = P m
Holds P TimedOut = Unit {0}

-- It holds of each message that a turn begins with.
abbrev pub EachReceived : (Signed Body → Type 0) → List Turn → Type 0
EachReceived P [] = Unit {0}
EachReceived P (t ∷ ts) = Holds P t.input × EachReceived P ts

pub received_one : (c : Setup) (P : Signed Body → Type 0) (ts : List Turn) (m : Signed Body) → EachReceived P ts → HasReceived m (rows_of_turns c ts) → P m
received_one c P [] m each (row, none, e) = absurd none
received_one c P (t ∷ ts) m (here, rest) (row, inl same, e) = subst (Holds P) (sym (ap (λ (x : Row). x.input) same) ∙ e) here
received_one c P (t ∷ ts) m (here, rest) (row, inr later, e) = received_one c P ts m rest (row, later, e)

-- It holds of each message of a list.
pub one_of_all : (P : Signed Body → Type 0) (ms : List (Signed Body)) (m : Signed Body) → AllByRecursion P ms → IsIn m ms → P m
one_of_all P [] m all none = absurd none
one_of_all P (x ∷ xs) m (here, rest) (inl same) = subst P (sym same) here
one_of_all P (x ∷ xs) m (here, rest) (inr later) = one_of_all P xs m rest later
