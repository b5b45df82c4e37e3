-- The correct replica of an id, and an input at it.
use Rattle.std.proofs.Common.{◌≡◌, ℕ, zero, suc, ◌+◌, ◌<◌, ◌≤◌, inl, inr, Bool, true, false, cond, eqb, List, [], ◌∷◌, length, get_or, set, find, map, Option, Some, None, Ok, Err, refl, sym, ap, subst, ◌∙◌, arith}
use Rattle.std.specs.Prelude.{slice_get, option_and_then, MatchOption}
use Rattle.std.proofs.lemmas.Bool.{eqb-true, eq-eqb}
use Rattle.std.proofs.lemmas.Option.{slice_get-get_or}
use Rattle.std.proofs.lemmas.List.Quantifiers.{position-Some}
use Rattle.service_model.proofs.Found.{find_by_position}
use Rattle.host_types.specs.Configuration.{Configuration}
use Rattle.replica_journal.specs.Facts.{RowFacts}
use Rattle.replica_journal.specs.Input.{Input}
use Rattle.byz_world.specs.declared.fault.WorldFault.TheVariants as faults
use Rattle.byz_world.specs.Handing.{AreFrom, MemberSteps, UnlessMemory, index_in}
use Rattle.byz_world.specs.Worlds.{Answer, Comes, Hands, MemberFacts, Passes, WorldFacts}

at_least : (c : Configuration) (low : ℕ) (ms : List MemberFacts) (i : ℕ) (d : MemberFacts) → AreFrom c low ms → i < length ms → low ≤ (get_or ms i d).replica.me
at_least c low [] i d are below = absurd (omega arith)
at_least c low (m ∷ ms) zero d are below = are.0
at_least c low (m ∷ ms) (suc i) d are below = let rest = at_least c (m.replica.me + 1) ms i d are.2 (omega arith) in omega (arith, are.0, rest)

pub config_at : (c : Configuration) (low : ℕ) (ms : List MemberFacts) (i : ℕ) (d : MemberFacts) → AreFrom c low ms → i < length ms → (get_or ms i d).replica.config ≡ c
config_at c low [] i d are below = absurd (omega arith)
config_at c low (m ∷ ms) zero d are below = are.1
config_at c low (m ∷ ms) (suc i) d are below = config_at c (m.replica.me + 1) ms i d are.2 (omega arith)

-- the members with one of them put at its index
pub set_from : (c : Configuration) (low : ℕ) (ms : List MemberFacts) (i : ℕ) (t d : MemberFacts) → AreFrom c low ms → i < length ms
    → t.replica.me ≡ (get_or ms i d).replica.me → t.replica.config ≡ (get_or ms i d).replica.config → AreFrom c low (set ms i t)
set_from c low [] i t d are below same config = absurd (omega arith)
set_from c low (m ∷ ms) zero t d are below same config = (subst (λ (n : ℕ). low ≤ n) (sym same) are.0, config ∙ are.1, subst (λ (n : ℕ). AreFrom c (n + 1) ms) (sym same) are.2)
set_from c low (m ∷ ms) (suc i) t d are below same config = (are.0, are.1, set_from c (m.replica.me + 1) ms i t d are.2 (omega arith) same config)

other : (a b : ℕ) → a < b → eqb b a ≡ false
other a b less = by (eqb b a) refl where
  by : (e : Bool) → eqb b a ≡ e → e ≡ false
  by true is = let same = eqb-true b a is in absurd (omega (arith, less, same))
  by false is = refl

other_below : (a b : ℕ) → a < b → eqb a b ≡ false
other_below a b less = by (eqb a b) refl where
  by : (e : Bool) → eqb a b ≡ e → e ≡ false
  by true is = let same = eqb-true a b is in absurd (omega (arith, less, same))
  by false is = refl

abbrev put : MemberFacts → MemberFacts → MemberFacts
put t x = cond (eqb x.replica.me t.replica.me) t x

past : (c : Configuration) (low : ℕ) (ms : List MemberFacts) (t : MemberFacts) → AreFrom c low ms → t.replica.me < low → map (put t) ms ≡ ms
past c low [] t are above = refl
past c low (m ∷ ms) t are above =
    ap (λ (b : Bool). cond b t m ∷ map (put t) ms) (other t.replica.me m.replica.me (omega (arith, are.0, above)))
    ∙ ap (λ (xs : List MemberFacts). m ∷ xs) (past c (m.replica.me + 1) ms t are.2 (omega (arith, are.0, above)))

put_set : (c : Configuration) (low : ℕ) (ms : List MemberFacts) (i : ℕ) (t d : MemberFacts) → AreFrom c low ms → i < length ms
    → t.replica.me ≡ (get_or ms i d).replica.me → set ms i t ≡ map (put t) ms
put_set c low [] i t d are below same = absurd (omega arith)
put_set c low (m ∷ ms) zero t d are below same =
    sym (ap (λ (b : Bool). cond b t m ∷ map (put t) ms) (eq-eqb m.replica.me t.replica.me (sym same))
    ∙ ap (λ (xs : List MemberFacts). t ∷ xs) (past c (m.replica.me + 1) ms t are.2 (omega (arith, same))))
put_set c low (m ∷ ms) (suc i) t d are below same =
    let later = at_least c (m.replica.me + 1) ms i d are.2 (omega arith) in
    sym (ap (λ (b : Bool). cond b t m ∷ map (put t) ms) (other_below m.replica.me t.replica.me (omega (arith, later, same)))
    ∙ ap (λ (xs : List MemberFacts). m ∷ xs) (sym (put_set c (m.replica.me + 1) ms i t d are.2 (omega arith) same)))

pub found : (ms : List MemberFacts) (id i : ℕ) (d : MemberFacts) → index_in ms id ≡ Some i → find (λ m. eqb m.replica.me id) ms ≡ Some (get_or ms i d)
found ms id i d e =
    find_by_position (λ (m : MemberFacts). eqb m.replica.me id) ms ∙ ap (option_and_then (slice_get ms)) e
    ∙ slice_get-get_or ms i d (position-Some (λ (m : MemberFacts). eqb m.replica.me id) ms i d e).0

pub comes_none : (w : WorldFacts) (id : ℕ) (input : Input) → index_in w.members id ≡ None → Comes w id input (Ok None) w
comes_none w id input e =
    subst (λ (o : Option MemberFacts). MatchOption o (Passes w (Ok None) w) (λ m. Hands w m input (Ok None) w))
    (sym (find_by_position (λ (m : MemberFacts). eqb m.replica.me id) w.members ∙ ap (option_and_then (slice_get w.members)) e)) (refl, refl)

abbrev with_all : WorldFacts → List MemberFacts → WorldFacts
with_all w ms = record w { members = ms }

hands : (w : WorldFacts) (i : ℕ) (input : Input) (r : Answer) (t d : MemberFacts) → AreFrom w.config 0 w.members → i < length w.members
    → t.replica.me ≡ (get_or w.members i d).replica.me → MemberSteps (get_or w.members i d) input r t → UnlessMemory r (Hands w (get_or w.members i d) input r (with_all w (set w.members i t)))
hands w i input (Ok (Some row)) t d are below same steps = inl (record {
  row = row;
  after = t.replica;
  goes = steps.goes;
  answer = refl;
  new = ap (with_all w) (put_set w.config 0 w.members i t d are below same) ∙ ap (λ (rs : List RowFacts). with_all w (map (put (record { replica = t.replica; rows = rs })) w.members)) steps.rows;
})
hands w i input (Ok None) t d are below same steps = inr (record {
  halt = steps.halt;
  after = t.replica;
  stops = steps.stops;
  answer = refl;
  new = ap (with_all w) (put_set w.config 0 w.members i t d are below same) ∙ ap (λ (rs : List RowFacts). with_all w (map (put (record { replica = t.replica; rows = rs })) w.members)) steps.rows;
})
hands w i input (Err faults.NoSuchReplica) t d are below same steps = absurd steps
hands w i input (Err faults.NoSuchOutput) t d are below same steps = absurd steps
hands w i input (Err faults.Memory) t d are below same steps = tt

unless_map : (r : Answer) (A B : Type 0) → (A → B) → UnlessMemory r A → UnlessMemory r B
unless_map (Ok row) A B f is = f is
unless_map (Err faults.NoSuchReplica) A B f is = f is
unless_map (Err faults.NoSuchOutput) A B f is = f is
unless_map (Err faults.Memory) A B f is = tt

pub comes_at : (w : WorldFacts) (id i : ℕ) (input : Input) (r : Answer) (old t d : MemberFacts) → AreFrom w.config 0 w.members → index_in w.members id ≡ Some i
    → old ≡ get_or w.members i d → t.replica.me ≡ old.replica.me → MemberSteps old input r t → UnlessMemory r (Comes w id input r (with_all w (set w.members i t)))
comes_at w id i input r old t d are at is same steps =
    let v : WorldFacts = with_all w (set w.members i t) in
    let below = (position-Some (λ (m : MemberFacts). eqb m.replica.me id) w.members i d at).0 in
    unless_map r (Hands w (get_or w.members i d) input r v) (Comes w id input r v)
    (λ h. subst (λ (o : Option MemberFacts). MatchOption o (Passes w r v) (λ m. Hands w m input r v)) (sym (found w.members id i d at)) h)
    (hands w i input r t d are below (same ∙ ap (λ (m : MemberFacts). m.replica.me) is) (subst (λ (m : MemberFacts). MemberSteps m input r t) is steps))

-- the parts that a world is kept in
pub members_kept : (c : Configuration) (ms : List MemberFacts) (id i : ℕ) (old t d : MemberFacts) → AreFrom c 0 ms → index_in ms id ≡ Some i
    → old ≡ get_or ms i d → t.replica.me ≡ old.replica.me → t.replica.config ≡ old.replica.config → AreFrom c 0 (set ms i t)
members_kept c ms id i old t d are at is same config =
    set_from c 0 ms i t d are (position-Some (λ (m : MemberFacts). eqb m.replica.me id) ms i d at).0
    (same ∙ ap (λ (m : MemberFacts). m.replica.me) is) (config ∙ ap (λ (m : MemberFacts). m.replica.config) is)
