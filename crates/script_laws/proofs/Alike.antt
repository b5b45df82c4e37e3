-- Worlds whose replicas are the same and gave the same rows of the protocol: an event makes the same of both.
use Rattle.std.proofs.Common.{◌≡◌, ℕ, inl, inr, Bool, true, false, cond, eqb, List, [], ◌∷◌, ◌++◌, find, map, Option, Some, None, Ok, refl, sym, ap, subst, ◌∙◌}
use Rattle.std.specs.Prelude.{is_some, MatchOption}
use Rattle.std.specs.Option.{option_map}
use Rattle.std.proofs.lemmas.Bool.{false≢true, eqb-true, eq-eqb}
use Rattle.std.proofs.lemmas.Option.{same_Some}
use Rattle.pbft_model.proofs.Halting.{one_halt, row_or_halt}
use Rattle.pbft_model.proofs.Unique.{one_row}
use Rattle.pbft_model.specs.Core.{Core}
use Rattle.pbft_model.specs.Rows as model
use Rattle.pbft_model.specs.Rows.{HaltsBy, Row}
use Rattle.world_script.specs.Setup.{setup_of}
use Rattle.world_script.specs.Facts.{RowFacts, input_of, row_of}
use Rattle.world_script.specs.Halt.{Halt}
use Rattle.world_script.specs.Halt.TheVariants as halts
use Rattle.world_script.specs.Input.{Input}
use Rattle.replica_journal.specs.Steps.{Goes, IsHalt, ReplicaFacts, Stops, StopsFrom, status_of}
use Rattle.world_script.specs.Worlds.{Answer, Comes, GivesNone, GivesRow, Hands, MemberFacts, Passes, WorldFacts, member_of, with_member}
use Rattle.world_script.specs.Stages.{halt_in, lacked_memory, runs_in}

-- a replica, and the protocol's rows that it gave
abbrev pub Bare : Type 0
Bare = ReplicaFacts × List Row

abbrev pub bare : MemberFacts → Bare
bare m = (m.replica, map row_of m.rows)

abbrev pub me_of : Bare → ℕ
me_of b = b.0.me

pub record Alike (w v : WorldFacts) : Type 0 where
  pub config : w.config ≡ v.config
  pub members : map bare w.members ≡ map bare v.members

-- ---- the replica of an id

abbrev find_bare : List Bare → ℕ → Option Bare
find_bare bs id = find (λ (b : Bare). eqb (me_of b) id) bs

found_bare : (ms : List MemberFacts) (id : ℕ) → option_map bare (find (λ (m : MemberFacts). eqb m.replica.me id) ms) ≡ find_bare (map bare ms) id
found_bare [] id = refl
found_bare (m ∷ ms) id = by (eqb m.replica.me id) (found_bare ms id) where
  by : (b : Bool) → option_map bare (find (λ (m : MemberFacts). eqb m.replica.me id) ms) ≡ find_bare (map bare ms) id
      → option_map bare (cond b (Some m) (find (λ (m : MemberFacts). eqb m.replica.me id) ms)) ≡ cond b (Some (bare m)) (find_bare (map bare ms) id)
  by true later = refl
  by false later = later

pub same_member : (w v : WorldFacts) (id : ℕ) → Alike w v → option_map bare (member_of w id) ≡ option_map bare (member_of v id)
same_member w v id alike = found_bare w.members id ∙ ap (λ (bs : List Bare). find_bare bs id) alike.members ∙ sym (found_bare v.members id)

runs_bare : Option Bare → Bool
runs_bare None = false
runs_bare (Some b) = is_some b.0.core

runs_so : (o : Option MemberFacts) → runs_in o ≡ runs_bare (option_map bare o)
unfolding runs_bare
runs_so None = refl
runs_so (Some m) = refl

pub same_running : (w v : WorldFacts) (id : ℕ) → Alike w v → runs_in (member_of w id) ≡ runs_in (member_of v id)
same_running w v id alike = runs_so (member_of w id) ∙ ap runs_bare (same_member w v id alike) ∙ sym (runs_so (member_of v id))

-- ---- a replica in place of the one of its id

abbrev put : MemberFacts → MemberFacts → MemberFacts
put t x = cond (eqb x.replica.me t.replica.me) t x

abbrev put_bare : Bare → Bare → Bare
put_bare t x = cond (eqb (me_of x) (me_of t)) t x

bare_put : (t : MemberFacts) (ms : List MemberFacts) → map bare (map (put t) ms) ≡ map (put_bare (bare t)) (map bare ms)
bare_put t [] = refl
bare_put t (m ∷ ms) = let first = by (eqb m.replica.me t.replica.me) in let rest = bare_put t ms in λ i. first i ∷ rest i where
  by : (b : Bool) → bare (cond b t m) ≡ cond b (bare t) (bare m)
  by true = refl
  by false = refl

pub put_alike : (w v : WorldFacts) (t u : MemberFacts) → Alike w v → bare t ≡ bare u → Alike (with_member w t) (with_member v u)
put_alike w v t u alike same = record {
  config = alike.config;
  members = bare_put t w.members ∙ ap (λ (b : Bare). map (put_bare b) (map bare w.members)) same ∙ ap (map (put_bare (bare u))) alike.members ∙ sym (bare_put u v.members);
}

found_put : (ms : List MemberFacts) (id : ℕ) (m t : MemberFacts) → find (λ (x : MemberFacts). eqb x.replica.me id) ms ≡ Some m → t.replica.me ≡ m.replica.me
    → (m.replica.me ≡ id) × (find (λ (x : MemberFacts). eqb x.replica.me id) (map (put t) ms) ≡ Some t)
found_put [] id m t is same = absurd (false≢true (ap is_some is))
found_put (x ∷ ms) id m t is same = by (eqb x.replica.me id) refl is (λ later. found_put ms id m t later same) where
  here : (x.replica.me ≡ id) → x ≡ m → (m.replica.me ≡ id) × (find (λ (x : MemberFacts). eqb x.replica.me id) (map (put t) (x ∷ ms)) ≡ Some t)
  here at first =
      let own : m.replica.me ≡ id = ap (λ (y : MemberFacts). y.replica.me) (sym first) ∙ at in
      let puts : eqb x.replica.me t.replica.me ≡ true = eq-eqb x.replica.me t.replica.me (at ∙ sym (same ∙ own)) in
      let finds : eqb t.replica.me id ≡ true = eq-eqb t.replica.me id (same ∙ own) in (
        own,
        ap (λ (b : Bool). cond (eqb (cond b t x).replica.me id) (Some (cond b t x)) (find (λ (x : MemberFacts). eqb x.replica.me id) (map (put t) ms))) puts
            ∙ ap (λ (b : Bool). cond b (Some t) (find (λ (x : MemberFacts). eqb x.replica.me id) (map (put t) ms))) finds,
      )

  passed : eqb x.replica.me id ≡ false → (m.replica.me ≡ id) × (find (λ (x : MemberFacts). eqb x.replica.me id) (map (put t) ms) ≡ Some t)
      → (m.replica.me ≡ id) × (find (λ (x : MemberFacts). eqb x.replica.me id) (map (put t) (x ∷ ms)) ≡ Some t)
  passed other rest = (
    rest.0,
    ap (λ (b : Bool). cond (eqb (cond b t x).replica.me id) (Some (cond b t x)) (find (λ (x : MemberFacts). eqb x.replica.me id) (map (put t) ms)))
        (ap (λ (n : ℕ). eqb x.replica.me n) (same ∙ rest.0) ∙ other)
        ∙ ap (λ (b : Bool). cond b (Some x) (find (λ (x : MemberFacts). eqb x.replica.me id) (map (put t) ms))) other
        ∙ rest.1,
  )

  by : (b : Bool) → eqb x.replica.me id ≡ b → cond b (Some x) (find (λ (x : MemberFacts). eqb x.replica.me id) ms) ≡ Some m
      → (find (λ (x : MemberFacts). eqb x.replica.me id) ms ≡ Some m → (m.replica.me ≡ id) × (find (λ (x : MemberFacts). eqb x.replica.me id) (map (put t) ms) ≡ Some t))
      → (m.replica.me ≡ id) × (find (λ (x : MemberFacts). eqb x.replica.me id) (map (put t) (x ∷ ms)) ≡ Some t)
  by true at first later = here (eqb-true x.replica.me id at) (same_Some x m first)
  by false other first later = passed other (later first)

map_append : (rows : List RowFacts) (row : RowFacts) → map row_of (rows ++ row ∷ []) ≡ map row_of rows ++ row_of row ∷ []
map_append [] row = refl
map_append (x ∷ rows) row = let rest = map_append rows row in λ i. row_of x ∷ rest i

-- ---- an input at a replica

goes_one : (r : ReplicaFacts) (input : Input) (row other : RowFacts) (t u : ReplicaFacts) → Goes r input row t → Goes r input other u → (row_of row ≡ row_of other) × (t ≡ u)
goes_one r input row other t u g h =
    let before : g.before ≡ h.before = same_Some g.before h.before (sym g.was ∙ h.was) in
    let one = one_row (setup_of r.config) r.me g.before g.next h.next (row_of row) (row_of other) (ap input_of (g.input_is ∙ sym h.input_is)) g.is_next
    (subst (λ (s : Core). model.IsNext (setup_of r.config) r.me s (row_of other) h.next) (sym before) h.is_next) in
    (one.0, g.new ∙ ap (λ (s : Core). record r { core = Some s; status = status_of s }) one.1 ∙ sym h.new)

-- why it stops from a core: for lack of memory, or for one of the protocol's reasons
halts_so : (r : ReplicaFacts) (s : Core) (input : Input) (halt : Halt) → lacked_memory (Some halt) ≡ false → IsHalt (setup_of r.config) r.me s (input_of input) halt
    → (why : model.Halt) × HaltsBy (setup_of r.config) r.me s (input_of input) why
halts_so r s input halts.Exhausted kept is = (model.Exhausted, is)
halts_so r s input halts.Worn kept is = (model.Worn, is)
halts_so r s input halts.Memory kept is = absurd (false≢true (sym kept))
halts_so r s input halts.JournalFull kept is = absurd is
halts_so r s input halts.AlreadyHalted kept is = absurd is

goes_on : (r : ReplicaFacts) (input : Input) (row : RowFacts) (halt : Halt) (t u : ReplicaFacts) → lacked_memory (Some halt) ≡ false → Goes r input row t → Stops r input halt u → ⊥
goes_on r input row halt t u kept g stops =
    let from : StopsFrom (Some g.before) r input halt u = subst (λ (o : Option Core). StopsFrom o r input halt u) g.was stops in
    let why = halts_so r g.before input halt kept from.0 in
    row_or_halt (setup_of r.config) r.me g.before g.next (row_of row) why.0 g.is_next
    (subst (λ (i : model.Input). HaltsBy (setup_of r.config) r.me g.before i why.0) (ap input_of (sym g.input_is)) why.1)

-- the same halt of the protocol, as the replica's
halt_of : model.Halt → Halt
halt_of model.Exhausted = halts.Exhausted
halt_of model.Worn = halts.Worn

halt_named : (r : ReplicaFacts) (s : Core) (input : Input) (halt : Halt) (kept : lacked_memory (Some halt) ≡ false) (is : IsHalt (setup_of r.config) r.me s (input_of input) halt)
    → halt_of (halts_so r s input halt kept is).0 ≡ halt
unfolding halt_of halts_so
halt_named r s input halts.Exhausted kept is = refl
halt_named r s input halts.Worn kept is = refl
halt_named r s input halts.Memory kept is = absurd (false≢true (sym kept))
halt_named r s input halts.JournalFull kept is = absurd is
halt_named r s input halts.AlreadyHalted kept is = absurd is

stops_one : (r : ReplicaFacts) (input : Input) (halt other : Halt) (t u : ReplicaFacts) → (o : Option Core) → o ≡ r.core
    → (is_some o ≡ true → lacked_memory (Some halt) ≡ false) → (is_some o ≡ true → lacked_memory (Some other) ≡ false)
    → StopsFrom o r input halt t → StopsFrom o r input other u → t ≡ u
stops_one r input halt other t u None at kept kept' g h = g.1 ∙ sym h.1
stops_one r input halt other t u (Some s) at kept kept' g h =
    let why = halts_so r s input halt (kept refl) g.0 in
    let why' = halts_so r s input other (kept' refl) h.0 in
    let one : why.0 ≡ why'.0 = one_halt (setup_of r.config) r.me s (input_of input) why.0 why'.0 why.1 why'.1 in
    let same : halt ≡ other = sym (halt_named r s input halt (kept refl) g.0) ∙ ap halt_of one ∙ halt_named r s input other (kept' refl) h.0 in
    g.1 ∙ ap (λ (x : Halt). record r { core = None; status = record r.status { halted = Some x } }) same ∙ sym h.1

-- ---- an event

abbrev pub SameRow : Option RowFacts → Option RowFacts → Type 0
SameRow r q = option_map row_of r ≡ option_map row_of q

-- What it gives of both, where neither lacked memory.
pub record AreOne (r q : Option RowFacts) (t u : WorldFacts) : Type 0 where
  pub row : SameRow r q
  pub worlds : Alike t u

abbrev Kept : WorldFacts → ℕ → Type 0
Kept t id = lacked_memory (halt_in (member_of t id)) ≡ false

row_is : (x y : Option RowFacts) → ◌≡◌ {A = Answer} (Ok x) (Ok y) → x ≡ y
row_is x y h = cc h

-- a replica that stopped there has this halt
stopped_there : (w t : WorldFacts) (id : ℕ) (m : MemberFacts) (input : Input) (halt : Halt) (after : ReplicaFacts) → member_of w id ≡ Some m → Stops m.replica input halt after
    → t ≡ with_member w (record { replica = after; rows = m.rows }) → Kept t id → is_some m.replica.core ≡ true → lacked_memory (Some halt) ≡ false
stopped_there w t id m input halt after found stops new kept runs = by m.replica.core runs stops where
  by : (o : Option Core) → is_some o ≡ true → StopsFrom o m.replica input halt after → lacked_memory (Some halt) ≡ false
  by None runs is = absurd (false≢true runs)
  by (Some s) runs is =
      let there = (found_put w.members id m (record { replica = after; rows = m.rows }) found (ap (λ (x : ReplicaFacts). x.me) is.1)).1 in
      let halted : halt_in (member_of t id) ≡ Some halt =
      ap (λ (x : WorldFacts). halt_in (member_of x id)) new ∙ ap halt_in there ∙ ap (λ (x : ReplicaFacts). x.status.halted) is.1 in
      ap lacked_memory (sym halted) ∙ kept

module _ (w v : WorldFacts) (id : ℕ) (input : Input) (r q : Option RowFacts) (t u : WorldFacts) (alike : Alike w v) (kept : Kept t id) (kept' : Kept u id) where
  module _ (m n : MemberFacts) (found : member_of w id ≡ Some m) (found' : member_of v id ≡ Some n) (same : bare m ≡ bare n) where
    replicas : m.replica ≡ n.replica
    replicas = ap (λ (b : Bare). b.0) same

    rows : map row_of m.rows ≡ map row_of n.rows
    rows = ap (λ (b : Bare). b.1) same

    both_go : GivesRow w m input (Ok r) t → GivesRow v n input (Ok q) u → AreOne r q t u
    both_go g h =
        let one = goes_one m.replica input g.row h.row g.after h.after g.goes (subst (λ (x : ReplicaFacts). Goes x input h.row h.after) (sym replicas) h.goes) in
        let t' : MemberFacts = record { replica = g.after; rows = m.rows ++ g.row ∷ [] } in
        let u' : MemberFacts = record { replica = h.after; rows = n.rows ++ h.row ∷ [] } in
        let more : bare t' ≡ bare u' = (λ i. (one.1 i, (map_append m.rows g.row ∙ ap (λ (xs : List Row). xs ++ row_of g.row ∷ []) rows ∙ ap (λ (x : Row). map row_of n.rows ++ x ∷ []) one.0 ∙ sym (map_append n.rows h.row)) i)) in
        record {
          row = ap (option_map row_of) (row_is r (Some g.row) g.answer) ∙ ap Some one.0 ∙ sym (ap (option_map row_of) (row_is q (Some h.row) h.answer));
          worlds = subst (λ (x : WorldFacts). Alike x u) (sym g.new) (subst (λ (x : WorldFacts). Alike (with_member w t') x) (sym h.new) (put_alike w v t' u' alike more));
        }

    one_goes : GivesRow w m input (Ok r) t → GivesNone v n input (Ok q) u → ⊥
    one_goes g h =
        let kept_so = stopped_there v u id n input h.halt h.after found' h.stops h.new kept' (ap (λ (x : ReplicaFacts). is_some x.core) (sym replicas) ∙ ap is_some g.goes.was) in
        goes_on m.replica input g.row h.halt g.after h.after kept_so g.goes (subst (λ (x : ReplicaFacts). Stops x input h.halt h.after) (sym replicas) h.stops)

    other_goes : GivesNone w m input (Ok r) t → GivesRow v n input (Ok q) u → ⊥
    other_goes g h =
        let kept_so = stopped_there w t id m input g.halt g.after found g.stops g.new kept (ap (λ (x : ReplicaFacts). is_some x.core) replicas ∙ ap is_some h.goes.was) in
        goes_on n.replica input h.row g.halt h.after g.after kept_so h.goes (subst (λ (x : ReplicaFacts). Stops x input g.halt g.after) replicas g.stops)

    both_stop : GivesNone w m input (Ok r) t → GivesNone v n input (Ok q) u → AreOne r q t u
    both_stop g h =
        let after : g.after ≡ h.after = stops_one m.replica input g.halt h.halt g.after h.after m.replica.core refl
        (stopped_there w t id m input g.halt g.after found g.stops g.new kept)
        (λ (runs : is_some m.replica.core ≡ true). stopped_there v u id n input h.halt h.after found' h.stops h.new kept' (ap (λ (x : ReplicaFacts). is_some x.core) (sym replicas) ∙ runs))
        g.stops (subst (λ (x : ReplicaFacts). Stops x input h.halt h.after) (sym replicas) h.stops) in
        let t' : MemberFacts = record { replica = g.after; rows = m.rows } in
        let u' : MemberFacts = record { replica = h.after; rows = n.rows } in
        let more : bare t' ≡ bare u' = λ i. (after i, rows i) in
        record {
          row = ap (option_map row_of) (row_is r None g.answer ∙ sym (row_is q None h.answer));
          worlds = subst (λ (x : WorldFacts). Alike x u) (sym g.new) (subst (λ (x : WorldFacts). Alike (with_member w t') x) (sym h.new) (put_alike w v t' u' alike more));
        }

    hands_one : Hands w m input (Ok r) t → Hands v n input (Ok q) u → AreOne r q t u
    hands_one (inl g) (inl h) = both_go g h
    hands_one (inl g) (inr h) = absurd (one_goes g h)
    hands_one (inr g) (inl h) = absurd (other_goes g h)
    hands_one (inr g) (inr h) = both_stop g h

  pub passes_one : Passes w (Ok r) t → Passes v (Ok q) u → AreOne r q t u
  passes_one g h = record {
    row = ap (option_map row_of) (row_is r None g.0 ∙ sym (row_is q None h.0));
    worlds = subst (λ (x : WorldFacts). Alike x u) (sym g.1) (subst (λ (x : WorldFacts). Alike w x) (sym h.1) alike);
  }

  pub comes_one : Comes w id input (Ok r) t → Comes v id input (Ok q) u → AreOne r q t u
  comes_one g h = by (member_of w id) (member_of v id) refl refl g h where
    by : (o p : Option MemberFacts) → member_of w id ≡ o → member_of v id ≡ p → MatchOption o (Passes w (Ok r) t) (λ m. Hands w m input (Ok r) t)
        → MatchOption p (Passes v (Ok q) u) (λ n. Hands v n input (Ok q) u) → AreOne r q t u
    by None None at at' g h = passes_one g h
    by (Some m) (Some n) at at' g h = hands_one m n at at' (same_Some (bare m) (bare n) (ap (option_map bare) (sym at) ∙ same_member w v id alike ∙ ap (option_map bare) at')) g h
    by None (Some n) at at' g h = absurd (false≢true (ap is_some (ap (option_map bare) (sym at) ∙ same_member w v id alike ∙ ap (option_map bare) at')))
    by (Some m) None at at' g h = absurd (false≢true (sym (ap is_some (ap (option_map bare) (sym at) ∙ same_member w v id alike ∙ ap (option_map bare) at'))))
