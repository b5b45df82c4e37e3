-- What holds of a replica with its journal before its first message, and what a step keeps.
use Rattle.std.proofs.Common.{◌≡◌, ℕ, ◌<◌, List, [], ◌∷◌, ◌++◌, length, map, Option, Some, None, Result, Ok, Err, refl, sym, ap, subst, ◌∙◌, arith, length-append}
use Rattle.std.specs.Prelude.{IsSomeAnd, IfOk, IfErr}
use Rattle.std.proofs.lemmas.List.{map-append}
use Rattle.host_types.specs.Configuration.{Configuration}
use Rattle.host_types.specs.declared.key.PublicKey.{PublicKey}
use Rattle.lms_tree.specs.Keys.{IsKeyOf}
use Rattle.lms_tree.specs.SigningState.{SigningState}
use Rattle.pbft_codec.specs.declared.signed.Role.TheVariants as roles
use Rattle.seal.specs.Signers.{key_of}
use Rattle.pbft_model.specs.Core.{Core, start_of}
use Rattle.pbft_model.specs.Rows.{IsLawfulFrom, IsListed, IsNext}
use Rattle.pbft_model.specs.Rows as model
use Rattle.pbft_model.proofs.Unique.{one_row_more}
use Rattle.pbft_model.specs.Setup.{setup_of}
use Rattle.replica_core.specs.Facts.{RowFacts, row_of}
use Rattle.replica_core.specs.Steps.{Goes, ReplicaFacts, Stops, StopsFrom, first_with, status_of}
use Rattle.replica_core.specs.declared.halt.Halt.{Halt}
use Rattle.replica_core.specs.declared.halt.Halt.TheVariants as halts
use Rattle.replica_core.specs.declared.replica.Status.{Status}
use Rattle.replica_core.specs.declared.row.Input.{Input}
use Rattle.replica_journal.specs.Keeping.{Advances, Appends, CannotStep, HaltsFor, HaltsWith, IsHaltOf, IsKept, JournalFacts, KeeperFacts, Keeps, RunsOut, first_journal, stands}
use Rattle.replica_journal.specs.declared.unkept.Unkept.{Unkept}
use Rattle.replica_journal.specs.declared.unkept.Unkept.TheVariants as unkept

-- ---- before the first message

listed_from : (c : Configuration) (me : ℕ) (signer : SigningState) (key : Option PublicKey) → key_of c roles.Replica me ≡ key → IsSomeAnd key (λ k. IsKeyOf k signer)
    → IsListed (setup_of c) me signer
listed_from c me signer None is listed = absurd listed
listed_from c me signer (Some key) is listed = (key, is, listed)

pub first_kept : (c : Configuration) (me limit : ℕ) (signer : SigningState) → IsSomeAnd (key_of c roles.Replica me) (λ k. IsKeyOf k signer) → IsKept (first_journal c me signer limit)
first_kept c me limit signer listed = record {
  journal = record { signer = signer; listed = listed_from c me signer (key_of c roles.Replica me) refl listed; last = start_of (setup_of c) signer; lawful = refl };
  status_is = refl;
  running = λ h. refl;
  within = omega arith;
}

-- ---- a row more

abbrev pub at : ReplicaFacts → List RowFacts → ℕ → Status → JournalFacts
at replica rows limit status = record { replica = replica; rows = rows; limit = limit; status = status }

the_same : (s t : Core) → Some s ≡ Some t → s ≡ t
the_same s t e = cc

row_more : (r : ReplicaFacts) (rows : List RowFacts) (limit : ℕ) (status : Status) (row : RowFacts) (before next : Core) → IsKept (at r rows limit status)
    → status.halted ≡ None → length rows < limit → r.core ≡ Some before → IsNext (setup_of r.config) r.me before (row_of row) next
    → IsKept (at (record r { core = Some next; status = status_of next }) (rows ++ row ∷ []) limit (status_of next))
row_more r rows limit status row before next k running room was is_next =
    let c = setup_of r.config in
    let last = k.journal.last in
    let same : before ≡ last = the_same before last (sym was ∙ k.running running) in
    let from : IsNext c r.me last (row_of row) next = subst (λ (s : Core). IsNext c r.me s (row_of row) next) same is_next in
    let lawful = one_row_more c r.me (map row_of rows) (row_of row) (start_of c k.journal.signer) last next k.journal.lawful from in
    record {
      journal = record {
        signer = k.journal.signer;
        listed = k.journal.listed;
        last = next;
        lawful = subst (λ (rs : List model.Row). IsLawfulFrom c r.me (start_of c k.journal.signer) rs next) (sym (map-append row_of rows (row ∷ []))) lawful;
      };
      status_is = refl;
      running = λ h. refl;
      within = let n = length-append rows (row ∷ []) in omega (arith, n, room);
    }

-- ---- a halt

-- Where it is halted, nothing is said of the replica's core.
halted_more : (r t : ReplicaFacts) (rows : List RowFacts) (limit : ℕ) (status : Status) (halt : Halt) → IsKept (at r rows limit status)
    → t.config ≡ r.config → t.me ≡ r.me → IsKept (at t rows limit (record status { halted = Some halt }))
halted_more r t rows limit status halt k config me =
    let now : Status = record status { halted = Some halt } in
    let there : IsKept (at (record t { config = r.config; me = r.me }) rows limit now) = record {
      journal = k.journal;
      status_is = ap (λ (s : Status). record s { halted = Some halt }) k.status_is;
      running = λ h. absurd (no_halt halt h);
      within = k.within;
    } in
    let by_config : IsKept (at (record t { me = r.me }) rows limit now) = subst (λ (c : Configuration). IsKept (at (record t { config = c; me = r.me }) rows limit now)) (sym config) there in
    subst (λ (i : ℕ). IsKept (at (record t { me = i }) rows limit now)) (sym me) by_config
  where
    no_halt : (x : Halt) → Some x ≡ None → ⊥
    no_halt x e = cc

-- ---- a step

abbrev StaysWho : ReplicaFacts → ReplicaFacts → Type 0
StaysWho r t = (t.config ≡ r.config) × (t.me ≡ r.me)

changed : (r t : ReplicaFacts) (core : Option Core) (status : Status) → t ≡ record r { core = core; status = status } → StaysWho r t
changed r t core status is = (ap (λ (x : ReplicaFacts). x.config) is, ap (λ (x : ReplicaFacts). x.me) is)

stopped : (r t : ReplicaFacts) (core : Option Core) (input : Input) (halt : Halt) → StopsFrom core r input halt t → StaysWho r t
stopped r t None input halt stops = (ap (λ (x : ReplicaFacts). x.config) stops.1, ap (λ (x : ReplicaFacts). x.me) stops.1)
stopped r t (Some s) input halt stops = changed r t None (record r.status { halted = Some halt }) stops.1

-- Its row was kept.
appended : (k t : KeeperFacts) (limit : ℕ) (status status' : Status) (input : Input) (row : RowFacts) → status.halted ≡ None → length k.rows < limit
    → Goes k.replica input row t.replica → t.rows ≡ k.rows ++ row ∷ [] → status' ≡ t.replica.status
    → Appends (at k.replica k.rows limit status) input row (at t.replica t.rows limit status')
appended k t limit status status' input row running room goes rows_are status_is = record {
  may = record { running = running; room = room };
  goes = goes;
  rows_are = rows_are;
  limit_is = refl;
  status_is = status_is;
}

-- A halt of a replica that had not halted is no `JournalFull` and no `AlreadyHalted`.
halts_of : (r t : ReplicaFacts) (rows rows' : List RowFacts) (limit : ℕ) (status status' : Status) (input : Input) (core : Core) (halt : Halt)
    → status.halted ≡ None → length rows < limit → r.core ≡ Some core → Stops r input halt t → rows' ≡ rows → status' ≡ record status { halted = Some halt }
    → HaltsFor (at r rows limit status) input halt (at t rows' limit status')
halts_of r t rows rows' limit status status' input core halts.Exhausted running room is stops rows_are status_is =
    record { may = record { running = running; room = room }; stops = stops; halts = record { rows_are = rows_are; limit_is = refl; status_is = status_is } }
halts_of r t rows rows' limit status status' input core halts.Worn running room is stops rows_are status_is =
    record { may = record { running = running; room = room }; stops = stops; halts = record { rows_are = rows_are; limit_is = refl; status_is = status_is } }
halts_of r t rows rows' limit status status' input core halts.Memory running room is stops rows_are status_is =
    let who = stopped r t r.core input halts.Memory stops in
    record { may = record { running = running; room = room }; config_is = who.0; me_is = who.1; halts = record { rows_are = rows_are; limit_is = refl; status_is = status_is } }
halts_of r t rows rows' limit status status' input core halts.JournalFull running room is stops rows_are status_is =
    absurd (subst (λ (c : Option Core). StopsFrom c r input halts.JournalFull t) is stops).0
halts_of r t rows rows' limit status status' input core halts.AlreadyHalted running room is stops rows_are status_is =
    absurd (subst (λ (c : Option Core). StopsFrom c r input halts.AlreadyHalted t) is stops).0

ran_out : (r t : ReplicaFacts) (rows rows' : List RowFacts) (limit : ℕ) (status status' : Status) (input : Input) (row : RowFacts)
    → status.halted ≡ None → length rows < limit → Goes r input row t → rows' ≡ rows → status' ≡ record status { halted = Some halts.Memory }
    → RunsOut (at r rows limit status) (at t rows' limit status')
ran_out r t rows rows' limit status status' input row running room goes rows_are status_is =
    let who = changed r t (Some goes.next) (status_of goes.next) goes.new in record {
      may = record { running = running; room = room };
      config_is = who.0;
      me_is = who.1;
      halts = record { rows_are = rows_are; limit_is = refl; status_is = status_is };
    }

-- No row was kept.
halted : (k t : KeeperFacts) (limit : ℕ) (status status' : Status) (input : Input) (stepped : Result RowFacts Unkept) (halt : Halt)
    → IsKept (at k.replica k.rows limit status) → status.halted ≡ None → length k.rows < limit → Keeps k input stepped t → IsHaltOf stepped halt
    → status' ≡ record status { halted = Some halt } → HaltsFor (at k.replica k.rows limit status) input halt (at t.replica t.rows limit status')
halted k t limit status status' input (Ok row) halt kept running room keeps is status_is = absurd is
halted k t limit status status' input (Err (unkept.Halted why)) halt kept running room keeps is status_is =
    halts_of k.replica t.replica k.rows t.rows limit status status' input kept.journal.last halt running room (kept.running running)
    (subst (λ (h : Halt). Stops k.replica input h t.replica) (sym is) keeps.0) keeps.1 status_is
halted k t limit status status' input (Err unkept.Memory) halt kept running room keeps is status_is =
    let now : status' ≡ record status { halted = Some halts.Memory } = subst (λ (h : Halt). status' ≡ record status { halted = Some h }) is status_is in
    subst (λ (h : Halt). HaltsFor (at k.replica k.rows limit status) input h (at t.replica t.rows limit status')) (sym is)
    (ran_out k.replica t.replica k.rows t.rows limit status status' input keeps.0.0 running room keeps.0.1 keeps.1 now)

-- No step could be made.
could_not : (r : ReplicaFacts) (rows : List RowFacts) (limit : ℕ) (status status' : Status) (input : Input) (halt : Halt) → CannotStep (length rows) limit status halt status'
    → HaltsFor (at r rows limit status) input halt (at r rows limit status')
could_not r rows limit status status' input halts.AlreadyHalted cannot = (cannot.0, ap (λ (s : Status). at r rows limit s) cannot.1)
could_not r rows limit status status' input halts.JournalFull cannot =
    record { running = cannot.0; full = cannot.1; replica_is = refl; halts = record { rows_are = refl; limit_is = refl; status_is = cannot.2 } }
could_not r rows limit status status' input _ cannot = absurd cannot

-- ---- what a step keeps

halts_keep : (j t : JournalFacts) (halt : Halt) → IsKept j → t.replica.config ≡ j.replica.config → t.replica.me ≡ j.replica.me → HaltsWith j halt t → IsKept t
halts_keep j t halt k config me h =
    let there = halted_more j.replica t.replica j.rows j.limit j.status halt k config me in
    let by_rows = subst (λ (rows : List RowFacts). IsKept (at t.replica rows j.limit (record j.status { halted = Some halt }))) (sym h.rows_are) there in
    let by_limit = subst (λ (limit : ℕ). IsKept (at t.replica t.rows limit (record j.status { halted = Some halt }))) (sym h.limit_is) by_rows in
    subst (λ (status : Status). IsKept (at t.replica t.rows t.limit status)) (sym h.status_is) by_limit

appends_keep : (j t : JournalFacts) (input : Input) (row : RowFacts) → IsKept j → Appends j input row t → IsKept t
appends_keep j t input row k a =
    let g = a.goes in
    let next : Core = g.next in
    let after : ReplicaFacts = record j.replica { core = Some next; status = status_of next } in
    let there = row_more j.replica j.rows j.limit j.status row g.before next k a.may.running a.may.room g.was g.is_next in
    let status_is : t.status ≡ status_of next = a.status_is ∙ ap (λ (r : ReplicaFacts). r.status) g.new in
    let by_replica = subst (λ (r : ReplicaFacts). IsKept (at r (j.rows ++ row ∷ []) j.limit (status_of next))) (sym g.new) there in
    let by_rows = subst (λ (rows : List RowFacts). IsKept (at t.replica rows j.limit (status_of next))) (sym a.rows_are) by_replica in
    let by_limit = subst (λ (limit : ℕ). IsKept (at t.replica t.rows limit (status_of next))) (sym a.limit_is) by_rows in
    subst (λ (status : Status). IsKept (at t.replica t.rows t.limit status)) (sym status_is) by_limit

halt_keeps : (j t : JournalFacts) (input : Input) (halt : Halt) → IsKept j → HaltsFor j input halt t → IsKept t
halt_keeps j t input halts.Exhausted k h =
    let who = stopped j.replica t.replica j.replica.core input halts.Exhausted h.stops in halts_keep j t halts.Exhausted k who.0 who.1 h.halts
halt_keeps j t input halts.Worn k h =
    let who = stopped j.replica t.replica j.replica.core input halts.Worn h.stops in halts_keep j t halts.Worn k who.0 who.1 h.halts
halt_keeps j t input halts.Memory k h = halts_keep j t halts.Memory k h.config_is h.me_is h.halts
halt_keeps j t input halts.JournalFull k h =
    halts_keep j t halts.JournalFull k (ap (λ (r : ReplicaFacts). r.config) h.replica_is) (ap (λ (r : ReplicaFacts). r.me) h.replica_is) h.halts
halt_keeps j t input halts.AlreadyHalted k h = subst IsKept (sym h.1) k

pub advance_keeps : (j t : JournalFacts) (input : Input) (result : Result RowFacts Halt) → IsKept j → Advances j input result t → IsKept t
advance_keeps j t input (Ok row) k a = appends_keep j t input row k a
advance_keeps j t input (Err halt) k h = halt_keeps j t input halt k h

-- ---- as the code has it

pub as_first : (c : Configuration) (me limit : ℕ) (signer : SigningState) (r : ReplicaFacts) (rows : List RowFacts) (status : Status)
    → IsSomeAnd (key_of c roles.Replica me) (λ k. IsKeyOf k signer) → r ≡ first_with c me signer → rows ≡ [] → status ≡ r.status → IsKept (at r rows limit status)
as_first c me limit signer r rows status listed is none status_is =
    let first = first_kept c me limit signer listed in
    let now : status ≡ (first_with c me signer).status = status_is ∙ ap (λ (x : ReplicaFacts). x.status) is in
    let by_status = subst (λ (s : Status). IsKept (at (first_with c me signer) [] limit s)) (sym now) first in
    let by_rows = subst (λ (xs : List RowFacts). IsKept (at (first_with c me signer) xs limit status)) (sym none) by_status in
    subst (λ (x : ReplicaFacts). IsKept (at x rows limit status)) (sym is) by_rows

-- A step was made, or could not be.
pub could_not_step : (k : KeeperFacts) (limit count : ℕ) (status status' : Status) (input : Input) (halt : Halt) → count ≡ length k.rows
    → CannotStep count limit status halt status' → HaltsFor (at k.replica k.rows limit status) input halt (at k.replica k.rows limit status')
could_not_step k limit count status status' input halt same cannot =
    could_not k.replica k.rows limit status status' input halt (subst (λ (n : ℕ). CannotStep n limit status halt status') same cannot)

pub stepped : (k t : KeeperFacts) (limit : ℕ) (status status' stands : Status) (input : Input) (step : Result RowFacts Unkept) (result : Result RowFacts Halt)
    → IsKept (at k.replica k.rows limit status) → status.halted ≡ None → length k.rows < limit → Keeps k input step t → stands ≡ t.replica.status
    → IfOk result (λ row. (step ≡ Ok row) × (status' ≡ stands)) → IfErr result (λ halt. IsHaltOf step halt × (status' ≡ record status { halted = Some halt }))
    → Advances (at k.replica k.rows limit status) input result (at t.replica t.rows limit status')
stepped k t limit status status' stands input step (Ok row) kept running room keeps stands_is ok err =
    let goes = subst (λ (x : Result RowFacts Unkept). Keeps k input x t) ok.0 keeps in
    appended k t limit status status' input row running room goes.0 goes.1 (ok.1 ∙ stands_is)
stepped k t limit status status' stands input step (Err halt) kept running room keeps stands_is ok err =
    halted k t limit status status' input step halt kept running room keeps err.0 err.1
