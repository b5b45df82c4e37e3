-- What a replica does for an input is the input's row, or a halt that the input leads to; and its rows are a lawful journal.
use Rattle.std.proofs.Common.{◌≡◌, ℕ, ◌++◌, List, [], ◌∷◌, map, Option, Some, None, true, false, refl, sym, ap, subst, ◌∙◌, arith}
use Rattle.std.specs.Option.{option_map}
use Rattle.std.proofs.lemmas.Option.{same_Some}
use Rattle.host_types.specs.Configuration.{Configuration}
use Rattle.pbft_model.specs.Acts.{Act, Take, after, recorded}
use Rattle.pbft_model.specs.Core.{Core, start_of}
use Rattle.pbft_model.specs.Duties.{due}
use Rattle.pbft_model.specs.Rows as model
use Rattle.pbft_model.specs.Rows.{Begins, Follows, IsLawfulFrom, IsNext, all_done, all_outputs}
use Rattle.pbft_model.specs.Rules.{IsReading}
use Rattle.pbft_model.specs.Sequential.{Service}
use Rattle.pbft_model.specs.Setup.{Setup, setup_of}
use Rattle.pbft_model.specs.Words.{Body, Signed, SigningState}
use Rattle.pbft_model.proofs.Rowed.{begun, journal_is_history}
use Rattle.seal.specs.Opening.{CheckedMessage, IsChecked}
use Rattle.replica_core.specs.Answering.{Gives, HasBegun, IsAtRest, IsKept, IsRowOf, IsSound, IsWhole}
use Rattle.replica_core.specs.Replicas.{KeptReplica}
use Rattle.replica_core.specs.Settling.{HaltsAfter, IsAfter, IsReached, Settles}
use Rattle.replica_core.specs.Facts.{RowFacts, input_of, row_of}
use Rattle.replica_core.specs.Steps.{Goes, IsAllowed, IsHalt, IsLawful, IsRun, ReplicaFacts, Stops, status_of}
use Rattle.replica_core.specs.declared.halt.Halt.{Halt}
use Rattle.replica_core.specs.declared.halt.Halt.TheVariants as halts
use Rattle.replica_core.specs.declared.replica.Status.{Status}
use Rattle.replica_core.specs.declared.row.Input.{Input}
use Rattle.replica_core.proofs.Growing.{continues}

-- ---- the first act

abbrev with_taken : KeptReplica → Signed Body → Option Service → KeptReplica
with_taken k m reading = record k { core = record k.core { taken = Some m; reading = reading; is_fresh = true; timed_out = false } }

pub takes : (k j t : KeptReplica) (m copy : CheckedMessage) (reading : Option Service) → m.config ≡ k.config → IsChecked m → j ≡ record k { core = recorded (setup_of k.config) k.core m.message m.message.body }
    → IsReading (setup_of j.config) m.message.body reading → copy ≡ m → t ≡ record j { core = record j.core { taken = Some copy.message; reading = reading; is_fresh = true; timed_out = false } }
    → HasBegun k (model.Received m.message) t
takes k j t m copy reading under checked noted reads same kept = (
  Take m.message reading,
  (
    reading,
    record {
      opened = subst (λ (c : Configuration). IsChecked (record { config = c; message = m.message })) under checked;
      reads = subst (λ (x : KeptReplica). IsReading (setup_of x.config) m.message.body reading) noted reads;
    },
    refl,
  ),
  kept ∙ ap (λ (x : CheckedMessage). with_taken j x.message reading) same ∙ ap (λ (x : KeptReplica). with_taken x m.message reading) noted,
)

-- a history continues with it
pub begun_soundly : (k t : KeptReplica) (input : model.Input) → IsSound k → HasBegun k input t → IsSound t
begun_soundly k t input at (a, begins, is) =
    subst IsSound (sym is) (record {
      signer = at.signer;
      acts = a ∷ at.acts;
      history = (at.history, begun (setup_of k.config) k.me at.signer _ input a begins);
      here = ap (λ (x : Core). after (setup_of k.config) x a) at.here;
    })

-- ---- the row

abbrev begun_by : KeptReplica → Act → KeptReplica
begun_by k a = record k { core = after (setup_of k.config) k.core a }

module _ (k s t : KeptReplica) (input : Input) (row : RowFacts) (a : Act) where
  reached_there : (config : Configuration) (me : ℕ) (x : Core) → config ≡ k.config → me ≡ k.me → x ≡ s.core → IsReached (setup_of k.config) k.me s.core → IsReached (setup_of config) me x
  reached_there config me x c m same at =
      subst (λ (y : Configuration). IsReached (setup_of y) me x) (sym c) (subst (λ (y : ℕ). IsReached (setup_of k.config) y x) (sym m) (subst (IsReached (setup_of k.config) k.me) (sym same) at))

  gives_after : (acts : List Act) → IsAtRest k → IsSound (begun_by k a) → Begins (setup_of k.config) (input_of input) a → IsAfter (begun_by k a) acts s → due (setup_of k.config) k.me s.core ≡ None → IsRowOf s input row
      → t ≡ record s { outputs = []; done = []; leaves = 0 } → Gives k input row t
  gives_after acts rest at begins done settled as_checked is =
      let core : t.core ≡ s.core = ap (λ (x : KeptReplica). x.core) is in
      let config : t.config ≡ k.config = ap (λ (x : KeptReplica). x.config) is ∙ done.config in
      let me : t.me ≡ k.me = ap (λ (x : KeptReplica). x.me) is ∙ done.me in
      let many = done.leaves in
      let none = rest.leaves in
      let taken = as_checked.leaves in
      record {
        config = config;
        me = me;
        input_is = as_checked.input_is;
        next = record {
          first = a;
          acts = acts;
          begins = subst (λ (x : Input). Begins (setup_of k.config) (input_of x) a) (sym as_checked.input_is) begins;
          reacts = record {
            follows = subst (Follows (setup_of k.config) k.me (begun_by k a).core acts) (sym core) done.follows;
            rests = ap (due (setup_of k.config) k.me) core ∙ settled;
          };
          outputs = as_checked.outputs ∙ done.outputs ∙ ap (λ xs. xs ++ all_outputs acts) rest.outputs;
          done = as_checked.done ∙ done.done ∙ ap (λ xs. xs ++ all_done (setup_of k.config) acts) rest.done;
          leaves = omega (arith, many, none, taken);
        };
        reached = reached_there t.config t.me t.core config me core (continues (setup_of k.config) k.me acts (begun_by k a).core s.core at done.follows);
        rest = record { outputs = ap (λ (x : KeptReplica). x.outputs) is; done = ap (λ (x : KeptReplica). x.done) is; leaves = ap (λ (x : KeptReplica). x.leaves) is };
      }

pub gives : (k b s t : KeptReplica) (input : Input) (row : RowFacts) → IsAtRest k → IsSound k → HasBegun k (input_of input) b → Settles b s → IsRowOf s input row
    → t ≡ record s { outputs = []; done = []; leaves = 0 } → Gives k input row t
gives k b s t input row rest at (a, begins, is) settles as_checked gave =
    let now : Settles (begun_by k a) s = subst (λ (x : KeptReplica). Settles x s) is settles in
    gives_after k s t input row a now.0 rest (begun_soundly k (begun_by k a) (input_of input) at (a, begins, refl)) begins now.1 now.2 as_checked gave

-- ---- a halt

pub stops_for : (k b : KeptReplica) (input : model.Input) (halt : Halt) → HasBegun k input b → HaltsAfter b halt → IsHalt (setup_of k.config) k.me k.core input halt
stops_for k b input halt (a, begins, is) stops = by_kind halt (subst (λ (x : KeptReplica). HaltsAfter x halt) is stops) where
  by_kind : (h : Halt) → HaltsAfter (begun_by k a) h → IsHalt (setup_of k.config) k.me k.core input h
  by_kind halts.Exhausted x = record { first = a; acts = x.acts; last = x.last; begins = begins; follows = x.follows; lacks = x.halted }
  by_kind halts.Worn x = record { first = a; acts = x.acts; last = x.last; begins = begins; follows = x.follows; lacks = x.halted }
  by_kind halts.Memory x = tt
  by_kind halts.JournalFull x = x.halted
  by_kind halts.AlreadyHalted x = x.halted

pub short_of_memory : (c : Setup) (me : ℕ) (s : Core) (input : model.Input) (halt : Halt) → halt ≡ halts.Memory → IsHalt c me s input halt
short_of_memory c me s input halt is = subst (IsHalt c me s input) (sym is) tt

-- ---- between inputs

abbrev pub seen_as : Configuration → ℕ → Option KeptReplica → Status → ReplicaFacts
seen_as c me o status = record { config = c; me = me; core = option_map (λ k. k.core) o; status = status }

module _ (c : Configuration) (me : ℕ) (o : Option KeptReplica) (status : Status) (whole : IsWhole c me o status) where
  pub kept_there : (k : KeptReplica) → o ≡ Some k → IsKept c me k status
  kept_there k is = subst (λ (x : Option KeptReplica). IsWhole c me x status) is whole

  pub sound_there : (k : KeptReplica) → o ≡ Some k → IsSound k
  sound_there k is =
      let kept = kept_there k is in
      subst (λ (x : Configuration). IsReached (setup_of x) k.me k.core) (sym kept.config) (subst (λ (x : ℕ). IsReached (setup_of c) x k.core) (sym kept.me) kept.reached)

  -- the message's configuration is the core's
  pub config_there : (k : KeptReplica) (r : ReplicaFacts) (config : Configuration) → seen_as c me o status ≡ r → o ≡ Some k → config ≡ r.config → config ≡ k.config
  config_there k r config view is same = same ∙ sym (ap (λ (x : ReplicaFacts). x.config) view) ∙ sym (kept_there k is).config

  module _ (k : KeptReplica) (r : ReplicaFacts) (input : Input) (view : seen_as c me o status ≡ r) (is : o ≡ Some k) where
    abbrev There : ReplicaFacts
    There = record { config = c; me = me; core = Some k.core; status = status }

    there : There ≡ r
    there = sym (ap (λ (x : Option KeptReplica). seen_as c me x status) is) ∙ view

    pub whole_after : (t : KeptReplica) (row : RowFacts) (now : Status) → Gives k input row t → now ≡ status_of t.core → IsWhole c me (Some t) now
    whole_after t row now gave stands =
        let kept = kept_there k is in
        let config : t.config ≡ c = gave.config ∙ kept.config in
        let who : t.me ≡ me = gave.me ∙ kept.me in
        record {
          config = config;
          me = who;
          reached = subst (λ (x : ℕ). IsReached (setup_of c) x t.core) who (subst (λ (x : Configuration). IsReached (setup_of x) t.me t.core) config gave.reached);
          rest = gave.rest;
          status = stands;
        }

    pub went : (t : KeptReplica) (row : RowFacts) (now : Status) → Gives k input row t → now ≡ status_of t.core → Goes r input row (seen_as c me (Some t) now)
    went t row now gave stands =
        let kept = kept_there k is in
        subst (λ (x : ReplicaFacts). Goes x input row (seen_as c me (Some t) now)) there (record {
          before = k.core;
          was = refl;
          input_is = gave.input_is;
          next = t.core;
          is_next = subst (λ (x : ℕ). IsNext (setup_of c) x k.core (row_of row) t.core) kept.me (subst (λ (x : Configuration). IsNext (setup_of x) k.me k.core (row_of row) t.core) kept.config gave.next);
          new = ap (λ (x : Status). let y : ReplicaFacts = record { config = c; me = me; core = Some t.core; status = x } in y) stands;
        })

    pub stopped : (halt : Halt) → IsHalt (setup_of k.config) k.me k.core (input_of input) halt → Stops r input halt (seen_as c me None (record status { halted = Some halt }))
    stopped halt halted =
        let kept = kept_there k is in
        subst (λ (x : ReplicaFacts). Stops x input halt (seen_as c me None (record status { halted = Some halt }))) there (
          subst (λ (x : ℕ). IsHalt (setup_of c) x k.core (input_of input) halt) kept.me (subst (λ (x : Configuration). IsHalt (setup_of x) k.me k.core (input_of input) halt) kept.config halted),
          refl,
        )

  pub already : (r : ReplicaFacts) (input : Input) → seen_as c me o status ≡ r → o ≡ None → Stops r input halts.AlreadyHalted (seen_as c me None status)
  already r input view is =
      subst (λ (x : ReplicaFacts). Stops x input halts.AlreadyHalted (seen_as c me None status)) (sym (ap (λ (x : Option KeptReplica). seen_as c me x status) is) ∙ view) (refl, refl)

-- before the first message
pub starts_whole : (c config : Configuration) (me : ℕ) (signer : SigningState) (k : KeptReplica) (status : Status) → c ≡ config
    → k ≡ record { config = config; me = me; core = start_of (setup_of config) signer; outputs = []; done = []; leaves = 0 } → status ≡ status_of k.core → IsWhole c me (Some k) status
starts_whole c config me signer k status same is stands = subst (λ (x : Configuration). IsWhole x me (Some k) status) (sym same) (record {
  config = ap (λ (x : KeptReplica). x.config) is;
  me = ap (λ (x : KeptReplica). x.me) is;
  reached = record { signer = signer; acts = []; history = tt; here = sym (ap (λ (x : KeptReplica). x.core) is) };
  rest = record { outputs = ap (λ (x : KeptReplica). x.outputs) is; done = ap (λ (x : KeptReplica). x.done) is; leaves = ap (λ (x : KeptReplica). x.leaves) is };
  status = stands;
})

-- ---- runs

lawful_from : (rows : List RowFacts) (r t : ReplicaFacts) (s : Core) → r.core ≡ Some s → IsRun r rows t
    → (last : Core) × (t.core ≡ Some last) × IsLawfulFrom (setup_of r.config) r.me s (map row_of rows) last
lawful_from [] r t s at same = (s, ap (λ (x : ReplicaFacts). x.core) same ∙ at, refl)
lawful_from (row ∷ rows) r t s at (u, goes, rest) =
    let later = lawful_from rows u t goes.next (ap (λ (x : ReplicaFacts). x.core) goes.new) rest in
    let config : u.config ≡ r.config = ap (λ (x : ReplicaFacts). x.config) goes.new in
    let me : u.me ≡ r.me = ap (λ (x : ReplicaFacts). x.me) goes.new in (
      later.0,
      later.1,
      (
        goes.next,
        subst (λ (x : Core). IsNext (setup_of r.config) r.me x (row_of row) goes.next) (same_Some goes.before s (sym goes.was ∙ at)) goes.is_next,
        subst (λ (x : ℕ). IsLawfulFrom (setup_of r.config) x goes.next (map row_of rows) later.0) me
            (subst (λ (x : Configuration). IsLawfulFrom (setup_of x) u.me goes.next (map row_of rows) later.0) config later.2),
      ),
    )

module _ (r t : ReplicaFacts) (signer : SigningState) (rows : List RowFacts) (at : r.core ≡ Some (start_of (setup_of r.config) signer)) (run : IsRun r rows t) where
  pub run_is_lawful : IsLawful r.config r.me signer rows t.core
  run_is_lawful = lawful_from rows r t (start_of (setup_of r.config) signer) at run

  pub run_is_allowed : IsAllowed r.config r.me signer t.core
  run_is_allowed =
      let leads = journal_is_history (setup_of r.config) r.me signer (map row_of rows) run_is_lawful.0 run_is_lawful.2 in
      (leads.0, leads.1, run_is_lawful.1 ∙ ap Some (sym leads.2))
