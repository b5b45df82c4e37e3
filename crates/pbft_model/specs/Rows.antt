-- Statement: a row is what one message or one timeout makes a replica do, up to where nothing is due; a journal
-- is a list of rows.
use Rattle.std.specs.Prelude.{◌≡◌, ◌⊎◌, ℕ, ◌+◌, ◌%◌, ◌==◌, ◌<◌, ◌≤◌, Bool, true, false, List, [], ◌∷◌, ◌++◌, Option, Some, None}
use Rattle.host_types.specs.declared.key.PublicKey.{PublicKey}
use Rattle.pbft_model.specs.Words.{SigningState, leaf_count, IsKeyOf, Signed, Body, Replica, Reply}
use Rattle.seal.specs.Signers.{key_of}
use Rattle.pbft_model.specs.Sequential.{Service, Outcome, IsStep}
use Rattle.pbft_model.specs.Setup.{Setup}
use Rattle.pbft_model.specs.Core.{Core, start_of, request_of}
use Rattle.pbft_model.specs.Acts.{Act, Take, Timeout, Send, Relay, Enter, Rise, Execute, Install, Destination, ToClient, after, leaves_of}
use Rattle.pbft_model.specs.Rules.{MayTake, own_message}
use Rattle.pbft_model.specs.Duties.{Duty, Do, Executing, WornOut, say, reply_body, due, NothingBefore}

-- ---- rows

pub data Input : Type 0 where
  Received : Signed Body → Input
  TimedOut : Input

-- What a replica gives: an own message, or another's that it passes on.
pub record Output : Type 0 where
  pub to : Destination
  pub message : Signed Body
  pub own : Bool

pub data Done : Type 0 where
  -- number, the request's digest, and the result, empty where there is no reply
  Executed : ℕ → List ℕ → List ℕ → Done
  -- number, and the state's digest
  Installed : ℕ → List ℕ → Done

pub record Row : Type 0 where
  pub input : Input
  pub outputs : List Output
  pub done : List Done
  pub leaves : ℕ

abbrev pub result_of : Option Reply → List ℕ
result_of None = []
result_of (Some reply) = reply.result

-- what an act adds to its row
abbrev pub outputs_of : Act → List Output
outputs_of (Send to m) = record { to = to; message = m; own = true } ∷ []
outputs_of (Relay to m) = record { to = to; message = m; own = false } ∷ []
outputs_of _ = []

abbrev pub done_of : Setup → Act → List Done
done_of c (Execute number digest service outcome) = Executed number digest (result_of outcome.reply) ∷ []
done_of c (Install number bytes service) = Installed number (c.hash bytes) ∷ []
done_of c _ = []

abbrev pub leaves_for : Act → ℕ
leaves_for (Send to m) = leaves_of m.body
leaves_for _ = 0

abbrev pub all_outputs : List Act → List Output
all_outputs [] = []
all_outputs (a ∷ acts) = outputs_of a ++ all_outputs acts

abbrev pub all_done : Setup → List Act → List Done
all_done c [] = []
all_done c (a ∷ acts) = done_of c a ++ all_done c acts

abbrev pub all_leaves : List Act → ℕ
all_leaves [] = 0
all_leaves (a ∷ acts) = leaves_for a + all_leaves acts

-- The act does the duty. To execute is a step of the service.
abbrev pub Fulfils : Setup → Core → Option Duty → Act → Type 0
Fulfils c s None a = ⊥
Fulfils c s (Some (Do b)) a = a ≡ b
Fulfils c s (Some (Executing number digest)) a =
    (service : Service) × (outcome : Outcome)
    × IsStep s.service (request_of c s digest) service outcome × (a ≡ Execute number digest service outcome)
Fulfils c s (Some WornOut) a = ⊥

-- The signer has the leaves that the act takes.
abbrev pub HasLeaves : Core → Act → Type 0
HasLeaves s a = s.signer.next_leaf + leaves_for a ≤ leaf_count s.signer

-- The acts do what is due, one after another.
abbrev pub Follows : Setup → ℕ → Core → List Act → Core → Type 0
Follows c me s [] t = t ≡ s
Follows c me s (a ∷ acts) t = Fulfils c s (due c me s) a × HasLeaves s a × Follows c me (after c s a) acts t

-- They do it all.
pub record Reacts (c : Setup) (me : ℕ) (s : Core) (acts : List Act) (t : Core) : Type 0 where
  pub follows : Follows c me s acts t
  pub rests : due c me t ≡ None

-- How the replica begins with an input.
abbrev pub Begins : Setup → Input → Act → Type 0
Begins c (Received m) a = (reading : Option Service) × MayTake c m reading × (a ≡ Take m reading)
Begins c TimedOut a = a ≡ Timeout

-- The row of an input, and the core after it.
pub record IsNext (c : Setup) (me : ℕ) (s : Core) (row : Row) (t : Core) : Type 0 where
  pub first : Act
  pub acts : List Act
  pub begins : Begins c row.input first
  pub reacts : Reacts c me (after c s first) acts t
  pub outputs : row.outputs ≡ all_outputs acts
  pub done : row.done ≡ all_done c acts
  pub leaves : row.leaves ≡ all_leaves acts

-- ---- executions one after another

-- A number is due to be executed that is no multiple of the checkpoint interval, and this is the service's step.
pub record FollowsWithout (c : Setup) (me : ℕ) (s : Core) (number : ℕ) (digest : List ℕ) (service : Service) (outcome : Outcome) : Type 0 where
  pub is_due : due c me s ≡ Some (Executing number digest)
  pub step : IsStep s.service (request_of c s digest) service outcome
  pub between : (number % c.config.k == 0) ≡ false

-- The reply alone is due, and then nothing that comes before to execute.
pub record RepliesAlone (c : Setup) (me : ℕ) (s : Core) (reply : Reply) : Type 0 where
  pub first : due c me s ≡ Some (say me s (ToClient reply.client.0) (reply_body s.view reply))
  pub then : NothingBefore c me (after c s (Send (ToClient reply.client.0) (own_message s me (reply_body s.view reply))))

-- ---- halts

pub data Halt : Type 0 where
  Exhausted : Halt
  Worn : Halt

-- The next duty wants a view or a number that is not there, or more leaves than there are.
abbrev pub Lacks : Core → Option Duty → Halt → Type 0
Lacks s (Some WornOut) Worn = Unit {0}
Lacks s (Some (Do a)) Exhausted = leaf_count s.signer < s.signer.next_leaf + leaves_for a
Lacks s None halt = ⊥
Lacks s (Some WornOut) Exhausted = ⊥
Lacks s (Some (Do a)) Worn = ⊥
Lacks s (Some (Executing number digest)) halt = ⊥

-- Nothing is due; or an act does what is due, and has its leaves; or what is due halts the replica.
abbrev pub Continues : Setup → ℕ → Core → Type 0
Continues c me s =
    (due c me s ≡ None)
    ⊎ (((a : Act) × Fulfils c s (due c me s) a × HasLeaves s a)
    ⊎ ((halt : Halt) × Lacks s (due c me s) halt))

-- An input halts the replica: what it leads to wants what is not there.
pub record HaltsBy (c : Setup) (me : ℕ) (s : Core) (input : Input) (halt : Halt) : Type 0 where
  pub first : Act
  pub acts : List Act
  pub last : Core
  pub begins : Begins c input first
  pub follows : Follows c me (after c s first) acts last
  pub lacks : Lacks last (due c me last) halt

-- ---- journals

abbrev pub IsLawfulFrom : Setup → ℕ → Core → List Row → Core → Type 0
IsLawfulFrom c me s [] t = t ≡ s
IsLawfulFrom c me s (row ∷ rows) t = (u : Core) × IsNext c me s row u × IsLawfulFrom c me u rows t

-- how many leaves rows take
abbrev pub leaves_in : List Row → ℕ
leaves_in [] = 0
leaves_in (row ∷ rows) = row.leaves + leaves_in rows

-- The signer's key is the replica's listed one, at whatever leaf.
abbrev pub IsListed : Setup → ℕ → SigningState → Type 0
IsListed c me signer = (key : PublicKey) × (key_of c.config Replica me ≡ Some key) × IsKeyOf key signer

-- A lawful journal of a replica, of some signer with its key.
pub record IsJournal (c : Setup) (me : ℕ) (rows : List Row) : Type 0 where
  pub signer : SigningState
  pub listed : IsListed c me signer
  pub last : Core
  pub lawful : IsLawfulFrom c me (start_of c signer) rows last
