-- Statement: several committed numbers executed in one row, one after another.
use Rattle.std.specs.Prelude.{◌≡◌, ℕ, ◌+◌, ◌%◌, ◌==◌, true, false, List, [], ◌∷◌, ◌++◌, Option, Some, None}
use Rattle.pbft_model.specs.Words.{SigningState, Signed, Body, Reply}
use Rattle.pbft_model.specs.Sequential.{Service, Outcome, IsStep}
use Rattle.pbft_model.specs.Setup.{Setup, signed_by, signer_after}
use Rattle.pbft_model.specs.Core.{Core, is_committed, request_of}
use Rattle.pbft_model.specs.Acts.{Act, Send, Execute, ToClient}
use Rattle.pbft_model.specs.Rules.{leaves_before}
use Rattle.pbft_model.specs.Duties.{reply_body}

-- What is executed at a number, and what comes of it.
pub record Execution : Type 0 where
  pub number : ℕ
  pub digest : List ℕ
  pub service : Service
  pub outcome : Outcome

abbrev pub act_of : Execution → Act
act_of x = Execute x.number x.digest x.service x.outcome

-- Behind the last executed number and the state after it: the next number, committed-local in the replica's view, and
-- the service's step.
pub record IsExecution (c : Setup) (s : Core) (service : Service) (executed : ℕ) (x : Execution) : Type 0 where
  pub next : x.number ≡ executed + 1
  pub committed : is_committed c s (record { view = s.view; number = x.number; digest = x.digest }) ≡ true
  pub step : IsStep service (request_of c s x.digest) x.service x.outcome

-- Executions one behind another, of which only the last may be at a multiple of the checkpoint interval.
abbrev pub AreExecutions : Setup → Core → Service → ℕ → Execution → List Execution → Type 0
AreExecutions c s service executed x [] = IsExecution c s service executed x
AreExecutions c s service executed x (y ∷ ys) =
    IsExecution c s service executed x × ((x.number % c.config.k == 0) ≡ false) × AreExecutions c s x.service x.number y ys

abbrev pub last_of : Execution → List Execution → Execution
last_of x [] = x
last_of x (y ∷ ys) = last_of y ys

-- an own message of the signer
abbrev pub message_by : SigningState → ℕ → Body → Signed Body
message_by signer me body = signed_by (λ b. b) (signer_after signer (leaves_before body)) me body

-- a reply's message, how many leaves it takes, and the signer after it
abbrev pub reply_act : ℕ → ℕ → SigningState → Option Reply → List Act
reply_act me view signer None = []
reply_act me view signer (Some reply) = Send (ToClient reply.client.0) (message_by signer me (reply_body view reply)) ∷ []

abbrev pub reply_leaves : Option Reply → ℕ
reply_leaves None = 0
reply_leaves (Some reply) = 1

abbrev pub signer_with_reply : SigningState → Option Reply → SigningState
signer_with_reply signer None = signer
signer_with_reply signer (Some reply) = signer_after signer 1

-- Each number is executed and then answered, but for the last one's answer, which is left to do.
abbrev pub acts_together : ℕ → ℕ → SigningState → Execution → List Execution → List Act
acts_together me view signer x [] = act_of x ∷ []
acts_together me view signer x (y ∷ ys) =
    act_of x ∷ (reply_act me view signer x.outcome.reply ++ acts_together me view (signer_with_reply signer x.outcome.reply) y ys)

-- how many leaves they take
abbrev pub leaves_together : Execution → List Execution → ℕ
leaves_together x [] = 0
leaves_together x (y ∷ ys) = reply_leaves x.outcome.reply + leaves_together y ys

-- the signer after them
abbrev pub signer_together : SigningState → Execution → List Execution → SigningState
signer_together signer x [] = signer
signer_together signer x (y ∷ ys) = signer_together (signer_with_reply signer x.outcome.reply) y ys
