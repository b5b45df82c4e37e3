-- Statement: the Replies that replicas give, and what a client's session hears of them.
use Rattle.std.specs.Prelude.{◌≡◌, ◌⊎◌, ℕ, ◌+◌, ◌<◌, ◌≤◌, ◌++◌, true, Bool, List, ◌∷◌, Some}
use Rattle.pbft_answers.specs.Words.{Signed, Body, RequestBody, ReplyBody, Reply, as_message}
use Rattle.pbft_codec.specs.declared.body.Body.TheVariants as bodies
use Rattle.pbft_answers.specs.Sequential.{Service, Outcome}
use Rattle.pbft_answers.specs.Setup.{Setup, replicas, count, span, digest_of}
use Rattle.pbft_answers.specs.Certificates.{Fields}
use Rattle.pbft_answers.specs.Core.{Core, next_number}
use Rattle.pbft_answers.specs.Acts.{Act, Execute, ToClient, after}
use Rattle.pbft_answers.specs.Rules.{reply_in}
use Rattle.pbft_answers.specs.Duties.{reply_body}
use Rattle.pbft_answers.specs.Rows.{Row, Output, Follows, IsNext, result_of}
use Rattle.pbft_answers.specs.Histories.{IsIn}
use Rattle.pbft_answers.specs.Families.{IsCorrect}
use Rattle.client_session.specs.Journals.{Journals, HasReceived}
use Rattle.pbft_answers.specs.Progress.{Ends}
use Rattle.pbft_answers.specs.Votes.{HasProposed}
use Rattle.pbft_answers.specs.Window.{leader_of}
use Rattle.client_session.specs.Sessions.{SessionState}

-- ---- what a replica gives

-- A number is executed within a row which begins from this core: after these of its acts, in the core that they lead to.
pub record IsExecuted (c : Setup) (me : ℕ) (s : Core) (row : Row) (number : ℕ) (digest result : List ℕ) : Type 0 where
  pub last : Core
  pub next : IsNext c me s row last
  pub earlier : List Act
  pub later : List Act
  pub state : Service
  pub outcome : Outcome
  pub splits : next.acts ≡ earlier ++ Execute number digest state outcome ∷ later
  pub result_is : result ≡ result_of outcome.reply
  pub from : Core
  pub follows : Follows c me (after c s next.first) earlier from

-- Among the outputs is an own Reply to its client, with this reply, in this view.
abbrev pub GivesReply : ℕ → ℕ → Reply → List Output → Type 0
GivesReply me view reply outputs =
    (output : Output) × IsIn output outputs × (output.own ≡ true) × (output.to ≡ ToClient reply.client.0)
    × (output.message.id ≡ me) × (output.message.body ≡ reply_body view reply)

-- ---- what a session hears

-- Among the messages is a Reply of this replica, with this reply, in whatever view.
abbrev pub SaysReply : List (Signed Body) → Reply → ℕ → Type 0
SaysReply ms reply i = (m : Signed Body) × (b : ReplyBody) × IsIn m ms × (m.id ≡ i) × (m.body ≡ bodies.Reply b) × (reply_in b ≡ reply)

-- More replicas say it than may be faulty.
abbrev pub EnoughSay : SessionState → List (Signed Body) → Reply → Type 0
EnoughSay s ms reply =
    (those : ℕ → Bool) × (s.config.f < count those (replicas s.config)) × ((i : ℕ) → i < replicas s.config → those i ≡ true → SaysReply ms reply i)

-- The session's open request is this one, under the replicas' configuration.
pub record HasAsked (c : Setup) (s : SessionState) (m : Signed RequestBody) : Type 0 where
  pub config_is : s.config ≡ c.config
  pub pending : s.request ≡ Some (as_message bodies.Request m)
  pub client_is : m.id ≡ s.client.0
  pub time_is : m.body.time ≡ s.time

-- What each correct replica gave for the client is among the messages.
abbrev pub HearsAll : Setup → Journals → ℕ → List (Signed Body) → Type 0
HearsAll c j client ms =
    (i : ℕ) (row : Row) (output : Output) → IsCorrect c j.faulty i → IsIn row (j.rows i) → IsIn output row.outputs → output.to ≡ ToClient client
    → IsIn output.message ms

-- the reply to a session's open request that was executed at this number, with this result
abbrev pub answer_at : SessionState → ℕ → List ℕ → Reply
answer_at s number result = record { client = s.client; time = s.time; number = record { 0 = number }; result = result }

-- ---- what the primary of view 0 gives out

-- It received the request, and gave it out with these fields.
pub record IsGivenOut (c : Setup) (j : Journals) (x : Fields) (m : Signed RequestBody) : Type 0 where
  pub received : HasReceived (as_message bodies.Request m) (j.rows (leader_of c))
  pub digest_is : x.digest ≡ digest_of c m
  pub proposed : HasProposed x (j.rows (leader_of c))

-- It received the request, and of the client's others none of the same time or a later one; and it has room for a further number.
pub record IsNewest (c : Setup) (j : Journals) (m : Signed RequestBody) : Type 0 where
  pub received : HasReceived (as_message bodies.Request m) (j.rows (leader_of c))
  pub newest : (p : Signed RequestBody) → HasReceived (as_message bodies.Request p) (j.rows (leader_of c)) → p.id ≡ m.id → (p ≡ m) ⊎ (p.body.time < m.body.time)
  pub room : Ends c j (leader_of c) (λ s. next_number s ≤ s.low + span c.config)
