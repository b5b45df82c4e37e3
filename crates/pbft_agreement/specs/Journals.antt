-- Statement: agreement over journals: what an honest family of journals is, and how one list of requests accounts for
-- all that its rows report.
use Rattle.std.specs.Prelude.{◌≡◌, ◌⊎◌, ℕ, zero, suc, ◌+◌, ◌-◌, ◌≤◌, ◌<◌, ◌==◌, nat_lt, ◌++◌, max, if◌then◌else◌, true, Bool, List, [], ◌∷◌, length, map, slice_get, Option, Some, None}
use Rattle.std.specs.List.{AllByRecursion, flat_map}
use Rattle.pbft_model.specs.Words.{SigningState, Signed, Body, RequestBody, ReplyBody, Snapshot, Replica, Part, IsConfiguration, as_message, part_of, messages_in, signed_text}
use Rattle.pbft_codec.specs.declared.body.Body.TheVariants as bodies
use Rattle.pbft_model.specs.Sequential.{Service, Outcome, encoded}
use Rattle.pbft_model.specs.Setup.{Setup, replicas, count}
use Rattle.pbft_model.specs.Validity.{greatest_of}
use Rattle.pbft_model.specs.Core.{Core, start_of}
use Rattle.pbft_model.specs.Acts.{Act, Send, Execute, after}
use Rattle.pbft_model.specs.Rows.{Row, Received, Output, Done, Executed, Installed, Follows, IsNext, IsLawfulFrom, IsListed, all_done, result_of}
use Rattle.pbft_model.specs.Histories.{IsIn, signed_in}
use Rattle.pbft_model.specs.Families.{IsCorrect}
use Rattle.pbft_agreement.specs.Agreement.{entry_digest, IsAsked, ServesFirst, HoldsState, IsLastReplyAt}

-- Who is faulty, the signer that each replica began with, and its rows, the oldest first.
pub record Journals : Type 0 where
  pub faulty : ℕ → Bool
  pub signer : ℕ → SigningState
  pub rows : ℕ → List Row

-- ---- what rows report

-- A message was received.
abbrev pub HasReceived : Signed Body → List Row → Type 0
HasReceived m rows = (row : Row) × IsIn row rows × (row.input ≡ Received m)

-- A part was signed in an own output.
abbrev pub HasGiven : Part → List Row → Type 0
HasGiven p rows = (row : Row) × (output : Output) × IsIn row rows × IsIn output row.outputs × (output.own ≡ true) × IsIn p (signed_in output.message)

-- Something was executed or installed.
abbrev pub HasDone : Done → List Row → Type 0
HasDone done rows = (row : Row) × IsIn row rows × IsIn done row.done

-- One of the acts executes to this state.
abbrev pub ExecutesTo : Service → List Act → Type 0
ExecutesTo state acts = (number : ℕ) × (digest : List ℕ) × (outcome : Outcome) × IsIn (Execute number digest state outcome) acts

-- In these rows from this core on, a replica executes to this state.
abbrev pub RunsTo : Setup → ℕ → Core → List Row → Service → Type 0
RunsTo c me s [] state = ⊥
RunsTo c me s (row ∷ rows) state = (u : Core) × (next : IsNext c me s row u) × (ExecutesTo state next.acts ⊎ RunsTo c me u rows state)

-- The number that all of this leads to, in its order: each execution is of the next number, and each installation of a
-- higher one; none where one is out of turn.
abbrev pub rises_to : ℕ → List Done → Option ℕ
rises_to n [] = Some n
rises_to n (Executed number digest result ∷ later) = if number == n + 1 then rises_to number later else None
rises_to n (Installed number digest ∷ later) = if nat_lt n number then rises_to number later else None

-- the number of what was done
abbrev pub number_in : Done → ℕ
number_in (Executed number digest result) = number
number_in (Installed number digest) = number

-- the greatest number that rows execute or install
abbrev pub greatest_in : List Row → ℕ
greatest_in rows = greatest_of (flat_map (λ row. map number_in row.done) rows)

-- A replica's core is this after these rows.
abbrev pub ComesTo : Setup → Journals → ℕ → List Row → Core → Type 0
ComesTo c j i rows s = IsLawfulFrom c i (start_of c (j.signer i)) rows s

-- A replica has that core within a row which begins from this one: the row's input has come, and so many of its acts
-- were done.
pub record IsWithin (c : Setup) (me : ℕ) (s : Core) (row : Row) (t : Core) : Type 0 where
  pub last : Core
  pub next : IsNext c me s row last
  pub acts : List Act
  pub later : List Act
  pub splits : next.acts ≡ acts ++ later
  pub follows : Follows c me (after c s next.first) acts t

abbrev pub IsWithinFirst : Setup → ℕ → Core → List Row → Core → Type 0
IsWithinFirst c me s [] t = ⊥
IsWithinFirst c me s (row ∷ rows) t = IsWithin c me s row t

-- A replica had this core: behind some of its rows, or within the row that follows them.
pub record HadCore (c : Setup) (j : Journals) (i : ℕ) (t : Core) : Type 0 where
  pub rows : List Row
  pub rest : List Row
  pub splits : j.rows i ≡ rows ++ rest
  pub core : Core
  pub comes : ComesTo c j i rows core
  pub there : (t ≡ core) ⊎ IsWithinFirst c i core rest t

-- An own message is sent within a row which begins from this core: after these of its acts, from the core that they lead to.
pub record IsSent (c : Setup) (me : ℕ) (s : Core) (row : Row) (output : Output) : Type 0 where
  pub last : Core
  pub next : IsNext c me s row last
  pub earlier : List Act
  pub later : List Act
  pub splits : next.acts ≡ earlier ++ Send output.to output.message ∷ later
  pub from : Core
  pub follows : Follows c me (after c s next.first) earlier from

-- The number was executed or installed.
abbrev pub HasReached : ℕ → List Done → Type 0
HasReached number items = (done : Done) × IsIn done items × (number_in done ≡ number)

-- ---- honest families

-- A correct replica received the message.
abbrev pub IsReceived : Setup → Journals → Signed Body → Type 0
IsReceived c j m = (i : ℕ) × IsCorrect c j.faulty i × HasReceived m (j.rows i)

-- The strings that correct replicas hash: the null request's, which is empty; the signed bytes of the requests and the
-- bytes of the snapshots that they received; and those of the states that they executed to.
abbrev pub IsHashedIn : Setup → Journals → List ℕ → Type 0
IsHashedIn c j text =
    (text ≡ [])
    ⊎ (((m : Signed RequestBody) × IsReceived c j (as_message bodies.Request m) × (text ≡ signed_text (as_message bodies.Request m)))
    ⊎ (((m : Signed Snapshot) × IsReceived c j (as_message bodies.Snapshot m) × (text ≡ m.body.state))
    ⊎ ((i : ℕ) × (state : Service) × IsCorrect c j.faulty i × RunsTo c i (start_of c (j.signer i)) (j.rows i) state × (text ≡ encoded state))))

-- At most f replicas are faulty; the others' journals are lawful, of signers with their listed keys; each part of what
-- they received that names a correct replica as its signer was signed by it in an own output; and among the strings that
-- were hashed equal digests mean equal strings.
pub record IsHonestFamily (c : Setup) (j : Journals) : Type 0 where
  pub configuration : IsConfiguration c.config
  pub few : count j.faulty (replicas c.config) ≤ c.config.f
  pub listed : (i : ℕ) → IsCorrect c j.faulty i → IsListed c i (j.signer i)
  pub lawful : (i : ℕ) → IsCorrect c j.faulty i → (last : Core) × ComesTo c j i (j.rows i) last
  pub real : (i : ℕ) → IsCorrect c j.faulty i → (m p : Signed Body) → HasReceived m (j.rows i) → IsIn p (messages_in m)
      → p.role ≡ Replica → IsCorrect c j.faulty p.id → HasGiven (part_of p) (j.rows p.id)
  pub apart : (x y : List ℕ) → IsHashedIn c j x → IsHashedIn c j y → c.hash x ≡ c.hash y → x ≡ y

-- ---- what the list accounts for

-- the number that a replica reached, if it is correct
abbrev pub reached_in : Journals → ℕ → ℕ
reached_in j i = if j.faulty i then 0 else greatest_in (j.rows i)

-- the greatest number that one of the first n replicas reached
abbrev pub greatest_among : Journals → ℕ → ℕ
greatest_among j zero = 0
greatest_among j (suc n) = max (reached_in j n) (greatest_among j n)

-- Each number up to the greatest reached was executed by a correct replica.
abbrev pub ExecutesEach : Setup → Journals → Type 0
ExecutesEach c j =
    (n : ℕ) → n < greatest_among j (replicas c.config)
    → (i : ℕ) × (digest result : List ℕ) × IsCorrect c j.faulty i × HasDone (Executed (n + 1) digest result) (j.rows i)

-- What was executed is the entry at its number, with its digest, and the result is the sequential service's.
pub record IsAccountedFor (c : Setup) (entries : List (Option (Signed RequestBody))) (number : ℕ) (digest result : List ℕ) : Type 0 where
  pub not_zero : 1 ≤ number
  pub entry : Option (Signed RequestBody)
  pub is_entry : slice_get entries (number - 1) ≡ Some entry
  pub digest_is : digest ≡ entry_digest c entry
  pub state : Service
  pub earlier : List Outcome
  pub outcome : Outcome
  pub serves : ServesFirst c entries number state (earlier ++ outcome ∷ [])
  pub result_is : result ≡ result_of outcome.reply

-- What was installed is the sequential service's state at its number.
pub record IsInstalledFrom (c : Setup) (entries : List (Option (Signed RequestBody))) (number : ℕ) (digest : List ℕ) : Type 0 where
  pub within : number ≤ length entries
  pub state : Service
  pub outcomes : List Outcome
  pub serves : ServesFirst c entries number state outcomes
  pub digest_is : digest ≡ c.hash (encoded state)

-- A reply that is sent in a row is the last one to its client after a number that the replica had reached as it sent
-- it: in the rows before, or by the acts before it in its row.
pub record IsLastReply (c : Setup) (j : Journals) (entries : List (Option (Signed RequestBody))) (i : ℕ) (rows : List Row) (row : Row) (output : Output) (b : ReplyBody) : Type 0 where
  pub core : Core
  pub comes : ComesTo c j i rows core
  pub sent : IsSent c i core row output
  pub number : ℕ
  pub reached : HasReached number (flat_map (λ row. row.done) rows ++ all_done c sent.earlier)
  pub kept : IsLastReplyAt c entries number b

-- One list of requests, as long as the greatest number reached, accounts for all that the journals of correct replicas
-- report: every state behind a row and within it, every execution, every installation and every reply. Its requests
-- were received by correct replicas.
pub record AgreesOver (c : Setup) (j : Journals) (entries : List (Option (Signed RequestBody))) : Type 0 where
  pub as_long : length entries ≡ greatest_among j (replicas c.config)
  pub asked : AllByRecursion (IsAsked c) entries
  pub received : (m : Signed RequestBody) → IsIn (Some m) entries → IsReceived c j (as_message bodies.Request m)
  pub states : (i : ℕ) → IsCorrect c j.faulty i → (s : Core) → HadCore c j i s → HoldsState c entries s
  pub executed : (i number : ℕ) (digest result : List ℕ) → IsCorrect c j.faulty i → HasDone (Executed number digest result) (j.rows i)
      → IsAccountedFor c entries number digest result
  pub installed : (i number : ℕ) (digest : List ℕ) → IsCorrect c j.faulty i → HasDone (Installed number digest) (j.rows i)
      → IsInstalledFrom c entries number digest
  pub replies : (i : ℕ) (rows rest : List Row) (row : Row) (output : Output) (b : ReplyBody) → IsCorrect c j.faulty i → j.rows i ≡ rows ++ row ∷ rest
      → IsIn output row.outputs → output.own ≡ true → output.message.body ≡ bodies.Reply b → IsLastReply c j entries i rows row output b

abbrev pub Agrees : Setup → Journals → Type 0
Agrees c j = (entries : List (Option (Signed RequestBody))) × AgreesOver c j entries
