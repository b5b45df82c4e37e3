-- Statement: what the exports answer that keep votes which come early.
use Rattle.std.specs.Prelude.{◌≡◌, ◌==◌, ℕ, Bool, if◌then◌else◌, List, Option, Some, None, Result}
use Rattle.early_votes.specs.Holding.{moved}
use Rattle.handles.specs.declared.held.Held.{Held}
use Rattle.handles.specs.declared.held.Held.TheVariants as held
use Rattle.handles.specs.Told.{AreTold}
use Rattle.handles.specs.Votes.{Holds, Readies, VotesFacts}
use Rattle.pbft_codec.specs.Encoding.{encoding}
use Rattle.seal.specs.Opening.{CheckedMessage}
use Rattle.seal.specs.declared.fault.SealFault.{SealFault}
use Rattle.member_calls.specs.Statuses.{number_of, of_asking, told_of}
use Rattle.member_calls.specs.declared.status.Status.TheVariants.{Done, NoVotes, NoEntry}

-- Bytes are offered: whether they come early is told as 1 or 0.
abbrev pub HeldIn : Option Held → List ℕ → ℕ → ℕ → ℕ → Option Held → Type 0
HeldIn (Some (held.Votes v)) bytes status before told after =
    (result : Result Bool SealFault) × (t : VotesFacts) × Holds v bytes result t × (after ≡ Some (held.Votes t))
    × (status ≡ number_of (of_asking result)) × (told ≡ told_of result before)
HeldIn inside bytes status before told after = (status ≡ number_of NoVotes) × (told ≡ before) × (after ≡ inside)

-- The replica has this low mark and this view.
abbrev pub MovedIn : Option Held → ℕ → ℕ → ℕ → Option Held → Type 0
MovedIn (Some (held.Votes v)) low view status after = (status ≡ number_of Done) × (after ≡ Some (held.Votes (record v { kept = moved v.kept low view })))
MovedIn inside low view status after = (status ≡ number_of NoVotes) × (after ≡ inside)

-- The vote that was taken out is told, and given up once it is; or there is none.
abbrev pub Passes : Option CheckedMessage → VotesFacts → ℕ → ℕ → List ℕ → List ℕ → VotesFacts → Type 0
Passes None v status told before after t = (status ≡ number_of NoEntry) × (after ≡ before) × (t ≡ v)
Passes (Some m) v status told before after t =
    AreTold (encoding m.message) status told before after × (t ≡ (if status == 0 then record v { next = None } else v))

-- The first vote that is on time is taken out and told.
abbrev pub TellsNext : VotesFacts → ℕ → ℕ → List ℕ → List ℕ → VotesFacts → Type 0
TellsNext v status told before after u = (t : VotesFacts) × Readies v.next v t × Passes t.next t status told before after u

abbrev pub NextIn : Option Held → ℕ → ℕ → List ℕ → List ℕ → Option Held → Type 0
NextIn (Some (held.Votes v)) status told before after left =
    (u : VotesFacts) × TellsNext v status told before after u × (left ≡ Some (held.Votes u))
NextIn inside status told before after left = (status ≡ number_of NoVotes) × (after ≡ before) × (left ≡ inside)
