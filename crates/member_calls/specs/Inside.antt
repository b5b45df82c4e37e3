-- Statement: what a handle holds.
use Rattle.std.specs.Prelude.{List, Option, Some, None, option_and_then}
use Rattle.handles.specs.Accounts.{LedgerFacts}
use Rattle.handles.specs.Claim.{Claim}
use Rattle.host_types.specs.Configuration.{Configuration}
use Rattle.client_session.specs.Sessions.{SessionState}
use Rattle.handles.specs.Members.{MemberFacts}
use Rattle.handles.specs.Votes.{VotesFacts}
use Rattle.handles.specs.Repeating.{RepeatsFacts}
use Rattle.handles.specs.declared.held.Held.{Held}
use Rattle.handles.specs.declared.held.Held.TheVariants as held

-- What is to be a configuration.
abbrev pub draft_of : Held → Option Configuration
draft_of (held.Draft d) = Some d
draft_of _ = None

-- The configuration.
abbrev pub config_of : Held → Option Configuration
config_of (held.Config c) = Some c.value
config_of _ = None

-- The replica, with the row of its last step.
abbrev pub member_of : Held → Option MemberFacts
member_of (held.Member m) = Some m
member_of _ = None

-- The client's session.
abbrev pub client_of : Held → Option SessionState
client_of (held.Client s) = Some s
client_of _ = None

-- The votes that came early.
abbrev pub votes_of : Held → Option VotesFacts
votes_of (held.Votes v) = Some v
votes_of _ = None

-- What a replica sends again.
abbrev pub repeats_of : Held → Option RepeatsFacts
repeats_of (held.Repeats r) = Some r
repeats_of _ = None

-- What each message claims that an audit has heard.
abbrev pub audit_of : Held → Option (List (Option Claim))
audit_of (held.Audit a) = Some a
audit_of _ = None

-- What replicas say that they did.
abbrev pub ledger_of : Held → Option LedgerFacts
ledger_of (held.Ledger l) = Some l
ledger_of _ = None

-- The same of what is inside a handle.
abbrev pub draft_in : Option Held → Option Configuration
draft_in inside = option_and_then draft_of inside

abbrev pub config_in : Option Held → Option Configuration
config_in inside = option_and_then config_of inside

abbrev pub member_in : Option Held → Option MemberFacts
member_in inside = option_and_then member_of inside

abbrev pub client_in : Option Held → Option SessionState
client_in inside = option_and_then client_of inside

abbrev pub votes_in : Option Held → Option VotesFacts
votes_in inside = option_and_then votes_of inside

abbrev pub repeats_in : Option Held → Option RepeatsFacts
repeats_in inside = option_and_then repeats_of inside

abbrev pub audit_in : Option Held → Option (List (Option Claim))
audit_in inside = option_and_then audit_of inside

abbrev pub ledger_in : Option Held → Option LedgerFacts
ledger_in inside = option_and_then ledger_of inside
