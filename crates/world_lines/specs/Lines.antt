-- Statement: the line of each thing that happens.
use Rattle.std.specs.Prelude.{ℕ, List, [], ◌++◌, codes, decimal, take, Option, Some, None, bytes_eq, if◌then◌else◌}
use Rattle.conflicts.specs.Blames.{signer_of}
use Rattle.conflicts.specs.declared.blame.Blame.{Blame}
use Rattle.conflicts.specs.declared.blame.Blame.TheVariants as blames
use Rattle.conflicts.specs.declared.claim.Claim.{Claim}
use Rattle.conflicts.specs.declared.claim.Topic.{Topic}
use Rattle.conflicts.specs.declared.claim.Topic.TheVariants as topics
use Rattle.hex.specs.Hex.{encode_lower}
use Rattle.host_types.specs.declared.Digest.{Digest}
use Rattle.host_types.specs.declared.ReplicaId.{ReplicaId}
use Rattle.host_types.specs.declared.SeqNo.{SeqNo}
use Rattle.host_types.specs.declared.View.{View}
use Rattle.replica_core.specs.Halts as halts
use Rattle.script_text.specs.Kinds.{kind_text}
use Rattle.script_text.specs.Nodes.{node_text}
use Rattle.script_text.specs.Kind.{Kind}
use Rattle.script_text.specs.Node.{Node}
use Rattle.seal.specs.Faults as faults
use Rattle.seal.specs.declared.fault.SealFault.{SealFault}
use Rattle.seal.specs.declared.vote.VoteKind.{VoteKind}
use Rattle.seal.specs.declared.vote.VoteKind.TheVariants as votes
use Rattle.sha2.specs.Sha256.{sha256}
use Rattle.world_lines.specs.declared.happening.Cause.{Cause}
use Rattle.world_lines.specs.declared.happening.Cause.TheVariants as causes
use Rattle.world_lines.specs.declared.happening.Happening.{Happening}
use Rattle.world_lines.specs.declared.happening.Happening.TheVariants as happens
use Rattle.world_lines.specs.declared.saying.Saying.{Saying}
use Rattle.world_lines.specs.declared.saying.Saying.TheVariants as sayings

-- ---- words

-- the first eight digits of a digest
abbrev pub short : Digest → List ℕ
short digest = encode_lower (take 4 digest.0)

-- the request that a digest names; that of the null request is the digest of no bytes
abbrev pub request_name : Digest → List ℕ
request_name digest = if bytes_eq digest.0 (sha256 []) then codes "null" else short digest

abbrev pub vote_name : VoteKind → List ℕ
vote_name votes.PrePrepare = codes "pre-prepare"
vote_name votes.Prepare = codes "prepare"
vote_name votes.Commit = codes "commit"

abbrev pub place_words : List ℕ → View → SeqNo → Digest → List ℕ
place_words kind view number digest =
    kind ++ (codes " view " ++ (decimal view.0 ++ (codes " number " ++ (decimal number.0 ++ (codes " " ++ request_name digest)))))

abbrev pub state_words : SeqNo → Digest → List ℕ
state_words number digest = codes "checkpoint number " ++ (decimal number.0 ++ (codes " " ++ short digest))

abbrev pub fetch_words : Digest → List ℕ
fetch_words digest = codes "fetch request " ++ short digest

abbrev pub unreadable_words : Option Kind → List ℕ
unreadable_words None = codes "bytes"
unreadable_words (Some kind) = kind_text kind ++ codes " unreadable"

abbrev pub saying_words : Saying → List ℕ
saying_words (sayings.Request time digest) = codes "request time " ++ (decimal time ++ (codes " " ++ short digest))
saying_words (sayings.Vote kind view number digest) = place_words (vote_name kind) view number digest
saying_words (sayings.Reply time number) = codes "reply time " ++ (decimal time ++ (codes " number " ++ decimal number.0))
saying_words (sayings.Checkpoint number digest) = state_words number digest
saying_words (sayings.ViewChange view low) = codes "view-change view " ++ (decimal view.0 ++ (codes " low " ++ decimal low.0))
saying_words (sayings.NewView view) = codes "new-view view " ++ decimal view.0
saying_words (sayings.FetchRequest digest) = fetch_words digest
saying_words (sayings.FetchState number) = codes "fetch state " ++ decimal number.0
saying_words (sayings.Snapshot number) = codes "snapshot number " ++ decimal number.0
saying_words (sayings.Unreadable kind) = unreadable_words kind

-- ---- lines

-- a step that begins
abbrev pub began_line : ℕ → Option ℕ → List ℕ → List ℕ
began_line step None name = codes "# step " ++ (decimal step ++ (codes " " ++ (name ++ codes "\n")))
began_line step (Some line) name =
    codes "# step " ++ (decimal step ++ (codes " (line " ++ (decimal line ++ (codes ") " ++ (name ++ codes "\n")))))

-- a message on its way
abbrev pub handed_line : Option Node → List ℕ → Node → Saying → List ℕ
handed_line from arrow to saying =
    node_text from ++ (codes " " ++ (arrow ++ (codes " " ++ (node_text (Some to) ++ (codes " " ++ (saying_words saying ++ codes "\n"))))))

-- that a step queues nothing, and why
abbrev pub unqueued_line : Cause → List ℕ
unqueued_line (causes.Exhausted node) = codes "nothing to queue: " ++ (node_text (Some node) ++ codes " has no leaf left\n")
unqueued_line (causes.NeverMade client time) =
    codes "nothing to queue: " ++ (decimal client.0 ++ (codes " made no request at time " ++ (decimal time ++ codes "\n")))
unqueued_line causes.NoMessage = codes "nothing to queue: the name has no message\n"

-- what a replica does, with a number
abbrev pub at_line : ReplicaId → List ℕ → ℕ → List ℕ
at_line at words number = decimal at.0 ++ (codes " " ++ (words ++ (codes " " ++ (decimal number ++ codes "\n"))))

abbrev pub left_line : ReplicaId → View → List ℕ
left_line at view = decimal at.0 ++ (codes " leaves for view " ++ (decimal view.0 ++ codes "\n"))

abbrev pub raised_line : ReplicaId → SeqNo → List ℕ
raised_line at low = decimal at.0 ++ (codes " raises low to " ++ (decimal low.0 ++ codes "\n"))

abbrev pub refused_words : Option Node → Option Kind → List ℕ
refused_words from None = codes "bytes"
refused_words from (Some kind) = codes "a " ++ (kind_text kind ++ (codes " of " ++ node_text from))

abbrev pub fault_words : SealFault → Option ℕ → List ℕ
fault_words fault None = faults.name_of fault
fault_words fault (Some part) = faults.name_of fault ++ (codes " in part " ++ decimal part)

abbrev pub refusal_line : ReplicaId → Option Node → Option Kind → SealFault → Option ℕ → List ℕ
refusal_line at from kind fault part =
    decimal at.0 ++ (codes " refuses " ++ (refused_words from kind ++ (codes ": " ++ (fault_words fault part ++ codes "\n"))))

abbrev pub topic_words : Topic → List ℕ
topic_words (topics.Vote kind view number) = vote_name kind ++ (codes " view " ++ (decimal view.0 ++ (codes " number " ++ decimal number.0)))
topic_words (topics.Checkpoint number) = codes "checkpoint number " ++ decimal number.0
topic_words (topics.ViewChange view) = codes "view-change view " ++ decimal view.0
topic_words (topics.NewView view) = codes "new-view view " ++ decimal view.0
topic_words (topics.Leaf leaf) = codes "leaf " ++ decimal leaf

-- what is said of it: of a vote the request that is named, of another topic the digest of a state or of what was signed
abbrev pub digest_words : Topic → Digest → List ℕ
digest_words (topics.Vote kind view number) digest = request_name digest
digest_words _ digest = short digest

abbrev pub twice_words : Claim → Claim → List ℕ
twice_words one other =
    topic_words one.topic ++ (codes " " ++ (digest_words one.topic one.digest ++ (codes " " ++ digest_words other.topic other.digest)))

-- that a ViewChange hides a Commit
abbrev pub hidden_words : Claim → SeqNo → Digest → List ℕ
hidden_words change number digest = topic_words change.topic ++ (codes " hides " ++ (decimal number.0 ++ (codes " " ++ request_name digest)))

abbrev pub blame_words : Blame → List ℕ
blame_words (blames.Twice one other) = twice_words one other
blame_words (blames.Hidden change view number digest) = hidden_words change number digest
blame_words (blames.Invalid claim) = topic_words claim.topic ++ codes " invalid"

abbrev pub blame_line : Blame → List ℕ
blame_line blame = codes "blame " ++ (decimal (signer_of blame) ++ (codes " " ++ (blame_words blame ++ codes "\n")))

abbrev pub happening_line : Happening → List ℕ
happening_line (happens.Began step line name) = began_line step line name.now
happening_line (happens.Handed from to saying) = handed_line from (codes "->") to saying
happening_line (happens.Lost from to saying) = handed_line from (codes "-x") to saying
happening_line (happens.Refused at from kind fault part) = refusal_line at from kind fault part
happening_line (happens.Unqueued cause) = unqueued_line cause
happening_line (happens.TimedOut at) = decimal at.0 ++ codes " times out\n"
happening_line (happens.Executed at number) = at_line at (codes "executes") number.0
happening_line (happens.Installed at number) = at_line at (codes "installs") number.0
happening_line (happens.Left at view) = left_line at view
happening_line (happens.Entered at view) = at_line at (codes "enters view") view.0
happening_line (happens.Raised at low) = raised_line at low
happening_line (happens.Halted at halt) = decimal at.0 ++ (codes " halts: " ++ (halts.name_of halt ++ codes "\n"))
happening_line (happens.Accepted client) = codes "client " ++ (decimal client.0 ++ codes " accepts\n")
happening_line (happens.Blamed blame) = blame_line blame
