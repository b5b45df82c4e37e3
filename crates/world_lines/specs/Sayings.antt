-- Statement: what a message says, in short.
use Rattle.std.specs.Prelude.{ℕ, Option, Result, Ok, Err}
use Rattle.host_types.specs.declared.Digest.{Digest}
use Rattle.host_types.specs.declared.SeqNo.{SeqNo}
use Rattle.host_types.specs.declared.View.{View}
use Rattle.pbft_codec.specs.declared.body.Body.{Body}
use Rattle.pbft_codec.specs.declared.body.Body.TheVariants as bodies
use Rattle.pbft_codec.specs.declared.body.fetch.Fetch.TheVariants as fetches
use Rattle.codec_fields.specs.declared.fault.CodecFault.{CodecFault}
use Rattle.pbft_codec.specs.declared.signed.Signed.{Signed}
use Rattle.pbft_codec.specs.Encoding.{signed_text}
use Rattle.script_text.specs.Kind.{Kind}
use Rattle.seal.specs.declared.vote.VoteKind.{VoteKind}
use Rattle.seal.specs.declared.vote.VoteKind.TheVariants as votes
use Rattle.sha2.specs.Sha256.{sha256}
use Rattle.world_lines.specs.declared.saying.Saying.{Saying}
use Rattle.world_lines.specs.declared.saying.Saying.TheVariants as sayings

-- the digest by which votes name a request
abbrev pub digest_of : Signed Body → Digest
digest_of m = record { 0 = sha256 (signed_text m) }

abbrev pub vote_saying : VoteKind → View → SeqNo → Digest → Saying
vote_saying kind view number digest = sayings.Vote kind view number digest

abbrev pub body_says : Body → Digest → Saying
body_says (bodies.Request r) digest = sayings.Request r.time digest
body_says (bodies.PrePrepare p) digest = vote_saying votes.PrePrepare p.view p.number p.digest
body_says (bodies.Prepare p) digest = vote_saying votes.Prepare p.view p.number p.digest
body_says (bodies.Commit p) digest = vote_saying votes.Commit p.view p.number p.digest
body_says (bodies.Reply r) digest = sayings.Reply r.time r.number
body_says (bodies.Checkpoint c) digest = sayings.Checkpoint c.number c.digest
body_says (bodies.ViewChange v) digest = sayings.ViewChange v.view v.low
body_says (bodies.NewView n) digest = sayings.NewView n.view
body_says (bodies.Fetch (fetches.Request d)) digest = sayings.FetchRequest d
body_says (bodies.Fetch (fetches.State n)) digest = sayings.FetchState n
body_says (bodies.Snapshot s) digest = sayings.Snapshot s.number

abbrev pub saying_of : Signed Body → Saying
saying_of m = body_says m.body (digest_of m)

-- what bytes that read so say, of the kind that a script gave them
abbrev pub said_in : Option Kind → Result (Signed Body) CodecFault → Saying
said_in kind (Ok m) = saying_of m
said_in kind (Err fault) = sayings.Unreadable kind
