-- Statement: the kind of a message.
use Rattle.std.specs.Prelude.{ℕ, List, codes}
use Rattle.pbft_codec.specs.declared.body.Body.{Body}
use Rattle.pbft_codec.specs.declared.body.Body.TheVariants as bodies
use Rattle.script_values.specs.declared.kind.Kind.{Kind}
use Rattle.script_values.specs.declared.kind.Kind.TheVariants.{Request, PrePrepare, Prepare, Commit, Reply, Checkpoint, ViewChange, NewView, Fetch, Snapshot}

abbrev pub kind_of_body : Body → Kind
kind_of_body (bodies.Request b) = Request
kind_of_body (bodies.PrePrepare b) = PrePrepare
kind_of_body (bodies.Prepare b) = Prepare
kind_of_body (bodies.Commit b) = Commit
kind_of_body (bodies.Reply b) = Reply
kind_of_body (bodies.Checkpoint b) = Checkpoint
kind_of_body (bodies.ViewChange b) = ViewChange
kind_of_body (bodies.NewView b) = NewView
kind_of_body (bodies.Fetch b) = Fetch
kind_of_body (bodies.Snapshot b) = Snapshot

-- kinds differ by their numbers
abbrev pub kind_number : Kind → ℕ
kind_number Request = 1
kind_number PrePrepare = 2
kind_number Prepare = 3
kind_number Commit = 4
kind_number Reply = 5
kind_number Checkpoint = 6
kind_number ViewChange = 7
kind_number NewView = 8
kind_number Fetch = 9
kind_number Snapshot = 10

-- a kind's name in a script
abbrev pub kind_text : Kind → List ℕ
kind_text Request = codes "request"
kind_text PrePrepare = codes "pre-prepare"
kind_text Prepare = codes "prepare"
kind_text Commit = codes "commit"
kind_text Reply = codes "reply"
kind_text Checkpoint = codes "checkpoint"
kind_text ViewChange = codes "view-change"
kind_text NewView = codes "new-view"
kind_text Fetch = codes "fetch"
kind_text Snapshot = codes "snapshot"
