-- Statement: the ten kinds of bodies, each with all that is said of it.
use Rattle.std.specs.Prelude.{ℕ, ◌+◌, ◌<◌, ◌^◌, List, length}
use Rattle.pbft_codec.specs.declared.body.Body.{Body}
use Rattle.pbft_codec.specs.declared.body.Body.TheVariants as bodies
use Rattle.pbft_codec.specs.declared.body.new_view.NewView.{NewView}
use Rattle.pbft_codec.specs.declared.body.view_change.ViewChange.{ViewChange}
use Rattle.pbft_codec.specs.declared.kind.Kind.{Kind}
use Rattle.pbft_codec.specs.declared.kind.Kind.TheVariants as kinds
use Rattle.pbft_codec.specs.declared.sender.Sender.{Sender}
use Rattle.pbft_codec.specs.declared.sender.Sender.TheVariants as senders
use Rattle.pbft_codec.specs.Layouts.{request, pre_prepare, prepare, commit, reply, checkpoint, view_change, new_view, fetch, snapshot}
use Rattle.pbft_codec.specs.Lengths.{view_change_length, new_view_length, fetch_length}
use Rattle.pbft_codec.specs.Limits.{IsSequenceNumber, ViewChangeWellFormed, NewViewWellFormed, FetchWellFormed, PrePrepareFieldsInRange, PrepareFieldsInRange, CommitFieldsInRange, CheckpointFieldsInRange, ReplyFieldsInRange, ViewChangeFieldsInRange, NewViewFieldsInRange, FetchFieldsInRange}

-- The signed messages that a body holds: none, a ViewChange's or a NewView's.
pub data Contents : Type 0 where
  Nothing : Contents
  InViewChange : ViewChange → Contents
  InNewView : NewView → Contents

pub record BodyDefinition : Type 1 where
  pub kind : Kind
  -- the bytes behind the byte of the kind
  pub fields : List ℕ
  -- how many bytes there are, with that of the kind
  pub encoded_length : ℕ
  -- numbers, counts and the order of ids are within their limits
  pub WellFormed : Type 0
  -- each field is a value of its type
  pub FieldsInRange : Type 0
  -- who may send it
  pub sender : Sender
  pub contents : Contents

abbrev pub definition_of : Body → BodyDefinition
definition_of (bodies.Request r) =
    record {
      kind = kinds.Request;
      fields = request r;
      encoded_length = 13 + length r.op;
      WellFormed = Unit {0};
      FieldsInRange = r.time < 2 ^ 64;
      sender = senders.Client;
      contents = Nothing;
    }
definition_of (bodies.PrePrepare p) =
    record {
      kind = kinds.PrePrepare;
      fields = pre_prepare p;
      encoded_length = 45;
      WellFormed = IsSequenceNumber p.number;
      FieldsInRange = PrePrepareFieldsInRange p;
      sender = senders.Primary p.view;
      contents = Nothing;
    }
definition_of (bodies.Prepare p) =
    record {
      kind = kinds.Prepare;
      fields = prepare p;
      encoded_length = 45;
      WellFormed = IsSequenceNumber p.number;
      FieldsInRange = PrepareFieldsInRange p;
      sender = senders.Backup p.view;
      contents = Nothing;
    }
definition_of (bodies.Commit c) =
    record {
      kind = kinds.Commit;
      fields = commit c;
      encoded_length = 45;
      WellFormed = IsSequenceNumber c.number;
      FieldsInRange = CommitFieldsInRange c;
      sender = senders.Replica;
      contents = Nothing;
    }
definition_of (bodies.Reply r) =
    record {
      kind = kinds.Reply;
      fields = reply r;
      encoded_length = 29 + length r.result;
      WellFormed = IsSequenceNumber r.number;
      FieldsInRange = ReplyFieldsInRange r;
      sender = senders.Replica;
      contents = Nothing;
    }
definition_of (bodies.Checkpoint c) =
    record {
      kind = kinds.Checkpoint;
      fields = checkpoint c;
      encoded_length = 41;
      WellFormed = IsSequenceNumber c.number;
      FieldsInRange = CheckpointFieldsInRange c;
      sender = senders.Replica;
      contents = Nothing;
    }
definition_of (bodies.ViewChange v) =
    record {
      kind = kinds.ViewChange;
      fields = view_change v;
      encoded_length = view_change_length v;
      WellFormed = ViewChangeWellFormed v;
      FieldsInRange = ViewChangeFieldsInRange v;
      sender = senders.Replica;
      contents = InViewChange v;
    }
definition_of (bodies.NewView n) =
    record {
      kind = kinds.NewView;
      fields = new_view n;
      encoded_length = new_view_length n;
      WellFormed = NewViewWellFormed n;
      FieldsInRange = NewViewFieldsInRange n;
      sender = senders.Primary n.view;
      contents = InNewView n;
    }
definition_of (bodies.Fetch f) =
    record {
      kind = kinds.Fetch;
      fields = fetch f;
      encoded_length = fetch_length f;
      WellFormed = FetchWellFormed f;
      FieldsInRange = FetchFieldsInRange f;
      sender = senders.Replica;
      contents = Nothing;
    }
definition_of (bodies.Snapshot s) =
    record {
      kind = kinds.Snapshot;
      fields = snapshot s;
      encoded_length = 13 + length s.state;
      WellFormed = IsSequenceNumber s.number;
      FieldsInRange = Unit {0};
      sender = senders.Replica;
      contents = Nothing;
    }

abbrev pub kind_in : Body → Kind
kind_in b = (definition_of b).kind

-- The fields behind the byte of the kind.
abbrev pub fields : Body → List ℕ
fields b = (definition_of b).fields

-- The bytes of a body, with that of the kind.
abbrev pub encoded_length_of : Body → ℕ
encoded_length_of b = (definition_of b).encoded_length

abbrev pub BodyWellFormed : Body → Type 0
BodyWellFormed b = (definition_of b).WellFormed

abbrev pub BodyFieldsInRange : Body → Type 0
BodyFieldsInRange b = (definition_of b).FieldsInRange

-- Who may send a body.
abbrev pub sender_of : Body → Sender
sender_of b = (definition_of b).sender

abbrev pub contents_of : Body → Contents
contents_of b = (definition_of b).contents
