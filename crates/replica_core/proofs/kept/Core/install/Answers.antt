use Rattle.std.proofs.Common.{◌∙◌, ap}
use Rattle.sha2.specs.Sha256.{sha256}
use Rattle.replica_core.proofs.Installing.{fits, installs, is_above, is_reached, is_ready, stays_stable}
use Rattle.replica_core.proofs.kept.Core.install.Goals as goal

pub go_on_from_reading-requires-clause-fits : goal.go_on_from_reading-requires-clause-fits
go_on_from_reading-requires-clause-fits c =
    let ready = is_ready _ _ _ c.self.invariant c.args.self.now c.in-Some.message c.in-Snapshot.snapshot c.body.result.now c.leaves_left.result
    c.self.view_is c.leaves_left.ensures c.in-Some.is c.body.ensures.value c.in-Snapshot.is c.requires.due c.requires.reads in
    fits c.args.self.now c.in-Snapshot.snapshot c.in_ok-digest.digest.0 c.in_ok-bytes.bytes ready
    c.keep_snapshot.new.self c.note_done.new.self c.in_ok-bytes.ensures c.in_ok-digest.ensures.kept c.in_ok-note_done.ensures.noted

pub rise-requires-clause-above : goal.rise-requires-clause-above
rise-requires-clause-above c =
    let ready = is_ready _ _ _ c.self.invariant c.args.self.now c.in-Some.message c.in-Snapshot.snapshot c.body.result.now c.leaves_left.result
    c.self.view_is c.leaves_left.ensures c.in-Some.is c.body.ensures.value c.in-Snapshot.is c.requires.due c.requires.reads in
    is_above c.args.self.now c.in-Snapshot.snapshot c.in_ok-digest.digest.0 c.in_ok-bytes.bytes ready
    c.keep_snapshot.new.self c.note_done.new.self c.in_ok-bytes.ensures c.in_ok-digest.ensures.kept c.in_ok-note_done.ensures.noted c.go_on_from_reading.new.self c.go_on_from_reading.ensures

pub rise-requires-clause-reached : goal.rise-requires-clause-reached
rise-requires-clause-reached c =
    let ready = is_ready _ _ _ c.self.invariant c.args.self.now c.in-Some.message c.in-Snapshot.snapshot c.body.result.now c.leaves_left.result
    c.self.view_is c.leaves_left.ensures c.in-Some.is c.body.ensures.value c.in-Snapshot.is c.requires.due c.requires.reads in
    is_reached c.args.self.now c.in-Snapshot.snapshot c.in_ok-digest.digest.0 c.in_ok-bytes.bytes ready
    c.keep_snapshot.new.self c.note_done.new.self c.in_ok-bytes.ensures c.in_ok-digest.ensures.kept c.in_ok-note_done.ensures.noted c.go_on_from_reading.new.self c.go_on_from_reading.ensures

pub rise-requires-clause-stable : goal.rise-requires-clause-stable
rise-requires-clause-stable c =
    let ready = is_ready _ _ _ c.self.invariant c.args.self.now c.in-Some.message c.in-Snapshot.snapshot c.body.result.now c.leaves_left.result
    c.self.view_is c.leaves_left.ensures c.in-Some.is c.body.ensures.value c.in-Snapshot.is c.requires.due c.requires.reads in
    stays_stable c.args.self.now c.in-Snapshot.snapshot c.in_ok-digest.digest.0 c.in_ok-bytes.bytes ready
    c.keep_snapshot.new.self c.note_done.new.self c.in_ok-bytes.ensures c.in_ok-digest.ensures.kept c.in_ok-note_done.ensures.noted c.go_on_from_reading.new.self c.go_on_from_reading.ensures
    (c.in_ok-digest.ensures.digest ∙ ap sha256 c.in_ok-bytes.ensures)

pub returns-clause-installed : goal.returns-clause-installed
returns-clause-installed c =
    let ready = is_ready _ _ _ c.self.invariant c.args.self.now c.in-Some.message c.in-Snapshot.snapshot c.body.result.now c.leaves_left.result
    c.self.view_is c.leaves_left.ensures c.in-Some.is c.body.ensures.value c.in-Snapshot.is c.requires.due c.requires.reads in
    installs c.args.self.now c.in-Snapshot.snapshot c.in_ok-digest.digest.0 c.in_ok-bytes.bytes ready
    c.keep_snapshot.new.self c.note_done.new.self c.in_ok-bytes.ensures c.in_ok-digest.ensures.kept c.in_ok-note_done.ensures.noted c.go_on_from_reading.new.self c.go_on_from_reading.ensures
    (c.in_ok-digest.ensures.digest ∙ ap sha256 c.in_ok-bytes.ensures) c.rise.new.self c.rise.ensures
