use Rattle.std.proofs.Common.{◌≡◌, ℕ, ◌-◌, List, length, refl, ap, ◌∙◌, arith}
use Rattle.std.specs.Prelude.{map, max}
use Rattle.pbft_codec.specs.declared.body.Body.TheVariants as bodies
use Rattle.quorum_log.specs.Words.{Signed, Certificate, ViewChange}
use Rattle.quorum_log.specs.Rules.{pre_prepare_of}
use Rattle.quorum_log.specs.Validity.{greatest_of, floor_of, top_of}
use Rattle.seal.specs.Lists.{CheckedMessages, messages_of}
use Rattle.seal.specs.Opening.{CheckedMessage}
use Rattle.seal.specs.Parts.{as_message}
use Rattle.std.specs.List.{flat_map}
use Rattle.view_change.specs.Reports.{reported_certificates}
use Rattle.view_change.specs.Proposals.{left_from}
use Rattle.quorum_log.specs.Setup.{setup_of}
use Rattle.view_change.proofs.Entering.{signed_is_valid, within_span}
use Rattle.view_change.proofs.Giving.{many_left}
use Rattle.view_change.proofs.Reported.{lows_reported, certificates_reported, messages_under}
use Rattle.view_change.proofs.opening.new_view.Goals as goal

of_messages : (l : CheckedMessages) (xs : List CheckedMessage) (ms : List (Signed ViewChange)) → xs ≡ map (λ m. record { config = l.config; message = m }) l.messages → l.messages ≡ map (as_message bodies.ViewChange) ms
    → messages_of xs ≡ map (as_message bodies.ViewChange) ms
of_messages l xs ms are e = ap messages_of are ∙ messages_under l.config l.messages ∙ e

pub returns-clause-given : goal.returns-clause-given
returns-clause-given c = λ ms e.
    let s = setup_of c.args.changes.now.config in
    let same = of_messages c.args.changes.now c.as_slice-changes.result.now ms c.as_slice-changes.ensures.value e in
    let lows = lows_reported c.as_slice-changes.result.now ms same in
    let floor : c.greatest_low-floor.result ≡ floor_of ms = c.greatest_low-floor.ensures ∙ ap greatest_of lows in
    let top : c.top_of-top.result ≡ top_of ms =
    c.top_of-top.ensures
    ∙ ap (λ (ns : List ℕ). max (greatest_of ns) (greatest_of (map (λ x. x.pre_prepare.body.number.0) (flat_map (λ m. reported_certificates m.message.body) c.as_slice-changes.result.now)))) lows
    ∙ ap (λ (xs : List Certificate). max (floor_of ms) (greatest_of (map (λ x. x.pre_prepare.body.number.0) xs))) (certificates_reported c.as_slice-changes.result.now ms same) in
    record {
      floor = floor;
      top = top;
      entries = c.in_ok-entries.ensures c.args.changes.now.config ms same
          ∙ ap (λ (n : ℕ). map pre_prepare_of (left_from s c.args.view.0 ms n c.top_of-top.result)) floor
          ∙ ap (λ (n : ℕ). map pre_prepare_of (left_from s c.args.view.0 ms (floor_of ms) n)) top;
    }

pub returns-clause-few : goal.returns-clause-few
returns-clause-few c = λ k ms e ordered.
    let s = setup_of c.args.changes.now.config in
    let all = returns-clause-given c ms e in
    let many : length c.in_ok-entries.entries.items ≡ top_of ms - floor_of ms = ap length all.entries ∙ many_left s c.args.view.0 (floor_of ms) (top_of ms) ms in
    let high = within_span s ms ordered in
    let interval = k.max_interval in
    omega arith

pub returns-clause-valid : goal.returns-clause-valid
returns-clause-valid c = λ k n e h.
    let all = returns-clause-given c n.changes e in
    signed_is_valid c.args.changes.now.config k n c.args.changes.now c.args.view.0 _ refl e c.as_slice-changes.ensures.checked all.entries h
