use Rattle.std.proofs.Common.{◌≡◌, ℕ, ◌+◌, rules, ap, subst, sym, ◌∙◌}
use Rattle.pbft_codec.specs.declared.body.pre_prepare.PrePrepare.{PrePrepare}
use Rattle.pbft_model.specs.Certificates.{of_pre_prepare}
use Rattle.seal.specs.Opening.{CheckedMessage}
use Rattle.std.specs.Prelude.{IfErr, List, map, length}
use Rattle.replica_core.specs.Doing.{IsShortOf}
use Rattle.replica_core.specs.Opens.{AreGiven, opening_of}
use Rattle.replica_core.proofs.Opening.{many_are, numbers_small, opening_valid, says_opening, to_open}
use Rattle.replica_stores.proofs.Results.{on_ok}
use Rattle.replica_core.proofs.kept.Core.open_view.Goals as goal

pub given_by-requires-clause-to_open : goal.given_by-requires-clause-to_open
given_by-requires-clause-to_open c = to_open c.args.self.now c.requires.due c.requires.reached

pub send_opening-requires-clause-to_open : goal.send_opening-requires-clause-to_open
send_opening-requires-clause-to_open c = to_open c.args.self.now c.requires.due c.requires.reached

pub enter-requires-clause-valid : goal.enter-requires-clause-valid
enter-requires-clause-valid c = λ n is.
    opening_valid c.args.self.now c.send_opening.new.self (length c.deref.result.now) c.in_ok-message.message n (to_open c.args.self.now c.requires.due c.requires.reached)
    c.in_ok-message.ensures.sent c.in_ok-message.ensures.signed is

pub note_proposals-requires : goal.note_proposals-requires
note_proposals-requires c =
    numbers_small c.args.self.now.core.view c.in_ok-entries.entries.items c.deref-2.result.now c.deref-2.ensures.value c.in_ok-entries.ensures.given.proposals

pub returns-in_err-need_leaves-clause-short : goal.returns-in_err-need_leaves-clause-short
returns-in_err-need_leaves-clause-short c =
    let many : 1 + c.len.result ≡ 1 + length (opening_of c.args.self.now).pre_prepares
    = ap (λ (n : ℕ). 1 + n) (c.len.ensures ∙ c.in_ok-entries.entries.ok.0 ∙ sym (many_are c.args.self.now c.in_ok-entries.entries.items c.in_ok-entries.ensures.given)) in
    subst (λ (n : ℕ). IfErr c.from_residual-in_err-need_leaves.result (IsShortOf c.args.self.now n)) many (search rules)

pub returns-clause-opened : goal.returns-clause-opened
returns-clause-opened c =
    let k = c.args.self.now in
    let given = subst (AreGiven k) (sym c.deref.ensures.value) c.in_ok-entries.ensures.given in
    let body = ap (λ (m : CheckedMessage). m.message.body) c.in_ok-message.ensures.signed in
    on_ok c.note_proposals.result c.note_proposals.ensures.noted (λ noted.
    says_opening k c.deref.result.now given c.send_opening.new.self c.enter.new.self c.note_proposals.new.self c.in_ok-message.ensures.sent (c.in_ok-enter.ensures.entered (opening_of k) body)
    (noted ∙ ap (λ (ps : List PrePrepare). record c.enter.new.self { core = record c.enter.new.self.core { proposed = map of_pre_prepare ps } }) (c.deref-2.ensures.value ∙ sym c.deref.ensures.value)))
