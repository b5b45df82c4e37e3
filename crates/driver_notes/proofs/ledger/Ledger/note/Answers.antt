use Rattle.std.proofs.Common.{subst}
use Rattle.driver_notes.specs.Accounts.{IsFirst, LedgerFacts, Remarks}
use Rattle.driver_notes.specs.declared.ledger.Remark.{Remark}
use Rattle.driver_notes.proofs.ledger.Ledger.note.Goals as goal

pub returns-clause-remarked : goal.returns-clause-remarked
returns-clause-remarked c =
    let remark : Remark = record { first = c.first_of.result; follows = c.follows.result } in
    let first = subst (λ deeds. IsFirst deeds c.args.deed remark.first) c.deref.ensures.value c.first_of.ensures in
    subst (λ (l : LedgerFacts). Remarks l c.args.deed remark) c.self.view_is (first, c.follows.ensures)
