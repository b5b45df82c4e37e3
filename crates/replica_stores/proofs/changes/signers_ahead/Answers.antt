use Rattle.std.proofs.Common.{◌||◌, ap, filter, sym, ◌∙◌}
use Rattle.std.specs.Ordering.{nat_cmp}
use Rattle.std.specs.FinSet as set
use Rattle.replica_stores.specs.Changes.{is_ahead}
use Rattle.replica_stores.proofs.Joining.{has_signer, signer_more}
use Rattle.replica_stores.proofs.changes.signers_ahead.Goals as goal

pub loop-key-preserved-then-is_ahead : goal.loop-key-preserved-then-is_ahead
loop-key-preserved-then-is_ahead c = λ i.
    let grown = signer_more c.loop-key.signers c.args.view.0 c.args.me.0 c.in-Some.key.now c.next.new.self c.loop-key.key-iterator i _ c.in-Some.ensures.steps (sym c.if-is_ahead.ensures) (c.loop-key.invariant i) in
    ap (λ s. set.contains s i || has_signer i (filter (is_ahead c.args.view.0 c.args.me.0) c.next.new.self)) c.insert.ensures.inserted ∙ grown

pub loop-key-init : goal.loop-key-init
loop-key-init c = λ i.
    ap (λ s. set.contains s i || has_signer i (filter (is_ahead c.args.view.0 c.args.me.0) c.into_iter-key-iterator.result)) c.new-signers.ensures
    ∙ ap (λ b. b || has_signer i (filter (is_ahead c.args.view.0 c.args.me.0) c.into_iter-key-iterator.result)) (set.contains-empty nat_cmp i)
    ∙ ap (λ ks. has_signer i (filter (is_ahead c.args.view.0 c.args.me.0) ks)) (c.into_iter-key-iterator.ensures.into_iter_gives ∙ c.keys-key-items.ensures.rest)
