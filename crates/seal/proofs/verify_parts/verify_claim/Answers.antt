use Rattle.std.proofs.Common.{None}
use Rattle.seal.proofs.Authenticity.{own_fault_by_key}
use Rattle.seal.proofs.verify_parts.verify_claim.Goals as goal

pub returns-in-Ok : goal.returns-in-Ok
returns-in-Ok c m is said =
    own_fault_by_key c.args.config.now m c.in_ok-key.key.now _ c.args.claim.now.sig.now None (c.in_ok-key.ensures m is) is.sig said c.in-Ok.ensures

pub returns-in-Err : goal.returns-in-Err
returns-in-Err c m is said =
    own_fault_by_key c.args.config.now m c.in_ok-key.key.now _ c.args.claim.now.sig.now _ (c.in_ok-key.ensures m is) is.sig said c.in-Err.ensures
