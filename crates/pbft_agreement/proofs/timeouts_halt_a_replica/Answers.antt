use Rattle.std.proofs.Common.{[], arith, refl}
use Rattle.pbft_model.specs.Acts.{Timeout, after}
use Rattle.pbft_model.specs.Core.{start_of}
use Rattle.pbft_agreement.specs.Worked.{toy}
use Rattle.pbft_model.specs.Setup.{fresh}
use Rattle.pbft_agreement.proofs.timeouts_halt_a_replica.Goals as goal

-- nothing was done yet: the first duty wants what is not there
pub returns : goal.returns
returns k = record {
  exhausted = λ id secret. record { first = Timeout; acts = []; last = after toy (start_of toy (record (fresh id secret) { next_leaf = 32 })) Timeout; begins = refl; follows = refl; lacks = omega arith };
  worn = λ id secret. record { first = Timeout; acts = []; last = after toy (record (start_of toy (record (fresh id secret) { next_leaf = 32 })) { view = 4_294_967_295 }) Timeout; begins = refl; follows = refl; lacks = tt };
  continues = λ id secret. (record { follows = (refl, omega arith, refl); rests = refl }, tt);
}
