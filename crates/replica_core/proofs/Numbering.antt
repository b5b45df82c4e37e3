-- That the next number fits.
use Rattle.std.proofs.Common.{◌≡◌, ℕ, ◌<◌, Bool, true, false, cond, List, [], ◌∷◌, map, Option, Some, None, sym, ap, subst, ◌∙◌, arith}
use Rattle.std.specs.Prelude.{IfSome, MatchOption}
use Rattle.std.specs.List.{AllByRecursion}
use Rattle.std.specs.Option.{unwrap_or}
use Rattle.std.specs.Ordering.{is_lt, ord_max}
use Rattle.std.specs.declared.cmp.Ordering.{Ordering}
use Rattle.host_types.specs.Configuration.{Configuration}
use Rattle.host_types.specs.declared.SeqNo.{SeqNo}
use Rattle.pbft_model.specs.Certificates.{Fields}
use Rattle.pbft_model.specs.Core.{floor_in}
use Rattle.pbft_model.specs.Setup.{number_limit}
use Rattle.pbft_model.specs.Validity.{floor_of, greatest_of}
use Rattle.pbft_model.specs.Words.{Signed, ViewChange}
use Rattle.replica_stores.specs.Log.{IsBetweenMarks, KeptLog}
use Rattle.replica_core.specs.Replicas.{AreOne, KeptReplica, Parts, basis_in, kept_in}

-- the later of two numbers is below what both are below
pub later_below : (cmp : SeqNo → SeqNo → Ordering) (a b r : SeqNo) (n : ℕ) → r ≡ ord_max cmp a b → a.0 < n → b.0 < n → r.0 < n
later_below cmp a b r n e low high = subst (λ (x : SeqNo). x.0 < n) (sym e) (cases (is_lt (cmp b a))) where
  cases : (first : Bool) → (cond first a b).0 < n
  cases true = low
  cases false = high

all_below : (xs : List Fields) → AllByRecursion (λ x. x.number < number_limit) xs → greatest_of (map (λ x. x.number) xs) < number_limit
all_below [] all = omega arith
all_below (x ∷ xs) all = omega (arith, all.0, all_below xs all.1)

floor_below : (o : Option ℕ) (ms : List (Signed ViewChange)) → MatchOption o (ms ≡ []) (λ floor. floor ≡ floor_of ms) → IfSome o (λ floor. floor < number_limit) → floor_of ms < number_limit
floor_below None ms e below = let zero_is : floor_of ms ≡ 0 = ap floor_of e in omega (arith, zero_is)
floor_below (Some floor) ms e below = omega (arith, e, below)

recorded_below : (k : KeptLog) (o : Option SeqNo) → IfSome o (λ n. IsBetweenMarks k n.0) → (unwrap_or o (record { 0 = 0 })).0 < number_limit
recorded_below k None inside = omega arith
recorded_below k (Some n) inside = inside.small

pub numbers_fit : (cmp : SeqNo → SeqNo → Ordering) (c : Configuration) (me : ℕ) (p : Parts) → AreOne c me p → (k : KeptReplica) (low floor recorded own one two last : SeqNo) (o : Option SeqNo) → kept_in c me p ≡ k
    → low.0 ≡ k.core.low → floor.0 ≡ floor_in k.core → recorded ≡ unwrap_or o (record { 0 = 0 }) → IfSome o (λ n. IsBetweenMarks p.log n.0) → own.0 ≡ greatest_of (map (λ x. x.number) p.sent.proposed)
    → one ≡ ord_max cmp low floor → two ≡ ord_max cmp one recorded → last ≡ ord_max cmp two own → last.0 < number_limit
numbers_fit cmp c me p one k low floor recorded own first second last o e is_low is_floor is_recorded inside is_own is_first is_second is_last =
    let lowest : low.0 ≡ p.log.log.low = is_low ∙ ap (λ (x : KeptReplica). x.core.low) (sym e) in
    let opened : floor.0 ≡ floor_of (basis_in p.basis) = is_floor ∙ ap (λ (x : KeptReplica). floor_in x.core) (sym e) in
    let a : low.0 < number_limit = omega (arith, lowest, one.reached, one.executed) in
    let b : floor.0 < number_limit = omega (arith, opened, floor_below p.log.log.floor (basis_in p.basis) one.floor one.opened_at) in
    let d : recorded.0 < number_limit = subst (λ (x : SeqNo). x.0 < number_limit) (sym is_recorded) (recorded_below p.log o inside) in
    let g : own.0 < number_limit = omega (arith, is_own, all_below p.sent.proposed one.proposed) in
    later_below cmp second own last number_limit is_last (later_below cmp first recorded second number_limit is_second (later_below cmp low floor first number_limit is_first a b) d) g
