-- What is wrong with a call before it runs: when nothing is, and that it is never told as that memory ran out.
use Rattle.std.proofs.Common.{◌≡◌, ℕ, Bool, true, false, cond, List, length, nat_lt, Option, Some, None, ◌++◌, take, rules, arith, refl, ap, subst, ◌∙◌, ◌≤◌}
use Rattle.std.proofs.Math.Seq.{take-append_seam}
use Rattle.tenant_maps.specs.Entries.{Entries}
use Rattle.sandbox_c.specs.declared.status.Status.TheVariants.{Done, ArgumentsTooLong, BufferTooShort}
use Rattle.sandbox_c.specs.declared.held.Held.{Held}
use Rattle.sandbox_c.specs.RunAnswers.{HasStoppedIn, run_status}
use Rattle.sandbox_c.specs.Statuses.{number_of}

either : (x y : Bool) → number_of (cond x ArgumentsTooLong (cond y BufferTooShort Done)) ≡ 21 → ⊥
either true y e = omega (arith, e)
either false true e = omega (arith, e)
either false false e = omega (arith, e)

pub no_memory : (code : Option (List ℕ)) (entries : Option Entries) (args : List ℕ) (room : ℕ)
    → number_of (run_status code entries args room) ≡ 21 → ⊥
no_memory None entries args room e = omega (arith, e)
no_memory (Some bytes) None args room e = omega (arith, e)
no_memory (Some bytes) (Some entries) args room e = either (nat_lt 256 (length args)) (nat_lt room 256) e

neither : (x y : Bool) → x ≡ false → y ≡ false → cond x ArgumentsTooLong (cond y BufferTooShort Done) ≡ Done
neither true y short long = absurd cc
neither false true short long = absurd cc
neither false false short long = refl

pub goes : (bytes : List ℕ) (entries : Entries) (args : List ℕ) (room : ℕ) → length args ≤ 256 → 256 ≤ room
    → run_status (Some bytes) (Some entries) args room ≡ Done
goes bytes entries args room short long =
    let few : nat_lt 256 (length args) ≡ false = search rules in
    let enough : nat_lt room 256 ≡ false = search rules in
    neither (nat_lt 256 (length args)) (nat_lt room 256) few enough

-- a run that stopped, of what other names stand for
pub stopped : (code old new code' old' new' : Option Held) (args : List ℕ) (client : ℕ) → code ≡ code' → old ≡ old' → new ≡ new'
    → HasStoppedIn code old new args client → HasStoppedIn code' old' new' args client
stopped code old new code' old' new' args client p q r has =
    subst (λ (x : Option Held). HasStoppedIn code' old' x args client) r
    (subst (λ (x : Option Held). HasStoppedIn code' x new args client) q
    (subst (λ (x : Option Held). HasStoppedIn x old new args client) p has))

-- as many bytes as were put at the front
pub front : (n : ℕ) (buffer bytes rest : List ℕ) → n ≡ length bytes → buffer ≡ bytes ++ rest → take n buffer ≡ bytes
front n buffer bytes rest p q =
    ap (λ (k : ℕ). take k buffer) p ∙ ap (λ (all : List ℕ). take (length bytes) all) q ∙ take-append_seam bytes rest
