-- The law: what the first profile accepts the second one accepts, with a bound that is no greater.
use Rattle.std.proofs.Common.{ℕ, ◌≤◌, eqb, List, Some, None, arith, inl, inr}
use Rattle.bpf_decode.specs.declared.insn.Insn.{Insn}
use Rattle.bpf_decode.specs.Faults.{IsCode}
use Rattle.reg_ranges.specs.Ranges.{range, single}
use Rattle.bpf_model.specs.declared.profile.Profile.TheVariants.{One, Two}
use Rattle.bpf_model.specs.Machine.{frames, frame_end, arguments_start}
use Rattle.bpf_model.specs.AbstractState.{start_state}
use Rattle.bpf_model.specs.Verdict.{AcceptsUnder, IsAccepted, IsRejected}
use Rattle.bpf_model.specs.declared.fault.VerifyFault.{VerifyFault}
use Rattle.bpf_model.proofs.Slots.{first_at, few}
use Rattle.bpf_model.proofs.Soundness.{IsWellFormed-start}
use Rattle.bpf_model.proofs.Visits.{all_right, no_faults}
use Rattle.bpf_model.proofs.Bounds.{some_bound}
use Rattle.bpf_model.proofs.Totality.{decided, not_both}
use Rattle.verifier_laws.specs.Compared.{AcceptsWithin, IsRefusedUnder}
use Rattle.verifier_laws.proofs.Unfollowed.{start_follows_none}
use Rattle.verifier_laws.proofs.States.{IsSharper, chosen_more, says_itself, says_nothing}
use Rattle.verifier_laws.proofs.Flow.{Enters}
use Rattle.verifier_laws.proofs.Sharpened.{visits_fewer, bounds_no_greater}

start_sharper : IsSharper (start_state Two) (start_state One)
start_sharper = record {
  ranges = λ r. chosen_more (eqb r 1) (Some (single arguments_start)) (Some (single arguments_start)) _ _ (says_itself (single arguments_start) (omega arith)) (chosen_more (eqb r 2) (Some (range 0 256)) (Some (range 0 256)) _ _ (says_itself (range 0 256) (omega arith)) (chosen_more (eqb r 10) (Some (single (frame_end 0))) (Some (single (frame_end 0))) None None (says_itself (single (frame_end 0)) (omega arith)) (says_nothing None)));
  initialized = λ address e. e;
  words = λ w. record { low = omega arith; some = omega arith; high = omega arith };
}

module _ (bytes : List ℕ) (bound : ℕ) (code : List Insn) (is : IsCode bytes code) (accepted : IsAccepted One code bound) where
  begins : Enters code frames 0 (start_state Two) (start_state One)
  begins = record {
    sharper = start_sharper;
    fits = λ some. IsWellFormed-start One;
    none = start_follows_none;
    right = (all_right One code accepted.dataflow).0;
  }

  within : (least : ℕ) × IsAccepted Two code least × (least ≤ bound)
  within =
      let most = (all_right One code accepted.dataflow).1 in
      let visited = visits_fewer code is.in_range frames (omega arith) 0 (start_state Two) (start_state One) begins in
      let fewer = visited.few in
      let least = some_bound code accepted.structure frames 0 (start_state Two) (first_at code (few bytes code is).0) in (
        least.0,
        record {
          structure = accepted.structure;
          dataflow = no_faults Two code visited.right (omega (arith, most, fewer));
          longest = least.1;
        },
        bounds_no_greater code is.in_range accepted.structure frames (omega arith) 0 (start_state Two) (start_state One) begins least.0 bound least.1 accepted.longest,
      )

pub second_accepts : (bytes : List ℕ) (bound : ℕ) → AcceptsUnder One bytes bound → AcceptsWithin Two bytes bound
second_accepts bytes bound (code, is, accepted) =
    let w = within bytes bound code is accepted in (w.0, (code, is, w.1), w.2)

-- code that the second profile refuses
rejects : (bytes : List ℕ) (code : List Insn) (fault : VerifyFault) (slot : ℕ) → IsCode bytes code → IsRejected Two code fault slot → (reason : VerifyFault) × (at : ℕ) × IsRejected One code reason at
rejects bytes code fault slot is rejected =
    elim (decided One bytes code is) [
      | inl (bound, accepted) ↦
          let w = within bytes bound code is accepted in absurd (not_both Two code w.0 fault slot w.1 rejected)
      | inr refused ↦ refused
    ]

pub first_refuses : (bytes : List ℕ) → IsRefusedUnder Two bytes → IsRefusedUnder One bytes
first_refuses bytes (fault, slot, inl no_code) = (fault, slot, inl no_code)
first_refuses bytes (fault, slot, inr (code, is, rejected)) =
    let r = rejects bytes code fault slot is rejected in (r.0, r.1, inr (code, is, r.2))
