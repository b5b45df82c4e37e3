-- The registers' ranges as lists of ends and a mask.
use Rattle.std.proofs.Common.{◌≡◌, ℕ, ◌+◌, ◌*◌, ◌%◌, ◌^◌, ◌<◌, ◌≤◌, Bool, true, false, ◌&&◌, cond, eqb, ltb, min, max, List, length, get_or, set, Option, Some, None, refl, sym, ap, subst, ◌∙◌, arith, inl, inr, bit_and, bit_or}
use Rattle.std.specs.Int.{w64, bit_at, bit_not}
use Rattle.std.specs.Option.{option_map}
use Rattle.std.proofs.lemmas.Bool.{lt-ltb, le-ltb, cases_lt}
use Rattle.std.proofs.lemmas.Bool.Decides.{eqb_tells}
use Rattle.std.proofs.lemmas.List.{get_or-set_same, get_or-set_other, get_or_default, get_or_past}
use Rattle.std.proofs.lemmas.Nat.Bits.{bit_at_set_same, bit_at_set_other, bit_at_clear_same, bit_at_clear_other}
use Rattle.reg_ranges.specs.Ranges as reg
use Rattle.reg_ranges.specs.RangeOf.{range_of}
use Rattle.reg_ranges.specs.declared.range.Range.{Range}
use Rattle.bpf_model.specs.AbstractState.{join_option}
use Rattle.bpf_verifier.specs.Registers.{AreOrdered, is_known, range_at}
use Rattle.bpf_verifier.proofs.Bits.{AreMerged, both_bits}

-- registers above r10 have none
pub range_past : (lo hi : List ℕ) (known r : ℕ) → 11 ≤ r → range_at lo hi known r ≡ None
range_past lo hi known r past =
    ap (λ (b : Bool). cond (b && eqb (bit_at known r) 1) (Some (reg.range (get_or lo r 0) (get_or hi r 0))) None) (le-ltb r 11 past)

-- ---- one register

-- the ends of one range are written
pub ordered_set : (lo hi : List ℕ) (k x y : ℕ) → AreOrdered lo hi → k < length lo → k < length hi → x ≤ y → AreOrdered (set lo k x) (set hi k y)
ordered_set lo hi k x y ordered low high order = λ r. elim (eqb_tells r k) [
  | inl (_, same) ↦ subst (λ (n : ℕ). get_or (set lo k x) n 0 ≤ get_or (set hi k y) n 0) (sym same) (
      let a = get_or-set_same lo k x 0 low in
      let b = get_or-set_same hi k y 0 high in
      omega (arith, a, b, order)
      )
  | inr (_, apart) ↦ (
      let a = get_or-set_other lo k r x 0 apart in
      let b = get_or-set_other hi k r y 0 apart in
      let before = ordered r in
      omega (arith, a, b, before)
      )
]

module _ (lo hi : List ℕ) (known k m : ℕ) (inside : k < 11) where
  -- a register is given a range
  pub range_given : (x y : ℕ) → length lo ≡ 11 → length hi ≡ 11 → m ≡ bit_or known (1 * 2 ^ k % 2 ^ 64) → (r : ℕ) → range_at (set lo k x) (set hi k y) m r ≡ cond (eqb r k) (Some (reg.range x y)) (range_at lo hi known r)
  range_given x y low high is r =
      elim (eqb_tells r k) [
        | inl (e, same) ↦ ap (range_at (set lo k x) (set hi k y) m) same ∙ here ∙ sym (ap (λ (b : Bool). cond b (Some (reg.range x y)) (range_at lo hi known r)) e)
        | inr (e, apart) ↦ (
            let small : k < 64 = omega (arith, inside) in
            let bit : bit_at m r ≡ bit_at known r = ap (λ (v : ℕ). bit_at v r) is ∙ bit_at_set_other w64 known k small r apart in
            ap (λ (v : ℕ). cond (ltb r 11 && eqb v 1) (Some (reg.range (get_or (set lo k x) r 0) (get_or (set hi k y) r 0))) None) bit
            ∙ ap (λ (v : ℕ). cond (is_known known r) (Some (reg.range v (get_or (set hi k y) r 0))) None) (get_or-set_other lo k r x 0 apart)
            ∙ ap (λ (v : ℕ). cond (is_known known r) (Some (reg.range (get_or lo r 0) v)) None) (get_or-set_other hi k r y 0 apart)
            ∙ sym (ap (λ (b : Bool). cond b (Some (reg.range x y)) (range_at lo hi known r)) e)
            )
      ] where
        here : range_at (set lo k x) (set hi k y) m k ≡ Some (reg.range x y)
        here =
            let small : k < 64 = omega (arith, inside) in
            let bit : bit_at m k ≡ 1 = ap (λ (v : ℕ). bit_at v k) is ∙ bit_at_set_same w64 known k small in
            ap (λ (b : Bool). cond (b && eqb (bit_at m k) 1) (Some (reg.range (get_or (set lo k x) k 0) (get_or (set hi k y) k 0))) None) (lt-ltb k 11 inside)
            ∙ ap (λ (v : ℕ). cond (eqb v 1) (Some (reg.range (get_or (set lo k x) k 0) (get_or (set hi k y) k 0))) None) bit
            ∙ ap (λ (v : ℕ). Some (reg.range v (get_or (set hi k y) k 0))) (get_or-set_same lo k x 0 (omega (arith, inside, low)))
            ∙ ap (λ (v : ℕ). Some (reg.range x v)) (get_or-set_same hi k y 0 (omega (arith, inside, high)))

  -- a register is given none
  pub range_forgotten : m ≡ bit_and known (bit_not w64 (1 * 2 ^ k % 2 ^ 64)) → (r : ℕ) → range_at lo hi m r ≡ cond (eqb r k) None (range_at lo hi known r)
  range_forgotten is r =
      elim (eqb_tells r k) [
        | inl (e, same) ↦ ap (range_at lo hi m) same ∙ here ∙ sym (ap (λ (b : Bool). cond b None (range_at lo hi known r)) e)
        | inr (e, apart) ↦ elsewhere apart ∙ sym (ap (λ (b : Bool). cond b None (range_at lo hi known r)) e)
      ] where
        here : range_at lo hi m k ≡ None
        here =
            let small : k < 64 = omega (arith, inside) in
            let bit : bit_at m k ≡ 0 = ap (λ (v : ℕ). bit_at v k) is ∙ bit_at_clear_same w64 known k small in
            ap (λ (b : Bool). cond (b && eqb (bit_at m k) 1) (Some (reg.range (get_or lo k 0) (get_or hi k 0))) None) (lt-ltb k 11 inside)
            ∙ ap (λ (v : ℕ). cond (eqb v 1) (Some (reg.range (get_or lo k 0) (get_or hi k 0))) None) bit

        elsewhere : (r ≡ k → ⊥) → range_at lo hi m r ≡ range_at lo hi known r
        elsewhere apart = elim (cases_lt r 11) [
          | inl less ↦ (
              let small : k < 64 = omega (arith, inside) in
              let bit : bit_at m r ≡ bit_at known r = ap (λ (v : ℕ). bit_at v r) is ∙ bit_at_clear_other w64 known k small r (omega (arith, less)) apart in
              ap (λ (v : ℕ). cond (ltb r 11 && eqb v 1) (Some (reg.range (get_or lo r 0) (get_or hi r 0))) None) bit
              )
          | inr past ↦ range_past lo hi m r past ∙ sym (range_past lo hi known r past)
        ]

-- ---- an array of ranges

-- what stands in an array for a register
abbrev pub listed : List (Option Range) → ℕ → Option reg.Range
listed ranges r = option_map range_of (get_or ranges r None)

-- one register more has its range of the array
pub listed_more : (ranges : List (Option Range)) (k r : ℕ) (x d : Option Range) (before now : Option reg.Range) → k < length ranges → x ≡ get_or ranges k d → before ≡ cond (ltb r k) (listed ranges r) None → now ≡ cond (eqb r k) (option_map range_of x) before → now ≡ cond (ltb r (k + 1)) (listed ranges r) None
listed_more ranges k r x d before now inside is old new =
    elim (eqb_tells r k) [
      | inl (e, same) ↦ (
          let there : x ≡ get_or ranges r None = is ∙ get_or_default ranges k d None inside ∙ ap (λ (j : ℕ). get_or ranges j None) (sym same) in
          new ∙ ap (λ (b : Bool). cond b (option_map range_of x) before) e ∙ ap (option_map range_of) there
          ∙ sym (ap (λ (b : Bool). cond b (listed ranges r) None) (lt-ltb r (k + 1) (omega (arith, same))))
          )
      | inr (e, apart) ↦
          new ∙ ap (λ (b : Bool). cond b (option_map range_of x) before) e ∙ old ∙ ap (λ (b : Bool). cond b (listed ranges r) None) (same_test apart)
    ] where
      same_test : (r ≡ k → ⊥) → ltb r k ≡ ltb r (k + 1)
      same_test apart = elim (cases_lt r k) [
        | inl lt ↦ lt-ltb r k lt ∙ sym (lt-ltb r (k + 1) (omega (arith, lt)))
        | inr le ↦ le-ltb r k le ∙ sym (le-ltb r (k + 1) (above le))
      ] where
        above : k ≤ r → k + 1 ≤ r
        above le = elim (cases_lt k r) [ inl lt ↦ omega (arith, lt) | inr ge ↦ absurd (apart (omega (arith, le, ge))) ]

pub listed_all : (ranges : List (Option Range)) (k r : ℕ) (now : Option reg.Range) → k ≡ length ranges → now ≡ cond (ltb r k) (listed ranges r) None → now ≡ listed ranges r
listed_all ranges k r now end is =
    elim (cases_lt r k) [
      | inl less ↦ is ∙ ap (λ (b : Bool). cond b (listed ranges r) None) (lt-ltb r k less)
      | inr past ↦ is ∙ ap (λ (b : Bool). cond b (listed ranges r) None) (le-ltb r k past) ∙ sym (ap (option_map range_of) (get_or_past ranges r None (omega (arith, past, end))))
    ]

-- ---- joins

both_known : (a b r : ℕ) → is_known (bit_and a b) r ≡ (is_known a r && is_known b r)
both_known a b r = both (ltb r 11) _ _ _ (both_bits a b r) where
  both : (t x y z : Bool) → z ≡ (x && y) → (t && z) ≡ ((t && x) && (t && y))
  both true x y z e = e
  both false x y z e = refl

both_ranges : (p q : Bool) (a b : reg.Range) → cond (p && q) (Some (reg.join_of a b)) None ≡ join_option (cond p (Some a) None) (cond q (Some b) None)
both_ranges true true a b = refl
both_ranges true false a b = refl
both_ranges false q a b = refl

pub ranges_joined : (k : ℕ) → k ≡ 11 → (lo hi : List ℕ) (m : ℕ) (lo1 hi1 : List ℕ) (a : ℕ) (lo2 hi2 : List ℕ) (b : ℕ) → AreMerged min k lo lo1 lo2 → AreMerged max k hi hi1 hi2 → m ≡ bit_and a b → (r : ℕ) → range_at lo hi m r ≡ join_option (range_at lo1 hi1 a r) (range_at lo2 hi2 b r)
ranges_joined k end lo hi m lo1 hi1 a lo2 hi2 b low high is r =
    elim (cases_lt r 11) [
      | inl less ↦
          ap (λ (t : Bool). cond t (Some (reg.range (get_or lo r 0) (get_or hi r 0))) None) (ap (λ (v : ℕ). is_known v r) is ∙ both_known a b r)
          ∙ ap (λ (v : ℕ). cond (is_known a r && is_known b r) (Some (reg.range v (get_or hi r 0))) None) (low.merged r (omega (arith, less, end)))
          ∙ ap (λ (v : ℕ). cond (is_known a r && is_known b r) (Some (reg.range (min (get_or lo1 r 0) (get_or lo2 r 0)) v)) None) (high.merged r (omega (arith, less, end)))
          ∙ both_ranges (is_known a r) (is_known b r) (reg.range (get_or lo1 r 0) (get_or hi1 r 0)) (reg.range (get_or lo2 r 0) (get_or hi2 r 0))
      | inr past ↦
          range_past lo hi m r past ∙ sym (ap (λ (o : Option reg.Range). join_option o (range_at lo2 hi2 b r)) (range_past lo1 hi1 a r past))
    ]
