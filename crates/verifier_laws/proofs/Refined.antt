-- What a test says of narrower operands is narrower, and where it can come out a way for these it can for the others.
use Rattle.std.proofs.Common.{◌≡◌, ℕ, ◌+◌, ◌-◌, ◌^◌, ◌<◌, ◌≤◌, min, max, Bool, true, false, ◌&&◌, ◌||◌, cond, eqb, leb, ltb, Option, Some, None, refl, sym, subst, ◌∙◌, arith, inl, inr}
use Rattle.std.specs.Option.{option_map}
use Rattle.std.proofs.lemmas.Bool.{leb-true, leb-false, ltb-true, ltb-false, eqb-true, eqb-false, eq-eqb, le-leb, lt-leb, lt-ltb, le-ltb, and_parts, and_from, or_cases, or_left, or_right, false_from_ne_true}
use Rattle.bpf_num.specs.declared.AluWidth.{AluWidth}
use Rattle.bpf_num.specs.declared.AluWidth.TheVariants.{W32, W64}
use Rattle.bpf_num.specs.declared.jump.Test.{Test}
use Rattle.bpf_num.specs.declared.jump.Test.TheVariants.{Jeq, Jgt, Jge, Jset, Jne, Jsgt, Jsge, Jlt, Jle, Jslt, Jsle}
use Rattle.bpf_num.specs.Jump.{jump_test_of}
use Rattle.reg_ranges.specs.Ranges.{Range, range, is_single, is_positive}
use Rattle.reg_ranges.specs.Refine.{Ranges, ranges, exchanged, without, equal_edge, unequal_edge, greater_edge, greater_or_equal_edge, signed_edge, is_zero, taken_edge, refuted_edge, wide_edge, edge_of, same, refine_of, Keeps}
use Rattle.reg_ranges.proofs.Edges.{refine_keeps}
use Rattle.verifier_laws.proofs.Ranges.{IsWithin, widen, low_in, single_is, single_within, positive_both}

-- an edge that can be taken, to ranges that lie within those of another that can
abbrev pub AreWithin : Option Ranges → Option Ranges → Type 0
AreWithin None o = Unit {0}
AreWithin (Some r) None = ⊥
AreWithin (Some r) (Some s) = IsWithin r.a s.a × IsWithin r.b s.b

exchanged_within : (r s : Option Ranges) → AreWithin r s → AreWithin (option_map exchanged r) (option_map exchanged s)
exchanged_within None s h = tt
exchanged_within (Some r) None h = absurd h
exchanged_within (Some r) (Some s) h = (h.1, h.0)

-- a range without one of its numbers, which isn't its only one
without_kept : (r : Range) (v : ℕ) → r.lo < r.hi → IsWithin (without r v) r
without_kept r v some = cases (eqb r.lo v) (eqb r.hi v) where
  cases : (s t : Bool) → IsWithin (cond s (range (r.lo + 1) r.hi) (cond t (range r.lo (r.hi - 1)) r)) r
  cases true t = record { low = omega arith; some = omega arith; high = omega arith }
  cases false true = record { low = omega arith; some = omega arith; high = omega arith }
  cases false false = record { low = omega arith; some = omega arith; high = omega arith }

without_within : (r s : Range) (v : ℕ) → IsWithin r s → r.lo < r.hi → IsWithin (without r v) (without s v)
without_within r s v p some = cases (eqb r.lo v) (eqb r.hi v) (eqb s.lo v) (eqb s.hi v) refl refl refl refl where
  cases : (i j k l : Bool) → eqb r.lo v ≡ i → eqb r.hi v ≡ j → eqb s.lo v ≡ k → eqb s.hi v ≡ l → IsWithin (cond i (range (r.lo + 1) r.hi) (cond j (range r.lo (r.hi - 1)) r)) (cond k (range (s.lo + 1) s.hi) (cond l (range s.lo (s.hi - 1)) s))
  cases true j true l ei ej ek el =
      let at = eqb-true r.lo v ei in
      let from = eqb-true s.lo v ek in record { low = omega arith; some = omega arith; high = omega arith }
  cases true j false true ei ej ek el =
      let at = eqb-true r.lo v ei in let to = eqb-true s.hi v el in absurd (omega arith)
  cases true j false false ei ej ek el = record { low = omega arith; some = omega arith; high = omega arith }
  cases false true true l ei ej ek el =
      let at = eqb-true r.hi v ej in let from = eqb-true s.lo v ek in absurd (omega arith)
  cases false true false true ei ej ek el =
      let at = eqb-true r.hi v ej in
      let to = eqb-true s.hi v el in record { low = omega arith; some = omega arith; high = omega arith }
  cases false true false false ei ej ek el = record { low = omega arith; some = omega arith; high = omega arith }
  cases false false true l ei ej ek el =
      let other = eqb-false r.lo v ei in
      let from = eqb-true s.lo v ek in
      record { low = omega (arith, other); some = omega arith; high = omega arith }
  cases false false false true ei ej ek el =
      let other = eqb-false r.hi v ej in
      let to = eqb-true s.hi v el in
      record { low = omega arith; some = omega arith; high = omega (arith, other) }
  cases false false false false ei ej ek el = p

more_than_one : (r : Range) → r.lo ≤ r.hi → is_single r ≡ false → r.lo < r.hi
more_than_one r some e = let other = eqb-false r.lo r.hi e in omega (arith, other)

-- two ranges aren't both single numbers
abbrev pub NotBothSingle : Range → Range → Type 0
NotBothSingle a b = is_single a ≡ true → is_single b ≡ true → ⊥

-- an operand that isn't equal to the other
unequal_one : (a b c d : Range) → IsWithin a c → IsWithin b d → NotBothSingle a b → IsWithin (cond (is_single b) (without a b.lo) a) (cond (is_single d) (without c d.lo) c)
unequal_one a b c d p q apart = cases (is_single b) (is_single d) refl refl where
  some : is_single b ≡ true → a.lo < a.hi
  some e = more_than_one a p.some (false_from_ne_true (is_single a) (λ f. apart f e))

  cases : (s t : Bool) → is_single b ≡ s → is_single d ≡ t → IsWithin (cond s (without a b.lo) a) (cond t (without c d.lo) c)
  cases true true e f =
      subst (λ (v : ℕ). IsWithin (without a b.lo) (without c v)) (single_is b d q f).0 (without_within a c b.lo p (some e))
  cases true false e f = widen (without a b.lo) a c (without_kept a b.lo (some e)) p.low p.high
  cases false true e f = absurd (let one = sym (single_within b d q f) ∙ e in cc)
  cases false false e f = p

unequal_one_kept : (a b c : Range) → IsWithin a c → NotBothSingle a b → IsWithin (cond (is_single b) (without a b.lo) a) c
unequal_one_kept a b c p apart = cases (is_single b) refl where
  cases : (s : Bool) → is_single b ≡ s → IsWithin (cond s (without a b.lo) a) c
  cases true e =
      widen (without a b.lo) a c (without_kept a b.lo (more_than_one a p.some (false_from_ne_true (is_single a) (λ f. apart f e)))) p.low p.high
  cases false e = p

-- ---- edges

-- an edge to ranges within those of another one, and within these
record Goes (r s : Option Ranges) (c d : Range) : Type 0 where
  within : AreWithin r s
  kept : AreWithin r (Some (ranges c d))

-- ranges within two others
record Pair (a b c d : Range) : Type 0 where
  first : IsWithin a c
  second : IsWithin b d

turned : (a b c d : Range) → Pair a b c d → Pair b a d c
turned a b c d p = record { first = p.second; second = p.first }

exchanged_goes : (r s : Option Ranges) (c d : Range) → Goes r s d c → Goes (option_map exchanged r) (option_map exchanged s) c d
exchanged_goes r s c d g = record {
  within = exchanged_within r s g.within;
  kept = exchanged_within r (Some (ranges d c)) g.kept;
}

equal_goes : (a b c d : Range) → Pair a b c d → Goes (equal_edge a b) (equal_edge c d) c d
equal_goes a b c d p = cases (leb (max a.lo b.lo) (min a.hi b.hi)) refl where
  one : IsWithin a c
  one = p.first

  other : IsWithin b d
  other = p.second

  both : Range
  both = range (max a.lo b.lo) (min a.hi b.hi)

  cases : (s : Bool) → leb (max a.lo b.lo) (min a.hi b.hi) ≡ s → Goes (cond s (Some (ranges (range (max a.lo b.lo) (min a.hi b.hi)) (range (max a.lo b.lo) (min a.hi b.hi)))) None) (equal_edge c d) c d
  cases true e =
      let some = leb-true (max a.lo b.lo) (min a.hi b.hi) e in
      let x = one in
      let y = other in
      record {
        within = rw (le-leb (max c.lo d.lo) (min c.hi d.hi) (omega arith)) (record { low = omega arith; some = some; high = omega arith }, record { low = omega arith; some = some; high = omega arith });
        kept = (record { low = omega arith; some = some; high = omega arith }, record { low = omega arith; some = some; high = omega arith });
      }
  cases false e = record { within = tt; kept = tt }

unequal_goes : (a b c d : Range) → Pair a b c d → NotBothSingle a b → Goes (unequal_edge a b) (unequal_edge c d) c d
unequal_goes a b c d p apart = record {
  within = (unequal_one a b c d p.first p.second apart, unequal_one b a d c p.second p.first (λ e f. apart f e));
  kept = (unequal_one_kept a b c p.first apart, unequal_one_kept b a d p.second (λ e f. apart f e));
}

greater_goes : (a b c d : Range) → Pair a b c d → Goes (greater_edge a b) (greater_edge c d) c d
greater_goes a b c d p = cases (leb a.hi b.lo) refl p.first p.second where
  cases : (s : Bool) → leb a.hi b.lo ≡ s → IsWithin a c → IsWithin b d → Goes (cond s None (Some (ranges (range (max a.lo (b.lo + 1)) a.hi) (range b.lo (min b.hi (a.hi - 1)))))) (greater_edge c d) c d
  cases true e one other = record { within = tt; kept = tt }
  cases false e one other =
      let more = leb-false a.hi b.lo e in
      record {
        within = rw (lt-leb c.hi d.lo (omega arith)) (record { low = omega arith; some = omega arith; high = omega arith }, record { low = omega arith; some = omega arith; high = omega arith });
        kept = (record { low = omega arith; some = omega arith; high = omega arith }, record { low = omega arith; some = omega arith; high = omega arith });
      }

greater_or_equal_goes : (a b c d : Range) → Pair a b c d → Goes (greater_or_equal_edge a b) (greater_or_equal_edge c d) c d
greater_or_equal_goes a b c d p = cases (ltb a.hi b.lo) refl p.first p.second where
  cases : (s : Bool) → ltb a.hi b.lo ≡ s → IsWithin a c → IsWithin b d → Goes (cond s None (Some (ranges (range (max a.lo b.lo) a.hi) (range b.lo (min b.hi a.hi))))) (greater_or_equal_edge c d) c d
  cases true e one other = record { within = tt; kept = tt }
  cases false e one other =
      let more = ltb-false a.hi b.lo e in
      record {
        within = rw (le-ltb c.hi d.lo (omega arith)) (record { low = omega arith; some = omega arith; high = omega arith }, record { low = omega arith; some = omega arith; high = omega arith });
        kept = (record { low = omega arith; some = omega arith; high = omega arith }, record { low = omega arith; some = omega arith; high = omega arith });
      }

less_goes : (a b c d : Range) → Pair a b c d → Goes (option_map exchanged (greater_edge b a)) (option_map exchanged (greater_edge d c)) c d
less_goes a b c d p = exchanged_goes (greater_edge b a) (greater_edge d c) c d (greater_goes b a d c (turned a b c d p))

less_or_equal_goes : (a b c d : Range) → Pair a b c d → Goes (option_map exchanged (greater_or_equal_edge b a)) (option_map exchanged (greater_or_equal_edge d c)) c d
less_or_equal_goes a b c d p =
    exchanged_goes (greater_or_equal_edge b a) (greater_or_equal_edge d c) c d (greater_or_equal_goes b a d c (turned a b c d p))

-- where a test says something of the first ranges if it does of the others
cond_goes : (u v : Bool) (a b c d : Range) (r s : Option Ranges) → Pair a b c d → (v ≡ true → u ≡ true) → Goes r s c d → Goes (cond u r (Some (ranges a b))) (cond v s (Some (ranges c d))) c d
cond_goes true true a b c d r s p carries g = g
cond_goes true false a b c d r s p carries g = record { within = g.kept; kept = g.kept }
cond_goes false true a b c d r s p carries g = absurd (let e = carries refl in cc)
cond_goes false false a b c d r s p carries g =
    record { within = (p.first, p.second); kept = (p.first, p.second) }

signed_goes : (width : AluWidth) (a b c d : Range) (r s : Option Ranges) → Pair a b c d → Goes r s c d → Goes (signed_edge width a b r) (signed_edge width c d s) c d
signed_goes width a b c d r s p g =
    cond_goes (is_positive width a && is_positive width b) (is_positive width c && is_positive width d) a b c d r s p (λ e. positive_both width a b c d p.first p.second e) g

same_goes : (a b c d : Range) → Pair a b c d → Goes (Some (ranges a b)) (Some (ranges c d)) c d
same_goes a b c d p = record { within = (p.first, p.second); kept = (p.first, p.second) }

zero_within : (a c : Range) → IsWithin a c → is_zero c ≡ true → is_zero a ≡ true
zero_within a c p e = let none = eqb-true c.hi 0 e in eq-eqb a.hi 0 (omega arith)

jset_goes : (a b c d : Range) → Pair a b c d → Goes (cond (is_zero a || is_zero b) None (Some (ranges a b))) (cond (is_zero c || is_zero d) None (Some (ranges c d))) c d
jset_goes a b c d p = cases (is_zero a || is_zero b) (is_zero c || is_zero d) refl refl where
  carries : (is_zero c || is_zero d) ≡ true → (is_zero a || is_zero b) ≡ true
  carries e =
      elim (or_cases (is_zero c) (is_zero d) e) [
        | inl f ↦ or_left (is_zero a) (is_zero b) (zero_within a c p.first f)
        | inr f ↦ or_right (is_zero a) (is_zero b) (zero_within b d p.second f)
      ]

  cases : (u v : Bool) → (is_zero a || is_zero b) ≡ u → (is_zero c || is_zero d) ≡ v → Goes (cond u None (Some (ranges a b))) (cond v None (Some (ranges c d))) c d
  cases true v e f = record { within = tt; kept = tt }
  cases false true e f = absurd (let both = sym (carries f) ∙ e in cc)
  cases false false e f = same_goes a b c d p

taken_goes : (width : AluWidth) (test : Test) (a b c d : Range) → Pair a b c d → NotBothSingle a b → Goes (taken_edge width test a b) (taken_edge width test c d) c d
taken_goes width Jeq a b c d p apart = equal_goes a b c d p
taken_goes width Jne a b c d p apart = unequal_goes a b c d p apart
taken_goes width Jgt a b c d p apart = greater_goes a b c d p
taken_goes width Jge a b c d p apart = greater_or_equal_goes a b c d p
taken_goes width Jlt a b c d p apart = less_goes a b c d p
taken_goes width Jle a b c d p apart = less_or_equal_goes a b c d p
taken_goes width Jset a b c d p apart = jset_goes a b c d p
taken_goes width Jsgt a b c d p apart =
    signed_goes width a b c d (greater_edge a b) (greater_edge c d) p (greater_goes a b c d p)
taken_goes width Jsge a b c d p apart =
    signed_goes width a b c d (greater_or_equal_edge a b) (greater_or_equal_edge c d) p (greater_or_equal_goes a b c d p)
taken_goes width Jslt a b c d p apart =
    signed_goes width a b c d (option_map exchanged (greater_edge b a)) (option_map exchanged (greater_edge d c)) p (less_goes a b c d p)
taken_goes width Jsle a b c d p apart =
    signed_goes width a b c d (option_map exchanged (greater_or_equal_edge b a)) (option_map exchanged (greater_or_equal_edge d c)) p (less_or_equal_goes a b c d p)

refuted_goes : (width : AluWidth) (test : Test) (a b c d : Range) → Pair a b c d → NotBothSingle a b → Goes (refuted_edge width test a b) (refuted_edge width test c d) c d
refuted_goes width Jeq a b c d p apart = unequal_goes a b c d p apart
refuted_goes width Jne a b c d p apart = equal_goes a b c d p
refuted_goes width Jgt a b c d p apart = less_or_equal_goes a b c d p
refuted_goes width Jge a b c d p apart = less_goes a b c d p
refuted_goes width Jlt a b c d p apart = greater_or_equal_goes a b c d p
refuted_goes width Jle a b c d p apart = greater_goes a b c d p
refuted_goes width Jset a b c d p apart = same_goes a b c d p
refuted_goes width Jsgt a b c d p apart = taken_goes width Jsle a b c d p apart
refuted_goes width Jsge a b c d p apart = taken_goes width Jslt a b c d p apart
refuted_goes width Jslt a b c d p apart = taken_goes width Jsge a b c d p apart
refuted_goes width Jsle a b c d p apart = taken_goes width Jsgt a b c d p apart

wide_goes : (width : AluWidth) (test : Test) (a b c d : Range) (taken : Bool) → Pair a b c d → NotBothSingle a b → Goes (wide_edge width test a b taken) (wide_edge width test c d taken) c d
wide_goes width test a b c d true p apart = taken_goes width test a b c d p apart
wide_goes width test a b c d false p apart = refuted_goes width test a b c d p apart

low_halves : (a b c d : Range) → Pair a b c d → (ltb c.hi (2 ^ 32) && ltb d.hi (2 ^ 32)) ≡ true → (ltb a.hi (2 ^ 32) && ltb b.hi (2 ^ 32)) ≡ true
low_halves a b c d p e =
    let both = and_parts (ltb c.hi (2 ^ 32)) (ltb d.hi (2 ^ 32)) e in
    let one = ltb-true c.hi (2 ^ 32) both.0 in
    let other = ltb-true d.hi (2 ^ 32) both.1 in
    let first = p.first.high in
    let second = p.second.high in
    and_from (ltb a.hi (2 ^ 32)) (ltb b.hi (2 ^ 32)) (lt-ltb a.hi (2 ^ 32) (omega arith)) (lt-ltb b.hi (2 ^ 32) (omega arith))

edge_within : (test : Test) (narrow : Bool) (a b c d : Range) (taken : Bool) → Pair a b c d → NotBothSingle a b → AreWithin (edge_of test narrow a b taken) (edge_of test narrow c d taken)
edge_within test true a b c d taken p apart =
    (cond_goes (ltb a.hi (2 ^ 32) && ltb b.hi (2 ^ 32)) (ltb c.hi (2 ^ 32) && ltb d.hi (2 ^ 32)) a b c d (wide_edge W32 test a b taken) (wide_edge W32 test c d taken) p (low_halves a b c d p) (wide_goes W32 test a b c d taken p apart)).within
edge_within test false a b c d taken p apart = (wide_goes W64 test a b c d taken p apart).within

-- ---- a test

same_is : (p q : Bool) → same p q ≡ true → p ≡ q
same_is true true e = refl
same_is true false e = absurd cc
same_is false true e = absurd cc
same_is false false e = refl

-- two single numbers that an edge keeps
kept_within : (a b : Range) (o : Option Ranges) → is_single a ≡ true → is_single b ≡ true → Keeps o a.lo b.lo → AreWithin (Some (ranges a b)) o
kept_within a b None ea eb keeps = absurd keeps
kept_within a b (Some r) ea eb keeps =
    let one = eqb-true a.lo a.hi ea in
    let other = eqb-true b.lo b.hi eb in
    let first = keeps.0 in
    let second = keeps.1 in
    (record { low = first.low; some = omega arith; high = omega arith }, record { low = second.low; some = omega arith; high = omega arith })

pub refine_within : (test : Test) (narrow : Bool) (a b c d : Range) (taken : Bool) → IsWithin a c → IsWithin b d → AreWithin (refine_of test narrow a b taken) (refine_of test narrow c d taken)
refine_within test narrow a b c d taken p q = cases (is_single a && is_single b) (is_single c && is_single d) refl refl where
  -- both are single: the test decides
  decided : (u : Bool) → same (jump_test_of test narrow a.lo b.lo) taken ≡ u → (is_single a && is_single b) ≡ true → AreWithin (cond u (Some (ranges a b)) None) (refine_of test narrow c d taken)
  decided true e f =
      let both = and_parts (is_single a) (is_single b) f in
      kept_within a b (refine_of test narrow c d taken) both.0 both.1 (refine_keeps test narrow c d taken a.lo b.lo (low_in a c p) (low_in b d q) (same_is (jump_test_of test narrow a.lo b.lo) taken e))
  decided false e f = tt

  cases : (s t : Bool) → (is_single a && is_single b) ≡ s → (is_single c && is_single d) ≡ t → AreWithin (cond s (cond (same (jump_test_of test narrow a.lo b.lo) taken) (Some (ranges a b)) None) (edge_of test narrow a b taken)) (refine_of test narrow c d taken)
  cases true t e f = decided (same (jump_test_of test narrow a.lo b.lo) taken) refl e
  cases false true e f =
      let both = and_parts (is_single c) (is_single d) f in
      absurd (let one = sym (and_from (is_single a) (is_single b) (single_within a c p both.0) (single_within b d q both.1)) ∙ e in cc)
  cases false false e f =
      rw f (edge_within test narrow a b c d taken (record { first = p; second = q }) (λ g h. let one = sym (and_from (is_single a) (is_single b) g h) ∙ e in cc))
