-- Code and its bytes, slot by slot.
use Rattle.std.proofs.Common.{◌≡◌, ℕ, zero, suc, ◌+◌, ◌-◌, ◌*◌, ◌^◌, ◌<◌, ◌≤◌, List, [], ◌∷◌, ◌++◌, length, get_or, take, drop, Option, Some, None, ℤ, refl, sym, ap, subst, ◌∙◌, arith, inl, inr, ◌⊎◌, FitsSigned}
use Rattle.std.specs.Int.{w16, w32, to_le_bytes, from_le_bytes, cast_unsigned, cast_signed}
use Rattle.std.specs.List.{flat_map, AllByRecursion}
use Rattle.std.proofs.Math.Facts.{Fits-of_z}
use Rattle.std.proofs.Math.ListN.{drop_of_length-le}
use Rattle.std.proofs.Math.Seq.{take-add, drop-append-add}
use Rattle.std.proofs.lemmas.List.{append-nil, append_assoc, take-append-drop, drop-drop, length-drop}
use Rattle.std.proofs.lemmas.List.Concat.{flat_map-cons}
use Rattle.std.proofs.lemmas.Grind.{flat_map-append}
use Rattle.std.proofs.lemmas.Int.{to_z-of_z}
use Rattle.std.proofs.lemmas.Nat.{from_le_bytes-to_le_bytes_2, from_le_bytes-to_le_bytes_4}
use Rattle.std.specs.Prelude.{Result, Ok, Err, IfOk, IfErr, MatchResult}
use Rattle.std.specs.Global.{Vec}
use Rattle.bpf_decode.specs.declared.insn.Insn.{Insn}
use Rattle.bpf_decode.specs.declared.refusal.Refusal.{Refusal}
use Rattle.bpf_decode.specs.declared.refusal.DecodeFault.{DecodeFault}
use Rattle.bpf_decode.specs.declared.refusal.DecodeFault.TheVariants.{Memory}
use Rattle.bpf_decode.specs.declared.slot.Slot.{Slot}
use Rattle.bpf_decode.specs.Encoding.{slot_bytes, IsSlot, IsInsn, IsAt, IsBehind, EncodesAt, first_slot, other_slots, insn_slots, encoding}
use Rattle.bpf_decode.specs.Faults.{slot_fault, length_fault, IsCode, FaultyAt, IsRefused}
use Rattle.bpf_decode.specs.Parts.{slot_list, Reads}
use Rattle.bpf_decode.proofs.Instructions.{same_insn, as_many_slots, no_fault, fields, first_is, slot_from, opcode_small, fields_fit, IsSlot-others, few_others}

-- the slots of a list of instructions, and the bytes of a list of slots
abbrev slots : List Insn → List Slot
slots xs = flat_map insn_slots xs

abbrev bytes_of : List Slot → List ℕ
bytes_of ss = flat_map slot_bytes ss

-- ---- the loop of the decoder

-- the slots that an instruction is read from encode it
pub read_encodes : (bytes : List ℕ) (k : ℕ) (s : Slot) (b : Option Slot) (x : Insn) → IsAt bytes k s → IsBehind bytes k b → Reads s b x → EncodesAt bytes k x
read_encodes bytes k s b x here behind h = (encoded (other_slots x) b behind h.others, h.in_range) where
  encoded : (os : List Slot) (c : Option Slot) → IsBehind bytes k c → take (length os) (slot_list c) ≡ os → take (8 * length (first_slot x ∷ os)) (drop (8 * k) bytes) ≡ bytes_of (first_slot x ∷ os)
  encoded [] c hb e = here.encoded ∙ ap slot_bytes (sym h.first)
  encoded (o ∷ os) None hb e = absurd cc
  encoded (o ∷ []) (Some c) hb e =
      let same : c ≡ o = cc in
      let next : drop 8 (drop (8 * k) bytes) ≡ drop (8 * suc k) bytes = drop-drop 8 (8 * k) bytes ∙ ap (λ (n : ℕ). drop n bytes) (omega arith) in
      let second : take 8 (drop 8 (drop (8 * k) bytes)) ≡ slot_bytes o = ap (take 8) next ∙ hb.encoded ∙ ap slot_bytes same in
      take-add 8 8 (drop (8 * k) bytes) ∙ rw (here.encoded, second, sym h.first) refl
  encoded (o ∷ p ∷ os) (Some c) hb e = absurd cc

pub encoding-push : (xs : List Insn) (x : Insn) → encoding (xs ++ x ∷ []) ≡ encoding xs ++ bytes_of (insn_slots x)
encoding-push xs x =
    ap bytes_of (flat_map-append insn_slots xs (x ∷ []))
    ∙ flat_map-append slot_bytes (slots xs) (slots (x ∷ []))
    ∙ ap (λ (t : List Slot). encoding xs ++ bytes_of t) (append-nil (insn_slots x))

-- the slots of one more instruction
pub encoded_more : (bytes : List ℕ) (slot : ℕ) (xs : List Insn) (x : Insn) → take (8 * slot) bytes ≡ encoding xs → EncodesAt bytes slot x → take (8 * (slot + length (insn_slots x))) bytes ≡ encoding (xs ++ x ∷ [])
encoded_more bytes slot xs x before here =
    let next : 8 * (slot + length (insn_slots x)) ≡ 8 * slot + 8 * length (insn_slots x) = omega arith in
    ap (λ (n : ℕ). take n bytes) next ∙ take-add (8 * slot) (8 * length (insn_slots x)) bytes ∙ rw (before, here.0, encoding-push xs x) refl

pub fit_more : (xs : List Insn) (x : Insn) → AllByRecursion IsInsn xs → IsInsn x → AllByRecursion IsInsn (xs ++ x ∷ [])
fit_more [] x h p = (p, tt)
fit_more (y ∷ ys) x h p = (h.0, fit_more ys x h.1 p)

-- the first faulty slot, as the loop finds it
pub refused_here : (bytes : List ℕ) (slot : ℕ) (xs : List Insn) (r : Refusal) → length_fault (length bytes) ≡ None → AllByRecursion IsInsn xs → take (8 * slot) bytes ≡ encoding xs → (r.slot ≡ slot) × FaultyAt bytes r.fault slot → (r.fault ≡ Memory) ⊎ IsRefused bytes r.fault r.slot
refused_here bytes slot xs r fits right before (same, faulty) =
    inr (subst (λ (k : ℕ). IsRefused bytes r.fault k) (sym same) (inr (fits, record { before = xs; in_range = right; encoded = before; faulty = faulty })))

-- ---- slots and their bytes

-- the bits of a number of 2 or 4 bytes
numbers_16 : (a b : ℤ) → FitsSigned w16 a → FitsSigned w16 b → to_le_bytes w16 (cast_unsigned w16 a) ≡ to_le_bytes w16 (cast_unsigned w16 b) → a ≡ b
numbers_16 a b fa fb e =
    let ga = Fits-of_z fa in
    let la : cast_unsigned w16 a < 2 ^ 16 = omega arith in
    let gb = Fits-of_z fb in
    let lb : cast_unsigned w16 b < 2 ^ 16 = omega arith in
    let bits : cast_unsigned w16 a ≡ cast_unsigned w16 b = sym (from_le_bytes-to_le_bytes_2 _ la) ∙ ap (from_le_bytes w16) e ∙ from_le_bytes-to_le_bytes_2 _ lb in
    sym (to_z-of_z w16 a fa) ∙ ap (cast_signed w16) bits ∙ to_z-of_z w16 b fb

numbers_32 : (a b : ℤ) → FitsSigned w32 a → FitsSigned w32 b → to_le_bytes w32 (cast_unsigned w32 a) ≡ to_le_bytes w32 (cast_unsigned w32 b) → a ≡ b
numbers_32 a b fa fb e =
    let ga = Fits-of_z fa in
    let la : cast_unsigned w32 a < 2 ^ 32 = omega arith in
    let gb = Fits-of_z fb in
    let lb : cast_unsigned w32 b < 2 ^ 32 = omega arith in
    let bits : cast_unsigned w32 a ≡ cast_unsigned w32 b = sym (from_le_bytes-to_le_bytes_4 _ la) ∙ ap (from_le_bytes w32) e ∙ from_le_bytes-to_le_bytes_4 _ lb in
    sym (to_z-of_z w32 a fa) ∙ ap (cast_signed w32) bits ∙ to_z-of_z w32 b fb

abbrev slot_with : ℕ → ℕ → ℕ → ℤ → ℤ → Slot
slot_with a b c x y = record { opcode = a; dst = b; src = c; offset = x; imm = y }

slot_with-is : (a a' b b' c c' : ℕ) (x x' y y' : ℤ) → a ≡ a' → b ≡ b' → c ≡ c' → x ≡ x' → y ≡ y' → slot_with a b c x y ≡ slot_with a' b' c' x' y'
slot_with-is a a' b b' c c' x x' y y' ea eb ec ex ey = rw (ea, eb, ec, ex, ey) refl

-- the bytes of a slot give its fields back
pub same_slot : (s t : Slot) → IsSlot s → IsSlot t → slot_bytes s ≡ slot_bytes t → s ≡ t
same_slot s t fs ft e =
    let opcode : s.opcode ≡ t.opcode = ap (λ (b : List ℕ). get_or b 0 0) e in
    let registers : s.dst + 16 * s.src ≡ t.dst + 16 * t.src = ap (λ (b : List ℕ). get_or b 1 0) e in
    let sd = fs.dst in
    let td = ft.dst in
    let dst : s.dst ≡ t.dst = omega arith in
    let src : s.src ≡ t.src = omega arith in
    let offset : s.offset ≡ t.offset = numbers_16 s.offset t.offset fs.offset ft.offset (ap (λ (b : List ℕ). take 2 (drop 2 b)) e) in
    let imm : s.imm ≡ t.imm = numbers_32 s.imm t.imm fs.imm ft.imm (ap (λ (b : List ℕ). drop 4 b) e) in
    slot_with-is s.opcode t.opcode s.dst t.dst s.src t.src s.offset t.offset s.imm t.imm opcode dst src offset imm

-- an instruction's slots hold what slots can hold
pub IsSlot-first : (x : Insn) → IsInsn x → IsSlot (first_slot x)
IsSlot-first x h =
    let f = fields x in
    let o = opcode_small f.opcode in
    let d = f.dst.in_range in
    let r = f.src.in_range in
    let k = fields_fit x h in
    let slot : IsSlot (slot_from f) = record { opcode = o; dst = omega (arith, d); src = omega (arith, r); offset = k.0; imm = k.1 } in
    subst IsSlot (sym (first_is x)) slot

all_append : (ss ts : List Slot) → AllByRecursion IsSlot ss → AllByRecursion IsSlot ts → AllByRecursion IsSlot (ss ++ ts)
all_append [] ts h k = k
all_append (s ∷ ss) ts h k = (h.0, all_append ss ts h.1 k)

slots_fit : (xs : List Insn) → AllByRecursion IsInsn xs → AllByRecursion IsSlot (slots xs)
slots_fit [] h = tt
slots_fit (x ∷ xs) h = subst (λ (t : List Slot). AllByRecursion IsSlot t) (sym (flat_map-cons insn_slots x xs)) (IsSlot-first x h.0, all_append (other_slots x) (slots xs) (IsSlot-others x) (slots_fit xs h.1))

-- a list of slots is its bytes
same_slots : (ss ts : List Slot) → AllByRecursion IsSlot ss → AllByRecursion IsSlot ts → bytes_of ss ≡ bytes_of ts → ss ≡ ts
same_slots [] [] fs ft e = refl
same_slots [] (t ∷ ts) fs ft e = let h = e ∙ flat_map-cons slot_bytes t ts in absurd cc
same_slots (s ∷ ss) [] fs ft e = let h = sym (flat_map-cons slot_bytes s ss) ∙ e in absurd cc
same_slots (s ∷ ss) (t ∷ ts) fs ft e =
    let both : slot_bytes s ++ bytes_of ss ≡ slot_bytes t ++ bytes_of ts = sym (flat_map-cons slot_bytes s ss) ∙ e ∙ flat_map-cons slot_bytes t ts in
    let first : slot_bytes s ≡ slot_bytes t = ap (take 8) both in
    let others : bytes_of ss ≡ bytes_of ts = ap (drop 8) both in
    let head = same_slot s t fs.0 ft.0 first in
    let tail = same_slots ss ts fs.1 ft.1 others in
    cc

-- the first slots of bytes are those of the first bytes
take_bytes : (k : ℕ) (ss : List Slot) → take (8 * k) (bytes_of ss) ≡ bytes_of (take k ss)
take_bytes zero ss = refl
take_bytes (suc k) [] = nothing (8 * suc k) where
  nothing : (n : ℕ) → take n (bytes_of []) ≡ []
  nothing zero = refl
  nothing (suc n) = refl
take_bytes (suc k) (s ∷ ss) =
    let far : 8 * suc k ≡ 8 + 8 * k = omega arith in
    ap (λ (n : ℕ). take n (bytes_of (s ∷ ss))) far ∙ ap (λ (t : List ℕ). take (8 + 8 * k) t) (flat_map-cons slot_bytes s ss)
    ∙ take-add 8 (8 * k) (slot_bytes s ++ bytes_of ss) ∙ ap (λ (t : List ℕ). slot_bytes s ++ t) (take_bytes k ss) ∙ sym (flat_map-cons slot_bytes s (take k ss))

-- the slot at an index of bytes is that of the list
at_place : (ss : List Slot) (k : ℕ) (s : Slot) → AllByRecursion IsSlot ss → IsSlot s → take 8 (drop (8 * k) (bytes_of ss)) ≡ slot_bytes s → (rest : List Slot) × (drop k ss ≡ s ∷ rest)
at_place [] k s fit hs e =
    let le : 0 ≤ 8 * k = omega arith in
    let nothing : take 8 (drop (8 * k) (bytes_of [])) ≡ [] = ap (take 8) (drop_of_length-le [] le) in
    let some = sym nothing ∙ e in absurd cc
at_place (x ∷ xs) zero s fit hs e =
    let here : slot_bytes x ≡ slot_bytes s = sym (ap (take 8) (flat_map-cons slot_bytes x xs)) ∙ e in
    let same = same_slot x s fit.0 hs here in
    (xs, cc)
at_place (x ∷ xs) (suc k) s fit hs e =
    let far : 8 * suc k ≡ 8 + 8 * k = omega arith in
    let shift : drop (8 * suc k) (bytes_of (x ∷ xs)) ≡ drop (8 * k) (bytes_of xs) = rw (far, flat_map-cons slot_bytes x xs) (drop-append-add (slot_bytes x) (bytes_of xs) (8 * k)) in
    at_place xs k s fit.1 hs (sym (ap (take 8) shift) ∙ e)

length_bytes : (ss : List Slot) → length (bytes_of ss) ≡ 8 * length ss
length_bytes [] = refl
length_bytes (s ∷ ss) =
    let more : length (bytes_of (s ∷ ss)) ≡ suc (suc (suc (suc (suc (suc (suc (suc (length (bytes_of ss))))))))) = ap length (flat_map-cons slot_bytes s ss) in
    let n = length_bytes ss in
    omega arith

-- ---- instructions and their slots

-- two lists with fronts of one length that are equal behind each other are equal in both parts
fronts : (os bs xs ys : List Slot) → length os ≡ length bs → os ++ xs ≡ bs ++ ys → (os ≡ bs) × (xs ≡ ys)
fronts [] [] xs ys l e = (refl, e)
fronts [] (b ∷ bs) xs ys l e = absurd (omega (arith, l))
fronts (a ∷ os) [] xs ys l e = absurd (omega (arith, l))
fronts (a ∷ os) (b ∷ bs) xs ys l e =
    let n : length os ≡ length bs = omega (arith, l) in
    let tail : os ++ xs ≡ bs ++ ys = cc in
    let r = fronts os bs xs ys n tail in
    let same = r.0 in
    (cc, r.1)

slots-cons : (x : Insn) (xs : List Insn) → slots (x ∷ xs) ≡ first_slot x ∷ (other_slots x ++ slots xs)
slots-cons x xs = flat_map-cons insn_slots x xs

-- slots encode one list of instructions
same_insns : (xs ys : List Insn) → AllByRecursion IsInsn xs → AllByRecursion IsInsn ys → slots xs ≡ slots ys → xs ≡ ys
same_insns [] [] fx fy e = refl
same_insns [] (y ∷ ys) fx fy e = let h = e ∙ slots-cons y ys in absurd cc
same_insns (x ∷ xs) [] fx fy e = let h = sym (slots-cons x xs) ∙ e in absurd cc
same_insns (x ∷ xs) (y ∷ ys) fx fy e =
    let both = sym (slots-cons x xs) ∙ e ∙ slots-cons y ys in
    let first : first_slot x ≡ first_slot y = cc in
    let behind : other_slots x ++ slots xs ≡ other_slots y ++ slots ys = cc in
    let parts = fronts (other_slots x) (other_slots y) (slots xs) (slots ys) (as_many_slots x y fx.0 fy.0 first) behind in
    let head = same_insn x y fx.0 fy.0 first parts.0 in
    let tail = same_insns xs ys fx.1 fy.1 parts.1 in
    cc

-- instructions that begin with the slots of others go on behind them
go_on : (before code : List Insn) (rest : List Slot) → AllByRecursion IsInsn before → AllByRecursion IsInsn code → slots code ≡ slots before ++ rest → (after : List Insn) × AllByRecursion IsInsn after × (slots after ≡ rest)
go_on [] code rest fb fc e = (code, fc, e)
go_on (b ∷ bs) [] rest fb fc e =
    let h = e ∙ ap (λ (t : List Slot). t ++ rest) (slots-cons b bs) in absurd cc
go_on (b ∷ bs) (c ∷ cs) rest fb fc e =
    let both : first_slot c ∷ (other_slots c ++ slots cs) ≡ first_slot b ∷ ((other_slots b ++ slots bs) ++ rest) = sym (slots-cons c cs) ∙ e ∙ ap (λ (t : List Slot). t ++ rest) (slots-cons b bs) in
    let first : first_slot c ≡ first_slot b = cc in
    let behind : other_slots c ++ slots cs ≡ (other_slots b ++ slots bs) ++ rest = cc in
    let parts = fronts (other_slots c) (other_slots b) (slots cs) (slots bs ++ rest) (as_many_slots c b fc.0 fb.0 first) (behind ∙ append_assoc (other_slots b) (slots bs) rest) in
    go_on bs cs rest fb.1 fc.1 parts.1

-- ---- one reading

pub same_code : (bytes : List ℕ) (xs ys : List Insn) → IsCode bytes xs → IsCode bytes ys → xs ≡ ys
same_code bytes xs ys cx cy =
    same_insns xs ys cx.in_range cy.in_range (same_slots (slots xs) (slots ys) (slots_fit xs cx.in_range) (slots_fit ys cy.in_range) (sym cx.encoded ∙ cy.encoded))

-- the slot behind, of slots that go on with an instruction
behind_is : (bytes : List ℕ) (ss : List Slot) (k : ℕ) (b : Option Slot) (s : Slot) (rest : List Slot) → bytes ≡ bytes_of ss → AllByRecursion IsSlot ss → drop k ss ≡ s ∷ rest → IsBehind bytes k b → take 1 (slot_list b) ≡ take 1 rest
behind_is bytes ss k None s rest e fit here h =
    let n : 8 * length ss ≡ 8 * suc k = sym (length_bytes ss) ∙ ap length (sym e) ∙ h in
    let l : length (drop k ss) ≡ suc (length rest) = ap length here in
    let d : length (drop k ss) ≡ length ss - k = length-drop k ss in
    let none : length rest ≡ 0 = omega (arith, n, l, d) in
    sym (ap (take 1) (empty rest none)) where
      empty : (r : List Slot) → length r ≡ 0 → r ≡ []
      empty [] q = refl
      empty (x ∷ xs) q = absurd (omega (arith, q))
behind_is bytes ss k (Some c) s rest e fit here h =
    let found = at_place ss (suc k) c fit h.fits (ap (λ (t : List ℕ). take 8 (drop (8 * suc k) t)) (sym e) ∙ h.encoded) in
    let far : k + 1 ≡ suc k = omega arith in
    let next : drop (suc k) ss ≡ rest = sym (drop-drop 1 k ss ∙ ap (λ (n : ℕ). drop n ss) far) ∙ ap (drop 1) here in
    let same : rest ≡ c ∷ found.0 = sym next ∙ found.1 in
    rw same refl

-- a front of one slot, or of none
front_of : (os xs rest : List Slot) (b : Option Slot) → length os ≤ 1 → os ++ xs ≡ rest → take 1 (slot_list b) ≡ take 1 rest → take (length os) (slot_list b) ≡ os
front_of [] xs rest b l e h = refl
front_of (o ∷ []) xs rest b l e h = h ∙ ap (take 1) (sym e)
front_of (o ∷ p ∷ os) xs rest b l e h = absurd (omega (arith, l))

-- slots that instructions encode begin with no fault
no_break : (after : List Insn) → AllByRecursion IsInsn after → (s : Slot) (rest : List Slot) (b : Option Slot) (f : DecodeFault) → slots after ≡ s ∷ rest → take 1 (slot_list b) ≡ take 1 rest → slot_fault s b ≡ Some f → ⊥
no_break [] fit s rest b f e h bad = absurd cc
no_break (x ∷ xs) fit s rest b f e h bad =
    let both = sym (slots-cons x xs) ∙ e in
    let first : first_slot x ≡ s = cc in
    let behind : other_slots x ++ slots xs ≡ rest = cc in
    let good = no_fault s b x (record { in_range = fit.0; first = first; others = front_of (other_slots x) (slots xs) rest b (few_others x) behind h }) in
    absurd cc

-- a refusal is right: refused bytes are no code
pub refused_is_no_code : (bytes : List ℕ) (code : List Insn) (fault : DecodeFault) (slot : ℕ) → IsRefused bytes fault slot → IsCode bytes code → ⊥
refused_is_no_code bytes code fault slot (inl h) c = let a = h.0 in let b = c.length_is in cc
refused_is_no_code bytes code fault slot (inr (none, broken)) c =
    let faulty = broken.faulty in
    let all = slots_fit code c.in_range in
    let here = at_place (slots code) slot faulty.slot all faulty.is_at.fits (ap (λ (t : List ℕ). take 8 (drop (8 * slot) t)) (sym c.encoded) ∙ faulty.is_at.encoded) in
    let front : slots broken.before ≡ take slot (slots code) =
    same_slots (slots broken.before) (take slot (slots code)) (slots_fit broken.before broken.in_range) (all_take slot (slots code) all)
    (sym broken.encoded ∙ ap (λ (t : List ℕ). take (8 * slot) t) c.encoded ∙ take_bytes slot (slots code)) in
    let whole : slots code ≡ slots broken.before ++ (faulty.slot ∷ here.0) =
    sym (take-append-drop slot (slots code)) ∙ rw (sym front, here.1) refl in
    let after = go_on broken.before code (faulty.slot ∷ here.0) broken.in_range c.in_range whole in
    no_break after.0 after.1 faulty.slot here.0 faulty.behind fault after.2 (behind_is bytes (slots code) slot faulty.behind faulty.slot here.0 c.encoded all here.1 faulty.is_behind) faulty.fault_is where
      all_take : (k : ℕ) (ss : List Slot) → AllByRecursion IsSlot ss → AllByRecursion IsSlot (take k ss)
      all_take zero ss h = tt
      all_take (suc k) [] h = tt
      all_take (suc k) (s ∷ ss) h = (h.0, all_take k ss h.1)

-- what is read exactly, or refused rightly, is the only reading
pub read_is_only : (bytes : List ℕ) (r : Result (Vec Insn) Refusal) → IfOk r (λ code. IsCode bytes code.items) → IfErr r (λ refusal. (refusal.fault ≡ Memory) ⊎ IsRefused bytes refusal.fault refusal.slot) → (code : List Insn) → IsCode bytes code → MatchResult r (λ found. found.items ≡ code) (λ refusal. refusal.fault ≡ Memory)
read_is_only bytes (Ok v) found refused code c = same_code bytes v.items code found c
read_is_only bytes (Err r) found (inl memory) code c = memory
read_is_only bytes (Err r) found (inr wrong) code c = absurd (refused_is_no_code bytes code r.fault r.slot wrong c)

-- a refusal that is handed on
pub refused_on : (bytes : List ℕ) (A : Type 0) (result : Result A Refusal) (r : Refusal) → (r.fault ≡ Memory) ⊎ IsRefused bytes r.fault r.slot → IfErr result (λ x. x ≡ r) → IfErr result (λ x. (x.fault ≡ Memory) ⊎ IsRefused bytes x.fault x.slot)
refused_on bytes A (Ok x) r is same = tt
refused_on bytes A (Err x) r is same = subst (λ (y : Refusal). (y.fault ≡ Memory) ⊎ IsRefused bytes y.fault y.slot) (sym same) is
