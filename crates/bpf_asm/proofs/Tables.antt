-- The two rounds, line by line: what holds of the lines that were read, and what of one more.
use Rattle.std.proofs.Common.{◌≡◌, ℕ, ◌<◌, ◌≤◌, ◌+◌, ◌-◌, ◌^◌, min, Bool, true, false, cond, List, [], ◌∷◌, ◌++◌, length, take, drop, get_or, find, Option, Some, None, Result, Ok, Err, ap, sym, subst, ◌∙◌, refl, arith, add_assoc, append_assoc, suc, add-one, Bor, ◌==◌, length-take-le, nat_le, zero}
use Rattle.std.specs.Option.{option_map, is_some}
use Rattle.std.specs.List.{list_all}
use Rattle.std.specs.Str.{bytes_eq}
use Rattle.std.proofs.Math.ListN.{length-map}
use Rattle.std.proofs.Math.Seq.{drop-cons, take_all}
use borrow.Author.Tests.{eqb-true}
use Rattle.bpf_decode.specs.declared.insn.Insn.{Insn}
use Rattle.bpf_decode.specs.Encoding.{insn_slots}
use Rattle.bpf_asm.specs.declared.fault.AsmKind.{AsmKind}
use Rattle.bpf_asm.specs.declared.fault.AsmKind.TheVariants as kind
use Rattle.bpf_asm.specs.declared.fault.AsmFault.{AsmFault}
use Rattle.bpf_asm.specs.declared.line.Statement.{Statement}
use Rattle.bpf_asm.specs.declared.line.Statement.TheVariants as says
use Rattle.bpf_asm.specs.declared.rounds.Label.{Label}
use Rattle.bpf_asm.specs.Text.{label_name, body_of}
use Rattle.bpf_asm.specs.Lines.{line_statement, label_or, instruction, defined_name, target_name}
use Rattle.bpf_asm.specs.Assembly.{slots, line_slots, statement_slots, label_slot, is_named, is_defined, first_round, first_fault, reported_or, line_number, second_round, code_then, code_from, listed, aimed}
use Rattle.bpf_asm.specs.Operands.{◌>>?◌}
use Rattle.std.proofs.Common.{pos, ◌-ℤ◌, append-nil}
use Rattle.bpf_asm.specs.Rounds.{texts, table_slot, IsTable}

-- The first of two slots.
abbrev or_slot : Option ℕ → Option ℕ → Option ℕ
or_slot None y = y
or_slot (Some x) y = Some x

or_none : (o : Option ℕ) → or_slot o None ≡ o
or_none None = refl
or_none (Some x) = refl

slots_more : (xs : List (List ℕ)) (l : List ℕ) → slots (xs ++ l ∷ []) ≡ slots xs + line_slots l
slots_more [] l = omega arith
slots_more (x ∷ xs) l = ap (λ n. line_slots x + n) (slots_more xs l) ∙ sym (add_assoc (line_slots x) (slots xs) (line_slots l))

map_or : (f : ℕ → ℕ) (o : Option ℕ) (b : Bool) (s : ℕ) → option_map f (or_slot o (cond b (Some s) None)) ≡ or_slot (option_map f o) (cond b (Some (f s)) None)
map_or f None true s = refl
map_or f None false s = refl
map_or f (Some x) b s = refl

label_more : (name : List ℕ) (xs : List (List ℕ)) (l : List ℕ) → label_slot name (xs ++ l ∷ []) ≡ or_slot (label_slot name xs) (cond (is_named name (defined_name l)) (Some (slots xs)) None)
label_more name [] l = refl
label_more name (x ∷ xs) l = by_test (is_named name (defined_name x)) (label_more name xs l)
  where
    by_test : (b : Bool) → label_slot name (xs ++ l ∷ []) ≡ or_slot (label_slot name xs) (cond (is_named name (defined_name l)) (Some (slots xs)) None) → cond b (Some 0) (option_map (λ n. line_slots x + n) (label_slot name (xs ++ l ∷ []))) ≡ or_slot (cond b (Some 0) (option_map (λ n. line_slots x + n) (label_slot name xs))) (cond (is_named name (defined_name l)) (Some (line_slots x + slots xs)) None)
    by_test true h = refl
    by_test false h =
        ap (option_map (λ n. line_slots x + n)) h
        ∙ map_or (λ n. line_slots x + n) (label_slot name xs) (is_named name (defined_name l)) (slots xs)

table_more : (name : List ℕ) (xs : List Label) (l : Label) → table_slot name (xs ++ l ∷ []) ≡ or_slot (table_slot name xs) (cond (bytes_eq l.name.now name) (Some l.slot) None)
table_more name [] l = one (bytes_eq l.name.now name)
  where
    one : (b : Bool) → option_map (λ x. x.slot) (cond b (Some l) None) ≡ cond b (Some l.slot) None
    one true = refl
    one false = refl
table_more name (x ∷ xs) l = by_test (bytes_eq x.name.now name) (table_more name xs l)
  where
    by_test : (b : Bool) → table_slot name (xs ++ l ∷ []) ≡ or_slot (table_slot name xs) (cond (bytes_eq l.name.now name) (Some l.slot) None) → option_map (λ y. y.slot) (cond b (Some x) (find (λ y. bytes_eq y.name.now name) (xs ++ l ∷ []))) ≡ or_slot (option_map (λ y. y.slot) (cond b (Some x) (find (λ y. bytes_eq y.name.now name) xs))) (cond (bytes_eq l.name.now name) (Some l.slot) None)
    by_test true h = refl
    by_test false h = h

-- A line that is an instruction or blank defines no label.
empty_names_none : (b : List ℕ) → length b ≡ 0 → label_name b ≡ None
empty_names_none [] h = refl
empty_names_none (x ∷ xs) h = absurd (omega arith)

pub names_none : (line : List ℕ) (s : Statement) → line_statement line ≡ Ok s → (s ≡ says.Label → ⊥) → defined_name line ≡ None
names_none line s h other =
    by_tests (list_all (λ b. nat_le b 127) line) (length (body_of line) == 0) (label_name (body_of line)) (λ e. empty_names_none (body_of line) (eqb-true (length (body_of line)) 0 e)) h
  where
    by_tests : (a e : Bool) (o : Option (List ℕ)) → (e ≡ true → o ≡ None) → cond a (cond e (Ok says.Blank) (label_or o (instruction (body_of line)))) (Err kind.Word) ≡ Ok s → o ≡ None
    by_tests a e None k q = refl
    by_tests true true (Some n) k q = k refl
    by_tests true false (Some n) k q =
        let same : says.Label ≡ s = cc in
        absurd (other (sym same))
    by_tests false e (Some n) k q = cc

-- One more line.
pub texts_more : (lines : List (Bor (List ℕ))) (i : ℕ) (x : Bor (List ℕ)) → i < length lines → x ≡ get_or lines i x → texts (take (i + 1) lines) ≡ texts (take i lines) ++ x.now ∷ []
texts_more [] i x l e = absurd (omega arith)
texts_more (y ∷ ys) zero x l e = ap (λ (z : Bor (List ℕ)). z.now ∷ []) (sym e)
texts_more (y ∷ ys) (suc j) x l e =
    rw add-one
    (ap (λ (ts : List (List ℕ)). y.now ∷ ts)
    (let h : texts (take (j + 1) ys) ≡ texts (take j ys) ++ x.now ∷ [] = texts_more ys j x (omega arith) e in rw add-one at h))

pub texts_next : (lines : List (Bor (List ℕ))) (i : ℕ) (x : Bor (List ℕ)) → i < length lines → x ≡ get_or lines i x → texts (drop i lines) ≡ x.now ∷ texts (drop (i + 1) lines)
texts_next lines i x l e =
    rw add-one (ap texts (drop-cons lines i x l) ∙ ap (λ (z : Bor (List ℕ)). z.now ∷ texts (drop (suc i) lines)) (sym e))

drop_all : {X : Type 0} (n : ℕ) (xs : List X) → length xs ≤ n → drop n xs ≡ []
drop_all zero [] h = refl
drop_all zero (x ∷ xs) h = absurd (omega arith)
drop_all (suc n) [] h = refl
drop_all (suc n) (x ∷ xs) h = drop_all n xs (omega arith)

number_of : (lines : List (Bor (List ℕ))) (i : ℕ) → i ≤ length lines → line_number (texts (take i lines)) ≡ min (i + 1) (2 ^ 32 - 1)
number_of lines i l =
    let n : length (texts (take i lines)) ≡ i = length-map (take i lines) (λ (z : Bor (List ℕ)). z.now) ∙ length-take-le i lines l in
    ap (λ k. min (k + 1) (2 ^ 32 - 1)) n

-- Line i, as a loop reads it.
abbrev pub line_at : List (Bor (List ℕ)) → ℕ → Bor (List ℕ)
line_at lines i = get_or lines i (record { ref_ptr = (0, 0); now = [] })

pub read_again : (lines : List (Bor (List ℕ))) (i : ℕ) (d : Bor (List ℕ)) → i < length lines → get_or lines i d ≡ get_or lines i (get_or lines i d)
read_again [] i d l = absurd (omega arith)
read_again (y ∷ ys) zero d l = refl
read_again (y ∷ ys) (suc j) d l = read_again ys j d (omega arith)

-- What the first round has found in the first i lines.
pub record Surveyed (lines : List (Bor (List ℕ))) (i slot number : ℕ) (labels : List Label) : Type 0 where
  pub faults : first_fault [] (texts lines) ≡ first_fault (texts (take i lines)) (texts (drop i lines))
  pub table : IsTable labels (texts (take i lines))
  pub slot_is : slot ≡ slots (texts (take i lines))
  pub number_is : number ≡ min i (2 ^ 32 - 1)

pub survey_begins : (lines : List (Bor (List ℕ))) → Surveyed lines 0 0 0 []
survey_begins lines = record { faults = refl; table = record { slots_are = λ name. refl }; slot_is = refl; number_is = refl }

pub survey_ends : (lines : List (Bor (List ℕ))) (i slot number : ℕ) (labels : List Label) → Surveyed lines i slot number labels → length lines ≤ i → (first_fault [] (texts lines) ≡ None) × IsTable labels (texts lines)
survey_ends lines i slot number labels s l =
    let t : take i lines ≡ lines = take_all i lines l in
    let d : drop i lines ≡ [] = drop_all i lines l in (
      s.faults ∙ ap (λ (ls : List (Bor (List ℕ))). first_fault (texts (take i lines)) (texts ls)) d,
      subst (λ (ls : List (Bor (List ℕ))). IsTable labels (texts ls)) t s.table,
    )

survey_next : (lines : List (Bor (List ℕ))) (i slot number : ℕ) (labels : List Label) (x : Bor (List ℕ)) → Surveyed lines i slot number labels → i < length lines → x ≡ get_or lines i x → first_fault [] (texts lines) ≡ reported_or (first_round (texts (take i lines)) x.now (line_statement x.now)) (min (i + 1) (2 ^ 32 - 1)) (first_fault (texts (take i lines) ++ x.now ∷ []) (texts (drop (i + 1) lines)))
survey_next lines i slot number labels x s l e =
    s.faults
    ∙ ap (λ (ls : List (List ℕ)). first_fault (texts (take i lines)) ls) (texts_next lines i x l e)
    ∙ ap (λ (n : ℕ). reported_or (first_round (texts (take i lines)) x.now (line_statement x.now)) n (first_fault (texts (take i lines) ++ x.now ∷ []) (texts (drop (i + 1) lines)))) (number_of lines i (omega arith))

pub survey_fault : (lines : List (Bor (List ℕ))) (i slot number next : ℕ) (labels : List Label) (x : Bor (List ℕ)) (k : AsmKind) → Surveyed lines i slot number labels → i < length lines → x ≡ get_or lines i x → next ≡ min (number + 1) (2 ^ 32 - 1) → first_round (texts (take i lines)) x.now (line_statement x.now) ≡ Some k → first_fault [] (texts lines) ≡ Some (record { kind = k; line = next })
survey_fault lines i slot number next labels x k s l e n f =
    let m = s.number_is in
    let q : min (i + 1) (2 ^ 32 - 1) ≡ next = omega arith in
    survey_next lines i slot number labels x s l e
    ∙ ap (λ (o : Option AsmKind). reported_or o (min (i + 1) (2 ^ 32 - 1)) (first_fault (texts (take i lines) ++ x.now ∷ []) (texts (drop (i + 1) lines)))) f
    ∙ ap (λ (j : ℕ). let fault : AsmFault = record { kind = k; line = j } in Some fault) q

pub survey_step : (lines : List (Bor (List ℕ))) (i slot number slot' number' : ℕ) (labels labels' : List Label) (x : Bor (List ℕ)) → Surveyed lines i slot number labels → i < length lines → x ≡ get_or lines i x → number' ≡ min (number + 1) (2 ^ 32 - 1) → first_round (texts (take i lines)) x.now (line_statement x.now) ≡ None → slot' ≡ slot + line_slots x.now → ((name : List ℕ) → table_slot name labels' ≡ or_slot (table_slot name labels) (cond (is_named name (defined_name x.now)) (Some slot) None)) → Surveyed lines (i + 1) slot' number' labels'
survey_step lines i slot number slot' number' labels labels' x s l e n f d t =
    let m = s.number_is in
    let more = texts_more lines i x l e in
    record {
      faults =
          survey_next lines i slot number labels x s l e
          ∙ ap (λ (o : Option AsmKind). reported_or o (min (i + 1) (2 ^ 32 - 1)) (first_fault (texts (take i lines) ++ x.now ∷ []) (texts (drop (i + 1) lines)))) f
          ∙ ap (λ (ls : List (List ℕ)). first_fault ls (texts (drop (i + 1) lines))) (sym more);
      table = record {
        slots_are = λ name.
            t name
            ∙ ap (λ (o : Option ℕ). or_slot o (cond (is_named name (defined_name x.now)) (Some slot) None)) (s.table.slots_are name)
            ∙ ap (λ (k : ℕ). or_slot (label_slot name (texts (take i lines))) (cond (is_named name (defined_name x.now)) (Some k) None)) s.slot_is
            ∙ sym (label_more name (texts (take i lines)) x.now)
            ∙ ap (label_slot name) (sym more);
      };
      slot_is = d ∙ ap (λ (k : ℕ). k + line_slots x.now) s.slot_is ∙ sym (slots_more (texts (take i lines)) x.now) ∙ ap slots (sym more);
      number_is = omega arith;
    }

-- A line without a label of its own.
quiet : (labels : List Label) (name line : List ℕ) (slot : ℕ) → defined_name line ≡ None → table_slot name labels ≡ or_slot (table_slot name labels) (cond (is_named name (defined_name line)) (Some slot) None)
quiet labels name line slot h =
    sym (or_none (table_slot name labels))
    ∙ ap (λ (o : Option (List ℕ)). or_slot (table_slot name labels) (cond (is_named name o) (Some slot) None)) (sym h)

pub survey_quiet : (lines : List (Bor (List ℕ))) (i slot number slot' number' : ℕ) (labels : List Label) (x : Bor (List ℕ)) (r : Result Statement AsmKind) → Surveyed lines i slot number labels → i < length lines → x ≡ get_or lines i x → number' ≡ min (number + 1) (2 ^ 32 - 1) → r ≡ line_statement x.now → first_round (texts (take i lines)) x.now r ≡ None → slot' ≡ slot + statement_slots r → defined_name x.now ≡ None → Surveyed lines (i + 1) slot' number' labels
survey_quiet lines i slot number slot' number' labels x r s l e n h f d q =
    survey_step lines i slot number slot' number' labels labels x s l e n
    (ap (first_round (texts (take i lines)) x.now) (sym h) ∙ f)
    (d ∙ ap (λ (y : Result Statement AsmKind). slot + statement_slots y) h)
    (λ name. quiet labels name x.now slot q)

-- A line with a label that no earlier one has.
pub survey_label : (lines : List (Bor (List ℕ))) (i slot number slot' number' : ℕ) (labels labels' : List Label) (x : Bor (List ℕ)) (new : Label) → Surveyed lines i slot number labels → i < length lines → x ≡ get_or lines i x → number' ≡ min (number + 1) (2 ^ 32 - 1) → Ok says.Label ≡ line_statement x.now → defined_name x.now ≡ Some new.name.now → is_some (table_slot new.name.now labels) ≡ false → new.slot ≡ slot → slot' ≡ slot → labels' ≡ labels ++ new ∷ [] → Surveyed lines (i + 1) slot' number' labels'
survey_label lines i slot number slot' number' labels labels' x new s l e n h d u w z ls =
    survey_step lines i slot number slot' number' labels labels' x s l e n
    (ap (first_round (texts (take i lines)) x.now) (sym h)
    ∙ ap (λ (o : Option (List ℕ)). cond (is_defined o (texts (take i lines))) (Some kind.Label) None) d
    ∙ ap (λ (o : Option ℕ). cond (is_some o) (Some kind.Label) None) (sym (s.table.slots_are new.name.now))
    ∙ ap (λ (b : Bool). cond b (Some kind.Label) None) u)
    (let none : slot' ≡ slot + 0 = omega arith in none ∙ ap (λ (y : Result Statement AsmKind). slot + statement_slots y) h)
    (λ name. ap (table_slot name) ls ∙ table_more name labels new
    ∙ ap (λ (k : ℕ). or_slot (table_slot name labels) (cond (bytes_eq new.name.now name) (Some k) None)) w
    ∙ ap (λ (o : Option (List ℕ)). or_slot (table_slot name labels) (cond (is_named name o) (Some slot) None)) (sym d))

pub survey_twice : (lines : List (Bor (List ℕ))) (i slot number next : ℕ) (labels : List Label) (x : Bor (List ℕ)) (name : List ℕ) → Surveyed lines i slot number labels → i < length lines → x ≡ get_or lines i x → next ≡ min (number + 1) (2 ^ 32 - 1) → Ok says.Label ≡ line_statement x.now → defined_name x.now ≡ Some name → is_some (table_slot name labels) ≡ true → first_fault [] (texts lines) ≡ Some (record { kind = kind.Label; line = next })
survey_twice lines i slot number next labels x name s l e n h d u =
    survey_fault lines i slot number next labels x kind.Label s l e n
    (ap (first_round (texts (take i lines)) x.now) (sym h)
    ∙ ap (λ (o : Option (List ℕ)). cond (is_defined o (texts (take i lines))) (Some kind.Label) None) d
    ∙ ap (λ (o : Option ℕ). cond (is_some o) (Some kind.Label) None) (sym (s.table.slots_are name))
    ∙ ap (λ (b : Bool). cond b (Some kind.Label) None) u)

-- The instructions before those of a text's rest.
abbrev prepend : List Insn → Result (List Insn) AsmFault → Result (List Insn) AsmFault
prepend xs (Ok ys) = Ok (xs ++ ys)
prepend xs (Err f) = Err f

prepend_none : (r : Result (List Insn) AsmFault) → r ≡ prepend [] r
prepend_none (Ok ys) = refl
prepend_none (Err f) = refl

prepend_then : (xs ys : List Insn) (n : ℕ) (r : Result (List Insn) AsmFault) → prepend xs (code_then (Ok ys) n r) ≡ prepend (xs ++ ys) r
prepend_then xs ys n (Ok zs) = ap Ok (sym (append_assoc xs ys zs))
prepend_then xs ys n (Err f) = refl

-- What the second round has written of the first i lines.
pub record Written (lines : List (Bor (List ℕ))) (i slot number : ℕ) (code : List Insn) : Type 0 where
  pub continues : code_from (texts lines) [] (texts lines) ≡ prepend code (code_from (texts lines) (texts (take i lines)) (texts (drop i lines)))
  pub slot_is : slot ≡ slots (texts (take i lines))
  pub number_is : number ≡ min i (2 ^ 32 - 1)

pub write_begins : (lines : List (Bor (List ℕ))) → Written lines 0 0 0 []
write_begins lines = record { continues = prepend_none (code_from (texts lines) [] (texts lines)); slot_is = refl; number_is = refl }

pub write_ends : (lines : List (Bor (List ℕ))) (i slot number : ℕ) (code : List Insn) → Written lines i slot number code → length lines ≤ i → code_from (texts lines) [] (texts lines) ≡ Ok code
write_ends lines i slot number code s l =
    let d : drop i lines ≡ [] = drop_all i lines l in
    s.continues
    ∙ ap (λ (ls : List (Bor (List ℕ))). prepend code (code_from (texts lines) (texts (take i lines)) (texts ls))) d
    ∙ ap Ok (append-nil code)

write_next : (lines : List (Bor (List ℕ))) (i slot number : ℕ) (code : List Insn) (x : Bor (List ℕ)) (r : Result Statement AsmKind) → Written lines i slot number code → i < length lines → x ≡ get_or lines i x → r ≡ line_statement x.now → code_from (texts lines) [] (texts lines) ≡ prepend code (code_then (second_round (texts lines) (texts (take i lines)) x.now r) (min (i + 1) (2 ^ 32 - 1)) (code_from (texts lines) (texts (take i lines) ++ x.now ∷ []) (texts (drop (i + 1) lines))))
write_next lines i slot number code x r s l e h =
    let rest : Result (List Insn) AsmFault = code_from (texts lines) (texts (take i lines) ++ x.now ∷ []) (texts (drop (i + 1) lines)) in
    s.continues
    ∙ ap (λ (ls : List (List ℕ)). prepend code (code_from (texts lines) (texts (take i lines)) ls)) (texts_next lines i x l e)
    ∙ ap (λ (n : ℕ). prepend code (code_then (second_round (texts lines) (texts (take i lines)) x.now (line_statement x.now)) n rest)) (number_of lines i (omega arith))
    ∙ ap (λ (y : Result Statement AsmKind). prepend code (code_then (second_round (texts lines) (texts (take i lines)) x.now y) (min (i + 1) (2 ^ 32 - 1)) rest)) (sym h)

pub write_step : (lines : List (Bor (List ℕ))) (i slot number slot' number' : ℕ) (code ys code' : List Insn) (x : Bor (List ℕ)) (r : Result Statement AsmKind) → Written lines i slot number code → i < length lines → x ≡ get_or lines i x → number' ≡ min (number + 1) (2 ^ 32 - 1) → r ≡ line_statement x.now → second_round (texts lines) (texts (take i lines)) x.now r ≡ Ok ys → slot' ≡ slot + statement_slots r → code' ≡ code ++ ys → Written lines (i + 1) slot' number' code'
write_step lines i slot number slot' number' code ys code' x r s l e n h f d c =
    let m = s.number_is in
    let more = texts_more lines i x l e in
    let rest : Result (List Insn) AsmFault = code_from (texts lines) (texts (take i lines) ++ x.now ∷ []) (texts (drop (i + 1) lines)) in
    record {
      continues =
          write_next lines i slot number code x r s l e h
          ∙ ap (λ (y : Result (List Insn) AsmKind). prepend code (code_then y (min (i + 1) (2 ^ 32 - 1)) rest)) f
          ∙ prepend_then code ys (min (i + 1) (2 ^ 32 - 1)) rest
          ∙ ap (λ (zs : List Insn). prepend zs rest) (sym c)
          ∙ ap (λ (ls : List (List ℕ)). prepend code' (code_from (texts lines) ls (texts (drop (i + 1) lines)))) (sym more);
      slot_is =
          d ∙ ap (λ (y : Result Statement AsmKind). slot + statement_slots y) h
          ∙ ap (λ (k : ℕ). k + line_slots x.now) s.slot_is ∙ sym (slots_more (texts (take i lines)) x.now) ∙ ap slots (sym more);
      number_is = omega arith;
    }

pub write_fault : (lines : List (Bor (List ℕ))) (i slot number next : ℕ) (code : List Insn) (x : Bor (List ℕ)) (r : Result Statement AsmKind) (k : AsmKind) → Written lines i slot number code → i < length lines → x ≡ get_or lines i x → next ≡ min (number + 1) (2 ^ 32 - 1) → r ≡ line_statement x.now → second_round (texts lines) (texts (take i lines)) x.now r ≡ Err k → code_from (texts lines) [] (texts lines) ≡ Err (record { kind = k; line = next })
write_fault lines i slot number next code x r k s l e n h f =
    let m = s.number_is in
    let q : min (i + 1) (2 ^ 32 - 1) ≡ next = omega arith in
    let rest : Result (List Insn) AsmFault = code_from (texts lines) (texts (take i lines) ++ x.now ∷ []) (texts (drop (i + 1) lines)) in
    write_next lines i slot number code x r s l e h
    ∙ ap (λ (y : Result (List Insn) AsmKind). prepend code (code_then y (min (i + 1) (2 ^ 32 - 1)) rest)) f
    ∙ ap (λ (j : ℕ). let fault : AsmFault = record { kind = k; line = j } in Err fault) q

-- The second round's answer at an instruction that aims at a label.
pub aim_is : (lines : List (Bor (List ℕ))) (i slot behind : ℕ) (labels : List Label) (line : List ℕ) (y : Insn) → IsTable labels (texts lines) → slot ≡ slots (texts (take i lines)) → behind ≡ slot + length (insn_slots y) → second_round (texts lines) (texts (take i lines)) line (Ok (says.Aimed y)) ≡ listed (table_slot (target_name line) labels >>? (λ at. aimed y (pos at -ℤ pos behind)))
aim_is lines i slot behind labels line y t s b =
    ap (λ (o : Option ℕ). listed (o >>? (λ at. aimed y (pos at -ℤ pos (slots (texts (take i lines)) + length (insn_slots y)))))) (sym (t.slots_are (target_name line)))
    ∙ ap (λ (k : ℕ). listed (table_slot (target_name line) labels >>? (λ at. aimed y (pos at -ℤ pos k)))) (ap (λ (k : ℕ). k + length (insn_slots y)) (sym s) ∙ sym b)
