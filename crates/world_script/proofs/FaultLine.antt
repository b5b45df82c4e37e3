-- The line of a fault, piece by piece: what a writer has after so many of the seven.
use Rattle.std.proofs.Common.{◌≡◌, ℕ, List, ◌++◌, Option, Result, Ok, Err, subst}
use Rattle.std.specs.Prelude.{OnErr, OnOk, codes, decimal}
use Rattle.std.specs.Io.KnownBytes.{Appends}
use Rattle.script_text.specs.Faults.{name_of, number_of}
use Rattle.script_text.specs.ScriptFault.{ScriptFault}
use Rattle.world_script.specs.Scripts.{fault_line}
use Rattle.world_script.specs.Writing.{AppendsFront}
use Rattle.world_script.proofs.Written.{both, front_more, front_then, same_appends}

pub on_err : {A E : Type 0} (r : Result A E) (P : Type 0) → P → OnErr r P
on_err (Ok x) P p = tt
on_err (Err e) P p = p

-- what holds of one text holds of the other
pub map_ok : {A E : Type 0} (r : Result A E) (P Q : Type 0) → (P → Q) → OnOk r P → OnOk r Q
map_ok (Ok x) P Q f p = f p
map_ok (Err e) P Q f p = tt

pub map_err : {A E : Type 0} (r : Result A E) (P Q : Type 0) → (P → Q) → OnErr r P → OnErr r Q
map_err (Ok x) P Q f p = tt
map_err (Err e) P Q f p = f p

-- a text under another name
front_named : (a b : Option (List ℕ)) (s t : List ℕ) → AppendsFront a b s → s ≡ t → AppendsFront a b t
front_named a b s t v same = subst (AppendsFront a b) same v

module _ (a : Option (List ℕ)) (fault : ScriptFault) where
  abbrev number : List ℕ
  number = decimal (number_of fault.kind)

  -- the first pieces
  abbrev one : List ℕ
  one = codes "script fault "

  abbrev two : List ℕ
  two = one ++ number

  abbrev three : List ℕ
  three = two ++ codes " "

  abbrev four : List ℕ
  four = three ++ name_of fault.kind

  abbrev five : List ℕ
  five = four ++ codes " step "

  abbrev six : List ℕ
  six = five ++ decimal fault.step

  -- ---- the pieces before are written

  pub has_two : (b c : Option (List ℕ)) (n : List ℕ) → Appends a b one → Appends b c n → n ≡ number → Appends a c two
  has_two b c n w v same = both a b c one number w (same_appends b c n number v same)

  pub has_three : (b c : Option (List ℕ)) → Appends a b two → Appends b c (codes " ") → Appends a c three
  has_three b c w v = both a b c two (codes " ") w v

  pub has_four : (b c : Option (List ℕ)) (name : List ℕ) → Appends a b three → Appends b c name → name ≡ name_of fault.kind → Appends a c four
  has_four b c name w v same = both a b c three (name_of fault.kind) w (same_appends b c name (name_of fault.kind) v same)

  pub has_five : (b c : Option (List ℕ)) → Appends a b four → Appends b c (codes " step ") → Appends a c five
  has_five b c w v = both a b c four (codes " step ") w v

  pub has_six : (b c : Option (List ℕ)) (n : List ℕ) → Appends a b five → Appends b c n → n ≡ decimal fault.step → Appends a c six
  has_six b c n w v same = both a b c five (decimal fault.step) w (same_appends b c n (decimal fault.step) v same)

  pub has_all : (b c : Option (List ℕ)) → Appends a b six → Appends b c (codes "\n") → Appends a c (fault_line fault)
  has_all b c w v = both a b c six (codes "\n") w v

  -- ---- a piece is cut

  pub cut_seven : (b z : Option (List ℕ)) → Appends a b six → AppendsFront b z (codes "\n") → AppendsFront a z (fault_line fault)
  cut_seven b z w v = front_then a b z six (codes "\n") w v

  in_six : (z : Option (List ℕ)) → AppendsFront a z six → AppendsFront a z (fault_line fault)
  in_six z v = front_more a z six (codes "\n") v

  pub cut_six : (b z : Option (List ℕ)) (n : List ℕ) → Appends a b five → AppendsFront b z n → n ≡ decimal fault.step → AppendsFront a z (fault_line fault)
  cut_six b z n w v same = in_six z (front_then a b z five (decimal fault.step) w (front_named b z n (decimal fault.step) v same))

  in_five : (z : Option (List ℕ)) → AppendsFront a z five → AppendsFront a z (fault_line fault)
  in_five z v = in_six z (front_more a z five (decimal fault.step) v)

  pub cut_five : (b z : Option (List ℕ)) → Appends a b four → AppendsFront b z (codes " step ") → AppendsFront a z (fault_line fault)
  cut_five b z w v = in_five z (front_then a b z four (codes " step ") w v)

  in_four : (z : Option (List ℕ)) → AppendsFront a z four → AppendsFront a z (fault_line fault)
  in_four z v = in_five z (front_more a z four (codes " step ") v)

  pub cut_four : (b z : Option (List ℕ)) (name : List ℕ) → Appends a b three → AppendsFront b z name → name ≡ name_of fault.kind → AppendsFront a z (fault_line fault)
  cut_four b z name w v same = in_four z (front_then a b z three (name_of fault.kind) w (front_named b z name (name_of fault.kind) v same))

  in_three : (z : Option (List ℕ)) → AppendsFront a z three → AppendsFront a z (fault_line fault)
  in_three z v = in_four z (front_more a z three (name_of fault.kind) v)

  pub cut_three : (b z : Option (List ℕ)) → Appends a b two → AppendsFront b z (codes " ") → AppendsFront a z (fault_line fault)
  cut_three b z w v = in_three z (front_then a b z two (codes " ") w v)

  in_two : (z : Option (List ℕ)) → AppendsFront a z two → AppendsFront a z (fault_line fault)
  in_two z v = in_three z (front_more a z two (codes " ") v)

  pub cut_two : (b z : Option (List ℕ)) (n : List ℕ) → Appends a b one → AppendsFront b z n → n ≡ number → AppendsFront a z (fault_line fault)
  cut_two b z n w v same = in_two z (front_then a b z one number w (front_named b z n number v same))

  pub cut_one : (z : Option (List ℕ)) → AppendsFront a z one → AppendsFront a z (fault_line fault)
  cut_one z v = in_two z (front_more a z one number v)
