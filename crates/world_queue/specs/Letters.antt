-- Statement: messages on their way, and which of them a step means.
use Rattle.std.specs.Prelude.{◌≡◌, ℕ, ◌==◌, Bool, true, false, ◌&&◌, List, [], ◌∷◌, ◌++◌, length, map, filter, find, Option, Some, None, if◌then◌else◌, not}
use Rattle.std.specs.List.{list_any}
use Rattle.pbft_codec.specs.declared.body.Body.{Body}
use Rattle.pbft_codec.specs.declared.signed.Signed.{Signed}
use Rattle.pbft_codec.specs.Encoding.{encoding}
use Rattle.script_text.specs.Kind.{Kind}
use Rattle.script_text.specs.declared.script.Filter.{Filter}
use Rattle.script_text.specs.Node.{Node}
use Rattle.script_text.specs.Node.TheVariants.{Replica, Client}
use Rattle.script_text.specs.Kinds.{kind_number, kind_of_body}

-- A message on its way: whom it is for, and what a script knows of it. Raw bytes have no sender and no kind.
pub record LetterFacts : Type 0 where
  pub to : Node
  pub from : Option Node
  pub kind : Option Kind
  pub bytes : List ℕ

-- a message that was signed by this node
abbrev pub letter_of : Node → Signed Body → LetterFacts
letter_of from m = record { to = from; from = Some from; kind = Some (kind_of_body m.body); bytes = encoding m }

abbrev pub addressed : LetterFacts → Node → LetterFacts
addressed l to = record l { to = to }

-- a letter once for each of these nodes
abbrev pub copies : LetterFacts → List Node → List LetterFacts
copies l nodes = map (addressed l) nodes

-- ---- which letters are meant

abbrev pub same_node : Node → Node → Bool
same_node (Replica a) (Replica b) = a.0 == b.0
same_node (Replica a) (Client b) = false
same_node (Client a) (Replica b) = false
same_node (Client a) (Client b) = a.0 == b.0

-- all of these nodes but one
abbrev pub all_but : Node → List Node → List Node
all_but one nodes = filter (λ (p : Node). not (same_node p one)) nodes

abbrev pub same_kind : Kind → Kind → Bool
same_kind a b = kind_number a == kind_number b

-- a list is left out, or has this value
abbrev pub is_among : {A : Type 0} → (A → A → Bool) → Option (List A) → Option A → Bool
is_among same None x = true
is_among same (Some xs) None = false
is_among same (Some xs) (Some x) = list_any (λ y. same y x) xs

abbrev pub is_meant : Filter → LetterFacts → Bool
is_meant f l = is_among same_node f.to (Some l.to) && (is_among same_node f.from l.from && is_among same_kind f.kinds l.kind)

abbrev pub first_meant : Filter → List LetterFacts → Option LetterFacts
first_meant f ls = find (is_meant f) ls

-- a letter, if there is one and it is meant
abbrev pub meant_one : Filter → Option LetterFacts → Option LetterFacts
meant_one f None = None
meant_one f (Some l) = if is_meant f l then Some l else None

-- the letters without the first that is meant
abbrev pub without_first : Filter → List LetterFacts → List LetterFacts
without_first f [] = []
without_first f (l ∷ ls) = if is_meant f l then ls else l ∷ without_first f ls

abbrev pub meant_count : Filter → List LetterFacts → ℕ
meant_count f ls = length (filter (is_meant f) ls)

-- A letter is taken out that is meant, and so many before it are.
pub record IsTaken (f : Filter) (passed : ℕ) (old : List LetterFacts) (letter : LetterFacts) (new : List LetterFacts) : Type 0 where
  pub before : List LetterFacts
  pub after : List LetterFacts
  pub splits : old ≡ before ++ letter ∷ after
  pub is_meant_one : is_meant f letter ≡ true
  pub passed_is : meant_count f before ≡ passed
  pub rest : new ≡ before ++ after
