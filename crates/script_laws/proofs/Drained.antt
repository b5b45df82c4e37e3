-- What is told of records of which the protocol's rows are the same: the first message that is missing is one.
use Rattle.std.proofs.Common.{◌≡◌, ℕ, ◌<◌, ◌⊎◌, inl, inr, eqb, List, [], ◌∷◌, ◌++◌, cond, find, map, Bool, true, false, Option, Some, None, refl, sym, ap, subst, ◌∙◌}
use Rattle.std.specs.Prelude.{codes, decimal, is_some, option_and_then, slice_get}
use Rattle.std.specs.Option.{option_map}
use Rattle.std.proofs.lemmas.Bool.{cases_order, false≢true}
use Rattle.std.proofs.lemmas.Option.{same_Some, slice_get-map}
use Rattle.hex.specs.Hex.{encode_lower}
use Rattle.host_types.specs.declared.ReplicaId.{ReplicaId}
use Rattle.pbft_codec.specs.Encoding.{encoding}
use Rattle.pbft_model.specs.Rows as model
use Rattle.pbft_progress.specs.Progress.{IsFor}
use Rattle.world_script.specs.Facts.{RowFacts, destination_of, output_of, row_of}
use Rattle.world_script.specs.Journals.{HasReceived}
use Rattle.world_script.specs.Output.{Output}
use Rattle.world_script.specs.Worlds.{MemberFacts, WorldFacts}
use Rattle.world_script.specs.Coming.{Came, IsFirst, IsFirstMissing, IsThere, Misses, Record, SomeAt, output_in, output_named}
use Rattle.world_script.specs.Missing.{Missing}
use Rattle.script_text.specs.Kinds.{kind_of_body, kind_text}
use Rattle.world_script.specs.Printing.{Drains, drained_text, missing_text}
use Rattle.script_laws.proofs.Alike.{Alike, Bare, bare}
use Rattle.script_laws.proofs.Lists.{nil_cons, same_head, same_tail}

-- a record, of the protocol's rows
abbrev Plain : Type 0
Plain = ℕ × List model.Row

abbrev plain : Record → Plain
plain r = (r.0.0, map row_of r.1.items)

-- ---- places of two lists that are mapped to the same

-- what stands at a place of one of them stands there of the other, but for what the map leaves out
pub record Twin {A B : Type 0} (f : A → B) (xs : List A) (place : ℕ) (y : A) : Type 0 where
  pub one : A
  pub at : slice_get xs place ≡ Some one
  pub same : f one ≡ f y

twin_at : {A B : Type 0} (f : A → B) (xs ys : List A) (place : ℕ) (y : A) → map f xs ≡ map f ys → slice_get ys place ≡ Some y → Twin f xs place y
twin_at {A = A} f xs ys place y same at = by (slice_get xs place) refl where
  mapped : option_map f (slice_get xs place) ≡ Some (f y)
  mapped = sym (slice_get-map f xs place) ∙ ap (λ zs. slice_get zs place) same ∙ slice_get-map f ys place ∙ ap (option_map f) at

  by : (o : Option A) → slice_get xs place ≡ o → Twin f xs place y
  by None is = absurd (false≢true (ap is_some (sym (ap (option_map f) is) ∙ mapped)))
  by (Some x) is = record { one = x; at = is; same = same_Some (f x) (f y) (sym (ap (option_map f) is) ∙ mapped) }

module _ (r q : List Record) (same : map plain r ≡ map plain q) where
  id_of : (x y : Record) → plain x ≡ plain y → x.0 ≡ y.0
  id_of x y is = ap (λ (p : Plain). let id : ReplicaId = record { 0 = p.0 } in id) is

  there : (x y : Record) (o p : Output) → plain x ≡ plain y → output_of o ≡ output_of p → IsThere o x → IsThere p y
  there x y o p is out has =
      subst (λ (rows : List model.Row). HasReceived p.message.message rows) (ap (λ (p : Plain). p.1) is)
      (subst (λ (m : model.Output). HasReceived m.message (map row_of x.1.items)) out has)

  is_for : (x y : Record) (o p : Output) → plain x ≡ plain y → output_of o ≡ output_of p → IsFor x.0.0 (destination_of o.to) → IsFor y.0.0 (destination_of p.to)
  is_for x y o p is out has =
      subst (λ (n : ℕ). IsFor n (destination_of p.to)) (ap (λ (p : Plain). p.0) is) (subst (λ (m : model.Output). IsFor x.0.0 m.to) out has)

  -- what came to one of them came to the other
  pub came_alike : (from row output to : ℕ) → Came r from row output to → Came q from row output to
  came_alike from row output to came f at x at2 p at3 g at4 =
      let f' = twin_at plain r q from f same at in
      let rows : map row_of f'.one.1.items ≡ map row_of f.1.items = ap (λ (p : Plain). p.1) f'.same in
      let x' = twin_at row_of f'.one.1.items f.1.items row x rows at2 in
      let p' = twin_at output_of x'.one.outputs x.outputs output p (ap (λ (w : model.Row). w.outputs) x'.same) at3 in
      let g' = twin_at plain r q to g same at4 in
      λ other for.
      there g'.one g p'.one p g'.same p'.same
      (came f'.one f'.at x'.one x'.at p'.one p'.at g'.one g'.at (λ one. other (sym (id_of f'.one f f'.same) ∙ one ∙ id_of g'.one g g'.same))
      (is_for g g'.one p p'.one (sym g'.same) (sym p'.same) for))

  -- and so is what is missing
  pub misses_alike : (from row output to : ℕ) → Misses q from row output to → Misses r from row output to
  misses_alike from row output to (f, at, (x, at2, (p, at3, (g, at4, misses)))) =
      let f' = twin_at plain r q from f same at in
      let rows : map row_of f'.one.1.items ≡ map row_of f.1.items = ap (λ (p : Plain). p.1) f'.same in
      let x' = twin_at row_of f'.one.1.items f.1.items row x rows at2 in
      let p' = twin_at output_of x'.one.outputs x.outputs output p (ap (λ (w : model.Row). w.outputs) x'.same) at3 in
      let g' = twin_at plain r q to g same at4 in (
        f'.one,
        f'.at,
        (
          x'.one,
          x'.at,
          (
            p'.one,
            p'.at,
            (
              g'.one,
              g'.at,
              (
                (λ one. misses.0 (sym (id_of f'.one f f'.same) ∙ one ∙ id_of g'.one g g'.same)),
                is_for g g'.one p p'.one (sym g'.same) (sym p'.same) misses.1,
                (λ has. misses.2 (there g'.one g p'.one p g'.same p'.same has)),
              ),
            ),
          ),
        ),
      )

came_or_misses : (r : List Record) (from row output to : ℕ) → Came r from row output to → Misses r from row output to → ⊥
came_or_misses r from row output to came (f, at, (x, at2, (p, at3, (g, at4, misses)))) = misses.2 (came f at x at2 p at3 g at4 misses.0 misses.1)

-- ---- the output that is named

plain_output : Option model.Output → Missing → List ℕ
plain_output None m = []
plain_output (Some o) m =
    codes "drained no " ++ (decimal m.from.0 ++ (codes " " ++ (decimal m.to.0 ++ (codes " " ++ (kind_text (kind_of_body o.message.body)
    ++ (codes " " ++ (encode_lower (encoding o.message) ++ codes "\n")))))))

text_so : (m : Missing) (o : Option Output) → missing_text m o ≡ plain_output (option_map output_of o) m
unfolding plain_output
text_so m None = refl
text_so m (Some o) = refl

plain_in : List model.Row → ℕ → ℕ → Option model.Output
plain_in rows row output = option_and_then (λ (x : model.Row). slice_get x.outputs output) (slice_get rows row)

in_so : (rows : List RowFacts) (row output : ℕ) → option_map output_of (output_in rows row output) ≡ plain_in (map row_of rows) row output
unfolding plain_in
in_so rows row output = by (slice_get rows row) ∙ ap (option_and_then (λ (x : model.Row). slice_get x.outputs output)) (sym (slice_get-map row_of rows row)) where
  by : (o : Option RowFacts) → option_map output_of (option_and_then (λ (x : RowFacts). slice_get x.outputs output) o)
      ≡ option_and_then (λ (x : model.Row). slice_get x.outputs output) (option_map row_of o)
  by None = refl
  by (Some x) = sym (slice_get-map output_of x.outputs output)

plain_named : List Plain → Missing → Option model.Output
plain_named ps m = option_and_then (λ (p : Plain). plain_in p.1 m.row m.output) (find (λ (p : Plain). eqb p.0 m.from.0) ps)

named_so : (records : List Record) (m : Missing) → option_map output_of (output_named records m) ≡ plain_named (map plain records) m
unfolding plain_named
named_so [] m = refl
named_so (r ∷ records) m = by (eqb r.0.0 m.from.0) (named_so records m) where
  by : (b : Bool) → option_map output_of (option_and_then (λ (f : Record). output_in f.1.items m.row m.output) (find (λ (f : Record). eqb f.0.0 m.from.0) records))
      ≡ option_and_then (λ (p : Plain). plain_in p.1 m.row m.output) (find (λ (p : Plain). eqb p.0 m.from.0) (map plain records))
      → option_map output_of (option_and_then (λ (f : Record). output_in f.1.items m.row m.output) (cond b (Some r) (find (λ (f : Record). eqb f.0.0 m.from.0) records)))
      ≡ option_and_then (λ (p : Plain). plain_in p.1 m.row m.output) (cond b (Some (plain r)) (find (λ (p : Plain). eqb p.0 m.from.0) (map plain records)))
  by true is = in_so r.1.items m.row m.output
  by false is = is

-- ---- the first one

module _ (r q : List Record) (same : map plain r ≡ map plain q) (m k : Missing) (a : IsFirst r m) (b : IsFirst q k) where
  not_before : (from row output to : ℕ) → Came q from row output to → Misses r from row output to → ⊥
  not_before from row output to came misses = came_or_misses r from row output to (came_alike q r (sym same) from row output to came) misses

  not_behind : (from row output to : ℕ) → Came r from row output to → Misses q from row output to → ⊥
  not_behind from row output to came misses = came_or_misses r from row output to came (misses_alike r q same from row output to misses)

  froms : a.from ≡ b.from
  froms = by (cases_order a.from b.from) where
    by : (a.from ≡ b.from) ⊎ ((a.from < b.from) ⊎ (b.from < a.from)) → a.from ≡ b.from
    by (inl is) = is
    by (inr (inl less)) = absurd (not_before a.from m.row m.output a.to (b.records_came a.from m.row m.output a.to less) a.misses)
    by (inr (inr less)) = absurd (not_behind b.from k.row k.output b.to (a.records_came b.from k.row k.output b.to less) b.misses)

  rows : m.row ≡ k.row
  rows = by (cases_order m.row k.row) where
    by : (m.row ≡ k.row) ⊎ ((m.row < k.row) ⊎ (k.row < m.row)) → m.row ≡ k.row
    by (inl is) = is
    by (inr (inl less)) = absurd (not_before b.from m.row m.output a.to (b.rows_came m.row m.output a.to less) (subst (λ (n : ℕ). Misses r n m.row m.output a.to) froms a.misses))
    by (inr (inr less)) = absurd (not_behind a.from k.row k.output b.to (a.rows_came k.row k.output b.to less) (subst (λ (n : ℕ). Misses q n k.row k.output b.to) (sym froms) b.misses))

  misses_there : Misses r b.from k.row m.output a.to
  misses_there = subst (λ (n : ℕ). Misses r b.from n m.output a.to) rows (subst (λ (n : ℕ). Misses r n m.row m.output a.to) froms a.misses)

  misses_here : Misses q a.from m.row k.output b.to
  misses_here = subst (λ (n : ℕ). Misses q a.from n k.output b.to) (sym rows) (subst (λ (n : ℕ). Misses q n k.row k.output b.to) (sym froms) b.misses)

  outputs : m.output ≡ k.output
  outputs = by (cases_order m.output k.output) where
    by : (m.output ≡ k.output) ⊎ ((m.output < k.output) ⊎ (k.output < m.output)) → m.output ≡ k.output
    by (inl is) = is
    by (inr (inl less)) = absurd (not_before b.from k.row m.output a.to (b.outputs_came m.output a.to less) misses_there)
    by (inr (inr less)) = absurd (not_behind a.from m.row k.output b.to (a.outputs_came k.output b.to less) misses_here)

  tos : a.to ≡ b.to
  tos = by (cases_order a.to b.to) where
    by : (a.to ≡ b.to) ⊎ ((a.to < b.to) ⊎ (b.to < a.to)) → a.to ≡ b.to
    by (inl is) = is
    by (inr (inl less)) = absurd (not_before b.from k.row k.output a.to (b.came a.to less) (subst (λ (n : ℕ). Misses r b.from k.row n a.to) outputs misses_there))
    by (inr (inr less)) = absurd (not_behind a.from m.row m.output b.to (a.came b.to less) (subst (λ (n : ℕ). Misses q a.from m.row n b.to) (sym outputs) misses_here))

  -- the ids at one place are one
  ids_at : (place : ℕ) (x y : ReplicaId) → SomeAt r place (λ f. f.0 ≡ x) → SomeAt q place (λ f. f.0 ≡ y) → x ≡ y
  ids_at place x y (f, at, is) (g, at2, is2) =
      let f' = twin_at plain r q place g same at2 in
      sym is ∙ ap (λ (f : Record). f.0) (same_Some f f'.one (sym at ∙ f'.at)) ∙ id_of r q same f'.one g f'.same ∙ is2

  named_alike : m ≡ k
  named_alike =
      let from = ids_at b.from m.from k.from (subst (λ (n : ℕ). SomeAt r n (λ f. f.0 ≡ m.from)) froms a.from_is) b.from_is in
      let to = ids_at b.to m.to k.to (subst (λ (n : ℕ). SomeAt r n (λ f. f.0 ≡ m.to)) tos a.to_is) b.to_is in
      λ i. record { from = from i; row = rows i; output = outputs i; to = to i }

  pub first_alike : missing_text m (output_named r m) ≡ missing_text k (output_named q k)
  first_alike =
      text_so m (output_named r m)
      ∙ ap (λ (o : Option model.Output). plain_output o m) (named_so r m ∙ ap (λ (ps : List Plain). plain_named ps m) same ∙ sym (named_so q m))
      ∙ sym (text_so m (output_named q m))
      ∙ ap (λ (x : Missing). missing_text x (output_named q x)) named_alike

pub missing_alike : (r q : List Record) → map plain r ≡ map plain q → (m k : Option Missing) → IsFirstMissing r m → IsFirstMissing q k → drained_text r m ≡ drained_text q k
missing_alike r q same None None a b = refl
missing_alike r q same None (Some k) a b = absurd (came_or_misses r b.from k.row k.output b.to (a b.from k.row k.output b.to) (misses_alike r q same b.from k.row k.output b.to b.misses))
missing_alike r q same (Some m) None a b = absurd (came_or_misses q a.from m.row m.output a.to (b a.from m.row m.output a.to) (misses_alike q r (sym same) a.from m.row m.output a.to a.misses))
missing_alike r q same (Some m) (Some k) a b = first_alike r q same m k a b

-- ---- the records of worlds

plain_of : Bare → Plain
plain_of b = (b.0.me, b.1)

plain_so : (ms : List MemberFacts) (records : List Record) → map (λ (r : Record). r.0.0) records ≡ map (λ (m : MemberFacts). m.replica.me) ms
    → map (λ (r : Record). r.1.items) records ≡ map (λ (m : MemberFacts). m.rows) ms → map plain records ≡ map plain_of (map bare ms)
unfolding plain_of
plain_so [] [] ids own = refl
plain_so [] (r ∷ records) ids own = absurd (nil_cons (sym ids))
plain_so (m ∷ ms) [] ids own = absurd (nil_cons ids)
plain_so (m ∷ ms) (r ∷ records) ids own =
    let rest = plain_so ms records (same_tail ids) (same_tail own) in
    let id = same_head ids in
    let first = ap (map row_of) (same_head own) in
    λ i. (id i, first i) ∷ rest i

pub drains_alike : (w v : WorldFacts) → Alike w v → (text other : List ℕ) → Drains w text → Drains v other → text ≡ other
drains_alike w v alike text other (r, are, (m, first, is)) (q, are2, (k, first2, is2)) =
    let same : map plain r ≡ map plain q = plain_so w.members r are.ids are.rows ∙ ap (map plain_of) alike.members ∙ sym (plain_so v.members q are2.ids are2.rows) in
    is ∙ missing_alike r q same m k first first2 ∙ sym is2
