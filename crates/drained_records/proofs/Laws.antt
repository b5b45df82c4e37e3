-- Where each message came, a family's journals are drained; where one is missing, they aren't.
use Rattle.std.proofs.Common.{◌≡◌, ℕ, zero, suc, List, [], ◌∷◌, Some, sym, ap, subst, ◌∙◌, inl, inr}
use Rattle.std.specs.Prelude.{slice_get}
use Rattle.std.proofs.lemmas.Option.{same_Some}
use Rattle.byz_world.specs.Setup.{Setup}
use Rattle.byz_world.specs.Rows as rows
use Rattle.byz_world.specs.Histories.{IsIn}
use Rattle.byz_world.proofs.Found.{in_map, from_map, no_some}
use Rattle.byz_world.specs.Journals.{Journals, HasReceived}
use Rattle.pbft_progress.specs.Progress.{IsDrained, IsFor}
use Rattle.host_types.specs.declared.ReplicaId.{ReplicaId}
use Rattle.byz_world.specs.Facts.{RowFacts, destination_of, output_of, row_of}
use Rattle.byz_world.specs.Output.{Output}
use Rattle.drained_records.specs.Coming.{AllCame, AreRecordsOf, IsFirst, Record}
use Rattle.drained_records.specs.declared.missing.Missing.{Missing}

-- what is in a list stands at a place, and what stands at a place is in it
pub placed : {X : Type 0} (x : X) (xs : List X) → IsIn x xs → (i : ℕ) × (slice_get xs i ≡ Some x)
placed x [] h = absurd h
placed x (y ∷ xs) (inl same) = (zero, ap Some (sym same))
placed x (y ∷ xs) (inr later) = let w = placed x xs later in (suc w.0, w.1)

pub there : {X : Type 0} (x : X) (xs : List X) (i : ℕ) → slice_get xs i ≡ Some x → IsIn x xs
there x [] i e = no_some x e
there x (y ∷ xs) zero e = inl (sym (same_Some y x e))
there x (y ∷ xs) (suc i) e = inr (there x xs i e)

abbrev id_of : ℕ → ReplicaId
id_of n = record { 0 = n }

same_id : (a b : ReplicaId) → a.0 ≡ b.0 → a ≡ b
same_id a b e = ap id_of e

-- the message of two records that each are of a correct replica
came : (c : Setup) (j : Journals) (records : List Record) → AreRecordsOf c j records → AllCame records
    → (f t : Record) → IsIn f records → IsIn t records → (f.0.0 ≡ t.0.0 → ⊥)
    → (r : RowFacts) → IsIn r f.1.items → (o : Output) → IsIn o r.outputs → IsFor t.0.0 (destination_of o.to)
    → HasReceived o.message.message (j.rows t.0.0)
came c j records are all f t f_in t_in other r r_in o o_in for_it =
    let from = placed f records f_in in
    let row = placed r f.1.items r_in in
    let output = placed o r.outputs o_in in
    let to = placed t records t_in in
    subst (λ (rs : List rows.Row). HasReceived o.message.message rs) (sym (are.rows t t_in))
    (all from.0 row.0 output.0 to.0 f from.1 r row.1 o output.1 t to.1 (λ same. other (ap (λ (id : ReplicaId). id.0) same)) for_it)

pub is_drained : (c : Setup) (j : Journals) (records : List Record) → AreRecordsOf c j records → AllCame records → IsDrained c j
is_drained c j records are all from i row output correct_from correct_i other row_in output_in for_it =
    let f = are.each from correct_from in
    let t = are.each i correct_i in
    let r = from_map row_of f.0.1.items row (subst (λ (rs : List rows.Row). IsIn row rs) (ap j.rows (sym f.2) ∙ are.rows f.0 f.1) row_in) in
    let o = from_map output_of r.0.outputs output (subst (λ (x : rows.Row). IsIn output x.outputs) r.2 output_in) in
    let there = came c j records are all f.0 t.0 f.1 t.1 (λ same. other (sym f.2 ∙ same ∙ t.2)) r.0 r.1 o.0 o.1
    (subst (λ (n : ℕ). IsFor n (destination_of o.0.to)) (sym t.2) (subst (λ (x : rows.Output). IsFor i x.to) o.2 for_it)) in
    subst (λ (x : rows.Output). HasReceived x.message (j.rows i)) (sym o.2)
    (subst (λ (n : ℕ). HasReceived o.0.message.message (j.rows n)) t.2 there)

pub is_not_drained : (c : Setup) (j : Journals) (records : List Record) (m : Missing) → AreRecordsOf c j records
    → IsFirst records m → IsDrained c j → ⊥
is_not_drained c j records m are first drained =
    let f = first.misses in
    let r = f.2 in
    let o = r.2 in
    let t = o.2 in
    let f_in = there f.0 records first.from f.1 in
    let t_in = there t.0 records first.to t.1 in
    let has = drained f.0.0.0 t.0.0.0 (row_of r.0) (output_of o.0) (are.correct f.0 f_in) (are.correct t.0 t_in)
    (λ same. t.2.0 (same_id f.0.0 t.0.0 same))
    (subst (λ (rs : List rows.Row). IsIn (row_of r.0) rs) (sym (are.rows f.0 f_in))
    (in_map row_of f.0.1.items r.0 (there r.0 f.0.1.items m.row r.1)))
    (in_map output_of r.0.outputs o.0 (there o.0 r.0.outputs m.output o.1)) t.2.1 in
    t.2.2 (subst (λ (rs : List rows.Row). HasReceived o.0.message.message rs) (are.rows t.0 t_in) has)
