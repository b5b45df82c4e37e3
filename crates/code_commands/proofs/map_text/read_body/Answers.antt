use Rattle.std.proofs.Common.{◌≡◌, ℕ, ◌==◌, Bool, cond, List, length, take, drop, slice_index, Err, ap, sym, ◌∙◌, eq-eqb, arith, ◌-◌, length-take, length-drop}
use Rattle.std.proofs.Math.Seq.{take_all}
use Rattle.hex.specs.Hex.{decode_sized}
use Rattle.code_commands.specs.declared.map_text.MapKind.TheVariants.{WrongLength}
use Rattle.code_commands.specs.MapTexts.{entry_of_body, entry_of_parts}
use Rattle.code_commands.proofs.map_text.read_body.Goals as goal

-- where the length and the blank are right, the parts are read
parts_read : (body : List ℕ) → length body ≡ 97 → slice_index body 32 ≡ 32 → entry_of_body body ≡ entry_of_parts (decode_sized (take 32 body) 16) (decode_sized (drop 33 body) 32)
parts_read body whole blank =
    ap (λ (b : Bool). cond b (cond (slice_index body 32 == 32) (entry_of_parts (decode_sized (take 32 body) 16) (decode_sized (drop 33 body) 32)) (Err WrongLength)) (Err WrongLength))
    (eq-eqb (length body) 97 whole)
    ∙ ap (λ (b : Bool). cond b (entry_of_parts (decode_sized (take 32 body) 16) (decode_sized (drop 33 body) 32)) (Err WrongLength))
    (eq-eqb (slice_index body 32) 32 blank)

pub slice_bounds-read_parts-end : goal.slice_bounds-read_parts-end
slice_bounds-read_parts-end c =
    let whole : length c.args.body.now ≡ 97 = omega arith in
    omega (arith, whole, length-take {A = ℕ})

pub returns : goal.returns
returns c =
    let body : List ℕ = c.args.body.now in
    let whole : length c.args.body.now ≡ 97 = omega arith in
    let blank : slice_index c.args.body.now 32 ≡ 32 = omega arith in
    c.read_parts.ensures
    ∙ ap (λ (t : List ℕ). entry_of_parts (decode_sized (take 32 body) 16) (decode_sized t 32)) (take_all (length body - 33) (drop 33 body) (omega (arith, length-drop 33 body)))
    ∙ sym (parts_read c.args.body.now whole blank)
