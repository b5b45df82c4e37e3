-- The bytes that a helper reads: those of one access behind those of the other.
use Rattle.std.proofs.Common.{◌≡◌, ℕ, List, [], ◌++◌, length, take, drop, Result, Ok, Err, IfOk, sym, ap, subst, ◌∙◌}
use Rattle.std.proofs.lemmas.List.{append-nil}
use Rattle.std.proofs.Math.Seq.{take-append_seam, drop-append_seam}
use Rattle.tenant_maps.specs.Entries.{Entries}
use Rattle.map_helpers.specs.declared.helper.Helper.{Helper}
use Rattle.map_helpers.specs.declared.helper.Helper.TheVariants.{Put, Del, Emit}
use Rattle.map_helpers.specs.Helpers.{reads}
use Rattle.map_helpers.specs.Effects.{Context, Effect, AreRead, context_of, effect_of, put_effect}

one_read : (first second : List ℕ) → second ≡ [] → first ++ second ≡ first
one_read first second none = ap (λ (ys : List ℕ). first ++ ys) none ∙ append-nil first

-- a helper that has one access
pub del_read : (helper : Helper) (c : Context) (first second : List ℕ) (e : Effect) → helper ≡ Del → AreRead (reads helper) first second → effect_of Del c first ≡ e → effect_of helper c (first ++ second) ≡ e
del_read helper c first second e is read same =
    let these : AreRead (reads Del) first second = subst (λ (h : Helper). AreRead (reads h) first second) is read in
    ap (λ (h : Helper). effect_of h c (first ++ second)) is ∙ ap (effect_of Del c) (one_read first second these.1) ∙ same

pub emit_read : (helper : Helper) (c : Context) (first second : List ℕ) (e : Effect) → helper ≡ Emit → AreRead (reads helper) first second → effect_of Emit c first ≡ e → effect_of helper c (first ++ second) ≡ e
emit_read helper c first second e is read same =
    let these : AreRead (reads Emit) first second = subst (λ (h : Helper). AreRead (reads h) first second) is read in
    ap (λ (h : Helper). effect_of h c (first ++ second)) is ∙ ap (effect_of Emit c) (one_read first second these.1) ∙ same

-- a key and a value
pub key_first : (first second : List ℕ) → length first ≡ 16 → take 16 (first ++ second) ≡ first
key_first first second long = ap (λ (n : ℕ). take n (first ++ second)) (sym long) ∙ take-append_seam first second

pub value_second : (first second : List ℕ) → length first ≡ 16 → drop 16 (first ++ second) ≡ second
value_second first second long = ap (λ (n : ℕ). drop n (first ++ second)) (sym long) ∙ drop-append_seam first second

pub put_read : {A E : Type 0} (helper : Helper) (entries : Entries) (output : List ℕ) (client : ℕ) (first second : List ℕ) (e : A → List ℕ → Effect) (r : Result A E) → helper ≡ Put → AreRead (reads helper) first second → IfOk r (λ x. (out : List ℕ) (who : ℕ) → put_effect (context_of entries out who) first second ≡ e x out) → IfOk r (λ x. effect_of helper (context_of entries output client) (first ++ second) ≡ e x output)
put_read helper entries output client first second e (Err x) is read same = tt
put_read helper entries output client first second e (Ok x) is read same =
    let c : Context = context_of entries output client in
    let these : AreRead (reads Put) first second = subst (λ (h : Helper). AreRead (reads h) first second) is read in
    ap (λ (h : Helper). effect_of h c (first ++ second)) is
    ∙ ap (λ (key : List ℕ). put_effect c key (drop 16 (first ++ second))) (key_first first second these.0)
    ∙ ap (put_effect c first) (value_second first second these.0)
    ∙ same output client
