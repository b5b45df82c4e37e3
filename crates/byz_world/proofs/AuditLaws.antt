-- An audit, record by record.
use Rattle.std.proofs.Common.{◌≡◌, ℕ, suc, ◌+◌, ◌<◌, Bool, true, false, ◌&&◌, List, [], ◌∷◌, ◌++◌, length, map, take, drop, get_or, refl, sym, ap, subst, ◌∙◌}
use Rattle.std.specs.Prelude.{Result, Ok, Err, IsErrAnd}
use Rattle.std.specs.List.{list_all}
use Rattle.std.proofs.lemmas.Grind.{flat_map-append}
use Rattle.std.proofs.lemmas.List.{append_assoc, append-nil, map-append, take-append-drop, take_more}
use Rattle.std.proofs.Math.Seq.{drop-cons}
use Rattle.replica_journal.specs.Facts.{RowFacts}
use Rattle.replica_journal.specs.Done.{Done}
use Rattle.byz_world.specs.declared.audit_fault.AuditFault.{AuditFault}
use Rattle.byz_world.specs.declared.audit_fault.AuditFault.TheVariants.{Differ, Gap, Unrecorded, Memory}
use Rattle.byz_world.specs.declared.history.Execution.{Execution}
use Rattle.byz_world.specs.Audits.{Agree, IsAudit, SomeDiffer, all_done, all_rise, done_in, rises}
use Rattle.byz_world.specs.Noting.{IsMadeOf, IsRefusal}
use Rattle.byz_world.proofs.NotedLaws.{differ_more}

-- records as lists of rows, for any way of reading them
pub done_more : {X : Type 0} (rows : X → List RowFacts) (xs : List X) (i : ℕ) (d : X) → i < length xs → all_done (map rows (take (i + 1) xs)) ≡ all_done (map rows (take i xs)) ++ done_in (rows (get_or xs i d))
done_more {X} rows xs i d below =
    ap (λ (ys : List X). all_done (map rows ys)) (take_more xs i d below)
    ∙ ap all_done (map-append rows (take i xs) (get_or xs i d ∷ []))
    ∙ flat_map-append done_in (map rows (take i xs)) (rows (get_or xs i d) ∷ [])
    ∙ ap (λ (ys : List Done). all_done (map rows (take i xs)) ++ ys) (append-nil (done_in (rows (get_or xs i d))))

pub done_whole : {X : Type 0} (rows : X → List RowFacts) (xs : List X) (i : ℕ) (d : X) → i < length xs → (all_done (map rows (take i xs)) ++ done_in (rows (get_or xs i d))) ++ all_done (map rows (drop (suc i) xs)) ≡ all_done (map rows xs)
done_whole {X} rows xs i d below =
    append_assoc (all_done (map rows (take i xs))) (done_in (rows (get_or xs i d))) (all_done (map rows (drop (suc i) xs)))
    ∙ sym (flat_map-append done_in (map rows (take i xs)) (rows (get_or xs i d) ∷ map rows (drop (suc i) xs)))
    ∙ ap all_done (sym (map-append rows (take i xs) (get_or xs i d ∷ drop (suc i) xs)))
    ∙ ap (λ (ys : List X). all_done (map rows ys)) (ap (λ (ys : List X). take i xs ++ ys) (sym (drop-cons xs i d below)) ∙ take-append-drop i xs)

all-append : {X : Type 0} (p : X → Bool) (xs : List X) (x : X) → list_all p (xs ++ x ∷ []) ≡ (list_all p xs && p x)
all-append p [] x = and-true (p x) where
  and-true : (b : Bool) → (b && true) ≡ b
  and-true true = refl
  and-true false = refl
all-append p (y ∷ xs) x = ap (λ (b : Bool). p y && b) (all-append p xs x) ∙ assoc (p y) (list_all p xs) (p x) where
  assoc : (a b d : Bool) → (a && (b && d)) ≡ ((a && b) && d)
  assoc true b d = refl
  assoc false b d = refl

pub rise_more : {X : Type 0} (rows : X → List RowFacts) (xs : List X) (i : ℕ) (d : X) → i < length xs → all_rise (map rows (take (i + 1) xs)) ≡ (all_rise (map rows (take i xs)) && rises (done_in (rows (get_or xs i d))))
rise_more {X} rows xs i d below =
    ap (λ (ys : List X). all_rise (map rows ys)) (take_more xs i d below)
    ∙ ap all_rise (map-append rows (take i xs) (get_or xs i d ∷ []))
    ∙ all-append (λ (r : List RowFacts). rises (done_in r)) (map rows (take i xs)) (rows (get_or xs i d))

-- ---- what is answered

pub audit_refused : (records : List (List RowFacts)) (early late : List Done) (r : Result (List Execution) AuditFault) (fault : AuditFault) → early ++ late ≡ all_done records → IsErrAnd r (λ e. e ≡ fault) → IsRefusal (SomeDiffer early early) fault → IsAudit records r
audit_refused records early late (Ok x) fault whole e h = absurd e
audit_refused records early late (Err x) fault whole e h = subst (λ (f : AuditFault). IsAudit records (Err f)) (sym e) (cases fault h) where
  cases : (f : AuditFault) → IsRefusal (SomeDiffer early early) f → IsAudit records (Err f)
  cases Differ w = subst (λ (xs : List Done). SomeDiffer xs xs) whole (differ_more early late w)
  cases Gap w = absurd w
  cases Unrecorded w = absurd w
  cases Memory w = tt

pub audit_made : (records : List (List RowFacts)) → Agree (all_done records) → all_rise records ≡ true → (r : Result (List Execution) AuditFault) → IsMadeOf (all_done records) r → IsAudit records r
audit_made records agree rise (Ok history) made = (agree, rise, made)
audit_made records agree rise (Err Differ) made = absurd made
audit_made records agree rise (Err Gap) made = absurd made
audit_made records agree rise (Err Unrecorded) made = (agree, rise, made)
audit_made records agree rise (Err Memory) made = tt
