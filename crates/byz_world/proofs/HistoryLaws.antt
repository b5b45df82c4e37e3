-- The history that is made of what was noted.
use Rattle.std.proofs.Common.{◌≡◌, ℕ, zero, suc, ◌+◌, ◌-◌, ◌<◌, ◌≤◌, ◌⊎◌, inl, inr, Bool, false, cond, List, [], ◌∷◌, ◌++◌, length, Option, Some, None, refl, sym, ap, subst, ◌∙◌, arith, rules}
use Rattle.std.specs.Prelude.{slice_get}
use Rattle.std.specs.Option.{option_or}
use Rattle.std.specs.Ordering.{is_eq, nat_cmp}
use Rattle.std.specs.BTreeMap as tree
use Rattle.std.proofs.lemmas.Bool.{cases_lt, ne_eqb}
use Rattle.std.proofs.lemmas.Option.{slice_get_past}
use Rattle.replica_journal.specs.Done.{Done}
use Rattle.replica_journal.specs.Done.TheVariants.{Executed, Installed}
use Rattle.byz_world.specs.declared.history.Execution.{Execution}
use Rattle.byz_world.specs.declared.noted.Noted.{Noted}
use Rattle.byz_world.specs.Audits.{AreUpTo, IsHistory, entry_at, executed_at, execution_in, number_in}
use Rattle.byz_world.specs.Noting.{IsNoted}

get_front : {X : Type 0} (xs : List X) (y : X) (n : ℕ) → n < length xs → slice_get (xs ++ y ∷ []) n ≡ slice_get xs n
get_front [] y n h = absurd (omega arith)
get_front (x ∷ xs) y zero h = refl
get_front (x ∷ xs) y (suc n) h = get_front xs y n (omega arith)

get_last : {X : Type 0} (xs : List X) (y : X) → slice_get (xs ++ y ∷ []) (length xs) ≡ Some y
get_last [] y = refl
get_last (x ∷ xs) y = get_last xs y

-- One entry more: that of the next number.
pub next_entry : (executed : ℕ → Option Execution) (xs : List Execution) (y : Execution) (last : ℕ) → length xs ≡ last → ((n : ℕ) → n < last → slice_get xs n ≡ executed (n + 1)) → executed (last + 1) ≡ Some y → (n : ℕ) → n < last + 1 → slice_get (xs ++ y ∷ []) n ≡ executed (n + 1)
next_entry executed xs y last long before here n below = split (cases_lt n last) where
  split : (n < last) ⊎ (last ≤ n) → slice_get (xs ++ y ∷ []) n ≡ executed (n + 1)
  split (inl less) = get_front xs y n (omega (arith, long, less)) ∙ before n less
  split (inr more) =
      let is : n ≡ length xs = omega (arith, long, more, below) in
      ap (slice_get (xs ++ y ∷ [])) is ∙ get_last xs y ∙ sym here ∙ ap (λ (k : ℕ). executed (k + 1)) (sym (is ∙ long))

-- none above the greatest number was executed
none_in : (n : ℕ) (x : Done) → number_in x < n → execution_in n x ≡ None
none_in n (Executed number digest result) less = ap (λ (b : Bool). cond b (Some (record { digest = digest; result = result })) None) (ne_eqb number.0 n (λ e. omega (arith, e, less)))
none_in n (Installed number digest) less = refl

none_above : (top n : ℕ) (xs : List Done) → AreUpTo top xs → top < n → executed_at xs n ≡ None
none_above top n [] all above = refl
none_above top n (x ∷ xs) all above =
    ap (λ (o : Option Execution). option_or o (executed_at xs n)) (none_in n x (omega (arith, all.0, above))) ∙ none_above top n xs all.1 above

pub made : (all : List Done) (noted : Noted) (entries : List Execution) → IsNoted all noted → length entries ≡ noted.greatest → ((n : ℕ) → n < noted.greatest → slice_get entries n ≡ tree.get nat_cmp noted.executed (n + 1)) → IsHistory all entries
made all noted entries is long each = record {
  executed = at;
  whole = subst (λ (top : ℕ). AreUpTo top all) (sym long) is.up_to;
} where
  later : (n : ℕ) → 0 < n → (n - 1 < noted.greatest) ⊎ (noted.greatest ≤ n - 1) → slice_get entries (n - 1) ≡ executed_at all n
  later n positive (inl less) = each (n - 1) less ∙ ap (tree.get nat_cmp noted.executed) (omega arith) ∙ is.executed n
  later n positive (inr more) = slice_get_past entries (n - 1) (omega (arith, long, more)) ∙ sym (none_above noted.greatest n all is.up_to (omega (arith, more, positive)))

  at : (n : ℕ) → 0 < n → entry_at entries n ≡ executed_at all n
  at n positive =
      ap (λ (b : Bool). cond b None (slice_get entries (n - 1))) (ne_eqb n 0 (λ e. omega (arith, e, positive)))
      ∙ later n positive (cases_lt (n - 1) noted.greatest)

-- a key below this one is another
pub other_key : (a n : ℕ) → a < n → is_eq (nat_cmp a n) ≡ false
other_key a n less = search rules
