-- The ViewChanges of an own NewView, from one replica to the next.
use Rattle.std.proofs.Common.{◌≡◌, ℕ, suc, ◌+◌, Bool, true, false, cond, ◌&&◌, ◌||◌, not, List, [], ◌∷◌, ◌++◌, map, Option, Some, None, refl, sym, ap, ◌∙◌, arith}
use Rattle.std.specs.Prelude.{nat_lt, ◌==◌}
use Rattle.std.specs.List.{cons_option}
use Rattle.pbft_codec.specs.declared.body.Body.{Body}
use Rattle.pbft_codec.specs.declared.body.Body.TheVariants as bodies
use Rattle.pbft_model.specs.Setup.{count, is_least}
use Rattle.pbft_model.specs.Certificates.{some_by}
use Rattle.pbft_model.specs.Tables.{Table, at, change_key}
use Rattle.pbft_model.specs.Words.{Signed, ViewChange, as_message}
use Rattle.seal.specs.Lists.{CheckedMessages, under, with_message}
use Rattle.seal.specs.Opening.{CheckedMessage}
use Rattle.std.specs.Option.{option_map}
use Rattle.host_types.specs.Configuration.{Configuration}
use Rattle.view_change.proofs.Least.{append_nil, gathered_next}
use Rattle.replica_stores.specs.Changes.{chosen_below, is_other_wanted, is_wanted}
use Rattle.replica_stores.proofs.Lists.{map_append}

-- how many others there are below the next replica, and what is chosen below it
pub record NextChosen (many : ℕ) (table : Table (Signed ViewChange)) (view me n others : ℕ) (chosen : List (Signed ViewChange)) : Type 0 where
  pub counted : others ≡ count (is_other_wanted table view me) (n + 1)
  pub gathered : chosen ≡ chosen_below (n + 1) many table view me

at_next : (many : ℕ) (table : Table (Signed ViewChange)) (view me n others : ℕ) (chosen : List (Signed ViewChange)) → others ≡ count (is_other_wanted table view me) (suc n) → chosen ≡ chosen_below (suc n) many table view me
    → NextChosen many table view me n others chosen
at_next many table view me n others chosen e g =
    let next : suc n ≡ n + 1 = omega arith in
    record { counted = e ∙ ap (count (is_other_wanted table view me)) next; gathered = g ∙ ap (λ k. chosen_below k many table view me) next }

chosen_next : (many : ℕ) (table : Table (Signed ViewChange)) (view me n : ℕ)
    → chosen_below (suc n) many table view me ≡ chosen_below n many table view me ++ cons_option (cond (n == me || is_least many (is_other_wanted table view me) n) (at table (change_key view n)) None) []
chosen_next many table view me n = gathered_next (λ i. i == me || is_least many (is_other_wanted table view me) i) (λ i. at table (change_key view i)) n

-- it has sent none
pub chosen_without : (many : ℕ) (table : Table (Signed ViewChange)) (view me n others : ℕ) → at table (change_key view n) ≡ None → others ≡ count (is_other_wanted table view me) n
    → NextChosen many table view me n others (chosen_below n many table view me)
chosen_without many table view me n others none e =
    at_next many table view me n others (chosen_below n many table view me)
    (none_more ∙ ap (λ b. cond b 1 0 + count (is_other_wanted table view me) n) (sym not_other))
    (sym (chosen_next many table view me n ∙ ap (λ o. chosen_below n many table view me ++ cons_option (cond (n == me || is_least many (is_other_wanted table view me) n) o None) []) none
    ∙ ap (λ o. chosen_below n many table view me ++ cons_option o []) (either_none (n == me || is_least many (is_other_wanted table view me) n)) ∙ append_nil (chosen_below n many table view me))) where
      either_none : (b : Bool) → ◌≡◌ {A = Option (Signed ViewChange)} (cond b None None) None
      either_none true = refl
      either_none false = refl

      none_more : others ≡ 0 + count (is_other_wanted table view me) n
      none_more = omega (arith, e)

      never : (b : Bool) → (b && false) ≡ false
      never true = refl
      never false = refl

      not_other : is_other_wanted table view me n ≡ false
      not_other = ap (λ o. not (n == me) && some_by n (λ v. v.view.0 == view) o) none ∙ never (not (n == me))

-- it has sent this one
pub chosen_with : (many : ℕ) (table : Table (Signed ViewChange)) (view me n others : ℕ) (x : Signed ViewChange) → at table (change_key view n) ≡ Some x → is_wanted table view n ≡ true → others ≡ count (is_other_wanted table view me) n
    → NextChosen many table view me n (others + cond (not (n == me)) 1 0) (chosen_below n many table view me ++ cond (not (not (n == me)) || nat_lt others many) (x ∷ []) [])
chosen_with many table view me n others x some wanted e =
    at_next many table view me n (others + cond (not (n == me)) 1 0) (chosen_below n many table view me ++ cond (not (not (n == me)) || nat_lt others many) (x ∷ []) [])
    (more (not (n == me)) ∙ ap (λ b. cond (not (n == me) && b) 1 0 + count (is_other_wanted table view me) n) (sym wanted))
    (sym (chosen_next many table view me n ∙ ap (λ o. chosen_below n many table view me ++ cons_option (cond (n == me || (is_other_wanted table view me n && nat_lt (count (is_other_wanted table view me) n) many)) o None) []) some
    ∙ ap (λ b. chosen_below n many table view me ++ cons_option (cond (n == me || ((not (n == me) && b) && nat_lt (count (is_other_wanted table view me) n) many)) (Some x) None) []) wanted
    ∙ ap (λ k. chosen_below n many table view me ++ cons_option (cond (n == me || ((not (n == me) && true) && nat_lt k many)) (Some x) None) []) (sym e)
    ∙ ap (λ xs. chosen_below n many table view me ++ xs) (taken (n == me) (nat_lt others many)))) where
      more : (b : Bool) → others + cond b 1 0 ≡ cond (b && true) 1 0 + count (is_other_wanted table view me) n
      more true = omega (arith, e)
      more false = omega (arith, e)

      taken : (own few : Bool) → cons_option (cond (own || ((not own && true) && few)) (Some x) None) [] ≡ cond (not (not own) || few) (x ∷ []) []
      taken true few = refl
      taken false true = refl
      taken false false = refl

pub pushed : (l after : CheckedMessages) (flag : Bool) (m : Signed Body) (xs : List (Signed ViewChange)) (x : Signed ViewChange) → after ≡ cond flag (with_message l m) l → l.messages ≡ map (as_message bodies.ViewChange) xs → m ≡ as_message bodies.ViewChange x
    → (after.config ≡ l.config) × (after.messages ≡ map (as_message bodies.ViewChange) (xs ++ cond flag (x ∷ []) []))
pushed l after true m xs x e are is = (
  ap (λ k. k.config) e,
  ap (λ k. k.messages) e ∙ (λ i. are i ++ is i ∷ []) ∙ sym (map_append (as_message bodies.ViewChange) xs x),
)
pushed l after false m xs x e are is = (ap (λ k. k.config) e, ap (λ k. k.messages) e ∙ are ∙ ap (map (as_message bodies.ViewChange)) (sym (append_nil xs)))

-- what a message that is found shows
pub found_message : (c : Configuration) (m : CheckedMessage) (o : Option (Signed ViewChange)) → Some m ≡ option_map (λ x. under c (as_message bodies.ViewChange x)) o
    → (x : Signed ViewChange) × (o ≡ Some x) × (m ≡ under c (as_message bodies.ViewChange x))
found_message c m None e = absurd cc
found_message c m (Some x) e = (x, refl, cc)

pub none_found : (c : Configuration) (o : Option (Signed ViewChange)) → None ≡ option_map (λ x. under c (as_message bodies.ViewChange x)) o → o ≡ None
none_found c None e = refl
none_found c (Some x) e = absurd cc
