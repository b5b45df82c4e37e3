-- Going on from one replica to the next, what is gathered of the votes for a digest.
use Rattle.std.proofs.Common.{◌≡◌, ℕ, suc, ◌+◌, ◌<◌, ◌≤◌, Bool, true, false, cond, ◌&&◌, List, [], ◌∷◌, ◌++◌, Option, Some, None, refl, sym, ap, ◌∙◌, arith}
use Rattle.std.specs.Prelude.{nat_lt}
use Rattle.std.specs.List.{filter_map, cons_option}
use Rattle.std.specs.Option.{option_map}
use Rattle.std.proofs.lemmas.Bool.{lt-ltb, le-ltb}
use Rattle.pbft_model.specs.Setup.{count, numbers_from, is_least, gathered}
use Rattle.pbft_model.proofs.Gathering.{numbers_last, filter_append}
use Rattle.pbft_model.specs.Body.{Body}
use Rattle.pbft_model.specs.Signed.{Signed}
use Rattle.pbft_model.specs.Opening.{CheckedMessage}
use Rattle.ballots.specs.Ballots.{Ballot, vote_at, voted_for, is_for, least_below}

pub append_nil : {X : Type 0} (xs : List X) → xs ++ [] ≡ xs
append_nil [] = refl
append_nil (x ∷ xs) = ap (λ ys. x ∷ ys) (append_nil xs)

pub gathered_next : {X : Type 0} (test : ℕ → Bool) (value : ℕ → Option X) (n : ℕ) → gathered test value (suc n) ≡ gathered test value n ++ cons_option (cond (test n) (value n) None) []
gathered_next {X} test value n =
    ap (filter_map g) (numbers_last n 0) ∙ filter_append g (numbers_from 0 n) ((0 + n) ∷ []) ∙ (λ i. filter_map g (numbers_from 0 n) ++ filter_map g (zeros i ∷ [])) where
      g : ℕ → Option X
      g i = cond (test i) (value i) None

      zeros : 0 + n ≡ n
      zeros = omega arith

-- what a vote for the digest says
split : (b : Bool) (o : Option CheckedMessage) (m : CheckedMessage) → Some m ≡ cond b o None → (b ≡ true) × (o ≡ Some m)
split true o m e = (refl, sym e)
split false o m e = absurd cc

absent : (digest : List ℕ) (o : Option CheckedMessage) → None ≡ cond (is_for digest o) o None → is_for digest o ≡ false
absent digest None e = refl
absent digest (Some m) e = step (is_for digest (Some m)) e where
  step : (b : Bool) → None ≡ cond b (Some m) None → b ≡ false
  step true e = absurd cc
  step false e = refl

-- how many voted for the digest below the next replica, and what is gathered below it
pub record Next (votes : Ballot) (digest : List ℕ) (many s count_there : ℕ) (messages : List (Signed Body)) : Type 0 where
  pub counted : count_there ≡ count (voted_for digest votes) (s + 1)
  pub gathered : messages ≡ least_below (s + 1) many digest votes

at_next : (votes : Ballot) (digest : List ℕ) (many s n : ℕ) (messages : List (Signed Body)) → n ≡ count (voted_for digest votes) (suc s) → messages ≡ least_below (suc s) many digest votes → Next votes digest many s n messages
at_next votes digest many s n messages e g =
    let next : suc s ≡ s + 1 = omega arith in
    record { counted = e ∙ ap (count (voted_for digest votes)) next; gathered = g ∙ ap (λ k. least_below k many digest votes) next }

taken_now : (seen many : ℕ) (n : ℕ) (b : Bool) → seen ≡ n → b ≡ true → seen < many → (b && nat_lt n many) ≡ true
taken_now seen many n b e is lt = rw (is, sym e) (lt-ltb seen many lt)

passed_now : (seen many : ℕ) (n : ℕ) (b : Bool) → seen ≡ n → many ≤ seen → (b && nat_lt n many) ≡ false
passed_now seen many n true e le = le-ltb n many (omega arith)
passed_now seen many n false e le = refl

pub took : (votes : Ballot) (digest : List ℕ) (many s seen : ℕ) (m : CheckedMessage) → Some m ≡ cond (voted_for digest votes s) (vote_at votes s) None → seen ≡ count (voted_for digest votes) s → seen < many
    → Next votes digest many s (seen + 1) (least_below s many digest votes ++ m.message ∷ [])
took votes digest many s seen m is e lt =
    let parts = split (voted_for digest votes s) (vote_at votes s) m is in
    at_next votes digest many s (seen + 1) _ (rw parts.0 (omega (arith, e)))
    (sym (gathered_next (is_least many (voted_for digest votes)) (λ signer. option_map (λ m. m.message) (vote_at votes signer)) s
    ∙ ap (λ b. least_below s many digest votes ++ cons_option (cond b (option_map (λ m. m.message) (vote_at votes s)) None) []) (taken_now seen many (count (voted_for digest votes) s) (voted_for digest votes s) e parts.0 lt)
    ∙ ap (λ o. least_below s many digest votes ++ cons_option (option_map (λ m. m.message) o) []) parts.1))

pub passed : (votes : Ballot) (digest : List ℕ) (many s seen : ℕ) (m : CheckedMessage) → Some m ≡ cond (voted_for digest votes s) (vote_at votes s) None → seen ≡ count (voted_for digest votes) s → many ≤ seen
    → Next votes digest many s (seen + 1) (least_below s many digest votes)
passed votes digest many s seen m is e le =
    let parts = split (voted_for digest votes s) (vote_at votes s) m is in
    at_next votes digest many s (seen + 1) _ (rw parts.0 (omega (arith, e)))
    (sym (gathered_next (is_least many (voted_for digest votes)) (λ signer. option_map (λ m. m.message) (vote_at votes signer)) s
    ∙ ap (λ b. least_below s many digest votes ++ cons_option (cond b (option_map (λ m. m.message) (vote_at votes s)) None) []) (passed_now seen many (count (voted_for digest votes) s) (voted_for digest votes s) e le)
    ∙ append_nil (least_below s many digest votes)))

pub left_out : (votes : Ballot) (digest : List ℕ) (many s seen : ℕ) → None ≡ cond (voted_for digest votes s) (vote_at votes s) None → seen ≡ count (voted_for digest votes) s
    → Next votes digest many s seen (least_below s many digest votes)
left_out votes digest many s seen is e =
    let fails = absent digest (vote_at votes s) is in
    at_next votes digest many s seen _ (rw fails (omega (arith, e)))
    (sym (gathered_next (is_least many (voted_for digest votes)) (λ signer. option_map (λ m. m.message) (vote_at votes signer)) s
    ∙ ap (λ b. least_below s many digest votes ++ cons_option (cond (b && nat_lt (count (voted_for digest votes) s) many) (option_map (λ m. m.message) (vote_at votes s)) None) []) fails
    ∙ append_nil (least_below s many digest votes)))
