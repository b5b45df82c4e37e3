-- A ballot after one more vote, of which a signer's first counts.
use Rattle.std.proofs.Common.{◌≡◌, ◌≢◌, ℕ, ◌<◌, ◌==◌, Bool, true, false, cond, not, ◌&&◌, length, Some, None, refl, sym, ap, ◌∙◌, ◌⊎◌, inl, inr}
use Rattle.std.proofs.lemmas.Bool.Decides.{eqb_tells}
use Rattle.std.proofs.lemmas.List.{get_or-set_same, get_or-set_other}
use Rattle.pbft_model.specs.Opening.{CheckedMessage}
use Rattle.ballots.specs.Ballots.{Ballot, vote_at, recorded}

put_at : (votes : Ballot) (m : CheckedMessage) (s : ℕ) → m.message.id < length votes → ((s == m.message.id) ≡ true) × (s ≡ m.message.id) ⊎ ((s == m.message.id) ≡ false) × (s ≢ m.message.id)
    → vote_at (recorded votes m) s ≡ cond (s == m.message.id) (Some m) (vote_at votes s)
put_at votes m s lt (inl (e, is)) =
    ap (vote_at (recorded votes m)) is ∙ get_or-set_same votes m.message.id (Some m) None lt ∙ sym (ap (λ b. cond b (Some m) (vote_at votes s)) e)
put_at votes m s lt (inr (e, ne)) = get_or-set_other votes m.message.id s (Some m) None ne ∙ sym (ap (λ b. cond b (Some m) (vote_at votes s)) e)

and_true : (b : Bool) → (b && true) ≡ b
and_true true = refl
and_true false = refl

and_false : (b : Bool) → (b && false) ≡ false
and_false true = refl
and_false false = refl

pub first_at : (votes : Ballot) (m : CheckedMessage) (s : ℕ) (voted : Bool) → m.message.id < length votes
    → vote_at (cond voted votes (recorded votes m)) s ≡ cond ((s == m.message.id) && not voted) (Some m) (vote_at votes s)
first_at votes m s true lt = sym (ap (λ b. cond b (Some m) (vote_at votes s)) (and_false (s == m.message.id)))
first_at votes m s false lt = put_at votes m s lt (eqb_tells s m.message.id) ∙ sym (ap (λ b. cond b (Some m) (vote_at votes s)) (and_true (s == m.message.id)))
