-- What isn't above the high mark is at most the low one and the span between them.
use Rattle.std.proofs.Common.{◌≡◌, ℕ, ◌≤◌, ◌+◌, ◌-◌, ◌*◌, [], Some, None, false, refl, sym, ap, subst, arith, nat_lt}
use Rattle.std.proofs.lemmas.Bool.{ltb-false, le-ltb}
use Rattle.std.proofs.lemmas.Option.{none-some, same_Some}
use Rattle.early_votes.specs.Holding.{HeldFacts, is_above, is_early, is_vote, vote_passes}
use Rattle.seal.specs.Opening.{CheckedMessage}
use Rattle.seal.specs.Votes.{vote_in}
use Rattle.pbft_answers.specs.Words.{Signed, Body}
use Rattle.pbft_codec.specs.declared.body.Body.TheVariants as bodies
use Rattle.pbft_answers.specs.Setup.{Setup, span}
use Rattle.pbft_answers.specs.Core.{Core}
use Rattle.pbft_answers.specs.Early.{voted_number, NoVoteIsEarly, IsTimely}
use Rattle.pbft_answers.specs.Journals.{Journals}
use Rattle.early_laws.specs.HeldBack.{IsOnTime, HoldsEarlyVotesBack, IsHeldBack}

within : (low k n : ℕ) → nat_lt (2 * k) (n - low) ≡ false → n ≤ low + 2 * k
within low k n h = let le : n - low ≤ 2 * k = ltb-false (2 * k) (n - low) h in omega arith

passed : (h : HeldFacts) (id : ℕ) (b : Body) (n : ℕ) → vote_passes (is_above h) (vote_in id b) ≡ false → voted_number b ≡ Some n → n ≤ h.low + 2 * h.config.k
passed h id (bodies.PrePrepare p) n early is = subst (λ m. m ≤ h.low + 2 * h.config.k) (same_Some p.number.0 n is) (within h.low h.config.k p.number.0 early)
passed h id (bodies.Prepare p) n early is = subst (λ m. m ≤ h.low + 2 * h.config.k) (same_Some p.number.0 n is) (within h.low h.config.k p.number.0 early)
passed h id (bodies.Commit p) n early is = subst (λ m. m ≤ h.low + 2 * h.config.k) (same_Some p.number.0 n is) (within h.low h.config.k p.number.0 early)
passed h id (bodies.Request _) n early is = absurd (none-some n is)
passed h id (bodies.Reply _) n early is = absurd (none-some n is)
passed h id (bodies.Checkpoint _) n early is = absurd (none-some n is)
passed h id (bodies.ViewChange _) n early is = absurd (none-some n is)
passed h id (bodies.NewView _) n early is = absurd (none-some n is)
passed h id (bodies.Fetch _) n early is = absurd (none-some n is)
passed h id (bodies.Snapshot _) n early is = absurd (none-some n is)

on_time : (c : Setup) (s : Core) (m : Signed Body) (n : ℕ) → IsOnTime c s m → voted_number m.body ≡ Some n → n ≤ s.low + span c.config
on_time c s m n t is =
    let at : n ≤ t.0.low + span t.0.config = passed t.0 t.1.message.id t.1.message.body n t.5 (subst (λ x. voted_number x.body ≡ Some n) (sym t.4) is) in
    subst (λ low. n ≤ low + span c.config) t.3 (subst (λ config. n ≤ t.0.low + span config) t.2 at)

pub none_early : (c : Setup) (j : Journals) → HoldsEarlyVotesBack c j → NoVoteIsEarly c j
none_early c j held i earlier later row s m n correct from splits comes input is = on_time c s m n (held i earlier later row s m correct from splits comes input) is

-- ---- and back

not_above : (h : HeldFacts) (n : ℕ) → n ≤ h.low + 2 * h.config.k → nat_lt (2 * h.config.k) (n - h.low) ≡ false
not_above h n le = le-ltb (2 * h.config.k) (n - h.low) (omega arith)

not_early : (h : HeldFacts) (id : ℕ) (b : Body) → ((n : ℕ) → voted_number b ≡ Some n → n ≤ h.low + 2 * h.config.k) → vote_passes (is_above h) (vote_in id b) ≡ false
not_early h id (bodies.PrePrepare p) within = not_above h p.number.0 (within p.number.0 refl)
not_early h id (bodies.Prepare p) within = not_above h p.number.0 (within p.number.0 refl)
not_early h id (bodies.Commit p) within = not_above h p.number.0 (within p.number.0 refl)
not_early h id (bodies.Request _) within = refl
not_early h id (bodies.Reply _) within = refl
not_early h id (bodies.Checkpoint _) within = refl
not_early h id (bodies.ViewChange _) within = refl
not_early h id (bodies.NewView _) within = refl
not_early h id (bodies.Fetch _) within = refl
not_early h id (bodies.Snapshot _) within = refl

-- nothing is kept, at a core's low mark
abbrev held_at : Setup → Core → HeldFacts
held_at c s = record { config = c.config; low = s.low; view = 0; votes = [] }

pub held_of : (c : Setup) (j : Journals) → NoVoteIsEarly c j → HoldsEarlyVotesBack c j
held_of c j none i earlier later row s m correct from splits comes input =
    (held_at c s, record { config = c.config; message = m }, refl, refl, refl, not_early (held_at c s) m.id m.body (λ n is. none i earlier later row s m n correct from splits comes input is))

pub timely : (c : Setup) (j : Journals) → IsHeldBack c j → IsTimely c j
timely c j h = record { leader = h.leader; stands = h.stands; in_time = none_early c j h.held; asks = h.asks; spreads = h.spreads }
