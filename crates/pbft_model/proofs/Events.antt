-- Points of a history, and what was done at them.
use Rattle.std.proofs.Common.{ℕ, ◌≤◌, true, false, cond, arith, List, [], ◌∷◌, Option, refl, sym, subst, inl, inr, ◌⊎◌}
use Rattle.std.specs.Prelude.{nat_lt}
use Rattle.pbft_model.specs.Words.{SigningState, Signed, Body, Part}
use Rattle.pbft_codec.specs.declared.body.Body.TheVariants as bodies
use Rattle.pbft_codec.specs.declared.body.fetch.Fetch.TheVariants as fetches
use Rattle.pbft_model.specs.Sequential.{Service}
use Rattle.pbft_model.specs.Setup.{Setup}
use Rattle.pbft_model.specs.Core.{Core}
use Rattle.pbft_model.specs.Acts.{Act, Destination, Take, Timeout, Send, Relay, Enter, Rise, Execute, Install, after, said, recorded, left_for, left_if_above}
use Rattle.pbft_model.specs.Rules.{Allowed}
use Rattle.pbft_model.specs.Histories.{core_after, IsHistory, IsEarlier, IsIn, HasSigned, HasTaken, signed_by_act, signed_in}

pub now : (acts : List Act) → IsEarlier acts acts
now [] = refl
now (a ∷ acts) = inl refl

pub earlier_trans : (x y z : List Act) → IsEarlier x y → IsEarlier y z → IsEarlier x z
earlier_trans x y [] h k = subst (λ (w : List Act). IsEarlier x w) k h
earlier_trans x y (a ∷ acts) h (inl same) = subst (λ (w : List Act). IsEarlier x w) same h
earlier_trans x y (a ∷ acts) h (inr k) = inr (earlier_trans x y acts h k)

pub before : (a : Act) (early acts : List Act) → IsEarlier (a ∷ early) acts → IsEarlier early acts
before a early acts h = earlier_trans early (a ∷ early) acts (inr (now early)) h

-- of two points of a history one is the earlier
pub in_order : (x y acts : List Act) → IsEarlier x acts → IsEarlier y acts → IsEarlier x y ⊎ IsEarlier y x
in_order x y [] h k = inl (subst (λ (w : List Act). IsEarlier x w) (sym k) (subst (λ (w : List Act). IsEarlier w []) (sym h) refl))
in_order x y (a ∷ acts) (inl same) k = inr (subst (λ (w : List Act). IsEarlier y w) (sym same) k)
in_order x y (a ∷ acts) (inr h) (inl same) = inl (subst (λ (w : List Act). IsEarlier x w) (sym same) (inr h))
in_order x y (a ∷ acts) (inr h) (inr k) = in_order x y acts h k

pub history_at : (c : Setup) (me : ℕ) (signer : SigningState) (x acts : List Act) → IsEarlier x acts → IsHistory c me signer acts → IsHistory c me signer x
history_at c me signer x [] h is = subst (λ (w : List Act). IsHistory c me signer w) (sym h) is
history_at c me signer x (a ∷ acts) (inl same) is = subst (λ (w : List Act). IsHistory c me signer w) (sym same) is
history_at c me signer x (a ∷ acts) (inr h) is = history_at c me signer x acts h is.0

-- an own message was sent, at this point
pub record Sent (acts : List Act) (m : Signed Body) : Type 0 where
  pub early : List Act
  pub to : Destination
  pub at : IsEarlier (Send to m ∷ early) acts

pub later_sent : (a : Act) (acts : List Act) (m : Signed Body) → Sent acts m → Sent (a ∷ acts) m
later_sent a acts m w = record { early = w.early; to = w.to; at = inr w.at }

-- a part was signed in a message that was sent
pub record SentIn (acts : List Act) (p : Part) : Type 0 where
  pub message : Signed Body
  pub sent : Sent acts message
  pub within : IsIn p (signed_in message)

pub sent_of : (p : Part) (acts : List Act) → HasSigned p acts → SentIn acts p
sent_of p [] h = absurd h
sent_of p (a ∷ acts) (inr h) = let w = sent_of p acts h in record { message = w.message; sent = later_sent a acts w.message w.sent; within = w.within }
sent_of p (Take m r ∷ acts) (inl h) = absurd h
sent_of p (Timeout ∷ acts) (inl h) = absurd h
sent_of p (Send to m ∷ acts) (inl h) = record { message = m; sent = record { early = acts; to = to; at = inl refl }; within = h }
sent_of p (Relay to m ∷ acts) (inl h) = absurd h
sent_of p (Enter m ∷ acts) (inl h) = absurd h
sent_of p (Rise n d ∷ acts) (inl h) = absurd h
sent_of p (Execute n d t o ∷ acts) (inl h) = absurd h
sent_of p (Install n b t ∷ acts) (inl h) = absurd h

pub signed_at : (p : Part) (a : Act) (early acts : List Act) → IsEarlier (a ∷ early) acts → IsIn p (signed_by_act a) → HasSigned p acts
signed_at p a early [] h k = absurd cc
signed_at p a early (b ∷ acts) (inl same) k =
    subst (λ (w : List Act). HasSigned p w) same (inl k)
signed_at p a early (b ∷ acts) (inr h) k = inr (signed_at p a early acts h k)

pub taken_at : (m : Signed Body) (r : Option Service) (early acts : List Act) → IsEarlier (Take m r ∷ early) acts → HasTaken m acts
taken_at m r early [] h = absurd cc
taken_at m r early (b ∷ acts) (inl same) = subst (λ (w : List Act). HasTaken m w) same (inl (r, refl))
taken_at m r early (b ∷ acts) (inr h) = inr (taken_at m r early acts h)

-- the low mark is not above what was executed
pub low_reached : (c : Setup) (me : ℕ) (signer : SigningState) (acts : List Act) → IsHistory c me signer acts → (core_after c signer acts).low ≤ (core_after c signer acts).executed
low_reached c me signer [] is = omega arith
low_reached c me signer (a ∷ acts) is = reached_after (core_after c signer acts) a is.1 (low_reached c me signer acts is.0) where
  reached_left : (s : Core) (view : ℕ) → s.low ≤ s.executed → (left_if_above c s view).low ≤ (left_if_above c s view).executed
  reached_left s view h = elim (nat_lt s.view view) as (λ b. (cond b (left_for c s view) s).low ≤ (cond b (left_for c s view) s).executed) [ true ↦ h | false ↦ h ]

  reached_said : (s : Core) (m : Signed Body) (b : Body) → s.low ≤ s.executed → (said c s m b).low ≤ (said c s m b).executed
  reached_said s m (bodies.Request b) h = h
  reached_said s m (bodies.PrePrepare b) h = h
  reached_said s m (bodies.Prepare b) h = h
  reached_said s m (bodies.Commit b) h = h
  reached_said s m (bodies.Reply b) h = h
  reached_said s m (bodies.Checkpoint b) h = h
  reached_said s m (bodies.ViewChange b) h = h
  reached_said s m (bodies.NewView b) h = reached_left s b.view.0 h
  reached_said s m (bodies.Fetch (fetches.Request d)) h = h
  reached_said s m (bodies.Fetch (fetches.State n)) h = h
  reached_said s m (bodies.Snapshot b) h = h

  reached_recorded : (s : Core) (m : Signed Body) (b : Body) → s.low ≤ s.executed → (recorded c s m b).low ≤ (recorded c s m b).executed
  reached_recorded s m (bodies.Request b) h = h
  reached_recorded s m _ h = h

  reached_after : (s : Core) (a : Act) → Allowed c me s a → s.low ≤ s.executed → (after c s a).low ≤ (after c s a).executed
  reached_after s (Take m r) ok h = reached_recorded s m m.body h
  reached_after s Timeout ok h = h
  reached_after s (Send to m) ok h = reached_said s m m.body h
  reached_after s (Relay to m) ok h = h
  reached_after s (Enter m) ok h = reached_left s m.body.view.0 h
  reached_after s (Rise n d) ok h = ok.reached
  reached_after s (Execute n d t o) ok h = let next = ok.next in omega arith
  reached_after s (Install n b t) ok h = omega arith

-- What acts keep holds from one point on.
module _ (c : Setup) (me : ℕ) (signer : SigningState) (P : Core → Type 0) (keeps : (s : Core) (a : Act) → s.low ≤ s.executed → Allowed c me s a → P s → P (after c s a)) where
  pub holds_on : (x acts : List Act) → IsEarlier x acts → IsHistory c me signer acts → P (core_after c signer x) → P (core_after c signer acts)
  holds_on x [] h is p = subst (λ (w : List Act). P (core_after c signer w)) h p
  holds_on x (a ∷ acts) (inl same) is p = subst (λ (w : List Act). P (core_after c signer w)) same p
  holds_on x (a ∷ acts) (inr h) is p = keeps (core_after c signer acts) a (low_reached c me signer acts is.0) is.1 (holds_on x acts h is.0 p)
