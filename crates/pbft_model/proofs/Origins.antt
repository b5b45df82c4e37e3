-- Where a replica's state comes from: the execution or the installation that it reached last.
use Rattle.std.proofs.Common.{◌≡◌, ◌⊎◌, ℕ, ◌+◌, ◌<◌, ◌≤◌, Bool, true, false, cond, List, [], ◌∷◌, None, refl, ◌∙◌, arith, inl, inr}
use Rattle.std.specs.Prelude.{nat_lt}
use Rattle.pbft_model.specs.Words.{SigningState, Signed, Body}
use Rattle.pbft_codec.specs.declared.body.Body.TheVariants as bodies
use Rattle.pbft_codec.specs.declared.body.fetch.Fetch.TheVariants as fetches
use Rattle.pbft_model.specs.Sequential.{Service, Outcome, genesis_of}
use Rattle.pbft_model.specs.Setup.{Setup}
use Rattle.pbft_model.specs.Core.{Core}
use Rattle.pbft_model.specs.Acts.{Act, Take, Timeout, Send, Relay, Enter, Rise, Execute, Install, after, said, recorded, left_for, left_if_above}
use Rattle.pbft_model.specs.Rules.{Allowed}
use Rattle.pbft_model.specs.Histories.{core_after, IsEarlier}
use Rattle.pbft_model.proofs.Events.{earlier_trans}

-- The second core has the first one's number and state; what the last execution still has to send is sent at most.
pub record Keeps (s t : Core) : Type 0 where
  pub number : t.executed ≡ s.executed
  pub service : t.service ≡ s.service
  pub reply : (t.reply_due ≡ None) ⊎ (t.reply_due ≡ s.reply_due)
  pub checkpoint : (t.checkpoint_due ≡ false) ⊎ (t.checkpoint_due ≡ s.checkpoint_due)

keeps_all : (s t : Core) → t.executed ≡ s.executed → t.service ≡ s.service → t.reply_due ≡ s.reply_due → t.checkpoint_due ≡ s.checkpoint_due → Keeps s t
keeps_all s t a b d e = record { number = a; service = b; reply = inr d; checkpoint = inr e }

pub left_keeps : (c : Setup) (s : Core) (view : ℕ) → Keeps s (left_if_above c s view)
left_keeps c s view = cases (nat_lt s.view view) where
  cases : (b : Bool) → Keeps s (cond b (left_for c s view) s)
  cases true = keeps_all s (left_for c s view) refl refl refl refl
  cases false = keeps_all s s refl refl refl refl

pub said_keeps : (c : Setup) (s : Core) (m : Signed Body) (b : Body) → Keeps s (said c s m b)
said_keeps c s m (bodies.Request b) = keeps_all s _ refl refl refl refl
said_keeps c s m (bodies.PrePrepare b) = keeps_all s _ refl refl refl refl
said_keeps c s m (bodies.Prepare b) = keeps_all s _ refl refl refl refl
said_keeps c s m (bodies.Commit b) = keeps_all s _ refl refl refl refl
said_keeps c s m (bodies.Reply b) = record { number = refl; service = refl; reply = inl refl; checkpoint = inr refl }
said_keeps c s m (bodies.Checkpoint b) = record { number = refl; service = refl; reply = inr refl; checkpoint = inl refl }
said_keeps c s m (bodies.ViewChange b) = keeps_all s _ refl refl refl refl
said_keeps c s m (bodies.NewView b) = let k = left_keeps c s b.view.0 in record { number = k.number; service = k.service; reply = k.reply; checkpoint = k.checkpoint }
said_keeps c s m (bodies.Fetch (fetches.Request d)) = keeps_all s _ refl refl refl refl
said_keeps c s m (bodies.Fetch (fetches.State n)) = keeps_all s _ refl refl refl refl
said_keeps c s m (bodies.Snapshot b) = keeps_all s _ refl refl refl refl

pub recorded_keeps : (c : Setup) (s : Core) (m : Signed Body) (b : Body) → Keeps s (recorded c s m b)
recorded_keeps c s m (bodies.Request b) = keeps_all s _ refl refl refl refl
recorded_keeps c s m _ = keeps_all s _ refl refl refl refl

-- ---- the origin of a state

pub record IsFirst (c : Setup) (s : Core) : Type 0 where
  pub number : s.executed ≡ 0
  pub service : s.service ≡ genesis_of c.config
  pub reply : s.reply_due ≡ None
  pub checkpoint : s.checkpoint_due ≡ false

pub record ByExecution (acts : List Act) (s : Core) : Type 0 where
  pub digest : List ℕ
  pub outcome : Outcome
  pub early : List Act
  pub number : ℕ
  pub service : Service
  pub point : IsEarlier (Execute number digest service outcome ∷ early) acts
  pub number_is : s.executed ≡ number
  pub service_is : s.service ≡ service
  pub reply : (s.reply_due ≡ None) ⊎ (s.reply_due ≡ outcome.reply)

pub record ByInstallation (acts : List Act) (s : Core) : Type 0 where
  pub bytes : List ℕ
  pub early : List Act
  pub number : ℕ
  pub service : Service
  pub point : IsEarlier (Install number bytes service ∷ early) acts
  pub number_is : s.executed ≡ number
  pub service_is : s.service ≡ service
  pub reply : s.reply_due ≡ None
  pub checkpoint : s.checkpoint_due ≡ false

abbrev pub Origin : Setup → List Act → Core → Type 0
Origin c acts s = IsFirst c s ⊎ (ByExecution acts s ⊎ ByInstallation acts s)

at_most_sent : {X : Type 0} (x y none : X) → x ≡ none ⊎ x ≡ y → y ≡ none → x ≡ none
at_most_sent x y none (inl e) h = e
at_most_sent x y none (inr e) h = e ∙ h

origin_keeps : (c : Setup) (acts : List Act) (a : Act) (s t : Core) → Keeps s t → Origin c acts s → Origin c (a ∷ acts) t
origin_keeps c acts a s t k (inl w) = inl (record {
  number = k.number ∙ w.number;
  service = k.service ∙ w.service;
  reply = at_most_sent t.reply_due s.reply_due None k.reply w.reply;
  checkpoint = at_most_sent t.checkpoint_due s.checkpoint_due false k.checkpoint w.checkpoint;
})
origin_keeps c acts a s t k (inr (inl w)) = inr (inl (record {
  digest = w.digest;
  outcome = w.outcome;
  early = w.early;
  number = w.number;
  service = w.service;
  point = inr w.point;
  number_is = k.number ∙ w.number_is;
  service_is = k.service ∙ w.service_is;
  reply = elim k.reply [ inl sent ↦ inl sent | inr same ↦ elim w.reply [ inl none ↦ inl (same ∙ none) | inr is ↦ inr (same ∙ is) ] ];
}))
origin_keeps c acts a s t k (inr (inr w)) = inr (inr (record {
  bytes = w.bytes;
  early = w.early;
  number = w.number;
  service = w.service;
  point = inr w.point;
  number_is = k.number ∙ w.number_is;
  service_is = k.service ∙ w.service_is;
  reply = at_most_sent t.reply_due s.reply_due None k.reply w.reply;
  checkpoint = at_most_sent t.checkpoint_due s.checkpoint_due false k.checkpoint w.checkpoint;
}))

pub origin_after : (c : Setup) (acts : List Act) (s : Core) (a : Act) → Origin c acts s → Origin c (a ∷ acts) (after c s a)
origin_after c acts s (Take m r) h = let k = recorded_keeps c s m m.body in
    origin_keeps c acts (Take m r) s _ (record { number = k.number; service = k.service; reply = k.reply; checkpoint = k.checkpoint }) h
origin_after c acts s Timeout h = origin_keeps c acts Timeout s _ (keeps_all s _ refl refl refl refl) h
origin_after c acts s (Send to m) h = let k = said_keeps c s m m.body in
    origin_keeps c acts (Send to m) s _ (record { number = k.number; service = k.service; reply = k.reply; checkpoint = k.checkpoint }) h
origin_after c acts s (Relay to m) h = origin_keeps c acts (Relay to m) s _ (keeps_all s _ refl refl refl refl) h
origin_after c acts s (Enter m) h = let k = left_keeps c s m.body.view.0 in
    origin_keeps c acts (Enter m) s _ (record { number = k.number; service = k.service; reply = k.reply; checkpoint = k.checkpoint }) h
origin_after c acts s (Rise n d) h = origin_keeps c acts (Rise n d) s _ (keeps_all s _ refl refl refl refl) h
origin_after c acts s (Execute n d t o) h =
    inr (inl (record { digest = d; outcome = o; early = acts; number = n; service = t; point = inl refl; number_is = refl; service_is = refl; reply = inr refl }))
origin_after c acts s (Install n b t) h =
    inr (inr (record { bytes = b; early = acts; number = n; service = t; point = inl refl; number_is = refl; service_is = refl; reply = refl; checkpoint = refl }))

pub origin_at : (c : Setup) (signer : SigningState) (acts : List Act) → Origin c acts (core_after c signer acts)
origin_at c signer [] = inl (record { number = refl; service = refl; reply = refl; checkpoint = refl })
origin_at c signer (a ∷ acts) = origin_after c acts (core_after c signer acts) a (origin_at c signer acts)

-- an origin at an earlier point is one
pub origin_later : (c : Setup) (x acts : List Act) (s : Core) → IsEarlier x acts → Origin c x s → Origin c acts s
origin_later c x acts s h (inl w) = inl w
origin_later c x acts s h (inr (inl w)) = inr (inl (record {
  digest = w.digest;
  outcome = w.outcome;
  early = w.early;
  number = w.number;
  service = w.service;
  point = earlier_trans (Execute w.number w.digest w.service w.outcome ∷ w.early) x acts w.point h;
  number_is = w.number_is;
  service_is = w.service_is;
  reply = w.reply;
}))
origin_later c x acts s h (inr (inr w)) = inr (inr (record {
  bytes = w.bytes;
  early = w.early;
  number = w.number;
  service = w.service;
  point = earlier_trans (Install w.number w.bytes w.service ∷ w.early) x acts w.point h;
  number_is = w.number_is;
  service_is = w.service_is;
  reply = w.reply;
  checkpoint = w.checkpoint;
}))

-- ---- numbers rise

said_number : (c : Setup) (s : Core) (m : Signed Body) (b : Body) → s.executed ≤ (said c s m b).executed
said_number c s m b = let k = said_keeps c s m b in let same : (said c s m b).executed ≡ s.executed = k.number in omega arith

-- what was reached is never lost
pub executed_up : (c : Setup) (me : ℕ) (s : Core) (a : Act) → Allowed c me s a → s.executed ≤ (after c s a).executed
executed_up c me s (Take m r) ok = let k = recorded_keeps c s m m.body in let same : (recorded c s m m.body).executed ≡ s.executed = k.number in omega arith
executed_up c me s (Send to m) ok = said_number c s m m.body
executed_up c me s (Enter m) ok = let k = left_keeps c s m.body.view.0 in let same : (left_if_above c s m.body.view.0).executed ≡ s.executed = k.number in omega arith
executed_up c me s (Execute n d t o) ok = let next : n ≡ s.executed + 1 = ok.next in omega arith
executed_up c me s (Install n b t) ok = let above : s.executed < n = ok.above in omega arith
executed_up c me s _ ok = omega arith
