-- Events at a replica: what is printed of bytes that it refuses.
use Rattle.std.proofs.Common.{◌≡◌, ℕ, Bool, true, false, List, [], Option, Some, None, Result, Ok, Err, refl, sym, ap, subst, ◌∙◌}
use Rattle.std.specs.Prelude.{nat_lt, is_some}
use Rattle.host_types.specs.Configuration.{replicas_for}
use Rattle.host_types.specs.declared.ReplicaId.{ReplicaId}
use Rattle.seal.specs.Opening.{CheckedMessage, opening}
use Rattle.seal.specs.declared.fault.SealFault.{SealFault}
use Rattle.drained_records.specs.Facts.{RowFacts}
use Rattle.drained_records.specs.WorldFault.TheVariants as faults
use Rattle.drained_records.specs.Worlds.{Answer, Delivers, Gives, Refuses, Where, WorldFacts}
use Rattle.drained_records.specs.Event.TheVariants as events
use Rattle.script_text.specs.Node.TheVariants.{Replica}
use Rattle.world_script.specs.Parts.{Happened, Takes}
use Rattle.world_script.proofs.Telling.{takes_resting, takes_running}
use Rattle.world_script.specs.Facts.{StageFacts}
use Rattle.world_script.specs.Stages.{Receives, Turn, is_running, refusal_of}

same_row : (x y : Option RowFacts) → ◌≡◌ {A = Answer} (Ok x) (Ok y) → x ≡ y
same_row x y h = cc h

ok_err : {X E : Type 0} {x : X} {e : E} → Ok x ≡ Err e → ⊥
ok_err h = cc h

true_false : true ≡ false → ⊥
true_false h = cc h

-- what bytes gave, at a replica that there is
given : (w t : WorldFacts) (to : ReplicaId) (bytes : List ℕ) (row : Option RowFacts) → Gives w (events.Deliver to bytes) (Ok row) t → Delivers w to.0 (opening w.config bytes) (Ok row) t
given w t to bytes row g = by (nat_lt to.0 (replicas_for w.config.f)) g where
  by : (b : Bool) → Where b (Delivers w to.0 (opening w.config bytes) (Ok row) t) (Refuses faults.NoSuchReplica w (Ok row) t) → Delivers w to.0 (opening w.config bytes) (Ok row) t
  by true g = g
  by false g = absurd (ok_err g.0)

-- Bytes that gave a row, or that halted the replica, were no refused ones.
pub nothing_refused : (s : StageFacts) (w : WorldFacts) (id : ReplicaId) (bytes : List ℕ) (row : Option RowFacts) → Gives s.world (events.Deliver id bytes) (Ok row) w
    → is_running s.world id ≡ true → (is_some row ≡ false → is_running w id ≡ false) → refusal_of id (opening s.world.config bytes) ≡ []
nothing_refused s w id bytes row g runs stops = by (opening s.world.config bytes) (given s.world w id bytes row g) where
  by : (o : Result CheckedMessage SealFault) → Delivers s.world id.0 o (Ok row) w → refusal_of id o ≡ []
  by (Ok m) d = refl
  by (Err fault) d =
      let none = same_row row None d.0 in
      absurd (true_false (sym runs ∙ ap (λ (x : WorldFacts). is_running x id) (sym d.1) ∙ stops (ap is_some none)))

received : (s t : StageFacts) (id : ReplicaId) (bytes text : List ℕ) (row : Option RowFacts) (h : Happened s id (events.Deliver id bytes) row t) → text ≡ refusal_of id (opening s.world.config bytes)
    → Receives s id bytes text t
received s t id bytes text row h is = record {
  occurs = record { row = row; world = h.world; gives = h.gives; continues = h.continues; new = h.new };
  text_is = is;
}

-- A replica that does not run does nothing.
pub passes_over : (s : StageFacts) (id : ReplicaId) (bytes text : List ℕ) → is_running s.world id ≡ false → text ≡ [] → Takes (Replica id) s bytes text None s
passes_over s id bytes text rests none = takes_resting s s id bytes text rests (ap {B = Turn} (λ (x : List ℕ). (x, s)) none)

-- It gave a row, or has halted: nothing is printed.
pub handled : (s t : StageFacts) (id : ReplicaId) (bytes text : List ℕ) (row : Option RowFacts) → is_running s.world id ≡ true → Happened s id (events.Deliver id bytes) row t
    → (is_some row ≡ false → is_running t.world id ≡ false) → text ≡ [] → Takes (Replica id) s bytes text row t
unfolding received
handled s t id bytes text row runs h stops none =
    takes_running s t id bytes text runs
    (received s t id bytes text row h (none ∙ sym (nothing_refused s h.world id bytes row h.gives runs (λ no. ap (λ (u : StageFacts). is_running u.world id) (sym h.new) ∙ stops no))))

none_is : (row : Option RowFacts) → is_some row ≡ false → row ≡ None
none_is None lacks = refl
none_is (Some row) lacks = absurd (true_false lacks)

-- It gave none and continues: what is printed is why the bytes are refused.
pub refused : (s t : StageFacts) (id : ReplicaId) (bytes text : List ℕ) (row : Option RowFacts) → is_running s.world id ≡ true → Happened s id (events.Deliver id bytes) row t → is_some row ≡ false
    → text ≡ refusal_of id (opening s.world.config bytes) → Takes (Replica id) s bytes text None t
unfolding received
refused s t id bytes text row runs h lacks is =
    subst (λ (r : Option RowFacts). Takes (Replica id) s bytes text r t) (none_is row lacks) (takes_running s t id bytes text runs (received s t id bytes text row h is))
