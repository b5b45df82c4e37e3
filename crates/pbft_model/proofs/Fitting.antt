-- Every state that a correct replica comes to is bounded and sound, under the configuration, at the number reached.
use Rattle.std.proofs.Common.{◌≡◌, ℕ, zero, suc, ◌+◌, ◌<◌, ◌≤◌, ◌^◌, Bool, true, false, cond, List, [], ◌∷◌, Option, Some, None, refl, sym, ap, subst, ◌∙◌, arith, inl, inr}
use Rattle.std.specs.Prelude.{IfSome, bytes_eq, ◌==◌}
use Rattle.std.specs.Option.{option_map}
use Rattle.std.proofs.lemmas.Bool.{false≢true, and_parts, leb-true, eqb-true, eq-eqb, ne_eqb}
use Rattle.pbft_model.specs.Words.{SigningState, Signed, RequestBody, Request, IsConfiguration, IsChecked, as_message}
use Rattle.pbft_codec.specs.declared.body.Body.TheVariants as bodies
use Rattle.service_model.proofs.Bounds.{genesis_bounded, step_bounded}
use Rattle.service_model.proofs.Soundness.{genesis_sound, step_sound}
use Rattle.pbft_model.specs.Sequential.{Service, Outcome, IsStep, IsSound}
use Rattle.pbft_model.specs.Setup.{Setup, replicas, quorum, count, null_digest, request_in, number_limit}
use Rattle.pbft_model.specs.Tables.{vote_key}
use Rattle.pbft_model.specs.Certificates.{Fields, of_commit, voted, has_quorum, same_fields}
use Rattle.pbft_model.specs.Core.{Core, is_prepared, held_with, is_named, request_of}
use Rattle.pbft_model.specs.Acts.{Act, Take, Timeout, Send, Relay, Enter, Rise, Execute, Install, after}
use Rattle.pbft_model.specs.Rules.{Allowed}
use Rattle.pbft_model.specs.Histories.{core_after, IsHistory, IsIn}
use Rattle.pbft_model.proofs.Counting.{found_outside}
use Rattle.pbft_model.proofs.Stages.{by_is, fields_are, voted_is}
use Rattle.pbft_model.proofs.Events.{now}
use Rattle.pbft_model.proofs.Origins.{Keeps, recorded_keeps, said_keeps, left_keeps}
use Rattle.pbft_model.proofs.Holdings.{from_find, taken_opened, held_taken, commits_in_range}

-- the fields of a request are in range
pub record RequestInRange (m : Signed RequestBody) : Type 0 where
  pub client : m.id < 2 ^ 32
  pub time : m.body.time < 2 ^ 64

-- The state is bounded and sound, under the configuration, and has taken as many requests as were executed.
pub record IsInStep (c : Setup) (s : Core) : Type 0 where
  pub sound : IsSound s.service
  pub config_is : s.service.config ≡ c.config
  pub number_is : s.service.number ≡ s.executed

in_step_keeps : (c : Setup) (s t : Core) → Keeps s t → IsInStep c s → IsInStep c t
in_step_keeps c s t k h = record {
  sound = subst IsSound (sym k.service) h.sound;
  config_is = ap (λ (x : Service). x.config) k.service ∙ h.config_is;
  number_is = ap (λ (x : Service). x.number) k.service ∙ h.number_is ∙ sym k.number;
}

-- a step keeps the configuration and raises the number by one
step_config : (s : Service) (request : Option Request) (t : Service) (o : Outcome) → IsStep s request t o → (t.config ≡ s.config) × (t.number ≡ s.number + 1)
step_config s None t o h = (ap (λ (x : Service). x.config) h.0, ap (λ (x : Service). x.number) h.0)
step_config s (Some request) t o h = (ap (λ (x : Service). x.config) h.state_is, ap (λ (x : Service). x.number) h.state_is)

-- the request in range
abbrev IsRequestInRange : Request → Type 0
IsRequestInRange r = (r.client.0 < 2 ^ 32) × (r.time < 2 ^ 64)

checked_range : (c : Setup) (m : Signed RequestBody) → IsChecked (record { config = c.config; message = as_message bodies.Request m }) → RequestInRange m
checked_range c m h = let fields = h.encodes.well_formed.fields_in_range in record { client = fields.id_in_range; time = fields.body_in_range }

one_step : (b : Bool) (x : ℕ) → (b ≡ true → x ≡ 0) → x ≤ 1 → cond b 1 0 + x ≤ 1
one_step true x h k = let none : x ≡ 0 = h refl in omega arith
one_step false x h k = omega arith

none_below : (me n : ℕ) → n ≤ me → count (λ i. i == me) n ≡ 0
none_below me zero h = refl
none_below me (suc n) h = ap (λ (b : Bool). cond b 1 0 + count (λ i. i == me) n) (ne_eqb n me (λ e. absurd (omega arith))) ∙ rest (none_below me n (omega arith)) where
  rest : count (λ i. i == me) n ≡ 0 → 0 + count (λ i. i == me) n ≡ 0
  rest e = omega arith

at_most_one : (me n : ℕ) → count (λ i. i == me) n ≤ 1
at_most_one me zero = omega arith
at_most_one me (suc n) = one_step (n == me) (count (λ i. i == me) n) (λ e. none_below me n (let same : n ≡ me = eqb-true n me e in omega arith)) (at_most_one me n)

module _ (c : Setup) (me : ℕ) (signer : SigningState) (configuration : IsConfiguration c.config) where
  -- a held request was opened
  pub held_opened : (acts : List Act) → IsHistory c me signer acts → (m : Signed RequestBody) → IsIn m (core_after c signer acts).held
      → IsChecked (record { config = c.config; message = as_message bodies.Request m })
  held_opened acts is m within = taken_opened c me signer (as_message bodies.Request m) acts is (held_taken c me signer acts is acts (now acts) m within)

  held_range : (acts : List Act) → IsHistory c me signer acts → (m : Signed RequestBody) → IsIn m (core_after c signer acts).held → RequestInRange m
  held_range acts is m within = checked_range c m (held_opened acts is m within)

  requested_range : (acts : List Act) → IsHistory c me signer acts → (digest : List ℕ) → IfSome (request_of c (core_after c signer acts) digest) IsRequestInRange
  requested_range acts is digest = split (bytes_eq digest (null_digest c)) (held_with c (core_after c signer acts).held digest) refl where
    split : (b : Bool) (o : Option (Signed RequestBody)) → held_with c (core_after c signer acts).held digest ≡ o → IfSome (cond b None (option_map request_in o)) IsRequestInRange
    split true o e = tt
    split false None e = tt
    split false (Some m) e =
        let w = held_range acts is m ((from_find (is_named c digest) (core_after c signer acts).held m e).0) in (w.client, w.time)

  -- the number of a quorum's Commits is in range, since another's is among them
  committed_range : (acts : List Act) → IsHistory c me signer acts → (x : Fields) → has_quorum c.config (voted of_commit (core_after c signer acts).commits x) ≡ true → x.number < number_limit
  committed_range acts is x e =
      let s = core_after c signer acts in
      let voters : ℕ → Bool = voted of_commit s.commits x in
      let many = leb-true (quorum c.config) (count voters (replicas c.config)) e in
      let least = configuration.min_faulty in
      let one = at_most_one me (replicas c.config) in
      let w = found_outside voters (λ i. i == me) (replicas c.config) (omega arith) in
      let v = voted_is of_commit s.commits x w.0 w.2 in
      let by = by_is w.0 (λ b. same_fields (of_commit b) x) v.0 v.2 in
      let fields = fields_are (of_commit v.0.body) x by.2 in
      let number : v.0.body.number.0 ≡ x.number = ap (λ (f : Fields). f.number) fields in
      elim (commits_in_range c me signer acts is acts (now acts) (vote_key x.number x.view w.0) v.0 v.1) [
        | inl own ↦ absurd (false≢true (sym w.3 ∙ eq-eqb w.0 me (sym by.1 ∙ own)))
        | inr below ↦ subst (λ (n : ℕ). n < number_limit) number below
      ]

  in_step_after : (acts : List Act) (a : Act) → IsHistory c me signer acts → Allowed c me (core_after c signer acts) a → IsInStep c (core_after c signer acts) → IsInStep c (after c (core_after c signer acts) a)
  in_step_after acts (Take m r) is ok h = let k = recorded_keeps c (core_after c signer acts) m m.body in
      in_step_keeps c (core_after c signer acts) _ (record { number = k.number; service = k.service; reply = k.reply; checkpoint = k.checkpoint }) h
  in_step_after acts (Send to m) is ok h = let k = said_keeps c (core_after c signer acts) m m.body in
      in_step_keeps c (core_after c signer acts) _ (record { number = k.number; service = k.service; reply = k.reply; checkpoint = k.checkpoint }) h
  in_step_after acts (Enter m) is ok h = let k = left_keeps c (core_after c signer acts) m.body.view.0 in
      in_step_keeps c (core_after c signer acts) _ (record { number = k.number; service = k.service; reply = k.reply; checkpoint = k.checkpoint }) h
  in_step_after acts (Execute n d t o) is ok h =
      let s = core_after c signer acts in
      let x : Fields = record { view = s.view; number = n; digest = d } in
      let next : n ≡ s.executed + 1 = ok.next in
      let number : s.service.number ≡ s.executed = h.number_is in
      let range : n < number_limit = committed_range acts is x ((and_parts (is_prepared c s x) (has_quorum c.config (voted of_commit s.commits x)) ok.committed).1) in
      let moved = step_config s.service (request_of c s d) t o ok.step in
      let up : t.number ≡ s.service.number + 1 = moved.1 in
      record {
        sound = record {
          bounded = step_bounded s.service (request_of c s d) t o h.sound.bounded (omega arith) (requested_range acts is d) ok.step;
          sound = step_sound s.service (request_of c s d) t o h.sound.sound ok.step;
        };
        config_is = moved.0 ∙ h.config_is;
        number_is = omega arith;
      }
  in_step_after acts (Install n b t) is ok h = record { sound = ok.reads.sound; config_is = ok.reads.config_is; number_is = ok.reads.number_is }
  in_step_after acts _ is ok h = record { sound = h.sound; config_is = h.config_is; number_is = h.number_is }

  pub in_step_at : (acts : List Act) → IsHistory c me signer acts → IsInStep c (core_after c signer acts)
  in_step_at [] is = record {
    sound = record { bounded = genesis_bounded c.config configuration; sound = genesis_sound c.config };
    config_is = refl;
    number_is = refl;
  }
  in_step_at (a ∷ acts) is = in_step_after acts a is.0 is.1 (in_step_at acts is.0)
