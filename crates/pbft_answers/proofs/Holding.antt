-- Requests: each proposal of the primary is for one that it received, and what was received is held until it is discarded.
use Rattle.std.proofs.Common.{◌≡◌, ◌⊎◌, ℕ, ◌<◌, ◌≤◌, Bool, true, false, ◌||◌, cond, List, [], ◌∷◌, ◌++◌, filter, Option, Some, refl, sym, ap, subst, ◌∙◌, arith, inl, inr}
use Rattle.std.specs.Prelude.{is_some, bytes_eq, find, nat_lt}
use Rattle.std.proofs.lemmas.Bool.{false≢true, or_left, or_right}
use Rattle.std.proofs.lemmas.Slice.Eq.{bytes_eq-Decides}
use Rattle.pbft_model.specs.Words.{SigningState, Signed, Body, RequestBody, PrePrepare, Part, as_message}
use Rattle.pbft_codec.specs.declared.body.Body.TheVariants as bodies
use Rattle.pbft_codec.specs.declared.body.fetch.Fetch.TheVariants as fetches
use Rattle.pbft_model.specs.Sequential.{Service}
use Rattle.pbft_model.specs.Setup.{Setup, primary, digest_of, null_digest}
use Rattle.pbft_model.specs.Tables.{entries_in, keep, is_above}
use Rattle.pbft_model.specs.Certificates.{Fields, of_pre_prepare}
use Rattle.pbft_model.specs.Core.{Core, held_with, is_named, is_new, is_known, is_proposed, names, next_number}
use Rattle.pbft_model.specs.Acts.{Act, Take, Timeout, Send, Relay, Enter, Rise, Execute, Install, after, said, recorded, add_request, still_held, with_body, left_for, left_if_above}
use Rattle.pbft_model.specs.Rules.{pre_prepare_of}
use Rattle.pbft_model.specs.Histories.{core_after, IsHistory, IsEarlier, IsIn, HasTaken}
use Rattle.pbft_model.specs.Families.{IsCorrect}
use Rattle.pbft_agreement.specs.Journals.{Journals, HasReceived, IsHonestFamily}
use Rattle.pbft_progress.specs.Progress.{EachEnds}
use Rattle.pbft_model.proofs.Calm.{find_append, find_filter}
use Rattle.pbft_model.proofs.Events.{now, before}
use Rattle.pbft_model.proofs.Holdings.{from_find, held_taken}
use Rattle.pbft_progress.proofs.Telling.{Proposes, proposes_due}
use Rattle.pbft_progress.proofs.Lives.{TakenAt}
use Rattle.pbft_answers.proofs.Kin.{family, told}
use Rattle.pbft_answers.proofs.Speaking.{Spoken, spoken}
use Rattle.pbft_answers.proofs.Deciding.{Asked}

-- ---- a request of this digest is held

abbrev pub IsHeld : Setup → List ℕ → Core → Type 0
IsHeld c digest s = is_some (held_with c s.held digest) ≡ true

pub held_known : (c : Setup) (s : Core) (digest : List ℕ) → IsHeld c digest s → is_known c s digest ≡ true
held_known c s digest e = or_right (bytes_eq digest (null_digest c)) (is_some (held_with c s.held digest)) e

find_last : {X : Type 0} (p : X → Bool) (xs : List X) (x : X) → p x ≡ true → is_some (find p (xs ++ x ∷ [])) ≡ true
find_last {X} p [] x e = subst (λ (b : Bool). is_some (cond b (Some x) (find p [])) ≡ true) (sym e) refl
find_last {X} p (y ∷ xs) x e = cases (p y) (find_last p xs x e) where
  cases : (b : Bool) → is_some (find p (xs ++ x ∷ [])) ≡ true → is_some (cond b (Some y) (find p (xs ++ x ∷ []))) ≡ true
  cases true rest = refl
  cases false rest = rest

added_held : (c : Setup) (m : Signed RequestBody) (held : List (Signed RequestBody)) → is_some (held_with c (add_request c m held) (digest_of c m)) ≡ true
added_held c m held = cases (is_some (held_with c held (digest_of c m))) refl where
  cases : (b : Bool) → is_some (held_with c held (digest_of c m)) ≡ b → is_some (held_with c (cond b held (held ++ m ∷ [])) (digest_of c m)) ≡ true
  cases true e = e
  cases false e = find_last (is_named c (digest_of c m)) held m ((bytes_eq-Decides (digest_of c m) (digest_of c m)).1 refl)

added_stays : (c : Setup) (m : Signed RequestBody) (held : List (Signed RequestBody)) (digest : List ℕ) → is_some (held_with c held digest) ≡ true → is_some (held_with c (add_request c m held) digest) ≡ true
added_stays c m held digest e = cases (is_some (held_with c held (digest_of c m))) where
  cases : (b : Bool) → is_some (held_with c (cond b held (held ++ m ∷ [])) digest) ≡ true
  cases true = e
  cases false = find_append (is_named c digest) held (m ∷ []) e

pub take_held : (c : Setup) (s : Core) (m : Signed RequestBody) (r : Option Service) → IsHeld c (digest_of c m) (after c s (Take (as_message bodies.Request m) r))
take_held c s m r = added_held c m s.held

-- what is discarded is not new
abbrev pub StaysNew : Setup → List ℕ → Core → Act → Type 0
StaysNew c digest s (Rise n d) = (m : Signed RequestBody) → IsIn m s.held → digest_of c m ≡ digest → is_new s.service m ≡ true
StaysNew c digest s (Install n b t) = (m : Signed RequestBody) → IsIn m s.held → digest_of c m ≡ digest → is_new t m ≡ true
StaysNew c digest s _ = Unit {0}

find_kept : {X : Type 0} (p q : X → Bool) (xs : List X) → ((x : X) → IsIn x xs → p x ≡ true → q x ≡ true) → is_some (find p xs) ≡ true → is_some (find p (filter q xs)) ≡ true
find_kept p q [] h e = absurd (false≢true e)
find_kept {X} p q (x ∷ xs) h e = cases (p x) (q x) refl refl e (find_kept p q xs (λ y is. h y (inr is))) where
  first : (b : Bool) → b ≡ true → (ys : List X) → is_some (cond b (Some x) (find p ys)) ≡ true
  first true e ys = refl
  first false e ys = absurd (false≢true e)

  past : (b : Bool) (ys : List X) → is_some (find p ys) ≡ true → is_some (cond b (Some x) (find p ys)) ≡ true
  past true ys e = refl
  past false ys e = e

  cases : (a b : Bool) → p x ≡ a → q x ≡ b → is_some (cond a (Some x) (find p xs)) ≡ true → (is_some (find p xs) ≡ true → is_some (find p (filter q xs)) ≡ true) → is_some (find p (cond b (x ∷ filter q xs) (filter q xs))) ≡ true
  cases true true s t e rest = first (p x) s (filter q xs)
  cases true false s t e rest = absurd (false≢true (sym t ∙ h x (inl refl) s))
  cases false true s t e rest = past (p x) (filter q xs) (rest e)
  cases false false s t e rest = rest e

discard_held : (c : Setup) (service : Service) (ms : List (Signed PrePrepare)) (held : List (Signed RequestBody)) (digest : List ℕ)
    → ((m : Signed RequestBody) → IsIn m held → digest_of c m ≡ digest → is_new service m ≡ true) → is_some (held_with c held digest) ≡ true → is_some (held_with c (still_held c service ms held) digest) ≡ true
discard_held c service ms held digest h e =
    find_kept (is_named c digest) (λ m. is_new service m || names ms (digest_of c m)) held
    (λ m is t. or_left (is_new service m) (names ms (digest_of c m)) (h m is ((bytes_eq-Decides (digest_of c m) digest).0 t))) e

left_held : (c : Setup) (s : Core) (view : ℕ) → (left_if_above c s view).held ≡ s.held
left_held c s view = cases (nat_lt s.view view) where
  cases : (b : Bool) → (cond b (left_for c s view) s).held ≡ s.held
  cases true = refl
  cases false = refl

held_recorded : (c : Setup) (digest : List ℕ) (s : Core) (m : Signed Body) (b : Body) → IsHeld c digest s → IsHeld c digest (recorded c s m b)
held_recorded c digest s m (bodies.Request b) h = added_stays c (with_body m b) s.held digest h
held_recorded c digest s m _ h = h

held_said : (c : Setup) (digest : List ℕ) (s : Core) (m : Signed Body) (b : Body) → IsHeld c digest s → IsHeld c digest (said c s m b)
held_said c digest s m (bodies.NewView b) h = subst (λ (ms : List (Signed RequestBody)). is_some (held_with c ms digest) ≡ true) (sym (left_held c s b.view.0)) h
held_said c digest s m (bodies.Fetch (fetches.Request d)) h = h
held_said c digest s m (bodies.Fetch (fetches.State n)) h = h
held_said c digest s m _ h = h

pub held_after : (c : Setup) (digest : List ℕ) (s : Core) (a : Act) → StaysNew c digest s a → IsHeld c digest s → IsHeld c digest (after c s a)
held_after c digest s (Take m r) new h = held_recorded c digest s m m.body h
held_after c digest s (Send to m) new h = held_said c digest s m m.body h
held_after c digest s (Enter m) new h = subst (λ (ms : List (Signed RequestBody)). is_some (held_with c ms digest) ≡ true) (sym (left_held c s m.body.view.0)) h
held_after c digest s (Rise n d) new h = discard_held c s.service (entries_in (keep (is_above n) s.pre_prepares)) s.held digest new h
held_after c digest s (Install n b t) new h = discard_held c t (entries_in (keep (is_above n) s.pre_prepares)) s.held digest new h
held_after c digest s _ new h = h

module _ (c : Setup) (signer : SigningState) (digest : List ℕ) where
  -- It is held from one point of a history on, if nothing of it that is new is discarded.
  pub held_on : (x acts : List Act) → IsEarlier x acts → ((a : Act) (early : List Act) → IsEarlier (a ∷ early) acts → StaysNew c digest (core_after c signer early) a) → IsHeld c digest (core_after c signer x) → IsHeld c digest (core_after c signer acts)
  held_on x [] at new h = subst (λ (w : List Act). IsHeld c digest (core_after c signer w)) at h
  held_on x (a ∷ acts) (inl same) new h = subst (λ (w : List Act). IsHeld c digest (core_after c signer w)) same h
  held_on x (a ∷ acts) (inr at) new h = held_after c digest (core_after c signer acts) a (new a acts (inl refl)) (held_on x acts at (λ b early e. new b early (inr e)) h)

-- ---- the request of a proposal

module _ (c : Setup) (j : Journals) (h : IsHonestFamily c j) (first : EachEnds c j (λ i s. s.view ≡ 0)) (leader : IsCorrect c j.faulty (primary c.config 0)) where
  -- What the primary proposed it received, and found at this point as the first that was new and not proposed.
  pub record Behind (x : Fields) : Type 0 where
    pub request : Signed RequestBody
    pub digest_is : x.digest ≡ digest_of c request
    pub received : HasReceived (as_message bodies.Request request) (j.rows (primary c.config 0))

  pub behind : (x : Fields) → Asked c j h first leader x → Behind x
  behind x asked =
      let me = primary c.config 0 in
      let e = told c j h me leader in
      let acts = (family c j h).acts me in
      let w = spoken c j h first me leader asked.part (e.signs asked.part asked.given) in
      let s = core_after c (j.signer me) w.early in
      let due = proposes_due c me s w.to w.message (e.does (Send w.to w.message ∷ w.early) w.point tt) in
      let body : w.message.body ≡ bodies.PrePrepare asked.body = ap (λ (p : Part). p.body) (sym w.part_is) ∙ asked.body_is in
      let found = subst (Proposes c s) body due in
      let within = (from_find _ s.held found.0 found.1).0 in
      let taken = held_taken c me (j.signer me) acts e.is w.early (before (Send w.to w.message) w.early acts w.point) found.0 within in
      record {
        request = found.0;
        digest_is = ap (λ (y : Fields). y.digest) (sym asked.fields) ∙ ap (λ (b : PrePrepare). b.digest.0) found.2;
        received = e.received (as_message bodies.Request found.0) taken;
      }

  -- What was received is known at the end, if nothing of it that is new was discarded.
  pub known_last : (i : ℕ) → IsCorrect c j.faulty i → (m : Signed RequestBody) → HasReceived (as_message bodies.Request m) (j.rows i)
      → ((a : Act) (early : List Act) → IsEarlier (a ∷ early) ((family c j h).acts i) → StaysNew c (digest_of c m) (core_after c (j.signer i) early) a)
      → is_known c (core_after c (j.signer i) ((family c j h).acts i)) (digest_of c m) ≡ true
  known_last i correct m received new =
      let acts = (family c j h).acts i in
      let w = (told c j h i correct).takes (as_message bodies.Request m) received in
      held_known c (core_after c (j.signer i) acts) (digest_of c m)
      (held_on c (j.signer i) (digest_of c m) (Take (as_message bodies.Request m) w.reading ∷ w.early) acts w.point new (take_held c (core_after c (j.signer i) w.early) m w.reading))
