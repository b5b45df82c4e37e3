-- Agreement by number: one list of requests accounts for all that correct replicas did.
use Rattle.std.proofs.Common.{◌≡◌, ◌⊎◌, ℕ, zero, suc, ◌+◌, ◌-◌, ◌<◌, ◌≤◌, Bool, true, false, cond, List, [], ◌∷◌, ◌++◌, length, map, take, Option, Some, None, refl, sym, ap, subst, ◌∙◌, arith, inl, inr}
use Rattle.std.specs.Prelude.{IfSome, eqb, bytes_eq, is_some, slice_get, ◌||◌}
use Rattle.std.specs.List.{AllByRecursion}
use Rattle.std.specs.Option.{option_map}
use Rattle.std.proofs.lemmas.Bool.{true≢false, false≢true, and_parts, cases_lt, eqb-true, leb-true}
use Rattle.std.proofs.lemmas.Slice.Eq.{bytes_eq-Decides}
use Rattle.service_model.specs.Bounded.{IsBounded, IsBoundedReply}
use Rattle.service_model.proofs.Injective.{same_state, last_bounded}
use Rattle.service_model.proofs.Bounds.{own_reply, reply_is_last}
use Rattle.service_model.proofs.Determined.{follows_more}
use Rattle.pbft_model.specs.Words.{Signed, Body, RequestBody, ReplyBody, Checkpoint, Request, Reply, IsAuthentic, as_message, signed_text}
use Rattle.pbft_codec.specs.declared.body.Body.TheVariants as bodies
use Rattle.pbft_model.specs.Sequential.{Service, Outcome, IsStep, Serves, genesis_of, encoded, last_reply_of}
use Rattle.pbft_model.specs.Setup.{Setup, replicas, quorum, count, null_digest, digest_of, request_in}
use Rattle.pbft_model.specs.Tables.{at, checkpoint_key}
use Rattle.pbft_model.specs.Certificates.{Fields, of_commit, voted, is_checkpoint_of, checkpointed, is_stable, has_quorum, is_by, some_by}
use Rattle.pbft_model.specs.Core.{Core, held_with, is_named, is_known, is_prepared, is_certified, request_of}
use Rattle.pbft_model.specs.Acts.{Act, Destination, Send, Execute, Install}
use Rattle.pbft_model.specs.Rules.{MayExecute, MaySay, reply_in}
use Rattle.pbft_model.specs.Histories.{IsEarlier, IsIn, HasTaken, IsHistory}
use Rattle.pbft_model.specs.Families.{Family, IsCorrect, IsUnforged, HasExecuted}
use Rattle.pbft_agreement.specs.Agreement.{IsHonest, IsTaken, entry_digest, IsAsked, requests_in, reached_by, greatest_reached, HoldsState, IsServed, IsLastReplyAt, AgreesByNumber}
use Rattle.pbft_model.proofs.Counting.{quorum_has}
use Rattle.pbft_model.proofs.Stages.{by_is}
use Rattle.pbft_model.proofs.Found.{no_some}
use Rattle.pbft_model.proofs.Real.{real_core}
use Rattle.pbft_model.proofs.Events.{now, before, history_at, holds_on}
use Rattle.pbft_model.proofs.Voices.{core_at, Said, checkpoint_said}
use Rattle.pbft_model.proofs.ByView.{signed_real}
use Rattle.pbft_model.proofs.Executing.{executes_alike}
use Rattle.pbft_model.proofs.Origins.{Origin, origin_at, origin_later, executed_up}
use Rattle.pbft_model.proofs.Holdings.{from_find, taken_opened, held_taken, just_taken}
use Rattle.pbft_agreement.proofs.Texts.{same_request_text}
use Rattle.pbft_model.proofs.Fitting.{IsInStep, in_step_at, held_opened}

-- ---- lists that a function lists

abbrev pub listed : {X : Type 0} → (ℕ → X) → ℕ → List X
listed f zero = []
listed f (suc n) = listed f n ++ f n ∷ []

length_behind : {X : Type 0} (xs : List X) (x : X) → length (xs ++ x ∷ []) ≡ suc (length xs)
length_behind [] x = refl
length_behind (y ∷ xs) x = ap suc (length_behind xs x)

pub length_listed : {X : Type 0} (f : ℕ → X) (n : ℕ) → length (listed f n) ≡ n
length_listed f zero = refl
length_listed f (suc n) = length_behind (listed f n) (f n) ∙ ap suc (length_listed f n)

take_all : {X : Type 0} (xs : List X) (n : ℕ) → length xs ≤ n → take n xs ≡ xs
take_all [] zero h = refl
take_all [] (suc n) h = refl
take_all (x ∷ xs) zero h = absurd (omega (arith, h))
take_all (x ∷ xs) (suc n) h = ap (λ (ys : List _). x ∷ ys) (take_all xs n (omega (arith, h)))

take_behind : {X : Type 0} (xs : List X) (x : X) (n : ℕ) → n ≤ length xs → take n (xs ++ x ∷ []) ≡ take n xs
take_behind [] x zero h = refl
take_behind [] x (suc n) h = absurd (omega (arith, h))
take_behind (y ∷ xs) x zero h = refl
take_behind (y ∷ xs) x (suc n) h = ap (λ (ys : List _). y ∷ ys) (take_behind xs x n (omega (arith, h)))

pub take_listed : {X : Type 0} (f : ℕ → X) (m n : ℕ) → n ≤ m → take n (listed f m) ≡ listed f n
take_listed f zero zero h = refl
take_listed f zero (suc n) h = absurd (omega (arith, h))
take_listed {X} f (suc m) n h = elim (cases_lt m n) [
  | inl above ↦
      let same : n ≡ suc m = omega (arith, above, h) in
      take_all (listed f (suc m)) n (let long : length (listed f (suc m)) ≡ suc m = length_listed f (suc m) in omega (arith, long, above)) ∙ ap (listed f) (sym same)
  | inr below ↦ take_behind (listed f m) (f m) n (let long : length (listed f m) ≡ m = length_listed f m in omega (arith, long, below)) ∙ take_listed f m n below
]

at_end : {X : Type 0} (xs : List X) (x : X) (n : ℕ) → n ≡ length xs → slice_get (xs ++ x ∷ []) n ≡ Some x
at_end [] x zero h = refl
at_end [] x (suc n) h = absurd (omega (arith, h))
at_end (y ∷ xs) x zero h = absurd (omega (arith, h))
at_end (y ∷ xs) x (suc n) h = at_end xs x n (omega (arith, h))

before_end : {X : Type 0} (xs : List X) (x : X) (n : ℕ) → n < length xs → slice_get (xs ++ x ∷ []) n ≡ slice_get xs n
before_end [] x n h = absurd (omega (arith, h))
before_end (y ∷ xs) x zero h = refl
before_end (y ∷ xs) x (suc n) h = before_end xs x n (omega (arith, h))

pub get_listed : {X : Type 0} (f : ℕ → X) (m n : ℕ) → n < m → slice_get (listed f m) n ≡ Some (f n)
get_listed f zero n h = absurd (omega (arith, h))
get_listed {X} f (suc m) n h = elim (cases_lt n m) [
  | inl below ↦ before_end (listed f m) (f m) n (let long : length (listed f m) ≡ m = length_listed f m in omega (arith, long, below)) ∙ get_listed f m n below
  | inr above ↦
      let same : m ≡ n = omega (arith, above, h) in
      at_end (listed f m) (f m) n (sym same ∙ sym (length_listed f m)) ∙ ap (λ (k : ℕ). Some (f k)) same
]

all_behind : {X : Type 0} (P : X → Type 0) (xs : List X) (x : X) → AllByRecursion P xs → P x → AllByRecursion P (xs ++ x ∷ [])
all_behind P [] x h p = (p, tt)
all_behind P (y ∷ xs) x h p = (h.0, all_behind P xs x h.1 p)

all_listed : {X : Type 0} (P : X → Type 0) (f : ℕ → X) (m : ℕ) → ((n : ℕ) → n < m → P (f n)) → AllByRecursion P (listed f m)
all_listed P f zero h = tt
all_listed P f (suc m) h = all_behind P (listed f m) (f m) (all_listed P f m (λ n lt. h n (omega (arith, lt)))) (h m (omega arith))

in_behind : {X : Type 0} (x : X) (xs : List X) (y : X) → IsIn x (xs ++ y ∷ []) → IsIn x xs ⊎ (x ≡ y)
in_behind x [] y (inl same) = inr same
in_behind x [] y (inr none) = absurd none
in_behind x (z ∷ xs) y (inl here) = inl (inl here)
in_behind x (z ∷ xs) y (inr later) = elim (in_behind x xs y later) [ inl first ↦ inl (inr first) | inr last ↦ inr last ]

in_listed : {X : Type 0} (x : X) (f : ℕ → X) (m : ℕ) → IsIn x (listed f m) → (n : ℕ) × (n < m) × (x ≡ f n)
in_listed x f zero at = absurd at
in_listed x f (suc m) at = elim (in_behind x (listed f m) (f m) at) [
  | inl first ↦ let w = in_listed x f m first in (w.0, omega (arith, w.1), w.2)
  | inr last ↦ (m, omega arith, last)
]

map_behind : {X Y : Type 0} (g : X → Y) (xs : List X) (x : X) → map g (xs ++ x ∷ []) ≡ map g xs ++ g x ∷ []
map_behind g [] x = refl
map_behind {X} {Y} g (y ∷ xs) x = ap (λ (ys : List Y). g y ∷ ys) (map_behind g xs x)

-- ---- what a digest stands for

-- the entry that a replica executes by a digest
abbrev pub entry_at : Setup → Core → List ℕ → Option (Signed RequestBody)
entry_at c s digest = cond (bytes_eq digest (null_digest c)) None (held_with c s.held digest)

request_is : (c : Setup) (s : Core) (digest : List ℕ) → request_of c s digest ≡ option_map request_in (entry_at c s digest)
request_is c s digest = split (bytes_eq digest (null_digest c)) where
  split : (b : Bool) → cond b None (option_map request_in (held_with c s.held digest)) ≡ option_map request_in (cond b None (held_with c s.held digest))
  split true = refl
  split false = refl

found_digest : (c : Setup) (s : Core) (digest : List ℕ) (m : Signed RequestBody) → held_with c s.held digest ≡ Some m → IsIn m s.held × (digest_of c m ≡ digest)
found_digest c s digest m e = let w = from_find (is_named c digest) s.held m e in (w.0, (bytes_eq-Decides (digest_of c m) digest).0 w.1)

digest_is_entry : (c : Setup) (s : Core) (digest : List ℕ) → is_known c s digest ≡ true → digest ≡ entry_digest c (entry_at c s digest)
digest_is_entry c s digest e = split (bytes_eq digest (null_digest c)) (held_with c s.held digest) refl refl e where
  split : (b : Bool) (o : Option (Signed RequestBody)) → bytes_eq digest (null_digest c) ≡ b → held_with c s.held digest ≡ o → (b || is_some o) ≡ true → digest ≡ entry_digest c (cond b None o)
  split true o null f known = (bytes_eq-Decides digest (null_digest c)).0 null
  split false None null f known = absurd (false≢true known)
  split false (Some m) null f known = sym ((found_digest c s digest m f).1)

module _ (c : Setup) (family : Family) (h : IsHonest c family) where
  u : IsUnforged c family
  u = h.unforged

  history : (i : ℕ) → IsCorrect c family.faulty i → (acts : List Act) → IsEarlier acts (family.acts i) → IsHistory c i (family.signer i) acts
  history i correct acts at = history_at c i (family.signer i) acts (family.acts i) at (u.histories i correct)

  fits : (i : ℕ) → IsCorrect c family.faulty i → (acts : List Act) → IsEarlier acts (family.acts i) → IsInStep c (core_at c family i acts)
  fits i correct acts at = in_step_at c i (family.signer i) h.configuration acts (history i correct acts at)

  -- ---- requests

  asked_of : (i : ℕ) → IsCorrect c family.faulty i → (m : Signed RequestBody) → HasTaken (as_message bodies.Request m) (family.acts i) → IsAuthentic c.config (as_message bodies.Request m)
  asked_of i correct m taken = (taken_opened c i (family.signer i) (as_message bodies.Request m) (family.acts i) (u.histories i correct) taken).authentic.0

  held_then : (i : ℕ) → IsCorrect c family.faulty i → (acts : List Act) → IsEarlier acts (family.acts i) → (m : Signed RequestBody) → IsIn m (core_at c family i acts).held
      → HasTaken (as_message bodies.Request m) (family.acts i)
  held_then i correct acts at m within = held_taken c i (family.signer i) (family.acts i) (u.histories i correct) acts at m within

  -- a digest stands for one request, whoever holds it
  one_request : (i j : ℕ) → (right : IsCorrect c family.faulty i) → (right' : IsCorrect c family.faulty j) → (acts acts' : List Act)
      → (at : IsEarlier acts (family.acts i)) → (at' : IsEarlier acts' (family.acts j)) → (digest : List ℕ)
      → is_known c (core_at c family i acts) digest ≡ true → is_known c (core_at c family j acts') digest ≡ true
      → option_map request_in (entry_at c (core_at c family i acts) digest) ≡ option_map request_in (entry_at c (core_at c family j acts') digest)
  one_request i j right right' acts acts' at at' digest known known' =
      split (bytes_eq digest (null_digest c)) (held_with c s.held digest) (held_with c t.held digest) refl refl known known' where
        s : Core
        s = core_at c family i acts

        t : Core
        t = core_at c family j acts'

        same : (m p : Signed RequestBody) → held_with c s.held digest ≡ Some m → held_with c t.held digest ≡ Some p → request_in m ≡ request_in p
        same m p e f =
            let a = found_digest c s digest m e in
            let b = found_digest c t digest p f in
            let texts = h.apart (signed_text (as_message bodies.Request m)) (signed_text (as_message bodies.Request p))
            (inr (inl (m, (i, right, held_then i right acts at m a.0), refl))) (inr (inl (p, (j, right', held_then j right' acts' at' p b.0), refl)))
            (a.1 ∙ sym b.1) in
            same_request_text c.config m p (held_opened c i (family.signer i) h.configuration acts (history i right acts at) m a.0)
            (held_opened c j (family.signer j) h.configuration acts' (history j right' acts' at') p b.0) texts

        split : (b : Bool) (o o' : Option (Signed RequestBody)) → held_with c s.held digest ≡ o → held_with c t.held digest ≡ o' → (b || is_some o) ≡ true → (b || is_some o') ≡ true
            → option_map request_in (cond b None o) ≡ option_map request_in (cond b None o')
        split true o o' e f k k' = refl
        split false None o' e f k k' = absurd (false≢true k)
        split false (Some m) None e f k k' = absurd (false≢true k')
        split false (Some m) (Some p) e f k k' = ap Some (same m p e f)

  -- ---- executions

  pub record Executor (number : ℕ) : Type 0 where
    pub replica : ℕ
    pub digest : List ℕ
    pub done : HasExecuted c family replica number digest

  -- the core before an execution
  abbrev pub core_before : (number : ℕ) → Executor number → Core
  core_before number w = core_at c family w.replica w.done.early

  point_before : (number : ℕ) (w : Executor number) → IsEarlier w.done.early (family.acts w.replica)
  point_before number w = before (Execute number w.digest w.done.service w.done.outcome) w.done.early (family.acts w.replica) w.done.point

  may : (number : ℕ) (w : Executor number) → MayExecute c (core_before number w) number w.digest w.done.service w.done.outcome
  may number w = (history w.replica w.done.correct (Execute number w.digest w.done.service w.done.outcome ∷ w.done.early) w.done.point).1

  known : (number : ℕ) (w : Executor number) → is_known c (core_before number w) w.digest ≡ true
  known number w =
      let s = core_before number w in
      let x : Fields = record { view = s.view; number = number; digest = w.digest } in
      let both = and_parts (is_prepared c s x) (has_quorum c.config (voted of_commit s.commits x)) ((may number w).committed) in
      (and_parts (is_certified c s x) (is_known c s w.digest) both.0).1

  abbrev Entry : Type 0
  Entry = Option (Signed RequestBody)

  abbrev entry_by : (number : ℕ) → Executor number → Entry
  entry_by number w = entry_at c (core_before number w) w.digest

  entry_asked : (number : ℕ) (w : Executor number) → IsAsked c (entry_by number w)
  entry_asked number w = split (bytes_eq w.digest (null_digest c)) (held_with c (core_before number w).held w.digest) refl where
    split : (b : Bool) (o : Option (Signed RequestBody)) → held_with c (core_before number w).held w.digest ≡ o → IsAsked c (cond b None o)
    split true o e = tt
    split false None e = tt
    split false (Some m) e =
        let a = found_digest c (core_before number w) w.digest m e in
        asked_of w.replica w.done.correct m (held_then w.replica w.done.correct w.done.early (point_before number w) m a.0)

  entry_taken : (number : ℕ) (w : Executor number) (m : Signed RequestBody) → entry_by number w ≡ Some m → IsTaken c family (as_message bodies.Request m)
  entry_taken number w m is = split (bytes_eq w.digest (null_digest c)) (held_with c (core_before number w).held w.digest) refl is where
    split : (b : Bool) (o : Option (Signed RequestBody)) → held_with c (core_before number w).held w.digest ≡ o → cond b None o ≡ Some m → IsTaken c family (as_message bodies.Request m)
    split true o e f = no_some m f
    split false o e f =
        let a = found_digest c (core_before number w) w.digest m (e ∙ f) in
        (w.replica, w.done.correct, held_then w.replica w.done.correct w.done.early (point_before number w) m a.0)

  -- ---- a stable number was executed by a correct replica, to the state whose digest it has

  checkpoint_at : (i : ℕ) (digest : List ℕ) (number : ℕ) (o : Option (Signed Checkpoint)) → some_by i (is_checkpoint_of number digest) o ≡ true
      → (m : Signed Checkpoint) × (o ≡ Some m) × (is_by i (is_checkpoint_of number digest) m ≡ true)
  checkpoint_at i digest number None e = absurd (false≢true e)
  checkpoint_at i digest number (Some m) e = (m, refl, e)

  pub record ExecutedTo (number : ℕ) (digest : List ℕ) : Type 0 where
    pub by : Executor number
    pub digest_is : c.hash (encoded by.done.service) ≡ digest

  executed_by : (j : ℕ) → IsCorrect c family.faulty j → (b : Checkpoint) (w : Said c family j (bodies.Checkpoint b)) → ExecutedTo b.number.0 b.digest.0
  executed_by j correct b w =
      let s = core_at c family j w.early in
      let says = w.says in
      let at : IsEarlier w.early (family.acts j) = before (Send w.to w.message) w.early (family.acts j) w.point in
      elim (origin_later c w.early (family.acts j) s at (origin_at c (family.signer j) w.early)) [
        | inl first ↦ absurd (true≢false (sym says.due ∙ first.checkpoint))
        | inr (inl done) ↦
            let same : done.number ≡ b.number.0 = sym done.number_is ∙ sym says.number_is in
            subst (λ (n : ℕ). ExecutedTo n b.digest.0) same (record {
              by = record {
                replica = j;
                digest = done.digest;
                done = record { correct = correct; service = done.service; outcome = done.outcome; early = done.early; point = done.point };
              };
              digest_is = ap (λ (t : Service). c.hash (encoded t)) (sym done.service_is) ∙ sym says.digest_is;
            })
        | inr (inr installed) ↦ absurd (true≢false (sym says.due ∙ installed.checkpoint))
      ]

  pub stable_is_executed : (i : ℕ) → IsCorrect c family.faulty i → (acts : List Act) → IsEarlier acts (family.acts i) → (number : ℕ) (digest : List ℕ)
      → is_stable c.config (core_at c family i acts).checkpoints number digest ≡ true → ExecutedTo number digest
  stable_is_executed i correct acts point number digest e =
      let s = core_at c family i acts in
      let voters : ℕ → Bool = checkpointed s.checkpoints number digest in
      let many = leb-true (quorum c.config) (count voters (replicas c.config)) e in
      let w = quorum_has c.config.f (replicas c.config) voters family.faulty many u.few in
      let right : IsCorrect c family.faulty w.0 = (w.1, w.3) in
      let m = checkpoint_at w.0 digest number (at s.checkpoints (checkpoint_key number w.0)) w.2 in
      let real = (real_core c family i correct u acts point).3 (checkpoint_key number w.0) m.0 m.1 in
      let signed = signed_real c family u bodies.Checkpoint w.0 (is_checkpoint_of number digest) m.0 m.2 real right in
      let by = by_is w.0 (is_checkpoint_of number digest) m.0 m.2 in
      let said = checkpoint_said c family (IsCorrect c family.faulty) u.histories w.0 m.0.body right signed in
      let w' = executed_by w.0 right m.0.body said in
      let parts = and_parts (eqb m.0.body.number.0 number) (bytes_eq m.0.body.digest.0 digest) by.2 in
      subst (λ (d : List ℕ). ExecutedTo number d) ((bytes_eq-Decides m.0.body.digest.0 digest).0 parts.1)
      (subst (λ (n : ℕ). ExecutedTo n m.0.body.digest.0) (eqb-true m.0.body.number.0 number parts.0) w')

  -- the bytes that are installed are those of a state that a correct replica executed to
  pub record Supplied (number : ℕ) (service : Service) : Type 0 where
    pub by : Executor number
    pub same : service ≡ by.done.service

  supplied : (i : ℕ) → IsCorrect c family.faulty i → (early : List Act) (number : ℕ) (bytes : List ℕ) (service : Service)
      → IsEarlier (Install number bytes service ∷ early) (family.acts i) → Supplied number service
  supplied i correct early number bytes service point =
      let at = before (Install number bytes service) early (family.acts i) point in
      let s = core_at c family i early in
      let ok = (history i correct (Install number bytes service ∷ early) point).1 in
      let w = stable_is_executed i correct early at number (c.hash bytes) ok.stable in
      let by = w.by in
      let done = fits by.replica by.done.correct (Execute number by.digest by.done.service by.done.outcome ∷ by.done.early) by.done.point in
      let taken = just_taken c i (family.signer i) (family.acts i) (u.histories i correct) early at (as_message bodies.Snapshot ok.message) ok.taken in
      let texts : encoded by.done.service ≡ bytes = h.apart (encoded by.done.service) bytes (inr (inr (inr (by.replica, number, by.digest, by.done, refl))))
      (inr (inr (inl (ok.message, (i, correct, taken), sym ok.bytes_are)))) w.digest_is in
      record {
        by = by;
        same = same_state service by.done.service ok.reads.sound.bounded done.sound.bounded ok.reads.sound.sound done.sound.sound
            (ok.reads.config_is ∙ sym done.config_is) (ok.reads.encodes ∙ sym texts);
      }

  -- ---- what was reached

  pub record Reached (number : ℕ) : Type 0 where
    pub replica : ℕ
    pub correct : IsCorrect c family.faulty replica
    pub acts : List Act
    pub point : IsEarlier acts (family.acts replica)
    pub number_is : (core_at c family replica acts).executed ≡ number

  origin : (i : ℕ) (acts : List Act) → IsEarlier acts (family.acts i) → Origin c (family.acts i) (core_at c family i acts)
  origin i acts at = origin_later c acts (family.acts i) (core_at c family i acts) at (origin_at c (family.signer i) acts)

  -- what was reached was executed by a correct replica
  executor_of : (n number : ℕ) → number ≡ suc n → Reached number → Executor number
  executor_of n number is w = elim (origin w.replica w.acts w.point) [
    | inl first ↦ absurd (let zero_is : (core_at c family w.replica w.acts).executed ≡ 0 = first.number in let same = w.number_is in omega arith)
    | inr (inl done) ↦ subst Executor (sym done.number_is ∙ w.number_is) (record {
      replica = w.replica;
      digest = done.digest;
      done = record { correct = w.correct; service = done.service; outcome = done.outcome; early = done.early; point = done.point };
    })
    | inr (inr from) ↦ subst Executor (sym from.number_is ∙ w.number_is) ((supplied w.replica w.correct from.early from.number from.bytes from.service from.point).by)
  ]

  -- and so was every number below it
  reached_before : (n : ℕ) → Executor (suc n) → Reached n
  reached_before n w = let next : suc n ≡ (core_before (suc n) w).executed + 1 = (may (suc n) w).next in
      record { replica = w.replica; correct = w.done.correct; acts = w.done.early; point = point_before (suc n) w; number_is = omega arith }

  reached_down : (d n number : ℕ) → number ≡ d + n → Reached number → Reached n
  reached_down zero n number is w = let same : number ≡ n = omega (arith, is) in subst Reached same w
  reached_down (suc d) n number is w =
      let more : number ≡ suc (d + n) = omega (arith, is) in
      reached_down d n (d + n) refl (reached_before (d + n) (executor_of (d + n) (suc (d + n)) refl (subst Reached more w)))

  -- ---- the greatest number reached

  abbrev greatest : ℕ
  greatest = greatest_reached c family (replicas c.config)

  below_greatest : (n i : ℕ) → i < n → family.faulty i ≡ false → (core_at c family i (family.acts i)).executed ≤ greatest_reached c family n
  below_greatest zero i lt right = absurd (omega (arith, lt))
  below_greatest (suc n) i lt right = elim (cases_lt i n) [
    | inl below ↦ let rest = below_greatest n i below right in let more : greatest_reached c family n ≤ greatest_reached c family (suc n) = omega arith in omega arith
    | inr above ↦
        let same : n ≡ i = omega (arith, lt, above) in
        let mine : reached_by c family i ≡ (core_at c family i (family.acts i)).executed = ap (λ (b : Bool). cond b 0 (core_at c family i (family.acts i)).executed) right in
        let at_n : reached_by c family n ≡ reached_by c family i = ap (reached_by c family) same in
        let most : reached_by c family n ≤ greatest_reached c family (suc n) = omega arith in omega arith
  ]

  reached_most : (n : ℕ) → n ≤ replicas c.config → (greatest_reached c family n ≡ 0) ⊎ Reached (greatest_reached c family n)
  reached_most zero le = inl refl
  reached_most (suc n) le = elim (reached_most n (omega (arith, le))) [
    | inl none ↦ mine none
    | inr w ↦ larger w
  ] where
    here : (b : Bool) → family.faulty n ≡ b → (reached_by c family n ≡ 0) ⊎ Reached (reached_by c family n)
    here true is = inl (ap (λ (b : Bool). cond b 0 (core_at c family n (family.acts n)).executed) is)
    here false is = inr (record {
      replica = n;
      correct = (omega (arith, le), is);
      acts = family.acts n;
      point = now (family.acts n);
      number_is = sym (ap (λ (b : Bool). cond b 0 (core_at c family n (family.acts n)).executed) is);
    })

    mine : greatest_reached c family n ≡ 0 → (greatest_reached c family (suc n) ≡ 0) ⊎ Reached (greatest_reached c family (suc n))
    mine none =
        let same : greatest_reached c family (suc n) ≡ reached_by c family n = omega arith in
        elim (here (family.faulty n) refl) [
          | inl zero_is ↦ inl (same ∙ zero_is)
          | inr w ↦ inr (subst Reached (sym same) w)
        ]

    larger : Reached (greatest_reached c family n) → (greatest_reached c family (suc n) ≡ 0) ⊎ Reached (greatest_reached c family (suc n))
    larger w = elim (cases_lt (greatest_reached c family n) (reached_by c family n)) [
      | inl more ↦
          let same : greatest_reached c family (suc n) ≡ reached_by c family n = omega arith in
          elim (here (family.faulty n) refl) [
            | inl zero_is ↦ absurd (omega (arith, more, zero_is))
            | inr v ↦ inr (subst Reached (sym same) v)
          ]
      | inr less ↦ let same : greatest_reached c family (suc n) ≡ greatest_reached c family n = omega arith in inr (subst Reached (sym same) w)
    ]

  pub executor : (n : ℕ) → n < greatest → Executor (suc n)
  executor n lt = elim (reached_most (replicas c.config) (omega arith)) [
    | inl none ↦ absurd (none_below greatest none lt)
    | inr w ↦ executor_of n (suc n) refl (reached_down (greatest - suc n) (suc n) greatest (rest_is greatest lt) w)
  ] where
    none_below : (m : ℕ) → m ≡ 0 → n < m → ⊥
    none_below m e h = omega (arith, e, h)

    rest_is : (m : ℕ) → n < m → m ≡ (m - suc n) + suc n
    rest_is m h = omega (arith, h)

  -- ---- the list

  abbrev Chosen : ℕ → Entry → Type 0
  Chosen n e = (w : Executor (suc n)) × (e ≡ entry_by (suc n) w)

  choose : (n : ℕ) → (e : Entry) × (n < greatest → Chosen n e)
  choose n = elim (cases_lt n greatest) [
    | inl below ↦ let w = executor n below in (entry_by (suc n) w, λ lt. (w, refl))
    | inr above ↦ (None, λ lt. absurd (omega (arith, lt, above)))
  ]

  abbrev entry : ℕ → Entry
  entry n = (choose n).0

  abbrev entries : List Entry
  entries = listed entry greatest

  reach_within : (i : ℕ) → IsCorrect c family.faulty i → (acts : List Act) → IsEarlier acts (family.acts i) → (core_at c family i acts).executed ≤ greatest
  reach_within i correct acts at =
      let last = below_greatest (replicas c.config) i correct.0 correct.1 in
      let up = holds_on c i (family.signer i) (λ s. (core_at c family i acts).executed ≤ s.executed)
      (λ s a low ok le. let more = executed_up c i s a ok in omega arith) acts (family.acts i) at (u.histories i correct) (omega arith) in
      chained (core_at c family i acts).executed (core_at c family i (family.acts i)).executed greatest up last where
        chained : (x y z : ℕ) → x ≤ y → y ≤ z → x ≤ z
        chained x y z h k = omega (arith, h, k)

  -- the request that is executed at a number is the entry's
  request_at : (n : ℕ) → n < greatest → (w : Executor (suc n)) → request_of c (core_before (suc n) w) w.digest ≡ option_map request_in (entry n)
  request_at n lt w =
      let chosen = (choose n).1 lt in
      let v = chosen.0 in
      let same : v.digest ≡ w.digest = executes_alike c family u v.replica w.replica (suc n) v.digest w.digest v.done w.done in
      let one = one_request w.replica v.replica w.done.correct v.done.correct w.done.early v.done.early (point_before (suc n) w) (point_before (suc n) v) w.digest (known (suc n) w)
      (subst (λ (d : List ℕ). is_known c (core_before (suc n) v) d ≡ true) same (known (suc n) v)) in
      request_is c (core_before (suc n) w) w.digest ∙ one
      ∙ ap (λ (d : List ℕ). option_map request_in (entry_at c (core_before (suc n) v) d)) (sym same) ∙ ap (option_map request_in) (sym chosen.1)

  abbrev StatesAt : ℕ → Type 0
  StatesAt n = (i : ℕ) → IsCorrect c family.faulty i → (acts : List Act) → IsEarlier acts (family.acts i) → (core_at c family i acts).executed ≡ n
      → (outcomes : List Outcome) × Serves c.config (requests_in (listed entry n)) (core_at c family i acts).service outcomes

  execution_serves : (n : ℕ) → StatesAt n → n < greatest → (w : Executor (suc n))
      → (earlier : List Outcome) × Serves c.config (requests_in (listed entry (suc n))) w.done.service (earlier ++ w.done.outcome ∷ [])
  execution_serves n states lt w =
      let s = core_before (suc n) w in
      let ok = may (suc n) w in
      let next : suc n ≡ s.executed + 1 = ok.next in
      let before_it = states w.replica w.done.correct w.done.early (point_before (suc n) w) (omega arith) in
      let step : IsStep s.service (option_map request_in (entry n)) w.done.service w.done.outcome = subst (λ (r : Option Request). IsStep s.service r w.done.service w.done.outcome) (request_at n lt w) ok.step in (
        before_it.0,
        subst (λ (rs : List (Option Request)). Serves c.config rs w.done.service (before_it.0 ++ w.done.outcome ∷ [])) (sym (map_behind (option_map request_in) (listed entry n) (entry n)))
            (follows_more (genesis_of c.config) (requests_in (listed entry n)) s.service before_it.0 (option_map request_in (entry n)) w.done.service w.done.outcome before_it.1 step),
      )

  serves_any : (n number : ℕ) → suc n ≡ number → StatesAt n → n < greatest → (w : Executor number)
      → (earlier : List Outcome) × Serves c.config (requests_in (listed entry (suc n))) w.done.service (earlier ++ w.done.outcome ∷ [])
  serves_any n number is =
      subst (λ (k : ℕ). StatesAt n → n < greatest → (w : Executor k) → (earlier : List Outcome) × Serves c.config (requests_in (listed entry (suc n))) w.done.service (earlier ++ w.done.outcome ∷ [])) is
      (execution_serves n)

  -- executions at one number have one digest
  alike : (n number : ℕ) → suc n ≡ number → (w : Executor number) (v : Executor (suc n)) → v.digest ≡ w.digest
  alike n number is = subst (λ (k : ℕ). (w : Executor k) (v : Executor (suc n)) → v.digest ≡ w.digest) is
      (λ w v. executes_alike c family u v.replica w.replica (suc n) v.digest w.digest v.done w.done)

  states_at : (n : ℕ) → StatesAt n
  states_at zero i correct acts at is = elim (origin i acts at) [
    | inl first ↦ ([], (first.service, refl))
    | inr (inl done) ↦
        let w : Executor done.number = record { replica = i; digest = done.digest; done = record { correct = correct; service = done.service; outcome = done.outcome; early = done.early; point = done.point } } in
        let next : done.number ≡ (core_before done.number w).executed + 1 = (may done.number w).next in
        let same : (core_at c family i acts).executed ≡ done.number = done.number_is in absurd (omega arith)
    | inr (inr from) ↦
        let above : (core_at c family i from.early).executed < from.number = ((history i correct (Install from.number from.bytes from.service ∷ from.early) from.point).1).above in
        let same : (core_at c family i acts).executed ≡ from.number = from.number_is in absurd (omega arith)
  ]
  states_at (suc n) i correct acts at is = elim (origin i acts at) [
    | inl first ↦ absurd (let none : (core_at c family i acts).executed ≡ 0 = first.number in omega arith)
    | inr (inl done) ↦
        let w : Executor done.number = record { replica = i; digest = done.digest; done = record { correct = correct; service = done.service; outcome = done.outcome; early = done.early; point = done.point } } in
        let r = serves_any n done.number (sym is ∙ done.number_is) (states_at n) (below i correct acts at is) w in
        (r.0 ++ done.outcome ∷ [], subst (λ (t : Service). Serves c.config (requests_in (listed entry (suc n))) t (r.0 ++ done.outcome ∷ [])) (sym done.service_is) r.1)
    | inr (inr from) ↦
        let v = supplied i correct from.early from.number from.bytes from.service from.point in
        let r = serves_any n from.number (sym is ∙ from.number_is) (states_at n) (below i correct acts at is) v.by in
        (r.0 ++ v.by.done.outcome ∷ [], subst (λ (t : Service). Serves c.config (requests_in (listed entry (suc n))) t (r.0 ++ v.by.done.outcome ∷ [])) (sym (from.service_is ∙ v.same)) r.1)
  ] where
    below : (i : ℕ) → IsCorrect c family.faulty i → (acts : List Act) → IsEarlier acts (family.acts i) → (core_at c family i acts).executed ≡ suc n → n < greatest
    below i correct acts at is = let le = reach_within i correct acts at in omega arith

  -- ---- what the list accounts for

  holds_state : (i : ℕ) → IsCorrect c family.faulty i → (acts : List Act) → IsEarlier acts (family.acts i) → HoldsState c entries (core_at c family i acts)
  holds_state i correct acts at =
      let s = core_at c family i acts in
      let le = reach_within i correct acts at in
      let w = states_at s.executed i correct acts at refl in
      record {
        within = subst (λ (n : ℕ). s.executed ≤ n) (sym (length_listed entry greatest)) le;
        outcomes = w.0;
        serves = subst (λ (es : List Entry). Serves c.config (requests_in es) s.service w.0) (sym (take_listed entry greatest s.executed le)) w.1;
      }

  is_served : (i number : ℕ) (digest : List ℕ) (w : HasExecuted c family i number digest) → IsServed c entries number digest w.service w.outcome
  is_served i number digest w =
      let by : Executor number = record { replica = i; digest = digest; done = w } in
      let next : number ≡ (core_before number by).executed + 1 = (may number by).next in
      let n = (core_before number by).executed in
      let is : suc n ≡ number = omega arith in
      let within = reach_within i w.correct (Execute number digest w.service w.outcome ∷ w.early) w.point in
      let lt : n < greatest = omega arith in
      let r = serves_any n number is (states_at n) lt by in
      let chosen = (choose n).1 lt in
      let v = chosen.0 in
      let same : v.digest ≡ digest = alike n number is by v in
      record {
        not_zero = omega arith;
        entry = entry n;
        is_entry = ap (slice_get entries) (omega arith) ∙ get_listed entry greatest n lt;
        digest_is = sym same ∙ digest_is_entry c (core_before (suc n) v) v.digest (known (suc n) v) ∙ ap (entry_digest c) (sym chosen.1);
        earlier = r.0;
        serves = subst (λ (es : List Entry). Serves c.config (requests_in es) w.service (r.0 ++ w.outcome ∷ [])) (ap (listed entry) is ∙ sym (take_listed entry greatest number within)) r.1;
      }

  is_last_reply : (i : ℕ) (b : ReplyBody) (early : List Act) → IsCorrect c family.faulty i → IsEarlier early (family.acts i) → last_reply_of (core_at c family i early).service b.client.0 ≡ Some (reply_in b)
      → IsLastReplyAt c entries (core_at c family i early).executed b
  is_last_reply i b early correct at e =
      let s = core_at c family i early in
      let fit = fits i correct early at in
      let bounds : IsBoundedReply s.service.number b.client.0 (reply_in b) = subst (λ (o : Option Reply). IfSome o (IsBoundedReply s.service.number b.client.0)) e (last_bounded s.service fit.sound.bounded b.client.0) in
      let one : 1 ≤ b.number.0 = bounds.not_null in
      let most : b.number.0 ≤ s.service.number = bounds.not_later in
      let number : s.service.number ≡ s.executed = fit.number_is in
      let held = holds_state i correct early at in
      record { not_zero = omega arith; within = held.within; state = s.service; outcomes = held.outcomes; serves = held.serves; kept = e }

  -- the reply that an execution gave is its client's last
  answered : (s : Service) (request : Option Request) (t : Service) (o : Outcome) (reply : Reply) → IsStep s request t o → IsBounded t → o.reply ≡ Some reply
      → last_reply_of t reply.client.0 ≡ Some reply
  answered s None t o reply step bounded e = no_some reply (sym (ap (λ (x : Outcome). x.reply) step.1) ∙ e)
  answered s (Some request) t o reply step bounded e =
      let last = reply_is_last s request t o reply step e in
      let own = own_reply t bounded request.client.0 reply last in
      ap (last_reply_of t) own ∙ last

  due_is_last : (i : ℕ) → IsCorrect c family.faulty i → (early : List Act) → IsEarlier early (family.acts i) → (reply : Reply) → (core_at c family i early).reply_due ≡ Some reply
      → last_reply_of (core_at c family i early).service reply.client.0 ≡ Some reply
  due_is_last i correct early at reply e = elim (origin i early at) [
    | inl first ↦ no_some reply (sym first.reply ∙ e)
    | inr (inl done) ↦ elim done.reply [
      | inl none ↦ no_some reply (sym none ∙ e)
      | inr is ↦
          let ok = (history i correct (Execute done.number done.digest done.service done.outcome ∷ done.early) done.point).1 in
          let fit = fits i correct (Execute done.number done.digest done.service done.outcome ∷ done.early) done.point in
          ap (λ (t : Service). last_reply_of t reply.client.0) done.service_is
          ∙ answered (core_at c family i done.early).service (request_of c (core_at c family i done.early) done.digest) done.service done.outcome reply ok.step fit.sound.bounded (sym is ∙ e)
    ]
    | inr (inr from) ↦ no_some reply (sym from.reply ∙ e)
  ]

  sent_reply_is_last : (i : ℕ) (to : Destination) (m : Signed Body) (b : ReplyBody) (early : List Act) → IsCorrect c family.faulty i → IsEarlier (Send to m ∷ early) (family.acts i) → m.body ≡ bodies.Reply b
      → IsLastReplyAt c entries (core_at c family i early).executed b
  sent_reply_is_last i to m b early correct point e =
      let s = core_at c family i early in
      let at = before (Send to m) early (family.acts i) point in
      let says : MaySay c i s (bodies.Reply b) = subst (λ (x : Body). MaySay c i s x) e ((history i correct (Send to m ∷ early) point).1.says) in
      elim says.answers [
        | inl due ↦ is_last_reply i b early correct at (due_is_last i correct early at (reply_in b) due)
        | inr last ↦
            let own = own_reply s.service (fits i correct early at).sound.bounded last.0 (reply_in b) last.1 in
            is_last_reply i b early correct at (ap (last_reply_of s.service) own ∙ last.1)
      ]

  pub agrees : AgreesByNumber c family
  agrees = (
    entries,
    record {
      as_long = length_listed entry greatest;
      asked = all_listed (IsAsked c) entry greatest (λ n lt. let chosen = (choose n).1 lt in subst (IsAsked c) (sym chosen.1) (entry_asked (suc n) chosen.0));
      taken = λ m at.
          let w = in_listed (Some m) entry greatest at in
          let chosen = (choose w.0).1 w.1 in
          entry_taken (suc w.0) chosen.0 m (sym chosen.1 ∙ sym w.2);
      states = holds_state;
      executed = is_served;
      replies = sent_reply_is_last;
    },
  )
