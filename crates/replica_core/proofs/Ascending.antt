-- What a replica shows of its low mark and of what it prepared has short lists, signers ascending.
use Rattle.std.proofs.Common.{◌≡◌, ℕ, zero, suc, ◌+◌, ◌*◌, ◌<◌, ◌≤◌, arith, Bool, true, false, ◌&&◌, ◌||◌, cond, List, [], ◌∷◌, length, Option, Some, None, refl, sym, ap, subst, ◌∙◌, inl, inr}
use Rattle.std.specs.Prelude.{nat_lt, nat_le, not, ◌==◌}
use Rattle.std.specs.List.{AllByRecursion, filter_map, cons_option, list_all}
use Rattle.std.specs.Ordering.{nat_cmp}
use Rattle.std.specs.declared.cmp.Ordering.{Ordering}
use Rattle.std.specs.declared.cmp.Ordering.TheVariants.{Less, Equal, Greater}
use Rattle.std.specs.Cmp.Lexicographic.{slice_cmp}
use Rattle.std.specs.FinMap.Entries.{by_order}
use Rattle.std.proofs.lemmas.Bool.{false≢true, and_parts, or_cases, eqb-true, leb-true}
use Rattle.std.proofs.lemmas.Option.{same_Some}
use Rattle.host_types.specs.Configuration.{Configuration, IsConfiguration}
use Rattle.pbft_codec.specs.declared.body.Body.TheVariants as bodies
use Rattle.pbft_codec.specs.declared.body.fetch.Fetch.TheVariants as fetches
use Rattle.pbft_codec.specs.Limits.{AscendFrom}
use Rattle.pbft_model.specs.Words.{Body, Certificate, NewView, PrePrepare, Signed, SigningState}
use Rattle.pbft_model.specs.Setup.{Setup, count, gathered, is_least, number_limit, numbers_from, primary, quorum, replicas, span, setup_of}
use Rattle.pbft_model.specs.Tables.{Key, Table, at, checkpoint_key, entries_in, is_above, keep, number_key, vote_key, with_entry}
use Rattle.pbft_model.specs.Certificates.{Fields, certified, checkpointed, is_certificate, is_checkpoint_of, of_pre_prepare, of_prepare, same_fields, some_by, voted, voted_among}
use Rattle.pbft_model.specs.Validity.{ascend_within, has_certificates, has_order, has_proof, has_view, is_proof}
use Rattle.pbft_model.specs.Core.{Core, certificate_of, inside, is_matching, kept_on_leaving, prepared_at, proof_of, with_certificate, with_certificates}
use Rattle.pbft_model.specs.Acts.{Act, Enter, Execute, Install, Relay, Rise, Send, Take, Timeout, after, entered, left_for, opened_by, recorded, said, with_list}
use Rattle.pbft_model.specs.Rules.{view_change_of}
use Rattle.pbft_model.specs.Histories.{core_after}
use Rattle.pbft_model.proofs.Stages.{by_is}
use Rattle.pbft_model.proofs.Made.{view_change_made}
use Rattle.pbft_model.proofs.Sound.{IsSoundCore, sound_at}
use Rattle.replica_stores.specs.Sealable.{HasShortList, HasShortLists}
use Rattle.replica_core.specs.Replicas.{AreOne, KeptReplica, Parts, kept_in}
use Rattle.replica_core.specs.Settling.{IsReached}

-- ---- what is gathered of signers in order

lower : {B : Type 0} (a b : ℕ) (ms : List (Signed B)) → a ≤ b → AscendFrom b ms → AscendFrom a ms
lower a b [] le h = tt
lower a b (m ∷ ms) le h =
    let first = h.0 in
    (omega arith, h.1)

filtered_ascends : {B : Type 0} (g : ℕ → Option (Signed B)) (many first : ℕ) → ((i : ℕ) (m : Signed B) → g i ≡ Some m → m.id ≡ i) → AscendFrom first (filter_map g (numbers_from first many))
filtered_ascends g zero first h = tt
filtered_ascends {B} g (suc many) first h = cases (g first) refl (filtered_ascends g many (first + 1) h) where
  cases : (o : Option (Signed B)) → g first ≡ o → AscendFrom (first + 1) (filter_map g (numbers_from (first + 1) many)) → AscendFrom first (cons_option o (filter_map g (numbers_from (first + 1) many)))
  cases None e rest = lower first (first + 1) (filter_map g (numbers_from (first + 1) many)) (omega arith) rest
  cases (Some m) e rest =
      let id = h first m e in
      (omega arith, subst (λ (n : ℕ). AscendFrom (n + 1) (filter_map g (numbers_from (first + 1) many))) (sym id) rest)

taken_if : {X : Type 0} (b : Bool) (o : Option X) (x : X) → cond b o None ≡ Some x → (b ≡ true) × (o ≡ Some x)
taken_if true o x e = (refl, e)
taken_if false o x e = absurd cc

pub gathered_ascends : {B : Type 0} (test : ℕ → Bool) (value : ℕ → Option (Signed B)) (n : ℕ) → ((i : ℕ) (m : Signed B) → test i ≡ true → value i ≡ Some m → m.id ≡ i) → AscendFrom 0 (gathered test value n)
gathered_ascends test value n h =
    filtered_ascends (λ i. cond (test i) (value i) None) n 0 (λ i m e. let w = taken_if (test i) (value i) m e in h i m w.0 w.1)

-- a message found of a signer is that signer's
pub some_id : {B : Type 0} (i : ℕ) (test : B → Bool) (o : Option (Signed B)) (m : Signed B) → some_by i test o ≡ true → o ≡ Some m → m.id ≡ i
some_id i test None m t e = absurd (false≢true t)
some_id {B} i test (Some p) m t e = ap (λ (x : Signed B). x.id) (sym (same_Some p m e)) ∙ (by_is i test p t).1

certificate_ascends : (c : Setup) (s : Core) (m : Signed PrePrepare) → AscendFrom 0 (certificate_of c s m).prepares
certificate_ascends c s m =
    let x : Fields = of_pre_prepare m.body in
    gathered_ascends (is_least (2 * c.config.f) (is_matching c s x)) (λ i. at s.prepares (vote_key m.body.number.0 m.body.view.0 i)) (replicas c.config) (λ i p t e.
    let least = and_parts (is_matching c s x i) (nat_lt (count (is_matching c s x) i) (2 * c.config.f)) t in
    let matching = and_parts (not (i == primary c.config x.view)) (voted of_prepare s.prepares x i) least.0 in
    some_id i (λ b. same_fields (of_prepare b) x) (at s.prepares (vote_key x.number x.view i)) p matching.1 e)

proof_ascends : (c : Setup) (s : Core) (number : ℕ) (digest : List ℕ) → AscendFrom 0 (proof_of c s number digest)
proof_ascends c s number digest =
    let test = checkpointed s.checkpoints number digest in
    gathered_ascends (is_least (quorum c.config) test) (λ i. at s.checkpoints (checkpoint_key number i)) (replicas c.config) (λ i m t e.
    let least = and_parts (test i) (nat_lt (count test i) (quorum c.config)) t in
    some_id i (is_checkpoint_of number digest) (at s.checkpoints (checkpoint_key number i)) m least.0 e)

-- ---- the values of a table

abbrev Values : {X : Type 0} → (X → Type 0) → Table X → Type 0
Values P t = AllByRecursion (λ e. P e.1) t

put_values : {X : Type 0} (P : X → Type 0) (k : Key) (x : X) (t : Table X) → P x → Values P t → Values P (with_entry t k x)
put_values P k x [] own h = (own, tt)
put_values {X} P k x (d ∷ t) own h = cases (slice_cmp nat_cmp k d.0) (put_values P k x t own h.1) where
  cases : (o : Ordering) → Values P (with_entry t k x) → Values P (by_order o ((k, x) ∷ d ∷ t) ((d.0, x) ∷ t) (d ∷ with_entry t k x))
  cases Less rest = (own, h)
  cases Equal rest = (own, h.1)
  cases Greater rest = (h.0, rest)

keep_values : {X : Type 0} (P : X → Type 0) (test : Key → Bool) (t : Table X) → Values P t → Values P (keep test t)
keep_values P test [] h = tt
keep_values {X} P test (d ∷ t) h = cases (test d.0) (keep_values P test t h.1) where
  cases : (b : Bool) → Values P (keep test t) → Values P (cond b (d ∷ keep test t) (keep test t))
  cases true rest = (h.0, rest)
  cases false rest = rest

-- ---- over a history

abbrev HasOrder : Certificate → Type 0
HasOrder x = AscendFrom 0 x.prepares

-- the signers of the proof ascend, and those of each kept certificate
abbrev Ascends : Core → Type 0
Ascends s = AscendFrom 0 s.proof × Values HasOrder s.kept

module _ (c : Setup) where
  with_ascends : (s : Core) (ns : List ℕ) (t : Table Certificate) → Values HasOrder t → Values HasOrder (with_certificates c s ns t)
  with_ascends s [] t h = h
  with_ascends s (n ∷ ns) t h = cases (prepared_at c s n) (with_ascends s ns t h) where
    cases : (o : Option (Signed PrePrepare)) → Values HasOrder (with_certificates c s ns t) → Values HasOrder (with_certificate c s n o (with_certificates c s ns t))
    cases None rest = rest
    cases (Some m) rest = put_values HasOrder (number_key n) (certificate_of c s m) (with_certificates c s ns t) (certificate_ascends c s m) rest

  leaving_ascends : (s : Core) → Values HasOrder s.kept → Values HasOrder (kept_on_leaving c s)
  leaving_ascends s h = with_ascends s (inside c s) s.kept h

  entered_ascends : (s : Core) (n : NewView) → Ascends s → Ascends (entered c s n)
  entered_ascends s n h = cases (nat_lt s.view n.view.0) where
    cases : (b : Bool) → Ascends (with_list c (opened_by (cond b (left_for c s n.view.0) s) n) n)
    cases true = (h.0, leaving_ascends s h.1)
    cases false = h

  said_ascends : (s : Core) (m : Signed Body) (b : Body) → Ascends s → Ascends (said c s m b)
  said_ascends s m (bodies.Request b) h = h
  said_ascends s m (bodies.PrePrepare b) h = h
  said_ascends s m (bodies.Prepare b) h = h
  said_ascends s m (bodies.Commit b) h = h
  said_ascends s m (bodies.Reply b) h = h
  said_ascends s m (bodies.Checkpoint b) h = h
  said_ascends s m (bodies.ViewChange b) h = (h.0, leaving_ascends s h.1)
  said_ascends s m (bodies.NewView b) h = entered_ascends s b h
  said_ascends s m (bodies.Fetch (fetches.Request d)) h = h
  said_ascends s m (bodies.Fetch (fetches.State n)) h = h
  said_ascends s m (bodies.Snapshot b) h = h

  recorded_ascends : (s : Core) (m : Signed Body) (b : Body) → Ascends s → Ascends (recorded c s m b)
  recorded_ascends s m (bodies.Request b) h = h
  recorded_ascends s m _ h = h

  after_ascends : (s : Core) (a : Act) → Ascends s → Ascends (after c s a)
  after_ascends s (Take m r) h = recorded_ascends s m m.body h
  after_ascends s (Send to m) h = said_ascends s m m.body h
  after_ascends s (Enter m) h = entered_ascends s m.body h
  after_ascends s (Rise n d) h = (proof_ascends c s n d, keep_values HasOrder (is_above n) s.kept h.1)
  after_ascends s (Install n b t) h = (proof_ascends c s n (c.hash b), keep_values HasOrder (is_above n) s.kept h.1)
  after_ascends s _ h = h

  ascends_at : (signer : SigningState) (acts : List Act) → Ascends (core_after c signer acts)
  ascends_at signer [] = (tt, tt)
  ascends_at signer (a ∷ acts) = after_ascends (core_after c signer acts) a (ascends_at signer acts)

-- ---- the lists of the ViewChange that a replica makes

order_few : (first last : ℕ) (xs : List Certificate) → ascend_within first last xs ≡ true → first ≤ last + 1 → first + length xs ≤ last + 1
order_few first last [] e le = omega arith
order_few first last (x ∷ xs) e le =
    let number = x.pre_prepare.body.number.0 in
    let a = and_parts (nat_le first number) (nat_le number last && ascend_within (number + 1) last xs) e in
    let b = and_parts (nat_le number last) (ascend_within (number + 1) last xs) a.1 in
    let low = leb-true first number a.0 in
    let high = leb-true number last b.0 in
    let rest = order_few (number + 1) last xs b.1 (omega arith) in
    omega arith

certificates_short : (c : Setup) (t : Table Certificate) → c.config.f ≤ 3 → list_all (is_certificate c.config) (entries_in t) ≡ true → Values HasOrder t → AllByRecursion HasShortList (entries_in t)
certificates_short c [] few e h = tt
certificates_short c (d ∷ t) few e h =
    let x = d.1 in
    let fields = of_pre_prepare x.pre_prepare.body in
    let a = and_parts (is_certificate c.config x) (list_all (is_certificate c.config) (entries_in t)) e in
    let b = and_parts (certified c.config (voted_among of_pre_prepare (x.pre_prepare ∷ []) fields) (voted_among of_prepare x.prepares fields) fields.view) (length x.prepares == 2 * c.config.f) a.0 in
    let many = eqb-true (length x.prepares) (2 * c.config.f) b.1 in
    ((omega arith, h.0), certificates_short c t few a.1 h.1)

proof_short : (c : Setup) (s : Core) → c.config.f ≤ 3 → (is_proof c s.low s.proof || (s.low == 0 && length s.proof == 0)) ≡ true → length s.proof ≤ 10
proof_short c s few e = elim (or_cases (is_proof c s.low s.proof) (s.low == 0 && length s.proof == 0) e) [
  | inl proof ↦
      let many = eqb-true (length s.proof) (quorum c.config) ((and_parts (length s.proof == quorum c.config) _ proof).0) in
      omega arith
  | inr none ↦
      let many = eqb-true (length s.proof) 0 ((and_parts (s.low == 0) (length s.proof == 0) none).1) in
      omega arith
]

pub short_lists : (c : Configuration) (me : ℕ) (s : Core) (view : ℕ) → IsConfiguration c → s.low < number_limit → s.view < view → IsReached (setup_of c) me s → HasShortLists (view_change_of (setup_of c) s view)
short_lists c me s view legal low higher reached =
    let sound : IsSoundCore (setup_of c) s = subst (IsSoundCore (setup_of c)) reached.here (sound_at (setup_of c) me reached.signer reached.acts reached.history) in
    let ascends : Ascends s = subst Ascends reached.here (ascends_at (setup_of c) reached.signer reached.acts) in
    let v = view_change_of (setup_of c) s view in
    let a = and_parts (has_view v) (has_proof (setup_of c) v && (has_certificates (setup_of c) v && has_order (setup_of c) v)) (view_change_made (setup_of c) s view higher sound.3 sound.4) in
    let b = and_parts (has_proof (setup_of c) v) (has_certificates (setup_of c) v && has_order (setup_of c) v) a.1 in
    let d = and_parts (has_certificates (setup_of c) v) (has_order (setup_of c) v) b.1 in
    let few : c.f ≤ 3 = legal.max_faulty in
    let interval : c.k ≤ 8 = legal.max_interval in
    let order : (s.low + 1) + length v.certificates ≤ (s.low + span c) + 1 = order_few (s.low + 1) (s.low + span c) v.certificates d.1 (omega arith) in
    record {
      low = omega (arith, low);
      few_checkpoints = proof_short (setup_of c) s few sound.4;
      ascend = ascends.0;
      few_certificates = omega (arith, order, interval);
      certificates = certificates_short (setup_of c) (kept_on_leaving (setup_of c) s) few d.0 (leaving_ascends (setup_of c) s ascends.1);
    }

-- as its parts keep it
pub its_lists : (c : Configuration) (me : ℕ) (p : Parts) → AreOne c me p → (k : KeptReplica) → kept_in c me p ≡ k → (view : ℕ) → k.core.view < view → IsReached (setup_of k.config) k.me k.core
    → HasShortLists (view_change_of (setup_of k.config) k.core view)
its_lists c me p one k e view higher reached =
    let low = one.low in
    let below = one.reached in
    let small = one.executed in
    let same : k.core.low ≡ p.log.log.low = sym (ap (λ (x : KeptReplica). x.core.low) e) in
    short_lists k.config k.me k.core view (subst IsConfiguration (ap (λ (x : KeptReplica). x.config) e) one.legal) (omega arith) higher reached
