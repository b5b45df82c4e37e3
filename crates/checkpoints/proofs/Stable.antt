-- Two digests are never stable at one number, and what a quorum has is found.
use Rattle.std.proofs.Common.{◌≡◌, ℕ, zero, suc, ◌+◌, ◌<◌, ◌≤◌, Bool, true, false, ◌&&◌, cond, List, [], ◌∷◌, length, Option, Some, None, refl, sym, ap, subst, ◌∙◌, arith, ◌⊎◌, inl, inr}
use Rattle.std.specs.Prelude.{nat_lt, ◌==◌, bytes_eq, find}
use Rattle.std.specs.List.{filter_map, cons_option}
use Rattle.std.specs.Option.{option_map}
use Rattle.std.proofs.lemmas.Bool.{false≢true, and_parts, leb-true, le-leb, eqb-true, cond-false}
use Rattle.std.proofs.lemmas.Option.{same_Some}
use Rattle.std.proofs.lemmas.Slice.Eq.{bytes_eq-Decides}
use Rattle.host_types.specs.declared.Digest.{Digest}
use Rattle.host_types.specs.Configuration.{Configuration}
use Rattle.ballots.specs.Words.{Signed, Checkpoint}
use Rattle.ballots.specs.Histories.{IsIn}
use Rattle.ballots.specs.Core.{if_passes}
use Rattle.ballots.specs.Certificates.{has_quorum, is_checkpoint_of, is_stable, some_by}
use Rattle.ballots.specs.Setup.{count, is_least, is_replica, numbers_from, quorum, replicas}
use Rattle.ballots.specs.Tables.{Table, at, checkpoint_key}
use Rattle.ballots.proofs.Counting.{quorums_meet, quorum_has}
use Rattle.ballots.proofs.Found.{from_gathered, passed}
use Rattle.ballots.proofs.Gathering.{count_least, length_gathered}
use Rattle.ballots.proofs.Stages.{in_numbers}
use Rattle.checkpoints.specs.Kept.{digest_of_proof, stable_digest}
use Rattle.checkpoints.specs.Reading.{said, digest_said, quorum_by, quorum_digest, quorum_proof}

-- ---- what a replica said

pub record HasSaid (by : ℕ → Option (Signed Checkpoint)) (number : ℕ) (digest : List ℕ) (i : ℕ) : Type 0 where
  pub message : Signed Checkpoint
  pub is : by i ≡ Some message
  pub of_number : message.body.number.0 ≡ number
  pub of_digest : message.body.digest.0 ≡ digest
  pub id : message.id ≡ i

pub has_said : (by : ℕ → Option (Signed Checkpoint)) (number : ℕ) (digest : List ℕ) (i : ℕ) → said by number digest i ≡ true → HasSaid by number digest i
has_said by number digest i e = split (by i) refl e where
  split : (o : Option (Signed Checkpoint)) → by i ≡ o → some_by i (is_checkpoint_of number digest) o ≡ true → HasSaid by number digest i
  split None is e = absurd (false≢true e)
  split (Some m) is e =
      let signed = and_parts (is_replica m.role) (m.id == i && is_checkpoint_of number digest m.body) e in
      let body = and_parts (m.id == i) (is_checkpoint_of number digest m.body) signed.1 in
      let fields = and_parts (m.body.number.0 == number) (bytes_eq m.body.digest.0 digest) body.1 in
      record { message = m; is = is; of_number = eqb-true m.body.number.0 number fields.0; of_digest = (bytes_eq-Decides m.body.digest.0 digest).0 fields.1; id = eqb-true m.id i body.0 }

nobody : (n : ℕ) → count (λ i. false) n ≡ 0
nobody zero = refl
nobody (suc n) = omega (arith, nobody n)

few : (f n : ℕ) → count (λ i. false) n ≤ f
few f n = let none = nobody n in omega arith

-- Two quorums share a replica, which has said one thing.
pub said_once : (c : Configuration) (by : ℕ → Option (Signed Checkpoint)) (number : ℕ) (d e : List ℕ) → has_quorum c (said by number d) ≡ true → has_quorum c (said by number e) ≡ true → d ≡ e
said_once c by number d e hd he =
    let w = quorums_meet c.f (replicas c) (said by number d) (said by number e) (λ i. false) refl (leb-true (quorum c) (count (said by number d) (replicas c)) hd) (leb-true (quorum c) (count (said by number e) (replicas c)) he) (few c.f (replicas c)) in
    let one = has_said by number d w.0 w.2 in
    let two = has_said by number e w.0 w.3 in
    sym one.of_digest ∙ ap (λ (m : Signed Checkpoint). m.body.digest.0) (same_Some one.message two.message (sym one.is ∙ two.is)) ∙ two.of_digest

-- Two digests are never stable at one number.
pub stable_once : (c : Configuration) (checkpoints : Table (Signed Checkpoint)) (number : ℕ) (d e : List ℕ) → is_stable c checkpoints number d ≡ true → is_stable c checkpoints number e ≡ true → d ≡ e
stable_once c checkpoints number = said_once c (λ i. at checkpoints (checkpoint_key number i)) number

-- ---- the digest of a quorum is found

find_passes : {X : Type 0} (test : X → Bool) (xs : List X) (x : X) → find test xs ≡ Some x → test x ≡ true
find_passes test [] x e = absurd cc
find_passes {X} test (y ∷ ys) x e = split (test y) refl e (find_passes test ys x) where
  split : (b : Bool) → test y ≡ b → cond b (Some y) (find test ys) ≡ Some x → (find test ys ≡ Some x → test x ≡ true) → test x ≡ true
  split true t e rest = subst (λ (z : X). test z ≡ true) (same_Some y x e) t
  split false t e rest = rest e

find_some : {X : Type 0} (test : X → Bool) (xs : List X) (x : X) → IsIn x xs → test x ≡ true → (y : X) × (find test xs ≡ Some y)
find_some test [] x is t = absurd is
find_some {X} test (y ∷ ys) x is t = split (test y) refl is (find_some test ys x) where
  split : (b : Bool) → test y ≡ b → (x ≡ y) ⊎ IsIn x ys → (IsIn x ys → test x ≡ true → (z : X) × (find test ys ≡ Some z)) → (z : X) × (cond b (Some y) (find test ys) ≡ Some z)
  split true f is rest = (y, refl)
  split false f (inl same) rest = absurd (false≢true (sym f ∙ ap test (sym same) ∙ t))
  split false f (inr later) rest = rest later t

in_filter : {X : Type 0} (g : ℕ → Option X) (ns : List ℕ) (n : ℕ) (x : X) → IsIn n ns → g n ≡ Some x → IsIn x (filter_map g ns)
in_filter g [] n x h e = absurd h
in_filter {X} g (k ∷ ns) n x (inl same) e = subst (λ (o : Option X). IsIn x (cons_option o (filter_map g ns))) (sym e ∙ ap g same) (inl refl)
in_filter {X} g (k ∷ ns) n x (inr later) e = cases (g k) (in_filter g ns n x later e) where
  cases : (o : Option X) → IsIn x (filter_map g ns) → IsIn x (cons_option o (filter_map g ns))
  cases None h = h
  cases (Some y) h = inr h

same_digest : (d e : Digest) → d.0 ≡ e.0 → d ≡ e
same_digest d e is = ap (λ (bytes : List ℕ). of_bytes bytes) is where
  of_bytes : List ℕ → Digest
  of_bytes bytes = record { 0 = bytes }

-- who has said what a quorum has
pub some_signer : (c : Configuration) (by : ℕ → Option (Signed Checkpoint)) (number : ℕ) (d : List ℕ) → has_quorum c (said by number d) ≡ true → (i : ℕ) × (i < replicas c) × HasSaid by number d i
some_signer c by number d h =
    let w = quorum_has c.f (replicas c) (said by number d) (λ i. false) (leb-true (quorum c) (count (said by number d) (replicas c)) h) (few c.f (replicas c)) in
    (w.0, w.1, has_said by number d w.0 w.2)

pub quorum_is : (c : Configuration) (by : ℕ → Option (Signed Checkpoint)) (number : ℕ) (d : Digest) → has_quorum c (said by number d.0) ≡ true → quorum_digest c by number ≡ Some d
quorum_is c by number d h =
    let w = some_signer c by number d.0 h in
    let has = w.2 in
    let test : Digest → Bool = λ x. has_quorum c (said by number x.0) in
    let own : digest_said by w.0 ≡ Some d = ap (option_map (λ m. m.body.digest)) has.is ∙ ap Some (same_digest has.message.body.digest d has.of_digest) in
    let found = find_some test (filter_map (digest_said by) (numbers_from 0 (replicas c))) d
    (in_filter (digest_said by) (numbers_from 0 (replicas c)) w.0 d (in_numbers (replicas c) 0 w.0 (omega arith) (omega (arith, w.1))) own) h in
    found.1 ∙ ap Some (same_digest found.0 d (said_once c by number found.0.0 d.0 (find_passes test (filter_map (digest_said by) (numbers_from 0 (replicas c))) found.0 found.1) h))

pub quorum_has_it : (c : Configuration) (by : ℕ → Option (Signed Checkpoint)) (number : ℕ) (d : Digest) → quorum_digest c by number ≡ Some d → has_quorum c (said by number d.0) ≡ true
quorum_has_it c by number d e = find_passes (λ x. has_quorum c (said by number x.0)) (filter_map (digest_said by) (numbers_from 0 (replicas c))) d e

-- a digest is stable exactly where it is the stable one
pub stable_is : (c : Configuration) (checkpoints : Table (Signed Checkpoint)) (number : ℕ) (d : Digest) → is_stable c checkpoints number d.0 ≡ true → stable_digest c checkpoints number ≡ Some d
stable_is c checkpoints number = quorum_is c (λ i. at checkpoints (checkpoint_key number i)) number

pub is_stable_one : (c : Configuration) (checkpoints : Table (Signed Checkpoint)) (number : ℕ) (d : Digest) → stable_digest c checkpoints number ≡ Some d → is_stable c checkpoints number d.0 ≡ true
is_stable_one c checkpoints number = quorum_has_it c (λ i. at checkpoints (checkpoint_key number i)) number

-- ---- no quorum

no_pass : {X : Type 0} (test : X → Bool) (x : X) → if_passes test (Some x) ≡ None → test x ≡ false
no_pass {X} test x e = split (test x) e where
  split : (b : Bool) → cond b (Some x) None ≡ None → b ≡ false
  split true e = absurd cc
  split false e = refl

none_found : {X : Type 0} (test : X → Bool) (value : ℕ → Option X) (many first : ℕ) → ((i : ℕ) → first ≤ i → i < first + many → if_passes test (value i) ≡ None) → find test (filter_map value (numbers_from first many)) ≡ None
none_found test value zero first h = refl
none_found {X} test value (suc many) first h =
    split (value first) refl (none_found test value many (first + 1) (λ i from below. h i (omega (arith, from)) (omega (arith, below)))) where
      split : (o : Option X) → value first ≡ o → find test (filter_map value (numbers_from (first + 1) many)) ≡ None → find test (cons_option o (filter_map value (numbers_from (first + 1) many))) ≡ None
      split None e rest = rest
      split (Some x) e rest =
          let fails = no_pass test x (ap (if_passes test) (sym e) ∙ h first (omega arith) (omega arith)) in
          cond-false (test x) (Some x) (find test (filter_map value (numbers_from (first + 1) many))) fails ∙ rest

pub no_quorum : (c : Configuration) (by : ℕ → Option (Signed Checkpoint)) (number : ℕ) → ((i : ℕ) → i < replicas c → quorum_by c by number i ≡ None) → quorum_digest c by number ≡ None
no_quorum c by number h = none_found (λ d. has_quorum c (said by number d.0)) (digest_said by) (replicas c) 0 (λ i from below. h i (omega (arith, below)))

pub nothing_said : (c : Configuration) (number : ℕ) → quorum_digest c (λ i. None) number ≡ None
nothing_said c number = no_quorum c (λ i. None) number (λ i below. refl)

-- ---- one more Checkpoint

count_below : (p q : ℕ → Bool) (n : ℕ) → ((i : ℕ) → p i ≡ true → q i ≡ true) → count p n ≤ count q n
count_below p q zero h = omega arith
count_below p q (suc n) h = step (p n) (q n) (h n) (count_below p q n h) where
  step : (a b : Bool) → (a ≡ true → b ≡ true) → count p n ≤ count q n → cond a 1 0 + count p n ≤ cond b 1 0 + count q n
  step true true k rest = omega arith
  step true false k rest = absurd (false≢true (k refl))
  step false true k rest = omega arith
  step false false k rest = omega arith

-- what was said stays said
pub quorum_stays : (c : Configuration) (by more : ℕ → Option (Signed Checkpoint)) (number : ℕ) (d : Digest) → ((i : ℕ) (m : Signed Checkpoint) → by i ≡ Some m → more i ≡ Some m) → quorum_digest c by number ≡ Some d → quorum_digest c more number ≡ Some d
quorum_stays c by more number d h e =
    let enough = leb-true (quorum c) (count (said by number d.0) (replicas c)) (quorum_has_it c by number d e) in
    let same : (i : ℕ) → said by number d.0 i ≡ true → said more number d.0 i ≡ true = λ i t.
    let has = has_said by number d.0 i t in
    ap (some_by i (is_checkpoint_of number d.0)) (h i has.message has.is ∙ sym has.is) ∙ t in
    let as_many = count_below (said by number d.0) (said more number d.0) (replicas c) same in
    quorum_is c more number d (le-leb (quorum c) (count (said more number d.0) (replicas c)) (omega (arith, enough, as_many)))

-- ---- the digest of a proof

digest_of_all : (ms : List (Signed Checkpoint)) (d : Digest) → ((m : Signed Checkpoint) → IsIn m ms → m.body.digest ≡ d) → 0 < length ms → digest_of_proof ms ≡ Some d
digest_of_all [] d h k = absurd (omega arith)
digest_of_all (m ∷ ms) d h k = ap Some (h m (inl refl))

proof_digest : (c : Configuration) (by : ℕ → Option (Signed Checkpoint)) (number : ℕ) (d : Digest) → has_quorum c (said by number d.0) ≡ true → digest_of_proof (quorum_proof c by number (Some d)) ≡ Some d
proof_digest c by number d h =
    let test = said by number d.0 in
    let enough = leb-true (quorum c) (count test (replicas c)) h in
    let least = count_least (quorum c) test (replicas c) in
    let has : (i : ℕ) → is_least (quorum c) test i ≡ true → HasSaid by number d.0 i = λ i t. has_said by number d.0 i ((and_parts (test i) (nat_lt (count test i) (quorum c)) t).0) in
    let long = length_gathered (is_least (quorum c) test) by (replicas c) (λ i t. let w = has i t in (w.message, w.is)) in
    digest_of_all (quorum_proof c by number (Some d)) d
    (λ m within.
    let w = from_gathered (is_least (quorum c) test) by (replicas c) m within in
    let one = has w.0 w.1 in
    ap (λ (p : Signed Checkpoint). p.body.digest) (same_Some m one.message (sym w.2 ∙ one.is)) ∙ same_digest one.message.body.digest d one.of_digest)
    (omega (arith, enough, least, long))

-- of what a quorum has, the proof has the digest
pub digest_proved : (c : Configuration) (by : ℕ → Option (Signed Checkpoint)) (number : ℕ) → digest_of_proof (quorum_proof c by number (quorum_digest c by number)) ≡ quorum_digest c by number
digest_proved c by number = split (quorum_digest c by number) refl where
  split : (o : Option Digest) → quorum_digest c by number ≡ o → digest_of_proof (quorum_proof c by number o) ≡ o
  split None e = refl
  split (Some d) e = proof_digest c by number d (quorum_has_it c by number d e)

pub quorum_passed : (c : Configuration) (by : ℕ → Option (Signed Checkpoint)) (number i : ℕ) (d : Digest) → quorum_by c by number i ≡ Some d → quorum_digest c by number ≡ Some d
quorum_passed c by number i d e = quorum_is c by number d (passed (λ x. has_quorum c (said by number x.0)) (digest_said by i) d e).1
