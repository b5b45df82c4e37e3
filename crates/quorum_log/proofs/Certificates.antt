-- The certificate that is made of a slot is the log's.
use Rattle.std.proofs.Common.{◌≡◌, ◌≢◌, ℕ, zero, suc, ◌+◌, ◌-◌, ◌*◌, ◌%◌, ◌<◌, ◌≤◌, ◌==◌, Bool, true, false, cond, not, ◌&&◌, List, [], ◌∷◌, ◌++◌, map, Option, Some, None, refl, sym, ap, ◌∙◌, arith, ◌⊎◌, inl, inr}
use Rattle.std.specs.Prelude.{nat_lt, if◌then◌else◌}
use Rattle.std.specs.Option.{option_map}
use Rattle.std.specs.List.{cons_option}
use Rattle.std.proofs.lemmas.Bool.{cases_eq, ne_eqb, eq-eqb}
use Rattle.host_types.specs.Configuration.{Configuration, IsConfiguration, replicas_for}
use Rattle.pbft_codec.specs.declared.body.Body.{Body}
use Rattle.pbft_codec.specs.declared.body.Body.TheVariants as bodies
use Rattle.ballots.specs.Words.{Signed, PrePrepare}
use Rattle.ballots.specs.Acts.{with_body}
use Rattle.ballots.specs.Certificates.{of_pre_prepare, of_prepare, voted}
use Rattle.ballots.specs.Setup.{count, gathered, is_least}
use Rattle.ballots.specs.Tables.{at, vote_key}
use Rattle.seal.specs.Opening.{CheckedMessage}
use Rattle.seal.specs.Parts.{as_message}
use Rattle.seal.specs.declared.vote.VoteKind.TheVariants as kinds
use Rattle.quorum_log.specs.declared.slot.Slot.{Slot}
use Rattle.quorum_log.specs.Asking.{Represents}
use Rattle.ballots.specs.Ballots.{digest_in, is_for, least_votes, vote_at, voted_for}
use Rattle.quorum_log.specs.Log.{Log, backing, certificate_in, checked_certificate, if_certified, is_certified_in, as_checked}
use Rattle.quorum_log.specs.Reading.{as_pre_prepare, as_prepare, read_by}
use Rattle.quorum_log.specs.Slots.{IsVoteAt, certificate_for, certificate_here, certificate_with, digest_of_some, is_certified_for}
use Rattle.quorum_log.proofs.Asking.{Asked, asked, fields, prepared_by, proposal_is, unlisted}
use Rattle.ballots.proofs.Counts.{same_count}
use Rattle.quorum_log.proofs.KindReadings.{not_primary, prepare_is}
use Rattle.ballots.proofs.Least.{append_nil, gathered_next}

-- ---- what is gathered

map_append : {X Y : Type 0} (g : X → Y) (xs : List X) (o : Option X) → map g (xs ++ cons_option o []) ≡ map g xs ++ cons_option (option_map g o) []
map_append g [] None = refl
map_append g [] (Some x) = refl
map_append g (x ∷ xs) o = ap (λ ys. g x ∷ ys) (map_append g xs o)

pub same_gathered : {X Y : Type 0} (g : X → Y) (test other : ℕ → Bool) (value : ℕ → Option X) (known : ℕ → Option Y) (n : ℕ) → ((i : ℕ) → i < n → option_map g (cond (test i) (value i) None) ≡ cond (other i) (known i) None)
    → map g (gathered test value n) ≡ gathered other known n
same_gathered g test other value known zero h = refl
same_gathered g test other value known (suc n) h =
    ap (map g) (gathered_next test value n)
    ∙ map_append g (gathered test value n) (cond (test n) (value n) None)
    ∙ ap (λ ys. ys ++ cons_option (option_map g (cond (test n) (value n) None)) []) (same_gathered g test other value known n (λ i lt. h i (omega (arith, lt))))
    ∙ ap (λ o. gathered other known n ++ cons_option o []) (h n (omega arith))
    ∙ sym (gathered_next other known n)

-- none from there on
pub gathered_beyond : {X : Type 0} (test : ℕ → Bool) (value : ℕ → Option X) (n more : ℕ) → ((i : ℕ) → n ≤ i → test i ≡ false) → gathered test value (more + n) ≡ gathered test value n
gathered_beyond test value n zero h = ap (gathered test value) (omega arith)
gathered_beyond test value n (suc more) h =
    let next : suc more + n ≡ suc (more + n) = omega arith in
    ap (gathered test value) next ∙ gathered_next test value (more + n)
    ∙ ap (λ b. gathered test value (more + n) ++ cons_option (cond b (value (more + n)) None) []) (h (more + n) (omega arith))
    ∙ append_nil (gathered test value (more + n)) ∙ gathered_beyond test value n more h

least_same : (many : ℕ) (test other : ℕ → Bool) (n : ℕ) → ((i : ℕ) → i ≤ n → test i ≡ other i) → is_least many test n ≡ is_least many other n
least_same many test other n h =
    ap (λ b. b && nat_lt (count test n) many) (h n (omega arith)) ∙ ap (λ k. other n && nat_lt k many) (same_count test other n (λ i lt. h i (omega (arith, lt))))

-- ---- the Prepares

-- a backup whose Prepare matches, and whoever voted for the digest
prepare_only : (c : Configuration) (view number : ℕ) (digest : List ℕ) (i : ℕ) (o : Option CheckedMessage) → ((m : CheckedMessage) → o ≡ Some m → IsVoteAt c kinds.Prepare view number m × (m.message.id ≡ i))
    → (i ≡ view % replicas_for c.f) ⊎ (i ≢ view % replicas_for c.f) → (not (i == view % replicas_for c.f) && is_for digest o) ≡ is_for digest o
prepare_only c view number digest i o h (inr ne) = ap (λ b. not b && is_for digest o) (ne_eqb i (view % replicas_for c.f) ne)
prepare_only c view number digest i None h (inl e) = ap (λ b. not b && false) (eq-eqb i (view % replicas_for c.f) e)
prepare_only c view number digest i (Some m) h (inl e) = let is = h m refl in absurd (not_primary c view number m is.0 (is.1 ∙ e))

matching_is : (c : Configuration) (l : Log) (view number : ℕ) (s : Slot) (digest : List ℕ) → Represents c l view number s → (i : ℕ) → i < 10
    → (not (i == view % replicas_for c.f) && voted of_prepare l.prepares (fields view number digest) i) ≡ voted_for digest s.prepares i
matching_is c l view number s digest h i lt =
    ap (λ b. not (i == view % replicas_for c.f) && b) (prepared_by c l view number s digest h i lt)
    ∙ prepare_only c view number digest i (vote_at s.prepares i) (h.is.prepares i) (cases_eq i (view % replicas_for c.f))

-- a recorded Prepare, as the log has it
prepare_read : (c : Configuration) (view number i : ℕ) (o : Option CheckedMessage) → ((m : CheckedMessage) → o ≡ Some m → IsVoteAt c kinds.Prepare view number m × (m.message.id ≡ i)) → option_map (as_message bodies.Prepare) (read_by as_prepare o) ≡ option_map (λ m. m.message) o
prepare_read c view number i None h = refl
prepare_read c view number i (Some m) h = prepare_is c view number m (h m refl).0 m.message.body refl

one_backing : (c : Configuration) (l : Log) (view number : ℕ) (s : Slot) (digest : List ℕ) → IsConfiguration c → Represents c l view number s → (i : ℕ) → i < 10 → (b d : Bool) → b ≡ d
    → option_map (as_message bodies.Prepare) (cond b (at l.prepares (vote_key number view i)) None) ≡ cond d (option_map (λ m. m.message) (vote_at s.prepares i)) None
one_backing c l view number s digest k h i lt true d e =
    ap (option_map (as_message bodies.Prepare)) (h.prepares i lt) ∙ prepare_read c view number i (vote_at s.prepares i) (h.is.prepares i)
    ∙ ap (λ d. cond d (option_map (λ m. m.message) (vote_at s.prepares i)) None) e
one_backing c l view number s digest k h i lt false d e = ap (λ d. cond d (option_map (λ m. m.message) (vote_at s.prepares i)) None) e

backing_is : (c : Configuration) (l : Log) (view number : ℕ) (s : Slot) (digest : List ℕ) → IsConfiguration c → Represents c l view number s
    → map (as_message bodies.Prepare) (backing c l (fields view number digest)) ≡ least_votes (2 * c.f) digest s.prepares
backing_is c l view number s digest k h =
    let test : ℕ → Bool = λ i. not (i == view % replicas_for c.f) && voted of_prepare l.prepares (fields view number digest) i in
    let sum : (10 - replicas_for c.f) + replicas_for c.f ≡ 10 = omega (arith, k.max_faulty) in
    let value : ℕ → Option (Signed Body) = λ i. option_map (λ m. m.message) (vote_at s.prepares i) in
    same_gathered (as_message bodies.Prepare) (is_least (2 * c.f) test) (is_least (2 * c.f) (voted_for digest s.prepares)) (λ i. at l.prepares (vote_key number view i)) value (replicas_for c.f)
    (λ i lt. one_backing c l view number s digest k h i (omega (arith, lt, k.max_faulty)) (is_least (2 * c.f) test i) (is_least (2 * c.f) (voted_for digest s.prepares) i)
    (least_same (2 * c.f) test (voted_for digest s.prepares) i (λ j le. matching_is c l view number s digest h j (omega (arith, lt, le, k.max_faulty)))))
    ∙ sym (gathered_beyond (is_least (2 * c.f) (voted_for digest s.prepares)) value (replicas_for c.f) (10 - replicas_for c.f)
    (λ i le. ap (λ b. b && nat_lt (count (voted_for digest s.prepares) i) (2 * c.f)) (ap (is_for digest) (unlisted c view number kinds.Prepare s.prepares i (vote_at s.prepares i) le (h.is.prepares i)))))
    ∙ ap (gathered (is_least (2 * c.f) (voted_for digest s.prepares)) value) sum

-- ---- the certificate

checked_if : (c : Configuration) (l : Log) (b : Bool) (m : Signed PrePrepare) → option_map (λ m. as_checked c (certificate_in c l m)) (if b then Some m else None) ≡ cond b (Some (as_checked c (certificate_in c l m))) None
checked_if c l true m = refl
checked_if c l false m = refl

same_checked : (c : Configuration) (l : Log) (view number : ℕ) (s : Slot) (m : CheckedMessage) → IsConfiguration c → Represents c l view number s → IsVoteAt c kinds.PrePrepare view number m → (a : Asked c l view number s m)
    → as_checked c (certificate_in c l (with_body m.message a.body)) ≡ certificate_with c s m a.body.digest
same_checked c l view number s m k h is a =
    let prepares = ap (λ f. map (as_message bodies.Prepare) (backing c l f)) a.fields_are ∙ backing_is c l view number s a.body.digest.0 k h in
    λ i. record {
      pre_prepare = record { config = sym is.config i; message = record { role = m.message.role; id = m.message.id; body = sym a.is i; sig = m.message.sig } };
      prepares = record { config = c; messages = prepares i };
    }

certificate_of : (c : Configuration) (l : Log) (view number : ℕ) (s : Slot) → IsConfiguration c → Represents c l view number s → (o : Option CheckedMessage) → s.pre_prepare ≡ o
    → option_map (λ m. as_checked c (certificate_in c l m)) (if_certified c l (read_by as_pre_prepare o)) ≡ cond (is_certified_for c view s (digest_of_some o)) (certificate_for c s o (digest_of_some o)) None
certificate_of c l view number s k h None e = refl
certificate_of c l view number s k h (Some m) e =
    let is = h.is.pre_prepare m e in
    let a = asked c l view number s m k h e is in
    ap (λ b. option_map (λ m. as_checked c (certificate_in c l m)) (if_certified c l (as_pre_prepare m.message b))) a.is
    ∙ checked_if c l (is_certified_in c l (of_pre_prepare a.body)) (with_body m.message a.body)
    ∙ ap (λ b. cond b (Some (as_checked c (certificate_in c l (with_body m.message a.body)))) None) a.certified_is
    ∙ ap (λ x. cond (is_certified_for c view s (Some a.body.digest)) (Some x) None) (same_checked c l view number s m k h is a)
    ∙ sym (ap (λ b. cond (is_certified_for c view s (digest_in b)) (certificate_for c s (Some m) (digest_in b)) None) a.is)

pub certificate_is : (c : Configuration) (l : Log) (view number : ℕ) (s : Slot) → IsConfiguration c → Represents c l view number s → certificate_here c view s ≡ checked_certificate c l view number
certificate_is c l view number s k h =
    sym (ap (λ o. option_map (λ m. as_checked c (certificate_in c l m)) (if_certified c l o)) (proposal_is c l view number s k h) ∙ certificate_of c l view number s k h s.pre_prepare refl)
