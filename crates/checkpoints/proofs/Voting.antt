-- What the ballot at a number says: its votes are Checkpoints.
use Rattle.std.proofs.Common.{◌≡◌, ◌≢◌, ℕ, zero, suc, ◌+◌, ◌-◌, ◌<◌, ◌≤◌, Bool, true, false, ◌&&◌, cond, not, List, [], ◌∷◌, ◌++◌, length, map, Option, Some, None, refl, sym, ap, subst, ◌∙◌, arith, ◌⊎◌, inl, inr}
use Rattle.std.specs.Prelude.{◌==◌, bytes_eq, is_some, IsTrue}
use Rattle.std.specs.List.{filter_map, cons_option}
use Rattle.std.specs.Option.{option_map}
use Rattle.std.proofs.lemmas.Bool.{eq-eqb, cases_lt, cases_eq}
use Rattle.std.proofs.lemmas.List.{get_or-set_other, length-set}
use Rattle.std.proofs.lemmas.Option.{slice_get_within}
use Rattle.host_types.specs.Configuration.{Configuration, IsConfiguration, replicas_for}
use Rattle.host_types.specs.declared.Digest.{Digest}
use Rattle.host_types.specs.declared.key.PublicKey.{PublicKey}
use Rattle.pbft_codec.specs.declared.body.Body.{Body}
use Rattle.pbft_codec.specs.declared.body.Body.TheVariants as bodies
use Rattle.pbft_codec.specs.declared.signed.Role.{Role}
use Rattle.pbft_codec.specs.declared.signed.Role.TheVariants.{Replica, Client}
use Rattle.ballots.specs.Words.{Signed, Checkpoint}
use Rattle.ballots.specs.Acts.{with_body}
use Rattle.ballots.specs.Core.{if_passes}
use Rattle.ballots.specs.Certificates.{has_quorum, is_checkpoint_of, some_by}
use Rattle.ballots.specs.Setup.{gathered, is_least, is_replica, numbers_from, quorum}
use Rattle.ballots.proofs.Gathering.{numbers_last, filter_append}
use Rattle.seal.specs.Opening.{CheckedMessage, IsChecked}
use Rattle.seal.specs.Parts.{as_message}
use Rattle.seal.specs.Signers.{key_of, may_sign}
use Rattle.ballots.specs.Ballots.{Ballot, AreListed, AreUnder, digest_in, is_digest, is_for, least_votes, recorded, vote_at, voted_for, with_first}
use Rattle.ballots.proofs.Ballots.{nobody, own_vote}
use Rattle.ballots.proofs.First.{first_at}
use Rattle.checkpoints.specs.Kept.{checkpoint_in, checkpoint_of}
use Rattle.checkpoints.specs.Reading.{IsBallotAt, IsCheckpointAt, as_checkpoint, digest_said, no_votes, quorum_by, quorum_proof, said, said_by}

-- ---- each vote of a ballot is a Checkpoint

no_some : {X : Type 0} {P : Type 0} (x : X) → None ≡ Some x → P
no_some x e = absurd cc

pub as_said : (m : CheckedMessage) (said : Checkpoint) → m.message.body ≡ bodies.Checkpoint said → as_checkpoint (Some m) ≡ Some (with_body m.message said)
as_said m said e = ap (checkpoint_in m.message) e

is_said : (c : Configuration) (number : ℕ) (m : CheckedMessage) (i : ℕ) (digest : List ℕ) → IsCheckpointAt c number m → m.message.id ≡ i → some_by i (is_checkpoint_of number digest) (as_checkpoint (Some m)) ≡ is_for digest (Some m)
is_said c number m i digest h at =
    ap (some_by i (is_checkpoint_of number digest)) (as_said m h.said h.is)
    ∙ ap (λ (r : Role). is_replica r && (m.message.id == i && (h.said.number.0 == number && bytes_eq h.said.digest.0 digest))) h.role
    ∙ ap (λ (b : Bool). b && (h.said.number.0 == number && bytes_eq h.said.digest.0 digest)) (eq-eqb m.message.id i at)
    ∙ ap (λ (b : Bool). b && bytes_eq h.said.digest.0 digest) (eq-eqb h.said.number.0 number h.of_number)
    ∙ sym (ap (λ (b : Body). is_digest digest (digest_in b)) h.is)

said_is_voted : (c : Configuration) (number : ℕ) (votes : Ballot) (digest : List ℕ) → IsBallotAt c number votes → (i : ℕ) → said (said_by votes) number digest i ≡ voted_for digest votes i
said_is_voted c number votes digest h i = split (vote_at votes i) refl where
  split : (o : Option CheckedMessage) → vote_at votes i ≡ o → some_by i (is_checkpoint_of number digest) (as_checkpoint o) ≡ is_for digest o
  split None e = refl
  split (Some m) e = let w = h.each i m e in is_said c number m i digest w.0 w.1

pub said_votes : (c : Configuration) (number : ℕ) (votes : Ballot) (digest : List ℕ) → IsBallotAt c number votes → ◌≡◌ {A = ℕ → Bool} (said (said_by votes) number digest) (voted_for digest votes)
said_votes c number votes digest h = λ k i. said_is_voted c number votes digest h i k

pub listed : (c : Configuration) (number : ℕ) (votes : Ballot) → IsBallotAt c number votes → AreListed c votes
listed c number votes h signer beyond = split (vote_at votes signer) refl where
  split : (o : Option CheckedMessage) → vote_at votes signer ≡ o → o ≡ None
  split None e = refl
  split (Some m) e = let w = h.each signer m e in let below : m.message.id < replicas_for c.f = w.0.listed in absurd (omega (arith, beyond, below, w.1))

pub under_one : (c : Configuration) (number : ℕ) (votes : Ballot) → IsBallotAt c number votes → AreUnder c votes
under_one c number votes h signer m e = (h.each signer m e).0.config

-- ---- what a quorum of a ballot has

pub digest_at_signer : (c : Configuration) (number : ℕ) (votes : Ballot) (i : ℕ) (m : CheckedMessage) (d : Digest) → IsBallotAt c number votes → vote_at votes i ≡ Some m → digest_in m.message.body ≡ Some d → digest_said (said_by votes) i ≡ Some d
digest_at_signer c number votes i m d h e named =
    let w = (h.each i m e).0 in
    ap (λ (o : Option CheckedMessage). option_map (λ p. p.body.digest) (as_checkpoint o)) e ∙ ap (option_map (λ p. p.body.digest)) (as_said m w.said w.is) ∙ sym (ap digest_in w.is) ∙ named

pub no_digest_at : (c : Configuration) (number : ℕ) (votes : Ballot) (i : ℕ) → vote_at votes i ≡ None → digest_said (said_by votes) i ≡ None
no_digest_at c number votes i e = ap (λ (o : Option CheckedMessage). option_map (λ p. p.body.digest) (as_checkpoint o)) e

pub quorum_said : (c : Configuration) (number : ℕ) (votes : Ballot) (i : ℕ) (m : CheckedMessage) (d : Digest) (b : Bool) → IsBallotAt c number votes → vote_at votes i ≡ Some m → digest_in m.message.body ≡ Some d
    → b ≡ has_quorum c (voted_for d.0 votes) → quorum_by c (said_by votes) number i ≡ cond b (Some d) None
quorum_said c number votes i m d b h e named is =
    ap (if_passes (λ x. has_quorum c (said (said_by votes) number x.0))) (digest_at_signer c number votes i m d h e named)
    ∙ ap (λ (t : Bool). cond t (Some d) None) (ap (has_quorum c) (said_votes c number votes d.0 h) ∙ sym is)

-- ---- a proof as messages

append_nil : {X : Type 0} (xs : List X) → xs ++ [] ≡ xs
append_nil [] = refl
append_nil (x ∷ xs) = ap (λ ys. x ∷ ys) (append_nil xs)

gathered_next : {X : Type 0} (test : ℕ → Bool) (value : ℕ → Option X) (n : ℕ) → gathered test value (suc n) ≡ gathered test value n ++ cons_option (cond (test n) (value n) None) []
gathered_next {X} test value n =
    ap (filter_map g) (numbers_last n 0) ∙ filter_append g (numbers_from 0 n) ((0 + n) ∷ []) ∙ (λ i. filter_map g (numbers_from 0 n) ++ filter_map g (zeros i ∷ [])) where
      g : ℕ → Option X
      g i = cond (test i) (value i) None

      zeros : 0 + n ≡ n
      zeros = omega arith

either_none : {X : Type 0} (b : Bool) (o : Option X) → o ≡ None → cond b o None ≡ None
either_none true o e = e
either_none false o e = refl

-- nothing is gathered where there is nothing
gathered_up_to : {X : Type 0} (test : ℕ → Bool) (value : ℕ → Option X) (n more : ℕ) → ((i : ℕ) → n ≤ i → value i ≡ None) → gathered test value (more + n) ≡ gathered test value n
gathered_up_to test value n zero h = ap (gathered test value) (omega arith)
gathered_up_to {X} test value n (suc more) h =
    let next : suc more + n ≡ suc (more + n) = omega arith in
    ap (gathered test value) next ∙ gathered_next test value (more + n)
    ∙ ap (λ (o : Option X). gathered test value (more + n) ++ cons_option o []) (either_none (test (more + n)) (value (more + n)) (h (more + n) (omega arith)))
    ∙ append_nil (gathered test value (more + n)) ∙ gathered_up_to test value n more h

map_filter : {X Y : Type 0} (f : X → Y) (test : ℕ → Bool) (value : ℕ → Option X) (ns : List ℕ) → map f (filter_map (λ i. cond (test i) (value i) None) ns) ≡ filter_map (λ i. cond (test i) (option_map f (value i)) None) ns
map_filter f test value [] = refl
map_filter {X} {Y} f test value (n ∷ ns) = step (test n) (value n) (map_filter f test value ns) where
  step : (b : Bool) (o : Option X) → map f (filter_map (λ i. cond (test i) (value i) None) ns) ≡ filter_map (λ i. cond (test i) (option_map f (value i)) None) ns
      → map f (cons_option (cond b o None) (filter_map (λ i. cond (test i) (value i) None) ns)) ≡ cons_option (cond b (option_map f o) None) (filter_map (λ i. cond (test i) (option_map f (value i)) None) ns)
  step true None rest = rest
  step true (Some x) rest = ap (λ ys. f x ∷ ys) rest
  step false o rest = rest

as_signed : (c : Configuration) (number : ℕ) (votes : Ballot) → IsBallotAt c number votes → (i : ℕ) → option_map (as_message bodies.Checkpoint) (said_by votes i) ≡ option_map (λ m. m.message) (vote_at votes i)
as_signed c number votes h i = split (vote_at votes i) refl where
  split : (o : Option CheckedMessage) → vote_at votes i ≡ o → option_map (as_message bodies.Checkpoint) (as_checkpoint o) ≡ option_map (λ m. m.message) o
  split None e = refl
  split (Some m) e =
      let w = (h.each i m e).0 in
      ap (option_map (as_message bodies.Checkpoint)) (as_said m w.said w.is) ∙ ap (λ (b : Body). Some (record m.message { body = b })) (sym w.is)

-- the votes of the least signers, as messages, are the proof
pub least_proof : (c : Configuration) (number : ℕ) (votes : Ballot) (d : Digest) (many : ℕ) → IsConfiguration c → IsBallotAt c number votes → many ≡ quorum c
    → least_votes many d.0 votes ≡ map (as_message bodies.Checkpoint) (quorum_proof c (said_by votes) number (Some d))
least_proof c number votes d many k h all =
    let value : ℕ → Option (Signed Body) = λ signer. option_map (λ m. m.message) (vote_at votes signer) in
    let sum : 10 ≡ (10 - replicas_for c.f) + replicas_for c.f = omega (arith, k.max_faulty) in
    let voters = sym (said_votes c number votes d.0 h) in
    let signed : ◌≡◌ {A = ℕ → Option (Signed Body)} value (λ signer. option_map (as_message bodies.Checkpoint) (said_by votes signer)) = λ j i. sym (as_signed c number votes h i) j in
    ap (λ n. gathered (is_least n (voted_for d.0 votes)) value 10) all
    ∙ ap (gathered (is_least (quorum c) (voted_for d.0 votes)) value) sum
    ∙ gathered_up_to (is_least (quorum c) (voted_for d.0 votes)) value (replicas_for c.f) (10 - replicas_for c.f) (λ i beyond. ap (option_map (λ m. m.message)) (listed c number votes h i beyond))
    ∙ (λ j. gathered (is_least (quorum c) (voters j)) (signed j) (replicas_for c.f))
    ∙ sym (map_filter (as_message bodies.Checkpoint) (is_least (quorum c) (said (said_by votes) number d.0)) (said_by votes) (numbers_from 0 (replicas_for c.f)))

-- ---- ballots that change

pub empty_ballot : (c : Configuration) (number : ℕ) → IsBallotAt c number no_votes
empty_ballot c number = record { each = λ signer m e. no_some m (sym (nobody 10 signer) ∙ e); ten = refl }

pub nothing_in : ◌≡◌ {A = ℕ → Option (Signed Checkpoint)} (said_by no_votes) (λ i. None)
nothing_in = λ k i. ap as_checkpoint (nobody 10 i) k

pub either_ballot : (c : Configuration) (number : ℕ) (b : Bool) (votes : Ballot) → IsBallotAt c number votes → IsBallotAt c number (cond b votes no_votes)
either_ballot c number true votes h = h
either_ballot c number false votes h = empty_ballot c number

ballot_recorded : (c : Configuration) (number : ℕ) (votes : Ballot) (m : CheckedMessage) → IsBallotAt c number votes → IsCheckpointAt c number m → IsBallotAt c number (recorded votes m)
ballot_recorded c number votes m h is = record { each = each; ten = length-set votes m.message.id (Some m) ∙ h.ten } where
  each : (signer : ℕ) (other : CheckedMessage) → vote_at (recorded votes m) signer ≡ Some other → IsCheckpointAt c number other × (other.message.id ≡ signer)
  each signer other e = step (cases_eq signer m.message.id) where
    step : (signer ≡ m.message.id) ⊎ (signer ≢ m.message.id) → IsCheckpointAt c number other × (other.message.id ≡ signer)
    step (inl at) =
        let same = own_vote votes m other (ap (vote_at (recorded votes m)) (sym at) ∙ e) (cases_lt m.message.id (length votes)) in
        (subst (IsCheckpointAt c number) same is, ap (λ k. k.message.id) (sym same) ∙ sym at)
    step (inr ne) = h.each signer other (sym (get_or-set_other votes m.message.id signer (Some m) None ne) ∙ e)

pub ballot_after : (c : Configuration) (number : ℕ) (votes : Ballot) (m : CheckedMessage) → IsBallotAt c number votes → IsCheckpointAt c number m → IsBallotAt c number (with_first m votes)
ballot_after c number votes m h is = pick (is_some (vote_at votes m.message.id)) where
  pick : (b : Bool) → IsBallotAt c number (cond b votes (recorded votes m))
  pick true = h
  pick false = ballot_recorded c number votes m h is

-- what is said after one more vote: the first counts
pub said_after : (votes : Ballot) (m : CheckedMessage) (i : ℕ) → m.message.id < length votes → said_by (with_first m votes) i ≡ cond ((i == m.message.id) && not (is_some (vote_at votes m.message.id))) (checkpoint_of m.message) (said_by votes i)
said_after votes m i below = ap as_checkpoint (first_at votes m i (is_some (vote_at votes m.message.id)) below) ∙ pick ((i == m.message.id) && not (is_some (vote_at votes m.message.id))) where
  pick : (b : Bool) → as_checkpoint (cond b (Some m) (vote_at votes i)) ≡ cond b (checkpoint_of m.message) (said_by votes i)
  pick true = refl
  pick false = refl

-- ---- what a checked Checkpoint is

pub record IsByReplica (c : Configuration) (m : CheckedMessage) : Type 0 where
  pub role : m.message.role ≡ Replica
  pub listed : m.message.id < replicas_for c.f

by_replica : (c : Configuration) (role : Role) (id : ℕ) (b : Checkpoint) (key : PublicKey) → IsConfiguration c → key_of c role id ≡ Some key → IsTrue (may_sign c role id (bodies.Checkpoint b)) → (role ≡ Replica) × (id < replicas_for c.f)
by_replica c Replica id b key k e may = (refl, omega (arith, slice_get_within c.keys id key e, k.a_key_each))
by_replica c Client id b key k e may = absurd cc

pub checkpoint_at : (c : Configuration) (m : CheckedMessage) (b : Checkpoint) → IsConfiguration c → m.config ≡ c → IsChecked m → m.message.body ≡ bodies.Checkpoint b → IsCheckpointAt c b.number.0 m
checkpoint_at c m b k under h is =
    let a = h.authentic.0 in
    let w = by_replica c m.message.role m.message.id b a.key k (ap (λ d. key_of d m.message.role m.message.id) (sym under) ∙ a.listed)
    (subst (λ (d : Configuration). IsTrue (may_sign d m.message.role m.message.id (bodies.Checkpoint b))) under (subst (λ (x : Body). IsTrue (may_sign m.config m.message.role m.message.id x)) is a.role)) in
    record { config = under; said = b; is = is; of_number = refl; role = w.0; listed = w.1 }
