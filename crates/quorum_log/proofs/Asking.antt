-- What is read off a slot is what the log has there.
use Rattle.std.proofs.Common.{◌≡◌, ℕ, ◌+◌, ◌-◌, ◌*◌, ◌%◌, ◌<◌, ◌≤◌, ◌==◌, Bool, true, false, cond, not, ◌&&◌, List, Bor, length, Option, Some, None, refl, sym, ap, subst, ◌∙◌, arith, ◌⊎◌, inl, inr}
use Rattle.std.specs.Prelude.{is_some, nat_lt, nat_le, bytes_eq, if◌then◌else◌}
use Rattle.std.specs.Option.{option_copied, option_map, unwrap_or}
use Rattle.std.proofs.Math.Nat.{mod-lt}
use Rattle.std.proofs.lemmas.Slice.Eq.{bytes_eq-Decides}
use Rattle.std.proofs.lemmas.Bool.{cases_Bool, cases_lt, eq-eqb, le-leb, le-ltb, lt-ltb, ltb-true}
use Rattle.host_types.specs.Configuration.{Configuration, IsConfiguration, replicas_for}
use Rattle.host_types.specs.declared.SeqNo.{SeqNo}
use Rattle.pbft_codec.specs.declared.body.Body.{Body}
use Rattle.pbft_codec.specs.declared.body.Body.TheVariants as bodies
use Rattle.pbft_codec.specs.declared.signed.Role.{Role}
use Rattle.pbft_codec.specs.declared.signed.Role.TheVariants.{Replica}
use Rattle.ballots.specs.Words.{Signed, PrePrepare}
use Rattle.ballots.specs.Acts.{with_body}
use Rattle.ballots.specs.Certificates.{Fields, of_pre_prepare, of_prepare, of_commit, same_fields, is_by, some_by, voted, certified, has_quorum}
use Rattle.ballots.specs.Core.{if_passes, has_position}
use Rattle.ballots.specs.Setup.{count, is_replica}
use Rattle.ballots.specs.Tables.{at}
use Rattle.seal.specs.Opening.{CheckedMessage}
use Rattle.seal.specs.Votes.{vote_in}
use Rattle.seal.specs.declared.vote.Vote.{Vote}
use Rattle.seal.specs.declared.vote.VoteKind.{VoteKind}
use Rattle.seal.specs.declared.vote.VoteKind.TheVariants as kinds
use Rattle.quorum_log.specs.declared.view_slots.ViewSlots.{ViewSlots}
use Rattle.quorum_log.specs.declared.slot.Slot.{Slot}
use Rattle.quorum_log.specs.Asking.{Represents}
use Rattle.ballots.specs.Ballots.{Ballot, AreListed, AreUnder, digest_in, is_digest, is_for, vote_at, voted_for}
use Rattle.quorum_log.specs.Log.{KeptLog, Log, certified_at, if_certified, is_certified_in, is_committed_at, is_committed_by, proposal_in}
use Rattle.quorum_log.specs.Reading.{AreKept, as_pre_prepare, as_prepare, as_commit, log_in, read_by}
use Rattle.quorum_log.specs.Slots.{AreVotesAt, IsVoteAt, digest_here, digest_of_some, empty_slot, is_certified_for, is_certified_here, is_committed_for, is_committed_here}
use Rattle.quorum_log.specs.Windows.{if_by, index_in, slot_of, slots_at}
use Rattle.quorum_log.proofs.Accepting.{slot_was}
use Rattle.quorum_log.proofs.Windows.{beyond}
use Rattle.ballots.proofs.Counts.{same_count}
use Rattle.quorum_log.proofs.KindReadings.{kind_of, proposer, voter_listed}
use Rattle.quorum_log.proofs.Logging.{read_at, vote_is}

pub represents_slot : (c : Configuration) (v : ℕ) (floor : Option SeqNo) (low : ℕ) (numbers : List ViewSlots) (view number : ℕ) → AreKept c low numbers → Represents c (log_in v floor low numbers) view number (slot_of low numbers number view)
represents_slot c v floor low numbers view number h = record {
  is = h.slots number view;
  pre_prepares = λ i lt. read_at as_pre_prepare kinds.PrePrepare low number view i numbers lt;
  prepares = λ i lt. read_at as_prepare kinds.Prepare low number view i numbers lt;
  commits = λ i lt. read_at as_commit kinds.Commit low number view i numbers lt;
}

abbrev pub fields : ℕ → ℕ → List ℕ → Fields
fields view number digest = record { view = view; number = number; digest = digest }

primary_below : (c : Configuration) (view : ℕ) → IsConfiguration c → view % replicas_for c.f < 10
primary_below c view k =
    let below : view % replicas_for c.f < replicas_for c.f = mod-lt view (omega arith) in
    omega (arith, below, k.max_faulty)

-- ---- a vote passes the test of its own view and number

all_but_last : (a b d e x : Bool) → a ≡ true → b ≡ true → d ≡ true → e ≡ true → (a && (b && (d && (e && x)))) ≡ x
all_but_last true true true true x f g h i = refl
all_but_last false b d e x f g h i = absurd cc
all_but_last true false d e x f g h i = absurd cc
all_but_last true true false e x f g h i = absurd cc
all_but_last true true true false x f g h i = absurd cc

replica_is : (r : Role) → r ≡ Replica → is_replica r ≡ true
replica_is r e = ap is_replica e

-- the fields of a vote at its view and number
record Positioned (m : CheckedMessage) (view number : ℕ) (v w : ℕ) : Type 0 where
  pub role : is_replica m.message.role ≡ true
  pub view_is : (v == view) ≡ true
  pub number_is : (w == number) ≡ true

positioned : (c : Configuration) (view number : ℕ) (m : CheckedMessage) (x : Vote) (h : IsVoteAt c x.kind view number m) → Some x ≡ Some h.vote → Positioned m view number x.view.0 x.number.0
positioned c view number m x h e = record {
  role = replica_is m.message.role h.proper.role;
  view_is = eq-eqb x.view.0 view (ap (λ (v : Vote). v.view.0) (vote_is x h.vote e) ∙ h.of_view);
  number_is = eq-eqb x.number.0 number (ap (λ (v : Vote). v.number.0) (vote_is x h.vote e) ∙ h.of_number);
}

none_is : {v : Vote} → None ≡ Some v → ⊥
none_is e = absurd cc

-- ---- Prepares and Commits

prepare_voted : (c : Configuration) (view number i : ℕ) (digest : List ℕ) (m : CheckedMessage) → IsVoteAt c kinds.Prepare view number m → m.message.id ≡ i → (body : Body) → m.message.body ≡ body
    → some_by i (λ b. same_fields (of_prepare b) (fields view number digest)) (as_prepare m.message body) ≡ is_digest digest (digest_in body)
prepare_voted c view number i digest m h id (bodies.Prepare b) e =
    let p = positioned c view number m (record { kind = kinds.Prepare; view = b.view; number = b.number; digest = b.digest; signer = record { 0 = m.message.id } }) h (ap (vote_in m.message.id) (sym e) ∙ h.is) in
    all_but_last (is_replica m.message.role) (m.message.id == i) (b.view.0 == view) (b.number.0 == number) (bytes_eq b.digest.0 digest) p.role (eq-eqb m.message.id i id) p.view_is p.number_is
prepare_voted c view number i digest m h id (bodies.PrePrepare b) e = absurd (no (ap kind_of (ap (vote_in m.message.id) (sym e) ∙ h.is) ∙ ap Some h.of_kind)) where
  no : Some kinds.PrePrepare ≡ Some kinds.Prepare → ⊥
  no e = absurd cc
prepare_voted c view number i digest m h id (bodies.Commit b) e = absurd (no (ap kind_of (ap (vote_in m.message.id) (sym e) ∙ h.is) ∙ ap Some h.of_kind)) where
  no : Some kinds.Commit ≡ Some kinds.Prepare → ⊥
  no e = absurd cc
prepare_voted c view number i digest m h id _ e = absurd (none_is (ap (vote_in m.message.id) (sym e) ∙ h.is))

commit_voted : (c : Configuration) (view number i : ℕ) (digest : List ℕ) (m : CheckedMessage) → IsVoteAt c kinds.Commit view number m → m.message.id ≡ i → (body : Body) → m.message.body ≡ body
    → some_by i (λ b. same_fields (of_commit b) (fields view number digest)) (as_commit m.message body) ≡ is_digest digest (digest_in body)
commit_voted c view number i digest m h id (bodies.Commit b) e =
    let p = positioned c view number m (record { kind = kinds.Commit; view = b.view; number = b.number; digest = b.digest; signer = record { 0 = m.message.id } }) h (ap (vote_in m.message.id) (sym e) ∙ h.is) in
    all_but_last (is_replica m.message.role) (m.message.id == i) (b.view.0 == view) (b.number.0 == number) (bytes_eq b.digest.0 digest) p.role (eq-eqb m.message.id i id) p.view_is p.number_is
commit_voted c view number i digest m h id (bodies.PrePrepare b) e = absurd (no (ap kind_of (ap (vote_in m.message.id) (sym e) ∙ h.is) ∙ ap Some h.of_kind)) where
  no : Some kinds.PrePrepare ≡ Some kinds.Commit → ⊥
  no e = absurd cc
commit_voted c view number i digest m h id (bodies.Prepare b) e = absurd (no (ap kind_of (ap (vote_in m.message.id) (sym e) ∙ h.is) ∙ ap Some h.of_kind)) where
  no : Some kinds.Prepare ≡ Some kinds.Commit → ⊥
  no e = absurd cc
commit_voted c view number i digest m h id _ e = absurd (none_is (ap (vote_in m.message.id) (sym e) ∙ h.is))

prepares_at : (c : Configuration) (view number i : ℕ) (digest : List ℕ) (o : Option CheckedMessage) → ((m : CheckedMessage) → o ≡ Some m → IsVoteAt c kinds.Prepare view number m × (m.message.id ≡ i))
    → some_by i (λ b. same_fields (of_prepare b) (fields view number digest)) (read_by as_prepare o) ≡ is_for digest o
prepares_at c view number i digest None h = refl
prepares_at c view number i digest (Some m) h = let is = h m refl in prepare_voted c view number i digest m is.0 is.1 m.message.body refl

commits_at : (c : Configuration) (view number i : ℕ) (digest : List ℕ) (o : Option CheckedMessage) → ((m : CheckedMessage) → o ≡ Some m → IsVoteAt c kinds.Commit view number m × (m.message.id ≡ i))
    → some_by i (λ b. same_fields (of_commit b) (fields view number digest)) (read_by as_commit o) ≡ is_for digest o
commits_at c view number i digest None h = refl
commits_at c view number i digest (Some m) h = let is = h m refl in commit_voted c view number i digest m is.0 is.1 m.message.body refl

pub prepared_by : (c : Configuration) (l : Log) (view number : ℕ) (s : Slot) (digest : List ℕ) → Represents c l view number s → (i : ℕ) → i < 10 → voted of_prepare l.prepares (fields view number digest) i ≡ voted_for digest s.prepares i
prepared_by c l view number s digest h i lt =
    ap (some_by i (λ b. same_fields (of_prepare b) (fields view number digest))) (h.prepares i lt)
    ∙ prepares_at c view number i digest (vote_at s.prepares i) (h.is.prepares i)

committed_by : (c : Configuration) (l : Log) (view number : ℕ) (s : Slot) (digest : List ℕ) → Represents c l view number s → (i : ℕ) → i < 10 → voted of_commit l.commits (fields view number digest) i ≡ voted_for digest s.commits i
committed_by c l view number s digest h i lt =
    ap (some_by i (λ b. same_fields (of_commit b) (fields view number digest))) (h.commits i lt)
    ∙ commits_at c view number i digest (vote_at s.commits i) (h.is.commits i)

-- only listed replicas have voted
pub unlisted : (c : Configuration) (view number : ℕ) (kind : VoteKind) (votes : Ballot) (i : ℕ) (o : Option CheckedMessage) → replicas_for c.f ≤ i → ((m : CheckedMessage) → o ≡ Some m → IsVoteAt c kind view number m × (m.message.id ≡ i)) → o ≡ None
unlisted c view number kind votes i None le h = refl
unlisted c view number kind votes i (Some m) le h = let is = h m refl in absurd (omega (arith, voter_listed c view number kind m is.0, is.1, le))

pub votes_listed : (c : Configuration) (view number : ℕ) (kind : VoteKind) (votes : Ballot) → AreVotesAt c kind view number votes → AreListed c votes
votes_listed c view number kind votes h i le = unlisted c view number kind votes i (vote_at votes i) le (h i)

pub votes_under : (c : Configuration) (view number : ℕ) (kind : VoteKind) (votes : Ballot) → AreVotesAt c kind view number votes → AreUnder c votes
votes_under c view number kind votes h i m e = (h i m e).0.config

-- ---- the proposal

-- a recorded PrePrepare, as the log has it
pub record Proposes (c : Configuration) (view number : ℕ) (m : CheckedMessage) : Type 0 where
  pub body : PrePrepare
  pub is : m.message.body ≡ bodies.PrePrepare body
  pub view_is : body.view.0 ≡ view
  pub number_is : body.number.0 ≡ number
  pub by_primary : is_by (view % replicas_for c.f) (has_position view number) (with_body m.message body) ≡ true

four_true : (a b d e : Bool) → a ≡ true → b ≡ true → d ≡ true → e ≡ true → (a && (b && (d && e))) ≡ true
four_true true true true true f g h i = refl
four_true false b d e f g h i = absurd cc
four_true true false d e f g h i = absurd cc
four_true true true false e f g h i = absurd cc
four_true true true true false f g h i = absurd cc

pub proposes : (c : Configuration) (view number : ℕ) (m : CheckedMessage) → IsVoteAt c kinds.PrePrepare view number m → (body : Body) → m.message.body ≡ body → Proposes c view number m
proposes c view number m h (bodies.PrePrepare b) e =
    let x : Vote = record { kind = kinds.PrePrepare; view = b.view; number = b.number; digest = b.digest; signer = record { 0 = m.message.id } } in
    let same = vote_is x h.vote (ap (vote_in m.message.id) (sym e) ∙ h.is) in
    let v = ap (λ (v : Vote). v.view.0) same ∙ h.of_view in
    let n = ap (λ (v : Vote). v.number.0) same ∙ h.of_number in
    record {
      body = b;
      is = e;
      view_is = v;
      number_is = n;
      by_primary = four_true (is_replica m.message.role) (m.message.id == view % replicas_for c.f) (b.view.0 == view) (b.number.0 == number)
          (replica_is m.message.role h.proper.role) (eq-eqb m.message.id (view % replicas_for c.f) (proposer c view number m h)) (eq-eqb b.view.0 view v) (eq-eqb b.number.0 number n);
    }
proposes c view number m h (bodies.Prepare b) e = absurd (no (ap kind_of (ap (vote_in m.message.id) (sym e) ∙ h.is) ∙ ap Some h.of_kind)) where
  no : Some kinds.Prepare ≡ Some kinds.PrePrepare → ⊥
  no e = absurd cc
proposes c view number m h (bodies.Commit b) e = absurd (no (ap kind_of (ap (vote_in m.message.id) (sym e) ∙ h.is) ∙ ap Some h.of_kind)) where
  no : Some kinds.Commit ≡ Some kinds.PrePrepare → ⊥
  no e = absurd cc
proposes c view number m h _ e = absurd (none_is (ap (vote_in m.message.id) (sym e) ∙ h.is))

-- the PrePrepare that the log has
found_proposal : (c : Configuration) (l : Log) (view number : ℕ) (s : Slot) → IsConfiguration c → Represents c l view number s → (o : Option CheckedMessage) → s.pre_prepare ≡ o → ((m : CheckedMessage) → o ≡ Some m → IsVoteAt c kinds.PrePrepare view number m)
    → proposal_in c l view number ≡ read_by as_pre_prepare o
found_proposal c l view number s k h None e is =
    let p = view % replicas_for c.f in
    ap (if_passes (is_by p (has_position view number))) (h.pre_prepares p (primary_below c view k) ∙ ap (λ o. read_by as_pre_prepare (if_by p o)) e)
found_proposal c l view number s k h (Some m) e is =
    let p = view % replicas_for c.f in
    let x = proposes c view number m (is m refl) m.message.body refl in
    ap (if_passes (is_by p (has_position view number))) (h.pre_prepares p (primary_below c view k) ∙ ap (λ o. read_by as_pre_prepare (if_by p o)) e
    ∙ ap (λ b. read_by as_pre_prepare (cond b (Some m) None)) (eq-eqb m.message.id p (proposer c view number m (is m refl)))
    ∙ ap (as_pre_prepare m.message) x.is)
    ∙ ap (λ b. if b then Some (with_body m.message x.body) else None) x.by_primary
    ∙ sym (ap (as_pre_prepare m.message) x.is)

pub proposal_is : (c : Configuration) (l : Log) (view number : ℕ) (s : Slot) → IsConfiguration c → Represents c l view number s → proposal_in c l view number ≡ read_by as_pre_prepare s.pre_prepare
proposal_is c l view number s k h = found_proposal c l view number s k h s.pre_prepare refl h.is.pre_prepare

digest_read : (c : Configuration) (view number : ℕ) (o : Option CheckedMessage) → ((m : CheckedMessage) → o ≡ Some m → IsVoteAt c kinds.PrePrepare view number m) → option_map (λ m. m.body.digest) (read_by as_pre_prepare o) ≡ digest_of_some o
digest_read c view number None is = refl
digest_read c view number (Some m) is =
    let x = proposes c view number m (is m refl) m.message.body refl in
    ap (λ b. option_map (λ m. m.body.digest) (as_pre_prepare m.message b)) x.is ∙ sym (ap digest_in x.is)

pub digest_is : (c : Configuration) (l : Log) (view number : ℕ) (s : Slot) → IsConfiguration c → Represents c l view number s → digest_here s ≡ option_map (λ m. m.body.digest) (proposal_in c l view number)
digest_is c l view number s k h = sym (ap (option_map (λ m. m.body.digest)) (proposal_is c l view number s k h) ∙ digest_read c view number s.pre_prepare h.is.pre_prepare)

equal_itself : (xs : List ℕ) → bytes_eq xs xs ≡ true
equal_itself xs = (bytes_eq-Decides xs xs).1 refl

-- ---- certified and committed

is_certified_at : (c : Configuration) (l : Log) (view number : ℕ) (s : Slot) (digest : List ℕ) → IsConfiguration c → Represents c l view number s
    → voted of_pre_prepare l.pre_prepares (fields view number digest) (view % replicas_for c.f) ≡ true
    → is_certified_in c l (fields view number digest) ≡ certified c (λ i. true) (voted_for digest s.prepares) view
is_certified_at c l view number s digest k h proposed =
    let p = view % replicas_for c.f in
    ap (λ b. b && nat_le (2 * c.f) (count (λ i. not (i == p) && voted of_prepare l.prepares (fields view number digest) i) (replicas_for c.f))) proposed
    ∙ ap (nat_le (2 * c.f)) (same_count (λ i. not (i == p) && voted of_prepare l.prepares (fields view number digest) i) (λ i. not (i == p) && voted_for digest s.prepares i) (replicas_for c.f)
    (λ i lt. ap (λ b. not (i == p) && b) (prepared_by c l view number s digest h i (omega (arith, lt, k.max_faulty)))))

quorum_at : (c : Configuration) (l : Log) (view number : ℕ) (s : Slot) (digest : List ℕ) → IsConfiguration c → Represents c l view number s
    → has_quorum c (voted of_commit l.commits (fields view number digest)) ≡ has_quorum c (voted_for digest s.commits)
quorum_at c l view number s digest k h =
    ap (nat_le (2 * c.f + 1)) (same_count (voted of_commit l.commits (fields view number digest)) (voted_for digest s.commits) (replicas_for c.f)
    (λ i lt. committed_by c l view number s digest h i (omega (arith, lt, k.max_faulty))))

-- what is asked of a recorded PrePrepare
pub record Asked (c : Configuration) (l : Log) (view number : ℕ) (s : Slot) (m : CheckedMessage) : Type 0 where
  pub body : PrePrepare
  pub is : m.message.body ≡ bodies.PrePrepare body
  pub fields_are : of_pre_prepare body ≡ fields view number body.digest.0
  pub certified_is : is_certified_in c l (of_pre_prepare body) ≡ is_certified_for c view s (Some body.digest)
  pub quorum_is : has_quorum c (voted of_commit l.commits (of_pre_prepare body)) ≡ has_quorum c (voted_for body.digest.0 s.commits)

own_vote : (c : Configuration) (l : Log) (view number : ℕ) (s : Slot) (m : CheckedMessage) → IsConfiguration c → Represents c l view number s → s.pre_prepare ≡ Some m → (h : IsVoteAt c kinds.PrePrepare view number m) → (x : Proposes c view number m)
    → voted of_pre_prepare l.pre_prepares (fields view number x.body.digest.0) (view % replicas_for c.f) ≡ true
own_vote c l view number s m k h e is x =
    let p = view % replicas_for c.f in
    let f = fields view number x.body.digest.0 in
    ap (some_by p (λ b. same_fields (of_pre_prepare b) f)) (h.pre_prepares p (primary_below c view k) ∙ ap (λ o. read_by as_pre_prepare (if_by p o)) e
    ∙ ap (λ b. read_by as_pre_prepare (cond b (Some m) None)) (eq-eqb m.message.id p (proposer c view number m is)) ∙ ap (as_pre_prepare m.message) x.is)
    ∙ all_but_last (is_replica m.message.role) (m.message.id == p) (x.body.view.0 == view) (x.body.number.0 == number) (bytes_eq x.body.digest.0 x.body.digest.0)
    (replica_is m.message.role is.proper.role) (eq-eqb m.message.id p (proposer c view number m is)) (eq-eqb x.body.view.0 view x.view_is) (eq-eqb x.body.number.0 number x.number_is)
    ∙ equal_itself x.body.digest.0

pub asked : (c : Configuration) (l : Log) (view number : ℕ) (s : Slot) (m : CheckedMessage) → IsConfiguration c → Represents c l view number s → s.pre_prepare ≡ Some m → IsVoteAt c kinds.PrePrepare view number m → Asked c l view number s m
asked c l view number s m k h e is =
    let x = proposes c view number m is m.message.body refl in
    let f : of_pre_prepare x.body ≡ fields view number x.body.digest.0 = λ i. record { view = x.view_is i; number = x.number_is i; digest = x.body.digest.0 } in
    record {
      body = x.body;
      is = x.is;
      fields_are = f;
      certified_is = ap (is_certified_in c l) f ∙ is_certified_at c l view number s x.body.digest.0 k h (own_vote c l view number s m k h e is x);
      quorum_is = ap (λ f. has_quorum c (voted of_commit l.commits f)) f ∙ quorum_at c l view number s x.body.digest.0 k h;
    }

-- the three questions, where the PrePrepare is this one
some_if : {X : Type 0} (b : Bool) (x : X) → is_some (if b then Some x else None) ≡ b
some_if true x = refl
some_if false x = refl

certified_with : (c : Configuration) (l : Log) (view number : ℕ) (s : Slot) → IsConfiguration c → Represents c l view number s → (o : Option CheckedMessage) → s.pre_prepare ≡ o
    → is_some (if_certified c l (read_by as_pre_prepare o)) ≡ is_certified_for c view s (digest_of_some o)
certified_with c l view number s k h None e = refl
certified_with c l view number s k h (Some m) e =
    let a = asked c l view number s m k h e (h.is.pre_prepare m e) in
    ap (λ b. is_some (if_certified c l (as_pre_prepare m.message b))) a.is
    ∙ some_if (is_certified_in c l (of_pre_prepare a.body)) (with_body m.message a.body)
    ∙ a.certified_is ∙ sym (ap (λ b. is_certified_for c view s (digest_in b)) a.is)

pub certified_is : (c : Configuration) (l : Log) (view number : ℕ) (s : Slot) → IsConfiguration c → Represents c l view number s → is_certified_here c view s ≡ is_some (certified_at c l view number)
certified_is c l view number s k h =
    sym (ap (λ o. is_some (if_certified c l o)) (proposal_is c l view number s k h) ∙ certified_with c l view number s k h s.pre_prepare refl)

committed_if : (c : Configuration) (l : Log) (b : Bool) (m : Signed PrePrepare) → is_committed_by c l (if b then Some m else None) ≡ (b && has_quorum c (voted of_commit l.commits (of_pre_prepare m.body)))
committed_if c l true m = refl
committed_if c l false m = refl

committed_with : (c : Configuration) (l : Log) (view number : ℕ) (s : Slot) → IsConfiguration c → Represents c l view number s → (o : Option CheckedMessage) → s.pre_prepare ≡ o
    → is_committed_by c l (if_certified c l (read_by as_pre_prepare o)) ≡ is_committed_for c view s (digest_of_some o)
committed_with c l view number s k h None e = refl
committed_with c l view number s k h (Some m) e =
    let a = asked c l view number s m k h e (h.is.pre_prepare m e) in
    ap (λ b. is_committed_by c l (if_certified c l (as_pre_prepare m.message b))) a.is
    ∙ committed_if c l (is_certified_in c l (of_pre_prepare a.body)) (with_body m.message a.body)
    ∙ ap (λ b. b && has_quorum c (voted of_commit l.commits (of_pre_prepare a.body))) a.certified_is
    ∙ ap (λ b. is_certified_for c view s (Some a.body.digest) && b) a.quorum_is
    ∙ sym (ap (λ b. is_committed_for c view s (digest_in b)) a.is)

pub committed_is : (c : Configuration) (l : Log) (view number : ℕ) (s : Slot) → IsConfiguration c → Represents c l view number s → is_committed_here c view s ≡ is_committed_at c l view number
committed_is c l view number s k h =
    sym (ap (λ o. is_committed_by c l (if_certified c l o)) (proposal_is c l view number s k h) ∙ committed_with c l view number s k h s.pre_prepare refl)

-- ---- the slot that is asked for

both : (a b : Bool) → (a && b) ≡ true → (a ≡ true) × (b ≡ true)
both true true e = (refl, refl)
both true false e = absurd cc
both false b e = absurd cc

within_low : (low span number index : ℕ) → ((nat_lt low number && nat_le number (low + span)) ≡ true) ⊎ ((nat_lt low number && nat_le number (low + span)) ≡ false) → index_in low span number ≡ Some index → low < number
within_low low span number index (inl t) e = ltb-true low number (both (nat_lt low number) (nat_le number (low + span)) t).0
within_low low span number index (inr f) e = absurd (none_some (sym (ap (λ b. cond b (Some (number - low - 1)) None) f) ∙ e)) where
  none_some : None ≡ Some index → ⊥
  none_some e = absurd cc

within_is : (low span number index : ℕ) → ((nat_lt low number && nat_le number (low + span)) ≡ true) ⊎ ((nat_lt low number && nat_le number (low + span)) ≡ false) → index_in low span number ≡ Some index → number - low - 1 ≡ index
within_is low span number index (inl t) e = the_same (sym (ap (λ b. cond b (Some (number - low - 1)) None) t) ∙ e) where
  the_same : Some (number - low - 1) ≡ Some index → number - low - 1 ≡ index
  the_same e = cc
within_is low span number index (inr f) e = absurd (none_some (sym (ap (λ b. cond b (Some (number - low - 1)) None) f) ∙ e)) where
  none_some : None ≡ Some index → ⊥
  none_some e = absurd cc

slot_outside : (low : ℕ) (numbers : List ViewSlots) (view number : ℕ) → (low < number) ⊎ (number ≤ low) → (low + length numbers < number) ⊎ (number ≤ low + length numbers) → index_in low (length numbers) number ≡ None → slot_of low numbers number view ≡ empty_slot
slot_outside low numbers view number (inr le) o out = ap (λ b. cond b (slots_at numbers (number - low - 1) view) empty_slot) (le-ltb low number le)
slot_outside low numbers view number (inl lt) (inl past) out = slot_was low number view numbers lt ∙ beyond numbers (number - low - 1) view (omega (arith, past))
slot_outside low numbers view number (inl lt) (inr le) out =
    absurd (none_some (sym out ∙ ap (λ b. cond (b && nat_le number (low + length numbers)) (Some (number - low - 1)) None) (lt-ltb low number lt) ∙ ap (λ b. cond b (Some (number - low - 1)) None) (le-leb number (low + length numbers) le))) where
      none_some : None ≡ Some (number - low - 1) → ⊥
      none_some e = absurd cc

pub represents_at : (c : Configuration) (v : ℕ) (floor : Option SeqNo) (low : ℕ) (numbers : List ViewSlots) (view number index : ℕ) (k : KeptLog) (s : Slot) → AreKept c low numbers → ◌≡◌ {A = KeptLog} (record { config = c; log = log_in v floor low numbers }) k
    → index_in low (length numbers) number ≡ Some index → s ≡ slots_at numbers index view → Represents k.config k.log view number s
represents_at c v floor low numbers view number index k s h viewed at e =
    subst (λ (k : KeptLog). Represents k.config k.log view number s) viewed
    (subst (Represents c (log_in v floor low numbers) view number) (slot_was low number view numbers (within_low low (length numbers) number index (cases_Bool (nat_lt low number && nat_le number (low + length numbers))) at) ∙ ap (λ i. slots_at numbers i view) (within_is low (length numbers) number index (cases_Bool (nat_lt low number && nat_le number (low + length numbers))) at) ∙ sym e)
    (represents_slot c v floor low numbers view number h))

pub represents_outside : (c : Configuration) (v : ℕ) (floor : Option SeqNo) (low : ℕ) (numbers : List ViewSlots) (view number : ℕ) (k : KeptLog) (r : Option (Bor Slot)) → AreKept c low numbers → ◌≡◌ {A = KeptLog} (record { config = c; log = log_in v floor low numbers }) k
    → index_in low (length numbers) number ≡ None → r ≡ None → Represents k.config k.log view number (unwrap_or (option_copied r) empty_slot)
represents_outside c v floor low numbers view number k r h viewed out e =
    subst (λ (k : KeptLog). Represents k.config k.log view number (unwrap_or (option_copied r) empty_slot)) viewed
    (subst (Represents c (log_in v floor low numbers) view number) (slot_outside low numbers view number (cases_lt low number) (cases_lt (low + length numbers) number) out ∙ sym (ap (λ o. unwrap_or (option_copied o) empty_slot) e))
    (represents_slot c v floor low numbers view number h))
