-- Votes read as messages of their kind.
use Rattle.std.proofs.Common.{◌≡◌, ◌≢◌, ℕ, ◌<◌, ◌%◌, Bool, true, false, cond, not, ◌==◌, ◌&&◌, List, Option, Some, None, refl, sym, ap, subst, ◌∙◌, arith, ◌⊎◌, inl, inr}
use Rattle.std.specs.Prelude.{is_some}
use Rattle.std.specs.Option.{option_map}
use Rattle.std.proofs.lemmas.Bool.{eq-eqb}
use Rattle.std.proofs.lemmas.Bool.Decides.{eqb_tells}
use Rattle.host_types.specs.Configuration.{Configuration, IsConfiguration, replicas_for}
use Rattle.pbft_codec.specs.declared.body.Body.{Body}
use Rattle.pbft_codec.specs.declared.body.Body.TheVariants as bodies
use Rattle.ballots.specs.Words.{Signed}
use Rattle.ballots.specs.Certificates.{of_pre_prepare, of_prepare, of_commit}
use Rattle.seal.specs.Opening.{CheckedMessage}
use Rattle.seal.specs.Parts.{as_message}
use Rattle.seal.specs.Signers.{primary_of}
use Rattle.seal.specs.Votes.{vote_in}
use Rattle.seal.specs.declared.vote.Vote.{Vote}
use Rattle.seal.specs.declared.vote.VoteKind.{VoteKind}
use Rattle.seal.specs.declared.vote.VoteKind.TheVariants.{PrePrepare, Prepare, Commit}
use Rattle.quorum_log.specs.declared.slot.Slot.{Slot}
use Rattle.ballots.specs.Ballots.{digest_in, is_digest, is_for_other, first_of}
use Rattle.quorum_log.specs.Log.{is_other}
use Rattle.quorum_log.specs.Reading.{as_pre_prepare, as_prepare, as_commit, read_by}
use Rattle.quorum_log.specs.Slots.{IsVoteAt, IsSlotAt, met_by, with_vote}
use Rattle.quorum_log.specs.Windows.{if_by, vote_by}
use Rattle.quorum_log.proofs.Recording.{AfterFirst}

abbrev pub kind_of : Option Vote → Option VoteKind
kind_of o = option_map (λ v. v.kind) o

abbrev pub signer_in : Option Vote → Option ℕ
signer_in o = option_map (λ v. v.signer.0) o

-- who votes signed the message
pub signer_is : (id : ℕ) (body : Body) (v : Vote) → vote_in id body ≡ Some v → v.signer.0 ≡ id
signer_is id (bodies.PrePrepare b) v e = the_same (ap signer_in e) where
  the_same : Some id ≡ Some v.signer.0 → v.signer.0 ≡ id
  the_same e = cc
signer_is id (bodies.Prepare b) v e = the_same (ap signer_in e) where
  the_same : Some id ≡ Some v.signer.0 → v.signer.0 ≡ id
  the_same e = cc
signer_is id (bodies.Commit b) v e = the_same (ap signer_in e) where
  the_same : Some id ≡ Some v.signer.0 → v.signer.0 ≡ id
  the_same e = cc
signer_is id _ v e = absurd cc

-- What a vote of its kind reads as: it has a reading, and that one's digest is the vote's.
record ReadsAs {B : Type 0} (of : List ℕ → Option (Signed B) → Bool) (body : Body) (o : Option (Signed B)) : Type 0 where
  pub reads : is_some o ≡ true
  pub other : (digest : List ℕ) → of digest o ≡ not (is_digest digest (digest_in body))

wrong : {A : Type 0} (v : Vote) (k l : VoteKind) → Some k ≡ Some v.kind → v.kind ≡ l → (k ≡ l → ⊥) → A
wrong v k l e f ne = absurd (ne (the_same e ∙ f)) where
  the_same : Some k ≡ Some v.kind → k ≡ v.kind
  the_same e = cc

none_vote : {v : Vote} → None ≡ Some v → ⊥
none_vote e = absurd cc

pre_prepare_reads : (m : Signed Body) (body : Body) (v : Vote) → vote_in m.id body ≡ Some v → v.kind ≡ PrePrepare → ReadsAs (is_other of_pre_prepare) body (as_pre_prepare m body)
pre_prepare_reads m (bodies.PrePrepare b) v e f = record { reads = refl; other = λ digest. refl }
pre_prepare_reads m (bodies.Prepare b) v e f = wrong v Prepare PrePrepare (ap kind_of e) f (λ e. absurd cc)
pre_prepare_reads m (bodies.Commit b) v e f = wrong v Commit PrePrepare (ap kind_of e) f (λ e. absurd cc)
pre_prepare_reads m _ v e f = absurd cc

prepare_reads : (m : Signed Body) (body : Body) (v : Vote) → vote_in m.id body ≡ Some v → v.kind ≡ Prepare → ReadsAs (is_other of_prepare) body (as_prepare m body)
prepare_reads m (bodies.Prepare b) v e f = record { reads = refl; other = λ digest. refl }
prepare_reads m (bodies.PrePrepare b) v e f = wrong v PrePrepare Prepare (ap kind_of e) f (λ e. absurd cc)
prepare_reads m (bodies.Commit b) v e f = wrong v Commit Prepare (ap kind_of e) f (λ e. absurd cc)
prepare_reads m _ v e f = absurd cc

commit_reads : (m : Signed Body) (body : Body) (v : Vote) → vote_in m.id body ≡ Some v → v.kind ≡ Commit → ReadsAs (is_other of_commit) body (as_commit m body)
commit_reads m (bodies.Commit b) v e f = record { reads = refl; other = λ digest. refl }
commit_reads m (bodies.PrePrepare b) v e f = wrong v PrePrepare Commit (ap kind_of e) f (λ e. absurd cc)
commit_reads m (bodies.Prepare b) v e f = wrong v Prepare Commit (ap kind_of e) f (λ e. absurd cc)
commit_reads m _ v e f = absurd cc

-- the same of a recorded vote, if there is one
pub record ReadsAll {B : Type 0} (pick : Signed Body → Body → Option (Signed B)) (of : List ℕ → Option (Signed B) → Bool) (own : Option CheckedMessage) : Type 0 where
  pub reads : is_some (read_by pick own) ≡ is_some own
  pub other : (digest : List ℕ) → of digest (read_by pick own) ≡ is_for_other digest own

pub read_pre_prepare : (c : Configuration) (view number : ℕ) (own : Option CheckedMessage) → ((x : CheckedMessage) → own ≡ Some x → IsVoteAt c PrePrepare view number x) → ReadsAll as_pre_prepare (is_other of_pre_prepare) own
read_pre_prepare c view number None h = record { reads = refl; other = λ digest. refl }
read_pre_prepare c view number (Some x) h =
    let is = h x refl in
    let r = pre_prepare_reads x.message x.message.body is.vote is.is is.of_kind in
    record { reads = r.reads; other = r.other }

pub read_prepare : (c : Configuration) (view number : ℕ) (own : Option CheckedMessage) → ((x : CheckedMessage) → own ≡ Some x → IsVoteAt c Prepare view number x) → ReadsAll as_prepare (is_other of_prepare) own
read_prepare c view number None h = record { reads = refl; other = λ digest. refl }
read_prepare c view number (Some x) h =
    let is = h x refl in
    let r = prepare_reads x.message x.message.body is.vote is.is is.of_kind in
    record { reads = r.reads; other = r.other }

pub read_commit : (c : Configuration) (view number : ℕ) (own : Option CheckedMessage) → ((x : CheckedMessage) → own ≡ Some x → IsVoteAt c Commit view number x) → ReadsAll as_commit (is_other of_commit) own
read_commit c view number None h = record { reads = refl; other = λ digest. refl }
read_commit c view number (Some x) h =
    let is = h x refl in
    let r = commit_reads x.message x.message.body is.vote is.is is.of_kind in
    record { reads = r.reads; other = r.other }

-- ---- one primary proposes for one number of one view

pub proposer : (c : Configuration) (view number : ℕ) (m : CheckedMessage) → IsVoteAt c PrePrepare view number m → m.message.id ≡ primary_of c (record { 0 = view })
proposer c view number m h =
    sym (signer_is m.message.id m.message.body h.vote h.is) ∙ h.proper.primary_proposes h.of_kind
    ∙ ap (λ k. primary_of k h.vote.view) h.config ∙ ap (λ v. primary_of c (record { 0 = v })) h.of_view

pub one_proposer : (c : Configuration) (view number : ℕ) (m x : CheckedMessage) → IsVoteAt c PrePrepare view number m → IsVoteAt c PrePrepare view number x → x.message.id ≡ m.message.id
one_proposer c view number m x h g = proposer c view number x g ∙ sym (proposer c view number m h)

if_own : (m x : CheckedMessage) (s : ℕ) → ((s == m.message.id) ≡ true) × (s ≡ m.message.id) ⊎ ((s == m.message.id) ≡ false) × (s ≢ m.message.id) → ((m.message.id == s) ≡ true) × (m.message.id ≡ s) ⊎ ((m.message.id == s) ≡ false) × (m.message.id ≢ s)
    → cond (m.message.id == s) (Some m) None ≡ cond ((s == m.message.id) && true) (Some m) None
if_own m x s (inl (e, is)) (inl (f, _)) =
    ap (λ b. cond b (Some m) None) f ∙ sym (ap (λ b. cond (b && true) (Some m) None) e)
if_own m x s (inl (e, is)) (inr (f, ne)) = absurd (ne (sym is))
if_own m x s (inr (e, ne)) (inl (f, is)) = absurd (ne (sym is))
if_own m x s (inr (e, ne)) (inr (f, _)) = ap (λ b. cond b (Some m) None) f ∙ sym (ap (λ b. cond (b && true) (Some m) None) e)

kept_first : (s : ℕ) (m first : CheckedMessage) → first.message.id ≡ m.message.id → if_by s (Some first) ≡ cond ((s == m.message.id) && not (is_some (if_by m.message.id (Some first)))) (Some m) (if_by s (Some first))
kept_first s m first e =
    let own : if_by m.message.id (Some first) ≡ Some first = ap (λ b. cond b (Some first) None) (eq-eqb first.message.id m.message.id e) in
    sym (ap (λ o. cond ((s == m.message.id) && not (is_some o)) (Some m) (if_by s (Some first))) own ∙ none (s == m.message.id)) where
      none : (b : Bool) → cond (b && false) (Some m) (if_by s (Some first)) ≡ if_by s (Some first)
      none true = refl
      none false = refl

propose_with : (s : ℕ) (m : CheckedMessage) (o : Option CheckedMessage) → ((x : CheckedMessage) → o ≡ Some x → x.message.id ≡ m.message.id)
    → AfterFirst s m (if_by m.message.id o) (if_by s o) (if_by s (first_of m o))
propose_with s m None h = if_own m m s (eqb_tells s m.message.id) (eqb_tells m.message.id s)
propose_with s m (Some first) h = kept_first s m first (h first refl)

pub pre_prepare_with : (c : Configuration) (view number s : ℕ) (m : CheckedMessage) (slot : Slot) → IsSlotAt c view number slot → IsVoteAt c PrePrepare view number m
    → AfterFirst s m (vote_by PrePrepare m.message.id slot) (vote_by PrePrepare s slot) (vote_by PrePrepare s (with_vote PrePrepare m slot))
pre_prepare_with c view number s m slot h is = propose_with s m slot.pre_prepare (λ x e. one_proposer c view number m x is (h.pre_prepare x e))

if_first : (m : CheckedMessage) (o : Option CheckedMessage) → ((x : CheckedMessage) → o ≡ Some x → x.message.id ≡ m.message.id) → if_by m.message.id o ≡ o
if_first m None h = refl
if_first m (Some x) h = ap (λ b. cond b (Some x) None) (eq-eqb x.message.id m.message.id (h x refl))

-- the vote that a vote meets is that of its signer
pub met_pre_prepare : (c : Configuration) (view number : ℕ) (m : CheckedMessage) (slot : Slot) → IsSlotAt c view number slot → IsVoteAt c PrePrepare view number m
    → vote_by PrePrepare m.message.id slot ≡ met_by PrePrepare m.message.id slot
met_pre_prepare c view number m slot h is = if_first m slot.pre_prepare (λ x e. one_proposer c view number m x is (h.pre_prepare x e))

-- a listed replica votes
pub voter_listed : (c : Configuration) (view number : ℕ) (kind : VoteKind) (m : CheckedMessage) → IsVoteAt c kind view number m → m.message.id < replicas_for c.f
voter_listed c view number kind m h =
    subst (λ n. n < replicas_for c.f) (signer_is m.message.id m.message.body h.vote h.is) (subst (λ k. h.vote.signer.0 < replicas_for k.f) h.config h.proper.listed)

pub voter_small : (c : Configuration) (view number : ℕ) (kind : VoteKind) (m : CheckedMessage) → IsConfiguration c → IsVoteAt c kind view number m → m.message.id < 10
voter_small c view number kind m k h = omega (arith, voter_listed c view number kind m h, k.max_faulty)

-- a Prepare is a backup's
pub not_primary : (c : Configuration) (view number : ℕ) (m : CheckedMessage) → IsVoteAt c Prepare view number m → m.message.id ≡ view % replicas_for c.f → ⊥
not_primary c view number m h e =
    h.proper.backups_prepare h.of_kind (signer_is m.message.id m.message.body h.vote h.is ∙ e
    ∙ sym (ap (λ k. primary_of k h.vote.view) h.config ∙ ap (λ v. v % replicas_for c.f) h.of_view))

-- and reads as one
pub prepare_is : (c : Configuration) (view number : ℕ) (m : CheckedMessage) → IsVoteAt c Prepare view number m → (body : Body) → m.message.body ≡ body → option_map (as_message bodies.Prepare) (as_prepare m.message body) ≡ Some m.message
prepare_is c view number m h (bodies.Prepare b) e = λ i. Some (record { role = m.message.role; id = m.message.id; body = sym e i; sig = m.message.sig })
prepare_is c view number m h (bodies.PrePrepare b) e = wrong h.vote PrePrepare Prepare (ap kind_of (ap (vote_in m.message.id) (sym e) ∙ h.is)) h.of_kind (λ e. absurd cc)
prepare_is c view number m h (bodies.Commit b) e = wrong h.vote Commit Prepare (ap kind_of (ap (vote_in m.message.id) (sym e) ∙ h.is)) h.of_kind (λ e. absurd cc)
prepare_is c view number m h _ e = absurd (none_vote (ap (vote_in m.message.id) (sym e) ∙ h.is))
