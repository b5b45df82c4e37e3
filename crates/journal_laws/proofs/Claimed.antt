-- What a replica claims in a lawful journal never contradicts itself.
use Rattle.std.proofs.Common.{◌≡◌, ◌⊎◌, ℕ, false, List, [], Some, refl, sym, ap, subst, ◌∙◌, arith, inl, inr}
use Rattle.std.proofs.lemmas.Option.{same_Some}
use Rattle.pbft_codec.specs.declared.body.Body.TheVariants as bodies
use Rattle.seal.specs.declared.vote.VoteKind.{VoteKind}
use Rattle.seal.specs.declared.vote.VoteKind.TheVariants as votes
use Rattle.conflicts.specs.Claims.{claim_in, claim_of}
use Rattle.conflicts.specs.declared.claim.Claim.{Claim}
use Rattle.conflicts.specs.declared.claim.Topic.{Topic}
use Rattle.conflicts.specs.declared.claim.Topic.TheVariants as topics
use Rattle.pbft_model.specs.Words.{SigningState, Digest, SeqNo, View, Signed, Body, PrePrepare, Prepare, Commit, Checkpoint, Replica, Part, part_of}
use Rattle.pbft_model.specs.Setup.{Setup}
use Rattle.pbft_model.specs.Certificates.{Fields, of_pre_prepare, of_prepare, of_commit}
use Rattle.pbft_model.specs.Core.{Core, start_of}
use Rattle.pbft_model.specs.Acts.{Act}
use Rattle.pbft_model.specs.Rows.{Row, IsLawfulFrom}
use Rattle.pbft_model.specs.Histories.{HasSigned as HasSignedIn, IsHistory}
use Rattle.pbft_model.specs.Families.{Family, IsCorrect}
use Rattle.pbft_model.proofs.Found.{no_some}
use Rattle.pbft_model.proofs.Voices.{Led, Followed, CommittedTo, Said, led_from, prepare_said, commit_said, checkpoint_said, led_one, followed_one}
use Rattle.pbft_agreement.specs.Journals.{Journals, HasGiven}
use Rattle.pbft_agreement.proofs.Reporting.{acts_from, given_from, history_from}
use Rattle.journal_laws.specs.Blame.{HasSigned, IsBlamed, IsBlamedByLeaf, IsHeard, IsRealFamily, IsSentFamily}
use Rattle.journal_laws.specs.Replay.{WasSigned}
use Rattle.journal_laws.proofs.LeafOnce.{in_rows, journal_spread}
use Rattle.journal_laws.proofs.Committed.{committed_one}
use Rattle.journal_laws.proofs.Checked.{checked_one}

same_digest : (d e : Digest) → d.0 ≡ e.0 → d ≡ e
same_digest d e h = λ k. record { 0 = h k }

topic_is : (x : Claim) (claim : Claim) → Some x ≡ Some claim → x.topic ≡ claim.topic
topic_is x claim e = ap (λ (y : Claim). y.topic) (same_Some x claim e)

digest_is : (x : Claim) (claim : Claim) → Some x ≡ Some claim → x.digest ≡ claim.digest
digest_is x claim e = ap (λ (y : Claim). y.digest) (same_Some x claim e)

-- a kind of topic by a number
abbrev kind : Topic → ℕ
kind (topics.Vote votes.PrePrepare view number) = 0
kind (topics.Vote votes.Prepare view number) = 1
kind (topics.Vote votes.Commit view number) = 2
kind (topics.Checkpoint number) = 3
kind _ = 4

abbrev view_in : Topic → ℕ
view_in (topics.Vote k view number) = view.0
view_in _ = 0

abbrev number_in : Topic → ℕ
number_in (topics.Vote k view number) = number.0
number_in (topics.Checkpoint number) = number.0
number_in _ = 0

other_kind : {P : Type 0} (a b : Claim) (m n : ℕ) → a.topic ≡ b.topic → kind a.topic ≡ m → kind b.topic ≡ n → (m ≡ n → ⊥) → P
other_kind a b m n same k l apart = absurd (apart (sym k ∙ (ap kind same ∙ l)))

-- what a vote, and a Checkpoint, claims
abbrev claimed_in : ℕ → VoteKind → View → SeqNo → Digest → Claim
claimed_in i of view number digest = record { signer = i; topic = topics.Vote of view number; digest = digest }

abbrev checkpoint_in : ℕ → SeqNo → Digest → Claim
checkpoint_in i number digest = record { signer = i; topic = topics.Checkpoint number; digest = digest }

-- ---- what own messages of each kind claim

module _ (c : Setup) (family : Family) (IsLawful : ℕ → Type 0) (histories : (i : ℕ) → IsLawful i → IsHistory c i (family.signer i) (family.acts i)) (i : ℕ) (lawful : IsLawful i) where
  abbrev ByPrePrepare : Claim → Type 0
  ByPrePrepare claim = (b : PrePrepare) × Led c family IsLawful histories i (of_pre_prepare b) × (claim_in i (bodies.PrePrepare b) ≡ Some claim)

  abbrev ByPrepare : Claim → Type 0
  ByPrepare claim = (b : Prepare) × Followed c family IsLawful histories i (of_prepare b) × (claim_in i (bodies.Prepare b) ≡ Some claim)

  abbrev ByCommit : Claim → Type 0
  ByCommit claim = (b : Commit) × CommittedTo c family IsLawful histories i (of_commit b) × (claim_in i (bodies.Commit b) ≡ Some claim)

  abbrev ByCheckpoint : Claim → Type 0
  ByCheckpoint claim = (b : Checkpoint) × Said c family i (bodies.Checkpoint b) × (claim_in i (bodies.Checkpoint b) ≡ Some claim)

  abbrev Claimed : Claim → Type 0
  Claimed claim = ByPrePrepare claim ⊎ (ByPrepare claim ⊎ (ByCommit claim ⊎ ByCheckpoint claim))

  claimed : (body : Body) (claim : Claim) → HasSignedIn (record { role = Replica; id = i; body = body }) (family.acts i) → claim_in i body ≡ Some claim → Claimed claim
  claimed (bodies.PrePrepare b) claim h e = inl (b, led_from c family IsLawful histories i b lawful h, e)
  claimed (bodies.Prepare b) claim h e = inr (inl (b, (b, prepare_said c family IsLawful histories i b lawful h, refl), e))
  claimed (bodies.Commit b) claim h e = inr (inr (inl (b, (b, commit_said c family IsLawful histories i b lawful h, refl), e)))
  claimed (bodies.Checkpoint b) claim h e = inr (inr (inr (b, checkpoint_said c family IsLawful histories i b lawful h, e)))
  claimed _ claim h e = no_some claim e

  pre_prepares_agree : (a b : Claim) → ByPrePrepare a → ByPrePrepare b → a.topic ≡ b.topic → a.digest ≡ b.digest
  pre_prepares_agree a b (p, led, e) (q, led', e') same =
      let t = topic_is (claimed_in i votes.PrePrepare p.view p.number p.digest) a e ∙ (same ∙ sym (topic_is (claimed_in i votes.PrePrepare q.view q.number q.digest) b e')) in
      let one = led_one c family IsLawful histories i (of_pre_prepare p) (of_pre_prepare q) lawful led led' (ap view_in t) (ap number_in t) in
      sym (digest_is (claimed_in i votes.PrePrepare p.view p.number p.digest) a e) ∙ (same_digest p.digest q.digest (ap (λ (f : Fields). f.digest) one)
      ∙ digest_is (claimed_in i votes.PrePrepare q.view q.number q.digest) b e')

  prepares_agree : (a b : Claim) → ByPrepare a → ByPrepare b → a.topic ≡ b.topic → a.digest ≡ b.digest
  prepares_agree a b (p, said, e) (q, said', e') same =
      let t = topic_is (claimed_in i votes.Prepare p.view p.number p.digest) a e ∙ (same ∙ sym (topic_is (claimed_in i votes.Prepare q.view q.number q.digest) b e')) in
      let one = followed_one c family IsLawful histories i (of_prepare p) (of_prepare q) lawful said said' (ap view_in t) (ap number_in t) in
      sym (digest_is (claimed_in i votes.Prepare p.view p.number p.digest) a e) ∙ (same_digest p.digest q.digest (ap (λ (f : Fields). f.digest) one)
      ∙ digest_is (claimed_in i votes.Prepare q.view q.number q.digest) b e')

  commits_agree : (a b : Claim) → ByCommit a → ByCommit b → a.topic ≡ b.topic → a.digest ≡ b.digest
  commits_agree a b (p, said, e) (q, said', e') same =
      let t = topic_is (claimed_in i votes.Commit p.view p.number p.digest) a e ∙ (same ∙ sym (topic_is (claimed_in i votes.Commit q.view q.number q.digest) b e')) in
      let one = committed_one c family IsLawful histories i lawful (of_commit p) (of_commit q) said said' (ap view_in t) (ap number_in t) in
      sym (digest_is (claimed_in i votes.Commit p.view p.number p.digest) a e) ∙ (same_digest p.digest q.digest (ap (λ (f : Fields). f.digest) one)
      ∙ digest_is (claimed_in i votes.Commit q.view q.number q.digest) b e')

  checkpoints_agree : (a b : Claim) → ByCheckpoint a → ByCheckpoint b → a.topic ≡ b.topic → a.digest ≡ b.digest
  checkpoints_agree a b (p, said, e) (q, said', e') same =
      let t = topic_is (checkpoint_in i p.number p.digest) a e ∙ (same ∙ sym (topic_is (checkpoint_in i q.number q.digest) b e')) in
      let one = checked_one c family IsLawful histories i lawful p q said said' (ap number_in t) in
      sym (digest_is (checkpoint_in i p.number p.digest) a e) ∙ (ap (λ (x : Checkpoint). x.digest) one ∙ digest_is (checkpoint_in i q.number q.digest) b e')

  -- the kind of a topic that is claimed so
  pre_prepare_kind : (a : Claim) → ByPrePrepare a → kind a.topic ≡ 0
  pre_prepare_kind a (p, said, e) = sym (ap kind (topic_is (claimed_in i votes.PrePrepare p.view p.number p.digest) a e))

  prepare_kind : (a : Claim) → ByPrepare a → kind a.topic ≡ 1
  prepare_kind a (p, said, e) = sym (ap kind (topic_is (claimed_in i votes.Prepare p.view p.number p.digest) a e))

  commit_kind : (a : Claim) → ByCommit a → kind a.topic ≡ 2
  commit_kind a (p, said, e) = sym (ap kind (topic_is (claimed_in i votes.Commit p.view p.number p.digest) a e))

  checkpoint_kind : (a : Claim) → ByCheckpoint a → kind a.topic ≡ 3
  checkpoint_kind a (p, said, e) = sym (ap kind (topic_is (checkpoint_in i p.number p.digest) a e))

  agree : (a b : Claim) → Claimed a → Claimed b → a.topic ≡ b.topic → a.digest ≡ b.digest
  agree a b (inl x) (inl y) same = pre_prepares_agree a b x y same
  agree a b (inl x) (inr (inl y)) same = other_kind a b 0 1 same (pre_prepare_kind a x) (prepare_kind b y) (λ e. absurd (omega arith))
  agree a b (inl x) (inr (inr (inl y))) same = other_kind a b 0 2 same (pre_prepare_kind a x) (commit_kind b y) (λ e. absurd (omega arith))
  agree a b (inl x) (inr (inr (inr y))) same = other_kind a b 0 3 same (pre_prepare_kind a x) (checkpoint_kind b y) (λ e. absurd (omega arith))
  agree a b (inr (inl x)) (inl y) same = other_kind a b 1 0 same (prepare_kind a x) (pre_prepare_kind b y) (λ e. absurd (omega arith))
  agree a b (inr (inl x)) (inr (inl y)) same = prepares_agree a b x y same
  agree a b (inr (inl x)) (inr (inr (inl y))) same = other_kind a b 1 2 same (prepare_kind a x) (commit_kind b y) (λ e. absurd (omega arith))
  agree a b (inr (inl x)) (inr (inr (inr y))) same = other_kind a b 1 3 same (prepare_kind a x) (checkpoint_kind b y) (λ e. absurd (omega arith))
  agree a b (inr (inr (inl x))) (inl y) same = other_kind a b 2 0 same (commit_kind a x) (pre_prepare_kind b y) (λ e. absurd (omega arith))
  agree a b (inr (inr (inl x))) (inr (inl y)) same = other_kind a b 2 1 same (commit_kind a x) (prepare_kind b y) (λ e. absurd (omega arith))
  agree a b (inr (inr (inl x))) (inr (inr (inl y))) same = commits_agree a b x y same
  agree a b (inr (inr (inl x))) (inr (inr (inr y))) same = other_kind a b 2 3 same (commit_kind a x) (checkpoint_kind b y) (λ e. absurd (omega arith))
  agree a b (inr (inr (inr x))) (inl y) same = other_kind a b 3 0 same (checkpoint_kind a x) (pre_prepare_kind b y) (λ e. absurd (omega arith))
  agree a b (inr (inr (inr x))) (inr (inl y)) same = other_kind a b 3 1 same (checkpoint_kind a x) (prepare_kind b y) (λ e. absurd (omega arith))
  agree a b (inr (inr (inr x))) (inr (inr (inl y))) same = other_kind a b 3 2 same (checkpoint_kind a x) (commit_kind b y) (λ e. absurd (omega arith))
  agree a b (inr (inr (inr x))) (inr (inr (inr y))) same = checkpoints_agree a b x y same

  pub own_claims_agree : (x y : Body) (a b : Claim) → HasSignedIn (record { role = Replica; id = i; body = x }) (family.acts i) → HasSignedIn (record { role = Replica; id = i; body = y }) (family.acts i)
      → claim_in i x ≡ Some a → claim_in i y ≡ Some b → a.topic ≡ b.topic → a.digest ≡ b.digest
  own_claims_agree x y a b h k e f same = agree a b (claimed x a h e) (claimed y b k f) same

-- ---- of one journal

module _ (c : Setup) (me : ℕ) (signer : SigningState) (rows : List Row) (last : Core) (w : IsLawfulFrom c me (start_of c signer) rows last) where
  pub claims_agree : (x y : Body) (a b : Claim) → HasSigned me x rows → HasSigned me y rows → claim_in me x ≡ Some a → claim_in me y ≡ Some b → a.topic ≡ b.topic → a.digest ≡ b.digest
  claims_agree x y a b h k e f same =
      let acts : List Act = acts_from c me signer [] rows (start_of c signer) last w in
      let is : IsHistory c me signer acts = history_from c me signer [] rows (start_of c signer) last w refl tt in
      let lone : Family = record { faulty = λ i. false; signer = λ i. signer; acts = λ i. acts } in
      own_claims_agree c lone (λ i. me ≡ i) (λ i same. subst (λ (k : ℕ). IsHistory c k signer acts) same is) me refl x y a b
      (given_from c me signer (record { role = Replica; id = me; body = x }) [] rows (start_of c signer) last w h)
      (given_from c me signer (record { role = Replica; id = me; body = y }) [] rows (start_of c signer) last w k)
      e f same

-- ---- of a family

module _ (c : Setup) (j : Journals) (honest : IsRealFamily c j) where
  pub heard_signed : (p : Signed Body) (id : ℕ) → IsHeard c j id p → IsCorrect c j.faulty id → HasSigned id p.body (j.rows id)
  heard_signed p id h correct =
      let given = honest.real h.by h.correct h.message p h.received h.within h.role (subst (λ (k : ℕ). IsCorrect c j.faulty k) (sym h.id_is) correct) in
      let part : part_of p ≡ record { role = Replica; id = id; body = p.body } = λ k. record { role = h.role k; id = h.id_is k; body = p.body } in
      subst (λ (k : ℕ). HasGiven (record { role = Replica; id = id; body = p.body }) (j.rows k)) h.id_is (subst (λ (x : Part). HasGiven x (j.rows p.id)) part given)

  claims_as : (p : Signed Body) (claim : Claim) (id : ℕ) → p.id ≡ id → claim_of p ≡ Some claim → claim_in id p.body ≡ Some claim
  claims_as p claim id same e = subst (λ (k : ℕ). claim_in k p.body ≡ Some claim) same e

  pub not_blamed : (id : ℕ) → IsBlamed c j id → IsCorrect c j.faulty id → ⊥
  not_blamed id b correct =
      let lawful = honest.lawful id correct in
      b.contradict.2 (claims_agree c id (j.signer id) (j.rows id) lawful.0 lawful.1 b.first.body b.second.body b.one b.other
      (heard_signed b.first id b.first_heard correct) (heard_signed b.second id b.second_heard correct)
      (claims_as b.first b.one id b.first_heard.id_is b.first_claims) (claims_as b.second b.other id b.second_heard.id_is b.second_claims) b.contradict.1)

module _ (c : Setup) (j : Journals) (family : IsSentFamily c j) where
  heard_sent : (p : Signed Body) (id : ℕ) → IsHeard c j id p → IsCorrect c j.faulty id → WasSigned p (j.rows id)
  heard_sent p id h correct =
      subst (λ (k : ℕ). WasSigned p (j.rows k)) h.id_is
      (family.sent h.by h.correct h.message p h.received h.within h.role (subst (λ (k : ℕ). IsCorrect c j.faulty k) (sym h.id_is) correct))

  pub not_blamed_by_leaf : (id : ℕ) → IsBlamedByLeaf c j id → IsCorrect c j.faulty id → ⊥
  not_blamed_by_leaf id b correct =
      let lawful = family.lawful id correct in
      b.differ ((journal_spread c id (j.signer id) (j.rows id) lawful.0 lawful.1).apart b.first b.second
      (in_rows c id (j.signer id) b.first (j.rows id) (heard_sent b.first id b.first_heard correct))
      (in_rows c id (j.signer id) b.second (j.rows id) (heard_sent b.second id b.second_heard correct)) b.one_leaf)
