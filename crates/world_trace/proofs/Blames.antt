-- When two blames are equal.
use Rattle.std.proofs.Common.{◌≡◌, ℕ, ◌==◌, Bool, List, ap, refl, ◌∙◌}
use Rattle.std.specs.Bool.{Decides}
use Rattle.std.proofs.lemmas.Bool.Decides.{Decides-and, Decides-eqb}
use Rattle.std.specs.Prelude.{bytes_eq}
use Rattle.std.proofs.lemmas.Slice.Eq.{bytes_eq-Decides}
use Rattle.host_types.specs.declared.Digest.{Digest}
use Rattle.host_types.specs.declared.SeqNo.{SeqNo}
use Rattle.host_types.specs.declared.View.{View}
use Rattle.seal.specs.contracts.vote.VoteKindPartialEq.TheImpl as kind
use Rattle.seal.specs.declared.vote.VoteKind.{VoteKind}
use Rattle.seal.specs.declared.vote.VoteKind.TheVariants as votes
use Rattle.conflicts.specs.contracts.blame.BlamePartialEq.TheImpl as blame
use Rattle.conflicts.specs.contracts.claim.ClaimPartialEq.TheImpl as claim
use Rattle.conflicts.specs.contracts.claim.TopicPartialEq.TheImpl as topic
use Rattle.conflicts.specs.declared.blame.Blame.{Blame}
use Rattle.conflicts.specs.declared.blame.Blame.TheVariants as blames
use Rattle.conflicts.specs.declared.claim.Claim.{Claim}
use Rattle.conflicts.specs.declared.claim.Topic.{Topic}
use Rattle.conflicts.specs.declared.claim.Topic.TheVariants as topics

decided : {P Q : Type 0} {r : Bool} → Decides r P → (P → Q) → (Q → P) → Decides r Q
decided d to from = (λ h. to (d.0 h), λ q. d.1 (from q))

-- ---- numbers, digests and kinds

view : ℕ → View
view n = record { 0 = n }

number : ℕ → SeqNo
number n = record { 0 = n }

digest : List ℕ → Digest
digest bytes = record { 0 = bytes }

same_view : (a b : View) → a.0 ≡ b.0 → a ≡ b
unfolding view
same_view a b same = ap view same

same_number : (a b : SeqNo) → a.0 ≡ b.0 → a ≡ b
unfolding number
same_number a b same = ap number same

same_digest : (a b : Digest) → a.0 ≡ b.0 → a ≡ b
unfolding digest
same_digest a b same = ap digest same

view_decides : (a b : View) → Decides (a.0 == b.0) (a ≡ b)
view_decides a b = decided (Decides-eqb a.0 b.0) (same_view a b) (λ e. ap (λ (x : View). x.0) e)

number_decides : (a b : SeqNo) → Decides (a.0 == b.0) (a ≡ b)
number_decides a b = decided (Decides-eqb a.0 b.0) (same_number a b) (λ e. ap (λ (x : SeqNo). x.0) e)

digest_decides : (a b : Digest) → Decides (bytes_eq a.0 b.0) (a ≡ b)
digest_decides a b = decided (bytes_eq-Decides a.0 b.0) (same_digest a b) (λ e. ap (λ (x : Digest). x.0) e)

kind_decides : (a b : VoteKind) → Decides (kind.eq-value.it a b) (a ≡ b)
kind_decides votes.PrePrepare votes.PrePrepare = (λ same. refl, λ e. refl)
kind_decides votes.PrePrepare votes.Prepare = (λ same. absurd cc, λ e. absurd cc)
kind_decides votes.PrePrepare votes.Commit = (λ same. absurd cc, λ e. absurd cc)
kind_decides votes.Prepare votes.PrePrepare = (λ same. absurd cc, λ e. absurd cc)
kind_decides votes.Prepare votes.Prepare = (λ same. refl, λ e. refl)
kind_decides votes.Prepare votes.Commit = (λ same. absurd cc, λ e. absurd cc)
kind_decides votes.Commit votes.PrePrepare = (λ same. absurd cc, λ e. absurd cc)
kind_decides votes.Commit votes.Prepare = (λ same. absurd cc, λ e. absurd cc)
kind_decides votes.Commit votes.Commit = (λ same. refl, λ e. refl)

-- ---- claims and blame

topic_decides : (a b : Topic) → Decides (topic.eq-value.it a b) (a ≡ b)
topic_decides (topics.Vote k v n) (topics.Vote l w m) =
    decided (Decides-and _ _ (kind_decides k l) (Decides-and _ _ (view_decides v w) (number_decides n m)))
    (λ s. ap (λ (x : VoteKind). topics.Vote x v n) s.0 ∙ ap (λ (x : View). topics.Vote l x n) s.1.0 ∙ ap (λ (x : SeqNo). topics.Vote l w x) s.1.1) (λ e. (cc e, (cc e, cc e)))
topic_decides (topics.Vote k v n) (topics.Checkpoint m) = (λ same. absurd cc, λ e. absurd cc)
topic_decides (topics.Vote k v n) (topics.ViewChange w) = (λ same. absurd cc, λ e. absurd cc)
topic_decides (topics.Vote k v n) (topics.NewView w) = (λ same. absurd cc, λ e. absurd cc)
topic_decides (topics.Vote k v n) (topics.Leaf m) = (λ same. absurd cc, λ e. absurd cc)
topic_decides (topics.Checkpoint n) (topics.Vote l w m) = (λ same. absurd cc, λ e. absurd cc)
topic_decides (topics.Checkpoint n) (topics.Checkpoint m) =
    decided (number_decides n m) (λ s. ap topics.Checkpoint s) (λ e. cc e)
topic_decides (topics.Checkpoint n) (topics.ViewChange w) = (λ same. absurd cc, λ e. absurd cc)
topic_decides (topics.Checkpoint n) (topics.NewView w) = (λ same. absurd cc, λ e. absurd cc)
topic_decides (topics.Checkpoint n) (topics.Leaf m) = (λ same. absurd cc, λ e. absurd cc)
topic_decides (topics.ViewChange v) (topics.Vote l w m) = (λ same. absurd cc, λ e. absurd cc)
topic_decides (topics.ViewChange v) (topics.Checkpoint m) = (λ same. absurd cc, λ e. absurd cc)
topic_decides (topics.ViewChange v) (topics.ViewChange w) =
    decided (view_decides v w) (λ s. ap topics.ViewChange s) (λ e. cc e)
topic_decides (topics.ViewChange v) (topics.NewView w) = (λ same. absurd cc, λ e. absurd cc)
topic_decides (topics.ViewChange v) (topics.Leaf m) = (λ same. absurd cc, λ e. absurd cc)
topic_decides (topics.NewView v) (topics.Vote l w m) = (λ same. absurd cc, λ e. absurd cc)
topic_decides (topics.NewView v) (topics.Checkpoint m) = (λ same. absurd cc, λ e. absurd cc)
topic_decides (topics.NewView v) (topics.ViewChange w) = (λ same. absurd cc, λ e. absurd cc)
topic_decides (topics.NewView v) (topics.NewView w) =
    decided (view_decides v w) (λ s. ap topics.NewView s) (λ e. cc e)
topic_decides (topics.NewView v) (topics.Leaf m) = (λ same. absurd cc, λ e. absurd cc)
topic_decides (topics.Leaf n) (topics.Vote l w m) = (λ same. absurd cc, λ e. absurd cc)
topic_decides (topics.Leaf n) (topics.Checkpoint m) = (λ same. absurd cc, λ e. absurd cc)
topic_decides (topics.Leaf n) (topics.ViewChange w) = (λ same. absurd cc, λ e. absurd cc)
topic_decides (topics.Leaf n) (topics.NewView w) = (λ same. absurd cc, λ e. absurd cc)
topic_decides (topics.Leaf n) (topics.Leaf m) =
    decided (Decides-eqb n m) (λ s. ap topics.Leaf s) (λ e. cc e)

claim_of : ℕ → Topic → Digest → Claim
claim_of signer topic digest = record { signer = signer; topic = topic; digest = digest }

same_claim : (a b : Claim) → a.signer ≡ b.signer → a.topic ≡ b.topic → a.digest ≡ b.digest → a ≡ b
unfolding claim_of
same_claim a b signer topic digest =
    let by_signer : claim_of a.signer a.topic a.digest ≡ claim_of b.signer a.topic a.digest = ap (λ (n : ℕ). claim_of n a.topic a.digest) signer in
    let by_topic : claim_of b.signer a.topic a.digest ≡ claim_of b.signer b.topic a.digest = ap (λ (t : Topic). claim_of b.signer t a.digest) topic in
    let by_digest : claim_of b.signer b.topic a.digest ≡ claim_of b.signer b.topic b.digest = ap (λ (d : Digest). claim_of b.signer b.topic d) digest in
    by_signer ∙ by_topic ∙ by_digest

claim_decides : (a b : Claim) → Decides (claim.eq-value.it a b) (a ≡ b)
claim_decides a b =
    decided (Decides-and _ _ (Decides-eqb a.signer b.signer) (Decides-and _ _ (topic_decides a.topic b.topic) (digest_decides a.digest b.digest)))
    (λ s. same_claim a b s.0 s.1.0 s.1.1)
    (λ e. (ap (λ (c : Claim). c.signer) e, (ap (λ (c : Claim). c.topic) e, ap (λ (c : Claim). c.digest) e)))

pub blame_decides : (a b : Blame) → Decides (blame.eq-value.it a b) (a ≡ b)
blame_decides (blames.Twice a b) (blames.Twice c d) =
    decided (Decides-and _ _ (claim_decides a c) (claim_decides b d)) (λ s. ap (λ (x : Claim). blames.Twice x b) s.0 ∙ ap (λ (x : Claim). blames.Twice c x) s.1) (λ e. (cc e, cc e))
blame_decides (blames.Twice a b) (blames.Hidden c w m y) = (λ same. absurd cc, λ e. absurd cc)
blame_decides (blames.Twice a b) (blames.Invalid c) = (λ same. absurd cc, λ e. absurd cc)
blame_decides (blames.Hidden a v n x) (blames.Twice c d) = (λ same. absurd cc, λ e. absurd cc)
blame_decides (blames.Hidden a v n x) (blames.Hidden c w m y) =
    decided (Decides-and _ _ (claim_decides a c) (Decides-and _ _ (view_decides v w) (Decides-and _ _ (number_decides n m) (digest_decides x y)))) (λ s.
    ap (λ (z : Claim). blames.Hidden z v n x) s.0 ∙ ap (λ (z : View). blames.Hidden c z n x) s.1.0 ∙ ap (λ (z : SeqNo). blames.Hidden c w z x) s.1.1.0
    ∙ ap (λ (z : Digest). blames.Hidden c w m z) s.1.1.1) (λ e. (cc e, (cc e, (cc e, cc e))))
blame_decides (blames.Hidden a v n x) (blames.Invalid c) = (λ same. absurd cc, λ e. absurd cc)
blame_decides (blames.Invalid a) (blames.Twice c d) = (λ same. absurd cc, λ e. absurd cc)
blame_decides (blames.Invalid a) (blames.Hidden c w m y) = (λ same. absurd cc, λ e. absurd cc)
blame_decides (blames.Invalid a) (blames.Invalid c) = decided (claim_decides a c) (λ s. ap blames.Invalid s) (λ e. cc e)
