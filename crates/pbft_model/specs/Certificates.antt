-- Statement: certificates over messages (Castro and Liskov, sections 4.2 to 4.4).
use Rattle.std.specs.Prelude.{ℕ, ◌*◌, ◌==◌, Bool, false, ◌&&◌, not, nat_le, List, [], ◌∷◌, Option, Some, None, length, bytes_eq}
use Rattle.std.specs.List.{list_any}
use Rattle.pbft_model.specs.Words.{Configuration, Signed, PrePrepare, Prepare, Commit, Checkpoint, Certificate}
use Rattle.pbft_model.specs.Setup.{replicas, quorum, primary, count, is_replica}
use Rattle.pbft_model.specs.Tables.{Table, at, vote_key, checkpoint_key}

-- What a PrePrepare, a Prepare and a Commit have alike.
pub record Fields : Type 0 where
  pub view : ℕ
  pub number : ℕ
  pub digest : List ℕ

abbrev pub of_pre_prepare : PrePrepare → Fields
of_pre_prepare p = record { view = p.view.0; number = p.number.0; digest = p.digest.0 }

abbrev pub of_prepare : Prepare → Fields
of_prepare p = record { view = p.view.0; number = p.number.0; digest = p.digest.0 }

abbrev pub of_commit : Commit → Fields
of_commit p = record { view = p.view.0; number = p.number.0; digest = p.digest.0 }

abbrev pub same_fields : Fields → Fields → Bool
same_fields p q = p.view == q.view && (p.number == q.number && bytes_eq p.digest q.digest)

-- the message is this replica's, and its body says so
abbrev pub is_by : {B : Type 0} → ℕ → (B → Bool) → Signed B → Bool
is_by i test m = is_replica m.role && (m.id == i && test m.body)

abbrev pub some_by : {B : Type 0} → ℕ → (B → Bool) → Option (Signed B) → Bool
some_by i test None = false
some_by i test (Some m) = is_by i test m

-- whether replica i's recorded vote of this kind has these fields
abbrev pub voted : {B : Type 0} → (B → Fields) → Table (Signed B) → Fields → ℕ → Bool
voted of votes x i = some_by i (λ b. same_fields (of b) x) (at votes (vote_key x.number x.view i))

-- whether replica i's is among these messages
abbrev pub voted_among : {B : Type 0} → (B → Fields) → List (Signed B) → Fields → ℕ → Bool
voted_among of ms x i = list_any (is_by i (λ b. same_fields (of b) x)) ms

-- Certified: a PrePrepare of the view's primary, and Prepares of 2f different backups that match it (section 4.2).
abbrev pub certified : Configuration → (ℕ → Bool) → (ℕ → Bool) → ℕ → Bool
certified c pre_prepared prepared view =
    pre_prepared (primary c view)
    && nat_le (2 * c.f) (count (λ i. not (i == primary c view) && prepared i) (replicas c))

-- A certificate in a ViewChange: the PrePrepare, and 2f Prepares (section 4.4).
abbrev pub is_certificate : Configuration → Certificate → Bool
is_certificate c x =
    let fields = of_pre_prepare x.pre_prepare.body in
    certified c (voted_among of_pre_prepare (x.pre_prepare ∷ []) fields) (voted_among of_prepare x.prepares fields) fields.view
    && length x.prepares == 2 * c.f

-- A quorum of different replicas has voted so.
abbrev pub has_quorum : Configuration → (ℕ → Bool) → Bool
has_quorum c voters = nat_le (quorum c) (count voters (replicas c))

abbrev pub is_checkpoint_of : ℕ → List ℕ → Checkpoint → Bool
is_checkpoint_of number digest x = x.number.0 == number && bytes_eq x.digest.0 digest

-- whether replica i's recorded Checkpoint at this number has this digest
abbrev pub checkpointed : Table (Signed Checkpoint) → ℕ → List ℕ → ℕ → Bool
checkpointed checkpoints number digest i = some_by i (is_checkpoint_of number digest) (at checkpoints (checkpoint_key number i))

-- Stable: matching Checkpoints of a quorum (section 4.3).
abbrev pub is_stable : Configuration → Table (Signed Checkpoint) → ℕ → List ℕ → Bool
is_stable c checkpoints number digest = has_quorum c (checkpointed checkpoints number digest)
