-- What a contract sees after a Checkpoint was recorded.
use Rattle.std.proofs.Common.{◌≡◌, ◌≢◌, ℕ, ◌<◌, ◌≤◌, Bool, true, false, cond, ◌&&◌, not, List, [], ◌∷◌, length, Option, Some, None, refl, sym, ap, subst, ◌∙◌, arith, ◌⊎◌, inl, inr}
use Rattle.std.specs.Prelude.{nat_lt, nat_le, is_some, ◌==◌, IsSome, Result, Ok, Err, OnErr}
use Rattle.std.specs.Result.{IsErrAnd}
use Rattle.std.specs.Option.{option_map}
use Rattle.std.specs.Ordering.{nat_cmp, eq_by_cmp}
use Rattle.std.specs.Cmp.Lexicographic.{slice_cmp}
use Rattle.std.specs.BTreeMap as tree
use Rattle.std.proofs.lemmas.Bool.{cases_eq, cases_lt, lt-ltb, le-ltb, le-leb, lt-leb, eqb-true, eq-eqb, ne_eqb, cond-true, cond-false, and_parts}
use Rattle.std.proofs.lemmas.Bool.Decides.{eqb_tells}
use Rattle.host_types.specs.Configuration.{Configuration, IsConfiguration}
use Rattle.host_types.specs.declared.Digest.{Digest}
use Rattle.host_types.specs.declared.SeqNo.{SeqNo}
use Rattle.pbft_codec.specs.declared.body.Body.{Body}
use Rattle.pbft_codec.specs.declared.body.Body.TheVariants as bodies
use Rattle.ballots.specs.Acts.{with_body}
use Rattle.ballots.specs.Tables.{Key, at, add_if, checkpoint_key}
use Rattle.ballots.specs.Words.{Signed, Checkpoint}
use Rattle.seal.specs.Opening.{CheckedMessage}
use Rattle.ballots.specs.Ballots.{Ballot, digest_in, is_digest, vote_at, is_for_other, with_first}
use Rattle.ballots.proofs.Tables.{added_table, same_table}
use Rattle.checkpoints.specs.declared.fault.CheckpointFault.{CheckpointFault}
use Rattle.checkpoints.specs.declared.fault.CheckpointFault.TheVariants.{Old, DigestDiffers, Memory}
use Rattle.checkpoints.specs.Faults.{IsRefusal, Reports}
use Rattle.checkpoints.specs.Kept.{KeptCheckpoints, checkpoint_of, has_other_digest, note_fault, noted}
use Rattle.checkpoints.specs.Reading.{AreKept, HasBallot, HaveSameBallots, IsBallotAt, IsCheckpointAt, IsGreatest, as_checkpoint, ballot_in, checkpoint_at_key, checkpoints_in, greater_of, keys_by_number, kept_in, proof_now, quorum_digest, quorum_proof, said_by, stable_now}
use Rattle.checkpoints.proofs.Keys.{covers_checkpoints, key_test, signer_test}
use Rattle.checkpoints.proofs.Stable.{quorum_stays}
use Rattle.checkpoints.proofs.Views.{AreBallots, said_above}
use Rattle.checkpoints.proofs.Voting.{as_said, ballot_after, said_after}

-- ---- the same ballots

proof_same : (c : Configuration) (low : ℕ) (ballots news : tree.BTreeMap ℕ Ballot) → ballot_in news low ≡ ballot_in ballots low → proof_now c news low ≡ proof_now c ballots low
proof_same c low ballots news e = ap now e where
  now : Ballot → List (Signed Checkpoint)
  now votes = quorum_proof c (said_by votes) low (quorum_digest c (said_by votes) low)

value_same : (low : ℕ) (ballots news : tree.BTreeMap ℕ Ballot) → HaveSameBallots ballots news → (q : Key) → checkpoint_at_key low news q ≡ checkpoint_at_key low ballots q
value_same low ballots news h [] = refl
value_same low ballots news h (n ∷ []) = refl
value_same low ballots news h (n ∷ s ∷ []) = ap (λ (votes : Ballot). cond (nat_lt low n) (cond (nat_lt s 10) (said_by votes s) None) None) (h n)
value_same low ballots news h (n ∷ s ∷ more ∷ rest) = refl

pub same_seen : (c : Configuration) (low : ℕ) (ballots news : tree.BTreeMap ℕ Ballot) (snapshots : tree.BTreeMap ℕ (List ℕ)) (k : KeptCheckpoints) → HaveSameBallots ballots news → kept_in c low ballots snapshots ≡ k → kept_in c low news snapshots ≡ k
same_seen c low ballots news snapshots k h view =
    let same : kept_in c low news snapshots ≡ kept_in c low ballots snapshots = λ i. record (kept_in c low ballots snapshots) {
      proof = proof_same c low ballots news (h low) i;
      checkpoints = same_table (checkpoint_at_key low ballots) (checkpoint_at_key low news) (keys_by_number (tree.keys ballots)) (keys_by_number (tree.keys news)) (covers_checkpoints low ballots) (covers_checkpoints low news) (value_same low ballots news h) i;
    } in
    same ∙ view

stable_same : (c : Configuration) (low : ℕ) (ballots news : tree.BTreeMap ℕ Ballot) (n : ℕ) → ballot_in news n ≡ ballot_in ballots n → stable_now c low news n ≡ stable_now c low ballots n
stable_same c low ballots news n e = ap (λ (votes : Ballot). cond (nat_le low n) (quorum_digest c (said_by votes) n) None) e

top_same : (c : Configuration) (low : ℕ) (ballots news : tree.BTreeMap ℕ Ballot) (greatest : Option SeqNo) → HaveSameBallots ballots news → IsGreatest c low ballots greatest → IsGreatest c low news greatest
top_same c low ballots news None h top = λ n. stable_same c low ballots news n (h n) ∙ top n
top_same c low ballots news (Some g) h top = (ap is_some (stable_same c low ballots news g.0 (h g.0)) ∙ top.0, λ n above. stable_same c low ballots news n (h n) ∙ top.1 n above)

pub same_kept : (c : Configuration) (low : ℕ) (ballots news : tree.BTreeMap ℕ Ballot) (greatest : Option SeqNo) → HaveSameBallots ballots news → AreKept c low ballots greatest → AreKept c low news greatest
same_kept c low ballots news greatest h k = record {
  configuration = k.configuration;
  each = λ n. subst (IsBallotAt c n) (sym (h n)) (k.each n);
  top = top_same c low ballots news greatest h k.top;
}

-- ---- the fault

other_said : (c : Configuration) (number : ℕ) (votes : Ballot) (digest : List ℕ) (i : ℕ) → IsBallotAt c number votes → has_other_digest digest (said_by votes i) ≡ is_for_other digest (vote_at votes i)
other_said c number votes digest i h = split (vote_at votes i) refl where
  split : (o : Option CheckedMessage) → vote_at votes i ≡ o → has_other_digest digest (as_checkpoint o) ≡ is_for_other digest o
  split None e = refl
  split (Some m) e =
      let w = (h.each i m e).0 in
      ap (has_other_digest digest) (as_said m w.said w.is) ∙ sym (ap (λ (b : Body). not (is_digest digest (digest_in b))) w.is)

pub fault_above : (c : Configuration) (low : ℕ) (ballots : tree.BTreeMap ℕ Ballot) (snapshots : tree.BTreeMap ℕ (List ℕ)) (greatest : Option SeqNo) (m : CheckedMessage) (b : Checkpoint) (k : KeptCheckpoints) → AreKept c low ballots greatest → kept_in c low ballots snapshots ≡ k → m.message.body ≡ bodies.Checkpoint b → low < b.number.0
    → note_fault k (checkpoint_of m.message) ≡ cond (is_for_other b.digest.0 (vote_at (ballot_in ballots b.number.0) m.message.id)) (Some DigestDiffers) None
fault_above c low ballots snapshots greatest m b k h view is lt =
    let old = kept_in c low ballots snapshots in
    let number = b.number.0 in
    let found = at old.checkpoints (checkpoint_key number m.message.id) in
    let there : found ≡ said_by (ballot_in ballots number) m.message.id = λ j. said_above c low ballots number h.configuration h.each lt j m.message.id in
    ap (λ (x : KeptCheckpoints). note_fault x (checkpoint_of m.message)) (sym view) ∙ ap (note_fault old) (as_said m b is)
    ∙ cond-false (nat_le number low) (Some Old) (cond (has_other_digest b.digest.0 found) (Some DigestDiffers) None) (lt-leb number low lt)
    ∙ ap (λ (t : Bool). cond t (Some DigestDiffers) None) (ap (has_other_digest b.digest.0) there ∙ other_said c number (ballot_in ballots number) b.digest.0 m.message.id (h.each number))

pub fault_below : (m : CheckedMessage) (b : Checkpoint) (k : KeptCheckpoints) → m.message.body ≡ bodies.Checkpoint b → b.number.0 ≤ k.low → note_fault k (checkpoint_of m.message) ≡ Some Old
fault_below m b k is le =
    ap (note_fault k) (as_said m b is)
    ∙ cond-true (nat_le b.number.0 k.low) (Some Old) (cond (has_other_digest b.digest.0 (at k.checkpoints (checkpoint_key b.number.0 m.message.id))) (Some DigestDiffers) None) (le-leb b.number.0 k.low le)

pub no_fault : (other : Bool) (o : Option CheckpointFault) → o ≡ cond other (Some DigestDiffers) None → other ≡ false → o ≡ None
no_fault true o e f = absurd cc
no_fault false o e f = e

refused : (A : Type 0) (fault : CheckpointFault) (other : Bool) (o : Option CheckpointFault) → o ≡ cond other (Some DigestDiffers) None → IsRefusal other fault → Reports {A = A} o (Err fault)
refused A Old other o e h = absurd h
refused A DigestDiffers other o e h = e ∙ ap (λ (t : Bool). cond t (Some DigestDiffers) None) h
refused A Memory other o e h = e ∙ ap (λ (t : Bool). cond t (Some DigestDiffers) None) h

pub refused_as : {A : Type 0} (r : Result A CheckpointFault) (fault : CheckpointFault) (other : Bool) (o : Option CheckpointFault) → IsErrAnd r (λ e. e ≡ fault) → o ≡ cond other (Some DigestDiffers) None → IsRefusal other fault → Reports o r
refused_as (Ok x) fault other o e is h = absurd e
refused_as {A} (Err x) fault other o e is h = subst (λ (y : CheckpointFault). Reports {A = A} o (Err y)) (sym e) (refused A fault other o is h)

pub on_err : {A P : Type 0} (r : Result A CheckpointFault) → P → OnErr r P
on_err (Ok x) p = tt
on_err (Err e) p = p

-- ---- the ballots

either_way : (c : Configuration) (number n : ℕ) (votes others : Ballot) → IsBallotAt c number votes → IsBallotAt c n others → IsBallotAt c n (cond (n == number) votes others)
either_way c number n votes others h k = pick (eqb_tells n number) where
  pick : ((n == number) ≡ true) × (n ≡ number) ⊎ ((n == number) ≡ false) × (n ≢ number) → IsBallotAt c n (cond (n == number) votes others)
  pick (inl (t, is)) = subst (λ (b : Bool). IsBallotAt c n (cond b votes others)) (sym t) (subst (λ (k : ℕ). IsBallotAt c k votes) (sym is) h)
  pick (inr (f, ne)) = subst (λ (b : Bool). IsBallotAt c n (cond b votes others)) (sym f) k

pub ballots_after : (c : Configuration) (number : ℕ) (ballots news : tree.BTreeMap ℕ Ballot) (m : CheckedMessage) → AreBallots c ballots → IsCheckpointAt c number m → HasBallot number (with_first m (ballot_in ballots number)) ballots news → AreBallots c news
ballots_after c number ballots news m each is h n =
    subst (IsBallotAt c n) (sym (h n)) (either_way c number n (with_first m (ballot_in ballots number)) (ballot_in ballots n) (ballot_after c number (ballot_in ballots number) m (each number) is) (each n))

here : (number : ℕ) (votes : Ballot) (ballots news : tree.BTreeMap ℕ Ballot) → HasBallot number votes ballots news → ballot_in news number ≡ votes
here number votes ballots news h = h number ∙ cond-true (number == number) votes (ballot_in ballots number) (eq-eqb number number refl)

there : (number n : ℕ) (votes : Ballot) (ballots news : tree.BTreeMap ℕ Ballot) → HasBallot number votes ballots news → n ≢ number → ballot_in news n ≡ ballot_in ballots n
there number n votes ballots news h ne = h n ∙ cond-false (n == number) votes (ballot_in ballots n) (ne_eqb n number ne)

-- ---- the table

vote_or_none : (o : Option CheckedMessage) → is_some o ≡ false → o ≡ None
vote_or_none None e = refl
vote_or_none (Some m) e = absurd cc

not_true : (b : Bool) → not b ≡ true → b ≡ false
not_true true e = absurd cc
not_true false e = refl

said_some : (c : Configuration) (number : ℕ) (votes : Ballot) (i : ℕ) → IsBallotAt c number votes → is_some (said_by votes i) ≡ is_some (vote_at votes i)
said_some c number votes i h = split (vote_at votes i) refl where
  split : (o : Option CheckedMessage) → vote_at votes i ≡ o → is_some (as_checkpoint o) ≡ is_some o
  split None e = refl
  split (Some m) e = let w = (h.each i m e).0 in ap is_some (as_said m w.said w.is)

-- a signer's Checkpoint that was recorded stays
pub said_stays : (votes : Ballot) (m : CheckedMessage) (i : ℕ) (x : Signed Checkpoint) → m.message.id < length votes → said_by votes i ≡ Some x → said_by (with_first m votes) i ≡ Some x
said_stays votes m i x below e = said_after votes m i below ∙ split ((i == m.message.id) && not (is_some (vote_at votes m.message.id))) refl where
  split : (f : Bool) → ((i == m.message.id) && not (is_some (vote_at votes m.message.id))) ≡ f → cond f (checkpoint_of m.message) (said_by votes i) ≡ Some x
  split false t = e
  split true t =
      let parts = and_parts (i == m.message.id) (not (is_some (vote_at votes m.message.id))) t in
      let none : vote_at votes i ≡ None = ap (vote_at votes) (eqb-true i m.message.id parts.0) ∙ vote_or_none (vote_at votes m.message.id) (not_true (is_some (vote_at votes m.message.id)) parts.1) in
      absurd (nothing (ap as_checkpoint none) e) where
        nothing : {o : Option (Signed Checkpoint)} → o ≡ None → o ≡ Some x → ⊥
        nothing f g = absurd cc

abbrev First : (low : ℕ) → tree.BTreeMap ℕ Ballot → tree.BTreeMap ℕ Ballot → Key → Signed Checkpoint → Key → Type 0
First low ballots news key x q =
    checkpoint_at_key low news q ≡ cond (eq_by_cmp (slice_cmp nat_cmp) q key && not (is_some (checkpoint_at_key low ballots key))) (Some x) (checkpoint_at_key low ballots q)

passed_by : {X : Type 0} (b f : Bool) (x o : X) → b ≡ false → o ≡ cond (b && f) x o
passed_by true f x o e = absurd cc
passed_by false f x o e = refl

and_false : (b : Bool) → (b && false) ≡ false
and_false true = refl
and_false false = refl

and_all : (a b f : Bool) → a ≡ true → ((a && b) && f) ≡ (b && f)
and_all true b f e = refl
and_all false b f e = absurd cc

and_none : (a b f : Bool) → a ≡ false → ((a && b) && f) ≡ false
and_none true b f e = absurd cc
and_none false b f e = refl

first_value : (c : Configuration) (low : ℕ) (ballots news : tree.BTreeMap ℕ Ballot) (m : CheckedMessage) (b : Checkpoint) → IsConfiguration c → AreBallots c ballots → IsCheckpointAt c b.number.0 m → m.message.body ≡ bodies.Checkpoint b → low < b.number.0
    → HasBallot b.number.0 (with_first m (ballot_in ballots b.number.0)) ballots news → (n s : ℕ) → (n ≡ b.number.0) ⊎ (n ≢ b.number.0) → First low ballots news (checkpoint_key b.number.0 m.message.id) (with_body m.message b) (n ∷ s ∷ [])
first_value c low ballots news m b k each is body lt h n s (inl at_it) =
    let number = b.number.0 in
    let id = m.message.id in
    let votes = ballot_in ballots number in
    let x = with_body m.message b in
    let below : id < 10 = omega (arith, is.listed, k.max_faulty) in
    let long : id < length votes = omega (arith, below, (each number).ten) in
    let flag = (s == id) && not (is_some (vote_at votes id)) in
    let free : is_some (checkpoint_at_key low ballots (checkpoint_key number id)) ≡ is_some (vote_at votes id)
    = ap is_some (cond-true (nat_lt low number) (cond (nat_lt id 10) (said_by votes id) None) None (lt-ltb low number lt) ∙ cond-true (nat_lt id 10) (said_by votes id) None (lt-ltb id 10 below)) ∙ said_some c number votes id (each number) in
    let test : (eq_by_cmp (slice_cmp nat_cmp) (n ∷ s ∷ []) (checkpoint_key number id) && not (is_some (checkpoint_at_key low ballots (checkpoint_key number id)))) ≡ flag
    = (λ j. signer_test n s number id j && not (free j)) ∙ and_all (n == number) (s == id) (not (is_some (vote_at votes id))) (eq-eqb n number at_it) in
    let above : nat_lt low n ≡ true = lt-ltb low n (omega (arith, lt, at_it)) in
    let now : ballot_in news n ≡ with_first m votes = ap (ballot_in news) at_it ∙ here number (with_first m votes) ballots news h in
    let was : ballot_in ballots n ≡ votes = ap (ballot_in ballots) at_it in
    cond-true (nat_lt low n) (cond (nat_lt s 10) (said_by (ballot_in news n) s) None) None above
    ∙ ap (λ (v : Ballot). cond (nat_lt s 10) (said_by v s) None) now
    ∙ ap (λ (o : Option (Signed Checkpoint)). cond (nat_lt s 10) o None) (said_after votes m s long)
    ∙ inner id votes below x flag refl
    ∙ sym (ap (λ (f : Bool). cond f (Some x) (checkpoint_at_key low ballots (n ∷ s ∷ []))) test
    ∙ ap (cond flag (Some x)) (cond-true (nat_lt low n) (cond (nat_lt s 10) (said_by (ballot_in ballots n) s) None) None above ∙ ap (λ (v : Ballot). cond (nat_lt s 10) (said_by v s) None) was)) where
      inner : (id : ℕ) (votes : Ballot) → m.message.id < 10 → (x : Signed Checkpoint) (f : Bool) → ((s == m.message.id) && not (is_some (vote_at votes m.message.id))) ≡ f
          → cond (nat_lt s 10) (cond f (checkpoint_of m.message) (said_by votes s)) None ≡ cond f (Some (with_body m.message b)) (cond (nat_lt s 10) (said_by votes s) None)
      inner id votes below x false e = refl
      inner id votes below x true e =
          let parts = and_parts (s == m.message.id) (not (is_some (vote_at votes m.message.id))) e in
          let same : s ≡ m.message.id = eqb-true s m.message.id parts.0 in
          cond-true (nat_lt s 10) (checkpoint_of m.message) None (lt-ltb s 10 (omega (arith, below, same))) ∙ as_said m b body
first_value c low ballots news m b k each is body lt h n s (inr ne) =
    let number = b.number.0 in
    let free = not (is_some (checkpoint_at_key low ballots (checkpoint_key number m.message.id))) in
    let test : (eq_by_cmp (slice_cmp nat_cmp) (n ∷ s ∷ []) (checkpoint_key number m.message.id) && free) ≡ false
    = ap (λ (t : Bool). t && free) (signer_test n s number m.message.id) ∙ and_none (n == number) (s == m.message.id) free (ne_eqb n number ne) in
    ap (λ (v : Ballot). cond (nat_lt low n) (cond (nat_lt s 10) (said_by v s) None) None) (there number n (with_first m (ballot_in ballots number)) ballots news h ne)
    ∙ sym (cond-false (eq_by_cmp (slice_cmp nat_cmp) (n ∷ s ∷ []) (checkpoint_key number m.message.id) && free) (Some (with_body m.message b)) (checkpoint_at_key low ballots (n ∷ s ∷ [])) test)

value_after : (c : Configuration) (low : ℕ) (ballots news : tree.BTreeMap ℕ Ballot) (m : CheckedMessage) (b : Checkpoint) → IsConfiguration c → AreBallots c ballots → IsCheckpointAt c b.number.0 m → m.message.body ≡ bodies.Checkpoint b → low < b.number.0
    → HasBallot b.number.0 (with_first m (ballot_in ballots b.number.0)) ballots news → (q : Key) → First low ballots news (checkpoint_key b.number.0 m.message.id) (with_body m.message b) q
value_after c low ballots news m b k each is body lt h [] =
    passed_by (eq_by_cmp (slice_cmp nat_cmp) [] (checkpoint_key b.number.0 m.message.id)) (not (is_some (checkpoint_at_key low ballots (checkpoint_key b.number.0 m.message.id)))) (Some (with_body m.message b)) None (key_test [] (checkpoint_key b.number.0 m.message.id))
value_after c low ballots news m b k each is body lt h (n ∷ []) =
    passed_by (eq_by_cmp (slice_cmp nat_cmp) (n ∷ []) (checkpoint_key b.number.0 m.message.id)) (not (is_some (checkpoint_at_key low ballots (checkpoint_key b.number.0 m.message.id)))) (Some (with_body m.message b)) None
    (key_test (n ∷ []) (checkpoint_key b.number.0 m.message.id) ∙ and_false (n == b.number.0))
value_after c low ballots news m b k each is body lt h (n ∷ s ∷ []) = first_value c low ballots news m b k each is body lt h n s (cases_eq n b.number.0)
value_after c low ballots news m b k each is body lt h (n ∷ s ∷ more ∷ rest) =
    passed_by (eq_by_cmp (slice_cmp nat_cmp) (n ∷ s ∷ more ∷ rest) (checkpoint_key b.number.0 m.message.id)) (not (is_some (checkpoint_at_key low ballots (checkpoint_key b.number.0 m.message.id)))) (Some (with_body m.message b)) None
    (key_test (n ∷ s ∷ more ∷ rest) (checkpoint_key b.number.0 m.message.id) ∙ ap (λ (t : Bool). (n == b.number.0) && t) (and_false (s == m.message.id)) ∙ and_false (n == b.number.0))

pub noted_seen : (c : Configuration) (low : ℕ) (ballots news : tree.BTreeMap ℕ Ballot) (snapshots : tree.BTreeMap ℕ (List ℕ)) (greatest : Option SeqNo) (m : CheckedMessage) (b : Checkpoint) (k : KeptCheckpoints) → AreKept c low ballots greatest → kept_in c low ballots snapshots ≡ k → IsCheckpointAt c b.number.0 m
    → m.message.body ≡ bodies.Checkpoint b → low < b.number.0 → HasBallot b.number.0 (with_first m (ballot_in ballots b.number.0)) ballots news → kept_in c low news snapshots ≡ noted k (checkpoint_of m.message)
noted_seen c low ballots news snapshots greatest m b k h view is body lt has =
    let old = kept_in c low ballots snapshots in
    let x = with_body m.message b in
    let key = checkpoint_key b.number.0 m.message.id in
    let seen : kept_in c low news snapshots ≡ noted old (Some x) = λ i. record old {
      proof = proof_same c low ballots news (there b.number.0 low (with_first m (ballot_in ballots b.number.0)) ballots news has (λ e. absurd (omega (arith, lt, e)))) i;
      checkpoints = (added_table key x (checkpoint_at_key low ballots) (checkpoint_at_key low news) (keys_by_number (tree.keys ballots)) (keys_by_number (tree.keys news)) (covers_checkpoints low ballots) (covers_checkpoints low news) (value_after c low ballots news m b h.configuration h.each is body lt has)
          ∙ ap (λ (t : Bool). add_if t key x (checkpoints_in low ballots)) (sym (lt-ltb low b.number.0 lt))) i;
    } in
    seen ∙ ap (noted old) (sym (as_said m b body)) ∙ ap (λ (y : KeptCheckpoints). noted y (checkpoint_of m.message)) view

-- ---- the greatest stable number

none_is : {X : Type 0} (o : Option X) → is_some o ≡ false → o ≡ None
none_is None e = refl
none_is (Some x) e = absurd cc

pub record Raised (c : Configuration) (low number : ℕ) (ballots news : tree.BTreeMap ℕ Ballot) : Type 0 where
  pub others : (n : ℕ) → n ≢ number → stable_now c low news n ≡ stable_now c low ballots n
  pub stays : IsSome (stable_now c low ballots number) → IsSome (stable_now c low news number)

with_stable : (c : Configuration) (low : ℕ) (ballots news : tree.BTreeMap ℕ Ballot) (greatest : Option SeqNo) (number : SeqNo) → Raised c low number.0 ballots news → IsGreatest c low ballots greatest → IsSome (stable_now c low news number.0) → IsGreatest c low news (Some (greater_of greatest number))
with_stable c low ballots news None number r top is = (is, λ n lt. r.others n (λ e. absurd (omega (arith, e, lt))) ∙ top n)
with_stable c low ballots news (Some g) number r top is = split (cases_lt number.0 g.0) where
  split : (number.0 < g.0) ⊎ (g.0 ≤ number.0) → IsGreatest c low news (Some (cond (nat_lt number.0 g.0) g number))
  split (inl lt) =
      subst (λ (b : Bool). IsGreatest c low news (Some (cond b g number))) (sym (lt-ltb number.0 g.0 lt))
      (ap is_some (r.others g.0 (λ e. absurd (omega (arith, e, lt)))) ∙ top.0, λ n more. r.others n (λ e. absurd (omega (arith, e, lt, more))) ∙ top.1 n more)
  split (inr le) =
      subst (λ (b : Bool). IsGreatest c low news (Some (cond b g number))) (sym (le-ltb number.0 g.0 le))
      (is, λ n lt. r.others n (λ e. absurd (omega (arith, e, lt))) ∙ top.1 n (omega (arith, le, lt)))

none_or : (c : Configuration) (low number n : ℕ) (ballots news : tree.BTreeMap ℕ Ballot) → Raised c low number ballots news → stable_now c low news number ≡ None → stable_now c low ballots n ≡ None → (n ≡ number) ⊎ (n ≢ number) → stable_now c low news n ≡ None
none_or c low number n ballots news r none was (inl is) = ap (stable_now c low news) is ∙ none
none_or c low number n ballots news r none was (inr ne) = r.others n ne ∙ was

some_or_none : {X : Type 0} (o : Option X) → is_some o ≡ true → o ≡ None → ⊥
some_or_none None e f = absurd cc
some_or_none (Some x) e f = absurd cc

without_stable : (c : Configuration) (low : ℕ) (ballots news : tree.BTreeMap ℕ Ballot) (greatest : Option SeqNo) (number : SeqNo) → Raised c low number.0 ballots news → IsGreatest c low ballots greatest → stable_now c low news number.0 ≡ None → IsGreatest c low news greatest
without_stable c low ballots news None number r top none = λ n. none_or c low number.0 n ballots news r none (top n) (cases_eq n number.0)
without_stable c low ballots news (Some g) number r top none = split (cases_eq g.0 number.0) where
  split : (g.0 ≡ number.0) ⊎ (g.0 ≢ number.0) → IsGreatest c low news (Some g)
  split (inl is) = absurd (some_or_none (stable_now c low news number.0) (r.stays (ap (λ (n : ℕ). is_some (stable_now c low ballots n)) (sym is) ∙ top.0)) none)
  split (inr ne) = (ap is_some (r.others g.0 ne) ∙ top.0, λ n more. none_or c low number.0 n ballots news r none (top.1 n more) (cases_eq n number.0))

raised : (c : Configuration) (low number : ℕ) (ballots news : tree.BTreeMap ℕ Ballot) (m : CheckedMessage) → IsConfiguration c → AreBallots c ballots → IsCheckpointAt c number m → low < number → HasBallot number (with_first m (ballot_in ballots number)) ballots news → Raised c low number ballots news
raised c low number ballots news m k each is lt h = record {
  others = λ n ne. stable_same c low ballots news n (there number n (with_first m (ballot_in ballots number)) ballots news h ne);
  stays = λ was. stays (quorum_digest c (said_by votes) number) refl was;
} where
  votes : Ballot
  votes = ballot_in ballots number

  long : m.message.id < length votes
  long = omega (arith, is.listed, k.max_faulty, (each number).ten)

  under : nat_le low number ≡ true
  under = le-leb low number (omega (arith, lt))

  stays : (o : Option Digest) → quorum_digest c (said_by (ballot_in ballots number)) number ≡ o → IsSome (cond (nat_le low number) (quorum_digest c (said_by (ballot_in ballots number)) number) None) → IsSome (stable_now c low news number)
  stays None e was = absurd (some_or_none (cond (nat_le low number) (quorum_digest c (said_by (ballot_in ballots number)) number) None) was (cond-true (nat_le low number) (quorum_digest c (said_by (ballot_in ballots number)) number) None under ∙ e))
  stays (Some d) e was =
      ap is_some (cond-true (nat_le low number) (quorum_digest c (said_by (ballot_in news number)) number) None under
      ∙ ap (λ (v : Ballot). quorum_digest c (said_by v) number) (here number (with_first m (ballot_in ballots number)) ballots news h)
      ∙ quorum_stays c (said_by (ballot_in ballots number)) (said_by (with_first m (ballot_in ballots number))) number d (λ i x e. said_stays (ballot_in ballots number) m i x long e) e)

top_after : (c : Configuration) (low : ℕ) (ballots news : tree.BTreeMap ℕ Ballot) (greatest : Option SeqNo) (number : SeqNo) (b : Bool) → Raised c low number.0 ballots news → IsGreatest c low ballots greatest → b ≡ is_some (stable_now c low news number.0) → IsGreatest c low news (cond b (Some (greater_of greatest number)) greatest)
top_after c low ballots news greatest number true r top e = with_stable c low ballots news greatest number r top (sym e)
top_after c low ballots news greatest number false r top e = without_stable c low ballots news greatest number r top (none_is (stable_now c low news number.0) (sym e))

pub kept_noted : (c : Configuration) (low : ℕ) (ballots news : tree.BTreeMap ℕ Ballot) (greatest later : Option SeqNo) (m : CheckedMessage) (number : SeqNo) (b : Bool) → AreKept c low ballots greatest → IsCheckpointAt c number.0 m → low < number.0 → HasBallot number.0 (with_first m (ballot_in ballots number.0)) ballots news
    → b ≡ is_some (quorum_digest c (said_by (ballot_in news number.0)) number.0) → later ≡ cond b (Some (greater_of greatest number)) greatest → AreKept c low news later
kept_noted c low ballots news greatest later m number b h is lt has e l = record {
  configuration = h.configuration;
  each = ballots_after c number.0 ballots news m h.each is has;
  top = subst (IsGreatest c low news) (sym l) (top_after c low ballots news greatest number b (raised c low number.0 ballots news m h.configuration h.each is lt has) h.top
      (e ∙ ap is_some (sym (cond-true (nat_le low number.0) (quorum_digest c (said_by (ballot_in news number.0)) number.0) None (le-leb low number.0 (omega (arith, lt)))))));
}

pub stable_some : {V : Type 0} (c d : Configuration) (news : tree.BTreeMap ℕ Ballot) (number : ℕ) (o : Option (V × Digest)) (b : Bool) → b ≡ is_some o → d ≡ c → option_map (λ p. p.1) o ≡ quorum_digest d (said_by (ballot_in news number)) number
    → b ≡ is_some (quorum_digest c (said_by (ballot_in news number)) number)
stable_some {V} c d news number o b e is h = e ∙ mapped o ∙ ap is_some h ∙ ap (λ (x : Configuration). is_some (quorum_digest x (said_by (ballot_in news number)) number)) is where
  mapped : (o : Option (V × Digest)) → is_some o ≡ is_some (option_map {T = V × Digest} {U = Digest} (λ p. p.1) o)
  mapped None = refl
  mapped (Some p) = refl
