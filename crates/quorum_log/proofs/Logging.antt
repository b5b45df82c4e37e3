-- A log after one more vote.
use Rattle.std.proofs.Common.{◌≡◌, ◌≢◌, ℕ, ◌+◌, ◌-◌, ◌<◌, Bool, true, false, cond, not, List, length, Option, Some, None, refl, sym, ap, subst, ◌∙◌, arith, ◌⊎◌, inl, inr}
use Rattle.std.specs.Prelude.{is_some, nat_lt, Result, Ok, Err, OnOk, OnErr, IfErr, if◌then◌else◌}
use Rattle.std.proofs.lemmas.Bool.{cases_eq, cases_lt}
use Rattle.host_types.specs.Configuration.{Configuration}
use Rattle.host_types.specs.declared.SeqNo.{SeqNo}
use Rattle.pbft_codec.specs.declared.body.Body.{Body}
use Rattle.pbft_codec.specs.declared.body.Body.TheVariants as bodies
use Rattle.ballots.specs.Words.{Signed, PrePrepare, Prepare, Commit}
use Rattle.ballots.specs.Acts.{with_body}
use Rattle.ballots.specs.Tables.{at, vote_key}
use Rattle.ballots.specs.Certificates.{of_pre_prepare, of_prepare, of_commit}
use Rattle.seal.specs.Opening.{CheckedMessage}
use Rattle.seal.specs.Votes.{IsVoteOf, vote_in, vote_of}
use Rattle.seal.specs.declared.vote.Vote.{Vote}
use Rattle.seal.specs.declared.vote.VoteKind.{VoteKind}
use Rattle.seal.specs.declared.vote.VoteKind.TheVariants as kinds
use Rattle.quorum_log.specs.declared.fault.LogFault.{LogFault}
use Rattle.quorum_log.specs.declared.fault.LogFault.TheVariants as faults
use Rattle.quorum_log.specs.declared.view_slots.ViewSlots.{ViewSlots}
use Rattle.quorum_log.specs.Log.{KeptLog, accepted, vote_fault, is_other, is_within, IsRefusedFor}
use Rattle.quorum_log.specs.Reading.{AreKept, as_pre_prepare, as_prepare, as_commit, read_by, table_of, log_in, position_fault}
use Rattle.quorum_log.specs.Slots.{IsVoteAt, IsSlotAt, IsRefusal, empty_slot, met_by, with_vote}
use Rattle.ballots.specs.Ballots.{is_for_other}
use Rattle.quorum_log.specs.Windows.{HasSlotAt, HaveSameWindows, slots_at, slot_of, vote_by, vote_at_key, keys_by_number}
use Rattle.quorum_log.proofs.Accepting.{slot_here, slot_was, slot_apart, vote_key_at, table_of_other, same_table_of, table_with}
use Rattle.quorum_log.proofs.Covering.{covers_table}
use Rattle.quorum_log.proofs.KindReadings.{read_pre_prepare, read_prepare, read_commit, pre_prepare_with, met_pre_prepare}
use Rattle.quorum_log.proofs.Recording.{prepare_with, commit_with}
use Rattle.quorum_log.proofs.Slots.{slot_after}
use Rattle.ballots.proofs.Tables.{found}

-- ---- the vote of a body

pub vote_is : (a b : Vote) → Some a ≡ Some b → a ≡ b
vote_is a b e = cc

pub at_own_slot : (c : Configuration) (m : CheckedMessage) (v : Vote) → m.config ≡ c → vote_of m.message ≡ Some v → IsVoteOf m v → IsVoteAt c v.kind v.view.0 v.number.0 m
at_own_slot c m v e is h = record { config = e; vote = v; is = is; proper = h; of_kind = refl; of_view = refl; of_number = refl }

-- ---- where it is recorded

-- a vote was recorded at its slot
abbrev pub Records : Vote → CheckedMessage → ℕ → List ViewSlots → List ViewSlots → Type 0
Records v m low numbers news = HasSlotAt (v.number.0 - low - 1) v.view.0 (with_vote v.kind m (slots_at numbers (v.number.0 - low - 1) v.view.0)) numbers news

slot_at : (c : Configuration) (low number view : ℕ) (numbers : List ViewSlots) → AreKept c low numbers → low < number → IsSlotAt c view number (slots_at numbers (number - low - 1) view)
slot_at c low number view numbers h lt = subst (IsSlotAt c view number) (slot_was low number view numbers lt) (h.slots number view)

new_slot : (c : Configuration) (low : ℕ) (m : CheckedMessage) (v : Vote) (numbers news : List ViewSlots) → AreKept c low numbers → IsVoteAt c v.kind v.view.0 v.number.0 m → low < v.number.0 → Records v m low numbers news
    → (n w : ℕ) → (n ≡ v.number.0) ⊎ (n ≢ v.number.0) → (w ≡ v.view.0) ⊎ (w ≢ v.view.0) → IsSlotAt c w n (slot_of low news n w)
new_slot c low m v numbers news h is lt set n w (inl e) (inl f) =
    subst (λ n. IsSlotAt c w n (slot_of low news n w)) (sym e) (subst (λ w. IsSlotAt c w v.number.0 (slot_of low news v.number.0 w)) (sym f)
    (subst (IsSlotAt c v.view.0 v.number.0) (sym (slot_here low v.number.0 v.view.0 (with_vote v.kind m (slots_at numbers (v.number.0 - low - 1) v.view.0)) numbers news lt set))
    (slot_after c v.view.0 v.number.0 v.kind (slots_at numbers (v.number.0 - low - 1) v.view.0) m (slot_at c low v.number.0 v.view.0 numbers h lt) is)))
new_slot c low m v numbers news h is lt set n w (inr e) f =
    subst (IsSlotAt c w n) (sym (slot_apart low v.number.0 v.view.0 (with_vote v.kind m (slots_at numbers (v.number.0 - low - 1) v.view.0)) numbers news lt set n w (inl e) (cases_lt low n))) (h.slots n w)
new_slot c low m v numbers news h is lt set n w (inl e) (inr f) =
    subst (IsSlotAt c w n) (sym (slot_apart low v.number.0 v.view.0 (with_vote v.kind m (slots_at numbers (v.number.0 - low - 1) v.view.0)) numbers news lt set n w (inr f) (cases_lt low n))) (h.slots n w)

pub still_kept : (c : Configuration) (low : ℕ) (m : CheckedMessage) (v : Vote) (numbers news : List ViewSlots) → AreKept c low numbers → IsVoteAt c v.kind v.view.0 v.number.0 m → low < v.number.0 → Records v m low numbers news → length news ≡ length numbers → AreKept c low news
still_kept c low m v numbers news h is lt set long = record {
  span = long ∙ h.span;
  slots = λ n w. new_slot c low m v numbers news h is lt set n w (cases_eq n v.number.0) (cases_eq w v.view.0);
}

same_slot_of : (low : ℕ) (numbers news : List ViewSlots) → HaveSameWindows numbers news → (n w : ℕ) → slot_of low news n w ≡ slot_of low numbers n w
same_slot_of low numbers news h n w = ap (λ s. cond (nat_lt low n) s empty_slot) (h (n - low - 1) w)

pub same_kept : (c : Configuration) (low : ℕ) (numbers news : List ViewSlots) → AreKept c low numbers → HaveSameWindows numbers news → length news ≡ length numbers → AreKept c low news
same_kept c low numbers news h same long = record {
  span = long ∙ h.span;
  slots = λ n w. subst (IsSlotAt c w n) (sym (same_slot_of low numbers news same n w)) (h.slots n w);
}

pub same_log : (view : ℕ) (floor : Option SeqNo) (low : ℕ) (numbers news : List ViewSlots) → HaveSameWindows numbers news → log_in view floor low news ≡ log_in view floor low numbers
same_log view floor low numbers news h = λ i. record (log_in view floor low numbers) {
  pre_prepares = same_table_of as_pre_prepare kinds.PrePrepare low numbers news h i;
  prepares = same_table_of as_prepare kinds.Prepare low numbers news h i;
  commits = same_table_of as_commit kinds.Commit low numbers news h i;
}

-- ---- the log

pre_prepare_recorded : (c : Configuration) (view : ℕ) (floor : Option SeqNo) (low : ℕ) (m : CheckedMessage) (b : PrePrepare) (numbers news : List ViewSlots) → AreKept c low numbers → IsVoteAt c kinds.PrePrepare b.view.0 b.number.0 m → m.message.body ≡ bodies.PrePrepare b
    → low < b.number.0 → m.message.id < 10 → HasSlotAt (b.number.0 - low - 1) b.view.0 (with_vote kinds.PrePrepare m (slots_at numbers (b.number.0 - low - 1) b.view.0)) numbers news
    → log_in view floor low news ≡ accepted (log_in view floor low numbers) m.message (bodies.PrePrepare b)
pre_prepare_recorded c view floor low m b numbers news h is e lt id set =
    let slot = slots_at numbers (b.number.0 - low - 1) b.view.0 in
    let kept = slot_at c low b.number.0 b.view.0 numbers h lt in
    let met = met_pre_prepare c b.view.0 b.number.0 m slot kept is in
    let reads = read_pre_prepare c b.view.0 b.number.0 slot.pre_prepare kept.pre_prepare in
    λ i. record (log_in view floor low numbers) {
      pre_prepares = table_with as_pre_prepare kinds.PrePrepare low b.number.0 b.view.0 m (with_body m.message b) numbers news lt id set
          (λ s. pre_prepare_with c b.view.0 b.number.0 s m slot kept is) (ap (as_pre_prepare m.message) e)
          (ap (λ o. is_some (read_by as_pre_prepare o)) met ∙ reads.reads ∙ sym (ap is_some met)) i;
      prepares = table_of_other as_prepare kinds.PrePrepare kinds.Prepare low b.number.0 b.view.0 m numbers news lt (λ e. absurd cc) set i;
      commits = table_of_other as_commit kinds.PrePrepare kinds.Commit low b.number.0 b.view.0 m numbers news lt (λ e. absurd cc) set i;
    }

prepare_recorded : (c : Configuration) (view : ℕ) (floor : Option SeqNo) (low : ℕ) (m : CheckedMessage) (b : Prepare) (numbers news : List ViewSlots) → AreKept c low numbers → IsVoteAt c kinds.Prepare b.view.0 b.number.0 m → m.message.body ≡ bodies.Prepare b
    → low < b.number.0 → m.message.id < 10 → HasSlotAt (b.number.0 - low - 1) b.view.0 (with_vote kinds.Prepare m (slots_at numbers (b.number.0 - low - 1) b.view.0)) numbers news
    → log_in view floor low news ≡ accepted (log_in view floor low numbers) m.message (bodies.Prepare b)
prepare_recorded c view floor low m b numbers news h is e lt id set =
    let slot = slots_at numbers (b.number.0 - low - 1) b.view.0 in
    let kept = slot_at c low b.number.0 b.view.0 numbers h lt in
    let reads = read_prepare c b.view.0 b.number.0 (vote_by kinds.Prepare m.message.id slot) (λ x f. (kept.prepares m.message.id x f).0) in
    let long : m.message.id < length slot.prepares = omega (arith, id, kept.ten.0) in
    λ i. record (log_in view floor low numbers) {
      pre_prepares = table_of_other as_pre_prepare kinds.Prepare kinds.PrePrepare low b.number.0 b.view.0 m numbers news lt (λ e. absurd cc) set i;
      prepares = table_with as_prepare kinds.Prepare low b.number.0 b.view.0 m (with_body m.message b) numbers news lt id set
          (λ s. prepare_with s m slot long) (ap (as_prepare m.message) e) reads.reads i;
      commits = table_of_other as_commit kinds.Prepare kinds.Commit low b.number.0 b.view.0 m numbers news lt (λ e. absurd cc) set i;
    }

commit_recorded : (c : Configuration) (view : ℕ) (floor : Option SeqNo) (low : ℕ) (m : CheckedMessage) (b : Commit) (numbers news : List ViewSlots) → AreKept c low numbers → IsVoteAt c kinds.Commit b.view.0 b.number.0 m → m.message.body ≡ bodies.Commit b
    → low < b.number.0 → m.message.id < 10 → HasSlotAt (b.number.0 - low - 1) b.view.0 (with_vote kinds.Commit m (slots_at numbers (b.number.0 - low - 1) b.view.0)) numbers news
    → log_in view floor low news ≡ accepted (log_in view floor low numbers) m.message (bodies.Commit b)
commit_recorded c view floor low m b numbers news h is e lt id set =
    let slot = slots_at numbers (b.number.0 - low - 1) b.view.0 in
    let kept = slot_at c low b.number.0 b.view.0 numbers h lt in
    let reads = read_commit c b.view.0 b.number.0 (vote_by kinds.Commit m.message.id slot) (λ x f. (kept.commits m.message.id x f).0) in
    let long : m.message.id < length slot.commits = omega (arith, id, kept.ten.1) in
    λ i. record (log_in view floor low numbers) {
      pre_prepares = table_of_other as_pre_prepare kinds.Commit kinds.PrePrepare low b.number.0 b.view.0 m numbers news lt (λ e. absurd cc) set i;
      prepares = table_of_other as_prepare kinds.Commit kinds.Prepare low b.number.0 b.view.0 m numbers news lt (λ e. absurd cc) set i;
      commits = table_with as_commit kinds.Commit low b.number.0 b.view.0 m (with_body m.message b) numbers news lt id set
          (λ s. commit_with s m slot long) (ap (as_commit m.message) e) reads.reads i;
    }

-- what is said of a vote is said of the one that its body is
of_body : (P : Vote → Type 0) (a b : Vote) → Some a ≡ Some b → P b → P a
of_body P a b e h = subst P (sym (vote_is a b e)) h

vote_at_body : (m : CheckedMessage) (v : Vote) (body : Body) → m.message.body ≡ body → vote_of m.message ≡ Some v → vote_in m.message.id body ≡ Some v
vote_at_body m v body e is = sym (ap (vote_in m.message.id) e) ∙ is

abbrev IsRecorded : Configuration → ℕ → CheckedMessage → List ViewSlots → List ViewSlots → Vote → Type 0
IsRecorded c low m numbers news v = IsVoteAt c v.kind v.view.0 v.number.0 m × (low < v.number.0) × Records v m low numbers news

by_body : (c : Configuration) (view : ℕ) (floor : Option SeqNo) (low : ℕ) (m : CheckedMessage) (v : Vote) (numbers news : List ViewSlots) → AreKept c low numbers → m.message.id < 10 → IsRecorded c low m numbers news v
    → (body : Body) → m.message.body ≡ body → vote_in m.message.id body ≡ Some v → log_in view floor low news ≡ accepted (log_in view floor low numbers) m.message body
by_body c view floor low m v numbers news h id r (bodies.PrePrepare b) e is =
    let r = of_body (IsRecorded c low m numbers news) _ v is r in pre_prepare_recorded c view floor low m b numbers news h r.0 e r.1 id r.2
by_body c view floor low m v numbers news h id r (bodies.Prepare b) e is =
    let r = of_body (IsRecorded c low m numbers news) _ v is r in prepare_recorded c view floor low m b numbers news h r.0 e r.1 id r.2
by_body c view floor low m v numbers news h id r (bodies.Commit b) e is =
    let r = of_body (IsRecorded c low m numbers news) _ v is r in commit_recorded c view floor low m b numbers news h r.0 e r.1 id r.2
by_body c view floor low m v numbers news h id r _ e is = absurd cc

pub recorded_log : (c : Configuration) (view : ℕ) (floor : Option SeqNo) (low : ℕ) (m : CheckedMessage) (v : Vote) (numbers news : List ViewSlots) → AreKept c low numbers → m.message.id < 10 → IsVoteAt c v.kind v.view.0 v.number.0 m → low < v.number.0 → Records v m low numbers news
    → vote_of m.message ≡ Some v → log_in view floor low news ≡ accepted (log_in view floor low numbers) m.message m.message.body
recorded_log c view floor low m v numbers news h id at lt set is = by_body c view floor low m v numbers news h id (at, lt, set) m.message.body refl is

-- ---- its fault

abbrev pub met_in : ℕ → List ViewSlots → CheckedMessage → Vote → Bool
met_in low numbers m v = is_for_other v.digest.0 (met_by v.kind m.message.id (slot_of low numbers v.number.0 v.view.0))

-- a vote is refused for its view or number, or else for its digest
abbrev pub either_fault : Option LogFault → Bool → Option LogFault
either_fault (Some fault) other = Some fault
either_fault None other = if other then Some faults.OtherDigest else None

three : (lower within other : Bool) → (if lower then Some faults.WrongView else (if not within then Some faults.OutsideMarks else (if other then Some faults.OtherDigest else None)))
    ≡ either_fault (if lower then Some faults.WrongView else (if not within then Some faults.OutsideMarks else None)) other
three true within other = refl
three false true other = refl
three false false other = refl

pub read_at : {B : Type 0} (pick : Signed Body → Body → Option (Signed B)) (kind : VoteKind) (low number view id : ℕ) (numbers : List ViewSlots) → id < 10
    → at (table_of pick kind low numbers) (vote_key number view id) ≡ read_by pick (vote_by kind id (slot_of low numbers number view))
read_at pick kind low number view id numbers lt =
    found (λ q. read_by pick (vote_at_key kind low numbers q)) (keys_by_number low numbers) (vote_key number view id) (covers_table pick kind low numbers)
    ∙ ap (read_by pick) (vote_key_at kind low numbers number view id (slot_of low numbers number view) lt refl)

abbrev IsMet : Configuration → ℕ → CheckedMessage → List ViewSlots → Vote → Type 0
IsMet c low m numbers v = IsVoteAt c v.kind v.view.0 v.number.0 m

fault_by_body : (c : Configuration) (view : ℕ) (floor : Option SeqNo) (low : ℕ) (m : CheckedMessage) (v : Vote) (numbers : List ViewSlots) → AreKept c low numbers → m.message.id < 10 → IsMet c low m numbers v
    → (body : Body) → m.message.body ≡ body → vote_in m.message.id body ≡ Some v
    → vote_fault c (log_in view floor low numbers) m.message body ≡ either_fault (position_fault c (log_in view floor low numbers) v) (met_in low numbers m v)
fault_by_body c view floor low m v numbers h id at (bodies.PrePrepare b) e is =
    let l = log_in view floor low numbers in
    let w : Vote = record { kind = kinds.PrePrepare; view = b.view; number = b.number; digest = b.digest; signer = record { 0 = m.message.id } } in
    let at' = of_body (IsMet c low m numbers) w v is at in
    let slot = slot_of low numbers b.number.0 b.view.0 in
    let kept = h.slots b.number.0 b.view.0 in
    let own = vote_by kinds.PrePrepare m.message.id slot in
    let other = ap (is_other of_pre_prepare b.digest.0) (read_at as_pre_prepare kinds.PrePrepare low b.number.0 b.view.0 m.message.id numbers id ∙ ap (read_by as_pre_prepare) (met_pre_prepare c b.view.0 b.number.0 m slot kept at'))
    ∙ (read_pre_prepare c b.view.0 b.number.0 slot.pre_prepare kept.pre_prepare).other b.digest.0 in
    three (nat_lt b.view.0 view) (is_within c l b.view.0 b.number.0) _
    ∙ ap (either_fault (position_fault c l w)) other ∙ ap (λ v. either_fault (position_fault c l v) (met_in low numbers m v)) (vote_is w v is)
fault_by_body c view floor low m v numbers h id at (bodies.Prepare b) e is =
    let l = log_in view floor low numbers in
    let w : Vote = record { kind = kinds.Prepare; view = b.view; number = b.number; digest = b.digest; signer = record { 0 = m.message.id } } in
    let slot = slot_of low numbers b.number.0 b.view.0 in
    let kept = h.slots b.number.0 b.view.0 in
    let own = vote_by kinds.Prepare m.message.id slot in
    let other = ap (is_other of_prepare b.digest.0) (read_at as_prepare kinds.Prepare low b.number.0 b.view.0 m.message.id numbers id)
    ∙ (read_prepare c b.view.0 b.number.0 own (λ x f. (kept.prepares m.message.id x f).0)).other b.digest.0 in
    three (nat_lt b.view.0 view) (is_within c l b.view.0 b.number.0) _
    ∙ ap (either_fault (position_fault c l w)) other ∙ ap (λ v. either_fault (position_fault c l v) (met_in low numbers m v)) (vote_is w v is)
fault_by_body c view floor low m v numbers h id at (bodies.Commit b) e is =
    let l = log_in view floor low numbers in
    let w : Vote = record { kind = kinds.Commit; view = b.view; number = b.number; digest = b.digest; signer = record { 0 = m.message.id } } in
    let slot = slot_of low numbers b.number.0 b.view.0 in
    let kept = h.slots b.number.0 b.view.0 in
    let own = vote_by kinds.Commit m.message.id slot in
    let other = ap (is_other of_commit b.digest.0) (read_at as_commit kinds.Commit low b.number.0 b.view.0 m.message.id numbers id)
    ∙ (read_commit c b.view.0 b.number.0 own (λ x f. (kept.commits m.message.id x f).0)).other b.digest.0 in
    three (nat_lt b.view.0 view) (is_within c l b.view.0 b.number.0) _
    ∙ ap (either_fault (position_fault c l w)) other ∙ ap (λ v. either_fault (position_fault c l v) (met_in low numbers m v)) (vote_is w v is)
fault_by_body c view floor low m v numbers h id at _ e is = absurd cc

pub fault_is : (c : Configuration) (view : ℕ) (floor : Option SeqNo) (low : ℕ) (m : CheckedMessage) (v : Vote) (numbers : List ViewSlots) → AreKept c low numbers → m.message.id < 10 → IsVoteAt c v.kind v.view.0 v.number.0 m → vote_of m.message ≡ Some v
    → vote_fault c (log_in view floor low numbers) m.message m.message.body ≡ either_fault (position_fault c (log_in view floor low numbers) v) (met_in low numbers m v)
fault_is c view floor low m v numbers h id at is = fault_by_body c view floor low m v numbers h id at m.message.body refl is

-- ---- a vote is taken at the index of its number

index_is : (number low i : ℕ) → number ≡ low + 1 + i → i ≡ number - low - 1
index_is number low i e = omega (arith, e)

above_is : (number low i : ℕ) → number ≡ low + 1 + i → low < number
above_is number low i e = omega (arith, e)

abbrev AtIndex : Vote → CheckedMessage → ℕ → List ViewSlots → List ViewSlots → Type 0
AtIndex v m i numbers news = HasSlotAt i v.view.0 (with_vote v.kind m (slots_at numbers i v.view.0)) numbers news

records : (v : Vote) (m : CheckedMessage) (low i : ℕ) (numbers news : List ViewSlots) → v.number.0 ≡ low + 1 + i → AtIndex v m i numbers news → Records v m low numbers news
records v m low i numbers news e h = subst (λ i. AtIndex v m i numbers news) (index_is v.number.0 low i e) h

pub accept_kept : (c : Configuration) (low i : ℕ) (now : SeqNo) (numbers news : List ViewSlots) (m : CheckedMessage) (v : Vote) (r : Result (Unit {0}) LogFault) → AreKept c low numbers → IsVoteAt c v.kind v.view.0 v.number.0 m → v.number.0 ≡ low + 1 + i
    → OnOk r (AtIndex v m i numbers news) → OnErr r (HaveSameWindows numbers news) → length news ≡ length numbers → now.0 ≡ low → AreKept c now.0 news
accept_kept c low i now numbers news m v (Ok x) h at e set same long is =
    subst (λ n. AreKept c n news) (sym is) (still_kept c low m v numbers news h at (above_is v.number.0 low i e) (records v m low i numbers news e set) long)
accept_kept c low i now numbers news m v (Err f) h at e set same long is = subst (λ n. AreKept c n news) (sym is) (same_kept c low numbers news h same long)

pub accept_recorded : (c : Configuration) (view : ℕ) (floor : Option SeqNo) (low i : ℕ) (now : SeqNo) (numbers news : List ViewSlots) (m : CheckedMessage) (v : Vote) (k : KeptLog) → AreKept c low numbers → m.message.id < 10 → IsVoteAt c v.kind v.view.0 v.number.0 m → vote_of m.message ≡ Some v
    → v.number.0 ≡ low + 1 + i → AtIndex v m i numbers news → now.0 ≡ low → ◌≡◌ {A = KeptLog} (record { config = c; log = log_in view floor low numbers }) k
    → ◌≡◌ {A = KeptLog} (record { config = c; log = log_in view floor now.0 news }) (record { config = k.config; log = accepted k.log m.message m.message.body })
accept_recorded c view floor low i now numbers news m v k h id at is e set same viewed =
    ap (λ n. record { config = c; log = log_in view floor n news }) same
    ∙ ap (λ l. record { config = c; log = l }) (recorded_log c view floor low m v numbers news h id at (above_is v.number.0 low i e) (records v m low i numbers news e set) is)
    ∙ ap (λ (k : KeptLog). record { config = k.config; log = accepted k.log m.message m.message.body }) viewed

pub accept_unchanged : (c : Configuration) (view : ℕ) (floor : Option SeqNo) (low : ℕ) (now : SeqNo) (numbers news : List ViewSlots) (k : KeptLog) → HaveSameWindows numbers news → now.0 ≡ low → ◌≡◌ {A = KeptLog} (record { config = c; log = log_in view floor low numbers }) k
    → ◌≡◌ {A = KeptLog} (record { config = c; log = log_in view floor now.0 news }) k
accept_unchanged c view floor low now numbers news k same is viewed =
    ap (λ n. record { config = c; log = log_in view floor n news }) is ∙ ap (λ l. record { config = c; log = l }) (same_log view floor low numbers news same) ∙ viewed

met_there : (low i : ℕ) (numbers : List ViewSlots) (m : CheckedMessage) (v : Vote) → v.number.0 ≡ low + 1 + i → met_in low numbers m v ≡ is_for_other v.digest.0 (met_by v.kind m.message.id (slots_at numbers i v.view.0))
met_there low i numbers m v e =
    ap (λ s. is_for_other v.digest.0 (met_by v.kind m.message.id s)) (slot_was low v.number.0 v.view.0 numbers (above_is v.number.0 low i e) ∙ ap (λ i. slots_at numbers i v.view.0) (sym (index_is v.number.0 low i e)))

pub accept_fault : (c : Configuration) (view : ℕ) (floor : Option SeqNo) (low i : ℕ) (numbers : List ViewSlots) (m : CheckedMessage) (v : Vote) (k : KeptLog) → AreKept c low numbers → m.message.id < 10 → IsVoteAt c v.kind v.view.0 v.number.0 m → vote_of m.message ≡ Some v
    → v.number.0 ≡ low + 1 + i → position_fault k.config k.log v ≡ None → ◌≡◌ {A = KeptLog} (record { config = c; log = log_in view floor low numbers }) k
    → vote_fault k.config k.log m.message m.message.body ≡ either_fault None (is_for_other v.digest.0 (met_by v.kind m.message.id (slots_at numbers i v.view.0)))
accept_fault c view floor low i numbers m v k h id at is e position viewed =
    sym (ap (λ (k : KeptLog). vote_fault k.config k.log m.message m.message.body) viewed) ∙ fault_is c view floor low m v numbers h id at is
    ∙ ap (λ (k : KeptLog). either_fault (position_fault k.config k.log v) (met_in low numbers m v)) viewed ∙ ap (λ o. either_fault o (met_in low numbers m v)) position
    ∙ ap (either_fault None) (met_there low i numbers m v e)

pub refused_for : (other : Bool) (fault : LogFault) (o : Option LogFault) → IsRefusal other fault → o ≡ either_fault None other → IsRefusedFor o fault
refused_for other faults.OtherDigest o h e = e ∙ ap (either_fault None) h
refused_for other faults.Memory o h e = e ∙ ap (either_fault None) h
refused_for other faults.OutsideMarks o h e = absurd h
refused_for other faults.WrongView o h e = absurd h

-- refused for its view or number
never_memory : (lower within : Bool) → (if lower then Some faults.WrongView else (if not within then Some faults.OutsideMarks else None)) ≡ Some faults.Memory → ⊥
never_memory true within e = absurd cc
never_memory false true e = absurd cc
never_memory false false e = absurd cc

pub refused_position : (c : Configuration) (view : ℕ) (floor : Option SeqNo) (low : ℕ) (numbers : List ViewSlots) (m : CheckedMessage) (v : Vote) (k : KeptLog) (fault : LogFault) → AreKept c low numbers → m.message.id < 10 → IsVoteAt c v.kind v.view.0 v.number.0 m → vote_of m.message ≡ Some v
    → position_fault k.config k.log v ≡ Some fault → ◌≡◌ {A = KeptLog} (record { config = c; log = log_in view floor low numbers }) k
    → IsRefusedFor (vote_fault k.config k.log m.message m.message.body) fault
refused_position c view floor low numbers m v k fault h id at is position viewed =
    let whole = sym (ap (λ (k : KeptLog). vote_fault k.config k.log m.message m.message.body) viewed) ∙ fault_is c view floor low m v numbers h id at is
    ∙ ap (λ (k : KeptLog). either_fault (position_fault k.config k.log v) (met_in low numbers m v)) viewed ∙ ap (λ o. either_fault o (met_in low numbers m v)) position in
    reported fault position whole where
      reported : (fault : LogFault) → position_fault k.config k.log v ≡ Some fault → vote_fault k.config k.log m.message m.message.body ≡ Some fault → IsRefusedFor (vote_fault k.config k.log m.message m.message.body) fault
      reported faults.OutsideMarks p e = e
      reported faults.OtherDigest p e = e
      reported faults.WrongView p e = e
      reported faults.Memory p e = absurd (never_memory (nat_lt v.view.0 k.log.view) (is_within k.config k.log v.view.0 v.number.0) p)

pub on_faultless : (r : Result (Unit {0}) LogFault) (other : Bool) (o : Option LogFault) → o ≡ either_fault None other → OnOk r (other ≡ false) → OnOk r (o ≡ None)
on_faultless (Ok x) other o e h = e ∙ ap (either_fault None) h
on_faultless (Err f) other o e h = tt

pub on_refused : (r : Result (Unit {0}) LogFault) (other : Bool) (o : Option LogFault) → o ≡ either_fault None other → IfErr r (IsRefusal other) → IfErr r (IsRefusedFor o)
on_refused (Ok x) other o e h = tt
on_refused (Err fault) other o e h = refused_for other fault o h e

pub on_any : {P : Type 0} (r : Result (Unit {0}) LogFault) → P → OnErr r P
on_any (Ok x) p = tt
on_any (Err fault) p = p
