-- What is recorded after numbers are discarded.
use Rattle.std.proofs.Common.{◌≡◌, ℕ, ◌+◌, ◌-◌, ◌<◌, ◌≤◌, Bool, true, false, cond, List, [], ◌∷◌, length, Option, Some, None, refl, sym, ap, subst, ◌∙◌, ◌⊎◌, inl, inr}
use Rattle.std.specs.Prelude.{nat_lt}
use Rattle.std.proofs.lemmas.Bool.{cases_lt, lt-ltb, le-ltb}
use Rattle.host_types.specs.Configuration.{Configuration}
use Rattle.host_types.specs.declared.SeqNo.{SeqNo}
use Rattle.pbft_codec.specs.declared.body.Body.{Body}
use Rattle.ballots.specs.Words.{Signed}
use Rattle.ballots.specs.Tables.{Key, keep, is_above}
use Rattle.seal.specs.declared.vote.VoteKind.{VoteKind}
use Rattle.seal.specs.declared.vote.VoteKind.TheVariants.{PrePrepare, Prepare, Commit}
use Rattle.quorum_log.specs.declared.view_slots.ViewSlots.{ViewSlots}
use Rattle.quorum_log.specs.declared.slot.Slot.{Slot}
use Rattle.quorum_log.specs.Slots.{IsSlotAt, empty_slot}
use Rattle.quorum_log.specs.Windows.{slots_at, slot_of, vote_by, vote_at_key, keys_by_number}
use Rattle.quorum_log.specs.Log.{Log, KeptLog, start, discarded}
use Rattle.quorum_log.specs.Reading.{read_by, table_of, log_in, AreKept, as_pre_prepare, as_prepare, as_commit}
use Rattle.quorum_log.proofs.Covering.{covers_table, no_vote, slot_kept, empty_log}
use Rattle.quorum_log.proofs.Slots.{slot_none}
use Rattle.ballots.proofs.Tables.{kept_table}

pub kept_is : (c d : Configuration) (l m : Log) → c ≡ d → l ≡ m → ◌≡◌ {A = KeptLog} (record { config = c; log = l }) (record { config = d; log = m })
kept_is c d l m e f = λ i. record { config = e i; log = f i }

pub new_log : (low : ℕ) (numbers : List ViewSlots) → low ≡ 0 → ((i v : ℕ) → slots_at numbers i v ≡ empty_slot) → log_in 0 (Some (record { 0 = 0 })) low numbers ≡ start
new_log low numbers e h = ap (λ n. log_in 0 (Some (record { 0 = 0 })) n numbers) e ∙ empty_log numbers h

kept_vote : {B : Type 0} (pick : Signed Body → Body → Option (Signed B)) (kind : VoteKind) (s : ℕ) (b t : Bool) (slot : Slot)
    → read_by pick (cond t (vote_by kind s (cond b slot empty_slot)) None) ≡ cond b (read_by pick (cond t (vote_by kind s slot) None)) None
kept_vote pick kind s true t slot = refl
kept_vote pick kind s false true slot = ap (read_by pick) (no_vote kind s)
kept_vote pick kind s false false slot = refl

either : {X : Type 0} (b : Bool) → ◌≡◌ {A = Option X} None (cond b None None)
either true = refl
either false = refl

abbrev Moved : ℕ → ℕ → List ViewSlots → List ViewSlots → Type 0
Moved low by numbers news = (i v : ℕ) → slots_at news i v ≡ slots_at numbers (i + (by - low)) v

kept_at : {B : Type 0} (pick : Signed Body → Body → Option (Signed B)) (kind : VoteKind) (low by : ℕ) (numbers news : List ViewSlots) → low < by → Moved low by numbers news → (q : Key)
    → read_by pick (vote_at_key kind by news q) ≡ cond (is_above by q) (read_by pick (vote_at_key kind low numbers q)) None
kept_at pick kind low by numbers news lt h [] = either (is_above by [])
kept_at pick kind low by numbers news lt h (number ∷ []) = either (is_above by (number ∷ []))
kept_at pick kind low by numbers news lt h (number ∷ view ∷ []) = either (is_above by (number ∷ view ∷ []))
kept_at pick kind low by numbers news lt h (number ∷ view ∷ s ∷ []) =
    ap (λ slot. read_by pick (cond (nat_lt s 10) (vote_by kind s slot) None)) (slot_kept low by numbers news lt h number view (cases_lt by number))
    ∙ kept_vote pick kind s (nat_lt by number) (nat_lt s 10) (slot_of low numbers number view)
kept_at pick kind low by numbers news lt h (number ∷ view ∷ s ∷ more ∷ rest) = either (is_above by (number ∷ view ∷ s ∷ more ∷ rest))

kept_of : {B : Type 0} (pick : Signed Body → Body → Option (Signed B)) (kind : VoteKind) (low by : ℕ) (numbers news : List ViewSlots) → low < by → Moved low by numbers news → table_of pick kind by news ≡ keep (is_above by) (table_of pick kind low numbers)
kept_of pick kind low by numbers news lt h =
    kept_table (is_above by) (λ q. read_by pick (vote_at_key kind low numbers q)) (λ q. read_by pick (vote_at_key kind by news q)) (keys_by_number low numbers) (keys_by_number by news)
    (covers_table pick kind low numbers) (covers_table pick kind by news) (kept_at pick kind low by numbers news lt h)

kept_log : (view : ℕ) (floor : Option SeqNo) (low by : ℕ) (numbers news : List ViewSlots) → low < by → Moved low by numbers news → log_in view floor by news ≡ record (log_in view floor low numbers) {
  low = by;
  pre_prepares = keep (is_above by) (table_of as_pre_prepare PrePrepare low numbers);
  prepares = keep (is_above by) (table_of as_prepare Prepare low numbers);
  commits = keep (is_above by) (table_of as_commit Commit low numbers);
}
kept_log view floor low by numbers news lt h = λ i. record (log_in view floor low numbers) {
  low = by;
  pre_prepares = kept_of as_pre_prepare PrePrepare low by numbers news lt h i;
  prepares = kept_of as_prepare Prepare low by numbers news lt h i;
  commits = kept_of as_commit Commit low by numbers news lt h i;
}

pub discarded_log : (view : ℕ) (floor : Option SeqNo) (low by : ℕ) (now : SeqNo) (numbers news : List ViewSlots) → (low < by → (now.0 ≡ by) × Moved low by numbers news) → (by ≤ low → (now.0 ≡ low) × (news ≡ numbers)) → (low < by) ⊎ (by ≤ low)
    → log_in view floor now.0 news ≡ discarded by (log_in view floor low numbers)
discarded_log view floor low by now numbers news above below (inl lt) =
    ap (λ n. log_in view floor n news) (above lt).0 ∙ kept_log view floor low by numbers news lt (above lt).1
    ∙ sym (ap (λ b. cond b (record (log_in view floor low numbers) {
      low = by;
      pre_prepares = keep (is_above by) (table_of as_pre_prepare PrePrepare low numbers);
      prepares = keep (is_above by) (table_of as_prepare Prepare low numbers);
      commits = keep (is_above by) (table_of as_commit Commit low numbers);
    }) (log_in view floor low numbers)) (lt-ltb low by lt))
discarded_log view floor low by now numbers news above below (inr le) =
    ap (λ n. log_in view floor n news) (below le).0 ∙ ap (log_in view floor low) (below le).1
    ∙ sym (ap (λ b. cond b (record (log_in view floor low numbers) {
      low = by;
      pre_prepares = keep (is_above by) (table_of as_pre_prepare PrePrepare low numbers);
      prepares = keep (is_above by) (table_of as_prepare Prepare low numbers);
      commits = keep (is_above by) (table_of as_commit Commit low numbers);
    }) (log_in view floor low numbers)) (le-ltb low by le))

slot_either : (c : Configuration) (number view : ℕ) (b : Bool) (slot : Slot) → IsSlotAt c view number slot → IsSlotAt c view number (cond b slot empty_slot)
slot_either c number view true slot h = h
slot_either c number view false slot h = slot_none c view number

pub kept_after : (c : Configuration) (low by : ℕ) (now : SeqNo) (numbers news : List ViewSlots) → AreKept c low numbers → length news ≡ length numbers → (low < by → (now.0 ≡ by) × Moved low by numbers news) → (by ≤ low → (now.0 ≡ low) × (news ≡ numbers)) → (low < by) ⊎ (by ≤ low)
    → AreKept c now.0 news
kept_after c low by now numbers news h e above below (inl lt) = subst (λ n. AreKept c n news) (sym (above lt).0) (record {
  span = e ∙ h.span;
  slots = λ number view. subst (IsSlotAt c view number) (sym (slot_kept low by numbers news lt (above lt).1 number view (cases_lt by number)))
      (slot_either c number view (nat_lt by number) (slot_of low numbers number view) (h.slots number view));
})
kept_after c low by now numbers news h e above below (inr le) = subst (λ n. AreKept c n news) (sym (below le).0) (subst (AreKept c low) (sym (below le).1) h)
