-- The view that a replica joins, from the views and signers of the ViewChanges.
use Rattle.std.proofs.Common.{◌≡◌, ℕ, ◌+◌, Bool, true, false, cond, ◌&&◌, ◌||◌, not, List, [], ◌∷◌, map, filter, fold, Option, Some, None, refl, sym, ap, ◌∙◌}
use Rattle.std.specs.Prelude.{min, nat_le, nat_lt, ◌==◌}
use Rattle.std.specs.List.{list_any}
use Rattle.std.specs.Option.{option_map}
use Rattle.std.specs.Ordering.{nat_cmp}
use Rattle.std.specs.Cmp.{nat_cmp_total, nat_eq_equiv, unsigned_tied}
use Rattle.std.specs.FinSet as set
use Rattle.host_types.specs.Configuration.{Configuration}
use Rattle.host_types.specs.declared.View.{View}
use Rattle.pbft_model.specs.Certificates.{is_by}
use Rattle.pbft_model.specs.Core.{Core}
use Rattle.pbft_model.specs.Duties.{Duty, change_to, due_join, higher_changes, join, least_view, when}
use Rattle.pbft_model.specs.Setup.{Setup, count, is_replica, replicas}
use Rattle.pbft_model.specs.Tables.{Table, entries_in}
use Rattle.pbft_model.specs.Words.{Signed, ViewChange}
use Rattle.replica_stores.specs.Changes.{AreChanges, IsChange, Entry, Origin, as_change, is_ahead, key_of, least_with}
use Rattle.replica_stores.specs.Entries.{table_of}
use Rattle.replica_stores.proofs.Entries.{all_filtered, table_entries}
use Rattle.replica_stores.proofs.Lists.{all_implied, any_alike, any_mapped, filter_alike, filter_mapped}

abbrev pub message_of : Entry → Signed ViewChange
message_of e = as_change e.1

abbrev pub origin_of : Entry → Origin
origin_of e = e.0

abbrev pub ahead : ℕ → ℕ → List Entry → List Entry
ahead view me es = filter (λ e. is_ahead view me e.0) es

abbrev pub lowest : Option ℕ → Origin → Option ℕ
lowest least origin = least_with least origin.0

-- ---- the ViewChanges for higher views

ahead_alike : (c : Configuration) (view me : ℕ) (e : Entry) → IsChange c e → (nat_lt view (message_of e).body.view.0 && not ((message_of e).id == me)) ≡ is_ahead view me e.0
ahead_alike c view me e h = λ i. nat_lt view (h.view i) && not (h.signer i == me)

pub higher_are : (c : Configuration) (me : ℕ) (s : Core) (es : List Entry) → AreChanges c es → s.changes ≡ table_of key_of as_change es → higher_changes me s ≡ map message_of (ahead s.view me es)
higher_are c me s es all e =
    ap (λ (t : Table (Signed ViewChange)). filter test (entries_in t)) e ∙ ap (filter test) (table_entries key_of as_change es) ∙ filter_mapped test message_of es
    ∙ ap (map message_of) (filter_alike (λ e. test (message_of e)) (λ e. is_ahead s.view me e.0) es (all_implied (IsChange c) (λ e. test (message_of e) ≡ is_ahead s.view me e.0) es (ahead_alike c s.view me) all)) where
      test : Signed ViewChange → Bool
      test m = nat_lt s.view m.body.view.0 && not (m.id == me)

pub origins_are : (view me : ℕ) (es : List Entry) → filter (is_ahead view me) (map origin_of es) ≡ map origin_of (ahead view me es)
origins_are view me es = filter_mapped (is_ahead view me) origin_of es

-- ---- the smallest view, and how many signers

least_of : (c : Configuration) (hs : List Entry) (n : ℕ) → AreChanges c hs → fold lowest (Some n) (map origin_of hs) ≡ Some (least_view (map message_of hs) n)
least_of c [] n all = refl
least_of c (h ∷ hs) n all = least_of c hs (min h.0.0 n) all.1 ∙ ap (λ v. Some (least_view (map message_of hs) (min v n))) (sym all.0.view)

signer_alike : (c : Configuration) (i : ℕ) (e : Entry) → IsChange c e → is_by i (λ v. true) (message_of e) ≡ (e.0.1 == i)
signer_alike c i e h = (λ j. is_replica (h.role j) && ((h.signer j == i) && true)) ∙ always (e.0.1 == i) where
  always : (b : Bool) → (b && true) ≡ b
  always true = refl
  always false = refl

signers_are : (c : Configuration) (hs : List Entry) → AreChanges c hs → (i : ℕ) → list_any (is_by i (λ v. true)) (map message_of hs) ≡ list_any (λ (p : Origin). p.1 == i) (map origin_of hs)
signers_are c hs all i =
    any_mapped (is_by i (λ v. true)) message_of hs
    ∙ any_alike (λ e. is_by i (λ v. true) (message_of e)) (λ e. e.0.1 == i) hs (all_implied (IsChange c) (λ e. is_by i (λ v. true) (message_of e) ≡ (e.0.1 == i)) hs (signer_alike c i) all)
    ∙ sym (any_mapped (λ (p : Origin). p.1 == i) origin_of hs)

signed_by : List Entry → ℕ → Bool
signed_by hs i = list_any (λ (p : Origin). p.1 == i) (map origin_of hs)

joined : (c : Setup) (d : Configuration) (me : ℕ) (s : Core) (hs : List Entry) → AreChanges d hs
    → join c me s (map message_of hs) ≡ option_map (change_to c me s) (cond (nat_le (c.config.f + 1) (count (λ i. list_any (λ (p : Origin). p.1 == i) (map origin_of hs)) (replicas c.config))) (fold lowest None (map origin_of hs)) None)
joined c d me s [] all = nothing (nat_le (c.config.f + 1) (count (λ i. false) (replicas c.config))) where
  nothing : (b : Bool) → None ≡ option_map (change_to c me s) (cond b None None)
  nothing true = refl
  nothing false = refl
joined c d me s (h ∷ hs) all =
    (λ j. when (nat_le (c.config.f + 1) (count (λ i. signers_are d (h ∷ hs) all i j) (replicas c.config))) (change_to c me s (least_view (map message_of hs) (all.0.view j))))
    ∙ chosen (nat_le (c.config.f + 1) (count (λ i. list_any (λ (p : Origin). p.1 == i) (map origin_of (h ∷ hs))) (replicas c.config)))
    ∙ ap (λ o. option_map (change_to c me s) (cond (nat_le (c.config.f + 1) (count (λ i. list_any (λ (p : Origin). p.1 == i) (map origin_of (h ∷ hs))) (replicas c.config))) o None)) (sym (least_of d hs h.0.0 all.1)) where
      chosen : (b : Bool) → when b (change_to c me s (least_view (map message_of hs) h.0.0)) ≡ option_map (change_to c me s) (cond b (Some (least_view (map message_of hs) h.0.0)) None)
      chosen true = refl
      chosen false = refl

-- ---- the duty

pub join_due : (c : Setup) (d : Configuration) (me : ℕ) (s : Core) (es : List Entry) → AreChanges d es → s.changes ≡ table_of key_of as_change es
    → due_join c me s ≡ option_map (change_to c me s) (cond (nat_le (c.config.f + 1) (count (λ i. list_any (λ (p : Origin). p.1 == i) (filter (is_ahead s.view me) (map origin_of es))) (replicas c.config))) (fold lowest None (filter (is_ahead s.view me) (map origin_of es))) None)
join_due c d me s es all e =
    ap (join c me s) (higher_are d me s es all e) ∙ joined c d me s (ahead s.view me es) (all_filtered (IsChange d) (λ e. is_ahead s.view me e.0) es all)
    ∙ ap (λ (ps : List Origin). option_map (change_to c me s) (cond (nat_le (c.config.f + 1) (count (λ i. list_any (λ (p : Origin). p.1 == i) ps) (replicas c.config))) (fold lowest None ps) None)) (sym (origins_are s.view me es))

pub join_is : (c : Setup) (d : Configuration) (me : ℕ) (s : Core) (es : List Entry) (view n : ℕ) (signers : ℕ → Bool) → AreChanges d es → s.changes ≡ table_of key_of as_change es → s.view ≡ view
    → ((i : ℕ) → signers i ≡ list_any (λ (p : Origin). p.1 == i) (filter (is_ahead view me) (map origin_of es))) → n ≡ count signers (replicas c.config)
    → due_join c me s ≡ option_map (change_to c me s) (cond (nat_le (c.config.f + 1) n) (fold lowest None (filter (is_ahead view me) (map origin_of es))) None)
join_is c d me s es view n signers all e v h counted =
    join_due c d me s es all e
    ∙ (λ j. option_map (change_to c me s) (cond (nat_le (c.config.f + 1) (count (λ i. list_any (λ (p : Origin). p.1 == i) (filter (is_ahead (v j) me) (map origin_of es))) (replicas c.config))) (fold lowest None (filter (is_ahead (v j) me) (map origin_of es))) None))
    ∙ (λ j. option_map (change_to c me s) (cond (nat_le (c.config.f + 1) (count (λ i. sym (h i) j) (replicas c.config))) (fold lowest None (filter (is_ahead view me) (map origin_of es))) None))
    ∙ (λ j. option_map (change_to c me s) (cond (nat_le (c.config.f + 1) (sym counted j)) (fold lowest None (filter (is_ahead view me) (map origin_of es))) None))

pub to_view : (duty : ℕ → Duty) (r : Option View) → option_map duty (option_map (λ w. w.0) r) ≡ option_map (λ w. duty w.0) r
to_view duty None = refl
to_view duty (Some w) = refl

-- ---- from one to the next

abbrev pub has_signer : ℕ → List Origin → Bool
has_signer i ps = list_any (λ (p : Origin). p.1 == i) ps

pub signer_more : (signers : set.FinSet nat_cmp) (view me : ℕ) (k : Origin) (rest left : List Origin) (i : ℕ) (all : Bool) → left ≡ k ∷ rest → is_ahead view me k ≡ true
    → (set.contains signers i || has_signer i (filter (is_ahead view me) left)) ≡ all → (set.contains (set.insert signers k.1) i || has_signer i (filter (is_ahead view me) rest)) ≡ all
signer_more signers view me k rest left i all e t inv =
    ap (λ b. b || has_signer i (filter (is_ahead view me) rest)) (set.contains-insert nat_cmp_total signers k.1 i ∙ ap (λ b. b || set.contains signers i) (unsigned_tied i k.1 ∙ nat_eq_equiv.symm i k.1))
    ∙ moved (k.1 == i) (set.contains signers i) (has_signer i (filter (is_ahead view me) rest))
    ∙ sym (ap (λ b. set.contains signers i || has_signer i (cond b (k ∷ filter (is_ahead view me) rest) (filter (is_ahead view me) rest))) t)
    ∙ sym (ap (λ ps. set.contains signers i || has_signer i (filter (is_ahead view me) ps)) e) ∙ inv where
      moved : (a b c : Bool) → ((a || b) || c) ≡ (b || (a || c))
      moved true true c = refl
      moved true false c = refl
      moved false true c = refl
      moved false false c = refl

pub signer_passed : (signers : set.FinSet nat_cmp) (view me : ℕ) (k : Origin) (rest left : List Origin) (i : ℕ) (all : Bool) → left ≡ k ∷ rest → is_ahead view me k ≡ false
    → (set.contains signers i || has_signer i (filter (is_ahead view me) left)) ≡ all → (set.contains signers i || has_signer i (filter (is_ahead view me) rest)) ≡ all
signer_passed signers view me k rest left i all e t inv =
    sym (ap (λ b. set.contains signers i || has_signer i (cond b (k ∷ filter (is_ahead view me) rest) (filter (is_ahead view me) rest))) t)
    ∙ sym (ap (λ ps. set.contains signers i || has_signer i (filter (is_ahead view me) ps)) e) ∙ inv

pub least_more : (least : Option ℕ) (view me : ℕ) (k : Origin) (rest left : List Origin) (all : Option ℕ) → left ≡ k ∷ rest → is_ahead view me k ≡ true
    → fold lowest least (filter (is_ahead view me) left) ≡ all → fold lowest (lowest least k) (filter (is_ahead view me) rest) ≡ all
least_more least view me k rest left all e t inv =
    sym (ap (λ b. fold lowest least (cond b (k ∷ filter (is_ahead view me) rest) (filter (is_ahead view me) rest))) t)
    ∙ sym (ap (λ ps. fold lowest least (filter (is_ahead view me) ps)) e) ∙ inv

pub least_passed : (least : Option ℕ) (view me : ℕ) (k : Origin) (rest left : List Origin) (all : Option ℕ) → left ≡ k ∷ rest → is_ahead view me k ≡ false
    → fold lowest least (filter (is_ahead view me) left) ≡ all → fold lowest least (filter (is_ahead view me) rest) ≡ all
least_passed least view me k rest left all e t inv =
    sym (ap (λ b. fold lowest least (cond b (k ∷ filter (is_ahead view me) rest) (filter (is_ahead view me) rest))) t)
    ∙ sym (ap (λ ps. fold lowest least (filter (is_ahead view me) ps)) e) ∙ inv
