-- What holds of a station's journal before its first row, what a step keeps, and what it makes of a station's answers.
use Rattle.std.proofs.Common.{◌≡◌, ℕ, ◌<◌, ◌≤◌, List, [], ◌∷◌, ◌++◌, length, map, Option, Some, None, Result, Ok, Err, refl, sym, ap, subst, ◌∙◌, arith, length-append}
use Rattle.std.proofs.lemmas.List.{map-append}
use Rattle.host_types.specs.Configuration.{Configuration}
use Rattle.lms_tree.specs.SigningState.{SigningState}
use Rattle.byz_world.specs.Core.{Core, start_of}
use Rattle.byz_world.specs.Facts.{RowFacts, row_of}
use Rattle.byz_world.specs.Halt.{Halt}
use Rattle.byz_world.specs.Halt.TheVariants as halts
use Rattle.byz_world.specs.Input.{Input}
use Rattle.byz_world.specs.Keeping.{Advances, Appends, HaltsFor, HaltsWith, IsKept, JournalFacts, first_journal, stands}
use Rattle.byz_world.specs.Rows.{IsLawfulFrom, IsListed, IsNext}
use Rattle.byz_world.specs.Rows as model
use Rattle.byz_world.specs.Setup.{Setup, setup_of}
use Rattle.byz_world.specs.Status.{Status}
use Rattle.byz_world.specs.Steps.{ReplicaFacts, status_of}
use Rattle.replica_threads.specs.Hosts.{Stands}
use Rattle.replica_threads.specs.Stations.{IsAnswered, IsJournalOf, IsKeptBy, IsReported, signer_of}

-- ---- before the first row

the_same : (s t : Core) → Some s ≡ Some t → s ≡ t
the_same s t e = cc

-- The signer of a kept journal without rows is the one that its replica was given.
same_signer : (c : Configuration) (me limit : ℕ) (signer : SigningState) (k : IsKept (first_journal c me signer limit)) → k.journal.signer ≡ signer
same_signer c me limit signer k =
    ap (λ (s : Core). s.signer) (sym k.journal.lawful ∙ sym (the_same (start_of (setup_of c) signer) k.journal.last (k.running refl)))

first_kept : (c : Configuration) (me limit : ℕ) (signer : SigningState) → IsKept (first_journal c me signer limit) → IsKeptBy c me signer (first_journal c me signer limit)
first_kept c me limit signer k = record {
  journal = record { listed = subst (IsListed (setup_of c) me) (same_signer c me limit signer k) k.journal.listed; last = start_of (setup_of c) signer; lawful = refl };
  status_is = refl;
  running = λ h. refl;
  within = omega arith;
}

pub kept_first : (c : Configuration) (me limit : ℕ) (signer : SigningState) (j : JournalFacts) → j ≡ first_journal c me signer limit → IsKept j → IsKeptBy c me signer j
kept_first c me limit signer j is k = subst (IsKeptBy c me signer) (sym is) (first_kept c me limit signer (subst IsKept is k))

-- ---- a row more

one_row_more : (c : Setup) (me : ℕ) (s : Core) (rows : List model.Row) (row : model.Row) (u t : Core) → IsLawfulFrom c me s rows u → IsNext c me u row t
    → IsLawfulFrom c me s (rows ++ row ∷ []) t
one_row_more c me s [] row u t is next = (t, subst (λ (x : Core). IsNext c me x row t) is next, refl)
one_row_more c me s (r ∷ rows) row u t (v, first, rest) next = (v, first, one_row_more c me v rows row u t rest next)

no_halt : (x : Halt) → Some x ≡ None → ⊥
no_halt x e = cc

module _ (c : Configuration) (me : ℕ) (signer : SigningState) where
  -- the journal with the row
  one_more : (j : JournalFacts) (input : Input) (row : RowFacts) (t : JournalFacts) → j.replica.config ≡ c → j.replica.me ≡ me → (k : IsKeptBy c me signer j) → (a : Appends j input row t)
      → IsLawfulFrom (setup_of c) me (start_of (setup_of c) signer) (map row_of (j.rows ++ row ∷ [])) a.goes.next
  one_more j input row t config me_is k a =
      let g = a.goes in
      let last = k.journal.last in
      let same : g.before ≡ last = the_same g.before last (sym g.was ∙ k.running a.may.running) in
      let by_config = subst (λ (x : Configuration). IsNext (setup_of x) j.replica.me g.before (row_of row) g.next) config g.is_next in
      let by_me = subst (λ (i : ℕ). IsNext (setup_of c) i g.before (row_of row) g.next) me_is by_config in
      let from = subst (λ (s : Core). IsNext (setup_of c) me s (row_of row) g.next) same by_me in
      subst (λ (rs : List model.Row). IsLawfulFrom (setup_of c) me (start_of (setup_of c) signer) rs g.next) (sym (map-append row_of j.rows (row ∷ [])))
      (one_row_more (setup_of c) me (start_of (setup_of c) signer) (map row_of j.rows) (row_of row) last g.next k.journal.lawful from)

  appends_keep : (j : JournalFacts) (input : Input) (row : RowFacts) (t : JournalFacts) → j.replica.config ≡ c → j.replica.me ≡ me → IsKeptBy c me signer j → Appends j input row t → IsKeptBy c me signer t
  appends_keep j input row t config me_is k a =
      let next : Core = a.goes.next in
      let status_is : t.status ≡ status_of next = a.status_is ∙ ap (λ (r : ReplicaFacts). r.status) a.goes.new in
      let many = length-append j.rows (row ∷ []) in
      let long : length t.rows ≡ length (j.rows ++ row ∷ []) = ap length a.rows_are in
      record {
        journal = record {
          listed = k.journal.listed;
          last = next;
          lawful = subst (λ (rows : List RowFacts). IsLawfulFrom (setup_of c) me (start_of (setup_of c) signer) (map row_of rows) next) (sym a.rows_are) (one_more j input row t config me_is k a);
        };
        status_is = subst (λ (s : Status). s ≡ stands next s.halted) (sym status_is) refl;
        running = λ h. ap (λ (r : ReplicaFacts). r.core) a.goes.new;
        within = omega (arith, many, long, a.may.room, a.limit_is);
      }

  -- ---- a halt

  halted : (j : JournalFacts) (halt : Halt) (t : JournalFacts) → IsKeptBy c me signer j → HaltsWith j halt t → IsKeptBy c me signer t
  halted j halt t k h =
      let last : Core = k.journal.last in
      let long : length t.rows ≡ length j.rows = ap length h.rows_are in
      let stood : record j.status { halted = Some halt } ≡ stands last (Some halt) = ap (λ (s : Status). record s { halted = Some halt }) k.status_is in
      let because : t.status.halted ≡ Some halt = ap (λ (s : Status). s.halted) h.status_is in
      record {
        journal = record {
          listed = k.journal.listed;
          last = last;
          lawful = subst (λ (rows : List RowFacts). IsLawfulFrom (setup_of c) me (start_of (setup_of c) signer) (map row_of rows) last) (sym h.rows_are) k.journal.lawful;
        };
        status_is = subst (λ (s : Status). s ≡ stands last s.halted) (sym h.status_is) stood;
        running = λ none. absurd (no_halt halt (sym because ∙ none));
        within = omega (arith, long, k.within, h.limit_is);
      }

  halts_keep : (j : JournalFacts) (input : Input) (halt : Halt) (t : JournalFacts) → IsKeptBy c me signer j → HaltsFor j input halt t → IsKeptBy c me signer t
  halts_keep j input halts.Exhausted t k h = halted j halts.Exhausted t k h.halts
  halts_keep j input halts.Worn t k h = halted j halts.Worn t k h.halts
  halts_keep j input halts.Memory t k h = halted j halts.Memory t k h.halts
  halts_keep j input halts.JournalFull t k h = halted j halts.JournalFull t k h.halts
  halts_keep j input halts.AlreadyHalted t k h = subst (IsKeptBy c me signer) (sym h.1) k

  pub step_keeps : (j : JournalFacts) (input : Input) (result : Result RowFacts Halt) (t : JournalFacts) → j.replica.config ≡ c → j.replica.me ≡ me → IsKeptBy c me signer j → Advances j input result t
      → IsKeptBy c me signer t
  step_keeps j input (Ok row) t config me_is k a = appends_keep j input row t config me_is k a
  step_keeps j input (Err halt) t config me_is k h = halts_keep j input halt t k h

  -- ---- answers

  pub answered : (j : JournalFacts) (input : Input) (row : RowFacts) (t : JournalFacts) (limit counted : ℕ) → j.replica.config ≡ c → j.replica.me ≡ me → j.limit ≡ limit → IsKeptBy c me signer j
      → counted ≤ length j.rows → Appends j input row t → IsAnswered c me signer limit counted input row
  answered j input row t limit counted config me_is limit_is k within a = record {
    earlier = j.rows;
    lawful = record { listed = k.journal.listed; last = a.goes.next; lawful = one_more j input row t config me_is k a };
    more = within;
    room = omega (arith, a.may.room, limit_is);
    input_is = a.goes.input_is;
  }

  pub reported : (j : JournalFacts) (limit counted : ℕ) → j.limit ≡ limit → IsKeptBy c me signer j → counted ≤ length j.rows → IsReported c me signer limit counted j.status
  reported j limit counted limit_is k within = record {
    rows = j.rows;
    journal = record { listed = k.journal.listed; last = k.journal.last; lawful = k.journal.lawful };
    many = within;
    within = omega (arith, k.within, limit_is);
    status_is = k.status_is;
  }

-- What a station reports, for all to see.
pub stands_so : (c : Configuration) (me leaf : ℕ) (signer : SigningState) (limit counted : ℕ) (status : Status) → signer.next_leaf ≡ leaf → IsReported c me signer limit counted status → Stands c me leaf status
stands_so c me leaf signer limit counted status leaf_is r = record {
  signer = signer;
  leaf_is = leaf_is;
  limit = limit;
  reported = record { rows = r.rows; journal = r.journal; many = omega arith; within = r.within; status_is = r.status_is };
}

-- ---- desks

-- The signer of a replica that has made no step is the one that it was given.
pub signer_is : (c : Configuration) (me limit : ℕ) (signer : SigningState) (j : JournalFacts) → j ≡ first_journal c me signer limit → signer_of j.replica.core ≡ signer
signer_is c me limit signer j is = ap (λ (x : JournalFacts). signer_of x.replica.core) is

pub first_again : (c : Configuration) (me limit : ℕ) (signer : SigningState) (j : JournalFacts) → j ≡ first_journal c me signer limit
    → j ≡ first_journal c me (signer_of j.replica.core) j.limit
first_again c me limit signer j is = subst (λ (x : JournalFacts). x ≡ first_journal c me (signer_of x.replica.core) x.limit) (sym is) refl
