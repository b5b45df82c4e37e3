-- What an audit answers of records that did the same: one fault, or histories of one length.
use Rattle.std.proofs.Common.{◌≡◌, ℕ, ◌-◌, ◌<◌, ◌≤◌, ◌⊎◌, inl, inr, Bool, true, false, cond, List, [], ◌∷◌, ◌++◌, flat_map, length, map, Option, Some, None, Result, Ok, Err, refl, sym, ap, subst, ◌∙◌, arith}
use Rattle.std.specs.Prelude.{◌&&◌, codes, decimal, is_some, slice_get}
use Rattle.std.specs.List.{AllByRecursion, list_all}
use Rattle.std.proofs.lemmas.Bool.{cases_order, false≢true, ne_eqb}
use Rattle.std.proofs.lemmas.Option.{slice_get-get_or, slice_get_past}
use Rattle.pbft_model.specs.Rows as model
use Rattle.world_script.specs.Audits.{Agree, AreUpTo, IsAudit, IsHistory, IsMissing, IsReached, SaysTheSame, SomeDiffer, all_done, all_rise, done_in, entry_at, executed_at, installed_at, rises}
use Rattle.replica_journal.specs.Done.{Done}
use Rattle.replica_journal.specs.Done.TheVariants.{Executed, Installed}
use Rattle.world_script.specs.Facts.{RowFacts, done_of, row_of}
use Rattle.world_script.specs.Worlds.{MemberFacts, WorldFacts}
use Rattle.world_script.specs.AuditFault.{AuditFault}
use Rattle.world_script.specs.AuditFault.TheVariants.{Differ, Gap, Unrecorded, Memory}
use Rattle.world_script.specs.Execution.{Execution}
use Rattle.world_script.specs.Printing.{Audits, IsAuditLine, records_of}
use Rattle.script_laws.proofs.Alike.{Alike, Bare, bare}

-- ---- what was done, of the protocol's rows

deed_of : model.Done → Done
deed_of (model.Executed number digest result) = Executed (record { 0 = number }) (record { 0 = digest }) result
deed_of (model.Installed number digest) = Installed (record { 0 = number }) (record { 0 = digest })

deed_so : (x : Done) → x ≡ deed_of (done_of x)
unfolding deed_of
deed_so (Executed number digest result) = refl
deed_so (Installed number digest) = refl

deeds : List model.Row → List Done
deeds rows = flat_map (λ (row : model.Row). map deed_of row.done) rows

deeds_mapped : (xs : List Done) → xs ≡ map deed_of (map done_of xs)
deeds_mapped [] = refl
deeds_mapped (x ∷ xs) = let first = deed_so x in let rest = deeds_mapped xs in λ i. first i ∷ rest i

deeds_so : (rows : List RowFacts) → done_in rows ≡ deeds (map row_of rows)
unfolding deeds
deeds_so [] = refl
deeds_so (row ∷ rows) = let first = deeds_mapped row.done in let rest = deeds_so rows in λ i. first i ++ rest i

all_so : (ms : List MemberFacts) → all_done (map (λ (m : MemberFacts). m.rows) ms) ≡ flat_map (λ (b : Bare). deeds b.1) (map bare ms)
all_so [] = refl
all_so (m ∷ ms) = let first = deeds_so m.rows in let rest = all_so ms in λ i. first i ++ rest i

rise_so : (ms : List MemberFacts) → all_rise (map (λ (m : MemberFacts). m.rows) ms) ≡ list_all (λ (b : Bare). rises (deeds b.1)) (map bare ms)
rise_so [] = refl
rise_so (m ∷ ms) = let first = ap rises (deeds_so m.rows) in let rest = rise_so ms in λ i. first i && rest i

pub same_done : (w v : WorldFacts) → Alike w v → all_done (records_of w) ≡ all_done (records_of v)
same_done w v alike = all_so w.members ∙ ap (flat_map (λ (b : Bare). deeds b.1)) alike.members ∙ sym (all_so v.members)

pub same_rise : (w v : WorldFacts) → Alike w v → all_rise (records_of w) ≡ all_rise (records_of v)
same_rise w v alike = rise_so w.members ∙ ap (list_all (λ (b : Bare). rises (deeds b.1))) alike.members ∙ sym (rise_so v.members)

-- ---- answers that exclude each other

no_two : {A : Type 0} (x y : A) (o : Option A) → o ≡ Some x → o ≡ Some y → x ≡ y
no_two x y o at at' = cc

agree_or_differ : (all xs : List Done) → AllByRecursion (SaysTheSame all) xs → SomeDiffer all xs → ⊥
agree_or_differ all [] agree differ = differ
agree_or_differ all (Executed number digest result ∷ xs) agree (inl other) = other.2 (no_two other.0 _ (executed_at all number.0) other.1 agree.0)
agree_or_differ all (Installed number digest ∷ xs) agree (inl other) = other.2 (no_two other.0 _ (installed_at all number.0) other.1 agree.0)
agree_or_differ all (x ∷ xs) agree (inr later) = agree_or_differ all xs agree.1 later

reached_within : (n top : ℕ) (xs : List Done) → AreUpTo top xs → IsReached n xs → n ≤ top
reached_within n top [] up reached = absurd reached
reached_within n top (x ∷ xs) up (inl here) = let most = up.0 in omega (arith, here, most)
reached_within n top (x ∷ xs) up (inr later) = reached_within n top xs up.1 later

entry_so : (entries : List Execution) (n : ℕ) → 0 < n → entry_at entries n ≡ slice_get entries (n - 1)
entry_so entries n positive = ap (λ (b : Bool). cond b None (slice_get entries (n - 1))) (ne_eqb n 0 (λ same. absurd (omega (arith, positive, same))))

entry_within : (entries : List Execution) (n : ℕ) → 0 < n → n ≤ length entries → entry_at entries n ≡ None → ⊥
entry_within [] n positive within none = absurd (omega (arith, positive, within))
entry_within (e ∷ entries) n positive within none =
    let below : n - 1 < length (e ∷ entries) = omega (arith, positive, within) in
    false≢true (sym (ap is_some none) ∙ ap is_some (entry_so (e ∷ entries) n positive ∙ slice_get-get_or (e ∷ entries) (n - 1) e below))

entry_past : (entries : List Execution) (n : ℕ) → length entries < n → entry_at entries n ≡ None
entry_past entries n past = entry_so entries n (omega (arith, past)) ∙ slice_get_past entries (n - 1) (omega (arith, past))

none_longer : (all : List Done) (h k : List Execution) → IsHistory all h → IsHistory all k → length h < length k → ⊥
none_longer all h k a b less =
    entry_within k (length k) (omega (arith, less)) (omega arith) (b.executed (length k) (omega (arith, less)) ∙ sym (a.executed (length k) (omega (arith, less))) ∙ entry_past h (length k) less)

same_length : (all : List Done) (h k : List Execution) → IsHistory all h → IsHistory all k → length h ≡ length k
same_length all h k a b = by (cases_order (length h) (length k)) where
  by : (length h ≡ length k) ⊎ ((length h < length k) ⊎ (length k < length h)) → length h ≡ length k
  by (inl same) = same
  by (inr (inl less)) = absurd (none_longer all h k a b less)
  by (inr (inr less)) = absurd (none_longer all k h b a less)

whole_or_missing : (all : List Done) (h : List Execution) → IsHistory all h → IsMissing all → ⊥
whole_or_missing all h a m = entry_within h m.number m.positive (reached_within m.number (length h) all a.whole m.reached) (a.executed m.number m.positive ∙ m.absent)

-- ---- what is printed

module _ (w v : WorldFacts) (alike : Alike w v) where
  done : all_done (records_of w) ≡ all_done (records_of v)
  done = same_done w v alike

  rise : all_rise (records_of w) ≡ all_rise (records_of v)
  rise = same_rise w v alike

  agreed : Agree (all_done (records_of v)) → Agree (all_done (records_of w))
  agreed a = subst Agree (sym done) a

  never : Agree (all_done (records_of w)) → SomeDiffer (all_done (records_of w)) (all_done (records_of w)) → ⊥
  never a d = agree_or_differ (all_done (records_of w)) (all_done (records_of w)) a d

  differs : SomeDiffer (all_done (records_of v)) (all_done (records_of v)) → SomeDiffer (all_done (records_of w)) (all_done (records_of w))
  differs d = subst (λ (xs : List Done). SomeDiffer xs xs) (sym done) d

  rising : {A : Type 0} → all_rise (records_of w) ≡ true → all_rise (records_of v) ≡ false → A
  rising rises falls = absurd (false≢true (sym falls ∙ sym rise ∙ rises))

  falling : {A : Type 0} → all_rise (records_of w) ≡ false → all_rise (records_of v) ≡ true → A
  falling falls rises = absurd (false≢true (sym falls ∙ rise ∙ rises))

  history : (k : List Execution) → IsHistory (all_done (records_of v)) k → IsHistory (all_done (records_of w)) k
  history k a = subst (λ (xs : List Done). IsHistory xs k) (sym done) a

  missing : IsMissing (all_done (records_of v)) → IsMissing (all_done (records_of w))
  missing a = subst IsMissing (sym done) a

  pub audited_alike : (a b : Result (List Execution) AuditFault) (text other : List ℕ) → IsAudit (records_of w) a → IsAudit (records_of v) b → IsAuditLine a text → IsAuditLine b other → text ≡ other
  audited_alike (Err Memory) b text other x y line line' = absurd (line.0 refl)
  audited_alike a (Err Memory) text other x y line line' = absurd (line'.0 refl)
  audited_alike (Ok h) (Ok k) text other x y line line' =
      line ∙ ap (λ (n : ℕ). codes "audit agreed " ++ (decimal n ++ codes "\n")) (same_length (all_done (records_of w)) h k x.2 (history k y.2)) ∙ sym line'
  audited_alike (Ok h) (Err Differ) text other x y line line' = absurd (never x.0 (differs y))
  audited_alike (Ok h) (Err Gap) text other x y line line' = rising x.1 y.1
  audited_alike (Ok h) (Err Unrecorded) text other x y line line' = absurd (whole_or_missing (all_done (records_of w)) h x.2 (missing y.2))
  audited_alike (Err Differ) (Ok k) text other x y line line' = absurd (never (agreed y.0) x)
  audited_alike (Err Differ) (Err Differ) text other x y line line' = line.1 ∙ sym line'.1
  audited_alike (Err Differ) (Err Gap) text other x y line line' = absurd (never (agreed y.0) x)
  audited_alike (Err Differ) (Err Unrecorded) text other x y line line' = absurd (never (agreed y.0) x)
  audited_alike (Err Gap) (Ok k) text other x y line line' = falling x.1 y.1
  audited_alike (Err Gap) (Err Differ) text other x y line line' = absurd (never x.0 (differs y))
  audited_alike (Err Gap) (Err Gap) text other x y line line' = line.1 ∙ sym line'.1
  audited_alike (Err Gap) (Err Unrecorded) text other x y line line' = falling x.1 y.1
  audited_alike (Err Unrecorded) (Ok k) text other x y line line' = absurd (whole_or_missing (all_done (records_of w)) k (history k y.2) x.2)
  audited_alike (Err Unrecorded) (Err Differ) text other x y line line' = absurd (never x.0 (differs y))
  audited_alike (Err Unrecorded) (Err Gap) text other x y line line' = rising x.1 y.1
  audited_alike (Err Unrecorded) (Err Unrecorded) text other x y line line' = line.1 ∙ sym line'.1

  pub audits_alike : (text other : List ℕ) → Audits w text → Audits v other → text ≡ other
  audits_alike text other a b = audited_alike a.0 b.0 text other a.1 b.1 a.2 b.2
