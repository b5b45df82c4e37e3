-- In view 0, where clients ask in order, a request that was given out is new where it is executed, so that its Reply is given.
use Rattle.std.proofs.Common.{◌≡◌, ℕ, zero, suc, ◌+◌, ◌-◌, ◌<◌, ◌≤◌, Bool, true, false, ◌||◌, cond, List, [], ◌∷◌, ◌++◌, length, take, Option, Some, None, refl, sym, ap, subst, ◌∙◌, arith, inl, inr}
use Rattle.std.specs.Prelude.{slice_get, is_some, bytes_eq, IfSome}
use Rattle.std.specs.Option.{option_map}
use Rattle.std.proofs.lemmas.Bool.{true≢false, false≢true, and_parts, cases_lt, lt-ltb}
use Rattle.std.proofs.lemmas.Option.{same_Some}
use Rattle.std.proofs.lemmas.Slice.Eq.{bytes_eq-Decides}
use Rattle.service_model.proofs.Bounds.{genesis_bounded}
use Rattle.service_model.proofs.Injective.{last_bounded}
use Rattle.service_model.specs.Bounded.{IsBoundedReply}
use Rattle.service_model.specs.Steps.{reply_to}
use Rattle.pbft_answers.specs.Words.{Signed, RequestBody, Request, Reply, as_message, signed_text}
use Rattle.pbft_codec.specs.declared.body.Body.TheVariants as bodies
use Rattle.pbft_answers.specs.Sequential.{genesis_of, last_reply_of}
use Rattle.pbft_answers.specs.Setup.{Setup, primary, replicas, digest_of, null_digest, request_in}
use Rattle.pbft_answers.specs.Certificates.{Fields, voted, of_commit, has_quorum}
use Rattle.pbft_answers.specs.Core.{Core, start_of, held_with, is_named, is_known, is_certified, is_prepared, is_later, is_new, request_of}
use Rattle.pbft_answers.specs.Acts.{Execute}
use Rattle.pbft_answers.specs.Rows.{Row, Executed, IsNext, IsLawfulFrom}
use Rattle.pbft_answers.specs.Histories.{core_after, IsIn}
use Rattle.pbft_answers.specs.Families.{IsCorrect}
use Rattle.pbft_answers.specs.Agreement.{HoldsState, entry_digest, requests_in}
use Rattle.client_session.specs.Journals.{Journals, HasReceived, HasDone, ComesTo, IsHonestFamily, AgreesOver, greatest_among}
use Rattle.pbft_answers.specs.Progress.{EachEnds}
use Rattle.pbft_answers.specs.Window.{AsksInOrder}
use Rattle.pbft_answers.proofs.Found.{no_some, from_map}
use Rattle.pbft_answers.proofs.Events.{now, taken_at}
use Rattle.pbft_answers.proofs.Holdings.{from_find, held_taken}
use Rattle.pbft_answers.proofs.OverJournals.{agrees_over, each_executed}
use Rattle.pbft_answers.proofs.Reporting.{parted}
use Rattle.pbft_answers.proofs.Kin.{family, told, honest}
use Rattle.pbft_answers.proofs.Proposing.{Signs, executed_signs}
use Rattle.pbft_answers.proofs.Replying.{replies_stem}
use Rattle.pbft_answers.proofs.Listing.{IsTakenBy, same_request, in_take, got_in}
use Rattle.pbft_answers.proofs.Ordering.{times_rise}
use Rattle.client_answers.specs.Replies.{IsExecuted, GivesReply}
use Rattle.client_answers.proofs.Executed.{IsBehind, executed_in, on_from, behind, may_execute, new_gives}

-- ---- places in a list

got_below : {X : Type 0} (xs : List X) (n : ℕ) (x : X) → slice_get xs n ≡ Some x → n < length xs
got_below [] n x is = no_some x is
got_below (y ∷ xs) zero x is = omega arith
got_below (y ∷ xs) (suc n) x is = let less = got_below xs n x is in omega (arith, less)

in_split : {X : Type 0} (x : X) (xs : List X) → IsIn x xs → (before : List X) × (after : List X) × (xs ≡ before ++ x ∷ after)
in_split x [] at = absurd at
in_split x (y ∷ xs) (inl here) = ([], xs, ap (λ z. z ∷ xs) (sym here))
in_split x (y ∷ xs) (inr later) = let w = in_split x xs later in (y ∷ w.0, w.1, ap (λ zs. y ∷ zs) w.2)

-- what is among a list's first items and the next one
in_front : {X : Type 0} (x y : X) (xs ys : List X) → IsIn x (xs ++ y ∷ []) → IsIn x (xs ++ y ∷ ys)
in_front x y [] ys (inl here) = inl here
in_front x y [] ys (inr none) = absurd none
in_front x y (z ∷ xs) ys (inl here) = inl here
in_front x y (z ∷ xs) ys (inr later) = inr (in_front x y xs ys later)

in_middle : {X : Type 0} (x : X) (xs ys : List X) → IsIn x (xs ++ x ∷ ys)
in_middle x [] ys = inl refl
in_middle x (y ∷ xs) ys = inr (in_middle x xs ys)

later_not : (m : Signed RequestBody) (o : Option Reply) → is_later m o ≡ false → (last : Reply) × (o ≡ Some last) × (m.body.time ≤ last.time)
later_not m None e = absurd (true≢false e)
later_not m (Some last) e = elim (cases_lt last.time m.body.time) [
  | inl less ↦ absurd (true≢false (sym (lt-ltb last.time m.body.time less) ∙ e))
  | inr le ↦ (last, refl, le)
]

some_found : {X : Type 0} (o : Option X) → is_some o ≡ true → (x : X) × (o ≡ Some x)
some_found None e = absurd (false≢true e)
some_found (Some x) e = (x, refl)

-- ---- where it was executed

-- A row that reports it, and the cores before and behind it.
record Place (c : Setup) (j : Journals) (i number : ℕ) (digest result : List ℕ) : Type 0 where
  earlier : List Row
  row : Row
  later : List Row
  splits : j.rows i ≡ earlier ++ row ∷ later
  core : Core
  comes : ComesTo c j i earlier core
  last : Core
  next : IsNext c i core row last
  within : IsIn (Executed number digest result) row.done

place : (c : Setup) (j : Journals) → IsHonestFamily c j → (i : ℕ) → IsCorrect c j.faulty i → (number : ℕ) (digest result : List ℕ) → HasDone (Executed number digest result) (j.rows i) → Place c j i number digest result
place c j h i correct number digest result (row, at, within) =
    let w = in_split row (j.rows i) at in
    let end = h.lawful i correct in
    let p = parted c i (j.signer i) [] w.0 (row ∷ w.1) (start_of c (j.signer i)) end.0 (subst (λ (rows : List Row). IsLawfulFrom c i (start_of c (j.signer i)) rows end.0) w.2 end.1) in
    record { earlier = w.0; row = row; later = w.1; splits = w.2; core = p.mid; comes = p.first; last = p.second.0; next = p.second.1; within = within }

module _ (c : Setup) (j : Journals) (h : IsHonestFamily c j) (first : EachEnds c j (λ i s. s.view ≡ 0)) (leader : IsCorrect c j.faulty (primary c.config 0)) where
  abbrev pub entries : List (Option (Signed RequestBody))
  entries = (agrees_over c j h).0

  pub over : AgreesOver c j entries
  over = (agrees_over c j h).1

  pub received_taken : (i : ℕ) → IsCorrect c j.faulty i → (m : Signed RequestBody) → HasReceived (as_message bodies.Request m) (j.rows i) → IsTakenBy c j h first leader m
  received_taken i correct m received =
      let w = (told c j h i correct).takes (as_message bodies.Request m) received in
      (i, correct, taken_at (as_message bodies.Request m) w.reading w.early ((family c j h).acts i) w.point)

  pub entry_taken : (k : ℕ) (m : Signed RequestBody) → slice_get entries k ≡ Some (Some m) → IsTakenBy c j h first leader m
  entry_taken k m found = let w = over.received m (got_in entries k (Some m) found) in received_taken w.0 w.1 m w.2

  -- each entry is what the primary proposed at its number
  pub entry_signs : (k : ℕ) (e : Option (Signed RequestBody)) → slice_get entries k ≡ Some e → Signs c j h first leader (record { view = 0; number = suc k; digest = entry_digest c e })
  entry_signs k e found =
      let below : k < length entries = got_below entries k e found in
      let long : length entries ≡ greatest_among j (replicas c.config) = over.as_long in
      let w = each_executed c j h k (omega (arith, below, long)) in
      let served = over.executed w.0 (k + 1) w.1 w.2 w.3 w.4 in
      let here : (k + 1) - 1 ≡ k = omega arith in
      let up : k + 1 ≡ suc k = omega arith in
      let same : served.entry ≡ e = same_Some served.entry e (sym served.is_entry ∙ ap (slice_get entries) here ∙ found) in
      let digest : w.1 ≡ entry_digest c e = served.digest_is ∙ ap (entry_digest c) same in
      subst (Signs c j h first leader) (λ i. record { view = 0; number = up i; digest = digest i }) (executed_signs c j h first leader w.0 w.3 (k + 1) w.1 w.2 w.4)

  not_null : (m : Signed RequestBody) → IsTakenBy c j h first leader m → null_digest c ≡ digest_of c m → ⊥
  not_null m taken same = never ((honest c j h).apart [] (signed_text (as_message bodies.Request m)) (inl refl) (inr (inl (m, taken, refl))) same) where
    never : [] ≡ signed_text (as_message bodies.Request m) → ⊥
    never e = cc

  -- Where a request is new no more, an entry before has its client and no lower time.
  pub old_entry : (s : Core) → HoldsState c entries s → (m : Signed RequestBody) → is_new s.service m ≡ false
      → (k : ℕ) × (p : Signed RequestBody) × (k < s.executed) × (slice_get entries k ≡ Some (Some p)) × (p.id ≡ m.id) × (m.body.time ≤ p.body.time)
  old_entry s held m old =
      let last = later_not m (last_reply_of s.service m.id) old in
      elim (replies_stem (genesis_of c.config) (requests_in (take s.executed entries)) s.service held.outcomes m.id last.0 held.serves last.1) [
        | inl before ↦
            let bounds : IsBoundedReply 0 m.id last.0 = subst (λ (o : Option Reply). IfSome o (IsBoundedReply 0 m.id)) before (last_bounded (genesis_of c.config) (genesis_bounded c.config h.configuration) m.id) in
            let low = bounds.not_null in
            let high = bounds.not_later in
            absurd (omega (arith, low, high))
        | inr w ↦
            let v = from_map (option_map request_in) (take s.executed entries) (Some w.0) w.1 in
            let at_index = in_take s.executed entries v.0 v.1 in
            by at_index.0 at_index.1 v.0 at_index.2 w.0 (sym v.2) w.2 last.0 w.3 last.2
      ] where
        by : (k : ℕ) → k < s.executed → (e : Option (Signed RequestBody)) → slice_get entries k ≡ Some e → (request : Request) → option_map request_in e ≡ Some request
            → request.client.0 ≡ m.id → (last : Reply) → request.time ≡ last.time → m.body.time ≤ last.time
            → (k : ℕ) × (p : Signed RequestBody) × (k < s.executed) × (slice_get entries k ≡ Some (Some p)) × (p.id ≡ m.id) × (m.body.time ≤ p.body.time)
        by k below None found request is client last time le = no_some request is
        by k below (Some p) found request is client last time le =
            let same : request_in p ≡ request = same_Some (request_in p) request is in
            let at_time : p.body.time ≡ last.time = ap (λ (r : Request). r.time) same ∙ time in
            (k, p, below, found, ap (λ (r : Request). r.client.0) same ∙ client, omega (arith, at_time, le))

  -- What was proposed at a higher number is new, where the primary's proposals of each client rise in time.
  above_new : (s : Core) → HoldsState c entries s → (x : Fields) (m : Signed RequestBody) → s.executed < x.number
      → ((y : Fields) (p : Signed RequestBody) → Signs c j h first leader y → y.number < x.number → IsTakenBy c j h first leader p → digest_of c p ≡ y.digest → p.id ≡ m.id → p.body.time < m.body.time)
      → is_new s.service m ≡ true
  above_new s held x m less rising = split (is_new s.service m) refl where
    split : (b : Bool) → is_new s.service m ≡ b → is_new s.service m ≡ true
    split true e = e
    split false e =
        let (k, p, below, found, id, le) = old_entry s held m e in
        let earlier = rising (record { view = 0; number = suc k; digest = digest_of c p }) p (entry_signs k (Some p) found) (omega (arith, below, less)) (entry_taken k p found) refl id in
        absurd (omega (arith, earlier, le))

  -- ---- what a committed digest stands for

  -- A held request of this digest, for which the digest stands.
  record Stood (s : Core) (digest : List ℕ) : Type 0 where
    request : Signed RequestBody
    held : IsIn request s.held
    named : digest_of c request ≡ digest
    is : request_of c s digest ≡ Some (request_in request)

  stood : (s : Core) (m : Signed RequestBody) → IsTakenBy c j h first leader m → is_known c s (digest_of c m) ≡ true → Stood s (digest_of c m)
  stood s m taken known = cases (bytes_eq (digest_of c m) (null_digest c)) refl known where
    stands : (b : Bool) → b ≡ false → (o : Option Request) → (r : Request) → o ≡ Some r → cond b None o ≡ Some r
    stands false e o r is = is
    stands true e o r is = absurd (true≢false e)

    cases : (b : Bool) → bytes_eq (digest_of c m) (null_digest c) ≡ b → (b || is_some (held_with c s.held (digest_of c m))) ≡ true → Stood s (digest_of c m)
    cases true same e = absurd (not_null m taken (sym ((bytes_eq-Decides (digest_of c m) (null_digest c)).0 same)))
    cases false other e =
        let p = some_found (held_with c s.held (digest_of c m)) e in
        let found = from_find (is_named c (digest_of c m)) s.held p.0 p.1 in
        record {
          request = p.0;
          held = found.0;
          named = (bytes_eq-Decides (digest_of c p.0) (digest_of c m)).0 found.1;
          is = stands (bytes_eq (digest_of c m) (null_digest c)) other (option_map request_in (held_with c s.held (digest_of c m))) (request_in p.0) (ap (option_map request_in) p.1);
        }

  -- ---- who executed it replied

  -- what is held behind these rows and within the next one was taken
  held_by : (i : ℕ) → IsCorrect c j.faulty i → (earlier later : List Row) (row : Row) → j.rows i ≡ earlier ++ row ∷ later → (s : Core) → IsBehind c i (j.signer i) (earlier ++ row ∷ []) s
      → (q : Signed RequestBody) → IsIn q s.held → IsTakenBy c j h first leader q
  held_by i correct earlier later row splits s b q held =
      let within : IsIn q (core_after c (j.signer i) b.acts).held = subst (λ (t : Core). IsIn q t.held) (sym b.core_is) held in
      let came = b.received (as_message bodies.Request q) (held_taken c i (j.signer i) b.acts b.is b.acts (now b.acts) q within) in
      received_taken i correct q (came.0, subst (λ (rows : List Row). IsIn came.0 rows) (sym splits) (in_front came.0 row earlier later came.1), came.2)

  module _ (asks : AsksInOrder c j) (x : Fields) (signs : Signs c j h first leader x) (m : Signed RequestBody) (taken : IsTakenBy c j h first leader m) (digest : x.digest ≡ digest_of c m) where
    -- where its number is not yet reached, the request is new
    new_there : (s : Core) → HoldsState c entries s → s.executed < x.number → (q : Signed RequestBody) → IsTakenBy c j h first leader q → digest_of c q ≡ x.digest → is_new s.service q ≡ true
    new_there s held less q q_taken named =
        above_new s held x q less (λ y p signs_y lower p_taken p_named id. times_rise c j h first leader asks x y signs signs_y lower p q p_taken q_taken p_named named id)

    -- the execution's row, where the core that it is done in keeps the service's state
    given_in : (i : ℕ) → IsCorrect c j.faulty i → (result : List ℕ) (p : Place c j i x.number x.digest result) (e : IsExecuted c i p.core p.row x.number x.digest result) → HoldsState c entries e.from
        → GivesReply i e.from.view (reply_to (request_in m) x.number result) p.row.outputs
    given_in i correct result p e held =
        let b = behind c i (j.signer i) p.earlier p.core p.comes p.row e.last e.next e.earlier e.from e.follows in
        let ok = may_execute c i (j.signer i) (p.earlier ++ p.row ∷ []) e.from b x.number x.digest e.state e.outcome e.later e.last (on_from c i p.core p.row x.number x.digest result e) in
        let y : Fields = record { view = e.from.view; number = x.number; digest = x.digest } in
        let prepared = (and_parts (is_prepared c e.from y) (has_quorum c.config (voted of_commit e.from.commits y)) ok.committed).0 in
        let known : is_known c e.from (digest_of c m) ≡ true = subst (λ (d : List ℕ). is_known c e.from d ≡ true) digest ((and_parts (is_certified c e.from y) (is_known c e.from x.digest) prepared).1) in
        let next = ok.next in
        by (omega (arith, next)) (held_by i correct p.earlier p.later p.row p.splits e.from b) (stood e.from m taken known) where
          by : e.from.executed < x.number → ((q : Signed RequestBody) → IsIn q e.from.held → IsTakenBy c j h first leader q) → Stood e.from (digest_of c m) → GivesReply i e.from.view (reply_to (request_in m) x.number result) p.row.outputs
          by less all_taken q =
              let q_taken = all_taken q.request q.held in
              let same = same_request c j h first leader q.request m q_taken taken q.named in
              let named : digest_of c q.request ≡ x.digest = q.named ∙ sym digest in
              let stands : request_of c e.from x.digest ≡ Some (request_in q.request) = ap (request_of c e.from) digest ∙ q.is in
              let given = new_gives c i (j.signer i) p.earlier p.core p.comes p.row x.number x.digest result e q.request stands (new_there e.from held less q.request q_taken named) in
              subst (λ (r : Request). GivesReply i e.from.view (reply_to r x.number result) p.row.outputs) same given

    -- A correct replica that executed what was given out gave its Reply.
    pub replied : (i : ℕ) → IsCorrect c j.faulty i → (result : List ℕ) → HasDone (Executed x.number x.digest result) (j.rows i)
        → (row : Row) × (view : ℕ) × IsIn row (j.rows i) × GivesReply i view (reply_to (request_in m) x.number result) row.outputs
    replied i correct result done =
        let p = place c j h i correct x.number x.digest result done in
        let e = executed_in c i p.core p.row p.last p.next x.number x.digest result p.within in
        let held = over.states i correct e.from (record {
          rows = p.earlier;
          rest = p.row ∷ p.later;
          splits = p.splits;
          core = p.core;
          comes = p.comes;
          there = inr (record { last = e.last; next = e.next; acts = e.earlier; later = Execute x.number x.digest e.state e.outcome ∷ e.later; splits = e.splits; follows = e.follows });
        }) in
        (p.row, e.from.view, subst (λ (rows : List Row). IsIn p.row rows) (sym p.splits) (in_middle p.row p.earlier p.later), given_in i correct result p e held)
