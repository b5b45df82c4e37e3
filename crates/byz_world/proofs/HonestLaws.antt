-- What events at a world keep, and that its journals are an honest family.
use Rattle.std.proofs.Common.{◌≡◌, ℕ, zero, suc, ◌+◌, ◌<◌, ◌≤◌, ◌⊎◌, inl, inr, Bool, true, false, not, cond, eqb, List, [], ◌∷◌, ◌++◌, find, map, Option, Some, None, Result, Ok, Err, refl, sym, ap, subst, ◌∙◌, arith}
use Rattle.std.specs.Prelude.{filter, nat_lt, is_some, IsSomeAnd, MatchOption}
use Rattle.std.specs.List.{AllByRecursion, range_with_len}
use Rattle.std.proofs.lemmas.Bool.{cases_lt, false≢true, eqb-true, eqb-false}
use Rattle.std.proofs.lemmas.List.{map-append}
use Rattle.std.proofs.lemmas.Option.{same_Some}
use Rattle.host_types.specs.Configuration.{Configuration, IsConfiguration, replicas_for}
use Rattle.host_types.specs.declared.key.PublicKey.{PublicKey}
use Rattle.lms_tree.specs.Keys.{IsKeyOf}
use Rattle.pbft_codec.specs.declared.signed.Role.TheVariants as roles
use Rattle.pbft_model.specs.Core.{Core, start_of}
use Rattle.pbft_model.specs.Histories.{IsIn}
use Rattle.pbft_agreement.specs.Journals.{Agrees, ComesTo, IsHonestFamily, Journals}
use Rattle.pbft_model.specs.Rows.{IsLawfulFrom, IsListed, IsNext, Row}
use Rattle.pbft_model.specs.Setup.{Setup, setup_of}
use Rattle.pbft_model.specs.Words.{SigningState}
use Rattle.pbft_agreement.proofs.OverJournals.{agrees_over}
use Rattle.seal.specs.Opening.{CheckedMessage, opening}
use Rattle.seal.specs.declared.fault.SealFault.{SealFault}
use Rattle.seal.specs.Signers.{key_of}
use Rattle.replica_journal.specs.Facts.{RowFacts, row_of}
use Rattle.replica_journal.specs.Steps.{Goes, ReplicaFacts, StopsFrom, status_of}
use Rattle.replica_journal.specs.Halt.{Halt}
use Rattle.replica_journal.specs.Status.{Status}
use Rattle.replica_journal.specs.Input.{Input}
use Rattle.replica_journal.specs.Input.TheVariants as inputs
use Rattle.replica_journal.specs.Output.{Output}
use Rattle.byz_world.specs.declared.event.Event.{Event}
use Rattle.byz_world.specs.declared.event.Event.TheVariants as events
use Rattle.byz_world.specs.declared.fault.WorldFault.TheVariants as faults
use Rattle.byz_world.specs.Leading.{AreJournalsOf, IsToldOf, LeadsTo}
use Rattle.byz_world.specs.Worlds.{Answer, AreListed, AtReplica, Comes, Delivers, Forwards, Gives, Hands, IsHonestReport, IsSignedBy, MemberFacts, Passes, Refuses, Where, WorldFacts, correct_ids, first_members, first_world, member_of, outcome_of, output_of, rows_in}

-- a replica's rows are lawful from its signer's first core on, up to the core that it has and where it stands
pub record IsKept (c : Configuration) (by : ℕ → SigningState) (m : MemberFacts) : Type 0 where
  pub config : m.replica.config ≡ c
  pub last : Core
  pub lawful : IsLawfulFrom (setup_of c) m.replica.me (start_of (setup_of c) (by m.replica.me)) (map row_of m.rows) last
  pub has : (s : Core) → m.replica.core ≡ Some s → s ≡ last
  pub stands : m.replica.status ≡ record (status_of last) { halted = m.replica.status.halted }

abbrev AreKept : Configuration → (ℕ → SigningState) → List MemberFacts → Type 0
AreKept c by ms = AllByRecursion (IsKept c by) ms

first_kept : (c : Configuration) (ids : List ℕ) (signers : List SigningState) (j : Journals) → IsSignedBy ids signers j → AreKept c j.signer (first_members c ids signers)
first_kept c [] signers j signed = tt
first_kept c (id ∷ ids) [] j signed = tt
first_kept c (id ∷ ids) (signer ∷ signers) j signed = (
  record {
    config = refl;
    last = start_of (setup_of c) (j.signer id);
    lawful = refl;
    has = λ s is. sym (same_Some _ _ is) ∙ ap (start_of (setup_of c)) (sym signed.0);
    stands = ap (λ (x : SigningState). status_of (start_of (setup_of c) x)) (sym signed.0);
  },
  first_kept c ids signers j signed.1,
)

-- ---- one input

lawful_more : (c : Setup) (me : ℕ) (s : Core) (rows : List Row) (last : Core) (row : Row) (next : Core) → IsLawfulFrom c me s rows last → IsNext c me last row next → IsLawfulFrom c me s (rows ++ row ∷ []) next
lawful_more c me s [] last row next is n = (next, subst (λ (x : Core). IsNext c me x row next) is n, refl)
lawful_more c me s (r ∷ rows) last row next (u, first, rest) n = (u, first, lawful_more c me u rows last row next rest n)

went : (c : Configuration) (by : ℕ → SigningState) (m : MemberFacts) (input : Input) (row : RowFacts) (after : ReplicaFacts) → IsKept c by m → Goes m.replica input row after
    → IsKept c by (record { replica = after; rows = m.rows ++ row ∷ [] })
went c by m input row after kept goes =
    subst (λ (r : ReplicaFacts). IsKept c by (record { replica = r; rows = m.rows ++ row ∷ [] })) (sym goes.new) (record {
      config = kept.config;
      last = goes.next;
      lawful = subst (λ (rs : List Row). IsLawfulFrom (setup_of c) m.replica.me (start_of (setup_of c) (by m.replica.me)) rs goes.next) (sym (map-append row_of m.rows (row ∷ [])))
          (lawful_more (setup_of c) m.replica.me _ (map row_of m.rows) kept.last (row_of row) goes.next kept.lawful
          (subst (λ (x : Configuration). IsNext (setup_of x) m.replica.me kept.last (row_of row) goes.next) kept.config
          (subst (λ (x : Core). IsNext (setup_of m.replica.config) m.replica.me x (row_of row) goes.next) (kept.has goes.before goes.was) goes.is_next)));
      has = λ s is. sym (same_Some _ _ is);
      stands = refl;
    })

stopped_from : (c : Configuration) (by : ℕ → SigningState) (m : MemberFacts) (input : Input) (halt : Halt) (after : ReplicaFacts) (o : Option Core) → IsKept c by m
    → StopsFrom o m.replica input halt after → IsKept c by (record { replica = after; rows = m.rows })
stopped_from c by m input halt after None kept stops = subst (λ (r : ReplicaFacts). IsKept c by (record { replica = r; rows = m.rows })) (sym stops.1) kept
stopped_from c by m input halt after (Some s) kept stops =
    subst (λ (r : ReplicaFacts). IsKept c by (record { replica = r; rows = m.rows })) (sym stops.1)
    (record {
      config = kept.config;
      last = kept.last;
      lawful = kept.lawful;
      has = λ k is. none k is;
      stands = ap (λ (x : Status). record x { halted = Some halt }) kept.stands;
    }) where
      none : (k : Core) → (let no : Option Core = None in no) ≡ Some k → k ≡ kept.last
      none k is = absurd (false≢true (ap is_some is))

-- ---- events

abbrev put : MemberFacts → MemberFacts → MemberFacts
put t x = cond (eqb x.replica.me t.replica.me) t x

put_kept : (c : Configuration) (by : ℕ → SigningState) (t : MemberFacts) (ms : List MemberFacts) → IsKept c by t → AreKept c by ms → AreKept c by (map (put t) ms)
put_kept c by t [] one all = tt
put_kept c by t (m ∷ ms) one all = (either (eqb m.replica.me t.replica.me), put_kept c by t ms one all.1) where
  either : (b : Bool) → IsKept c by (cond b t m)
  either true = one
  either false = all.0

found_kept : (c : Configuration) (by : ℕ → SigningState) (p : MemberFacts → Bool) (ms : List MemberFacts) (m : MemberFacts) → AreKept c by ms → find p ms ≡ Some m → IsKept c by m
found_kept c by p [] m all is = absurd (false≢true (ap is_some is))
found_kept c by p (x ∷ ms) m all is = either (p x) is (λ later. found_kept c by p ms m all.1 later) where
  either : (b : Bool) → cond b (Some x) (find p ms) ≡ Some m → (find p ms ≡ Some m → IsKept c by m) → IsKept c by m
  either true here later = subst (IsKept c by) (same_Some _ _ here) all.0
  either false there later = later there

hands_kept : (c : Configuration) (by : ℕ → SigningState) (w : WorldFacts) (m : MemberFacts) (input : Input) (r : Answer) (t : WorldFacts) → AreKept c by w.members → IsKept c by m
    → Hands w m input r t → AreKept c by t.members
hands_kept c by w m input r t all one (inl gives) =
    subst (λ (x : WorldFacts). AreKept c by x.members) (sym gives.new) (put_kept c by _ w.members (went c by m input gives.row gives.after one gives.goes) all)
hands_kept c by w m input r t all one (inr gives) =
    subst (λ (x : WorldFacts). AreKept c by x.members) (sym gives.new) (put_kept c by _ w.members (stopped_from c by m input gives.halt gives.after m.replica.core one gives.stops) all)

comes_kept : (c : Configuration) (by : ℕ → SigningState) (w : WorldFacts) (id : ℕ) (input : Input) (r : Answer) (t : WorldFacts) → AreKept c by w.members → Comes w id input r t → AreKept c by t.members
comes_kept c by w id input r t all comes = either (member_of w id) refl comes where
  either : (o : Option MemberFacts) → member_of w id ≡ o → MatchOption o (Passes w r t) (λ m. Hands w m input r t) → AreKept c by t.members
  either None is passes = subst (λ (x : WorldFacts). AreKept c by x.members) (sym passes.1) all
  either (Some m) is hands = hands_kept c by w m input r t all (found_kept c by (λ (x : MemberFacts). eqb x.replica.me id) w.members m all is) hands

delivers_kept : (c : Configuration) (by : ℕ → SigningState) (w : WorldFacts) (id : ℕ) (x : Result CheckedMessage SealFault) (r : Answer) (t : WorldFacts) → AreKept c by w.members → Delivers w id x r t
    → AreKept c by t.members
delivers_kept c by w id (Ok m) r t all comes = comes_kept c by w id _ r t all comes
delivers_kept c by w id (Err fault) r t all passes = subst (λ (x : WorldFacts). AreKept c by x.members) (sym passes.1) all

forwards_kept : (c : Configuration) (by : ℕ → SigningState) (w : WorldFacts) (id : ℕ) (o : Option Output) (r : Answer) (t : WorldFacts) → AreKept c by w.members → Forwards w id o r t → AreKept c by t.members
forwards_kept c by w id None r t all refuses = subst (λ (x : WorldFacts). AreKept c by x.members) (sym refuses.1) all
forwards_kept c by w id (Some output) r t all delivers = delivers_kept c by w id _ r t all delivers

where_kept : (b : Bool) (A B C : Type 0) → (A → C) → (B → C) → Where b A B → C
where_kept true A B C f g x = f x
where_kept false A B C f g x = g x

pub at_kept : (w : WorldFacts) (id : ℕ) (r : Answer) (t : WorldFacts) (A C : Type 0) → (A → C) → (Refuses faults.NoSuchReplica w r t → C) → AtReplica w id r t A → C
at_kept w id r t A C f g x = where_kept (nat_lt id (replicas_for w.config.f)) A (Refuses faults.NoSuchReplica w r t) C f g x

refused_kept : (c : Configuration) (by : ℕ → SigningState) (w : WorldFacts) (r : Answer) (t : WorldFacts) → AreKept c by w.members → Refuses faults.NoSuchReplica w r t → AreKept c by t.members
refused_kept c by w r t all n = subst (λ (x : WorldFacts). AreKept c by x.members) (sym n.1) all

gives_kept : (c : Configuration) (by : ℕ → SigningState) (w : WorldFacts) (event : Event) (r : Answer) (t : WorldFacts) → AreKept c by w.members → Gives w event r t → AreKept c by t.members
gives_kept c by w (events.Deliver to bytes) r t all gives =
    at_kept w to.0 r t (Delivers w to.0 (opening w.config bytes) r t) (AreKept c by t.members) (delivers_kept c by w to.0 (opening w.config bytes) r t all) (refused_kept c by w r t all) gives
gives_kept c by w (events.Forward to from output) r t all gives =
    let there : Type 0 = Forwards w to.0 (output_of w from.0 output) r t in
    at_kept w to.0 r t (AtReplica w from.0 r t there) (AreKept c by t.members)
    (at_kept w from.0 r t there (AreKept c by t.members) (forwards_kept c by w to.0 (output_of w from.0 output) r t all) (refused_kept c by w r t all)) (refused_kept c by w r t all) gives
gives_kept c by w (events.Timeout at) r t all gives =
    at_kept w at.0 r t (Comes w at.0 inputs.Timeout r t) (AreKept c by t.members) (comes_kept c by w at.0 inputs.Timeout r t all) (refused_kept c by w r t all) gives

leads_kept : (c : Configuration) (by : ℕ → SigningState) (w : WorldFacts) (es : List Event) (t : WorldFacts) → AreKept c by w.members → LeadsTo w es t → AreKept c by t.members
leads_kept c by w [] t all leads = subst (λ (x : WorldFacts). AreKept c by x.members) (sym leads) all
leads_kept c by w (e ∷ es) t all (answer, u, gives, rest) = leads_kept c by u es t (gives_kept c by w e answer u all gives) rest

-- ---- the report

reported : (c : Configuration) (by : ℕ → SigningState) (ms : List MemberFacts) (i : ℕ) → AreKept c by ms
    → (last : Core) × IsLawfulFrom (setup_of c) i (start_of (setup_of c) (by i)) (map row_of (rows_in (map outcome_of ms) i)) last
reported c by [] i all = (start_of (setup_of c) (by i), refl)
reported c by (m ∷ ms) i all = either (eqb m.replica.me i) refl (reported c by ms i all.1) where
  either : (b : Bool) → eqb m.replica.me i ≡ b
      → ((last : Core) × IsLawfulFrom (setup_of c) i (start_of (setup_of c) (by i)) (map row_of (rows_in (map outcome_of ms) i)) last)
      → (last : Core) × IsLawfulFrom (setup_of c) i (start_of (setup_of c) (by i)) (map row_of (cond b m.rows (rows_in (map outcome_of ms) i))) last
  either true is later = (all.0.last, subst (λ (n : ℕ). IsLawfulFrom (setup_of c) n (start_of (setup_of c) (by n)) (map row_of m.rows) all.0.last) (eqb-true m.replica.me i is) all.0.lawful)
  either false is later = later

strictly : (a i : ℕ) → a ≤ i → eqb a i ≡ false → a < i
strictly a i low differ = either (cases_lt a i) where
  either : (a < i) ⊎ (i ≤ a) → a < i
  either (inl less) = less
  either (inr more) = absurd (eqb-false a i differ (omega (arith, low, more)))

pub among : (p : ℕ → Bool) (i a n : ℕ) → a ≤ i → i < a + n → p i ≡ true → IsIn i (filter p (range_with_len a n))
among p i a zero low high is = absurd (omega (arith, low, high))
among p i a (suc n) low high is = either (eqb a i) refl (λ less. among p i (a + 1) n (omega (arith, less)) (omega (arith, high)) is) where
  later : (b : Bool) → IsIn i (filter p (range_with_len (a + 1) n)) → IsIn i (cond b (a ∷ filter p (range_with_len (a + 1) n)) (filter p (range_with_len (a + 1) n)))
  later true at = inr at
  later false at = at

  here : (b : Bool) → b ≡ true → a ≡ i → IsIn i (cond b (a ∷ filter p (range_with_len (a + 1) n)) (filter p (range_with_len (a + 1) n)))
  here true right same = inl (sym same)
  here false wrong same = absurd (false≢true wrong)

  either : (b : Bool) → eqb a i ≡ b → (a < i → IsIn i (filter p (range_with_len (a + 1) n))) → IsIn i (filter p (range_with_len a (suc n)))
  either true same more = here (p a) (ap p (eqb-true a i same) ∙ is) (eqb-true a i same)
  either false differ more = later (p a) (more (strictly a i low differ))

listed_one : (c : Configuration) (i : ℕ) (signer : SigningState) (o : Option PublicKey) → key_of c roles.Replica i ≡ o → IsSomeAnd o (λ key. IsKeyOf key signer) → IsListed (setup_of c) i signer
listed_one c i signer None is h = absurd h
listed_one c i signer (Some key) is h = (key, is, h)

listed_in : (c : Configuration) (ids : List ℕ) (signers : List SigningState) (j : Journals) (i : ℕ) → AreListed c ids signers → IsSignedBy ids signers j → IsIn i ids → IsListed (setup_of c) i (j.signer i)
listed_in c [] signers j i listed signed at = absurd at
listed_in c (id ∷ ids) [] j i listed signed at = absurd listed
listed_in c (id ∷ ids) (signer ∷ signers) j i listed signed (inl here) =
    subst (λ (n : ℕ). IsListed (setup_of c) n (j.signer n)) (sym here)
    (subst (IsListed (setup_of c) id) (sym signed.0) (listed_one c id signer (key_of c roles.Replica id) refl listed.0))
listed_in c (id ∷ ids) (signer ∷ signers) j i listed signed (inr later) = listed_in c ids signers j i listed.1 signed.1 later

-- the member of an id, and its rows in the report
pub found_rows : (ms : List MemberFacts) (id : ℕ) (m : MemberFacts) → find (λ x. eqb x.replica.me id) ms ≡ Some m → (m.replica.me ≡ id) × (rows_in (map outcome_of ms) id ≡ m.rows)
found_rows [] id m is = absurd (false≢true (ap is_some is))
found_rows (x ∷ ms) id m is = either (eqb x.replica.me id) refl is (λ later. found_rows ms id m later) where
  either : (b : Bool) → eqb x.replica.me id ≡ b → cond b (Some x) (find (λ y. eqb y.replica.me id) ms) ≡ Some m
      → (find (λ y. eqb y.replica.me id) ms ≡ Some m → (m.replica.me ≡ id) × (rows_in (map outcome_of ms) id ≡ m.rows))
      → (m.replica.me ≡ id) × (cond b x.rows (rows_in (map outcome_of ms) id) ≡ m.rows)
  either true same here later = (ap (λ (y : MemberFacts). y.replica.me) (sym (same_Some _ _ here)) ∙ eqb-true x.replica.me id same, ap (λ (y : MemberFacts). y.rows) (same_Some _ _ here))
  either false other there later = later there

module _ (c : Configuration) (faulty : ℕ → Bool) (signers : List SigningState) (es : List Event) (t : WorldFacts) (leads : LeadsTo (first_world c faulty signers) es t) (j : Journals) (of : AreJournalsOf c faulty signers t j) where
  kept : AreKept c j.signer t.members
  kept = leads_kept c j.signer (first_world c faulty signers) es t (first_kept c (correct_ids c faulty) signers j of.signed) leads

  -- The rows of each replica are lawful, and come to a core.
  pub world_lawful : (i : ℕ) → (last : Core) × ComesTo (setup_of c) j i (j.rows i) last
  world_lawful i =
      let is = reported c j.signer t.members i kept in
      (is.0, subst (λ (rs : List Row). IsLawfulFrom (setup_of c) i (start_of (setup_of c) (j.signer i)) rs is.0) (sym (of.reported.rows_are i)) is.1)

  -- Where its premises hold that no code gives, the journals are an honest family.
  pub world_family : IsConfiguration c → AreListed c (correct_ids c faulty) signers → IsHonestReport (setup_of c) j → IsHonestFamily (setup_of c) j
  world_family legal listed honest = record {
    configuration = legal;
    few = honest.few;
    listed = λ i is. listed_in c (correct_ids c faulty) signers j i listed of.signed
        (among (λ (n : ℕ). not (faulty n)) i 0 (replicas_for c.f) (omega arith) (omega (arith, is.0)) (ap not (sym (ap (λ (f : ℕ → Bool). f i) of.reported.faulty_is) ∙ is.1)));
    lawful = λ i is. world_lawful i;
    real = honest.real;
    apart = honest.apart;
  }

  pub world_agrees : IsConfiguration c → AreListed c (correct_ids c faulty) signers → IsHonestReport (setup_of c) j → Agrees (setup_of c) j
  world_agrees legal listed honest = agrees_over (setup_of c) j (world_family legal listed honest)

  pub world_told : (id : ℕ) (m : MemberFacts) → member_of t id ≡ Some m → IsToldOf c j id m
  world_told id m is =
      let one = found_kept c j.signer (λ (x : MemberFacts). eqb x.replica.me id) t.members m kept is in
      let found = found_rows t.members id m is in
      let here = subst (λ (n : ℕ). IsLawfulFrom (setup_of c) n (start_of (setup_of c) (j.signer n)) (map row_of m.rows) one.last) found.0 one.lawful in
      record {
        last = one.last;
        comes = subst (λ (rs : List Row). IsLawfulFrom (setup_of c) id (start_of (setup_of c) (j.signer id)) rs one.last) (sym (of.reported.rows_are id ∙ ap (map row_of) found.1)) here;
        core_is = one.has;
        status_is = one.stands;
      }
