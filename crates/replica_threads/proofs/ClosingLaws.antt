-- Journals behind one another, and what all of them are.
use Rattle.std.proofs.Common.{◌≡◌, ℕ, zero, suc, ◌+◌, ◌<◌, inl, inr, List, [], ◌∷◌, ◌++◌, Option, Some, None, length, map, refl, subst, sym, ap, ◌∙◌, arith, length-append}
use Rattle.std.specs.Prelude.{IfSome, slice_get}
use Rattle.std.proofs.lemmas.Bool.{cases_lt}
use Rattle.std.proofs.lemmas.List.{length-map, map-append}
use Rattle.host_types.specs.Configuration.{Configuration, IsConfiguration, replicas_for}
use Rattle.host_types.specs.declared.ReplicaId.{ReplicaId}
use Rattle.lms_tree.specs.SigningState.{SigningState}
use Rattle.byz_world.specs.Facts.{RowFacts}
use Rattle.byz_world.specs.Status.{Status}
use Rattle.byz_world.specs.Records.{AgreeUnlessForged, AreJournals, record_at}
use Rattle.replica_threads.specs.Hosts.{AgreeAtClose, AreIdsFrom, AreRecords, HostFacts, IsRecord, RecordFacts, Stands, StandsAt}
use Rattle.replica_threads.specs.Stations.{IsJournalOf}

-- The journal of a replica, from the signer on that the host was given.
abbrev IsGiven : HostFacts → ℕ → List RowFacts → Type 0
IsGiven h id rows = (leaf : ℕ) × (slice_get h.leaves id ≡ Some leaf) × IsRecord h.config id leaf rows

given_at : (h : HostFacts) (m n : ℕ) (rows : List RowFacts) → m ≡ n → IsGiven h m rows → IsGiven h n rows
given_at h m n rows is given = subst (λ (k : ℕ). IsGiven h k rows) is given

journal_more : (h : HostFacts) (id : ℕ) (records : List (List RowFacts)) (rows : List RowFacts) → AreRecords h id records → IsGiven h (id + length records) rows
    → AreRecords h id (records ++ rows ∷ [])
journal_more h id [] rows are one = (given_at h (id + 0) id rows (omega arith) one, tt)
journal_more h id (r ∷ records) rows are one =
    (are.0, journal_more h (id + 1) records rows are.1 (given_at h (id + length (r ∷ records)) (id + 1 + length records) rows (omega arith) one))

pub journal_of : (h : HostFacts) (id : ℕ) (r : RecordFacts) (rows : List RowFacts) → r.config ≡ h.config → r.id ≡ id → slice_get h.leaves id ≡ Some r.leaf → IsRecord r.config r.id r.leaf rows → IsGiven h id rows
journal_of h id r rows config id_is leaf_is journal =
    (r.leaf, leaf_is, subst (λ (n : ℕ). IsRecord h.config n r.leaf rows) id_is (subst (λ (x : Configuration). IsRecord x r.id r.leaf rows) config journal))

pub one_more : {X : Type 0} (h : HostFacts) (rows_of : X → List RowFacts) (xs ys : List X) (x : X) (id : ℕ) → ys ≡ xs ++ x ∷ []
    → (length xs ≡ id) × AreRecords h 0 (map rows_of xs) → IsGiven h id (rows_of x) → (length ys ≡ id + 1) × AreRecords h 0 (map rows_of ys)
one_more h rows_of xs ys x id is before one =
    let many = length-append xs (x ∷ []) in
    let mapped : length (map rows_of xs) ≡ length xs = length-map xs rows_of in
    let here = given_at h id (0 + length (map rows_of xs)) (rows_of x) (omega (arith, before.0, mapped)) one in
    let all = journal_more h 0 (map rows_of xs) (rows_of x) before.1 here in
    let behind = subst (AreRecords h 0) (sym (map-append rows_of xs (x ∷ []))) all in
    (subst (λ ks. length ks ≡ id + 1) (sym is) (omega (arith, many, before.0)), subst (λ ks. AreRecords h 0 (map rows_of ks)) (sym is) behind)

id_more : (id : ℕ) (xs : List ReplicaId) (x : ReplicaId) → AreIdsFrom id xs → x.0 ≡ id + length xs → AreIdsFrom id (xs ++ x ∷ [])
id_more id [] x are is = (omega (arith, is), tt)
id_more id (y ∷ xs) x are is = (are.0, id_more (id + 1) xs x are.1 (omega (arith, is)))

pub ids_more : {X : Type 0} (id_of : X → ReplicaId) (xs ys : List X) (x : X) (id : ℕ) → ys ≡ xs ++ x ∷ [] → length xs ≡ id
    → AreIdsFrom 0 (map id_of xs) → (id_of x).0 ≡ id → AreIdsFrom 0 (map id_of ys)
ids_more id_of xs ys x id is many are this =
    let mapped : length (map id_of xs) ≡ length xs = length-map xs id_of in
    let all = id_more 0 (map id_of xs) (id_of x) are (omega (arith, this, many, mapped)) in
    subst (λ ks. AreIdsFrom 0 (map id_of ks)) (sym is) (subst (AreIdsFrom 0) (sym (map-append id_of xs (x ∷ []))) all)

-- Where a replica stands, as its thread told.
pub stands_at : (h : HostFacts) (id leaf : ℕ) (o : Option Status) → slice_get h.leaves id ≡ Some leaf → IfSome o (λ s. Stands h.config id leaf s) → IfSome o (λ s. StandsAt h id s)
stands_at h id leaf None is stands = tt
stands_at h id leaf (Some s) is stands = (leaf, is, stands)

-- ---- all of them

given_in : (h : HostFacts) (first id : ℕ) (records : List (List RowFacts)) (n : ℕ) → AreRecords h first records → n < length records → id ≡ first + n → IsGiven h id (record_at records n)
given_in h first id [] n are less is = absurd (omega (arith, less))
given_in h first id (rows ∷ records) zero are less is = given_at h first id rows (omega (arith, is)) are.0
given_in h first id (rows ∷ records) (suc n) are less is = given_in h (first + 1) id records n are.1 (omega (arith, less)) (omega (arith, is))

module _ (h : HostFacts) (records : List (List RowFacts)) (are : AreRecords h 0 records) (many : length records ≡ replicas_for h.config.f) where
  given : (id : ℕ) → id < replicas_for h.config.f → IsGiven h id (record_at records id)
  given id less = given_in h 0 id records id are (omega (arith, less, many)) (omega arith)

  some : IsGiven h 0 (record_at records 0)
  some = given 0 (omega arith)

  signer_by : (id : ℕ) → (id < replicas_for h.config.f → SigningState) → SigningState
  signer_by id known = elim (cases_lt id (replicas_for h.config.f)) [ inl less ↦ known less | inr more ↦ some.2.signer ]

  signer : ℕ → SigningState
  signer id = signer_by id (λ less. (given id less).2.signer)

  record OfSigner (id : ℕ) (s : SigningState) : Type 0 where
    leaf : slice_get h.leaves id ≡ Some s.next_leaf
    journal : IsJournalOf h.config id s (record_at records id)

  of_given : (id : ℕ) (g : IsGiven h id (record_at records id)) → OfSigner id g.2.signer
  of_given id g = record { leaf = g.1 ∙ ap Some (sym g.2.leaf_is); journal = g.2.journal }

  of_signer : (id : ℕ) → id < replicas_for h.config.f → OfSigner id (signer id)
  unfolding signer signer_by
  of_signer id less = elim (cases_lt id (replicas_for h.config.f)) as (λ w. OfSigner id (elim w [ inl l ↦ (given id l).2.signer | inr m ↦ some.2.signer ])) [
    | inl l ↦ of_given id (given id l)
    | inr m ↦ absurd (omega (arith, less, m))
  ]

  abbrev Law : Type 0
  Law = (c : Configuration) (s : ℕ → SigningState) (rs : List (List RowFacts)) → AreJournals c s rs → IsConfiguration c → length rs ≡ replicas_for c.f → AgreeUnlessForged c s rs

  pub closed : Law → IsConfiguration h.config → AgreeAtClose h records
  closed law legal =
      let are_journals : AreJournals h.config signer records = record {
        listed = λ id less. (of_signer id less).journal.listed;
        lawful = λ id less. let w = (of_signer id less).journal in (w.last, w.lawful);
      } in
      record {
        signer = signer;
        given = λ id less. (of_signer id less).leaf;
        agree = law h.config signer records are_journals legal many;
      }
