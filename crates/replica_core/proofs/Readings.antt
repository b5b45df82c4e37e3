-- What a replica reads off its log is what the protocol's core reads.
use Rattle.std.proofs.Common.{◌≡◌, ℕ, Bool, true, false, ◌&&◌, cond, Option, Some, None, refl, sym, ap, ◌∙◌}
use Rattle.std.specs.Prelude.{is_some, if◌then◌else◌}
use Rattle.std.specs.Option.{option_map}
use Rattle.std.proofs.lemmas.Option.{same_Some}
use Rattle.host_types.specs.Configuration.{Configuration}
use Rattle.host_types.specs.declared.Digest.{Digest}
use Rattle.pbft_model.specs.Words.{Signed, PrePrepare}
use Rattle.pbft_model.specs.Setup.{Setup, setup_of}
use Rattle.pbft_model.specs.Certificates.{of_pre_prepare, has_quorum, voted, of_commit}
use Rattle.pbft_model.specs.Core.{Core, if_passes, is_certified, is_committed, is_known, is_prepared, pre_prepare_at, prepared_at}
use Rattle.replica_stores.specs.Log.{certified_at, is_committed_at, is_committed_by, log_of, proposal_in}
use Rattle.replica_core.specs.Replicas.{AreOne, KeptReplica, Parts, core_in, kept_in}

abbrev Pre : Type 0
Pre = Signed PrePrepare

abbrev digest_in : Option Pre → Option Digest
digest_in o = option_map (λ m. m.body.digest) o

-- ---- over a proposal

passing : (t : Bool) (m : Pre) → is_some (if t then Some m else None) ≡ t
passing true m = refl
passing false m = refl

abbrev both : Setup → Core → Option Pre → Option Digest
both c s o = digest_in (if_passes (λ m. is_prepared c s (of_pre_prepare m.body)) o)

-- it is prepared where it is certified and its request is known
pub prepared_if : (c : Setup) (s : Core) (o : Option Pre) (d : Digest) (b k : Bool) → digest_in o ≡ Some d → is_some (if_passes (λ m. is_certified c s (of_pre_prepare m.body)) o) ≡ b → is_known c s d.0 ≡ k
    → both c s o ≡ cond (b && k) (Some d) None
prepared_if c s None d b k same certified known = absurd cc
prepared_if c s (Some m) d b k same certified known =
    let own : m.body.digest ≡ d = same_Some m.body.digest d same in
    let first : is_certified c s (of_pre_prepare m.body) ≡ b = sym (passing (is_certified c s (of_pre_prepare m.body)) m) ∙ certified in
    let second : is_known c s m.body.digest.0 ≡ k = ap (λ (y : Digest). is_known c s y.0) own ∙ known in
    parts (is_certified c s (of_pre_prepare m.body)) (is_known c s m.body.digest.0) ∙ ap (λ (x : Bool). cond (x && is_known c s m.body.digest.0) (Some m.body.digest) None) first ∙ ap (λ (x : Bool). cond (b && x) (Some m.body.digest) None) second ∙ ap (λ (y : Digest). cond (b && k) (Some y) None) own where
      parts : (x y : Bool) → digest_in (if x && y then Some m else None) ≡ cond (x && y) (Some m.body.digest) None
      parts true true = refl
      parts true false = refl
      parts false y = refl

-- nothing is prepared where nothing is proposed
pub none_prepared : (c : Setup) (s : Core) (o : Option Pre) → digest_in o ≡ None → both c s o ≡ None
none_prepared c s None e = refl
none_prepared c s (Some m) e = absurd cc

abbrev all_three : Setup → Core → Option Pre → Option Digest
all_three c s o = digest_in (if_passes (λ m. is_committed c s (of_pre_prepare m.body)) o)

-- it is committed where it is prepared and a quorum has committed
pub committed_if : (c : Setup) (s : Core) (o : Option Pre) (d : Option Digest) (q : Bool) → both c s o ≡ d
    → is_committed_by c.config (log_of s) (if_passes (λ m. is_certified c s (of_pre_prepare m.body)) o) ≡ q → all_three c s o ≡ cond q d None
committed_if c s None d false e quorum = refl
committed_if c s None d true e quorum = e
committed_if c s (Some m) d q e quorum =
    let first = is_certified c s (of_pre_prepare m.body) in
    let many = has_quorum c.config (voted of_commit s.commits (of_pre_prepare m.body)) in
    parts first (is_known c s m.body.digest.0) many ∙ ap (λ (x : Bool). cond x (both c s (Some m)) None) (sym (commits first) ∙ quorum) ∙ ap (λ (x : Option Digest). cond q x None) e where
      commits : (x : Bool) → is_committed_by c.config (log_of s) (if x then Some m else None) ≡ (x && has_quorum c.config (voted of_commit s.commits (of_pre_prepare m.body)))
      commits true = refl
      commits false = refl

      parts : (x y z : Bool) → digest_in (if (x && y) && z then Some m else None) ≡ cond (x && z) (digest_in (if x && y then Some m else None)) None
      parts true true true = refl
      parts true true false = refl
      parts true false true = refl
      parts true false false = refl
      parts false y z = refl

-- ---- a replica's own view

module _ (c : Configuration) (me : ℕ) (p : Parts) (one : AreOne c me p) where
  proposal_is : (view number : ℕ) → proposal_in p.log.config p.log.log view number ≡ pre_prepare_at (setup_of c) (core_in p) view number
  proposal_is view number = ap (λ (x : Configuration). proposal_in x p.log.log view number) one.log

  certified_is : (view number : ℕ) → certified_at p.log.config p.log.log view number
      ≡ if_passes (λ m. is_certified (setup_of c) (core_in p) (of_pre_prepare m.body)) (pre_prepare_at (setup_of c) (core_in p) view number)
  certified_is view number = ap (λ (x : Configuration). certified_at x p.log.log view number) one.log

  commits_is : (view number : ℕ) → is_committed_at p.log.config p.log.log view number
      ≡ is_committed_by c (log_of (core_in p)) (if_passes (λ m. is_certified (setup_of c) (core_in p) (of_pre_prepare m.body)) (pre_prepare_at (setup_of c) (core_in p) view number))
  commits_is view number = ap (λ (x : Configuration). is_committed_at x p.log.log view number) one.log

  abbrev log_proposal : ℕ → ℕ → Option Pre
  log_proposal view number = proposal_in p.log.config p.log.log view number

  abbrev Prepared : KeptReplica → ℕ → Option Digest
  Prepared k number = digest_in (prepared_at (setup_of k.config) k.core number)

  proposed_is : (view number : ℕ) → view ≡ p.log.log.view → (o : Option Digest) → o ≡ digest_in (log_proposal view number) → digest_in (pre_prepare_at (setup_of c) (core_in p) p.log.log.view number) ≡ o
  proposed_is view number own o e = sym (e ∙ ap (λ (x : ℕ). digest_in (log_proposal x number)) own ∙ ap digest_in (proposal_is p.log.log.view number))

  pub unproposed : (k : KeptReplica) (view number : ℕ) → kept_in c me p ≡ k → view ≡ k.core.view → None ≡ digest_in (log_proposal view number) → None ≡ Prepared k number
  unproposed k view number e own none =
      sym (none_prepared (setup_of c) (core_in p) (pre_prepare_at (setup_of c) (core_in p) p.log.log.view number) (proposed_is view number (own ∙ ap (λ (x : KeptReplica). x.core.view) (sym e)) None none)) ∙ ap (λ (x : KeptReplica). Prepared x number) e

  pub prepared_from : (k : KeptReplica) (view view' number : ℕ) (d : Digest) (b q : Bool) → kept_in c me p ≡ k → view ≡ k.core.view → view' ≡ k.core.view → Some d ≡ digest_in (log_proposal view number)
      → b ≡ is_some (certified_at p.log.config p.log.log view' number) → q ≡ is_known (setup_of k.config) k.core d.0 → cond (b && q) (Some d) None ≡ Prepared k number
  prepared_from k view view' number d b q e own own' some certified known =
      let v = own ∙ ap (λ (x : KeptReplica). x.core.view) (sym e) in
      let v' = own' ∙ ap (λ (x : KeptReplica). x.core.view) (sym e) in
      sym (prepared_if (setup_of c) (core_in p) (pre_prepare_at (setup_of c) (core_in p) p.log.log.view number) d b q (proposed_is view number v (Some d) some)
      (sym (certified ∙ ap (λ (x : ℕ). is_some (certified_at p.log.config p.log.log x number)) v' ∙ ap is_some (certified_is p.log.log.view number)))
      (sym (known ∙ ap (λ (x : KeptReplica). is_known (setup_of x.config) x.core d.0) (sym e)))) ∙ ap (λ (x : KeptReplica). Prepared x number) e

  abbrev Committed : KeptReplica → ℕ → Option Digest
  Committed k number = digest_in (if_passes (λ m. is_committed (setup_of k.config) k.core (of_pre_prepare m.body)) (pre_prepare_at (setup_of k.config) k.core k.core.view number))

  pub committed_from : (k : KeptReplica) (view number : ℕ) (o : Option Digest) (q : Bool) → kept_in c me p ≡ k → view ≡ k.core.view → o ≡ Prepared k number
      → q ≡ is_committed_at p.log.config p.log.log view number → cond q o None ≡ Committed k number
  committed_from k view number o q e own prepared committed =
      let v = own ∙ ap (λ (x : KeptReplica). x.core.view) (sym e) in
      sym (committed_if (setup_of c) (core_in p) (pre_prepare_at (setup_of c) (core_in p) p.log.log.view number) o q (sym (prepared ∙ ap (λ (x : KeptReplica). Prepared x number) (sym e)))
      (sym (committed ∙ ap (λ (x : ℕ). is_committed_at p.log.config p.log.log x number) v ∙ commits_is p.log.log.view number))) ∙ ap (λ (x : KeptReplica). Committed x number) e
