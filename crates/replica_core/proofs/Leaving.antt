-- What a replica keeps as it leaves a view is what the protocol's core keeps.
use Rattle.std.proofs.Common.{◌≡◌, ℕ, suc, ◌+◌, ◌-◌, ◌<◌, ◌≤◌, arith, Bool, true, false, ◌&&◌, List, [], Option, Some, None, refl, sym, ap, ◌∙◌}
use Rattle.std.specs.Prelude.{is_some, nat_le, if◌then◌else◌}
use Rattle.std.specs.Option.{option_map}
use Rattle.std.proofs.lemmas.Option.{same_Some}
use Rattle.host_types.specs.Configuration.{Configuration}
use Rattle.host_types.specs.declared.Digest.{Digest}
use Rattle.pbft_model.specs.Words.{Certificate, Signed, PrePrepare}
use Rattle.pbft_model.specs.Setup.{numbers_from, span, setup_of}
use Rattle.pbft_model.specs.Certificates.{of_pre_prepare}
use Rattle.pbft_model.specs.Core.{Core, certificate_of, if_passes, is_certified, is_known, kept_on_leaving, is_prepared, pre_prepare_at, prepared_at, with_certificate, with_certificates}
use Rattle.pbft_model.specs.Tables.{first_in, keep, number_key, with_entry}
use Rattle.pbft_model.specs.Acts.{left_for}
use Rattle.replica_stores.specs.CheckedCertificate.{CheckedCertificate}
use Rattle.replica_stores.specs.Log.{KeptLog, checked_certificate, left, as_checked}
use Rattle.replica_core.specs.Replicas.{AreOne, KeptReplica, Parts, core_in, kept_in}
use Rattle.replica_stores.specs.Stores.{KeptCertificates, KeptChanges, KeptSent, only_states_asked}

abbrev Pre : Type 0
Pre = Signed PrePrepare

abbrev digest_in : Option Pre → Option Digest
digest_in o = option_map (λ m. m.body.digest) o

-- ---- over a proposal

none_mapped : {X Y : Type 0} (f : X → Y) (o : Option X) → option_map f o ≡ None → o ≡ None
none_mapped f None e = refl
none_mapped f (Some x) e = absurd cc

-- the certificate of a number that is prepared
abbrev CheckedAt : (c : Configuration) → Core → Option Pre → Option CheckedCertificate
CheckedAt c s o = option_map (λ m. as_checked c (certificate_of (setup_of c) s m)) (if_passes (λ m. is_certified (setup_of c) s (of_pre_prepare m.body)) o)

abbrev PreparedIn : Configuration → Core → Option Pre → Option Pre
PreparedIn c s o = if_passes (λ m. is_prepared (setup_of c) s (of_pre_prepare m.body)) o

pub record IsItsCertificate (c : Configuration) (s : Core) (prepared : Option Pre) (x : CheckedCertificate) : Type 0 where
  pub message : Pre
  pub is : prepared ≡ Some message
  pub shows : x ≡ as_checked c (certificate_of (setup_of c) s message)

its_certificate : (c : Configuration) (s : Core) (o : Option Pre) (d : Option Digest) (x : CheckedCertificate) → d ≡ digest_in (PreparedIn c s o) → is_some d ≡ true → Some x ≡ CheckedAt c s o → IsItsCertificate c s (PreparedIn c s o) x
its_certificate c s None d x same some found = absurd cc
its_certificate c s (Some m) d x same some found = parts (is_certified (setup_of c) s (of_pre_prepare m.body)) (is_known (setup_of c) s m.body.digest.0) (sym (ap is_some same) ∙ some) found where
  parts : (a b : Bool) → is_some (digest_in (if a && b then Some m else None)) ≡ true → Some x ≡ option_map (λ m. as_checked c (certificate_of (setup_of c) s m)) (if a then Some m else None)
      → IsItsCertificate c s (if a && b then Some m else None) x
  parts true true e f = record { message = m; is = refl; shows = same_Some x (as_checked c (certificate_of (setup_of c) s m)) f }
  parts true false e f = absurd cc
  parts false b e f = absurd cc

no_certificate : (c : Configuration) (s : Core) (o : Option Pre) (d : Option Digest) → d ≡ digest_in (PreparedIn c s o) → is_some d ≡ true → None ≡ CheckedAt c s o → ⊥
no_certificate c s None d same some found = absurd cc
no_certificate c s (Some m) d same some found = parts (is_certified (setup_of c) s (of_pre_prepare m.body)) (is_known (setup_of c) s m.body.digest.0) (sym (ap is_some same) ∙ some) found where
  parts : (a b : Bool) → is_some (digest_in (if a && b then Some m else None)) ≡ true → None ≡ option_map (λ m. as_checked c (certificate_of (setup_of c) s m)) (if a then Some m else None) → ⊥
  parts true true e f = absurd cc
  parts true false e f = absurd cc
  parts false b e f = absurd cc

-- ---- a replica's own view

abbrev Prepared : KeptReplica → ℕ → Option Pre
Prepared k number = prepared_at (setup_of k.config) k.core number

-- with the certificate of a number
abbrev pub KeepsAt : KeptReplica → ℕ → KeptReplica
KeepsAt k number = record k { core = record k.core { kept = with_certificate (setup_of k.config) k.core number (prepared_at (setup_of k.config) k.core number) k.core.kept } }

pub nothing_kept : (k : KeptReplica) (number : ℕ) → None ≡ digest_in (Prepared k number) → k ≡ KeepsAt k number
nothing_kept k number e =
    ap (λ (o : Option Pre). record k { core = record k.core { kept = with_certificate (setup_of k.config) k.core number o k.core.kept } }) (sym (none_mapped (λ m. m.body.digest) (Prepared k number) (sym e)))

-- with the certificates of the numbers from the one after so many on
abbrev pub KeptFrom : KeptReplica → ℕ → KeptReplica
KeptFrom k i = record k { core = record k.core { kept = with_certificates (setup_of k.config) k.core (numbers_from (k.core.low + 1 + i) (span k.config - i)) k.core.kept } }

abbrev KeptOf : KeptReplica → List ℕ → KeptReplica
KeptOf k ns = record k { core = record k.core { kept = with_certificates (setup_of k.config) k.core ns k.core.kept } }

numbers_alike : (a b m n : ℕ) → a ≡ b → m ≡ n → numbers_from a m ≡ numbers_from b n
numbers_alike a b m n e f = λ i. numbers_from (e i) (f i)

pub from_last : (k : KeptReplica) (n : ℕ) → n ≡ span k.config → k ≡ KeptFrom k n
from_last k n e = ap (KeptOf k) (numbers_alike (k.core.low + 1 + n) (k.core.low + 1 + n) 0 (span k.config - n) refl (omega (arith, e)))

pub from_first : (k : KeptReplica) (n : ℕ) → n ≡ 0 → KeptFrom k n ≡ KeptOf k (numbers_from (k.core.low + 1) (span k.config))
from_first k n e = ap (KeptOf k) (numbers_alike (k.core.low + 1 + n) (k.core.low + 1) (span k.config - n) (span k.config) (omega (arith, e)) (omega (arith, e)))

pub from_next : (k : KeptReplica) (i number : ℕ) → 0 < i → i ≤ span k.config → number ≡ k.core.low + 1 + (i - 1) → KeepsAt (KeptFrom k i) number ≡ KeptFrom k (i - 1)
from_next k i number some within is =
    let m = span k.config in
    ap (λ (n : ℕ). KeepsAt (KeptFrom k i) n) is
    ∙ ap (λ (ns : List ℕ). KeepsAt (KeptOf k ns) (k.core.low + 1 + (i - 1))) (numbers_alike (k.core.low + 1 + i) (k.core.low + 1 + (i - 1) + 1) (m - i) (m - i) (omega (arith, some)) refl)
    ∙ ap (λ (n : ℕ). KeptOf k (numbers_from (k.core.low + 1 + (i - 1)) n)) (suc_is (m - i) (m - (i - 1)) (omega (arith, some, within))) where
      suc_is : (a b : ℕ) → b ≡ a + 1 → suc a ≡ b
      suc_is a b e = omega (arith, e)

module _ (c : Configuration) (me : ℕ) (p : Parts) (one : AreOne c me p) where
  pub with_kept : (new : KeptCertificates) → new.config ≡ c → AreOne c me (record p { kept = new })
  with_kept new e = record {
    legal = one.legal;
    replica = one.replica;
    listed = one.listed;
    log = one.log;
    table = one.table;
    service = one.service;
    requests = one.requests;
    changes = one.changes;
    kept = e;
    low = one.low;
    floor = one.floor;
    taken = one.taken;
    reached = one.reached;
    executed = one.executed;
    opened_at = one.opened_at;
    proposed = one.proposed;
    owed = one.owed;
    few = one.few;
  }

  abbrev proposal : ℕ → Option Pre
  proposal number = pre_prepare_at (setup_of c) (core_in p) p.log.log.view number

  checked_is : (k : KeptReplica) (view number : ℕ) (o : Option CheckedCertificate) → kept_in c me p ≡ k → view ≡ k.core.view → o ≡ checked_certificate p.log.config p.log.log view number → o ≡ CheckedAt c (core_in p) (proposal number)
  checked_is k view number o e own is =
      is ∙ ap (λ (x : ℕ). checked_certificate p.log.config p.log.log x number) (own ∙ ap (λ (x : KeptReplica). x.core.view) (sym e))
      ∙ ap (λ (x : Configuration). checked_certificate x p.log.log p.log.log.view number) one.log

  digest_is : (k : KeptReplica) (number : ℕ) (d : Option Digest) → kept_in c me p ≡ k → d ≡ digest_in (Prepared k number) → d ≡ digest_in (PreparedIn c (core_in p) (proposal number))
  digest_is k number d e is = is ∙ ap (λ (x : KeptReplica). digest_in (Prepared x number)) (sym e)

  abbrev Its : ℕ → CheckedCertificate → Type 0
  Its number x = IsItsCertificate c (core_in p) (PreparedIn c (core_in p) (proposal number)) x

  pub its : (k : KeptReplica) (view number : ℕ) (d : Option Digest) (x : CheckedCertificate) → kept_in c me p ≡ k → d ≡ digest_in (Prepared k number) → is_some d ≡ true → view ≡ k.core.view
      → Some x ≡ checked_certificate p.log.config p.log.log view number → Its number x
  its k view number d x e prepared some own is =
      its_certificate c (core_in p) (proposal number) d x (digest_is k number d e prepared) some (checked_is k view number (Some x) e own is)

  pub there_is : (number : ℕ) (x : CheckedCertificate) → Its number x → (y : Certificate) × (x ≡ as_checked p.kept.config y)
  there_is number x i = (certificate_of (setup_of c) (core_in p) i.message, i.shows ∙ ap (λ (z : Configuration). as_checked z (certificate_of (setup_of c) (core_in p) i.message)) (sym one.kept))

  abbrev Kept : ℕ → CheckedCertificate → KeptCertificates → Type 0
  Kept number x new = (y : Certificate) → x ≡ as_checked p.kept.config y → new ≡ record p.kept { kept = with_entry p.kept.kept (number_key number) y }

  pub still_one : (number : ℕ) (x : CheckedCertificate) (new : KeptCertificates) → Its number x → Kept number x new → AreOne c me (record p { kept = new })
  still_one number x new i kept =
      let y = there_is number x i in
      with_kept new (ap (λ (z : KeptCertificates). z.config) (kept y.0 y.1) ∙ one.kept)

  pub keeps : (k : KeptReplica) (number : ℕ) (x : CheckedCertificate) (new : KeptCertificates) → kept_in c me p ≡ k → Its number x → Kept number x new → kept_in c me (record p { kept = new }) ≡ KeepsAt k number
  unfolding there_is
  keeps k number x new e i kept =
      let y = there_is number x i in
      ap (λ (z : KeptCertificates). kept_in c me (record p { kept = z })) (kept y.0 y.1)
      ∙ ap (λ (o : Option Pre). record (kept_in c me p) { core = record (core_in p) { kept = with_certificate (setup_of c) (core_in p) number o p.kept.kept } }) (sym i.is)
      ∙ ap (λ (z : KeptReplica). KeepsAt z number) e

  pub keeps_nothing : (k : KeptReplica) (view number : ℕ) (d : Option Digest) {A : Type 0} → kept_in c me p ≡ k → d ≡ digest_in (Prepared k number) → is_some d ≡ true → view ≡ k.core.view
      → None ≡ checked_certificate p.log.config p.log.log view number → A
  keeps_nothing k view number d e prepared some own is =
      absurd (no_certificate c (core_in p) (proposal number) d (digest_is k number d e prepared) some (checked_is k view number None e own is))

  abbrev Left : ℕ → KeptReplica → KeptReplica
  Left view k = record k {
    core = record k.core {
      view = view;
      active = false;
      basis = [];
      changes = keep (λ key. nat_le view (first_in key)) k.core.changes;
      proposed = [];
      prepared_numbers = [];
      committed_numbers = [];
      asked_requests = [];
    };
  }

  pub leaves : (k t : KeptReplica) (view : ℕ) (log : KeptLog) (changes : KeptChanges) (sent : KeptSent) → kept_in c me p ≡ t → t ≡ record k { core = record k.core { kept = kept_on_leaving (setup_of k.config) k.core } }
      → log ≡ record p.log { log = left view p.log.log } → changes ≡ record p.changes { changes = keep (λ key. nat_le view (first_in key)) p.changes.changes } → sent ≡ only_states_asked p.sent
      → kept_in c me (record p { log = log; basis = None; changes = changes; sent = sent }) ≡ record k { core = left_for (setup_of k.config) k.core view }
  leaves k t view log changes sent e kept log_is changes_are sent_is =
      (λ i. kept_in c me (record p { log = log_is i; basis = None; changes = changes_are i; sent = sent_is i })) ∙ ap (Left view) (e ∙ kept)
