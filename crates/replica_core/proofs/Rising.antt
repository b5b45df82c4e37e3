-- As the low mark rises, the parts discard together what the protocol's core discards.
use Rattle.std.proofs.Common.{◌≡◌, ℕ, ◌<◌, ◌≤◌, Bool, true, false, cond, List, [], ◌∷◌, filter, Some, sym, ap, subst, ◌∙◌, arith}
use Rattle.std.specs.Prelude.{IfSome, MatchOption, nat_lt, nat_le, ◌==◌}
use Rattle.std.specs.List.{AllByRecursion}
use Rattle.std.proofs.lemmas.Bool.{lt-ltb, ne_eqb, cond-true, cond-false}
use Rattle.host_types.specs.Configuration.{Configuration}
use Rattle.host_types.specs.declared.Digest.{Digest}
use Rattle.pbft_model.specs.Acts.{discarded_to, still_held}
use Rattle.pbft_model.specs.Certificates.{Fields, is_stable}
use Rattle.pbft_model.specs.Core.{proof_of}
use Rattle.pbft_model.specs.Setup.{number_limit, setup_of}
use Rattle.pbft_model.specs.Tables.{entries_in, first_in, is_above, keep}
use Rattle.pbft_model.specs.Validity.{floor_of}
use Rattle.pbft_model.specs.Words.{Checkpoint, Signed}
use Rattle.checkpoints.specs.Kept.{KeptCheckpoints, discarded as table_discarded, proof_at, proof_for, stable_digest}
use Rattle.checkpoints.proofs.Stable.{stable_is}
use Rattle.replica_stores.specs.Log.{KeptLog, Log, discarded as log_discarded}
use Rattle.replica_core.specs.Replicas.{AreOne, KeptReplica, Parts, basis_in, core_in, kept_in}
use Rattle.replica_stores.specs.Stores.{KeptCertificates, KeptRequests, KeptSent, sent_above}

-- ---- the parts

proof_is : (k : KeptCheckpoints) (number : ℕ) (digest : Digest) → k.low < number → is_stable k.config k.checkpoints number digest.0 ≡ true
    → proof_at k number ≡ proof_for k.config k.checkpoints number (Some digest)
proof_is k number digest above stable =
    cond-false (number == k.low) k.proof (proof_for k.config k.checkpoints number (stable_digest k.config k.checkpoints number)) (ne_eqb number k.low (λ e. absurd (omega (arith, e, above))))
    ∙ ap (proof_for k.config k.checkpoints number) (stable_is k.config k.checkpoints number digest stable)

abbrev raised_table : KeptCheckpoints → ℕ → List (Signed Checkpoint) → KeptCheckpoints
raised_table k number proof = record k {
  low = number;
  proof = proof;
  checkpoints = keep (is_above number) k.checkpoints;
  snapshots = keep (λ key. nat_le number (first_in key)) k.snapshots;
}

table_is : (k : KeptCheckpoints) (number : ℕ) (digest : Digest) → k.low < number → is_stable k.config k.checkpoints number digest.0 ≡ true
    → table_discarded number k ≡ raised_table k number (proof_for k.config k.checkpoints number (Some digest))
table_is k number digest above stable =
    cond-true (nat_lt k.low number) (raised_table k number (proof_at k number)) k (lt-ltb k.low number above) ∙ ap (raised_table k number) (proof_is k number digest above stable)

abbrev raised_log : Log → ℕ → Log
raised_log l number = record l {
  low = number;
  pre_prepares = keep (is_above number) l.pre_prepares;
  prepares = keep (is_above number) l.prepares;
  commits = keep (is_above number) l.commits;
}

log_is : (l : Log) (number : ℕ) → l.low < number → log_discarded number l ≡ raised_log l number
log_is l number above = cond-true (nat_lt l.low number) (raised_log l number) l (lt-ltb l.low number above)

all_filtered : (test : Fields → Bool) (P : Fields → Type 0) (xs : List Fields) → AllByRecursion P xs → AllByRecursion P (filter test xs)
all_filtered test P [] h = tt
all_filtered test P (x ∷ xs) h = split (test x) (all_filtered test P xs h.1) where
  split : (b : Bool) → AllByRecursion P (filter test xs) → AllByRecursion P (cond b (x ∷ filter test xs) (filter test xs))
  split true rest = (h.0, rest)
  split false rest = rest

-- ---- together

module _ (c : Configuration) (me : ℕ) (p : Parts) (one : AreOne c me p) (k : KeptReplica) (number : ℕ) (digest : Digest)
    (log : KeptLog) (table : KeptCheckpoints) (kept : KeptCertificates) (requests : KeptRequests) (sent : KeptSent)
    (is : kept_in c me p ≡ k) (above : k.core.low < number)
    (log_to : log ≡ record p.log { log = log_discarded number p.log.log }) (table_to : table ≡ table_discarded number p.table)
    (kept_to : kept ≡ record p.kept { kept = keep (is_above number) p.kept.kept })
    (requests_to : requests ≡ record p.requests { held = still_held (setup_of p.requests.config) p.service (entries_in log.log.pre_prepares) p.requests.held })
    (sent_to : sent ≡ sent_above number p.sent) where
  abbrev with_parts : KeptLog → KeptCheckpoints → KeptCertificates → KeptRequests → KeptSent → Parts
  with_parts l t x r s = record p { log = l; table = t; kept = x; requests = r; sent = s }

  above_log : p.log.log.low < number
  above_log = subst (λ (x : KeptReplica). x.core.low < number) (sym is) above

  above_table : p.table.low < number
  above_table = subst (λ (n : ℕ). n < number) (sym one.low) above_log

  log_now : log ≡ record p.log { log = raised_log p.log.log number }
  log_now = log_to ∙ ap (λ (l : Log). record p.log { log = l }) (log_is p.log.log number above_log)

  requests_now : requests ≡ record p.requests { held = still_held (setup_of c) p.service (entries_in (keep (is_above number) p.log.log.pre_prepares)) p.requests.held }
  requests_now =
      requests_to ∙ ap (λ (l : KeptLog). record p.requests { held = still_held (setup_of p.requests.config) p.service (entries_in l.log.pre_prepares) p.requests.held }) log_now
      ∙ ap (λ (d : Configuration). record p.requests { held = still_held (setup_of d) p.service (entries_in (keep (is_above number) p.log.log.pre_prepares)) p.requests.held }) one.requests

  stable_now : is_stable k.config k.core.checkpoints number digest.0 ≡ true → is_stable c p.table.checkpoints number digest.0 ≡ true
  stable_now stable = ap (λ (x : KeptReplica). is_stable x.config x.core.checkpoints number digest.0) is ∙ stable

  table_now : is_stable c p.table.checkpoints number digest.0 ≡ true → table ≡ raised_table p.table number (proof_of (setup_of c) (core_in p) number digest.0)
  table_now stable =
      table_to ∙ table_is p.table number digest above_table (ap (λ (d : Configuration). is_stable d p.table.checkpoints number digest.0) one.table ∙ stable)
      ∙ ap (λ (d : Configuration). raised_table p.table number (proof_for d p.table.checkpoints number (Some digest))) one.table

  pub risen : is_stable k.config k.core.checkpoints number digest.0 ≡ true
      → kept_in c me (with_parts log table kept requests sent) ≡ record k { core = discarded_to (setup_of k.config) k.core number (proof_of (setup_of k.config) k.core number digest.0) }
  risen stable =
      (λ i. kept_in c me (with_parts (log_now i) (table_now (stable_now stable) i) (kept_to i) (requests_now i) (sent_to i)))
      ∙ ap (λ (x : KeptReplica). record x { core = discarded_to (setup_of x.config) x.core number (proof_of (setup_of x.config) x.core number digest.0) }) is

  pub still_one : is_stable k.config k.core.checkpoints number digest.0 ≡ true → number ≤ k.core.executed → AreOne c me (with_parts log table kept requests sent)
  still_one stable reached = record {
    legal = one.legal;
    replica = one.replica;
    listed = one.listed;
    log = ap (λ (l : KeptLog). l.config) log_to ∙ one.log;
    table = ap (λ (t : KeptCheckpoints). t.config) (table_now (stable_now stable)) ∙ one.table;
    service = one.service;
    requests = ap (λ (r : KeptRequests). r.config) requests_to ∙ one.requests;
    changes = one.changes;
    kept = ap (λ (x : KeptCertificates). x.config) kept_to ∙ one.kept;
    low = ap (λ (t : KeptCheckpoints). t.low) (table_now (stable_now stable)) ∙ sym (ap (λ (l : KeptLog). l.log.low) log_now);
    floor = subst (λ (l : KeptLog). MatchOption l.log.floor (basis_in p.basis ≡ []) (λ floor. floor ≡ floor_of (basis_in p.basis))) (sym log_now) one.floor;
    taken = one.taken;
    reached = subst (λ (l : KeptLog). l.log.low ≤ p.service.number) (sym log_now) (subst (λ (x : KeptReplica). number ≤ x.core.executed) (sym is) reached);
    executed = one.executed;
    opened_at = subst (λ (l : KeptLog). IfSome l.log.floor (λ floor. floor < number_limit)) (sym log_now) one.opened_at;
    proposed = subst (λ (s : KeptSent). AllByRecursion (λ x. x.number < number_limit) s.proposed) (sym sent_to) (all_filtered (λ x. nat_lt number x.number) (λ x. x.number < number_limit) p.sent.proposed one.proposed);
    owed = one.owed;
    few = one.few;
  }
