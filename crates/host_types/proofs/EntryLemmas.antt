-- When two keys, and two clients, are equal.
use Rattle.std.proofs.Common.{◌≡◌, ℕ, ◌==◌, ◌&&◌, List, ap, ◌∙◌}
use Rattle.std.specs.Bool.{Decides}
use Rattle.std.proofs.lemmas.Bool.{and_from, and_parts}
use Rattle.std.proofs.lemmas.Bool.Decides.{Decides-eqb}
use Rattle.std.proofs.lemmas.Slice.Eq.{bytes_eq-Decides}
use Rattle.host_types.specs.contracts.key.PublicKeyPartialEq.TheImpl.{eq-value}
use Rattle.host_types.specs.declared.config.ClientEntry.{ClientEntry}
use Rattle.host_types.specs.declared.key.PublicKey.{PublicKey}
use Rattle.host_types.specs.declared.key.PublicKey.TheVariants.{Lms, Hss}

bytes_of : PublicKey → List ℕ
bytes_of (Lms key) = key
bytes_of (Hss key) = key

pub key_decides : (a b : PublicKey) → Decides (eq-value.it a b) (a ≡ b)
unfolding bytes_of
key_decides (Lms a) (Lms b) = (λ same. ap Lms ((bytes_eq-Decides a b).0 same), λ e. (bytes_eq-Decides a b).1 (ap bytes_of e))
key_decides (Lms a) (Hss b) = (λ same. absurd cc, λ e. absurd cc)
key_decides (Hss a) (Lms b) = (λ same. absurd cc, λ e. absurd cc)
key_decides (Hss a) (Hss b) = (λ same. ap Hss ((bytes_eq-Decides a b).0 same), λ e. (bytes_eq-Decides a b).1 (ap bytes_of e))

entry : ℕ → ℕ → PublicKey → ClientEntry
entry id tenant key = record { id = record { 0 = id }; tenant = record { 0 = tenant }; key = key }

-- Clients with equal fields are equal.
by_fields : (a b : ClientEntry) → a.id.0 ≡ b.id.0 → a.tenant.0 ≡ b.tenant.0 → a.key ≡ b.key → a ≡ b
unfolding entry
by_fields a b id tenant key =
    let by_id : entry a.id.0 a.tenant.0 a.key ≡ entry b.id.0 a.tenant.0 a.key = ap (λ n. entry n a.tenant.0 a.key) id in
    let by_tenant : entry b.id.0 a.tenant.0 a.key ≡ entry b.id.0 b.tenant.0 a.key = ap (λ n. entry b.id.0 n a.key) tenant in
    let by_key : entry b.id.0 b.tenant.0 a.key ≡ entry b.id.0 b.tenant.0 b.key = ap (λ n. entry b.id.0 b.tenant.0 n) key in
    by_id ∙ by_tenant ∙ by_key

pub client_decides : (a b : ClientEntry) → Decides ((a.id.0 == b.id.0) && ((a.tenant.0 == b.tenant.0) && eq-value.it a.key b.key)) (a ≡ b)
client_decides a b = (
  λ same.
      let parts = and_parts _ _ same in
      let rest = and_parts _ _ parts.1 in
      by_fields a b ((Decides-eqb _ _).0 parts.0) ((Decides-eqb _ _).0 rest.0) ((key_decides _ _).0 rest.1),
  λ e. and_from _ _ ((Decides-eqb a.id.0 b.id.0).1 (ap (λ (x : ClientEntry). x.id.0) e))
      (and_from _ _ ((Decides-eqb a.tenant.0 b.tenant.0).1 (ap (λ (x : ClientEntry). x.tenant.0) e)) ((key_decides a.key b.key).1 (ap (λ (x : ClientEntry). x.key) e))),
)
