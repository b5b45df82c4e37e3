-- A head's configuration is legal whatever the keys.
use Rattle.std.proofs.Common.{◌≡◌, ℕ, suc, ◌==◌, Bool, ◌||◌, not, ◌&&◌, nat_le, nat_lt, List, [], ◌∷◌, length, map, Option, Some, None, refl, sym, ap, ◌∙◌, subst, if◌then◌else◌}
use Rattle.std.specs.Prelude.{fold, replicate}
use Rattle.std.specs.List.{list_any}
use Rattle.std.proofs.lemmas.List.{length-map, length-replicate}
use Rattle.host_types.specs.Configuration.{fault_of, insert_sorted, replicas_for, some_client_twice, tenants_of, too_many}
use Rattle.host_types.specs.declared.TenantId.{TenantId}
use Rattle.host_types.specs.declared.config.ClientEntry.{ClientEntry}
use Rattle.host_types.specs.declared.config.ConfigFault.{ConfigFault}
use Rattle.host_types.specs.declared.config.ConfigFault.TheVariants.{BadF, WrongReplicaCount, BadInterval, TooMany, DuplicateClient}
use Rattle.host_types.specs.declared.key.PublicKey.{PublicKey}
use Rattle.lms_tree.specs.SigningState.{SigningState}
use Rattle.script_text.specs.Heads.{HeadFacts, IsLegal, keyless, no_key}
use Rattle.script_text.specs.Client.{Client}
use Rattle.world_queue.specs.Parties.{key_of}
use Rattle.world_script.specs.Keys.{unkeyed}

-- What entries of clients say beside their keys.
pub record AreAlike (es fs : List ClientEntry) : Type 0 where
  pub long : length es ≡ length fs
  pub tenants : (acc : List TenantId) →
      fold (λ tenants client. insert_sorted (λ (t : TenantId). t.0) client.tenant tenants) acc es
      ≡ fold (λ tenants client. insert_sorted (λ (t : TenantId). t.0) client.tenant tenants) acc fs
  pub small : list_any (λ (client : ClientEntry). nat_lt client.id.0 16) es ≡ list_any (λ (client : ClientEntry). nat_lt client.id.0 16) fs
  pub again : (id : ℕ) → list_any (λ (other : ClientEntry). other.id.0 == id) es ≡ list_any (λ (other : ClientEntry). other.id.0 == id) fs
  pub twice : some_client_twice es ≡ some_client_twice fs

alike : (es : List ClientEntry) → AreAlike es (map unkeyed es)
alike [] = record { long = refl; tenants = λ acc. refl; small = refl; again = λ id. refl; twice = refl }
alike (e ∷ es) = behind (alike es) where
  behind : AreAlike es (map unkeyed es) → AreAlike (e ∷ es) (map unkeyed (e ∷ es))
  behind a = record {
    long = ap suc a.long;
    tenants = λ acc. a.tenants (insert_sorted (λ (t : TenantId). t.0) e.tenant acc);
    small = ap (λ (b : Bool). nat_lt e.id.0 16 || b) a.small;
    again = λ id. ap (λ (b : Bool). (e.id.0 == id) || b) (a.again id);
    twice = ap (λ (b : Bool). b || some_client_twice es) (a.again e.id.0)
        ∙ ap (λ (b : Bool). list_any (λ (other : ClientEntry). other.id.0 == e.id.0) (map unkeyed es) || b) a.twice;
  }

-- the fault, by what it depends on
abbrev fault_by : ℕ → ℕ → ℕ → Bool → Bool → Option ConfigFault
fault_by f k keys many twice =
    if not (nat_le 1 f && nat_le f 3) then Some BadF
    else (if not (keys == replicas_for f) then Some WrongReplicaCount
    else (if not (nat_le 1 k && nat_le k 8) then Some BadInterval
    else (if many then Some TooMany
    else (if twice then Some DuplicateClient
    else None))))

same_many : (es fs : List ClientEntry) → AreAlike es fs → too_many es ≡ too_many fs
same_many es fs a =
    ap (λ (n : ℕ). nat_lt 64 n || (nat_lt 8 (length (tenants_of es)) || list_any (λ (client : ClientEntry). nat_lt client.id.0 16) es)) a.long
    ∙ ap (λ (ts : List TenantId). nat_lt 64 (length fs) || (nat_lt 8 (length ts) || list_any (λ (client : ClientEntry). nat_lt client.id.0 16) es)) (a.tenants [])
    ∙ ap (λ (b : Bool). nat_lt 64 (length fs) || (nat_lt 8 (length (tenants_of fs)) || b)) a.small

same_fault : (f k : ℕ) (keys : List PublicKey) (es : List ClientEntry) → length keys ≡ replicas_for f
    → fault_of (record { f = f; k = k; keys = keys; clients = es }) ≡ fault_of (record { f = f; k = k; keys = replicate (replicas_for f) no_key; clients = map unkeyed es })
same_fault f k keys es long =
    let a = alike es in
    ap (λ (n : ℕ). fault_by f k n (too_many es) (some_client_twice es)) (long ∙ sym (length-replicate (replicas_for f) no_key))
    ∙ ap (λ (b : Bool). fault_by f k (length (replicate (replicas_for f) no_key)) b (some_client_twice es)) (same_many es (map unkeyed es) a)
    ∙ ap (λ (b : Bool). fault_by f k (length (replicate (replicas_for f) no_key)) (too_many (map unkeyed es)) b) a.twice

pub no_fault : (f k : ℕ) (cs : List Client) (keys : List PublicKey) (es : List ClientEntry) → IsLegal f k cs → length keys ≡ replicas_for f → map unkeyed es ≡ map keyless cs
    → fault_of (record { f = f; k = k; keys = keys; clients = es }) ≡ None
no_fault f k cs keys es legal long same =
    same_fault f k keys es long
    ∙ ap (λ (fs : List ClientEntry). fault_of (record { f = f; k = k; keys = replicate (replicas_for f) no_key; clients = fs })) same
    ∙ legal

-- The keys that are made for a head are those of a configuration.
pub never : (h : HeadFacts) (f k : ℕ) (replicas made_signers : List SigningState) (keys : List PublicKey) (es : List ClientEntry) (fault : ConfigFault)
    → IsLegal h.f h.k h.clients → f ≡ h.f → k ≡ h.k → length replicas ≡ replicas_for h.f → keys ≡ map key_of made_signers → made_signers ≡ replicas
    → map unkeyed es ≡ map keyless h.clients → fault_of (record { f = f; k = k; keys = keys; clients = es }) ≡ Some fault → ⊥
never h f k replicas made_signers keys es fault legal f_is k_is long keys_are same entries wrong =
    none_some (sym (no_fault f k h.clients keys es legal_here long_here entries) ∙ wrong) where
      none_some : {X : Type 0} {x : X} → None ≡ Some x → ⊥
      none_some h = cc h

      legal_here : IsLegal f k h.clients
      legal_here = subst (λ (n : ℕ). IsLegal n k h.clients) (sym f_is) (subst (λ (n : ℕ). IsLegal h.f n h.clients) (sym k_is) legal)

      long_here : length keys ≡ replicas_for f
      long_here = ap length keys_are ∙ length-map made_signers key_of ∙ ap length same ∙ long ∙ ap replicas_for (sym f_is)
