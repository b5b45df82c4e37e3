-- A session for each client that is listed.
use Rattle.std.proofs.Common.{◌≡◌, ◌≢◌, ℕ, zero, suc, ◌+◌, ◌<◌, Bool, cond, List, [], ◌∷◌, length, map, drop, Some, refl, sym, ap, subst, ◌∙◌, arith, ◌++◌}
use Rattle.std.specs.Prelude.{slice_index_or, AllPairs}
use Rattle.std.proofs.lemmas.List.{drop_more, append_assoc}
use Rattle.std.proofs.lemmas.Bool.{eq-eqb, ne_eqb}
use Rattle.host_types.specs.Configuration.{Configuration, IsConfiguration, entry_of}
use Rattle.host_types.specs.declared.config.ClientEntry.{ClientEntry}
use Rattle.host_types.specs.declared.key.PublicKey.{PublicKey}
use Rattle.lms_tree.specs.SigningState.{SigningState}
use Rattle.world_queue.specs.Parties.{key_of}
use Rattle.client_session.specs.Sessions.{SessionState}
use Rattle.world_queue.specs.Effects.{fresh_session, fresh_sessions}

abbrev pub AreDifferent : List ClientEntry → Type 0
AreDifferent es = AllPairs (λ one other. one.id.0 ≢ other.id.0) es

found : (es : List ClientEntry) (i : ℕ) (e o : ClientEntry) → AreDifferent es → i < length es → slice_index_or es i o ≡ e → entry_of es e.id.0 ≡ Some e
found [] i e o d below is = absurd (none_below i below) where
  none_below : (i : ℕ) → i < 0 → ⊥
  none_below i h = omega (arith, h)
found (x ∷ es) zero e o d below is =
    ap (λ (b : Bool). cond b (Some x) (entry_of es e.id.0)) (eq-eqb x.id.0 e.id.0 (ap (λ (y : ClientEntry). y.id.0) is)) ∙ ap Some is
found (x ∷ es) (suc i) e o d below is =
    ap (λ (b : Bool). cond b (Some x) (entry_of es e.id.0)) (ne_eqb x.id.0 e.id.0 other)
    ∙ found es i e o (λ j k o lt under. d (suc j) (suc k) o (more j k lt) (more k (length es) under)) (less i (length es) below) is where
      more : (j k : ℕ) → j < k → suc j < suc k
      more j k h = omega (arith, h)

      less : (j k : ℕ) → suc j < suc k → j < k
      less j k h = omega (arith, h)

      first : (i : ℕ) → 0 < suc i
      first i = omega arith

      other : x.id.0 ≢ e.id.0
      other = subst (λ (y : ClientEntry). x.id.0 ≢ y.id.0) is (d 0 (suc i) o (first i) below)

-- A client that is listed is found by its id.
pub listed_at : (c : Configuration) (es : List ClientEntry) (i : ℕ) (o : ClientEntry) → IsConfiguration c → es ≡ c.clients → i < length es
    → entry_of c.clients (slice_index_or es i o).id.0 ≡ Some (slice_index_or es i o)
listed_at c es i o legal is below =
    subst (λ (xs : List ClientEntry). entry_of xs (slice_index_or es i o).id.0 ≡ Some (slice_index_or es i o)) is
    (found es i (slice_index_or es i o) o (subst AreDifferent (sym is) legal.different_clients) below refl)

abbrev pub HaveKeysOf : List ClientEntry → List SigningState → Type 0
HaveKeysOf es ss = map (λ (e : ClientEntry). e.key) es ≡ map key_of ss

tail_keys : (k l : PublicKey) (ks ls : List PublicKey) → k ∷ ks ≡ l ∷ ls → ks ≡ ls
tail_keys k l ks ls h = cc h

pub keys_behind : (es : List ClientEntry) (i : ℕ) (o : ClientEntry) (ss later : List SigningState) (s : SigningState) → i < length es → ss ≡ s ∷ later → HaveKeysOf (drop i es) ss → HaveKeysOf (drop (i + 1) es) later
keys_behind es i o ss later s below is h =
    tail_keys (slice_index_or es i o).key (key_of s) (map (λ (e : ClientEntry). e.key) (drop (i + 1) es)) (map key_of later)
    (sym (ap (λ (xs : List ClientEntry). map (λ (e : ClientEntry). e.key) xs) (drop_more es i o below)) ∙ h ∙ ap (map key_of) is)

pub one_session_more : (c : Configuration) (es : List ClientEntry) (i : ℕ) (o : ClientEntry) (ss later : List SigningState) (s : SigningState) (made pushed : List SessionState) (x : SessionState)
    → i < length es → ss ≡ s ∷ later → x ≡ fresh_session c (slice_index_or es i o) s → pushed ≡ made ++ x ∷ []
    → pushed ++ fresh_sessions c (drop (i + 1) es) later ≡ made ++ fresh_sessions c (drop i es) ss
one_session_more c es i o ss later s made pushed x below rest is push =
    ap (λ (xs : List SessionState). xs ++ fresh_sessions c (drop (i + 1) es) later) push ∙ append_assoc made (x ∷ []) (fresh_sessions c (drop (i + 1) es) later)
    ∙ ap (λ (y : SessionState). made ++ y ∷ fresh_sessions c (drop (i + 1) es) later) is
    ∙ sym (ap (λ (xs : List ClientEntry). made ++ fresh_sessions c xs ss) (drop_more es i o below)
    ∙ ap (λ (xs : List SigningState). made ++ fresh_sessions c (slice_index_or es i o ∷ drop (i + 1) es) xs) rest)
