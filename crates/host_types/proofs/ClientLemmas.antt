-- Clients that are listed once, and what the tests of a configuration show.
use Rattle.std.proofs.Common.{◌≡◌, ◌≢◌, ℕ, ◌+◌, ◌<◌, ◌≤◌, Bool, false, ◌||◌, eqb, ltb, List, [], ◌∷◌, length, get_or, take, drop, refl, sym, ap, ◌∙◌, arith, add-one, drop-cons, ◌-◌, length-drop, take_all}
use Rattle.std.specs.Prelude.{All, AllPairs}
use Rattle.std.specs.List.{list_any}
use Rattle.std.proofs.lemmas.Bool.{eqb-false, ltb-false, or_parts}
use Rattle.std.proofs.lemmas.List.Elements.{All-cons}
use Rattle.std.proofs.lemmas.List.Kept.{AllPairs-cons}
use Rattle.host_types.specs.declared.config.ClientEntry.{ClientEntry}
use Rattle.host_types.specs.declared.key.PublicKey.TheVariants.{Lms}
use Rattle.host_types.specs.Configuration.{Configuration, IsConfiguration, replicas_for, tenants_of, too_many, some_client_twice}

-- from index i on, whether a client is listed again
pub twice_from : (clients : List ClientEntry) (i : ℕ) (d : ClientEntry) → i < length clients → some_client_twice (drop i clients) ≡ (list_any (λ other. eqb other.id.0 (get_or clients i d).id.0) (drop (i + 1) clients) || some_client_twice (drop (i + 1) clients))
twice_from clients i d h = rw (add-one, drop-cons clients i d) refl

-- the same over the rest as a slice is cut
pub twice_at : (clients : List ClientEntry) (i : ℕ) (d : ClientEntry) (found : Bool) → i < length clients → found ≡ list_any (λ other. eqb other.id.0 (get_or clients i d).id.0) (take (length clients - (i + 1)) (drop (i + 1) clients)) → some_client_twice clients ≡ some_client_twice (drop i clients) → some_client_twice clients ≡ (found || some_client_twice (drop (i + 1) clients))
twice_at clients i d found h is before =
    let rest : take (length clients - (i + 1)) (drop (i + 1) clients) ≡ drop (i + 1) clients = take_all (length clients - (i + 1)) (drop (i + 1) clients) (omega (arith, length-drop (i + 1) clients)) in
    before ∙ twice_from clients i d h
    ∙ ap (λ (b : Bool). b || some_client_twice (drop (i + 1) clients)) (sym (is ∙ ap (list_any (λ other. eqb other.id.0 (get_or clients i d).id.0)) rest))

-- what is at an index past the end
abbrev pub nobody : ClientEntry
nobody = record { id = record { 0 = 0 }; tenant = record { 0 = 0 }; key = Lms [] }

all_fail : {X : Type 0} (p : X → Bool) (xs : List X) → list_any p xs ≡ false → All (λ x. p x ≡ false) xs
all_fail p [] e = λ k d h. absurd (omega arith)
all_fail p (x ∷ xs) e = let both = or_parts (p x) (list_any p xs) e in All-cons (λ y. p y ≡ false) x xs both.0 (all_fail p xs both.1)

once : (clients : List ClientEntry) → some_client_twice clients ≡ false → AllPairs (λ one other. one.id.0 ≢ other.id.0) clients
once [] e = λ i j d lt h. absurd (omega arith)
once (client ∷ others) e =
    let both = or_parts (list_any (λ other. eqb other.id.0 client.id.0) others) (some_client_twice others) e in
    AllPairs-cons (λ one other. one.id.0 ≢ other.id.0) client others
    (λ k d h same. eqb-false _ _ (all_fail (λ other. eqb other.id.0 client.id.0) others both.0 k d h) (sym same))
    (once others both.1)

pub legal : (c : Configuration) → 1 ≤ c.f → c.f ≤ 3 → length c.keys ≡ replicas_for c.f → 1 ≤ c.k → c.k ≤ 8 → too_many c.clients ≡ false → some_client_twice c.clients ≡ false → IsConfiguration c
legal c f1 f3 keys k1 k8 few different =
    let a = or_parts (ltb 64 (length c.clients)) (ltb 8 (length (tenants_of c.clients)) || list_any (λ client. ltb client.id.0 16) c.clients) few in
    let b = or_parts (ltb 8 (length (tenants_of c.clients))) (list_any (λ client. ltb client.id.0 16) c.clients) a.1 in
    record {
      min_faulty = f1;
      max_faulty = f3;
      min_interval = k1;
      max_interval = k8;
      a_key_each = keys;
      clients = ltb-false _ _ a.0;
      tenants = ltb-false _ _ b.0;
      client_ids = λ k d h. ltb-false _ _ (all_fail (λ client. ltb client.id.0 16) c.clients b.1 k d h);
      different_clients = once c.clients different;
    }
