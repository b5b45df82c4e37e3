-- Replies that are in the order of clients.
use Rattle.std.proofs.Common.{◌≡◌, ℕ, ◌+◌, ◌<◌, ◌≤◌, Bool, cond, eqb, List, [], ◌∷◌, length, drop, get_or, refl, sym, ap, ◌∙◌, arith}
use Rattle.std.proofs.lemmas.Bool.{eq-eqb, ne_eqb}
use Rattle.std.proofs.lemmas.List.{drop_more, drop_all, length-drop}
use Rattle.host_types.specs.declared.ClientId.{ClientId}
use Rattle.host_types.specs.declared.request.Reply.{Reply}
use Rattle.service_core.specs.Readings.{in_turn}

-- what was found of the first clients and replies
pub record IsTurn (ids : List ClientId) (replies : List Reply) (index next : ℕ) : Type 0 where
  pub within : next ≤ length replies
  pub same : in_turn ids replies ≡ in_turn (drop index ids) (drop next replies)

-- a reply to the next client, and one that is none
pub turn_here : (id : ClientId) (ids : List ClientId) (reply : Reply) (replies : List Reply) → reply.client.0 ≡ id.0 → in_turn (id ∷ ids) (reply ∷ replies) ≡ in_turn ids replies
turn_here id ids reply replies e = ap (λ (b : Bool). cond b (in_turn ids replies) (in_turn ids (reply ∷ replies))) (eq-eqb reply.client.0 id.0 e)

pub turn_later : (id : ClientId) (ids : List ClientId) (reply : Reply) (replies : List Reply) → (reply.client.0 ≡ id.0 → ⊥) → in_turn (id ∷ ids) (reply ∷ replies) ≡ in_turn ids (reply ∷ replies)
turn_later id ids reply replies differs = ap (λ (b : Bool). cond b (in_turn ids replies) (in_turn ids (reply ∷ replies))) (ne_eqb reply.client.0 id.0 differs)

turn_none : (id : ClientId) (ids : List ClientId) → in_turn (id ∷ ids) [] ≡ in_turn ids []
turn_none id [] = refl
turn_none id (other ∷ ids) = refl

pub turn_first : (ids : List ClientId) (replies : List Reply) → IsTurn ids replies 0 0
turn_first ids replies = record { within = omega arith; same = refl }

module _ (ids : List ClientId) (replies : List Reply) (index next : ℕ) (t : IsTurn ids replies index next) where
  pub turn_taken : (d : ClientId) (e : Reply) → index < length ids → next < length replies → (get_or replies next e).client.0 ≡ (get_or ids index d).0 → IsTurn ids replies (index + 1) (next + 1)
  turn_taken d e more left is = record {
    within = omega (arith, left);
    same = t.same ∙ ap (λ (is : List ClientId). in_turn is (drop next replies)) (drop_more ids index d more) ∙ ap (in_turn (get_or ids index d ∷ drop (index + 1) ids)) (drop_more replies next e left)
        ∙ turn_here (get_or ids index d) (drop (index + 1) ids) (get_or replies next e) (drop (next + 1) replies) is;
  }

  pub turn_passed : (d : ClientId) (e : Reply) → index < length ids → next < length replies → ((get_or replies next e).client.0 ≡ (get_or ids index d).0 → ⊥) → IsTurn ids replies (index + 1) next
  turn_passed d e more left differs = record {
    within = t.within;
    same = t.same ∙ ap (λ (is : List ClientId). in_turn is (drop next replies)) (drop_more ids index d more) ∙ ap (in_turn (get_or ids index d ∷ drop (index + 1) ids)) (drop_more replies next e left)
        ∙ turn_later (get_or ids index d) (drop (index + 1) ids) (get_or replies next e) (drop (next + 1) replies) differs
        ∙ ap (in_turn (drop (index + 1) ids)) (sym (drop_more replies next e left));
  }

  pub turn_over : (d : ClientId) → index < length ids → length replies ≤ next → IsTurn ids replies (index + 1) next
  turn_over d more over = record {
    within = t.within;
    same = t.same ∙ ap (λ (is : List ClientId). in_turn is (drop next replies)) (drop_more ids index d more) ∙ ap (in_turn (get_or ids index d ∷ drop (index + 1) ids)) (drop_all next replies over)
        ∙ turn_none (get_or ids index d) (drop (index + 1) ids)
        ∙ ap (in_turn (drop (index + 1) ids)) (sym (drop_all next replies over));
  }

  pub turn_ended : length ids ≤ index → eqb next (length replies) ≡ in_turn ids replies
  turn_ended over = cases (drop next replies) refl ∙ sym (t.same ∙ ap (λ (is : List ClientId). in_turn is (drop next replies)) (drop_all index ids over)) where
    cases : (rest : List Reply) → drop next replies ≡ rest → eqb next (length replies) ≡ in_turn [] (drop next replies)
    cases [] e = eq-eqb next (length replies) (omega (arith, t.within, ap length e, length-drop next replies)) ∙ sym (ap (in_turn []) e)
    cases (reply ∷ rest) e = ne_eqb next (length replies) (λ same. absurd (not_over (drop_all next replies (omega (arith, same))))) ∙ sym (ap (in_turn []) e) where
      not_over : drop next replies ≡ [] → ⊥
      not_over h = let both : reply ∷ rest ≡ [] = sym e ∙ h in cc
