-- The last replies of a state, by client, and those that are read as such.
use Rattle.std.proofs.Common.{◌≡◌, ℕ, ◌<◌, Bool, true, false, cond, eqb, List, [], ◌∷◌, find, Option, Some, None, refl, sym, ap, subst, ◌∙◌, true≢false, arith}
use Rattle.std.specs.Prelude.{IfSome, IsSome, IsSomeAnd, All}
use Rattle.std.specs.List.{filter_map, cons_option}
use Rattle.std.specs.FinMap as finite
use Rattle.std.proofs.lemmas.Bool.{eqb-true, ne_eqb}
use Rattle.std.proofs.lemmas.List.Elements.{All-head, All-tail, All-nil, All-cons}
use Rattle.host_types.specs.declared.ClientId.{ClientId}
use Rattle.host_types.specs.declared.config.ClientEntry.{ClientEntry}
use Rattle.host_types.specs.declared.request.Reply.{Reply}
use Rattle.host_types.specs.Configuration.{client_ids_of, entry_of}
use Rattle.service_model.specs.TenantStates.{Service, replies_of, last_reply_of}
use Rattle.service_model.specs.Encoding.{last_replies_of}
use Rattle.service_model.specs.Bounded.{IsBoundedReply, IsBounded}
use Rattle.service_core.specs.Readings.{in_turn, is_of, replies_to_tenant, AreLastReplies}
use Rattle.service_model.proofs.Clients.{Each, Ascends, OwnReplies, above_first, client_ids_ascend}
use Rattle.service_model.proofs.Injective.{found_has, last_bounded, own_of, few_replies_found}
use Rattle.tenant_parts.proofs.LastReplies.{to, get-replies_of}
use Rattle.service_core.proofs.Turns.{turn_here, turn_later}

abbrev id_of : ClientId → ℕ
id_of id = id.0

-- ---- what a state's last replies are

-- replies that are found for clients that ascend are in turn
pub found_in_turn : (f : ℕ → Option Reply) → OwnReplies f → (ids : List ClientId) → Ascends (λ (id : ClientId). id.0) ids → in_turn ids (filter_map (λ id. f id.0) ids) ≡ true
found_in_turn f own [] up = refl
found_in_turn f own (id ∷ ids) up = cases (f id.0) (own id.0) (filter_map (λ (i : ClientId). f i.0) ids) (λ r more e. above_first f own id.0 ids r more up.0 e) (found_in_turn f own ids up.1) where
  cases : (o : Option Reply) → IfSome o (λ reply. reply.client.0 ≡ id.0) → (rs : List Reply) → ((r : Reply) (more : List Reply) → rs ≡ r ∷ more → id.0 < r.client.0) → in_turn ids rs ≡ true → in_turn (id ∷ ids) (cons_option o rs) ≡ true
  cases (Some r) is rs above rest = turn_here id ids r rs is ∙ rest
  cases None is [] above rest = refl
  cases None is (r ∷ rs) above rest = turn_later id ids r rs (λ same. omega (arith, same, above r rs refl)) ∙ rest

-- each is within its bounds
found_fit : (s : Service) → IsBounded s → (ids : List ClientId) → All (λ reply. IsBoundedReply s.number reply.client.0 reply) (filter_map (λ id. last_reply_of s id.0) ids)
found_fit s bounded [] = All-nil (λ (reply : Reply). IsBoundedReply s.number reply.client.0 reply)
found_fit s bounded (id ∷ ids) = cases (last_reply_of s id.0) (last_bounded s bounded id.0) (filter_map (λ (i : ClientId). last_reply_of s i.0) ids) (found_fit s bounded ids) where
  cases : (o : Option Reply) → IfSome o (IsBoundedReply s.number id.0) → (rs : List Reply) → All (λ reply. IsBoundedReply s.number reply.client.0 reply) rs → All (λ reply. IsBoundedReply s.number reply.client.0 reply) (cons_option o rs)
  cases None h rs rest = rest
  cases (Some reply) h rs rest = All-cons (λ (r : Reply). IsBoundedReply s.number r.client.0 r) reply rs (subst (λ (q : ℕ). IsBoundedReply s.number q reply) (sym h.own) h) rest

pub last_replies_fit : (s : Service) → IsBounded s → AreLastReplies s.config.clients s.number (last_replies_of s)
last_replies_fit s bounded = ((few_replies_found s bounded, found_fit s bounded (client_ids_of s.config.clients)), found_in_turn (last_reply_of s) (own_of s bounded) (client_ids_of s.config.clients) (client_ids_ascend s.config.clients))

-- ---- what replies that are in turn are

turn_above : (n : ℕ) (ids : List ClientId) (replies : List Reply) → Each (λ id. n < id.0) ids → in_turn ids replies ≡ true → Each (λ reply. n < reply.client.0) replies
turn_above n [] [] up e = tt
turn_above n [] (reply ∷ replies) up e = absurd (true≢false (sym e))
turn_above n (id ∷ ids) [] up e = tt
turn_above n (id ∷ ids) (reply ∷ replies) up e = cases (turn_above n ids replies up.1) (turn_above n ids (reply ∷ replies) up.1) (eqb reply.client.0 id.0) refl e where
  cases : (in_turn ids replies ≡ true → Each (λ r. n < r.client.0) replies) → (in_turn ids (reply ∷ replies) ≡ true → Each (λ r. n < r.client.0) (reply ∷ replies))
      → (b : Bool) → eqb reply.client.0 id.0 ≡ b → cond b (in_turn ids replies) (in_turn ids (reply ∷ replies)) ≡ true → Each (λ r. n < r.client.0) (reply ∷ replies)
  cases one two true same h = (omega (arith, up.0, eqb-true reply.client.0 id.0 same), one h)
  cases one two false same h = two h

none_to : (q : ℕ) (replies : List Reply) → Each (λ reply. q < reply.client.0) replies → find (to q) replies ≡ None
none_to q [] above = refl
none_to q (reply ∷ replies) above = ap (λ (b : Bool). cond b (Some reply) (find (to q) replies)) (ne_eqb reply.client.0 q (λ e. omega (arith, e, above.0))) ∙ none_to q replies above.1

none_found_in : (ids : List ClientId) → filter_map (λ id. find (to id.0) []) ids ≡ []
none_found_in [] = refl
none_found_in (id ∷ ids) = none_found_in ids

behind_first : (reply : Reply) (replies : List Reply) (ids : List ClientId) → Each (λ id. reply.client.0 < id.0) ids → filter_map (λ id. find (to id.0) (reply ∷ replies)) ids ≡ filter_map (λ id. find (to id.0) replies) ids
behind_first reply replies [] up = refl
behind_first reply replies (id ∷ ids) up =
    ap (λ (b : Bool). cons_option (cond b (Some reply) (find (to id.0) replies)) (filter_map (λ (i : ClientId). find (to i.0) (reply ∷ replies)) ids)) (ne_eqb reply.client.0 id.0 (λ e. omega (arith, e, up.0)))
    ∙ ap (cons_option (find (to id.0) replies)) (behind_first reply replies ids up.1)

-- they are found for the clients again
pub turn_found : (ids : List ClientId) (replies : List Reply) → Ascends (λ (id : ClientId). id.0) ids → in_turn ids replies ≡ true → filter_map (λ id. find (to id.0) replies) ids ≡ replies
turn_found [] [] up e = refl
turn_found [] (reply ∷ replies) up e = absurd (true≢false (sym e))
turn_found (id ∷ ids) [] up e = none_found_in ids
turn_found (id ∷ ids) (reply ∷ replies) up e = cases (turn_found ids replies up.1) (turn_found ids (reply ∷ replies) up.1) (eqb reply.client.0 id.0) refl e where
  cases : (in_turn ids replies ≡ true → filter_map (λ i. find (to i.0) replies) ids ≡ replies) → (in_turn ids (reply ∷ replies) ≡ true → filter_map (λ i. find (to i.0) (reply ∷ replies)) ids ≡ reply ∷ replies)
      → (b : Bool) → eqb reply.client.0 id.0 ≡ b → cond b (in_turn ids replies) (in_turn ids (reply ∷ replies)) ≡ true
      → cons_option (find (to id.0) (reply ∷ replies)) (filter_map (λ i. find (to i.0) (reply ∷ replies)) ids) ≡ reply ∷ replies
  cases one two true same h =
      ap (λ (b : Bool). cons_option (cond b (Some reply) (find (to id.0) replies)) (filter_map (λ (i : ClientId). find (to i.0) (reply ∷ replies)) ids)) same
      ∙ ap (λ (rs : List Reply). reply ∷ rs) (behind_first reply replies ids (subst (λ (n : ℕ). Each (λ (i : ClientId). n < i.0) ids) (sym (eqb-true reply.client.0 id.0 same)) up.0) ∙ one h)
  cases one two false same h =
      ap (λ (o : Option Reply). cons_option o (filter_map (λ (i : ClientId). find (to i.0) (reply ∷ replies)) ids)) (none_to id.0 (reply ∷ replies) (turn_above id.0 ids (reply ∷ replies) up.0 h)) ∙ two h

-- ---- the replies of a tenant

-- what holds of all replies holds of those of a tenant
pub tenant_replies_all : (P : Reply → Type 0) (clients : List ClientEntry) (tenant : ℕ) (replies : List Reply) → All P replies → All P (replies_to_tenant clients tenant replies)
tenant_replies_all P clients tenant [] all = All-nil P
tenant_replies_all P clients tenant (reply ∷ replies) all = cases (is_of tenant (entry_of clients reply.client.0)) (tenant_replies_all P clients tenant replies (All-tail P reply replies all)) where
  cases : (b : Bool) → All P (replies_to_tenant clients tenant replies) → All P (cons_option (cond b (Some reply) None) (replies_to_tenant clients tenant replies))
  cases true rest = All-cons P reply _ (All-head P reply replies all) rest
  cases false rest = rest

abbrev pub IsOwn : List ClientEntry → ℕ → Reply → Type 0
IsOwn clients tenant reply = is_of tenant (entry_of clients reply.client.0) ≡ true

pub tenant_replies_own : (clients : List ClientEntry) (tenant : ℕ) (replies : List Reply) → All (IsOwn clients tenant) (replies_to_tenant clients tenant replies)
tenant_replies_own clients tenant [] = All-nil (IsOwn clients tenant)
tenant_replies_own clients tenant (reply ∷ replies) = cases (is_of tenant (entry_of clients reply.client.0)) refl (tenant_replies_own clients tenant replies) where
  cases : (b : Bool) → is_of tenant (entry_of clients reply.client.0) ≡ b → All (IsOwn clients tenant) (replies_to_tenant clients tenant replies) → All (IsOwn clients tenant) (cons_option (cond b (Some reply) None) (replies_to_tenant clients tenant replies))
  cases true e rest = All-cons (IsOwn clients tenant) reply _ e rest
  cases false e rest = rest

-- a client's reply is among its tenant's
pub tenant_replies_found : (clients : List ClientEntry) (tenant q : ℕ) (replies : List Reply) → is_of tenant (entry_of clients q) ≡ true → find (to q) (replies_to_tenant clients tenant replies) ≡ find (to q) replies
tenant_replies_found clients tenant q [] is = refl
tenant_replies_found clients tenant q (reply ∷ replies) is = cases (eqb reply.client.0 q) refl (is_of tenant (entry_of clients reply.client.0)) refl (tenant_replies_found clients tenant q replies is) where
  cases : (b : Bool) → eqb reply.client.0 q ≡ b → (kept : Bool) → is_of tenant (entry_of clients reply.client.0) ≡ kept → find (to q) (replies_to_tenant clients tenant replies) ≡ find (to q) replies
      → find (to q) (cons_option (cond kept (Some reply) None) (replies_to_tenant clients tenant replies)) ≡ find (to q) (reply ∷ replies)
  cases true same true mine rest =
      ap (λ (b : Bool). cond b (Some reply) (find (to q) (replies_to_tenant clients tenant replies))) same ∙ sym (ap (λ (b : Bool). cond b (Some reply) (find (to q) replies)) same)
  cases true same false mine rest = absurd (true≢false (sym is ∙ ap (λ (k : ℕ). is_of tenant (entry_of clients k)) (sym (eqb-true reply.client.0 q same)) ∙ mine))
  cases false same true mine rest =
      ap (λ (b : Bool). cond b (Some reply) (find (to q) (replies_to_tenant clients tenant replies))) same ∙ rest ∙ sym (ap (λ (b : Bool). cond b (Some reply) (find (to q) replies)) same)
  cases false same false mine rest = rest ∙ sym (ap (λ (b : Bool). cond b (Some reply) (find (to q) replies)) same)

-- what is found passes the test
pub found_passes : {X : Type 0} (p : X → Bool) (xs : List X) → IfSome (find p xs) (λ x. p x ≡ true)
found_passes p [] = tt
found_passes p (x ∷ xs) = cases (p x) refl (found_passes p xs) where
  cases : (b : Bool) → p x ≡ b → IfSome (find p xs) (λ y. p y ≡ true) → IfSome (cond b (Some x) (find p xs)) (λ y. p y ≡ true)
  cases true e rest = e
  cases false e rest = rest

-- a bounded reply that is found is one to the client
pub tenant_replies_bounded : (taken : ℕ) (clients : List ClientEntry) (tenant q : ℕ) (replies : List Reply) → All (λ reply. IsBoundedReply taken reply.client.0 reply) replies
    → IfSome (finite.get (replies_of (replies_to_tenant clients tenant replies)) q) (IsBoundedReply taken q)
tenant_replies_bounded taken clients tenant q replies all =
    subst (λ o. IfSome o (IsBoundedReply taken q)) (sym (get-replies_of kept q)) (cases (find (to q) kept) (found_has (λ (r : Reply). IsBoundedReply taken r.client.0 r) (to q) kept (tenant_replies_all (λ (r : Reply). IsBoundedReply taken r.client.0 r) clients tenant replies all)) (found_passes (to q) kept)) where
      kept : List Reply
      kept = replies_to_tenant clients tenant replies

      cases : (o : Option Reply) → IfSome o (λ r. IsBoundedReply taken r.client.0 r) → IfSome o (λ r. to q r ≡ true) → IfSome o (IsBoundedReply taken q)
      cases None h same = tt
      cases (Some r) h same = subst (λ (k : ℕ). IsBoundedReply taken k r) (eqb-true r.client.0 q same) h

-- and the client is of the tenant
pub tenant_replies_sound : (clients : List ClientEntry) (tenant q : ℕ) (replies : List Reply) → IsSome (finite.get (replies_of (replies_to_tenant clients tenant replies)) q) → IsSomeAnd (entry_of clients q) (λ entry. entry.tenant.0 ≡ tenant)
tenant_replies_sound clients tenant q replies some = cases (find (to q) kept) (found_has (IsOwn clients tenant) (to q) kept (tenant_replies_own clients tenant replies)) (found_passes (to q) kept) (subst IsSome (get-replies_of kept q) some) where
  kept : List Reply
  kept = replies_to_tenant clients tenant replies

  entry : (o : Option ClientEntry) → is_of tenant o ≡ true → IsSomeAnd o (λ e. e.tenant.0 ≡ tenant)
  entry None e = absurd (true≢false (sym e))
  entry (Some x) e = eqb-true x.tenant.0 tenant e

  cases : (o : Option Reply) → IfSome o (IsOwn clients tenant) → IfSome o (λ r. to q r ≡ true) → IsSome o → IsSomeAnd (entry_of clients q) (λ e. e.tenant.0 ≡ tenant)
  cases None h same is = absurd (true≢false (sym is))
  cases (Some r) h same is = entry (entry_of clients q) (ap (λ (k : ℕ). is_of tenant (entry_of clients k)) (sym (eqb-true r.client.0 q same)) ∙ h)
