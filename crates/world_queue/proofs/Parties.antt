-- Sessions and forgers: the one that is asked, and what is kept of the others.
use Rattle.std.proofs.Common.{◌≡◌, ℕ, Bool, true, false, List, [], set, get_or, Option, Some, None, Ok, refl, sym, ap, subst, ◌∙◌, if◌then◌else◌}
use Rattle.std.specs.List.{position}
use Rattle.std.proofs.lemmas.Bool.{eqb-true, eq-eqb}
use Rattle.std.proofs.lemmas.List.{set-get_or}
use Rattle.host_types.specs.declared.ClientId.{ClientId}
use Rattle.lms_tree.specs.Keys.{after_signing, leaf_count}
use Rattle.lms_tree.specs.SigningState.{SigningState}
use Rattle.pbft_codec.specs.declared.body.Body.{Body}
use Rattle.pbft_codec.specs.Encoding.{encoding}
use Rattle.seal.specs.Opening.{CheckedMessage}
use Rattle.client_session.specs.Sessions.{SessionState, accepted_by, asked, next_request, offered}
use Rattle.script_text.specs.declared.script.Forgery.{Forgery}
use Rattle.world_queue.specs.declared.forging.Forger.{Forger}
use Rattle.world_queue.specs.Effects.{Forges, ForgesBy, Offers, Requests, RequestsBy}
use Rattle.world_queue.specs.Parties.{accepted_now, after_asking, after_forging, forged_message, has_no_leaf, if_it_signs, is_forger, is_of, text_at}
use Rattle.world_queue.proofs.Lists.{changes_first, found_at, found_none, stays}

signs : (s : SigningState) → (s.next_leaf ≡ leaf_count s → ⊥) → has_no_leaf s ≡ false
signs s can = by (has_no_leaf s) refl where
  by : (b : Bool) → has_no_leaf s ≡ b → has_no_leaf s ≡ false
  by true is = absurd (can (eqb-true s.next_leaf (leaf_count s) is))
  by false is = is

stays_so : {A : Type 0} (xs ys : List A) (i : ℕ) (x : A) → x ≡ get_or xs i x → ys ≡ set xs i x → ys ≡ xs
stays_so xs ys i x read is = is ∙ ap (set xs i) read ∙ set-get_or xs i x

-- ---- sessions

pub asks_none : (old : List SessionState) (client : ClientId) (op : List ℕ) → position (is_of client) old ≡ None → Requests old client op old None
asks_none old client op at =
    subst (λ (o : Option SessionState). RequestsBy (if_it_signs (λ (x : SessionState). x.signer) o) old client op old None)
    (sym (found_none (is_of client) old at)) (refl, refl)

by_leaf : (old new : List SessionState) (client : ClientId) (op : List ℕ) (x : SessionState) (b : Bool) (made : Option CheckedMessage) → has_no_leaf x.signer ≡ b
    → RequestsBy (if b then None else Some x) old client op new made → RequestsBy (if has_no_leaf x.signer then None else Some x) old client op new made
by_leaf old new client op x b made is r =
    subst (λ (c : Bool). RequestsBy (if c then None else Some x) old client op new made) (sym is) r

pub asks : (old new : List SessionState) (client : ClientId) (op : List ℕ) (i : ℕ) (x : SessionState) (m : CheckedMessage) → position (is_of client) old ≡ Some i → x ≡ get_or old i x
    → (x.signer.next_leaf ≡ leaf_count x.signer → ⊥) → m.message ≡ next_request x op → new ≡ set old i (asked x op (after_signing x.signer)) → Requests old client op new (Some m)
asks old new client op i x m at read can next is =
    subst (λ (o : Option SessionState). RequestsBy (if_it_signs (λ (x : SessionState). x.signer) o) old client op new (Some m))
    (sym (found_at (is_of client) old i x at read))
    (by_leaf old new client op x false (Some m) (signs x.signer can) (
      record { message = m; is = refl; next = next },
      is ∙ changes_first (is_of client) (after_asking op) old i x at read,
    ))

pub asks_exhausted : (old new : List SessionState) (client : ClientId) (op : List ℕ) (i : ℕ) (x : SessionState) → position (is_of client) old ≡ Some i → x ≡ get_or old i x
    → x.signer.next_leaf ≡ leaf_count x.signer → new ≡ set old i x → Requests old client op new None
asks_exhausted old new client op i x at read exhausted is =
    subst (λ (o : Option SessionState). RequestsBy (if_it_signs (λ (x : SessionState). x.signer) o) old client op new None)
    (sym (found_at (is_of client) old i x at read))
    (by_leaf old new client op x true None (eq-eqb x.signer.next_leaf (leaf_count x.signer) exhausted) (refl, stays_so old new i x read is))

pub offers_none : (old : List SessionState) (client : ClientId) (m : CheckedMessage) (text : List ℕ) → position (is_of client) old ≡ None → text ≡ [] → Offers old client (Ok m) text old
offers_none old client m text at is = (
  is ∙ sym (ap (λ (o : Option SessionState). text_at o m.message) (found_none (is_of client) old at)),
  sym (stays (is_of client) (λ (x : SessionState). offered x m.message) old (found_none (is_of client) old at)),
)

pub offers : (old new : List SessionState) (client : ClientId) (m : CheckedMessage) (text : List ℕ) (i : ℕ) (x : SessionState) → position (is_of client) old ≡ Some i → x ≡ get_or old i x
    → text ≡ accepted_now (accepted_by x) (accepted_by (offered x m.message)) → new ≡ set old i (offered x m.message) → Offers old client (Ok m) text new
offers old new client m text i x at read said is = (
  said ∙ sym (ap (λ (o : Option SessionState). text_at o m.message) (found_at (is_of client) old i x at read)),
  is ∙ changes_first (is_of client) (λ (x : SessionState). offered x m.message) old i x at read,
)

-- ---- forgers

pub forges_none : (old : List Forger) (f : Forgery) (body : Body) → position (is_forger f.from) old ≡ None → Forges old f body old None
forges_none old f body at =
    subst (λ (o : Option Forger). ForgesBy (if_it_signs (λ (g : Forger). g.signer) o) old f body old None)
    (sym (found_none (is_forger f.from) old at)) (refl, refl)

forger_by_leaf : (old new : List Forger) (f : Forgery) (body : Body) (g : Forger) (b : Bool) (bytes : Option (List ℕ)) → has_no_leaf g.signer ≡ b
    → ForgesBy (if b then None else Some g) old f body new bytes → ForgesBy (if has_no_leaf g.signer then None else Some g) old f body new bytes
forger_by_leaf old new f body g b bytes is r =
    subst (λ (c : Bool). ForgesBy (if c then None else Some g) old f body new bytes) (sym is) r

pub forges : (old new : List Forger) (f : Forgery) (body : Body) (bytes : List ℕ) (i : ℕ) (g : Forger) → position (is_forger f.from) old ≡ Some i → g ≡ get_or old i g
    → has_no_leaf g.signer ≡ false → bytes ≡ encoding (forged_message g.signer f body) → new ≡ set old i (after_forging g) → Forges old f body new (Some bytes)
forges old new f body bytes i g at read can said is =
    subst (λ (o : Option Forger). ForgesBy (if_it_signs (λ (g : Forger). g.signer) o) old f body new (Some bytes))
    (sym (found_at (is_forger f.from) old i g at read))
    (forger_by_leaf old new f body g false (Some bytes) can (ap Some said, is ∙ changes_first (is_forger f.from) after_forging old i g at read))

pub forges_exhausted : (old new : List Forger) (f : Forgery) (body : Body) (i : ℕ) (g : Forger) → position (is_forger f.from) old ≡ Some i → g ≡ get_or old i g
    → has_no_leaf g.signer ≡ true → new ≡ set old i g → Forges old f body new None
forges_exhausted old new f body i g at read exhausted is =
    subst (λ (o : Option Forger). ForgesBy (if_it_signs (λ (g : Forger). g.signer) o) old f body new None)
    (sym (found_at (is_forger f.from) old i g at read))
    (forger_by_leaf old new f body g true None exhausted (refl, stays_so old new i g read is))
