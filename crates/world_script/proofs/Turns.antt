-- What requests and forged messages make of a stage.
use Rattle.std.proofs.Common.{◌≡◌, ℕ, ◌+◌, ◌++◌, [], List, Option, Some, None, sym, ap, subst, ◌∙◌}
use Rattle.pbft_codec.specs.declared.body.Body.{Body}
use Rattle.pbft_codec.specs.declared.body.Body.TheVariants as bodies
use Rattle.pbft_codec.specs.declared.body.request.RequestBody.{RequestBody}
use Rattle.pbft_codec.specs.declared.signed.Signed.{Signed}
use Rattle.pbft_codec.specs.Encoding.{encoding}
use Rattle.seal.specs.Opening.{CheckedMessage}
use Rattle.world_queue.specs.Sessions.{SessionState, next_request}
use Rattle.script_text.specs.Kinds.{kind_of_body}
use Rattle.script_text.specs.declared.script.Forgery.{Forgery}
use Rattle.script_text.specs.declared.script.Order.{Order}
use Rattle.script_text.specs.Node.TheVariants.{Replica}
use Rattle.world_queue.specs.declared.forging.Forger.{Forger}
use Rattle.world_queue.specs.Letters.{LetterFacts, copies}
use Rattle.world_queue.specs.Lines.{nothing_queued_line}
use Rattle.world_queue.specs.Effects.{Forges, ForgesBy, Requests, RequestsBy}
use Rattle.world_script.specs.Parts.{with_message}
use Rattle.world_script.specs.Facts.{StageFacts}
use Rattle.world_script.specs.Stages.{Turn, forged_body, forged_by, forged_for, forges, requested, requested_by}
use Rattle.world_queue.specs.Parties.{forged_message, signing_forger, signing_session}

some_none : {X : Type 0} {x : X} → Some x ≡ None → ⊥
some_none h = cc h

none_some : {X : Type 0} {x : X} → None ≡ Some x → ⊥
none_some h = cc h

same_value : {X : Type 0} {x y : X} → Some x ≡ Some y → x ≡ y
same_value h = cc h

-- ---- requests

queued_by : (s t : StageFacts) (o : Order) (m : CheckedMessage) (ss : List SessionState) (session : SessionState) → RequestsBy (Some session) s.sessions o.client o.op ss (Some m)
    → ((b : RequestBody) → m.message.body ≡ bodies.Request b → t ≡ with_message (record s { sessions = ss }) o m.message b)
    → ◌≡◌ {A = Turn} ([], t) (requested_by s o (Some session))
queued_by s t o m ss session r queues =
    let is : m.message ≡ next_request session o.op = ap (λ (c : CheckedMessage). c.message) (same_value r.0.is) ∙ r.0.next in
    let b : RequestBody = record { time = session.time + 1; op = o.op } in
    ap {B = Turn} (λ (u : StageFacts). ([], u)) (queues b (ap (λ (x : Signed Body). x.body) is)
    ∙ ap (λ (x : Signed Body). with_message (record s { sessions = ss }) o x b) is
    ∙ ap (λ (xs : List SessionState). with_message (record s { sessions = xs }) o (next_request session o.op) b) r.1)

pub request_queued : (s t : StageFacts) (o : Order) (m : CheckedMessage) (ss : List SessionState) → Requests s.sessions o.client o.op ss (Some m)
    → ((b : RequestBody) → m.message.body ≡ bodies.Request b → t ≡ with_message (record s { sessions = ss }) o m.message b)
    → ◌≡◌ {A = Turn} ([], t) (requested s o)
request_queued s t o m ss r queues = by (signing_session s.sessions o.client) r where
  by : (found : Option SessionState) → RequestsBy found s.sessions o.client o.op ss (Some m) → ◌≡◌ {A = Turn} ([], t) (requested_by s o found)
  by None r = absurd (some_none r.0)
  by (Some session) r = queued_by s t o m ss session r queues

pub request_refused : (s : StageFacts) (o : Order) (ss : List SessionState) → Requests s.sessions o.client o.op ss None
    → ◌≡◌ {A = Turn} (nothing_queued_line, record s { sessions = ss }) (requested s o)
request_refused s o ss r = by (signing_session s.sessions o.client) r where
  by : (found : Option SessionState) → RequestsBy found s.sessions o.client o.op ss None → ◌≡◌ {A = Turn} (nothing_queued_line, record s { sessions = ss }) (requested_by s o found)
  by None r = ap {B = Turn} (λ (xs : List SessionState). (nothing_queued_line, record s { sessions = xs })) r.1
  by (Some session) r = absurd (none_some r.0.is)

-- ---- forged messages

-- the letter of a forged message of these bytes
abbrev pub forged_letter : Forgery → Body → List ℕ → LetterFacts
forged_letter f body bytes = record { to = Replica f.from; from = Some (Replica f.from); kind = Some (kind_of_body body); bytes = bytes }

abbrev with_bytes : StageFacts → Forgery → Body → List Forger → List ℕ → StageFacts
with_bytes s f body gs bytes = record s { forgers = gs; queue = s.queue ++ copies (forged_letter f body bytes) f.to }

pub forged_queued : (s t : StageFacts) (f : Forgery) (body : Body) (bytes : List ℕ) (gs : List Forger) → forged_body s f.message ≡ Some body → Forges s.forgers f body gs (Some bytes)
    → t ≡ record s { forgers = gs; queue = s.queue ++ copies (forged_letter f body bytes) f.to } → ◌≡◌ {A = Turn} ([], t) (forges s f)
forged_queued s t f body bytes gs says r is =
    subst (λ (b : Option Body). ◌≡◌ {A = Turn} ([], t) (forged_for s f b)) (sym says) (by (signing_forger s.forgers f.from) r) where
      by : (found : Option Forger) → ForgesBy found s.forgers f body gs (Some bytes) → ◌≡◌ {A = Turn} ([], t) (forged_by s f body found)
      by None r = absurd (some_none r.0)
      by (Some g) r =
          ap {B = Turn} (λ (u : StageFacts). ([], u)) (is ∙ ap (with_bytes s f body gs) (same_value r.0)
          ∙ ap (λ (xs : List Forger). with_bytes s f body xs (encoding (forged_message g.signer f body))) r.1)

pub forged_refused : (s : StageFacts) (f : Forgery) (body : Body) (gs : List Forger) → forged_body s f.message ≡ Some body → Forges s.forgers f body gs None
    → ◌≡◌ {A = Turn} (nothing_queued_line, record s { forgers = gs }) (forges s f)
forged_refused s f body gs says r =
    subst (λ (b : Option Body). ◌≡◌ {A = Turn} (nothing_queued_line, record s { forgers = gs }) (forged_for s f b)) (sym says) (by (signing_forger s.forgers f.from) r) where
      by : (found : Option Forger) → ForgesBy found s.forgers f body gs None → ◌≡◌ {A = Turn} (nothing_queued_line, record s { forgers = gs }) (forged_by s f body found)
      by None r = ap {B = Turn} (λ (xs : List Forger). (nothing_queued_line, record s { forgers = xs })) r.1
      by (Some g) r = absurd (none_some r.0)

pub forged_unsaid : (s : StageFacts) (f : Forgery) → forged_body s f.message ≡ None → ◌≡◌ {A = Turn} (nothing_queued_line, s) (forges s f)
forged_unsaid s f says = sym (ap (forged_for s f) says)
