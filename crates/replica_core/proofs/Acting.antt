-- What an act gives is what is kept, and a reply that is given is short.
use Rattle.std.proofs.Common.{◌≡◌, ℕ, ◌+◌, ◌<◌, ◌≤◌, List, length, Option, Some, None, refl, sym, ap, subst, ◌∙◌, arith}
use Rattle.std.specs.Prelude.{IfSome, IsSome}
use Rattle.std.proofs.lemmas.Bool.{false≢true}
use Rattle.std.proofs.lemmas.Option.{same_Some}
use Rattle.host_types.specs.Configuration.{Configuration}
use Rattle.host_types.specs.declared.SeqNo.{SeqNo}
use Rattle.pbft_codec.specs.declared.body.Body.{Body}
use Rattle.pbft_codec.specs.declared.body.Body.TheVariants as bodies
use Rattle.service_model.proofs.Injective.{last_bounded}
use Rattle.service_model.specs.Bounded.{IsBoundedReply}
use Rattle.lms_tree.specs.Keys.{leaf_count}
use Rattle.pbft_model.specs.Acts.{Act, Destination, Send, ToClient, acted}
use Rattle.pbft_model.specs.Duties.{due_reply, reply_body}
use Rattle.pbft_model.specs.Rows.{HasLeaves}
use Rattle.pbft_model.specs.Rules.{own_message}
use Rattle.pbft_model.specs.Sequential.{IsSound, Service, last_reply_of}
use Rattle.pbft_model.specs.Setup.{number_limit}
use Rattle.pbft_model.specs.Tables.{at, number_key}
use Rattle.pbft_model.specs.Words.{Reply}
use Rattle.replica_stores.proofs.Sealing.{reply_is_sealable}
use Rattle.replica_stores.specs.Sealable.{IsSealable}
use Rattle.replica_core.specs.Doing.{Fulfilled, Says, SendsOwed, act_done}
use Rattle.replica_core.specs.Replicas.{KeptReplica}
use Rattle.replica_core.proofs.Said.{given, says_reply, says_snapshot}

-- ---- a snapshot

pub short_copy : (o : Option (List ℕ)) (bytes state : List ℕ) (many : ℕ) → Some bytes ≡ o → state ≡ bytes → IfSome o (λ b. length b ≤ many) → length state ≤ many
short_copy o bytes state many is same short =
    subst (λ (b : List ℕ). length b ≤ many) (sym same) (subst (λ (x : Option (List ℕ)). IfSome x (λ b. length b ≤ many)) (sym is) short)

pub says_kept : (k t : KeptReplica) (to : Destination) (number : SeqNo) (bytes state : List ℕ) → Some bytes ≡ at k.core.snapshots (number_key number.0) → state ≡ bytes
    → t ≡ given k to (bodies.Snapshot (record { number = number; state = state })) → (kept : List ℕ) → at k.core.snapshots (number_key number.0) ≡ Some kept
    → Says k to (bodies.Snapshot (record { number = number; state = kept })) t
says_kept k t to number bytes state is same sent kept there =
    subst (λ (s : List ℕ). Says k to (bodies.Snapshot (record { number = number; state = s })) t) (same ∙ same_Some bytes kept (is ∙ there))
    (says_snapshot k t t to (record { number = number; state = state }) sent)

-- ---- replies

pub reply_fits : (c : Configuration) (view : ℕ) (r : Reply) (body : Body) → body ≡ reply_body view r → r.number.0 < number_limit → length r.result ≤ 265 → IsSealable c body
reply_fits c view r body is number short =
    subst (IsSealable c) (sym is) (reply_is_sealable c (record { view = record { 0 = view }; client = r.client; time = r.time; number = r.number; result = r.result }) number short)

bounded_number : (s : Service) (r : Reply) (client : ℕ) → IsSound s → IsBoundedReply s.number client r → r.number.0 < number_limit
bounded_number s r client sound is = let low = sound.bounded.number_in_range in omega (arith, low, is.not_later)

pub last_number : (s : Service) (client : ℕ) (r : Reply) → IsSound s → Some r ≡ last_reply_of s client → r.number.0 < number_limit
last_number s client r sound is =
    bounded_number s r client sound (subst (λ (o : Option Reply). IfSome o (IsBoundedReply s.number client)) (sym is) (last_bounded s sound.bounded client))

pub says_again : (k k' t : KeptReplica) (client : ℕ) (r : Reply) (body : Body) → Some r ≡ last_reply_of k.core.service client → body ≡ reply_body k.core.view r → k' ≡ given k (ToClient client) body
    → t ≡ record k' { core = record k'.core { reply_due = None } } → (last : Reply) → last_reply_of k.core.service client ≡ Some last → Says k (ToClient client) (reply_body k.core.view last) t
says_again k k' t client r body kept is sent noted last there =
    subst (λ (x : Reply). Says k (ToClient client) (reply_body k.core.view x) t) (same_Some r last (kept ∙ there))
    (says_reply k k' t (ToClient client) (record { view = record { 0 = k.core.view }; client = r.client; time = r.time; number = r.number; result = r.result })
    (sent ∙ ap (given k (ToClient client)) is) noted)

-- what is known of a reply that is owed
abbrev IsRoomy : Reply → Type 0
IsRoomy r = (length r.result ≤ 265) × (r.number.0 < number_limit)

owed_is : (o : Option Reply) (r : Reply) → o ≡ Some r → IfSome o IsRoomy → IsRoomy r
owed_is o r is h = subst (λ (x : Option Reply). IfSome x IsRoomy) is h

pub owed_short : (o : Option Reply) (r : Reply) → o ≡ Some r → IfSome o (λ r. (length r.result ≤ 265) × (r.number.0 < number_limit)) → length r.result ≤ 265
owed_short o r is h = (owed_is o r is h).0

pub owed_number : (o : Option Reply) (r : Reply) → o ≡ Some r → IfSome o (λ r. (length r.result ≤ 265) × (r.number.0 < number_limit)) → r.number.0 < number_limit
owed_number o r is h = (owed_is o r is h).1

pub replies : (k k' t : KeptReplica) (r : Reply) (body : Body) → k.core.reply_due ≡ Some r → body ≡ reply_body k.core.view r → k.core.signer.next_leaf + 1 ≤ leaf_count k.core.signer → k' ≡ given k (ToClient r.client.0) body
    → t ≡ record k' { core = record k'.core { reply_due = None } } → Fulfilled k (due_reply k.me k.core k.core.reply_due) t
replies k k' t r body is said enough sent noted =
    let done : Fulfilled k (due_reply k.me k.core (Some r)) t = (
      Send (ToClient r.client.0) (own_message k.core k.me (reply_body k.core.view r)),
      refl,
      enough,
      says_reply k k' t (ToClient r.client.0) (record { view = record { 0 = k.core.view }; client = r.client; time = r.time; number = r.number; result = r.result })
          (sent ∙ ap (given k (ToClient r.client.0)) said) noted,
    ) in
    subst (λ (o : Option Reply). Fulfilled k (due_reply k.me k.core o) t) (sym is) done

-- the reply that is owed is sent and noted
pub sends_owed : (k t u : KeptReplica) (o : Option Reply) → IsSome o → Fulfilled k (due_reply k.me k.core o) t → u ≡ record t { core = acted t.core } → SendsOwed k o u
sends_owed k t u None some done noted = absurd (false≢true some)
sends_owed k t u (Some reply) some (a, does, leaves, is) noted =
    let whole : u ≡ act_done k a = λ i. record {
      config = (ap (λ (x : KeptReplica). x.config) noted ∙ is.config) i;
      me = (ap (λ (x : KeptReplica). x.me) noted ∙ is.me) i;
      core = (ap (λ (x : KeptReplica). x.core) noted ∙ is.core) i;
      outputs = (ap (λ (x : KeptReplica). x.outputs) noted ∙ is.outputs) i;
      done = (ap (λ (x : KeptReplica). x.done) noted ∙ is.done) i;
      leaves = (ap (λ (x : KeptReplica). x.leaves) noted ∙ is.leaves) i;
    } in
    (subst (λ (x : Act). HasLeaves k.core x) does leaves, whole ∙ ap (act_done k) does)
