-- An own message is signed, given, recorded and noted: that is the act of sending it.
use Rattle.std.proofs.Common.{◌≡◌, ℕ, ◌+◌, true, List, [], ◌∷◌, ◌++◌, None, false, refl, sym, ap, subst, ◌∙◌, arith}
use Rattle.pbft_codec.specs.declared.body.Body.{Body}
use Rattle.pbft_codec.specs.declared.body.Body.TheVariants as bodies
use Rattle.pbft_codec.specs.declared.body.fetch.Fetch.TheVariants as fetches
use Rattle.pbft_codec.specs.declared.signed.Role.TheVariants as roles
use Rattle.lms_tree.specs.Keys.{after_signing}
use Rattle.seal.specs.Opening.{CheckedMessage, sealed_message}
use Rattle.pbft_model.specs.Words.{Checkpoint, Commit, PrePrepare, Prepare, ReplyBody, Signed, SigningState, Snapshot}
use Rattle.pbft_model.specs.Setup.{signature_by, setup_of}
use Rattle.pbft_model.specs.Certificates.{of_pre_prepare}
use Rattle.pbft_model.specs.Core.{Core}
use Rattle.pbft_model.specs.Acts.{Destination, Send, acted, leaves_of, recorded, said, signed_once_more}
use Rattle.pbft_model.specs.Rules.{leaves_before, own_message}
use Rattle.replica_core.specs.Doing.{Does, Says}
use Rattle.replica_core.specs.Replicas.{KeptReplica}

abbrev message_by : KeptReplica → Body → Signed Body
message_by k body = sealed_message k.core.signer roles.Replica k.me body

own_at : (signer : SigningState) (me : ℕ) (body : Body) → signature_by signer me body ≡ (sealed_message signer roles.Replica me body).sig
unfolding signature_by
own_at signer me body = refl

pub own_is : (k : KeptReplica) (body : Body) → leaves_before body ≡ 0 → own_message k.core k.me body ≡ message_by k body
own_is k body none =
    let same : k.core.signer.next_leaf + leaves_before body ≡ k.core.signer.next_leaf = omega (arith, none) in
    ap (λ (sig : List ℕ). let m : Signed Body = record { role = roles.Replica; id = k.me; body = body; sig = sig } in m)
    (ap (λ (n : ℕ). signature_by (record k.core.signer { next_leaf = n }) k.me body) same ∙ own_at k.core.signer k.me body)

-- what is given
abbrev pub given : KeptReplica → Destination → Body → KeptReplica
given k to body = record k {
  core = record k.core { signer = after_signing k.core.signer };
  outputs = k.outputs ++ record { to = to; message = message_by k body; own = true } ∷ [];
  leaves = k.leaves + 1;
}

does_send : (k t : KeptReplica) (to : Destination) (m : Signed Body) → t.config ≡ k.config → t.me ≡ k.me → acted t.core ≡ acted (signed_once_more (said (setup_of k.config) k.core m m.body) m.body)
    → t.outputs ≡ k.outputs ++ record { to = to; message = m; own = true } ∷ [] → t.done ≡ k.done → t.leaves ≡ k.leaves + leaves_of m.body → Does k (Send to m) t
does_send k t to m config me core outputs done leaves = record { config = config; me = me; core = core; outputs = outputs; done = done ∙ sym (nothing k.done); leaves = leaves } where
  nothing : {X : Type 0} (xs : List X) → xs ++ [] ≡ xs
  nothing [] = refl
  nothing (x ∷ xs) = ap (λ ys. x ∷ ys) (nothing xs)

says : (k t : KeptReplica) (to : Destination) (body : Body) (core : Core) → leaves_before body ≡ 0 → leaves_of body ≡ 1 → t ≡ record (given k to body) { core = core }
    → acted core ≡ acted (signed_once_more (said (setup_of k.config) k.core (message_by k body) body) body) → Says k to body t
says k t to body core none one is same =
    subst (λ (m : Signed Body). Does k (Send to m) t) (sym (own_is k body none))
    (does_send k t to (message_by k body) (ap (λ (x : KeptReplica). x.config) is) (ap (λ (x : KeptReplica). x.me) is) (ap (λ (x : KeptReplica). acted x.core) is ∙ same) (ap (λ (x : KeptReplica). x.outputs) is)
    (ap (λ (x : KeptReplica). x.done) is) (ap (λ (x : KeptReplica). x.leaves) is ∙ ap (λ (n : ℕ). k.leaves + n) (sym one)))

abbrev taken_in : KeptReplica → Signed Body → KeptReplica
taken_in k m = record k { core = recorded (setup_of k.config) k.core m m.body }

module _ (k k' k'' t : KeptReplica) (to : Destination) (x : CheckedMessage) where
  chain : (body : Body) (next : KeptReplica → KeptReplica) → k' ≡ given k to body → x ≡ record { config = k.config; message = message_by k body } → k'' ≡ taken_in k' x.message → t ≡ next k''
      → t ≡ next (taken_in (given k to body) (message_by k body))
  chain body next sent m recorded noted = noted ∙ ap next (recorded ∙ ap (λ (y : KeptReplica). taken_in y x.message) sent ∙ ap (λ (y : CheckedMessage). taken_in (given k to body) y.message) m)

  pub says_pre_prepare : (b : PrePrepare) → k' ≡ given k to (bodies.PrePrepare b) → x ≡ record { config = k.config; message = message_by k (bodies.PrePrepare b) } → k'' ≡ taken_in k' x.message
      → t ≡ record k'' { core = record k''.core { proposed = of_pre_prepare b ∷ k''.core.proposed } } → Says k to (bodies.PrePrepare b) t
  says_pre_prepare b sent m recorded noted =
      says k t to (bodies.PrePrepare b) _ refl refl (chain (bodies.PrePrepare b) (λ y. record y { core = record y.core { proposed = of_pre_prepare b ∷ y.core.proposed } }) sent m recorded noted) refl

  pub says_prepare : (b : Prepare) → k' ≡ given k to (bodies.Prepare b) → x ≡ record { config = k.config; message = message_by k (bodies.Prepare b) } → k'' ≡ taken_in k' x.message
      → t ≡ record k'' { core = record k''.core { prepared_numbers = b.number.0 ∷ k''.core.prepared_numbers } } → Says k to (bodies.Prepare b) t
  says_prepare b sent m recorded noted =
      says k t to (bodies.Prepare b) _ refl refl (chain (bodies.Prepare b) (λ y. record y { core = record y.core { prepared_numbers = b.number.0 ∷ y.core.prepared_numbers } }) sent m recorded noted) refl

  pub says_commit : (b : Commit) → k' ≡ given k to (bodies.Commit b) → x ≡ record { config = k.config; message = message_by k (bodies.Commit b) } → k'' ≡ taken_in k' x.message
      → t ≡ record k'' { core = record k''.core { committed_numbers = b.number.0 ∷ k''.core.committed_numbers } } → Says k to (bodies.Commit b) t
  says_commit b sent m recorded noted =
      says k t to (bodies.Commit b) _ refl refl (chain (bodies.Commit b) (λ y. record y { core = record y.core { committed_numbers = b.number.0 ∷ y.core.committed_numbers } }) sent m recorded noted) refl

  pub says_checkpoint : (b : Checkpoint) → k' ≡ given k to (bodies.Checkpoint b) → x ≡ record { config = k.config; message = message_by k (bodies.Checkpoint b) } → k'' ≡ taken_in k' x.message
      → t ≡ record k'' { core = record k''.core { checkpoint_due = false } } → Says k to (bodies.Checkpoint b) t
  says_checkpoint b sent m recorded noted =
      says k t to (bodies.Checkpoint b) _ refl refl (chain (bodies.Checkpoint b) (λ y. record y { core = record y.core { checkpoint_due = false } }) sent m recorded noted) refl

module _ (k k' t : KeptReplica) (to : Destination) where
  pub says_reply : (b : ReplyBody) → k' ≡ given k to (bodies.Reply b) → t ≡ record k' { core = record k'.core { reply_due = None } } → Says k to (bodies.Reply b) t
  says_reply b sent noted = says k t to (bodies.Reply b) _ refl refl (noted ∙ ap (λ (y : KeptReplica). record y { core = record y.core { reply_due = None } }) sent) refl

  pub says_snapshot : (b : Snapshot) → t ≡ given k to (bodies.Snapshot b) → Says k to (bodies.Snapshot b) t
  says_snapshot b sent = says k t to (bodies.Snapshot b) _ refl refl sent refl

  pub says_fetch_state : (b : _) → k' ≡ given k to (bodies.Fetch (fetches.State b)) → t ≡ record k' { core = record k'.core { asked_states = b.0 ∷ k'.core.asked_states } } → Says k to (bodies.Fetch (fetches.State b)) t
  says_fetch_state b sent noted = says k t to (bodies.Fetch (fetches.State b)) _ refl refl (noted ∙ ap (λ (y : KeptReplica). record y { core = record y.core { asked_states = b.0 ∷ y.core.asked_states } }) sent) refl

  pub says_fetch_request : (b : _) → k' ≡ given k to (bodies.Fetch (fetches.Request b)) → t ≡ record k' { core = record k'.core { asked_requests = b.0 ∷ k'.core.asked_requests } } → Says k to (bodies.Fetch (fetches.Request b)) t
  says_fetch_request b sent noted = says k t to (bodies.Fetch (fetches.Request b)) _ refl refl (noted ∙ ap (λ (y : KeptReplica). record y { core = record y.core { asked_requests = b.0 ∷ y.core.asked_requests } }) sent) refl
