-- What the message just taken gives.
use Rattle.std.proofs.Common.{◌≡◌, ℕ, ◌<◌, ◌≤◌, Bool, true, false, ◌&&◌, cond, inl, inr, Option, Some, None, refl, sym, ap, subst, ◌∙◌, arith}
use Rattle.std.specs.Prelude.{◌==◌, IsSome, IsTrue, is_some, nat_lt}
use Rattle.std.specs.Ordering.{is_le, nat_cmp}
use Rattle.std.specs.declared.cmp.Ordering.TheVariants.{Less, Equal, Greater}
use Rattle.std.specs.Result.{is_ok}
use Rattle.std.proofs.lemmas.Bool.{cases_lt, eq-eqb, false≢true, le-ltb, lt-ltb}
use Rattle.std.proofs.lemmas.Option.{slice_get_within}
use Rattle.sha2.specs.Sha256.{sha256}
use Rattle.host_types.specs.Configuration.{Configuration, IsConfiguration, replicas_for}
use Rattle.host_types.specs.declared.Digest.{Digest}
use Rattle.host_types.specs.declared.key.PublicKey.{PublicKey}
use Rattle.pbft_codec.specs.declared.body.Body.{Body}
use Rattle.pbft_codec.specs.declared.body.Body.TheVariants as bodies
use Rattle.pbft_model.specs.Words.{Client, Fetch, NewView, Replica, Role, Signed, Snapshot}
use Rattle.pbft_model.specs.Acts.{Enter, Install, is_awaited, with_body}
use Rattle.pbft_model.specs.Certificates.{is_stable}
use Rattle.pbft_model.specs.Core.{Core}
use Rattle.pbft_model.specs.Duties.{Do, due_enter, due_install, enter_by, install_from, install_read, on_taken, when}
use Rattle.pbft_model.specs.Sequential.{Service}
use Rattle.pbft_model.specs.Setup.{Setup, setup_of}
use Rattle.pbft_model.specs.Validity.{are_for_view, first_fault, have_certificates, have_order, have_proofs, is_valid_new_view, new_view_fault}
use Rattle.seal.specs.Opening.{CheckedMessage, IsChecked}
use Rattle.seal.specs.Signers.{key_of as listed_key, may_sign}
use Rattle.checkpoints.specs.Kept.{IsStableExactly}
use Rattle.replica_stores.specs.Faults.{answer}
use Rattle.replica_core.specs.Replicas.{AreOne, KeptReplica, Parts, core_in, kept_in}

-- ---- a Fetch

by_replica : (c : Configuration) (role : Role) (id : ℕ) (b : Fetch) (key : PublicKey) → IsConfiguration c → listed_key c role id ≡ Some key → IsTrue (may_sign c role id (bodies.Fetch b)) → id < replicas_for c.f
by_replica c Replica id b key k e may = omega (arith, slice_get_within c.keys id key e, k.a_key_each)
by_replica c Client id b key k e may = absurd cc

-- it comes from a replica, whose id fits a byte
pub asker_small : (c : Configuration) (m : CheckedMessage) (b : Fetch) → IsConfiguration c → m.config ≡ c → IsChecked m → m.message.body ≡ bodies.Fetch b → m.message.id < 10
asker_small c m b k under h is =
    let a = h.authentic.0 in
    let below = by_replica c m.message.role m.message.id b a.key k (ap (λ d. listed_key d m.message.role m.message.id) (sym under) ∙ a.listed)
    (subst (λ (d : Configuration). IsTrue (may_sign d m.message.role m.message.id (bodies.Fetch b))) under (subst (λ (x : Body). IsTrue (may_sign m.config m.message.role m.message.id x)) is a.role)) in
    omega (arith, below, k.max_faulty)

-- ---- a NewView

faultless : (a b d e : Bool) → is_ok (answer (first_fault a b d e)) ≡ true → (a && (b && (d && e))) ≡ true
faultless true true true true h = refl
faultless true true true false h = absurd (false≢true h)
faultless true true false e h = absurd (false≢true h)
faultless true false d e h = absurd (false≢true h)
faultless false b d e h = absurd (false≢true h)

pub enter_here : (c : Setup) (s : Core) (m : Signed Body) (n : NewView) → s.taken ≡ Some m → m.body ≡ bodies.NewView n → is_awaited s n.view.0 ≡ true → is_ok (answer (new_view_fault c n)) ≡ true → IsSome (due_enter c s)
enter_here c s m n taken is awaited valid =
    ap is_some
    (ap (on_taken (enter_by c s)) taken ∙ ap (enter_by c s m) is ∙ ap (λ (b : Bool). when (b && is_valid_new_view c n) (Do (Enter (with_body m n)))) awaited
    ∙ ap (λ (b : Bool). when b (Do (Enter (with_body m n)))) (faultless (are_for_view n) (have_proofs c n) (have_certificates c n) (have_order c n) valid))

faulty : (a b d e : Bool) → is_ok (answer (first_fault a b d e)) ≡ false → (a && (b && (d && e))) ≡ false
faulty true true true true h = absurd (false≢true (sym h))
faulty true true true false h = refl
faulty true true false e h = refl
faulty true false d e h = refl
faulty false b d e h = refl

-- one that is not awaited is not entered
pub enter_elsewhere : (c : Setup) (s : Core) (m : Signed Body) (n : NewView) → s.taken ≡ Some m → m.body ≡ bodies.NewView n → is_awaited s n.view.0 ≡ false → due_enter c s ≡ None
enter_elsewhere c s m n taken is other =
    ap (on_taken (enter_by c s)) taken ∙ ap (enter_by c s m) is ∙ ap (λ (b : Bool). when (b && is_valid_new_view c n) (Do (Enter (with_body m n)))) other

-- nor is one that is not valid
pub enter_faulty : (c : Setup) (s : Core) (m : Signed Body) (n : NewView) → s.taken ≡ Some m → m.body ≡ bodies.NewView n → is_awaited s n.view.0 ≡ true → is_ok (answer (new_view_fault c n)) ≡ false → due_enter c s ≡ None
enter_faulty c s m n taken is awaited invalid =
    ap (on_taken (enter_by c s)) taken ∙ ap (enter_by c s m) is ∙ ap (λ (b : Bool). when (b && is_valid_new_view c n) (Do (Enter (with_body m n)))) awaited
    ∙ ap (λ (b : Bool). when b (Do (Enter (with_body m n)))) (faulty (are_for_view n) (have_proofs c n) (have_certificates c n) (have_order c n) invalid)

-- ---- a Snapshot

unstable : (c : Setup) (s : Core) (m : Signed Body) (b : Snapshot) → s.taken ≡ Some m → m.body ≡ bodies.Snapshot b → is_stable c.config s.checkpoints b.number.0 (c.hash b.state) ≡ false → due_install c s ≡ None
unstable c s m b taken is other = ap (on_taken (install_from c s)) taken ∙ ap (install_from c s m) is ∙ cases s.reading where
  never : (x : Bool) (state : Service) → when (x && is_stable c.config s.checkpoints b.number.0 (c.hash b.state)) (Do (Install b.number.0 b.state state)) ≡ None
  never true state = ap (λ (t : Bool). when t (Do (Install b.number.0 b.state state))) other
  never false state = refl

  cases : (o : Option Service) → install_read c s b o ≡ None
  cases None = refl
  cases (Some state) = never (nat_lt s.executed b.number.0) state

not_true : (b : Bool) → (b ≡ true → ⊥) → b ≡ false
not_true true h = absurd (h refl)
not_true false h = refl

up_to : (a b : ℕ) → a ≤ b → is_le (nat_cmp a b) ≡ true
up_to a b le = elim (cases_lt a b) [
  | inl lt ↦ ap (λ (t : Bool). is_le (cond t Less (cond (a == b) Equal Greater))) (lt-ltb a b lt)
  | inr ge ↦ ap (λ (t : Bool). is_le (cond t Less (cond (a == b) Equal Greater))) (le-ltb a b ge) ∙ ap (λ (t : Bool). is_le (cond t Equal Greater)) (eq-eqb a b (omega (arith, le, ge)))
]

-- what a comparison that failed says
pub is_over : (a b : ℕ) → false ≡ is_le (nat_cmp a b) → b < a
is_over a b e = elim (cases_lt b a) [ inl lt ↦ lt | inr le ↦ absurd (false≢true (e ∙ up_to a b le)) ]

none_some : (d : Digest) → None ≡ Some d → ⊥
none_some d e = absurd cc

-- no digest is stable at a number above what was executed
pub none_stable : (c : Configuration) (me : ℕ) (p : Parts) → AreOne c me p → (k : KeptReplica) (m : Signed Body) (b : Snapshot) (o : Option Digest) → kept_in c me p ≡ k → k.core.taken ≡ Some m → m.body ≡ bodies.Snapshot b
    → k.core.executed < b.number.0 → IsStableExactly p.table b.number.0 o → o ≡ None → due_install (setup_of k.config) k.core ≡ None
none_stable c me p one k m b o e taken is above exact none =
    ap (λ (x : KeptReplica). due_install (setup_of x.config) x.core) (sym e)
    ∙ unstable (setup_of c) (core_in p) m b (ap (λ (x : KeptReplica). x.core.taken) e ∙ taken) is
    (not_true _ (λ t. let said : Digest = record { 0 = sha256 b.state } in none_some said (sym none ∙ (exact said over).0 (ap (λ (x : Configuration). is_stable x p.table.checkpoints b.number.0 (sha256 b.state)) one.table ∙ t)))) where
      over : p.table.low < b.number.0
      over = let same : p.service.number ≡ k.core.executed = ap (λ (x : KeptReplica). x.core.executed) e in omega (arith, above, same, one.low, one.reached)
