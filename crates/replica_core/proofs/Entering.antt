-- What a replica keeps as it enters a view is what the protocol's core keeps.
use Rattle.std.proofs.Common.{rules, ◌≡◌, ℕ, zero, suc, ◌+◌, ◌-◌, ◌<◌, ◌≤◌, arith, Bool, true, ◌&&◌, cond, List, [], ◌∷◌, length, Some, refl, sym, ap, subst, ◌∙◌}
use Rattle.std.specs.Prelude.{map, not, nat_lt, ◌==◌, bytes_eq, IfSome, MatchOption}
use Rattle.std.specs.Ordering.{is_gt, nat_cmp}
use Rattle.std.specs.List.{AllByRecursion, list_all}
use Rattle.std.proofs.lemmas.Bool.{and_parts, eqb-true, false≢true, le-ltb, lt-ltb}
use Rattle.host_types.specs.Configuration.{Configuration}
use Rattle.pbft_codec.specs.declared.body.Body.{Body}
use Rattle.pbft_codec.specs.declared.body.Body.TheVariants as bodies
use Rattle.pbft_codec.specs.Limits.{EachBody, IsSequenceNumber, NewViewWellFormed, ViewChangeWellFormed}
use Rattle.pbft_model.specs.Words.{Signed, NewView, PrePrepare, ViewChange}
use Rattle.pbft_model.specs.Setup.{Setup, number_limit, numbers_from, primary, setup_of}
use Rattle.pbft_model.specs.Tables.{Table, keep, vote_key, add_if}
use Rattle.pbft_model.specs.Certificates.{Fields, is_by, of_pre_prepare, same_fields}
use Rattle.pbft_model.specs.Validity.{are_for_view, are_given, bodies_in, floor_of, given, given_digest, has_order, have_certificates, have_order, have_proofs, is_valid_new_view, top_of}
use Rattle.pbft_model.specs.Core.{Core, is_admitted}
use Rattle.pbft_model.specs.Acts.{add_pre_prepares, entered, is_of_entered, left_for, left_if_above, opened_by, with_list}
use Rattle.pbft_model.proofs.Stages.{by_is}
use Rattle.replica_stores.specs.Log as logs
use Rattle.replica_stores.specs.Log.{AreProposals, KeptLog, Log, is_within, log_of, opened, pre_prepares_in, with_all}
use Rattle.seal.specs.Opening.{CheckedMessage}
use Rattle.seal.specs.Parts.{as_message}
use Rattle.replica_core.specs.Replicas.{AreOne, KeptReplica, Parts, basis_in, changes_in, core_in, kept_in}
use Rattle.replica_stores.specs.Stores.{KeptSent, only_states_asked}
use Rattle.replica_core.proofs.Admitting.{admitted_is}

abbrev Pre : Type 0
Pre = Signed PrePrepare

abbrev messages_of : List Pre → List (Signed Body)
messages_of ms = map (as_message bodies.PrePrepare) ms

-- ---- the PrePrepares of a valid NewView

-- of this view, for one number after another, so many
record AreListed (view first many : ℕ) (ms : List Pre) : Type 0 where
  proposals : AreProposals view first (messages_of ms)
  views : AllByRecursion (λ m. m.body.view.0 ≡ view) ms
  long : length ms ≡ many

listed : (leader view first many : ℕ) (digest : ℕ → List ℕ) (ms : List Pre) → are_given leader (map (λ number. record { view = view; number = number; digest = digest number }) (numbers_from first many)) ms ≡ true → AreListed view first many ms
listed leader view first zero digest [] e = record { proposals = tt; views = tt; long = refl }
listed leader view first zero digest (m ∷ ms) e = absurd (false≢true e)
listed leader view first (suc many) digest [] e = absurd (false≢true e)
listed leader view first (suc many) digest (m ∷ ms) e =
    let x : Fields = record { view = view; number = first; digest = digest first } in
    let parts = and_parts (is_by leader (λ b. same_fields (of_pre_prepare b) x) m) (are_given leader (map (λ number. record { view = view; number = number; digest = digest number }) (numbers_from (first + 1) many)) ms) e in
    let same = (by_is leader (λ b. same_fields (of_pre_prepare b) x) m parts.0).2 in
    let fields = and_parts (m.body.view.0 == view) (m.body.number.0 == first && bytes_eq m.body.digest.0 (digest first)) same in
    let rest = and_parts (m.body.number.0 == first) (bytes_eq m.body.digest.0 (digest first)) fields.1 in
    let view_is = eqb-true m.body.view.0 view fields.0 in
    let number_is = eqb-true m.body.number.0 first rest.0 in
    let others = listed leader view (first + 1) many digest ms parts.1 in
    let long = others.long in
    record {
      proposals = (record { body = m.body; is = refl; view_is = view_is; number_is = number_is }, others.proposals);
      views = (view_is, others.views);
      long = ap suc long;
    }

valid_list : (c : Setup) (n : NewView) → is_valid_new_view c n ≡ true → AreListed n.view.0 (floor_of n.changes + 1) (top_of n.changes - floor_of n.changes) n.pre_prepares
valid_list c n valid =
    let a = and_parts (are_for_view n) (have_proofs c n && (have_certificates c n && have_order c n)) valid in
    let b = and_parts (have_proofs c n) (have_certificates c n && have_order c n) a.1 in
    let d = and_parts (have_certificates c n) (have_order c n) b.1 in
    let e = and_parts (list_all (has_order c) (bodies_in n.changes)) (are_given (primary c.config n.view.0) (given c n.view.0 n.changes) n.pre_prepares) d.1 in
    listed (primary c.config n.view.0) n.view.0 (floor_of n.changes + 1) (top_of n.changes - floor_of n.changes) (given_digest c n.changes) n.pre_prepares e.1

pub are_proposals : (c : Setup) (n : NewView) (floor : ℕ) (ms : List (Signed Body)) → is_valid_new_view c n ≡ true → floor ≡ floor_of n.changes → ms ≡ messages_of n.pre_prepares → AreProposals n.view.0 (floor + 1) ms
are_proposals c n floor ms valid e is =
    let l = valid_list c n valid in
    subst (λ (x : ℕ). AreProposals n.view.0 (x + 1) ms) (sym e) (subst (AreProposals n.view.0 (floor_of n.changes + 1)) (sym is) l.proposals)

-- ---- their numbers

pub floor_small : (ms : List (Signed ViewChange)) → EachBody ViewChangeWellFormed ms → floor_of ms < number_limit
floor_small [] all = omega arith
floor_small (m ∷ ms) all =
    let low = all.0.low in
    let rest = floor_small ms all.1 in
    omega arith

room : (leader view first many : ℕ) (digest : ℕ → List ℕ) (ms : List Pre) → are_given leader (map (λ number. record { view = view; number = number; digest = digest number }) (numbers_from first many)) ms ≡ true
    → EachBody (λ p. IsSequenceNumber p.number) ms → first ≤ number_limit → first + many ≤ number_limit
room leader view first zero digest ms e small within = omega (arith, within)
room leader view first (suc many) digest [] e small within = absurd (false≢true e)
room leader view first (suc many) digest (m ∷ ms) e small within =
    let x : Fields = record { view = view; number = first; digest = digest first } in
    let parts = and_parts (is_by leader (λ b. same_fields (of_pre_prepare b) x) m) (are_given leader (map (λ number. record { view = view; number = number; digest = digest number }) (numbers_from (first + 1) many)) ms) e in
    let same = (by_is leader (λ b. same_fields (of_pre_prepare b) x) m parts.0).2 in
    let fields = and_parts (m.body.view.0 == view) (m.body.number.0 == first && bytes_eq m.body.digest.0 (digest first)) same in
    let rest = and_parts (m.body.number.0 == first) (bytes_eq m.body.digest.0 (digest first)) fields.1 in
    let number_is = eqb-true m.body.number.0 first rest.0 in
    let small_here = small.0 in
    let next : first + 1 ≤ number_limit = omega arith in
    let others = room leader view (first + 1) many digest ms parts.1 small.1 next in
    omega arith

long_mapped : (ms : List Pre) → length (messages_of ms) ≡ length ms
long_mapped [] = refl
long_mapped (m ∷ ms) = ap suc (long_mapped ms)

pub are_small : (c : Setup) (n : NewView) (floor : ℕ) (ms : List (Signed Body)) → is_valid_new_view c n ≡ true → NewViewWellFormed n → floor ≡ floor_of n.changes → ms ≡ messages_of n.pre_prepares → floor + length ms < number_limit
are_small c n floor ms valid formed e is =
    let a = and_parts (are_for_view n) (have_proofs c n && (have_certificates c n && have_order c n)) valid in
    let b = and_parts (have_proofs c n) (have_certificates c n && have_order c n) a.1 in
    let d = and_parts (have_certificates c n) (have_order c n) b.1 in
    let g = and_parts (list_all (has_order c) (bodies_in n.changes)) (are_given (primary c.config n.view.0) (given c n.view.0 n.changes) n.pre_prepares) d.1 in
    let l = valid_list c n valid in
    let long = l.long in
    let low = floor_small n.changes formed.changes in
    let many = ap (λ (xs : List (Signed Body)). length xs) is ∙ long_mapped n.pre_prepares in
    let fits = room (primary c.config n.view.0) n.view.0 (floor_of n.changes + 1) (top_of n.changes - floor_of n.changes) (given_digest c n.changes) n.pre_prepares g.1 formed.numbers (omega (arith, low)) in
    omega (arith, long, many, fits, e)

-- ---- what is recorded of them

again : (ms : List Pre) → pre_prepares_in (messages_of ms) ≡ ms
again [] = refl
again (m ∷ ms) = ap (λ (xs : List Pre). m ∷ xs) (again ms)

top_is : (c : Setup) (n : NewView) (floor : ℕ) (ms : List (Signed Body)) → is_valid_new_view c n ≡ true → floor ≡ floor_of n.changes → ms ≡ messages_of n.pre_prepares → floor + length ms ≡ top_of n.changes
top_is c n floor ms valid e is =
    let l = valid_list c n valid in
    let long = l.long in
    let many = ap (λ (xs : List (Signed Body)). length xs) is ∙ long_mapped n.pre_prepares in
    omega (arith, long, many, e)

not_less : (a b : ℕ) → a ≡ b → not (nat_lt a b) ≡ true
not_less a b e = ap not (le-ltb a b (omega (arith, e)))

added_all : (c : Configuration) (s : Core) (l : Log) (ms : List Pre) (table : Table Pre) → ((view number : ℕ) → is_within c l view number ≡ is_within c (log_of s) view number)
    → AllByRecursion (λ m. m.body.view.0 ≡ s.view) ms → with_all c l ms table ≡ add_pre_prepares (setup_of c) s ms table
added_all c s l [] table alike views = refl
added_all c s l (m ∷ ms) table alike views =
    let view = m.body.view.0 in
    let number = m.body.number.0 in
    let same : is_within c l view number ≡ is_admitted (setup_of c) s view number
    = alike view number ∙ ap (λ (b : Bool). b && is_within c (log_of s) view number) (sym (not_less view s.view views.0)) ∙ sym (admitted_is (setup_of c) s view number) in
    ap (λ (b : Bool). with_all c l ms (add_if b (vote_key number view m.id) m table)) same
    ∙ added_all c s l ms (add_if (is_admitted (setup_of c) s view number) (vote_key number view m.id) m table) alike views.1

-- ---- the view that is left

pub gt_is : (a b : ℕ) → is_gt (nat_cmp a b) ≡ true → b < a
gt_is a b e = search rules

abbrev LeftIfAbove : KeptReplica → ℕ → Bool → KeptReplica
LeftIfAbove k view b = record k { core = cond b (left_for (setup_of k.config) k.core view) k.core }

pub left_above : (k t u : KeptReplica) (view : ℕ) → k.core.view < view → u ≡ t → t ≡ record k { core = left_for (setup_of k.config) k.core view } → u ≡ record k { core = left_if_above (setup_of k.config) k.core view }
left_above k t u view above e is = e ∙ is ∙ ap (LeftIfAbove k view) (sym (lt-ltb k.core.view view above))

pub left_not : (k u : KeptReplica) (view : ℕ) → view ≤ k.core.view → u ≡ k → u ≡ record k { core = left_if_above (setup_of k.config) k.core view }
left_not k u view below e = e ∙ ap (LeftIfAbove k view) (sym (le-ltb k.core.view view below))

pub same_new_view : (a b : NewView) → bodies.NewView a ≡ bodies.NewView b → a ≡ b
same_new_view a b e = cc

-- ---- a replica enters

module _ (c : Configuration) (me : ℕ) (p : Parts) (one : AreOne c me p) (n : NewView) (m : CheckedMessage) (floor : ℕ) (ms : List (Signed Body)) (log : KeptLog) (sent : KeptSent)
    (body_is : m.message.body ≡ bodies.NewView n) (floor_is : floor ≡ floor_of n.changes) (are : ms ≡ messages_of n.pre_prepares)
    (log_is : log ≡ record p.log { log = logs.entered p.log.config n.view.0 floor (floor + length ms) (pre_prepares_in ms) p.log.log }) (sent_is : sent ≡ only_states_asked p.sent) where
  abbrev Parts' : Parts
  Parts' = record p { log = log; basis = Some m; sent = sent }

  basis_is : changes_in m.message.body ≡ n.changes
  basis_is = ap changes_in body_is

  pub entered_one : floor < number_limit → AreOne c me Parts'
  entered_one small = record {
    legal = one.legal;
    replica = one.replica;
    listed = one.listed;
    log = ap (λ (x : KeptLog). x.config) log_is ∙ one.log;
    table = one.table;
    service = one.service;
    requests = one.requests;
    changes = one.changes;
    kept = one.kept;
    low = one.low ∙ sym (ap (λ (x : KeptLog). x.log.low) log_is);
    floor = subst (λ (x : KeptLog). MatchOption x.log.floor (basis_in (Some m) ≡ []) (λ f. f ≡ floor_of (basis_in (Some m)))) (sym log_is) (floor_is ∙ ap floor_of (sym basis_is));
    taken = one.taken;
    reached = subst (λ (x : KeptLog). x.log.low ≤ p.service.number) (sym log_is) one.reached;
    executed = one.executed;
    opened_at = subst (λ (x : KeptLog). IfSome x.log.floor (λ f. f < number_limit)) (sym log_is) small;
    proposed = subst (λ (x : KeptSent). AllByRecursion (λ y. y.number < number_limit) x.proposed) (sym sent_is) tt;
    owed = one.owed;
    few = one.few;
  }

  abbrev Form : ℕ → List (Signed ViewChange) → Table Pre → KeptReplica
  Form low basis table = record (kept_in c me p) {
    core = record (core_in p) {
      view = n.view.0;
      active = true;
      basis = basis;
      pre_prepares = table;
      prepares = keep (is_of_entered n.view.0 low) p.log.log.prepares;
      commits = keep (is_of_entered n.view.0 low) p.log.log.commits;
      proposed = [];
      prepared_numbers = [];
      committed_numbers = [];
      asked_requests = [];
    };
  }

  abbrev EnteredBy : KeptReplica → KeptReplica
  EnteredBy t = record t { core = with_list (setup_of t.config) (opened_by t.core n) n }

  enters_here : is_valid_new_view (setup_of c) n ≡ true → kept_in c me Parts' ≡ EnteredBy (kept_in c me p)
  enters_here valid =
      let l = valid_list (setup_of c) n valid in
      let top = top_is (setup_of c) n floor ms valid floor_is are in
      let given_is : pre_prepares_in ms ≡ n.pre_prepares = ap pre_prepares_in are ∙ again n.pre_prepares in
      (λ i. kept_in c me (record p { log = log_is i; basis = Some m; sent = sent_is i }))
      ∙ (λ i. Form (floor_is i) (basis_is i) (with_all (one.log i) (opened n.view.0 (floor_is i) (top i) p.log.log) (given_is i) (keep (is_of_entered n.view.0 (top i)) p.log.log.pre_prepares)))
      ∙ ap (Form (floor_of n.changes) n.changes) (added_all c (opened_by (core_in p) n) (opened n.view.0 (floor_of n.changes) (top_of n.changes) p.log.log) n.pre_prepares (keep (is_of_entered n.view.0 (top_of n.changes)) p.log.log.pre_prepares) (λ view number. refl) l.views)

  pub enters : (k t : KeptReplica) (b : NewView) → is_valid_new_view (setup_of k.config) n ≡ true → kept_in c me p ≡ t → t ≡ record k { core = left_if_above (setup_of k.config) k.core n.view.0 } → m.message.body ≡ bodies.NewView b
      → kept_in c me Parts' ≡ record k { core = entered (setup_of k.config) k.core b }
  enters k t b valid e left is =
      enters_here (subst (λ (x : Configuration). is_valid_new_view (setup_of x) n ≡ true) (sym (ap (λ (x : KeptReplica). x.config) (e ∙ left))) valid) ∙ ap EnteredBy (e ∙ left) ∙ ap (λ (x : NewView). record k { core = entered (setup_of k.config) k.core x }) (same_new_view n b (sym body_is ∙ is))
