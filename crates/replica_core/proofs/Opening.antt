-- A replica opens its view: it signs what the ViewChanges chosen give, and gives the NewView of both to all.
use Rattle.std.proofs.Common.{◌≡◌, ℕ, zero, suc, ◌+◌, ◌-◌, ◌*◌, ◌<◌, ◌≤◌, arith, Bool, true, false, ◌&&◌, cond, List, [], ◌∷◌, ◌++◌, get_or, length, map, take, refl, sym, ap, subst, ◌∙◌, inl, inr}
use Rattle.std.specs.Prelude.{nat_lt, not, ◌==◌, ◌%◌, IsSome, IsTrue}
use Rattle.std.specs.List.{AllByRecursion, list_all}
use Rattle.std.proofs.lemmas.Bool.{and_parts, eqb-true, false≢true, le-ltb, or_cases}
use Rattle.std.proofs.lemmas.List.{length-map, length-take-le, take_more}
use Rattle.host_types.specs.Configuration.{Configuration, IsConfiguration, replicas_for}
use Rattle.host_types.specs.declared.View.{View}
use Rattle.lms_tree.specs.Keys.{after_signing}
use Rattle.pbft_codec.specs.declared.body.Body.{Body}
use Rattle.pbft_codec.specs.declared.body.Body.TheVariants as bodies
use Rattle.pbft_codec.specs.declared.signed.Role.TheVariants as roles
use Rattle.pbft_codec.specs.Limits.{CertificateWellFormed, EachBody, ViewChangeWellFormed}
use Rattle.pbft_model.specs.Words.{Certificate, NewView, PrePrepare, Signed, SigningState, ViewChange}
use Rattle.pbft_model.specs.Setup.{Setup, count, is_least, number_limit, numbers_from, primary, quorum, replicas, signature_by, signed_by, signer_after, setup_of}
use Rattle.pbft_model.specs.Acts.{All, acted, add_pre_prepare, add_pre_prepares, entered, left_for, opened_by, said, signed_once_more, with_list}
use Rattle.pbft_model.specs.Certificates.{Fields, has_quorum, of_pre_prepare}
use Rattle.pbft_model.specs.Core.{Core}
use Rattle.pbft_model.specs.Duties.{Duty, due_open, leads, say, when}
use Rattle.pbft_model.specs.Rules.{change_of, chosen_changes, is_chosen, new_view_of, other_wants, pre_prepare_of, signed_list, wants_view}
use Rattle.pbft_model.specs.Tables.{Table}
use Rattle.pbft_model.specs.Validity.{are_for_view, are_given, bodies_in, certificates_in, changed_by, floor_of, given, given_digest, greatest_of, has_order, has_proof, have_certificates, have_order, have_proofs, is_valid_new_view, top_of}
use Rattle.pbft_model.proofs.Opening.{new_view_made}
use Rattle.pbft_model.proofs.Sound.{IsSoundCore, sound_at}
use Rattle.seal.specs.Lists.{AreChecked, CheckedMessages, under, with_message}
use Rattle.seal.specs.Opening.{CheckedMessage, IsChecked, sealed_message}
use Rattle.seal.specs.Parts.{as_message}
use Rattle.seal.specs.Signers.{may_sign}
use Rattle.seal.proofs.Authenticity.{all_join}
use Rattle.replica_stores.specs.Openings.{Opening}
use Rattle.replica_stores.specs.Opening.{IsOpeningOf}
use Rattle.replica_stores.specs.Made.{IsNewViewOf}
use Rattle.replica_stores.specs.Sealable.{HasFewMessages, IsSealable}
use Rattle.replica_core.specs.Doing.{Says}
use Rattle.replica_core.specs.Opens.{AreGiven, IsProposal, IsToOpen, after_leaves, chosen_by, given_to, opening_message, opening_of, signed_by_all, with_opening}
use Rattle.replica_core.specs.Replicas.{AreOne, KeptReplica, Parts, core_in, kept_in}
use Rattle.replica_core.specs.Settling.{IsReached}
use Rattle.replica_stores.specs.Stores.{KeptSent}
use Rattle.replica_core.proofs.Ascending.{gathered_ascends, some_id}
use Rattle.replica_core.proofs.Entering.{floor_small, same_new_view}
use Rattle.replica_core.proofs.Fulfilling.{no_more}
use Rattle.replica_stores.proofs.Lists.{all_implied}

-- ---- the PrePrepares are signed

pub leader_may_sign : (k : KeptReplica) (p : PrePrepare) → leads (setup_of k.config) k.me k.core ≡ true → IsProposal k.core.view p → IsTrue (may_sign k.config roles.Replica k.me (bodies.PrePrepare p))
leader_may_sign k p own is = subst (λ (v : ℕ). (v % replicas_for k.config.f == k.me) ≡ true) (sym is.view_is) own

all_at : {X : Type 0} (P : X → Type 0) (xs : List X) (i : ℕ) (d : X) → AllByRecursion P xs → i < length xs → P (get_or xs i d)
all_at P [] i d all lt = absurd (omega (arith, lt))
all_at P (x ∷ xs) zero d all lt = all.0
all_at P (x ∷ xs) (suc i) d all lt = all_at P xs i d all.1 (omega (arith, lt))

abbrev as_body : Signed PrePrepare → Signed Body
as_body m = as_message bodies.PrePrepare m

abbrev sealed_by : SigningState → ℕ → PrePrepare → Signed Body
sealed_by signer me p = sealed_message signer roles.Replica me (bodies.PrePrepare p)

own_sealed : (signer : SigningState) (me : ℕ) (p : PrePrepare) → as_body (signed_by bodies.PrePrepare signer me p) ≡ sealed_by signer me p
unfolding signature_by
own_sealed signer me p = refl

at_leaf : (signer : SigningState) (m n : ℕ) → m ≡ n → record signer { next_leaf = m } ≡ record signer { next_leaf = n }
at_leaf signer m n e = λ i. record signer { next_leaf = e i }

one_more : (signer : SigningState) (me : ℕ) (ps : List PrePrepare) (p : PrePrepare)
    → map as_body (signed_list signer me (map of_pre_prepare (ps ++ p ∷ []))) ≡ map as_body (signed_list signer me (map of_pre_prepare ps)) ++ sealed_by (signer_after signer (length ps)) me p ∷ []
one_more signer me [] p =
    ap (λ (m : Signed Body). m ∷ []) (own_sealed signer me p ∙ ap (λ (s : SigningState). sealed_by s me p) (at_leaf signer signer.next_leaf (signer.next_leaf + 0) (omega arith)))
one_more signer me (q ∷ ps) p =
    let rest = map as_body (signed_list (signer_after signer 1) me (map of_pre_prepare ps)) in
    ap (λ (ms : List (Signed Body)). as_body (signed_by bodies.PrePrepare signer me q) ∷ ms)
    (one_more (signer_after signer 1) me ps p
    ∙ ap (λ (s : SigningState). rest ++ sealed_by s me p ∷ []) (at_leaf signer ((signer.next_leaf + 1) + length ps) (signer.next_leaf + suc (length ps)) (omega arith)))

module _ (k t : KeptReplica) (ps : List PrePrepare) (i : ℕ) (d : PrePrepare) (so_far : t ≡ after_leaves k i) (lt : i < length ps) where
  abbrev next : PrePrepare
  next = get_or ps i d

  pub next_proposal : AllByRecursion (IsProposal k.core.view) ps → IsProposal t.core.view next
  next_proposal all = subst (λ (x : KeptReplica). IsProposal x.core.view next) (sym so_far) (all_at (IsProposal k.core.view) ps i d all lt)

  pub signed_more : (l l' : CheckedMessages) (m : CheckedMessage) → l ≡ signed_by_all k (take i ps) → m ≡ record { config = t.config; message = sealed_by t.core.signer t.me next } → l' ≡ with_message l m.message
      → l' ≡ signed_by_all k (take (i + 1) ps)
  signed_more l l' m before made pushed =
      let signer = k.core.signer in
      let rest = map as_body (signed_list signer k.me (map of_pre_prepare (take i ps))) in
      let long : length (take i ps) ≡ i = length-take-le i ps (omega (arith, lt)) in
      let message : m.message ≡ sealed_by (signer_after signer i) k.me next = ap (λ (x : CheckedMessage). x.message) made ∙ ap (λ (x : KeptReplica). sealed_by x.core.signer x.me next) so_far in
      pushed ∙ (λ j. with_message (before j) (message j))
      ∙ ap (λ (n : ℕ). with_message (signed_by_all k (take i ps)) (sealed_by (signer_after signer n) k.me next)) (sym long)
      ∙ ap (λ (ms : List (Signed Body)). let x : CheckedMessages = record { config = k.config; messages = ms } in x) (sym (one_more signer k.me (take i ps) next))
      ∙ ap (signed_by_all k) (sym (take_more ps i d lt))

pub leads_still : (k t : KeptReplica) (i : ℕ) → t ≡ after_leaves k i → leads (setup_of k.config) k.me k.core ≡ true → leads (setup_of t.config) t.me t.core ≡ true
leads_still k t i so_far own = subst (λ (x : KeptReplica). leads (setup_of x.config) x.me x.core ≡ true) (sym so_far) own

pub after_more : (k t u : KeptReplica) (i : ℕ) → t ≡ after_leaves k i → u ≡ after_leaves t 1 → u ≡ after_leaves k (i + 1)
after_more k t u i so_far e =
    let leaf : (k.core.signer.next_leaf + i) + 1 ≡ k.core.signer.next_leaf + (i + 1) = omega arith in
    let many : (k.leaves + i) + 1 ≡ k.leaves + (i + 1) = omega arith in
    e ∙ ap (λ (x : KeptReplica). after_leaves x 1) so_far ∙ (λ j. record k { core = record k.core { signer = record k.core.signer { next_leaf = leaf j } }; leaves = many j })

-- ---- the ViewChanges chosen

pub chosen_is : (c : Configuration) (me : ℕ) (p : Parts) → AreOne c me p → (k : KeptReplica) → kept_in c me p ≡ k → (view : ℕ) → view ≡ k.core.view → (l : CheckedMessages)
    → ((s : Core) → s.changes ≡ p.changes.changes → s.view ≡ view → l ≡ record { config = p.changes.config; messages = map (as_message bodies.ViewChange) (chosen_changes (setup_of p.changes.config) me s) })
    → l ≡ chosen_by k
chosen_is c me p one k e view own l h =
    h (core_in p) refl (ap (λ (x : KeptReplica). x.core.view) e ∙ sym own)
    ∙ ap (λ (d : Configuration). let x : CheckedMessages = record { config = d; messages = map (as_message bodies.ViewChange) (chosen_changes (setup_of d) me (core_in p)) } in x) one.changes
    ∙ ap chosen_by e

is_when : (b : Bool) (d : Duty) → IsSome (when b d) → b ≡ true
is_when true d h = refl
is_when false d h = absurd (false≢true h)

chosen_wants : (c : Setup) (me : ℕ) (s : Core) (i : ℕ) → wants_view s me ≡ true → is_chosen c me s i ≡ true → wants_view s i ≡ true
chosen_wants c me s i own e = elim (or_cases (i == me) (is_least (2 * c.config.f) (other_wants me s) i) e) [
  | inl same ↦ subst (λ (j : ℕ). wants_view s j ≡ true) (sym (eqb-true i me same)) own
  | inr other ↦ (and_parts (not (i == me)) (wants_view s i) ((and_parts (other_wants me s i) (nat_lt (count (other_wants me s) i) (2 * c.config.f)) other).0)).1
]

pub to_open : (k : KeptReplica) → IsSome (due_open (setup_of k.config) k.me k.core) → IsReached (setup_of k.config) k.me k.core → IsToOpen k
to_open k due reached =
    let c = setup_of k.config in
    let me = k.me in
    let s = k.core in
    let sound : IsSoundCore c s = subst (IsSoundCore c) reached.here (sound_at c me reached.signer reached.acts reached.history) in
    let test : (not s.active && (leads c me s && (wants_view s me && has_quorum c.config (wants_view s)))) ≡ true
    = is_when (not s.active && (leads c me s && (wants_view s me && has_quorum c.config (wants_view s)))) (say me s All (bodies.NewView (new_view_of c me s))) due in
    let a = and_parts (not s.active) (leads c me s && (wants_view s me && has_quorum c.config (wants_view s))) test in
    let b = and_parts (leads c me s) (wants_view s me && has_quorum c.config (wants_view s)) a.1 in
    let d = and_parts (wants_view s me) (has_quorum c.config (wants_view s)) b.1 in
    record {
      leads = b.0;
      valid = new_view_made c me s b.0 d.0 d.1 sound.2;
      ascend = gathered_ascends (is_chosen c me s) (change_of s) (replicas c.config) (λ i m t e. some_id i (λ v. v.view.0 == s.view) (change_of s i) m (chosen_wants c me s i d.0 t) e);
    }

-- what makes the NewView valid
record HasParts (c : Setup) (n : NewView) : Type 0 where
  many : length n.changes ≡ quorum c.config
  order : list_all (has_order c) (bodies_in n.changes) ≡ true

parts_of : (c : Setup) (n : NewView) → is_valid_new_view c n ≡ true → HasParts c n
parts_of c n valid =
    let a = and_parts (are_for_view n) (have_proofs c n && (have_certificates c n && have_order c n)) valid in
    let b = and_parts (have_proofs c n) (have_certificates c n && have_order c n) a.1 in
    let d = and_parts (have_certificates c n) (have_order c n) b.1 in
    let g = and_parts (list_all (has_order c) (bodies_in n.changes)) (are_given (primary c.config n.view.0) (given c n.view.0 n.changes) n.pre_prepares) d.1 in
    let h = and_parts (list_all (has_proof c) (bodies_in n.changes)) (length n.changes == quorum c.config && has_quorum c.config (changed_by n.changes)) b.0 in
    let m = and_parts (length n.changes == quorum c.config) (has_quorum c.config (changed_by n.changes)) h.1 in
    record { many = eqb-true (length n.changes) (quorum c.config) m.0; order = g.0 }

-- ---- what they give

greatest_small : (xs : List Certificate) → AllByRecursion CertificateWellFormed xs → greatest_of (map (λ x. x.pre_prepare.body.number.0) xs) < number_limit
greatest_small [] all = omega arith
greatest_small (x ∷ xs) all =
    let here = all.0.number in
    let rest = greatest_small xs all.1 in
    omega arith

all_certificates : (ms : List (Signed ViewChange)) → EachBody ViewChangeWellFormed ms → AllByRecursion CertificateWellFormed (certificates_in ms)
all_certificates [] all = tt
all_certificates (m ∷ ms) all = all_join CertificateWellFormed m.body.certificates (certificates_in ms) all.0.certificates (all_certificates ms all.1)

formed : (c : Configuration) (ms : List (Signed ViewChange)) → AllByRecursion (λ m. IsChecked (under c m)) (map (as_message bodies.ViewChange) ms) → EachBody ViewChangeWellFormed ms
formed c [] all = tt
formed c (m ∷ ms) all = (all.0.encodes.well_formed.well_formed, formed c ms all.1)

given_small : (view first many : ℕ) (digest : ℕ → List ℕ) → first + many ≤ number_limit
    → AllByRecursion (IsProposal view) (map pre_prepare_of (map (λ number. record { view = view; number = number; digest = digest number }) (numbers_from first many)))
given_small view first zero digest le = tt
given_small view first (suc many) digest le = (record { view_is = refl; number = omega (arith, le) }, given_small view (first + 1) many digest (omega (arith, le)))

module _ (k : KeptReplica) (l : CheckedMessages) (view : ℕ) (o : Opening) (to : IsToOpen k) (is : l ≡ chosen_by k) (own : view ≡ k.core.view) where
  abbrev changes : List (Signed ViewChange)
  changes = chosen_changes (setup_of k.config) k.me k.core

  config_is : l.config ≡ k.config
  config_is = ap (λ (x : CheckedMessages). x.config) is

  messages_are : l.messages ≡ map (as_message bodies.ViewChange) changes
  messages_are = ap (λ (x : CheckedMessages). x.messages) is

  pub given_are : (IsConfiguration k.config) → AreChecked l
      → ((ms : List (Signed ViewChange)) → l.messages ≡ map (as_message bodies.ViewChange) ms → IsOpeningOf (setup_of l.config) view ms o)
      → (IsConfiguration l.config → (ms : List (Signed ViewChange)) → l.messages ≡ map (as_message bodies.ViewChange) ms → list_all (has_order (setup_of l.config)) (bodies_in ms) ≡ true → length o.entries.items ≤ 16)
      → AreGiven k o.entries.items
  given_are legal checked opened few =
      let parts = parts_of (setup_of k.config) (opening_of k) to.valid in
      let well : EachBody ViewChangeWellFormed changes = formed k.config changes (subst (λ (x : CheckedMessages). AllByRecursion (λ m. IsChecked (under x.config m)) x.messages) is checked) in
      let low = floor_small changes well in
      let high = greatest_small (certificates_in changes) (all_certificates changes well) in
      let are : o.entries.items ≡ map pre_prepare_of (given_to k) = (opened changes messages_are).entries ∙ (λ i. map pre_prepare_of (given (setup_of (config_is i)) (own i) changes)) in
      record {
        are = are;
        few = few (subst IsConfiguration (sym config_is) legal) changes messages_are (subst (λ (x : Configuration). list_all (has_order (setup_of x)) (bodies_in changes) ≡ true) (sym config_is) parts.order);
        proposals = subst (λ (ps : List PrePrepare). AllByRecursion (IsProposal k.core.view) ps) (sym are)
            (given_small k.core.view (floor_of changes + 1) (top_of changes - floor_of changes) (given_digest (setup_of k.config) changes) (omega arith));
      }

-- ---- the NewView

long_signed : (signer : SigningState) (me : ℕ) (xs : List Fields) → length (signed_list signer me xs) ≡ length xs
long_signed signer me [] = refl
long_signed signer me (x ∷ xs) = ap suc (long_signed (signer_after signer 1) me xs)

fields_again : (xs : List Fields) → map of_pre_prepare (map pre_prepare_of xs) ≡ xs
fields_again [] = refl
fields_again (x ∷ xs) = ap (λ (ys : List Fields). x ∷ ys) (fields_again xs)

fields_signed : (signer : SigningState) (me : ℕ) (xs : List Fields) → map (λ (p : Signed PrePrepare). of_pre_prepare p.body) (signed_list signer me xs) ≡ xs
fields_signed signer me [] = refl
fields_signed signer me (x ∷ xs) = ap (λ (ys : List Fields). x ∷ ys) (fields_signed (signer_after signer 1) me xs)

own_opening : (signer : SigningState) (me : ℕ) (b : Body) → sealed_message signer roles.Replica me b ≡ signed_by (λ x. x) signer me b
unfolding signature_by
own_opening signer me b = refl

module _ (k : KeptReplica) (ps : List PrePrepare) (given : AreGiven k ps) where
  fields_are : map of_pre_prepare ps ≡ given_to k
  fields_are = ap (map of_pre_prepare) given.are ∙ fields_again (given_to k)

  pub many_are : length (opening_of k).pre_prepares ≡ length ps
  many_are = long_signed k.core.signer k.me (given_to k) ∙ sym (ap length given.are ∙ length-map (given_to k) pre_prepare_of)

  pub is_new_view : (view : View) (l pre_prepares : CheckedMessages) → view.0 ≡ k.core.view → l ≡ chosen_by k → pre_prepares ≡ signed_by_all k ps → IsNewViewOf view l pre_prepares (opening_of k)
  is_new_view view l pre_prepares own chosen signed = record {
    view_is = λ i. record { 0 = sym own i };
    changes_are = ap (λ (x : CheckedMessages). x.messages) chosen;
    proposals = ap (λ (x : CheckedMessages). x.messages) signed ∙ ap (λ (xs : List Fields). map as_body (signed_list k.core.signer k.me xs)) fields_are;
  }

  pub few_messages : IsConfiguration k.config → IsToOpen k → HasFewMessages (opening_of k)
  few_messages legal to =
      let parts = parts_of (setup_of k.config) (opening_of k) to.valid in
      let many = parts.many in
      let faulty = legal.max_faulty in
      let few = given.few in
      let same = many_are in
      record { few_changes = omega (arith, many, faulty); ascend = to.ascend; few_pre_prepares = omega (arith, few, same) }

  module _ (t : KeptReplica) (after_all : t ≡ after_leaves k (length ps)) where
    pub still_view : t.core.view ≡ k.core.view
    still_view = ap (λ (x : KeptReplica). x.core.view) after_all

    pub may_sign_opening : (body : Body) → body ≡ bodies.NewView (opening_of k) → IsToOpen k → IsTrue (may_sign t.config roles.Replica t.me body)
    may_sign_opening body is to =
        subst (λ (x : KeptReplica). IsTrue (may_sign x.config roles.Replica x.me body)) (sym after_all)
        (subst (λ (b : Body). IsTrue (may_sign k.config roles.Replica k.me b)) (sym is) to.leads)

    message_is : (body : Body) → body ≡ bodies.NewView (opening_of k) → sealed_message t.core.signer roles.Replica t.me body ≡ opening_message k
    message_is body is =
        (λ i. sealed_message (after_all i).core.signer roles.Replica (after_all i).me (is i))
        ∙ ap (λ (n : ℕ). sealed_message (signer_after k.core.signer n) roles.Replica k.me (bodies.NewView (opening_of k))) (sym many_are)
        ∙ own_opening (signer_after k.core.signer (length (opening_of k).pre_prepares)) k.me (bodies.NewView (opening_of k))

    pub opening_signed : (body : Body) (m : CheckedMessage) → body ≡ bodies.NewView (opening_of k) → m ≡ record { config = t.config; message = sealed_message t.core.signer roles.Replica t.me body }
        → m ≡ record { config = k.config; message = opening_message k }
    opening_signed body m is signed = signed ∙ (λ i. record { config = (after_all i).config; message = message_is body is i })

    abbrev Gives : Signed Body → KeptReplica → KeptReplica
    Gives m x = record x {
      core = record x.core { signer = after_signing x.core.signer };
      outputs = x.outputs ++ record { to = All; message = m; own = true } ∷ [];
      leaves = x.leaves + 1;
    }

    pub opening_sent : (body : Body) (u : KeptReplica) → body ≡ bodies.NewView (opening_of k) → u ≡ Gives (sealed_message t.core.signer roles.Replica t.me body) t → u ≡ with_opening k (length ps)
    opening_sent body u is sent =
        let leaf : (k.core.signer.next_leaf + length ps) + 1 ≡ k.core.signer.next_leaf + (1 + length ps) = omega arith in
        let many : (k.leaves + length ps) + 1 ≡ k.leaves + (1 + length ps) = omega arith in
        sent ∙ (λ i. Gives (message_is body is i) (after_all i))
        ∙ (λ j. record k {
          core = record k.core { signer = record k.core.signer { next_leaf = leaf j } };
          outputs = k.outputs ++ record { to = All; message = opening_message k; own = true } ∷ [];
          leaves = many j;
        })

    pub opening_is_sealable : (l : CheckedMessages) (body : Body) → l ≡ chosen_by k → IsSealable l.config body → IsSealable t.config body
    opening_is_sealable l body chosen h =
        subst (λ (x : KeptReplica). IsSealable x.config body) (sym after_all) (subst (λ (x : CheckedMessages). IsSealable x.config body) chosen h)

-- ---- the view is entered by it

abbrev Pre : Type 0
Pre = Signed PrePrepare

-- its own view is entered with no view left
entered_here : (c : Setup) (s : Core) (n : NewView) → n.view.0 ≡ s.view → entered c s n ≡ with_list c (opened_by s n) n
entered_here c s n e = ap (λ (b : Bool). with_list c (opened_by (cond b (left_for c s n.view.0) s) n) n) (le-ltb s.view n.view.0 (omega (arith, e)))

-- what is recorded has nothing to do with the signer
signer_apart : (c : Setup) (s : Core) (x : SigningState) (ms : List Pre) (table : Table Pre) → add_pre_prepares c (record s { signer = x }) ms table ≡ add_pre_prepares c s ms table
signer_apart c s x [] table = refl
signer_apart c s x (m ∷ ms) table = signer_apart c s x ms (add_pre_prepare c s m table)

module _ (k : KeptReplica) (ps : List PrePrepare) (given : AreGiven k ps) where
  abbrev n : NewView
  n = opening_of k

  abbrev c : Setup
  c = setup_of k.config

  abbrev many : ℕ
  many = length ps

  -- with this signer, these proposals and these PrePrepares
  abbrev Form : SigningState → List Fields → Table Pre → Core
  Form x xs table = acted (record (opened_by k.core n) { signer = x; proposed = xs; pre_prepares = table })

  abbrev Table' : Table Pre
  Table' = add_pre_prepares c (opened_by k.core n) n.pre_prepares (opened_by k.core n).pre_prepares

  abbrev Noted : KeptReplica → List Fields → KeptReplica
  Noted x xs = record x { core = record x.core { proposed = xs } }

  abbrev Entered : KeptReplica → KeptReplica
  Entered x = record x { core = entered (setup_of x.config) x.core n }

  core_noted : acted (Noted (Entered (with_opening k many)) (map of_pre_prepare ps)).core ≡ Form (signer_after k.core.signer (1 + many)) (map of_pre_prepare ps) Table'
  core_noted =
      ap (λ (s : Core). acted (record s { proposed = map of_pre_prepare ps })) (entered_here c (with_opening k many).core n refl)
      ∙ ap (Form (signer_after k.core.signer (1 + many)) (map of_pre_prepare ps))
      (signer_apart c (opened_by k.core n) (signer_after k.core.signer (1 + many)) n.pre_prepares (opened_by k.core n).pre_prepares)

  core_said : acted (signed_once_more (said c k.core (opening_message k) (bodies.NewView n)) (bodies.NewView n)) ≡ Form (signer_after k.core.signer (1 + length n.pre_prepares)) (map (λ (p : Pre). of_pre_prepare p.body) n.pre_prepares) Table'
  core_said =
      ap (λ (s : Core). acted (signed_once_more (record s { proposed = map (λ (p : Pre). of_pre_prepare p.body) n.pre_prepares }) (bodies.NewView n))) (entered_here c k.core n refl)

  same_fields : map of_pre_prepare ps ≡ map (λ (p : Pre). of_pre_prepare p.body) n.pre_prepares
  same_fields = fields_are k ps given ∙ sym (fields_signed k.core.signer k.me (given_to k))

  pub says_opening : (t u v : KeptReplica) → t ≡ with_opening k many → u ≡ Entered t → v ≡ Noted u (map of_pre_prepare ps) → Says k All (bodies.NewView n) v
  says_opening t u v sent enters noted =
      let whole : v ≡ Noted (Entered (with_opening k many)) (map of_pre_prepare ps) = noted ∙ ap (λ (x : KeptReplica). Noted x (map of_pre_prepare ps)) (enters ∙ ap Entered sent) in
      let long : length ps ≡ length n.pre_prepares = sym (many_are k ps given) in
      record {
        config = ap (λ (x : KeptReplica). x.config) whole;
        me = ap (λ (x : KeptReplica). x.me) whole;
        core = ap (λ (x : KeptReplica). acted x.core) whole ∙ core_noted ∙ (λ i. Form (signer_after k.core.signer (1 + long i)) (same_fields i) Table') ∙ sym core_said;
        outputs = ap (λ (x : KeptReplica). x.outputs) whole;
        done = ap (λ (x : KeptReplica). x.done) whole ∙ no_more k.done;
        leaves = ap (λ (x : KeptReplica). x.leaves) whole ∙ ap (λ (m : ℕ). k.leaves + (1 + m)) long;
      }

-- ---- what the calls ask for

small_fields : (ps : List PrePrepare) → AllByRecursion (λ p. p.number.0 < number_limit) ps → AllByRecursion (λ x. x.number < number_limit) (map of_pre_prepare ps)
small_fields [] all = tt
small_fields (p ∷ ps) all = (all.0, small_fields ps all.1)

-- the parts fit each other when the proposals are noted
pub noted_one : (c : Configuration) (me : ℕ) (p : Parts) → AreOne c me p → (ps : List PrePrepare) (sent : KeptSent) → AllByRecursion (λ x. x.number.0 < number_limit) ps → sent ≡ record p.sent { proposed = map of_pre_prepare ps }
    → AreOne c me (record p { sent = sent })
noted_one c me p one ps sent all is = record {
  legal = one.legal;
  replica = one.replica;
  listed = one.listed;
  log = one.log;
  table = one.table;
  service = one.service;
  requests = one.requests;
  changes = one.changes;
  kept = one.kept;
  low = one.low;
  floor = one.floor;
  taken = one.taken;
  reached = one.reached;
  executed = one.executed;
  opened_at = one.opened_at;
  proposed = subst (λ (x : KeptSent). AllByRecursion (λ y. y.number < number_limit) x.proposed) (sym is) (small_fields ps all);
  owed = one.owed;
  few = one.few;
}

pub numbers_small : (view : ℕ) (ps qs : List PrePrepare) → qs ≡ ps → AllByRecursion (IsProposal view) ps → AllByRecursion (λ p. p.number.0 < number_limit) qs
numbers_small view ps qs e all = subst (λ (xs : List PrePrepare). AllByRecursion (λ p. p.number.0 < number_limit) xs) (sym e) (all_implied (IsProposal view) (λ p. p.number.0 < number_limit) ps (λ p is. is.number) all)

pub opening_valid : (k t : KeptReplica) (leaves : ℕ) (m : CheckedMessage) (n : NewView) → IsToOpen k → t ≡ with_opening k leaves → m ≡ record { config = k.config; message = opening_message k } → m.message.body ≡ bodies.NewView n
    → is_valid_new_view (setup_of t.config) n ≡ true
opening_valid k t leaves m n to sent is body =
    let same : opening_of k ≡ n = same_new_view (opening_of k) n (sym (ap (λ (x : CheckedMessage). x.message.body) is) ∙ body) in
    subst (λ (x : KeptReplica). is_valid_new_view (setup_of x.config) n ≡ true) (sym sent) (subst (λ (x : NewView). is_valid_new_view (setup_of k.config) x ≡ true) same to.valid)
