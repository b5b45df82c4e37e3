-- What is kept of messages stays of messages that were heard.
use Rattle.std.proofs.Common.{◌≡◌, ℕ, Bool, true, List, [], ◌∷◌, ◌++◌, Option, Some, None, Bor, sym, ap, subst, ◌∙◌, inl, inr}
use Rattle.std.specs.BTreeMap as tree
use Rattle.std.specs.Global.{Vec}
use Rattle.std.specs.Iterator.{Yields}
use Rattle.std.specs.List.{All, Contains, IsAmong, flat_map}
use Rattle.std.specs.Map.{set_value, values_of}
use Rattle.std.specs.Map.Iter.{TakesFirst, deref_pair}
use Rattle.std.specs.declared.cmp.Ordering.{Ordering}
use Rattle.std.proofs.lemmas.List.Elements.{All-cons, All-contains, All-contains_itself, All-drop, All-head, All-nil, All-push, All-same, All-tail, All-take, All-weaker, Contains-append_left, Contains-append_right}
use Rattle.std.proofs.lemmas.Map.Iter.{rest_more}
use Rattle.std.proofs.lemmas.Map.Views.{All-turn, All-values-insert_entry, All-values-set_value}
use Rattle.seal.specs.Opening.{CheckedMessage}
use Rattle.conflicts.specs.Claims.{claim_in, claim_of}
use Rattle.conflicts.specs.Leaves.{leaf_claim_of}
use Rattle.conflicts.specs.Views.{IsKept, view_claim_of}
use Rattle.conflicts.specs.declared.views.Leaving.{Leaving}
use Rattle.conflicts.specs.declared.blame.Blame.{Blame}
use Rattle.conflicts.specs.declared.blame.Blame.TheVariants as blames
use Rattle.conflicts.specs.declared.claim.Claim.{Claim}
use Rattle.pbft_codec.specs.declared.body.commit.Commit.{Commit}
use Rattle.pbft_codec.specs.declared.body.view_change.ViewChange.{ViewChange}
use Rattle.pbft_codec.specs.declared.body.Body.TheVariants as bodies
use Rattle.pbft_model.specs.Setup.{setup_of}
use Rattle.world_trace.specs.Blaming.{is_invalid}
use Rattle.world_trace.specs.Heard.{HasHeard, IsClaimed, IsCommitted, IsHeardCommit, IsHeardLeft, IsInvalid, IsLeft, KeepsHeard, RestsOn}
use Rattle.world_trace.specs.declared.evidence.Evidence.{Evidence}
use Rattle.world_trace.specs.declared.leavings.Leavings.{Leavings}
use Rattle.world_trace.specs.declared.leavings.Left.{Left}

-- ---- lists in a map

-- each element of each list is one of these
abbrev pub AllIn : {A : Type 0} → (A → Type 0) → List (Vec A) → Type 0
AllIn P vs = All (λ v. All P v.items) vs

pub among : {X : Type 0} (P : X → Type 0) (vs : List X) (v : X) → IsAmong vs v → All P vs → P v
among P vs v (i, (below, is)) all = subst P (sym is) (all i v below)

pub more_items : {A : Type 0} (P : A → Type 0) (old new : Vec A) (x : A) → new.items ≡ old.items ++ x ∷ [] → All P old.items → P x → All P new.items
more_items P old new x is all holds = All-same P new.items (old.items ++ x ∷ []) is (All-push P old.items x all holds)

pub one_item : {A : Type 0} (P : A → Type 0) (old new : Vec A) (x : A) → old.items ≡ [] → new.items ≡ old.items ++ x ∷ [] → P x → All P new.items
one_item P old new x none is holds = more_items P old new x is (All-same P old.items [] none (All-nil P)) holds

-- a list is written over the one that was found
pub set_in : {K A : Type 0} (P : A → Type 0) (test : K → Bool) (es news : List (K × Vec A)) (w : Vec A) → news ≡ set_value test es w → AllIn P (values_of es) → All P w.items → AllIn P (values_of news)
set_in {K} {A} P test es news w is all holds =
    subst (λ (entries : List (K × Vec A)). AllIn P (values_of entries)) (sym is) (All-values-set_value test (λ (v : Vec A). All P v.items) es w all holds)

pub put_in : {K A : Type 0} (P : A → Type 0) (cmp : K → K → Ordering) (es news : List (K × Vec A)) (k : K) (w : Vec A) → news ≡ tree.insert_entry cmp es k w → AllIn P (values_of es) → All P w.items → AllIn P (values_of news)
put_in {K} {A} P cmp es news k w is all holds =
    subst (λ (entries : List (K × Vec A)). AllIn P (values_of entries)) (sym is) (All-values-insert_entry cmp k w (λ (v : Vec A). All P v.items) es all holds)

pub none_in : {K A : Type 0} (P : A → Type 0) (es : List (K × Vec A)) → es ≡ [] → AllIn P (values_of es)
none_in {K} {A} P es none = subst (λ (entries : List (K × Vec A)). AllIn P (values_of entries)) (sym none) (All-nil (λ (v : Vec A). All P v.items))

entries_in : {K A : Type 0} (P : A → Type 0) (es : List (K × Vec A)) → AllIn P (values_of es) → All (λ e. All P e.1.items) es
entries_in {K} {A} P [] all = All-nil (λ (e : K × Vec A). All P e.1.items)
entries_in {K} {A} P (e ∷ es) all =
    All-cons (λ (e : K × Vec A). All P e.1.items) e es (All-head (λ (v : Vec A). All P v.items) e.1 (values_of es) all)
    (entries_in P es (All-tail (λ (v : Vec A). All P v.items) e.1 (values_of es) all))

-- one more element of the list that was found
pub pushed_in : {K A : Type 0} (P : A → Type 0) (test : K → Bool) (es news : List (K × Vec A)) (found pushed : Vec A) (x : A)
    → news ≡ set_value test es pushed → IsAmong (values_of es) found → pushed.items ≡ found.items ++ x ∷ [] → AllIn P (values_of es) → P x → AllIn P (values_of news)
pushed_in {K} {A} P test es news found pushed x is here more all holds =
    set_in P test es news pushed is all (more_items P found pushed x more (among (λ (v : Vec A). All P v.items) (values_of es) found here all) holds)

-- a list of one element at a new place of a map that was looked into
pub first_in : {K A : Type 0} (P : A → Type 0) (cmp : K → K → Ordering) (old looked : tree.BTreeMap K (Vec A)) (news : List (K × Vec A)) (k : K) (none one : Vec A) (x : A)
    → looked ≡ old → news ≡ tree.insert_entry cmp looked.entries k one → none.items ≡ [] → one.items ≡ none.items ++ x ∷ [] → AllIn P (tree.values old) → P x → AllIn P (values_of news)
first_in {K} {A} P cmp old looked news k none one x same is empty more all holds =
    put_in P cmp looked.entries news k one is (subst (λ (m : tree.BTreeMap K (Vec A)). AllIn P (tree.values m)) (sym same) all) (one_item P none one x empty more holds)

-- ---- a part of a map

run_in : {K A : Type 0} (P : A → Type 0) (m : tree.BTreeMap K (Vec A)) (run : List (K × Vec A)) → tree.IsRun m run → AllIn P (tree.values m) → All (λ e. All P e.1.items) run
run_in {K} {A} P m run (i, n, is) all =
    let Q : K × Vec A → Type 0 = λ e. All P e.1.items in
    All-same Q run _ is (All-take Q n _ (All-drop Q i m.entries (entries_in P m.entries all)))

-- the list at its first place
pub first_of_run : {K A : Type 0} (P : A → Type 0) (m : tree.BTreeMap K (Vec A)) (run rest : List (K × Vec A)) (r : Option (Bor K × Bor (Vec A))) (x : Bor K × Bor (Vec A)) (items : List A)
    → tree.IsRun m run → r ≡ Some x → TakesFirst deref_pair run r rest → items ≡ x.1.now.items → AllIn P (tree.values m) → All P items
first_of_run {K} {A} P m run rest r x items part is takes same all =
    let Q : K × Vec A → Type 0 = λ e. All P e.1.items in
    let front : run ≡ deref_pair x ∷ rest = rest_more deref_pair run rest r x is takes in
    All-same P items x.1.now.items same (All-head Q (deref_pair x) rest (All-same Q (deref_pair x ∷ rest) run (sym front) (run_in P m run part all)))

-- the list at the place that a turn of a loop takes
pub turn_of_run : {K A : Type 0} (P : A → Type 0) (m : tree.BTreeMap K (Vec A)) (run start left rest : List (K × Vec A)) (taken : List (Bor K × Bor (Vec A))) (r : Option (Bor K × Bor (Vec A))) (x : Bor K × Bor (Vec A)) (items : List A)
    → tree.IsRun m run → start ≡ run → Yields (TakesFirst deref_pair) start taken left → r ≡ Some x → TakesFirst deref_pair left r rest → items ≡ x.1.now.items → AllIn P (tree.values m) → All P items
turn_of_run {K} {A} P m run start left rest taken r x items part begins yields is takes same all =
    let Q : K × Vec A → Type 0 = λ e. All P e.1.items in
    All-same P items x.1.now.items same (All-turn deref_pair Q run taken start left rest r x (run_in P m run part all) begins yields is takes)

-- ---- what a message says

pub claims_vote : (ms : List CheckedMessage) (m : CheckedMessage) (claim : Claim) → claim_of m.message ≡ Some claim → Contains ms m → IsClaimed ms claim
claims_vote ms m claim is here = record { message = m; heard = here; claims = inl is }

pub claims_change : (ms : List CheckedMessage) (m : CheckedMessage) (claim : Claim) → view_claim_of m.message ≡ Some claim → Contains ms m → IsClaimed ms claim
claims_change ms m claim is here = record { message = m; heard = here; claims = inr (inl is) }

pub claims_leaf : (ms : List CheckedMessage) (m : CheckedMessage) (claim : Claim) → leaf_claim_of m ≡ Some claim → Contains ms m → IsClaimed ms claim
claims_leaf ms m claim is here = record { message = m; heard = here; claims = inr (inr is) }

signer_in : Option Claim → ℕ
signer_in None = 0
signer_in (Some claim) = claim.signer

pub commits : (ms : List CheckedMessage) (m : CheckedMessage) (claim : Claim) (b : Commit) → claim_of m.message ≡ Some claim → m.message.body ≡ bodies.Commit b → Contains ms m → IsCommitted ms claim.signer b
unfolding signer_in
commits ms m claim b is says here = record {
  message = m;
  heard = here;
  says = says;
  signer_is = ap signer_in (sym (ap (claim_in m.message.id) says) ∙ is);
}

pub leaves : (ms : List CheckedMessage) (m : CheckedMessage) (claim : Claim) (leaving : Leaving) (v : ViewChange) → view_claim_of m.message ≡ Some claim → m.message.body ≡ bodies.ViewChange v → IsKept leaving v → Contains ms m
    → IsHeardLeft ms (record { claim = claim; leaving = leaving })
leaves ms m claim leaving v is says kept here = record { view_change = v; left = record { message = m; heard = here; says = says; claims = is }; kept = kept }

pub isnt_valid : (ms : List CheckedMessage) (m : CheckedMessage) (claim : Claim) → view_claim_of m.message ≡ Some claim → is_invalid (setup_of m.config) m.message.body ≡ true → Contains ms m → IsInvalid ms claim
isnt_valid ms m claim is invalid here = record { message = m; heard = here; claims = is; invalid = invalid }

-- ---- what is carried

front_of : {X : Type 0} (P : X → Type 0) (xs ys : List X) → All P (xs ++ ys) → All P xs
front_of P xs ys all = All-weaker (Contains xs) P (λ x here. All-contains P (xs ++ ys) x all (Contains-append_left xs ys x here)) xs (All-contains_itself xs)

back_of : {X : Type 0} (P : X → Type 0) (xs ys : List X) → All P (xs ++ ys) → All P ys
back_of P xs ys all = All-weaker (Contains ys) P (λ x here. All-contains P (xs ++ ys) x all (Contains-append_right xs ys x here)) ys (All-contains_itself ys)

pub pieces : {X Y : Type 0} (P : Y → Type 0) (f : X → List Y) (xs : List X) → All P (flat_map f xs) → All (λ x. All P (f x)) xs
pieces {X} {Y} P f [] all = All-nil (λ (x : X). All P (f x))
pieces {X} {Y} P f (x ∷ xs) all =
    All-cons (λ (y : X). All P (f y)) x xs (front_of P (f x) (flat_map f xs) all) (pieces P f xs (back_of P (f x) (flat_map f xs) all))

pub all_there : (ms xs : List CheckedMessage) → All (Contains (ms ++ xs)) xs
all_there ms xs = All-weaker (Contains xs) (Contains (ms ++ xs)) (λ x here. Contains-append_right ms xs x here) xs (All-contains_itself xs)

-- ---- more messages

claimed_more : (ms more : List CheckedMessage) (claim : Claim) → IsClaimed ms claim → IsClaimed (ms ++ more) claim
claimed_more ms more claim h = record { message = h.message; heard = Contains-append_left ms more h.message h.heard; claims = h.claims }

committed_more : (ms more : List CheckedMessage) (signer : ℕ) (b : Commit) → IsCommitted ms signer b → IsCommitted (ms ++ more) signer b
committed_more ms more signer b h = record { message = h.message; heard = Contains-append_left ms more h.message h.heard; says = h.says; signer_is = h.signer_is }

left_more : (ms more : List CheckedMessage) (claim : Claim) (v : ViewChange) → IsLeft ms claim v → IsLeft (ms ++ more) claim v
left_more ms more claim v h = record { message = h.message; heard = Contains-append_left ms more h.message h.heard; says = h.says; claims = h.claims }

leaving_more : (ms more : List CheckedMessage) (l : Left) → IsHeardLeft ms l → IsHeardLeft (ms ++ more) l
leaving_more ms more l h = record { view_change = h.view_change; left = left_more ms more l.claim h.view_change h.left; kept = h.kept }

rests_more : (ms more : List CheckedMessage) (blame : Blame) → RestsOn ms blame → RestsOn (ms ++ more) blame
rests_more ms more (blames.Twice one other) h = (claimed_more ms more one h.0, claimed_more ms more other h.1, h.2)
rests_more ms more (blames.Hidden change view number digest) h =
    let b : Commit = record { view = view; number = number; digest = digest } in
    record { view_change = h.view_change; left = left_more ms more change h.view_change h.left; committed = committed_more ms more change.signer b h.committed; hidden = h.hidden }
rests_more ms more (blames.Invalid claim) h =
    record { message = h.message; heard = Contains-append_left ms more h.message h.heard; claims = h.claims; invalid = h.invalid }

lists_weaker : {A : Type 0} (P Q : A → Type 0) → ((x : A) → P x → Q x) → (vs : List (Vec A)) → AllIn P vs → AllIn Q vs
lists_weaker {A} P Q follows vs all = All-weaker (λ (v : Vec A). All P v.items) (λ (v : Vec A). All Q v.items) (λ v here. All-weaker P Q follows v.items here) vs all

keeps_more : (ms more : List CheckedMessage) (l : Leavings) → KeepsHeard ms l → KeepsHeard (ms ++ more) l
keeps_more ms more l h = record {
  commits = lists_weaker (IsHeardCommit ms) (IsHeardCommit (ms ++ more)) (λ c here. committed_more ms more c.signer c.commit here) (tree.values l.commits) h.commits;
  left = lists_weaker (IsHeardLeft ms) (IsHeardLeft (ms ++ more)) (leaving_more ms more) (tree.values l.left) h.left;
}

pub has_more : (ms more : List CheckedMessage) (e : Evidence) → HasHeard ms e → HasHeard (ms ++ more) e
has_more ms more e h = record {
  said = lists_weaker (IsClaimed ms) (IsClaimed (ms ++ more)) (claimed_more ms more) (tree.values e.said) h.said;
  leavings = keeps_more ms more e.leavings h.leavings;
  news = All-weaker (RestsOn ms) (RestsOn (ms ++ more)) (rests_more ms more) e.news.items h.news;
}
