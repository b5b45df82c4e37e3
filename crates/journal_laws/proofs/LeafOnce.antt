-- A leaf signs one message: what an act signs names the leaves that it takes, one each.
use Rattle.std.proofs.Common.{◌≡◌, ℕ, suc, ◌+◌, ◌≤◌, ◌<◌, Bool, true, if◌then◌else◌, List, [], ◌∷◌, ◌++◌, map, length, refl, sym, ap, subst, ◌∙◌, arith, inl, inr}
use Rattle.std.specs.List.{flat_map}
use Rattle.std.proofs.lemmas.Grind.{flat_map-append}
use Rattle.pbft_codec.specs.declared.body.Body.TheVariants as bodies
use Rattle.seal.proofs.KeyLemmas.{number-signature_by}
use Rattle.seal.specs.Keys.{number_by}
use Rattle.pbft_model.specs.Words.{SigningState, Signed, Body, PrePrepare, NewView, Replica, leaf_count, as_message, signed_text}
use Rattle.pbft_model.specs.Validity.{given}
use Rattle.pbft_model.specs.Setup.{Setup, signature_by, signed_by, signer_after}
use Rattle.pbft_model.specs.Certificates.{Fields}
use Rattle.pbft_model.specs.Core.{Core, start_of}
use Rattle.pbft_model.specs.Acts.{Act, Send, after, leaves_of}
use Rattle.pbft_model.specs.Rules.{Allowed, MaySay, MaySend, chosen_changes, leaves_before, signed_list, pre_prepare_of}
use Rattle.pbft_model.specs.Rows.{Row, Output, Follows, IsNext, IsLawfulFrom, outputs_of, all_outputs, leaves_for, all_leaves, leaves_in}
use Rattle.pbft_model.specs.Histories.{IsIn, IsHistory, core_after, listed_in}
use Rattle.pbft_model.proofs.Entries.{from_append}
use Rattle.pbft_model.proofs.Found.{in_append_left, in_append_right, in_flat}
use Rattle.pbft_model.proofs.Leaves.{signer_by, signer_begins, signer_rows}
use Rattle.pbft_model.proofs.Rowed.{due_allowed, begun}
use Rattle.pbft_agreement.proofs.Reporting.{pushed, row_core, row_follows, row_history}
use Rattle.journal_laws.specs.Replay.{WasSigned, fresh_in, leaf_of}

-- The messages name leaves from low on and below high, and no two of them the same.
pub record Spread (signer : SigningState) (low high : ℕ) (ms : List (Signed Body)) : Type 0 where
  pub above : (m : Signed Body) → IsIn m ms → low ≤ leaf_of signer m
  pub below : (m : Signed Body) → IsIn m ms → leaf_of signer m < high
  pub apart : (m n : Signed Body) → IsIn m ms → IsIn n ms → leaf_of signer m ≡ leaf_of signer n → m ≡ n

below_above : {P : Type 0} (a b x y : ℕ) → x < b → b ≤ y → x ≡ y → P
below_above a b x y h k e = absurd (omega arith)

module _ (signer : SigningState) where
  none_spread : (low : ℕ) → Spread signer low low []
  none_spread low = record { above = λ m h. absurd h; below = λ m h. absurd h; apart = λ m n h k e. absurd h }

  joined : (low middle high : ℕ) (xs ys : List (Signed Body)) → low ≤ middle → middle ≤ high → Spread signer low middle xs → Spread signer middle high ys → Spread signer low high (xs ++ ys)
  joined low middle high xs ys first second x y = record {
    above = λ m h. elim (from_append m xs ys h) [
      | inl here ↦ x.above m here
      | inr there ↦ let k = y.above m there in omega arith
    ];
    below = λ m h. elim (from_append m xs ys h) [
      | inl here ↦ let k = x.below m here in omega arith
      | inr there ↦ y.below m there
    ];
    apart = λ m n h k e. elim (from_append m xs ys h) [
      | inl here ↦ elim (from_append n xs ys k) [
        | inl here' ↦ x.apart m n here here' e
        | inr there' ↦ below_above low middle (leaf_of signer m) (leaf_of signer n) (x.below m here) (y.above n there') e
      ]
      | inr there ↦ elim (from_append n xs ys k) [
        | inl here' ↦ below_above low middle (leaf_of signer n) (leaf_of signer m) (x.below n here') (y.above m there) (sym e)
        | inr there' ↦ y.apart m n there there' e
      ]
    ];
  }

  -- the same messages, in whatever order
  reordered : (low high : ℕ) (xs ys : List (Signed Body)) → ((m : Signed Body) → IsIn m ys → IsIn m xs) → Spread signer low high xs → Spread signer low high ys
  reordered low high xs ys into x = record {
    above = λ m h. x.above m (into m h);
    below = λ m h. x.below m (into m h);
    apart = λ m n h k e. x.apart m n (into m h) (into n k) e;
  }

  up_to : (low high high' : ℕ) (xs : List (Signed Body)) → high ≡ high' → Spread signer low high xs → Spread signer low high' xs
  up_to low high high' xs same x = subst (λ (n : ℕ). Spread signer low n xs) same x

  -- ---- one message

  one_spread : (n : ℕ) (m : Signed Body) → leaf_of signer m ≡ n → Spread signer n (n + 1) (m ∷ [])
  one_spread n m is = record {
    above = λ x h. let e = same_leaf x h in omega arith;
    below = λ x h. let e = same_leaf x h in omega arith;
    apart = λ x y h k e. only x h ∙ sym (only y k);
  } where
    only : (x : Signed Body) → IsIn x (m ∷ []) → x ≡ m
    only x (inl same) = same
    only x (inr none) = absurd none

    same_leaf : (x : Signed Body) → IsIn x (m ∷ []) → leaf_of signer x ≡ n
    same_leaf x h = ap (leaf_of signer) (only x h) ∙ is

  leaf_signs : (me n : ℕ) (body : Body) → n < leaf_count signer → number_by signer.height signer.bottom (signature_by (record signer { next_leaf = n }) me body) ≡ n
  unfolding signature_by
  leaf_signs me n body small = number-signature_by signer.height signer.bottom signer.id signer.secret n (signed_text (record { role = Replica; id = me; body = body; sig = [] })) small

  length-signed : (x : SigningState) (me : ℕ) (fields : List Fields) → length (signed_list x me fields) ≡ length fields
  length-signed x me [] = refl
  length-signed x me (f ∷ fields) = ap suc (length-signed (signer_after x 1) me fields)

  -- PrePrepares that are signed one after another
  list_spread : (me n : ℕ) (fields : List Fields) → n + length fields ≤ leaf_count signer
      → Spread signer n (n + length fields) (map (as_message bodies.PrePrepare) (signed_list (record signer { next_leaf = n }) me fields))
  list_spread me n [] few = up_to n n (n + 0) [] (omega arith) (none_spread n)
  list_spread me n (f ∷ fields) few =
      let first : Signed Body = as_message bodies.PrePrepare (signed_by bodies.PrePrepare (record signer { next_leaf = n }) me (pre_prepare_of f)) in
      let rest : List (Signed Body) = map (as_message bodies.PrePrepare) (signed_list (record signer { next_leaf = n + 1 }) me fields) in
      joined n (n + 1) (n + suc (length fields)) (first ∷ []) rest (omega arith) (omega arith)
      (one_spread n first (leaf_signs me n (bodies.PrePrepare (pre_prepare_of f)) (omega arith)))
      (up_to (n + 1) ((n + 1) + length fields) (n + suc (length fields)) rest (omega arith) (list_spread me (n + 1) fields (omega arith)))

  -- an own message, whose body is this one, with what is signed inside it before
  own_spread : (me n count : ℕ) (body : Body) (m : Signed Body) (inside : List (Signed Body)) → n + (1 + count) ≤ leaf_count signer
      → m.sig ≡ signature_by (record signer { next_leaf = n + count }) me body → Spread signer n (n + count) inside → Spread signer n (n + (1 + count)) (m ∷ inside)
  own_spread me n count body m inside few is x =
      reordered n (n + (1 + count)) (inside ++ m ∷ []) (m ∷ inside) turned
      (joined n (n + count) (n + (1 + count)) inside (m ∷ []) (omega arith) (omega arith) x
      (up_to (n + count) ((n + count) + 1) (n + (1 + count)) (m ∷ []) (omega arith)
      (one_spread (n + count) m (ap (number_by signer.height signer.bottom) is ∙ leaf_signs me (n + count) body (omega arith))))) where
        turned : (y : Signed Body) → IsIn y (m ∷ inside) → IsIn y (inside ++ m ∷ [])
        turned y (inl same) = in_append_right y inside (m ∷ []) (inl same)
        turned y (inr within) = in_append_left y inside (m ∷ []) within

-- ---- what acts sign

-- what an output has signed afresh
abbrev pub fresh_out : Output → List (Signed Body)
fresh_out o = if o.own then fresh_in o.message else []

-- The core's signer is this one, at leaf n.
abbrev IsAt : SigningState → ℕ → Core → Type 0
IsAt signer n s = s.signer ≡ record signer { next_leaf = n }

module _ (c : Setup) (me : ℕ) (signer : SigningState) where
  -- what is inside an own message, with the leaves before its own
  inside_spread : (n : ℕ) (s : Core) (body : Body) → IsAt signer n s → MaySay c me s body → n + leaves_of body ≤ leaf_count signer
      → Spread signer n (n + leaves_before body) (map (as_message bodies.PrePrepare) (listed_in body))
  inside_spread n s (bodies.NewView b) at may few =
      let fields : List Fields = given c s.view (chosen_changes c me s) in
      let is : b.pre_prepares ≡ signed_list (record signer { next_leaf = n }) me fields
      = ap (λ (v : NewView). v.pre_prepares) may.is ∙ ap (λ (x : SigningState). signed_list x me fields) at in
      let many : length b.pre_prepares ≡ length fields = ap length is ∙ length-signed signer (record signer { next_leaf = n }) me fields in
      up_to signer n (n + length fields) (n + length b.pre_prepares) (map (as_message bodies.PrePrepare) b.pre_prepares) (omega arith)
      (subst (λ (ps : List (Signed PrePrepare)). Spread signer n (n + length fields) (map (as_message bodies.PrePrepare) ps)) (sym is)
      (list_spread signer me n fields (omega arith)))
  inside_spread n s _ at may few = up_to signer n n (n + 0) [] (omega arith) (none_spread signer n)

  same_leaves : (body : Body) → leaves_of body ≡ 1 + leaves_before body
  same_leaves (bodies.NewView b) = refl
  same_leaves _ = refl

  sent_spread : (n : ℕ) (s : Core) (m : Signed Body) → IsAt signer n s → MaySend c me s m → n + leaves_of m.body ≤ leaf_count signer → Spread signer n (n + leaves_of m.body) (fresh_in m)
  sent_spread n s m at may few =
      let leaves = same_leaves m.body in
      let sig : m.sig ≡ signature_by (record signer { next_leaf = n + leaves_before m.body }) me m.body
      = ap (λ (x : Signed Body). x.sig) may.signed ∙ ap (λ (x : SigningState). signature_by (signer_after x (leaves_before m.body)) me m.body) at in
      up_to signer n (n + (1 + leaves_before m.body)) (n + leaves_of m.body) (fresh_in m) (omega arith)
      (own_spread signer me n (leaves_before m.body) m.body m (map (as_message bodies.PrePrepare) (listed_in m.body)) (omega arith) sig
      (inside_spread n s m.body at may.says few))

  act_spread : (n : ℕ) (s : Core) (a : Act) → IsAt signer n s → Allowed c me s a → n + leaves_for a ≤ leaf_count signer → Spread signer n (n + leaves_for a) (flat_map fresh_out (outputs_of a))
  act_spread n s (Send to m) at may few =
      reordered signer n (n + leaves_of m.body) (fresh_in m) (fresh_in m ++ []) (λ x h. elim (from_append x (fresh_in m) [] h) [ inl here ↦ here | inr none ↦ absurd none ])
      (sent_spread n s m at may few)
  act_spread n s _ at may few = up_to signer n n (n + 0) [] (omega arith) (none_spread signer n)

  acts_spread : (acts early : List Act) (n : ℕ) (t : Core) → IsHistory c me signer early → IsAt signer n (core_after c signer early) → Follows c me (core_after c signer early) acts t
      → Spread signer n (n + all_leaves acts) (flat_map fresh_out (all_outputs acts))
  acts_spread [] early n t is at same = up_to signer n n (n + 0) [] (omega arith) (none_spread signer n)
  acts_spread (a ∷ acts) early n t is at (does, leaves, rest) =
      let s : Core = core_after c signer early in
      let ok : Allowed c me s a = due_allowed c me signer early is a does in
      let few : n + leaves_for a ≤ leaf_count signer = subst (λ (x : SigningState). x.next_leaf + leaves_for a ≤ leaf_count x) at leaves in
      let next : IsAt signer (n + leaves_for a) (after c s a) = signer_by c s a ∙ ap (λ (x : SigningState). signer_after x (leaves_for a)) at in
      let later = acts_spread acts (a ∷ early) (n + leaves_for a) t (is, ok) next rest in
      let all : ℕ = n + (leaves_for a + all_leaves acts) in
      subst (λ (ms : List (Signed Body)). Spread signer n all ms) (sym (flat_map-append fresh_out (outputs_of a) (all_outputs acts)))
      (joined signer n (n + leaves_for a) all (flat_map fresh_out (outputs_of a)) (flat_map fresh_out (all_outputs acts)) (omega arith) (omega arith)
      (act_spread n s a at ok few)
      (up_to signer (n + leaves_for a) ((n + leaves_for a) + all_leaves acts) all (flat_map fresh_out (all_outputs acts)) (omega arith) later))

  -- ---- what rows sign

  abbrev fresh_row : Row → List (Signed Body)
  fresh_row row = flat_map fresh_out row.outputs

  row_spread : (early : List Act) (s u : Core) (row : Row) (next : IsNext c me s row u) (n : ℕ) → core_after c signer early ≡ s → IsHistory c me signer early → IsAt signer n s
      → Spread signer n (n + row.leaves) (fresh_row row)
  row_spread early s u row next n same is at =
      let begins : IsAt signer n (core_after c signer (next.first ∷ early))
      = signer_begins c (core_after c signer early) row.input next.first next.begins ∙ (ap (λ (x : Core). x.signer) same ∙ at) in
      let w = acts_spread next.acts (next.first ∷ early) n u (is, begun c me signer (core_after c signer early) row.input next.first next.begins) begins (row_follows c me signer early s u row next same) in
      subst (λ (os : List Output). Spread signer n (n + row.leaves) (flat_map fresh_out os)) (sym next.outputs)
      (up_to signer n (n + all_leaves next.acts) (n + row.leaves) (flat_map fresh_out (all_outputs next.acts)) (ap (λ (k : ℕ). n + k) (sym next.leaves)) w)

  row_at : (s u : Core) (row : Row) (n : ℕ) → IsNext c me s row u → IsAt signer n s → IsAt signer (n + row.leaves) u
  row_at s u row n next at =
      signer_rows c me s u (row ∷ []) (u, next, refl) ∙ (ap (λ (x : SigningState). signer_after x (row.leaves + 0)) at ∙ ap (λ (k : ℕ). record signer { next_leaf = k }) (omega arith))

  rows_spread : (rows : List Row) (early : List Act) (s t : Core) (n : ℕ) → IsLawfulFrom c me s rows t → core_after c signer early ≡ s → IsHistory c me signer early → IsAt signer n s
      → Spread signer n (n + leaves_in rows) (flat_map fresh_row rows)
  rows_spread [] early s t n w same is at = up_to signer n n (n + 0) [] (omega arith) (none_spread signer n)
  rows_spread (row ∷ rows) early s t n (u, next, w) same is at =
      let middle : List Act = pushed (next.first ∷ next.acts) early in
      let all : ℕ = n + (row.leaves + leaves_in rows) in
      let later = rows_spread rows middle u t (n + row.leaves) w (row_core c me signer early s u row next same) (row_history c me signer early s u row next same is) (row_at s u row n next at) in
      joined signer n (n + row.leaves) all (fresh_row row) (flat_map fresh_row rows) (omega arith) (omega arith)
      (row_spread early s u row next n same is at)
      (up_to signer (n + row.leaves) ((n + row.leaves) + leaves_in rows) all (flat_map fresh_row rows) (omega arith) later)

  pub journal_spread : (rows : List Row) (t : Core) → IsLawfulFrom c me (start_of c signer) rows t → Spread signer signer.next_leaf (signer.next_leaf + leaves_in rows) (flat_map fresh_row rows)
  journal_spread rows t w = rows_spread rows [] (start_of c signer) t signer.next_leaf w refl tt refl

  in_fresh_out : (m : Signed Body) (o : Output) → o.own ≡ true → IsIn m (fresh_in o.message) → IsIn m (fresh_out o)
  in_fresh_out m o own h = subst (λ (b : Bool). IsIn m (if b then fresh_in o.message else [])) (sym own) h

  pub in_rows : (m : Signed Body) (rows : List Row) → WasSigned m rows → IsIn m (flat_map fresh_row rows)
  in_rows m rows w = in_flat fresh_row rows w.row m w.within (in_flat fresh_out w.row.outputs w.output m w.given (in_fresh_out m w.output w.own w.part))
