-- The list of requests behind an honest family in view 0 is what its correct primary proposed.
use Rattle.std.proofs.Common.{◌≡◌, ◌⊎◌, ℕ, zero, suc, ◌+◌, ◌-◌, ◌<◌, ◌≤◌, Bool, true, false, List, [], ◌∷◌, length, take, map, Option, Some, None, refl, sym, ap, subst, ◌∙◌, arith, inl, inr}
use Rattle.std.specs.Prelude.{slice_get, nat_lt}
use Rattle.std.specs.Option.{option_map}
use Rattle.std.proofs.lemmas.Bool.{true≢false, cases_lt, lt-ltb}
use Rattle.std.proofs.lemmas.Option.{same_Some}
use Rattle.service_model.proofs.Bounds.{genesis_bounded}
use Rattle.service_model.proofs.Injective.{last_bounded}
use Rattle.service_model.specs.Bounded.{IsBoundedReply}
use Rattle.std.specs.Prelude.{IfSome}
use Rattle.pbft_model.specs.Words.{Signed, RequestBody, Request, Reply, as_message, signed_text}
use Rattle.pbft_codec.specs.declared.body.Body.TheVariants as bodies
use Rattle.pbft_model.specs.Sequential.{Service, Outcome, Serves, genesis_of, last_reply_of}
use Rattle.pbft_model.specs.Setup.{Setup, primary, replicas, digest_of, null_digest, request_in}
use Rattle.pbft_model.specs.Certificates.{Fields}
use Rattle.pbft_model.specs.Core.{Core, is_later, is_new}
use Rattle.pbft_model.specs.Acts.{Act, Execute}
use Rattle.pbft_model.specs.Histories.{core_after, IsEarlier, IsIn, HasTaken}
use Rattle.pbft_model.specs.Families.{IsCorrect}
use Rattle.pbft_agreement.specs.Agreement.{AgreesOn, HoldsState, entry_digest, requests_in, greatest_reached}
use Rattle.pbft_agreement.specs.Journals.{Journals, IsHonestFamily}
use Rattle.pbft_progress.specs.Progress.{EachEnds}
use Rattle.pbft_model.proofs.Found.{no_some, from_map, in_map}
use Rattle.pbft_model.proofs.Holdings.{taken_opened}
use Rattle.pbft_agreement.proofs.Texts.{same_request_text}
use Rattle.pbft_agreement.proofs.ByNumber.{agrees, executor}
use Rattle.pbft_answers.proofs.Kin.{family, told, honest}
use Rattle.pbft_answers.proofs.Proposing.{Signs, point_signs, one_signed}
use Rattle.pbft_answers.proofs.Replying.{replies_stem, taken_old, later_than}

-- ---- places in a list

pub in_take : {X : Type 0} (n : ℕ) (xs : List X) (x : X) → IsIn x (take n xs) → (k : ℕ) × (k < n) × (slice_get xs k ≡ Some x)
in_take zero [] x h = absurd h
in_take zero (y ∷ xs) x h = absurd h
in_take (suc n) [] x h = absurd h
in_take (suc n) (y ∷ xs) x (inl same) = (zero, omega arith, ap Some (sym same))
in_take (suc n) (y ∷ xs) x (inr later) = let w = in_take n xs x later in let less = w.1 in (suc w.0, omega (arith, less), w.2)

taken_in : {X : Type 0} (n : ℕ) (xs : List X) (k : ℕ) (x : X) → k < n → slice_get xs k ≡ Some x → IsIn x (take n xs)
taken_in zero xs k x less e = absurd (omega (arith, less))
taken_in (suc n) [] k x less e = no_some x e
taken_in (suc n) (y ∷ xs) zero x less e = inl (sym (same_Some y x e))
taken_in (suc n) (y ∷ xs) (suc k) x less e = inr (taken_in n xs k x (omega (arith, less)) e)

pub got_in : {X : Type 0} (xs : List X) (k : ℕ) (x : X) → slice_get xs k ≡ Some x → IsIn x xs
got_in [] k x e = no_some x e
got_in (y ∷ xs) zero x e = inl (sym (same_Some y x e))
got_in (y ∷ xs) (suc k) x e = inr (got_in xs k x e)

later_not : (m : Signed RequestBody) (o : Option Reply) → is_later m o ≡ false → (last : Reply) × (o ≡ Some last) × (m.body.time ≤ last.time)
later_not m None e = absurd (true≢false e)
later_not m (Some last) e = elim (cases_lt last.time m.body.time) [
  | inl less ↦ absurd (true≢false (sym (lt-ltb last.time m.body.time less) ∙ e))
  | inr le ↦ (last, refl, le)
]

module _ (c : Setup) (j : Journals) (h : IsHonestFamily c j) (first : EachEnds c j (λ i s. s.view ≡ 0)) (leader : IsCorrect c j.faulty (primary c.config 0)) where
  abbrev pub entries : List (Option (Signed RequestBody))
  entries = (agrees c (family c j h) (honest c j h)).0

  pub on : AgreesOn c (family c j h) entries
  on = (agrees c (family c j h) (honest c j h)).1

  -- each entry is what the primary proposed at its number
  pub entry_signs : (k : ℕ) (e : Option (Signed RequestBody)) → slice_get entries k ≡ Some e → Signs c j h first leader (record { view = 0; number = suc k; digest = entry_digest c e })
  entry_signs k e found =
      let below : k < length entries = got_below entries k e found in
      let long : length entries ≡ greatest_reached c (family c j h) (replicas c.config) = on.as_long in
      let w = executor c (family c j h) (honest c j h) k (omega (arith, below, long)) in
      let served = on.executed w.replica (suc k) w.digest w.done in
      let here : suc k - 1 ≡ k = omega arith in
      let same : served.entry ≡ e = same_Some served.entry e (sym served.is_entry ∙ ap (slice_get entries) here ∙ found) in
      let signs = point_signs c j h first leader w.replica w.done.correct (suc k) w.digest w.done.service w.done.outcome w.done.early w.done.point in
      subst (λ (d : List ℕ). Signs c j h first leader (record { view = 0; number = suc k; digest = d })) (served.digest_is ∙ ap (entry_digest c) same) signs where
        got_below : (xs : List (Option (Signed RequestBody))) (n : ℕ) (x : Option (Signed RequestBody)) → slice_get xs n ≡ Some x → n < length xs
        got_below [] n x is = no_some x is
        got_below (y ∷ xs) zero x is = omega arith
        got_below (y ∷ xs) (suc n) x is = let less = got_below xs n x is in omega (arith, less)

  -- ---- requests that correct replicas took

  abbrev pub IsTakenBy : Signed RequestBody → Type 0
  IsTakenBy m = (i : ℕ) × IsCorrect c j.faulty i × HasTaken (as_message bodies.Request m) ((family c j h).acts i)

  -- one digest, one request
  pub same_request : (m p : Signed RequestBody) → IsTakenBy m → IsTakenBy p → digest_of c m ≡ digest_of c p → request_in m ≡ request_in p
  same_request m p (i, correct, taken) (k, right, taken') same =
      let texts = (honest c j h).apart (signed_text (as_message bodies.Request m)) (signed_text (as_message bodies.Request p)) (inr (inl (m, (i, correct, taken), refl))) (inr (inl (p, (k, right, taken'), refl))) same in
      same_request_text c.config m p (taken_opened c i (j.signer i) (as_message bodies.Request m) ((family c j h).acts i) (told c j h i correct).is taken)
      (taken_opened c k (j.signer k) (as_message bodies.Request p) ((family c j h).acts k) (told c j h k right).is taken') texts

  not_null : (m : Signed RequestBody) → IsTakenBy m → null_digest c ≡ digest_of c m → ⊥
  not_null m taken same = never ((honest c j h).apart [] (signed_text (as_message bodies.Request m)) (inl refl) (inr (inl (m, taken, refl))) same) where
    never : [] ≡ signed_text (as_message bodies.Request m) → ⊥
    never e = cc

  entry_taken : (k : ℕ) (m : Signed RequestBody) → slice_get entries k ≡ Some (Some m) → IsTakenBy m
  entry_taken k m found = on.taken m (got_in entries k (Some m) found)

  -- ---- what was proposed at a number that was reached is new no more

  module _ (i : ℕ) (correct : IsCorrect c j.faulty i) (acts : List Act) (at : IsEarlier acts ((family c j h).acts i)) where
    held_here : HoldsState c entries (core_after c (j.signer i) acts)
    held_here = on.states i correct acts at

    pub reached_old : (x : Fields) → Signs c j h first leader x → 1 ≤ x.number → x.number ≤ (core_after c (j.signer i) acts).executed → (m : Signed RequestBody) → IsTakenBy m → digest_of c m ≡ x.digest
        → is_new (core_after c (j.signer i) acts).service m ≡ false
    reached_old x signs one le m taken digest = from x.number refl one where
      from : (n : ℕ) → x.number ≡ n → 1 ≤ n → is_new (core_after c (j.signer i) acts).service m ≡ false
      from zero is above = absurd (omega (arith, above))
      from (suc k) is above =
          let within = held_here.within in
          let e = entry_at_index entries k (omega (arith, is, le, within)) in
          let signed = entry_signs k e.0 e.1 in
          let same : digest_of c m ≡ entry_digest c e.0 = digest ∙ ap (λ (y : Fields). y.digest) (one_signed c j h first leader x (record { view = 0; number = suc k; digest = entry_digest c e.0 }) signs signed is) in
          by e.0 e.1 same where
            entry_at_index : (xs : List (Option (Signed RequestBody))) (n : ℕ) → n < length xs → (x : Option (Signed RequestBody)) × (slice_get xs n ≡ Some x)
            entry_at_index [] n less = absurd (omega (arith, less))
            entry_at_index (y ∷ xs) zero less = (y, refl)
            entry_at_index (y ∷ xs) (suc n) less = entry_at_index xs n (omega (arith, less))

            by : (e : Option (Signed RequestBody)) → slice_get entries k ≡ Some e → digest_of c m ≡ entry_digest c e → is_new (core_after c (j.signer i) acts).service m ≡ false
            by None found same = absurd (not_null m taken (sym same))
            by (Some p) found same =
                let one_request = same_request m p taken (entry_taken k p found) same in
                let here = taken_in (core_after c (j.signer i) acts).executed entries k (Some p) (omega (arith, is, le)) found in
                let listed = in_map (option_map request_in) (take (core_after c (j.signer i) acts).executed entries) (Some p) here in
                taken_old (genesis_of c.config) (requests_in (take (core_after c (j.signer i) acts).executed entries)) (core_after c (j.signer i) acts).service held_here.outcomes m held_here.serves
                (subst (λ (r : Request). IsIn (Some r) (requests_in (take (core_after c (j.signer i) acts).executed entries))) (sym one_request) listed)

    -- What was proposed at a higher number is new still, where the primary's proposals of each client rise in time.
    pub above_new : (x : Fields) (m : Signed RequestBody) → (core_after c (j.signer i) acts).executed < x.number
        → ((y : Fields) (p : Signed RequestBody) → Signs c j h first leader y → y.number < x.number → IsTakenBy p → digest_of c p ≡ y.digest → p.id ≡ m.id → p.body.time < m.body.time)
        → is_new (core_after c (j.signer i) acts).service m ≡ true
    above_new x m less rising = split (is_new (core_after c (j.signer i) acts).service m) refl where
      split : (b : Bool) → is_new (core_after c (j.signer i) acts).service m ≡ b → is_new (core_after c (j.signer i) acts).service m ≡ true
      split true e = e
      split false e =
          let n = (core_after c (j.signer i) acts).executed in
          let last = later_not m (last_reply_of (core_after c (j.signer i) acts).service m.id) e in
          elim (replies_stem (genesis_of c.config) (requests_in (take n entries)) (core_after c (j.signer i) acts).service held_here.outcomes m.id last.0 held_here.serves last.1) [
            | inl before ↦
                let bounds : IsBoundedReply 0 m.id last.0 = subst (λ (o : Option Reply). IfSome o (IsBoundedReply 0 m.id)) before (last_bounded (genesis_of c.config) (genesis_bounded c.config h.configuration) m.id) in
                let low = bounds.not_null in
                let high = bounds.not_later in
                absurd (omega (arith, low, high))
            | inr w ↦
                let v = from_map (option_map request_in) (take n entries) (Some w.0) w.1 in
                let at_index = in_take n entries v.0 v.1 in
                absurd (by at_index.0 at_index.1 v.0 at_index.2 w.0 (sym v.2) w.2 last.0 w.3 last.2)
          ] where
            by : (k : ℕ) → k < (core_after c (j.signer i) acts).executed → (e : Option (Signed RequestBody)) → slice_get entries k ≡ Some e → (request : Request) → option_map request_in e ≡ Some request
                → request.client.0 ≡ m.id → (last : Reply) → request.time ≡ last.time → m.body.time ≤ last.time → ⊥
            by k below None found request is client last time le = no_some request is
            by k below (Some p) found request is client last time le =
                let same : request_in p ≡ request = same_Some (request_in p) request is in
                let id : p.id ≡ m.id = ap (λ (r : Request). r.client.0) same ∙ client in
                let at_time : p.body.time ≡ last.time = ap (λ (r : Request). r.time) same ∙ time in
                let earlier = rising (record { view = 0; number = suc k; digest = digest_of c p }) p (entry_signs k (Some p) found) (omega (arith, below, less)) (entry_taken k p found) refl id in
                omega (arith, earlier, at_time, le)

  -- What is new at a later point was new before.
  pub renewed : (i : ℕ) → IsCorrect c j.faulty i → (acts : List Act) (a : Act) → IsEarlier acts ((family c j h).acts i) → IsEarlier (a ∷ acts) ((family c j h).acts i)
      → (core_after c (j.signer i) acts).executed ≤ (core_after c (j.signer i) (a ∷ acts)).executed → (x : Signed RequestBody) → is_new (core_after c (j.signer i) (a ∷ acts)).service x ≡ true → is_new (core_after c (j.signer i) acts).service x ≡ true
  renewed i correct acts a at at' up x new = split (is_new (core_after c (j.signer i) acts).service x) refl where
    by : (k : ℕ) → k < (core_after c (j.signer i) acts).executed → (e : Option (Signed RequestBody)) → slice_get entries k ≡ Some e → (request : Request) → option_map request_in e ≡ Some request
        → request.client.0 ≡ x.id → (last : Reply) → request.time ≡ last.time → x.body.time ≤ last.time → ⊥
    by k below None found request is client last time le = no_some request is
    by k below (Some p) found request is client last time le =
        let m = (core_after c (j.signer i) (a ∷ acts)).executed in
        let held = on.states i correct (a ∷ acts) at' in
        let same : request_in p ≡ request = same_Some (request_in p) request is in
        let id : p.id ≡ x.id = ap (λ (r : Request). r.client.0) same ∙ client in
        let at_time : p.body.time ≡ last.time = ap (λ (r : Request). r.time) same ∙ time in
        let here = taken_in m entries k (Some p) (omega (arith, below, up)) found in
        let listed = in_map (option_map request_in) (take m entries) (Some p) here in
        let old = taken_old (genesis_of c.config) (requests_in (take m entries)) (core_after c (j.signer i) (a ∷ acts)).service held.outcomes p held.serves listed in
        let later = later_not p (last_reply_of (core_after c (j.signer i) (a ∷ acts)).service p.id) old in
        let found_last = ap (last_reply_of (core_after c (j.signer i) (a ∷ acts)).service) (sym id) ∙ later.1 in
        let less = later_than x (last_reply_of (core_after c (j.signer i) (a ∷ acts)).service x.id) new later.0 found_last in
        let le' = later.2 in
        omega (arith, less, le', at_time, le)

    split : (b : Bool) → is_new (core_after c (j.signer i) acts).service x ≡ b → is_new (core_after c (j.signer i) acts).service x ≡ true
    split true e = e
    split false e =
        let held = on.states i correct acts at in
        let last = later_not x (last_reply_of (core_after c (j.signer i) acts).service x.id) e in
        elim (replies_stem (genesis_of c.config) (requests_in (take (core_after c (j.signer i) acts).executed entries)) (core_after c (j.signer i) acts).service held.outcomes x.id last.0 held.serves last.1) [
          | inl before ↦
              let bounds : IsBoundedReply 0 x.id last.0 = subst (λ (o : Option Reply). IfSome o (IsBoundedReply 0 x.id)) before (last_bounded (genesis_of c.config) (genesis_bounded c.config h.configuration) x.id) in
              let low = bounds.not_null in
              let high = bounds.not_later in
              absurd (omega (arith, low, high))
          | inr w ↦
              let v = from_map (option_map request_in) (take (core_after c (j.signer i) acts).executed entries) (Some w.0) w.1 in
              let at_index = in_take (core_after c (j.signer i) acts).executed entries v.0 v.1 in
              absurd (by at_index.0 at_index.1 v.0 at_index.2 w.0 (sym v.2) w.2 last.0 w.3 last.2)
        ]
