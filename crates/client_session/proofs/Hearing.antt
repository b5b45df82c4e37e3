-- What a session has heard: offers change its answers alone.
use Rattle.std.proofs.Common.{◌≡◌, ℕ, inl, inr, Bool, true, false, cond, List, [], ◌∷◌, ◌++◌, refl, sym, ap, subst, ◌∙◌}
use Rattle.host_types.specs.Configuration.{Configuration}
use Rattle.pbft_codec.specs.declared.body.Body.{Body}
use Rattle.pbft_codec.specs.declared.body.Body.TheVariants as bodies
use Rattle.pbft_codec.specs.declared.signed.Signed.{Signed}
use Rattle.seal.specs.Signers.{IsAuthentic}
use Rattle.pbft_model.specs.Histories.{IsIn}
use Rattle.client_session.specs.Accepted.{HasHeard, after_offers}
use Rattle.client_session.specs.Sessions.{SessionState, after_offer, answer_in, awaits, offered}

-- all but the answers is the same
abbrev pub Same : SessionState → SessionState → Type 0
Same s t = (t.config ≡ s.config) × (t.client ≡ s.client) × (t.time ≡ s.time) × (t.signer ≡ s.signer) × (t.request ≡ s.request)

pub offer_same : (s : SessionState) (replica : ℕ) (body : Body) → Same s (after_offer s replica body)
offer_same s replica (bodies.Reply b) = split (awaits s b) where
  split : (e : Bool) → Same s (cond e (record s { answers = s.answers ++ answer_in replica b ∷ [] }) s)
  split true = (refl, refl, refl, refl, refl)
  split false = (refl, refl, refl, refl, refl)
offer_same s replica _ = (refl, refl, refl, refl, refl)

pub offers_same : (s : SessionState) (ms : List (Signed Body)) → Same s (after_offers s ms)
offers_same s [] = (refl, refl, refl, refl, refl)
offers_same s (m ∷ ms) =
    let first = offer_same s m.id m.body in
    let rest = offers_same (offered s m) ms in
    (rest.0 ∙ first.0, rest.1 ∙ first.1, rest.2 ∙ first.2, rest.3 ∙ first.3, rest.4 ∙ first.4)

offers_more : (s : SessionState) (ms : List (Signed Body)) (m : Signed Body) → after_offers s (ms ++ m ∷ []) ≡ offered (after_offers s ms) m
offers_more s [] m = refl
offers_more s (x ∷ ms) m = offers_more (offered s x) ms m

one_more : (c : Configuration) (ms : List (Signed Body)) (m : Signed Body) → ((x : Signed Body) → IsIn x ms → IsAuthentic c x) → IsAuthentic c m
    → (x : Signed Body) → IsIn x (ms ++ m ∷ []) → IsAuthentic c x
one_more c [] m all one x (inl here) = subst (IsAuthentic c) (sym here) one
one_more c [] m all one x (inr none) = absurd none
one_more c (y ∷ ms) m all one x (inl here) = all x (inl here)
one_more c (y ∷ ms) m all one x (inr later) = one_more c ms m (λ z at. all z (inr at)) one x later

pub heard_none : (s : SessionState) → HasHeard s s
heard_none s = record { messages = []; authentic = λ m none. absurd none; is = refl }

pub heard_more : (s t : SessionState) (m : Signed Body) → HasHeard s t → IsAuthentic s.config m → HasHeard s (offered t m)
heard_more s t m h authentic = record {
  messages = h.messages ++ m ∷ [];
  authentic = one_more s.config h.messages m h.authentic authentic;
  is = ap (λ (x : SessionState). offered x m) h.is ∙ sym (offers_more s h.messages m);
}

pub heard_same : {s t : SessionState} → HasHeard s t → Same s t
heard_same {s} {t} h = subst (Same s) (sym h.is) (offers_same s h.messages)
