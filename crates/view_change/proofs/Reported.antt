-- Checked messages that are ViewChanges report what these say.
use Rattle.std.proofs.Common.{◌≡◌, ℕ, List, [], ◌∷◌, ◌++◌, refl, ap, ◌∙◌}
use Rattle.std.specs.Prelude.{map}
use Rattle.std.specs.List.{flat_map}
use Rattle.host_types.specs.Configuration.{Configuration}
use Rattle.pbft_codec.specs.declared.body.Body.TheVariants as bodies
use Rattle.quorum_log.specs.Words.{Signed, Body, Certificate, ViewChange}
use Rattle.quorum_log.specs.Validity.{certificates_in}
use Rattle.seal.specs.Lists.{messages_of, under}
use Rattle.seal.specs.Opening.{CheckedMessage}
use Rattle.seal.specs.Parts.{as_message}
use Rattle.view_change.specs.Reports.{reported_low, reported_certificates}

pub messages_under : (c : Configuration) (ms : List (Signed Body)) → messages_of (map (under c) ms) ≡ ms
messages_under c [] = refl
messages_under c (m ∷ ms) = ap (λ (rest : List (Signed Body)). m ∷ rest) (messages_under c ms)

pub lows_reported : (xs : List CheckedMessage) (ms : List (Signed ViewChange)) → messages_of xs ≡ map (as_message bodies.ViewChange) ms → map (λ m. reported_low m.message.body) xs ≡ map (λ m. m.body.low.0) ms
lows_reported [] [] e = refl
lows_reported [] (m ∷ ms) e = absurd cc
lows_reported (x ∷ xs) [] e = absurd cc
lows_reported (x ∷ xs) (m ∷ ms) e =
    let here : x.message ≡ as_message bodies.ViewChange m = cc in
    ap (λ (w : Signed Body). reported_low w.body ∷ map (λ m. reported_low m.message.body) xs) here ∙ ap (λ (rest : List ℕ). m.body.low.0 ∷ rest) (lows_reported xs ms cc)

pub certificates_reported : (xs : List CheckedMessage) (ms : List (Signed ViewChange)) → messages_of xs ≡ map (as_message bodies.ViewChange) ms
    → flat_map (λ m. reported_certificates m.message.body) xs ≡ certificates_in ms
certificates_reported [] [] e = refl
certificates_reported [] (m ∷ ms) e = absurd cc
certificates_reported (x ∷ xs) [] e = absurd cc
certificates_reported (x ∷ xs) (m ∷ ms) e =
    let here : x.message ≡ as_message bodies.ViewChange m = cc in
    ap (λ (w : Signed Body). reported_certificates w.body ++ flat_map (λ m. reported_certificates m.message.body) xs) here
    ∙ ap (λ (rest : List Certificate). m.body.certificates ++ rest) (certificates_reported xs ms cc)
