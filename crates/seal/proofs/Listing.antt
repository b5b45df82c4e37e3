-- Lists of messages under one configuration.
use Rattle.std.proofs.Common.{◌≡◌, ℕ, ◌+◌, ◌<◌, List, [], ◌∷◌, ◌++◌, length, get_or, take, refl, sym, ap, subst, ◌∙◌}
use Rattle.std.proofs.lemmas.List.{get_or-map, length-map, take_more}
use Rattle.std.specs.Prelude.{map}
use Rattle.std.specs.List.{AllByRecursion}
use Rattle.host_types.specs.Configuration.{Configuration}
use Rattle.pbft_codec.specs.declared.body.Body.{Body}
use Rattle.pbft_codec.specs.declared.signed.Signed.{Signed}
use Rattle.seal.specs.Opening.{CheckedMessage}
use Rattle.seal.specs.Lists.{AreChecked, IsUnder, under, messages_of}

pub restored : (c : Configuration) (ms : List CheckedMessage) → AllByRecursion (IsUnder c) ms → ms ≡ map (under c) (messages_of ms)
restored c [] h = refl
restored c (m ∷ ms) h = ap (λ k. record { config = k; message = m.message } ∷ ms) h.0.0 ∙ ap (λ rest. under c m.message ∷ rest) (restored c ms h.1)

pub all_checked : (c : Configuration) (ms : List CheckedMessage) → AllByRecursion (IsUnder c) ms → AreChecked (record { config = c; messages = messages_of ms })
all_checked c [] h = tt
all_checked c (m ∷ ms) h = (rw (sym h.0.0) h.0.1, all_checked c ms h.1)

-- the message at an index, and those up to it
pub one_under : (c : Configuration) (ms : List (Signed Body)) (xs : List CheckedMessage) (i : ℕ) (m : CheckedMessage) → xs ≡ map (under c) ms → i < length xs → m ≡ get_or xs i m
    → (i < length ms) × (m ≡ under c (get_or ms i m.message))
one_under c ms xs i m all lt e =
    let below : i < length ms = subst (λ n. i < n) (ap length all ∙ length-map ms (under c)) lt in
    (below, subst (λ xs. m ≡ get_or xs i m) all e ∙ get_or-map (under c) ms i m.message m below)

pub one_more : (c : Configuration) (ms : List (Signed Body)) (i : ℕ) (m : CheckedMessage) → i < length ms → m ≡ under c (get_or ms i m.message) → take i ms ++ m.message ∷ [] ≡ take (i + 1) ms
one_more c ms i m lt e =
    sym (take_more ms i m.message lt ∙ ap (λ (x : CheckedMessage). take i ms ++ x.message ∷ []) (sym e))
