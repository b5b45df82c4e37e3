-- Checkpoints are noted one after another.
use Rattle.std.proofs.Common.{◌≡◌, ℕ, zero, suc, ◌+◌, ◌<◌, List, [], ◌∷◌, ◌++◌, length, get_or, take, refl, sym, ap, subst, ◌∙◌, arith}
use Rattle.std.proofs.lemmas.List.{length-map}
use Rattle.std.specs.Prelude.{map, IsSome}
use Rattle.host_types.specs.Configuration.{Configuration}
use Rattle.pbft_codec.specs.declared.body.Body.{Body}
use Rattle.pbft_codec.specs.declared.body.Body.TheVariants as bodies
use Rattle.pbft_model.specs.Words.{Checkpoint, Signed}
use Rattle.pbft_model.specs.Tables.{Table}
use Rattle.pbft_model.specs.Acts.{add_checkpoint, add_checkpoints}
use Rattle.seal.specs.Lists.{under}
use Rattle.seal.specs.Opening.{CheckedMessage}
use Rattle.seal.specs.Parts.{as_message}
use Rattle.checkpoints.specs.Kept.{KeptCheckpoints, checkpoint_of}

abbrev as_body : Signed Checkpoint → Signed Body
as_body m = as_message bodies.Checkpoint m

-- the Checkpoint at an index
pub record IsItem (c : Configuration) (ms : List (Signed Checkpoint)) (i : ℕ) (x : CheckedMessage) : Type 0 where
  pub said : Signed Checkpoint
  pub is : x ≡ under c (as_message bodies.Checkpoint said)
  pub one_more : take (i + 1) ms ≡ take i ms ++ said ∷ []

at_index : (c : Configuration) (ms : List (Signed Checkpoint)) (i : ℕ) (x : CheckedMessage) → i < length ms → x ≡ get_or (map (under c) (map as_body ms)) i x → IsItem c ms i x
at_index c [] i x lt e = absurd (omega (arith, lt))
at_index c (m ∷ ms) zero x lt e = record { said = m; is = e; one_more = refl }
at_index c (m ∷ ms) (suc i) x lt e =
    let next : suc i + 1 ≡ suc (i + 1) = omega arith in
    let rest = at_index c ms i x (omega (arith, lt)) e in
    record { said = rest.said; is = rest.is; one_more = ap (λ (n : ℕ). take n (m ∷ ms)) next ∙ ap (λ (xs : List (Signed Checkpoint)). m ∷ xs) rest.one_more }

pub item_is : (c : Configuration) (all : List (Signed Body)) (xs : List CheckedMessage) (i : ℕ) (x : CheckedMessage) → xs ≡ map (under c) all → i < length xs → x ≡ get_or xs i x
    → (ms : List (Signed Checkpoint)) → all ≡ map (as_message bodies.Checkpoint) ms → IsItem c ms i x
item_is c all xs i x seen lt e ms are =
    let whole : xs ≡ map (under c) (map as_body ms) = seen ∙ ap (map (under c)) are in
    at_index c ms i x (subst (λ (n : ℕ). i < n) (ap length whole ∙ length-map (map as_body ms) (under c) ∙ length-map ms as_body) lt) (subst (λ (ys : List CheckedMessage). x ≡ get_or ys i x) whole e)

pub item_kind : (c : Configuration) (ms : List (Signed Checkpoint)) (i : ℕ) (x : CheckedMessage) → IsItem c ms i x → IsSome (checkpoint_of x.message)
item_kind c ms i x item = subst (λ (y : CheckedMessage). IsSome (checkpoint_of y.message)) (sym item.is) refl

more_noted : (low : ℕ) (ms : List (Signed Checkpoint)) (m : Signed Checkpoint) (t : Table (Signed Checkpoint)) → add_checkpoints low (ms ++ m ∷ []) t ≡ add_checkpoint low m (add_checkpoints low ms t)
more_noted low [] m t = refl
more_noted low (x ∷ ms) m t = more_noted low ms m (add_checkpoint low x t)

-- one more is noted
pub noted_more : (c : Configuration) (ms : List (Signed Checkpoint)) (i : ℕ) (x : CheckedMessage) (first old new : KeptCheckpoints) → IsItem c ms i x
    → old ≡ record first { checkpoints = old.checkpoints } → old.checkpoints ≡ add_checkpoints first.low (take i ms) first.checkpoints
    → ((m : Signed Checkpoint) → x.message ≡ as_message bodies.Checkpoint m → new ≡ record old { checkpoints = add_checkpoint old.low m old.checkpoints })
    → new.checkpoints ≡ add_checkpoints first.low (take (i + 1) ms) first.checkpoints
noted_more c ms i x first old new item alone so noted =
    ap (λ (k : KeptCheckpoints). k.checkpoints) (noted item.said (ap (λ (y : CheckedMessage). y.message) item.is))
    ∙ ap (λ (k : KeptCheckpoints). add_checkpoint k.low item.said old.checkpoints) alone
    ∙ ap (λ (t : Table (Signed Checkpoint)). add_checkpoint first.low item.said t) so
    ∙ sym (more_noted first.low (take i ms) item.said first.checkpoints)
    ∙ ap (λ (xs : List (Signed Checkpoint)). add_checkpoints first.low xs first.checkpoints) (sym item.one_more)
