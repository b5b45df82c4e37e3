-- The leaves that acts and rows take.
use Rattle.std.proofs.Common.{◌≡◌, ℕ, ◌+◌, Bool, true, false, cond, List, [], ◌∷◌, refl, sym, ap, ◌∙◌, arith}
use Rattle.std.specs.Prelude.{nat_lt}
use Rattle.pbft_model.specs.Words.{SigningState, Signed, Body}
use Rattle.pbft_codec.specs.declared.body.Body.TheVariants as bodies
use Rattle.pbft_codec.specs.declared.body.fetch.Fetch.TheVariants as fetches
use Rattle.pbft_model.specs.Setup.{Setup, signer_after}
use Rattle.pbft_model.specs.Core.{Core}
use Rattle.pbft_model.specs.Acts.{Act, Take, Timeout, Send, Relay, Enter, Rise, Execute, Install, after, said, recorded, left_for, left_if_above, leaves_of}
use Rattle.pbft_model.specs.Rows.{Row, Input, Received, TimedOut, Begins, Follows, IsLawfulFrom, leaves_for, all_leaves, leaves_in}

none_taken : (signer : SigningState) → signer ≡ signer_after signer 0
none_taken signer = let same : signer.next_leaf ≡ signer.next_leaf + 0 = omega arith in λ i. record signer { next_leaf = same i }

taken_twice : (signer : SigningState) (n k : ℕ) → signer_after (signer_after signer n) k ≡ signer_after signer (n + k)
taken_twice signer n k = let same : (signer.next_leaf + n) + k ≡ signer.next_leaf + (n + k) = omega arith in λ i. record signer { next_leaf = same i }

left_signer : (c : Setup) (s : Core) (view : ℕ) → (left_if_above c s view).signer ≡ s.signer
left_signer c s view = cases (nat_lt s.view view) where
  cases : (b : Bool) → (cond b (left_for c s view) s).signer ≡ s.signer
  cases true = refl
  cases false = refl

said_signer : (c : Setup) (s : Core) (m : Signed Body) (b : Body) → (said c s m b).signer ≡ s.signer
said_signer c s m (bodies.NewView b) = left_signer c s b.view.0
said_signer c s m (bodies.Fetch (fetches.Request d)) = refl
said_signer c s m (bodies.Fetch (fetches.State n)) = refl
said_signer c s m _ = refl

recorded_signer : (c : Setup) (s : Core) (m : Signed Body) (b : Body) → (recorded c s m b).signer ≡ s.signer
recorded_signer c s m (bodies.Request b) = refl
recorded_signer c s m _ = refl

pub signer_by : (c : Setup) (s : Core) (a : Act) → (after c s a).signer ≡ signer_after s.signer (leaves_for a)
signer_by c s (Take m r) = recorded_signer c s m m.body ∙ none_taken s.signer
signer_by c s (Send to m) = ap (λ (x : SigningState). signer_after x (leaves_of m.body)) (said_signer c s m m.body)
signer_by c s (Enter m) = left_signer c s m.body.view.0 ∙ none_taken s.signer
signer_by c s _ = none_taken s.signer

signer_follows : (c : Setup) (me : ℕ) (acts : List Act) (s t : Core) → Follows c me s acts t → t.signer ≡ signer_after s.signer (all_leaves acts)
signer_follows c me [] s t same = ap (λ (x : Core). x.signer) same ∙ none_taken s.signer
signer_follows c me (a ∷ acts) s t (does, leaves, rest) =
    signer_follows c me acts (after c s a) t rest ∙ ap (λ (x : SigningState). signer_after x (all_leaves acts)) (signer_by c s a) ∙ taken_twice s.signer (leaves_for a) (all_leaves acts)

pub signer_begins : (c : Setup) (s : Core) (input : Input) (a : Act) → Begins c input a → (after c s a).signer ≡ s.signer
signer_begins c s (Received m) a (reading, may, is) = ap (λ (x : Act). (after c s x).signer) is ∙ recorded_signer c s m m.body
signer_begins c s TimedOut a is = ap (λ (x : Act). (after c s x).signer) is

-- the signer after rows has used the leaves that they report
pub signer_rows : (c : Setup) (me : ℕ) (s t : Core) (rows : List Row) → IsLawfulFrom c me s rows t → t.signer ≡ signer_after s.signer (leaves_in rows)
signer_rows c me s t [] same = ap (λ (x : Core). x.signer) same ∙ none_taken s.signer
signer_rows c me s t (row ∷ rows) (u, next, rest) =
    let here : u.signer ≡ signer_after s.signer row.leaves =
    signer_follows c me next.acts (after c s next.first) u next.reacts.follows
    ∙ ap (λ (x : SigningState). signer_after x (all_leaves next.acts)) (signer_begins c s row.input next.first next.begins) ∙ ap (signer_after s.signer) (sym next.leaves) in
    signer_rows c me u t rows rest ∙ ap (λ (x : SigningState). signer_after x (leaves_in rows)) here ∙ taken_twice s.signer row.leaves (leaves_in rows)
