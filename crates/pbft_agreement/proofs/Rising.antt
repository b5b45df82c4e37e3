-- What rows did rises by one, from 0 or from the number installed last.
use Rattle.std.proofs.Common.{◌≡◌, ℕ, ◌+◌, Bool, true, false, cond, List, [], ◌∷◌, ◌++◌, Option, Some, None, refl, sym, ap, ◌∙◌}
use Rattle.std.specs.Prelude.{◌==◌, nat_lt, option_and_then}
use Rattle.std.specs.List.{flat_map}
use Rattle.std.proofs.lemmas.Bool.{eq-eqb, lt-ltb}
use Rattle.pbft_model.specs.Words.{SigningState}
use Rattle.pbft_model.specs.Setup.{Setup}
use Rattle.pbft_model.specs.Core.{Core, start_of}
use Rattle.pbft_model.specs.Acts.{Act, Take, Timeout, Send, Relay, Enter, Rise, Execute, Install, after}
use Rattle.pbft_model.specs.Rules.{Allowed}
use Rattle.pbft_model.specs.Rows.{Row, Done, Executed, Installed, Follows, IsNext, IsLawfulFrom, done_of, all_done}
use Rattle.pbft_model.specs.Histories.{core_after, IsHistory}
use Rattle.pbft_agreement.specs.Journals.{rises_to}
use Rattle.pbft_model.proofs.Origins.{recorded_keeps, said_keeps, left_keeps}
use Rattle.pbft_model.proofs.Rowed.{due_allowed, begun}
use Rattle.pbft_agreement.proofs.Reporting.{pushed, row_follows, row_core, row_history, first_number}

in_turn : (b : Bool) (both one : Option ℕ) (f : ℕ → Option ℕ) → both ≡ option_and_then f one → cond b both None ≡ option_and_then f (cond b one None)
in_turn true both one f e = e
in_turn false both one f e = refl

rises_append : (n : ℕ) (xs ys : List Done) → rises_to n (xs ++ ys) ≡ option_and_then (λ m. rises_to m ys) (rises_to n xs)
rises_append n [] ys = refl
rises_append n (Executed number digest result ∷ xs) ys = in_turn (number == n + 1) (rises_to number (xs ++ ys)) (rises_to number xs) (λ (m : ℕ). rises_to m ys) (rises_append number xs ys)
rises_append n (Installed number digest ∷ xs) ys = in_turn (nat_lt n number) (rises_to number (xs ++ ys)) (rises_to number xs) (λ (m : ℕ). rises_to m ys) (rises_append number xs ys)

module _ (c : Setup) (me : ℕ) (signer : SigningState) where
  rises_after : (s : Core) (a : Act) → Allowed c me s a → rises_to s.executed (done_of c a) ≡ Some (after c s a).executed
  rises_after s (Take m r) ok = ap Some (sym (recorded_keeps c s m m.body).number)
  rises_after s (Send to m) ok = ap Some (sym (said_keeps c s m m.body).number)
  rises_after s (Enter m) ok = ap Some (sym (left_keeps c s m.body.view.0).number)
  rises_after s (Execute n d t o) ok = ap (λ (b : Bool). cond b (Some n) None) (eq-eqb n (s.executed + 1) ok.next)
  rises_after s (Install n b t) ok = ap (λ (b : Bool). cond b (Some n) None) (lt-ltb s.executed n ok.above)
  rises_after s _ ok = refl

  rises_acts : (acts early : List Act) (t : Core) → IsHistory c me signer early → Follows c me (core_after c signer early) acts t
      → rises_to (core_after c signer early).executed (all_done c acts) ≡ Some t.executed
  rises_acts [] early t is same = ap (λ (x : Core). Some x.executed) (sym same)
  rises_acts (a ∷ acts) early t is (does, leaves, rest) =
      let s = core_after c signer early in
      let ok = due_allowed c me signer early is a does in
      rises_append s.executed (done_of c a) (all_done c acts) ∙ ap (option_and_then (λ (m : ℕ). rises_to m (all_done c acts))) (rises_after s a ok)
      ∙ rises_acts acts (a ∷ early) t (is, ok) rest

  rises_row : (early : List Act) (s u : Core) (row : Row) (next : IsNext c me s row u) → core_after c signer early ≡ s → IsHistory c me signer early
      → rises_to s.executed row.done ≡ Some u.executed
  rises_row early s u row next same is =
      let first : (core_after c signer (next.first ∷ early)).executed ≡ s.executed =
      first_number c me signer row.input (core_after c signer early) next.first next.begins ∙ ap (λ (x : Core). x.executed) same in
      ap (rises_to s.executed) next.done ∙ ap (λ (n : ℕ). rises_to n (all_done c next.acts)) (sym first)
      ∙ rises_acts next.acts (next.first ∷ early) u (is, begun c me signer (core_after c signer early) row.input next.first next.begins) (row_follows c me signer early s u row next same)

  rises_rows : (rows : List Row) (early : List Act) (s t : Core) → IsLawfulFrom c me s rows t → core_after c signer early ≡ s → IsHistory c me signer early
      → rises_to s.executed (flat_map (λ row. row.done) rows) ≡ Some t.executed
  rises_rows [] early s t w same is = ap (λ (x : Core). Some x.executed) (sym w)
  rises_rows (row ∷ rows) early s t (u, next, rest) same is =
      rises_append s.executed row.done (flat_map (λ row. row.done) rows)
      ∙ ap (option_and_then (λ (m : ℕ). rises_to m (flat_map (λ row. row.done) rows))) (rises_row early s u row next same is)
      ∙ rises_rows rows (pushed (next.first ∷ next.acts) early) u t rest (row_core c me signer early s u row next same) (row_history c me signer early s u row next same is)

  pub rows_rise : (rows : List Row) (last : Core) → IsLawfulFrom c me (start_of c signer) rows last → rises_to 0 (flat_map (λ row. row.done) rows) ≡ Some last.executed
  rows_rise rows last lawful = rises_rows rows [] (start_of c signer) last lawful refl tt
