-- Executions of one number have one digest and one result, in an honest family.
use Rattle.std.proofs.Common.{◌≡◌, ℕ, ◌-◌, List, [], ◌∷◌, ◌++◌, take, Option, Some, refl, sym, ap, ◌∙◌}
use Rattle.std.proofs.lemmas.Option.{same_Some}
use Rattle.service_model.proofs.Determined.{same_follows}
use Rattle.pbft_model.specs.Words.{Signed, RequestBody}
use Rattle.pbft_model.specs.Sequential.{Service, Outcome, Serves, genesis_of}
use Rattle.pbft_model.specs.Setup.{Setup}
use Rattle.pbft_model.specs.Rows.{Executed, result_of}
use Rattle.pbft_model.specs.Families.{IsCorrect}
use Rattle.pbft_agreement.specs.Agreement.{entry_digest, requests_in}
use Rattle.pbft_agreement.specs.Journals.{Journals, HasDone, IsHonestFamily, IsAccountedFor}
use Rattle.pbft_agreement.proofs.OverJournals.{agrees_over}

abbrev last_in : Outcome → List Outcome → Outcome
last_in o [] = o
last_in o (p ∷ ps) = last_in p ps

last_behind : (o : Outcome) (os : List Outcome) (p : Outcome) → last_in o (os ++ p ∷ []) ≡ p
last_behind o [] p = refl
last_behind o (q ∷ os) p = last_behind q os p

module _ (c : Setup) (j : Journals) (h : IsHonestFamily c j) where
  accounted : (i n : ℕ) (d r : List ℕ) → IsCorrect c j.faulty i → HasDone (Executed n d r) (j.rows i) → IsAccountedFor c (agrees_over c j h).0 n d r
  accounted i n d r correct done = (agrees_over c j h).1.executed i n d r correct done

  pub one_result : (i k n : ℕ) (d r e q : List ℕ) → IsCorrect c j.faulty i → IsCorrect c j.faulty k → HasDone (Executed n d r) (j.rows i) → HasDone (Executed n e q) (j.rows k) → (d ≡ e) × (r ≡ q)
  one_result i k n d r e q correct right a b =
      let entries = (agrees_over c j h).0 in
      let x = accounted i n d r correct a in
      let y = accounted k n e q right b in
      let entry = same_Some x.entry y.entry (sym x.is_entry ∙ y.is_entry) in
      let same = same_follows (genesis_of c.config) (requests_in (take n entries)) x.state y.state (x.earlier ++ x.outcome ∷ []) (y.earlier ++ y.outcome ∷ []) x.serves y.serves in
      let outcome : x.outcome ≡ y.outcome = sym (last_behind x.outcome x.earlier x.outcome) ∙ ap (last_in x.outcome) same.1 ∙ last_behind x.outcome y.earlier y.outcome in
      (x.digest_is ∙ ap (entry_digest c) entry ∙ sym y.digest_is, x.result_is ∙ ap (λ (o : Outcome). result_of o.reply) outcome ∙ sym y.result_is)
