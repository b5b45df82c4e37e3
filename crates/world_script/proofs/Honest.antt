-- What `audit` and `digest` print where nobody forged.
use Rattle.std.proofs.Common.{◌≡◌, ℕ, true, false, List, Option, Some, None, Result, Ok, Err, refl, sym, ap, ◌∙◌}
use Rattle.std.specs.Prelude.{is_some}
use Rattle.std.specs.Option.{option_map}
use Rattle.std.proofs.lemmas.Bool.{false≢true}
use Rattle.std.proofs.lemmas.Option.{same_Some}
use Rattle.drained_records.specs.AuditFault.{AuditFault}
use Rattle.drained_records.specs.AuditFault.TheVariants as audits
use Rattle.drained_records.specs.Audits.{IsAudit}
use Rattle.drained_records.specs.Core.{Core}
use Rattle.drained_records.specs.Execution.{Execution}
use Rattle.drained_records.specs.Journals.{Journals}
use Rattle.drained_records.specs.Leading.{AreJournalsOf}
use Rattle.drained_records.specs.Setup.{setup_of}
use Rattle.drained_records.specs.Worlds.{IsHonestReport, MemberFacts, member_of}
use Rattle.script_text.specs.Heads.{HeadFacts}
use Rattle.service_model.specs.TenantStates.{Service}
use Rattle.world_script.specs.Facts.{StageFacts}
use Rattle.world_script.specs.Keys.{configuration_of}
use Rattle.world_script.specs.Passing.{IsOnRun, correct_signers}
use Rattle.world_script.specs.Printing.{Audits, IsAuditLine, agreed_line, records_of, service_in}
use Rattle.world_script.specs.Starts.{is_faulty}

-- a replica whose service this is
record HasService (o : Option MemberFacts) (s : Service) : Type 0 where
  member : MemberFacts
  is : o ≡ Some member
  core : Core
  core_is : member.replica.core ≡ Some core
  service_is : core.service ≡ s

has_service : (o : Option MemberFacts) (s : Service) → service_in o ≡ Some s → HasService o s
has_service None s is = absurd (false≢true (ap is_some is))
has_service (Some m) s is = by m.replica.core refl is where
  by : (k : Option Core) → m.replica.core ≡ k → option_map (λ (c : Core). c.service) k ≡ Some s → HasService (Some m) s
  by None has none = absurd (false≢true (ap is_some none))
  by (Some core) has some = record { member = m; is = refl; core = core; core_is = has; service_is = same_Some _ _ some }

module _ (h : HeadFacts) (t : StageFacts) (j : Journals) where
  pub audited_so : (text : List ℕ) → IsOnRun h t → AreJournalsOf (configuration_of h) (is_faulty h) (correct_signers h) t.world j → IsHonestReport (setup_of (configuration_of h)) j
      → Audits t.world text → (history : List Execution) × (text ≡ agreed_line history)
  audited_so text on of honest (answer, is, line) = by answer is line where
    by : (r : Result (List Execution) AuditFault) → IsAudit (records_of t.world) r → IsAuditLine r text → (history : List Execution) × (text ≡ agreed_line history)
    by (Ok history) is line = (history, line)
    by (Err audits.Differ) is line = absurd (on.sound.audited j of honest (Err audits.Differ) is)
    by (Err audits.Gap) is line = absurd (on.sound.audited j of honest (Err audits.Gap) is)
    by (Err audits.Unrecorded) is line = absurd (on.sound.audited j of honest (Err audits.Unrecorded) is)
    by (Err audits.Memory) is line = absurd (line.0 refl)

  pub one_state : (a b : ℕ) (s u : Service) → IsOnRun h t → AreJournalsOf (configuration_of h) (is_faulty h) (correct_signers h) t.world j → IsHonestReport (setup_of (configuration_of h)) j
      → service_in (member_of t.world a) ≡ Some s → service_in (member_of t.world b) ≡ Some u → s.number ≡ u.number → s ≡ u
  one_state a b s u on of honest is is' same =
      let x = has_service (member_of t.world a) s is in
      let y = has_service (member_of t.world b) u is' in
      let number = λ (k : Service). k.number in
      sym x.service_is ∙ on.sound.alike j of honest a b x.member y.member x.core y.core x.is y.is x.core_is y.core_is (ap number x.service_is ∙ same ∙ sym (ap number y.service_is)) ∙ y.service_is
