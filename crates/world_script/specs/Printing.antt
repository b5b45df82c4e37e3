-- Statement: what the steps print that change nothing, with the text of their lines.
use Rattle.std.specs.Prelude.{◌≡◌, ℕ, Bool, true, false, List, [], ◌++◌, codes, decimal, filter, flat_map, map, Option, Some, None, Result, ◌⊎◌, ◌≢◌, length, Ok, Err}
use Rattle.std.specs.List.{range_with_len}
use Rattle.std.specs.Option.{option_map}
use Rattle.hex.specs.Hex.{encode_lower}
use Rattle.host_types.specs.Configuration.{Configuration, replicas_for}
use Rattle.host_types.specs.declared.ReplicaId.{ReplicaId}
use Rattle.service_model.specs.Decoding.{Decodes}
use Rattle.service_model.specs.Encoding.{encoded}
use Rattle.service_model.specs.TenantStates.{Service}
use Rattle.sha2.specs.Sha256.{sha256}
use Rattle.drained_records.specs.Core.{Core}
use Rattle.drained_records.specs.Facts.{RowFacts}
use Rattle.drained_records.specs.Halts as halts
use Rattle.drained_records.specs.Halt.{Halt}
use Rattle.drained_records.specs.Status.{Status}
use Rattle.drained_records.specs.Audits.{IsAudit}
use Rattle.drained_records.specs.Coming.{IsFirstMissing, Record, output_named}
use Rattle.drained_records.specs.Output.{Output}
use Rattle.drained_records.specs.declared.missing.Missing.{Missing}
use Rattle.pbft_codec.specs.Encoding.{encoding}
use Rattle.script_text.specs.Kinds.{kind_of_body, kind_text}
use Rattle.drained_records.specs.Worlds.{MemberFacts, WorldFacts, member_of}
use Rattle.drained_records.specs.AuditFault.{AuditFault}
use Rattle.drained_records.specs.Execution.{Execution}
use Rattle.script_text.specs.declared.script.Printout.{Printout}
use Rattle.script_text.specs.declared.script.Printout.TheVariants as printouts
use Rattle.world_script.specs.declared.stage.printing.ReplicaLine.{ReplicaLine}
use Rattle.world_script.specs.declared.stage.printing.ReplicaLine.TheVariants as lines
use Rattle.world_script.specs.Facts.{StageFacts}
use Rattle.world_queue.specs.Letters.{is_meant}
use Rattle.world_queue.specs.Lines.{letter_line}
use Rattle.drained_records.specs.Faults.{audit_name_of, audit_number_of}
use Rattle.drained_records.specs.AuditFault.TheVariants as audits

-- ---- what `show` prints

-- where a replica stands
abbrev pub standing : Bool → List ℕ
standing true = codes "active"
standing false = codes "changing"

abbrev pub running_line : ReplicaId → Status → List ℕ
running_line id s =
    codes "replica " ++ (decimal id.0 ++ (codes " view " ++ (decimal s.view.0 ++ (codes " " ++ (standing s.active
    ++ (codes " low " ++ (decimal s.low.0 ++ (codes " executed " ++ (decimal s.executed.0 ++ codes "\n")))))))))

abbrev pub halted_line : ReplicaId → Halt → List ℕ
halted_line id halt =
    codes "replica " ++ (decimal id.0 ++ (codes " halted " ++ (decimal (halts.number_of halt) ++ (codes " " ++ (halts.name_of halt ++ codes "\n")))))

abbrev pub status_line_by : ReplicaId → Status → Option Halt → List ℕ
status_line_by id s None = running_line id s
status_line_by id s (Some halt) = halted_line id halt

abbrev pub status_line : ReplicaId → Status → List ℕ
status_line id s = status_line_by id s s.halted

abbrev pub status_of : ReplicaId → Option MemberFacts → List ℕ
status_of id None = []
status_of id (Some m) = status_line id m.replica.status

abbrev pub status_printed : WorldFacts → ReplicaId → List ℕ
status_printed w id = status_of id (member_of w id.0)

-- ---- what `digest` and `state` print

-- the service of a correct replica that has not halted
abbrev pub service_in : Option MemberFacts → Option Service
service_in None = None
service_in (Some m) = option_map (λ (c : Core). c.service) m.replica.core

-- the number and the digest of a replica's state
abbrev pub digest_line : ReplicaId → Service → List ℕ
digest_line id s =
    codes "digest " ++ (decimal id.0 ++ (codes " " ++ (decimal s.number ++ (codes " " ++ (encode_lower (sha256 (encoded s)) ++ codes "\n")))))

abbrev pub digest_of : ReplicaId → Option Service → List ℕ
digest_of id None = []
digest_of id (Some service) = digest_line id service

abbrev pub digest_printed : WorldFacts → ReplicaId → List ℕ
digest_printed w id = digest_of id (service_in (member_of w id.0))

-- a line of each replica
abbrev pub line_printed : ReplicaLine → WorldFacts → ReplicaId → List ℕ
line_printed lines.Status w id = status_printed w id
line_printed lines.Digest w id = digest_printed w id

-- the bytes of a replica's state
abbrev pub state_line : ReplicaId → Service → List ℕ
state_line id s = codes "state " ++ (decimal id.0 ++ (codes " " ++ (encode_lower (encoded s) ++ codes "\n")))

abbrev pub state_of : ReplicaId → Option Service → List ℕ
state_of id None = []
state_of id (Some service) = state_line id service

abbrev pub state_printed : WorldFacts → ReplicaId → List ℕ
state_printed w id = state_of id (service_in (member_of w id.0))

-- ---- what `upgrade` prints

-- the canonical encoding of the state that bytes encode, and what is printed where they encode none
abbrev pub upgraded_line : Service → List ℕ
upgraded_line s = codes "upgraded " ++ (encode_lower (encoded s) ++ codes "\n")

abbrev pub no_state_line : List ℕ
no_state_line = codes "refused BadState\n"

-- The bytes encode a state in one of the versions, and its canonical encoding is printed; or they encode none.
abbrev pub Upgrades : Configuration → List ℕ → List ℕ → Type 0
Upgrades c bytes text =
    ((state : Service) × Decodes c bytes state × (text ≡ upgraded_line state))
    ⊎ (((state : Service) → Decodes c bytes state → ⊥) × (text ≡ no_state_line))

-- ---- what `audit` prints

-- what an audit finds: the greatest number that was executed, or a fault
abbrev pub agreed_line : List Execution → List ℕ
agreed_line history = codes "audit agreed " ++ (decimal (length history) ++ codes "\n")

abbrev pub audit_fault_line : AuditFault → List ℕ
audit_fault_line fault =
    codes "audit fault " ++ (decimal (audit_number_of fault) ++ (codes " " ++ (audit_name_of fault ++ codes "\n")))

-- what is printed of an audit's answer; nothing where memory ran out
abbrev pub IsAuditLine : Result (List Execution) AuditFault → List ℕ → Type 0
IsAuditLine (Ok history) text = text ≡ agreed_line history
IsAuditLine (Err fault) text = (fault ≢ audits.Memory) × (text ≡ audit_fault_line fault)

-- the rows of the correct replicas so far
abbrev pub records_of : WorldFacts → List (List RowFacts)
records_of w = map (λ (m : MemberFacts). m.rows) w.members

-- What an audit of them answers is printed.
abbrev pub Audits : WorldFacts → List ℕ → Type 0
Audits w text = (answer : Result (List Execution) AuditFault) × IsAudit (records_of w) answer × IsAuditLine answer text

-- ---- what `drained` prints

-- The records of a world: of each correct replica its id, and its rows so far.
pub record AreRecordsIn (w : WorldFacts) (records : List Record) : Type 0 where
  pub ids : map (λ r. r.0.0) records ≡ map (λ (m : MemberFacts). m.replica.me) w.members
  pub rows : map (λ r. r.1.items) records ≡ records_of w

-- that no message is missing; else the one that is: who gave it, to whom it has not come, its kind and its bytes
abbrev pub all_came_line : List ℕ
all_came_line = codes "drained yes\n"

abbrev pub missing_line : Missing → Output → List ℕ
missing_line m o =
    codes "drained no " ++ (decimal m.from.0 ++ (codes " " ++ (decimal m.to.0 ++ (codes " " ++ (kind_text (kind_of_body o.message.message.body)
    ++ (codes " " ++ (encode_lower (encoding o.message.message) ++ codes "\n")))))))

abbrev pub missing_text : Missing → Option Output → List ℕ
missing_text m None = []
missing_text m (Some o) = missing_line m o

abbrev pub drained_text : List Record → Option Missing → List ℕ
drained_text records None = all_came_line
drained_text records (Some m) = missing_text m (output_named records m)

-- What is printed of records: the first message that is missing among them, if one is.
abbrev pub IsDrainedLine : List Record → List ℕ → Type 0
IsDrainedLine records text = (missing : Option Missing) × IsFirstMissing records missing × (text ≡ drained_text records missing)

abbrev pub Drains : WorldFacts → List ℕ → Type 0
Drains w text = (records : List Record) × AreRecordsIn w records × IsDrainedLine records text

-- ---- all of them

-- the ids of the replicas, ascending
abbrev pub ids_of : Configuration → List ReplicaId
ids_of c = map (λ (id : ℕ). record { 0 = id }) (range_with_len 0 (replicas_for c.f))

-- What is printed of a stage.
abbrev pub Shows : StageFacts → Printout → List ℕ → Type 0
Shows s (printouts.Queue f) text = text ≡ flat_map letter_line (filter (is_meant f) s.queue)
Shows s printouts.Show text = text ≡ flat_map (line_printed lines.Status s.world) (ids_of s.world.config)
Shows s printouts.Digest text = text ≡ flat_map (line_printed lines.Digest s.world) (ids_of s.world.config)
Shows s (printouts.State id) text = text ≡ state_printed s.world id
Shows s (printouts.Upgrade bytes) text = Upgrades s.world.config bytes text
Shows s printouts.Audit text = Audits s.world text
Shows s printouts.Drained text = Drains s.world text
