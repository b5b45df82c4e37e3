-- Layer: what a replica records of votes, as the protocol's core keeps it, and what is done with it.
use Rattle.std.specs.Prelude.{◌≡◌, ℕ, ◌+◌, ◌*◌, ◌==◌, ◌<◌, ◌≤◌, ◌^◌, Bool, true, false, ◌&&◌, not, cond, nat_lt, nat_le, List, [], ◌∷◌, map, Option, Some, None, IsSome, bytes_eq, if◌then◌else◌}
use Rattle.host_types.specs.Configuration.{Configuration}
use Rattle.pbft_codec.specs.declared.body.Body.{Body}
use Rattle.pbft_codec.specs.declared.body.Body.TheVariants as bodies
use Rattle.ballots.specs.Words.{Signed, PrePrepare, Prepare, Commit, Certificate}
use Rattle.ballots.specs.Acts.{is_of_entered, with_body}
use Rattle.ballots.specs.Certificates.{certified, has_quorum, is_by, voted, Fields, of_pre_prepare, of_prepare, of_commit}
use Rattle.ballots.specs.Core.{Core, floor_in, if_passes, has_position}
use Rattle.ballots.specs.Setup.{gathered, is_least, primary, replicas}
use Rattle.ballots.specs.Tables.{Key, Table, at, add_if, keep, vote_key, first_in, is_above}
use Rattle.std.specs.Option.{option_map}
use Rattle.std.specs.List.{filter_map}
use Rattle.seal.specs.Parts.{as_message}
use Rattle.quorum_log.specs.declared.certificate.CheckedCertificate.{CheckedCertificate}
use Rattle.quorum_log.specs.declared.fault.LogFault.{LogFault}
use Rattle.quorum_log.specs.declared.fault.LogFault.TheVariants.{OutsideMarks, OtherDigest, WrongView, Memory}

-- A replica's core has the same fields.
pub record Log : Type 0 where
  pub view : ℕ
  -- the floor of the view, if it is entered
  pub floor : Option ℕ
  pub low : ℕ
  pub pre_prepares : Table (Signed PrePrepare)
  pub prepares : Table (Signed Prepare)
  pub commits : Table (Signed Commit)

-- what a core has of it
abbrev pub log_of : Core → Log
log_of s = record {
  view = s.view;
  floor = cond s.active (Some (floor_in s)) None;
  low = s.low;
  pre_prepares = s.pre_prepares;
  prepares = s.prepares;
  commits = s.commits;
}

abbrev pub start : Log
start = record { view = 0; floor = Some 0; low = 0; pre_prepares = []; prepares = []; commits = [] }

-- ---- accepting a vote

-- not above the floor of the entered view
abbrev pub is_under_floor : Option ℕ → ℕ → Bool
is_under_floor None number = false
is_under_floor (Some floor) number = nat_le number floor

abbrev pub is_within : Configuration → Log → ℕ → ℕ → Bool
is_within c l view number =
    nat_lt l.low number && (nat_le number (l.low + 2 * c.k) && not (view == l.view && is_under_floor l.floor number))

-- the signer has voted for another digest
abbrev pub is_other : {B : Type 0} → (B → Fields) → List ℕ → Option (Signed B) → Bool
is_other of digest None = false
is_other of digest (Some m) = not (bytes_eq (of m.body).digest digest)

abbrev pub fault_in : {B : Type 0} → (B → Fields) → Table (Signed B) → Configuration → Log → Signed B → Option LogFault
fault_in of table c l m =
    let x = of m.body in
    if nat_lt x.view l.view then Some WrongView
    else (if not (is_within c l x.view x.number) then Some OutsideMarks
    else (if is_other of x.digest (at table (vote_key x.number x.view m.id)) then Some OtherDigest else None))

-- the first of each signer counts
abbrev pub added : {B : Type 0} → (B → Fields) → Signed B → Table (Signed B) → Table (Signed B)
added of m table = let x = of m.body in add_if true (vote_key x.number x.view m.id) m table

abbrev pub vote_fault : Configuration → Log → Signed Body → Body → Option LogFault
vote_fault c l m (bodies.PrePrepare b) = fault_in of_pre_prepare l.pre_prepares c l (with_body m b)
vote_fault c l m (bodies.Prepare b) = fault_in of_prepare l.prepares c l (with_body m b)
vote_fault c l m (bodies.Commit b) = fault_in of_commit l.commits c l (with_body m b)
vote_fault c l m _ = None

abbrev pub accepted : Log → Signed Body → Body → Log
accepted l m (bodies.PrePrepare b) = record l { pre_prepares = added of_pre_prepare (with_body m b) l.pre_prepares }
accepted l m (bodies.Prepare b) = record l { prepares = added of_prepare (with_body m b) l.prepares }
accepted l m (bodies.Commit b) = record l { commits = added of_commit (with_body m b) l.commits }
accepted l m _ = l

-- A vote is refused for this fault; where it has none, only for lack of memory.
abbrev pub IsRefusedFor : Option LogFault → LogFault → Type 0
IsRefusedFor fault OutsideMarks = fault ≡ Some OutsideMarks
IsRefusedFor fault OtherDigest = fault ≡ Some OtherDigest
IsRefusedFor fault WrongView = fault ≡ Some WrongView
IsRefusedFor fault Memory = fault ≡ None

-- ---- leaving and entering a view, and the low mark

abbrev pub left : ℕ → Log → Log
left view l = record l { view = view; floor = None }

-- a view's PrePrepare for this number
pub record IsProposal (view number : ℕ) (m : Signed Body) : Type 0 where
  pub body : PrePrepare
  pub is : m.body ≡ bodies.PrePrepare body
  pub view_is : body.view.0 ≡ view
  pub number_is : body.number.0 ≡ number

-- the view's PrePrepares for the numbers from this one on, one after another
abbrev pub AreProposals : ℕ → ℕ → List (Signed Body) → Type 0
AreProposals view number [] = Unit {0}
AreProposals view number (m ∷ ms) = IsProposal view number m × AreProposals view (number + 1) ms

abbrev pub as_pre_prepare : Signed Body → Body → Option (Signed PrePrepare)
as_pre_prepare m (bodies.PrePrepare b) = Some (with_body m b)
as_pre_prepare m _ = None

-- the PrePrepares among messages
abbrev pub pre_prepares_in : List (Signed Body) → List (Signed PrePrepare)
pre_prepares_in ms = filter_map (λ m. as_pre_prepare m m.body) ms

-- what stays as a view is entered: the PrePrepares above the top, the other votes above the floor
abbrev pub opened : ℕ → ℕ → ℕ → Log → Log
opened view floor top l = record l {
  view = view;
  floor = Some floor;
  pre_prepares = keep (is_of_entered view top) l.pre_prepares;
  prepares = keep (is_of_entered view floor) l.prepares;
  commits = keep (is_of_entered view floor) l.commits;
}

abbrev pub with_all : Configuration → Log → List (Signed PrePrepare) → Table (Signed PrePrepare) → Table (Signed PrePrepare)
with_all c l [] table = table
with_all c l (m ∷ ms) table =
    with_all c l ms (add_if (is_within c l m.body.view.0 m.body.number.0) (vote_key m.body.number.0 m.body.view.0 m.id) m table)

abbrev pub entered : Configuration → ℕ → ℕ → ℕ → List (Signed PrePrepare) → Log → Log
entered c view floor top ms l =
    let t = opened view floor top l in
    record t { pre_prepares = with_all c t ms t.pre_prepares }

-- all at or below a number above the mark is discarded
abbrev pub discarded : ℕ → Log → Log
discarded number l = cond (nat_lt l.low number) (record l {
  low = number;
  pre_prepares = keep (is_above number) l.pre_prepares;
  prepares = keep (is_above number) l.prepares;
  commits = keep (is_above number) l.commits;
}) l

-- ---- what is read off it

-- What a contract sees of a log: who takes part, and what is recorded.
pub record KeptLog : Type 0 where
  pub config : Configuration
  pub log : Log

-- a sequence number above the low and not above the high water mark
pub record IsBetweenMarks (k : KeptLog) (number : ℕ) : Type 0 where
  pub above : k.log.low < number
  pub within : number ≤ k.log.low + 2 * k.config.k
  pub small : number < 2 ^ 48

-- Each recorded vote is for such a number.
pub record AreBetweenMarks (k : KeptLog) : Type 0 where
  pub pre_prepares : (key : Key) → IsSome (at k.log.pre_prepares key) → IsBetweenMarks k (first_in key)
  pub prepares : (key : Key) → IsSome (at k.log.prepares key) → IsBetweenMarks k (first_in key)
  pub commits : (key : Key) → IsSome (at k.log.commits key) → IsBetweenMarks k (first_in key)

-- the PrePrepare of the view's primary for a number
abbrev pub proposal_in : Configuration → Log → ℕ → ℕ → Option (Signed PrePrepare)
proposal_in c l view number =
    if_passes (is_by (primary c view) (has_position view number)) (at l.pre_prepares (vote_key number view (primary c view)))

abbrev pub is_certified_in : Configuration → Log → Fields → Bool
is_certified_in c l x = certified c (voted of_pre_prepare l.pre_prepares x) (voted of_prepare l.prepares x) x.view

abbrev pub if_certified : Configuration → Log → Option (Signed PrePrepare) → Option (Signed PrePrepare)
if_certified c l o = if_passes (λ m. is_certified_in c l (of_pre_prepare m.body)) o

abbrev pub certified_at : Configuration → Log → ℕ → ℕ → Option (Signed PrePrepare)
certified_at c l view number = if_certified c l (proposal_in c l view number)

abbrev pub is_committed_by : Configuration → Log → Option (Signed PrePrepare) → Bool
is_committed_by c l None = false
is_committed_by c l (Some m) = has_quorum c (voted of_commit l.commits (of_pre_prepare m.body))

-- certified, and a quorum has committed
abbrev pub is_committed_at : Configuration → Log → ℕ → ℕ → Bool
is_committed_at c l view number = is_committed_by c l (certified_at c l view number)

-- the Prepares of a certificate: those of 2f backups of least signers that match
abbrev pub backing : Configuration → Log → Fields → List (Signed Prepare)
backing c l x =
    gathered (is_least (2 * c.f) (λ i. not (i == primary c x.view) && voted of_prepare l.prepares x i)) (λ i. at l.prepares (vote_key x.number x.view i)) (replicas c)

abbrev pub certificate_in : Configuration → Log → Signed PrePrepare → Certificate
certificate_in c l m = record { pre_prepare = m; prepares = backing c l (of_pre_prepare m.body) }

-- as checked messages
abbrev pub as_checked : Configuration → Certificate → CheckedCertificate
as_checked config x = record {
  pre_prepare = record { config = config; message = as_message bodies.PrePrepare x.pre_prepare };
  prepares = record { config = config; messages = map (as_message bodies.Prepare) x.prepares };
}

abbrev pub checked_certificate : Configuration → Log → ℕ → ℕ → Option CheckedCertificate
checked_certificate c l view number = option_map (λ m. as_checked c (certificate_in c l m)) (certified_at c l view number)
