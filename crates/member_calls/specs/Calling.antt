-- Statement: what the exports answer that have a client ask and hear, and that tell which reply it accepts.
use Rattle.std.specs.Prelude.{◌≡◌, ◌≢◌, ◌<◌, ◌≤◌, ◌⊎◌, ℕ, List, Option, Some, None, Result, Ok, Err, length}
use Rattle.host_types.specs.declared.request.Reply.{Reply}
use Rattle.client_session.specs.Sessions.{SessionState, accepted_by, asked}
use Rattle.client_session.specs.declared.fault.SessionFault.TheVariants as faults
use Rattle.handles.specs.declared.held.Held.{Held}
use Rattle.handles.specs.declared.held.Held.TheVariants as held
use Rattle.handles.specs.Told.{AreTold}
use Rattle.lms_tree.specs.Keys.{after_signing, leaf_count}
use Rattle.lms_tree.specs.SigningState.{SigningState}
use Rattle.handles.specs.Clients.{Hears}
use Rattle.pbft_codec.specs.Encoding.{encoding}
use Rattle.pbft_codec.specs.declared.body.Body.{Body}
use Rattle.pbft_codec.specs.declared.signed.Signed.{Signed}
use Rattle.seal.specs.declared.fault.SealFault.{SealFault}
use Rattle.member_calls.specs.Statuses.{number_of, of_hearing}
use Rattle.member_calls.specs.declared.status.Status.TheVariants.{Done, Memory, NoClient, NoRequest, NoReply, OperationTooLong, Session}

-- A session makes the signed request of an operation, which is its open one from then on.
abbrev pub HasAsked : SessionState → List ℕ → ℕ → Option Held → Type 0
HasAsked s operation status after =
    (status ≡ number_of Done) × (length operation ≤ 1048576) × (s.signer.next_leaf ≢ leaf_count s.signer)
    × (after ≡ Some (held.Client (asked s operation (after_signing s.signer))))

-- It is refused, and the session stays as it was.
abbrev pub IsRefusedToAsk : SessionState → List ℕ → ℕ → Option Held → Type 0
IsRefusedToAsk s operation status after =
    (after ≡ Some (held.Client s))
    × (((status ≡ number_of OperationTooLong) × (1048576 < length operation))
    ⊎ ((status ≡ number_of (Session faults.Exhausted)) × (s.signer.next_leaf ≡ leaf_count s.signer)))

-- Memory runs out: before the session is asked nothing is changed, behind that a leaf may be used.
abbrev pub HasNoMemoryToAsk : SessionState → ℕ → Option Held → Type 0
HasNoMemoryToAsk s status after =
    ((status ≡ number_of Memory) × (after ≡ Some (held.Client s)))
    ⊎ ((status ≡ number_of (Session faults.Memory)) × ((signer : SigningState)
    × ((signer ≡ s.signer) ⊎ (signer ≡ after_signing s.signer)) × (after ≡ Some (held.Client (record s { signer = signer })))))

abbrev pub AskedIn : Option Held → List ℕ → ℕ → Option Held → Type 0
AskedIn (Some (held.Client s)) operation status after =
    HasAsked s operation status after ⊎ IsRefusedToAsk s operation status after ⊎ HasNoMemoryToAsk s status after
AskedIn before operation status after = (status ≡ number_of NoClient) × (after ≡ before)

-- A session hears bytes.
abbrev pub HeardIn : Option Held → List ℕ → ℕ → Option Held → Type 0
HeardIn (Some (held.Client s)) bytes status after =
    (result : Result (Unit {0}) SealFault) × (t : SessionState) × Hears s bytes result t × (after ≡ Some (held.Client t))
    × (status ≡ number_of (of_hearing result))
HeardIn before bytes status after = (status ≡ number_of NoClient) × (after ≡ before)

-- The bytes of the last request are told.
abbrev pub RequestTold : Option (Signed Body) → ℕ → ℕ → List ℕ → List ℕ → Type 0
RequestTold None status told before after = (status ≡ number_of NoRequest) × (after ≡ before)
RequestTold (Some request) status told before after = AreTold (encoding request) status told before after

abbrev pub RequestIn : Option SessionState → ℕ → ℕ → List ℕ → List ℕ → Type 0
RequestIn None status told before after = (status ≡ number_of NoClient) × (after ≡ before)
RequestIn (Some s) status told before after = RequestTold s.request status told before after

-- The result of the accepted reply is told, and its time and its number.
abbrev pub ReplyTold : Option Reply → ℕ → ℕ → ℕ → ℕ → List ℕ → List ℕ → Type 0
ReplyTold None status time number told before after = (status ≡ number_of NoReply) × (after ≡ before)
ReplyTold (Some reply) status time number told before after =
    AreTold reply.result status told before after × (time ≡ reply.time) × (number ≡ reply.number.0)

abbrev pub ReplyIn : Option SessionState → ℕ → ℕ → ℕ → ℕ → List ℕ → List ℕ → Type 0
ReplyIn None status time number told before after = (status ≡ number_of NoClient) × (after ≡ before)
ReplyIn (Some s) status time number told before after = ReplyTold (accepted_by s) status time number told before after
