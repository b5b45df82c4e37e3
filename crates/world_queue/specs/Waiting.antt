-- Statement: which requests of clients are open.
use Rattle.std.specs.Prelude.{ℕ, List, [], ◌∷◌, Option, Some, None, is_some, option_and_then, if◌then◌else◌}
use Rattle.host_types.specs.declared.ClientId.{ClientId}
use Rattle.pbft_codec.specs.declared.body.Body.{Body}
use Rattle.pbft_codec.specs.declared.body.Body.TheVariants as bodies
use Rattle.pbft_codec.specs.declared.signed.Signed.{Signed}
use Rattle.client_session.specs.Sessions.{SessionState, accepted_by}

-- the time of a request
abbrev pub time_asked : Body → Option ℕ
time_asked (bodies.Request b) = Some b.time
time_asked _ = None

-- The time of a client's open request: its last one, until a reply to it is accepted.
abbrev pub open_time : SessionState → Option ℕ
open_time s = if is_some (accepted_by s) then None else option_and_then (λ (m : Signed Body). time_asked m.body) s.request

abbrev pub open_or : ClientId → Option ℕ → Option (ClientId × ℕ) → Option (ClientId × ℕ)
open_or client None other = other
open_or client (Some time) other = Some (client, time)

-- The first client whose request is open, and that request's time.
abbrev pub first_open : List SessionState → Option (ClientId × ℕ)
first_open [] = None
first_open (s ∷ ss) = open_or s.client (open_time s) (first_open ss)
