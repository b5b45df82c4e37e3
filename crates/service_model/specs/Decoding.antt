-- Statement: which bytes are a state under a configuration.
use Rattle.std.specs.Prelude.{◌≡◌, ℕ, List, All}
use Rattle.host_types.specs.Configuration.{Configuration}
use Rattle.service_model.specs.declared.version.Version.{Version}
use Rattle.service_model.specs.declared.version.Version.TheVariants.{Second}
use Rattle.service_model.specs.Versions.{IsTold}
use Rattle.service_model.specs.TenantStates.{TenantState, Service}
use Rattle.service_model.specs.Encoding.{encoded_in}
use Rattle.service_model.specs.Sound.{IsSound}
use Rattle.service_model.specs.Bounded.{IsBounded}

-- The version tells the profile of each of a tenant's procedures: in version 1 they are all of profile 1.
abbrev pub IsToldIn : Version → TenantState → Type 0
IsToldIn version part = All (λ procedure. IsTold version procedure.profile) part.procedures

-- The bytes are the encoding in this version of this state under this configuration: a number below 2^48, the last
-- replies to listed clients by client, each of a number from 1 to the state's, and each tenant of the configuration, by
-- id, with procedures that the verifier accepts under their profiles and a tenant's map.
pub record EncodesIn (version : Version) (config : Configuration) (bytes : List ℕ) (state : Service) : Type 0 where
  pub config_is : state.config ≡ config
  pub encodes : encoded_in version state ≡ bytes
  pub bounded : IsBounded state
  pub sound : IsSound state
  pub told : All (IsToldIn version) state.tenants

-- The bytes are the canonical encoding of this state under this configuration.
abbrev pub Encodes : Configuration → List ℕ → Service → Type 0
Encodes config bytes state = EncodesIn Second config bytes state

-- The bytes are an encoding of this state under this configuration, of one of the versions.
abbrev pub Decodes : Configuration → List ℕ → Service → Type 0
Decodes config bytes state = (version : Version) × EncodesIn version config bytes state
