-- Statement: the sequential service, as these definitions speak of it.
use Rattle.service_model.specs.Bounded.{IsBounded}
use Rattle.service_model.specs.Sound as sound
use Rattle.service_model.specs.TenantStates.{Service}
pub use Rattle.service_model.specs.declared.outcome.Outcome.{Outcome}
pub use Rattle.service_model.specs.TenantStates.{Service, genesis_of, last_reply_of}
pub use Rattle.service_model.specs.Steps.{IsStep, Serves}
pub use Rattle.service_model.specs.Encoding.{encoded}

-- What holds of every state that the service reaches: it is within its bounds, and its procedures are accepted code.
pub record IsSound (state : Service) : Type 0 where
  pub bounded : IsBounded state
  pub sound : sound.IsSound state
