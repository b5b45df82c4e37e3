-- Statement: lists of checked messages under one configuration.
use Rattle.std.specs.Prelude.{◌≡◌, List, ◌++◌, ◌∷◌, [], map}
use Rattle.std.specs.List.{AllByRecursion}
use Rattle.host_types.specs.Configuration.{Configuration}
use Rattle.pbft_codec.specs.declared.body.Body.{Body}
use Rattle.pbft_codec.specs.declared.signed.Signed.{Signed}
use Rattle.seal.specs.Opening.{CheckedMessage, IsChecked}

-- What a contract sees of a list of checked messages.
pub record CheckedMessages : Type 0 where
  -- who takes part
  pub config : Configuration
  pub messages : List (Signed Body)

abbrev pub under : Configuration → Signed Body → CheckedMessage
under c m = record { config = c; message = m }

-- Each message is checked under the configuration.
abbrev pub AreChecked : CheckedMessages → Type 0
AreChecked l = AllByRecursion (λ m. IsChecked (under l.config m)) l.messages

abbrev pub with_message : CheckedMessages → Signed Body → CheckedMessages
with_message l m = record { config = l.config; messages = l.messages ++ m ∷ [] }

-- Internal: a checked message under this configuration.
abbrev pub IsUnder : Configuration → CheckedMessage → Type 0
IsUnder c m = (m.config ≡ c) × IsChecked m

abbrev pub messages_of : List CheckedMessage → List (Signed Body)
messages_of ms = map (λ m. m.message) ms
