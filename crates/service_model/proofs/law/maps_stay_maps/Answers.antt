use Rattle.service_model.proofs.Existing.{genesis_maps, step_maps}
use Rattle.service_model.proofs.Reading.{read_maps}
use Rattle.service_model.proofs.law.maps_stay_maps.Goals as goal

pub returns : goal.returns
returns c = record { first = genesis_maps; next = step_maps; read = read_maps }
