use Rattle.std.proofs.Common.{rules, ◌||◌}
use Rattle.std.proofs.lemmas.Fn.{filter_same}
use Rattle.pbft_model.specs.Core.{is_new, names}
use Rattle.pbft_model.specs.Tables.{entries_in}
use Rattle.replica_stores.specs.Requests.{as_request}
use Rattle.replica_stores.proofs.requests.retain.Goals as goal

pub returns : goal.returns
returns c =
    filter_same _ (λ h. is_new c.args.service.now (as_request h.message) || names (entries_in c.args.log.now.log.pre_prepares) h.digest.0) _ (λ h b f' k. search rules) _ _ c.retain.ensures.filtered
