use Rattle.std.proofs.Common.{◌≡◌, ◌∙◌, rules}
use Rattle.host_script.proofs.callers.Callers.call.Goals as goal

pub call_or_idle-requires-clause-config : goal.call_or_idle-requires-clause-config
call_or_idle-requires-clause-config g c =
    let under : c.index_mut.result.now.config ≡ c.args.self.now.config.value = search rules in
    under ∙ c.requires.config
