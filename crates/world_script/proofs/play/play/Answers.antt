use Rattle.std.proofs.Common.{ℕ, List, ap, sym, subst, ◌∙◌}
use Rattle.script_text.specs.Scripts.{script_of}
use Rattle.world_script.proofs.Reporting.{IsListed, LacksMemoryOrIs, refused, runs}
use Rattle.world_script.proofs.play.play.Goals as goal

pub returns-in-Ok-read_script : goal.returns-in-Ok-read_script
returns-in-Ok-read_script g c =
    runs _ c.in-Ok.bytes.items c.in-Ok-read_script.script _ _ c.run_steps.result c.in-Ok.ensures (ap script_of (sym c.deref.ensures.value) ∙ c.in-Ok-read_script.ensures.value) c.run_steps.ensures

pub returns : goal.returns
returns g c =
    refused _ c.in-Ok.bytes.items c.in-Err-read_script.fault _ c.in-Ok.ensures (subst (λ (xs : List ℕ). LacksMemoryOrIs xs c.in-Err-read_script.fault) c.deref.ensures.value c.in-Err-read_script.ensures.value)
    (subst (λ (xs : List ℕ). IsListed xs c.in-Err-read_script.fault) c.deref.ensures.value c.in-Err-read_script.ensures.listed)
