use Rattle.std.proofs.Common.{◌≡◌, ◌∙◌, false, true, sym}
use Rattle.std.proofs.lemmas.List.{get_or-replicate}
use Rattle.lms_ots.proofs.leaf.LeafChains.ends.Goals as goal

pub groups-init : goal.groups-init
groups-init c i lt ended =
    let none : false ≡ true = sym (get_or-replicate 67 i false false lt) ∙ ended in
    cc
