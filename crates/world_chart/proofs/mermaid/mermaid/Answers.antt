use Rattle.std.proofs.Common.{◌≡◌, ◌-◌, ◌++◌, ◌∙◌, map, ap, rules, subst, sym}
use Rattle.std.specs.Prelude.{ℕ, String, codes, length}
use Rattle.std.specs.List.{flat_map}
use Rattle.std.specs.String.{string_bytes}
use Rattle.std.specs.declared.alloc.Global.{Global}
use Rattle.std.proofs.lemmas.List.{length-map}
use Rattle.world_chart.specs.Diagrams.{row_line}
use Rattle.world_chart.specs.declared.rows.Row.{Row}
use Rattle.world_chart.proofs.Diagrams.{whole}
use Rattle.world_chart.proofs.mermaid.mermaid.Goals as goal

pub returns : goal.returns
returns c =
    let head : string_bytes c.push_str.new.self ≡ codes "sequenceDiagram\n" = search rules in
    let ground : string_bytes c.push_str-2.new.self ≡ string_bytes c.push_lanes.new.text ++ codes "    rect rgb(238, 244, 255)\n" = search rules in
    let end : string_bytes c.push_str-3.new.self ≡ string_bytes c.push_rows.new.text ++ codes "    end\n" = search rules in
    let last : c.saturating_sub.result ≡ length (map (λ (name : String Global). string_bytes name) c.args.names.now) - 1 =
    c.saturating_sub.ensures ∙ ap (λ (n : ℕ). n - 1) (sym (length-map c.args.names.now (λ (name : String Global). string_bytes name))) in
    whole _ _ _ _ _ _ _ _ _ _ head c.in_ok-push_lanes.ensures ground
    (subst (λ (n : ℕ). string_bytes c.push_rows.new.text ≡ string_bytes c.push_str-2.new.self ++ flat_map (λ (r : Row). row_line n r.shape (string_bytes r.words)) c.args.rows.now) last c.in_ok-push_rows.ensures) end
