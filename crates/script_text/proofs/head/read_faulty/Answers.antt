use Rattle.std.proofs.Common.{ℕ, codes, subst}
use Rattle.toml.specs.View.{table_view}
use Rattle.script_values.specs.Faults.{IsUnlessMemory}
use Rattle.script_values.specs.Forms.{list_of, optional_key, replica}
use Rattle.script_text.proofs.head.read_faulty.Goals as goal

pub returns : goal.returns
returns c =
    subst (λ (n : ℕ). IsUnlessMemory c.optional.result (optional_key (list_of (replica n)) (codes "faulty") (table_view c.args.table.now)))
    c.count_of_faulty.ensures c.optional.ensures
