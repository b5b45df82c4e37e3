-- Internal: the first place that misses something, where each place before it came, or each at all.
use Rattle.std.specs.Prelude.{◌<◌, ℕ, List, Option, Some, None}
use Rattle.host_types.specs.declared.ReplicaId.{ReplicaId}
use Rattle.byz_world.specs.Facts.{RowFacts}
use Rattle.byz_world.specs.Output.{Output}
use Rattle.drained_records.specs.Coming.{At, HasCome, IsMissing, Record, SomeAt}

-- ---- what came, and what is missing, of an output, of a row, of a record

abbrev pub OutputCame : List Record → ReplicaId → Output → ℕ → Type 0
OutputCame records from o to = At records to (HasCome from o)

abbrev pub OutputMisses : List Record → ReplicaId → Output → ℕ → Type 0
OutputMisses records from o to = SomeAt records to (IsMissing from o)

abbrev pub RowCame : List Record → ReplicaId → RowFacts → ℕ → ℕ → Type 0
RowCame records from r output to = At r.outputs output (λ o. OutputCame records from o to)

abbrev pub RowMisses : List Record → ReplicaId → RowFacts → ℕ → ℕ → Type 0
RowMisses records from r output to = SomeAt r.outputs output (λ o. OutputMisses records from o to)

abbrev pub RecordCame : List Record → Record → ℕ → ℕ → ℕ → Type 0
RecordCame records f row output to = At f.1.items row (λ r. RowCame records f.0 r output to)

abbrev pub RecordMisses : List Record → Record → ℕ → ℕ → ℕ → Type 0
RecordMisses records f row output to = SomeAt f.1.items row (λ r. RowMisses records f.0 r output to)

-- ---- the first place

abbrev pub IsFirstOne : (came misses : ℕ → Type 0) → Option ℕ → Type 0
IsFirstOne came misses None = (i : ℕ) → came i
IsFirstOne came misses (Some a) = misses a × ((i : ℕ) → i < a → came i)

abbrev pub IsFirstPair : (came misses : ℕ → ℕ → Type 0) → Option (ℕ × ℕ) → Type 0
IsFirstPair came misses None = (i k : ℕ) → came i k
IsFirstPair came misses (Some p) = misses p.0 p.1 × ((i k : ℕ) → i < p.0 → came i k) × ((k : ℕ) → k < p.1 → came p.0 k)

abbrev pub IsFirstTriple : (came misses : ℕ → ℕ → ℕ → Type 0) → Option (ℕ × ℕ × ℕ) → Type 0
IsFirstTriple came misses None = (i k l : ℕ) → came i k l
IsFirstTriple came misses (Some p) =
    misses p.0 p.1 p.2 × ((i k l : ℕ) → i < p.0 → came i k l) × ((k l : ℕ) → k < p.1 → came p.0 k l) × ((l : ℕ) → l < p.2 → came p.0 p.1 l)
