pub mod Ranges
pub mod Refine
pub mod RangeOf
pub use Rattle.bpf_num.specs.Arithmetic
pub use Rattle.bpf_num.specs.ByteSwap
pub use Rattle.bpf_num.specs.Jump
