pub mod Deliveries
pub use Rattle.kernel_block_laws.specs.kernel_invariant
pub use Rattle.kernel_block_laws.specs as kernel_block_laws
