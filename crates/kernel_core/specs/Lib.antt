pub mod Parts
pub mod Answering
pub use Rattle.kernel_core_facts.specs.act_calls
pub use Rattle.kernel_core_facts.specs.cell_states
pub use Rattle.kernel_core_facts.specs.kernel_book_laws
pub use Rattle.kernel_core_facts.specs.kernel_commit_facts
pub use Rattle.kernel_core_facts.specs.kernel_commits
pub use Rattle.kernel_core_facts.specs as kernel_core_facts
pub use Rattle.kernel_core_facts.specs.kernel_invariant
pub use Rattle.kernel_core_facts.specs.kernel_laws
pub use Rattle.kernel_core_facts.specs.kernel_record_facts
pub use Rattle.kernel_core_facts.specs.model_births
pub use Rattle.script_types.specs.model_kernel
pub use Rattle.kernel_core_facts.specs.model_serial
pub use Rattle.kernel_core_facts.specs.model_serial_turns
pub use Rattle.script_types.specs as script_types
pub use Rattle.kernel_core_facts.specs.table_births
pub use Rattle.kernel_core_facts.specs.table_laws
