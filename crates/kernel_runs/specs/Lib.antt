pub use Rattle.kernel_run_facts.specs.cell_states
pub use Rattle.kernel_run_facts.specs.kernel_book_laws
pub use Rattle.kernel_run_facts.specs.kernel_commit_facts
pub use Rattle.kernel_run_facts.specs.kernel_commits
pub use Rattle.kernel_run_facts.specs.kernel_core_facts
pub use Rattle.kernel_run_facts.specs.kernel_invariant
pub use Rattle.kernel_run_facts.specs.kernel_laws
pub use Rattle.kernel_run_facts.specs as kernel_run_facts
pub use Rattle.kernel_run_facts.specs.model_births
pub use Rattle.kernel_run_facts.specs.model_serial
pub use Rattle.kernel_run_facts.specs.model_serial_turns
pub use Rattle.kernel_run_facts.specs.table_births
