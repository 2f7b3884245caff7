pub use Rattle.command_promises.specs as command_promises
pub use Rattle.command_promises.specs.kernel_commits
pub use Rattle.command_promises.specs.kernel_core_facts
pub use Rattle.command_promises.specs.kernel_invariant
pub use Rattle.script_fits.specs.model_births
pub use Rattle.command_promises.specs.store_facts
pub use Rattle.command_promises.specs.table_births
