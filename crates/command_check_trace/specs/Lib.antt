pub mod Sources
pub mod Verdicts
pub use Rattle.command_promises.specs as command_promises
pub use Rattle.command_promises.specs.image_facts
pub use Rattle.command_promises.specs.kernel_invariant
pub use Rattle.command_promises.specs.model_serial
pub use Rattle.command_promises.specs.open_facts
pub use Rattle.command_promises.specs.open_kernel
pub use Rattle.trace_checker.specs.trace_step_facts
