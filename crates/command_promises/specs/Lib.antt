pub mod Booked
pub mod Drilling
pub mod Leaving
pub mod Manners
pub mod OfScript
pub mod Playing
pub mod Short
pub mod Tellings
pub mod Openings
pub mod Ready
pub mod TraceBooked
pub mod TraceLeaving
pub mod SourceParts
pub mod Sources
pub mod Traces
pub mod Keeping
pub mod Runs
pub use Rattle.image_facts.specs as image_facts
pub use Rattle.image_format.specs.image_meaning
pub use Rattle.kernel_runs.specs.kernel_commits
pub use Rattle.kernel_runs.specs.kernel_core_facts
pub use Rattle.open_kernel.specs.kernel_invariant
pub use Rattle.model_serial.specs.model_births
pub use Rattle.model_serial.specs as model_serial
pub use Rattle.open_kernel.specs.open_facts
pub use Rattle.open_kernel.specs as open_kernel
pub use Rattle.script_meaning.specs as script_meaning
pub use Rattle.open_kernel.specs.store_facts
pub use Rattle.kernel_runs.specs.table_births
