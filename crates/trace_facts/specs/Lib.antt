pub mod Reading
pub mod Words
pub mod Traces
pub use Rattle.trace_steps.specs.trace_step_facts
pub use Rattle.trace_steps.specs as trace_steps
