pub mod Standing
pub mod Asking
pub use Rattle.trace_step_facts.specs as trace_step_facts
