pub mod Answers
pub mod Standing
pub use Rattle.log_append.specs.log_facts
