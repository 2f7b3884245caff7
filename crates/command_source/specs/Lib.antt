pub mod Sources
pub use Rattle.command_outcomes.specs as command_outcomes
