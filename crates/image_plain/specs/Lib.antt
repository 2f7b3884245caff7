pub mod Names
pub mod Words
pub use Rattle.plain_states.specs as plain_states
