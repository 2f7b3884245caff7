pub mod Looking
pub mod Snaps
pub mod Standing
pub mod Acts
pub mod AtlasActs
pub use Rattle.model_serial_turns.specs.model_births
