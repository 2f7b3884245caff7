pub mod Looks
pub mod Course
pub mod Bearing
pub mod Whereabouts
pub mod Stops
pub mod Picks
pub mod Ascent
pub use Rattle.model_serial.proofs.model_births_lemmas
pub use Rattle.model_serial.proofs as model_serial_lemmas
