pub mod Turns
pub mod Rising
pub use Rattle.model_serial.specs.model_births
pub use Rattle.model_serial.specs as model_serial
