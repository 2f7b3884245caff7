pub mod Copies
pub use Rattle.container_copy.specs as container_copy
