pub mod Digits
pub mod Naming
pub mod Pigeons
pub use Rattle.model_circles.proofs as model_circles_lemmas
