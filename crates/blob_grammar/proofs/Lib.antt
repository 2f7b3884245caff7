pub mod Telling
pub mod Instructions
pub mod Fields
pub mod Edges
pub mod Values
pub mod Sizes
mod AtlasSizes
pub mod Joins
pub mod Placing
pub mod KindSizes
pub mod Smallest
mod Worked
pub mod Lengths
pub use Rattle.model_kernel.proofs as model_kernel_lemmas
