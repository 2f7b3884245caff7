pub mod Circling
pub mod Counting
pub mod Naming
pub mod Tallies
pub mod Uses
pub use Rattle.image_meaning.proofs as image_meaning_lemmas
