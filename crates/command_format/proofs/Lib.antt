pub mod Formatted
pub use Rattle.image_format.proofs.image_meaning_lemmas
