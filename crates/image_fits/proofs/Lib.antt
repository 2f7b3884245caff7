pub mod Uses
pub mod Choices
pub mod Counting
pub mod Fitting
pub use Rattle.image_fit_facts.proofs.image_meaning_lemmas
