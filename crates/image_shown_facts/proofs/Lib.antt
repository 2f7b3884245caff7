pub mod Aside
pub mod Keeping
pub mod Listing
pub mod Low
pub mod Making
pub mod Reading
pub use Rattle.image_chosen.proofs as image_chosen_lemmas
pub use Rattle.image_state_laws.proofs.image_meaning_lemmas
pub use Rattle.image_state_laws.proofs as image_state_laws_lemmas
