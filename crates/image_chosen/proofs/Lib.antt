pub mod Placing
pub mod Verdicts
pub use Rattle.image_chosen_facts.proofs as image_chosen_facts_lemmas
pub use Rattle.image_chosen_facts.proofs.image_fits_lemmas
