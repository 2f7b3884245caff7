mod Joining
pub use Rattle.image_fits.proofs as image_fits_lemmas
pub use Rattle.image_fits.proofs.image_meaning_lemmas
pub use Rattle.log_reading.proofs.log_facts_lemmas
