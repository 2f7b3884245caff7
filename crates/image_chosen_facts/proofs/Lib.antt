pub mod Naming
pub mod Reading
pub mod Slots
pub mod Unfit
pub use Rattle.image_blobs.proofs.image_fits_lemmas
pub use Rattle.image_blobs.proofs.log_facts_lemmas
