pub mod TableLists
pub mod Linking
pub mod Bearing
pub mod Readiness
pub use Rattle.script_fits.proofs.act_atlas_laws_lemmas
pub use Rattle.cell_wish_laws.proofs as cell_wish_laws_lemmas
pub use Rattle.script_fits.proofs.model_births_lemmas
pub use Rattle.cell_wish_laws.proofs.model_run_laws_lemmas
pub use Rattle.script_fits.proofs as script_fits_lemmas
