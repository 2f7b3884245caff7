pub mod Touched
pub mod Noted
pub mod SoundPlans
pub mod SoundParts
pub mod SoundMaps
pub use Rattle.cell_wish_laws.proofs as cell_wish_laws_lemmas
pub use Rattle.plain_states.proofs as plain_states_lemmas
