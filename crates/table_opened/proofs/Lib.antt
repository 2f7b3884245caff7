pub mod Spread
mod Numbers
mod OnePart
mod OneCell
mod AllCells
pub use Rattle.image_chosen.proofs as image_chosen_lemmas
pub use Rattle.image_chosen.proofs.image_chosen_facts_lemmas
pub use Rattle.image_state_laws.proofs.image_meaning_lemmas
pub use Rattle.image_state_laws.proofs as image_state_laws_lemmas
