mod Fronts
pub use Rattle.image_meaning.proofs as image_meaning_lemmas
