pub mod Facts
pub mod States
pub mod Words
pub use Rattle.image_chosen.specs as image_chosen
pub use Rattle.image_chosen.specs.image_chosen_facts
pub use Rattle.image_chosen.specs.image_fits
pub use Rattle.image_state_laws.specs.image_meaning
pub use Rattle.image_plain.specs as image_plain
pub use Rattle.page_words.specs.store_books
