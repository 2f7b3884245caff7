pub mod Beginnings
pub mod Records
pub mod Telling
pub mod Owning
pub mod Left
pub mod Marks
pub mod Live
pub use Rattle.store_books.specs.image_blocks
pub use Rattle.store_books.specs.image_facts
pub use Rattle.store_books.specs.image_meaning
pub use Rattle.store_books.specs.model_cut_laws
pub use Rattle.model_sound_states.specs.model_kernel
pub use Rattle.model_sound_states.specs.script_types
pub use Rattle.store_books.specs as store_books
pub use Rattle.store_told.specs as store_told
