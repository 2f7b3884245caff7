pub mod Choosing
pub mod Committed
pub mod Holds
pub mod Keeping
pub mod Naming
pub mod Opening
pub mod Putting
pub mod Rests
pub mod Shelves
pub mod State
pub mod Taking
pub use Rattle.data_cut_facts.specs as data_cut_facts
pub use Rattle.log_reading.specs.image_blocks
pub use Rattle.log_reading.specs.image_facts
pub use Rattle.page_words.specs.image_meaning
pub use Rattle.log_reading.specs.log_facts
pub use Rattle.log_reading.specs as log_reading
pub use Rattle.page_words.specs.log_turn
pub use Rattle.data_cuts.specs.model_cut_laws
pub use Rattle.page_words.specs.store_books
pub use Rattle.store_commit.specs as store_commit
