pub use Rattle.store_books.specs.image_meaning
pub use Rattle.store_books.specs.log_turn
pub use Rattle.store_books.specs as store_books
