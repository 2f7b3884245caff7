pub mod Told
pub use Rattle.store_books.specs as store_books
pub use Rattle.store_books.specs.image_meaning
pub use Rattle.store_books.specs.model_kernel
pub use Rattle.store_books.specs.model_cut_laws
