pub mod Naming
pub mod Telling
pub use Rattle.store_books.proofs as store_books_lemmas
