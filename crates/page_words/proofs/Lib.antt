mod Words
pub use Rattle.store_books.proofs.image_meaning_lemmas
pub use Rattle.store_books.proofs as store_books_lemmas
