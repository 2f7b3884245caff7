pub mod Placing
pub use Rattle.page_placing.specs as page_placing
