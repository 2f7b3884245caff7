pub mod Facing
pub mod Copying
pub mod Leaving
pub mod Needs
pub use Rattle.copy_commits.specs as copy_commits
pub use Rattle.open_image.specs as open_image
pub use Rattle.open_image.specs.open_facts
pub use Rattle.open_image.specs.store_facts
pub use Rattle.cell_copies.specs as cell_copies
pub use Rattle.cell_copies.specs.model_copies
pub use Rattle.open_image.specs.image_meaning
pub use Rattle.open_image.specs.image_blocks
pub use Rattle.open_image.specs.kernel_record_facts
pub use Rattle.open_image.specs.table_laws
pub use Rattle.page_placing.specs as page_placing
