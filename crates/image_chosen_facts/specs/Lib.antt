pub mod Choosing
pub mod Parts
pub mod Tables
pub use Rattle.image_blobs.specs.act_alone
pub use Rattle.image_blobs.specs.blob_reading
pub use Rattle.image_blobs.specs as image_blobs
pub use Rattle.image_blobs.specs.image_fits
pub use Rattle.image_blobs.specs.image_meaning
pub use Rattle.image_blobs.specs.log_facts
pub use Rattle.image_blobs.specs.log_reading
