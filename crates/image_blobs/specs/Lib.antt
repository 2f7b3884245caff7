pub mod Loading
pub use Rattle.image_fits.specs.act_alone
pub use Rattle.image_fits.specs.blob_reading
pub use Rattle.log_reading.specs.image_blocks
pub use Rattle.log_reading.specs.image_facts
pub use Rattle.image_fits.specs as image_fits
pub use Rattle.image_fits.specs.image_meaning
pub use Rattle.log_reading.specs.log_facts
pub use Rattle.log_reading.specs as log_reading
