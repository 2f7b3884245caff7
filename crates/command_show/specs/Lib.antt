pub mod Readings
pub mod Reports
pub mod Shows
pub use Rattle.image_reading.specs.plain_show
