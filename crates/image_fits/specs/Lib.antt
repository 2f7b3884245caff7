pub mod Chosen
pub mod Edges
pub mod Fits
pub mod Naming
pub use Rattle.act_alone.specs as act_alone
pub use Rattle.blob_atlas.specs.blob_reading
pub use Rattle.image_fit_facts.specs.image_meaning
