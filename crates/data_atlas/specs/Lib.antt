pub use Rattle.data_atlas_facts.specs as data_atlas_facts
pub use Rattle.data_atlas_facts.specs.model_circles
