pub mod Mapping
pub use Rattle.act_calls.specs.act_alone
pub use Rattle.act_calls.specs as act_calls
pub use Rattle.act_calls.specs.act_invoke
pub use Rattle.act_calls.specs.base_types
pub use Rattle.act_calls.specs.data_atlas_facts
pub use Rattle.act_calls.specs.data_regions
