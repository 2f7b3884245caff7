pub mod Calls
pub use Rattle.act_invoke.specs.act_alone
pub use Rattle.act_invoke.specs as act_invoke
pub use Rattle.base_types.specs as base_types
pub use Rattle.data_atlas.specs.data_atlas_facts
pub use Rattle.act_invoke.specs.data_regions
pub use Rattle.act_invoke.specs.model_act_facts
pub use Rattle.act_invoke.specs.model_acts
pub use Rattle.act_invoke.specs.model_kernel
