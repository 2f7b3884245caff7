pub mod Entries
pub use Rattle.act_alone.specs as act_alone
pub use Rattle.act_alone.specs.data_regions
pub use Rattle.act_alone.specs.model_act_facts
pub use Rattle.act_alone.specs.model_acts
pub use Rattle.act_alone.specs.model_kernel
