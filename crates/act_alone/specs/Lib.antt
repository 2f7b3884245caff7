pub mod Loci
pub use Rattle.data_regions.specs as data_regions
pub use Rattle.model_act_facts.specs as model_act_facts
pub use Rattle.model_acts.specs as model_acts
pub use Rattle.model_kernel.specs as model_kernel
