pub mod Looks
pub use Rattle.act_invoke.specs.act_alone
pub use Rattle.act_invoke.specs as act_invoke
pub use Rattle.page_memory.specs.data_frames
pub use Rattle.page_memory.specs.edge_disk
pub use Rattle.act_invoke.specs.model_act_facts
pub use Rattle.act_invoke.specs.model_acts
pub use Rattle.act_invoke.specs.model_kernel
pub use Rattle.page_memory.specs as page_memory
pub use Rattle.page_memory.specs.page_store
