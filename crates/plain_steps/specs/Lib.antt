pub use Rattle.plain_facts.specs.model_births
pub use Rattle.model_kernel.specs as model_kernel
pub use Rattle.plain_facts.specs as plain_facts
