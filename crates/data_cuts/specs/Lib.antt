pub use Rattle.data_cut_facts.specs as data_cut_facts
pub use Rattle.model_cut_laws.specs as model_cut_laws
pub use Rattle.model_cut_laws.specs.model_kernel
