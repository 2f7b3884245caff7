pub use Rattle.model_circles.specs as model_circles
pub use Rattle.model_kernel.specs as model_kernel
