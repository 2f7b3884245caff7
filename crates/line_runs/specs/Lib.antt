pub use Rattle.act_calls.specs as act_calls
