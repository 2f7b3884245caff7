pub use Rattle.trace_checker.specs.trace_facts
