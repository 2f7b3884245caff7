-- No entity so far has the name.
use Rattle.std.proofs.Common.{ℕ, ◌<◌}
use Rattle.plain_states.specs.Plains.{atlas_of}
use Rattle.trace_facts.specs.Words.{IsNamed}
use Rattle.trace_checker.proofs.naming.entity_named.Given as goal

abbrev pub invariant-loop-x : goal.invariant-loop-x
invariant-loop-x l = (k : ℕ) → k < l.x → IsNamed (atlas_of l.atlas) l.name k → ⊥
