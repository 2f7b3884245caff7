use Rattle.std.proofs.Common.{refl}
use Rattle.model_kernel.proofs.examples_hold.Goals as goal
use Rattle.model_kernel.specs.Refusals.{refusal}
use Rattle.model_kernel.specs.Acts.{allowed, wanted}
use Rattle.model_kernel.specs.Outcomes.{local_act, load, store, invoke, leave, back, map_region, unmap, take_cap, give, make, spawn, on_cell, with_newborn, outcome}
use Rattle.model_kernel.specs.Changes.{changed}
use Rattle.model_kernel.specs.Steps.{change_of, step_change}
use Rattle.model_kernel.specs.Births.{birth_change, next_birth_change}
use Rattle.model_kernel.specs.Choices.{greatest, covered}

pub returns-clause-a_store_a_load_and_a_print : goal.returns-clause-a_store_a_load_and_a_print
unfolding refusal allowed wanted local_act load store invoke leave back map_region unmap take_cap give make spawn on_cell with_newborn outcome changed change_of step_change birth_change next_birth_change greatest covered
returns-clause-a_store_a_load_and_a_print c = refl

pub returns-clause-a_walk_that_ends_in_a_denial : goal.returns-clause-a_walk_that_ends_in_a_denial
unfolding refusal allowed wanted local_act load store invoke leave back map_region unmap take_cap give make spawn on_cell with_newborn outcome changed change_of step_change birth_change next_birth_change greatest covered
returns-clause-a_walk_that_ends_in_a_denial c = refl

pub returns-clause-mappings_that_close_a_circle : goal.returns-clause-mappings_that_close_a_circle
unfolding refusal allowed wanted local_act load store invoke leave back map_region unmap take_cap give make spawn on_cell with_newborn outcome changed change_of step_change birth_change next_birth_change greatest covered
returns-clause-mappings_that_close_a_circle c = refl

pub returns-clause-a_private_region_counts_in_its_host : goal.returns-clause-a_private_region_counts_in_its_host
unfolding refusal allowed wanted local_act load store invoke leave back map_region unmap take_cap give make spawn on_cell with_newborn outcome changed change_of step_change birth_change next_birth_change greatest covered
returns-clause-a_private_region_counts_in_its_host c = refl
