use Rattle.script_types.specs.Scripts.{tables_of}
use Rattle.act_calls.specs.Calls.{atlas_state}
use Rattle.test_acts.proofs.script_against_tests.a_container_is_next_and_then_its_locus.Goals as goal

pub next_table-first-requires : goal.next_table-first-requires
next_table-first-requires g c = c.new.ensures (atlas_state c.new-atlas.result) (tables_of c.in_ok-script.script)

pub next_table-second-requires : goal.next_table-second-requires
next_table-second-requires g c = c.new-2.ensures (atlas_state c.birth.new.self) (tables_of c.in_ok-script.script)
