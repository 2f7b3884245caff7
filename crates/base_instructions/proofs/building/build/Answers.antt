use Rattle.base_instructions.proofs.building.build.Goals as goal

pub returns-in-2 : goal.returns-in-2
returns-in-2 c = rw (c.in-2.is, c.register_at-a.ensures, c.register_at-b.ensures)
