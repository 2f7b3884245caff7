use Rattle.plain_states.proofs.PlainBirths.{few_names}
use Rattle.plain_states.specs.Plains.{atlas_of}
use Rattle.script_types.specs.Scripts.{tables_of}
use Rattle.plain_runs.proofs.KnownNames.{next_known, next_name_is}
use Rattle.test_replays.proofs.replays.Replay.bear.Goals as goal

pub against-requires : goal.against-requires
against-requires c = few_names c.self.inside.state c.self.invariant.sound

pub next_name-requires : goal.next_name-requires
next_name-requires c = few_names c.self.inside.state c.self.invariant.sound

pub plain_birth-requires-clause-sound : goal.plain_birth-requires-clause-sound
plain_birth-requires-clause-sound c = c.self.invariant.sound

pub plain_birth-requires-clause-edges : goal.plain_birth-requires-clause-edges
plain_birth-requires-clause-edges c = c.self.invariant.edges

pub plain_birth-requires-clause-known : goal.plain_birth-requires-clause-known
plain_birth-requires-clause-known c =
    let a = atlas_of c.self.inside.state.atlas in
    let script = tables_of c.args.script.now in
    next_known a script c.in-Some.name.now (next_name_is a script c.in-Some.name.now c.requires.script c.in-Some.ensures.some)

pub plain_birth-requires-clause-kinds : goal.plain_birth-requires-clause-kinds
plain_birth-requires-clause-kinds c = c.in-Ok.ensures.ok.kinds

pub invariant_of-self : goal.invariant_of-self
invariant_of-self c = record { sound = c.plain_birth.ensures.sound; edges = c.plain_birth.ensures.edges }
