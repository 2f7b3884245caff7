use Rattle.std.proofs.Common.{refl}
use Rattle.plain_steps.specs.model_kernel.State.{Supply}
use Rattle.plain_states.proofs.PlainBirths.{sound_here}
use Rattle.plain_states.specs.Plains.{atlas_of, cells_of}
use Rattle.script_types.specs.Scripts.{tables_of}
use Rattle.plain_steps.proofs.plain_facts_lemmas.DefinedBirths.{birth_defined}
use Rattle.plain_runs.proofs.KnownNames.{next_known}
use Rattle.plain_runs.proofs.newborns.bear.Goals as goal
use Rattle.plain_steps.proofs.model_births_lemmas.KnownNames.{next_name_is}

-- any supplier
nothing : Supply
nothing tag page place = 0

pub plain_birth-requires-clause-known : goal.plain_birth-requires-clause-known
plain_birth-requires-clause-known c =
    let a = atlas_of c.args.state.now.atlas in
    let script = tables_of c.args.script.now in
    next_known a script c.args.name.now (next_name_is a script c.args.name.now c.requires.script c.requires.next)

pub unreachable-requires : goal.unreachable-requires
unreachable-requires c =
    let p = c.args.state.now in
    let a = atlas_of p.atlas in
    let script = tables_of c.args.script.now in
    let name = c.args.name.now in
    let sound = sound_here nothing p (c.requires.sound nothing) in
    let undefined = rw c.in-None.is at c.in_ok-entry.ensures.undefined in
    birth_defined nothing script name a (cells_of nothing p) c.args.versions.now sound.atlas c.requires.script c.requires.fits (next_name_is a script name c.requires.script c.requires.next) (undefined.0 refl nothing)
