use Rattle.std.proofs.Common.{◌++◌, ◌∷◌, [], None, sym, subst}
use Rattle.base_types.specs.declared.histories.Entry.{Entry}
use Rattle.plain_runs.specs.Standing.{Stands}
use Rattle.plain_runs.proofs.Placing.{pay_stands}
use Rattle.plain_runs.proofs.serial.pay.Goals as goal

pub returns-clause-further : goal.returns-clause-further
returns-clause-further c s script w es h =
    let old = c.args.run.now in
    subst (λ (e : Entry). Stands s script w (record old { owed = None }) (es ++ e ∷ [])) (sym c.stable_of.ensures) (pay_stands s script w old c.args.actor es c.requires h)
