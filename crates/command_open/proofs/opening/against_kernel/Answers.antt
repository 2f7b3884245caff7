use Rattle.std.proofs.Common.{sym, subst}
use Rattle.std.specs.Prelude.{IfErr, OnOk}
use Rattle.script_fits.specs.model_births.Fitting.{Fits}
use Rattle.script_types.specs.model_kernel.State.{AtlasState}
use Rattle.script_fits.specs.model_births.Misfits.{IsMisfit}
use Rattle.script_types.specs.Scripts.{tables_of}
use Rattle.command_promises.proofs.Readied.{lent_atlas}
use Rattle.command_open.proofs.opening.against_kernel.Goals as goal

pub returns-clause-ok : goal.returns-clause-ok
returns-clause-ok g c =
    subst (λ (a : AtlasState). OnOk c.against.result (Fits a (tables_of c.args.script.now))) (sym (lent_atlas c.args.kernel.now.parts.cells c.atlas.result.now c.requires.whole c.atlas.ensures)) c.against.ensures.ok

pub returns-clause-refused : goal.returns-clause-refused
returns-clause-refused g c =
    subst (λ (a : AtlasState). IfErr c.against.result (IsMisfit a (tables_of c.args.script.now))) (sym (lent_atlas c.args.kernel.now.parts.cells c.atlas.result.now c.requires.whole c.atlas.ensures)) c.against.ensures.refused
