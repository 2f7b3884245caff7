use Rattle.std.proofs.Common.{◌≡◌, ◌-◌, string_bytes, ap, ◌∙◌, arith}
use Rattle.model_kernel.specs.Births.{number_or_0}
use Rattle.model_kernel.specs.Scripts.{number_in}
use Rattle.script_types.specs.Scripts.{region_of}
use Rattle.plain_states.specs.Plains.{atlas_of}
use Rattle.model_act_facts.proofs.TableLemmas.{regions_more}
use Rattle.plain_states.proofs.tables.regions_from.Goals as goal

pub loop-i-preserved : goal.loop-i-preserved
loop-i-preserved c =
    let number = number_in (atlas_of c.args.atlas.now) c.args.own.now c.args.newborn in
    let more = regions_more number region_of c.args.tables.now c.loop-i.i (c.loop-i.i - 1) c.index-tables-i.result (omega arith) (omega arith) c.index-tables-i.is in
    let target : c.known_number-target.result ≡ number_or_0 number (string_bytes c.index-tables-i.result.target) = c.known_number-target.ensures ∙ ap (number_or_0 number) c.deref.ensures in
    cc (c.in_ok-insert_region.ensures.ok)
