use Rattle.std.proofs.Common.{[], sym, subst}
use Rattle.blob_facts.specs.Fields.{IsFound}
use Rattle.blob_facts.specs.Parts.{IsRegionIn}
use Rattle.blob_reading.proofs.Exits.{hands_on}
use Rattle.blob_facts.proofs.RegionFields.{access_refused, at_refused, count_refused, from_refused, region_found, region_with, target_refused}
use Rattle.blob_reading.proofs.regions.read_region.Goals as goal

pub returns-in_err-at-clause-refused : goal.returns-in_err-at-clause-refused
returns-in_err-at-clause-refused c =
    hands_on _ c.from_residual.result c.from_residual.ensures.1
    (at_refused c.args.least c.args.most c.requires.some c.requires.size c.args.bytes.now [] [] [] [] c.in_err-at.field-0.0.rest.now 0 0 0 0 c.in_err-at.ensures.refused)

pub returns-in_err-count-clause-refused : goal.returns-in_err-count-clause-refused
returns-in_err-count-clause-refused c =
    hands_on _ c.from_residual-in_err-count.result c.from_residual-in_err-count.ensures.1
    (count_refused c.args.least c.args.most c.requires.some c.requires.size c.args.bytes.now c.in_ok-at.rest.now [] [] [] c.in_err-count.field-0.0.rest.now c.in_ok-at.at 0 0 0 c.in_ok-at.ensures.read c.in_err-count.ensures.refused)

pub returns-in_err-target-clause-refused : goal.returns-in_err-target-clause-refused
returns-in_err-target-clause-refused c =
    hands_on _ c.from_residual-in_err-target.result c.from_residual-in_err-target.ensures.1
    (target_refused c.args.least c.args.most c.requires.some c.requires.size c.args.bytes.now c.in_ok-at.rest.now c.in_ok-count.rest.now [] [] c.in_err-target.field-0.0.rest.now c.in_ok-at.at c.in_ok-count.count 0 0 c.in_ok-at.ensures.read c.in_ok-count.ensures.read c.in_err-target.ensures.refused)

pub returns-in_err-from-clause-refused : goal.returns-in_err-from-clause-refused
returns-in_err-from-clause-refused c =
    hands_on _ c.from_residual-in_err-from.result c.from_residual-in_err-from.ensures.1
    (from_refused c.args.least c.args.most c.requires.some c.requires.size c.args.bytes.now c.in_ok-at.rest.now c.in_ok-count.rest.now c.in_ok-target.rest.now [] c.in_err-from.field-0.0.rest.now c.in_ok-at.at c.in_ok-count.count c.in_ok-target.target 0 c.in_ok-at.ensures.read c.in_ok-count.ensures.read c.in_ok-target.ensures.read c.in_err-from.ensures.refused)

pub returns-in_err-access-clause-refused : goal.returns-in_err-access-clause-refused
returns-in_err-access-clause-refused c =
    hands_on _ c.from_residual-in_err-access.result c.from_residual-in_err-access.ensures.1
    (access_refused c.args.least c.args.most c.requires.some c.requires.size c.args.bytes.now c.in_ok-at.rest.now c.in_ok-count.rest.now c.in_ok-target.rest.now c.in_ok-from.rest.now c.in_err-access.field-0.0.rest.now c.in_ok-at.at c.in_ok-count.count c.in_ok-target.target c.in_ok-from.from c.in_ok-at.ensures.read c.in_ok-count.ensures.read c.in_ok-target.ensures.read c.in_ok-from.ensures.read c.in_err-access.ensures.refused)

pub returns-clause-read : goal.returns-clause-read
returns-clause-read c =
    subst (λ target. IsFound (IsRegionIn c.args.least c.args.most) c.args.bytes.now (region_with c.in_ok-at.at c.in_ok-count.count target c.in_ok-from.from c.in_ok-access.access) c.in_ok-access.rest.now) (sym c.of.ensures)
    (region_found c.args.least c.args.most c.requires.some c.requires.size c.args.bytes.now c.in_ok-at.rest.now c.in_ok-count.rest.now c.in_ok-target.rest.now c.in_ok-from.rest.now c.in_ok-access.rest.now c.in_ok-at.at c.in_ok-count.count c.in_ok-target.target c.in_ok-from.from c.in_ok-access.access c.in_ok-at.ensures.read c.in_ok-count.ensures.read c.in_ok-target.ensures.read c.in_ok-from.ensures.read c.in_ok-access.ensures.read)
