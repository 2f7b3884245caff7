use Rattle.std.proofs.Common.{[], subst}
use Rattle.blob_facts.specs.Fields.{IsByteIn, IsFound, IsRefused, Spells}
use Rattle.blob_facts.specs.Loci.{end_page}
use Rattle.blob_facts.specs.Parts.{IsRegionIn}
use Rattle.blob_reading.proofs.Exits.{hands_on}
use Rattle.blob_facts.proofs.PrivateFields.{made_refused, region_refused}
use Rattle.blob_reading.proofs.privates.read_private.Goals as goal

pub returns-in_err-made-clause-refused : goal.returns-in_err-made-clause-refused
returns-in_err-made-clause-refused c =
    hands_on _ c.from_residual.result c.from_residual.ensures.1
    (made_refused c.args.host c.args.page c.args.left c.requires.host c.requires.left c.requires.room c.args.bytes.now [] c.in_err-made.field-0.0.rest.now
    (subst (λ n. IsRefused (Spells (IsByteIn n 63)) c.args.bytes.now c.in_err-made.field-0.0.rest.now) c.least_host-least.ensures c.in_err-made.ensures.refused))

pub returns-in-Err-clause-refused : goal.returns-in-Err-clause-refused
returns-in-Err-clause-refused c =
    region_refused c.args.host c.args.page c.args.left c.requires.host c.requires.left c.requires.room c.args.bytes.now c.in_ok-made.rest.now c.in-Err.stuck.rest.now c.in_ok-made.made
    (subst (λ n. IsFound (IsByteIn n 63) c.args.bytes.now c.in_ok-made.made c.in_ok-made.rest.now) c.least_host-least.ensures c.in_ok-made.ensures.read)
    (subst (λ n. IsRefused (Spells (IsRegionIn n (end_page c.in_ok-made.made c.args.left))) c.in_ok-made.rest.now c.in-Err.stuck.rest.now) c.first_page-first.ensures
    (subst (λ n. IsRefused (Spells (IsRegionIn c.first_page-first.result n)) c.in_ok-made.rest.now c.in-Err.stuck.rest.now) c.end_page-end.ensures.page c.in-Err.ensures.refused))
