use Rattle.std.proofs.Common.{◌+◌, slice_set, take, subst, ◌∙◌, arith}
use Rattle.std.proofs.lemmas.List.{drop-set-lt, length-set, take_more_set}
use Rattle.blob_facts.specs.Fields.{IsFound}
use Rattle.blob_facts.specs.Parts.{IsTableSpelled}
use Rattle.blob_facts.proofs.Numbers.{tells}
use Rattle.blob_facts.proofs.Plain.{plain_all, plain_more}
use Rattle.blob_facts.proofs.Tables.{Block, block_refused, last_block, table_found}
use Rattle.blob_reading.proofs.lists.read_table.Goals as goal

pub returns-in-Err-clause-refused : goal.returns-in-Err-clause-refused
returns-in-Err-clause-refused c =
    block_refused c.args.pages c.args.bytes.now c.loop-page.page (take c.loop-page.page c.loop-page.table) c.loop-page.rest.now c.in-Err.stuck.rest.now
    c.loop-page-test.true c.loop-page.invariant.1 c.in-Err.ensures.refused

pub loop-page-preserved : goal.loop-page-preserved
loop-page-preserved c =
    let len = c.loop-page.invariant.0 in
    let more = c.loop-page-test.true in
    let most = c.requires in (
      length-set c.loop-page.table c.loop-page.page c.in-Ok.read.0 ∙ len,
      plain_more Block c.args.pages c.args.bytes.now c.loop-page.page (take c.loop-page.page c.loop-page.table) c.loop-page.rest.now c.in-Ok.read.1.now c.in-Ok.read.0
          (take (c.loop-page.page + 1) (slice_set c.loop-page.table c.loop-page.page c.in-Ok.read.0))
          (tells 4 0 last_block (omega arith)) c.loop-page-test.true c.loop-page.invariant.1 c.in-Ok.ensures.read (take_more_set c.loop-page.table c.loop-page.page c.in-Ok.read.0 (omega (arith, len, more, most))),
      drop-set-lt c.args.pages c.loop-page.table c.loop-page.page c.in-Ok.read.0 more ∙ c.loop-page.invariant.2,
    )

pub returns-clause-read : goal.returns-clause-read
returns-clause-read c =
    let end = c.loop-page-test.false in
    let within = c.loop-page.auto.page-end in
    subst (λ n. IsFound (IsTableSpelled c.args.pages) c.args.bytes.now (take n c.loop-page.table) c.loop-page.rest.now) (omega (arith, end, within))
    (table_found c.args.pages c.args.bytes.now c.loop-page.rest.now (take c.loop-page.page c.loop-page.table)
    (plain_all Block c.args.pages c.args.bytes.now c.loop-page.page (take c.loop-page.page c.loop-page.table) c.loop-page.rest.now end c.loop-page.invariant.1))
