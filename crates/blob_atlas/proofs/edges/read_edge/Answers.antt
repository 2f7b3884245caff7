use Rattle.std.proofs.Common.{[]}
use Rattle.blob_reading.specs.blob_facts.Fields.{IsByteIn, IsFound, IsRefused, Spells}
use Rattle.blob_reading.proofs.Exits.{bounds_as, hands_on}
use Rattle.blob_reading.proofs.blob_facts_lemmas.EdgeFields.{count_refused, edge_found, from_refused, to_refused}
use Rattle.blob_atlas.proofs.edges.read_edge.Goals as goal

pub returns-in_err-from-clause-refused : goal.returns-in_err-from-clause-refused
returns-in_err-from-clause-refused c =
    hands_on _ c.from_residual.result c.from_residual.ensures.1
    (from_refused c.args.least c.args.most c.requires.some c.requires.size c.args.bytes.now [] [] c.in_err-from.field-0.0.rest.now 0 0
    (bounds_as (λ low high. IsRefused (Spells (IsByteIn low high)) c.args.bytes.now c.in_err-from.field-0.0.rest.now) c.row-first_row.ensures c.row-last_row.ensures c.in_err-from.ensures.refused))

pub returns-in_err-to-clause-refused : goal.returns-in_err-to-clause-refused
returns-in_err-to-clause-refused c =
    hands_on _ c.from_residual-in_err-to.result c.from_residual-in_err-to.ensures.1
    (to_refused c.args.least c.args.most c.requires.some c.requires.size c.args.bytes.now c.in_ok-from.rest.now [] c.in_err-to.field-0.0.rest.now c.in_ok-from.from 0
    (bounds_as (λ low high. IsFound (IsByteIn low high) c.args.bytes.now c.in_ok-from.from c.in_ok-from.rest.now) c.row-first_row.ensures c.row-last_row.ensures c.in_ok-from.ensures.read)
    (bounds_as (λ low high. IsRefused (Spells (IsByteIn low high)) c.in_ok-from.rest.now c.in_err-to.field-0.0.rest.now) c.least_column-first_column.ensures c.most_column-last_column.ensures c.in_err-to.ensures.refused))

pub returns-in_err-count-clause-refused : goal.returns-in_err-count-clause-refused
returns-in_err-count-clause-refused c =
    hands_on _ c.from_residual-in_err-count.result c.from_residual-in_err-count.ensures.1
    (count_refused c.args.least c.args.most c.requires.some c.requires.size c.args.bytes.now c.in_ok-from.rest.now c.in_ok-to.rest.now c.in_err-count.field-0.0.rest.now c.in_ok-from.from c.in_ok-to.to
    (bounds_as (λ low high. IsFound (IsByteIn low high) c.args.bytes.now c.in_ok-from.from c.in_ok-from.rest.now) c.row-first_row.ensures c.row-last_row.ensures c.in_ok-from.ensures.read)
    (bounds_as (λ low high. IsFound (IsByteIn low high) c.in_ok-from.rest.now c.in_ok-to.to c.in_ok-to.rest.now) c.least_column-first_column.ensures c.most_column-last_column.ensures c.in_ok-to.ensures.read)
    c.in_err-count.ensures.refused)

pub returns-clause-read : goal.returns-clause-read
returns-clause-read c =
    edge_found c.args.least c.args.most c.requires.some c.requires.size c.args.bytes.now c.in_ok-from.rest.now c.in_ok-to.rest.now c.in_ok-count.rest.now c.in_ok-from.from c.in_ok-to.to c.in_ok-count.count
    (bounds_as (λ low high. IsFound (IsByteIn low high) c.args.bytes.now c.in_ok-from.from c.in_ok-from.rest.now) c.row-first_row.ensures c.row-last_row.ensures c.in_ok-from.ensures.read)
    (bounds_as (λ low high. IsFound (IsByteIn low high) c.in_ok-from.rest.now c.in_ok-to.to c.in_ok-to.rest.now) c.least_column-first_column.ensures c.most_column-last_column.ensures c.in_ok-to.ensures.read)
    c.in_ok-count.ensures.read
