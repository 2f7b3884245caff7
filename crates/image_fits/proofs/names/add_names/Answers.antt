use Rattle.std.proofs.Common.{◌+◌}
use Rattle.image_fit_facts.specs.Naming.{count_of}
use Rattle.image_fits.proofs.Uses.{named_more}
use Rattle.image_fits.proofs.names.add_names.Goals as goal

pub returns-in-Some : goal.returns-in-Some
returns-in-Some c = λ f before.
    let one = c.add_uses.ensures f before in
    let two = c.add_uses-in-Some.ensures (λ b. f b + count_of c.table_of.result.now b) one in
    let three = c.add_uses-in-Some-2.ensures (λ b. f b + count_of c.table_of.result.now b + count_of c.blob_of.result.now b) two in
    named_more c.add_uses-in-Some-2.new.uses f c.args.chosen.now c.in-Some.entity c.in-Some.is c.table_of.result.now c.blob_of.result.now c.blob_of-in-Some.result.now
    c.table_of.ensures c.blob_of.ensures c.blob_of-in-Some.ensures three
