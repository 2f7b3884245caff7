use Rattle.std.proofs.Common.{sym, ◌∙◌}
use Rattle.blob_reading.proofs.blob_facts_lemmas.NameTests.{made_so}
use Rattle.blob_atlas.proofs.names.is_made_so.Goals as goal

pub returns-then-len-size : goal.returns-then-len-size
returns-then-len-size c =
    made_so c.args.number c.args.size c.args.front.now.bytes c.made_name-made.result.bytes c.starts_with.result c.made_name-made.ensures
    (sym c.if-len-size.true ∙ c.len.ensures.value) (cc)
