use Rattle.node_records.proofs.Records.{shipped}
use Rattle.node_records.proofs.shipped_record_law.Goals as goal

pub returns : goal.returns
returns c = λ b es entity version stamp part pages bytes is spells image table long small have. shipped b es entity version stamp part pages bytes image table is spells long small have
