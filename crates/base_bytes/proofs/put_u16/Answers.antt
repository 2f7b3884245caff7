use Rattle.std.proofs.Common.{refl}
use Rattle.byteorder.specs.Endian.{little_bytes}
use Rattle.base_bytes.proofs.FieldLaws.{put_mid-field}
use Rattle.base_bytes.proofs.put_u16.Goals as goal

pub returns-clause-ok : goal.returns-clause-ok
returns-clause-ok c = record {
  within = c.in_ok-within.ensures.ok;
  put = put_mid-field c.args.at 2 _ c.args.bytes.now (little_bytes 2 c.args.value) _ refl c.write_u16.ensures;
}
