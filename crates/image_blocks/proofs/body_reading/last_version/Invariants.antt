use Rattle.std.proofs.Common.{◌≡◌, take}
use Rattle.image_facts.specs.Checks.{last_version}
use Rattle.image_blocks.proofs.body_reading.last_version.Given as goal

abbrev pub invariant-loop-rec : goal.invariant-loop-rec
invariant-loop-rec l = l.last ≡ last_version (take l.rec-index l.before) l.entity
