use Rattle.std.proofs.Common.{◌≡◌, ◌+◌, drop}
use Rattle.data_atlas_facts.specs.Directory.{number_from}
use Rattle.data_atlas.proofs.names.number_of.Given as goal

abbrev pub invariant-loop-place : goal.invariant-loop-place
invariant-loop-place l = number_from (l.first + l.place) l.text (drop l.place l.names) ≡ number_from l.first l.text l.names
