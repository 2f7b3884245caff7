-- What stands in a refusal.
use Rattle.std.specs.Prelude.{ℕ}
use Rattle.script_types.specs.declared.refusals.Why.{Why}
use Rattle.script_types.specs.declared.refusals.Why.TheVariants.{NotToml, Missing, Kind, Name, Unknown, Range, TooMany, BadCode, Long, NoRoom, Clash}

-- the number that stands for what is wrong
abbrev pub why_number : Why → ℕ
why_number NotToml = 1
why_number Missing = 2
why_number Kind = 3
why_number Name = 4
why_number Unknown = 5
why_number Range = 6
why_number TooMany = 7
why_number BadCode = 8
why_number Long = 9
why_number NoRoom = 10
why_number Clash = 11
