-- The numbers of replies.
use Rattle.std.specs.Prelude.{ℕ, ◌+◌}
use Rattle.base_types.specs.declared.instructions.Reply.{Reply}
use Rattle.base_types.specs.declared.instructions.Reply.TheVariants.{Ok, NoSlot, WrongKind, NoPage, Circle, Overlap, ListFull, NoCaller, NoEntry, Deep, NoNumber, NoRegion, Denied}
use Rattle.base_types.specs.Rights.{bit_of}

-- the number that stands for a reply
abbrev pub reply_number : Reply → ℕ
reply_number Ok = 0
reply_number NoSlot = 1
reply_number WrongKind = 2
reply_number NoPage = 3
reply_number Circle = 4
reply_number Overlap = 5
reply_number ListFull = 6
reply_number NoCaller = 7
reply_number NoEntry = 8
reply_number Deep = 9
reply_number NoNumber = 10
reply_number NoRegion = 11
reply_number (Denied right) = 16 + bit_of right
