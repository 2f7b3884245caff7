use Rattle.std.proofs.Common.{◌≡◌, length, take}
use Rattle.act_alone.proofs.lists.Code.new.Given as goal

abbrev pub invariant-loop-place : goal.invariant-loop-place
invariant-loop-place l = (length l.instrs ≡ 128) × (take l.place l.instrs ≡ take l.place l.code)
