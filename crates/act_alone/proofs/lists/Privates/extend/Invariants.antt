use Rattle.std.proofs.Common.{◌≡◌, ◌++◌, take}
use Rattle.act_alone.proofs.lists.Privates.extend.Given as goal

abbrev pub invariant-loop-p : goal.invariant-loop-p
invariant-loop-p l = l.self ≡ l.initial.self ++ take l.p-index l.new
