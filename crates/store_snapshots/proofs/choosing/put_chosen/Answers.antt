use Rattle.std.proofs.Common.{◌≡◌, ◌++◌, Option, length, take, ap, sym, append-nil, ◌∙◌, arith}
use Rattle.std.proofs.lemmas.List.{take_more_set}
use Rattle.base_types.specs.declared.records.Rec.{Rec}
use Rattle.store_facts.specs.Choosing.{listed}
use Rattle.store_snapshots.proofs.choosing.put_chosen.Goals as goal

pub returns-in-Some-clause-put : goal.returns-in-Some-clause-put
returns-in-Some-clause-put c =
    take_more_set c.args.chosen.now c.args.used c.in-Some.rec (let room = c.requires in let all : length c.args.chosen.now ≡ 64 = omega arith in omega (arith, room, all))
    ∙ ap (λ (o : Option Rec). take c.args.used c.args.chosen.now ++ listed o) (sym c.in-Some.is)

pub returns-in-None-clause-put : goal.returns-in-None-clause-put
returns-in-None-clause-put c = sym (append-nil (take c.args.used c.args.chosen.now)) ∙ ap (λ (o : Option Rec). take c.args.used c.args.chosen.now ++ listed o) (sym c.in-None.is)
