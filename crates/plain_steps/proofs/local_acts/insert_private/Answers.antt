use Rattle.std.proofs.Common.{ap, ◌∙◌}
use Rattle.std.specs.List.{insert, position_or_len}
use Rattle.plain_facts.specs.Acts.{stands_before}
use Rattle.plain_facts.proofs.PrivateLemmas.{private_at_place}
use Rattle.plain_steps.proofs.local_acts.insert_private.Goals as goal

pub returns-clause-ok : goal.returns-clause-ok
returns-clause-ok c =
    let ps = c.args.privates.now.items in
    c.in_ok-insert.ensures.items ∙ ap (λ n. insert ps n c.args.p) (c.place_of_private-place.ensures.place ∙ ap (position_or_len (stands_before c.args.p)) c.deref.ensures.value) ∙ private_at_place c.args.p ps
