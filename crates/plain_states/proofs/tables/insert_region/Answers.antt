use Rattle.std.proofs.Common.{nat_lt, ap, ◌∙◌}
use Rattle.std.specs.List.{insert, position_or_len}
use Rattle.model_act_facts.proofs.TableLemmas.{inserted_at}
use Rattle.plain_states.proofs.tables.insert_region.Goals as goal

pub returns-clause-ok : goal.returns-clause-ok
returns-clause-ok c =
    let rs = c.args.regions.now.items in
    c.in_ok-insert.ensures.items ∙ ap (λ n. insert rs n c.args.region) (c.place_of_page-place.ensures.place ∙ ap (position_or_len (λ other. nat_lt c.args.region.at other.at)) c.deref.ensures.value) ∙ inserted_at c.args.region rs
