use Rattle.std.proofs.Common.{◌≡◌, Bool, true, ◌&&◌, nat_le, sym, ap, ◌∙◌, rules, tests}
use Rattle.std.specs.List.{list_all}
use Rattle.std.proofs.lemmas.Bool.{le-leb}
use Rattle.std.proofs.lemmas.Iterator.{YieldsList-from_slice}
use Rattle.std.proofs.lemmas.Iterator.Search.{all_from_yields_List}
use Rattle.store_facts.specs.image_facts.Layout.{last_number}
use Rattle.store_snapshots.proofs.numbers.is_small.Goals as goal

pub returns-then-rec-le-LAST_NUMBER : goal.returns-then-rec-le-LAST_NUMBER
returns-then-rec-le-LAST_NUMBER c =
    let all : c.all.result ≡ list_all (λ n. nat_le n last_number) c.args.rec.now.stamp = all_from_yields_List (λ n. nat_le n last_number) _ _ c.all.result c.all.ensures.ran (YieldsList-from_slice c.args.rec.now.stamp cc) (λ x b q k. search (rules, tests)) in
    let first : nat_le c.args.rec.now.version last_number ≡ true = le-leb c.args.rec.now.version last_number c.if-rec-le-LAST_NUMBER.true in
    all ∙ sym (ap (λ (b : Bool). b && list_all (λ n. nat_le n last_number) c.args.rec.now.stamp) first)
