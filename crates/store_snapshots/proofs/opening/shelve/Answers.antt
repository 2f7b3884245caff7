use Rattle.std.proofs.Common.{◌≡◌, ℕ, ◌+◌, ◌++◌, ◌∷◌, [], List, ◌∙◌, ap, sym, map, take}
use Rattle.std.proofs.lemmas.List.{take_more}
use Rattle.base_types.specs.declared.records.Rec.{Rec}
use Rattle.store_facts.specs.Opening.{unread}
use Rattle.store_facts.proofs.Opened.{shelve_more}
use Rattle.store_snapshots.proofs.opening.shelve.Goals as goal

pub loop-rec-preserved : goal.loop-rec-preserved
loop-rec-preserved c =
    let recs : List Rec = c.args.recs.now in
    let rec : Rec = c.rec-item.result in
    let i : ℕ = c.loop-rec.rec-index in
    let items : take (i + 1) recs ≡ take i recs ++ rec ∷ [] = take_more recs i rec c.loop-rec-test.true ∙ ap (λ (r : Rec). take i recs ++ r ∷ []) (sym c.rec-item.is) in
    c.push.ensures
    ∙ (ap (λ (table : List ℕ). c.loop-rec.shelf ++ record { rec = rec; table = table } ∷ []) c.new.ensures
    ∙ (shelve_more c.args.shelf.now (take i recs) c.loop-rec.shelf rec c.loop-rec.invariant ∙ ap (λ (rs : List Rec). c.args.shelf.now ++ map unread rs) (sym items)))
