use Rattle.std.proofs.Common.{sym, ap, ◌∙◌, List, take}
use Rattle.base_types.specs.declared.records.Rec.{Rec}
use Rattle.store_facts.proofs.Shelving.{first_recs}
use Rattle.store_snapshots.proofs.shelf.Shelf.recs.Goals as goal

pub returns : goal.returns
returns c =
    let inv = c.self.invariant in
    rw (← c.self.view_is) (ap (λ (rs : List Rec). take c.self.inside.used rs) c.deref.ensures.value ∙ first_recs c.self.inside.recs.items c.self.inside.tables.items c.self.inside.used (inv.1 ∙ sym inv.0))
