use Rattle.std.proofs.Common.{◌≡◌, ◌-◌, ℕ, List, false, ap, sym, ◌∙◌, arith}
use Rattle.std.proofs.lemmas.List.{get_or_default, get_or-set_same}
use Rattle.std.specs.Prelude.{slice_index, slice_index_or}
use Rattle.data_blocks.proofs.Holdings.{last_unused, named_not_unused, unnamed_free, used_not_free}
use Rattle.data_blocks.proofs.ledger.Ledger.unname.Goals as goal

pub give_back-requires-clause-taken : goal.give_back-requires-clause-taken
give_back-requires-clause-taken c =
    let range = rw (← c.self.view_is) at c.requires.range in
    let named = rw (← c.self.view_is) at c.requires.named in
    let was = named_not_unused c.self.inside.pool c.self.inside.held.items c.self.inside.uses c.self.inside.all_named c.self.invariant c.args.block 0 range.0 range.1 named in
    used_not_free c.self.inside.pool c.self.inside.held.items c.self.inside.uses c.self.inside.all_named c.self.invariant c.args.block 0 range.0 range.1 was

pub invariant_of-self : goal.invariant_of-self
invariant_of-self c =
    let range = rw (← c.self.view_is) at c.requires.range in
    let named = rw (← c.self.view_is) at c.requires.named in
    let n = slice_index c.self.inside.uses c.args.block - 1 in
    let was = named_not_unused c.self.inside.pool c.self.inside.held.items c.self.inside.uses c.self.inside.all_named c.self.invariant c.args.block n range.0 range.1 named in
    let left : slice_index c.unname.new.self c.args.block ≡ n = ap (λ (us : List ℕ). slice_index us c.args.block) c.unname.ensures ∙ get_or-set_same c.self.inside.uses c.args.block n 0 (let all = c.self.invariant.counts in omega (arith, range.1, all)) in
    let off : slice_index_or c.self.inside.held.items c.args.block false ≡ false = get_or_default c.self.inside.held.items c.args.block false c.index.result.now (let all = c.self.invariant.marks in omega (arith, range.1, all)) ∙ (sym c.index.ensures ∙ c.if-not-index.true) in
    let free = last_unused (slice_index_or c.self.inside.held.items c.args.block false) c.self.inside.all_named c.is_named.result n off c.if-not-self.true (λ lt. c.is_named.ensures.1 (omega (arith, lt, left))) c.if-not-is_named.true in
    rw (c.give_back.ensures.value, c.unname.ensures)
    (unnamed_free c.self.inside.pool c.self.inside.held.items c.self.inside.uses c.self.inside.all_named c.self.invariant c.args.block n range.0 range.1 was free)
