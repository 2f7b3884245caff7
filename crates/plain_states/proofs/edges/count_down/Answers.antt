use Rattle.std.proofs.Common.{◌≡◌, ℕ, ◌<◌, List, sym, ap, subst, ◌∙◌, arith}
use Rattle.std.specs.List.{position_or_len}
use Rattle.plain_states.specs.EdgeLists.{edge_less, is_edge}
use Rattle.plain_states.specs.Born.{AreEdges}
use Rattle.plain_states.specs.declared.plain.Edge.{Edge}
use Rattle.plain_states.proofs.CountLemmas.{less_edges, less_gone_at, less_none_at, less_there_at, same_read}
use Rattle.plain_states.proofs.edges.count_down.Goals as goal

kept : (from to : ℕ) (es fs : List Edge) → AreEdges es → fs ≡ edge_less from to es → AreEdges fs
kept from to es fs h e = subst AreEdges (sym e) (less_edges from to es h)

pub returns-then-place-len : goal.returns-then-place-len
returns-then-place-len c =
    let at = c.place_of_this-place.ensures.place ∙ ap (position_or_len (is_edge c.args.from c.args.to)) c.deref.ensures.value in
    record { less = less_none_at c.args.from c.args.to c.args.edges.now.items c.place_of_this-place.result at (omega arith); edges = c.requires }

pub returns-then-index-gt1 : goal.returns-then-index-gt1
returns-then-index-gt1 c =
    let es = c.args.edges.now.items in
    let at = c.place_of_this-place.ensures.place ∙ ap (position_or_len (is_edge c.args.from c.args.to)) c.deref.ensures.value in
    let e = c.index_mut.result.now in
    let same : c.index.result.now ≡ e = same_read es c.place_of_this-place.result c.index.result.now e (omega arith) c.index.ensures c.index_mut.ensures.value in
    let less = less_there_at c.args.from c.args.to es c.place_of_this-place.result at e (omega arith) c.index_mut.ensures.value (subst (λ (e : Edge). 1 < e.count) same c.if-index-gt1.true) in
    record { less = less; edges = kept c.args.from c.args.to es _ c.requires less }

pub returns-else-index-gt1 : goal.returns-else-index-gt1
returns-else-index-gt1 c =
    let es = c.args.edges.now.items in
    let at = c.place_of_this-place.ensures.place ∙ ap (position_or_len (is_edge c.args.from c.args.to)) c.deref.ensures.value in
    let less = c.remove.ensures.items ∙ less_gone_at c.args.from c.args.to es c.place_of_this-place.result at c.index.result.now (omega arith) c.index.ensures c.if-index-gt1.false in
    record { less = less; edges = kept c.args.from c.args.to es _ c.requires less }
