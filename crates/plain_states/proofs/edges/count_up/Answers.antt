use Rattle.std.proofs.Common.{◌≡◌, ◌<◌, true, false, set, ◌+◌, sym, ap, subst, ◌∙◌, arith}
use Rattle.std.specs.List.{position_or_len}
use Rattle.plain_states.specs.EdgeLists.{edge_more, is_edge, is_reached}
use Rattle.plain_states.specs.Born.{AreEdges}
use Rattle.plain_states.specs.Plains.{edges_of}
use Rattle.plain_states.specs.declared.plain.Edge.{Edge}
use Rattle.plain_states.proofs.EdgeLemmas.{edge}
use Rattle.plain_states.proofs.CountLemmas.{count_at, more_edges, more_new_at, more_there_at, same_pair, same_read}
use Rattle.plain_states.proofs.edges.count_up.Goals.{else-place-len-via-then-place-len+else-is_edge, else-place-len-via-else-place-len}
use Rattle.plain_states.proofs.edges.count_up.Goals as goal

-- the edge that is written is the one that was tested
is_this : (c : goal.After-index_mut) → is_edge c.args.from c.args.to c.index_mut.result.now ≡ true
is_this c =
    let es = c.args.edges.now.items in
    let same : c.index.result.now ≡ c.index_mut.result.now = same_read es c.place_of_edge-place.result c.index.result.now c.index_mut.result.now (omega arith) c.index.ensures c.index_mut.ensures.value in
    subst (λ (e : Edge). is_edge c.args.from c.args.to e ≡ true) same (sym c.is_edge.ensures ∙ c.if-is_edge.true)

pub overflow_add-index_mut : goal.overflow_add-index_mut
overflow_add-index_mut c =
    let es = c.args.edges.now.items in
    let e = c.index_mut.result.now in
    let pair = same_pair e c.args.from c.args.to (is_this c) in
    let count = count_at es c.place_of_edge-place.result e c.requires.edges.ascending (omega arith) c.index_mut.ensures.value in
    let few : e.count < 255 = subst (λ n. n < 255) ((λ i. edges_of es (sym pair.0 i) (sym pair.1 i)) ∙ count) c.requires.few in
    omega arith

there : (c : goal.After-index_mut) → set c.args.edges.now.items c.place_of_edge-place.result (edge c.index_mut.result.now.from c.index_mut.result.now.to (c.index_mut.result.now.count + 1)) ≡ edge_more c.args.from c.args.to c.args.edges.now.items
there c =
    let es = c.args.edges.now.items in
    let at : c.place_of_edge-place.result ≡ position_or_len (is_reached c.args.from c.args.to) es = c.place_of_edge-place.ensures.place ∙ ap (position_or_len (is_reached c.args.from c.args.to)) c.deref.ensures.value in
    more_there_at c.args.from c.args.to es c.place_of_edge-place.result at c.index_mut.result.now (omega arith) c.index_mut.ensures.value (is_this c)

pub returns-then-is_edge : goal.returns-then-is_edge
returns-then-is_edge c = let e = there c.before.before in record { more = e; edges = subst AreEdges (sym e) (more_edges c.args.from c.args.to c.args.edges.now.items c.requires.edges) }

new : (c : goal.After-insert_within) → c.insert_within.new.list.items ≡ edge_more c.args.from c.args.to c.args.edges.now.items
new c =
    let es = c.args.edges.now.items in
    let n = c.place_of_edge-place.result in
    let at : n ≡ position_or_len (is_reached c.args.from c.args.to) es = c.place_of_edge-place.ensures.place ∙ ap (position_or_len (is_reached c.args.from c.args.to)) c.deref.ensures.value in
    c.insert_within.ensures ∙ more_new_at c.args.from c.args.to es n at (λ e lt is.
    elim c.else-place-len.branch as (λ _. is_edge c.args.from c.args.to e ≡ false) [
      | else-place-len-via-then-place-len+else-is_edge w ↦ (
          let same : w.index.result.now ≡ e = same_read es n w.index.result.now e lt w.index.ensures is in
          subst (λ (e : Edge). is_edge c.args.from c.args.to e ≡ false) same (sym w.is_edge.ensures ∙ w.if-is_edge.false))
      | else-place-len-via-else-place-len w ↦ (let ge = w.if-place-len.false in absurd (omega arith))
    ])

pub returns : goal.returns
returns c = record { more = new c; edges = subst AreEdges (sym (new c)) (more_edges c.args.from c.args.to c.args.edges.now.items c.requires.edges) }
