use Rattle.std.proofs.Common.{◌≡◌, ◌++◌, ◌∷◌, ◌+◌, [], List, ap, drop, length, subst, sym, take, take-append-drop, ◌∙◌}
use Rattle.std.proofs.lemmas.List.{take_all, take_more}
use Rattle.base_types.specs.declared.histories.Entry.{Entry}
use Rattle.kernel_runs.specs.kernel_invariant.Beginnings.{IsLegal, completed}
use Rattle.node_looks.proofs.Flags.{legal_start, made_small, none_changed, none_flagged, not_capped}
use Rattle.node_looks.specs.Counting.{HaveChanged}
use Rattle.node_looks.proofs.counting.commits_made.Goals as goal

pub loop-entry-init : goal.loop-entry-init
loop-entry-init c b right legal opened = (none_changed b _ (λ x lt. none_flagged 64 x), opened)

pub loop-entry-preserved : goal.loop-entry-preserved
loop-entry-preserved c b right legal opened =
    let i = c.loop-entry.invariant b right legal opened in
    let history = c.args.history.now in
    let n = c.loop-entry.entry-index in
    let es = take n history in
    let e = c.entry-item.result in
    let more : take (n + 1) history ≡ es ++ e ∷ [] = take_more history n e c.loop-entry-test.true ∙ ap (λ (x : Entry). es ++ x ∷ []) (sym c.entry-item.is) in
    let split : history ≡ (es ++ e ∷ []) ++ drop (n + 1) history = sym (take-append-drop (n + 1) history) ∙ ap (λ (ys : List Entry). ys ++ drop (n + 1) history) more in
    let front : IsLegal b (es ++ e ∷ []) = legal_start b (es ++ e ∷ []) (drop (n + 1) history) (subst (IsLegal b) split legal) in
    let many = c.follow.ensures.made b es front i.0 in
    let all : length (completed b (es ++ e ∷ [])) ≡ c.loop-entry.made + c.follow.result = many ∙ ap (λ m. m + c.follow.result) (sym i.1) in
    subst (λ (fs : List Entry). HaveChanged b fs c.follow.new.changed × (c.saturating_add-made.result ≡ length (completed b fs))) (sym more)
    (c.follow.ensures.changed b es front i.0, not_capped c.loop-entry.made c.follow.result c.saturating_add-made.result (length (completed b (es ++ e ∷ []))) c.saturating_add-made.ensures all (made_small b (es ++ e ∷ []) right front))

pub returns : goal.returns
returns c b right legal opened =
    let i = c.loop-entry.invariant b right legal opened in
    i.1 ∙ ap (λ (fs : List Entry). length (completed b fs)) (take_all c.loop-entry.entry-index c.args.history.now c.loop-entry-test.false)
