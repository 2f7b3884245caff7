use Rattle.std.proofs.Common.{◌++◌, ◌∷◌, ℕ, List, [], refl, sym, ap, subst, ◌∙◌, append_assoc, arith}
use Rattle.std.proofs.lemmas.List.{append-nil}
use Rattle.thread_board.specs.Items.{Each, IsRising, IsWithin}
use Rattle.thread_board.specs.Sides.{PassSeen}
use Rattle.thread_history.specs.Rules.{AllDiffer}
use Rattle.thread_returns.specs.Passes.{AreAllApart}
use Rattle.thread_returns.proofs.Placed.{AreBack, each_back, none_back, none_left, one_back}
use Rattle.thread_returns.proofs.passes.take_back_all.Goals as goal

pub loop-init : goal.loop-init
loop-init g c = record {
  items = (refl, refl);
  left = search arith;
  back = ([], sym (append-nil c.args.passes.items), none_back g.T.Placed.starts g.T.Placed.ends c.args.slip.now.items c.args.slip.now.back);
}

pub loop-preserved : goal.loop-preserved
loop-preserved g c =
    let starts = g.T.Placed.starts in
    let ends = g.T.Placed.ends in
    let all = c.args.slip.now.items in
    let p : PassSeen g.row.T.Denot = c.in-Some.pass in
    let was = c.loop.invariant in
    let n = c.take_back.ensures in
    let taken : List (PassSeen g.row.T.Denot) = was.back.0 in
    let same = was.items.0 in
    let fewer = c.in-Some.ensures.len in
    let left = was.left in
    record {
      items = (n.others.0 ∙ same, n.others.1 ∙ was.items.1);
      left = omega (arith, fewer, left);
      back = (
        p ∷ taken,
        was.back.1 ∙ (ap (λ (l : List (PassSeen g.row.T.Denot)). l ++ taken) c.in-Some.ensures.items ∙ append_assoc c.pop.new.self.items (p ∷ []) taken),
        subst (λ (b : List ℕ). AreBack starts ends all b (p ∷ taken)) (sym n.back)
            (one_back starts ends all c.loop.slip.back taken p (subst (IsRising starts ends) same n.rising) (subst (IsWithin p.items) same n.within) n.number (subst AllDiffer n.back n.once) was.back.2),
      );
    }

pub returns-clause-each : goal.returns-clause-each
returns-clause-each g c =
    let starts = g.T.Placed.starts in
    let ends = g.T.Placed.ends in
    let all = c.args.slip.now.items in
    let was = c.loop.invariant in
    let taken : List (PassSeen g.row.T.Denot) = was.back.0 in
    let over = c.loop-test.false in
    let left = was.left in
    let whole = was.back.1 ∙ ap (λ (l : List (PassSeen g.row.T.Denot)). l ++ taken) (none_left c.loop.left.items (let len = c.loop.left.ok.0 in omega (arith, over, left, len))) in
    subst (Each (λ (p : PassSeen g.row.T.Denot). IsWithin p.items all × IsRising starts ends p.items)) (sym whole) (each_back starts ends all c.loop.slip.back taken was.back.2)

pub returns-clause-apart : goal.returns-clause-apart
returns-clause-apart g c =
    let starts = g.T.Placed.starts in
    let ends = g.T.Placed.ends in
    let was = c.loop.invariant in
    let taken : List (PassSeen g.row.T.Denot) = was.back.0 in
    let over = c.loop-test.false in
    let left = was.left in
    let whole = was.back.1 ∙ ap (λ (l : List (PassSeen g.row.T.Denot)). l ++ taken) (none_left c.loop.left.items (let len = c.loop.left.ok.0 in omega (arith, over, left, len))) in
    subst (AreAllApart starts ends) (sym whole) was.back.2.apart
