use Rattle.std.proofs.Common.{◌∙◌, ◌++◌, map, length, ap, arith}
use Rattle.atomic_table.specs.Table.{Me}
use Rattle.thread_ties.specs.declared.views.View.{View}
use Rattle.thread_ties.specs.Rules.{begun_view, shown}
use Rattle.thread_ties.proofs.Sharing.{first_is, length_numbered}
use Rattle.thread_ties.proofs.opened.Opened.named.Goals as goal

pub loop-init : goal.loop-init
loop-init g c =
    let e = c.begin.ensures.1 in
    let made = c.in_ok-fragments.ensures in (
      (c.begin.ensures.0 ∙ c.self.invariant.0.0, c.self.invariant.0.1),
      ap (λ o. o.table) c.self.view_is ∙ c.requires.name,
      ap (λ (m : Me (Unit {0}) (View g.row.V.Denot)). m.1) (e ∙ ap (λ (m : Me (Unit {0}) (View g.row.V.Denot)). (begun_view g.B.Bond.first_values, m.1)) c.self.invariant.1),
      ap (λ (m : Me (Unit {0}) (View g.row.V.Denot)). m.0.leads) e,
      ap (λ (m : Me (Unit {0}) (View g.row.V.Denot)). m.0.values) e,
      ap (λ xs. xs ++ map shown c.begin.new.seat.me.0.pieces) made.items ∙ ap (λ (m : Me (Unit {0}) (View g.row.V.Denot)). map shown m.0.pieces) e,
      omega (arith, ap (λ (m : Me (Unit {0}) (View g.row.V.Denot)). length m.0.pieces) e, length_numbered 0 g.B.Bond.first_values, c.requires.values),
      made.len,
      made.exact,
    )

pub of-requires : goal.of-requires
of-requires g c =
    let v = λ (m : Me (Unit {0}) (View g.row.V.Denot)). m.0 in
    let w = λ (m : Me (Unit {0}) (View g.row.V.Denot)). m.1 in
    let i = c.loop.invariant in
    (c.hand_out.ensures.piece.0 ∙ (i.0.0 ∙ i.1), ap w c.hand_out.ensures.piece.1, first_is _ _ (ap v c.hand_out.ensures.piece.1) (omega (arith, i.6)))
