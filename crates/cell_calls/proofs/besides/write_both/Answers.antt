use Rattle.std.proofs.Common.{◌<◌, ◌≤◌, sym, subst, arith}
use Rattle.cell_states.specs.cell_clocks.Clocks.{CarriesTwo}
use Rattle.base_types.specs.declared.histories.Event.TheVariants.{Step}
use Rattle.cell_calls.proofs.Pairs.{pair_below, pair_above}
use Rattle.cell_calls.proofs.besides.write_both.Goals as goal

pub returns-then-number-clause-carries : goal.returns-then-number-clause-carries
returns-then-number-clause-carries c w hasl haso j k =
    let me = c.args.locus.now.entity in
    let x = c.args.other.now.entity in
    let lt : x < me = omega (arith, c.number.ensures.number, c.number-2.ensures.number, c.if-number.true) in
    let h = c.write_two.ensures.carries w haso hasl k j in
    subst (λ accesses. CarriesTwo Step me c.args.answer w accesses c.write_two.result c.write_two.new.b c.write_two.new.a) (sym (pair_below me x j k lt))
    (record { entry = h.entry; first = h.second; second = h.first })

pub returns-clause-carries : goal.returns-clause-carries
returns-clause-carries c w hasl haso j k =
    let me = c.args.locus.now.entity in
    let x = c.args.other.now.entity in
    let le : me ≤ x = omega (arith, c.number.ensures.number, c.number-2.ensures.number, c.if-number.false) in
    subst (λ accesses. CarriesTwo Step me c.args.answer w accesses c.write_two-2.result c.write_two-2.new.a c.write_two-2.new.b) (sym (pair_above me x j k le))
    (c.write_two-2.ensures.carries w hasl haso j k)
