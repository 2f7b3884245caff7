use Rattle.std.proofs.Common.{◌<◌, ◌≤◌, ◌+◌, ◌*◌, ◌-◌, ◌/◌, sym, subst, arith}
use Rattle.std.specs.Prelude.{slice_index}
use Rattle.blob_facts.specs.Fields.{IsFound, IsNumberIn, IsRefused, Spells}
use Rattle.blob_reading.proofs.Exits.{hands_on}
use Rattle.blob_facts.proofs.ReadNumber.{below, bounds_are, first_fits, fits_above, found_more, refused_above, refused_byte, refused_end}
use Rattle.blob_reading.proofs.fields.+read_number.Goals.{then-most-byte-via-then-most-byte, then-most-byte-via-else-most-byte+then-most-byte-2}
use Rattle.blob_reading.proofs.fields.+read_number.Goals as goal

pub returns-in_default-clause-refused : goal.returns-in_default-clause-refused
returns-in_default-clause-refused t c =
    refused_end c.args.width c.args.least c.args.most c.args.bytes.now c.if-width-eq0.false c.requires.some c.in_default.ensures.cases

pub returns-then-most-byte-clause-refused : goal.returns-then-most-byte-clause-refused
returns-then-most-byte-clause-refused t c =
    let is = c.in-Some.ensures.cases.0 in
    let fits : slice_index c.args.bytes.now 0 < 256 = omega (arith, c.type_inv.bytes 0) in
    refused_byte c.args.width c.args.least c.args.most c.args.bytes.now c.in-Some.first.now c.in-Some.rest.now c.if-width-eq0.false c.requires.some (first_fits is fits) c.requires.fits is
    (below c.args.least c.args.most c.in-Some.first.now c.from-byte.result c.saturating_sub.result c.div_ceil-low.result c.from-byte.ensures c.saturating_sub.ensures c.div_ceil-low.ensures
    (elim c.then-most-byte.branch as (λ _. (c.from-byte.result ≤ c.args.most → c.div_ceil-low.result ≤ (c.args.most - c.from-byte.result) / 256 → ⊥)) [
      | then-most-byte-via-then-most-byte w ↦ λ top low. (let h = w.if-most-byte.true in omega (arith, h, top))
      | then-most-byte-via-else-most-byte+then-most-byte-2 w ↦ λ top low. (let h = w.if-most-byte-2.true in omega (arith, h, low))
    ]))

pub read_number-requires : goal.read_number-requires
read_number-requires t c =
    let some = c.if-width-eq0.false in
    let low = c.decreases in
    (omega (arith, some, low), ((let w = c.requires.width in omega (arith, w)), (c.if-most-byte-2.false, fits_above c.args.width c.args.most c.from-byte.result c.if-width-eq0.false c.requires.fits)))

pub returns-in_err-above-clause-refused : goal.returns-in_err-above-clause-refused
returns-in_err-above-clause-refused t c =
    let is = c.in-Some.ensures.cases.0 in
    let fits : slice_index c.args.bytes.now 0 < 256 = omega (arith, c.type_inv.bytes 0) in
    hands_on _ c.from_residual.result c.from_residual.ensures.1
    (refused_above c.args.width c.args.least c.args.most c.args.bytes.now c.in-Some.first.now c.in-Some.rest.now c.in_err-above.field-0.0.rest.now c.if-width-eq0.false
    (subst (λ b. b ≤ c.args.most) c.from-byte.ensures c.if-most-byte.false) (first_fits is fits) c.requires.fits is
    (bounds_are (λ low high. IsRefused (Spells (IsNumberIn (c.args.width - 1) low high)) c.in-Some.rest.now c.in_err-above.field-0.0.rest.now) c.args.least c.args.most c.in-Some.first.now c.from-byte.result c.saturating_sub.result c.div_ceil-low.result
    c.from-byte.ensures c.saturating_sub.ensures c.div_ceil-low.ensures c.in_err-above.ensures.refused))

pub returns-clause-read : goal.returns-clause-read
returns-clause-read t c =
    let is = c.in-Some.ensures.cases.0 in
    let fits : slice_index c.args.bytes.now 0 < 256 = omega (arith, c.type_inv.bytes 0) in
    subst (λ b. IsFound (IsNumberIn c.args.width c.args.least c.args.most) c.args.bytes.now (c.in_ok-above.above * 256 + b) c.in_ok-above.rest.now) (sym c.from-byte.ensures)
    (found_more c.args.width c.args.least c.args.most c.args.bytes.now c.in-Some.first.now c.in_ok-above.above c.in-Some.rest.now c.in_ok-above.rest.now c.if-width-eq0.false
    (subst (λ b. b ≤ c.args.most) c.from-byte.ensures c.if-most-byte.false) (first_fits is fits) c.requires.fits is
    (bounds_are (λ low high. IsFound (IsNumberIn (c.args.width - 1) low high) c.in-Some.rest.now c.in_ok-above.above c.in_ok-above.rest.now) c.args.least c.args.most c.in-Some.first.now c.from-byte.result c.saturating_sub.result c.div_ceil-low.result
    c.from-byte.ensures c.saturating_sub.ensures c.div_ceil-low.ensures c.in_ok-above.ensures.read))
