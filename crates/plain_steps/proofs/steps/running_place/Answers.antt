use Rattle.std.proofs.Common.{◌≡◌, ◌-◌, ◌+◌, ◌<◌, arith, refl, length}
use Rattle.std.proofs.lemmas.Option.{slice_get_read}
use Rattle.plain_states.proofs.CellLemmas.{idle_at}
use Rattle.plain_steps.proofs.steps.running_place.Goals as goal

pub returns-in-Running-clause-found : goal.returns-in-Running-clause-found
returns-in-Running-clause-found c =
    let ls = c.args.loci.now in
    let j = c.number-2.result - 41 in
    let in_list : j < length ls = omega arith in
    record { at = omega arith; locus = c.index-loci-place.result; is = slice_get_read ls (length ls) j c.index-loci-place.result refl in_list c.index-loci-place.is; runs = c.in-Running.is }

pub returns-in_default : goal.returns-in_default
returns-in_default c =
    let ls = c.args.loci.now in
    let j = c.number-2.result - 41 in
    let in_list : j < length ls = omega arith in
    let at : j + 41 ≡ c.args.locus = omega arith in
    record { found = tt; idle = idle_at ls j c.args.locus c.index-loci-place.result at (slice_get_read ls (length ls) j c.index-loci-place.result refl in_list c.index-loci-place.is) c.in_default.not-Running }
