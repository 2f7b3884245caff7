use Rattle.std.proofs.Common.{◌≡◌, ◌<◌, ◌≤◌, get_or, length, sym, ap, ◌∙◌, subst, ⊎_elim, arith}
use Rattle.std.proofs.lemmas.Bool.{cases_lt}
use Rattle.act_alone.specs.model_kernel.Soundness.{is_born}
use Rattle.blob_atlas.specs.act_calls.Calls.{atlas_state}
use Rattle.image_fits.proofs.Choices.{chosen_there}
use Rattle.image_fits.proofs.edges.are_all_chosen.Goals as goal

pub loop-number-preserved : goal.loop-number-preserved
loop-number-preserved c =
    let a = atlas_state c.args.atlas.now in
    let n = c.loop-number.number in
    let within : n < length c.args.entities.now = let lt = c.loop-number-test.true in let all = c.requires in omega (arith, lt, all) in
    let named : is_born a n ≡ c.is_born-named.result = ap (is_born a) (sym c.of.ensures) ∙ sym c.is_born-named.ensures.born in
    record {
      all = λ x lt born. ⊎_elim
          (λ (below : x < n). c.loop-number.invariant.all x below born)
          (λ (behind : n ≤ x).
          let same : x ≡ n = omega arith in
          chosen_there c.args.entities.now x c.index-entities-number.result c.is_born-named.result c.is_none-missing.result (subst (λ z. z < length c.args.entities.now) (sym same) within)
          (subst (λ z. c.index-entities-number.result ≡ get_or c.args.entities.now z c.index-entities-number.result) (sym same) c.index-entities-number.is)
          (sym named ∙ (ap (is_born a) (sym same) ∙ born)) c.if-named-missing.false c.is_none-missing.ensures)
          (cases_lt x n);
      numbers = λ some. c.is_born-named.ensures.numbers;
    }
