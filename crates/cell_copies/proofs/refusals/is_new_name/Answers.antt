use Rattle.std.proofs.Common.{◌≡◌, ◌∙◌, ◌&&◌, is_none, is_some, not, Bool, sym, ap}
use Rattle.data_atlas.specs.data_atlas_facts.Directory.{IsName}
use Rattle.cell_births.specs.act_calls.Calls.{atlas_state}
use Rattle.cell_births.proofs.act_atlas_laws_lemmas.NameLaws.{given_names_same, numbers_same}
use Rattle.model_copies.specs.model_kernel.Scripts.{number_of}
use Rattle.model_copies.specs.model_kernel.Soundness.{is_given_name}
use Rattle.cell_copies.proofs.Refusing.{none_not, same_test}
use Rattle.cell_copies.proofs.refusals.is_new_name.Goals as goal

pub returns-then-given : goal.returns-then-given
returns-then-given c =
    let d = c.args.atlas.now in
    let fresh = c.args.fresh.now in
    let given : c.is_name-given.result ≡ is_given_name fresh = same_test c.is_name-given.result (is_given_name fresh) (IsName fresh) c.is_name-given.ensures (given_names_same fresh) in
    let taken : c.is_some-taken.result ≡ is_some (number_of (atlas_state d) fresh) = c.is_some-taken.ensures ∙ ap is_some (c.find.ensures ∙ numbers_same d fresh) in
    ap not taken ∙ none_not (number_of (atlas_state d) fresh) ∙ ap (λ (b : Bool). b && is_none (number_of (atlas_state d) fresh)) (sym c.if-given.true ∙ given)

pub returns-else-given : goal.returns-else-given
returns-else-given c =
    let d = c.args.atlas.now in
    let fresh = c.args.fresh.now in
    let given : c.is_name-given.result ≡ is_given_name fresh = same_test c.is_name-given.result (is_given_name fresh) (IsName fresh) c.is_name-given.ensures (given_names_same fresh) in
    c.if-given.false ∙ ap (λ (b : Bool). b && is_none (number_of (atlas_state d) fresh)) (sym c.if-given.false ∙ given)
