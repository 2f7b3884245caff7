use Rattle.std.proofs.Common.{Option, ℕ, sym, ap, ◌∙◌}
use Rattle.act_invoke.specs.model_kernel.Outcomes.{code_for}
use Rattle.act_invoke.specs.act_alone.Loci.{locus_of}
use Rattle.act_calls.proofs.BirthLemmas.{new_state}
use Rattle.act_calls.proofs.births.new_head.Goals as goal

pub returns-in-Some : goal.returns-in-Some
returns-in-Some c words =
    let l = locus_of c.args.locus.now in
    let code = c.as_slice.ensures.code ∙ sym (ap (code_for l) c.in-Some.is) in
    c.new.ensures words ∙ ap (new_state words c.args.pages c.args.tag c.args.entry) code

pub returns-in-None : goal.returns-in-None
returns-in-None c words =
    let l = locus_of c.args.locus.now in
    c.new-in-None.ensures words ∙ ap (λ (e : Option ℕ). new_state words c.args.pages c.args.tag e (code_for l e)) (sym c.in-None.is)
