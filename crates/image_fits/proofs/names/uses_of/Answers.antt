use Rattle.std.proofs.Common.{◌≡◌, ℕ, ◌+◌, List, length, sym, ap, ◌∙◌, subst, arith}
use Rattle.image_fit_facts.specs.Naming.{AreUses}
use Rattle.image_fits.specs.Naming.{names_of}
use Rattle.image_fit_facts.proofs.Uses.{none_used, put_back, uses_same}
use Rattle.image_fits.proofs.names.uses_of.Goals as goal

pub returns-clause-uses : goal.returns-clause-uses
returns-clause-uses c =
    let new = c.add_all.new.uses in
    let at_first : AreUses c.deref_mut.result.now (λ b. 0) = subst (λ (l : List ℕ). AreUses l (λ b. 0)) (sym (c.deref_mut.ensures.value ∙ c.in_ok-uses.ensures.items_if_clones_equal (λ y e. e))) (none_used c.args.count) in
    let long : c.in_ok-uses.uses.len ≡ length new = c.in_ok-uses.uses.ok.0 ∙ (sym (ap length c.deref_mut.ensures.value) ∙ sym c.add_all.auto.uses) in
    subst (λ (l : List ℕ). AreUses l (names_of c.args.entities.now)) (sym (put_back c.in_ok-uses.uses.len new _ long))
    (uses_same new (λ b. 0 + names_of c.args.entities.now b) (names_of c.args.entities.now) (λ b. omega arith) (c.add_all.ensures (λ b. 0) at_first))
