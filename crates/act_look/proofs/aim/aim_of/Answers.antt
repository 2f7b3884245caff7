use Rattle.std.proofs.Common.{◌≡◌, ℕ, sym, ap, ◌∙◌}
use Rattle.act_invoke.specs.model_kernel.Outcomes.{look_address, looked}
use Rattle.act_invoke.specs.model_kernel.Refusals.{reg}
use Rattle.act_invoke.specs.act_alone.Loci.{locus_of}
use Rattle.act_look.specs.declared.aim.Access.{Access}
use Rattle.act_look.specs.Looks.{done_by, needed_by}
use Rattle.act_look.proofs.Making.{load_made, only_looks, store_made}
use Rattle.act_look.proofs.aim.aim_of.Goals.{in-Load, in-Store}
use Rattle.act_look.proofs.aim.aim_of.Goals as goal

pub unreachable-requires : goal.unreachable-requires
unreachable-requires c = only_looks (locus_of c.args.locus.now) c.requires.wants.0 c.args.instr c.requires.wants.1 c.requires.instr c.in_default.not-Load c.in_default.not-Store

pub returns-clause-makes : goal.returns-clause-makes
returns-clause-makes c me s a here =
    let l = locus_of c.args.locus.now in
    let address = c.next_address.result in
    let wanted = sym c.requires.instr in
    let at_register : address ≡ look_address l (reg l c.match-instr.at.0) = c.next_address.ensures ∙ ap (λ v. look_address v c.register-2.result) c.view.ensures ∙ ap (look_address l) c.register-2.ensures in
    elim c.match-instr.branch [
      | in-Load w ↦
          load_made l c.requires.wants.0 w.in-Load.d w.in-Load.a address c.requires.wants.1 (wanted ∙ w.in-Load.is) (at_register ∙ ap (λ (p : ℕ × Access). look_address l (reg l p.0)) w.at-is) me s a here
          ∙ ap (λ (p : ℕ × Access). looked l here address (needed_by p.1) (done_by l here address p.1)) (sym w.at-is)
      | in-Store w ↦
          store_made l c.requires.wants.0 w.in-Store.a w.in-Store.v address w.register.result c.requires.wants.1 (wanted ∙ w.in-Store.is) (at_register ∙ ap (λ (p : ℕ × Access). look_address l (reg l p.0)) w.at-is) w.register.ensures me s a here
          ∙ ap (λ (p : ℕ × Access). looked l here address (needed_by p.1) (done_by l here address p.1)) (sym w.at-is)
    ]
