use Rattle.std.proofs.Common.{IsTrue, refl, sym, subst}
use Rattle.base_types.specs.declared.instructions.Instr.{Instr}
use Rattle.act_invoke.specs.Entries.{is_return}
use Rattle.act_alone.specs.Loci.{locus_of}
use Rattle.act_calls.specs.Calls.{is_take, is_give}
use Rattle.test_acts.proofs.WantLemmas.{next_instr, wanted_beside}
use Rattle.test_acts.proofs.kernel.beside_container.Goals as goal

pub back-reply-requires-clause-wants : goal.back-reply-requires-clause-wants
back-reply-requires-clause-wants g c =
    wanted_beside is_return (locus_of c.args.locus.now) c.args.act c.args.number c.requires.wants c.requires.allowed c.requires.other
    (subst (λ (i : Instr). IsTrue (is_return i)) (sym c.in-Return.is) refl)

pub take-reply-requires-clause-wants : goal.take-reply-requires-clause-wants
take-reply-requires-clause-wants g c =
    wanted_beside is_take (locus_of c.args.locus.now) c.args.act c.args.number c.requires.wants c.requires.allowed c.requires.other
    (subst (λ (i : Instr). IsTrue (is_take i)) (sym c.in-Take.is) refl)

pub give-reply-requires-clause-wants : goal.give-reply-requires-clause-wants
give-reply-requires-clause-wants g c =
    wanted_beside is_give (locus_of c.args.locus.now) c.args.act c.args.number c.requires.wants c.requires.allowed c.requires.other
    (subst (λ (i : Instr). IsTrue (is_give i)) (sym c.in-Give.is) refl)

pub mapped-reply-requires-clause-instr : goal.mapped-reply-requires-clause-instr
mapped-reply-requires-clause-instr g c = next_instr (locus_of c.args.locus.now) c.args.act c.requires.wants

pub unmapped-reply-requires-clause-instr : goal.unmapped-reply-requires-clause-instr
unmapped-reply-requires-clause-instr g c = next_instr (locus_of c.args.locus.now) c.args.act c.requires.wants

pub take-reply-requires-clause-instr : goal.take-reply-requires-clause-instr
take-reply-requires-clause-instr g c = next_instr (locus_of c.args.locus.now) c.args.act c.requires.wants

pub give-reply-requires-clause-instr : goal.give-reply-requires-clause-instr
give-reply-requires-clause-instr g c = next_instr (locus_of c.args.locus.now) c.args.act c.requires.wants
