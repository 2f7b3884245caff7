use Rattle.std.proofs.Common.{sym, ap, ◌∙◌}
use Rattle.cell_clocks.specs.model_kernel.Outcomes.{Outcome}
use Rattle.act_calls.specs.act_alone.Loci.{locus_of}
use Rattle.act_calls.specs.Calls.{is_stop, is_go}
use Rattle.act_calls.proofs.model_act_facts_lemmas.Itself.{itself_within, itself_shape, snaps_itself}
use Rattle.cell_states.proofs.alone.on_itself.Goals as goal

pub stop_itself-requires-clause-wants : goal.stop_itself-requires-clause-wants
stop_itself-requires-clause-wants c =
    let h = c.requires.wants in
    (c.args.me, record { instr = ap is_stop (h.instr ∙ c.in-Stop.is); allowed = h.allowed; other = h.other })

pub go_itself-requires-clause-wants : goal.go_itself-requires-clause-wants
go_itself-requires-clause-wants c =
    let h = c.requires.wants in
    (c.args.me, record { instr = ap is_go (h.instr ∙ c.in-Go.is); allowed = h.allowed; other = h.other })

pub finish-requires : goal.finish-requires
finish-requires c = itself_within c.args.me (locus_of c.args.locus.now) c.args.instr c.requires.ready c.requires.wants

pub unreachable-requires : goal.unreachable-requires
unreachable-requires c = itself_shape c.args.instr c.requires.wants.names c.in_default.not-Stop c.in_default.not-Go c.in_default.not-Snap

pub returns-in-Stop-clause-locus : goal.returns-in-Stop-clause-locus
returns-in-Stop-clause-locus c s a cell = (c.stop_itself.ensures c.args.me c.requires.wants.other s a cell).locus

pub returns-in-Stop-clause-answer : goal.returns-in-Stop-clause-answer
returns-in-Stop-clause-answer c s a cell = (c.stop_itself.ensures c.args.me c.requires.wants.other s a cell).answer

pub returns-in-Go-clause-locus : goal.returns-in-Go-clause-locus
returns-in-Go-clause-locus c s a cell = (c.go_itself.ensures c.args.me c.requires.wants.other s a cell).locus

pub returns-in-Go-clause-answer : goal.returns-in-Go-clause-answer
returns-in-Go-clause-answer c s a cell = (c.go_itself.ensures c.args.me c.requires.wants.other s a cell).answer

pub returns-in-Snap-clause-locus : goal.returns-in-Snap-clause-locus
returns-in-Snap-clause-locus c s a cell =
    c.finish.ensures.locus ∙ ap (λ (o : Outcome). o.locus) (sym (snaps_itself s c.args.me (locus_of c.args.locus.now) a cell c.args.instr _ c.requires.wants c.in-Snap.is))

pub returns-in-Snap-clause-answer : goal.returns-in-Snap-clause-answer
returns-in-Snap-clause-answer c s a cell =
    c.finish.ensures.answer ∙ ap (λ (o : Outcome). o.answer) (sym (snaps_itself s c.args.me (locus_of c.args.locus.now) a cell c.args.instr _ c.requires.wants c.in-Snap.is))
