use Rattle.std.proofs.Common.{◌≡◌, Err, refl, ap, [], ◌∷◌}
use Rattle.table_laws.specs.cell_states.declared.cells.Cell.{Cell}
use Rattle.table_steps.proofs.Short.{made_short, paging_short}
use Rattle.thread_steps.proofs.Facing.{faces_look}
use Rattle.thread_steps.proofs.steps.go_look.Goals as goal

same_but : (c d : Cell) → d.clock ≡ c.clock → d.wish ≡ c.wish → d.left ≡ c.left → d ≡ record c { part = d.part }
same_but c d clock wish left = (λ t. record { clock = clock t; part = d.part; wish = wish t; left = left t })

pub advance_looking-requires : goal.advance_looking-requires
advance_looking-requires g c =
    let f = faces_look c.args.locus.now c.args.other.now c.requires.lent c.requires.few c.args.instr g.B.PageStore (g.S.Supplier.word c.args.gate.now.supply) c.args.store.now c.requires.planned.0 c.requires.planned.1 c.requires.holds in
    record { keeps = c.requires.keeps; planned = f.planned; memory = f.memory; lower = f.lower; few = f.few }

pub returns-in-Ok-clause-looks : goal.returns-in-Ok-clause-looks
returns-in-Ok-clause-looks g c =
    let made = c.in-Ok.ensures in
    record { step = made.step; somehow = made.somehow; memory = made.memory; pages = made.pages }

pub returns-in-Err-clause-pages : goal.returns-in-Err-clause-pages
returns-in-Err-clause-pages g c =
    let failed = c.in-Err.ensures in (
      c.in-Err.fault,
      refl,
      record {
        at_word = failed.at_word;
        locus = failed.locus_stays;
        rest = same_but c.args.other.now c.advance_looking.new.other failed.other_stays.0 failed.other_stays.1 failed.other_stays.2;
        same = failed.same_part;
        memory = failed.memory;
        pages = failed.pages;
        turned = λ n is. failed.turned n (ap Err is);
      },
    )

pub returns-in-Ok-clause-no_blocks : goal.returns-in-Ok-clause-no_blocks
returns-in-Ok-clause-no_blocks g c n =
    let f = faces_look c.args.locus.now c.args.other.now c.requires.lent c.requires.few c.args.instr g.B.PageStore (g.S.Supplier.word c.args.gate.now.supply) c.args.store.now c.requires.planned.0 c.requires.planned.1 c.requires.holds in
    let short = made_short c.in-Ok.entry _ c.in-Ok.ensures.no_blocks n in
    (λ none. record { instr = c.args.instr; planned = f.planned; short = short.0 none }, λ over. short.1 over.short)

pub returns-in-Err-clause-no_blocks : goal.returns-in-Err-clause-no_blocks
returns-in-Err-clause-no_blocks g c n =
    let f = faces_look c.args.locus.now c.args.other.now c.requires.lent c.requires.few c.args.instr g.B.PageStore (g.S.Supplier.word c.args.gate.now.supply) c.args.store.now c.requires.planned.0 c.requires.planned.1 c.requires.holds in
    let short = paging_short c.in-Err.fault c.in-Err.ensures.no_blocks n in
    (λ none. record { instr = c.args.instr; planned = f.planned; short = short.0 none }, λ over. short.1 over.short)

pub returns-in-Ok-clause-numbers : goal.returns-in-Ok-clause-numbers
returns-in-Ok-clause-numbers g c = (λ t. c.in-Ok.ensures.entities.0 t ∷ c.in-Ok.ensures.entities.1 t ∷ [])

pub returns-in-Err-clause-numbers : goal.returns-in-Err-clause-numbers
returns-in-Err-clause-numbers g c = (λ t. c.in-Err.ensures.entities.0 t ∷ c.in-Err.ensures.entities.1 t ∷ [])
