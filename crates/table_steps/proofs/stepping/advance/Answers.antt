use Rattle.table_steps.proofs.Short.{idle_short, made_short, paging_short, paging_turned}
use Rattle.table_steps.proofs.stepping.advance.Goals as goal

pub returns-in-Err-clause-no_blocks : goal.returns-in-Err-clause-no_blocks
returns-in-Err-clause-no_blocks g c =
    idle_short (g.B.PageStore.kept_names c.args.store.now) (g.B.PageStore.free c.args.store.now) c.args.me c.args.cells.now c.in-Err.why c.in-Err.ensures.idle

pub returns-in-Ok-go-clause-no_blocks : goal.returns-in-Ok-go-clause-no_blocks
returns-in-Ok-go-clause-no_blocks g c = made_short c.in-Ok-go.entry _ c.in-Ok-go.ensures.no_blocks

pub returns-in-Err-go-clause-no_blocks : goal.returns-in-Err-go-clause-no_blocks
returns-in-Err-go-clause-no_blocks g c = paging_short c.in-Err-go.fault c.in-Err-go.ensures.no_blocks

pub returns-in-Err-go-clause-turned : goal.returns-in-Err-go-clause-turned
returns-in-Err-go-clause-turned g c n none =
    (paging_turned c.in-Err-go.fault c.in-Err-go.ensures.turned n none, paging_turned c.in-Err-go.fault c.in-Err-go.ensures.pages.wanting n none)
