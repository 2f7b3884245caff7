use Rattle.std.proofs.Common.{sym, ap, ◌∙◌, ◌||◌}
use Rattle.act_look.specs.Looks.{is_look}
use Rattle.cell_calls.specs.act_calls.Calls.{is_map, is_unmap}
use Rattle.cell_plans.proofs.Planned.{call_beside}
use Rattle.cell_calls.proofs.Touching.{itself_alone}
use Rattle.cell_plans.proofs.plans.reach_beside.Goals as goal

pub returns-then-is_itself : goal.returns-then-is_itself
returns-then-is_itself c l own wants = record { wants = own; alone = itself_alone c.args.me c.args.other l c.args.act.instr wants (sym c.is_itself.ensures ∙ c.if-is_itself.true) }

pub returns-in-Load : goal.returns-in-Load
returns-in-Load c l own wants = record { instr = ap is_look (wants.instr ∙ c.in-Load.is); allowed = wants.allowed; other = wants.other }

pub returns-in-Store : goal.returns-in-Store
returns-in-Store c l own wants = record { instr = ap is_look (wants.instr ∙ c.in-Store.is); allowed = wants.allowed; other = wants.other }

pub returns-in-Map : goal.returns-in-Map
returns-in-Map c l own wants = record { instr = wants.instr; maps = ap (λ i. is_map i || is_unmap i) c.in-Map.is; allowed = wants.allowed; other = wants.other }

pub returns-in-Unmap : goal.returns-in-Unmap
returns-in-Unmap c l own wants = record { instr = wants.instr; maps = ap (λ i. is_map i || is_unmap i) c.in-Unmap.is; allowed = wants.allowed; other = wants.other }

pub returns-in_default : goal.returns-in_default
returns-in_default c l own wants =
    call_beside c.args.me c.args.other l c.args.act.instr wants (sym c.is_itself.ensures ∙ c.if-is_itself.false) c.in_default.not-Load c.in_default.not-Store c.in_default.not-Map c.in_default.not-Unmap
