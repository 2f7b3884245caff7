use Rattle.std.proofs.Common.{rules, ◌≡◌, string_bytes}
use Rattle.command_words.specs.declared.Command.TheVariants.{CheckTrace, Copy, Drill, Report, Run, Show}
use Rattle.hopper_top.proofs.Doing.{can_check, can_drill, can_report, can_run, can_show, cannot_copy, completes_by, copies_by}
use Rattle.hopper_top.proofs.commands.do_command.Goals as goal

pub returns-in-Run-clause-complete : goal.returns-in-Run-clause-complete
returns-in-Run-clause-complete g c can source disk sink room =
    let is : c.args.command ≡ Run c.in-Run.trace = search rules in
    c.run_script.ensures.complete (can_run g.m _ _ _ is can) source disk sink room

pub returns-in-Show-clause-complete : goal.returns-in-Show-clause-complete
returns-in-Show-clause-complete g c can source disk sink room =
    let is : c.args.command ≡ Show = search rules in
    let both = can_show g.m _ _ is can in
    c.show_image.ensures.complete both.0 both.1 disk sink

pub returns-in-Report-clause-complete : goal.returns-in-Report-clause-complete
returns-in-Report-clause-complete g c can source disk sink room =
    let is : c.args.command ≡ Report = search rules in
    let both = can_report g.m _ _ is can in
    c.report_image.ensures.complete both.0 both.1 disk sink

pub returns-in-Drill-clause-complete : goal.returns-in-Drill-clause-complete
returns-in-Drill-clause-complete g c can source disk sink room =
    let is : c.args.command ≡ Drill c.in-Drill.number = search rules in
    c.run_drill.ensures.complete (can_drill g.m _ _ _ is can) disk sink room

pub returns-in-CheckTrace-clause-complete : goal.returns-in-CheckTrace-clause-complete
returns-in-CheckTrace-clause-complete g c can source disk sink room =
    let is : c.args.command ≡ CheckTrace = search rules in
    c.check_trace.ensures.complete (can_check g.m _ _ is can) source disk sink

pub returns-in-Copy-clause-complete : goal.returns-in-Copy-clause-complete
returns-in-Copy-clause-complete g c can source disk sink room =
    let is : c.args.command ≡ Copy = search rules in
    absurd (cannot_copy g.m _ _ is can)

pub returns-in-Copy-clause-copies : goal.returns-in-Copy-clause-copies
returns-in-Copy-clause-copies g c =
    let is : c.args.command ≡ Copy = search rules in
    copies_by _ _ _ _ (string_bytes c.copied_names.result.0.now) (string_bytes c.copied_names.result.1.now) is c.copied_names.ensures c.copy_image.ensures.leaves

pub returns-in-Copy-clause-copied : goal.returns-in-Copy-clause-copied
returns-in-Copy-clause-copied g c =
    let is : c.args.command ≡ Copy = search rules in
    completes_by _ _ _ _ (string_bytes c.copied_names.result.0.now) (string_bytes c.copied_names.result.1.now) is c.copied_names.ensures (λ can disk sink room. c.copy_image.ensures.complete can disk sink room)
