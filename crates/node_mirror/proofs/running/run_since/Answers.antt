use Rattle.std.proofs.Common.{◌≡◌, ◌≤◌, ◌+◌, ◌*◌, ◌^◌, ◌∙◌, ℕ, List, [], length, Err, sym, ap, subst}
use Rattle.std.specs.Prelude.{OnOk}
use Rattle.std.proofs.lemmas.List.{get_or-replicate}
use Rattle.base_types.specs.declared.histories.Entry.{Entry}
use Rattle.drawn_words.specs.Words.{Words, words_numbered}
use Rattle.kernel_run_facts.specs.kernel_commit_facts.Parts.{Noted}
use Rattle.kernel_run_facts.specs.Running.{look_most}
use Rattle.kernel_run_facts.specs.kernel_laws.Opening.{empty_script, with_script}
use Rattle.node_mirror.proofs.Beginning.{begin_leaves, begin_run, begin_second, leaves_then, mirroring_first}
use Rattle.node_mirror.proofs.running.run_since.Goals as goal
use Rattle.node_mirror.specs.Leaving.{BeginsHere, HasMirrored, LeavesKernel, LeavesStandby, MirrorLeaves}
use Rattle.node_mirror.specs.Mirrors.{Mirrors, Watches}
use Rattle.node_mirror.specs.Stops.{kernel_part}
use Rattle.node_mirror.specs.declared.running.Mirrored.{Mirrored}
use Rattle.node_rounds.specs.node_standby.Following.{Follows}
use Rattle.node_rounds.specs.node_standby.Standing.{Standing}

-- WHERE IT NEVER BEGAN

pub returns-in-Err-clause-kernel : goal.returns-in-Err-clause-kernel
returns-in-Err-clause-kernel g c =
    let supply = g.S.Supplier.word c.args.gate.now.supply in
    let policy = g.P.Policy.wish c.args.gate.now.policy in
    let most = 64 * 1556 + length c.args.script.now.order.items * look_most + (2 ^ 22 + 1) * (23 * look_most) in
    subst (λ (r : Mirrored _). LeavesKernel g.D.Disk supply policy most c.args.kernel.now c.begin.new.kernel (kernel_part r.went)) (sym c.left.ensures)
    (begin_leaves g.D.Disk c.args.kernel.now c.begin.new.kernel c.begin.ensures.lent supply policy most c.in-Err.halt c.requires.clean c.in-Err.ensures.went)

pub returns-in-Err-clause-order : goal.returns-in-Err-clause-order
returns-in-Err-clause-order g c = subst (λ (r : Mirrored _). r.standby.count ≤ r.offered) (sym c.left.ensures) c.begin.ensures.step.order.kept

pub returns-in-Err-clause-lossless : goal.returns-in-Err-clause-lossless
returns-in-Err-clause-lossless g c = λ none. subst (λ (r : Mirrored _). OnOk r.went (r.standby.count ≡ r.offered)) (sym c.left.ensures) tt

pub returns-in-Err-clause-second : goal.returns-in-Err-clause-second
returns-in-Err-clause-second g c =
    subst (λ (r : Mirrored _). LeavesStandby g.E.Disk (g.E.Disk.faults c.args.standby.store.disk) r.standby r.went) (sym c.left.ensures)
    (subst (λ (st : Standing _). LeavesStandby g.E.Disk (g.E.Disk.faults c.args.standby.store.disk) st (Err c.in-Err.halt)) (sym (c.begin.ensures.same.0 ∙ c.new-line.ensures.standby))
    (begin_second g.E.Disk c.args.standby c.begin.new.kernel.stop c.in-Err.halt c.requires.fresh.1 c.in-Err.ensures.went))

pub returns-in-Err-clause-run : goal.returns-in-Err-clause-run
returns-in-Err-clause-run g c = λ told b begins.
    subst (λ (r : Mirrored _). MirrorLeaves g.D.Disk b r.went c.begin.new.kernel) (sym c.left.ensures)
    (begin_run g.D.Disk c.args.kernel.now c.begin.new.kernel c.begin.ensures.lent b c.in-Err.halt told c.requires.first begins.lives c.in-Err.ensures.went)

pub returns-in-Err-clause-course : goal.returns-in-Err-clause-course
returns-in-Err-clause-course g c = λ told b begins.
    subst (λ (r : Mirrored _). OnOk r.went (HasMirrored b c.begin.new.kernel.parts.noted.entries c.args.losing.loss (words_numbered c.args.losing.seed 55) r.offered r.standby.count)) (sym c.left.ensures) tt

pub returns-in-Err-clause-follows : goal.returns-in-Err-clause-follows
returns-in-Err-clause-follows g c = λ told b begins f.
    subst (λ (es : List Entry). Follows b es g.E.Disk c.left.result.standby) (sym (ap (λ (n : Noted). n.entries) c.begin.ensures.lent.notes ∙ c.requires.first))
    (subst (λ (r : Mirrored _). Follows b [] g.E.Disk r.standby) (sym c.left.ensures) (subst (Follows b [] g.E.Disk) (sym (c.begin.ensures.same.0 ∙ c.new-line.ensures.standby)) f))

-- WHERE IT RAN

pub play-requires-clause-clean : goal.play-requires-clause-clean
play-requires-clause-clean g c = c.begin.ensures.lent.clean _ c.requires.clean

pub play-requires-clause-fits : goal.play-requires-clause-fits
play-requires-clause-fits g c = rw (c.begin.ensures.lent.cells) c.requires.fits

pub play-requires-clause-first : goal.play-requires-clause-first
play-requires-clause-first g c = ap (λ (n : Noted). n.entries) c.begin.ensures.lent.notes ∙ c.requires.first

pub returns-clause-kernel : goal.returns-clause-kernel
returns-clause-kernel g c = leaves_then g.D.Disk c.args.kernel.now c.begin.new.kernel c.begin.ensures.lent _ _ _ c.play.new.kernel _ c.play.ensures.kernel

pub returns-clause-lossless : goal.returns-clause-lossless
returns-clause-lossless g c = λ none. c.play.ensures.lossless (c.requires.since.loss_is ∙ none)

pub returns-clause-second : goal.returns-clause-second
returns-clause-second g c = subst (λ (n : ℕ). LeavesStandby g.E.Disk n c.play.result.standby c.play.result.went) c.requires.since.faults_are c.play.ensures.second

pub returns-clause-run : goal.returns-clause-run
returns-clause-run g c = λ told b begins.
    let there : BeginsHere g.D.Disk _ _ _ c.begin.new.kernel b = record {
      same_supply = begins.same_supply;
      same_policy = begins.same_policy;
      same_script = begins.same_script;
      lives = c.begin.ensures.lent.lives told (with_script b (empty_script b.script.steps)) begins.lives;
    } in
    let watches : Watches g.E.Disk g.N.Since.began g.N.Since.words b [] c.begin.new.known 0 c.begin.new.line = record {
      mirrors = subst (λ (ws : Words). Mirrors ws b [] c.begin.new.known 0 c.begin.new.line) (c.new-line.ensures.words ∙ sym c.requires.since.words_are) (c.in_default.ensures.mirrors told b begins.lives);
      follows = λ start. subst (Follows b [] g.E.Disk) (sym (c.begin.ensures.same.0 ∙ c.new-line.ensures.standby)) (c.requires.since.followed b start);
    } in
    c.play.ensures.run told b there watches

pub returns-clause-course : goal.returns-clause-course
returns-clause-course g c = λ told b begins.
    let there : BeginsHere g.D.Disk _ _ _ c.begin.new.kernel b = record {
      same_supply = begins.same_supply;
      same_policy = begins.same_policy;
      same_script = begins.same_script;
      lives = c.begin.ensures.lent.lives told (with_script b (empty_script b.script.steps)) begins.lives;
    } in
    let watches : Watches g.E.Disk g.N.Since.began g.N.Since.words b [] c.begin.new.known 0 c.begin.new.line = record {
      mirrors = subst (λ (ws : Words). Mirrors ws b [] c.begin.new.known 0 c.begin.new.line) (c.new-line.ensures.words ∙ sym c.requires.since.words_are) (c.in_default.ensures.mirrors told b begins.lives);
      follows = λ start. subst (Follows b [] g.E.Disk) (sym (c.begin.ensures.same.0 ∙ c.new-line.ensures.standby)) (c.requires.since.followed b start);
    } in
    subst (λ (n : ℕ). OnOk c.play.result.went (HasMirrored b c.play.new.kernel.parts.noted.entries n (words_numbered c.args.losing.seed 55) c.play.result.offered c.play.result.standby.count)) c.requires.since.loss_is
    (subst (λ (ws : Words). OnOk c.play.result.went (HasMirrored b c.play.new.kernel.parts.noted.entries g.N.Since.loss ws c.play.result.offered c.play.result.standby.count)) c.requires.since.words_are
    (c.play.ensures.course told b there watches))

pub returns-clause-follows : goal.returns-clause-follows
returns-clause-follows g c = λ told b begins f.
    let there : BeginsHere g.D.Disk _ _ _ c.begin.new.kernel b = record {
      same_supply = begins.same_supply;
      same_policy = begins.same_policy;
      same_script = begins.same_script;
      lives = c.begin.ensures.lent.lives told (with_script b (empty_script b.script.steps)) begins.lives;
    } in
    let watches : Watches g.E.Disk g.N.Since.began g.N.Since.words b [] c.begin.new.known 0 c.begin.new.line = record {
      mirrors = subst (λ (ws : Words). Mirrors ws b [] c.begin.new.known 0 c.begin.new.line) (c.new-line.ensures.words ∙ sym c.requires.since.words_are) (c.in_default.ensures.mirrors told b begins.lives);
      follows = λ start. subst (Follows b [] g.E.Disk) (sym (c.begin.ensures.same.0 ∙ c.new-line.ensures.standby)) (c.requires.since.followed b start);
    } in
    c.play.ensures.follows told b there watches (c.requires.since.begins b f)

pub begin-requires-clause-known : goal.begin-requires-clause-known
begin-requires-clause-known g c x low = get_or-replicate 64 x 0 0 low

pub invariant_of-mirroring : goal.invariant_of-mirroring
invariant_of-mirroring g c = record {
  kept =
      mirroring_first g.E.Disk g.N.Since.faults g.N.Since.loss c.args.standby c.begin.new.line c.begin.ensures.step (c.begin.ensures.same.2 ∙ (c.new-line.ensures.loss ∙ sym c.requires.since.loss_is))
      (c.begin.ensures.same.0 ∙ c.new-line.ensures.standby) c.requires.since.faults_are c.requires.fresh.1;
}
