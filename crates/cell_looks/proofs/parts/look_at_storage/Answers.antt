use Rattle.std.proofs.Common.{refl}
use Rattle.std.proofs.lemmas.Result.{IfOk-weaker}
use Rattle.act_look.specs.act_alone.Loci.{locus_of}
use Rattle.cell_looks.proofs.AtWord.{faults_at_word}
use Rattle.cell_looks.proofs.Short.{look_short, look_turns}
use Rattle.cell_looks.proofs.Somehow.{makes_somehow}
use Rattle.cell_looks.proofs.parts.look_at_storage.Goals as goal

pub returns-clause-somehow : goal.returns-clause-somehow
returns-clause-somehow g c = IfOk-weaker c.look.result _ _ (λ answer. makes_somehow _ _ c.in-Some.head _ _ answer c.in-Some.is c.in-Some.is) c.look.ensures.somehow

pub returns-clause-at_word : goal.returns-clause-at_word
returns-clause-at_word g c =
    let w = c.requires.wants in
    faults_at_word (locus_of c.args.locus.now) w.0 c.in-Some.head c.args.storage.now w.1 c.in-Some.is c.look.result (λ past. (c.look.ensures.untouched past).0)

pub returns-clause-no_blocks : goal.returns-clause-no_blocks
returns-clause-no_blocks g c =
    look_short (g.B.PageStore.kept_names c.args.store.now) (g.B.PageStore.free c.args.store.now) _ _ (g.B.PageStore.is_shut c.args.store.now) _ c.args.locus.now c.in-Some.head c.args.storage.now c.look.new.memory c.look.result c.in-Some.is
    (λ past. (c.look.ensures.untouched past).0) c.look.ensures.room c.look.ensures.pages.cause

pub returns-clause-turned : goal.returns-clause-turned
returns-clause-turned g c =
    look_turns (g.B.PageStore.kept_names c.args.store.now) (g.B.PageStore.free c.args.store.now) _ _ (g.B.PageStore.is_shut c.args.store.now) _ c.args.locus.now c.in-Some.head c.args.storage.now c.look.new.memory c.look.result c.in-Some.is
    (λ past. (c.look.ensures.untouched past).0) c.look.ensures.room c.look.ensures.pages.cause
