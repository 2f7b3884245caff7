use Rattle.kernel_core_facts.specs.kernel_commit_facts.Parts.{parts_of}
use Rattle.kernel_core_facts.proofs.kernel_commit_facts_lemmas.Room.{begun_few}
use Rattle.kernel_core_facts.proofs.kernel_commit_facts_lemmas.Steadying.{few_at_start}
use Rattle.kernel_core.proofs.kernels.Kernel.begin.Goals as goal

pub invariant_of-result : goal.invariant_of-result
invariant_of-result g c =
    let m = c.requires.may in
    let to_come = begun_few c.args.steps c.args.cells.items m.sound.matches.orderly.numbers.len m.sound.matches.orderly.numbers.each m.fresh in
    record {
      orderly = m.sound.matches.orderly;
      steady = λ _. record {
        sound = record { matches = m.sound.matches; working = m.sound.working; true_books = m.sound.true_books };
        few = few_at_start (parts_of c.args.store c.args.cells.items c.in-Ok.notes) c.args.steps c.in-Ok.ensures.nothing.0 c.in-Ok.ensures.nothing.1 c.in-Ok.ensures.room to_come m.steps_few m.versions m.epoch;
      };
    }
