use Rattle.std.proofs.Common.{[], ◌∷◌, inl}
use Rattle.thread_steps.proofs.Facing.{faces_other}
use Rattle.thread_steps.proofs.kinds.go_beside.Goals as goal

pub advance_beside-requires : goal.advance_beside-requires
advance_beside-requires c =
    let f = faces_other c.args.locus.now c.args.other.now c.requires.lent c.requires.few c.args.instr c.requires.planned.0 c.requires.planned.1 c.requires.planned.2 in
    record { planned = f.planned; fits = f.fits; apart = f.apart; few = f.few }

pub returns : goal.returns
returns c = record {
  step = λ s words. c.advance_beside.ensures.step s words;
  memory = λ _. (inl c.advance_beside.ensures.memory, tt);
  numbers = λ t. c.advance_beside.ensures.entities.0 t ∷ c.advance_beside.ensures.entities.1 t ∷ [];
}
