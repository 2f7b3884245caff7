use Rattle.std.proofs.Common.{ap, refl}
use Rattle.script_types.specs.model_kernel.State.{ContainerCell}
use Rattle.act_alone.specs.Loci.{container_with}
use Rattle.cell_newborns.proofs.Zeros.{zero_at, zero_held, zero_words}
use Rattle.cell_births.proofs.containers.begin.Goals as goal

pub begin-requires-clause-none_past : goal.begin-requires-clause-none_past
begin-requires-clause-none_past c page past = zero_at c.new.result.0 c.new.ensures page

pub returns-clause-cell : goal.returns-clause-cell
returns-clause-cell c s words =
    ap (λ f. ContainerCell (container_with f c.args.head)) (λ i address. zero_words s words c.args.head.tag c.begin.new.self c.new.result.0 c.new.ensures (λ a. c.begin.ensures.words s words a) address i)

pub returns-clause-memory : goal.returns-clause-memory
returns-clause-memory c = record {
  head = c.args.head;
  memory = c.begin.new.self;
  is = refl;
  tag = ap (λ m. m.tag) c.begin.ensures.is;
  pages = ap (λ m. m.pages) c.begin.ensures.is;
  table = λ held. c.begin.ensures.table held (zero_held held c.new.result.0 c.new.ensures);
  clean = λ s words. c.begin.ensures.clean s words;
}
