use Rattle.std.proofs.Common.{refl, sym, ap, subst, arith}
use Rattle.base_types.specs.Kinds.{kind_of}
use Rattle.cell_clocks.specs.model_kernel.State.{LocusState}
use Rattle.image_format.specs.blob_grammar.Forms.{IsNumber}
use Rattle.image_format.specs.blob_grammar.Shapes.{IsLocusOver}
use Rattle.image_format.specs.image_meaning.Parts.{LocusPart}
use Rattle.act_alone.specs.Loci.{locus_of}
use Rattle.test_kernel.proofs.Fitting.{formed_locus}
use Rattle.test_kernel.proofs.snapped.stepped_locus.Goals as goal

pub returns : goal.returns
returns c = record {
  spellable = record {
    spelt = LocusPart (locus_of c.new.result);
    born = refl;
    kind = ap kind_of (sym c.of-entity.ensures);
    formed = subst (λ (l : LocusState). IsLocusOver IsNumber IsNumber l) (sym c.new.ensures) (formed_locus c.of.result c.args.every (let e = c.of.ensures in omega (arith, e)));
  };
  own = rw c.of-entity.ensures refl;
  some = omega arith;
  sound = λ held. tt;
  founded = record { past = omega arith; changed = λ noted. omega arith };
}
