-- Looks at words that nobody tells.
use Rattle.std.proofs.Common.{◌≡◌, ◌≤◌, ℕ, ◌*◌, List, Some, Option, refl, sym, ap, subst, ◌∙◌}
use Rattle.base_types.specs.declared.histories.Answer.{Answer}
use Rattle.cell_states.specs.model_kernel.Acts.{wanted}
use Rattle.cell_states.specs.model_kernel.Outcomes.{outcome}
use Rattle.cell_states.specs.model_kernel.State.{Supply, AtlasState, ContainerCell, LocusCell, LocusState}
use Rattle.act_look.specs.act_alone.Loci.{container_with, locus_of}
use Rattle.act_look.specs.act_alone.declared.loci.Head.{Head}
use Rattle.act_look.specs.act_alone.declared.loci.Locus.{Locus}
use Rattle.act_look.specs.Looks.{LooksSomehow}
use Rattle.cell_states.specs.declared.cells.Part.TheVariants as part
use Rattle.cell_states.specs.declared.cells.Storage.{Storage}
use Rattle.cell_looks.specs.Looking.{MakesLook, MakesSomehow, head_with, pages_of}

pub same_locus : (k l : LocusState) → LocusCell k ≡ LocusCell l → k ≡ l
same_locus k l e = cc

-- a look at a container with this head
pub makes_somehow : (k k' : Locus) (h : Head) (b b' : Storage) (answer : Answer) → b.head ≡ Some h → b'.head ≡ Some h → LooksSomehow (locus_of k) (locus_of k') h answer
    → MakesSomehow (part.Locus (Some k)) (part.Locus (Some k')) (part.Container b) (part.Container b') answer
makes_somehow k k' h b b' answer had has looks = record {
  before = looks.before;
  after = looks.after;
  past = λ own at high. looks.past own at (subst (λ o. pages_of o * 128 ≤ at) had high);
  made = λ own me s words l a is.
      let old = container_with (looks.before own) h in
      let new = container_with (looks.after own) h in
      let made = looks.made own me s a in
      let here : MakesLook (outcome s (locus_of k) (wanted me (locus_of k)) a (ContainerCell old)) (LocusCell (locus_of k')) (ContainerCell old) (ContainerCell new) answer =
      record { locus_made = ap LocusCell made.locus; answers = made.answers; other_made = made.container; newborn = made.newborn } in
      let told = subst (λ l. MakesLook (outcome s l (wanted me l) a (ContainerCell old)) (LocusCell (locus_of k')) (ContainerCell old) (ContainerCell new) answer) (same_locus (locus_of k) l is) here in
      let before = subst (λ (o : Option Head). MakesLook (outcome s l (wanted me l) a (head_with (looks.before own) o)) (LocusCell (locus_of k')) (head_with (looks.before own) o) (ContainerCell new) answer) (sym had) told in
      subst (λ (o : Option Head). MakesLook (outcome s l (wanted me l) a (head_with (looks.before own) b.head)) (LocusCell (locus_of k')) (head_with (looks.before own) b.head) (head_with (looks.after own) o) answer) (sym has) before;
}
