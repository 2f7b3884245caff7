use Rattle.std.proofs.Common.{sym, ap, ◌∙◌}
use Rattle.cell_states.specs.model_kernel.State.{Supply, NotBorn}
use Rattle.cell_states.specs.act_alone.Loci.{locus_of}
use Rattle.cell_states.specs.act_calls.Calls.{atlas_state, born_head}
use Rattle.cell_newborns.proofs.Newborns.{bears_container, born_some, head_pages}
use Rattle.cell_newborns.proofs.containers.make_storage.Goals as goal

-- any supply serves
some_words : Supply
some_words = λ tag page place. 0

pub unreachable-requires : goal.unreachable-requires
unreachable-requires c =
    let a = atlas_state c.args.atlas.now in
    let bears = bears_container some_words 0 (locus_of c.args.locus.now) a NotBorn c.requires.wants c.requires.free in
    born_some some_words a _ bears.0 (ap (born_head some_words a) (sym c.in_default.is) ∙ sym (c.make-reply.ensures 0 some_words NotBorn).newborn ∙ bears.1)

pub begin-requires-clause-some : goal.begin-requires-clause-some
begin-requires-clause-some c =
    let a = atlas_state c.args.atlas.now in
    let bears = bears_container some_words 0 (locus_of c.args.locus.now) a NotBorn c.requires.wants c.requires.free in
    (head_pages some_words a c.in-Some.head _ bears.0 (ap (born_head some_words a) (sym c.in-Some.is) ∙ sym (c.make-reply.ensures 0 some_words NotBorn).newborn ∙ bears.1) bears.2).0

pub begin-requires-clause-few : goal.begin-requires-clause-few
begin-requires-clause-few c =
    let a = atlas_state c.args.atlas.now in
    let bears = bears_container some_words 0 (locus_of c.args.locus.now) a NotBorn c.requires.wants c.requires.free in
    (head_pages some_words a c.in-Some.head _ bears.0 (ap (born_head some_words a) (sym c.in-Some.is) ∙ sym (c.make-reply.ensures 0 some_words NotBorn).newborn ∙ bears.1) bears.2).1
