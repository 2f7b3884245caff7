use Rattle.std.proofs.Common.{◌≡◌, ◌≤◌, ◌∙◌, sym, ap, subst}
use Rattle.std.proofs.lemmas.Option.{same_Some}
use Rattle.cell_births.specs.act_alone.declared.loci.Head.{Head}
use Rattle.cell_births.specs.cell_states.declared.cells.Part.TheVariants as part
use Rattle.cell_copies.proofs.Words.{is_unchanged, storage_head}
use Rattle.cell_copies.proofs.parts.place.Goals as goal

pub returns-clause-begun : goal.returns-clause-begun
returns-clause-begun c =
    let same : c.requires.begun.head ≡ c.in-Some.head = same_Some c.requires.begun.head c.in-Some.head (sym (storage_head c.args.storage.now c.requires.begun.head c.requires.begun.memory c.requires.begun.is) ∙ c.in-Some.is) in
    record {
      head = c.in-Some.head;
      memory = c.begin.new.self;
      is = ap (λ o. part.Container (record { head = o; memory = c.begin.new.self })) c.in-Some.is;
      tag = ap (λ m. m.tag) c.begin.ensures.is;
      pages = ap (λ m. m.pages) c.begin.ensures.is;
      some = subst (λ (h : Head). 1 ≤ h.pages) same c.requires.begun.some;
      few = subst (λ (h : Head). h.pages ≤ 256) same c.requires.begun.few;
      table_is = ap (λ m. m.table) c.begin.ensures.is;
      words_are = λ s words address. c.begin.ensures.words s words address;
      sound = λ held are. c.begin.ensures.table held are;
      clean = λ s words. c.begin.ensures.clean s words;
      unchanged = is_unchanged _ c.begin.new.self (ap (λ m. m.frames) c.begin.ensures.is);
    }
