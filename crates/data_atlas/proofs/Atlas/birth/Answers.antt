-- The new name is a given one that leads to no number yet, or the made one of the lowest free number.
use Rattle.std.proofs.Common.{◌≡◌, ◌+◌, ◌<◌, length, None, refl, sym, ap, ◌∙◌, arith}
use Rattle.base_types.specs.declared.entities.Kind.TheVariants.{Container, Locus}
use Rattle.data_atlas_facts.specs.Directory.{Directory, name_of}
use Rattle.data_atlas_facts.proofs.Naming.{NewName, has_room, given_new, made_new, born_container, born_locus, free_container_none, free_locus_none}
use Rattle.data_atlas.proofs.Atlas.birth.Goals as goal
use Rattle.data_atlas.proofs.Atlas.birth.Goals.{in-Container, in-Locus, in-Some, in-None}

apart : Container ≡ Locus → ⊥
apart e = cc

pub invariant_of-self : goal.invariant_of-self
invariant_of-self c =
    let i = c.self.inside in
    let a : Directory = record { containers = i.containers.items; loci = i.loci.items; edges = i.edges } in
    let at : (length a.loci < 23) × (c.match-kind.free ≡ length a.loci + 41) =
    elim c.match-kind.branch [
      | in-Container w ↦ absurd (apart (sym w.in-Container.is ∙ c.in-Locus-kind.is))
      | in-Locus w ↦ (has_room (length a.loci) 23 w.if-not-is_full-2.ensures.value w.if-not-is_full-2.ensures.fits, omega (arith, w.free-is, w.len-in-Locus.ensures.value))
    ] in
    let none : name_of a c.match-kind.free ≡ None = ap (name_of a) at.1 ∙ free_locus_none a in
    let new : NewName a c.match-kind.free c.match-name.name =
    elim c.match-name.branch [
      | in-Some w ↦ given_new a c.match-kind.free w.in-Some.text.now c.match-name.name ((rw (w.in-Some.is, ← c.self.view_is) at c.requires.name) w.in-Some.text refl) (w.name-is ∙ w.new-name.ensures)
      | in-None w ↦ made_new a c.match-kind.free c.match-name.name c.self.invariant.1 (omega (arith, at.0, at.1)) none (w.name-is ∙ w.made-name.ensures)
    ] in
    (c.self.invariant.0, born_locus a c.match-name.name c.match-kind.free c.push.new.self.items c.self.invariant.1 new at.0 at.1 c.push.ensures.items)

pub invariant_of-self-in_default-kind : goal.invariant_of-self-in_default-kind
invariant_of-self-in_default-kind c =
    let i = c.self.inside in
    let a : Directory = record { containers = i.containers.items; loci = i.loci.items; edges = i.edges } in
    let at : (length a.containers < 40) × (c.match-kind.free ≡ length a.containers + 1) =
    elim c.match-kind.branch [
      | in-Container w ↦ (has_room (length a.containers) 40 w.if-not-is_full.ensures.value w.if-not-is_full.ensures.fits, omega (arith, w.free-is, w.len.ensures.value))
      | in-Locus w ↦ absurd (c.in_default-kind.not-Locus w.in-Locus.is)
    ] in
    let none : name_of a c.match-kind.free ≡ None = ap (name_of a) at.1 ∙ free_container_none a at.0 in
    let new : NewName a c.match-kind.free c.match-name.name =
    elim c.match-name.branch [
      | in-Some w ↦ given_new a c.match-kind.free w.in-Some.text.now c.match-name.name ((rw (w.in-Some.is, ← c.self.view_is) at c.requires.name) w.in-Some.text refl) (w.name-is ∙ w.new-name.ensures)
      | in-None w ↦ made_new a c.match-kind.free c.match-name.name c.self.invariant.1 (omega (arith, at.0, at.1)) none (w.name-is ∙ w.made-name.ensures)
    ] in
    (c.self.invariant.0, born_container a c.match-name.name c.match-kind.free c.push-in_default-kind.new.self.items c.self.invariant.1 new at.0 at.1 c.push-in_default-kind.ensures.items)
