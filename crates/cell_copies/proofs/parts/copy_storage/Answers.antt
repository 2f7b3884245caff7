use Rattle.std.proofs.Common.{◌≡◌, ◌≤◌, ℕ, ◌+◌, ◌++◌, ◌∷◌, [], if◌then◌else◌, ◌==◌, sym, ap, subst, ◌∙◌}
use Rattle.std.specs.List.{All}
use Rattle.base_types.specs.declared.capabilities.Region.{Region}
use Rattle.act_alone.proofs.model_sound_steps_lemmas.RegionLists.{shown}
use Rattle.data_atlas.specs.data_atlas_facts.Directory.{edges_of}
use Rattle.cell_births.specs.act_alone.declared.loci.Head.{Head}
use Rattle.cell_births.specs.act_alone.Loci.{container_with}
use Rattle.std.proofs.lemmas.Option.{same_Some}
use Rattle.cell_copies.proofs.Copies.{same_copied}
use Rattle.cell_copies.proofs.Words.{storage_head}
use Rattle.cell_copies.proofs.parts.copy_storage.Goals as goal

-- any words serve
some_words : ℕ → ℕ
some_words = λ address. 0

pub link-requires-clause-targets : goal.link-requires-clause-targets
link-requires-clause-targets c =
    let regions : c.as_slice.result.now ≡ c.args.head.now.regions = c.as_slice.ensures.all ∙ ap (λ k. k.regions) (c.copy_head-copy.ensures some_words) in
    subst (All (λ (r : Region). (1 ≤ r.target) × (r.target ≤ 40))) (sym regions) c.requires.targets

pub begin-requires : goal.begin-requires
begin-requires c =
    let pages : c.copy_head-copy.result.pages ≡ c.args.head.now.pages = ap (λ k. k.pages) (c.copy_head-copy.ensures some_words) in
    record {
      some = subst (λ n. 1 ≤ n) (sym pages) c.requires.some;
      few = subst (λ n. n ≤ 256) (sym pages) c.requires.few;
    }

pub returns-clause-atlas : goal.returns-clause-atlas
returns-clause-atlas c =
    let d = c.args.atlas.now in
    let n = c.args.number in
    let regions : c.as_slice.result.now ≡ c.args.head.now.regions = c.as_slice.ensures.all ∙ ap (λ k. k.regions) (c.copy_head-copy.ensures some_words) in
    let named = c.name_container.ensures in
    let containers : c.link.new.atlas.containers ≡ d.containers ++ c.args.fresh.now ∷ [] = c.link.ensures.names.0 ∙ ap (λ d. d.containers) named in
    let loci : c.link.new.atlas.loci ≡ d.loci = c.link.ensures.names.1 ∙ ap (λ d. d.loci) named in
    let counts : (x y : ℕ) → edges_of c.link.new.atlas x y ≡ edges_of d x y + (if x == n then shown c.args.head.now.regions y else 0) =
    (λ x y. c.link.ensures.counts x y ∙ ap (λ e. edges_of e x y + (if x == n then shown c.as_slice.result.now y else 0)) named ∙ ap (λ rs. edges_of d x y + (if x == n then shown rs y else 0)) regions) in
    same_copied d c.link.new.atlas n c.args.head.now.regions c.args.fresh.now containers loci counts

pub returns-clause-blank : goal.returns-clause-blank
returns-clause-blank c =
    let same : c.begin.ensures.begun.head ≡ c.copy_head-copy.result = same_Some c.begin.ensures.begun.head c.copy_head-copy.result (sym (storage_head c.begin.new.storage c.begin.ensures.begun.head c.begin.ensures.begun.memory c.begin.ensures.begun.is) ∙ c.begin.ensures.head) in
    record {
      begun = c.begin.ensures.begun;
      same = λ words. ap (λ (h : Head). container_with words h) same ∙ c.copy_head-copy.ensures words;
    }
