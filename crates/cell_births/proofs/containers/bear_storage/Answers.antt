use Rattle.std.proofs.Common.{◌≡◌, ◌≤◌, ℕ, ◌+◌, ◌++◌, ◌∷◌, [], if◌then◌else◌, ◌==◌, map, string_bytes, sym, ap, subst, ◌∙◌}
use Rattle.std.specs.List.{All}
use Rattle.base_types.specs.declared.capabilities.Region.{Region}
use Rattle.script_types.specs.model_kernel.Births.{regions_from}
use Rattle.script_types.specs.model_kernel.Outcomes.{supplied}
use Rattle.script_types.specs.model_kernel.Scripts.{number_in}
use Rattle.script_types.specs.model_kernel.State.{ContainerCell}
use Rattle.act_alone.proofs.model_sound_steps_lemmas.RegionLists.{shown}
use Rattle.script_types.specs.Scripts.{region_of}
use Rattle.data_atlas.specs.data_atlas_facts.Directory.{edges_of}
use Rattle.act_alone.specs.Loci.{container_with}
use Rattle.script_fits.specs.act_calls.Calls.{atlas_state}
use Rattle.cell_births.proofs.Linking.{same_atlas, targets_small}
use Rattle.cell_births.proofs.containers.bear_storage.Goals as goal

-- any supply serves
some_words : ℕ → ℕ → ℕ → ℕ
some_words = λ tag page place. 0

pub link-requires-clause-targets : goal.link-requires-clause-targets
link-requires-clause-targets c =
    let number = number_in (atlas_state c.args.atlas.now) (string_bytes c.args.table.now.name) c.args.newborn in
    let ts = map region_of c.args.table.now.regions.items in
    let regions : c.as_slice.result.now ≡ regions_from number ts = c.as_slice.ensures.all ∙ ap (λ k. k.regions) (c.head_from-head.ensures.container some_words) in
    subst (All (λ (r : Region). (1 ≤ r.target) × (r.target ≤ 40))) (sym regions) (targets_small c.args.atlas.now number ts c.requires.free c.requires.targets)

pub returns-clause-atlas : goal.returns-clause-atlas
returns-clause-atlas c =
    let d = c.args.atlas.now in
    let n = c.args.newborn in
    let name = string_bytes c.args.table.now.name in
    let number = number_in (atlas_state d) name n in
    let ts = map region_of c.args.table.now.regions.items in
    let regions : c.as_slice.result.now ≡ regions_from number ts = c.as_slice.ensures.all ∙ ap (λ k. k.regions) (c.head_from-head.ensures.container some_words) in
    let named = c.name_container.ensures in
    let containers : c.link.new.atlas.containers ≡ d.containers ++ name ∷ [] = c.link.ensures.names.0 ∙ ap (λ d. d.containers) named ∙ ap (λ t. d.containers ++ t ∷ []) c.deref.ensures in
    let loci : c.link.new.atlas.loci ≡ d.loci = c.link.ensures.names.1 ∙ ap (λ d. d.loci) named in
    let counts : (x y : ℕ) → edges_of c.link.new.atlas x y ≡ edges_of d x y + (if x == n then shown (regions_from number ts) y else 0) =
    (λ x y. c.link.ensures.counts x y ∙ ap (λ e. edges_of e x y + (if x == n then shown c.as_slice.result.now y else 0)) named ∙ ap (λ rs. edges_of d x y + (if x == n then shown rs y else 0)) regions) in
    same_atlas d c.link.new.atlas number n ts name containers loci counts

pub returns-clause-cell : goal.returns-clause-cell
returns-clause-cell c s words =
    c.begin.ensures.cell s words ∙ ap (λ tag. ContainerCell (container_with (supplied s tag) c.head_from-head.result)) c.head_from-head.ensures.tag ∙ ap ContainerCell (c.head_from-head.ensures.container s)
