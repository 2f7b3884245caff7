use Rattle.std.proofs.Common.{◌≡◌, map, string_bytes, sym, ap, subst, ◌∙◌}
use Rattle.std.specs.List.{All}
use Rattle.script_types.specs.model_kernel.Births.{container_from, regions_from, caps_from}
use Rattle.script_types.specs.model_kernel.Outcomes.{supplied}
use Rattle.script_types.specs.model_kernel.Scripts.{number_in}
use Rattle.script_types.specs.model_kernel.State.{ContainerState}
use Rattle.script_types.specs.Rules.{IsRegionTable}
use Rattle.script_types.specs.Scripts.{container_of, region_of, cap_of}
use Rattle.script_fits.specs.act_calls.Calls.{atlas_state}
use Rattle.cell_births.proofs.containers.head_from.Goals as goal

pub regions_from-head-requires-clause-ranges : goal.regions_from-head-requires-clause-ranges
regions_from-head-requires-clause-ranges c =
    let table = c.requires.1 in
    (c.requires.0, c.args.table.now.pages, table.pages.1, subst (λ rs. All (IsRegionTable c.requires.0 c.args.table.now.pages) (map region_of rs)) (sym c.deref-3.ensures.value) table.regions)

pub returns-clause-container : goal.returns-clause-container
returns-clause-container c s =
    let a = atlas_state c.args.atlas.now in
    let n = c.args.newborn in
    let table = c.args.table.now in
    let number = number_in a (string_bytes table.name) n in
    let all : ContainerState = container_from s number (container_of table) in
    let regions : c.regions_from-head.result ≡ regions_from number (map region_of table.regions.items) =
    c.regions_from-head.ensures ∙ ap (λ name. regions_from (number_in a name n) (map region_of c.deref-3.result.now)) c.deref-2.ensures ∙ ap (λ rs. regions_from number (map region_of rs)) c.deref-3.ensures.value in
    let caps : c.caps_from-head.result ≡ caps_from number 0 (map cap_of table.caps.items) =
    c.caps_from-head.ensures ∙ ap (λ name. caps_from (number_in a name n) 0 (map cap_of c.deref-5.result.now)) c.deref-4.ensures ∙ ap (λ cs. caps_from number 0 (map cap_of cs)) c.deref-5.ensures.value in
    ap (λ (k : ContainerState). record k { regions = c.regions_from-head.result; caps = c.caps_from-head.result }) (c.new-head.ensures (supplied s table.tag))
    ∙ ap {B = ContainerState} (λ code. record all { code = code; regions = c.regions_from-head.result; caps = c.caps_from-head.result }) c.deref.ensures.value
    ∙ ap {B = ContainerState} (λ rs. record all { regions = rs; caps = c.caps_from-head.result }) regions ∙ ap {B = ContainerState} (λ cs. record all { caps = cs }) caps

pub returns-clause-tag : goal.returns-clause-tag
returns-clause-tag c = ap (λ h. h.tag) (c.new-head.ensures (λ i. 0))

pub returns-clause-pages : goal.returns-clause-pages
returns-clause-pages c = ap (λ h. h.pages) (c.new-head.ensures (λ i. 0))
