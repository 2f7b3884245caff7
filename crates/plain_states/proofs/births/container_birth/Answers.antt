use Rattle.std.proofs.Common.{◌≡◌, ◌≤◌, ◌++◌, [], ◌∷◌, map, length, string_bytes, sym, ap, ◌∙◌, arith}
use Rattle.std.proofs.lemmas.List.{map_push}
use Rattle.model_kernel.specs.Births.{regions_from}
use Rattle.model_kernel.specs.Scripts.{number_in}
use Rattle.model_kernel.specs.State.{Supply, ContainerState}
use Rattle.script_types.specs.Scripts.{container_of as table_of}
use Rattle.plain_states.specs.Born.{edges_below}
use Rattle.plain_states.specs.Plains.{atlas_of, edges_of}
use Rattle.model_sound_runs.proofs.Tables.{length_regions}
use Rattle.plain_states.proofs.PlainBirths.{ContainerAdded, added_bears, added_edges, added_sound, few_names, still_sound}
use Rattle.plain_states.proofs.births.container_birth.Goals as goal

pub edges_from-requires : goal.edges_from-requires
edges_from-requires c =
    let t = table_of c.args.table.now in
    let number = number_in (atlas_of c.args.state.now.atlas) t.name c.in-Some.newborn in
    let same : c.deref.result.now ≡ regions_from number t.regions = c.deref.ensures.value ∙ ap (λ (d : ContainerState). d.regions) (c.in_ok-container.ensures (λ t p x. 0)) in
    let few : length t.regions ≤ 16 = c.requires.table.ranges.few_regions in
    let long : length c.deref.result.now ≡ length t.regions = ap length same ∙ length_regions number t.regions in
    omega arith

added : (s : Supply) (c : goal.After-drop-edges-2) → ContainerAdded s c.args.state.now c.add_container.new.state (table_of c.args.table.now) c.in-Some.newborn c.in_ok-container.container
added s c =
    let t = table_of c.args.table.now in
    let old = c.args.state.now in
    let name : string_bytes c.in_ok-name.name ≡ t.name = c.in_ok-name.ensures.cases in
    record {
      sound = (c.requires.sound s);
      edges = c.requires.edges;
      table = c.requires.table;
      free = sym c.free_container.ensures ∙ c.in-Some.is;
      made = c.in_ok-container.ensures s;
      names = ap (map string_bytes) c.in_ok-add_container.ensures.names ∙ map_push string_bytes old.atlas.containers.items c.in_ok-name.name ∙ ap (λ x. map string_bytes old.atlas.containers.items ++ x ∷ []) name;
      locus_names = ap (map string_bytes) c.in_ok-add_container.ensures.locus_names;
      new_edges = c.in_ok-add_container.ensures.edges ∙ ap (λ es. old.atlas.edges.items ++ es) (c.deref-2.ensures.value ∙ c.in_ok-edges.ensures ∙ ap (λ rs. edges_below c.in-Some.newborn rs c.in-Some.newborn) c.deref.ensures.value);
      containers = c.in_ok-add_container.ensures.containers;
      loci = c.in_ok-add_container.ensures.loci;
    }

pub returns-clause-edges : goal.returns-clause-edges
returns-clause-edges c = added_edges (λ t p x. 0) c.args.state.now c.add_container.new.state (table_of c.args.table.now) c.in-Some.newborn c.in_ok-container.container (added (λ t p x. 0) c)

pub returns-clause-sound : goal.returns-clause-sound
returns-clause-sound c s = added_sound s c.args.state.now c.add_container.new.state (table_of c.args.table.now) c.in-Some.newborn c.in_ok-container.container (added s c)

pub returns-clause-birth : goal.returns-clause-birth
returns-clause-birth c s =
    added_bears s c.args.state.now c.add_container.new.state (table_of c.args.table.now) c.in-Some.newborn c.in_ok-container.container (added s c)
    c.args.versions.now c.container_entry.new.versions c.container_entry.result (omega arith) c.container_entry.ensures.entry c.container_entry.ensures.versions

pub container_from-requires-clause-names : goal.container_from-requires-clause-names
container_from-requires-clause-names c = few_names c.args.state.now c.requires.sound

pub returns-in_err-add_container-clause-sound : goal.returns-in_err-add_container-clause-sound
returns-in_err-add_container-clause-sound c s =
    let h = c.in_err-add_container.ensures in
    still_sound s c.args.state.now c.add_container.new.state (λ i. record { containers = map string_bytes (h.names_stay i); loci = map string_bytes (h.locus_names i); edges = edges_of (h.edges_stay i) })
    h.containers_stay h.loci (c.requires.sound s)
