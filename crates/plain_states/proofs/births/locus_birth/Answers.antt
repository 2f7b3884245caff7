use Rattle.std.proofs.Common.{◌≡◌, ◌-◌, ◌<◌, ◌++◌, [], ◌∷◌, Some, map, length, slice_get, string_bytes, refl, sym, ap, ◌∙◌, arith}
use Rattle.std.proofs.lemmas.List.{map_push}
use Rattle.std.proofs.lemmas.Option.{slice_get_read, slice_get_within}
use Rattle.model_kernel.specs.Births.{locus_from}
use Rattle.model_kernel.specs.Scripts.{container_named, number_in}
use Rattle.script_types.specs.Scripts.{locus_of as table_of}
use Rattle.plain_states.specs.Plains.{atlas_of, edges_of}
use Rattle.plain_states.proofs.PlainBirths.{LocusAdded, few_names, host_place, locus_added_bears, locus_added_sound, locus_number, still_sound}
use Rattle.model_kernel.specs.State.{Supply}
use Rattle.plain_states.proofs.births.locus_birth.Goals as goal

-- any supplier
nothing : Supply
nothing tag page place = 0

hosted : (c : goal.After-number) → container_named (atlas_of c.args.state.now.atlas) (string_bytes c.args.table.now.host) ≡ Some c.in-Some.host
hosted c = ap (container_named (atlas_of c.args.state.now.atlas)) (sym c.deref.ensures) ∙ sym c.container_named.ensures ∙ c.in-Some.is

pub overflow_sub-place : goal.overflow_sub-place
overflow_sub-place c =
    let found = host_place nothing c.args.state.now (string_bytes c.args.table.now.host) c.in-Some.host (c.requires.sound nothing) (hosted c) in
    omega (arith, found.3, c.number.ensures.number)

pub index-requires : goal.index-requires
index-requires c =
    let host = c.in-Some.host in
    let cs = c.args.state.now.containers.items in
    let found = host_place nothing c.args.state.now (string_bytes c.args.table.now.host) host (c.requires.sound nothing)
    (ap (container_named (atlas_of c.args.state.now.atlas)) (sym c.deref.ensures) ∙ sym c.container_named.ensures ∙ c.in-Some.is) in
    let lt : host - 1 < length cs = slice_get_within cs (host - 1) found.0 found.1 in
    omega (arith, c.number.ensures.number)

pub locus_entry-requires-clause-first : goal.locus_entry-requires-clause-first
locus_entry-requires-clause-first c =
    let found = host_place nothing c.args.state.now (string_bytes c.args.table.now.host) c.in-Some.host (c.requires.sound nothing)
    (ap (container_named (atlas_of c.args.state.now.atlas)) (sym c.deref.ensures) ∙ sym c.container_named.ensures ∙ c.in-Some.is) in
    found.3

pub locus_entry-requires-clause-second : goal.locus_entry-requires-clause-second
locus_entry-requires-clause-second c =
    let found = host_place nothing c.args.state.now (string_bytes c.args.table.now.host) c.in-Some.host (c.requires.sound nothing)
    (ap (container_named (atlas_of c.args.state.now.atlas)) (sym c.deref.ensures) ∙ sym c.container_named.ensures ∙ c.in-Some.is) in
    let n = locus_number (atlas_of c.args.state.now.atlas) c.in-Some-free_locus.newborn (sym c.free_locus.ensures ∙ c.in-Some-free_locus.is) in
    omega (arith, found.4, n.1)

added : (s : Supply) (c : goal.After-locus_entry) → LocusAdded s c.args.state.now c.add_locus.new.state (table_of c.args.table.now) c.in-Some.host c.in-Some-free_locus.newborn c.index.result.now c.in_ok-locus.locus
added s c =
    let t = table_of c.args.table.now in
    let old = c.args.state.now in
    let cs = old.containers.items in
    let host = c.in-Some.host in
    let n = c.in-Some-free_locus.newborn in
    let hosted : container_named (atlas_of old.atlas) t.host ≡ Some host = ap (container_named (atlas_of old.atlas)) (sym c.deref.ensures) ∙ sym c.container_named.ensures ∙ c.in-Some.is in
    let found = host_place s old t.host host (c.requires.sound s) hosted in
    let lt : host - 1 < length cs = slice_get_within cs (host - 1) found.0 found.1 in
    let place : c.number.result ≡ host = c.number.ensures.number in
    let read : slice_get cs (c.number.result - 1) ≡ Some c.index.result.now = slice_get_read cs (length cs) (c.number.result - 1) c.index.result.now refl (omega arith) c.index.ensures in
    let name : string_bytes c.in_ok-name.name ≡ t.name = c.in_ok-name.ensures.cases in
    record {
      sound = (c.requires.sound s);
      table = c.requires.table;
      hosted = hosted;
      there = ap (λ k. slice_get cs (k - 1)) (sym place) ∙ read;
      free = sym c.free_locus.ensures ∙ c.in-Some-free_locus.is;
      made = c.in_ok-locus.ensures ∙ ap (locus_from (number_in (atlas_of old.atlas) t.name n) t host) c.deref-2.ensures.value;
      names = ap (map string_bytes) c.in_ok-add_locus.ensures.names ∙ map_push string_bytes old.atlas.loci.items c.in_ok-name.name ∙ ap (λ x. map string_bytes old.atlas.loci.items ++ x ∷ []) name;
      container_names = ap (map string_bytes) c.in_ok-add_locus.ensures.container_names;
      edges = c.in_ok-add_locus.ensures.edges;
      containers = c.in_ok-add_locus.ensures.containers;
      loci = c.in_ok-add_locus.ensures.loci;
    }

pub returns-clause-sound : goal.returns-clause-sound
returns-clause-sound c s = locus_added_sound s c.args.state.now c.add_locus.new.state (table_of c.args.table.now) c.in-Some.host c.in-Some-free_locus.newborn c.index.result.now c.in_ok-locus.locus (added s c)

pub returns-clause-birth : goal.returns-clause-birth
returns-clause-birth c s =
    locus_added_bears s c.args.state.now c.add_locus.new.state (table_of c.args.table.now) c.in-Some.host c.in-Some-free_locus.newborn c.index.result.now c.in_ok-locus.locus (added s c)
    c.args.versions.now c.locus_entry.new.versions c.locus_entry.result (omega arith) c.locus_entry.ensures.entry c.locus_entry.ensures.versions

pub container_named-requires : goal.container_named-requires
container_named-requires c = few_names c.args.state.now c.requires.sound

pub locus_from-requires-clause-names : goal.locus_from-requires-clause-names
locus_from-requires-clause-names c = few_names c.args.state.now c.requires.sound

pub returns-in_err-add_locus-clause-sound : goal.returns-in_err-add_locus-clause-sound
returns-in_err-add_locus-clause-sound c s =
    let h = c.in_err-add_locus.ensures in
    still_sound s c.args.state.now c.add_locus.new.state (λ i. record { containers = map string_bytes (h.container_names i); loci = map string_bytes (h.names_stay i); edges = edges_of (h.edges i) })
    h.containers h.loci_stay (c.requires.sound s)
