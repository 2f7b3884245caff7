-- What a birth asks, by the laws of sound states and of scripts that fit.
use Rattle.std.proofs.Common.{◌≡◌, ℕ, ◌+◌, ◌<◌, ◌≤◌, if◌then◌else◌, IsTrue, [], length, Some, None, is_none, option_map, option_and_then, refl, sym, ap, subst, ◌∙◌, arith}
use Rattle.std.proofs.lemmas.Bool.Decides.{nat_tests}
use Rattle.base_types.specs.declared.histories.Event.TheVariants.{Birth}
use Rattle.script_types.specs.model_kernel.Births.{birth, birth_change, birth_from, birth_named, knows_caps, knows_regions, locus_birth, next_birth, next_birth_change}
use Rattle.script_types.specs.model_kernel.Changes.{Change, carried}
use Rattle.script_types.specs.model_kernel.Scripts.{ContainerTable, LocusTable, Script, container_named, container_table, locus_table, next_name, number_in, number_of}
use Rattle.script_types.specs.model_kernel.Soundness.{AreSound, is_born_container, regions_onto}
use Rattle.script_types.specs.model_kernel.State.{AtlasState, Cell, NotBorn, KernelState, Supply, Text}
use Rattle.script_types.specs.model_kernel.Steps.{atlas_in}
use Rattle.script_types.specs.Rules.{IsScript, container_names}
use Rattle.script_fits.proofs.model_sound_runs_lemmas.Tables.{container_named_born}
use Rattle.script_fits.proofs.model_sound_runs_lemmas.Found.{and_both, find_locus, found_container}
use Rattle.script_fits.proofs.model_sound_runs_lemmas.Grown.{not_yet_container}
use Rattle.script_fits.specs.model_births.Fitting.{Fits}
use Rattle.script_fits.proofs.model_births_lemmas.KnownNames.{KnowsContainer, KnowsLocus, NextName, OfContainer, OfLocus, next_name_is}
use Rattle.script_fits.proofs.model_births_lemmas.Growing.{locus_change, named_defined}
use Rattle.script_fits.proofs.model_births_lemmas.Ends.{some_is}
use Rattle.data_atlas.specs.data_atlas_facts.Directory.{Directory}
use Rattle.script_fits.specs.act_calls.Calls.{atlas_state}
use Rattle.script_fits.specs.NextTables.{IsNextContainer, IsNextLocus}
use Rattle.cell_births.specs.Bearing.{MayBearContainer, MayBearLocus}

no_table : {A B : Type 0} {x : A} → None ≡ Some x → B
no_table e = absurd (no e)
  where
    no : {A : Type 0} {x : A} → None ≡ Some x → ⊥
    no e = cc

one_table : {A : Type 0} {x y : A} → Some x ≡ Some y → x ≡ y
one_table e = cc

-- CONTAINERS

pub may_bear_container : (script : Script) (d : Directory) (cells : ℕ → Cell) (t : ContainerTable) → IsScript script → Fits (atlas_state d) script → AreSound (atlas_state d) cells
    → IsNextContainer (atlas_state d) script t → MayBearContainer d t (length d.containers + 1)
may_bear_container script d cells t rules fits sound is = by (next_name_is (atlas_state d) script t.name rules is.next)
  where
    by : NextName (atlas_state d) script t.name → MayBearContainer d t (length d.containers + 1)
    by (OfLocus next none known) = no_table (sym none ∙ is.found)
    by (OfContainer next none) =
        let a = atlas_state d in
        let n = length d.containers + 1 in
        let same : next.table ≡ t = one_table (sym next.found ∙ is.found) in
        let knows : KnowsContainer a t = subst (KnowsContainer a) same next.knows in
        let found = (found_container a script t.name t n rules fits.kinds.containers is.found (and_both (knows_regions (number_in a t.name n) t.regions) (knows_caps (number_in a t.name n) t.caps) (knows n)).0).1 in
        let free : length d.containers < 40 = omega (arith, fits.containers, next.new) in
        record {
          earlier = found.earlier;
          ranges = found.ranges;
          free = free;
          number = refl;
          fresh = next.none;
          knows = knows n;
          targets = found.targets;
          unlinked = λ y. sound.edges n y ∙ ap (λ k. regions_onto k y) (sound.others n (not_yet_container a n refl (omega (arith, free))));
        }

-- LOCI

-- any supplier, and any state
some_words : Supply
some_words tag page place = 0

some_state : KernelState
some_state x = record { cell = NotBorn; version = 0; stamp = λ y. 0 }

named_locus : (script : Script) (a : AtlasState) (t : LocusTable) → number_of a t.name ≡ None → container_table script.containers t.name ≡ None → locus_table script.loci t.name ≡ Some t
    → birth_named some_words script t.name some_state a ≡ locus_birth some_state a t (container_named a t.host)
named_locus script a t new none found =
    ap (λ o. if is_none o then birth_from some_words some_state a (container_table script.containers t.name) (locus_table script.loci t.name) else None) new
    ∙ ap (λ o. birth_from some_words some_state a o (locus_table script.loci t.name)) none
    ∙ ap (birth_from some_words some_state a None) found

pub may_bear_locus : (script : Script) (d : Directory) (cells : ℕ → Cell) (t : LocusTable) → IsScript script → Fits (atlas_state d) script → AreSound (atlas_state d) cells
    → IsNextLocus (atlas_state d) script t → (host : ℕ) × MayBearLocus d t host (length d.loci + 41)
may_bear_locus script d cells t rules fits sound is = by (next_name_is (atlas_state d) script t.name rules is.next)
  where
    low : (a : AtlasState) (h : ℕ) → IsTrue (is_born_container a h) → 0 < h
    low a h born = grind (arith, nat_tests)

    high : (a : AtlasState) (h : ℕ) → IsTrue (is_born_container a h) → h ≤ length a.containers
    high a h born = grind (arith, nat_tests)

    by : NextName (atlas_state d) script t.name → (host : ℕ) × MayBearLocus d t host (length d.loci + 41)
    by (OfContainer next none) = no_table (sym is.absent ∙ next.found)
    by (OfLocus next none known) =
        let a = atlas_state d in
        let n = length d.loci + 41 in
        let same : next.table ≡ t = one_table (sym next.found ∙ is.found) in
        let knows : KnowsLocus a t = subst (KnowsLocus a) same next.knows in
        let found = find_locus a (container_names script.containers) [] script.loci t.name t rules.loci is.found in
        let change = some_is (birth_named some_words script t.name some_state a) (named_defined some_words script t.name some_state a rules fits (OfLocus next none known)) in
        let host = locus_change some_state a t (container_named a t.host) change.0 (sym (named_locus script a t next.none is.absent is.found) ∙ change.1) in
        let born = container_named_born a t.host host.0 host.2 in
        let above = high a host.0 born in (
          host.0,
          record {
            containers = container_names script.containers;
            earlier = found.0;
            ranges = found.1;
            free = omega (arith, fits.loci, next.new);
            number = refl;
            fresh = next.none;
            knows = knows n;
            hosted = host.2;
            above = low a host.0 born;
            below = omega (arith, above, sound.names.few_containers);
          },
        )

-- THE NEXT BIRTH

pub next_named : (s : Supply) (script : Script) (w : KernelState) (name : Text) → next_name (atlas_in (w 0).cell) script ≡ Some name → next_birth s script w ≡ birth s script name w
unfolding next_birth_change birth_change
next_named s script w name next =
    ap (λ o. option_map (λ (c : ℕ × Change). carried w Birth c.0 c.1) (option_and_then (λ name. birth_named s script name w (atlas_in (w 0).cell)) o)) next
