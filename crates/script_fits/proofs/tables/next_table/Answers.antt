use Rattle.std.proofs.Common.{◌≡◌, ◌<◌, ◌≤◌, Some, None, length, map, take, slice_get, option_map, refl, sym, ap, ◌∙◌, arith}
use Rattle.std.proofs.lemmas.Bool.{ltb-true}
use Rattle.std.proofs.lemmas.List.{length-map}
use Rattle.std.proofs.lemmas.Option.{slice_get_read}
use Rattle.std.proofs.lemmas.Option.{slice_get-map}
use Rattle.script_types.specs.model_kernel.Scripts.{next_container_name, next_locus_name, number_of}
use Rattle.script_types.specs.model_kernel.Words.{or_else}
use Rattle.script_types.specs.Scripts.{container_of, locus_of, tables_of}
use Rattle.act_atlas_laws.specs.act_calls.Calls.{atlas_state}
use Rattle.model_births.proofs.Ahead.{container_all, container_first, locus_first, new_is, no_container}
use Rattle.script_fits.proofs.tables.next_table.Goals as goal

pub returns-in-Some-clause-some : goal.returns-in-Some-clause-some
returns-in-Some-clause-some c =
    let a = atlas_state c.args.atlas.now in
    let ts = c.args.script.now.containers.items in
    let t = c.in-Some.table.now in
    let k = c.next_container-progress.result in
    let l = c.in-Some.ensures.lookup in
    let within : k < length c.deref-2.result.now = ltb-true k (length c.deref-2.result.now) (sym l.0) in
    let read : slice_get c.deref-2.result.now k ≡ Some t = slice_get_read c.deref-2.result.now (length c.deref-2.result.now) k t refl within l.1 in
    let got : slice_get ts k ≡ Some t = ap (λ xs. slice_get xs k) (sym c.deref-2.ensures.value) ∙ read in
    let new = c.next_container-progress.ensures.new t (ap (λ xs. slice_get xs k) c.deref.ensures.value ∙ got) in
    let before = ap (λ xs. next_container_name a (take k (map container_of xs))) (sym c.deref.ensures.value) ∙ c.next_container-progress.ensures.before in
    let first = container_first a (map container_of ts) k (container_of t) before (slice_get-map container_of ts k ∙ ap (option_map container_of) got) new in
    record { next = ap (λ o. or_else o (next_locus_name a (tables_of c.args.script.now).loci)) first.0; found = first.1 }

pub returns-in-Some-get-clause-some : goal.returns-in-Some-get-clause-some
returns-in-Some-get-clause-some c =
    let a = atlas_state c.args.atlas.now in
    let cs = c.args.script.now.containers.items in
    let ts = c.args.script.now.loci.items in
    let t = c.in-Some-get.table.now in
    let k = c.next_locus-progress.result in
    let m = c.next_container-progress.result in
    let l = c.in-Some-get.ensures.lookup in
    let within : k < length c.deref-4.result.now = ltb-true k (length c.deref-4.result.now) (sym l.0) in
    let read : slice_get c.deref-4.result.now k ≡ Some t = slice_get_read c.deref-4.result.now (length c.deref-4.result.now) k t refl within l.1 in
    let got : slice_get ts k ≡ Some t = ap (λ xs. slice_get xs k) (sym c.deref-4.ensures.value) ∙ read in
    let new = c.next_locus-progress.ensures.new t (ap (λ xs. slice_get xs k) c.deref-3.ensures.value ∙ got) in
    let before = ap (λ xs. next_locus_name a (take k (map locus_of xs))) (sym c.deref-3.ensures.value) ∙ c.next_locus-progress.ensures.before in
    let first = locus_first a (map locus_of ts) k (locus_of t) before (slice_get-map locus_of ts k ∙ ap (option_map locus_of) got) new in
    let known = ap (λ xs. next_container_name a (take m (map container_of xs))) (sym c.deref.ensures.value) ∙ c.next_container-progress.ensures.before in
    let past : length c.deref-2.result.now ≤ m = c.in_default.ensures.lookup.3 in
    let all : next_container_name a (map container_of cs) ≡ None =
    container_all a (map container_of cs) m known (omega (arith, past, ap length c.deref-2.ensures.value, length-map cs container_of)) in
    let none : number_of a (locus_of t).name ≡ None = new_is (number_of a (locus_of t).name) new in
    record {
      next = ap (λ o. or_else o (next_locus_name a (map locus_of ts))) all ∙ first.0;
      absent = no_container a (map container_of cs) (locus_of t).name all none;
      found = first.1;
    }
