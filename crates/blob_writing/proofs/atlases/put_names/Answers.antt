use Rattle.std.proofs.Common.{◌≡◌, ◌<◌, ◌+◌, ◌∙◌, ℕ, List, length, Some, sym, ap, arith}
use Rattle.std.specs.Prelude.{slice_get}
use Rattle.data_atlas.specs.data_atlas_facts.Directory.{name_of}
use Rattle.blob_facts.specs.Pieces.{first_of, names_of}
use Rattle.blob_facts.proofs.NamesPut.{name_there, name_written, number_named, some_name}
use Rattle.blob_writing.proofs.atlases.put_names.Goals as goal
use Rattle.blob_writing.proofs.atlases.put_names.Goals.{in-Some, in-None}

pub loop-place-preserved : goal.loop-place-preserved
loop-place-preserved c =
    let i = c.loop-place.place in
    let names = names_of c.args.kind c.args.atlas.now in
    let within : i < length names = omega (arith, c.loop-place-test.true, c.named-count.ensures.number, number_named c.args.kind c.args.atlas.now) in
    let number : c.of.result ≡ first_of c.args.kind + i = c.of.ensures ∙ ap (λ (first : ℕ). first + i) c.first_number-first.ensures in
    let there = ap (name_of c.args.atlas.now) number ∙ name_there c.args.kind c.args.atlas.now i c.named-count.ensures.containers within in
    elim c.match-name.branch [
      | in-Some w ↦
          let is : slice_get names i ≡ Some w.deref.result.now = sym (w.in-Some.ensures ∙ there) ∙ ap Some (sym w.deref.ensures.0) in
          let same = ap (λ (l : List ℕ). length l) w.blob-is in
          record {
            names = w.blob-is ∙ name_written names i w.deref.result.now c.args.blob.now c.loop-place.blob w.put_text.new.blob within is c.loop-place.invariant.names w.put_text.ensures.text;
            long = omega (arith, same, w.put_text.ensures.most, c.loop-place.invariant.long);
          }
      | in-None w ↦ absurd (some_name names i within (sym (w.in-None.ensures ∙ there)))
    ]
