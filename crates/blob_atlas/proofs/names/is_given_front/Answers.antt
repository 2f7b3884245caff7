use Rattle.std.proofs.Common.{List, ℕ, sym, ap, ◌∙◌}
use Rattle.std.specs.List.{list_all}
use Rattle.data_atlas.specs.data_atlas_facts.Directory.{is_name_byte}
use Rattle.blob_reading.proofs.blob_facts_lemmas.NameTests.{given_front}
use Rattle.blob_atlas.proofs.names.is_given_front.Goals as goal

pub returns-then-is_letter : goal.returns-then-is_letter
returns-then-is_letter c =
    let is = c.as_bytes-bytes.ensures.value ∙ c.deref.ensures.0 in
    given_front c.args.front.now.bytes c.in-Some.first.now c.in-Some._rest.now c.are_name_bytes.result (sym is ∙ c.in-Some.ensures.cases.0)
    (sym c.is_letter.ensures ∙ c.if-is_letter.true) (c.are_name_bytes.ensures ∙ ap (λ (l : List ℕ). list_all is_name_byte l) is)
