-- The name of an item of a list.
use Rattle.std.proofs.Common.{◌≡◌, ℕ, ◌+◌, ◌<◌, List, ◌∷◌, length, drop, map, get_or, Some, if◌then◌else◌, string_bytes, sym, ap, ◌∙◌}
use Rattle.std.proofs.lemmas.List.{at_drop_more, get_or-map, length-map}
use Rattle.script_types.specs.model_kernel.Scripts.{text_eq}
use Rattle.script_types.specs.model_kernel.State.{Text}
use Rattle.script_meaning.specs.Meaning.{code_named}
use Rattle.script_reading.specs.Views.{program_of}
use Rattle.script_reading.specs.declared.programs.Program.{Program as CodeProgram}

-- the first of the programs that are left
pub named_at : (name : Text) (ps : List CodeProgram) (i : ℕ) (p : CodeProgram) → i < length ps → p ≡ get_or ps i p
    → code_named name (drop i (map program_of ps)) ≡ (if text_eq name (string_bytes p.name) then Some p.code.items else code_named name (drop (i + 1) (map program_of ps)))
named_at name ps i p lt is =
    at_drop_more (code_named name) (map program_of ps) i (program_of p) (rw length-map lt)
    ∙ ap (λ q. code_named name (q ∷ drop (i + 1) (map program_of ps))) (get_or-map program_of ps i p (program_of p) lt ∙ ap program_of (sym is))
