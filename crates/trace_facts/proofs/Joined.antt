-- The lines of a history, piece by piece.
use Rattle.std.proofs.Common.{◌≡◌, List, [], ◌∷◌, ◌++◌, refl, sym, ap, ◌∙◌, append_assoc}
use Rattle.base_types.specs.declared.histories.Entry.{Entry}
use Rattle.line_text.specs.model_kernel.Histories.{Run, goes_on, run_after}
use Rattle.line_text.specs.model_kernel.Scripts.{Script}
use Rattle.line_text.specs.model_kernel.State.{Supply, Text}
use Rattle.trace_facts.specs.Traces.{line_in, spelled}

pub spelled-append : (s : Supply) (script : Script) (r : Run) (es fs : List Entry) → spelled s script r (es ++ fs) ≡ spelled s script r es ++ spelled s script (run_after s script r es) fs
spelled-append s script r [] fs = refl
spelled-append s script r (e ∷ es) fs =
    ap (λ (rest : Text). line_in s script r e ++ rest) (spelled-append s script (goes_on s script r e) es fs)
    ∙ sym (append_assoc (line_in s script r e) (spelled s script (goes_on s script r e) es) (spelled s script (run_after s script (goes_on s script r e) es) fs))
