-- What is put of a history where no name is known.
use Rattle.std.proofs.Common.{◌≡◌, ◌<◌, ◌≤◌, List, [], ◌∷◌, get_or, length, replicate, refl, sym, ap, ◌∙◌, arith}
use Rattle.base_types.specs.declared.histories.Entry.{Entry}
use Rattle.script_types.specs.model_kernel.State.{AtlasState, no_atlas}
use Rattle.command_open.specs.command_promises.Manners.{Telling}
use Rattle.data_atlas.specs.data_atlas_facts.Directory.{Directory}
use Rattle.data_atlas.proofs.data_atlas_facts_lemmas.Naming.{no_edges}
use Rattle.line_runs.specs.act_calls.Calls.{atlas_state}
use Rattle.cell_states.specs.declared.cells.Cell.{Cell}
use Rattle.cell_states.specs.declared.cells.Part.{Part}
use Rattle.command_open.specs.table_births.Births.{atlas_state_by, atlas_state_in}

-- no cells have no directory
pub no_cells : (cs : List Cell) → length cs < 1 → atlas_state_in cs ≡ no_atlas
no_cells [] short = refl
no_cells (c ∷ cs) short = absurd (omega (arith, short))

-- nor do cells of which the first is another entity's
pub no_directory : (cs : List Cell) (c : Cell) (p : Part) → 1 ≤ length cs → c ≡ get_or cs 0 c → c.part ≡ p → atlas_state_by p ≡ no_atlas → atlas_state_in cs ≡ no_atlas
no_directory [] c p some first is none = absurd (omega (arith, some))
no_directory (x ∷ xs) c p some first is none = ap (λ (y : Cell). atlas_state_by y.part) (sym first) ∙ (ap atlas_state_by is ∙ none)

-- a new directory is the atlas in which nothing is born
new_atlas : (d : Directory) → d ≡ record { containers = []; loci = []; edges = replicate 41 (replicate 41 0) } → atlas_state d ≡ no_atlas
new_atlas d is = ap atlas_state is ∙ (λ i. record { containers = []; loci = []; edges = λ x y. no_edges 41 41 x y i })

-- and then what is put is told by no names
pub nameless : (telling : Telling) (cs : List Cell) (d : Directory) (es : List Entry) → d ≡ record { containers = []; loci = []; edges = replicate 41 (replicate 41 0) } → atlas_state_in cs ≡ no_atlas
    → telling (atlas_state d) es ≡ telling (atlas_state_in cs) es
nameless telling cs d es is none = ap (λ (a : AtlasState). telling a es) (new_atlas d is ∙ sym none)
