-- Cells that were lent from a table come back to their places.
use Rattle.std.proofs.Common.{◌≡◌, ℕ, List, [], ◌∷◌, slice_get, slice_set, Some, refl, sym, ap, ◌∙◌}
use Rattle.std.proofs.lemmas.List.{length-set, set-get_or}
use Rattle.std.proofs.lemmas.Option.{get_or_from_slice_get, slice_get_within}
use Rattle.table_laws.proofs.plain_states_lemmas.CellLemmas.{slice_get-set_other, slice_get-set_same}
use Rattle.table_laws.specs.cell_states.declared.cells.Cell.{Cell}
use Rattle.table_laws.specs.Lending.{ForPairs, IsApart, IsSameNumber, Lends, StandIn}
use Rattle.thread_cell_steps.specs.Advancing.{with_cells}

-- each cell is of another entity than those behind it
abbrev pub AllApart : List Cell → Type 0
AllApart [] = Unit {0}
AllApart (c ∷ old) = IsApart c.clock.entity old × AllApart old

stand_later : (cs : List Cell) (n : ℕ) (d : Cell) (old : List Cell) → IsApart n old → StandIn cs old → StandIn (slice_set cs n d) old
stand_later cs n d [] apart stand = tt
stand_later cs n d (c ∷ old) apart stand = (slice_get-set_other cs n c.clock.entity d apart.0 ∙ stand.0, stand_later cs n d old apart.1 stand.1)

pub lends_with : (cs old new : List Cell) → AllApart old → ForPairs IsSameNumber old new → StandIn cs old → Lends cs (with_cells cs old new) old new
lends_with cs [] [] apart same stand = record { len = refl; numbers = tt; stood = tt; stand = tt; others = λ x far. refl }
lends_with cs (c ∷ old) (d ∷ new) apart same stand =
    let mid = slice_set cs c.clock.entity d in
    let rest = lends_with mid old new apart.1 same.1 (stand_later cs c.clock.entity d old apart.0 stand.1) in
    record {
      len = rest.len ∙ length-set cs c.clock.entity d;
      numbers = same;
      stood = stand;
      stand = (ap (slice_get (with_cells mid old new)) same.0 ∙ rest.others c.clock.entity apart.0 ∙ slice_get-set_same cs c.clock.entity d (slice_get_within cs c.clock.entity c stand.0), rest.stand);
      others = λ x far. rest.others x far.1 ∙ slice_get-set_other cs c.clock.entity x d (λ e. far.0 (sym e));
    }
lends_with cs [] (d ∷ new) apart same stand = absurd same
lends_with cs (c ∷ old) [] apart same stand = absurd same

set_same : (cs : List Cell) (n : ℕ) (c : Cell) → slice_get cs n ≡ Some c → slice_set cs n c ≡ cs
set_same cs n c is = ap (slice_set cs n) (sym (get_or_from_slice_get cs n c c is)) ∙ set-get_or cs n c

-- what comes back as it was leaves the table as it was
pub with_same : (cs old : List Cell) → StandIn cs old → with_cells cs old old ≡ cs
with_same cs [] stand = refl
with_same cs (c ∷ old) stand = ap (λ (l : List Cell). with_cells l old old) (set_same cs c.clock.entity c stand.0) ∙ with_same cs old stand.1

pub same_numbers : (old : List Cell) → ForPairs IsSameNumber old old
same_numbers [] = tt
same_numbers (c ∷ old) = (refl, same_numbers old)

pub with_undone : (cs : List Cell) (c c' : Cell) (old new : List Cell) → StandIn cs (c ∷ old) → c' ≡ c → new ≡ old → with_cells cs (c ∷ old) (c' ∷ new) ≡ cs
with_undone cs c c' old new stand same others = ap (λ (k : Cell). with_cells cs (c ∷ old) (k ∷ new)) same ∙ ap (λ (ks : List Cell). with_cells cs (c ∷ old) (c ∷ ks)) others ∙ with_same cs (c ∷ old) stand
