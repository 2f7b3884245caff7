-- The names to which the next table of a script refers.
use Rattle.std.proofs.Common.{sym, subst}
use Rattle.plain_steps.specs.model_kernel.Scripts.{Script}
use Rattle.plain_steps.specs.model_kernel.State.{Text, AtlasState}
use Rattle.plain_states.specs.Born.{KnowsContainer, KnowsLocus, KnowsNames}
use Rattle.plain_steps.proofs.model_births_lemmas.KnownNames.{NextName, OfContainer, OfLocus}
pub use Rattle.plain_steps.proofs.model_births_lemmas.KnownNames.{next_name_is}

-- the names to which its table refers are known
pub next_known : (a : AtlasState) (script : Script) (name : Text) → NextName a script name → KnowsNames a script name
next_known a script name (OfContainer next none) = record { container = subst (KnowsContainer a) (sym next.found) next.knows; locus = subst (KnowsLocus a) (sym none) tt }
next_known a script name (OfLocus next none known) = record { container = subst (KnowsContainer a) (sym none) tt; locus = subst (KnowsLocus a) (sym next.found) next.knows }
