-- Names that stay over a birth.
use Rattle.std.proofs.Common.{◌≡◌, ℕ, Bool, true, if◌then◌else◌, List, [], ◌∷◌, take, Option, Some, None, is_some, is_none, option_and_then, refl, sym, ap, subst, ◌∙◌}
use Rattle.base_types.specs.declared.histories.Entry.{Entry}
use Rattle.base_types.specs.declared.histories.Event.TheVariants.{Birth}
use Rattle.script_types.specs.model_kernel.Births.{birth_named, next_birth, next_birth_change}
use Rattle.script_types.specs.model_kernel.Changes.{Change, carried, changed, ordered}
use Rattle.script_types.specs.model_kernel.Scripts.{ContainerTable, LocusTable, Script, next_container_name, next_locus_name, next_name, number_of}
use Rattle.script_types.specs.model_kernel.State.{AtlasState, KernelState, Supply, Text}
use Rattle.script_types.specs.model_kernel.Steps.{atlas_in}
use Rattle.script_types.proofs.model_kernel_lemmas.Basics.{some_of_map}
use Rattle.script_types.specs.Rules.{IsScript}
use Rattle.model_births.proofs.Growing.{born_atlas, still_known}
use Rattle.model_births.proofs.KnownNames.{is_named, next_name_is}
use Rattle.script_fits.specs.NextTables.{AreBornBefore}
use Rattle.script_fits.specs.declared.tables.Progress.{Progress}
use Rattle.model_births.proofs.Ahead.{known_first, known_is}

abbrev Keeps : AtlasState → AtlasState → Type 0
Keeps a b = (x : Text) → is_some (number_of a x) ≡ true → is_some (number_of b x) ≡ true

containers_stay : (a b : AtlasState) → Keeps a b → (ts : List ContainerTable) → next_container_name a ts ≡ None → next_container_name b ts ≡ None
containers_stay a b keeps [] none = refl
containers_stay a b keeps (t ∷ ts) none =
    let first = known_first (is_none (number_of a t.name)) t.name (next_container_name a ts) none in
    let here = known_is (number_of b t.name) (keeps t.name (is_named (number_of a t.name) first.0)) in
    ap (λ (c : Bool). if c then Some t.name else next_container_name b ts) here ∙ containers_stay a b keeps ts first.1

loci_stay : (a b : AtlasState) → Keeps a b → (ts : List LocusTable) → next_locus_name a ts ≡ None → next_locus_name b ts ≡ None
loci_stay a b keeps [] none = refl
loci_stay a b keeps (t ∷ ts) none =
    let first = known_first (is_none (number_of a t.name)) t.name (next_locus_name a ts) none in
    let here = known_is (number_of b t.name) (keeps t.name (is_named (number_of a t.name) first.0)) in
    ap (λ (c : Bool). if c then Some t.name else next_locus_name b ts) here ∙ loci_stay a b keeps ts first.1

-- the name that is next, and what its birth changes
next_change : (s : Supply) (script : Script) (w : KernelState) (c : ℕ × Change) → next_birth_change s script w ≡ Some c
    → (name : Text) × (next_name (atlas_in (w 0).cell) script ≡ Some name) × (birth_named s script name w (atlas_in (w 0).cell) ≡ Some c)
unfolding next_birth_change
next_change s script w c = by (next_name (atlas_in (w 0).cell) script) refl
  where
    by : (o : Option Text) → next_name (atlas_in (w 0).cell) script ≡ o → option_and_then (λ name. birth_named s script name w (atlas_in (w 0).cell)) o ≡ Some c
        → (name : Text) × (next_name (atlas_in (w 0).cell) script ≡ Some name) × (birth_named s script name w (atlas_in (w 0).cell) ≡ Some c)
    by (Some name) is e = (name, is, e)
    by None is e = cc

pub progress_stays : (s : Supply) (script : Script) (w : KernelState) (r : Entry × KernelState) (p : Progress) → IsScript script → next_birth s script w ≡ Some r
    → AreBornBefore (atlas_in (w 0).cell) script p → AreBornBefore (atlas_in (r.1 0).cell) script p
progress_stays s script w r p rules is before =
    let a = atlas_in (w 0).cell in
    let made = some_of_map (λ (c : ℕ × Change). carried w Birth c.0 c.1) (next_birth_change s script w) r is in
    let next = next_change s script w made.0 made.1 in
    let grown = born_atlas s script next.0 w a made.0 (next_name_is a script next.0 rules next.1) next.2 in
    let keeps : Keeps a grown.0 = (λ x. still_known a grown.0 script next.0 x grown.2) in
    let cell : (r.1 0).cell ≡ (changed w (ordered made.0.1.accesses) 0).cell = ap (λ (q : Entry × KernelState). (q.1 0).cell) (sym made.2) in
    subst (λ k. AreBornBefore (atlas_in k) script p) (sym (cell ∙ grown.1)) (record {
      containers = containers_stay a grown.0 keeps (take p.containers script.containers) before.containers;
      loci = loci_stay a grown.0 keeps (take p.loci script.loci) before.loci;
      within = before.within;
    })
