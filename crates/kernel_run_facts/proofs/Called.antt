-- The loci of the run in the directory of the cells.
use Rattle.std.proofs.Common.{◌≡◌, ℕ, ◌+◌, ◌≤◌, true, false, ◌&&◌, if◌then◌else◌, nat_lt, nat_le, List, [], ◌∷◌, length, Option, None, Some, is_some, slice_get, refl, sym, ap, subst, ◌∙◌, arith}
use Rattle.std.proofs.lemmas.Bool.Decides.{nat_tests}
use Rattle.script_types.specs.model_kernel.Histories.{start_run}
use Rattle.script_types.specs.model_kernel.Scripts.{atlas_name, container_named, locus_named, number_of, place_of, text_eq}
use Rattle.script_types.specs.model_kernel.State.{KernelState, Supply, Text}
use Rattle.script_types.specs.model_kernel.Steps.{atlas_in}
use Rattle.script_types.specs.model_kernel.Words.{or_else}
use Rattle.script_types.proofs.model_kernel_lemmas.LegalRuns.{state_after as state_run}
use Rattle.data_atlas.specs.data_atlas_facts.Directory.{Directory, IsDirectory, entity_named}
use Rattle.kernel_core.proofs.act_atlas_laws_lemmas.NameLaws.{numbers_same}
use Rattle.kernel_core.specs.act_calls.Calls.{atlas_state}
use Rattle.kernel_core.specs.cell_states.declared.cells.Cell.{Cell}
use Rattle.kernel_core.specs.cell_states.declared.cells.Part.TheVariants as part
use Rattle.kernel_core.specs.cell_states.Cells.{part_of}
use Rattle.kernel_core.specs.table_laws.Tables.{entity_in, state_in}
use Rattle.kernel_core.proofs.act_atlas_laws_lemmas.ByKind.{container_test, locus_test, no_locus}
use Rattle.kernel_core.specs.kernel_record_facts.Cells.{words_on}
use Rattle.kernel_core.specs.kernel_invariant.Beginnings.{Beginning, run_of}
use Rattle.kernel_core.specs.kernel_core_facts.Kernels.{Held, Lives}
use Rattle.std.proofs.lemmas.Option.{same_Some}
use Rattle.std.proofs.lemmas.Bool.{true≢false}
use Rattle.edge_disk.specs.declared.disk.Disk.{Ghosts}

none_some : {l : ℕ} → None ≡ Some l → ⊥
none_some e = cc

-- a locus of this name is what the directory finds
number_is : (d : Directory) (name : Text) (l : ℕ) → IsDirectory d → locus_named (atlas_state d) name ≡ Some l → number_of (atlas_state d) name ≡ Some l
number_is d name l h e = by (number_of (atlas_state d) name) refl
  where
    c : Option ℕ
    c = container_named (atlas_state d) name

    behind : (k : ℕ) → 41 ≤ k → (o : Option ℕ) → is_some o ≡ (nat_le 1 k && nat_lt k 41) → or_else o (locus_named (atlas_state d) name) ≡ Some k → k ≡ l
    behind k far (Some m) some is = (let off : (nat_le 1 k && nat_lt k 41) ≡ false = grind (arith, nat_tests) in absurd (true≢false (some ∙ off)))
    behind k far None some is = same_Some k l (sym is ∙ e)

    by : (o : Option ℕ) → number_of (atlas_state d) name ≡ o → number_of (atlas_state d) name ≡ Some l
    by None is = absurd (true≢false (sym (ap is_some e) ∙ no_locus d name h is))
    by (Some k) is =
        let test : nat_le 41 k ≡ true = sym (locus_test d name k h is) ∙ ap is_some e in
        let far : 41 ≤ k = grind (arith, nat_tests) in
        elim (text_eq name atlas_name) as (λ b. (if b then Some 0 else or_else c (locus_named (atlas_state d) name)) ≡ Some k → number_of (atlas_state d) name ≡ Some l) [
          | true ↦ λ f. (let z = same_Some 0 k f in absurd (omega (arith, z, far)))
          | false ↦ λ f. is ∙ ap Some (behind k far c (container_test d name k h is) f)
        ] is

-- the cells have the atlas of the run
located : (s : Supply) (words : ℕ → List ℕ) (cs : List Cell) (d : Directory) (w : KernelState) (name : Text) (l : ℕ)
    → ((c : Cell) → slice_get cs 0 ≡ Some c → c.part ≡ part.Atlas d) → state_in s words cs ≡ w → locus_named (atlas_in (w 0).cell) name ≡ Some l → locus_named (atlas_state d) name ≡ Some l
located s words cs d w name l at same e = by (slice_get cs 0) refl (ap (λ (v : KernelState). locus_named (atlas_in (v 0).cell) name) same ∙ e)
  where
    by : (o : Option Cell) → slice_get cs 0 ≡ o → locus_named (atlas_in (entity_in s words 0 o).cell) name ≡ Some l → locus_named (atlas_state d) name ≡ Some l
    by None is f = absurd (none_some f)
    by (Some c) is f = sym (ap (λ p. locus_named (atlas_in (part_of s words p)) name) (at c is)) ∙ f

-- it is what the directory finds
called : (d : Directory) (name : Text) (l : ℕ) → IsDirectory d → locus_named (atlas_state d) name ≡ Some l → entity_named d name ≡ Some l
called d name l h e = numbers_same d name ∙ number_is d name l h e

-- where no locus is born there is none of the name
none_called : (d : Directory) (name : Text) (l : ℕ) → length d.loci ≡ 0 → locus_named (atlas_state d) name ≡ Some l → ⊥
none_called d name l none e = by d.loci none e
  where
    by : (ts : List Text) → length ts ≡ 0 → place_of name ts 41 ≡ Some l → ⊥
    by [] none e = none_some e
    by (t ∷ ts) none e = absurd (omega (arith, none))

-- so its loci are those of the directory
loci_within : (s : Supply) (words : ℕ → List ℕ) (cs : List Cell) (d : Directory) (w : KernelState) → ((c : Cell) → slice_get cs 0 ≡ Some c → c.part ≡ part.Atlas d) → state_in s words cs ≡ w
    → length (atlas_in (w 0).cell).loci ≤ length d.loci
loci_within s words cs d w at same = subst (λ (v : KernelState). length (atlas_in (v 0).cell).loci ≤ length d.loci) same (by (slice_get cs 0) refl)
  where
    by : (o : Option Cell) → slice_get cs 0 ≡ o → length (atlas_in (entity_in s words 0 o).cell).loci ≤ length d.loci
    by None is = omega arith
    by (Some c) is = subst (λ p. length (atlas_in (part_of s words p)).loci ≤ length d.loci) (sym (at c is)) (omega arith)

-- IN A RUN: this is the directory of a live kernel
module _ {D : Type 0} (disks : Ghosts D) (b : Beginning) (k : Held D) (d : Directory)
    (lives : Lives disks b k) (at : (c : Cell) → slice_get k.parts.cells 0 ≡ Some c → c.part ≡ part.Atlas d) where
  abbrev now : KernelState
  now = (run_of b k.parts.noted.entries).state

  same_state : state_in b.supply (words_on (disks.reading k.parts.store.disk)) k.parts.cells ≡ now
  same_state = lives.live.running.follows.state ∙ sym (state_run b.supply b.policy b.script (start_run b.state) k.parts.noted.entries)

  pub finds : (name : Text) (l : ℕ) → IsDirectory d → locus_named (atlas_in (now 0).cell) name ≡ Some l → entity_named d name ≡ Some l
  finds name l h e = called d name l h (located b.supply (words_on (disks.reading k.parts.store.disk)) k.parts.cells d now name l at same_state e)

  pub none_born : (name : Text) (l : ℕ) → length d.loci ≡ 0 → locus_named (atlas_in (now 0).cell) name ≡ Some l → ⊥
  none_born name l none e = none_called d name l none (located b.supply (words_on (disks.reading k.parts.store.disk)) k.parts.cells d now name l at same_state e)

  pub born_before : 41 + length (atlas_in (now 0).cell).loci ≤ 41 + length d.loci
  born_before = (let within = loci_within b.supply (words_on (disks.reading k.parts.store.disk)) k.parts.cells d now at same_state in omega (arith, within))
