-- What a sound state says of the cells that a step touches.
use Rattle.std.proofs.Common.{◌≡◌, ◌≢◌, ℕ, ◌+◌, ◌<◌, ◌≤◌, Bool, true, false, ◌&&◌, ◌||◌, ◌==◌, nat_lt, nat_le, if◌then◌else◌, IsSome, List, [], ◌∷◌, length, Option, Some, None, refl, sym, ap, subst, ◌∙◌, arith, eqb-true}
use Rattle.std.proofs.lemmas.Bool.Decides.{nat_tests}
use Rattle.plain_states.specs.base_types.declared.instructions.Instr.{Instr}
use Rattle.plain_states.specs.base_types.declared.instructions.Instr.TheVariants.{Load, Store, Stop, Go, Snap}
use Rattle.plain_states.specs.base_types.declared.instructions.Reply.TheVariants.{WrongKind}
use Rattle.plain_states.specs.model_kernel.Acts.{Act, allowed, beside_or_self, wanted, alone, beside}
use Rattle.plain_states.specs.model_kernel.Refusals.{entity_of, instr_at, lacks, no_locus, no_slot, refusal}
use Rattle.plain_states.specs.model_kernel.Soundness.{AreSound, IsSoundLocus, is_born_container, is_born_locus}
use Rattle.plain_states.specs.model_kernel.State.{Supply, AtlasState, ContainerState, LocusState, Cell, NotBorn, AtlasCell, ContainerCell, LocusCell}
use Rattle.plain_states.specs.model_kernel.Words.{first, is_locus}
use Rattle.plain_states.specs.model_acts.Views.{may_name_itself}
use Rattle.plain_states.proofs.model_acts_lemmas.Allowed.{first_none, unless_none}
use Rattle.act_atlas_laws.specs.act_alone.declared.loci.Head.{Head}
use Rattle.plain_states.proofs.model_act_facts_lemmas.Alone.{wanted_allowed, wanted_says}
use Rattle.act_atlas_laws.specs.act_invoke.Entries.{WantsBeside}
use Rattle.cell_plans.specs.act_look.Looks.{is_look}
use Rattle.plain_states.proofs.model_act_facts_lemmas.WantLemmas.{Neighbour, OfContainer, OfNamed, neighbour, container_beside, locus_beside}
use Rattle.cell_newborns.specs.cell_states.declared.cells.Part.{Part}
use Rattle.cell_newborns.specs.cell_states.declared.cells.Part.TheVariants as part
use Rattle.cell_newborns.specs.cell_states.Cells.{container_cell, part_of}
use Rattle.cell_plans.specs.cell_calls.Besides.{FitsBeside, WantsOther, calls_container, is_snap}
use Rattle.cell_plans.specs.Plans.{IsCallBeside}
use Rattle.std.proofs.lemmas.Bool.{true≢false}

-- THE LOCUS

locus_cells : (l m : LocusState) → LocusCell l ≡ LocusCell m → l ≡ m
locus_cells l m e = cc

-- a locus of a sound state is born and sound
pub locus_here : (a : AtlasState) (cells : ℕ → Cell) (me : ℕ) (l : LocusState) → AreSound a cells → cells me ≡ LocusCell l → (is_born_locus a me ≡ true) × IsSoundLocus a l
locus_here a cells me l h is = by0 (me == 0) refl
  where
    by2 : (me == 0) ≡ false → is_born_container a me ≡ false → (b : Bool) → is_born_locus a me ≡ b → (is_born_locus a me ≡ true) × IsSoundLocus a l
    by2 z c true born = let f = h.loci me born in (born, subst (IsSoundLocus a) (locus_cells f.0 l (sym f.1 ∙ is)) f.2)
    by2 z c false born = absurd (clash (sym (h.others me (rw (z, c, born) refl)) ∙ is))
      where
        clash : NotBorn ≡ LocusCell l → ⊥
        clash e = cc

    by1 : (me == 0) ≡ false → (b : Bool) → is_born_container a me ≡ b → (is_born_locus a me ≡ true) × IsSoundLocus a l
    by1 z true born = let f = h.containers me born in absurd (clash f.0 (sym f.1 ∙ is))
      where
        clash : (c : ContainerState) → ContainerCell c ≡ LocusCell l → ⊥
        clash c e = cc
    by1 z false born = by2 z born (is_born_locus a me) refl

    by0 : (b : Bool) → (me == 0) ≡ b → (is_born_locus a me ≡ true) × IsSoundLocus a l
    by0 true z = absurd (clash (sym (ap cells (eqb-true me 0 z) ∙ h.atlas) ∙ is))
      where
        clash : AtlasCell a ≡ LocusCell l → ⊥
        clash e = cc
    by0 false z = by1 z (is_born_container a me) refl

high_number : (n me : ℕ) → (nat_lt 40 me && nat_le me (40 + n)) ≡ true → (40 < me) × (me ≤ 40 + n)
high_number n me e = (grind (arith, nat_tests), grind (arith, nat_tests))

low_number : (n x : ℕ) → n ≤ 40 → (nat_lt 0 x && nat_le x n) ≡ true → (0 < x) × (x < 41)
low_number n x few e = (grind (arith, nat_tests), grind (arith, nat_tests))

module _ (a : AtlasState) (cells : ℕ → Cell) (me : ℕ) (l : LocusState) (h : AreSound a cells) (is : cells me ≡ LocusCell l) where
  above : (40 < me) × (me ≤ 40 + length a.loci)
  above = high_number (length a.loci) me (locus_here a cells me l h is).0

  pub around_container : length a.containers < 40 → length a.containers + 1 < me
  around_container lt = let up = above.0 in omega arith

  pub around_locus : me < length a.loci + 41
  around_locus = let up = above.1 in omega arith

  pub container_low : (x : ℕ) → is_born_container a x ≡ true → (0 < x) × (x < me)
  container_low x born =
      let low = low_number (length a.containers) x h.names.few_containers born in
      let up = above.0 in
      let less = low.1 in
      (low.0, omega arith)

  -- who is beside
  pub beside_here : (i : Instr) (x : ℕ) → instr_at l ≡ i → (wanted 64 l).refused ≡ None → (wanted 64 l).other ≡ Some x → Neighbour a i x
  beside_here i x at none other =
      let free : refusal l (instr_at l) ≡ None = sym (wanted_says 64 l).refused ∙ none in
      subst (λ i. Neighbour a i x) at
      (neighbour a 64 l (instr_at l) x (locus_here a cells me l h is).1 free (ap (λ (w : Act). w.other) (sym (wanted_allowed 64 l free)) ∙ other))

  -- LOOKS

  look_apart : (i : Instr) → is_look i ≡ true → may_name_itself i ≡ true → ⊥
  look_apart (Load d k) looks names = true≢false (sym names)
  look_apart (Store k v) looks names = true≢false (sym names)
  look_apart i looks names = true≢false (sym looks)

  pub look_here : (x : ℕ) → WantsBeside is_look l x → (c : ContainerState) × (cells x ≡ ContainerCell c) × (0 < x) × (x < me)
  look_here x wants = by (beside_here (instr_at l) x refl wants.allowed wants.other)
    where
      by : Neighbour a (instr_at l) x → (c : ContainerState) × (cells x ≡ ContainerCell c) × (0 < x) × (x < me)
      by (OfContainer born) = let f = h.containers x born in let low = container_low x born in (f.0, f.1, low.0, low.1)
      by (OfNamed born names atlas) = absurd (look_apart (instr_at l) (ap is_look (sym (wanted_says 64 l).instr) ∙ wants.instr) names)

  -- CALLS

  control_high : (i : Instr) (c x : ℕ) → first (no_slot l c ∷ no_locus l c ∷ lacks l c 64 ∷ []) ≡ None → (beside_or_self 64 i (entity_of l c)).other ≡ Some x → 40 < x
  control_high i c x free other =
      let f = first_none (no_slot l c) (no_locus l c ∷ lacks l c 64 ∷ []) free in
      let g = first_none (no_locus l c) (lacks l c 64 ∷ []) f.1 in
      let kind : is_locus (entity_of l c) ≡ true = unless_none (is_locus (entity_of l c)) WrongKind g.0 in
      let same : entity_of l c ≡ x = named (entity_of l c == 64) other in
      subst (λ n. 40 < n) same (high kind)
    where
      named : (b : Bool) → (if b then alone i None else beside i (entity_of l c)).other ≡ Some x → entity_of l c ≡ x
      named true e = cc
      named false e = cc

      high : nat_lt 40 (entity_of l c) ≡ true → 40 < entity_of l c
      high e = grind (arith, nat_tests)

  called_low : (i : Instr) (x : ℕ) → refusal l i ≡ None → (allowed 64 l i).other ≡ Some x → (calls_container i || may_name_itself i) ≡ true → x < 41 → calls_container i ≡ true
  unfolding refusal allowed
  called_low (Stop c) x free other calls low = let high : 40 < x = control_high (Stop c) c x free other in absurd (omega arith)
  called_low (Go c) x free other calls low = let high : 40 < x = control_high (Go c) c x free other in absurd (omega arith)
  called_low i x free other calls low = cc

  module _ (s : Supply) (words : ℕ → List ℕ) (i : Instr) where
    container_fits : (p : Part) (c : ContainerState) → part_of s words p ≡ ContainerCell c → calls_container i ≡ true → FitsBeside i p
    container_fits (part.Container b) c e calls = (by b.head e, calls)
      where
        by : (o : Option Head) → container_cell s words b.memory o ≡ ContainerCell c → IsSome o
        by (Some k) f = refl
        by None f = cc
    container_fits (part.Atlas d) c e calls = cc
    container_fits (part.Locus (Some m)) c e calls = cc
    container_fits (part.Locus None) c e calls = cc

    locus_fits : (p : Part) (m : LocusState) → part_of s words p ≡ LocusCell m → may_name_itself i ≡ true → FitsBeside i p
    locus_fits (part.Locus (Some k)) m e names = (refl, names)
    locus_fits (part.Locus None) m e names = cc
    locus_fits (part.Atlas d) m e names = cc
    locus_fits (part.Container b) m e names = absurd (by b.head e)
      where
        by : (o : Option Head) → container_cell s words b.memory o ≡ LocusCell m → ⊥
        by (Some k) f = cc
        by None f = cc

    atlas_fits : (p : Part) → part_of s words p ≡ AtlasCell a → is_snap i ≡ true → FitsBeside i p
    atlas_fits (part.Atlas d) e snaps = snaps
    atlas_fits (part.Locus (Some k)) e snaps = cc
    atlas_fits (part.Locus None) e snaps = cc
    atlas_fits (part.Container b) e snaps = absurd (by b.head e)
      where
        by : (o : Option Head) → container_cell s words b.memory o ≡ AtlasCell a → ⊥
        by (Some k) f = cc
        by None f = cc

    snaps_by : (c : ℕ) → i ≡ Snap c → is_snap i ≡ true
    snaps_by c is = ap is_snap is

    pub fits_here : (x : ℕ) (p : Part) → IsCallBeside me l i x → part_of s words p ≡ cells x → FitsBeside i p × (x ≢ me)
    fits_here x p call there = by (x == 0) refl
      where
        wants : WantsOther l i x
        wants = call.wants

        at : instr_at l ≡ i
        at = sym (wanted_says 64 l).instr ∙ wants.instr

        free : refusal l i ≡ None
        free = ap (refusal l) (sym at) ∙ sym (wanted_says 64 l).refused ∙ wants.allowed

        other : (allowed 64 l i).other ≡ Some x
        other = ap (λ (w : Act). w.other) (ap (allowed 64 l) (sym at) ∙ sym (wanted_allowed 64 l (sym (wanted_says 64 l).refused ∙ wants.allowed))) ∙ wants.other

        near : Neighbour a i x
        near = beside_here i x at wants.allowed wants.other

        low_case : 0 < x → x < 41 → FitsBeside i p × (x ≢ me)
        low_case some low =
            let born = container_beside a i x near some low in
            let f = h.containers x born in
            let up = above.0 in
            (container_fits p f.0 (there ∙ f.1) (called_low i x free other call.calls low), λ e. absurd (omega (arith, e)))

        high_case : 41 ≤ x → FitsBeside i p × (x ≢ me)
        high_case high =
            let found = locus_beside a i x h.names.few_containers near high in
            let f = h.loci x found.0 in
            (locus_fits p f.0 (there ∙ f.1) found.1, call.apart found.1)

        rest : (x == 0) ≡ false → (b : Bool) → nat_lt x 41 ≡ b → FitsBeside i p × (x ≢ me)
        rest z true lt = low_case (grind (arith, nat_tests)) (grind (arith, nat_tests))
        rest z false lt = high_case (grind (arith, nat_tests))

        atlas_case : Neighbour a i x → x ≡ 0 → FitsBeside i p × (x ≢ me)
        atlas_case (OfNamed born names snap) z =
            let c = snap z in
            let up = above.0 in
            (atlas_fits p (there ∙ ap cells z ∙ h.atlas) (snaps_by c.0 c.1), λ e. absurd (omega (arith, e, z)))
        atlas_case (OfContainer born) z = let low = container_low x born in absurd (omega (arith, low.0, z))

        by : (b : Bool) → (x == 0) ≡ b → FitsBeside i p × (x ≢ me)
        by true z = atlas_case near (eqb-true x 0 z)
        by false z = rest z (nat_lt x 41) refl
