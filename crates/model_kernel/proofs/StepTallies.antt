-- A step counts what it prints.
use Rattle.std.proofs.Common.{◌≡◌, ℕ, suc, ◌+◌, ◌≤◌, ◌<◌, Bool, true, false, if◌then◌else◌, ◌==◌, [], ◌∷◌, length, Option, Some, None, option_map, IfSome, MatchOption, unwrap_or, refl, sym, ap, subst, ◌∙◌, arith, eqb-true, eq-eqb, ◌⊎◌, inl, inr}
use Rattle.std.proofs.lemmas.Bool.{false≢true}
use Rattle.base_types.specs.declared.instructions.Condition.{Condition}
use Rattle.base_types.specs.declared.instructions.Condition.TheVariants.{Running, Stopped, Halted}
use Rattle.model_kernel.specs.State.{Supply, AtlasState, LocusState, Cell, NotBorn, AtlasCell, ContainerCell, LocusCell, KernelState}
use Rattle.model_kernel.specs.Acts.{Act, wanted}
use Rattle.model_kernel.specs.Outcomes.{Outcome}
use Rattle.model_kernel.specs.Steps.{atlas_in, seen_atlas, seen_other, outcome_in, with_atlas_access, with_other_access, with_newborn_access, accesses_of, change_of, if_running, running}
use Rattle.model_kernel.specs.Printing.{is_print, NamesLoci}
use Rattle.model_kernel.proofs.Faithful.{tally, atlas_of, counted, IsNewborn, IsFaithful, wanted_is}
use Rattle.model_kernel.proofs.Writes.{cell_with}
use Rattle.model_kernel.proofs.Tallies.{counted_at, IsTallied, Counts, not_named, atlas_of_is}

-- THE CELLS THAT A STEP LEAVES

-- the cell of x after the atlas is written
abbrev pub put_atlas : Bool → AtlasState → ℕ → Cell → Cell
put_atlas true a x c = if 0 == x then AtlasCell a else c
put_atlas false a x c = c

-- after the other entity is
abbrev pub put_other : Option ℕ → Option Cell → ℕ → Cell → Cell
put_other None new x c = c
put_other (Some y) new x c = if y == x then unwrap_or new c else c

-- and after what is born is
abbrev pub put_newborn : Option (ℕ × Cell) → ℕ → Cell → Cell
put_newborn None x c = c
put_newborn (Some b) x c = if b.0 == x then b.1 else c

pub step_cell : (me : ℕ) (m : LocusState) (b : Bool) (a : AtlasState) (other : Option ℕ) (new : Option Cell) (newborn : Option (ℕ × Cell)) (x : ℕ) (c : Cell)
    → cell_with (with_atlas_access b a (with_other_access other new (with_newborn_access newborn (record { entity = me; new = Some (LocusCell m) } ∷ [])))) x c
    ≡ (if me == x then LocusCell m else put_newborn newborn x (put_other other new x (put_atlas b a x c)))
step_cell me m true a (Some y) new (Some b) x c = refl
step_cell me m true a (Some y) new None x c = refl
step_cell me m true a None new (Some b) x c = refl
step_cell me m true a None new None x c = refl
step_cell me m false a (Some y) new (Some b) x c = refl
step_cell me m false a (Some y) new None x c = refl
step_cell me m false a None new (Some b) x c = refl
step_cell me m false a None new None x c = refl

-- each keeps the count of x
atlas_tally : (b : Bool) (a : AtlasState) (x : ℕ) (c : Cell) → (x ≡ 0 → tally c ≡ None) → tally (put_atlas b a x c) ≡ tally c
atlas_tally false a x c h = refl
atlas_tally true a x c h = elim (0 == x) as (λ b. (0 == x) ≡ b → tally (if b then AtlasCell a else c) ≡ tally c) [ true ↦ λ is. sym (h (sym (eqb-true _ _ is))) | false ↦ λ is. refl ] refl

other_tally : (w : KernelState) (other : Option ℕ) (new : Option Cell) (x : ℕ) (c : Cell) → IfSome new (λ d. (tally d ≡ tally (seen_other w other)) × (atlas_of d ≡ atlas_of (seen_other w other))) → tally c ≡ tally (w x).cell
    → tally (put_other other new x c) ≡ tally (w x).cell
other_tally w None new x c f h = h
other_tally w (Some y) None x c f h = elim (y == x) as (λ b. tally (if b then c else c) ≡ tally (w x).cell) [ true ↦ h | false ↦ h ]
other_tally w (Some y) (Some d) x c f h = elim (y == x) as (λ b. (y == x) ≡ b → tally (if b then d else c) ≡ tally (w x).cell) [
  | true ↦ λ is. f.0 ∙ ap (λ z. tally (w z).cell) (eqb-true y x is)
  | false ↦ λ is. h
] refl

-- the atlas's cell holds an atlas, the one that the step makes or the one before
pub other_atlas : (w : KernelState) (other : Option ℕ) (new : Option Cell) (c : Cell) (a b : AtlasState) → IfSome new (λ d. (tally d ≡ tally (seen_other w other)) × (atlas_of d ≡ atlas_of (seen_other w other))) → (w 0).cell ≡ AtlasCell a → c ≡ AtlasCell b
    → (put_other other new 0 c ≡ AtlasCell b) ⊎ (put_other other new 0 c ≡ AtlasCell a)
other_atlas w None new c a b f at h = inl h
other_atlas w (Some y) None c a b f at h = elim (y == 0) as (λ t. ((if t then c else c) ≡ AtlasCell b) ⊎ ((if t then c else c) ≡ AtlasCell a)) [ true ↦ inl h | false ↦ inl h ]
other_atlas w (Some y) (Some d) c a b f at h = elim (y == 0) as (λ t. (y == 0) ≡ t → ((if t then d else c) ≡ AtlasCell b) ⊎ ((if t then d else c) ≡ AtlasCell a)) [
  | true ↦ λ is. inr (atlas_of_is d a (f.1 ∙ ap (λ z. atlas_of (w z).cell) (eqb-true y 0 is) ∙ ap atlas_of at))
  | false ↦ λ is. inl h
] refl

pub put_atlas_0 : (b : Bool) (a a' : AtlasState) (c : Cell) → c ≡ AtlasCell a → put_atlas b a' 0 c ≡ AtlasCell (if◌then◌else◌ {A = AtlasState} b a' a)
put_atlas_0 true a a' c h = refl
put_atlas_0 false a a' c h = h

-- A STEP

module _ (w : KernelState) (names : NamesLoci w) (me : ℕ) (l : LocusState) (at : (w me).cell ≡ LocusCell l) (act : Act) (o : Outcome) (f : IsFaithful l act.atlas act.other (seen_atlas w act.atlas) (seen_other w act.other) o) where
  Goal : Type 0
  Goal = Counts w names.atlas me o.answer (accesses_of me act o)

  range : (40 < me) × (me ≤ 40 + length names.atlas.loci)
  range = names.named me l at

  cell_of : (newborn : Option (ℕ × Cell)) → ℕ → Cell
  cell_of newborn x = if me == x then LocusCell o.locus else put_newborn newborn x (put_other act.other o.other x (put_atlas act.atlas o.atlas x (w x).cell))

  -- what isn't born keeps its count
  kept : (x : ℕ) → tally (put_other act.other o.other x (put_atlas act.atlas o.atlas x (w x).cell)) ≡ tally (w x).cell
  kept x = other_tally w act.other o.other x (put_atlas act.atlas o.atlas x (w x).cell) f.other_keeps (atlas_tally act.atlas o.atlas x (w x).cell (λ e. not_named w names x (λ r. let low = r.0 in omega arith)))

  -- the locus counts what it prints
  own : (a' : AtlasState) (x : ℕ) → (me == x) ≡ true → IsTallied names.atlas a' me o.answer x (w x).cell (LocusCell o.locus)
  own a' x is =
      let e : me ≡ x = eqb-true _ _ is in
      let old : tally (w x).cell ≡ Some l.printed = ap (λ y. tally (w y).cell) (sym e) ∙ ap tally at in
      let new : Some o.locus.printed ≡ Some (counted o.answer l.printed) = ap Some f.printed in
      let here : option_map (counted_at me o.answer x) (tally (w x).cell) ≡ Some (counted o.answer l.printed) =
      ap (option_map (counted_at me o.answer x)) old ∙ (λ i. Some (if is i then counted o.answer l.printed else l.printed)) in
      inl (new ∙ sym here)

  -- another entity that keeps its count
  same_tally : (a' : AtlasState) (x : ℕ) (c : Cell) → (me == x) ≡ false → tally c ≡ tally (w x).cell → IsTallied names.atlas a' me o.answer x (w x).cell c
  same_tally a' x c is e = inl (e ∙ by_tally (tally (w x).cell))
    where
      by_tally : (t : Option ℕ) → t ≡ option_map (counted_at me o.answer x) t
      by_tally None = refl
      by_tally (Some n) = (λ i. Some (if sym is i then counted o.answer n else n))

  actor_is : is_print o.answer ≡ true → (n : ℕ) × (tally (w me).cell ≡ Some n)
  actor_is _ = (l.printed, ap tally at)

  me_not_0 : (me == 0) ≡ false
  me_not_0 = elim (me == 0) as (λ b. (me == 0) ≡ b → b ≡ false) [ true ↦ λ is. (let e = eqb-true _ _ is in let low = range.0 in absurd (omega arith)) | false ↦ λ is. refl ] refl

  -- nothing is born
  without : (act.atlas ≡ true → length o.atlas.loci ≡ length (seen_atlas w act.atlas).loci) → o.newborn ≡ None → Goal
  unfolding Goal cell_of
  without names_same none =
      let at_0 = put_atlas_0 act.atlas names.atlas o.atlas (w 0).cell names.there in
      let new = other_atlas w act.other o.other (put_atlas act.atlas o.atlas 0 (w 0).cell) names.atlas _ f.other_keeps names.there at_0 in
      by_atlas new
    where
      cells : (x : ℕ) → cell_with (accesses_of me act o) x (w x).cell ≡ (if me == x then LocusCell o.locus else put_other act.other o.other x (put_atlas act.atlas o.atlas x (w x).cell))
      cells x = step_cell me o.locus act.atlas o.atlas act.other o.other o.newborn x (w x).cell ∙ ap (λ n. cell_of n x) none

      build : (a' : AtlasState) → put_other act.other o.other 0 (put_atlas act.atlas o.atlas 0 (w 0).cell) ≡ AtlasCell a' → length a'.loci ≡ length names.atlas.loci → Counts w names.atlas me o.answer (accesses_of me act o)
      build a' is same = record {
        atlas = a';
        there = cells 0 ∙ (λ i. if me_not_0 i then LocusCell o.locus else is i);
        grows = omega arith;
        actor = actor_is;
        tallied = λ x. subst (IsTallied names.atlas a' me o.answer x (w x).cell) (sym (cells x))
            (elim (me == x) as (λ b. (me == x) ≡ b → IsTallied names.atlas a' me o.answer x (w x).cell (if b then LocusCell o.locus else put_other act.other o.other x (put_atlas act.atlas o.atlas x (w x).cell))) [
              | true ↦ own a' x
              | false ↦ λ is. same_tally a' x _ is (kept x)
            ] refl);
      }

      size : (b : Bool) → (b ≡ true → length o.atlas.loci ≡ length (seen_atlas w b).loci) → length (if◌then◌else◌ {A = AtlasState} b o.atlas names.atlas).loci ≡ length names.atlas.loci
      size true h = h refl ∙ ap (λ c. length (atlas_in c).loci) names.there
      size false h = refl

      by_atlas : (put_other act.other o.other 0 (put_atlas act.atlas o.atlas 0 (w 0).cell) ≡ AtlasCell (if◌then◌else◌ {A = AtlasState} act.atlas o.atlas names.atlas)) ⊎ (put_other act.other o.other 0 (put_atlas act.atlas o.atlas 0 (w 0).cell) ≡ AtlasCell names.atlas) → Counts w names.atlas me o.answer (accesses_of me act o)
      by_atlas new = elim new as (λ _. Counts w names.atlas me o.answer (accesses_of me act o)) [
        | inl is ↦ build _ is (size act.atlas names_same)
        | inr is ↦ build names.atlas is refl
      ]

  -- something is born, and nothing else is touched but the atlas
  with_birth : (b : ℕ × Cell) → IsNewborn act.atlas act.other (seen_atlas w act.atlas) o.atlas b → o.newborn ≡ Some b → Goal
  unfolding Goal cell_of
  with_birth b newborn some = record {
    atlas = o.atlas;
    there = cells 0 ∙ (λ i. if me_not_0 i then LocusCell o.locus else (if b_not_0 i then b.1 else at_0 i));
    grows = grows_by;
    actor = actor_is;
    tallied = λ x. subst (IsTallied names.atlas o.atlas me o.answer x (w x).cell) (sym (cells x)) (by_place x);
  }
    where
      beside : ℕ → Cell
      beside x = put_other act.other o.other x (put_atlas act.atlas o.atlas x (w x).cell)

      cells : (x : ℕ) → cell_with (accesses_of me act o) x (w x).cell ≡ (if me == x then LocusCell o.locus else if b.0 == x then b.1 else put_other act.other o.other x (put_atlas act.atlas o.atlas x (w x).cell))
      cells x = step_cell me o.locus act.atlas o.atlas act.other o.other o.newborn x (w x).cell ∙ ap (λ n. cell_of n x) some

      seen_is : length (seen_atlas w act.atlas).loci ≡ length names.atlas.loci
      seen_is = ap (λ t. length (seen_atlas w t).loci) newborn.0 ∙ ap (λ c. length (atlas_in c).loci) names.there

      at_0 : put_other act.other o.other 0 (put_atlas act.atlas o.atlas 0 (w 0).cell) ≡ AtlasCell o.atlas
      at_0 = ap (λ y. put_other y o.other 0 (put_atlas act.atlas o.atlas 0 (w 0).cell)) newborn.1 ∙ ap (λ t. put_atlas t o.atlas 0 (w 0).cell) newborn.0

      b_not_0 : (b.0 == 0) ≡ false
      b_not_0 = elim (b.0 == 0) as (λ t. (b.0 == 0) ≡ t → t ≡ false) [
        | true ↦ λ is. (let e = eqb-true _ _ is in elim newborn.3 as (λ _. true ≡ false) [ inl k ↦ (let low = k.0 in absurd (omega arith)) | inr k ↦ (let n = k.0 in absurd (omega arith)) ])
        | false ↦ λ is. refl
      ] refl

      grows_by : length names.atlas.loci ≤ length o.atlas.loci
      grows_by = (let e = seen_is in elim newborn.3 as (λ _. length names.atlas.loci ≤ length o.atlas.loci) [ inl k ↦ (let n = k.3 in omega arith) | inr k ↦ (let n = k.2 in omega arith) ])

      born_at : (x : ℕ) → (b.0 == x) ≡ true → (me == x) ≡ false → IsTallied names.atlas o.atlas me o.answer x (w x).cell b.1
      born_at x is not_me =
          let e : b.0 ≡ x = eqb-true _ _ is in
          let size = seen_is in
          elim newborn.3 as (λ _. IsTallied names.atlas o.atlas me o.answer x (w x).cell b.1) [
            | inl k ↦ (
                let few = k.1 in
                let none : tally (w x).cell ≡ None = not_named w names x (λ r. let low = r.0 in omega arith) in
                same_tally o.atlas x b.1 not_me (k.2 ∙ sym none))
            | inr k ↦ (
                let n = k.0 in
                let more = k.2 in
                inr ((let r : x ≡ length names.atlas.loci + 41 = omega arith in r), k.1, (let r : length o.atlas.loci ≡ suc (length names.atlas.loci) = omega arith in r), λ same. absurd (false≢true (sym not_me ∙ eq-eqb _ _ same))))
          ]

      by_place : (x : ℕ) → IsTallied names.atlas o.atlas me o.answer x (w x).cell (if me == x then LocusCell o.locus else if b.0 == x then b.1 else put_other act.other o.other x (put_atlas act.atlas o.atlas x (w x).cell))
      by_place x = elim (me == x) as (λ t. (me == x) ≡ t → IsTallied names.atlas o.atlas me o.answer x (w x).cell (if t then LocusCell o.locus else if b.0 == x then b.1 else put_other act.other o.other x (put_atlas act.atlas o.atlas x (w x).cell))) [
        | true ↦ own o.atlas x
        | false ↦ λ not_me. elim (b.0 == x) as (λ t. (b.0 == x) ≡ t → IsTallied names.atlas o.atlas me o.answer x (w x).cell (if t then b.1 else put_other act.other o.other x (put_atlas act.atlas o.atlas x (w x).cell))) [
          | true ↦ λ is. born_at x is not_me
          | false ↦ λ is. same_tally o.atlas x _ not_me (kept x)
        ] refl
      ] refl

  -- a faithful outcome counts
  pub faithful_counts : Counts w names.atlas me o.answer (accesses_of me act o)
  unfolding Goal
  faithful_counts = by_newborn o.newborn refl f.bears
    where
      by_newborn : (n : Option (ℕ × Cell)) → o.newborn ≡ n → MatchOption n (act.atlas ≡ true → length o.atlas.loci ≡ length (seen_atlas w act.atlas).loci) (λ b. IsNewborn act.atlas act.other (seen_atlas w act.atlas) o.atlas b) → Counts w names.atlas me o.answer (accesses_of me act o)
      by_newborn None none h = without h none
      by_newborn (Some b) some h = with_birth b h some

-- the locus of a running cell
pub running_is : (c : Cell) (l : LocusState) → running c ≡ Some l → c ≡ LocusCell l
running_is NotBorn l e = cc
running_is (AtlasCell a) l e = cc
running_is (ContainerCell c) l e = cc
running_is (LocusCell m) l e = by_condition m.condition e
  where
    by_condition : (k : Condition) → if_running m k ≡ Some l → LocusCell m ≡ LocusCell l
    by_condition Running e = cc
    by_condition Stopped e = cc
    by_condition Halted e = cc

-- so each step does
pub step_counts : (s : Supply) (me : ℕ) (w : KernelState) (names : NamesLoci w) (l : LocusState) → running (w me).cell ≡ Some l → Counts w names.atlas me (change_of s w me l).answer (change_of s w me l).accesses
unfolding change_of
step_counts s me w names l runs =
    let act = wanted me l in
    faithful_counts w names me l (running_is (w me).cell l runs) act (outcome_in s l act w) (wanted_is s me l (seen_atlas w act.atlas) (seen_other w act.other))
