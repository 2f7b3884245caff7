-- The births of a script that fits come to their end.
use Rattle.std.proofs.Common.{◌≡◌, ℕ, zero, suc, ◌+◌, ◌≤◌, Bool, true, false, if◌then◌else◌, List, [], ◌∷◌, ◌++◌, length, Option, Some, None, is_some, is_none, option_map, option_and_then, refl, sym, ap, subst, ◌∙◌, arith}
use Rattle.std.specs.List.{All}
use Rattle.std.proofs.lemmas.Bool.{false≢true}
use Rattle.std.proofs.lemmas.List.Elements.{All-cons, All-nil}
use Rattle.model_sound_runs.specs.base_types.declared.histories.Entry.{Entry}
use Rattle.model_sound_runs.specs.base_types.declared.histories.Event.{Event}
use Rattle.model_sound_runs.specs.base_types.declared.histories.Event.TheVariants.{Birth}
use Rattle.model_sound_runs.specs.model_kernel.Births.{birth_named, next_birth, next_birth_change}
use Rattle.model_sound_runs.specs.model_kernel.Changes.{Change, carried}
use Rattle.model_sound_runs.specs.model_kernel.Histories.{Run, births_owed, by_event, event_of, goes_on, never, run_after, start_run}
use Rattle.model_sound_runs.specs.model_kernel.Parts.{after_entry, is_event, next_of}
use Rattle.model_sound_runs.specs.model_kernel.Scripts.{ContainerTable, LocusTable, Script, container_named, locus_named, next_name, number_of}
use Rattle.model_sound_runs.specs.model_kernel.Serial.{all_births, birth_turn, births, made_and_owed, owed_stable}
use Rattle.model_sound_runs.specs.model_kernel.Soundness.{IsSound}
use Rattle.model_sound_runs.specs.model_kernel.State.{KernelState, Supply, Text, no_atlas}
use Rattle.model_sound_runs.specs.model_kernel.Steps.{atlas_in}
use Rattle.model_sound_runs.proofs.model_kernel_lemmas.Basics.{some_of_map}
use Rattle.model_sound_runs.proofs.model_kernel_lemmas.LegalRuns.{state_goes_on}
use Rattle.model_sound_runs.specs.script_types.Rules.{IsScript}
use Rattle.model_sound_runs.proofs.Births.{birth_leaves, names_in}
use Rattle.model_births.specs.Fitting.{Fits, new_containers, new_loci}
use Rattle.model_births.proofs.Growing.{born_atlas, fits_after, named_defined}
use Rattle.model_births.proofs.KnownNames.{more_containers, more_loci, next_name_is, next_new}
use Rattle.model_sound_runs.proofs.model_kernel_lemmas.StableCuts.{run_append}

pub some_is : {A : Type 0} (o : Option A) → is_some o ≡ true → (x : A) × (o ≡ Some x)
some_is None e = absurd (false≢true e)
some_is (Some x) e = (x, refl)

few_names : (w : KernelState) → IsSound (λ x. (w x).cell) → names_in (atlas_in (w 0).cell) ≤ 63
few_names w sound =
    let same = ap (λ k. names_in (atlas_in k)) sound.1.atlas in
    let c = sound.1.names.few_containers in
    let l = sound.1.names.few_loci in
    omega (arith, same, c, l)

-- where no birth is owed, none is made
pub births_none : (s : Supply) (script : Script) (n : ℕ) (r : Run) → births_owed script r ≡ false → births n s script r ≡ []
births_none s script zero r born = refl
births_none s script (suc n) r born =
    let none : birth_turn s script r ≡ [] = ap (λ (b : Bool). if b then made_and_owed s script r (next_birth s script r.state) else []) born in
    ap (λ es. es ++ births n s script (run_after s script r es)) none ∙ births_none s script n r born

-- THE NEXT BIRTH
module _ (s : Supply) (script : Script) where
  pub birth_event : (w : KernelState) (made : Entry × KernelState) → next_birth s script w ≡ Some made → made.0.event ≡ Birth
  birth_event w made is = ap (λ (q : Entry × KernelState). q.0.event) (sym (some_of_map (λ (c : ℕ × Change). carried w Birth c.0 c.1) (next_birth_change s script w) made is).2)

  -- its entry leaves its state
  pub born_state : (w : KernelState) (made : Entry × KernelState) → next_birth s script w ≡ Some made → after_entry (event_of s script) w made.0 ≡ made.1
  born_state w made is =
      ap (λ (ev : Event). if is_event ev then next_of (event_of s script) w (by_event s script ev made.0.actor w) else w) (birth_event w made is) ∙ ap (next_of (event_of s script) w) is

module _ (s : Supply) (script : Script) (rules : IsScript script) where
  -- the next birth, and what it leaves
  pub record Bears (w : KernelState) : Type 0 where
    pub made : Entry × KernelState
    pub is : next_birth s script w ≡ Some made
    pub sound : IsSound (λ x. (made.1 x).cell)
    pub fits : Fits (atlas_in (made.1 0).cell) script
    pub more : names_in (atlas_in (made.1 0).cell) ≡ names_in (atlas_in (w 0).cell) + 1

  change_is : (w : KernelState) (name : Text) (c : ℕ × Change) → next_name (atlas_in (w 0).cell) script ≡ Some name → birth_named s script name w (atlas_in (w 0).cell) ≡ Some c → next_birth_change s script w ≡ Some c
  unfolding next_birth_change
  change_is w name c next is = ap (option_and_then (λ name. birth_named s script name w (atlas_in (w 0).cell))) next ∙ is

  pub next_bears : (w : KernelState) → IsSound (λ x. (w x).cell) → Fits (atlas_in (w 0).cell) script → is_some (next_name (atlas_in (w 0).cell) script) ≡ true → Bears w
  next_bears w sound fits owed =
      let a = atlas_in (w 0).cell in
      let named = some_is (next_name a script) owed in
      let name = named.0 in
      let next = next_name_is a script name rules named.1 in
      let change = some_is (birth_named s script name w a) (named_defined s script name w a rules fits next) in
      let c = change.0 in
      let made = carried w Birth c.0 c.1 in
      let is : next_birth s script w ≡ Some made = ap (option_map (λ (c : ℕ × Change). carried w Birth c.0 c.1)) (change_is w name c named.1 change.1) in
      let left = birth_leaves s script w made rules fits.kinds.containers sound is in
      let grown = born_atlas s script name w a c next change.1 in
      record {
        made = made;
        is = is;
        sound = left.sound;
        fits = subst (λ k. Fits (atlas_in k) script) (sym grown.1) (fits_after a grown.0 script name rules fits (next_new a script name next) grown.2);
        more = left.more;
      }

  -- ALL BIRTHS

  abbrev pub Ready : KernelState → Type 0
  Ready w = IsSound (λ x. (w x).cell) × Fits (atlas_in (w 0).cell) script

  owed_keeps : (q : Run) (o : Option ℕ) → (run_after s script q (owed_stable o)).state ≡ q.state
  owed_keeps q None = refl
  owed_keeps q (Some actor) = refl

  made_state : (r : Run) (made : Entry × KernelState) → next_birth s script r.state ≡ Some made → (run_after s script r (made_and_owed s script r (Some made))).state ≡ made.1
  made_state r made is =
      owed_keeps (goes_on s script r made.0) (goes_on s script r made.0).owed ∙ state_goes_on s never script r made.0 ∙ born_state s script r.state made is

  turn_is : (r : Run) (b : Bears r.state) → births_owed script r ≡ true → birth_turn s script r ≡ made_and_owed s script r (Some b.made)
  turn_is r b e = ap (λ (t : Bool). if t then made_and_owed s script r (next_birth s script r.state) else []) e ∙ ap (made_and_owed s script r) b.is

  -- behind any number of births the state is sound, and the script still fits
  pub births_ready : (n : ℕ) (r : Run) → Ready r.state → Ready (run_after s script r (births n s script r)).state
  births_ready zero r ready = ready
  births_ready (suc n) r ready = by_test (births_owed script r) refl (λ q k. births_ready n q k)
    where
      by_test : (b : Bool) → births_owed script r ≡ b → ((q : Run) → Ready q.state → Ready (run_after s script q (births n s script q)).state) → Ready (run_after s script r (births (suc n) s script r)).state
      by_test false e rest = subst (λ es. Ready (run_after s script r es).state) (sym (births_none s script (suc n) r e)) ready
      by_test true e rest =
          let b = next_bears r.state ready.0 ready.1 e in
          let q : Run = run_after s script r (birth_turn s script r) in
          let state : q.state ≡ b.made.1 = ap (λ es. (run_after s script r es).state) (turn_is r b e) ∙ made_state r b.made b.is in
          subst (λ (k : Run). Ready k.state) (sym (run_append s never script r (birth_turn s script r) (births n s script q))) (rest q (subst Ready (sym state) (b.sound, b.fits)))

  pub births_done : (n : ℕ) (r : Run) → Ready r.state → 64 ≤ names_in (atlas_in (r.state 0).cell) + n → births_owed script (run_after s script r (births n s script r)) ≡ false
  births_done zero r ready many = (let few = few_names r.state ready.0 in absurd (omega (arith, few, many)))
  births_done (suc n) r ready many = by_test (births_owed script r) refl (λ q k m. births_done n q k m)
    where
      by_test : (b : Bool) → births_owed script r ≡ b → ((q : Run) → Ready q.state → 64 ≤ names_in (atlas_in (q.state 0).cell) + n → births_owed script (run_after s script q (births n s script q)) ≡ false)
          → births_owed script (run_after s script r (births (suc n) s script r)) ≡ false
      by_test false e rest = subst (λ es. births_owed script (run_after s script r es) ≡ false) (sym (births_none s script (suc n) r e)) e
      by_test true e rest =
          let b = next_bears r.state ready.0 ready.1 e in
          let turn = turn_is r b e in
          let q : Run = run_after s script r (birth_turn s script r) in
          let state : q.state ≡ b.made.1 = ap (λ es. (run_after s script r es).state) turn ∙ made_state r b.made b.is in
          let high : 64 ≤ names_in (atlas_in (b.made.1 0).cell) + n = (let more = b.more in omega (arith, more, many)) in
          subst (λ (k : Run). births_owed script k ≡ false) (sym (run_append s never script r (birth_turn s script r) (births n s script q)))
          (rest q (subst Ready (sym state) (b.sound, b.fits)) (subst (λ (w : KernelState). 64 ≤ names_in (atlas_in (w 0).cell) + n) (sym state) high))

  pub all_births_done : (w : KernelState) → IsSound (λ x. (w x).cell) → Fits (atlas_in (w 0).cell) script → births_owed script (run_after s script (start_run w) (all_births s script (start_run w))) ≡ false
  all_births_done w sound fits = births_done 64 (start_run w) (sound, fits) (omega arith)

-- THE EMPTY ATLAS

one_at_most : (b : Bool) → (if b then 1 else 0) ≤ 1
one_at_most true = omega arith
one_at_most false = omega arith

few_containers : (ts : List ContainerTable) → new_containers no_atlas ts ≤ length ts
few_containers [] = omega arith
few_containers (t ∷ ts) =
    let more = more_containers no_atlas t ts in
    let one = one_at_most (is_none (number_of no_atlas t.name)) in
    let rest = few_containers ts in
    omega (arith, more, one, rest)

few_loci : (ts : List LocusTable) → new_loci no_atlas ts ≤ length ts
few_loci [] = omega arith
few_loci (t ∷ ts) =
    let more = more_loci no_atlas t ts in
    let one = one_at_most (is_none (number_of no_atlas t.name)) in
    let rest = few_loci ts in
    omega (arith, more, one, rest)

no_locus_there : (ts : List ContainerTable) → All (λ (t : ContainerTable). locus_named no_atlas t.name ≡ None) ts
no_locus_there [] = All-nil (λ (t : ContainerTable). locus_named no_atlas t.name ≡ None)
no_locus_there (t ∷ ts) = All-cons (λ (t : ContainerTable). locus_named no_atlas t.name ≡ None) t ts refl (no_locus_there ts)

no_container_there : (ts : List LocusTable) → All (λ (t : LocusTable). container_named no_atlas t.name ≡ None) ts
no_container_there [] = All-nil (λ (t : LocusTable). container_named no_atlas t.name ≡ None)
no_container_there (t ∷ ts) = All-cons (λ (t : LocusTable). container_named no_atlas t.name ≡ None) t ts refl (no_container_there ts)

pub empty_fits : (script : Script) → IsScript script → Fits no_atlas script
empty_fits script rules = record {
  kinds = record { containers = no_locus_there script.containers; loci = no_container_there script.loci };
  containers = (let few = few_containers script.containers in let room = rules.few_containers in omega (arith, few, room));
  loci = (let few = few_loci script.loci in let room = rules.few_loci in omega (arith, few, room));
}
