-- The picks of the order are loci behind the opening, and keep their numbers.
use Rattle.std.proofs.Common.{◌≡◌, ℕ, ◌+◌, Bool, true, false, if◌then◌else◌, IsTrue, List, [], ◌∷◌, ◌++◌, Option, Some, None, is_some, slice_get, refl, sym, ap, subst, ◌∙◌}
use Rattle.std.specs.List.{All, list_all}
use Rattle.std.proofs.lemmas.List.Sums.{AllPass-from_list_all}
use Rattle.std.proofs.lemmas.Option.{get_or_from_slice_get, slice_get_within}
use Rattle.std.proofs.lemmas.List.Elements.{All-head, All-tail}
use Rattle.base_types.specs.declared.histories.Entry.{Entry}
use Rattle.model_serial.specs.model_kernel.Histories.{IsLegalRun, Policy, Run, run_after, start_run}
use Rattle.model_serial.specs.model_kernel.Scripts.{LocusTable, Script, container_named, locus_named, next_container_name, next_locus_name, next_name, number_of, place_of, text_eq}
use Rattle.model_serial.specs.model_kernel.Soundness.{IsSound, is_given_name}
use Rattle.model_serial.specs.model_kernel.State.{AtlasState, KernelState, Supply, Text}
use Rattle.model_serial.specs.model_kernel.Steps.{atlas_in}
use Rattle.model_serial.specs.model_kernel.Words.{or_else}
use Rattle.model_serial.specs.script_types.Rules.{AreLocusTables, IsScript, container_names, is_among, locus_names}
use Rattle.model_serial.proofs.model_run_laws_lemmas.Wishes.{legal_back}
use Rattle.model_serial.specs.model_sound_runs.Names.{KeepsNames}
use Rattle.model_serial.proofs.model_sound_runs_lemmas.Naming.{names_over}
use Rattle.model_serial.proofs.model_sound_runs_lemmas.Standing.{standing_over}
use Rattle.model_serial.specs.model_births.Fitting.{Fits}
use Rattle.model_serial.proofs.model_births_lemmas.Ends.{all_births_done, births_ready, some_is}
use Rattle.model_serial.proofs.model_births_lemmas.Growing.{place_more}
use Rattle.model_serial.proofs.model_births_lemmas.KnownNames.{loci_known, or_cases, true_false}
use Rattle.model_serial.specs.Serial.{looks, opening}
use Rattle.model_serial.proofs.Openings.{opening_legal}
use Rattle.model_serial_turns.specs.Turns.{HasLooked, before_pick, opened}
use Rattle.model_serial_turns.proofs.Course.{pick_more}
use Rattle.model_serial_turns.proofs.Whereabouts.{looked_rest}
use Rattle.model_serial.proofs.model_kernel_lemmas.StableCuts.{run_append}
use Rattle.model_serial.proofs.model_sound_steps_lemmas.MadeNames.{text_same}
use Rattle.model_serial.proofs.model_sound_runs_lemmas.Found.{not_atlas}

-- WHERE ALL NAMES ARE BORN each name of a locus's table is a locus

no_locus_name : (c l : Option Text) → is_some (or_else c l) ≡ false → l ≡ None
no_locus_name None None none = refl
no_locus_name None (Some x) none = true_false true refl none
no_locus_name (Some x) l none = true_false true refl none

-- it is a given one, and no container's
pub locus_of_kind : (a : AtlasState) (containers earlier : List Text) (ts : List LocusTable) (x : Text) → AreLocusTables containers earlier ts → All (λ (t : LocusTable). container_named a t.name ≡ None) ts → IsTrue (is_among (locus_names ts) x)
    → IsTrue (is_given_name x) × (container_named a x ≡ None)
locus_of_kind a containers earlier [] x rules kinds among = true_false false among refl
locus_of_kind a containers earlier (t ∷ ts) x rules kinds among =
    or_cases (text_eq x t.name) (is_among (locus_names ts) x) among
    (λ e. let same = text_same x t.name e in (
      subst (λ (n : Text). IsTrue (is_given_name n)) (sym same) rules.0.name,
      ap (container_named a) same ∙ All-head (λ (t : LocusTable). container_named a t.name ≡ None) t ts kinds,
    ))
    (λ e. locus_of_kind a containers (t.name ∷ earlier) ts x rules.1 (All-tail (λ (t : LocusTable). container_named a t.name ≡ None) t ts kinds) e)

locus_known : (a : AtlasState) (x : Text) → IsTrue (is_given_name x) → container_named a x ≡ None → is_some (number_of a x) ≡ true → is_some (locus_named a x) ≡ true
locus_known a x given none known =
    sym (ap (λ (b : Bool). is_some (if b then Some 0 else or_else (container_named a x) (locus_named a x))) (not_atlas x given) ∙ ap (λ o. is_some (or_else o (locus_named a x))) none) ∙ known

among_order : (test : Text → Bool) (names : List Text) (i : ℕ) (name : Text) → IsTrue (list_all test names) → slice_get names i ≡ Some name → IsTrue (test name)
among_order test names i name all here =
    subst (λ n. test n ≡ true) (get_or_from_slice_get names i name name here) (AllPass-from_list_all test names all i name (slice_get_within names i name here))

pick_born : (a : AtlasState) (script : Script) (i : ℕ) (name : Text) → IsScript script → Fits a script → is_some (next_name a script) ≡ false → slice_get script.order i ≡ Some name → is_some (locus_named a name) ≡ true
pick_born a script i name rules fits none here =
    let among = among_order (is_among (locus_names script.loci)) script.order i name rules.order here in
    let kind = locus_of_kind a (container_names script.containers) [] script.loci name rules.loci fits.kinds.loci among in
    locus_known a name kind.0 kind.1 (loci_known a script.loci (no_locus_name (next_container_name a script.containers) (next_locus_name a script.loci) none) name among)

module _ (s : Supply) (policy : Policy) (script : Script) (w : KernelState) (rules : IsScript script) (fits : Fits (atlas_in (w 0).cell) script) (sound : IsSound (λ x. (w x).cell)) where
  -- the atlas behind these entries
  abbrev atlas : List Entry → AtlasState
  atlas es = atlas_in ((run_after s script (start_run w) es).state 0).cell

  names_stay : (ls : List ℕ) (es : List Entry) → HasLooked s policy script w ls es → KeepsNames (atlas (opening s script w)) (atlas es)
  names_stay ls es h =
      let o = opening s script w in
      let more = looks s policy script (opened s script w) ls in
      let legal = subst (λ fs. IsLegalRun s policy w script fs) h.same (looked_rest s policy script w rules fits sound ls es h).legal in
      let stands = standing_over s policy script rules o (start_run w) (opening_legal s policy script w) (record { sound = sound; kinds = λ _. fits.kinds.containers }) in
      let stay = names_over s policy script rules more (opened s script w) (legal_back s policy script (start_run w) o more legal) stands (all_births_done s script rules w sound fits) in
      subst (λ (r : Run). KeepsNames (atlas o) (atlas_in (r.state 0).cell)) (sym (ap (run_after s script (start_run w)) h.same ∙ run_append s policy script (start_run w) o more)) stay

  pub pick_now : (ls : List ℕ) (es : List Entry) (i : ℕ) (name : Text) → HasLooked s policy script w ls es → slice_get script.order i ≡ Some name
      → (l : ℕ) × (locus_named (atlas es) name ≡ Some l) × (before_pick script (opened s script w) (i + 1) ≡ before_pick script (opened s script w) i ++ l ∷ [])
  pick_now ls es i name h here =
      let o = opening s script w in
      let ready = births_ready s script rules 64 (start_run w) (sound, fits) in
      let stay = (names_stay ls es h).loci in
      let born = pick_born (atlas o) script i name rules ready.1 (all_births_done s script rules w sound fits) here in
      let l = some_is (locus_named (atlas o) name) born in
      (l.0, ap (λ ts. place_of name ts 41) stay.1 ∙ place_more name (atlas o).loci stay.0 41 l.0 l.1, pick_more script (opened s script w) i name (Some l.0) here l.1)
