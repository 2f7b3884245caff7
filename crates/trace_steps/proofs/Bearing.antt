-- A birth: the entry may follow, and the checker stands behind it.
use Rattle.std.proofs.Common.{◌≡◌, ℕ, ◌<◌, Bool, true, false, not, ◌&&◌, ◌||◌, if◌then◌else◌, List, [], ◌∷◌, ◌++◌, Option, Some, None, is_some, option_map, option_and_then, sym, ap, subst, ◌∙◌}
use Rattle.base_types.specs.declared.histories.Entry.{Entry}
use Rattle.base_types.specs.declared.histories.Event.{Event}
use Rattle.base_types.specs.declared.histories.Event.TheVariants.{Birth}
use Rattle.plain_states.specs.model_kernel.Births.{birth, birth_named, next_birth, next_birth_change}
use Rattle.plain_states.specs.model_kernel.Changes.{Change, carried}
use Rattle.plain_states.specs.model_kernel.Histories.{May, Policy, Run, births_owed, by_event, event_of, may as may_be}
use Rattle.plain_states.specs.model_kernel.Parts.{after_entry, is_event, next_of}
use Rattle.plain_states.specs.model_kernel.Scripts.{Script, next_name}
use Rattle.plain_states.specs.model_kernel.Soundness.{IsSound}
use Rattle.plain_states.specs.model_kernel.State.{AtlasState, Cell, KernelState, Supply, Text}
use Rattle.plain_states.specs.model_kernel.Steps.{atlas_in}
use Rattle.plain_states.proofs.model_kernel_lemmas.LegalRuns.{next_legal}
use Rattle.plain_states.specs.Born.{AreEdges, AreOfOneKind, IsUndefined}
use Rattle.plain_states.specs.Events.{Bears, Has}
use Rattle.plain_states.specs.Plains.{atlas_of, cells_of}
use Rattle.plain_states.specs.declared.plain.Plain.{Plain}
use Rattle.trace_step_facts.proofs.plain_facts_lemmas.Goings.{state_is}
use Rattle.trace_step_facts.proofs.plain_facts_lemmas.DefinedBirths.{born_atlas}
use Rattle.trace_step_facts.proofs.plain_facts_lemmas.Openings.{birth_event, borne, goes_on_birth, next_is_birth}
use Rattle.plain_states.proofs.model_sound_runs_lemmas.Standing.{under_next}
use Rattle.trace_state.specs.Clocks.{clock_at, joined_in}
use Rattle.trace_step_facts.specs.data_cut_facts.Searches.{mark_at}
use Rattle.trace_state.specs.Flags.{wrote_in}
use Rattle.trace_state.specs.declared.clocks.Clocks.{Clocks}
use Rattle.trace_state.specs.declared.wishes.Wishes.{Wishes}
use Rattle.trace_steps.specs.Standing.{Keeps, Stands, owing}
use Rattle.trace_step_facts.specs.Standing.{run_of}
use Rattle.trace_steps.specs.declared.checker.Checker.{Checker}
use Rattle.trace_step_facts.proofs.Clocking.{clocks_next}
use Rattle.trace_steps.proofs.Marking.{none_of}
use Rattle.trace_steps.proofs.Running.{stands_on}
use Rattle.trace_steps.proofs.Stepping.{sound_standing}
use Rattle.trace_step_facts.proofs.Wishing.{birth_wishes}
use Rattle.trace_step_facts.proofs.model_births_lemmas.Growing.{kinds_after}
use Rattle.trace_step_facts.proofs.model_births_lemmas.KnownNames.{next_name_is}
use Rattle.std.proofs.lemmas.Option.{none-some}

module _ (s : Supply) (policy : Policy) (script : Script) (w : KernelState) (es : List Entry) (old : Checker) (h : Stands s policy script w old es) (untried : old.tried ≡ false) where
  -- NO BIRTH

  -- what may follow as a birth follows births alone, and is the next one
  bears_next : (e : Entry) → e.event ≡ Birth → May s policy script (run_of s script w es) e → (old.began ≡ true) × (option_map (λ (q : Entry × KernelState). q.0) (next_birth s script (run_of s script w es).state) ≡ Some e)
  bears_next e ev m =
      let r = run_of s script w es in
      let k = subst (may_be s policy script r e) ev m.1 in
      (sym h.keeps.marks.began ∙ k.0, k.1)

  undefined_refuses : next_birth s script (run_of s script w es).state ≡ None → (e : Entry) → e.event ≡ Birth → May s policy script (run_of s script w es) e → ⊥
  undefined_refuses none e ev m = none-some e (sym (ap (option_map (λ (q : Entry × KernelState). q.0)) none) ∙ (bears_next e ev m).1)

  -- all names are born
  pub all_born_refuses : next_name (atlas_of old.state.atlas) script ≡ None → (e : Entry) → e.event ≡ Birth → May s policy script (run_of s script w es) e → ⊥
  unfolding next_birth_change
  all_born_refuses none =
      let r = run_of s script w es in
      let here : next_name (atlas_in (r.state 0).cell) script ≡ None = ap (λ (k : Cell). next_name (atlas_in k) script) (h.keeps.has.cells 0) ∙ none in
      undefined_refuses (ap (λ o. option_map (λ (c : ℕ × Change). carried r.state Birth c.0 c.1) (option_and_then (λ name. birth_named s script name r.state (atlas_in (r.state 0).cell)) o)) here)

  module _ (name : Text) (is : next_name (atlas_of old.state.atlas) script ≡ Some name) where
    named_here : next_name (atlas_in ((run_of s script w es).state 0).cell) script ≡ Some name
    named_here = ap (λ (k : Cell). next_name (atlas_in k) script) (h.keeps.has.cells 0) ∙ is

    by_name : next_birth s script (run_of s script w es).state ≡ birth s script name (run_of s script w es).state
    by_name = next_is_birth s script name (run_of s script w es).state named_here

    -- no number is free, or the host isn't born
    pub unbearable_refuses : IsUndefined s script name (cells_of s old.state) old.versions → (e : Entry) → e.event ≡ Birth → May s policy script (run_of s script w es) e → ⊥
    unbearable_refuses undefined =
        let r = run_of s script w es in
        undefined_refuses (by_name ∙ ap (birth s script name) (state_is r.state (cells_of s old.state) old.versions h.keeps.has) ∙ undefined (λ x. (r.state x).stamp))

    -- A BIRTH
    module _ (began : old.began ≡ true) (st : Plain) (vs : List ℕ) (e : Entry) (bears : Bears s script name (cells_of s old.state) old.versions e (cells_of s st) vs) where
      borne_here : (v : KernelState) × (birth s script name (run_of s script w es).state ≡ Some (e, v)) × Has v (cells_of s st) vs
      borne_here =
          let r = run_of s script w es in
          let m = bears (λ x. (r.state x).stamp) in
          (m.0, ap (birth s script name) (state_is r.state (cells_of s old.state) old.versions h.keeps.has) ∙ m.1, m.2)

      next_here : next_birth s script (run_of s script w es).state ≡ Some (e, borne_here.0)
      next_here = by_name ∙ borne_here.1

      pub is_birth : e.event ≡ Birth
      is_birth = birth_event s script name (run_of s script w es).state borne_here.0 e borne_here.1

      pub birth_may : May s policy script (run_of s script w es) e
      birth_may =
          let r = run_of s script w es in
          (none_of r.tried (h.keeps.marks.tried ∙ untried), subst (may_be s policy script r e) (sym is_birth) (h.keeps.marks.began ∙ began, ap (option_map (λ (q : Entry × KernelState). q.0)) next_here))

      left : after_entry (event_of s script) (run_of s script w es).state e ≡ borne_here.0
      left =
          let r = run_of s script w es in
          ap (λ (k : Event). if is_event k then next_of (event_of s script) r.state (by_event s script k e.actor r.state) else r.state) is_birth
          ∙ ap (next_of (event_of s script) r.state) next_here

      -- no name gets the other kind
      kinds_here : AreOfOneKind (atlas_of st.atlas) script
      kinds_here =
          let r = run_of s script w es in
          let grown = born_atlas s script name r.state borne_here.0 (atlas_of old.state.atlas) e (h.keeps.has.cells 0) (next_name_is (atlas_of old.state.atlas) script name h.run.rules is) borne_here.1 in
          let same : grown.0 ≡ atlas_of st.atlas = ap atlas_in (sym grown.1 ∙ borne_here.2.cells 0) in
          subst (λ (a : AtlasState). AreOfOneKind a script) same (kinds_after (atlas_of old.state.atlas) grown.0 script name h.run.rules (h.keeps.kinds (h.keeps.marks.began ∙ began)) grown.2)

      -- the checker that keeps what is left to be born
      pub birth_stands : IsSound (cells_of s st) → AreEdges st.atlas.edges.items → (clocks : Clocks) (wishes : Wishes) (later : Option Text) → next_name (atlas_of st.atlas) script ≡ later
          → ((x y : ℕ) → x < 64 → clock_at clocks x y ≡ (if wrote_in e.touched x then joined_in (clock_at old.clocks) e.touched y else clock_at old.clocks x y))
          → ((x : ℕ) → mark_at wishes.by_step x ≡ (not (wrote_in e.touched x) && mark_at old.wishes.by_step x))
          → ((x : ℕ) → mark_at wishes.was_full x ≡ (mark_at old.wishes.was_full x || mark_at old.wishes.full x))
          → wishes.newest ≡ old.wishes.newest → wishes.asked ≡ old.wishes.asked → wishes.full ≡ old.wishes.full
          → Stands s policy script w (owing later (record old { state = st; versions = vs; clocks = clocks; wishes = wishes })) (es ++ e ∷ [])
      birth_stands sound edges clocks wishes later next joins by_step was_full newest asked full = by_later later next
        where
          by_later : (later : Option Text) → next_name (atlas_of st.atlas) script ≡ later → Stands s policy script w (owing later (record old { state = st; versions = vs; clocks = clocks; wishes = wishes })) (es ++ e ∷ [])
          by_later later next =
              let r = run_of s script w es in
              let v = borne_here.0 in
              let q : Run = borne script r e v in
              let new : Checker = record old { state = st; versions = vs; clocks = clocks; wishes = wishes } in
              let owed_now : births_owed script q ≡ is_some later = ap (λ (k : Cell). is_some (next_name (atlas_in k) script)) (borne_here.2.cells 0) ∙ ap is_some next in
              let has : Has q.state (cells_of s st) vs = record { cells = borne_here.2.cells; numbers = borne_here.2.numbers } in
              let clocked = clocks_next s policy script r q e old.clocks clocks (next_legal s policy script r e birth_may) (under_next s policy script h.run.rules r e birth_may (sound_standing s policy script w es old h untried 0)) (sym left) joins h.keeps.clocks in
              let wished = birth_wishes script r e v old.wishes wishes h.keeps.wishes by_step was_full newest asked full in
              let keeps : (later : Option Text) → births_owed script q ≡ is_some later → Keeps s script q (owing later new) = λ later owed. elim later as (λ later. births_owed script q ≡ is_some later → Keeps s script q (owing later new)) [
                | None ↦ λ owed. record {
                  has = has;
                  sound = sound;
                  edges = edges;
                  clocks = record { clocks = clocked.clocks };
                  wishes = wished;
                  cuts = record { start = h.keeps.cuts.start; cut = h.keeps.cuts.cut; recs = h.keeps.cuts.recs };
                  marks = record { began = h.keeps.marks.began; owed = ap (λ (b : Bool). if b then None else Some 0) owed; short = h.keeps.marks.short; made = h.keeps.marks.made; births = owed; tried = h.keeps.marks.tried };
                  kinds = λ b. kinds_here;
                }
                | Some more ↦ λ owed. record {
                  has = has;
                  sound = sound;
                  edges = edges;
                  clocks = record { clocks = clocked.clocks };
                  wishes = wished;
                  cuts = record { start = h.keeps.cuts.start; cut = h.keeps.cuts.cut; recs = h.keeps.cuts.recs };
                  marks = record { began = h.keeps.marks.began; owed = ap (λ (b : Bool). if b then None else Some 0) owed; short = h.keeps.marks.short; made = h.keeps.marks.made; births = owed; tried = h.keeps.marks.tried };
                  kinds = λ b. kinds_here;
                }
              ] owed in
              stands_on s policy script w old (owing later new) es e h birth_may (subst (λ (k : Run). Keeps s script k (owing later new)) (sym (goes_on_birth s script r e v is_birth next_here)) (keeps later owed_now))
