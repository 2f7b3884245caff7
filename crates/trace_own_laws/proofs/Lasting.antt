-- The lines of a history by the names of its end.
use Rattle.std.proofs.Common.{◌≡◌, ℕ, if◌then◌else◌, IsTrue, List, [], ◌∷◌, ◌++◌, length, take, decimal, refl, sym, ap, subst, ◌∙◌}
use Rattle.std.specs.List.{All, flat_map}
use Rattle.std.proofs.lemmas.List.Elements.{All-head, All-tail, All-take}
use Rattle.base_types.specs.declared.histories.Entry.{Entry}
use Rattle.base_types.specs.declared.histories.Event.{Event}
use Rattle.base_types.specs.declared.histories.Event.TheVariants.{Birth, Step, Snap, Stable, Tried}
use Rattle.base_types.specs.declared.histories.Touch.{Touch}
use Rattle.trace_checker.proofs.trace_actor_laws_lemmas.Changing.{stays_born}
use Rattle.trace_checker.proofs.trace_actor_laws_lemmas.Knowing.{IsKnown, actor_left, atlas_of, known_next, known_run, names_left, touched_left}
use Rattle.trace_checker.proofs.trace_actor_laws_lemmas.Spots.{name_kept}
use Rattle.trace_checker.proofs.model_sound_runs_lemmas.Standing.{IsStanding, standing_next}
use Rattle.trace_checker.proofs.model_kernel_lemmas.LegalRuns.{state_after}
use Rattle.trace_checker.specs.model_sound_runs.Kinds.{NamesNoLocus}
use Rattle.trace_checker.specs.script_types.Rules.{IsScript}
use Rattle.trace_checker.specs.trace_facts.Traces.{Spells, spelled}
use Rattle.trace_checker.specs.line_entries.Entries.{answer_text, details, entry_line, entry_text, event_word, touch_text, touches_text, trace_of}
use Rattle.trace_checker.specs.model_kernel.Histories.{IsLegalFrom, IsLegalRun, Policy, Run, event_of, goes_on, run_after, start_run}
use Rattle.trace_checker.specs.model_kernel.Parts.{after}
use Rattle.trace_checker.specs.model_kernel.Scripts.{Script}
use Rattle.trace_checker.specs.model_kernel.Soundness.{IsSound, IsSoundAtlas, is_born}
use Rattle.trace_checker.specs.model_kernel.State.{AtlasState, KernelState, Supply, Text}
use Rattle.trace_checker.specs.model_kernel.Steps.{atlas_in}
use Rattle.trace_checker.specs.line_text.Lines.{line_end, name_in, word}

-- A LINE BY TWO ATLASES

module _ (a b : AtlasState) (same : (x : ℕ) → IsTrue (is_born a x) → name_in b x ≡ name_in a x) where
  abbrev IsOfBorn : Touch → Type 0
  IsOfBorn t = IsTrue (is_born a t.entity)

  touch_same : (t : Touch) → IsOfBorn t → touch_text b t ≡ touch_text a t
  unfolding touch_text
  touch_same t born = ap (λ (n : Text). n ++ (if t.wrote then 58 else 61) ∷ decimal t.version) (same t.entity born)

  rest_same : (ts : List Touch) → All IsOfBorn ts → flat_map (λ u. 44 ∷ touch_text b u) ts ≡ flat_map (λ u. 44 ∷ touch_text a u) ts
  rest_same [] all = refl
  rest_same (t ∷ ts) all = λ i. (44 ∷ touch_same t (All-head IsOfBorn t ts all) i) ++ rest_same ts (All-tail IsOfBorn t ts all) i

  touches_same : (ts : List Touch) → All IsOfBorn ts → touches_text b ts ≡ touches_text a ts
  unfolding touches_text
  touches_same [] all = refl
  touches_same (t ∷ ts) all = λ i. touch_same t (All-head IsOfBorn t ts all) i ++ rest_same ts (All-tail IsOfBorn t ts all) i

  details_same : (e : Entry) → All IsOfBorn e.touched → (v : Event) → details b e v ≡ details a e v
  details_same e all Birth = ap word (touches_same (take 3 e.touched) (All-take IsOfBorn 3 e.touched all))
  details_same e all Step = ap (λ (ts : Text). word ts ++ word (answer_text e.answer)) (touches_same (take 3 e.touched) (All-take IsOfBorn 3 e.touched all))
  details_same e all Snap = refl
  details_same e all Stable = refl
  details_same e all Tried = refl

  -- two atlases that name what the entry names alike give it one line
  pub line_same : (e : Entry) → IsTrue (is_born a e.actor) → All IsOfBorn e.touched → entry_line b e ≡ entry_line a e
  unfolding entry_line entry_text
  line_same e actor all = λ i. (event_word e.event ++ word (same e.actor actor i) ++ details_same e all e.event i) ++ line_end

-- A HISTORY

-- where the run stands the names are sound
pub names_here : (script : Script) (r : Run) → IsStanding script r → IsSoundAtlas (atlas_of r)
names_here script r h = subst IsSoundAtlas (sym (ap atlas_in h.sound.1.atlas)) h.sound.1.names

module _ (s : Supply) (policy : Policy) (script : Script) (rules : IsScript script) where
  -- what is born keeps its name to the end
  names_last : (r : Run) (es : List Entry) → IsStanding script r → IsLegalFrom s policy script r es → (x : ℕ) → IsTrue (is_born (atlas_of r) x) → name_in (atlas_of (run_after s script r es)) x ≡ name_in (atlas_of r) x
  names_last r [] h legal x born = refl
  names_last r (e ∷ es) h legal x born =
      let names = names_left s policy script rules r e h legal.0 in
      names_last (goes_on s script r e) es (standing_next s policy script rules r e legal.0 h) legal.1 x (stays_born (atlas_of r) (atlas_of (goes_on s script r e)) x names born)
      ∙ name_kept (atlas_of r) (names_here script r h) (atlas_of (goes_on s script r e)) x names born

  -- the lines by the names of the end are those by the names behind each entry
  pub own_lines : (r : Run) (es : List Entry) → IsStanding script r → IsKnown r → IsLegalFrom s policy script r es → trace_of (atlas_of (run_after s script r es)) es ≡ spelled s script r es
  own_lines r [] h known legal = refl
  own_lines r (e ∷ es) h known legal =
      let q = goes_on s script r e in
      let next = standing_next s policy script rules r e legal.0 h in
      let line = line_same (atlas_of q) (atlas_of (run_after s script q es)) (names_last q es next legal.1) e (actor_left s policy script rules r e h known legal.0) (touched_left s policy script rules r e h legal.0) in
      let rest = own_lines q es next (known_next s policy script rules r e legal.0 h known) legal.1 in
      λ i. line i ++ rest i

-- SPELLED

module _ (s : Supply) (policy : Policy) (script : Script) (w : KernelState) (es : List Entry) (rules : IsScript script) (kinds : NamesNoLocus script w) (sound : IsSound (λ x. (w x).cell)) (legal : IsLegalRun s policy w script es) where
  pub own_trace : trace_of (atlas_of (run_after s script (start_run w) es)) es ≡ spelled s script (start_run w) es
  own_trace = (let start = known_run s policy script rules w [] kinds sound tt in own_lines s policy script rules (start_run w) es start.0 start.1 legal)

  -- the trace of a legal run by the names of its end spells its history
  pub own_trace_spells : Spells s policy w script (trace_of (atlas_of (run_after s script (start_run w) es)) es) (length es)
  own_trace_spells = record { history = es; legal = legal; spells = own_trace; count = refl }

  -- by those of the state that its events leave, too
  pub own_spells : Spells s policy w script (trace_of (atlas_in (after (event_of s script) w es 0).cell) es) (length es)
  own_spells = subst (λ (v : KernelState). Spells s policy w script (trace_of (atlas_in (v 0).cell) es) (length es)) (state_after s policy script (start_run w) es) own_trace_spells
