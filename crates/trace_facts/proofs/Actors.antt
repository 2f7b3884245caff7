-- The names of the actors of entries that may be next.
use Rattle.std.proofs.Common.{◌≡◌, ℕ, ◌<◌, true, IsTrue, List, [], ◌∷◌, ◌++◌, is_some, refl, sym, ap, subst, ◌∙◌}
use Rattle.std.proofs.lemmas.Bool.{false≢true}
use Rattle.base_types.specs.declared.histories.Entry.{Entry}
use Rattle.base_types.specs.declared.histories.Event.{Event}
use Rattle.base_types.specs.declared.histories.Event.TheVariants.{Birth, Step, Snap, Stable, Tried}
use Rattle.trace_actor_laws.proofs.Knowing.{IsKnown, actor_born, actor_left, known_run, names_left, newborn_born}
use Rattle.line_entry_laws.proofs.Splits.{Lacks, Lacks-name}
use Rattle.line_entry_laws.specs.line_entries.Entries.{event_word}
use Rattle.trace_actor_laws.proofs.Spots.{name_kept}
use Rattle.trace_actor_laws.proofs.plain_states_lemmas.PlainBirths.{sound_here}
use Rattle.trace_actor_laws.specs.plain_states.Plains.{atlas_of}
use Rattle.trace_actor_laws.specs.model_sound_runs.Names.{KeepsNames}
use Rattle.line_text.specs.model_kernel.Histories.{May, Policy, Run, start_run}
use Rattle.line_text.specs.model_kernel.Scripts.{Script}
use Rattle.line_text.specs.model_kernel.Soundness.{IsSoundAtlas, is_born}
use Rattle.line_text.specs.model_kernel.State.{AtlasState, KernelState, Supply, Text}
use Rattle.line_text.specs.model_kernel.Steps.{atlas_in}
use Rattle.trace_actor_laws.proofs.model_sound_runs_lemmas.Ranges.{born_under}
use Rattle.trace_actor_laws.proofs.model_sound_runs_lemmas.Standing.{IsStanding, standing_next}
use Rattle.line_text.specs.Lines.{name_in, word}
use Rattle.trace_steps.specs.Standing.{Follows, Stands}
use Rattle.trace_steps.specs.trace_step_facts.Standing.{run_of}
use Rattle.trace_steps.specs.declared.checker.Checker.{Checker}
use Rattle.trace_steps.proofs.model_run_rules_lemmas.Single.{one_birth, one_entry}
use Rattle.trace_facts.specs.Traces.{BeginsWith, names_after}
use Rattle.trace_facts.specs.Reading.{NamesBirthAt, Wants, named_words}
use Rattle.trace_facts.specs.Words.{IsNamed, first_word, rest_words}
use Rattle.trace_facts.proofs.Names.{IsWord, one_named, word_of}
use Rattle.trace_facts.proofs.Parsing.{Parsed, compose, parse}
use Rattle.line_text.proofs.model_kernel_lemmas.StableCuts.{run_append}
use Rattle.line_entry_laws.proofs.Told.{event_same}

-- EVENTS

pub event_lacks : (b : ℕ) → Lacks b (event_word Birth) → Lacks b (event_word Step) → Lacks b (event_word Snap) → Lacks b (event_word Stable) → Lacks b (event_word Tried) → (v : Event) → Lacks b (event_word v)
event_lacks b h k l m n Birth = h
event_lacks b h k l m n Step = k
event_lacks b h k l m n Snap = l
event_lacks b h k l m n Stable = m
event_lacks b h k l m n Tried = n

pub no_blank : (v : Event) → Lacks 32 (event_word v)
no_blank = event_lacks 32 (Lacks-name 32 (event_word Birth) refl refl) (Lacks-name 32 (event_word Step) refl refl) (Lacks-name 32 (event_word Snap) refl refl) (Lacks-name 32 (event_word Stable) refl refl) (Lacks-name 32 (event_word Tried) refl refl)

-- WHERE THE CHECKER STANDS

module _ (s : Supply) (policy : Policy) (script : Script) (w : KernelState) (es : List Entry) (old : Checker) (h : Stands s policy script w old es) where
  abbrev here : Run
  here = run_of s script w es

  abbrev names : AtlasState
  names = atlas_of old.state.atlas

  known : IsStanding script here × IsKnown here
  known = known_run s policy script h.run.rules w es h.run.kinds h.run.sound h.run.legal

  names_are : atlas_in (here.state 0).cell ≡ names
  names_are = ap atlas_in (h.keeps.has.cells 0)

  pub sound_names : IsSoundAtlas names
  sound_names = (sound_here s old.state h.keeps.sound).names

  -- the actor of another entry than a birth is born, and has the same name behind the entry
  pub actor_here : (f : Entry) → May s policy script here f → (f.event ≡ Birth → ⊥) → IsTrue (is_born names f.actor)
  actor_here f m other = subst (λ (a : AtlasState). IsTrue (is_born a f.actor)) names_are (actor_born s policy script h.run.rules here f known.0 known.1 m other)

  pub same_name : (f : Entry) → May s policy script here f → (f.event ≡ Birth → ⊥) → name_in (names_after s script here f) f.actor ≡ name_in names f.actor
  same_name f m other =
      let keeps = subst (λ (a : AtlasState). KeepsNames a (names_after s script here f)) names_are (names_left s policy script h.run.rules here f known.0 m) in
      name_kept names sound_names (names_after s script here f) f.actor keeps (actor_here f m other)

  -- the name of the actor of what may be next is a word
  pub is_word : (f : Entry) → May s policy script here f → IsWord (name_in (names_after s script here f) f.actor)
  is_word f m =
      let next = standing_next s policy script h.run.rules here f m known.0 in
      let sound : IsSoundAtlas (names_after s script here f) = subst IsSoundAtlas (sym (ap atlas_in next.sound.1.atlas)) next.sound.1.names in
      word_of (names_after s script here f) sound f.actor (actor_left s policy script h.run.rules here f known.0 known.1 m)

  -- a line that begins with the words of an entry that may be next has that event and that name
  pub parsed : (line : Text) (f : Entry) → May s policy script here f → BeginsWith line (named_words s script here f) → Parsed line (event_word f.event) (name_in (names_after s script here f) f.actor)
  unfolding word
  parsed line f m begins = (let k = is_word f m in parse line (event_word f.event) (name_in (names_after s script here f) f.actor) (no_blank f.event) k.blank begins)

  -- and one with both words begins so
  pub begins : (line : Text) (f : Entry) → May s policy script here f → first_word line ≡ event_word f.event → first_word (rest_words line) ≡ name_in (names_after s script here f) f.actor → BeginsWith line (named_words s script here f)
  unfolding word
  begins line f m first second = (let k = is_word f m in compose line (event_word f.event) (name_in (names_after s script here f) f.actor) first second k.some)

  -- the names behind an entry are those that the checker has then
  pub names_then : (e : Entry) (new : Checker) → Stands s policy script w new (es ++ e ∷ []) → names_after s script here e ≡ atlas_of new.state.atlas
  names_then e new k = ap (λ (q : Run). atlas_in (q.state 0).cell) (sym (run_append s policy script (start_run w) es (e ∷ []))) ∙ ap atlas_in (k.keeps.has.cells 0)

  pub actor_small : (x : ℕ) → IsTrue (is_born names x) → x < 64
  actor_small x born = born_under names x sound_names born

  -- nothing follows a Tried
  pub tried_refuses : old.tried ≡ true → (f : Entry) → May s policy script here f → ⊥
  tried_refuses tried f m = false≢true (ap is_some (sym m.0) ∙ h.keeps.marks.tried ∙ tried)

  -- a newborn is born, with the name that the checker has for it
  pub newborn_here : (e : Entry) (new : Checker) → May s policy script here e → e.event ≡ Birth → Stands s policy script w new (es ++ e ∷ []) → IsTrue (is_born (atlas_of new.state.atlas) e.actor) × (name_in (names_after s script here e) e.actor ≡ name_in (atlas_of new.state.atlas) e.actor)
  newborn_here e new m is k =
      let same = names_then e new k in
      (subst (λ (a : AtlasState). IsTrue (is_born a e.actor)) same (newborn_born s policy script h.run.rules here e is m), ap (λ (a : AtlasState). name_in a e.actor) same)

  -- WHAT A LINE WANTS

  module _ (line : Text) where
    abbrev name : Text
    name = first_word (rest_words line)

    same_event : (v : Event) → first_word line ≡ event_word v → (f : Entry) → May s policy script here f → BeginsWith line (named_words s script here f) → f.event ≡ v
    same_event v first f m front = event_same f.event v (sym (parsed line f m front).first ∙ first)

    -- the first word is none of an event
    pub no_event : ((v : Event) → event_word v ≡ first_word line → ⊥) → (f : Entry) → May s policy script here f → BeginsWith line (named_words s script here f) → ⊥
    no_event none f m front = none f.event (sym (parsed line f m front).first)

    -- a birth
    pub birth_wants : (e : Entry) (new : Checker) → first_word line ≡ event_word Birth → NamesBirthAt s policy script w es name e new → Wants s policy script w es line e new
    birth_wants e new first k =
        let after = ap (λ (a : AtlasState). name_in a e.actor) (names_then e new k.follows.stands) in
        record { may = k.follows.may; named = begins line e k.follows.may (first ∙ ap event_word (sym k.follows.made)) (sym k.named ∙ sym after); stands = k.follows.stands }

    pub birth_alone : (e : Entry) (new : Checker) → first_word line ≡ event_word Birth → NamesBirthAt s policy script w es name e new → (f : Entry) → May s policy script here f → BeginsWith line (named_words s script here f) → f ≡ e
    birth_alone e new first k f m front = one_birth s policy script here e f k.follows.may m k.follows.made (same_event Birth first f m front)

    pub birth_none : first_word line ≡ event_word Birth → ((f : Entry) → f.event ≡ Birth → May s policy script here f → name_in (names_after s script here f) f.actor ≡ name → ⊥) → (f : Entry) → May s policy script here f → BeginsWith line (named_words s script here f) → ⊥
    birth_none first none f m front = none f (same_event Birth first f m front) m (sym (parsed line f m front).second)

    -- another entry
    module _ (event : Event) (first : first_word line ≡ event_word event) (other : event ≡ Birth → ⊥) where
      not_birth : (f : Entry) → f.event ≡ event → f.event ≡ Birth → ⊥
      not_birth f is b = other (sym is ∙ b)

      -- the name that it has now
      name_now : (f : Entry) → May s policy script here f → BeginsWith line (named_words s script here f) → name_in names f.actor ≡ name
      name_now f m front = sym (same_name f m (not_birth f (same_event event first f m front))) ∙ sym (parsed line f m front).second

      pub unnamed : ((x : ℕ) → x < 64 → IsNamed names name x → ⊥) → (f : Entry) → May s policy script here f → BeginsWith line (named_words s script here f) → ⊥
      unnamed none f m front =
          let born = actor_here f m (not_birth f (same_event event first f m front)) in
          none f.actor (actor_small f.actor born) (record { born = born; named = name_now f m front })

      module _ (actor : ℕ) (named : IsNamed names name actor) where
        same_actor : (f : Entry) → May s policy script here f → BeginsWith line (named_words s script here f) → f.actor ≡ actor
        same_actor f m front = one_named names sound_names f.actor actor (actor_here f m (not_birth f (same_event event first f m front))) named.born (name_now f m front ∙ sym named.named)

        pub next_wants : (e : Entry) (new : Checker) → Follows s policy script w es event actor e new → Wants s policy script w es line e new
        next_wants e new k =
            let after = same_name e k.may (not_birth e k.made) in
            record { may = k.may; named = begins line e k.may (first ∙ ap event_word (sym k.made)) (sym named.named ∙ ap (name_in names) (sym k.by) ∙ sym after); stands = k.stands }

        pub next_alone : (e : Entry) (new : Checker) → Follows s policy script w es event actor e new → (f : Entry) → May s policy script here f → BeginsWith line (named_words s script here f) → f ≡ e
        next_alone e new k f m front = one_entry s policy script here e f k.may m (same_event event first f m front ∙ sym k.made) (same_actor f m front ∙ sym k.by)

        pub next_none : ((f : Entry) → f.event ≡ event → f.actor ≡ actor → May s policy script here f → ⊥) → (f : Entry) → May s policy script here f → BeginsWith line (named_words s script here f) → ⊥
        next_none none f m front = none f (same_event event first f m front) (same_actor f m front) m
