-- What is told of a trace is the same whatever the clocks at the start are.
use Rattle.std.proofs.Common.{◌≡◌, ℕ, List, [], ◌∷◌, ◌++◌, Option, Some, None, MatchOption, refl, sym, ap, subst, ◌∙◌, arith}
use Rattle.model_clocks.specs.Alike.{AreAlike}
use Rattle.model_clocks.proofs.Runs.{AreLikeRuns, legal_alike, may_same, next_same_run, runs_over, start_like}
use Rattle.line_entries.specs.Entries.{entry_line, entry_text, event_word}
use Rattle.base_types.specs.declared.histories.Entry.{Entry}
use Rattle.model_clocks.specs.model_kernel.Histories.{IsLegalFrom, IsLegalRun, May, Policy, Run, goes_on, run_after, start_run}
use Rattle.model_clocks.specs.model_kernel.Scripts.{Script}
use Rattle.model_clocks.specs.model_kernel.State.{AtlasState, KernelState, Supply, Text}
use Rattle.model_clocks.specs.model_kernel.Steps.{atlas_in}
use Rattle.model_clocks.specs.model_kernel.Vectors.{StampsBelow}
use Rattle.plain_states.specs.Plains.{cells_of}
use Rattle.plain_states.specs.declared.plain.Plain.{Plain}
use Rattle.line_text.specs.Lines.{name_in, word}
use Rattle.trace_facts.specs.trace_step_facts.Standing.{fresh}
use Rattle.trace_facts.specs.Traces.{Begins, BeginsWith, GoesOnWith, GoesWrong, IsWanted, Spells, WantText, first_line, names_after, spelled}
use Rattle.trace_checker.specs.Reading.{IsFault}
use Rattle.trace_facts.specs.Reading.{SpellsNone}
use Rattle.trace_checker.specs.declared.faults.TraceFault.{TraceFault}
use Rattle.trace_checker.specs.declared.faults.TraceFault.TheVariants.{At, Memory}

module _ (s : Supply) (policy : Policy) (script : Script) (start : ℕ → ℕ) where
  spelled_like : (es : List Entry) (r q : Run) → AreLikeRuns start r q → IsLegalFrom s policy script r es → spelled s script r es ≡ spelled s script q es
  spelled_like [] r q k legal = refl
  spelled_like (e ∷ es) r q k legal =
      let next = next_same_run s policy script start r q e k legal.0 in
      let rest = spelled_like es (goes_on s script r e) (goes_on s script q e) next legal.1 in
      λ i. entry_line (atlas_in ((next.alike 0).cell i)) e ++ rest i

  module _ (r q : Run) (k : AreLikeRuns start r q) where
    names_like : (e : Entry) → May s policy script r e → names_after s script r e ≡ names_after s script q e
    names_like e m = ap atlas_in ((next_same_run s policy script start r q e k m).alike 0).cell

    goes_like : (text : Text) (e : Entry) → GoesOnWith s policy script r text e → GoesOnWith s policy script q text e
    goes_like text e g = record { may = may_same start r q k s policy script e g.may; behind = g.behind; line = g.line ∙ ap (λ (a : AtlasState). entry_line a e ++ g.behind) (names_like e g.may) }

    wanted_like : (line : Text) (e : Entry) → IsWanted s policy script r line e → IsWanted s policy script q line e
    wanted_like line e g = record {
      played = g.played;
      may = may_same start r q k s policy script e g.may;
      named = subst (λ (a : AtlasState). BeginsWith line (event_word e.event ++ word (name_in a e.actor))) (names_like e g.may) g.named;
    }

module _ (s : Supply) (policy : Policy) (script : Script) (w v : KernelState) (alike : AreAlike w v) (low : StampsBelow w) (low_too : StampsBelow v) where
  runs_like : (es : List Entry) → IsLegalRun s policy w script es → AreLikeRuns (λ x. (w x).version) (run_after s script (start_run w) es) (run_after s script (start_run v) es)
  runs_like es legal = runs_over s policy script (λ x. (w x).version) es (start_run w) (start_run v) (start_like w v alike low low_too) legal

  lines_like : (es : List Entry) → IsLegalRun s policy w script es → spelled s script (start_run w) es ≡ spelled s script (start_run v) es
  lines_like es legal = spelled_like s policy script (λ x. (w x).version) es (start_run w) (start_run v) (start_like w v alike low low_too) legal

  pub spells_like : (trace : Text) (lines : ℕ) → Spells s policy w script trace lines → Spells s policy v script trace lines
  spells_like trace lines k = record { history = k.history; legal = legal_alike s policy script w v k.history alike low low_too k.legal; spells = k.spells ∙ lines_like k.history k.legal; count = k.count }

turned : (w v : KernelState) → AreAlike w v → AreAlike v w
turned w v alike x = record { cell = sym (alike x).cell; version = sym (alike x).version }

module _ (s : Supply) (policy : Policy) (script : Script) (w v : KernelState) (alike : AreAlike w v) (low : StampsBelow w) (low_too : StampsBelow v) where
  none_like : (trace : Text) → SpellsNone s policy w script trace → SpellsNone s policy v script trace
  none_like trace none lines k = none lines (spells_like s policy script v w (turned w v alike) low_too low trace lines k)

  wrong_like : (trace : Text) (line : ℕ) (want : Option Entry) (shown : Text) → GoesWrong s policy w script trace line want shown → GoesWrong s policy v script trace line want shown
  wrong_like trace line want shown g =
      let es = g.before in
      let legal = legal_alike s policy script w v es alike low low_too g.legal in
      let r = run_after s script (start_run w) es in
      let q = run_after s script (start_run v) es in
      let there = runs_like s policy script w v alike low low_too es g.legal in
      let back = runs_like s policy script v w (turned w v alike) low_too low es legal in
      record {
        before = es;
        legal = legal;
        rest = g.rest;
        split = g.split ∙ ap (λ (t : Text). t ++ g.rest) (lines_like s policy script w v alike low low_too es g.legal);
        some = g.some;
        number = g.number;
        wrong = λ e h. g.wrong e (goes_like s policy script (λ x. (v x).version) q r back g.rest e h);
        wanted = wants r q there back g.rest want g.wanted;
        text = shows r q there g.rest want g.wanted g.text;
      }
    where
      wants : (r q : Run) → AreLikeRuns (λ x. (w x).version) r q → AreLikeRuns (λ x. (v x).version) q r → (rest : Text) (o : Option Entry)
          → MatchOption o ((e : Entry) → IsWanted s policy script r (first_line rest) e → ⊥) (IsWanted s policy script r (first_line rest))
          → MatchOption o ((e : Entry) → IsWanted s policy script q (first_line rest) e → ⊥) (IsWanted s policy script q (first_line rest))
      wants r q there back rest None h = λ e k. h e (wanted_like s policy script (λ x. (v x).version) q r back (first_line rest) e k)
      wants r q there back rest (Some e) h = wanted_like s policy script (λ x. (w x).version) r q there (first_line rest) e h

      shows : (r q : Run) → AreLikeRuns (λ x. (w x).version) r q → (rest : Text) (o : Option Entry)
          → MatchOption o ((e : Entry) → IsWanted s policy script r (first_line rest) e → ⊥) (IsWanted s policy script r (first_line rest)) → WantText s script r o shown → WantText s script q o shown
      shows r q there rest None h k = k
      shows r q there rest (Some e) h k = k ∙ ap (λ (a : AtlasState). entry_text a e) (names_like s policy script (λ x. (w x).version) r q there e h.may)

  fault_like : (trace : Text) (fault : TraceFault) → IsFault s policy w script trace fault → IsFault s policy v script trace fault
  fault_like trace (At line want shown) g = (wrong_like trace line want shown.bytes g.0, none_like trace g.1)
  fault_like trace Memory g = tt

-- from the clocks that tell nothing to any others
module _ (s : Supply) (policy : Policy) (script : Script) (p : Plain) (versions : List ℕ) (w : KernelState) (b : Begins w (cells_of s p) versions) where
  from_fresh : AreAlike (fresh s p versions) w
  from_fresh x = record { cell = sym (b.cells x); version = sym (b.versions x) }

  low_fresh : StampsBelow (fresh s p versions)
  low_fresh x y = omega arith

  pub spells_anyway : (trace : Text) (lines : ℕ) → Spells s policy (fresh s p versions) script trace lines → Spells s policy w script trace lines
  spells_anyway trace lines k = spells_like s policy script (fresh s p versions) w from_fresh low_fresh b.clocks trace lines k

  pub fault_anyway : (trace : Text) (fault : TraceFault) → IsFault s policy (fresh s p versions) script trace fault → IsFault s policy w script trace fault
  fault_anyway trace fault k = fault_like s policy script (fresh s p versions) w from_fresh low_fresh b.clocks trace fault k
