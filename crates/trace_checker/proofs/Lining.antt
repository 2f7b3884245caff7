-- The fault of a line with which no history goes on.
use Rattle.std.proofs.Common.{◌≡◌, ℕ, ◌+◌, List, [], ◌∷◌, ◌++◌, length, refl, sym, subst, ◌∙◌}
use Rattle.base_types.specs.declared.histories.Entry.{Entry}
use Rattle.base_types.specs.declared.histories.Event.TheVariants.{Birth, Step, Snap, Stable, Tried}
use Rattle.line_entries.specs.Entries.{entry_text}
use Rattle.plain_states.specs.Plains.{atlas_of}
use Rattle.model_clocks.specs.model_kernel.Histories.{Policy}
use Rattle.model_clocks.specs.model_kernel.Scripts.{Script}
use Rattle.model_clocks.specs.model_kernel.State.{KernelState, Supply, Text}
use Rattle.trace_facts.specs.trace_steps.declared.checker.Checker.{Checker}
use Rattle.trace_facts.specs.Traces.{IsPlayed, first_line}
use Rattle.trace_facts.specs.Reading.{HasRead, NamesAlone, NamesNone, WantsFrom}
use Rattle.trace_checker.specs.Reading.{IsFault, IsPlayedFault, IsStop, IsUnwanted}
use Rattle.trace_checker.specs.declared.faults.TraceFault.{TraceFault}
use Rattle.trace_checker.specs.declared.faults.TraceFault.TheVariants.{At, Memory}
use Rattle.trace_facts.proofs.Lining.{stops_played, stops_other, stops_none, spells_none}

-- THE FAULT OF A LINE

module _ (s : Supply) (policy : Policy) (script : Script) (old : Checker) (rest : Text) (number : ℕ) where
  pub unwanted_stop : (fault : TraceFault) → NamesNone s policy script old (first_line rest) → IsUnwanted number fault → IsStop s policy script old rest number fault
  unwanted_stop (At line want shown) none u = (u.0, λ w es h. stops_none s policy script w es old h rest (none w es h) want shown.bytes u.1 u.2)
  unwanted_stop Memory none u = tt

  module _ (e : Entry) (new : Checker) (k : WantsFrom s policy script old (first_line rest) e new) (alone : NamesAlone s policy script old (first_line rest) e) (text : Text) (shows : text ≡ entry_text (atlas_of new.state.atlas) e) (none : (left : Text) → rest ≡ text ++ 10 ∷ left → ⊥) where
    played_stop : IsPlayed e.event → (fault : TraceFault) → IsPlayedFault number e text fault → IsStop s policy script old rest number fault
    played_stop played (At line want shown) u = (u.0, λ w es h. stops_played s policy script w es old h rest e new (k w es h) (alone w es h) text shows none played want shown.bytes u.1 u.2)
    played_stop played Memory u = tt

    other_stop : (IsPlayed e.event → ⊥) → (fault : TraceFault) → IsUnwanted number fault → IsStop s policy script old rest number fault
    other_stop other (At line want shown) u = (u.0, λ w es h. stops_other s policy script w es old h rest e new (k w es h) (alone w es h) text shows none other want shown.bytes u.1 u.2)
    other_stop other Memory u = tt

    pub wrong_stop : (fault : TraceFault) → (IsPlayed e.event → IsPlayedFault number e text fault) → ((IsPlayed e.event → ⊥) → IsUnwanted number fault) → IsStop s policy script old rest number fault
    wrong_stop fault played other = elim e.event as (λ ev. e.event ≡ ev → IsStop s policy script old rest number fault) [
      | Birth ↦ λ is. (let p : IsPlayed e.event = subst IsPlayed (sym is) tt in played_stop p fault (played p))
      | Step ↦ λ is. (let p : IsPlayed e.event = subst IsPlayed (sym is) tt in played_stop p fault (played p))
      | Snap ↦ λ is. (let p : IsPlayed e.event → ⊥ = λ q. subst IsPlayed is q in other_stop p fault (other p))
      | Stable ↦ λ is. (let p : IsPlayed e.event → ⊥ = λ q. subst IsPlayed is q in other_stop p fault (other p))
      | Tried ↦ λ is. (let p : IsPlayed e.event → ⊥ = λ q. subst IsPlayed is q in other_stop p fault (other p))
    ] refl

module _ (s : Supply) (policy : Policy) (script : Script) (w : KernelState) (trace : Text) (c : Checker) (es : List Entry) (rest : Text) (h : HasRead s policy script w trace c es rest) where
  pub stopped : (rest ≡ [] → ⊥) → (number : ℕ) → number ≡ length es + 1 → (fault : TraceFault) → IsStop s policy script c rest number fault → IsFault s policy w script trace fault
  stopped some number count (At line want shown) stop =
      let k = stop.1 w es h.stands in (
        record {
          before = es;
          legal = h.stands.run.legal;
          rest = rest;
          split = h.split;
          some = some;
          number = stop.0 ∙ count;
          wrong = k.wrong;
          wanted = k.wanted;
          text = k.words;
        },
        spells_none s policy script w trace c es rest h some k.wrong,
      )
  stopped some number count Memory stop = tt
