-- The counts of printed values after a history.
use Rattle.std.proofs.Common.{◌≡◌, ℕ, ◌+◌, ◌≤◌, ◌^◌, Bool, true, false, if◌then◌else◌, nat_lt, List, [], ◌∷◌, Some, option_map, count_by, min, cond, refl, sym, ap, subst, ◌∙◌, arith}
use Rattle.std.proofs.lemmas.List.Sums.{sum_by-cons}
use Rattle.std.proofs.lemmas.Bool.Decides.{nat_tests}
use Rattle.base_types.specs.declared.histories.Entry.{Entry}
use Rattle.base_types.specs.declared.histories.Event.{Event}
use Rattle.base_types.specs.declared.histories.Event.TheVariants.{Birth, Step, Snap as SnapEvent, Stable, Tried}
use Rattle.model_kernel.specs.State.{Supply, KernelState}
use Rattle.model_kernel.specs.Changes.{Change, carried}
use Rattle.model_kernel.specs.Steps.{running, numbered_change, step_change, step}
use Rattle.model_kernel.specs.Scripts.{Script}
use Rattle.model_kernel.specs.Births.{next_birth_change, next_birth}
use Rattle.model_kernel.specs.Parts.{is_event, within, writes_within, IsClosed, part_of, after_entry, after, IsNext, IsPlayed}
use Rattle.model_kernel.specs.Histories.{Policy, IsLegalRun, event_of, by_event}
use Rattle.model_kernel.specs.Printing.{printed_in, prints, NamesLoci}
use Rattle.model_kernel.proofs.Basics.{some_of_map, and_left}
use Rattle.model_kernel.proofs.Tallies.{Counts, one_more, names_after, printed_next}
use Rattle.model_kernel.proofs.StepTallies.{step_counts}
use Rattle.model_kernel.proofs.BirthTallies.{birth_counts}
use Rattle.model_kernel.proofs.LegalRuns.{legal_replay}

-- what an entry does to counts, from w to v
pub record IsCounted (w : KernelState) (e : Entry) (v : KernelState) : Type 0 where
  pub names : NamesLoci v
  pub printed : (x : ℕ) → printed_in (v x).cell ≡ (if prints x e then one_more (printed_in (w x).cell) else printed_in (w x).cell)

-- of an event that makes a change which counts
counted_by : (event : Event) (w : KernelState) (names : NamesLoci w) (c : ℕ × Change) → Counts w names.atlas c.0 c.1.answer c.1.accesses → IsCounted w (carried w event c.0 c.1).0 (carried w event c.0 c.1).1
counted_by event w names c counts = record {
  names = names_after w names c.0 c.1.answer c.1.accesses counts;
  printed = printed_next w names c.0 c.1.answer c.1.accesses counts;
}

step_counted : (s : Supply) (me : ℕ) (w : KernelState) (names : NamesLoci w) (r : Entry × KernelState) → step s me w ≡ Some r → IsCounted w r.0 r.1
unfolding step_change
step_counted s me w names r is =
    let g = some_of_map (λ (c : ℕ × Change). carried w Step c.0 c.1) (step_change s me w) r is in
    let l = some_of_map (numbered_change s me w) (running (w me).cell) g.0 g.1 in
    let counts = subst (λ (c : ℕ × Change). Counts w names.atlas c.0 c.1.answer c.1.accesses) l.2 (step_counts s me w names l.0 l.1) in
    subst (λ (r : Entry × KernelState). IsCounted w r.0 r.1) g.2 (counted_by Step w names g.0 counts)

birth_counted : (s : Supply) (script : Script) (w : KernelState) (names : NamesLoci w) (r : Entry × KernelState) → next_birth s script w ≡ Some r → IsCounted w r.0 r.1
birth_counted s script w names r is =
    let g = some_of_map (λ (c : ℕ × Change). carried w Birth c.0 c.1) (next_birth_change s script w) r is in
    subst (λ (r : Entry × KernelState). IsCounted w r.0 r.1) g.2 (counted_by Birth w names g.0 (birth_counts s w names script g.0 g.1))

module _ (s : Supply) (script : Script) where
  event_counted : (ev : Event) (actor : ℕ) (w : KernelState) (names : NamesLoci w) (r : Entry × KernelState) → by_event s script ev actor w ≡ Some r → IsCounted w r.0 r.1
  event_counted Birth actor w names r is = birth_counted s script w names r is
  event_counted Step actor w names r is = step_counted s actor w names r is
  event_counted SnapEvent actor w names r is = cc
  event_counted Stable actor w names r is = cc
  event_counted Tried actor w names r is = cc

  after_event : (w : KernelState) (e : Entry) → is_event e.event ≡ true → (r : Entry × KernelState) → event_of s script e w ≡ Some r → after_entry (event_of s script) w e ≡ r.1
  after_event w e ev r is = rw (ev, is) refl

  entry_counted : (w : KernelState) (e : Entry) (names : NamesLoci w) → is_event e.event ≡ true → IsNext (event_of s script) w e → IsCounted w e (after_entry (event_of s script) w e)
  entry_counted w e names ev next =
      let made : option_map (λ (r : Entry × KernelState). r.0) (event_of s script e w) ≡ Some e = rw ev at next in
      let r = some_of_map (λ (r : Entry × KernelState). r.0) (event_of s script e w) e made in
      let now = after_event w e ev r.0 r.1 in
      subst (λ (v : KernelState). IsCounted w e v) (sym now) (subst (λ (k : Entry). IsCounted w k r.0.1) r.2 (event_counted e.event e.actor w names r.0 r.1))

  -- all entries are events
  abbrev pub AllEvents : List Entry → Type 0
  AllEvents [] = Unit {0}
  AllEvents (e ∷ es) = (is_event e.event ≡ true) × AllEvents es

  capped : (m n k : ℕ) (b : Bool) → n ≤ m → min m ((if b then (if nat_lt n m then n + 1 else n) else n) + k) ≡ min m (n + (cond b 1 0 + k))
  capped m n k true h = grind (arith, nat_tests)
  capped m n k false h = grind arith

  -- over a history of events
  pub printed_over : (es : List Entry) (w : KernelState) → AllEvents es → NamesLoci w → IsPlayed (event_of s script) w es → (x : ℕ)
      → printed_in (after (event_of s script) w es x).cell ≡ min (2 ^ 62) (printed_in (w x).cell + count_by (prints x) es)
  printed_over [] w events names played x = (let low = names.small x in omega arith)
  printed_over (e ∷ es) w events names played x =
      let c = entry_counted w e names events.0 played.0 in
      let rest = printed_over es (after_entry (event_of s script) w e) events.1 c.names played.1 x in
      let count : count_by (prints x) (e ∷ es) ≡ cond (prints x e) 1 0 + count_by (prints x) es = sum_by-cons (λ e. cond (prints x e) 1 0) e es in
      rest ∙ ap (λ n. min (2 ^ 62) (n + count_by (prints x) es)) (c.printed x) ∙ capped (2 ^ 62) (printed_in (w x).cell) (count_by (prints x) es) (prints x e) (names.small x)
      ∙ ap (λ n. min (2 ^ 62) (printed_in (w x).cell + n)) (sym count)

-- the entries of a part are events
part_events : (s : Supply) (script : Script) (p : ℕ → ℕ) (es : List Entry) → AllEvents s script (part_of p es)
part_events s script p [] = tt
part_events s script p (e ∷ es) =
    let rest = part_events s script p es in
    elim (within p e) as (λ b. within p e ≡ b → AllEvents s script (cond b (e ∷ part_of p es) (part_of p es))) [
      | true ↦ λ is. (and_left (is_event e.event) (writes_within p e.touched) is, rest)
      | false ↦ λ is. rest
    ] refl

-- over a closed part of a legal run
pub legal_printed : (s : Supply) (policy : Policy) (script : Script) (w : KernelState) (es : List Entry) (p : ℕ → ℕ) (x : ℕ) → IsLegalRun s policy w script es → IsClosed p es → NamesLoci w
    → printed_in (after (event_of s script) w (part_of p es) x).cell ≡ min (2 ^ 62) (printed_in (w x).cell + count_by (prints x) (part_of p es))
legal_printed s policy script w es p x legal closed names = printed_over s script (part_of p es) w (part_events s script p es) names (legal_replay s policy script w es p legal closed) x
