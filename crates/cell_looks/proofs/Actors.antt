-- Whom the entry of an event names.
use Rattle.std.proofs.Common.{◌≡◌, ◌≢◌, ℕ, ◌<◌, ◌==◌, if◌then◌else◌, List, refl, ap, arith, eq-eqb, ne_eqb}
use Rattle.base_types.specs.declared.histories.Answer.{Answer}
use Rattle.base_types.specs.declared.histories.Entry.{Entry}
use Rattle.base_types.specs.declared.histories.Event.{Event}
use Rattle.cell_states.specs.model_kernel.Changes.{Access}
use Rattle.cell_states.specs.model_kernel.State.{EntityState, KernelState, NotBorn}
use Rattle.cell_states.specs.data_stamps.Stamps.{component}
use Rattle.cell_states.specs.cell_clocks.Clocks.{HasClock, CarriesTwo}
use Rattle.cell_states.specs.cell_clocks.declared.Clock.{Clock}

at_clock : Clock → EntityState
at_clock c = record { cell = NotBorn; version = c.version; stamp = component c.stamp }

-- a state that has two clocks
at_clocks : Clock → Clock → KernelState
at_clocks a b x = if x == a.entity then at_clock a else at_clock b

has_clock : (w : KernelState) (c : Clock) → w c.entity ≡ at_clock c → HasClock w c
unfolding at_clock
has_clock w c is = record { version = ap (λ (e : EntityState). e.version) is; stamp = λ y. ap (λ (e : EntityState). e.stamp y) is }

has_first : (a b : Clock) → HasClock (at_clocks a b) a
unfolding at_clocks
has_first a b = has_clock (at_clocks a b) a (ap (λ t. if t then at_clock a else at_clock b) (eq-eqb a.entity a.entity refl))

has_second : (a b : Clock) → b.entity ≢ a.entity → HasClock (at_clocks a b) b
unfolding at_clocks
has_second a b apart = has_clock (at_clocks a b) b (ap (λ t. if t then at_clock a else at_clock b) (ne_eqb b.entity a.entity apart))

-- Two clocks of different entities are had by a state, so that the entry names the actor.
pub acts_two : (event : Event) (actor : ℕ) (answer : Answer) (accesses : List Access) (a b c d : Clock) (e : Entry) → a.entity < b.entity
    → ((w : KernelState) → HasClock w a → HasClock w b → CarriesTwo event actor answer w accesses e c d) → e.actor ≡ actor
acts_two event actor answer accesses a b c d e lt carries =
    let apart : b.entity ≢ a.entity = λ same. absurd (omega (arith, lt, same)) in
    ap (λ (e : Entry). e.actor) (carries (at_clocks a b) (has_first a b) (has_second a b apart)).entry
