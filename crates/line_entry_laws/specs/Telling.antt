-- What the line of an entry tells.
use Rattle.std.specs.Prelude.{◌≡◌, ℕ, ◌<◌, ◌≤◌, ◌^◌, true, List, [], ◌∷◌, length}
use Rattle.std.specs.List.{list_all}
use Rattle.base_types.specs.Touches.{AllTouches}
use Rattle.base_types.specs.declared.histories.Answer.{Answer}
use Rattle.base_types.specs.declared.histories.Answer.TheVariants.{Quiet, Hop, Reply as Replied, Read, Print as Printed}
use Rattle.base_types.specs.declared.histories.Entry.{Entry}
use Rattle.base_types.specs.declared.histories.Event.{Event}
use Rattle.base_types.specs.declared.histories.Event.TheVariants.{Birth, Step, Snap, Stable, Tried}
use Rattle.base_types.specs.declared.histories.Touch.{Touch}
use Rattle.line_entries.specs.model_kernel.Soundness.{is_name_byte}
use Rattle.line_entries.specs.model_kernel.State.{AtlasState}
use Rattle.line_entries.specs.line_text.Lines.{name_in}

-- names have letters, digits, `_`, `-` and `.` alone
abbrev pub HasCleanNames : AtlasState → Type 0
HasCleanNames a = (x : ℕ) → list_all is_name_byte (name_in a x) ≡ true

abbrev pub IsAnswered : Answer → Type 0
IsAnswered Quiet = Unit {0}
IsAnswered Hop = Unit {0}
IsAnswered (Replied r) = Unit {0}
IsAnswered (Read v) = v < 2 ^ 64
IsAnswered (Printed v) = v < 2 ^ 64

-- numbers have the range of their type, and three entities at most are touched
pub record IsWritten (e : Entry) : Type 0 where
  pub few : length e.touched ≤ 3
  pub touches : AllTouches (λ t. t.version < 2 ^ 64) e.touched
  pub version : e.version < 2 ^ 64
  pub answer : IsAnswered e.answer

-- entities of one name, both written or both read, with one version
pub record SameTouch (a : AtlasState) (t u : Touch) : Type 0 where
  pub name : name_in a t.entity ≡ name_in a u.entity
  pub wrote : t.wrote ≡ u.wrote
  pub version : t.version ≡ u.version

abbrev pub SameTouches : AtlasState → List Touch → List Touch → Type 0
SameTouches a [] [] = Unit {0}
SameTouches a [] (u ∷ us) = ⊥
SameTouches a (t ∷ ts) [] = ⊥
SameTouches a (t ∷ ts) (u ∷ us) = SameTouch a t u × SameTouches a ts us

-- what the line of an event tells beside the name
abbrev pub SameDetails : AtlasState → Entry → Entry → Event → Type 0
SameDetails a e f Birth = SameTouches a e.touched f.touched
SameDetails a e f Step = SameTouches a e.touched f.touched × (e.answer ≡ f.answer)
SameDetails a e f Snap = e.version ≡ f.version
SameDetails a e f Stable = Unit {0}
SameDetails a e f Tried = e.version ≡ f.version

pub record TellsSame (a : AtlasState) (e f : Entry) : Type 0 where
  pub event : e.event ≡ f.event
  pub name : name_in a e.actor ≡ name_in a f.actor
  pub details : SameDetails a e f e.event
