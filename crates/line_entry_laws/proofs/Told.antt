-- The line of an entry tells event, name, touches, version and answer.
use Rattle.std.proofs.Common.{◌≡◌, ℕ, ◌<◌, ◌≤◌, ◌==◌, ◌^◌, Bool, true, false, if◌then◌else◌, List, [], ◌∷◌, ◌++◌, length, get_or, take, decimal, refl, sym, ap, ◌∙◌, subst, arith, append_assoc, length-append}
use Rattle.std.specs.List.{flat_map, list_all}
use Rattle.std.specs.Int.{IsInRange}
use Rattle.std.proofs.lemmas.List.{append-nil}
use Rattle.base_types.specs.Replies.{reply_number}
use Rattle.base_types.specs.Touches.{AllTouches}
use Rattle.base_types.specs.declared.capabilities.Right.{Right}
use Rattle.base_types.specs.declared.capabilities.Right.TheVariants.{Read as ReadRight, Write, Invoke, Map, Copy, Snapshot, Control, Stabilise}
use Rattle.base_types.specs.declared.histories.Answer.{Answer}
use Rattle.base_types.specs.declared.histories.Answer.TheVariants.{Quiet, Hop, Reply as Replied, Read, Print as Printed}
use Rattle.base_types.specs.declared.histories.Entry.{Entry}
use Rattle.base_types.specs.declared.histories.Event.{Event}
use Rattle.base_types.specs.declared.histories.Event.TheVariants.{Birth, Step, Snap, Stable, Tried}
use Rattle.base_types.specs.declared.histories.Touch.{Touch}
use Rattle.base_types.specs.declared.instructions.Reply.{Reply}
use Rattle.base_types.specs.declared.instructions.Reply.TheVariants.{Ok, NoSlot, WrongKind, NoPage, Circle, Overlap, ListFull, NoCaller, NoEntry, Deep, NoNumber, NoRegion, Denied}
use Rattle.line_entries.specs.model_kernel.State.{Text, AtlasState}
use Rattle.line_entries.specs.line_text.Lines.{name_in, word}
use Rattle.line_entries.specs.Entries.{touch_text, touches_text, answer_text, event_word, details, entry_text}
use Rattle.line_entry_laws.specs.Telling.{HasCleanNames, IsAnswered, IsWritten, SameTouch, SameTouches, SameDetails, TellsSame}
use Rattle.line_entry_laws.proofs.Splits.{Lacks, Lacks-append, split, no_split, Lacks-name, Lacks-decimal, decimal_same}

-- EVENTS

event_lacks : (v : Event) → Lacks 32 (event_word v)
event_lacks Birth = Lacks-name 32 (event_word Birth) refl refl
event_lacks Step = Lacks-name 32 (event_word Step) refl refl
event_lacks Snap = Lacks-name 32 (event_word Snap) refl refl
event_lacks Stable = Lacks-name 32 (event_word Stable) refl refl
event_lacks Tried = Lacks-name 32 (event_word Tried) refl refl

-- the second and the third letter tell the event
event_of : ℕ → ℕ → Event
event_of second third =
    if second == 105 then Birth
    else if second == 110 then Snap
    else if second == 114 then Tried
    else if third == 101 then Step
    else Stable

pub event_same : (v w : Event) → event_word v ≡ event_word w → v ≡ w
unfolding event_of
event_same v w e = sym (back v) ∙ ap (λ (t : Text). event_of (get_or t 1 0) (get_or t 2 0)) e ∙ back w
  where
    back : (v : Event) → event_of (get_or (event_word v) 1 0) (get_or (event_word v) 2 0) ≡ v
    back Birth = refl
    back Step = refl
    back Snap = refl
    back Stable = refl
    back Tried = refl

-- ANSWERS

reply_of : ℕ → Reply
reply_of n =
    if n == 0 then Ok else if n == 1 then NoSlot else if n == 2 then WrongKind else if n == 3 then NoPage else if n == 4 then Circle
    else if n == 5 then Overlap else if n == 6 then ListFull else if n == 7 then NoCaller else if n == 8 then NoEntry else if n == 9 then Deep
    else if n == 10 then NoNumber else if n == 11 then NoRegion else if n == 16 then Denied ReadRight else if n == 17 then Denied Write
    else if n == 18 then Denied Invoke else if n == 19 then Denied Map else if n == 20 then Denied Copy else if n == 21 then Denied Snapshot
    else if n == 22 then Denied Control else Denied Stabilise

reply_same : (r s : Reply) → reply_number r ≡ reply_number s → r ≡ s
unfolding reply_of
reply_same r s e = sym (back r) ∙ ap reply_of e ∙ back s
  where
    back_right : (x : Right) → reply_of (reply_number (Denied x)) ≡ Denied x
    back_right ReadRight = refl
    back_right Write = refl
    back_right Invoke = refl
    back_right Map = refl
    back_right Copy = refl
    back_right Snapshot = refl
    back_right Control = refl
    back_right Stabilise = refl

    back : (r : Reply) → reply_of (reply_number r) ≡ r
    back Ok = refl
    back NoSlot = refl
    back WrongKind = refl
    back NoPage = refl
    back Circle = refl
    back Overlap = refl
    back ListFull = refl
    back NoCaller = refl
    back NoEntry = refl
    back Deep = refl
    back NoNumber = refl
    back NoRegion = refl
    back (Denied x) = back_right x

reply_small : (r : Reply) → reply_number r < 2 ^ 64
reply_small Ok = omega arith
reply_small NoSlot = omega arith
reply_small WrongKind = omega arith
reply_small NoPage = omega arith
reply_small Circle = omega arith
reply_small Overlap = omega arith
reply_small ListFull = omega arith
reply_small NoCaller = omega arith
reply_small NoEntry = omega arith
reply_small Deep = omega arith
reply_small NoNumber = omega arith
reply_small NoRegion = omega arith
reply_small (Denied x) = right_small x
  where
    right_small : (x : Right) → reply_number (Denied x) < 2 ^ 64
    right_small ReadRight = omega arith
    right_small Write = omega arith
    right_small Invoke = omega arith
    right_small Map = omega arith
    right_small Copy = omega arith
    right_small Snapshot = omega arith
    right_small Control = omega arith
    right_small Stabilise = omega arith

abbrev letter : ℕ → Text → ℕ
letter i t = get_or t i 0

-- the letters of the words differ: q h, q r(eply), r(ead), p
answer_same : (x y : Answer) → IsAnswered x → IsAnswered y → answer_text x ≡ answer_text y → x ≡ y
unfolding answer_text word
answer_same Quiet Quiet h k e = refl
answer_same Quiet Hop h k e = absurd (omega (arith, ap (letter 0) e))
answer_same Quiet (Replied s) h k e = absurd (omega (arith, ap (letter 0) e))
answer_same Quiet (Read w) h k e = absurd (omega (arith, ap (letter 0) e))
answer_same Quiet (Printed w) h k e = absurd (omega (arith, ap (letter 0) e))
answer_same Hop Quiet h k e = absurd (omega (arith, ap (letter 0) e))
answer_same Hop Hop h k e = refl
answer_same Hop (Replied s) h k e = absurd (omega (arith, ap (letter 0) e))
answer_same Hop (Read w) h k e = absurd (omega (arith, ap (letter 0) e))
answer_same Hop (Printed w) h k e = absurd (omega (arith, ap (letter 0) e))
answer_same (Replied r) Quiet h k e = absurd (omega (arith, ap (letter 0) e))
answer_same (Replied r) Hop h k e = absurd (omega (arith, ap (letter 0) e))
answer_same (Replied r) (Replied s) h k e =
    let tail : decimal (reply_number r) ≡ decimal (reply_number s) = cc in
    ap Replied (reply_same r s (decimal_same (reply_number r) (reply_number s) (reply_small r) (reply_small s) tail))
answer_same (Replied r) (Read w) h k e = absurd (omega (arith, ap (letter 2) e))
answer_same (Replied r) (Printed w) h k e = absurd (omega (arith, ap (letter 0) e))
answer_same (Read v) Quiet h k e = absurd (omega (arith, ap (letter 0) e))
answer_same (Read v) Hop h k e = absurd (omega (arith, ap (letter 0) e))
answer_same (Read v) (Replied s) h k e = absurd (omega (arith, ap (letter 2) e))
answer_same (Read v) (Read w) h k e = let tail : decimal v ≡ decimal w = cc in ap Read (decimal_same v w h k tail)
answer_same (Read v) (Printed w) h k e = absurd (omega (arith, ap (letter 0) e))
answer_same (Printed v) Quiet h k e = absurd (omega (arith, ap (letter 0) e))
answer_same (Printed v) Hop h k e = absurd (omega (arith, ap (letter 0) e))
answer_same (Printed v) (Replied s) h k e = absurd (omega (arith, ap (letter 0) e))
answer_same (Printed v) (Read w) h k e = absurd (omega (arith, ap (letter 0) e))
answer_same (Printed v) (Printed w) h k e = let tail : decimal v ≡ decimal w = cc in ap Printed (decimal_same v w h k tail)

-- TOUCHES

abbrev mark_of : Bool → ℕ
mark_of wrote = if wrote then 58 else 61

marks_same : (v w : Bool) → mark_of v ≡ mark_of w → v ≡ w
marks_same true true e = refl
marks_same true false e = absurd (omega (arith, e))
marks_same false true e = absurd (omega (arith, e))
marks_same false false e = refl

-- a mark is no byte of a name, and neither a comma nor a blank
lacks_mark : (w : Bool) (t : Text) → list_all (Rattle.line_entries.specs.model_kernel.Soundness.is_name_byte) t ≡ true → Lacks (mark_of w) t
lacks_mark true t h = Lacks-name 58 t refl h
lacks_mark false t h = Lacks-name 61 t refl h

module _ (a : AtlasState) (clean : HasCleanNames a) where
  touch_same : (t u : Touch) → t.version < 2 ^ 64 → u.version < 2 ^ 64 → touch_text a t ≡ touch_text a u → SameTouch a t u
  unfolding touch_text
  touch_same t u small fits e =
      let parts = split (mark_of t.wrote) (mark_of u.wrote) (name_in a t.entity) (name_in a u.entity) (decimal t.version) (decimal u.version)
      (lacks_mark u.wrote (name_in a t.entity) (clean t.entity)) (lacks_mark t.wrote (name_in a u.entity) (clean u.entity)) e in
      record { name = parts.0; wrote = marks_same t.wrote u.wrote parts.1; version = decimal_same t.version u.version small fits parts.2 }

  touch_lacks : (b : ℕ) (t : Touch) → ((c : ℕ) → IsInRange 48 57 c → c ≡ b → ⊥) → Lacks b (name_in a t.entity) → ((mark_of t.wrote) ≡ b → ⊥) → t.version < 2 ^ 64 → Lacks b (touch_text a t)
  unfolding touch_text
  touch_lacks b t other name mark fits = Lacks-append b (name_in a t.entity) ((mark_of t.wrote) ∷ decimal t.version) name (mark, Lacks-decimal b t.version other fits)

  no_mark : (b : ℕ) (w : Bool) → (58 ≡ b → ⊥) → (61 ≡ b → ⊥) → (mark_of w) ≡ b → ⊥
  no_mark b true h k = h
  no_mark b false h k = k

  no_comma : (t : Touch) → t.version < 2 ^ 64 → Lacks 44 (touch_text a t)
  no_comma t fits = touch_lacks 44 t (λ c digit e. omega (arith, digit.0)) (Lacks-name 44 (name_in a t.entity) refl (clean t.entity)) (no_mark 44 t.wrote (omega arith) (omega arith)) fits

  no_blank : (t : Touch) → t.version < 2 ^ 64 → Lacks 32 (touch_text a t)
  no_blank t fits = touch_lacks 32 t (λ c digit e. omega (arith, digit.0)) (Lacks-name 32 (name_in a t.entity) refl (clean t.entity)) (no_mark 32 t.wrote (omega arith) (omega arith)) fits

  some_text : (t : Touch) → 0 < length (touch_text a t)
  unfolding touch_text
  some_text t = omega (arith, length-append (name_in a t.entity) ((mark_of t.wrote) ∷ decimal t.version))

  abbrev more : List Touch → Text
  more ts = flat_map (λ u. 44 ∷ touch_text a u) ts

  -- one touch, and those behind it
  rest_same : (t u : Touch) (ts us : List Touch) → AllTouches (λ t. t.version < 2 ^ 64) (t ∷ ts) → AllTouches (λ t. t.version < 2 ^ 64) (u ∷ us)
      → touch_text a t ++ more ts ≡ touch_text a u ++ more us → SameTouches a (t ∷ ts) (u ∷ us)
  rest_same t u [] [] h k e =
      (touch_same t u h.0 k.0 (sym (append-nil (touch_text a t)) ∙ e ∙ append-nil (touch_text a u)), tt)
  rest_same t u [] (v ∷ us) h k e =
      absurd (no_split 44 (touch_text a t) (touch_text a u) (touch_text a v ++ more us) (no_comma t h.0) (sym (append-nil (touch_text a t)) ∙ e))
  rest_same t u (s ∷ ts) [] h k e =
      absurd (no_split 44 (touch_text a u) (touch_text a t) (touch_text a s ++ more ts) (no_comma u k.0) (sym (append-nil (touch_text a u)) ∙ sym e))
  rest_same t u (s ∷ ts) (v ∷ us) h k e =
      let parts = split 44 44 (touch_text a t) (touch_text a u) (touch_text a s ++ more ts) (touch_text a v ++ more us) (no_comma t h.0) (no_comma u k.0) e in
      (touch_same t u h.0 k.0 parts.0, rest_same s v ts us h.1 k.1 parts.2)

  touches_same : (ts us : List Touch) → AllTouches (λ t. t.version < 2 ^ 64) ts → AllTouches (λ t. t.version < 2 ^ 64) us
      → touches_text a ts ≡ touches_text a us → SameTouches a ts us
  unfolding touches_text
  touches_same [] [] h k e = tt
  touches_same [] (u ∷ us) h k e = absurd (omega (arith, some_text u, length-append (touch_text a u) (more us), ap length e))
  touches_same (t ∷ ts) [] h k e = absurd (omega (arith, some_text t, length-append (touch_text a t) (more ts), ap length e))
  touches_same (t ∷ ts) (u ∷ us) h k e = rest_same t u ts us h k e

  more_lacks : (ts : List Touch) → AllTouches (λ t. t.version < 2 ^ 64) ts → Lacks 32 (more ts)
  more_lacks [] h = tt
  more_lacks (t ∷ ts) h = ((λ (e : 44 ≡ 32). omega (arith, e)), Lacks-append 32 (touch_text a t) (more ts) (no_blank t h.0) (more_lacks ts h.1))

  touches_lack : (ts : List Touch) → AllTouches (λ t. t.version < 2 ^ 64) ts → Lacks 32 (touches_text a ts)
  unfolding touches_text
  touches_lack [] h = tt
  touches_lack (t ∷ ts) h = Lacks-append 32 (touch_text a t) (more ts) (no_blank t h.0) (more_lacks ts h.1)

  -- ENTRIES

  no_blank_in_name : (x : ℕ) → Lacks 32 (name_in a x)
  no_blank_in_name x = Lacks-name 32 (name_in a x) refl (clean x)

  all_of : (ts : List Touch) → length ts ≤ 3 → take 3 ts ≡ ts
  all_of [] h = refl
  all_of (t ∷ []) h = refl
  all_of (t ∷ u ∷ []) h = refl
  all_of (t ∷ u ∷ v ∷ []) h = refl
  all_of (t ∷ u ∷ v ∷ w ∷ ts) h = absurd (omega arith)

  touched_same : (e f : Entry) → IsWritten e → IsWritten f → touches_text a (take 3 e.touched) ≡ touches_text a (take 3 f.touched) → SameTouches a e.touched f.touched
  touched_same e f h k same =
      touches_same e.touched f.touched h.touches k.touches
      (ap (touches_text a) (sym (all_of e.touched h.few)) ∙ same ∙ ap (touches_text a) (all_of f.touched k.few))

  touched_lacks : (e : Entry) → IsWritten e → Lacks 32 (touches_text a (take 3 e.touched))
  touched_lacks e h = subst (λ (ts : List Touch). Lacks 32 (touches_text a ts)) (sym (all_of e.touched h.few)) (touches_lack e.touched h.touches)

  behind_name : (v : Event) (e f : Entry) → IsWritten e → IsWritten f
      → name_in a e.actor ++ details a e v ≡ name_in a f.actor ++ details a f v → (name_in a e.actor ≡ name_in a f.actor) × SameDetails a e f v
  unfolding word
  behind_name Birth e f h k same =
      let parts = split 32 32 (name_in a e.actor) (name_in a f.actor) (touches_text a (take 3 e.touched)) (touches_text a (take 3 f.touched)) (no_blank_in_name e.actor) (no_blank_in_name f.actor) same in
      (parts.0, touched_same e f h k parts.2)
  behind_name Step e f h k same =
      let parts = split 32 32 (name_in a e.actor) (name_in a f.actor) (touches_text a (take 3 e.touched) ++ 32 ∷ answer_text e.answer) (touches_text a (take 3 f.touched) ++ 32 ∷ answer_text f.answer) (no_blank_in_name e.actor) (no_blank_in_name f.actor) same in
      let further = split 32 32 (touches_text a (take 3 e.touched)) (touches_text a (take 3 f.touched)) (answer_text e.answer) (answer_text f.answer) (touched_lacks e h) (touched_lacks f k) parts.2 in
      (parts.0, (touched_same e f h k further.0, answer_same e.answer f.answer h.answer k.answer further.2))
  behind_name Snap e f h k same =
      let parts = split 32 32 (name_in a e.actor) (name_in a f.actor) (decimal e.version) (decimal f.version) (no_blank_in_name e.actor) (no_blank_in_name f.actor) same in
      (parts.0, decimal_same e.version f.version h.version k.version parts.2)
  behind_name Stable e f h k same = (sym (append-nil (name_in a e.actor)) ∙ same ∙ append-nil (name_in a f.actor), tt)
  behind_name Tried e f h k same =
      let parts = split 32 32 (name_in a e.actor) (name_in a f.actor) (decimal e.version) (decimal f.version) (no_blank_in_name e.actor) (no_blank_in_name f.actor) same in
      (parts.0, decimal_same e.version f.version h.version k.version parts.2)

  told : (e f : Entry) → IsWritten e → IsWritten f → entry_text a e ≡ entry_text a f → TellsSame a e f
  unfolding entry_text word
  told e f h k same =
      let regroup : (g : Entry) → event_word g.event ++ 32 ∷ (name_in a g.actor ++ details a g g.event) ≡ event_word g.event ++ (32 ∷ name_in a g.actor) ++ details a g g.event =
      λ g. sym (append_assoc (event_word g.event) (32 ∷ name_in a g.actor) (details a g g.event)) in
      let parts = split 32 32 (event_word e.event) (event_word f.event) (name_in a e.actor ++ details a e e.event) (name_in a f.actor ++ details a f f.event)
      (event_lacks e.event) (event_lacks f.event) (regroup e ∙ same ∙ sym (regroup f)) in
      let event = event_same e.event f.event parts.0 in
      let behind = behind_name e.event e f h k (parts.2 ∙ ap (λ (v : Event). name_in a f.actor ++ details a f v) (sym event)) in
      record { event = event; name = behind.0; details = behind.1 }

pub TellsSame-text : (a : AtlasState) (e f : Entry) → HasCleanNames a → IsWritten e → IsWritten f → entry_text a e ≡ entry_text a f → TellsSame a e f
TellsSame-text a e f clean h k same = told a clean e f h k same
