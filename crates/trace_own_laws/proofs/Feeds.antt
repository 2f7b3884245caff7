-- The line feeds of a trace: one for each entry.
use Rattle.std.proofs.Common.{◌≡◌, ℕ, zero, suc, ◌+◌, ◌/◌, ◌%◌, ◌==◌, nat_lt, Bool, true, false, if◌then◌else◌, IsTrue, cond, List, [], ◌∷◌, ◌++◌, length, take, count_by, codes, decimal, refl, ap, ◌∙◌, append_assoc, zero-add, arith}
use Rattle.std.specs.Fmt.{digit_glyph, digits, digits_onto}
use Rattle.std.specs.List.{All, flat_map}
use Rattle.std.proofs.lemmas.Bool.Decides.{nat_tests}
use Rattle.std.proofs.lemmas.List.Elements.{All-head, All-tail, All-take}
use Rattle.std.proofs.lemmas.List.Sums.{sum_by-append, sum_by-cons}
use Rattle.base_types.specs.Replies.{reply_number}
use Rattle.base_types.specs.declared.histories.Answer.{Answer}
use Rattle.base_types.specs.declared.histories.Answer.TheVariants.{Quiet, Hop, Reply as Replied, Read, Print as Printed}
use Rattle.base_types.specs.declared.histories.Entry.{Entry}
use Rattle.base_types.specs.declared.histories.Event.{Event}
use Rattle.base_types.specs.declared.histories.Event.TheVariants.{Birth, Step, Snap, Stable, Tried}
use Rattle.base_types.specs.declared.histories.Touch.{Touch}
use Rattle.trace_checker.proofs.trace_actor_laws_lemmas.Knowing.{IsKnown, actor_left, atlas_of, known_next, known_run, touched_left}
use Rattle.trace_checker.proofs.model_sound_runs_lemmas.Standing.{IsStanding, standing_next}
use Rattle.trace_checker.specs.model_sound_runs.Kinds.{NamesNoLocus}
use Rattle.trace_checker.specs.script_types.Rules.{IsScript}
use Rattle.trace_checker.proofs.line_entry_laws_lemmas.Splits.{Lacks, Lacks-append, Lacks-name}
use Rattle.trace_checker.proofs.trace_facts_lemmas.Names.{word_of}
use Rattle.trace_checker.specs.trace_facts.Traces.{Spells, spelled}
use Rattle.trace_checker.specs.line_entries.Entries.{answer_text, details, entry_line, entry_text, event_word, touch_text, touches_text}
use Rattle.trace_checker.specs.model_kernel.Histories.{IsLegalFrom, Policy, Run, goes_on, start_run}
use Rattle.trace_checker.specs.model_kernel.Scripts.{Script}
use Rattle.trace_checker.specs.model_kernel.Soundness.{IsSound, IsSoundAtlas, is_born}
use Rattle.trace_checker.specs.model_kernel.State.{AtlasState, KernelState, Supply, Text}
use Rattle.trace_checker.specs.line_text.Lines.{name_in, word}
use Rattle.trace_own_laws.proofs.Lasting.{names_here}

-- NUMBERS

-- a digit is no line feed
digit_other : (d : ℕ) → digit_glyph false d ≡ 10 → ⊥
digit_other d = elim (nat_lt d 10) as (λ b. (if b then 48 + d else 87 + d) ≡ 10 → ⊥) [ true ↦ λ e. omega (arith, e) | false ↦ λ e. omega (arith, e) ]

digits_free : (k n : ℕ) (behind : Text) → Lacks 10 behind → Lacks 10 (digits_onto k 10 false n behind)
digits_free zero n behind free = free
digits_free (suc k) n behind free =
    elim (n / 10 == 0) as (λ b. Lacks 10 (if b then digit_glyph false (n % 10) ∷ behind else digits_onto k 10 false (n / 10) (digit_glyph false (n % 10) ∷ behind))) [
      | true ↦ (digit_other (n % 10), free)
      | false ↦ digits_free k (n / 10) (digit_glyph false (n % 10) ∷ behind) (digit_other (n % 10), free)
    ]

-- nor has a number one
decimal_free : (n : ℕ) → Lacks 10 (decimal n)
unfolding digits
decimal_free n = digits_free 64 n [] tt

-- A LINE

module _ (a : AtlasState) (sound : IsSoundAtlas a) where
  abbrev IsOfBorn : Touch → Type 0
  IsOfBorn t = IsTrue (is_born a t.entity)

  abbrev mark_of : Bool → ℕ
  mark_of wrote = if wrote then 58 else 61

  mark_other : (wrote : Bool) → mark_of wrote ≡ 10 → ⊥
  mark_other true = λ (e : 58 ≡ 10). omega (arith, e)
  mark_other false = λ (e : 61 ≡ 10). omega (arith, e)

  touch_free : (t : Touch) → IsOfBorn t → Lacks 10 (touch_text a t)
  unfolding touch_text
  touch_free t born = Lacks-append 10 (name_in a t.entity) _ (word_of a sound t.entity born).feed (mark_other t.wrote, decimal_free t.version)

  more_free : (ts : List Touch) → All IsOfBorn ts → Lacks 10 (flat_map (λ u. 44 ∷ touch_text a u) ts)
  more_free [] all = tt
  more_free (t ∷ ts) all = ((λ (e : 44 ≡ 10). omega (arith, e)), Lacks-append 10 (touch_text a t) _ (touch_free t (All-head IsOfBorn t ts all)) (more_free ts (All-tail IsOfBorn t ts all)))

  touches_free : (ts : List Touch) → All IsOfBorn ts → Lacks 10 (touches_text a ts)
  unfolding touches_text
  touches_free [] all = tt
  touches_free (t ∷ ts) all = Lacks-append 10 (touch_text a t) _ (touch_free t (All-head IsOfBorn t ts all)) (more_free ts (All-tail IsOfBorn t ts all))

  word_free : (t : Text) → Lacks 10 t → Lacks 10 (word t)
  unfolding word
  word_free t free = ((λ (e : 32 ≡ 10). omega (arith, e)), free)

  answer_free : (r : Answer) → Lacks 10 (answer_text r)
  unfolding answer_text
  answer_free Quiet = Lacks-name 10 (codes "quiet") refl refl
  answer_free Hop = Lacks-name 10 (codes "hop") refl refl
  answer_free (Replied r) = Lacks-append 10 (codes "reply") _ (Lacks-name 10 (codes "reply") refl refl) (word_free _ (decimal_free (reply_number r)))
  answer_free (Read v) = Lacks-append 10 (codes "read") _ (Lacks-name 10 (codes "read") refl refl) (word_free _ (decimal_free v))
  answer_free (Printed v) = Lacks-append 10 (codes "print") _ (Lacks-name 10 (codes "print") refl refl) (word_free _ (decimal_free v))

  event_free : (v : Event) → Lacks 10 (event_word v)
  event_free Birth = Lacks-name 10 (event_word Birth) refl refl
  event_free Step = Lacks-name 10 (event_word Step) refl refl
  event_free Snap = Lacks-name 10 (event_word Snap) refl refl
  event_free Stable = Lacks-name 10 (event_word Stable) refl refl
  event_free Tried = Lacks-name 10 (event_word Tried) refl refl

  details_free : (e : Entry) → All IsOfBorn e.touched → (v : Event) → Lacks 10 (details a e v)
  details_free e all Birth = word_free _ (touches_free (take 3 e.touched) (All-take IsOfBorn 3 e.touched all))
  details_free e all Step = Lacks-append 10 (word (touches_text a (take 3 e.touched))) _ (word_free _ (touches_free (take 3 e.touched) (All-take IsOfBorn 3 e.touched all))) (word_free _ (answer_free e.answer))
  details_free e all Snap = word_free _ (decimal_free e.version)
  details_free e all Stable = tt
  details_free e all Tried = word_free _ (decimal_free e.version)

  text_free : (e : Entry) → IsTrue (is_born a e.actor) → All IsOfBorn e.touched → Lacks 10 (entry_text a e)
  unfolding entry_text
  text_free e actor all =
      Lacks-append 10 (event_word e.event ++ word (name_in a e.actor)) _
      (Lacks-append 10 (event_word e.event) _ (event_free e.event) (word_free _ (word_of a sound e.actor actor).feed)) (details_free e all e.event)

-- COUNTING

-- how many line feeds
abbrev pub feeds : Text → ℕ
feeds t = count_by (λ b. b == 10) t

off : (c : ℕ) → (c ≡ 10 → ⊥) → (c == 10) ≡ false
off c h = grind (arith, nat_tests)

abbrev one_for : ℕ → ℕ
one_for c = cond (c == 10) 1 0

none_in : (t : Text) → Lacks 10 t → feeds t ≡ 0
none_in [] free = refl
none_in (c ∷ t) free =
    let other = ap (λ b. cond b 1 0) (off c free.0) in
    let none = none_in t free.1 in
    sum_by-cons one_for c t ∙ (λ i. other i + none i)

feeds_behind : (t behind : Text) → Lacks 10 t → feeds (t ++ behind) ≡ feeds behind
feeds_behind t behind free = sum_by-append one_for t behind ∙ ap (λ n. n + feeds behind) (none_in t free) ∙ zero-add (feeds behind)

-- a line has one, at its end
feeds_line : (a : AtlasState) (e : Entry) (behind : Text) → Lacks 10 (entry_text a e) → feeds (entry_line a e ++ behind) ≡ 1 + feeds behind
unfolding entry_line
feeds_line a e behind free = ap feeds (append_assoc (entry_text a e) (10 ∷ []) behind) ∙ feeds_behind (entry_text a e) (10 ∷ behind) free ∙ sum_by-cons one_for 10 behind

module _ (s : Supply) (policy : Policy) (script : Script) (rules : IsScript script) where
  -- as many as there are entries
  pub feeds-spelled : (r : Run) (es : List Entry) → IsStanding script r → IsKnown r → IsLegalFrom s policy script r es → feeds (spelled s script r es) ≡ length es
  feeds-spelled r [] h known legal = refl
  feeds-spelled r (e ∷ es) h known legal =
      let q = goes_on s script r e in
      let next = standing_next s policy script rules r e legal.0 h in
      let free = text_free (atlas_of q) (names_here script q next) e (actor_left s policy script rules r e h known legal.0) (touched_left s policy script rules r e h legal.0) in
      let rest = feeds-spelled q es next (known_next s policy script rules r e legal.0 h known) legal.1 in
      feeds_line (atlas_of q) e (spelled s script q es) free ∙ ap (λ n. 1 + n) rest ∙ (let n : 1 + length es ≡ length (e ∷ es) = omega arith in n)

-- a trace that spells a history has one for each entry
pub count_feeds : (s : Supply) (policy : Policy) (script : Script) (w : KernelState) (trace : Text) (lines : ℕ)
    → IsScript script → NamesNoLocus script w → IsSound (λ x. (w x).cell) → Spells s policy w script trace lines → feeds trace ≡ lines
count_feeds s policy script w trace lines rules kinds sound k =
    let start = known_run s policy script rules w [] kinds sound tt in
    ap feeds k.spells ∙ feeds-spelled s policy script rules (start_run w) k.history start.0 start.1 k.legal ∙ k.count
