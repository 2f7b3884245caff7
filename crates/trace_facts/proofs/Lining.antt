-- A text that goes on with the line of an entry, and how a trace is read on.
use Rattle.std.proofs.Common.{◌≡◌, ℕ, suc, ◌+◌, ◌<◌, ◌≤◌, ◌==◌, false, not, cond, List, [], ◌∷◌, ◌++◌, length, take, drop, Option, Some, None, IfSome, codes, refl, sym, ap, subst, ◌∙◌, ◌⊎◌, inl, inr, arith, append_assoc, append-nil}
use Rattle.std.specs.List.{before_first, position_or_len}
use Rattle.std.proofs.Math.Seq.{drop-append_seam, take-append_seam}
use Rattle.std.proofs.lemmas.Bool.Decides.{nat_tests}
use Rattle.std.proofs.lemmas.List.{append_cancel_left, length-append, take-append-drop}
use Rattle.base_types.specs.declared.histories.Entry.{Entry}
use Rattle.base_types.specs.declared.histories.Event.{Event}
use Rattle.base_types.specs.declared.histories.Event.TheVariants.{Birth, Step, Snap, Stable, Tried}
use Rattle.line_entry_laws.proofs.Splits.{Lacks, Lacks-append, Lacks-name}
use Rattle.line_entry_laws.specs.line_entries.Entries.{details, entry_line, entry_text, event_word}
use Rattle.trace_actor_laws.specs.model_sound_runs.Names.{IsFront}
use Rattle.trace_actor_laws.specs.plain_states.Plains.{atlas_of}
use Rattle.line_text.specs.model_kernel.Histories.{IsLegalFrom, IsLegalRun, May, Policy, Run, start_run}
use Rattle.line_text.specs.model_kernel.Scripts.{Script}
use Rattle.line_text.specs.model_kernel.State.{AtlasState, KernelState, Supply, Text}
use Rattle.trace_steps.proofs.model_run_laws_lemmas.Wishes.{legal_back}
use Rattle.line_text.specs.Lines.{name_in, word}
use Rattle.trace_steps.specs.Standing.{Stands}
use Rattle.trace_steps.specs.trace_step_facts.Standing.{run_of}
use Rattle.trace_steps.specs.declared.checker.Checker.{Checker}
use Rattle.trace_facts.specs.Traces.{BeginsWith, GoesOnWith, IsPlayed, Spells, first_line, line_in, names_after, spelled}
use Rattle.trace_facts.specs.Reading.{HasRead, ReadsOnAt, SpellsNone, StopsAt, Wants, named_words}
use Rattle.trace_actor_laws.proofs.model_sound_runs_lemmas.Lengths.{length_bound}
use Rattle.trace_facts.proofs.Joined.{spelled-append}
use Rattle.trace_facts.proofs.Actors.{event_lacks, is_word, names_then}
use Rattle.trace_facts.proofs.Parsing.{before_cut}

-- BYTES

pub some_line : (rest text line left end behind : Text) → line ≡ take (length text) rest → left ≡ drop (length text) rest → end ≡ take 1 left → behind ≡ drop 1 left → line ≡ text → end ≡ 10 ∷ [] → rest ≡ text ++ 10 ∷ behind
some_line rest text line left end behind front back first more same feed =
    let whole : rest ≡ line ++ left = sym (take-append-drop (length text) rest) ∙ (λ i. sym front i ++ sym back i) in
    let rest_is : left ≡ end ++ behind = sym (take-append-drop 1 left) ∙ (λ i. sym first i ++ sym more i) in
    whole ∙ (λ i. same i ++ rest_is i) ∙ ap (λ (t : Text). text ++ (t ++ behind)) feed

pub no_text : (rest text line left : Text) → line ≡ take (length text) rest → rest ≡ text ++ 10 ∷ left → line ≡ text
no_text rest text line left front is = front ∙ ap (take (length text)) is ∙ take-append_seam text (10 ∷ left)

pub no_end : (rest text left back end : Text) → back ≡ drop (length text) rest → end ≡ take 1 back → rest ≡ text ++ 10 ∷ left → end ≡ 10 ∷ []
no_end rest text left back end at first is = first ∙ ap (take 1) (at ∙ ap (drop (length text)) is ∙ drop-append_seam text (10 ∷ left))

off : (c b : ℕ) → (c ≡ b → ⊥) → (c == b) ≡ false
off c b h = grind (arith, nat_tests)

before_more : (b : ℕ) (xs ys : Text) → Lacks b xs → before_first (λ c. c == b) (xs ++ ys) ≡ xs ++ before_first (λ c. c == b) ys
before_more b [] ys h = refl
before_more b (x ∷ xs) ys h =
    let n = position_or_len (λ c. c == b) (xs ++ ys) in
    let more : 1 + n ≡ suc n = omega arith in
    let at : position_or_len (λ c. c == b) (x ∷ (xs ++ ys)) ≡ suc n = ap (λ t. cond (not t) (1 + n) 0) (off x b h.0) ∙ more in
    ap (λ m. take m (x ∷ (xs ++ ys))) at ∙ ap (λ (t : Text). x ∷ t) (before_more b xs ys h.1)

-- LINES

no_feed_in : (v : Event) → Lacks 10 (event_word v)
no_feed_in = event_lacks 10 (Lacks-name 10 (event_word Birth) refl refl) (Lacks-name 10 (event_word Step) refl refl) (Lacks-name 10 (event_word Snap) refl refl) (Lacks-name 10 (event_word Stable) refl refl) (Lacks-name 10 (event_word Tried) refl refl)

-- what stands behind the name is nothing, or stands behind a blank
detailed : (a : AtlasState) (e : Entry) (v : Event) → (details a e v ≡ []) ⊎ ((t : Text) × (details a e v ≡ 32 ∷ t))
unfolding word
detailed a e Birth = inr (_, refl)
detailed a e Step = inr (_, refl)
detailed a e Snap = inr (_, refl)
detailed a e Stable = inl refl
detailed a e Tried = inr (_, refl)

line_is : (a : AtlasState) (e : Entry) (behind : Text) → entry_line a e ++ behind ≡ entry_text a e ++ 10 ∷ behind
unfolding entry_line
line_is a e behind = append_assoc (entry_text a e) (10 ∷ []) behind

text_is : (a : AtlasState) (e : Entry) (behind : Text) → entry_text a e ++ behind ≡ (event_word e.event ++ word (name_in a e.actor)) ++ (details a e e.event ++ behind)
unfolding entry_text
text_is a e behind = append_assoc (event_word e.event ++ word (name_in a e.actor)) (details a e e.event) behind

front_begins : (words text : Text) (d behind : Text) → Lacks 10 words → text ≡ words ++ (d ++ 10 ∷ behind) → (d ≡ []) ⊎ ((t : Text) × (d ≡ 32 ∷ t)) → BeginsWith (first_line text) words
front_begins words text d behind lacks is form = elim form as (λ _. BeginsWith (first_line text) words) [
  | inl none ↦ inl (ap first_line (is ∙ ap (λ (t : Text). words ++ (t ++ 10 ∷ behind)) none) ∙ before_cut 10 words behind lacks)
  | inr some ↦ (
      let u = some.0 ++ 10 ∷ behind in
      let blank : Lacks 10 (32 ∷ []) = ((λ (e : 32 ≡ 10). omega (arith, e)), tt) in
      inr (first_line u, ap first_line (is ∙ ap (λ (t : Text). words ++ (t ++ 10 ∷ behind)) some.1) ∙ before_more 10 words (32 ∷ u) lacks ∙ ap (λ (t : Text). words ++ t) (before_more 10 (32 ∷ []) u blank)))
]

module _ (s : Supply) (policy : Policy) (script : Script) (w : KernelState) (es : List Entry) (old : Checker) (h : Stands s policy script w old es) (rest : Text) where
  abbrev here : Run
  here = run_of s script w es

  -- a text that goes on with the line of an entry begins with its event and name
  pub goes_begins : (f : Entry) → GoesOnWith s policy script here rest f → BeginsWith (first_line rest) (named_words s script here f)
  unfolding word
  goes_begins f g =
      let a = names_after s script here f in
      let k = is_word s policy script w es old h f g.may in
      let lacks : Lacks 10 (named_words s script here f) = Lacks-append 10 (event_word f.event) (32 ∷ name_in a f.actor) (no_feed_in f.event) ((λ (e : 32 ≡ 10). omega (arith, e)), k.feed) in
      front_begins (named_words s script here f) rest (details a f f.event) g.behind lacks (g.line ∙ line_is a f g.behind ∙ text_is a f (10 ∷ g.behind)) (detailed a f f.event)

  module _ (e : Entry) (new : Checker) (k : Wants s policy script w es (first_line rest) e new) (alone : (f : Entry) → May s policy script here f → BeginsWith (first_line rest) (named_words s script here f) → f ≡ e) (text : Text) (shows : text ≡ entry_text (atlas_of new.state.atlas) e) where
    text_here : text ≡ entry_text (names_after s script here e) e
    text_here = shows ∙ ap (λ (a : AtlasState). entry_text a e) (sym (names_then s policy script w es old h e new k.stands))

    only_here : (f : Entry) → GoesOnWith s policy script here rest f → f ≡ e
    only_here f g = alone f g.may (goes_begins f g)

    pub reads_on : (left : Text) → rest ≡ text ++ 10 ∷ left → ReadsOnAt s policy script w es rest left new
    reads_on left is = record {
      entry = e;
      may = k.may;
      line = is ∙ ap (λ (t : Text). t ++ 10 ∷ left) text_here ∙ sym (line_is (names_after s script here e) e left);
      only = only_here;
      stands = k.stands;
    }

    no_line : ((left : Text) → rest ≡ text ++ 10 ∷ left → ⊥) → (f : Entry) → GoesOnWith s policy script here rest f → ⊥
    no_line none f g =
        let same = only_here f g in
        let line : rest ≡ line_in s script here e ++ g.behind = g.line ∙ ap (λ (d : Entry). line_in s script here d ++ g.behind) same in
        none g.behind (line ∙ line_is (names_after s script here e) e g.behind ∙ ap (λ (t : Text). t ++ 10 ∷ g.behind) (sym text_here))

    pub stops_played : ((left : Text) → rest ≡ text ++ 10 ∷ left → ⊥) → IsPlayed e.event → (want : Option Entry) (shown : Text) → want ≡ Some e → shown ≡ text → StopsAt s policy script here rest want shown
    stops_played none played want shown is said = subst (λ (o : Option Entry). StopsAt s policy script here rest o shown) (sym is) (record {
      wrong = no_line none;
      wanted = record { played = played; may = k.may; named = k.named };
      words = said ∙ text_here;
    })

    pub stops_other : ((left : Text) → rest ≡ text ++ 10 ∷ left → ⊥) → (IsPlayed e.event → ⊥) → (want : Option Entry) (shown : Text) → want ≡ None → shown ≡ codes "none" → StopsAt s policy script here rest want shown
    stops_other none other want shown is said = subst (λ (o : Option Entry). StopsAt s policy script here rest o shown) (sym is) (record {
      wrong = no_line none;
      wanted = λ f g. other (subst (λ (d : Entry). IsPlayed d.event) (alone f g.may g.named) g.played);
      words = said;
    })

  pub stops_none : ((f : Entry) → May s policy script here f → BeginsWith (first_line rest) (named_words s script here f) → ⊥) → (want : Option Entry) (shown : Text) → want ≡ None → shown ≡ codes "none" → StopsAt s policy script here rest want shown
  stops_none none want shown is said = subst (λ (o : Option Entry). StopsAt s policy script here rest o shown) (sym is) (record {
    wrong = λ f g. none f g.may (goes_begins f g);
    wanted = λ f g. none f g.may g.named;
    words = said;
  })

-- READING ON

longer : (a : AtlasState) (e : Entry) (behind : Text) → length behind < length (entry_line a e ++ behind)
longer a e behind =
    let n : length (entry_line a e ++ behind) ≡ length (entry_text a e) + length (10 ∷ behind) = ap length (line_is a e behind) ∙ length-append (entry_text a e) (10 ∷ behind) in
    let z : length (10 ∷ behind) ≡ 1 + length behind = omega arith in
    more _ _ _ _ n z
  where
    more : (t x y b : ℕ) → t ≡ x + y → y ≡ 1 + b → b < t
    more t x y b n z = omega arith

line_end_is : (a : AtlasState) (e : Entry) (behind : Text) → entry_line a e ++ behind ≡ [] → ⊥
line_end_is a e behind none = (let n = longer a e behind in let m = ap length none in absurd (omega (arith, n, m)))

pub shorter : (s : Supply) (policy : Policy) (script : Script) (w : KernelState) (es : List Entry) (rest left : Text) (new : Checker) → ReadsOnAt s policy script w es rest left new → length left < length rest
shorter s policy script w es rest left new k = subst (λ (t : Text). length left < length t) (sym k.line) (longer (names_after s script (run_of s script w es) k.entry) k.entry left)

pub some_of : {A : Type 0} (P : A → Type 0) (o : Option A) (a : A) → o ≡ Some a → IfSome o P → P a
some_of {A} P o a e h = subst (λ (k : Option A). IfSome k P) e h

module _ (s : Supply) (policy : Policy) (script : Script) (w : KernelState) (trace : Text) (c : Checker) (es : List Entry) (rest : Text) (h : HasRead s policy script w trace c es rest) where
  -- a history with which the trace goes on behind these lines
  later : (fs : List Entry) → IsLegalRun s policy w script fs → trace ≡ spelled s script (start_run w) fs → (gs : List Entry) × (fs ≡ es ++ gs) × (IsLegalFrom s policy script (run_of s script w es) gs) × (rest ≡ spelled s script (run_of s script w es) gs)
  later fs legal is =
      let front = h.only fs legal is in
      let gs = front.0 in
      let legal_all : IsLegalRun s policy w script (es ++ gs) = subst (IsLegalRun s policy w script) front.1 legal in
      let both : spelled s script (start_run w) es ++ rest ≡ spelled s script (start_run w) es ++ spelled s script (run_of s script w es) gs =
      sym h.split ∙ is ∙ ap (spelled s script (start_run w)) front.1 ∙ spelled-append s script (start_run w) es gs in
      (gs, front.1, legal_back s policy script (start_run w) es gs legal_all, append_cancel_left (spelled s script (start_run w) es) rest (spelled s script (run_of s script w es) gs) both)

  pub read_more : (left : Text) (new : Checker) → (k : ReadsOnAt s policy script w es rest left new) → HasRead s policy script w trace new (es ++ k.entry ∷ []) left
  read_more left new k =
      let r = run_of s script w es in
      let e = k.entry in
      record {
        stands = k.stands;
        split = h.split ∙ ap (λ (t : Text). spelled s script (start_run w) es ++ t) (k.line ∙ ap (λ (t : Text). t ++ left) (sym (append-nil (line_in s script r e)))) ∙ sym (append_assoc (spelled s script (start_run w) es) (spelled s script r (e ∷ [])) left)
            ∙ ap (λ (t : Text). t ++ left) (sym (spelled-append s script (start_run w) es (e ∷ [])));
        only = λ fs legal is. (let l = later fs legal is in by_rest l.0 fs l.1 l.2 l.3);
      }
    where
      by_rest : (gs fs : List Entry) → fs ≡ es ++ gs → IsLegalFrom s policy script (run_of s script w es) gs → rest ≡ spelled s script (run_of s script w es) gs → IsFront (es ++ k.entry ∷ []) fs
      by_rest [] fs split legal is = absurd (line_end_is (names_after s script (run_of s script w es) k.entry) k.entry left (sym k.line ∙ is))
      by_rest (g ∷ gs) fs split legal is =
          let same : g ≡ k.entry = k.only g (record { may = legal.0; behind = spelled s script (Rattle.line_text.specs.model_kernel.Histories.goes_on s script (run_of s script w es) g) gs; line = is }) in
          (gs, split ∙ ap (λ (d : Entry). es ++ d ∷ gs) same ∙ sym (append_assoc es (k.entry ∷ []) gs))

  -- a legal history is not long
  pub few_lines : (lines : ℕ) → length es ≡ lines → lines ≤ 3680200
  few_lines lines count =
      let r = h.stands.run in
      let n = length_bound s policy script r.rules w es r.kinds r.sound r.legal in
      let top = r.rules.steps.1 in
      omega (arith, count, n, top)

  -- where the lines are read the trace spells the history
  pub spells_all : rest ≡ [] → (lines : ℕ) → length es ≡ lines → Spells s policy w script trace lines
  spells_all none lines count = record {
    history = es;
    legal = h.stands.run.legal;
    spells = h.split ∙ ap (λ (t : Text). spelled s script (start_run w) es ++ t) none ∙ append-nil (spelled s script (start_run w) es);
    count = count;
  }

  pub spells_none : (rest ≡ [] → ⊥) → ((f : Entry) → GoesOnWith s policy script (run_of s script w es) rest f → ⊥) → SpellsNone s policy w script trace
  spells_none some wrong lines k = (let l = later k.history k.legal k.spells in by_rest l.0 l.2 l.3)
    where
      by_rest : (gs : List Entry) → IsLegalFrom s policy script (run_of s script w es) gs → rest ≡ spelled s script (run_of s script w es) gs → ⊥
      by_rest [] legal is = some is
      by_rest (g ∷ gs) legal is = wrong g (record { may = legal.0; behind = spelled s script (Rattle.line_text.specs.model_kernel.Histories.goes_on s script (run_of s script w es) g) gs; line = is })

pub read_none : (s : Supply) (policy : Policy) (script : Script) (w : KernelState) (trace : Text) (c : Checker) → Stands s policy script w c [] → HasRead s policy script w trace c [] trace
read_none s policy script w trace c h = record { stands = h; split = refl; only = λ fs legal is. (fs, refl) }
