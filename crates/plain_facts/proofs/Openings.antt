-- Births one after another, from any state.
use Rattle.std.proofs.Common.{◌≡◌, ℕ, zero, suc, ◌+◌, ◌-◌, ◌*◌, ◌≤◌, Bool, true, false, if◌then◌else◌, IsTrue, List, [], ◌∷◌, ◌++◌, length, sum_by, Option, Some, None, is_some, option_map, All, refl, sym, ap, subst, ◌∙◌, arith, append_assoc, append-nil}
use Rattle.std.proofs.lemmas.List.{length-append}
use Rattle.base_types.specs.declared.histories.Entry.{Entry}
use Rattle.base_types.specs.declared.histories.Event.{Event}
use Rattle.base_types.specs.declared.histories.Event.TheVariants.{Birth, Stable}
use Rattle.model_kernel.specs.Births.{birth, birth_change, next_birth, next_birth_change}
use Rattle.model_kernel.specs.Histories.{May, Run, after_birth, births_owed, by_event, event_of, goes_on, mark, may, never, noting, owing_births, run_after, start_run, went_on}
use Rattle.model_kernel.specs.Parts.{after_entry, is_event, next_of}
use Rattle.model_kernel.specs.Scripts.{Script, locus_named, next_name}
use Rattle.model_kernel.specs.Serial.{birth_turn, births, made_and_owed, owed_stable}
use Rattle.model_kernel.specs.Soundness.{IsSound}
use Rattle.model_kernel.specs.State.{Supply, Text, AtlasState, Cell, KernelState}
use Rattle.model_kernel.specs.Steps.{atlas_in}
use Rattle.plain_states.specs.Events.{Bears, Has}
use Rattle.plain_states.specs.model_sound_runs.Names.{KeepsNames}
use Rattle.plain_states.specs.script_types.Rules.{IsScript}
use Rattle.plain_facts.specs.Snaps.{HasNoSnaps}
use Rattle.plain_facts.specs.Standing.{HasLooked, IsLow, IsQuiet, Reaches, opened_atlas, opening_from, run_from, settled}
use Rattle.plain_states.proofs.model_sound_runs_lemmas.Naming.{keeps_same}
use Rattle.plain_facts.proofs.Keeping.{picks_born}
use Rattle.plain_facts.proofs.Goings.{acts_made, below-push, changed_rise, legal-push, may_stable, quiet_stable, run_after-append, state_is}
use Rattle.model_serial_turns.specs.model_births.Fitting.{Fits}
use Rattle.model_serial_turns.proofs.model_births_lemmas.Ends.{births_none}

-- A STABLE

pub settled_is : (o : Option ℕ) (es : List Entry) → settled o es ≡ es ++ owed_stable o
settled_is None es = sym (append-nil es)
settled_is (Some actor) es = refl

pub run_more : (s : Supply) (script : Script) (w : KernelState) (es : List Entry) (e : Entry) → run_from s script w (es ++ e ∷ []) ≡ goes_on s script (run_from s script w es) e
run_more s script w es e = run_after-append s script (start_run w) es (e ∷ [])

-- a Stable leaves the state as it is
pub settled_state : (s : Supply) (script : Script) (w : KernelState) (o : Option ℕ) (es : List Entry) → (run_from s script w (settled o es)).state ≡ (run_from s script w es).state
settled_state s script w None es = refl
settled_state s script w (Some actor) es = ap (λ (q : Run). q.state) (run_more s script w es (mark Stable actor 0))

pub settled_born : (s : Supply) (script : Script) (w : KernelState) (o : Option ℕ) (es : List Entry) → births_owed script (run_from s script w es) ≡ false → births_owed script (run_from s script w (settled o es)) ≡ false
settled_born s script w o es born = ap (λ (v : KernelState). is_some (next_name (atlas_in (v 0).cell) script)) (settled_state s script w o es) ∙ born

pub reaches_stable : (s : Supply) (script : Script) (w : KernelState) (cells : ℕ → Cell) (us made : List ℕ) (actor : ℕ) (es : List Entry) → Reaches s script w cells us made (Some actor) es → Reaches s script w cells us made None (es ++ mark Stable actor 0 ∷ [])
reaches_stable s script w cells us made actor es t =
    let m = mark Stable actor 0 in
    let r = run_from s script w es in
    let after = run_more s script w es m in
    record {
      legal = legal-push s script (start_run w) es m t.legal (may_stable s script r actor t.quiet);
      has = subst (λ (q : Run). Has q.state cells us) (sym after) t.has;
      quiet = subst (λ (q : Run). IsQuiet q None) (sym after) (quiet_stable s script r actor t.quiet);
      steps = λ l h g. ap (λ (q : Run). q.steps l) after ∙ t.steps l h g;
      limit = t.limit;
      long = t.long;
      count = t.count;
      low = λ x. (let l = t.low x in let n = length-append es (m ∷ []) in omega (arith, l, n));
      start = t.start;
      sound = t.sound;
      calm = t.calm;
      rules = t.rules;
      below = below-push es m t.below (λ x high. refl);
    }

-- BIRTHS IN TURN

pub births_split : (s : Supply) (script : Script) (k m : ℕ) (r : Run) → births (k + m) s script r ≡ births k s script r ++ births m s script (run_after s script r (births k s script r))
births_split s script zero m r = let e : 0 + m ≡ m = omega arith in ap (λ n. births n s script r) e
births_split s script (suc k) m r =
    let e : suc k + m ≡ suc (k + m) = omega arith in
    let t = birth_turn s script r in
    let q = run_after s script r t in
    let b = births k s script q in
    ap (λ n. births n s script r) e
    ∙ ap (λ es. t ++ es) (births_split s script k m q)
    ∙ sym (append_assoc t b (births m s script (run_after s script q b)))
    ∙ ap (λ (v : Run). (t ++ b) ++ births m s script v) (sym (run_after-append s script r t b))

births_one : (s : Supply) (script : Script) (r : Run) → births 1 s script r ≡ birth_turn s script r
births_one s script r = append-nil (birth_turn s script r)

-- the births so far are all, where none is owed
pub opening_is : (s : Supply) (script : Script) (w : KernelState) (k : ℕ) (es : List Entry) → k ≤ 64 → es ≡ births k s script (start_run w) → births_owed script (run_from s script w es) ≡ false → opening_from s script w ≡ es
opening_is s script w k es few same born =
    let e : 64 ≡ k + (64 - k) = omega arith in
    let b = births k s script (start_run w) in
    let r = run_after s script (start_run w) b in
    ap (λ n. births n s script (start_run w)) e
    ∙ births_split s script k (64 - k) (start_run w)
    ∙ ap (λ fs. b ++ fs) (births_none s script (64 - k) r (subst (λ (fs : List Entry). births_owed script (run_from s script w fs) ≡ false) same born))
    ∙ append-nil b
    ∙ sym same

-- where no birth is owed, the looks begin
pub opened : (s : Supply) (script : Script) (w : KernelState) (cells : ℕ → Cell) (k : ℕ) (es : List Entry) → k ≤ 64 → es ≡ births k s script (start_run w) → births_owed script (run_from s script w es) ≡ false → ((run_from s script w es).state 0).cell ≡ cells 0
    → IsScript script → Fits (atlas_in (cells 0)) script → HasLooked s script w cells es []
opened s script w cells k es few same born cell rules fits =
    let opening = opening_is s script w k es few same born in
    let atlas : opened_atlas s script w ≡ atlas_in (cells 0) = ap (λ (fs : List Entry). atlas_in ((run_from s script w fs).state 0).cell) opening ∙ ap atlas_in cell in
    let none : is_some (next_name (atlas_in (cells 0)) script) ≡ false = ap (λ (c : Cell). is_some (next_name (atlas_in c) script)) (sym cell) ∙ born in
    record {
      born = born;
      names = subst (λ (a : AtlasState). KeepsNames a (atlas_in (cells 0))) (sym atlas) (keeps_same (atlas_in (cells 0)) (atlas_in (cells 0)) refl refl);
      picks = subst (λ (a : AtlasState). All (λ (name : Text). IsTrue (is_some (locus_named a name))) script.order) (sym atlas) (picks_born (atlas_in (cells 0)) script rules fits none);
      same = sym opening ∙ sym (append-nil (opening_from s script w));
    }

-- ONE BIRTH

-- what is owed after a birth, by the next name
abbrev pub owed_then : Option Text → Option ℕ
owed_then None = Some 0
owed_then (Some name) = None

pub next_is_birth : (s : Supply) (script : Script) (name : Text) (w : KernelState) → next_name (atlas_in (w 0).cell) script ≡ Some name → next_birth s script w ≡ birth s script name w
unfolding next_birth_change birth_change
next_is_birth s script name w is = rw is refl

pub birth_event : (s : Supply) (script : Script) (name : Text) (w v : KernelState) (e : Entry) → birth s script name w ≡ Some (e, v) → e.event ≡ Birth
birth_event s script name w v e h =
    let m = acts_made Birth (birth_change s script name) w (e, v) h in
    ap (λ (r : Entry × KernelState). r.0.event) (sym m.2)

birth_rise : (s : Supply) (script : Script) (name : Text) (w v : KernelState) (e : Entry) (x : ℕ) → birth s script name w ≡ Some (e, v) → (v x).version ≤ (w x).version + 1
birth_rise s script name w v e x h =
    let m = acts_made Birth (birth_change s script name) w (e, v) h in
    subst (λ (r : Entry × KernelState). (r.1 x).version ≤ (w x).version + 1) m.2 (changed_rise w _ x)

-- what the rules look at after a birth
abbrev pub borne : Script → Run → Entry → KernelState → Run
borne script r e v = noting (owing_births script (after_birth r e v))

pub goes_on_birth : (s : Supply) (script : Script) (r : Run) (e : Entry) (v : KernelState) → e.event ≡ Birth → next_birth s script r.state ≡ Some (e, v) → goes_on s script r e ≡ borne script r e v
goes_on_birth s script r e v ev made =
    let after : after_entry (event_of s script) r.state e ≡ v =
    ap (λ (k : Event). if is_event k then next_of (event_of s script) r.state (by_event s script k e.actor r.state) else r.state) ev
    ∙ ap (next_of (event_of s script) r.state) made in
    ap (went_on s script r e) ev ∙ ap (λ (u : KernelState). borne script r e u) after

may_birth : (s : Supply) (script : Script) (r : Run) (e : Entry) (v : KernelState) → r.tried ≡ None → r.began ≡ true → e.event ≡ Birth → next_birth s script r.state ≡ Some (e, v) → May s never script r e
may_birth s script r e v tried began ev made =
    (tried, subst (λ (k : Event). may s never script r e k) (sym ev) (began, ap (option_map (λ (r : Entry × KernelState). r.0)) made))

-- a birth, from a run with these cells
pub record IsBirth (s : Supply) (script : Script) (w : KernelState) (new : ℕ → Cell) (vs made : List ℕ) (es : List Entry) (e : Entry) (later : Option Text) : Type 0 where
  pub reaches : Reaches s script w new vs made (owed_then later) (es ++ e ∷ [])
  pub turn : birth_turn s script (run_from s script w es) ≡ e ∷ owed_stable (owed_then later)
  pub owed : births_owed script (run_from s script w (es ++ e ∷ [])) ≡ is_some later
  pub began : (run_from s script w (es ++ e ∷ [])).began ≡ true

pub birth_made : (s : Supply) (script : Script) (name : Text) (later : Option Text) (w : KernelState) (cells new : ℕ → Cell) (us vs made : List ℕ) (es : List Entry) (e : Entry)
    → Reaches s script w cells us made None es → (run_from s script w es).began ≡ true → next_name (atlas_in (cells 0)) script ≡ Some name → Bears s script name cells us e new vs
    → next_name (atlas_in (new 0)) script ≡ later → IsSound new → HasNoSnaps new → IsLow e → length es + 2 ≤ 64
    → IsBirth s script w new vs made es e later
birth_made s script name later w cells new us vs made es e t began next bears named sound calm low few =
    let r = run_from s script w es in
    let b = bears (λ x. (r.state x).stamp) in
    let v = b.0 in
    let made_here : birth s script name r.state ≡ Some (e, v) = ap (birth s script name) (state_is r.state cells us t.has) ∙ b.1 in
    let here : next_name (atlas_in (r.state 0).cell) script ≡ Some name = ap (λ (k : Cell). next_name (atlas_in k) script) (t.has.cells 0) ∙ next in
    let nexts : next_birth s script r.state ≡ Some (e, v) = next_is_birth s script name r.state here ∙ made_here in
    let ev = birth_event s script name r.state v e made_here in
    let step = goes_on_birth s script r e v ev nexts in
    let after : run_from s script w (es ++ e ∷ []) ≡ borne script r e v = run_more s script w es e ∙ step in
    let owed : births_owed script (after_birth r e v) ≡ is_some later = ap is_some (ap (λ (k : Cell). next_name (atlas_in k) script) (b.2.cells 0) ∙ named) in
    let owes : (borne script r e v).owed ≡ owed_then later = ap (λ (p : Bool). if p then None else Some 0) owed ∙ by_then later in
    let was : births_owed script r ≡ true = ap is_some here in
    record {
      reaches = record {
        legal = legal-push s script (start_run w) es e t.legal (may_birth s script r e v t.quiet.tried began ev nexts);
        has = subst (λ (q : Run). Has q.state new vs) (sym after) b.2;
        quiet = subst (λ (q : Run). IsQuiet q (owed_then later)) (sym after) (record { owes = owes; short = t.quiet.short; tried = t.quiet.tried; asked = t.quiet.asked });
        steps = λ l h g. ap (λ (q : Run). q.steps l) after ∙ t.steps l h g;
        limit = t.limit;
        long = t.long;
        count = count_then later;
        low = λ x. (let l = t.low x in let n = length-append es (e ∷ []) in let p = b.2.numbers x in let q = t.has.numbers x in let k = birth_rise s script name r.state v e x made_here in omega (arith, l, n, p, q, k));
        start = t.start;
        sound = sound;
        calm = calm;
        rules = t.rules;
        below = below-push es e t.below low;
      };
      turn = ap (λ (p : Bool). if p then made_and_owed s script r (next_birth s script r.state) else []) was ∙ ap (made_and_owed s script r) nexts ∙ ap (λ (q : Run). e ∷ owed_stable q.owed) step ∙ ap (λ (o : Option ℕ). e ∷ owed_stable o) owes;
      owed = ap (births_owed script) after ∙ owed;
      began = ap (λ (q : Run). q.began) after ∙ began;
    }
  where
    by_then : (o : Option Text) → (if is_some o then None else Some 0) ≡ owed_then o
    by_then None = refl
    by_then (Some x) = refl

    count_then : (o : Option Text) → length (settled (owed_then o) (es ++ e ∷ [])) ≤ 64 + 2 * sum_by (λ n. n) made
    count_then None = let n = length-append es (e ∷ []) in let m = length-append (es ++ e ∷ []) (mark Stable 0 0 ∷ []) in omega (arith, n, m, few)
    count_then (Some x) = let n = length-append es (e ∷ []) in omega (arith, n, few)

-- one birth more
pub births_more : (s : Supply) (script : Script) (w : KernelState) (k : ℕ) (es fs : List Entry) → es ≡ births k s script (start_run w) → birth_turn s script (run_from s script w es) ≡ fs → es ++ fs ≡ births (k + 1) s script (start_run w)
births_more s script w k es fs same turn =
    let b = births k s script (start_run w) in
    ap (λ (gs : List Entry). es ++ gs) (sym turn)
    ∙ ap (λ (gs : List Entry). gs ++ birth_turn s script (run_from s script w gs)) same
    ∙ ap (λ (gs : List Entry). b ++ gs) (sym (births_one s script (run_after s script (start_run w) b)))
    ∙ sym (births_split s script k 1 (start_run w))
