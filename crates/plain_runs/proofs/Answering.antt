-- What the parts of a call say, put together.
use Rattle.std.proofs.Common.{◌≡◌, ℕ, zero, suc, ◌+◌, ◌-◌, ◌<◌, ◌≤◌, Bool, true, false, nat_lt, List, [], ◌∷◌, ◌++◌, length, map, get_or, Option, Some, None, IfSome, IfNone, is_some, Result, Ok, Err, IfOk, OnOk, OnErr, slice_get, slice_index, slice_set, string_bytes, refl, sym, ap, subst, ◌∙◌, arith}
use Rattle.std.proofs.lemmas.Bool.Decides.{nat_tests}
use Rattle.std.proofs.lemmas.List.{length-map}
use Rattle.base_types.specs.declared.histories.Entry.{Entry}
use Rattle.plain_steps.specs.model_kernel.Scripts.{Script}
use Rattle.plain_steps.specs.model_kernel.Serial.{can_step, owed_stable}
use Rattle.plain_steps.specs.model_kernel.Soundness.{IsSound}
use Rattle.plain_steps.specs.model_kernel.State.{Supply, Text, AtlasState, Cell, KernelState}
use Rattle.plain_steps.specs.model_kernel.Steps.{atlas_in, running}
use Rattle.plain_states.specs.Born.{AreEdges, HasFewNames}
use Rattle.plain_states.specs.Events.{Stays, StepsTo}
use Rattle.plain_states.specs.model_sound_runs.Names.{KeepsNames}
use Rattle.plain_states.specs.Plains.{atlas_of, cells_of, locus_cell}
use Rattle.plain_states.specs.declared.plain.Plain.{Plain}
use Rattle.plain_states.proofs.CellLemmas.{high_cell}
use Rattle.plain_states.proofs.PlainBirths.{sound_here}
use Rattle.plain_runs.specs.Looking.{AllIdle, Stills, Turns, ended}
use Rattle.plain_steps.specs.plain_facts.Looking.{owed_after, wants_stable}
use Rattle.plain_runs.specs.Standing.{GoesOn, IsAt, IsStanding, Keeps, Stands}
use Rattle.plain_steps.specs.plain_facts.Standing.{IsBearing, IsLow, Reaches, names_born, run_from, settled}
use Rattle.plain_runs.specs.declared.serial.Place.{Place}
use Rattle.plain_runs.specs.declared.serial.Place.TheVariants.{Births, Pick, Round}
use Rattle.plain_runs.specs.declared.serial.SerialRun.{SerialRun}
use Rattle.plain_runs.proofs.Placing.{bearing, stands}
use Rattle.plain_steps.proofs.plain_facts_lemmas.Stepping.{reaches_stay, step_made}
use Rattle.plain_steps.specs.model_births.Fitting.{Fits}

-- RESULTS

pub on_some : {A E O : Type 0} {P Q : A → Type 0} (r : Result (Option A) E) → ((a : A) → O → P a → Q a) → OnOk r O → IfOk r (λ o. IfSome o P) → IfOk r (λ o. IfSome o Q)
on_some (Err x) f o h = tt
on_some (Ok None) f o h = tt
on_some (Ok (Some a)) f o h = f a o h

pub on_none : {A E O P Q : Type 0} (r : Result (Option A) E) → (O → P → Q) → OnOk r O → IfOk r (λ o. IfNone o P) → IfOk r (λ o. IfNone o Q)
on_none (Err x) f o h = tt
on_none (Ok None) f o h = f o h
on_none (Ok (Some a)) f o h = tt

pub on_both : {A E O P Q R : Type 0} (r : Result (Option A) E) → (O → P → Q → R) → OnOk r O → IfOk r (λ o. IfNone o P) → IfOk r (λ o. IfNone o Q) → IfOk r (λ o. IfNone o R)
on_both (Err x) f o h k = tt
on_both (Ok None) f o h k = f o h k
on_both (Ok (Some a)) f o h k = tt

pub on_err : {A E P Q O : Type 0} (r : Result A E) → (O → P → Q) → OnErr r O → OnErr r P → OnErr r Q
on_err (Err x) f o h = f o h
on_err (Ok x) f o h = tt

-- RUNS ONE AFTER ANOTHER

pub keeps_on : (s : Supply) (script : Script) (a b c : SerialRun) → Keeps s script a b → Keeps s script b c → Keeps s script a c
keeps_on s script a b c h k w es at = k w es (h w es at)

pub goes_after : (s : Supply) (script : Script) (a b c : SerialRun) (e : Entry) → Keeps s script a b → GoesOn s script b e c → GoesOn s script a e c
goes_after s script a b c e h k w es at = k w es (h w es at)

pub standing_on : (s : Supply) (script : Script) (a b : SerialRun) → Keeps s script a b → IsStanding s script a → IsStanding s script b
standing_on s script a b h at = (at.0, at.1, h at.0 at.1 at.2)

below : (l n : ℕ) → nat_lt l n ≡ true → l < n
below l n is = grind (arith, nat_tests)

above : (l n : ℕ) → nat_lt l n ≡ false → n ≤ l
above l n is = grind (arith, nat_tests)

pub idle_more : (s : Supply) (script : Script) (first n : ℕ) (old mid : SerialRun) → AllIdle s script first n old → Keeps s script old mid → AllIdle s script n (n + 1) mid → AllIdle s script first (n + 1) old
idle_more s script first n old mid before keeps here w es at l low high =
    elim (nat_lt l n) as (λ b. nat_lt l n ≡ b → can_step script (run_from s script w es) l ≡ false) [
      | true ↦ λ is. before w es at l low (below l n is)
      | false ↦ λ is. here w es (keeps w es at) l (above l n is) high
    ] refl

-- NAMES

pub few_names_of : (s : Supply) (p : Plain) → IsSound (cells_of s p) → HasFewNames p.atlas
few_names_of s p sound =
    let h = sound_here s p sound in
    record { containers = subst (λ n. n ≤ 40) (length-map p.atlas.containers.items string_bytes) h.names.few_containers; loci = subst (λ n. n ≤ 23) (length-map p.atlas.loci.items string_bytes) h.names.few_loci }

-- LOOKS

pub turns_placed : (s : Supply) (script : Script) (l : ℕ) (old new : SerialRun) (e : Entry) (p : Place) → Turns s script l old e new → Turns s script l old e (record new { place = p })
turns_placed s script l old new e p h w es r = let t = h w es r in record { reaches = t.reaches; edges = t.edges; made = t.made; born = t.born }

pub stills_placed : (s : Supply) (script : Script) (old new : SerialRun) (p : Place) → Stills s script old new → Stills s script old (record new { place = p })
stills_placed s script old new p h w es r = let t = h w es r in record { owed = t.owed; reaches = t.reaches; edges = t.edges; born = t.born }

look_turns_as : (s : Supply) (script : Script) (old : SerialRun) (state : Plain) (vs : List ℕ) (i l : ℕ) (wants : Bool) (owed : Option ℕ) (e : Entry) → 41 ≤ l → l < 64 → i ≡ l - 41 → slice_index old.made i < script.steps → (running (cells_of s old.state l) ≡ None → ⊥)
    → StepsTo s l (cells_of s old.state) old.versions e (cells_of s state) vs → IsSound (cells_of s state) → AreEdges state.atlas.edges.items → KeepsNames (atlas_of old.state.atlas) (atlas_of state.atlas) → IsLow e
    → wants ≡ wants_stable (locus_cell (slice_get old.state.loci.items (l - 41))) → owed ≡ owed_after l e.answer wants
    → Turns s script l old e (record old { state = state; versions = vs; made = slice_set old.made i (slice_index old.made i + 1); owed = owed })
look_turns_as s script old state vs i l wants owed e low high at few busy steps sound edges names below wanted owes w es r =
    let here : cells_of s old.state l ≡ locus_cell (slice_get old.state.loci.items (l - 41)) = high_cell s (atlas_of old.state.atlas) old.state.containers.items old.state.loci.items l low in
    let same : owed_after l e.answer (wants_stable (cells_of s old.state l)) ≡ owed = ap (λ (k : Cell). owed_after l e.answer (wants_stable k)) here ∙ ap (owed_after l e.answer) (sym wanted) ∙ sym owes in
    let few_here : slice_index old.made (l - 41) < script.steps = subst (λ k. slice_index old.made k < script.steps) at few in
    let t = step_made s script w (cells_of s old.state) (cells_of s state) old.versions vs old.made es l e r.reaches r.born low high few_here busy steps sound names below in
    let made : slice_set old.made (l - 41) (slice_index old.made (l - 41) + 1) ≡ slice_set old.made i (slice_index old.made i + 1) = ap (λ k. slice_set old.made k (slice_index old.made k + 1)) (sym at) in
    record {
      reaches = subst (λ o. Reaches s script w (cells_of s state) vs (slice_set old.made i (slice_index old.made i + 1)) o (es ++ e ∷ [])) same
          (subst (λ ms. Reaches s script w (cells_of s state) vs ms (owed_after l e.answer (wants_stable (cells_of s old.state l))) (es ++ e ∷ [])) made t.reaches);
      edges = edges;
      made = t.looked ∙ ap (λ (o : Option ℕ). e ∷ owed_stable o) same;
      born = t.born;
    }

-- the entry that is handed out is the same
pub look_turns : (s : Supply) (script : Script) (old : SerialRun) (state : Plain) (vs : List ℕ) (i l : ℕ) (wants : Bool) (owed : Option ℕ) (e : Entry) → 41 ≤ l → l < 64 → i ≡ l - 41 → slice_index old.made i < script.steps → (running (cells_of s old.state l) ≡ None → ⊥)
    → StepsTo s l (cells_of s old.state) old.versions e (cells_of s state) vs → IsSound (cells_of s state) → AreEdges state.atlas.edges.items → KeepsNames (atlas_of old.state.atlas) (atlas_of state.atlas) → IsLow e
    → wants ≡ wants_stable (locus_cell (slice_get old.state.loci.items (l - 41))) → owed ≡ owed_after l e.answer wants
    → (f : Entry) → f ≡ e → Turns s script l old f (record old { state = state; versions = vs; made = slice_set old.made i (slice_index old.made i + 1); owed = owed })
look_turns s script old state vs i l wants owed e low high at few busy steps sound edges names below wanted owes f same =
    subst (λ (k : Entry). Turns s script l old k (record old { state = state; versions = vs; made = slice_set old.made i (slice_index old.made i + 1); owed = owed })) (sym same) (look_turns_as s script old state vs i l wants owed e low high at few busy steps sound edges names below wanted owes)

-- want of memory, and a locus that is idle
pub look_stills : (s : Supply) (script : Script) (old : SerialRun) (state : Plain) (vs : List ℕ) → Stays (cells_of s old.state) old.versions (cells_of s state) vs → IsSound (cells_of s state) → AreEdges state.atlas.edges.items → Stills s script old (record old { state = state; versions = vs })
look_stills s script old state vs st sound edges w es r = record { owed = r.owed; reaches = reaches_stay s script w (cells_of s old.state) (cells_of s state) old.versions vs old.made None es r.reaches st sound; edges = edges; born = r.born }

-- PICKS

pub order_at : {X : Type 0} (f : X → Text) (xs : List X) (i : ℕ) (x : X) → i < length xs → x ≡ get_or xs i x → get_or (map f xs) i [] ≡ f x
order_at f [] i x few is = absurd (omega (arith, few))
order_at f (y ∷ xs) zero x few is = ap f (sym is)
order_at f (y ∷ xs) (suc i) x few is = order_at f xs i x (omega (arith, few)) is

pub past_pick : (run : SerialRun) (i : ℕ) → run.place ≡ Pick i → run.place ≡ Births → ⊥
past_pick run i is e = apart (sym is ∙ e)
  where
    apart : Pick i ≡ Births → ⊥
    apart e = cc

pub past_round : (run : SerialRun) (n : ℕ) → run.place ≡ Round n → run.place ≡ Births → ⊥
past_round run n is e = apart (sym is ∙ e)
  where
    apart : Round n ≡ Births → ⊥
    apart e = cc

-- what holds where nothing was made
pub where_none : {A P : Type 0} (o : Option A) → is_some o ≡ false → IfNone o P → P
where_none None e h = h
where_none (Some a) e h = absurd (no e)
  where
    no : true ≡ false → ⊥
    no e = cc

pub where_some : {A : Type 0} (P : Type 0) (o : Option A) → is_some o ≡ true → IfNone o P
where_some P None e = absurd (no e)
  where
    no : false ≡ true → ⊥
    no e = cc
where_some P (Some a) e = tt

-- THE END OF THE BIRTHS

pub ended_last : {X : Type 0} (o : Option X) (x : Option Text) (run : SerialRun) → is_some o ≡ false → IfNone o (x ≡ None) → record run { owed = Some 0; place = Pick 0 } ≡ ended x run
ended_last o x run e h = ap (λ y. ended y run) (sym (where_none o e h))

pub ended_more : {X : Type 0} (f : X → Text) (o : Option X) (x : Option Text) (run : SerialRun) → is_some o ≡ true → IfSome o (λ n. x ≡ Some (f n)) → run ≡ ended x run
ended_more f None x run e h = absurd (no e)
  where
    no : false ≡ true → ⊥
    no e = cc
ended_more f (Some n) x run e h = ap (λ y. ended y run) (sym h)

-- a birth that found no memory changed nothing
pub birth_stays : (s : Supply) (script : Script) (w : KernelState) (run : SerialRun) (state : Plain) (vs : List ℕ) (es : List Entry) → run.owed ≡ None → run.place ≡ Births → Stays (cells_of s run.state) run.versions (cells_of s state) vs → AreEdges state.atlas.edges.items
    → IsSound (cells_of s state) → Stands s script w run es → Stands s script w (record run { state = state; versions = vs }) es
birth_stays s script w run state vs es owed place st edges sound h =
    let b = bearing s script w run es owed place h in
    let same : atlas_of run.state.atlas ≡ atlas_of state.atlas = ap atlas_in (sym (st.cells 0)) in
    let bears : IsBearing s script w state es = record {
      began = b.began;
      count = b.count;
      same = b.same;
      few = subst (λ (a : AtlasState). b.count ≤ names_born a) same b.few;
      long = b.long;
      fits = subst (λ (a : AtlasState). Fits a script) same b.fits;
      code = b.code;
    } in
    stands s script w (record run { state = state; versions = vs }) es (reaches_stay s script w (cells_of s run.state) (cells_of s state) run.versions vs run.made run.owed es h.reaches st sound)
    edges (subst (λ o. IsAt s script w state run.place (settled o es)) (sym owed) (subst (λ p. IsAt s script w state p es) (sym place) bears))
