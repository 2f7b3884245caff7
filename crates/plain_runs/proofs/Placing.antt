-- The place of a run in the serial history.
use Rattle.std.proofs.Common.{◌≡◌, ℕ, zero, suc, ◌+◌, ◌-◌, ◌<◌, ◌≤◌, true, false, IsTrue, List, [], ◌∷◌, ◌++◌, length, take, drop, get_or, Option, Some, None, is_some, slice_index, replicate, refl, sym, ap, subst, ◌∙◌, arith, append_assoc, append-nil}
use Rattle.std.proofs.lemmas.List.{get_or-drop, length-append, take-append-drop, take_more}
use Rattle.base_types.specs.Edges.{upto}
use Rattle.base_types.specs.declared.histories.Entry.{Entry}
use Rattle.base_types.specs.declared.histories.Event.TheVariants.{Stable}
use Rattle.plain_steps.specs.model_kernel.Births.{birth}
use Rattle.plain_steps.specs.model_kernel.Histories.{births_owed, mark, run_after, start_run}
use Rattle.plain_steps.specs.model_kernel.Scripts.{Script, locus_named, next_name}
use Rattle.plain_steps.specs.model_kernel.Serial.{IsSerial, IsSerialFront, all_loci, births, can_step, looks_of, owed_stable, picks_of, rounds, turn, turns}
use Rattle.plain_steps.specs.model_kernel.Soundness.{IsSound}
use Rattle.plain_steps.specs.model_kernel.State.{Supply, Text, AtlasState, Cell, AtlasCell, KernelState}
use Rattle.plain_steps.specs.model_kernel.Steps.{atlas_in}
use Rattle.plain_states.specs.Born.{AreEdges}
use Rattle.plain_states.specs.Events.{Bears}
use Rattle.plain_states.specs.model_sound_runs.Names.{KeepsNames}
use Rattle.plain_states.specs.Plains.{atlas_of, cells_of}
use Rattle.plain_states.specs.declared.plain.Plain.{Plain}
use Rattle.plain_states.proofs.PlainBirths.{sound_here}
use Rattle.plain_steps.proofs.model_kernel_lemmas.Lists.{upto_get}
use Rattle.plain_runs.specs.Looking.{IsReady, IsTurn, ended}
use Rattle.plain_steps.specs.plain_facts.Snaps.{HasNoSnaps, HasNoSnapTables, code_of, has_no_snap}
use Rattle.plain_steps.specs.plain_facts.Standing.{CanBegin, HasLooked, IsBearing, IsInRound, IsLow, Reaches, names_born, opened_atlas, opening_from, run_from, settled}
use Rattle.plain_runs.specs.Standing.{IsAt, Stands}
use Rattle.plain_runs.specs.declared.serial.Place.{Place}
use Rattle.plain_runs.specs.declared.serial.Place.TheVariants.{Births, Pick, Round}
use Rattle.plain_runs.specs.declared.serial.SerialRun.{SerialRun}
use Rattle.plain_steps.proofs.plain_facts_lemmas.Goings.{run_after-append, state_is, turn_idle, turns-append}
use Rattle.plain_steps.proofs.plain_facts_lemmas.DefinedBirths.{born_atlas, one_more_name}
use Rattle.plain_steps.proofs.plain_facts_lemmas.Coding.{birth_coded}
use Rattle.plain_states.proofs.model_sound_runs_lemmas.Naming.{keeps_then}
use Rattle.plain_steps.proofs.plain_facts_lemmas.Keeping.{named_since}
use Rattle.plain_steps.proofs.plain_facts_lemmas.Openings.{birth_made, births_more, births_split, opened, owed_then, reaches_stable, settled_born, settled_is, settled_state}
use Rattle.plain_steps.specs.model_births.Fitting.{Fits}
use Rattle.plain_steps.proofs.model_births_lemmas.Growing.{Grew, fits_after}
use Rattle.plain_steps.proofs.model_births_lemmas.KnownNames.{NextName, next_name_is, next_new}
use Rattle.plain_steps.proofs.model_serial_turns_lemmas.Course.{picks-append, picked}

-- NUMBERS OF LOCI

-- the loci are 41 to 63
pub locus_at : (i : ℕ) → i < 23 → get_or all_loci i 0 ≡ i + 41
locus_at i h = get_or-drop 41 (upto 64) i 0 ∙ upto_get 64 (41 + i) (omega arith) ∙ (let e : 41 + i ≡ i + 41 = omega arith in e)

-- one more locus
pub take_locus : (i : ℕ) → i < 23 → take (i + 1) all_loci ≡ take i all_loci ++ (i + 41) ∷ []
take_locus i h = take_more all_loci i 0 h ∙ ap (λ n. take i all_loci ++ n ∷ []) (locus_at i h)

-- a round more
pub rounds-suc : (n : ℕ) → rounds n ++ all_loci ≡ rounds (n + 1)
rounds-suc zero = sym (append-nil all_loci) ∙ refl
rounds-suc (suc n) = append_assoc all_loci (rounds n) all_loci ∙ ap (λ k. all_loci ++ k) (rounds-suc n) ∙ (let e : suc (n + 1) ≡ suc n + 1 = omega arith in ap rounds e)

-- one pick more
pub picks_more : (a : AtlasState) (names : List Text) (i : ℕ) (name : Text) (o : Option ℕ) → i < length names → get_or names i [] ≡ name → locus_named a name ≡ o → picks_of a (take (i + 1) names) ≡ picks_of a (take i names) ++ picked o
picks_more a names i name o h at is = ap (picks_of a) (take_more names i [] h ∙ ap (λ (x : Text). take i names ++ x ∷ []) at) ∙ picks-append a (take i names) (name ∷ []) ∙ ap (λ ls. picks_of a (take i names) ++ ls) (by_name o is)
  where
    by_name : (o : Option ℕ) → locus_named a name ≡ o → picks_of a (name ∷ []) ≡ picked o
    by_name (Some l) is = rw is refl
    by_name None is = rw is refl

-- LOOKS

-- the run after the looks, from the opening
looked_run : (s : Supply) (script : Script) (w : KernelState) (es : List Entry) (looked : List ℕ) → es ≡ opening_from s script w ++ turns s script (run_from s script w (opening_from s script w)) looked
    → run_from s script w es ≡ run_after s script (run_from s script w (opening_from s script w)) (turns s script (run_from s script w (opening_from s script w)) looked)
looked_run s script w es looked same = ap (run_from s script w) same ∙ run_after-append s script (start_run w) (opening_from s script w) (turns s script (run_from s script w (opening_from s script w)) looked)

-- looks at more loci, behind those at some
looked_more : (s : Supply) (script : Script) (w : KernelState) (es : List Entry) (looked more : List ℕ) → es ≡ opening_from s script w ++ turns s script (run_from s script w (opening_from s script w)) looked
    → es ++ turns s script (run_from s script w es) more ≡ opening_from s script w ++ turns s script (run_from s script w (opening_from s script w)) (looked ++ more)
looked_more s script w es looked more same =
    let o = opening_from s script w in
    let r = run_from s script w o in
    let t = turns s script r looked in
    (λ i. same i ++ turns s script (looked_run s script w es looked same i) more) ∙ append_assoc o t (turns s script (run_after s script r t) more) ∙ ap (λ fs. o ++ fs) (sym (turns-append s script r looked more))

pub looked_on : (s : Supply) (script : Script) (w : KernelState) (cells new : ℕ → Cell) (es fs : List Entry) (looked : List ℕ) (l : ℕ) → HasLooked s script w cells es looked → fs ≡ es ++ turn s script (run_from s script w es) l → births_owed script (run_from s script w fs) ≡ false
    → KeepsNames (atlas_in (cells 0)) (atlas_in (new 0)) → HasLooked s script w new fs (looked ++ l ∷ [])
looked_on s script w cells new es fs looked l h next born names = record {
  born = born;
  names = keeps_then (opened_atlas s script w) (atlas_in (cells 0)) (atlas_in (new 0)) h.names names;
  picks = h.picks;
  same = next ∙ ap (λ (gs : List Entry). es ++ gs) (sym (append-nil (turn s script (run_from s script w es) l))) ∙ looked_more s script w es looked (l ∷ []) h.same;
}

pub looked_stay : (s : Supply) (script : Script) (w : KernelState) (cells new : ℕ → Cell) (es : List Entry) (looked : List ℕ) → KeepsNames (atlas_in (cells 0)) (atlas_in (new 0)) → HasLooked s script w cells es looked → HasLooked s script w new es looked
looked_stay s script w cells new es looked names h = record { born = h.born; names = keeps_then (opened_atlas s script w) (atlas_in (cells 0)) (atlas_in (new 0)) h.names names; picks = h.picks; same = h.same }

-- FRONTS OF THE SERIAL HISTORY

front_looked : (s : Supply) (script : Script) (w : KernelState) (cells : ℕ → Cell) (es : List Entry) (looked more : List ℕ) (n : ℕ) → HasLooked s script w cells es looked → looked ++ more ≡ looks_of script (run_from s script w (opening_from s script w)) n → IsSerialFront s script w es
front_looked s script w cells es looked more n h all = record {
  rounds_made = n;
  rest = turns s script (run_from s script w es) more;
  front = looked_more s script w es looked more h.same ∙ ap (λ ls. opening_from s script w ++ turns s script (run_from s script w (opening_from s script w)) ls) all;
}

few_born : (s : Supply) (state : Plain) → IsSound (cells_of s state) → names_born (atlas_of state.atlas) ≤ 63
few_born s state sound = let h = sound_here s state sound in let a = h.names.few_containers in let b = h.names.few_loci in omega (arith, a, b)

front_bearing : (s : Supply) (script : Script) (w : KernelState) (k : ℕ) (es : List Entry) → k ≤ 64 → es ≡ births k s script (start_run w) → IsSerialFront s script w es
front_bearing s script w k es few same =
    let e : 64 ≡ k + (64 - k) = omega arith in
    let b = births k s script (start_run w) in
    let rest = births (64 - k) s script (run_after s script (start_run w) b) in
    let o = opening_from s script w in
    let later = turns s script (run_from s script w o) (looks_of script (run_from s script w o) 0) in
    let split : b ++ rest ≡ o = sym (births_split s script k (64 - k) (start_run w)) ∙ ap (λ n. births n s script (start_run w)) (sym e) in
    record { rounds_made = 0; rest = rest ++ later; front = ap (λ (fs : List Entry). fs ++ (rest ++ later)) same ∙ sym (append_assoc b rest later) ∙ ap (λ (fs : List Entry). fs ++ later) split }

pub front_at : (s : Supply) (script : Script) (w : KernelState) (state : Plain) (place : Place) (es : List Entry) → IsSound (cells_of s state) → IsAt s script w state place es → IsSerialFront s script w es
front_at s script w state Births es sound h = front_bearing s script w h.count es (let k = h.few in let n = few_born s state sound in omega (arith, k, n)) h.same
front_at s script w state (Pick i) es sound h =
    let a = opened_atlas s script w in
    let order = script.order in
    front_looked s script w (cells_of s state) es (picks_of a (take i order)) (picks_of a (drop i order) ++ rounds 0) 0 h
    (sym (append_assoc (picks_of a (take i order)) (picks_of a (drop i order)) (rounds 0)) ∙ ap (λ ls. ls ++ rounds 0) (sym (picks-append a (take i order) (drop i order)) ∙ ap (picks_of a) (take-append-drop i order)))
front_at s script w state (Round n) es sound h =
    let p = picks_of (opened_atlas s script w) script.order in
    let front = take (n - 41) all_loci in
    let more = drop (n - 41) all_loci in
    let looked = p ++ rounds h.made ++ front in
    front_looked s script w (cells_of s state) es looked more (h.made + 1) h.looked
    (append_assoc (p ++ rounds h.made) front more ∙ ap (λ ls. (p ++ rounds h.made) ++ ls) (take-append-drop (n - 41) all_loci) ∙ append_assoc p (rounds h.made) all_loci ∙ ap (λ ls. p ++ ls) (rounds-suc h.made))

-- a front of a front is one
pub front_settled : (s : Supply) (script : Script) (w : KernelState) (o : Option ℕ) (es : List Entry) → IsSerialFront s script w (settled o es) → IsSerialFront s script w es
front_settled s script w o es h = record {
  rounds_made = h.rounds_made;
  rest = owed_stable o ++ h.rest;
  front = sym (append_assoc es (owed_stable o) h.rest) ∙ ap (λ (fs : List Entry). fs ++ h.rest) (sym (settled_is o es)) ∙ h.front;
}

pub stands : (s : Supply) (script : Script) (w : KernelState) (run : SerialRun) (es : List Entry) → Reaches s script w (cells_of s run.state) run.versions run.made run.owed es → AreEdges run.state.atlas.edges.items → IsAt s script w run.state run.place (settled run.owed es) → Stands s script w run es
stands s script w run es reaches edges place = record { reaches = reaches; edges = edges; place = place; front = front_settled s script w run.owed es (front_at s script w run.state run.place (settled run.owed es) reaches.sound place) }

-- THE BEGINNING

zero_at : (n k d : ℕ) → k < n → get_or (replicate n 0) k d ≡ 0
zero_at zero k d h = absurd (omega arith)
zero_at (suc n) zero d h = refl
zero_at (suc n) (suc k) d h = zero_at n k d (omega arith)

-- zeros are found at each place, also past the end
pub zeros_at : (n k : ℕ) → slice_index (replicate n 0) k ≡ 0
zeros_at zero k = refl
zeros_at (suc n) zero = refl
zeros_at (suc n) (suc k) = zeros_at n k

pub begin_stands : (s : Supply) (script : Script) (w : KernelState) (state : Plain) (versions : List ℕ) → CanBegin s script w state versions → Stands s script w (record { state = state; versions = versions; made = replicate 23 0; owed = None; place = Births }) []
begin_stands s script w state versions h = stands s script w (record { state = state; versions = versions; made = replicate 23 0; owed = None; place = Births }) []
    (record {
      legal = tt;
      has = h.has;
      quiet = record { owes = refl; short = refl; tried = refl; asked = λ x. refl };
      steps = λ l high low. sym (zeros_at 23 (l - 41));
      limit = λ k d inside. rw (zero_at 23 k d inside) (omega arith);
      long = refl;
      count = omega arith;
      low = λ x. (let n = h.has.numbers x in omega (arith, n));
      start = λ x. (let n = h.has.numbers x in let m = h.few x in omega (arith, n, m));
      sound = h.sound;
      calm = h.calm;
      rules = h.rules;
      below = tt;
    })
    h.edges (record { began = refl; count = 0; same = refl; few = omega arith; long = omega arith; fits = h.fits; code = h.code })

-- A STABLE

pub pay_stands : (s : Supply) (script : Script) (w : KernelState) (run : SerialRun) (actor : ℕ) (es : List Entry) → run.owed ≡ Some actor → Stands s script w run es → Stands s script w (record run { owed = None }) (es ++ mark Stable actor 0 ∷ [])
pay_stands s script w run actor es owed h =
    stands s script w (record run { owed = None }) (es ++ mark Stable actor 0 ∷ [])
    (reaches_stable s script w (cells_of s run.state) run.versions run.made actor es (subst (λ o. Reaches s script w (cells_of s run.state) run.versions run.made o es) owed h.reaches))
    h.edges (subst (λ o. IsAt s script w run.state run.place (settled o es)) owed h.place)

-- BIRTHS

-- what stands at the births, with nothing owed
pub bearing : (s : Supply) (script : Script) (w : KernelState) (run : SerialRun) (es : List Entry) → run.owed ≡ None → run.place ≡ Births → Stands s script w run es → IsBearing s script w run.state es
bearing s script w run es owed place h = subst (λ o. IsBearing s script w run.state (settled o es)) owed (subst (λ p. IsAt s script w run.state p (settled run.owed es)) place h.place)

reaches_none : (s : Supply) (script : Script) (w : KernelState) (run : SerialRun) (es : List Entry) → run.owed ≡ None → Stands s script w run es → Reaches s script w (cells_of s run.state) run.versions run.made None es
reaches_none s script w run es owed h = subst (λ o. Reaches s script w (cells_of s run.state) run.versions run.made o es) owed h.reaches

-- where no name is new the picks come
pub end_stands : (s : Supply) (script : Script) (w : KernelState) (run : SerialRun) (es : List Entry) → run.owed ≡ None → run.place ≡ Births → next_name (atlas_of run.state.atlas) script ≡ None → Stands s script w run es → Stands s script w (record run { place = Pick 0 }) es
end_stands s script w run es owed place none h =
    let b = bearing s script w run es owed place h in
    let cell = h.reaches.has.cells 0 in
    let born : births_owed script (run_from s script w es) ≡ false = ap is_some (ap (λ (k : Cell). next_name (atlas_in k) script) cell ∙ none) in
    let few : b.count ≤ 64 = (let k = b.few in let n = few_born s run.state h.reaches.sound in omega (arith, k, n)) in
    stands s script w (record run { place = Pick 0 }) es h.reaches h.edges
    (subst (λ o. HasLooked s script w (cells_of s run.state) (settled o es) []) (sym owed) (opened s script w (cells_of s run.state) b.count es few b.same born cell h.reaches.rules b.fits))

-- the place after a birth
birth_placed : (s : Supply) (script : Script) (w : KernelState) (run : SerialRun) (state : Plain) (vs : List ℕ) (k : ℕ) (es : List Entry) (e : Entry) (later : Option Text) → run.owed ≡ None → run.place ≡ Births
    → Reaches s script w (cells_of s state) vs run.made (owed_then later) (es ++ e ∷ []) → es ++ e ∷ owed_stable (owed_then later) ≡ births (k + 1) s script (start_run w)
    → births_owed script (run_from s script w (es ++ e ∷ [])) ≡ is_some later → (run_from s script w (es ++ e ∷ [])).began ≡ true → k + 1 ≤ names_born (atlas_of state.atlas) → length (es ++ e ∷ []) ≤ k + 1 → names_born (atlas_of state.atlas) ≤ 63
    → AreEdges state.atlas.edges.items → Fits (atlas_of state.atlas) script → HasNoSnapTables script → Stands s script w (ended later (record run { state = state; versions = vs })) (es ++ e ∷ [])
birth_placed s script w run state vs k es e None owed place reaches turned owes began more long few edges fits code =
    let fs = es ++ e ∷ [] in
    stands s script w (record run { state = state; versions = vs; owed = Some 0; place = Pick 0 }) fs reaches edges
    (opened s script w (cells_of s state) (k + 1) (settled (Some 0) fs) (omega (arith, more, few)) (append_assoc es (e ∷ []) (mark Stable 0 0 ∷ []) ∙ turned) (settled_born s script w (Some 0) fs owes)
    (ap (λ (v : KernelState). (v 0).cell) (settled_state s script w (Some 0) fs) ∙ reaches.has.cells 0) reaches.rules fits)
birth_placed s script w run state vs k es e (Some x) owed place reaches turned owes began more long few edges fits code =
    let fs = es ++ e ∷ [] in
    let bears : IsBearing s script w state fs = record { began = began; count = k + 1; same = turned; few = more; long = long; fits = fits; code = code } in
    stands s script w (record run { state = state; versions = vs }) fs (subst (λ o. Reaches s script w (cells_of s state) vs run.made o fs) (sym owed) reaches)
    edges (subst (λ o. IsAt s script w state run.place (settled o fs)) (sym owed) (subst (λ p. IsAt s script w state p fs) (sym place) bears))

-- no snap comes into a code by a birth
calm_birth : (s : Supply) (script : Script) (name : Text) (w v : KernelState) (a : AtlasState) (e : Entry) (cells new : ℕ → Cell) → (w 0).cell ≡ AtlasCell a → NextName a script name → birth s script name w ≡ Some (e, v) → HasNoSnapTables script
    → ((x : ℕ) → (w x).cell ≡ cells x) → ((x : ℕ) → (v x).cell ≡ new x) → HasNoSnaps cells → HasNoSnaps new
calm_birth s script name w v a e cells new here next made code old now calm x =
    subst (λ (k : Cell). IsTrue (has_no_snap (code_of k))) (now x)
    (birth_coded (λ code. IsTrue (has_no_snap code)) refl s script name w v a e here next made code (λ y. subst (λ (k : Cell). IsTrue (has_no_snap (code_of k))) (sym (old y)) (calm y)) x)

pub birth_stands : (s : Supply) (script : Script) (w : KernelState) (run : SerialRun) (name : Text) (later : Option Text) (state : Plain) (vs : List ℕ) (es : List Entry) (e : Entry) → run.owed ≡ None → run.place ≡ Births
    → next_name (atlas_of run.state.atlas) script ≡ Some name → Bears s script name (cells_of s run.state) run.versions e (cells_of s state) vs → AreEdges state.atlas.edges.items → IsSound (cells_of s state) → IsLow e
    → next_name (atlas_of state.atlas) script ≡ later → Stands s script w run es → Stands s script w (ended later (record run { state = state; versions = vs })) (es ++ e ∷ [])
birth_stands s script w run name later state vs es e owed place next bears edges sound low now h =
    let b = bearing s script w run es owed place h in
    let t = reaches_none s script w run es owed h in
    let a = atlas_of run.state.atlas in
    let r = run_from s script w es in
    let is = next_name_is a script name t.rules next in
    let m = bears (λ x. (r.state x).stamp) in
    let made_here : birth s script name r.state ≡ Some (e, m.0) = ap (birth s script name) (state_is r.state (cells_of s run.state) run.versions t.has) ∙ m.1 in
    let grown = born_atlas s script name r.state m.0 a e (t.has.cells 0) is made_here in
    let calm : HasNoSnaps (cells_of s state) = calm_birth s script name r.state m.0 a e (cells_of s run.state) (cells_of s state) (t.has.cells 0) is made_here b.code t.has.cells m.2.cells t.calm in
    let here : grown.0 ≡ atlas_of state.atlas = ap atlas_in (sym grown.1 ∙ m.2.cells 0) in
    let grew : Grew a (atlas_of state.atlas) script name = subst (λ (c : AtlasState). Grew a c script name) here grown.2 in
    let more = one_more_name a (atlas_of state.atlas) script name grew in
    let few = few_born s state sound in
    let made = birth_made s script name later w (cells_of s run.state) (cells_of s state) run.versions vs run.made es e t b.began next bears now sound calm low (let l = b.long in let k = b.few in omega (arith, l, k, more, few)) in
    let turned = births_more s script w b.count es (e ∷ owed_stable (owed_then later)) b.same made.turn in
    let fits = fits_after a (atlas_of state.atlas) script name t.rules b.fits (next_new a script name is) grew in
    birth_placed s script w run state vs b.count es e later owed place made.reaches turned made.owed made.began (let k = b.few in omega (arith, k, more)) (let l = b.long in let n = length-append es (e ∷ []) in omega (arith, l, n)) few edges fits b.code

-- LOOKS AT THE PLACE

born_at : (s : Supply) (script : Script) (w : KernelState) (state : Plain) (place : Place) (es : List Entry) → (place ≡ Births → ⊥) → IsAt s script w state place es → births_owed script (run_from s script w es) ≡ false
born_at s script w state Births es past h = absurd (past refl)
born_at s script w state (Pick i) es past h = h.born
born_at s script w state (Round n) es past h = h.looked.born

place_none : (s : Supply) (script : Script) (w : KernelState) (run : SerialRun) (es : List Entry) → run.owed ≡ None → Stands s script w run es → IsAt s script w run.state run.place es
place_none s script w run es owed h = subst (λ o. IsAt s script w run.state run.place (settled o es)) owed h.place

pub ready : (s : Supply) (script : Script) (w : KernelState) (run : SerialRun) (es : List Entry) → run.owed ≡ None → (run.place ≡ Births → ⊥) → Stands s script w run es → IsReady s script w run es
ready s script w run es owed past h = record { owed = owed; reaches = reaches_none s script w run es owed h; edges = h.edges; born = born_at s script w run.state run.place es past (place_none s script w run es owed h) }

same_at : (s : Supply) (script : Script) (w : KernelState) (old new : Plain) (place : Place) (es : List Entry) → (place ≡ Births → ⊥) → KeepsNames (atlas_of old.atlas) (atlas_of new.atlas) → IsAt s script w old place es → IsAt s script w new place es
same_at s script w old new Births es past names h = absurd (past refl)
same_at s script w old new (Pick i) es past names h = looked_stay s script w (cells_of s old) (cells_of s new) es _ names h
same_at s script w old new (Round n) es past names h = record {
  first = h.first;
  last = h.last;
  made = h.made;
  looked = looked_stay s script w (cells_of s old) (cells_of s new) es _ names h.looked;
}

-- a run that is ready at a place stands there
pub ready_stands : (s : Supply) (script : Script) (w : KernelState) (new : SerialRun) (es : List Entry) → IsReady s script w new es → IsAt s script w new.state new.place es → Stands s script w new es
ready_stands s script w new es r at = stands s script w new es (subst (λ o. Reaches s script w (cells_of s new.state) new.versions new.made o es) (sym r.owed) r.reaches) r.edges (subst (λ o. IsAt s script w new.state new.place (settled o es)) (sym r.owed) at)

-- nothing happened
pub still_stands : (s : Supply) (script : Script) (w : KernelState) (old new : SerialRun) (es : List Entry) → old.owed ≡ None → (old.place ≡ Births → ⊥) → new.place ≡ old.place → KeepsNames (atlas_of old.state.atlas) (atlas_of new.state.atlas) → Stands s script w old es → IsReady s script w new es → Stands s script w new es
still_stands s script w old new es owed past place names h r = ready_stands s script w new es r (subst (λ p. IsAt s script w new.state p es) (sym place) (same_at s script w old.state new.state old.place es past names (place_none s script w old es owed h)))

-- where the looks lead, with the place
turn_entries : (s : Supply) (script : Script) (w : KernelState) (l : ℕ) (es : List Entry) (e : Entry) (new : SerialRun) → IsTurn s script w l es e new → settled new.owed (es ++ e ∷ []) ≡ es ++ turn s script (run_from s script w es) l
turn_entries s script w l es e new t = settled_is new.owed (es ++ e ∷ []) ∙ append_assoc es (e ∷ []) (owed_stable new.owed) ∙ ap (λ (fs : List Entry). es ++ fs) (sym t.made)

turn_looked : (s : Supply) (script : Script) (w : KernelState) (cells : ℕ → Cell) (looked : List ℕ) (l : ℕ) (es : List Entry) (e : Entry) (new : SerialRun) → KeepsNames (atlas_in (cells 0)) (atlas_of new.state.atlas) → IsTurn s script w l es e new → HasLooked s script w cells es looked
    → HasLooked s script w (cells_of s new.state) (settled new.owed (es ++ e ∷ [])) (looked ++ l ∷ [])
turn_looked s script w cells looked l es e new names t h =
    looked_on s script w cells (cells_of s new.state) es (settled new.owed (es ++ e ∷ [])) looked l h (turn_entries s script w l es e new t) (settled_born s script w new.owed (es ++ e ∷ []) t.born) names

idle_looked : (s : Supply) (script : Script) (w : KernelState) (cells new : ℕ → Cell) (looked : List ℕ) (l : ℕ) (es : List Entry) → KeepsNames (atlas_in (cells 0)) (atlas_in (new 0)) → can_step script (run_from s script w es) l ≡ false → HasLooked s script w cells es looked → HasLooked s script w new es (looked ++ l ∷ [])
idle_looked s script w cells new looked l es names idle h =
    looked_on s script w cells new es es looked l h (sym (ap (λ (fs : List Entry). es ++ fs) (turn_idle s script (run_from s script w es) l idle) ∙ append-nil es)) h.born names

-- PICKS

pick_at : (s : Supply) (script : Script) (w : KernelState) (run : SerialRun) (i : ℕ) (es : List Entry) → run.owed ≡ None → run.place ≡ Pick i → Stands s script w run es → HasLooked s script w (cells_of s run.state) es (picks_of (opened_atlas s script w) (take i script.order))
pick_at s script w run i es owed place h = subst (λ p. IsAt s script w run.state p es) place (place_none s script w run es owed h)

pick_place : (s : Supply) (script : Script) (w : KernelState) (new : SerialRun) (i : ℕ) (name : Text) (o : Option ℕ) (fs : List Entry) → i < length script.order → get_or script.order i [] ≡ name → locus_named (opened_atlas s script w) name ≡ o → new.place ≡ Pick (i + 1)
    → HasLooked s script w (cells_of s new.state) fs (picks_of (opened_atlas s script w) (take i script.order) ++ picked o) → IsAt s script w new.state new.place fs
pick_place s script w new i name o fs few at named place h =
    subst (λ p. IsAt s script w new.state p fs) (sym place) (subst (λ ls. HasLooked s script w (cells_of s new.state) fs ls) (sym (picks_more (opened_atlas s script w) script.order i name o few at named)) h)

-- a pick has the number that it had after the births
pick_since : (s : Supply) (script : Script) (w : KernelState) (old : SerialRun) (i : ℕ) (name : Text) (o : Option ℕ) (es : List Entry) (looked : List ℕ) → i < length script.order → get_or script.order i [] ≡ name → locus_named (atlas_of old.state.atlas) name ≡ o
    → HasLooked s script w (cells_of s old.state) es looked → locus_named (opened_atlas s script w) name ≡ o
pick_since s script w old i name o es looked few at named h = named_since (opened_atlas s script w) (atlas_of old.state.atlas) script.order i name o h.picks few at h.names named

pub pick_turns : (s : Supply) (script : Script) (w : KernelState) (old new : SerialRun) (i l : ℕ) (name : Text) (es : List Entry) (e : Entry) → i < length script.order → get_or script.order i [] ≡ name → locus_named (atlas_of old.state.atlas) name ≡ Some l → old.owed ≡ None → old.place ≡ Pick i
    → new.place ≡ Pick (i + 1) → KeepsNames (atlas_of old.state.atlas) (atlas_of new.state.atlas) → Stands s script w old es → IsTurn s script w l es e new → Stands s script w new (es ++ e ∷ [])
pick_turns s script w old new i l name es e few at named owed was place names h t =
    let at_pick = pick_at s script w old i es owed was h in
    let since = pick_since s script w old i name (Some l) es _ few at named at_pick in
    stands s script w new (es ++ e ∷ []) t.reaches t.edges
    (pick_place s script w new i name (Some l) (settled new.owed (es ++ e ∷ [])) few at since place (turn_looked s script w (cells_of s old.state) _ l es e new names t at_pick))

pub pick_idles : (s : Supply) (script : Script) (w : KernelState) (old new : SerialRun) (i l : ℕ) (name : Text) (es : List Entry) → i < length script.order → get_or script.order i [] ≡ name → locus_named (atlas_of old.state.atlas) name ≡ Some l → old.owed ≡ None → old.place ≡ Pick i
    → new.place ≡ Pick (i + 1) → KeepsNames (atlas_of old.state.atlas) (atlas_of new.state.atlas) → Stands s script w old es → IsReady s script w new es → can_step script (run_from s script w es) l ≡ false → Stands s script w new es
pick_idles s script w old new i l name es few at named owed was place names h r idle =
    let at_pick = pick_at s script w old i es owed was h in
    let since = pick_since s script w old i name (Some l) es _ few at named at_pick in
    ready_stands s script w new es r (pick_place s script w new i name (Some l) es few at since place (idle_looked s script w (cells_of s old.state) (cells_of s new.state) _ l es names idle at_pick))

-- a name that nothing has is passed over
pub pick_passes : (s : Supply) (script : Script) (w : KernelState) (old : SerialRun) (i : ℕ) (name : Text) (es : List Entry) → i < length script.order → get_or script.order i [] ≡ name → locus_named (atlas_of old.state.atlas) name ≡ None → old.owed ≡ None → old.place ≡ Pick i
    → Stands s script w old es → Stands s script w (record old { place = Pick (i + 1) }) es
pick_passes s script w old i name es few at named owed was h =
    let at_pick = pick_at s script w old i es owed was h in
    let since = pick_since s script w old i name None es _ few at named at_pick in
    let new = record old { place = Pick (i + 1) } in
    let r : IsReady s script w new es = record { owed = owed; reaches = reaches_none s script w old es owed h; edges = h.edges; born = at_pick.born } in
    ready_stands s script w new es r
    (pick_place s script w new i name None es few at since refl (subst (λ ls. HasLooked s script w (cells_of s old.state) es ls) (sym (append-nil (picks_of (opened_atlas s script w) (take i script.order)))) at_pick))

take_all : {A : Type 0} (xs : List A) (i : ℕ) → length xs ≤ i → take i xs ≡ xs
take_all [] zero h = refl
take_all [] (suc i) h = refl
take_all (x ∷ xs) zero h = absurd (omega (arith, h))
take_all (x ∷ xs) (suc i) h = ap (λ ys. x ∷ ys) (take_all xs i (omega (arith, h)))

-- the picks are over
pub picks_over : (s : Supply) (script : Script) (w : KernelState) (old : SerialRun) (i : ℕ) (es : List Entry) → length script.order ≤ i → old.owed ≡ None → old.place ≡ Pick i → Stands s script w old es → Stands s script w (record old { place = Round 41 }) es
picks_over s script w old i es past owed was h =
    let at_pick = pick_at s script w old i es owed was h in
    let new = record old { place = Round 41 } in
    let a = opened_atlas s script w in
    let r : IsReady s script w new es = record { owed = owed; reaches = reaches_none s script w old es owed h; edges = h.edges; born = at_pick.born } in
    let all : picks_of a (take i script.order) ≡ (picks_of a script.order ++ []) ++ [] = ap (picks_of a) (take_all script.order i past) ∙ sym (append-nil (picks_of a script.order)) ∙ sym (append-nil (picks_of a script.order ++ [])) in
    let in_round : IsInRound s script w (cells_of s old.state) es 41 = record { first = omega arith; last = omega arith; made = 0; looked = subst (λ ls. HasLooked s script w (cells_of s old.state) es ls) all at_pick } in
    ready_stands s script w new es r in_round

-- ROUNDS

round_at : (s : Supply) (script : Script) (w : KernelState) (run : SerialRun) (n : ℕ) (es : List Entry) → run.owed ≡ None → run.place ≡ Round n → Stands s script w run es → IsInRound s script w (cells_of s run.state) es n
round_at s script w run n es owed place h = subst (λ p. IsAt s script w run.state p es) place (place_none s script w run es owed h)

-- where a round is
pub round_within : (s : Supply) (script : Script) (w : KernelState) (run : SerialRun) (n : ℕ) (es : List Entry) → run.owed ≡ None → run.place ≡ Round n → Stands s script w run es → (41 ≤ n) × (n ≤ 64)
round_within s script w run n es owed place h = let r = round_at s script w run n es owed place h in (r.first, r.last)

take_next : (n : ℕ) → 41 ≤ n → n < 64 → take (n + 1 - 41) all_loci ≡ take (n - 41) all_loci ++ n ∷ []
take_next n low high =
    let next : n + 1 - 41 ≡ n - 41 + 1 = omega arith in
    let back : n - 41 + 41 ≡ n = omega arith in
    ap (λ k. take k all_loci) next ∙ take_locus (n - 41) (omega arith) ∙ ap (λ k. take (n - 41) all_loci ++ k ∷ []) back

round_place : (s : Supply) (script : Script) (w : KernelState) (new : SerialRun) (n m : ℕ) (fs : List Entry) → 41 ≤ n → n < 64 → new.place ≡ Round (n + 1)
    → HasLooked s script w (cells_of s new.state) fs ((picks_of (opened_atlas s script w) script.order ++ rounds m ++ take (n - 41) all_loci) ++ n ∷ []) → IsAt s script w new.state new.place fs
round_place s script w new n m fs low high place h =
    let p = picks_of (opened_atlas s script w) script.order in
    let front = take (n - 41) all_loci in
    let looked : (p ++ rounds m ++ front) ++ n ∷ [] ≡ p ++ rounds m ++ take (n + 1 - 41) all_loci = append_assoc (p ++ rounds m) front (n ∷ []) ∙ ap (λ ls. (p ++ rounds m) ++ ls) (sym (take_next n low high)) in
    let in_round : IsInRound s script w (cells_of s new.state) fs (n + 1) = record { first = omega arith; last = omega arith; made = m; looked = subst (λ ls. HasLooked s script w (cells_of s new.state) fs ls) looked h } in
    subst (λ q. IsAt s script w new.state q fs) (sym place) in_round

pub round_turns : (s : Supply) (script : Script) (w : KernelState) (old new : SerialRun) (n : ℕ) (es : List Entry) (e : Entry) → 41 ≤ n → n < 64 → old.owed ≡ None → old.place ≡ Round n → new.place ≡ Round (n + 1) → KeepsNames (atlas_of old.state.atlas) (atlas_of new.state.atlas)
    → Stands s script w old es → IsTurn s script w n es e new → Stands s script w new (es ++ e ∷ [])
round_turns s script w old new n es e low high owed was place names h t =
    let r = round_at s script w old n es owed was h in
    stands s script w new (es ++ e ∷ []) t.reaches t.edges (round_place s script w new n r.made (settled new.owed (es ++ e ∷ [])) low high place (turn_looked s script w (cells_of s old.state) _ n es e new names t r.looked))

pub round_idles : (s : Supply) (script : Script) (w : KernelState) (old new : SerialRun) (n : ℕ) (es : List Entry) → 41 ≤ n → n < 64 → old.owed ≡ None → old.place ≡ Round n → new.place ≡ Round (n + 1) → KeepsNames (atlas_of old.state.atlas) (atlas_of new.state.atlas)
    → Stands s script w old es → IsReady s script w new es → can_step script (run_from s script w es) n ≡ false → Stands s script w new es
round_idles s script w old new n es low high owed was place names h q idle =
    let r = round_at s script w old n es owed was h in
    ready_stands s script w new es q (round_place s script w new n r.made es low high place (idle_looked s script w (cells_of s old.state) (cells_of s new.state) _ n es names idle r.looked))

-- a round is over
pub round_over : (s : Supply) (script : Script) (w : KernelState) (old : SerialRun) (es : List Entry) → old.owed ≡ None → old.place ≡ Round 64 → Stands s script w old es → Stands s script w (record old { place = Round 41 }) es
round_over s script w old es owed was h =
    let r = round_at s script w old 64 es owed was h in
    let new = record old { place = Round 41 } in
    let p = picks_of (opened_atlas s script w) script.order in
    let q : IsReady s script w new es = record { owed = owed; reaches = reaches_none s script w old es owed h; edges = h.edges; born = r.looked.born } in
    let all : (p ++ rounds r.made) ++ take 23 all_loci ≡ (p ++ rounds (r.made + 1)) ++ [] = ap (λ ls. (p ++ rounds r.made) ++ ls) (take_all all_loci 23 (omega arith)) ∙ append_assoc p (rounds r.made) all_loci ∙ ap (λ ls. p ++ ls) (rounds-suc r.made) ∙ sym (append-nil (p ++ rounds (r.made + 1))) in
    let in_round : IsInRound s script w (cells_of s old.state) es 41 = record { first = omega arith; last = omega arith; made = r.made + 1; looked = subst (λ ls. HasLooked s script w (cells_of s old.state) es ls) all r.looked } in
    ready_stands s script w new es q in_round

-- where each locus is idle at the end of a round, the serial history is over
pub all_over : (s : Supply) (script : Script) (w : KernelState) (run : SerialRun) (es : List Entry) → run.owed ≡ None → run.place ≡ Round 41 → Stands s script w run es → ((l : ℕ) → 41 ≤ l → l < 64 → can_step script (run_from s script w es) l ≡ false) → IsSerial s script w es
all_over s script w run es owed place h idle =
    let r = round_at s script w run 41 es owed place h in
    let o = opening_from s script w in
    let p = picks_of (opened_atlas s script w) script.order in
    let loci : (p ++ rounds r.made) ++ [] ≡ looks_of script (run_from s script w o) r.made = append-nil (p ++ rounds r.made) in
    record {
      rounds_made = r.made;
      same = r.looked.same ∙ ap (λ ls. o ++ turns s script (run_from s script w o) ls) loci;
      over = record { born = r.looked.born; idle = idle };
    }
