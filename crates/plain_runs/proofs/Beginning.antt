-- A run that begins with nothing.
use Rattle.std.proofs.Common.{◌≡◌, ℕ, ◌≤◌, true, false, ◌==◌, nat_lt, if◌then◌else◌, IsTrue, List, [], ◌∷◌, ◌*◌, length, sum_by, map, replicate, Option, Some, None, is_none, string_bytes, refl, sym, ap, subst, ◌∙◌, arith}
use Rattle.std.specs.List.{All}
use Rattle.std.proofs.lemmas.List.Elements.{All-cons, All-nil}
use Rattle.std.proofs.lemmas.List.Sums.{count_by-le-length}
use Rattle.base_types.specs.declared.histories.Entry.{Entry}
use Rattle.base_types.specs.declared.histories.Event.TheVariants.{Stable}
use Rattle.plain_steps.specs.model_kernel.Histories.{mark}
use Rattle.std.proofs.lemmas.List.{length-append}
use Rattle.plain_steps.proofs.plain_facts_lemmas.Stepping.{few_made}
use Rattle.plain_steps.specs.model_kernel.Output.{output_of}
use Rattle.plain_steps.specs.model_kernel.Scripts.{ContainerTable, LocusTable, Script, container_named, locus_named, number_of, place_of}
use Rattle.plain_steps.specs.model_kernel.State.{Supply, Text, AtlasState, Cell, NotBorn, AtlasCell, KernelState, empty_state, no_atlas}
use Rattle.plain_steps.specs.model_kernel.Steps.{atlas_in}
use Rattle.script_types.specs.Rules.{IsScript}
use Rattle.plain_states.proofs.EmptyLemmas.{sound_empty}
use Rattle.plain_steps.proofs.plain_facts_lemmas.PlainSteps.{same_sound}
use Rattle.plain_states.specs.Born.{AreEdges}
use Rattle.plain_states.specs.Plains.{atlas_of, cells_by, cells_of, edges_of}
use Rattle.plain_states.specs.declared.plain.Edge.{Edge}
use Rattle.plain_states.specs.declared.plain.Plain.{Plain}
use Rattle.plain_runs.specs.Plays.{IsPlay}
use Rattle.plain_steps.specs.plain_facts.Snaps.{HasNoSnapTables, code_of, has_no_snap}
use Rattle.plain_steps.specs.plain_facts.Standing.{CanBegin, settled}
use Rattle.plain_runs.specs.Standing.{Stands}
use Rattle.plain_runs.specs.declared.serial.SerialRun.{SerialRun}
use Rattle.plain_runs.proofs.Placing.{zeros_at}
use Rattle.plain_steps.specs.model_births.Fitting.{Fits}

-- nothing but the atlas is born
pub record IsEmpty (p : Plain) : Type 0 where
  pub containers : p.containers.items ≡ []
  pub loci : p.loci.items ≡ []
  pub names : p.atlas.containers.items ≡ []
  pub locus_names : p.atlas.loci.items ≡ []
  pub edges : p.atlas.edges.items ≡ []

no_container : (s : Supply) (x : ℕ) → cells_by s no_atlas [] [] x ≡ (empty_state x).cell
no_container s x =
    elim (x == 0) as (λ t. (if t then AtlasCell no_atlas else if nat_lt x 41 then NotBorn else NotBorn) ≡ (if t then AtlasCell no_atlas else NotBorn)) [
      | true ↦ refl
      | false ↦ elim (nat_lt x 41) as (λ t. (if t then NotBorn else NotBorn) ≡ NotBorn) [ true ↦ refl | false ↦ refl ]
    ]

-- an empty plain state has the cells of no names and no items
plain_cells : (p : Plain) → IsEmpty p → (s : Supply) (x : ℕ) → cells_of s p x ≡ cells_by s no_atlas [] [] x
plain_cells p h s x = λ i. cells_by s (record { containers = map string_bytes (h.names i); loci = map string_bytes (h.locus_names i); edges = edges_of (h.edges i) }) (h.containers i) (h.loci i) x

all_containers : (P : ContainerTable → Type 0) (ts : List ContainerTable) → ((t : ContainerTable) → P t) → All P ts
all_containers P [] f = All-nil P
all_containers P (t ∷ ts) f = All-cons P t ts (f t) (all_containers P ts f)

all_loci : (P : LocusTable → Type 0) (ts : List LocusTable) → ((t : LocusTable) → P t) → All P ts
all_loci P [] f = All-nil P
all_loci P (t ∷ ts) f = All-cons P t ts (f t) (all_loci P ts f)

-- each script fits a state of no names
fits_empty : (a : AtlasState) (script : Script) → IsScript script → a.containers ≡ [] → a.loci ≡ [] → Fits a script
fits_empty a script rules none blank = record {
  kinds = record {
    containers = all_containers (λ (t : ContainerTable). locus_named a t.name ≡ None) script.containers (λ t. ap (λ (ts : List Text). place_of t.name ts 41) blank);
    loci = all_loci (λ (t : LocusTable). container_named a t.name ≡ None) script.loci (λ t. ap (λ (ts : List Text). place_of t.name ts 1) none);
  };
  containers = (let n = ap length none in let m = count_by-le-length (λ (t : ContainerTable). is_none (number_of a t.name)) script.containers in let k = rules.few_containers in omega (arith, n, m, k));
  loci = (let n = ap length blank in let m = count_by-le-length (λ (t : LocusTable). is_none (number_of a t.name)) script.loci in let k = rules.few_loci in omega (arith, n, m, k));
}

no_edges : AreEdges []
no_edges = record { ascending = tt; counts = All-nil (λ (e : Edge). 1 ≤ e.count) }

-- nothing is born, and so no code has a snap
calm_empty : (x : ℕ) → IsTrue (has_no_snap (code_of (empty_state x).cell))
calm_empty x = elim (x == 0) as (λ t. IsTrue (has_no_snap (code_of (if t then AtlasCell no_atlas else NotBorn)))) [ true ↦ refl | false ↦ refl ]

pub can_begin : (s : Supply) (script : Script) (p : Plain) → IsEmpty p → IsScript script → HasNoSnapTables script → CanBegin s script empty_state p (replicate 64 0)
can_begin s script p h rules code = record {
  has = record { cells = λ x. sym (plain_cells p h s x ∙ no_container s x); numbers = λ x. sym (zeros_at 64 x) };
  few = λ x. (let n = zeros_at 64 x in omega (arith, n));
  sound = same_sound (cells_by s no_atlas [] []) (cells_of s p) (plain_cells p h s) (no_atlas, sound_empty s);
  edges = subst AreEdges (sym h.edges) no_edges;
  rules = rules;
  fits = fits_empty (atlas_of p.atlas) script rules (ap (map string_bytes) h.names) (ap (map string_bytes) h.locus_names);
  calm = λ x. subst (λ (k : Cell). IsTrue (has_no_snap (code_of k))) (sym (plain_cells p h s x ∙ no_container s x)) (calm_empty x);
  code = code;
}

-- what stands is a play
pub play_of : (s : Supply) (script : Script) (run : SerialRun) (state : Plain) (es : List Entry) → state ≡ run.state → Stands s script empty_state run es → IsPlay s script (cells_of s state) es
play_of s script run state es same h = subst (λ (p : Plain). IsPlay s script (cells_of s p) es) (sym same) (record {
  legal = h.reaches.legal;
  front = h.front;
  printed = ap (λ (k : Cell). output_of (atlas_in k) es) (sym (h.reaches.has.cells 0));
  sound = h.reaches.sound;
})

-- a run makes no more entries than this
pub few_entries : (s : Supply) (script : Script) (w : KernelState) (run : SerialRun) (es : List Entry) → Stands s script w run es → length es ≤ 1840064
few_entries s script w run es h =
    let t = h.reaches in
    let bound : sum_by (λ n. n) run.made ≤ length run.made * script.steps = few_made run.made script.steps t.limit in
    let top = t.rules.steps.1 in
    let total : length run.made * script.steps ≤ 23 * 40000 = rw t.long (omega (arith, top)) in
    let n = longer run.owed in
    let k = t.count in
    omega (arith, n, k, bound, total)
  where
    longer : (o : Option ℕ) → length es ≤ length (settled o es)
    longer None = omega arith
    longer (Some actor) = let n = length-append es (mark Stable actor 0 ∷ []) in omega (arith, n)
