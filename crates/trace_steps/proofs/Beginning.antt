-- A checker before the first entry.
use Rattle.std.proofs.Common.{◌≡◌, ℕ, ◌<◌, ◌≤◌, ◌^◌, Bool, true, false, nat_le, nat_lt, if◌then◌else◌, List, [], ◌∷◌, length, filter, replicate, Option, Some, None, is_some, IfSome, IfNone, slice_index, refl, sym, ap, ◌∙◌, arith, inl, inr}
use Rattle.std.specs.List.{All}
use Rattle.std.proofs.lemmas.Bool.{cases_lt}
use Rattle.std.proofs.lemmas.Bool.Decides.{nat_tests}
use Rattle.std.proofs.lemmas.List.{get_or_past}
use Rattle.base_types.specs.Edges.{upto}
use Rattle.plain_states.specs.model_kernel.Choices.{Commit}
use Rattle.plain_states.specs.model_kernel.Histories.{Policy, Run, chosen_commits, commits_of, start_run}
use Rattle.plain_states.specs.model_kernel.Scripts.{Script, next_name}
use Rattle.plain_states.specs.model_kernel.Soundness.{IsSound}
use Rattle.plain_states.specs.model_kernel.State.{KernelState, Supply}
use Rattle.model_run_rules.specs.model_cut_laws.Agreeing.{from_cut}
use Rattle.model_run_rules.specs.model_cut_laws.Records.{commits_of as rec_commits}
use Rattle.plain_states.specs.Born.{AreEdges, AreOfOneKind}
use Rattle.plain_states.specs.Plains.{atlas_of, cells_of}
use Rattle.plain_states.specs.declared.plain.Plain.{Plain}
use Rattle.trace_step_facts.proofs.plain_runs_lemmas.Placing.{zeros_at}
use Rattle.model_run_rules.proofs.model_run_laws_lemmas.Cuts.{chosen_same}
use Rattle.script_types.specs.Rules.{IsScript}
use Rattle.plain_states.proofs.model_sound_runs_lemmas.Counting.{upto_less}
use Rattle.trace_state.specs.Clocks.{clock_at}
use Rattle.trace_state.specs.Cuts.{records_of}
use Rattle.trace_step_facts.specs.data_cut_facts.Searches.{mark_at}
use Rattle.trace_state.specs.declared.clocks.Clocks.{Clocks}
use Rattle.trace_state.specs.declared.cuts.Cuts.{Cuts}
use Rattle.trace_state.specs.declared.wishes.Wishes.{Wishes}
use Rattle.trace_step_facts.specs.Keeping.{HasClocks, HasCuts}
use Rattle.trace_step_facts.specs.Recording.{Opens, is_changed}
use Rattle.trace_steps.specs.Standing.{Stands}
use Rattle.trace_step_facts.specs.Standing.{fresh}
use Rattle.trace_step_facts.proofs.Recording.{filter_same, filtered_less, records_same}
use Rattle.trace_step_facts.proofs.Running.{full_of}

le_itself : (n : ℕ) → nat_le n n ≡ true
le_itself n = grind (arith, nat_tests)

-- each chosen record is at the cut
chosen_kept : (w : KernelState) (xs : List ℕ) → from_cut (λ x. (w x).version) (chosen_commits w xs) ≡ chosen_commits w xs
chosen_kept w [] = refl
chosen_kept w (x ∷ xs) =
    let c : Commit = record { entity = x; version = (w x).version; stamp = (w x).stamp } in
    ap (λ (b : Bool). if b then c ∷ from_cut (λ x. (w x).version) (chosen_commits w xs) else from_cut (λ x. (w x).version) (chosen_commits w xs)) (le_itself (w x).version)
    ∙ ap (λ (cs : List Commit). c ∷ cs) (chosen_kept w xs)

module _ (s : Supply) (p : Plain) (versions : List ℕ) where
  abbrev start : Run
  start = start_run (fresh s p versions)

  clocks_at_start : (clocks : Clocks) → ((x y : ℕ) → clock_at clocks x y ≡ 0) → HasClocks start clocks
  clocks_at_start clocks zero = record { clocks = λ x y low. zero x y }

  cuts_at_start : (clocks : Clocks) (cuts : Cuts) → ((x y : ℕ) → clock_at clocks x y ≡ 0) → Opens versions (clock_at clocks) cuts → HasCuts start cuts
  cuts_at_start clocks cuts zero o =
      let some = λ (x : ℕ). nat_lt 0 (slice_index versions x) in
      let changed = is_changed (replicate 64 0) versions in
      let less = upto_less 64 64 (omega arith) in
      let same : filter changed (upto 64) ≡ filter some (upto 64) = filter_same changed some 64 (upto 64) less (λ x low. ap (λ n. nat_lt n (slice_index versions x)) (zeros_at 64 x)) in
      let xs = filter some (upto 64) in
      let news : rec_commits o.recs.news ≡ commits_of start (filter changed (upto 64)) =
      records_same start versions clocks (filter changed (upto 64)) o.recs.news (filtered_less changed 64 (upto 64) less) (λ x. refl) (clocks_at_start clocks zero) o.recs.records in
      record {
        start = λ x. ap (λ vs. slice_index vs x) o.start;
        cut = λ x. ap (λ vs. slice_index vs x) o.cut;
        recs = ap rec_commits o.recs.list ∙ news ∙ ap (commits_of start) same ∙ sym (chosen_same (fresh s p versions) xs) ∙ sym (chosen_kept (fresh s p versions) xs);
      }

  pub begin_stands : (policy : Policy) (script : Script) (clocks : Clocks) (cuts : Cuts) (wishes : Wishes) (births : Bool) → IsSound (cells_of s p) → AreEdges p.atlas.edges.items
      → ((x : ℕ) → slice_index versions x ≤ 2 ^ 62) → ((x : ℕ) → 64 ≤ x → slice_index versions x ≡ 0) → IsScript script → AreOfOneKind (atlas_of p.atlas) script
      → ((x y : ℕ) → clock_at clocks x y ≡ 0) → Opens versions (clock_at clocks) cuts
      → wishes.newest ≡ versions → ((x : ℕ) → mark_at wishes.by_step x ≡ false) → ((x : ℕ) → mark_at wishes.asked x ≡ false) → ((x : ℕ) → mark_at wishes.was_full x ≡ false)
      → ((x : ℕ) → x < 64 → mark_at wishes.full x ≡ nat_le 4 (records_of cuts.recs.items x))
      → is_some (next_name (atlas_of p.atlas) script) ≡ births
      → Stands s policy script (fresh s p versions) (record { state = p; versions = versions; clocks = clocks; wishes = wishes; cuts = cuts; made = replicate 64 0; began = true; owed = None; short = false; births_left = births; tried = false }) []
  begin_stands policy script clocks cuts wishes births sound edges low narrow rules kinds zero opens newest by_step asked was_full full left =
      let has = cuts_at_start clocks cuts zero opens in
      record {
        run = record { rules = rules; kinds = kinds.containers; sound = sound; below = λ x y. omega arith; narrow = narrow; low = low; legal = tt };
        keeps = record {
          has = record { cells = λ x. refl; numbers = λ x. refl };
          sound = sound;
          edges = edges;
          clocks = clocks_at_start clocks zero;
          wishes = record {
            newest = λ x h. ap (λ vs. slice_index vs x) (sym newest);
            by_step = λ x h. sym (by_step x);
            asked = λ x h. sym (asked x);
            was_full = λ x h. sym (was_full x);
            full = λ x h. full_of start cuts x has ∙ sym (full x h);
          };
          cuts = has;
          marks = record { began = refl; owed = refl; short = refl; made = λ x h. sym (zeros_at 64 x); births = left; tried = refl };
          kinds = λ b. kinds;
        };
      }

-- VERSIONS IN A LIST

pub low_at : (versions : List ℕ) → All (λ v. v ≤ 2 ^ 62) versions → (x : ℕ) → slice_index versions x ≤ 2 ^ 62
low_at versions low x =
    elim (cases_lt x (length versions)) as (λ _. slice_index versions x ≤ 2 ^ 62) [
      | inl inside ↦ low x 0 inside
      | inr past ↦ (let e : slice_index versions x ≡ 0 = get_or_past versions x 0 past in omega (arith, e))
    ]

pub none_past : (versions : List ℕ) → length versions ≡ 64 → (x : ℕ) → 64 ≤ x → slice_index versions x ≡ 0
none_past versions long x h = get_or_past versions x 0 (omega (arith, long, h))

-- WHETHER A NAME IS LEFT

pub left_same : {X Y : Type 0} (f : X → Y) (o : Option X) (n : Option Y) → IfSome o (λ x. n ≡ Some (f x)) → IfNone o (n ≡ None) → is_some n ≡ is_some o
left_same f None n some none = ap is_some none
left_same f (Some x) n some none = ap is_some some
