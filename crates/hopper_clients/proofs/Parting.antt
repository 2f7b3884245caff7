-- Where a source parts that was made of a script, a line `---` and a trace.
use Rattle.std.proofs.Common.{◌≡◌, ℕ, suc, ◌+◌, ◌≤◌, ◌==◌, ◌&&◌, not, cond, Bool, true, false, if◌then◌else◌, [], ◌∷◌, ◌++◌, length, take, drop, bytes_eq, codes, Some, None, refl, sym, ap, subst, ◌∙◌, ◌⊎◌, inl, inr, append_assoc, arith}
use Rattle.std.specs.List.{before_first, position_or_len}
use Rattle.std.proofs.Math.Seq.{drop-append_seam, take-append_seam}
use Rattle.std.proofs.lemmas.List.{length-append}
use Rattle.hopper_top.proofs.command_promises_lemmas.TracedMeaning.{meaning_ok}
use Rattle.command_outcomes.specs.model_kernel.Scripts.{Script as Tables}
use Rattle.command_outcomes.specs.model_kernel.State.{Text}
use Rattle.hopper_top.specs.command_source.Sources.{IsAccepted}
use Rattle.hopper_top.specs.command_promises.SourceParts.{is_rule, rule_from}
use Rattle.hopper_top.specs.command_promises.Sources.{MeansTraced}
use Rattle.base_managers.specs.Managing.{ManagerTables}
use Rattle.script_reading.specs.script_meaning.Meaning.{Source as ScriptSource, script_meaning}
use Rattle.hopper_clients.specs.TracePromise.{IsTraceable, most_bytes, traced_source}

-- THE FIRST LINE

abbrev is_feed : ℕ → Bool
is_feed b = b == 10

before_feed : (c : ℕ) (bytes : Text) → (c == 10) ≡ true → before_first is_feed (c ∷ bytes) ≡ []
before_feed c bytes is = ap (λ t. take (cond (not t) (1 + position_or_len is_feed bytes) 0) (c ∷ bytes)) is

before_more : (c : ℕ) (bytes : Text) → (c == 10) ≡ false → before_first is_feed (c ∷ bytes) ≡ c ∷ before_first is_feed bytes
before_more c bytes is =
    let n = position_or_len is_feed bytes in
    let more : 1 + n ≡ suc n = omega arith in
    ap (λ t. take (cond (not t) (1 + n) 0) (c ∷ bytes)) is ∙ ap (λ m. take m (c ∷ bytes)) more

-- a text with a line feed at its end, or an empty one where a line begins
abbrev pub Closes : Bool → Text → Type 0
Closes begins [] = begins ≡ true
Closes begins (c ∷ bytes) = Closes (c == 10) bytes

-- the first line of what closes is the same with more behind it
line_kept : (c : ℕ) (bytes behind : Text) → Closes (c == 10) bytes → before_first is_feed (c ∷ (bytes ++ behind)) ≡ before_first is_feed (c ∷ bytes)
line_kept c [] behind closes = before_feed c behind closes ∙ sym (before_feed c [] closes)
line_kept c (d ∷ bytes) behind closes =
    elim (c == 10) as (λ b. (c == 10) ≡ b → before_first is_feed (c ∷ ((d ∷ bytes) ++ behind)) ≡ before_first is_feed (c ∷ d ∷ bytes)) [
      | true ↦ λ is. before_feed c ((d ∷ bytes) ++ behind) is ∙ sym (before_feed c (d ∷ bytes) is)
      | false ↦ λ is. before_more c ((d ∷ bytes) ++ behind) is ∙ ap (λ (t : Text). c ∷ t) (line_kept d bytes behind closes) ∙ sym (before_more c (d ∷ bytes) is)
    ] refl

-- WHERE THE LINE IS

none_some : {A : Type 0} {B : Type 0} (x : A) → Some x ≡ None → B
none_some {A} {B} x e = absurd (apart e)
  where
    apart : Some x ≡ None → ⊥
    apart e = cc

no_rule : (begins : Bool) (c : ℕ) (bytes : Text) (at : ℕ) → rule_from begins (c ∷ bytes) at ≡ None → ((begins && is_rule (c ∷ bytes)) ≡ false) × (rule_from (c == 10) bytes (at + 1) ≡ None)
unfolding rule_from
no_rule begins c bytes at none =
    elim (begins && is_rule (c ∷ bytes)) as (λ o. (begins && is_rule (c ∷ bytes)) ≡ o → (if o then Some at else rule_from (c == 10) bytes (at + 1)) ≡ None → ((begins && is_rule (c ∷ bytes)) ≡ false) × (rule_from (c == 10) bytes (at + 1) ≡ None)) [
      | true ↦ λ is e. none_some at e
      | false ↦ λ is e. (is, e)
    ] refl none

rule_on : (begins : Bool) (c : ℕ) (bytes : Text) (at : ℕ) → (begins && is_rule (c ∷ bytes)) ≡ false → rule_from begins (c ∷ bytes) at ≡ rule_from (c == 10) bytes (at + 1)
unfolding rule_from
rule_on begins c bytes at is = ap (λ o. if o then Some at else rule_from (c == 10) bytes (at + 1)) is

rule_at : (behind : Text) (at : ℕ) → rule_from true (codes "---" ++ 10 ∷ behind) at ≡ Some at
unfolding rule_from
rule_at behind at = refl

-- behind a script without the line it is the line that was put there
rule_behind : (begins : Bool) (script behind : Text) (at : ℕ) → Closes begins script → rule_from begins script at ≡ None → rule_from begins (script ++ (codes "---" ++ 10 ∷ behind)) at ≡ Some (at + length script)
rule_behind begins [] behind at closes none =
    let n : at ≡ at + 0 = omega arith in
    ap (λ b. rule_from b (codes "---" ++ 10 ∷ behind) at) closes ∙ rule_at behind at ∙ ap (λ (m : ℕ). Some m) n
rule_behind begins (c ∷ script) behind at closes none =
    let k = no_rule begins c script at none in
    let more = codes "---" ++ 10 ∷ behind in
    let same : (begins && is_rule (c ∷ (script ++ more))) ≡ false = ap (λ (t : Text). begins && bytes_eq t (codes "---")) (line_kept c script more closes) ∙ k.0 in
    let n : at + 1 + length script ≡ at + length (c ∷ script) = omega arith in
    rule_on begins c (script ++ more) at same ∙ rule_behind (c == 10) script behind (at + 1) closes k.1 ∙ ap (λ (m : ℕ). Some m) n

closes : (script : Text) → (script ≡ []) ⊎ ((front : Text) × (script ≡ front ++ 10 ∷ [])) → Closes true script
closes script (inl empty) = subst (Closes true) (sym empty) refl
closes script (inr ends) = subst (Closes true) (sym ends.1) (behind true ends.0)
  where
    behind : (begins : Bool) (front : Text) → Closes begins (front ++ 10 ∷ [])
    behind begins [] = refl
    behind begins (c ∷ front) = behind (c == 10) front

module _ (script trace : Text) (can : IsTraceable script) where
  pub rule_place : rule_from true (traced_source script trace) 0 ≡ Some (length script)
  rule_place =
      let n : 0 + length script ≡ length script = omega arith in
      ap (λ (t : Text). rule_from true t 0) (append_assoc script (codes "---") (10 ∷ trace)) ∙ rule_behind true script trace 0 (closes script can.ends) can.no_rule ∙ ap (λ (m : ℕ). Some m) n

  script_part : take (length script) (traced_source script trace) ≡ script
  script_part = ap (take (length script)) (append_assoc script (codes "---") (10 ∷ trace)) ∙ take-append_seam script (codes "---" ++ 10 ∷ trace)

  trace_part : drop (length script + 4) (traced_source script trace) ≡ trace
  trace_part =
      let front = (script ++ codes "---") ++ 10 ∷ [] in
      let size : length front ≡ length script + 4 = (let m = length-append (script ++ codes "---") (10 ∷ []) in let n = length-append script (codes "---") in omega (arith, m, n)) in
      let whole : traced_source script trace ≡ front ++ trace = sym (append_assoc (script ++ codes "---") (10 ∷ []) trace) in
      (λ i. drop (sym size i) (whole i)) ∙ drop-append_seam front trace

  -- the source means the script with its managers, and the trace
  pub means_both : (tables : Tables) (brought : ManagerTables) → IsAccepted script tables brought → length (traced_source script trace) ≤ most_bytes
      → MeansTraced (traced_source script trace) (record { script = tables; brought = brought; trace = trace })
  means_both tables brought accepted short =
      let source : ScriptSource = record { script = record { tables = tables; frames = accepted.0 }; managers = brought } in
      meaning_ok (traced_source script trace) short (length script) rule_place source trace (ap script_meaning script_part ∙ accepted.1) (sym trace_part)
