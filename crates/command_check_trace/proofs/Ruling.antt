-- Where the first line `---` begins, byte by byte.
use Rattle.std.proofs.Common.{◌≡◌, ℕ, suc, ◌+◌, ◌-◌, ◌<◌, ◌==◌, ◌&&◌, Bool, true, false, if◌then◌else◌, [], ◌∷◌, length, drop, take, get_or, Some, None, sym, ap, ◌∙◌}
use Rattle.std.proofs.Math.Seq.{drop-cons, take-length}
use Rattle.std.proofs.Math.Numerals.{add-one}
use Rattle.std.proofs.Math.ListN.{length-drop}
use Rattle.plain_states.specs.model_kernel.State.{Text}
use Rattle.command_promises.specs.SourceParts.{is_rule, rule_from}

rule_cons : (begins : Bool) (b : ℕ) (bytes : Text) (at : ℕ) (o : Bool) → (begins && is_rule (b ∷ bytes)) ≡ o → rule_from begins (b ∷ bytes) at ≡ (if o then Some at else rule_from (b == 10) bytes (at + 1))
unfolding rule_from
rule_cons begins b bytes at o is = ap (λ c. if c then Some at else rule_from (b == 10) bytes (at + 1)) is

rule_nil : (begins : Bool) (at : ℕ) → rule_from begins [] at ≡ None
unfolding rule_from
rule_nil begins at = λ i. None

module _ (begins : Bool) (bytes : Text) (at : ℕ) (lt : at < length bytes) where
  cut : drop at bytes ≡ get_or bytes at 0 ∷ drop (suc at) bytes
  cut = drop-cons bytes at 0 lt

  pub rule_here : (begins && is_rule (drop at bytes)) ≡ true → rule_from begins (drop at bytes) at ≡ Some at
  rule_here is = ap (λ (t : Text). rule_from begins t at) cut ∙ rule_cons begins (get_or bytes at 0) (drop (suc at) bytes) at true (ap (λ (t : Text). begins && is_rule t) (sym cut) ∙ is)

  pub rule_later : (begins && is_rule (drop at bytes)) ≡ false → rule_from begins (drop at bytes) at ≡ rule_from (get_or bytes at 0 == 10) (drop (at + 1) bytes) (at + 1)
  rule_later is =
      ap (λ (t : Text). rule_from begins t at) cut
      ∙ (rule_cons begins (get_or bytes at 0) (drop (suc at) bytes) at false (ap (λ (t : Text). begins && is_rule t) (sym cut) ∙ is)
      ∙ ap (λ n. rule_from (get_or bytes at 0 == 10) (drop n bytes) (at + 1)) (sym (add-one at)))

-- behind the last byte there is none
pub rule_end : (begins : Bool) (bytes : Text) (at : ℕ) → drop at bytes ≡ [] → rule_from begins (drop at bytes) at ≡ None
rule_end begins bytes at none = ap (λ (t : Text). rule_from begins t at) none ∙ rule_nil begins at

-- the rest of the bytes, as a slice has it
pub rest_whole : (bytes : Text) (at : ℕ) → take (length bytes - at) (drop at bytes) ≡ drop at bytes
rest_whole bytes at = ap (λ n. take n (drop at bytes)) (sym (length-drop at bytes)) ∙ take-length (drop at bytes)
