-- The parts of a source: a script, and behind a line `---` a trace.
use Rattle.std.specs.Prelude.{ℕ, ◌+◌, ◌==◌, ◌&&◌, Bool, true, if◌then◌else◌, [], ◌∷◌, Option, Some, None, option_map, bytes_eq, codes, drop, take}
use Rattle.std.specs.List.{before_first}
use Rattle.image_facts.specs.model_kernel.State.{Text}

-- the first line of the text is `---`, whether or not a line feed ends it
abbrev pub is_rule : Text → Bool
is_rule text = bytes_eq (before_first (λ b. b == 10) text) (codes "---")

-- where the first line `---` begins, counted from `at`; a line begins here, or only behind the next line feed
unfoldable pub rule_from : Bool → Text → ℕ → Option ℕ
rule_from begins [] at = None
rule_from begins (b ∷ bytes) at = if begins && is_rule (b ∷ bytes) then Some at else rule_from (b == 10) bytes (at + 1)

pub record Parts : Type 0 where
  pub script : Text
  pub trace : Text

-- what stands before that line, and behind it
abbrev pub parts_at : Text → ℕ → Parts
parts_at bytes at = record { script = take at bytes; trace = drop (at + 4) bytes }

-- THE PARTS of a source, where it has the line
abbrev pub parts_of : Text → Option Parts
parts_of bytes = option_map (parts_at bytes) (rule_from true bytes 0)
