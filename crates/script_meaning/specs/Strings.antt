-- Strings of a source: names, numbers, rights, and the strings of regions, capabilities and managers.
use Rattle.std.specs.Prelude.{ℕ, ◌+◌, ◌-◌, ◌*◌, min, Bool, false, not, ◌&&◌, ◌||◌, ◌==◌, nat_lt, nat_le, if◌then◌else◌, [], ◌∷◌, length, fold, Option, Some, None, option_and_then}
use Rattle.std.specs.List.{list_all, position_or_len, before_first, after_first}
use Rattle.script_types.specs.model_kernel.State.{Text}
use Rattle.base_instructions.specs.Reader.{is_blank, rights_of}
use Rattle.script_types.specs.model_kernel.Soundness.{is_name_byte, begins_with_letter}

-- 1 to 24 bytes, the first a letter; the atlas's name is one too
abbrev pub is_name : Text → Bool
is_name name = begins_with_letter name && list_all is_name_byte name && nat_le (length name) 24

-- what stands before the first blank, and behind it
abbrev pub cut : Text → Option (Text × Text)
cut text = if nat_lt (position_or_len is_blank text) (length text) then Some (before_first is_blank text, after_first is_blank text) else None

-- NUMBERS

abbrev pub is_digit : ℕ → Bool
is_digit b = nat_le 48 b && nat_le b 57

-- digits, and no 0 before another digit
abbrev pub is_decimal : Text → Bool
is_decimal [] = false
is_decimal (b ∷ bs) = list_all is_digit (b ∷ bs) && (not (b == 48) || length bs == 0)

-- a digit behind a number; numbers above `most`, which is past all bounds, count as `most`
abbrev pub with_digit : ℕ → ℕ → ℕ → ℕ
with_digit most n b = min (10 * n + (b - 48)) most

abbrev pub decimal_value : ℕ → Text → ℕ
decimal_value most text = fold (with_digit most) 0 text

abbrev pub number_of : ℕ → Text → Option ℕ
number_of most text = if is_decimal text then Some (decimal_value most text) else None

-- a number of a region, none of whose bounds is near 1,000
abbrev pub region_number : Text → Option ℕ
region_number = number_of 1000

-- RIGHTS

-- Read, Write or both
abbrev pub access_of : Text → Option ℕ
access_of text = option_and_then (λ set. if nat_le 1 set && nat_lt set 4 then Some set else None) (rights_of text)

-- FORMS

-- `AT NAME FROM COUNT RW`
pub record RegionForm : Type 0 where
  pub at : ℕ
  pub target : Text
  pub from : ℕ
  pub count : ℕ
  pub rights : ℕ

-- a name that is well formed
abbrev pub name_form : Text → Option Text
name_form text = if is_name text then Some text else None

-- the form of `COUNT RW` behind the other words
abbrev pub sized_form : ℕ → Text → ℕ → Text → Option RegionForm
sized_form at target from text =
    option_and_then (λ parts. option_and_then (λ count. option_and_then (λ rights.
    Some (record { at = at; target = target; from = from; count = count; rights = rights }))
    (access_of parts.1)) (region_number parts.0)) (cut text)

-- the form of `FROM COUNT RW`
abbrev pub placed_form : ℕ → Text → Text → Option RegionForm
placed_form at target text =
    option_and_then (λ parts. option_and_then (λ from. sized_form at target from parts.1) (region_number parts.0)) (cut text)

-- the form of `NAME FROM COUNT RW`
abbrev pub named_form : ℕ → Text → Option RegionForm
named_form at text =
    option_and_then (λ parts. option_and_then (λ target. placed_form at target parts.1) (name_form parts.0)) (cut text)

abbrev pub region_form : Text → Option RegionForm
region_form text = option_and_then (λ parts. option_and_then (λ at. named_form at parts.1) (region_number parts.0)) (cut text)

-- `NAME RIGHTS`
pub record CapForm : Type 0 where
  pub entity : Text
  pub rights : ℕ

abbrev pub cap_form : Text → Option CapForm
cap_form text =
    option_and_then (λ parts. option_and_then (λ entity. option_and_then (λ rights.
    Some (record { entity = entity; rights = rights }))
    (rights_of parts.1)) (name_form parts.0)) (cut text)

-- `NUMBER PROGRAM`
pub record ManagerForm : Type 0 where
  pub number : ℕ
  pub program : Text

-- the program is all that follows the first blank; the greatest number that a manager may have is below 2 ^ 63
abbrev pub manager_form : Text → Option ManagerForm
manager_form text =
    option_and_then (λ parts. option_and_then (λ number.
    Some (record { number = number; program = parts.1 }))
    (number_of 9223372036854775808 parts.0)) (cut text)
