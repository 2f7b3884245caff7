-- The form of a locus, and how much of each list it may have.
use Rattle.std.specs.Prelude.{◌≡◌, ℕ, ◌^◌, ◌&&◌, ◌==◌, nat_le, if◌then◌else◌, List, [], ◌∷◌}
use Rattle.blob_facts.specs.Fields.{IsNumberIn}
use Rattle.blob_reading.specs.declared.forms.Form.{Form}
use Rattle.blob_reading.specs.declared.forms.Form.TheVariants.{Short, Long}

-- FORMS. The short one has no count of printed values, which is 0, and fewer calls and private regions.

abbrev pub form_byte : Form → ℕ
form_byte Short = 2
form_byte Long = 3

abbrev pub IsFormSpelled : Form → List ℕ → Type 0
IsFormSpelled form bytes = bytes ≡ form_byte form ∷ []

abbrev pub printed_width : Form → ℕ
printed_width Short = 0
printed_width Long = 8

abbrev pub most_printed : Form → ℕ
most_printed Short = 0
most_printed Long = 2 ^ 62

abbrev pub most_calls : Form → ℕ
most_calls Short = 32
most_calls Long = 64

abbrev pub most_privates : Form → ℕ
most_privates Short = 8
most_privates Long = 16

-- with fewer private regions the locus that has printed so much and has so many calls has the other form
abbrev pub least_privates : Form → ℕ → ℕ → ℕ
least_privates Short printed calls = 0
least_privates Long printed calls = if printed == 0 && nat_le calls 32 then 9 else 0

abbrev pub IsPrintedSpelled : Form → ℕ → List ℕ → Type 0
IsPrintedSpelled form = IsNumberIn (printed_width form) 0 (most_printed form)
