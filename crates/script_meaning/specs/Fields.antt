-- Keys of tables and their values, of a kind and within a range.
use Rattle.std.specs.Prelude.{ℕ, ℤ, pos, negsuc, ◌&&◌, not, nat_le, if◌then◌else◌, List, [], ◌∷◌, ◌++◌, length, Ok, option_map, decimal, codes}
use Rattle.script_types.specs.model_kernel.State.{Text}
use Rattle.script_types.specs.model_kernel.Soundness.{is_given_name}
use Rattle.toml.specs.Data.{Data, Items, no_items, item, Members, no_members, member, get_member, as_str, as_integer, as_array, as_table}
use Rattle.script_meaning.specs.Reading.{Reading, ◌>>=◌, refused, or_refused, optional, dotted}
use Rattle.script_types.specs.Rules.{is_among}
use Rattle.script_meaning.specs.Ordered.{in_order}
use Rattle.script_types.specs.declared.refusals.Why.TheVariants.{Missing, Kind, Name, Unknown, Range, TooMany}

-- KINDS

abbrev pub a_string : Text → Data → Reading Text
a_string key d = or_refused Kind key (as_str d)

abbrev pub a_table : Text → Data → Reading Members
a_table key d = or_refused Kind key (as_table d)

abbrev pub list_of : Items → List Data
list_of no_items = []
list_of (item d ds) = d ∷ list_of ds

abbrev pub at_most : ℕ → Text → List Data → Reading (List Data)
at_most most key ds = if nat_le (length ds) most then Ok ds else refused TooMany key

-- an array of at most so many items
abbrev pub a_list : ℕ → Text → Data → Reading (List Data)
a_list most key d = or_refused Kind key (option_map list_of (as_array d)) >>= at_most most key

abbrev pub in_range : ℕ → ℕ → Text → ℤ → Reading ℕ
in_range low high key (pos n) = if nat_le low n && nat_le n high then Ok n else refused Range key
in_range low high key (negsuc n) = refused Range key

abbrev pub a_number : ℕ → ℕ → Text → Data → Reading ℕ
a_number low high key d = or_refused Kind key (as_integer d) >>= in_range low high key

-- a name that nothing else has
abbrev pub a_name : List Text → Text → Text → Reading Text
a_name taken key name = if is_given_name name && not (is_among taken name) then Ok name else refused Name key

-- KEYS OF A TABLE. `key` is the table's own.

-- the first other key is refused
abbrev pub only_in : List Text → Text → Members → Reading (Unit {0})
only_in names key no_members = Ok tt
only_in names key (member name d ms) = if is_among names name then only_in names key ms else refused Unknown (dotted key name)

-- no key but these: the first other one, in the order of bytes, is refused
abbrev pub only : List Text → Text → Members → Reading (Unit {0})
only names key ms = only_in names key (in_order ms)

abbrev pub required : Text → Text → Members → Reading Data
required key name ms = or_refused Missing (dotted key name) (get_member name ms)

abbrev pub text_at : Text → Text → Members → Reading Text
text_at key name ms = required key name ms >>= a_string (dotted key name)

abbrev pub number_at : ℕ → ℕ → Text → Text → Members → Reading ℕ
number_at low high key name ms = required key name ms >>= a_number low high (dotted key name)

-- a number that may be missing, and then is `default`
abbrev pub number_or : ℕ → ℕ → ℕ → Text → Text → Members → Reading ℕ
number_or default low high key name ms = optional default (a_number low high (dotted key name)) (get_member name ms)

-- a list that may be missing, and then is empty
abbrev pub list_at : ℕ → Text → Text → Members → Reading (List Data)
list_at most key name ms = optional [] (a_list most (dotted key name)) (get_member name ms)

-- the `name` of a table
abbrev pub name_at : List Text → Text → Members → Reading Text
name_at taken key ms = text_at key (codes "name") ms >>= a_name taken (dotted key (codes "name"))

-- ITEMS OF A LIST

-- the key of the item at a place
abbrev pub item_key : Text → ℕ → Text
item_key key n = dotted key (decimal n)

-- the items in their order; `read` is told those before, and so the place of the item
abbrev pub each : {A : Type 0} → (List A → Data → Reading A) → List A → List Data → Reading (List A)
each read done [] = Ok done
each read done (d ∷ ds) = read done d >>= (λ x. each read (done ++ x ∷ []) ds)
