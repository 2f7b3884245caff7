-- The names of an atlas as fields: which name may come next in a directory, and which bytes spell it.
use Rattle.std.specs.Prelude.{◌≡◌, ◌⊎◌, ℕ, ◌+◌, ◌<◌, ◌≤◌, IsTrue, List, [], ◌∷◌, ◌++◌, length, None, slice_index}
use Rattle.std.specs.List.{list_all}
use Rattle.act_atlas_laws.specs.base_types.declared.entities.Kind.{Kind}
use Rattle.act_atlas_laws.specs.base_types.declared.entities.Kind.TheVariants as kinds
use Rattle.act_atlas_laws.specs.data_atlas_facts.Directory.{Directory, IsNameOf, entity_named, is_letter, is_name_byte, made_name, with_entity}
use Rattle.blob_grammar.specs.Spelling.{text_bytes}
use Rattle.blob_facts.specs.Fields.{Items}

-- ONE NAME

-- a text of so many bytes that may be the name of the next entity, which has this number
pub record IsTextIn (a : Directory) (number size : ℕ) (text : List ℕ) : Type 0 where
  pub long : length text ≡ size
  pub form : IsNameOf number text
  pub new : entity_named a text ≡ None

-- the bytes of a text are its spelling
pub record IsTextSpelled (a : Directory) (number size : ℕ) (text bytes : List ℕ) : Type 0 where
  pub good : IsTextIn a number size text
  pub is : bytes ≡ text

-- one letter is no one's name
pub record HasShortName (a : Directory) : Type 0 where
  pub letter : ℕ
  pub is : IsTrue (is_letter letter)
  pub new : entity_named a (letter ∷ []) ≡ None

-- how many bytes a name may have: one only where some letter is no one's name
pub record IsSize (a : Directory) (size : ℕ) : Type 0 where
  pub some : 1 ≤ size
  pub few : size ≤ 24
  pub short : size ≡ 1 → HasShortName a

pub record IsSizeSpelled (a : Directory) (size : ℕ) (bytes : List ℕ) : Type 0 where
  pub good : IsSize a size
  pub is : bytes ≡ size ∷ []

-- a name with its length before it
pub record IsNameIn (a : Directory) (number : ℕ) (name bytes : List ℕ) : Type 0 where
  pub form : IsNameOf number name
  pub new : entity_named a name ≡ None
  pub is : bytes ≡ text_bytes name

-- FRONTS of names of so many bytes

-- the made name of the number begins so
pub record IsMadeSo (number size : ℕ) (front : List ℕ) : Type 0 where
  pub long : size ≡ length (made_name number)
  pub rest : List ℕ
  pub is : made_name number ≡ front ++ rest

-- a letter, and name bytes
pub record IsGivenFront (front : List ℕ) : Type 0 where
  pub some : 1 ≤ length front
  pub letter : IsTrue (is_letter (slice_index front 0))
  pub all : IsTrue (list_all is_name_byte front)

-- given names begin so, and the whole is no one's
pub record IsGivenSo (a : Directory) (size : ℕ) (front : List ℕ) : Type 0 where
  pub given : IsGivenFront front
  pub new : (length front < size) ⊎ (entity_named a front ≡ None)

-- a name that may come next begins so
abbrev pub GoesOn : Directory → ℕ → ℕ → List ℕ → Type 0
GoesOn a number size front = IsMadeSo number size front ⊎ IsGivenSo a size front

-- THE NAMES of one kind, each of the next entity in the directory with those before it

abbrev pub names_in : Kind → Directory → List (List ℕ)
names_in kinds.Atlas a = []
names_in kinds.Container a = a.containers
names_in kinds.Locus a = a.loci

-- the directory with other names of a kind
abbrev pub with_names : Kind → Directory → List (List ℕ) → Directory
with_names kinds.Atlas a names = a
with_names kinds.Container a names = record a { containers = names }
with_names kinds.Locus a names = record a { loci = names }

abbrev pub next_number : Kind → Directory → ℕ
next_number kinds.Atlas a = 0
next_number kinds.Container a = length a.containers + 1
next_number kinds.Locus a = length a.loci + 41

abbrev pub most_names : Kind → ℕ
most_names kinds.Atlas = 0
most_names kinds.Container = 40
most_names kinds.Locus = 23

abbrev pub NameItem : Kind → Directory → ℕ → List ℕ → List ℕ → Type 0
NameItem kind a left = IsNameIn a (next_number kind a)

abbrev pub with_next : Kind → Directory → List ℕ → Directory
with_next kind a name = with_entity a kind name

abbrev pub AreNamesSpelled : Kind → ℕ → Directory → List (List ℕ) → List ℕ → Type 0
AreNamesSpelled kind = Items (NameItem kind) (with_next kind)
