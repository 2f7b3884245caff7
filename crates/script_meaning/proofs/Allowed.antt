-- The containers, loci and order that a source means are allowed ones.
use Rattle.std.proofs.Common.{◌≡◌, ℕ, suc, ◌+◌, ◌<◌, ◌≤◌, ◌^◌, Bool, true, false, not, ◌&&◌, ◌||◌, nat_lt, nat_le, if◌then◌else◌, List, [], ◌∷◌, ◌++◌, length, Ok, Option, Some, None, MatchOption, option_and_then, get_or, ◌==◌, All, IsTrue, codes, refl, sym, ap, ◌∙◌, subst, arith, append_assoc}
use Rattle.std.specs.Option.{ForSome}
use Rattle.std.specs.List.{list_all}
use Rattle.std.proofs.lemmas.Bool.{and_parts, not-true, or_parts}
use Rattle.std.proofs.lemmas.Bool.Decides.{nat_tests}
use Rattle.std.proofs.lemmas.Option.{none-some, same_Some}
use Rattle.std.proofs.lemmas.List.{map_push}
use Rattle.std.proofs.lemmas.List.Elements.{All-nil, All-push}
use Rattle.std.proofs.lemmas.List.Folds.{list_all-append}
use Rattle.base_types.specs.declared.instructions.Instr.{Instr}
use Rattle.base_types.specs.Instructions.{IsInstruction, IsPlace, IsAccess}
use Rattle.script_types.specs.model_kernel.Scripts.{RegionTable, CapTable, ContainerTable, LocusTable, text_eq, atlas_name}
use Rattle.script_types.specs.model_kernel.Soundness.{is_given_name, IsSoundCode}
use Rattle.script_types.specs.model_kernel.State.{Text}
use Rattle.base_instructions.specs.Spelling.{spelling, IsSpelling}
use Rattle.base_instructions.specs.Reader.{instr_of, rights_of}
use Rattle.base_instructions.proofs.Reader.{IsReader-instr_of}
use Rattle.toml.specs.Data.{Data, Members, no_members, member, get_member}
use Rattle.script_meaning.specs.Ordered.{in_order}
use Rattle.script_meaning.specs.Reading.{◌>>=◌, refused, or_refused, optional, dotted}
use Rattle.script_meaning.specs.Strings.{RegionForm, cut, region_number, name_form, access_of, region_form, named_form, placed_form, sized_form, cap_form}
use Rattle.script_meaning.specs.Fields.{a_string, a_table, a_list, a_number, a_name, only, text_at, number_at, number_or, name_at, item_key, each}
use Rattle.script_meaning.specs.Meaning.{Program, FramedTables, a_line, a_program, more_programs, programs_in, programs_at, code_named, overlap, is_within, fits, table_of_region, placed_region, a_region, regions_at, known_cap, a_cap, caps_at, names_of, known_names, every_at, sized_container, code_at, entry_at, coded_container, whole_container, container_keys, a_container, containers_at, host_at, whole_locus, locus_keys, a_locus, loci_at, a_pick, order_at, entities_at}
use Rattle.script_types.specs.Rules.{is_among, AreDifferent, IsRegionTable, AreApart, AreAllApart, IsCapTable, IsContainerTable, IsLocusTable, container_names, locus_names, AreContainerTables, AreLocusTables, IsScript}
use Rattle.script_types.proofs.Tables.{containers_more, loci_more}
use Rattle.script_types.specs.declared.refusals.Why.TheVariants.{Name, Unknown, Range, BadCode}
use Rattle.script_meaning.proofs.Lists.{any_of_append}
use Rattle.script_meaning.proofs.Readings.{then_ok, or_ok, same_ok, test_ok, err_is_not_ok, a_number_ok, number_at_ok, number_or_ok, a_list_ok, list_keeps, each_keeps, each_length}
use Rattle.std.proofs.Math.Bool.{or-false}

-- TESTS

some_if : {A : Type 0} (b : Bool) (x y : A) → (if b then Some x else None) ≡ Some y → (b ≡ true) × (x ≡ y)
some_if true x y f = (refl, same_Some x y f)
some_if false x y f = absurd (none-some y f)

some_then : {A B : Type 0} (f : A → Option B) (o : Option A) (y : B) → option_and_then f o ≡ Some y → (x : A) × (o ≡ Some x) × (f x ≡ Some y)
some_then f None y h = absurd (none-some y h)
some_then f (Some x) y h = (x, refl, h)

pub eq_sym : (x y : ℕ) → (x == y) ≡ (y == x)
eq_sym x y = grind (arith, nat_tests)

text_eq_sym : (a b : Text) → text_eq a b ≡ text_eq b a
text_eq_sym [] [] = refl
text_eq_sym [] (y ∷ ys) = refl
text_eq_sym (x ∷ xs) [] = refl
text_eq_sym (x ∷ xs) (y ∷ ys) = ap (λ b. b && text_eq xs ys) (eq_sym x y) ∙ ap (λ b. (y == x) && b) (text_eq_sym xs ys)

le_from_test : (m n : ℕ) → nat_le m n ≡ true → m ≤ n
le_from_test m n e = grind (arith, nat_tests)

-- one more name
different_more : (names : List Text) (name : Text) → AreDifferent names → is_among names name ≡ false → AreDifferent (names ++ name ∷ [])
different_more [] name h new = (refl, tt)
different_more (n ∷ names) name h new =
    let (apart, rest) = or_parts (text_eq name n) (is_among names name) new in
    let last : is_among (names ++ name ∷ []) n ≡ false = any_of_append (text_eq n) names (name ∷ []) ∙ rw (h.0, text_eq_sym n name, apart) in
    (last, different_more names name h.1 rest)

-- PROGRAMS

abbrev pub Sound : Program → Type 0
Sound p = IsSoundCode p.code

line_ok : (key : Text) (done : List Instr) (d : Data) (i : Instr) → a_line instr_of key done d ≡ Ok i → IsInstruction i
line_ok key done d i h =
    let p = then_ok (a_string (item_key key (length done)) d) (λ line. or_refused BadCode (item_key key (length done)) (instr_of line)) i h in
    let M : Option Instr → Type 0 = λ o. MatchOption o (¬ (IsSpelling p.0)) (λ k. IsInstruction k × (spelling k ≡ p.0)) in
    let valid : M (Some i) = subst M (or_ok BadCode (item_key key (length done)) (instr_of p.0) i p.2) (IsReader-instr_of p.0) in
    valid.0

program_ok : (name : Text) (d : Data) (code : List Instr) → a_program instr_of name d ≡ Ok code → IsSoundCode code
program_ok name d code h =
    let key = dotted (codes "program") name in
    let p = then_ok (a_list 128 key d) (each (a_line instr_of key) []) code h in
    let few = a_list_ok 128 key d p.0 p.1 in
    let size = each_length (a_line instr_of key) p.0 [] code p.2 in
    record {
      few = omega (arith, few, size);
      each = each_keeps (All IsInstruction) (a_line instr_of key) (λ done e x all is. All-push IsInstruction done x all (line_ok key done e x is)) p.0 [] code (All-nil IsInstruction) p.2;
    }

more_ok : (ms : Members) (done xs : List Program) → All Sound done → more_programs instr_of done ms ≡ Ok xs → All Sound xs
more_ok no_members done xs all h = subst (All Sound) (same_ok done xs h) all
more_ok (member name d ms) done xs all h =
    let p = then_ok (a_program instr_of name d) (λ code. more_programs instr_of (done ++ record { name = name; code = code } ∷ []) ms) xs h in
    more_ok ms (done ++ record { name = name; code = p.0 } ∷ []) xs (All-push Sound done (record { name = name; code = p.0 }) all (program_ok name d p.0 p.1)) p.2

pub programs_ok : (ms : Members) (xs : List Program) → programs_at instr_of ms ≡ Ok xs → All Sound xs
programs_ok ms xs h = by (get_member (codes "program") ms) h
  where
    by : (o : Option Data) → optional [] (λ d. a_table (codes "program") d >>= programs_in instr_of) o ≡ Ok xs → All Sound xs
    by None f = subst (All Sound) (same_ok [] xs f) (All-nil Sound)
    by (Some d) f = let p = then_ok (a_table (codes "program") d) (programs_in instr_of) xs f in more_ok (in_order p.0) [] xs (All-nil Sound) p.2

pub named_ok : (name : Text) (ps : List Program) (code : List Instr) → All Sound ps → code_named name ps ≡ Some code → IsSoundCode code
named_ok name [] code all h = absurd (none-some code h)
named_ok name (p ∷ ps) code all h = by (named_ok name ps code (λ k d lt. all (suc k) d (omega arith))) (text_eq name p.name) h
  where
    by : (code_named name ps ≡ Some code → IsSoundCode code) → (b : Bool) → (if b then Some p.code else code_named name ps) ≡ Some code → IsSoundCode code
    by more true f = subst IsSoundCode (same_Some p.code code f) (all 0 p (omega arith))
    by more false f = more f

code_ok : (programs : List Program) (key : Text) (ms : Members) (code : List Instr) → All Sound programs → code_at programs key ms ≡ Ok code → IsSoundCode code
code_ok programs key ms code all h = by (get_member (codes "program") ms) h
  where
    at : Text
    at = dotted key (codes "program")

    by : (o : Option Data) → optional [] (λ d. a_string (dotted key (codes "program")) d >>= (λ name. or_refused Unknown (dotted key (codes "program")) (code_named name programs))) o ≡ Ok code → IsSoundCode code
    by None f = subst IsSoundCode (same_ok [] code f) (record { few = omega arith; each = All-nil IsInstruction })
    by (Some d) f =
        let p = then_ok (a_string (dotted key (codes "program")) d) (λ name. or_refused Unknown (dotted key (codes "program")) (code_named name programs)) code f in
        named_ok p.0 programs code all (or_ok Unknown (dotted key (codes "program")) (code_named p.0 programs) code p.2)

-- REGIONS

access_ok : (text : Text) (s : ℕ) → access_of text ≡ Some s → IsAccess s
access_ok text s h =
    let p = some_then (λ set. if nat_le 1 set && nat_lt set 4 then Some set else None) (rights_of text) s h in
    let t = some_if (nat_le 1 p.0 && nat_lt p.0 4) p.0 s p.2 in
    let (l, g) = and_parts (nat_le 1 p.0) (nat_lt p.0 4) t.0 in
    let low : 1 ≤ p.0 = grind (arith, nat_tests) in
    let high : p.0 < 4 = grind (arith, nat_tests) in
    (omega (arith, low, t.1), omega (arith, high, t.1))

form_ok : (text : Text) (r : RegionForm) → region_form text ≡ Some r → IsAccess r.rights
form_ok text r h =
    let a = some_then (λ parts. option_and_then (λ at. named_form at parts.1) (region_number parts.0)) (cut text) r h in
    let b = some_then (λ at. named_form at a.0.1) (region_number a.0.0) r a.2 in
    let c = some_then (λ parts. option_and_then (λ target. placed_form b.0 target parts.1) (name_form parts.0)) (cut a.0.1) r b.2 in
    let d = some_then (λ target. placed_form b.0 target c.0.1) (name_form c.0.0) r c.2 in
    let e = some_then (λ parts. option_and_then (λ from. sized_form b.0 d.0 from parts.1) (region_number parts.0)) (cut c.0.1) r d.2 in
    let f = some_then (λ from. sized_form b.0 d.0 from e.0.1) (region_number e.0.0) r e.2 in
    sized_ok b.0 d.0 f.0 e.0.1 r f.2
  where
    sized_ok : (at : ℕ) (target : Text) (from : ℕ) (text : Text) (r : RegionForm) → sized_form at target from text ≡ Some r → IsAccess r.rights
    sized_ok at target from text r h =
        let whole : ℕ → ℕ → RegionForm = λ count rights. record { at = at; target = target; from = from; count = count; rights = rights } in
        let a = some_then (λ parts. option_and_then (λ count. option_and_then (λ rights. Some (whole count rights)) (access_of parts.1)) (region_number parts.0)) (cut text) r h in
        let b = some_then (λ count. option_and_then (λ rights. Some (whole count rights)) (access_of a.0.1)) (region_number a.0.0) r a.2 in
        let c = some_then (λ rights. Some (whole b.0 rights)) (access_of a.0.1) r b.2 in
        subst IsAccess (ap (λ (x : RegionForm). x.rights) (same_Some (whole b.0 c.0) r c.2)) (access_ok a.0.1 c.0 c.1)

-- apart from each region before
abbrev Fresh : List RegionTable → RegionTable → Type 0
Fresh done t = list_all (λ (s : RegionTable). not (nat_lt t.at (s.at + s.count) && nat_lt s.at (t.at + t.count))) done ≡ true

placed_ok : {A : Type 0} (b c : Bool) (x y : A) (key : Text) → (if not b then refused Unknown key else if c then Ok x else refused Range key) ≡ Ok y → (b ≡ true) × (c ≡ true) × (x ≡ y)
placed_ok true c x y key f = let t = test_ok c x y Range key f in (refl, t.0, t.1)
placed_ok false c x y key f = absurd (err_is_not_ok _ y f)

region_ok : (known : List Text) (pages : ℕ) (key : Text) (done : List RegionTable) (d : Data) (t : RegionTable) → a_region known pages key done d ≡ Ok t → IsRegionTable known pages t × Fresh done t
region_ok known pages key done d t h =
    let at = item_key key (length done) in
    let p = then_ok (a_string at d) (λ text. or_refused BadCode at (region_form text) >>= placed_region known pages at done) t h in
    let q = then_ok (or_refused BadCode at (region_form p.0)) (placed_region known pages at done) t p.2 in
    let r = q.0 in
    let access = form_ok p.0 r (or_ok BadCode at (region_form p.0) r q.1) in
    let (target, room, same) = placed_ok (is_among known r.target) (fits pages done r) (table_of_region r) t at q.2 in
    let (within, fresh) = and_parts (is_within pages r) (list_all (λ s. not (overlap r s)) done) room in
    let (some, ends) = and_parts (nat_le 1 r.count) (nat_le (r.at + r.count) pages && nat_le (r.from + r.count) 256) within in
    let (one, other) = and_parts (nat_le (r.at + r.count) pages) (nat_le (r.from + r.count) 256) ends in
    let M : RegionTable → Type 0 = λ u. IsRegionTable known pages u × Fresh done u in
    subst M same (within_ok r some one other access target, fresh)
  where
    within_ok : (r : RegionForm) → nat_le 1 r.count ≡ true → nat_le (r.at + r.count) pages ≡ true → nat_le (r.from + r.count) 256 ≡ true → IsAccess r.rights → is_among known r.target ≡ true → IsRegionTable known pages (table_of_region r)
    within_ok r some one other access target = record {
      some = le_from_test _ _ some;
      at = le_from_test _ _ one;
      from = le_from_test _ _ other;
      access = access;
      target = target;
    }

apart_turned : (r t : RegionTable) → not (nat_lt t.at (r.at + r.count) && nat_lt r.at (t.at + t.count)) ≡ true → AreApart r t
apart_turned r t h = ap not (and_turned (nat_lt r.at (t.at + t.count)) (nat_lt t.at (r.at + r.count))) ∙ h
  where
    and_turned : (a b : Bool) → (a && b) ≡ (b && a)
    and_turned true true = refl
    and_turned true false = refl
    and_turned false true = refl
    and_turned false false = refl

apart_more : (rs : List RegionTable) (t : RegionTable) → AreAllApart rs → Fresh rs t → AreAllApart (rs ++ t ∷ [])
apart_more [] t h fresh = (All-nil (AreApart t), tt)
apart_more (r ∷ rs) t h fresh =
    let (here, more) = and_parts (not (nat_lt t.at (r.at + r.count) && nat_lt r.at (t.at + t.count))) (list_all (λ (s : RegionTable). not (nat_lt t.at (s.at + s.count) && nat_lt s.at (t.at + t.count))) rs) fresh in
    (All-push (AreApart r) rs t h.0 (apart_turned r t here), apart_more rs t h.1 more)

abbrev AreRegions : List Text → ℕ → List RegionTable → Type 0
AreRegions known pages rs = AreAllApart rs × All (IsRegionTable known pages) rs

regions_ok : (known : List Text) (pages : ℕ) (key : Text) (ms : Members) (rs : List RegionTable) → regions_at known pages key ms ≡ Ok rs → AreRegions known pages rs × (length rs ≤ 16)
regions_ok known pages key ms rs h =
    list_keeps (AreRegions known pages) (a_region known pages (dotted key (codes "regions")))
    (λ done d t p is. let good = region_ok known pages (dotted key (codes "regions")) done d t is in (apart_more done t p.0 good.1, All-push (IsRegionTable known pages) done t p.1 good.0))
    16 key (codes "regions") ms rs (tt, All-nil (IsRegionTable known pages)) h

-- CAPABILITIES

cap_ok : (known : List Text) (key : Text) (done : List CapTable) (d : Data) (t : CapTable) → a_cap known key done d ≡ Ok t → IsCapTable known t
cap_ok known key done d t h =
    let at = item_key key (length done) in
    let p = then_ok (a_string at d) (λ text. or_refused BadCode at (cap_form text) >>= known_cap known at) t h in
    let q = then_ok (or_refused BadCode at (cap_form p.0)) (known_cap known at) t p.2 in
    let c = test_ok (is_among known q.0.entity) (record { entity = q.0.entity; rights = q.0.rights }) t Unknown at q.2 in
    subst (IsCapTable known) c.1 c.0

caps_ok : (known : List Text) (key : Text) (ms : Members) (cs : List CapTable) → caps_at known key ms ≡ Ok cs → All (IsCapTable known) cs × (length cs ≤ 32)
caps_ok known key ms cs h =
    list_keeps (All (IsCapTable known)) (a_cap known (dotted key (codes "caps")))
    (λ done d t p is. All-push (IsCapTable known) done t p (cap_ok known (dotted key (codes "caps")) done d t is))
    32 key (codes "caps") ms cs (All-nil (IsCapTable known)) h

-- NAMES

name_ok : (taken : List Text) (key : Text) (ms : Members) (name : Text) → name_at taken key ms ≡ Ok name → IsTrue (is_given_name name) × (is_among taken name ≡ false)
name_ok taken key ms name h =
    let p = then_ok (text_at key (codes "name") ms) (a_name taken (dotted key (codes "name"))) name h in
    let t = test_ok (is_given_name p.0 && not (is_among taken p.0)) p.0 name Name (dotted key (codes "name")) p.2 in
    let (given, new) = and_parts (is_given_name p.0) (not (is_among taken p.0)) t.0 in
    let M : Text → Type 0 = λ n. IsTrue (is_given_name n) × (is_among taken n ≡ false) in
    subst M t.1 (given, not-true (is_among taken p.0) new)

among_both : (xs ys : List Text) (name : Text) → is_among (xs ++ ys) name ≡ (is_among xs name || is_among ys name)
among_both xs ys name = any_of_append (text_eq name) xs ys

-- the lists have the same names
abbrev pub AreSame : List Text → List Text → Type 0
AreSame xs ys = (name : Text) → is_among xs name ≡ is_among ys name

-- CONTAINERS

record Sized (done : List ContainerTable) (t : ContainerTable) : Type 0 where
  pub name : IsTrue (is_given_name t.name)
  pub new : is_among (container_names done) t.name ≡ false
  pub pages : (1 ≤ t.pages) × (t.pages ≤ 256)
  pub tag : t.tag < 2 ^ 63
  pub every : t.every ≤ 1000000

every_ok : (key : Text) (ms : Members) (n : ℕ) → every_at key ms ≡ Ok n → n ≤ 1000000
every_ok key ms n h = let p = number_or_ok 0 0 1000000 key (codes "every") ms n (omega arith) (omega arith) h in omega (arith, p.1)

sized_container_ok : (done : List ContainerTable) (key : Text) (ms : Members) (t : ContainerTable) → sized_container done key ms ≡ Ok t → Sized done t
sized_container_ok done key ms t h =
    let made : Text → ℕ → ℕ → ℕ → ContainerTable = λ name pages tag every. record { name = name; pages = pages; tag = tag; every = every; code = []; entry = None; regions = []; caps = [] } in
    let a = then_ok (name_at (names_of done []) key ms) (λ name. number_at 1 256 key (codes "pages") ms >>= (λ pages. number_or 0 0 9223372036854775807 key (codes "tag") ms >>= (λ tag. every_at key ms >>= (λ every. Ok (made name pages tag every))))) t h in
    let b = then_ok (number_at 1 256 key (codes "pages") ms) (λ pages. number_or 0 0 9223372036854775807 key (codes "tag") ms >>= (λ tag. every_at key ms >>= (λ every. Ok (made a.0 pages tag every)))) t a.2 in
    let c = then_ok (number_or 0 0 9223372036854775807 key (codes "tag") ms) (λ tag. every_at key ms >>= (λ every. Ok (made a.0 b.0 tag every))) t b.2 in
    let d = then_ok (every_at key ms) (λ every. Ok (made a.0 b.0 c.0 every)) t c.2 in
    let named = name_ok (names_of done []) key ms a.0 a.1 in
    let pages = number_at_ok 1 256 key (codes "pages") ms b.0 b.1 in
    let tag = number_or_ok 0 0 9223372036854775807 key (codes "tag") ms c.0 (omega arith) (omega arith) c.1 in
    subst (Sized done) (same_ok (made a.0 b.0 c.0 d.0) t d.2) (sized a.0 b.0 c.0 d.0 named.0
    (sym (or-false (is_among (container_names done) a.0)) ∙ sym (among_both (container_names done) [] a.0) ∙ named.1)
    pages (omega (arith, tag.1)) (every_ok key ms d.0 d.1))
  where
    sized : (name : Text) (pages tag every : ℕ) → IsTrue (is_given_name name) → is_among (container_names done) name ≡ false → (1 ≤ pages) × (pages ≤ 256) → tag < 2 ^ 63 → every ≤ 1000000
        → Sized done (record { name = name; pages = pages; tag = tag; every = every; code = []; entry = None; regions = []; caps = [] })
    sized name pages tag every n w p t e = record { name = n; new = w; pages = p; tag = t; every = e }

entry_ok : (key : Text) (ms : Members) (e : Option ℕ) → entry_at key ms ≡ Ok e → ForSome e IsPlace
entry_ok key ms e h = by (get_member (codes "entry") ms) h
  where
    by : (o : Option Data) → optional None (λ d. a_number 0 127 (dotted key (codes "entry")) d >>= (λ n. Ok (Some n))) o ≡ Ok e → ForSome e IsPlace
    by None f = let M : Option ℕ → Type 0 = λ x. ForSome x IsPlace in subst M (same_ok None e f) (λ x no. absurd (none-some x no))
    by (Some d) f =
        let p = then_ok (a_number 0 127 (dotted key (codes "entry")) d) (λ n. Ok (Some n)) e f in
        let small = a_number_ok 0 127 (dotted key (codes "entry")) d p.0 p.1 in
        let M : Option ℕ → Type 0 = λ x. ForSome x IsPlace in
        subst M (same_ok (Some p.0) e p.2) (λ x is. let same = same_Some p.0 x is in omega (arith, small.1, same))

abbrev Coded : List ContainerTable → ContainerTable → Type 0
Coded done t = Sized done t × IsSoundCode t.code × ForSome t.entry IsPlace

coded_ok : (programs : List Program) (done : List ContainerTable) (key : Text) (ms : Members) (t : ContainerTable) → All Sound programs → coded_container programs done key ms ≡ Ok t → Coded done t
coded_ok programs done key ms t all h =
    let a = then_ok (sized_container done key ms) (λ (u : ContainerTable). code_at programs key ms >>= (λ code. entry_at key ms >>= (λ entry. Ok (record u { code = code; entry = entry })))) t h in
    let u : ContainerTable = a.0 in
    let b = then_ok (code_at programs key ms) (λ code. entry_at key ms >>= (λ entry. Ok (record u { code = code; entry = entry }))) t a.2 in
    let c = then_ok (entry_at key ms) (λ entry. Ok (record u { code = b.0; entry = entry })) t b.2 in
    let s = sized_container_ok done key ms u a.1 in
    let v : ContainerTable = record u { code = b.0; entry = c.0 } in
    let again : Sized done v = record { name = s.name; new = s.new; pages = s.pages; tag = s.tag; every = s.every } in
    subst (Coded done) (same_ok v t c.2) (again, code_ok programs key ms b.0 all b.1, entry_ok key ms c.0 c.1)

region_known : (known others : List Text) (pages : ℕ) → AreSame known others → (r : RegionTable) → IsRegionTable others pages r → IsRegionTable known pages r
region_known known others pages same r h = record { some = h.some; at = h.at; from = h.from; access = h.access; target = same r.target ∙ h.target }

-- whatever list has the names of those before
abbrev pub Whole : List ContainerTable → ContainerTable → Type 0
Whole done t = (is_among (container_names done) t.name ≡ false) × ((known : List Text) → AreSame known (container_names done) → IsContainerTable known t)

pub whole_ok : (programs : List Program) (done : List ContainerTable) (key : Text) (ms : Members) (t : ContainerTable) → All Sound programs → whole_container programs done key ms ≡ Ok t → Whole done t
whole_ok programs done key ms t all h =
    let a = then_ok (coded_container programs done key ms) (λ (u : ContainerTable). regions_at (container_names done) u.pages key ms >>= (λ regions. caps_at (known_names u.name done []) key ms >>= (λ caps. Ok (record u { regions = regions; caps = caps })))) t h in
    let u : ContainerTable = a.0 in
    let b = then_ok (regions_at (container_names done) u.pages key ms) (λ regions. caps_at (known_names u.name done []) key ms >>= (λ caps. Ok (record u { regions = regions; caps = caps }))) t a.2 in
    let c = then_ok (caps_at (known_names u.name done []) key ms) (λ caps. Ok (record u { regions = b.0; caps = caps })) t b.2 in
    let coded = coded_ok programs done key ms u all a.1 in
    let v : ContainerTable = record u { regions = b.0; caps = c.0 } in
    subst (Whole done) (same_ok v t c.2) (coded.0.new, λ known same. told u b.0 c.0 coded (regions_ok (container_names done) u.pages key ms b.0 b.1) (caps_ok (known_names u.name done []) key ms c.0 c.1) known same)
  where
    told : (u : ContainerTable) (rs : List RegionTable) (cs : List CapTable) → Coded done u → AreRegions (container_names done) u.pages rs × (length rs ≤ 16) → All (IsCapTable (known_names u.name done [])) cs × (length cs ≤ 32)
        → (known : List Text) → AreSame known (container_names done) → IsContainerTable known (record u { regions = rs; caps = cs })
    told u rs cs coded regions caps known same = record {
      name = coded.0.name;
      pages = coded.0.pages;
      tag = coded.0.tag;
      every = coded.0.every;
      code = coded.1;
      entry = coded.2;
      few_regions = regions.1;
      regions = λ k d lt. region_known known (container_names done) u.pages same (get_or rs k d) (regions.0.1 k d lt);
      apart = regions.0.0;
      few_caps = caps.1;
      caps = λ k d lt. known_same (get_or cs k d).entity ∙ caps.0 k d lt;
    }
      where
        known_same : (name : Text) → is_among (atlas_name ∷ u.name ∷ known) name ≡ is_among (known_names u.name done []) name
        known_same name = ap (λ b. text_eq name atlas_name || (text_eq name u.name || b)) (same name ∙ sym (or-false (is_among (container_names done) name)) ∙ sym (among_both (container_names done) [] name))

container_ok : (programs : List Program) (done : List ContainerTable) (d : Data) (t : ContainerTable) → All Sound programs → a_container programs done d ≡ Ok t → Whole done t
container_ok programs done d t all h =
    let key = item_key (codes "container") (length done) in
    let p = then_ok (a_table key d) (λ ms. only container_keys key ms >>= (λ _. whole_container programs done key ms)) t h in
    let q = then_ok (only container_keys key p.0) (λ _. whole_container programs done key p.0) t p.2 in
    whole_ok programs done key p.0 t all q.2

abbrev AllContainers : List ContainerTable → Type 0
AllContainers ts = AreContainerTables [] ts × AreDifferent (container_names ts)

containers_ok : (programs : List Program) (ms : Members) (ts : List ContainerTable) → All Sound programs → containers_at programs ms ≡ Ok ts → AllContainers ts × (length ts ≤ 40)
containers_ok programs ms ts all h =
    list_keeps AllContainers (a_container programs)
    (λ done d t p is. let good = container_ok programs done d t all is in (
      containers_more [] done t p.0 good.1,
      subst AreDifferent (sym (map_push (λ (x : ContainerTable). x.name) done t)) (different_more (container_names done) t.name p.1 good.0),
    ))
    40 [] (codes "container") ms ts (tt, tt) h

-- LOCI

abbrev WholeLocus : List ContainerTable → List LocusTable → LocusTable → Type 0
WholeLocus containers done t = (is_among (names_of containers done) t.name ≡ false) × ((known : List Text) → AreSame known (locus_names done) → IsLocusTable (container_names containers) known t)

host_ok : (containers : List ContainerTable) (key : Text) (ms : Members) (host : Text) → host_at containers key ms ≡ Ok host → IsTrue (is_among (container_names containers) host)
host_ok containers key ms host h =
    let p = then_ok (text_at key (codes "host") ms) (λ host. if is_among (container_names containers) host then Ok host else refused Unknown (dotted key (codes "host"))) host h in
    let t = test_ok (is_among (container_names containers) p.0) p.0 host Unknown (dotted key (codes "host")) p.2 in
    let M : Text → Type 0 = λ n. IsTrue (is_among (container_names containers) n) in
    subst M t.1 t.0

whole_locus_ok : (containers : List ContainerTable) (done : List LocusTable) (key : Text) (ms : Members) (t : LocusTable) → whole_locus containers done key ms ≡ Ok t → WholeLocus containers done t
whole_locus_ok containers done key ms t h =
    let made : Text → Text → ℕ → ℕ → List CapTable → LocusTable = λ name host at every caps. record { name = name; host = host; at = at; every = every; caps = caps } in
    let a = then_ok (name_at (names_of containers done) key ms) (λ name. host_at containers key ms >>= (λ host. number_or 0 0 127 key (codes "at") ms >>= (λ at. every_at key ms >>= (λ every. caps_at (known_names name containers done) key ms >>= (λ caps. Ok (made name host at every caps)))))) t h in
    let b = then_ok (host_at containers key ms) (λ host. number_or 0 0 127 key (codes "at") ms >>= (λ at. every_at key ms >>= (λ every. caps_at (known_names a.0 containers done) key ms >>= (λ caps. Ok (made a.0 host at every caps))))) t a.2 in
    let c = then_ok (number_or 0 0 127 key (codes "at") ms) (λ at. every_at key ms >>= (λ every. caps_at (known_names a.0 containers done) key ms >>= (λ caps. Ok (made a.0 b.0 at every caps)))) t b.2 in
    let d = then_ok (every_at key ms) (λ every. caps_at (known_names a.0 containers done) key ms >>= (λ caps. Ok (made a.0 b.0 c.0 every caps))) t c.2 in
    let e = then_ok (caps_at (known_names a.0 containers done) key ms) (λ caps. Ok (made a.0 b.0 c.0 d.0 caps)) t d.2 in
    let named = name_ok (names_of containers done) key ms a.0 a.1 in
    let place = number_or_ok 0 0 127 key (codes "at") ms c.0 (omega arith) (omega arith) c.1 in
    subst (WholeLocus containers done) (same_ok (made a.0 b.0 c.0 d.0 e.0) t e.2)
    (named.1, λ known same. told a.0 b.0 c.0 d.0 e.0 named.0 (host_ok containers key ms b.0 b.1) (omega (arith, place.1)) (every_ok key ms d.0 d.1) (caps_ok (known_names a.0 containers done) key ms e.0 e.1) known same)
  where
    told : (name host : Text) (at every : ℕ) (cs : List CapTable) → IsTrue (is_given_name name) → IsTrue (is_among (container_names containers) host) → at < 128 → every ≤ 1000000 → All (IsCapTable (known_names name containers done)) cs × (length cs ≤ 32)
        → (known : List Text) → AreSame known (locus_names done) → IsLocusTable (container_names containers) known (record { name = name; host = host; at = at; every = every; caps = cs })
    told name host at every cs n o p e caps known same = record {
      name = n;
      host = o;
      at = p;
      every = e;
      few_caps = caps.1;
      caps = λ k d lt. known_same (get_or cs k d).entity ∙ caps.0 k d lt;
    }
      where
        known_same : (other : Text) → is_among (atlas_name ∷ name ∷ container_names containers ++ known) other ≡ is_among (known_names name containers done) other
        known_same other = ap (λ b. text_eq other atlas_name || (text_eq other name || b))
            (among_both (container_names containers) known other ∙ ap (λ b. is_among (container_names containers) other || b) (same other) ∙ sym (among_both (container_names containers) (locus_names done) other))

locus_ok : (containers : List ContainerTable) (done : List LocusTable) (d : Data) (t : LocusTable) → a_locus containers done d ≡ Ok t → WholeLocus containers done t
locus_ok containers done d t h =
    let key = item_key (codes "locus") (length done) in
    let p = then_ok (a_table key d) (λ ms. only locus_keys key ms >>= (λ _. whole_locus containers done key ms)) t h in
    let q = then_ok (only locus_keys key p.0) (λ _. whole_locus containers done key p.0) t p.2 in
    whole_locus_ok containers done key p.0 t q.2

abbrev AllLoci : List ContainerTable → List LocusTable → Type 0
AllLoci containers ts = AreLocusTables (container_names containers) [] ts × AreDifferent (names_of containers ts)

nil_right : {A : Type 0} (xs : List A) → xs ++ [] ≡ xs
nil_right [] = refl
nil_right (x ∷ xs) = ap (λ ys. x ∷ ys) (nil_right xs)

loci_ok : (containers : List ContainerTable) (ms : Members) (ts : List LocusTable) → AreDifferent (container_names containers) → loci_at containers ms ≡ Ok ts → AllLoci containers ts × (length ts ≤ 23)
loci_ok containers ms ts different h =
    list_keeps (AllLoci containers) (a_locus containers)
    (λ done d t p is. let good = locus_ok containers done d t is in (
      loci_more (container_names containers) [] done t p.0 good.1,
      subst AreDifferent (append_assoc (container_names containers) (locus_names done) (t.name ∷ []) ∙ ap (λ ns. container_names containers ++ ns) (sym (map_push (λ (x : LocusTable). x.name) done t)))
          (different_more (names_of containers done) t.name p.1 good.0),
    ))
    23 [] (codes "locus") ms ts (tt, subst AreDifferent (sym (nil_right (container_names containers))) different) h

-- ORDER

pick_ok : (names done : List Text) (d : Data) (x : Text) → a_pick names done d ≡ Ok x → is_among names x ≡ true
pick_ok names done d x h =
    let at = item_key (codes "order") (length done) in
    let p = then_ok (a_string at d) (λ name. if is_among names name then Ok name else refused Unknown at) x h in
    let t = test_ok (is_among names p.0) p.0 x Unknown at p.2 in
    let M : Text → Type 0 = λ n. is_among names n ≡ true in
    subst M t.1 t.0

order_ok : (names : List Text) (ms : Members) (xs : List Text) → order_at names ms ≡ Ok xs → IsTrue (list_all (is_among names) xs) × (length xs ≤ 4096)
order_ok names ms xs h =
    list_keeps (λ done. list_all (is_among names) done ≡ true) (a_pick names)
    (λ done d x p is. list_all-append (is_among names) done (x ∷ []) ∙ rw (p, pick_ok names done d x is))
    4096 [] (codes "order") ms xs refl h

-- THE WHOLE

abbrev pub IsAllowed : FramedTables → Type 0
IsAllowed s = IsScript s.tables × (1 ≤ s.frames) × (s.frames ≤ 256)

pub entities_ok : (steps frames : ℕ) (programs : List Program) (ms : Members) (s : FramedTables) → (1 ≤ steps) × (steps ≤ 40000) → (1 ≤ frames) × (frames ≤ 256) → All Sound programs → entities_at steps frames programs ms ≡ Ok s → IsAllowed s
entities_ok steps frames programs ms s st fr all h =
    let made : List ContainerTable → List LocusTable → List Text → FramedTables = λ containers loci order. record { tables = record { steps = steps; order = order; containers = containers; loci = loci }; frames = frames } in
    let a = then_ok (containers_at programs ms) (λ containers. loci_at containers ms >>= (λ loci. order_at (locus_names loci) ms >>= (λ order. Ok (made containers loci order)))) s h in
    let b = then_ok (loci_at a.0 ms) (λ loci. order_at (locus_names loci) ms >>= (λ order. Ok (made a.0 loci order))) s a.2 in
    let c = then_ok (order_at (locus_names b.0) ms) (λ order. Ok (made a.0 b.0 order)) s b.2 in
    let cs = containers_ok programs ms a.0 all a.1 in
    let ls = loci_ok a.0 ms b.0 cs.0.1 b.1 in
    let os = order_ok (locus_names b.0) ms c.0 c.1 in
    subst IsAllowed (same_ok (made a.0 b.0 c.0) s c.2) (told a.0 b.0 c.0 cs ls os)
  where
    told : (cs : List ContainerTable) (ls : List LocusTable) (os : List Text) → AllContainers cs × (length cs ≤ 40) → AllLoci cs ls × (length ls ≤ 23) → IsTrue (list_all (is_among (locus_names ls)) os) × (length os ≤ 4096)
        → IsAllowed (record { tables = record { steps = steps; order = os; containers = cs; loci = ls }; frames = frames })
    told cs ls os c l o = (record { steps = st; few_containers = c.1; few_loci = l.1; containers = c.0.0; loci = l.0.0; different = l.0.1; few_picks = o.1; order = o.0 }, fr.0, fr.1)
