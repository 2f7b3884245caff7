-- An atlas, a container without its words, and a locus are told by their blobs.
use Rattle.std.proofs.Common.{◌≡◌, ◌<◌, ℕ, ◌^◌, ◌==◌, ◌&&◌, Bool, true, false, if◌then◌else◌, List, [], ◌∷◌, ◌++◌, length, nat_le, refl, sym, ap, ◌∙◌, arith, eqb-true}
use Rattle.std.proofs.lemmas.List.{append-nil}
use Rattle.std.specs.Prelude.{All}
use Rattle.std.specs.List.{AllByRecursion}
use Rattle.byteorder.specs.Endian.{little_bytes}
use Rattle.model_kernel.specs.base_types.Instructions.{IsInstruction}
use Rattle.model_kernel.specs.base_types.declared.capabilities.Private.{Private}
use Rattle.model_kernel.specs.base_types.declared.capabilities.Region.{Region}
use Rattle.model_kernel.specs.base_types.declared.entities.Kind.{Kind}
use Rattle.model_kernel.specs.base_types.declared.entities.Kind.TheVariants.{Atlas, Container, Locus}
use Rattle.model_kernel.specs.State.{AtlasState, ContainerState, LocusState}
use Rattle.blob_grammar.specs.Forms.{IsAtlasForm, IsContainerForm, IsLocusForm, IsNumber, IsSpelling, SpellsAtlas, SpellsContainer, SpellsLocus}
use Rattle.blob_grammar.specs.Laws.{IsPrefixFree}
use Rattle.blob_grammar.specs.Shapes.{IsPrivateOver, IsRegionOver}
use Rattle.blob_grammar.specs.Spelling.{atlas_blob, call_bytes, condition_number, container_blob, entry_byte, instr_bytes, is_short, locus_blob, locus_front, locus_rest, private_bytes, region_bytes, text_bytes}
use Rattle.blob_grammar.proofs.Edges.{edges}
use Rattle.blob_grammar.proofs.Fields.{Any, all_any, apart, call, caps, condition_same, entry_same, private_region, region, text, walk}
use Rattle.blob_grammar.proofs.Instructions.{instr}
use Rattle.blob_grammar.proofs.Telling.{Tells, and_then, byte_then, each, items, list, number, when}

-- THE ATLAS
pub atlas : (a b : AtlasState) → IsAtlasForm a → IsAtlasForm b → Tells (atlas_blob a) (atlas_blob b) (a ≡ b)
unfolding atlas_blob
atlas a b f g =
    when
    (byte_then 0 0 (λ _. and_then (list text_bytes Any text a.containers b.containers (all_any a.containers) (all_any b.containers))
    (λ _. and_then (list text_bytes Any text a.loci b.loci (all_any a.loci) (all_any b.loci)) (λ _. edges a.edges b.edges f.edges g.edges))))
    (λ t. λ i. record { containers = t.1.0 i; loci = t.1.1.0 i; edges = t.1.1.1 i })

-- A CONTAINER
abbrev pub IsShort : Region → Type 0
IsShort r = r.count < 256 ^ 2

regions_short : (rs : List Region) → All (IsRegionOver IsNumber) rs → AllByRecursion IsShort rs
regions_short rs all = each IsShort rs (λ i d lt. let at = (all i d lt).at in omega (arith, at))

abbrev IsWord : ℕ → Type 0
IsWord n = n < 256 ^ 4

pub container : (c d : ContainerState) (t u : List ℕ) → IsContainerForm c t → IsContainerForm d u
    → Tells (container_blob c t) (container_blob d u) ((t ≡ u) × (record c { words = d.words } ≡ d))
unfolding container_blob
container c d t u f g =
    when
    (byte_then 1 1 (λ _. and_then (number 2 c.pages d.pages (let s = f.shape.size in omega (arith, s)) (let s = g.shape.size in omega (arith, s)))
    (λ pages. and_then (number 8 c.tag d.tag f.tag g.tag)
    (λ _. and_then (number 4 c.every d.every f.every g.every)
    (λ _. byte_then (entry_byte c.entry) (entry_byte d.entry)
    (λ _. and_then (list instr_bytes IsInstruction instr c.code d.code (each IsInstruction c.code f.shape.code.each) (each IsInstruction d.code g.shape.code.each))
    (λ _. and_then (list region_bytes IsShort region c.regions d.regions (regions_short c.regions f.shape.regions) (regions_short d.regions g.shape.regions))
    (λ _. and_then (caps c.caps d.caps (f.shape.caps.slots ∙ sym g.shape.caps.slots))
    (λ _. items (little_bytes 4) IsWord (number 4) t u (each IsWord t f.blocks.numbers) (each IsWord u g.blocks.numbers) (f.blocks.each_page ∙ pages ∙ sym g.blocks.each_page))))))))))
    (λ t.
    let tag = t.1.1 in let every = tag.1 in let entry = every.1 in let code = entry.1 in let regions = code.1 in let slots = regions.1 in
    let entry_is : c.entry ≡ d.entry = entry_same c.entry d.entry f.shape.entry g.shape.entry entry.0 in (
      slots.1,
      λ i. record {
        pages = t.1.0 i;
        tag = tag.0 i;
        every = every.0 i;
        entry = entry_is i;
        code = code.0 i;
        regions = regions.0 i;
        caps = slots.0 i;
        words = d.words;
      },
    ))

-- A LOCUS
abbrev FrontSame : LocusState → LocusState → Type 0
FrontSame l m = (l.every ≡ m.every) × (l.condition ≡ m.condition) × (l.host ≡ m.host) × (l.place ≡ m.place) × (l.registers ≡ m.registers)

abbrev RestSame : LocusState → LocusState → Type 0
RestSame l m = (l.code ≡ m.code) × (l.chain ≡ m.chain) × (l.privates ≡ m.privates) × (l.caps ≡ m.caps) × (l.walk ≡ m.walk)

abbrev IsRegister : ℕ → Type 0
IsRegister n = n < 256 ^ 8

front : (l m : LocusState) → IsLocusForm l → IsLocusForm m → Tells (locus_front l) (locus_front m) (FrontSame l m)
front l m f g =
    when
    (and_then (number 4 l.every m.every f.every g.every)
    (λ _. byte_then (condition_number l.condition) (condition_number m.condition)
    (λ _. byte_then l.host m.host
    (λ _. byte_then l.place m.place
    (λ _. items (little_bytes 8) IsRegister (number 8) l.registers m.registers (each IsRegister l.registers f.values) (each IsRegister m.registers g.values) (f.shape.registers ∙ sym g.shape.registers))))))
    (λ t. (t.0, condition_same l.condition m.condition t.1.0, t.1.1.0, t.1.1.1.0, t.1.1.1.1))

abbrev IsShortPrivate : Private → Type 0
IsShortPrivate p = p.region.count < 256 ^ 2

privates_short : (ps : List Private) → All (IsPrivateOver IsNumber) ps → AllByRecursion IsShortPrivate ps
privates_short ps all = each IsShortPrivate ps (λ i d lt. let at = (all i d lt).region.at in omega (arith, at))

rest : (l m : LocusState) → IsLocusForm l → IsLocusForm m → Tells (locus_rest l) (locus_rest m) (RestSame l m)
rest l m f g =
    when
    (and_then (list instr_bytes IsInstruction instr l.code m.code (each IsInstruction l.code f.shape.code.each) (each IsInstruction m.code g.shape.code.each))
    (λ _. and_then (list call_bytes Any call l.chain m.chain (all_any l.chain) (all_any m.chain))
    (λ _. and_then (list private_bytes IsShortPrivate private_region l.privates m.privates (privates_short l.privates f.shape.privates) (privates_short m.privates g.shape.privates))
    (λ _. and_then (caps l.caps m.caps (f.shape.caps.slots ∙ sym g.shape.caps.slots))
    (λ _. walk l.walk m.walk f.address g.address)))))
    (λ t. (t.0, t.1.0, t.1.1.0, t.1.1.1.0, t.1.1.1.1))

same_locus : (l m : LocusState) → FrontSame l m → RestSame l m → l.printed ≡ m.printed → l ≡ m
same_locus l m p q printed = λ i. record {
  registers = p.4 i;
  place = p.3 i;
  code = q.0 i;
  host = p.2 i;
  chain = q.1 i;
  privates = q.2 i;
  caps = q.3 i;
  walk = q.4 i;
  condition = p.1 i;
  every = p.0 i;
  printed = printed i;
}

abbrev locus_by : Bool → LocusState → List ℕ
locus_by b l = if b then 2 ∷ locus_front l ++ locus_rest l else 3 ∷ locus_front l ++ (little_bytes 8 l.printed ++ locus_rest l)

short_silent : (l : LocusState) → is_short l ≡ true → l.printed ≡ 0
short_silent l short = eqb-true l.printed 0 (first_holds (l.printed == 0) (nat_le (length l.chain) 32) (nat_le (length l.privates) 8) short)
  where
    first_holds : (a b c : Bool) → (a && b && c) ≡ true → a ≡ true
    first_holds true b c h = refl
    first_holds false b c h = h

locus_both : (l m : LocusState) → IsLocusForm l → IsLocusForm m → (b c : Bool) → is_short l ≡ b → is_short m ≡ c → Tells (locus_by b l) (locus_by c m) (l ≡ m)
locus_both l m f g true true short brief =
    when (byte_then 2 2 (λ _. and_then (front l m f g) (λ _. rest l m f g)))
    (λ t. same_locus l m t.1.0 t.1.1 (short_silent l short ∙ sym (short_silent m brief)))
locus_both l m f g false false long wide =
    when (byte_then 3 3 (λ _. and_then (front l m f g) (λ _. and_then (number 8 l.printed m.printed (let s = f.shape.printed in omega (arith, s)) (let s = g.shape.printed in omega (arith, s))) (λ _. rest l m f g))))
    (λ t. same_locus l m t.1.0 t.1.1.1 t.1.1.0)
locus_both l m f g true false short wide =
    apart 2 3 (locus_front l ++ locus_rest l) (locus_front m ++ (little_bytes 8 m.printed ++ locus_rest m)) (λ e. omega (arith, e))
locus_both l m f g false true long brief =
    apart 3 2 (locus_front l ++ (little_bytes 8 l.printed ++ locus_rest l)) (locus_front m ++ locus_rest m) (λ e. omega (arith, e))

pub locus : (l m : LocusState) → IsLocusForm l → IsLocusForm m → Tells (locus_blob l) (locus_blob m) (l ≡ m)
unfolding locus_blob
locus l m f g = locus_both l m f g (is_short l) (is_short m) refl refl

-- THE LAWS

-- two spellings, with nothing behind the one
same_spelled : {R : Type 0} {p q : List ℕ} (bytes : List ℕ) → Tells p q R → bytes ≡ p → bytes ≡ q → R
same_spelled {p = p} {q = q} bytes t is other =
    (t.told [] [] (ap (λ (l : List ℕ). l ++ []) (sym is ∙ other))).0

none_behind : {R : Type 0} {p q : List ℕ} (before behind : List ℕ) → Tells p q R → before ≡ p → before ++ behind ≡ q → behind ≡ []
none_behind {p = p} {q = q} before behind t is other =
    (t.told behind [] (ap (λ (l : List ℕ). l ++ behind) (sym is) ∙ other ∙ sym (append-nil q))).1

pub one_atlas : (a b : AtlasState) (bytes : List ℕ) → SpellsAtlas a bytes → SpellsAtlas b bytes → a ≡ b
one_atlas a b bytes p q = same_spelled bytes (atlas a b p.form q.form) p.is q.is

pub one_container : (c d : ContainerState) (t u bytes : List ℕ) → SpellsContainer c t bytes → SpellsContainer d u bytes → (t ≡ u) × (record c { words = d.words } ≡ d)
one_container c d t u bytes p q = same_spelled bytes (container c d t u p.form q.form) p.is q.is

pub one_locus : (l m : LocusState) (bytes : List ℕ) → SpellsLocus l bytes → SpellsLocus m bytes → l ≡ m
one_locus l m bytes p q = same_spelled bytes (locus l m p.form q.form) p.is q.is

pub prefix_free : (kind : Kind) → IsPrefixFree (IsSpelling kind)
prefix_free Atlas before behind (a, p) (b, q) = none_behind before behind (atlas a b p.form q.form) p.is q.is
prefix_free Container before behind (c, t, p) (d, u, q) = none_behind before behind (container c d t u p.form q.form) p.is q.is
prefix_free Locus before behind (l, p) (m, q) = none_behind before behind (locus l m p.form q.form) p.is q.is
