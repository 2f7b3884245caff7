use Rattle.std.proofs.Common.{◌≡◌, ◌∙◌, false, List, Option, Some, None, is_some, option_map, find, map, string_bytes, refl, sym, ap}
use Rattle.model_kernel.specs.Scripts.{container_table as container_table_by, locus_table as locus_table_by, text_eq}
use Rattle.model_kernel.specs.State.{Text}
use Rattle.script_types.specs.Scripts.{container_of, locus_of, tables_of}
use Rattle.script_types.specs.declared.ScriptContainer.{ScriptContainer}
use Rattle.script_types.specs.declared.ScriptLocus.{ScriptLocus}
use Rattle.plain_states.specs.Plains.{atlas_of, cells_of}
use Rattle.plain_states.proofs.ActLemmas.{ok_by, some_by, none_by}
use Rattle.plain_states.proofs.PlainBirths.{few_names}
use Rattle.plain_states.proofs.ScriptLemmas.{bears_container, bears_locus, container_found, full_containers, locus_found, named_container, named_known, named_locus, named_nothing, no_locus_born, none_where_undefined, ready_container, ready_locus_table, undefined_at}
use Rattle.plain_states.proofs.births.plain_birth.Goals as goal

no_number : {A : Type 0} (o : Option A) → is_some o ≡ false → o ≡ None
no_number None e = refl
no_number (Some x) e = cc

container_is : (ts us : List ScriptContainer) (name : Text) (o : Option ScriptContainer) → us ≡ ts → o ≡ find (λ t. text_eq name (string_bytes t.name)) us → container_table_by (map container_of ts) name ≡ option_map container_of o
container_is ts us name o same is = container_found ts name ∙ ap (λ xs. option_map container_of (find (λ t. text_eq name (string_bytes t.name)) xs)) (sym same) ∙ ap (option_map container_of) (sym is)

locus_is : (ts us : List ScriptLocus) (name : Text) (o : Option ScriptLocus) → us ≡ ts → o ≡ find (λ t. text_eq name (string_bytes t.name)) us → locus_table_by (map locus_of ts) name ≡ option_map locus_of o
locus_is ts us name o same is = locus_found ts name ∙ ap (λ xs. option_map locus_of (find (λ t. text_eq name (string_bytes t.name)) xs)) (sym same) ∙ ap (option_map locus_of) (sym is)

pub returns-then-is_some-clause-undefined : goal.returns-then-is_some-clause-undefined
returns-then-is_some-clause-undefined c =
    let a = atlas_of c.args.state.now.atlas in
    let known = ap is_some (sym c.number_of.ensures) ∙ sym c.is_some.ensures ∙ c.if-is_some.true in
    (λ _ s. undefined_at s (tables_of c.args.script.now) c.args.name.now (cells_of s c.args.state.now) c.args.versions.now a refl (λ w. named_known s (tables_of c.args.script.now) c.args.name.now w a known), λ _. refl)

pub container_birth-requires : goal.container_birth-requires
container_birth-requires c =
    let a = atlas_of c.args.state.now.atlas in
    let none = sym c.number_of.ensures ∙ no_number c.number_of.result (sym c.is_some.ensures ∙ c.if-is_some.false) in
    let is = container_is c.args.script.now.containers.items c.deref.result.now c.args.name.now (Some c.in-Some.table.now) c.deref.ensures.value c.in-Some.ensures in
    record { sound = c.requires.sound; edges = c.requires.edges; few = c.requires.few; table = ready_container a (tables_of c.args.script.now) c.args.name.now (container_of c.in-Some.table.now) c.requires.script c.requires.known c.requires.kinds none is }

pub returns-in-Some-clause-birth : goal.returns-in-Some-clause-birth
returns-in-Some-clause-birth c =
    let a = atlas_of c.args.state.now.atlas in
    let none = sym c.number_of.ensures ∙ no_number c.number_of.result (sym c.is_some.ensures ∙ c.if-is_some.false) in
    let is = container_is c.args.script.now.containers.items c.deref.result.now c.args.name.now (Some c.in-Some.table.now) c.deref.ensures.value c.in-Some.ensures in
    ok_by c.container_birth.result (λ r. some_by r (λ e h s. bears_container s (tables_of c.args.script.now) c.args.name.now a (container_of c.in-Some.table.now) _ _ _ _ e refl none is (h s))) c.container_birth.ensures.birth

pub returns-in-Some-clause-undefined : goal.returns-in-Some-clause-undefined
returns-in-Some-clause-undefined c =
    let a = atlas_of c.args.state.now.atlas in
    let none = sym c.number_of.ensures ∙ no_number c.number_of.result (sym c.is_some.ensures ∙ c.if-is_some.false) in
    let is = container_is c.args.script.now.containers.items c.deref.result.now c.args.name.now (Some c.in-Some.table.now) c.deref.ensures.value c.in-Some.ensures in
    let t = container_of c.in-Some.table.now in
    none_where_undefined (tables_of c.args.script.now) c.args.name.now (λ s. cells_of s c.args.state.now) _ c.args.versions.now _ c.container_birth.result
    (ok_by c.container_birth.result (λ r. some_by r (λ e h s. bears_container s (tables_of c.args.script.now) c.args.name.now a t _ _ _ _ e refl none is (h s))) c.container_birth.ensures.birth)
    (ok_by c.container_birth.result
    (λ r. none_by r (λ full s. undefined_at s (tables_of c.args.script.now) c.args.name.now (cells_of s c.args.state.now) c.args.versions.now a refl
    (λ w. named_container s (tables_of c.args.script.now) c.args.name.now w a t none is ∙ full_containers s a t full)))
    c.container_birth.ensures.full)

pub locus_birth-requires : goal.locus_birth-requires
locus_birth-requires c =
    let a = atlas_of c.args.state.now.atlas in
    let none = sym c.number_of.ensures ∙ no_number c.number_of.result (sym c.is_some.ensures ∙ c.if-is_some.false) in
    let is = locus_is c.args.script.now.loci.items c.deref-2.result.now c.args.name.now (Some c.in-Some-locus_table.table.now) c.deref-2.ensures.value c.in-Some-locus_table.ensures in
    record { sound = c.requires.sound; few = c.requires.few; table = ready_locus_table a (tables_of c.args.script.now) c.args.name.now (locus_of c.in-Some-locus_table.table.now) c.requires.script c.requires.known none is }

pub returns-in-Some-locus_table-clause-birth : goal.returns-in-Some-locus_table-clause-birth
returns-in-Some-locus_table-clause-birth c =
    let a = atlas_of c.args.state.now.atlas in
    let none = sym c.number_of.ensures ∙ no_number c.number_of.result (sym c.is_some.ensures ∙ c.if-is_some.false) in
    let absent = container_is c.args.script.now.containers.items c.deref.result.now c.args.name.now None c.deref.ensures.value c.in_default.ensures in
    let is = locus_is c.args.script.now.loci.items c.deref-2.result.now c.args.name.now (Some c.in-Some-locus_table.table.now) c.deref-2.ensures.value c.in-Some-locus_table.ensures in
    ok_by c.locus_birth.result (λ r. some_by r (λ e h s. bears_locus s (tables_of c.args.script.now) c.args.name.now a (locus_of c.in-Some-locus_table.table.now) _ _ _ _ e refl none absent is (h s))) c.locus_birth.ensures.birth

pub returns-in-Some-locus_table-clause-undefined : goal.returns-in-Some-locus_table-clause-undefined
returns-in-Some-locus_table-clause-undefined c =
    let a = atlas_of c.args.state.now.atlas in
    let none = sym c.number_of.ensures ∙ no_number c.number_of.result (sym c.is_some.ensures ∙ c.if-is_some.false) in
    let absent = container_is c.args.script.now.containers.items c.deref.result.now c.args.name.now None c.deref.ensures.value c.in_default.ensures in
    let is = locus_is c.args.script.now.loci.items c.deref-2.result.now c.args.name.now (Some c.in-Some-locus_table.table.now) c.deref-2.ensures.value c.in-Some-locus_table.ensures in
    let t = locus_of c.in-Some-locus_table.table.now in
    none_where_undefined (tables_of c.args.script.now) c.args.name.now (λ s. cells_of s c.args.state.now) _ c.args.versions.now _ c.locus_birth.result
    (ok_by c.locus_birth.result (λ r. some_by r (λ e h s. bears_locus s (tables_of c.args.script.now) c.args.name.now a t _ _ _ _ e refl none absent is (h s))) c.locus_birth.ensures.birth)
    (ok_by c.locus_birth.result
    (λ r. none_by r (λ full s. undefined_at s (tables_of c.args.script.now) c.args.name.now (cells_of s c.args.state.now) c.args.versions.now a refl
    (λ w. named_locus s (tables_of c.args.script.now) c.args.name.now w a t none absent is ∙ no_locus_born w a t full)))
    c.locus_birth.ensures.full)

pub returns-in-None-clause-undefined : goal.returns-in-None-clause-undefined
returns-in-None-clause-undefined c =
    let a = atlas_of c.args.state.now.atlas in
    let none = sym c.number_of.ensures ∙ no_number c.number_of.result (sym c.is_some.ensures ∙ c.if-is_some.false) in
    let absent = container_is c.args.script.now.containers.items c.deref.result.now c.args.name.now None c.deref.ensures.value c.in_default.ensures in
    let nor = locus_is c.args.script.now.loci.items c.deref-2.result.now c.args.name.now None c.deref-2.ensures.value c.in-None.ensures in (
      λ _ s. undefined_at s (tables_of c.args.script.now) c.args.name.now (cells_of s c.args.state.now) c.args.versions.now a refl
          (λ w. named_nothing s (tables_of c.args.script.now) c.args.name.now w a none absent nor),
      λ _. refl,
    )

pub number_of-requires : goal.number_of-requires
number_of-requires c = few_names c.args.state.now c.requires.sound
