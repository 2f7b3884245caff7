-- Each program is read behind the others, and its fault is the table's.
use Rattle.std.proofs.Common.{◌≡◌, ◌∷◌, ◌++◌, [], Ok, map, string_bytes, sym, ap, ◌∙◌}
use Rattle.std.proofs.lemmas.List.{map_push}
use Rattle.std.proofs.lemmas.Map.Iter.{rest_more}
use Rattle.std.specs.Map.Iter.{deref_pair}
use Rattle.toml.specs.View.{view, members_view}
use Rattle.script_meaning.specs.Meaning.{Program, a_program, more_programs}
use Rattle.script_meaning.specs.Reading.{IsFaultOf, ◌>>=◌}
use Rattle.script_reading.specs.Views.{program_of}
use Rattle.script_reading.specs.declared.programs.Program.{Program as CodeProgram}
use Rattle.script_meaning.proofs.Each.{passes_on, fault_by, handed_on}
use Rattle.script_reading.proofs.Orders.{sorted_in_order}
use Rattle.script_reading.proofs.programs.read_table.Goals as goal

pub loop-name-init : goal.loop-name-init
loop-name-init c =
    let given = c.into_iter-name-iterator.ensures.into_iter_gives in
    record {
      can = tt;
      ends = tt;
      rest = λ spelled reader. ap (λ ps. more_programs spelled (map program_of ps) (members_view c.into_iter-name-iterator.result)) c.new-programs.ensures.items ∙ ap (λ es. more_programs spelled [] (members_view es)) given.0
          ∙ sym (ap (more_programs spelled []) (sorted_in_order c.args.table.now.entries given.5));
    }

pub returns-in_err-code : goal.returns-in_err-code
returns-in_err-code c spelled reader =
    let e = c.in_err-code.field-0.0 in
    let done = map program_of c.loop-name.programs.items in
    let next = c.next.new.self in
    let name = string_bytes c.in-Some.name.now in
    let left : c.loop-name.name-iterator ≡ (c.in-Some.name.now, c.in-Some.value.now) ∷ next = rest_more deref_pair _ _ _ _ c.in-Some.is c.next.ensures.steps in
    let item : IsFaultOf (a_program spelled name (view c.in-Some.value.now)) e = rw (← c.as_str.ensures.value) (c.in_err-code.ensures spelled reader) in
    let whole = sym (c.loop-name.invariant.rest spelled reader) ∙ ap (λ es. more_programs spelled done (members_view es)) left in
    handed_on _ _ _ e c.from_residual.ensures
    (fault_by _ _ e whole (passes_on (a_program spelled name (view c.in-Some.value.now)) (λ code. more_programs spelled (done ++ record { name = name; code = code } ∷ []) (members_view next)) e item))

pub loop-name-preserved : goal.loop-name-preserved
loop-name-preserved c = record {
  can = tt;
  ends = tt;
  rest = λ spelled reader.
      let done = map program_of c.loop-name.programs.items in
      let next = c.next.new.self in
      let name = string_bytes c.in-Some.name.now in
      let p : CodeProgram = record { name = c.in_ok-from_str.field-0; code = c.in_ok-code.code } in
      let left : c.loop-name.name-iterator ≡ (c.in-Some.name.now, c.in-Some.value.now) ∷ next = rest_more deref_pair _ _ _ _ c.in-Some.is c.next.ensures.steps in
      let item : a_program spelled name (view c.in-Some.value.now) ≡ Ok c.in_ok-code.code.items = rw (← c.as_str.ensures.value) (c.in_ok-code.ensures spelled reader) in
      let named : string_bytes c.in_ok-from_str.field-0 ≡ name = c.in_ok-from_str.ensures.ok ∙ c.as_str-in-loop-name.ensures.value in
      let q : Program = record { name = name; code = c.in_ok-code.code.items } in
      let grown : map program_of c.push.new.self.items ≡ done ++ q ∷ [] =
      ap (map program_of) c.in_ok-push.ensures.items ∙ map_push program_of c.loop-name.programs.items p ∙ ap (λ n. done ++ record { name = n; code = c.in_ok-code.code.items } ∷ []) named in
      ap (λ ps. more_programs spelled ps (members_view next)) grown
      ∙ sym (ap (λ r. r >>= (λ code. more_programs spelled (done ++ record { name = name; code = code } ∷ []) (members_view next))) item)
      ∙ sym (ap (λ es. more_programs spelled done (members_view es)) left)
      ∙ c.loop-name.invariant.rest spelled reader;
}
