use Rattle.std.proofs.Common.{◌∷◌, [], ◌++◌, refl, sym, subst}
use Rattle.plain_states.specs.model_kernel.Scripts.{next_name as next_of}
use Rattle.plain_states.specs.Plains.{atlas_of, cells_of}
use Rattle.trace_step_facts.proofs.plain_runs_lemmas.Answering.{few_names_of}
use Rattle.trace_step_facts.proofs.plain_runs_lemmas.KnownNames.{next_known}
use Rattle.trace_step_facts.proofs.plain_facts_lemmas.Suppliers.{sound_any}
use Rattle.script_types.specs.Scripts.{tables_of}
use Rattle.trace_steps.specs.Standing.{Stands}
use Rattle.trace_steps.specs.declared.checker.Checker.{Checker}
use Rattle.trace_steps.proofs.Bearing.{all_born_refuses, birth_may, birth_stands, is_birth, unbearable_refuses}
use Rattle.trace_steps.proofs.Stepping.{few_versions}
use Rattle.trace_steps.proofs.births.birth.Goals as goal
use Rattle.trace_step_facts.proofs.model_births_lemmas.KnownNames.{next_name_is}

pub returns-in_default-clause-none : goal.returns-in_default-clause-none
returns-in_default-clause-none g c = λ actor w es h e ev by may.
    all_born_refuses g.gate.word g.gate.wish (tables_of c.args.script.now) w es c.args.checker.now h c.requires.0 c.in_default.ensures.none e ev may

pub plain_birth-requires-clause-sound : goal.plain_birth-requires-clause-sound
plain_birth-requires-clause-sound g c s = sound_any g.gate.word s c.args.checker.now.state c.requires.1.2.keeps.sound

pub plain_birth-requires-clause-few : goal.plain_birth-requires-clause-few
plain_birth-requires-clause-few g c =
    let at = c.requires.1 in
    few_versions g.gate.word g.gate.wish (tables_of c.args.script.now) at.0 at.1 (cells_of g.gate.word c.args.checker.now.state) c.args.checker.now.versions at.2.run at.2.keeps.has

pub plain_birth-requires-clause-known : goal.plain_birth-requires-clause-known
plain_birth-requires-clause-known g c =
    let a = atlas_of c.args.checker.now.state.atlas in
    let script = tables_of c.args.script.now in
    let name = c.in-Some.name.now in
    next_known a script name (next_name_is a script name c.requires.1.2.run.rules c.in-Some.ensures.some)

pub returns-in_default-2-clause-none : goal.returns-in_default-2-clause-none
returns-in_default-2-clause-none g c = λ actor w es h e ev by may.
    let undefined = rw c.in_default-2.is at c.in_ok-entry.ensures.undefined in
    unbearable_refuses g.gate.word g.gate.wish (tables_of c.args.script.now) w es c.args.checker.now h c.requires.0 c.in-Some.name.now c.in-Some.ensures.some (undefined.0 refl g.gate.word) e ev may

pub owe_births-requires : goal.owe_births-requires
owe_births-requires g c = few_names_of g.gate.word c.plain_birth.new.state (c.plain_birth.ensures.sound g.gate.word)

pub returns-clause-some : goal.returns-clause-some
returns-clause-some g c = λ w es h.
    let s = g.gate.word in
    let p = g.gate.wish in
    let script = tables_of c.args.script.now in
    let old = c.args.checker.now in
    let tried = c.requires.0 in
    let name = c.in-Some.name.now in
    let is = c.in-Some.ensures.some in
    let began = c.if-not-checker.false in
    let st = c.plain_birth.new.state in
    let vs = c.plain_birth.new.versions in
    let e = c.in-Some-2.entry in
    let bears = (rw c.in-Some-2.is at c.in_ok-entry.ensures.birth) s in
    record {
      made = is_birth s p script w es old h tried name is began st vs e bears;
      by = refl;
      may = birth_may s p script w es old h tried name is began st vs e bears;
      stands = subst (λ (k : Checker). Stands s p script w k (es ++ e ∷ [])) (sym c.owe_births.ensures)
          (birth_stands s p script w es old h tried name is began st vs e bears (c.plain_birth.ensures.sound s) c.plain_birth.ensures.edges c.take_in.new.self c.take_birth.new.self (next_of (atlas_of st.atlas) script) refl c.take_in.ensures
          c.take_birth.ensures.by_step c.take_birth.ensures.was_full c.take_birth.ensures.newest c.take_birth.ensures.asked c.take_birth.ensures.full);
    }
