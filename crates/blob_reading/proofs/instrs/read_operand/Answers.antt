use Rattle.std.proofs.Common.{◌≡◌, ℕ, sym, ap, ◌∙◌, subst}
use Rattle.std.specs.Prelude.{slice_index, Option, unwrap_or}
use Rattle.std.proofs.lemmas.Result.{IfErr-weaker}
use Rattle.blob_facts.specs.Fields.{IsNumberIn, IsRefused, Spells}
use Rattle.blob_facts.specs.Instrs.{IsOperandSpelled, make_code}
use Rattle.blob_reading.specs.declared.fields.Stuck.{Stuck}
use Rattle.blob_facts.proofs.InstrFields.{first_or_zero, no_place_refused, plain_refused}
use Rattle.blob_reading.proofs.instrs.read_operand.Goals.{else-code-eq-MAKE-via-then-code-eq-MAKE+else-first, else-code-eq-MAKE-via-else-code-eq-MAKE}
use Rattle.blob_reading.proofs.instrs.read_operand.Goals as goal

pub returns-then-first-clause-refused : goal.returns-then-first-clause-refused
returns-then-first-clause-refused c =
    let first = first_or_zero c.args.bytes.now c.unwrap_or-first.result (c.unwrap_or-first.ensures ∙ ap (λ (o : Option ℕ). unwrap_or o 0) (c.copied.ensures ∙ c.first.ensures.value)) in
    IfErr-weaker c.read_number.result _ (λ (stuck : Stuck). IsRefused (Spells (IsOperandSpelled c.args.code)) c.args.bytes.now stuck.rest.now)
    (λ stuck r. subst (λ n. IsRefused (Spells (IsOperandSpelled n)) c.args.bytes.now stuck.rest.now) (sym c.if-code-eq-MAKE.true) (no_place_refused c.args.bytes.now stuck.rest.now (sym first ∙ c.if-first.true) r)) c.read_number.ensures.refused

pub returns-clause-refused : goal.returns-clause-refused
returns-clause-refused c =
    let first = first_or_zero c.args.bytes.now c.unwrap_or-first.result (c.unwrap_or-first.ensures ∙ ap (λ (o : Option ℕ). unwrap_or o 0) (c.copied.ensures ∙ c.first.ensures.value)) in
    IfErr-weaker c.read_number-2.result _ (λ (stuck : Stuck). IsRefused (Spells (IsOperandSpelled c.args.code)) c.args.bytes.now stuck.rest.now)
    (λ stuck r. plain_refused c.args.code c.args.bytes.now stuck.rest.now
    (elim c.else-code-eq-MAKE.branch as (λ _. (c.args.code ≡ make_code → slice_index c.args.bytes.now 0 ≡ 255 → ⊥)) [
      | else-code-eq-MAKE-via-then-code-eq-MAKE+else-first w ↦ λ code is. w.if-first.false (first ∙ is)
      | else-code-eq-MAKE-via-else-code-eq-MAKE w ↦ λ code is. w.if-code-eq-MAKE.false code
    ])
    (subst (λ n. IsRefused (Spells (IsNumberIn 8 0 n)) c.args.bytes.now stuck.rest.now) c.greatest_number.ensures r)) c.read_number-2.ensures.refused
