use Rattle.std.proofs.Common.{[], ◌∷◌, refl, ap, subst, ◌∙◌, inl, inr}
use Rattle.table_laws.specs.cell_plans.Plans.{IsPlanned}
use Rattle.thread_history.specs.Given.{came}
use Rattle.thread_steps.specs.Lending.{lent_as}
use Rattle.thread_steps.proofs.Arms.{few_with, holds_with, idle_short, instr_here, lent_with, never_short, no_look_alone, no_look_atlas, no_look_planned, none_or_some, ok_both, paged_so}
use Rattle.thread_steps.proofs.Facing.{ready_here}
use Rattle.thread_steps.proofs.steps.step_cells.Goals as goal

pub next_plan-requires : goal.next_plan-requires
next_plan-requires g c = record { ready = ready_here c.args.locus.now (came c.args.atlas) (came c.args.other) c.requires.may.lent }

pub go_with_both-requires : goal.go_with_both-requires
go_with_both-requires g c = record {
  lent = lent_with g.B.PageStore (g.S.Supplier.word c.args.gate.now.supply) c.args.locus.now c.args.atlas c.args.other c.args.store c.requires.may (c.in-Some.atlas.now ∷ []) (c.in-Some-other.other.now ∷ []) (ap came c.in-Some.is) (ap came c.in-Some-other.is);
  few = few_with g.B.PageStore (g.S.Supplier.word c.args.gate.now.supply) c.args.locus.now c.args.atlas c.args.other c.args.store c.requires.may (c.in-Some.atlas.now ∷ []) (c.in-Some-other.other.now ∷ []) (ap came c.in-Some.is) (ap came c.in-Some-other.is);
  planned = c.in-Ok.ensures.plans;
}

pub go_with_atlas-requires : goal.go_with_atlas-requires
go_with_atlas-requires g c = record {
  lent = lent_with g.B.PageStore (g.S.Supplier.word c.args.gate.now.supply) c.args.locus.now c.args.atlas c.args.other c.args.store c.requires.may (c.in-Some.atlas.now ∷ []) [] (ap came c.in-Some.is) (ap came c.in-None-other.is);
  few = few_with g.B.PageStore (g.S.Supplier.word c.args.gate.now.supply) c.args.locus.now c.args.atlas c.args.other c.args.store c.requires.may (c.in-Some.atlas.now ∷ []) [] (ap came c.in-Some.is) (ap came c.in-None-other.is);
  planned = c.in-Ok.ensures.plans;
}

pub go_alone-requires : goal.go_alone-requires
go_alone-requires g c = record {
  lent = lent_with g.B.PageStore (g.S.Supplier.word c.args.gate.now.supply) c.args.locus.now c.args.atlas c.args.other c.args.store c.requires.may [] [] (ap came c.in-None.is) (ap came c.in-None-other-2.is);
  few = few_with g.B.PageStore (g.S.Supplier.word c.args.gate.now.supply) c.args.locus.now c.args.atlas c.args.other c.args.store c.requires.may [] [] (ap came c.in-None.is) (ap came c.in-None-other-2.is);
  planned = c.in-Ok.ensures.plans;
}

pub go_beside-requires : goal.go_beside-requires
go_beside-requires g c = record {
  lent = lent_with g.B.PageStore (g.S.Supplier.word c.args.gate.now.supply) c.args.locus.now c.args.atlas c.args.other c.args.store c.requires.may [] (c.in-Some-other-2.other.now ∷ []) (ap came c.in-None.is) (ap came c.in-Some-other-2.is);
  few = few_with g.B.PageStore (g.S.Supplier.word c.args.gate.now.supply) c.args.locus.now c.args.atlas c.args.other c.args.store c.requires.may [] (c.in-Some-other-2.other.now ∷ []) (ap came c.in-None.is) (ap came c.in-Some-other-2.is);
  planned = (c.in-Ok.field-0.reach, c.in-Ok.ensures.plans, c.in_default.not-Look);
}

pub go_look-requires : goal.go_look-requires
go_look-requires g c =
    let look = subst (IsPlanned c.args.locus.now c.in-Ok.field-0.instr) c.in-Look.is c.in-Ok.ensures.plans in
    record {
      keeps = c.requires.keeps;
      lent = lent_with g.B.PageStore (g.S.Supplier.word c.args.gate.now.supply) c.args.locus.now c.args.atlas c.args.other c.args.store c.requires.may [] (c.in-Some-other-2.other.now ∷ []) (ap came c.in-None.is) (ap came c.in-Some-other-2.is);
      few = few_with g.B.PageStore (g.S.Supplier.word c.args.gate.now.supply) c.args.locus.now c.args.atlas c.args.other c.args.store c.requires.may [] (c.in-Some-other-2.other.now ∷ []) (ap came c.in-None.is) (ap came c.in-Some-other-2.is);
      planned = (_, look);
      holds = holds_with g.B.PageStore (g.S.Supplier.word c.args.gate.now.supply) c.args.locus.now c.args.atlas c.args.other c.args.store c.requires.may [] (c.in-Some-other-2.other.now ∷ []) (ap came c.in-None.is) (ap came c.in-Some-other-2.is) c.in-Some-other-2.other.now c.in-Some-store.store.now refl (ap came c.in-Some-store.is) c.in-Ok.field-0.instr _ look;
    }

pub returns-in-Err-clause-still : goal.returns-in-Err-clause-still
returns-in-Err-clause-still g c why is =
    elim (none_or_some c.args.atlas) [
      | inl a ↦ elim (none_or_some c.args.other) [
        | inl o ↦ elim (none_or_some c.args.store) [ inl s ↦ rw (a, o, s) refl | inr s ↦ rw (a, o, s.1) refl ]
        | inr o ↦ elim (none_or_some c.args.store) [ inl s ↦ rw (a, o.1, s) refl | inr s ↦ rw (a, o.1, s.1) refl ]
      ]
      | inr a ↦ elim (none_or_some c.args.other) [
        | inl o ↦ elim (none_or_some c.args.store) [ inl s ↦ rw (a.1, o, s) refl | inr s ↦ rw (a.1, o, s.1) refl ]
        | inr o ↦ elim (none_or_some c.args.store) [ inl s ↦ rw (a.1, o.1, s) refl | inr s ↦ rw (a.1, o.1, s.1) refl ]
      ]
    ]

pub returns-in-Err-clause-no_blocks : goal.returns-in-Err-clause-no_blocks
returns-in-Err-clause-no_blocks g c = idle_short g.B.PageStore c.in-Err.why (lent_as c.args.locus.now c.args.atlas c.args.other c.args.store) c.in-Err.ensures.idle

pub returns-in-Err-clause-numbers : goal.returns-in-Err-clause-numbers
returns-in-Err-clause-numbers g c =
    elim (none_or_some c.args.atlas) [
      | inl a ↦ elim (none_or_some c.args.other) [ inl o ↦ rw (a, o) refl | inr o ↦ rw (a, o.1) refl ]
      | inr a ↦ elim (none_or_some c.args.other) [ inl o ↦ rw (a.1, o) refl | inr o ↦ rw (a.1, o.1) refl ]
    ]

pub returns-in-Some-other-clause-step : goal.returns-in-Some-other-clause-step
returns-in-Some-other-clause-step g c =
    let none = no_look_atlas c.args.locus.now c.in-Some.atlas.now [] (c.in-Some-other.other.now ∷ []) (lent_with g.B.PageStore (g.S.Supplier.word c.args.gate.now.supply) c.args.locus.now c.args.atlas c.args.other c.args.store c.requires.may (c.in-Some.atlas.now ∷ []) (c.in-Some-other.other.now ∷ []) (ap came c.in-Some.is) (ap came c.in-Some-other.is)) in
    rw (c.in-Some.is, c.in-Some-other.is) (record {
      instr = instr_here c.args.locus.now c.in-Ok.field-0.instr c.in-Ok.field-0.reach c.in-Ok.ensures.plans;
      apart = λ _. (c.go_with_both.ensures, elim (none_or_some c.args.store) [ inl n ↦ rw n refl | inr s ↦ rw s.1 refl ]);
      looking = λ i at look. absurd (none i at look);
    })

pub returns-in-Some-other-clause-no_blocks : goal.returns-in-Some-other-clause-no_blocks
returns-in-Some-other-clause-no_blocks g c =
    let none = no_look_atlas c.args.locus.now c.in-Some.atlas.now [] (c.in-Some-other.other.now ∷ []) (lent_with g.B.PageStore (g.S.Supplier.word c.args.gate.now.supply) c.args.locus.now c.args.atlas c.args.other c.args.store c.requires.may (c.in-Some.atlas.now ∷ []) (c.in-Some-other.other.now ∷ []) (ap came c.in-Some.is) (ap came c.in-Some-other.is)) in
    never_short g.B.PageStore _ (lent_as c.args.locus.now c.args.atlas c.args.other c.args.store) none

pub returns-in-Some-other-clause-numbers : goal.returns-in-Some-other-clause-numbers
returns-in-Some-other-clause-numbers g c = rw (c.in-Some.is, c.in-Some-other.is) c.go_with_both.ensures.numbers

pub returns-in-None-other-clause-step : goal.returns-in-None-other-clause-step
returns-in-None-other-clause-step g c =
    let none = no_look_atlas c.args.locus.now c.in-Some.atlas.now [] [] (lent_with g.B.PageStore (g.S.Supplier.word c.args.gate.now.supply) c.args.locus.now c.args.atlas c.args.other c.args.store c.requires.may (c.in-Some.atlas.now ∷ []) [] (ap came c.in-Some.is) (ap came c.in-None-other.is)) in
    rw (c.in-Some.is, c.in-None-other.is) (record {
      instr = instr_here c.args.locus.now c.in-Ok.field-0.instr c.in-Ok.field-0.reach c.in-Ok.ensures.plans;
      apart = λ _. (c.go_with_atlas.ensures, elim (none_or_some c.args.store) [ inl n ↦ rw n refl | inr s ↦ rw s.1 refl ]);
      looking = λ i at look. absurd (none i at look);
    })

pub returns-in-None-other-clause-no_blocks : goal.returns-in-None-other-clause-no_blocks
returns-in-None-other-clause-no_blocks g c =
    let none = no_look_atlas c.args.locus.now c.in-Some.atlas.now [] [] (lent_with g.B.PageStore (g.S.Supplier.word c.args.gate.now.supply) c.args.locus.now c.args.atlas c.args.other c.args.store c.requires.may (c.in-Some.atlas.now ∷ []) [] (ap came c.in-Some.is) (ap came c.in-None-other.is)) in
    never_short g.B.PageStore _ (lent_as c.args.locus.now c.args.atlas c.args.other c.args.store) none

pub returns-in-None-other-clause-numbers : goal.returns-in-None-other-clause-numbers
returns-in-None-other-clause-numbers g c = rw (c.in-Some.is, c.in-None-other.is) c.go_with_atlas.ensures.numbers

pub returns-in_default-clause-step : goal.returns-in_default-clause-step
returns-in_default-clause-step g c =
    let none = no_look_planned c.args.locus.now c.in-Ok.field-0.instr c.in-Ok.field-0.reach c.in-Ok.ensures.plans c.in_default.not-Look in
    rw (c.in-None.is, c.in-Some-other-2.is) (record {
      instr = instr_here c.args.locus.now c.in-Ok.field-0.instr c.in-Ok.field-0.reach c.in-Ok.ensures.plans;
      apart = λ _. (c.go_beside.ensures, elim (none_or_some c.args.store) [ inl n ↦ rw n refl | inr s ↦ rw s.1 refl ]);
      looking = λ i at look. absurd (none i at look);
    })

pub returns-in_default-clause-no_blocks : goal.returns-in_default-clause-no_blocks
returns-in_default-clause-no_blocks g c =
    let none = no_look_planned c.args.locus.now c.in-Ok.field-0.instr c.in-Ok.field-0.reach c.in-Ok.ensures.plans c.in_default.not-Look in
    never_short g.B.PageStore _ (lent_as c.args.locus.now c.args.atlas c.args.other c.args.store) none

pub returns-in_default-clause-numbers : goal.returns-in_default-clause-numbers
returns-in_default-clause-numbers g c = rw (c.in-None.is, c.in-Some-other-2.is) c.go_beside.ensures.numbers

pub returns-in-None-other-2-clause-step : goal.returns-in-None-other-2-clause-step
returns-in-None-other-2-clause-step g c =
    let none = no_look_alone c.args.locus.now (lent_with g.B.PageStore (g.S.Supplier.word c.args.gate.now.supply) c.args.locus.now c.args.atlas c.args.other c.args.store c.requires.may [] [] (ap came c.in-None.is) (ap came c.in-None-other-2.is)) in
    rw (c.in-None.is, c.in-None-other-2.is) (record {
      instr = instr_here c.args.locus.now c.in-Ok.field-0.instr c.in-Ok.field-0.reach c.in-Ok.ensures.plans;
      apart = λ _. (c.go_alone.ensures, elim (none_or_some c.args.store) [ inl n ↦ rw n refl | inr s ↦ rw s.1 refl ]);
      looking = λ i at look. absurd (none i at look);
    })

pub returns-in-None-other-2-clause-no_blocks : goal.returns-in-None-other-2-clause-no_blocks
returns-in-None-other-2-clause-no_blocks g c =
    let none = no_look_alone c.args.locus.now (lent_with g.B.PageStore (g.S.Supplier.word c.args.gate.now.supply) c.args.locus.now c.args.atlas c.args.other c.args.store c.requires.may [] [] (ap came c.in-None.is) (ap came c.in-None-other-2.is)) in
    never_short g.B.PageStore _ (lent_as c.args.locus.now c.args.atlas c.args.other c.args.store) none

pub returns-in-None-other-2-clause-numbers : goal.returns-in-None-other-2-clause-numbers
returns-in-None-other-2-clause-numbers g c = rw (c.in-None.is, c.in-None-other-2.is) c.go_alone.ensures.numbers

pub returns-in-Some-store-clause-step : goal.returns-in-Some-store-clause-step
returns-in-Some-store-clause-step g c =
    let look = subst (IsPlanned c.args.locus.now c.in-Ok.field-0.instr) c.in-Look.is c.in-Ok.ensures.plans in
    rw (c.in-None.is, c.in-Some-other-2.is, c.in-Some-store.is) (ok_both c.go_look.result _ _ _ (λ m looks same. record {
      instr = λ l is. same ∙ instr_here c.args.locus.now c.in-Ok.field-0.instr c.in-Ok.field-0.reach c.in-Ok.ensures.plans l is;
      apart = λ none. absurd (none _ _ look);
      looking = λ i at other. looks;
    }) c.go_look.ensures.looks c.go_look.ensures.instr)

pub returns-in-Some-store-clause-faulted : goal.returns-in-Some-store-clause-faulted
returns-in-Some-store-clause-faulted g c f is = rw (c.in-Some-other-2.is, c.in-Some-store.is) (paged_so c.go_look.result _ c.go_look.ensures.pages f is)

pub returns-in-Some-store-clause-no_blocks : goal.returns-in-Some-store-clause-no_blocks
returns-in-Some-store-clause-no_blocks g c n = rw (c.in-Some-other-2.is, c.in-Some-store.is) (c.go_look.ensures.no_blocks n)

pub returns-in-Some-store-clause-numbers : goal.returns-in-Some-store-clause-numbers
returns-in-Some-store-clause-numbers g c = rw (c.in-None.is, c.in-Some-other-2.is) c.go_look.ensures.numbers
