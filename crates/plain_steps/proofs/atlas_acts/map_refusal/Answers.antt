use Rattle.std.proofs.Common.{◌≡◌, ◌+◌, nat_lt, nat_le, true, false, length, sym, ap, ◌∙◌, arith}
use Rattle.std.specs.List.{list_any}
use Rattle.base_types.specs.Edges.{leads}
use Rattle.model_kernel.specs.Words.{overlaps}
use Rattle.plain_states.specs.Plains.{edges_of}
use Rattle.plain_facts.proofs.MapLemmas.{circular, is_below, is_past, is_within, list_full, no_page, none_fails, not_below, overlapping}
use Rattle.plain_steps.proofs.atlas_acts.map_refusal.Goals as goal

pub returns-then-region-c : goal.returns-then-region-c
returns-then-region-c c s =
    let inside : nat_le (c.args.region.now.at + c.args.region.now.count) c.args.c.now.pages ≡ false = is_past _ _ c.if-region-c.true in
    no_page _ _ _ _ inside

pub returns-then-overlaps_any : goal.returns-then-overlaps_any
returns-then-overlaps_any c s =
    let inside : nat_le (c.args.region.now.at + c.args.region.now.count) c.args.c.now.pages ≡ true = is_within _ _ c.if-region-c.false in
    let clash : list_any (overlaps c.args.region.now) c.args.c.now.regions.items ≡ true = ap (list_any (overlaps c.args.region.now)) (sym c.deref.ensures.value) ∙ sym c.overlaps_any.ensures ∙ c.if-overlaps_any.true in
    overlapping _ _ _ _ inside clash

pub returns-then-leads : goal.returns-then-leads
returns-then-leads c s =
    let inside : nat_le (c.args.region.now.at + c.args.region.now.count) c.args.c.now.pages ≡ true = is_within _ _ c.if-region-c.false in
    let clash : list_any (overlaps c.args.region.now) c.args.c.now.regions.items ≡ false = ap (list_any (overlaps c.args.region.now)) (sym c.deref.ensures.value) ∙ sym c.overlaps_any.ensures ∙ c.if-overlaps_any.false in
    let circle : leads 40 (edges_of c.args.atlas.now.edges.items) c.args.region.now.target c.args.number ≡ true = ap (λ es. leads 40 (edges_of es) c.args.region.now.target c.args.number) (sym c.deref-2.ensures.value) ∙ sym c.leads.ensures ∙ c.if-leads.true in
    circular _ _ _ _ inside clash circle

pub returns-then-len-ge-MOST_REGIONS : goal.returns-then-len-ge-MOST_REGIONS
returns-then-len-ge-MOST_REGIONS c s =
    let inside : nat_le (c.args.region.now.at + c.args.region.now.count) c.args.c.now.pages ≡ true = is_within _ _ c.if-region-c.false in
    let clash : list_any (overlaps c.args.region.now) c.args.c.now.regions.items ≡ false = ap (list_any (overlaps c.args.region.now)) (sym c.deref.ensures.value) ∙ sym c.overlaps_any.ensures ∙ c.if-overlaps_any.false in
    let circle : leads 40 (edges_of c.args.atlas.now.edges.items) c.args.region.now.target c.args.number ≡ false = ap (λ es. leads 40 (edges_of es) c.args.region.now.target c.args.number) (sym c.deref-2.ensures.value) ∙ sym c.leads.ensures ∙ c.if-leads.false in
    let room : nat_lt (length c.args.c.now.regions.items) 16 ≡ false = not_below _ _ (omega arith) in
    list_full _ _ _ _ inside clash circle room

pub returns : goal.returns
returns c s =
    let inside : nat_le (c.args.region.now.at + c.args.region.now.count) c.args.c.now.pages ≡ true = is_within _ _ c.if-region-c.false in
    let clash : list_any (overlaps c.args.region.now) c.args.c.now.regions.items ≡ false = ap (list_any (overlaps c.args.region.now)) (sym c.deref.ensures.value) ∙ sym c.overlaps_any.ensures ∙ c.if-overlaps_any.false in
    let circle : leads 40 (edges_of c.args.atlas.now.edges.items) c.args.region.now.target c.args.number ≡ false = ap (λ es. leads 40 (edges_of es) c.args.region.now.target c.args.number) (sym c.deref-2.ensures.value) ∙ sym c.leads.ensures ∙ c.if-leads.false in
    let room : nat_lt (length c.args.c.now.regions.items) 16 ≡ true = is_below _ _ (omega arith) in
    none_fails _ _ _ _ inside clash circle room
