use Rattle.std.proofs.Common.{◌≡◌, ◌++◌, slice_get, slice_set, get_or, Some, sym, ap, ◌∙◌, arith}
use Rattle.std.proofs.lemmas.Result.{on_err_weaker}
use Rattle.table_laws.specs.cell_plans.declared.plans.Reach.TheVariants as reach
use Rattle.table_laws.proofs.Blocks.{ChangesTwo}
use Rattle.table_laws.proofs.Facing.{high_at, plan_of}
use Rattle.table_steps.proofs.FacingLook.{faces_look, look_below, wants_word}
use Rattle.table_laws.proofs.LookDone.{look_leaves}
use Rattle.table_laws.proofs.Pairs.{lends_high}
use Rattle.table_laws.proofs.Places.{read_back, read_front, set_two, write_two}
use Rattle.table_steps.proofs.Short.{short_look, turns_one}
use Rattle.table_steps.proofs.looks.go_look.Goals as goal

pub bounds-front-number : goal.bounds-front-number
bounds-front-number g c =
    let s = g.S.Supplier.word c.args.gate.now.supply in
    let tells = g.B.PageStore.tells in
    let held = g.B.PageStore.held in
    let words = g.B.PageStore.words in
    let old = c.args.store.now in
    let cs = c.args.cells.now in
    let orderly = c.requires.orderly in
    let count = orderly.numbers.len in
    let below = look_below (g.B.PageStore.held c.args.store.now) cs orderly c.args.me c.args.other c.args.instr c.requires.planned in
    omega (arith, below.1)

pub advance_looking-requires : goal.advance_looking-requires
advance_looking-requires g c =
    let s = g.S.Supplier.word c.args.gate.now.supply in
    let tells = g.B.PageStore.tells in
    let held = g.B.PageStore.held in
    let words = g.B.PageStore.words in
    let old = c.args.store.now in
    let cs = c.args.cells.now in
    let orderly = c.requires.orderly in
    let count = orderly.numbers.len in
    let below = look_below (g.B.PageStore.held c.args.store.now) cs orderly c.args.me c.args.other c.args.instr c.requires.planned in
    let parts = c.split_at_mut-front in
    let front = parts.result.0.now in
    let back = parts.result.1.now in
    let a = get_or back 0 c.index-back-0.result in
    let b = get_or front c.number-2.result c.index-front-number.result in
    let is_b : slice_get cs c.args.other ≡ Some (get_or c.split_at_mut-front.result.0.now c.number-2.result c.index-front-number.result) =
    ap (slice_get cs) (sym c.number-2.ensures.number) ∙ read_front cs front back c.number.result c.number-2.result c.index-front-number.result parts.ensures.value parts.ensures.front_len (omega (arith, below.1)) in
    let is_a : slice_get cs c.args.me ≡ Some (get_or c.split_at_mut-front.result.1.now 0 c.index-back-0.result) =
    ap (slice_get cs) (sym c.number.ensures.number) ∙ read_back cs front back c.number.result c.index-back-0.result parts.ensures.value parts.ensures.front_len (omega arith) in
    let faces = faces_look (g.B.PageStore.held c.args.store.now) cs orderly s tells (g.B.PageStore.words c.args.store.now) c.args.me c.args.other c.args.instr a b c.requires.few c.requires.clean c.requires.planned is_a is_b in
    record { keeps = c.requires.keeps; planned = faces.planned; memory = faces.memory; lower = faces.lower; few = faces.few }

pub returns : goal.returns
returns g c =
    let s = g.S.Supplier.word c.args.gate.now.supply in
    let tells = g.B.PageStore.tells in
    let held = g.B.PageStore.held in
    let words = g.B.PageStore.words in
    let old = c.args.store.now in
    let cs = c.args.cells.now in
    let orderly = c.requires.orderly in
    let count = orderly.numbers.len in
    let below = look_below (g.B.PageStore.held c.args.store.now) cs orderly c.args.me c.args.other c.args.instr c.requires.planned in
    let parts = c.split_at_mut-front in
    let front = parts.result.0.now in
    let back = parts.result.1.now in
    let a = get_or back 0 c.index-back-0.result in
    let b = get_or front c.number-2.result c.index-front-number.result in
    let is_b : slice_get cs c.args.other ≡ Some (get_or c.split_at_mut-front.result.0.now c.number-2.result c.index-front-number.result) =
    ap (slice_get cs) (sym c.number-2.ensures.number) ∙ read_front cs front back c.number.result c.number-2.result c.index-front-number.result parts.ensures.value parts.ensures.front_len (omega (arith, below.1)) in
    let is_a : slice_get cs c.args.me ≡ Some (get_or c.split_at_mut-front.result.1.now 0 c.index-back-0.result) =
    ap (slice_get cs) (sym c.number.ensures.number) ∙ read_back cs front back c.number.result c.index-back-0.result parts.ensures.value parts.ensures.front_len (omega arith) in
    let mid = c.advance_looking.new in
    let made = c.advance_looking.ensures in
    let new = mid.store in
    let cs' = slice_set front c.number-2.result mid.other ++ slice_set back 0 mid.locus in
    let sets = set_two cs cs' c.number-2.result c.number.result mid.other mid.locus
    (write_two cs front back c.number.result c.number-2.result mid.other mid.locus parts.ensures.value parts.ensures.front_len (omega (arith, below.1))) (omega (arith, below.1)) (omega arith) in
    let at_a = orderly.numbers.each c.args.me a is_a in
    let at_b = orderly.numbers.each c.args.other b is_b in
    let lends = lends_high cs cs' a b mid.locus mid.other c.number-2.result c.number.result sets (ap (slice_get cs) c.number.ensures.number ∙ is_a) (ap (slice_get cs) c.number-2.ensures.number ∙ is_b)
    (at_a ∙ sym c.number.ensures.number) (at_b ∙ sym c.number-2.ensures.number) made.entities.0 made.entities.1 in
    let p = c.requires.planned.plan in
    let high = high_at (g.B.PageStore.held c.args.store.now) cs orderly c.args.me c.requires.planned.cell p.locus c.requires.planned.is p.runs.is in
    let q = plan_of (g.B.PageStore.held c.args.store.now) cs orderly c.args.me c.args.instr (reach.Look c.args.other) c.requires.planned a is_a in
    let two : ChangesTwo cs cs' c.args.me c.args.other a b mid.locus mid.other = record {
      len = sets.len;
      high = high;
      low = below.1;
      locus = q.locus;
      is_locus = q.runs.is;
      was_a = is_a;
      was_b = is_b;
      is_a = ap (slice_get cs') (sym c.number.ensures.number) ∙ sets.second;
      is_b = ap (slice_get cs') (sym c.number-2.ensures.number) ∙ sets.first;
      same_a = made.entities.0;
      same_b = made.entities.1;
      others = λ n far apart. sets.others n (λ e. apart (e ∙ c.number-2.ensures.number)) (λ e. far (e ∙ c.number.ensures.number));
    } in
    let left = look_leaves tells s held g.B.PageStore.kept_names words old new cs cs' c.args.me c.args.other a b mid.locus mid.other orderly lends made.memory two c.advance_looking.result
    (record { step = made.step; somehow = made.somehow; locus_stays = made.locus_stays; other_stays = made.other_stays; same_part = made.same_part; memory = made.memory }) in
    record {
      step = left.step;
      orderly = left.orderly;
      enters = left.enters;
      faulted = left.faulted;
      at_word = on_err_weaker c.advance_looking.result (wants_word cs c.args.me c.args.other a b is_a is_b at_a at_b) made.at_word;
      no_blocks = λ n. (
        λ none. record { locus = a; container = c.args.other; other = b; instr = c.args.instr; at = is_a; there = is_b; planned = q; short = (made.no_blocks n).0 none },
        λ short. (made.no_blocks n).1 (short_look _ _ c.args.me cs n short c.args.other c.args.instr a b is_a is_b c.requires.planned),
      );
      turned = λ n none. turns_one cs cs' c.args.me c.args.other a b mid.locus mid.other two c.advance_looking.result made.locus_stays made.other_stays n none (made.turned n none);
      news = left.news;
      kept = made.memory.others.same_kept;
      pages = made.pages;
    }
