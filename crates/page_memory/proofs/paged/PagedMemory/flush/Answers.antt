use Rattle.std.proofs.Common.{◌≡◌, ◌≢◌, true, false, is_some, Err, inl, inr, refl, sym, ap, ◌∙◌, subst, arith}
use Rattle.std.proofs.lemmas.Bool.{cases_eq}
use Rattle.std.proofs.lemmas.Result.{err_from_is_err_and}
use Rattle.data_frames.specs.FrameTable.{changed_at, page_at}
use Rattle.page_memory.specs.declared.paged.PagedMemory.{PagedMemory}
use Rattle.page_memory.specs.Words.{need_at, needs_block}
use Rattle.page_memory.specs.Calls.{KeepsPages}
use Rattle.page_memory.proofs.Pages.{stands_trans}
use Rattle.page_memory.proofs.Saved.{keeps_trans, need_more, need_none, never_wanting, none_past_end, none_wanting, not_written, one_more_clean, pages_more, same_need_at, same_needs, shut_fault, write_cause, write_fault}
use Rattle.page_memory.proofs.paged.PagedMemory.flush.Goals as goal

pub loop-page-init : goal.loop-page-init
loop-page-init g c = record {
  stands = λ _ s clean. record { same = refl; clean = clean };
  table = c.requires.table;
  others = record {
    same_kept = refl;
    held_stay = λ n h out. (h, out);
    no_others = λ n h out. (h, out);
    held_words = λ _ _ _ _. refl;
    kept_words = λ _ _ _. refl;
    news = λ _. inl refl;
  };
  pages = record { same_tag = refl; same_pages = refl; same_frames = refl; same_blocks = λ _ _. refl; none_changed = λ _ e. e };
  residents = λ p. refl;
  clean = λ p below. absurd (omega arith);
  rest = λ p past. (refl, refl);
  room = omega (arith, need_none (g.B.PageStore.kept_names c.args.store.now) c.args.self.now, c.requires.room);
  free = omega arith;
  untouched = λ _. (refl, refl);
  shut = λ _ p below. absurd (omega arith);
  later = record { faults_rise = omega arith; writes_rise = omega arith; stays_shut = λ e. e };
  same_shut = refl;
  writes = omega arith;
  reads = refl;
  between = g.met.B.PageStore.stays c.args.store.now;
}

pub loop-page-preserved : goal.loop-page-preserved
loop-page-preserved g c =
    let inv = c.loop-page.invariant in
    let done = c.in_ok-save.ensures in
    let page = c.loop-page.page in
    let rest = inv.rest page (omega arith) in
    let same : needs_block (g.B.PageStore.kept_names c.loop-page.store) c.loop-page.self page ≡ needs_block (g.B.PageStore.kept_names c.args.store.now) c.args.self.now page = same_needs (g.B.PageStore.kept_names c.args.store.now) (g.B.PageStore.kept_names c.loop-page.store) c.args.self.now c.loop-page.self page inv.others.same_kept rest.0 rest.1 in
    let need : need_at (g.B.PageStore.kept_names c.loop-page.store) c.loop-page.self page ≡ need_at (g.B.PageStore.kept_names c.args.store.now) c.args.self.now page = same_need_at (g.B.PageStore.kept_names c.args.store.now) (g.B.PageStore.kept_names c.loop-page.store) c.args.self.now c.loop-page.self page same in
    record {
      stands = λ t s clean. (let first = inv.stands t s clean in stands_trans s (g.B.PageStore.words c.args.store.now) (g.B.PageStore.words c.loop-page.store) (g.B.PageStore.words c.save.new.store) c.args.self.now c.loop-page.self c.save.new.self first (done.stands t s first.clean));
      table = done.table;
      others = keeps_trans g.B.PageStore.tells g.B.PageStore.held g.B.PageStore.kept_names g.B.PageStore.words c.args.self.now c.loop-page.self c.save.new.self c.args.store.now c.loop-page.store c.save.new.store inv.others done.others;
      pages = pages_more (g.B.PageStore.kept_names c.args.store.now) (g.B.PageStore.kept_names c.loop-page.store) c.args.self.now c.loop-page.self c.save.new.self page inv.pages done.pages done.saves same;
      residents = λ p. done.saves.residents p ∙ inv.residents p;
      clean = one_more_clean c.loop-page.self c.save.new.self page done.saves.unchanged (λ p differs. (done.saves.others p differs).0) inv.clean;
      rest = λ p past. (
          let differs : p ≢ page = omega arith in
          let now = done.saves.others p differs in
          let before = inv.rest p (omega arith) in
          (now.0 ∙ before.0, now.1 ∙ before.1)
          );
      room = omega (arith, inv.room, done.free, need, need_more (g.B.PageStore.kept_names c.args.store.now) c.args.self.now page);
      free = omega (arith, inv.free, done.free, need, need_more (g.B.PageStore.kept_names c.args.store.now) c.args.self.now page);
      untouched = λ none. (let was = inv.untouched none in let now = done.still (rest.0 ∙ none page) in (now.1 ∙ was.0, now.2 ∙ was.1));
      shut = λ was p below. elim (cases_eq p page) [
        | inl here ↦
            (let passed = not_written (g.B.PageStore.kept_names c.loop-page.store) _ c.loop-page.self page (λ needs none. none_wanting (g.B.PageStore.kept_names c.args.store.now) (g.B.PageStore.kept_names c.loop-page.store) c.args.self.now c.loop-page.self page _ (omega arith) same inv.room (needs, none)) (λ w. let clash = done.shut.1 (inv.same_shut ∙ was, w) in absurd (cc clash)) in
            ap (changed_at c.args.self.now.frames) here ∙ sym rest.0 ∙ passed)
        | inr differs ↦ inv.shut was p (omega arith)
      ];
      later = record {
        faults_rise = omega (arith, inv.later.faults_rise, done.later.faults_rise);
        writes_rise = omega (arith, inv.later.writes_rise, done.later.writes_rise);
        stays_shut = λ e. done.later.stays_shut (inv.later.stays_shut e);
      };
      same_shut = done.same_shut ∙ inv.same_shut;
      writes = omega (arith, inv.writes, done.one_write);
      reads = done.reads ∙ inv.reads;
      between = g.met.B.PageStore.goes_on c.args.store.now c.loop-page.store c.save.new.store inv.between done.between;
    }

pub returns-in_err-save-clause-stands : goal.returns-in_err-save-clause-stands
returns-in_err-save-clause-stands g c =
    let inv = c.loop-page.invariant in
    let done = c.in_err-save.ensures in
    λ t s clean. (let first = inv.stands t s clean in stands_trans s (g.B.PageStore.words c.args.store.now) (g.B.PageStore.words c.loop-page.store) (g.B.PageStore.words c.save.new.store) c.args.self.now c.loop-page.self c.save.new.self first (done.stands t s first.clean))

pub returns-in_err-save-clause-residents : goal.returns-in_err-save-clause-residents
returns-in_err-save-clause-residents g c =
    let inv = c.loop-page.invariant in
    let done = c.in_err-save.ensures in
    λ p. ap (λ (x : PagedMemory). is_some (page_at x.frames p)) done.failed ∙ inv.residents p

pub returns-in_err-save-clause-others : goal.returns-in_err-save-clause-others
returns-in_err-save-clause-others g c =
    let inv = c.loop-page.invariant in
    let done = c.in_err-save.ensures in
    keeps_trans g.B.PageStore.tells g.B.PageStore.held g.B.PageStore.kept_names g.B.PageStore.words c.args.self.now c.loop-page.self c.save.new.self c.args.store.now c.loop-page.store c.save.new.store inv.others done.others

pub returns-in_err-save-clause-counts : goal.returns-in_err-save-clause-counts
returns-in_err-save-clause-counts g c =
    let inv = c.loop-page.invariant in
    let done = c.in_err-save.ensures in
    let page = c.loop-page.page in
    let rest = inv.rest page (omega arith) in
    let same : needs_block (g.B.PageStore.kept_names c.loop-page.store) c.loop-page.self page ≡ needs_block (g.B.PageStore.kept_names c.args.store.now) c.args.self.now page = same_needs (g.B.PageStore.kept_names c.args.store.now) (g.B.PageStore.kept_names c.loop-page.store) c.args.self.now c.loop-page.self page inv.others.same_kept rest.0 rest.1 in
    let write = write_fault _ done.fault (never_wanting _ _ _ _ _ _ done.cause (λ wanting. none_wanting (g.B.PageStore.kept_names c.args.store.now) (g.B.PageStore.kept_names c.loop-page.store) c.args.self.now c.loop-page.self page _ (omega arith) same inv.room (done.exact.0 wanting))) in
    let p = err_from_is_err_and c.from_residual.result c.from_residual.ensures.1 in
    rw (p.1, p.2) (record {
      later = record {
        faults_rise = omega (arith, inv.later.faults_rise, done.later.faults_rise);
        writes_rise = omega (arith, inv.later.writes_rise, done.later.writes_rise);
        stays_shut = λ e. done.later.stays_shut (inv.later.stays_shut e);
      };
      few_writes = omega (arith, inv.writes, done.one_write);
      no_read = done.reads ∙ inv.reads;
      untouched = λ none. (let clash : false ≡ true = (done.still (rest.0 ∙ none page)).0 in absurd (cc clash));
      shut = (
        λ is. let both = done.shut.0 is in (sym inv.same_shut ∙ both.0, (page, sym rest.0 ∙ both.1.changed)),
        λ both. ap Err (shut_fault _ _ _ _ _ _ write done.cause (inv.same_shut ∙ both.0)),
      );
    })

pub returns-clause-counts : goal.returns-clause-counts
returns-clause-counts g c =
    let inv = c.loop-page.invariant in
    record {
      later = inv.later;
      few_writes = omega (arith, inv.writes);
      no_read = inv.reads;
      untouched = λ none. (refl, (inv.untouched none).1);
      shut = (
        λ is. absurd (cc is),
        λ both.
            let none = none_past_end (g.B.PageStore.held c.args.store.now) c.args.self.now c.requires.table (λ p below. inv.shut both.0 p (omega arith)) both.1.0 in
            let clash : true ≡ false = sym both.1.1 ∙ none in
            absurd (cc clash),
      );
    }

pub returns-in_err-save-clause-between : goal.returns-in_err-save-clause-between
returns-in_err-save-clause-between g c =
    let inv = c.loop-page.invariant in
    let done = c.in_err-save.ensures in
    g.met.B.PageStore.goes_on c.args.store.now c.loop-page.store c.save.new.store inv.between done.between

pub returns-in_err-save-clause-fault : goal.returns-in_err-save-clause-fault
returns-in_err-save-clause-fault g c =
    let inv = c.loop-page.invariant in
    let done = c.in_err-save.ensures in
    let page = c.loop-page.page in
    let rest = inv.rest page (omega arith) in
    let same : needs_block (g.B.PageStore.kept_names c.loop-page.store) c.loop-page.self page ≡ needs_block (g.B.PageStore.kept_names c.args.store.now) c.args.self.now page = same_needs (g.B.PageStore.kept_names c.args.store.now) (g.B.PageStore.kept_names c.loop-page.store) c.args.self.now c.loop-page.self page inv.others.same_kept rest.0 rest.1 in
    let p = err_from_is_err_and c.from_residual.result c.from_residual.ensures.1 in
    rw (p.1, p.2) (write_fault _ done.fault (never_wanting _ _ _ _ _ _ done.cause (λ wanting. none_wanting (g.B.PageStore.kept_names c.args.store.now) (g.B.PageStore.kept_names c.loop-page.store) c.args.self.now c.loop-page.self page _ (omega arith) same inv.room (done.exact.0 wanting))))

pub returns-in_err-save-clause-cause : goal.returns-in_err-save-clause-cause
returns-in_err-save-clause-cause g c =
    let inv = c.loop-page.invariant in
    let done = c.in_err-save.ensures in
    let page = c.loop-page.page in
    let rest = inv.rest page (omega arith) in
    let same : needs_block (g.B.PageStore.kept_names c.loop-page.store) c.loop-page.self page ≡ needs_block (g.B.PageStore.kept_names c.args.store.now) c.args.self.now page = same_needs (g.B.PageStore.kept_names c.args.store.now) (g.B.PageStore.kept_names c.loop-page.store) c.args.self.now c.loop-page.self page inv.others.same_kept rest.0 rest.1 in
    let p = err_from_is_err_and c.from_residual.result c.from_residual.ensures.1 in
    rw (p.1, p.2) (write_cause _ _ _ _ _ _ _ _ _ (write_fault _ done.fault (never_wanting _ _ _ _ _ _ done.cause (λ wanting. none_wanting (g.B.PageStore.kept_names c.args.store.now) (g.B.PageStore.kept_names c.loop-page.store) c.args.self.now c.loop-page.self page _ (omega arith) same inv.room (done.exact.0 wanting)))) inv.later.faults_rise done.later.faults_rise inv.same_shut done.cause)

pub returns-clause-unchanged : goal.returns-clause-unchanged
returns-clause-unchanged g c =
    let inv = c.loop-page.invariant in
    none_past_end (g.B.PageStore.held c.loop-page.store) c.loop-page.self inv.table (λ p below. inv.clean p (omega arith))

pub returns-in_err-save-clause-pages : goal.returns-in_err-save-clause-pages
returns-in_err-save-clause-pages g c =
    subst (KeepsPages (g.B.PageStore.kept_names c.args.store.now) c.args.self.now) (sym c.in_err-save.ensures.failed) c.loop-page.invariant.pages
