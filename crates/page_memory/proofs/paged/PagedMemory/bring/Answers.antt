use Rattle.std.proofs.Common.{◌≡◌, ◌<◌, true, false, length, None, rules, arith}
use Rattle.std.proofs.lemmas.Result.{err_from_is_err_and}
use Rattle.data_frames.specs.FrameTable.{page_at}
use Rattle.data_frames.proofs.Pages.{not_some}
use Rattle.page_memory.specs.Calls.{IsRead}
use Rattle.page_memory.proofs.Bringing.{cause_after, chooses_came, chooses_read, chooses_unread, fetched_shut, keeps_read, read_not_wanting, reads_never, shut_not}
use Rattle.page_memory.proofs.Brings.{brought_other, brought_pages, brought_reads, brought_resident, brought_shut, brought_stands, brought_stay, brought_table, fetched_reads, fetched_stands, fetched_table, stay_unless}
use Rattle.page_memory.proofs.paged.PagedMemory.bring.Goals as goal

pub returns-in_err-words-clause-stands : goal.returns-in_err-words-clause-stands
returns-in_err-words-clause-stands g c =
    let absent : page_at c.args.self.now.frames c.args.page ≡ None = not_some _ (first_of (cc, search rules)) in
    fetched_stands g.B.PageStore.tells g.B.PageStore.held g.B.PageStore.kept_names g.B.PageStore.words c.args.self.now c.evict.new.self c.args.store.now c.evict.new.store c.fetch.new.store c.args.page absent (g.S.Supplier.word c.args.gate.now.supply) c.in_ok-evict.ensures.stands c.in_ok-evict.ensures.table c.in_err-words.ensures.same_blocks.same_held c.in_err-words.ensures.same_words

pub returns-in_err-words-clause-table : goal.returns-in_err-words-clause-table
returns-in_err-words-clause-table g c =
    let absent : page_at c.args.self.now.frames c.args.page ≡ None = not_some _ (first_of (cc, search rules)) in
    fetched_table g.B.PageStore.tells g.B.PageStore.held g.B.PageStore.kept_names g.B.PageStore.words c.args.self.now c.evict.new.self c.args.store.now c.evict.new.store c.fetch.new.store c.args.page absent (g.S.Supplier.word c.args.gate.now.supply) c.in_ok-evict.ensures.stands c.in_ok-evict.ensures.table c.in_err-words.ensures.same_blocks.same_held c.in_err-words.ensures.same_words

pub returns-in_err-words-clause-others : goal.returns-in_err-words-clause-others
returns-in_err-words-clause-others g c =
    keeps_read g.B.PageStore.tells g.B.PageStore.held g.B.PageStore.kept_names g.B.PageStore.words c.args.self.now c.evict.new.self c.evict.new.self.frames c.args.store.now c.evict.new.store c.fetch.new.store c.in_ok-evict.ensures.others c.in_err-words.ensures.same_blocks.same_held c.in_err-words.ensures.kept c.in_err-words.ensures.same_words

pub returns-in_err-words-clause-stay : goal.returns-in_err-words-clause-stay
returns-in_err-words-clause-stay g c =
    let absent : page_at c.args.self.now.frames c.args.page ≡ None = not_some _ (first_of (cc, search rules)) in
    stay_unless c.args.self.now c.evict.new.self c.args.page absent c.in_ok-evict.ensures.same

pub returns-in_err-words-clause-chooses : goal.returns-in_err-words-clause-chooses
returns-in_err-words-clause-chooses g c =
    let absent : page_at c.args.self.now.frames c.args.page ≡ None = not_some _ (first_of (cc, search rules)) in
    let p = err_from_is_err_and c.from_residual-in_err-words.result c.from_residual-in_err-words.ensures.1 in
    rw (p.1, p.2) (λ due. chooses_read _ _ _ c.args.self.now c.evict.new.self _ _ (IsRead c.args.self.now c.evict.new.self c.args.page) c.in_err-words.ensures.fault (fetched_shut c.args.self.now c.evict.new.self c.args.page _ _ _ absent c.in_ok-evict.ensures.gone (c.in_ok-evict.ensures.absent_blocks c.args.page absent) c.in_ok-evict.ensures.same_shut c.in_err-words.ensures.shut) (c.in_ok-evict.ensures.chooses due.1))

pub returns-in_err-words-clause-shut : goal.returns-in_err-words-clause-shut
returns-in_err-words-clause-shut g c =
    let absent : page_at c.args.self.now.frames c.args.page ≡ None = not_some _ (first_of (cc, search rules)) in
    let p = err_from_is_err_and c.from_residual-in_err-words.result c.from_residual-in_err-words.ensures.1 in
    rw (p.1, p.2) (λ _. fetched_shut c.args.self.now c.evict.new.self c.args.page _ _ _ absent c.in_ok-evict.ensures.gone (c.in_ok-evict.ensures.absent_blocks c.args.page absent) c.in_ok-evict.ensures.same_shut c.in_err-words.ensures.shut)

pub returns-in_err-words-clause-reads : goal.returns-in_err-words-clause-reads
returns-in_err-words-clause-reads g c =
    let absent : page_at c.args.self.now.frames c.args.page ≡ None = not_some _ (first_of (cc, search rules)) in
    fetched_reads c.args.self.now c.evict.new.self c.args.page _ _ _ absent c.in_ok-evict.ensures.gone c.in_ok-evict.ensures.reads (c.in_ok-evict.ensures.absent_blocks c.args.page absent) c.in_err-words.ensures.once c.in_err-words.ensures.never

pub returns-in_err-words-clause-calls : goal.returns-in_err-words-clause-calls
returns-in_err-words-clause-calls g c =
    let p = err_from_is_err_and c.from_residual-in_err-words.result c.from_residual-in_err-words.ensures.1 in
    rw (p.1, p.2) (record {
      cause = cause_after _ _ _ _ _ _ _ _ _ c.in_err-words.ensures.fault c.in_ok-evict.ensures.later.faults_rise c.in_err-words.ensures.later.faults_rise c.in_ok-evict.ensures.same_shut c.in_err-words.ensures.cause;
      wanting = λ n none. absurd (read_not_wanting _ n c.in_err-words.ensures.fault none);
      same_shut = tt;
      one_write = omega (arith, c.in_err-words.ensures.writes, c.in_ok-evict.ensures.one_write);
      between = g.met.B.PageStore.goes_on c.args.store.now c.evict.new.store c.fetch.new.store c.in_ok-evict.ensures.between c.in_err-words.ensures.between;
    })

pub returns-in_err-evict-clause-stands : goal.returns-in_err-evict-clause-stands
returns-in_err-evict-clause-stands g c told = c.in_err-evict.ensures.stands told (g.S.Supplier.word c.args.gate.now.supply)

pub returns-clause-stands : goal.returns-clause-stands
returns-clause-stands g c =
    let absent : page_at c.args.self.now.frames c.args.page ≡ None = not_some _ (first_of (cc, search rules)) in
    let within : c.args.page < length c.evict.new.self.frames.pages = omega (arith, c.place.ensures.bounded.all_pages) in
    let gone = c.in_ok-evict.ensures.absent c.args.page absent in
    brought_stands g.B.PageStore.tells g.B.PageStore.held g.B.PageStore.kept_names g.B.PageStore.words c.args.self.now c.evict.new.self c.args.store.now c.evict.new.store c.fetch.new.store c.args.page absent (g.S.Supplier.word c.args.gate.now.supply) c.in_ok-evict.ensures.stands c.in_ok-evict.ensures.table c.in_ok-words.ensures.same_blocks.same_held c.in_ok-words.ensures.same_words c.place.new.self c.in_ok-words.words within gone c.place.ensures.places c.in_ok-words.ensures.words

pub returns-clause-table : goal.returns-clause-table
returns-clause-table g c =
    let absent : page_at c.args.self.now.frames c.args.page ≡ None = not_some _ (first_of (cc, search rules)) in
    let within : c.args.page < length c.evict.new.self.frames.pages = omega (arith, c.place.ensures.bounded.all_pages) in
    let gone = c.in_ok-evict.ensures.absent c.args.page absent in
    brought_table g.B.PageStore.tells g.B.PageStore.held g.B.PageStore.kept_names g.B.PageStore.words c.args.self.now c.evict.new.self c.args.store.now c.evict.new.store c.fetch.new.store c.args.page absent (g.S.Supplier.word c.args.gate.now.supply) c.in_ok-evict.ensures.stands c.in_ok-evict.ensures.table c.in_ok-words.ensures.same_blocks.same_held c.in_ok-words.ensures.same_words c.place.new.self c.in_ok-words.words within gone c.place.ensures.places (omega (arith, c.in_ok-evict.ensures.pages.same_pages, c.requires.inside)) c.in_ok-evict.ensures.room

pub returns-clause-others : goal.returns-clause-others
returns-clause-others g c =
    keeps_read g.B.PageStore.tells g.B.PageStore.held g.B.PageStore.kept_names g.B.PageStore.words c.args.self.now c.evict.new.self c.place.new.self c.args.store.now c.evict.new.store c.fetch.new.store c.in_ok-evict.ensures.others c.in_ok-words.ensures.same_blocks.same_held c.in_ok-words.ensures.kept c.in_ok-words.ensures.same_words

pub returns-clause-pages : goal.returns-clause-pages
returns-clause-pages g c =
    let absent : page_at c.args.self.now.frames c.args.page ≡ None = not_some _ (first_of (cc, search rules)) in
    let within : c.args.page < length c.evict.new.self.frames.pages = omega (arith, c.place.ensures.bounded.all_pages) in
    let gone = c.in_ok-evict.ensures.absent c.args.page absent in
    brought_pages g.B.PageStore.tells g.B.PageStore.held g.B.PageStore.kept_names g.B.PageStore.words c.args.self.now c.evict.new.self c.args.store.now c.evict.new.store c.fetch.new.store c.args.page absent (g.S.Supplier.word c.args.gate.now.supply) c.in_ok-evict.ensures.stands c.in_ok-evict.ensures.table c.in_ok-words.ensures.same_blocks.same_held c.in_ok-words.ensures.same_words c.place.new.self c.in_ok-words.words within gone c.place.ensures.places c.in_ok-evict.ensures.pages

pub returns-clause-resident : goal.returns-clause-resident
returns-clause-resident g c =
    let absent : page_at c.args.self.now.frames c.args.page ≡ None = not_some _ (first_of (cc, search rules)) in
    let within : c.args.page < length c.evict.new.self.frames.pages = omega (arith, c.place.ensures.bounded.all_pages) in
    let gone = c.in_ok-evict.ensures.absent c.args.page absent in
    brought_resident g.B.PageStore.tells g.B.PageStore.held g.B.PageStore.kept_names g.B.PageStore.words c.args.self.now c.evict.new.self c.args.store.now c.evict.new.store c.fetch.new.store c.args.page absent (g.S.Supplier.word c.args.gate.now.supply) c.in_ok-evict.ensures.stands c.in_ok-evict.ensures.table c.in_ok-words.ensures.same_blocks.same_held c.in_ok-words.ensures.same_words c.place.new.self c.in_ok-words.words within gone c.place.ensures.places

pub returns-clause-stay : goal.returns-clause-stay
returns-clause-stay g c =
    let absent : page_at c.args.self.now.frames c.args.page ≡ None = not_some _ (first_of (cc, search rules)) in
    let within : c.args.page < length c.evict.new.self.frames.pages = omega (arith, c.place.ensures.bounded.all_pages) in
    let gone = c.in_ok-evict.ensures.absent c.args.page absent in
    λ none. brought_stay g.B.PageStore.tells g.B.PageStore.held g.B.PageStore.kept_names g.B.PageStore.words c.args.self.now c.evict.new.self c.args.store.now c.evict.new.store c.fetch.new.store c.args.page absent (g.S.Supplier.word c.args.gate.now.supply) c.in_ok-evict.ensures.stands c.in_ok-evict.ensures.table c.in_ok-words.ensures.same_blocks.same_held c.in_ok-words.ensures.same_words c.place.new.self c.in_ok-words.words within gone c.place.ensures.places (stay_unless c.args.self.now c.evict.new.self c.args.page absent c.in_ok-evict.ensures.same none)

pub returns-clause-chooses : goal.returns-clause-chooses
returns-clause-chooses g c =
    let absent : page_at c.args.self.now.frames c.args.page ≡ None = not_some _ (first_of (cc, search rules)) in
    let within : c.args.page < length c.evict.new.self.frames.pages = omega (arith, c.place.ensures.bounded.all_pages) in
    let gone = c.in_ok-evict.ensures.absent c.args.page absent in
    let here = brought_resident g.B.PageStore.tells g.B.PageStore.held g.B.PageStore.kept_names g.B.PageStore.words c.args.self.now c.evict.new.self c.args.store.now c.evict.new.store c.fetch.new.store c.args.page absent (g.S.Supplier.word c.args.gate.now.supply) c.in_ok-evict.ensures.stands c.in_ok-evict.ensures.table c.in_ok-words.ensures.same_blocks.same_held c.in_ok-words.ensures.same_words c.place.new.self c.in_ok-words.words within gone c.place.ensures.places in
    let other = brought_other g.B.PageStore.tells g.B.PageStore.held g.B.PageStore.kept_names g.B.PageStore.words c.args.self.now c.evict.new.self c.args.store.now c.evict.new.store c.fetch.new.store c.args.page absent (g.S.Supplier.word c.args.gate.now.supply) c.in_ok-evict.ensures.stands c.in_ok-evict.ensures.table c.in_ok-words.ensures.same_blocks.same_held c.in_ok-words.ensures.same_words c.place.new.self c.in_ok-words.words within gone c.place.ensures.places in
    let never = brought_shut g.B.PageStore.tells g.B.PageStore.held g.B.PageStore.kept_names g.B.PageStore.words c.args.self.now c.evict.new.self c.args.store.now c.evict.new.store c.fetch.new.store c.args.page absent (g.S.Supplier.word c.args.gate.now.supply) c.in_ok-evict.ensures.stands c.in_ok-evict.ensures.table c.in_ok-words.ensures.same_blocks.same_held c.in_ok-words.ensures.same_words c.place.new.self c.in_ok-words.words within gone c.place.ensures.places c.in_ok-words.words _ _ (c.in_ok-evict.ensures.absent_blocks c.args.page absent) c.in_ok-evict.ensures.same_shut c.in_ok-words.ensures.shut in
    λ due. chooses_came _ _ _ c.args.self.now c.evict.new.self _ _ (record c.evict.new.self { frames = c.place.new.self }) c.args.page _ absent here other never (c.in_ok-evict.ensures.chooses due.1)

pub returns-clause-shut : goal.returns-clause-shut
returns-clause-shut g c =
    let absent : page_at c.args.self.now.frames c.args.page ≡ None = not_some _ (first_of (cc, search rules)) in
    let within : c.args.page < length c.evict.new.self.frames.pages = omega (arith, c.place.ensures.bounded.all_pages) in
    let gone = c.in_ok-evict.ensures.absent c.args.page absent in
    let never = brought_shut g.B.PageStore.tells g.B.PageStore.held g.B.PageStore.kept_names g.B.PageStore.words c.args.self.now c.evict.new.self c.args.store.now c.evict.new.store c.fetch.new.store c.args.page absent (g.S.Supplier.word c.args.gate.now.supply) c.in_ok-evict.ensures.stands c.in_ok-evict.ensures.table c.in_ok-words.ensures.same_blocks.same_held c.in_ok-words.ensures.same_words c.place.new.self c.in_ok-words.words within gone c.place.ensures.places c.in_ok-words.words _ _ (c.in_ok-evict.ensures.absent_blocks c.args.page absent) c.in_ok-evict.ensures.same_shut c.in_ok-words.ensures.shut in
    λ _. (λ is. absurd (shut_not _ is), λ both. absurd (never both.0 both.1))

pub returns-clause-reads : goal.returns-clause-reads
returns-clause-reads g c =
    let absent : page_at c.args.self.now.frames c.args.page ≡ None = not_some _ (first_of (cc, search rules)) in
    let within : c.args.page < length c.evict.new.self.frames.pages = omega (arith, c.place.ensures.bounded.all_pages) in
    let gone = c.in_ok-evict.ensures.absent c.args.page absent in
    brought_reads g.B.PageStore.tells g.B.PageStore.held g.B.PageStore.kept_names g.B.PageStore.words c.args.self.now c.evict.new.self c.args.store.now c.evict.new.store c.fetch.new.store c.args.page absent (g.S.Supplier.word c.args.gate.now.supply) c.in_ok-evict.ensures.stands c.in_ok-evict.ensures.table c.in_ok-words.ensures.same_blocks.same_held c.in_ok-words.ensures.same_words c.place.new.self c.in_ok-words.words within gone c.place.ensures.places _ _ _ c.in_ok-evict.ensures.gone c.in_ok-evict.ensures.reads (c.in_ok-evict.ensures.absent_blocks c.args.page absent) c.in_ok-words.ensures.once c.in_ok-words.ensures.never

pub returns-in_err-words-clause-no_blocks : goal.returns-in_err-words-clause-no_blocks
returns-in_err-words-clause-no_blocks g c =
    let p = err_from_is_err_and c.from_residual-in_err-words.result c.from_residual-in_err-words.ensures.1 in
    rw (p.1, p.2) (λ n none. absurd (read_not_wanting _ n c.in_err-words.ensures.fault none))

pub returns-in_err-evict-clause-no_blocks : goal.returns-in_err-evict-clause-no_blocks
returns-in_err-evict-clause-no_blocks g c =
    let absent : page_at c.args.self.now.frames c.args.page ≡ None = not_some _ (first_of (cc, search rules)) in
    λ _ _. (absent, λ room. let clash : false ≡ true = c.in_err-evict.ensures.not_needed room in absurd (cc clash))

pub returns-in_err-evict-clause-reads : goal.returns-in_err-evict-clause-reads
returns-in_err-evict-clause-reads g c =
    let absent : page_at c.args.self.now.frames c.args.page ≡ None = not_some _ (first_of (cc, search rules)) in
    reads_never c.args.self.now c.evict.new.self c.args.page _ _ (absent, λ room. let clash : false ≡ true = c.in_err-evict.ensures.not_needed room in absurd (cc clash)) c.in_err-evict.ensures.stay c.in_err-evict.ensures.reads

pub returns-in_err-evict-clause-chooses : goal.returns-in_err-evict-clause-chooses
returns-in_err-evict-clause-chooses g c =
    let p = err_from_is_err_and c.from_residual.result c.from_residual.ensures.1 in
    rw (p.1, p.2) (λ due. chooses_unread _ _ _ c.args.self.now c.evict.new.self _ c.args.page due c.in_err-evict.ensures.stay (c.in_err-evict.ensures.chooses due.1))

pub returns-in_err-evict-clause-shut : goal.returns-in_err-evict-clause-shut
returns-in_err-evict-clause-shut g c =
    let absent : page_at c.args.self.now.frames c.args.page ≡ None = not_some _ (first_of (cc, search rules)) in
    λ none. absurd (none (absent, λ room. let clash : false ≡ true = c.in_err-evict.ensures.not_needed room in absurd (cc clash)))
