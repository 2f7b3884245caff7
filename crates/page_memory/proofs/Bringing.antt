-- A page comes into a frame with its words, which are its block's or the supplier's. No word changes.
use Rattle.std.proofs.Common.{◌≡◌, ◌≢◌, ◌↔◌, ℕ, ◌+◌, ◌-◌, ◌^◌, ◌<◌, ◌≤◌, Bool, true, false, List, length, set, slice_index, is_some, count_by, Option, Some, None, Ok, Err, IsErrOf, IsOk, refl, sym, ap, ◌∙◌, inl, inr, subst, arith}
use Rattle.std.proofs.lemmas.Bool.{cases_eq, cases_lt, or_left, or_right}
use Rattle.page_store.specs.model_kernel.State.{Supply}
use Rattle.data_blocks.specs.edge_disk.Disk.{Ticks}
use Rattle.data_blocks.specs.edge_disk.declared.disk.NoBlocks.{NoBlocks}
use Rattle.page_store.specs.declared.faults.PageFault.{PageFault}
use Rattle.page_store.specs.declared.faults.PageFault.TheVariants as fault
use Rattle.page_store.specs.Pages.{IsReadFault, SameWords}
use Rattle.data_frames.specs.FrameTable.{FrameTable, HasEmptyFrame, Resident, IsResident, Places, changed_at, page_at, resident_changed, resident_count, unmarked}
use Rattle.data_frames.proofs.Pages.{count-set_new, not_some}
use Rattle.page_memory.specs.declared.paged.PagedMemory.{PagedMemory}
use Rattle.page_memory.specs.Words.{block_at, stored_word, AreCleanTrue, IsSoundTable}
use Rattle.page_memory.specs.Calls.{AllStay, Chooses, Evicts, IsCausedBy, IsRead, Keeps, KeepsPages, MakesRoom, Reads, Stands}
use Rattle.page_memory.proofs.Pages.{Same, at_other, at_page, placed, stands, untouched}

-- READS

module _ {B : Type 0} (held kept : B → ℕ → Bool) (words : B → ℕ → List ℕ) (b b' : B) (same : SameWords held kept words (λ n. ⊥) b b') where
  -- the blocks of a sound table keep their words
  pub blocks_same : (m : PagedMemory) → IsSoundTable (held b) m → (p : ℕ) → block_at m p ≢ 0 → words b' (block_at m p) ≡ words b (block_at m p)
  blocks_same m table p some = same (block_at m p) (or_left _ _ (table.held_blocks p some)) (λ x. x)

  pub read_stands : (m : PagedMemory) → IsSoundTable (held b) m → (s : Supply) → AreCleanTrue s (words b) m → Stands s (words b) (words b') m m
  read_stands m table s = stands s (words b) (words b') m m (λ p. untouched s (words b) (words b') m m p refl refl refl (λ some _. blocks_same m table p some))

-- a read after other calls
pub keeps_read : {B : Type 0} (tells : Type 0) (held kept : B → ℕ → Bool) (words : B → ℕ → List ℕ) (m m' : PagedMemory) (t : FrameTable) (b b' b'' : B) → Keeps tells held kept words m m' b b' → held b'' ≡ held b' → kept b'' ≡ kept b' → (tells → SameWords held kept words (λ n. ⊥) b' b'') → Keeps tells held kept words m (record m' { frames = t }) b b''
keeps_read tells held kept words m m' t b b' b'' k same_held same_kept same = record {
  same_kept = same_kept ∙ k.same_kept;
  held_stay = λ n h out. let before = k.held_stay n h out in (ap (λ f. f n) same_held ∙ before.0, before.1);
  no_others = λ n h out. k.no_others n (sym (ap (λ f. f n) same_held) ∙ h) out;
  held_words = λ t n h out. let before = k.held_stay n h out in same t n (or_left _ _ before.0) (λ x. x) ∙ k.held_words t n h out;
  kept_words = λ t n names. same t n (or_right _ _ (ap (λ f. f n) k.same_kept ∙ names)) (λ x. x) ∙ k.kept_words t n names;
  news = k.news;
}

-- THE PAGE COMES

module _ (m : PagedMemory) (t : FrameTable) (page : ℕ) (ws : List ℕ) (within : page < length m.frames.pages) (absent : page_at m.frames page ≡ None) (places : Places page ws m.frames t) where
  abbrev came : Option Resident
  came = Some (record { words = ws; changed = false; used = true })

  with_it : t.pages ≡ set m.frames.pages page came
  with_it = ap (λ (x : FrameTable). x.pages) places.is

  came_here : page_at t page ≡ came
  came_here = at_page m.frames t page came within with_it

  pub came_other : (p : ℕ) → p ≢ page → page_at t p ≡ page_at m.frames p
  came_other p differs = at_other m.frames t page p came differs with_it

  pub came_resident : IsResident t page
  came_resident = ap is_some came_here

  pub came_stands : (s : Supply) (words words' : ℕ → List ℕ) → ((p : ℕ) → block_at m p ≢ 0 → words' (block_at m p) ≡ words (block_at m p)) → ((k : ℕ) → k < 128 → slice_index ws k ≡ stored_word s m.tag words (block_at m page) page k) → AreCleanTrue s words m → Stands s words words' m (record m { frames = t })
  came_stands s words words' same filled = stands s words words' m (record m { frames = t }) each
    where
      each : (p : ℕ) → Same s words words' m (record m { frames = t }) p
      each p = elim (cases_eq p page) [
        | inl is ↦
            subst (λ q. Same s words words' m (record m { frames = t }) q) (sym is)
            (placed s words words' m (record m { frames = t }) page refl _ refl absent came_here (same page) filled)
        | inr differs ↦
            untouched s words words' m (record m { frames = t }) p refl refl (ap unmarked (came_other p differs)) (λ some _. same p some)
      ]

  came_fits : HasEmptyFrame m.frames → resident_count t ≤ t.frames
  came_fits room =
      let one : resident_count t ≡ resident_count m.frames + 1 = ap (count_by is_some) with_it ∙ count-set_new m.frames.pages page within (record { words = ws; changed = false; used = true }) absent in
      let frames : t.frames ≡ m.frames.frames = ap (λ (x : FrameTable). x.frames) places.is in
      omega (arith, one, frames, room)

  pub came_table : (held : ℕ → Bool) → page < m.pages → HasEmptyFrame m.frames → IsSoundTable held m → IsSoundTable held (record m { frames = t })
  came_table held inside room table = record {
    few = table.few;
    len = table.len;
    fits = came_fits room;
    none_past = λ p past. let none = table.none_past p past in (none.0, came_other p (λ same. omega (arith, same)) ∙ none.1);
    held_blocks = table.held_blocks;
    differ = table.differ;
  }

  pub came_pages : (kept : ℕ → Bool) (from : PagedMemory) → KeepsPages kept from m → KeepsPages kept from (record m { frames = t })
  came_pages kept from pages = record {
    same_tag = pages.same_tag;
    same_pages = pages.same_pages;
    same_frames = ap (λ (x : FrameTable). x.frames) places.is ∙ pages.same_frames;
    same_blocks = pages.same_blocks;
    none_changed = λ p e. elim (cases_eq p page) [
      | inl same ↦ let clash : true ≡ false = sym e ∙ ap (changed_at t) same ∙ ap resident_changed came_here in absurd (cc clash)
      | inr differs ↦ pages.none_changed p (sym (ap resident_changed (came_other p differs)) ∙ e)
    ];
  }

  pub came_stay : (from : PagedMemory) → AllStay from m → AllStay from (record m { frames = t })
  came_stay from stay p there = elim (cases_eq p page) [
    | inl same ↦ ap (λ q. is_some (page_at t q)) same ∙ came_resident
    | inr differs ↦ ap is_some (came_other p differs) ∙ stay p there
  ]

  -- it isn't one of those that were resident before
  pub came_left : (from : PagedMemory) → page_at from.frames page ≡ None → AllStay from (record m { frames = t }) → AllStay from m
  came_left from none stay p there = elim (cases_eq p page) [
    | inl same ↦ let clash : true ≡ false = sym there ∙ ap (λ q. is_some (page_at from.frames q)) same ∙ ap is_some none in absurd (cc clash)
    | inr differs ↦ sym (ap is_some (came_other p differs)) ∙ stay p there
  ]

-- COUNTS AND CAUSES

pub reads_from : (m m' : PagedMemory) (page before between now : ℕ) → page_at m.frames page ≡ None → (Evicts m page → AllStay m m' → ⊥) → between ≡ before → (block_at m page ≢ 0 → Ticks between now) → (block_at m page ≡ 0 → now ≡ between) → Reads before now m m' page
reads_from m m' page before between now absent gone same ticks still = record {
  once = λ read. subst (λ n. Ticks n now) same (ticks read.1);
  never = λ unread. elim (cases_eq (block_at m page) 0) [
    | inl none ↦ still none ∙ same
    | inr some ↦ absurd (unread (absent, some, λ x. gone x.0 x.1))
  ];
}

pub reads_never : (m m' : PagedMemory) (page before now : ℕ) → (Evicts m page) → AllStay m m' → now ≡ before → Reads before now m m' page
reads_never m m' page before now evicts stay same = record {
  once = λ read. absurd (read.2 (evicts, stay));
  never = λ _. same;
}

pub cause_after : (free free' before between now : ℕ) (was mid is : Bool) (e : PageFault) → IsReadFault e → before ≤ between → between ≤ now → mid ≡ was → IsCausedBy free' between now mid is e → IsCausedBy free before now was is e
cause_after free free' before between now was mid is (fault.NoBlocks n) (inl e) rise later same cause = absurd (cc e)
cause_after free free' before between now was mid is (fault.NoBlocks n) (inr e) rise later same cause = absurd (cc e)
cause_after free free' before between now was mid is fault.ReadFault read rise later same cause =
    (λ below. rose below cause.0, sym same ∙ cause.1, cause.2)
  where
    rose : before < 2 ^ 64 - 1 → (between < 2 ^ 64 - 1 → between < now) → before < now
    rose below up = elim (cases_lt between (2 ^ 64 - 1)) [ inl lower ↦ (let more = up lower in omega arith) | inr end ↦ omega arith ]
cause_after free free' before between now was mid is fault.WriteFault (inl e) rise later same cause = absurd (cc e)
cause_after free free' before between now was mid is fault.WriteFault (inr e) rise later same cause = absurd (cc e)
cause_after free free' before between now was mid is fault.Shut read rise later same cause = sym same ∙ cause

pub read_not_wanting : {T : Type 0} (e : PageFault) (n : NoBlocks) → IsReadFault e → IsErrOf {T = T} (Err e) (fault.NoBlocks n) → ⊥
read_not_wanting e n (inl is) none = let clash : fault.ReadFault ≡ fault.NoBlocks n = (let k : e ≡ fault.NoBlocks n = cc in sym is ∙ k) in cc clash
read_not_wanting e n (inr is) none = let clash : fault.Shut ≡ fault.NoBlocks n = (let k : e ≡ fault.NoBlocks n = cc in sym is ∙ k) in cc clash

pub shut_not : {T : Type 0} (x : T) → IsErrOf {T = T} (Ok x) fault.Shut → ⊥
shut_not x e = cc

-- where the same pages are resident the same reads were due
read_before : (m m' m'' : PagedMemory) (page : ℕ) → ((p : ℕ) → is_some (page_at m''.frames p) ≡ is_some (page_at m'.frames p)) → IsRead m m'' page → IsRead m m' page
read_before m m' m'' page same read = (read.0, read.1, λ both. read.2 (both.0, λ p there. same p ∙ both.1 p there))

module _ {T U : Type 0} (kept : ℕ → Bool) (free : ℕ) (was_shut : Bool) (m m' : PagedMemory) where
  err_as : (e f : PageFault) → IsErrOf {T = T} (Err e) f → IsErrOf {T = U} (Err e) f
  err_as e f is = let same : e ≡ f = cc in ap Err same

  err_back : (e f : PageFault) → IsErrOf {T = U} (Err e) f → IsErrOf {T = T} (Err e) f
  err_back e f is = let same : e ≡ f = cc in ap Err same

  -- the victim left, and the read behind it failed
  pub chooses_read : (x : T) (e : PageFault) (reads : Type 0) → IsReadFault e → (IsErrOf {T = U} (Err e) fault.Shut ↔ ((was_shut ≡ true) × reads)) → Chooses {T = T} kept free was_shut ⊥ m m' (Ok x) → Chooses {T = U} kept free was_shut reads m m' (Err e)
  chooses_read x e reads read shut c = record {
    victim = c.victim;
    after = c.after;
    is = c.is;
    was_there = c.was_there;
    gone = tt;
    others_stay = c.others_stay;
    exact = (λ none. absurd (read_not_wanting e _ read none), λ both. let clash = c.exact.1 both in absurd (cc clash));
    turned = λ none. absurd (read_not_wanting e _ read none);
    shut = (
      λ is. let both = shut.0 is in (both.0, inr both.1),
      λ both. elim both.1 [
        | inl w ↦ absurd (shut_not x (c.shut.1 (both.0, inl w)))
        | inr read ↦ shut.1 (both.0, read)
      ],
    );
  }

  -- the victim stayed, so nothing was read
  pub chooses_unread : (e : PageFault) (page : ℕ) → Evicts m page → AllStay m m' → Chooses {T = T} kept free was_shut ⊥ m m' (Err e) → Chooses {T = U} kept free was_shut (IsRead m m' page) m m' (Err e)
  chooses_unread e page due stay c = record {
    victim = c.victim;
    after = c.after;
    is = c.is;
    was_there = c.was_there;
    gone = tt;
    others_stay = c.others_stay;
    exact = (λ none. c.exact.0 (err_back e _ none), λ both. err_as e _ (c.exact.1 both));
    turned = λ none. c.turned (err_back e _ none);
    shut = (
      λ is. let both = c.shut.0 (err_back e _ is) in
          (both.0, elim both.1 [ inl w ↦ inl w | inr never ↦ absurd never ]),
      λ both. elim both.1 [
        | inl w ↦ err_as e _ (c.shut.1 (both.0, inl w))
        | inr read ↦ absurd (read.2 (due, stay))
      ],
    );
  }

  -- the page came in the victim's place
  pub chooses_came : (x : T) (y : U) (m'' : PagedMemory) (page : ℕ) (reads : Type 0) → page_at m.frames page ≡ None → IsResident m''.frames page → ((p : ℕ) → p ≢ page → page_at m''.frames p ≡ page_at m'.frames p) → (was_shut ≡ true → reads → ⊥) → Chooses {T = T} kept free was_shut ⊥ m m' (Ok x) → Chooses {T = U} kept free was_shut reads m m'' (Ok y)
  chooses_came x y m'' page reads absent here other never c = record {
    victim = c.victim;
    after = c.after;
    is = c.is;
    was_there = c.was_there;
    gone = other c.victim (λ same. let clash : true ≡ false = sym c.was_there ∙ ap (λ q. is_some (page_at m.frames q)) same ∙ ap is_some absent in cc clash) ∙ c.gone;
    others_stay = λ p apart was. elim (cases_eq p page) [
      | inl same ↦ ap (λ q. is_some (page_at m''.frames q)) same ∙ here
      | inr differs ↦ ap is_some (other p differs) ∙ c.others_stay p apart was
    ];
    exact = (λ none. absurd (cc none), λ both. let clash = c.exact.1 both in absurd (cc clash));
    turned = λ none. absurd (cc none);
    shut = (
      λ is. absurd (shut_not y is),
      λ both. elim both.1 [
        | inl w ↦ absurd (shut_not x (c.shut.1 (both.0, inl w)))
        | inr read ↦ absurd (never both.0 read)
      ],
    );
  }

  pub chooses_err : (e : PageFault) (reads : Type 0) → Chooses {T = T} kept free was_shut reads m m' (Err e) → Chooses {T = U} kept free was_shut reads m m' (Err e)
  chooses_err e reads c = record {
    victim = c.victim;
    after = c.after;
    is = c.is;
    was_there = c.was_there;
    gone = tt;
    others_stay = c.others_stay;
    exact = (λ none. c.exact.0 (err_back e _ none), λ both. err_as e _ (c.exact.1 both));
    turned = λ none. c.turned (err_back e _ none);
    shut = (λ is. c.shut.0 (err_back e _ is), λ both. err_as e _ (c.shut.1 both));
  }

  -- the page could not be brought: room was made as far as the first answer tells
  pub room_err : (page : ℕ) (e : PageFault) → (IsResident m.frames page → IsOk {T = T} (Err e)) → ((Evicts m page → ⊥) → AllStay m m') → (Evicts m page → Chooses {T = T} kept free was_shut (IsRead m m' page) m m' (Err e))
      → ((n : NoBlocks) → IsErrOf {T = T} (Err e) (fault.NoBlocks n) → Evicts m page)
      → ((Evicts m page → ⊥) → IsErrOf {T = T} (Err e) fault.Shut ↔ ((was_shut ≡ true) × IsRead m m' page)) → MakesRoom {T = U} kept free was_shut m m' page (Err e)
  room_err page e had stay chooses wanting shut = record {
    had = λ there. let clash : false ≡ true = had there in absurd (cc clash);
    stay = stay;
    chooses = λ due. chooses_err e (IsRead m m' page) (chooses due);
    no_blocks = λ n none. wanting n (err_back e _ none);
    shut = λ none. let s = shut none in (λ is. s.0 (err_back e _ is), λ both. err_as e _ (s.1 both));
  }

  -- the same pages are resident after the page was brought and used
  module _ (m'' : PagedMemory) (same : (p : ℕ) → is_some (page_at m''.frames p) ≡ is_some (page_at m'.frames p)) (page : ℕ) where
    chooses_ok : (x : T) (y : U) → Chooses {T = T} kept free was_shut (IsRead m m' page) m m' (Ok x) → Chooses {T = U} kept free was_shut (IsRead m m'' page) m m'' (Ok y)
    chooses_ok x y c = record {
      victim = c.victim;
      after = c.after;
      is = c.is;
      was_there = c.was_there;
      gone = not_some (page_at m''.frames c.victim) (same c.victim ∙ ap is_some c.gone);
      others_stay = λ p apart was. same p ∙ c.others_stay p apart was;
      exact = (λ none. absurd (cc none), λ both. let clash = c.exact.1 both in absurd (cc clash));
      turned = λ none. absurd (cc none);
      shut = (
        λ is. absurd (shut_not y is),
        λ both. elim both.1 [
          | inl w ↦ absurd (shut_not x (c.shut.1 (both.0, inl w)))
          | inr read ↦ absurd (shut_not x (c.shut.1 (both.0, inr (read_before m m' m'' page same read))))
        ],
      );
    }

    pub room_ok : (x : T) (y : U) → ((Evicts m page → ⊥) → AllStay m m') → (Evicts m page → Chooses {T = T} kept free was_shut (IsRead m m' page) m m' (Ok x))
        → ((Evicts m page → ⊥) → IsErrOf {T = T} (Ok x) fault.Shut ↔ ((was_shut ≡ true) × IsRead m m' page)) → MakesRoom {T = U} kept free was_shut m m'' page (Ok y)
    room_ok x y stay chooses shut = record {
      had = λ _. refl;
      stay = λ none p there. same p ∙ stay none p there;
      chooses = λ due. chooses_ok x y (chooses due);
      no_blocks = λ n none. absurd (cc none);
      shut = λ none. (λ is. absurd (shut_not y is), λ both. absurd (shut_not x ((shut none).1 (both.0, read_before m m' m'' page same both.1))));
    }

-- a page that isn't resident is read where it has a block, once it was evicted for
pub fetched_read : (m m' : PagedMemory) (page : ℕ) → page_at m.frames page ≡ None → ((HasEmptyFrame m.frames → ⊥) → AllStay m m' → ⊥) → block_at m' page ≡ block_at m page → block_at m' page ≢ 0 → IsRead m m' page
fetched_read m m' page absent gone block some = (absent, λ z. some (block ∙ z), λ both. gone both.0.1 both.1)

-- the answer of a fetch is Shut exactly where the store was shut and the page is read
pub fetched_shut : {T U : Type 0} (m m' : PagedMemory) (page : ℕ) (was mid : Bool) (e : PageFault) → page_at m.frames page ≡ None → ((HasEmptyFrame m.frames → ⊥) → AllStay m m' → ⊥) → block_at m' page ≡ block_at m page → mid ≡ was → (IsErrOf {T = T} (Err e) fault.Shut ↔ ((mid ≡ true) × (block_at m' page ≢ 0))) → IsErrOf {T = U} (Err e) fault.Shut ↔ ((was ≡ true) × IsRead m m' page)
fetched_shut m m' page was mid e absent gone block same shut = (
  λ is. let k : e ≡ fault.Shut = cc in let both = shut.0 (ap Err k) in
      (sym same ∙ both.0, fetched_read m m' page absent gone block both.1),
  λ both. let done = shut.1 (same ∙ both.0, λ z. both.1.1 (sym block ∙ z)) in let k : e ≡ fault.Shut = cc in ap Err k,
)
