-- The page table and the frames stay sound, and the pages are seen as they should be.
use Rattle.std.proofs.Common.{◌≡◌, ◌≢◌, ℕ, ◌+◌, ◌<◌, ◌≤◌, true, false, List, [], length, get_or, set, map, Option, Some, None, is_some, count_by, replicate, refl, sym, ap, ◌∙◌, inl, inr, subst, IsSome, IfSome, rules, arith}
use Rattle.std.proofs.lemmas.Bool.{cases_eq, cases_lt}
use Rattle.std.proofs.lemmas.List.{get_or-map, get_or_past, get_or-set_same, get_or-set_other, get_or-replicate, length-set, length-map}
use Rattle.slab.specs.Slab.{Slab, get, slab_len, with_value, Updates}
use Rattle.slab.proofs.SlabLemmas.{ContainsKey-within, Updates-with_value}
use Rattle.data_frames.specs.declared.clock.Frame.{Frame}
use Rattle.data_frames.specs.FrameTable.{Resident, page_at, resident_words, resident_changed, resident_used, words_at, changed_at, used_at, with_resident, page_in, IsResident, IsBounded, HasEmptyFrame, Fills, Places, Removes}
use Rattle.data_frames.specs.Held.{seen, seen_in, page_of, order_of, table_of, key_of, IsSound, spared, SameButUsed}
use Rattle.data_frames.proofs.Pages.{list_ext, pages_changed, count-set_new, count-set_gone, count-set_kept, count-map, count-none}
use Rattle.std.proofs.lemmas.Option.{same_Some}

-- a write through a `&mut` to a frame leaves as many frames
pub slab_len-with_value : (held : Slab Frame) (key : ℕ) (old new : Frame) → get held key ≡ Some old → slab_len (with_value held key new) ≡ slab_len held
slab_len-with_value held key old new there =
    count-set_kept held.slots key (ContainsKey-within held key (subst IsSome (sym there) (search rules))) old new there

-- the page in a frame
pub page_under : (n : ℕ) (table : List (Option ℕ)) (held : Slab Frame) (hand key : ℕ) → page_in (table_of n table held hand) key ≡ page_of (get held key)
page_under n table held hand key = elim (cases_lt key (length held.slots)) [
  | inl within ↦ get_or-map page_of held.slots key None None within
  | inr past ↦ get_or_past (map page_of held.slots) key None (omega (arith, length-map held.slots page_of)) ∙ sym (ap page_of (get_or_past held.slots key None past))
]

-- one frame's page changes
fills_updated : (n : ℕ) (table table' : List (Option ℕ)) (held new : Slab Frame) (hand key : ℕ) (slot : Option Frame) → Updates held new key slot → Fills key (page_of slot) (table_of n table held hand) (table_of n table' new hand)
fills_updated n table table' held new hand key slot updates = record {
  filled = page_under n table' new hand key ∙ ap page_of updates.changed;
  others = λ other differs. page_under n table' new hand other ∙ ap page_of (updates.others other differs) ∙ sym (page_under n table held hand other);
}

-- a slab with nothing in it
get_empty : (held : Slab Frame) (key : ℕ) → held.slots ≡ [] → get held key ≡ None
get_empty held key empty = ap (λ slots. get_or slots key None) empty ∙ get_or_past [] key None (omega arith)

none_named : (page : ℕ) → key_of (replicate 256 None) page ≡ None
none_named page = elim (cases_lt page 256) [
  | inl within ↦ get_or-replicate 256 page None None within
  | inr past ↦ get_or_past (replicate 256 None) page None past
]

pub sound_new : (n : ℕ) (held : Slab Frame) → 0 < n → n ≤ 256 → held.slots ≡ [] → n ≤ held.capacity → IsSound n (replicate 256 None) held
sound_new n held some few empty room = record {
  some_frames = some;
  few_frames = few;
  all_pages = refl;
  named = λ page key e. let clash = sym (none_named page) ∙ e in absurd (cc clash);
  listed = λ key f e. let clash = sym (get_empty held key empty) ∙ e in absurd (cc clash);
  whole = λ key f e. let clash = sym (get_empty held key empty) ∙ e in absurd (cc clash);
  counted = ap (count_by is_some) empty;
  fits = let none : slab_len held ≡ 0 = ap (count_by is_some) empty in omega (arith, none);
  reserved = room;
}

module _ (n : ℕ) (table : List (Option ℕ)) (held : Slab Frame) (sound : IsSound n table held) where
  -- no two pages have one frame
  pub one_page : (p q key : ℕ) → key_of table p ≡ Some key → key_of table q ≡ Some key → p ≡ q
  one_page p q key at_p at_q =
      let first = sound.named p key at_p in
      let second = sound.named q key at_q in
      sym first.2 ∙ ap (λ f. f.page) (same_Some first.0 second.0 (sym first.1 ∙ second.1)) ∙ second.2

  -- a change of the frame of one page is not seen at another page
  others_kept : (new : Slab Frame) (page key : ℕ) (slot : Option Frame) → ((other : ℕ) → key_of table other ≡ Some key → other ≡ page) → Updates held new key slot → (other : ℕ) → other ≢ page → seen_in new (key_of table other) ≡ seen_in held (key_of table other)
  others_kept new page key slot alone updates other differs = by_entry (key_of table other) refl
    where
      by_entry : (entry : Option ℕ) → key_of table other ≡ entry → seen_in new entry ≡ seen_in held entry
      by_entry None at = refl
      by_entry (Some k) at = ap seen (updates.others k (λ same. differs (alone other (at ∙ ap Some same))))

  module _ (new : Slab Frame) (page key : ℕ) (f : Frame) (at : key_of table page ≡ Some key) (mine : f.page ≡ page) (whole : length f.words ≡ 128) (updates : Updates held new key (Some f)) where
    -- a write to a resident page's frame
    pub sound_written : slab_len new ≡ slab_len held → new.capacity ≡ held.capacity → IsSound n table new
    sound_written len capacity = record {
      some_frames = sound.some_frames;
      few_frames = sound.few_frames;
      all_pages = sound.all_pages;
      named = λ p k e. elim (cases_eq k key) [
        | inl same ↦ (f, ap (get new) same ∙ updates.changed, mine ∙ one_page page p key at (e ∙ ap Some same))
        | inr differs ↦ let old = sound.named p k e in (old.0, updates.others k differs ∙ old.1, old.2)
      ];
      listed = λ k g e. elim (cases_eq k key) [
        | inl same ↦
            let is : f ≡ g = same_Some f g (sym updates.changed ∙ ap (get new) (sym same) ∙ e) in
            ap (key_of table) (sym (ap (λ x. x.page) is) ∙ mine) ∙ at ∙ ap Some (sym same)
        | inr differs ↦ sound.listed k g (sym (updates.others k differs) ∙ e)
      ];
      whole = λ k g e. elim (cases_eq k key) [
        | inl same ↦
            let is : f ≡ g = same_Some f g (sym updates.changed ∙ ap (get new) (sym same) ∙ e) in
            sym (ap (λ x. length x.words) is) ∙ whole
        | inr differs ↦ sound.whole k g (sym (updates.others k differs) ∙ e)
      ];
      counted = len ∙ sound.counted;
      fits = omega (arith, sound.fits);
      reserved = omega (arith, sound.reserved);
    }

    -- what is seen after it
    pub pages_written : page < 256 → map (seen_in new) table ≡ set (map (seen_in held) table) page (seen (Some f))
    pages_written within =
        pages_changed held new table table page (seen (Some f)) refl (omega (arith, sound.all_pages))
        (ap (seen_in new) at ∙ ap seen updates.changed)
        (others_kept new page key (Some f) (λ other e. one_page other page key e at) updates)

  -- a page that is resident has a frame, and one that isn't has none
  pub resident_key : (page : ℕ) → is_some (seen_in held (key_of table page)) ≡ is_some (key_of table page)
  resident_key page = by_entry (key_of table page) refl
    where
      by_entry : (entry : Option ℕ) → key_of table page ≡ entry → is_some (seen_in held entry) ≡ is_some entry
      by_entry None at = refl
      by_entry (Some key) at = ap (λ o. is_some (seen o)) (sound.named page key at).1

  -- as many pages are resident as frames are held
  pub residents : count_by is_some (map (seen_in held) table) ≡ slab_len held
  residents = count-map (seen_in held) table (λ i within. resident_key i) ∙ sym sound.counted

  -- what is seen of a page
  pub seen_at : (page : ℕ) → page < 256 → page_at (table_of n table held 0) page ≡ seen_in held (key_of table page)
  seen_at page within = get_or-map (seen_in held) table page None None (omega (arith, sound.all_pages))

  pub words_seen : (page key : ℕ) (f : Frame) → page < 256 → key_of table page ≡ Some key → get held key ≡ Some f → words_at (table_of n table held 0) page ≡ f.words
  words_seen page key f within at there =
      let is : page_at (table_of n table held 0) page ≡ seen (Some f) = seen_at page within ∙ ap (seen_in held) at ∙ ap seen there in
      ap resident_words is

  pub changed_seen : (page key : ℕ) (f : Frame) → page < 256 → key_of table page ≡ Some key → get held key ≡ Some f → changed_at (table_of n table held 0) page ≡ f.changed
  changed_seen page key f within at there =
      let is : page_at (table_of n table held 0) page ≡ seen (Some f) = seen_at page within ∙ ap (seen_in held) at ∙ ap seen there in
      ap resident_changed is

  pub used_seen : (page key : ℕ) (f : Frame) → page < 256 → key_of table page ≡ Some key → get held key ≡ Some f → used_at (table_of n table held 0) page ≡ f.used
  used_seen page key f within at there =
      let is : page_at (table_of n table held 0) page ≡ seen (Some f) = seen_at page within ∙ ap (seen_in held) at ∙ ap seen there in
      ap resident_used is

  -- the frame of a page has the page in it
  pub mine_at : (page key : ℕ) (f : Frame) → key_of table page ≡ Some key → get held key ≡ Some f → f.page ≡ page
  mine_at page key f at there = one_page f.page page key (sound.listed key f there) at

  -- the page table names the frame that a page is in
  pub frame_found : (hand page : ℕ) → IfSome (key_of table page) (λ key. page_in (table_of n table held hand) key ≡ Some page)
  frame_found hand page = by_entry (key_of table page) refl
    where
      by_entry : (entry : Option ℕ) → key_of table page ≡ entry → IfSome entry (λ key. page_in (table_of n table held hand) key ≡ Some page)
      by_entry None at = search rules
      by_entry (Some key) at = let old = sound.named page key at in page_under n table held hand key ∙ ap page_of old.1 ∙ ap Some old.2

  pub absent_key : (page : ℕ) → page < 256 → page_at (table_of n table held 0) page ≡ None → key_of table page ≡ None
  absent_key page within absent = by_entry (key_of table page) refl
    where
      by_entry : (entry : Option ℕ) → key_of table page ≡ entry → entry ≡ None
      by_entry None at = refl
      by_entry (Some key) at =
          let old = sound.named page key at in
          let clash : None ≡ seen (Some old.0) = sym absent ∙ seen_at page within ∙ ap (seen_in held) at ∙ ap seen old.1 in
          absurd (cc clash)

  -- the frames hold what is promised of every table
  pub bounded : (hand : ℕ) → IsBounded (table_of n table held hand)
  bounded hand = record {
    some_frames = sound.some_frames;
    few_frames = sound.few_frames;
    all_pages = length-map table (seen_in held) ∙ sound.all_pages;
    fits = omega (arith, residents, sound.fits);
    whole_pages = λ page resident. by_page page resident (page_at (table_of n table held 0) page) refl;
  }
    where
      by_key : (page : ℕ) → page < 256 → IsResident (table_of n table held 0) page → (entry : Option ℕ) → key_of table page ≡ entry → length (words_at (table_of n table held 0) page) ≡ 128
      by_key page within resident None at =
          let clash : IsSome {T = Resident} None = subst IsSome (seen_at page within ∙ ap (seen_in held) at) resident in absurd (cc clash)
      by_key page within resident (Some key) at =
          let old = sound.named page key at in
          ap length (words_seen page key old.0 within at old.1) ∙ sound.whole key old.0 old.1

      by_page : (page : ℕ) → IsResident (table_of n table held 0) page → (o : Option Resident) → page_at (table_of n table held 0) page ≡ o → length (words_at (table_of n table held 0) page) ≡ 128
      by_page page resident o at =
          elim (cases_lt page 256) [
            | inl within ↦ by_key page within resident (key_of table page) refl
            | inr past ↦
                let none : page_at (table_of n table held 0) page ≡ None = get_or_past (map (seen_in held) table) page None (omega (arith, length-map table (seen_in held), sound.all_pages)) in
                let clash : IsSome {T = Resident} None = subst IsSome none resident in absurd (cc clash)
          ]

  -- the page in a frame is resident
  pub frame_resident : (key : ℕ) (f : Frame) → get held key ≡ Some f → IsResident (table_of n table held 0) f.page
  frame_resident key f there =
      elim (cases_lt f.page 256) [
        | inl within ↦
            let is : page_at (table_of n table held 0) f.page ≡ seen (Some f) = seen_at f.page within ∙ ap (seen_in held) (sound.listed key f there) ∙ ap seen there in
            ap is_some is
        | inr past ↦
            let none : key_of table f.page ≡ None = get_or_past table f.page None (omega (arith, sound.all_pages)) in
            let clash = sym none ∙ sound.listed key f there in absurd (cc clash)
      ]

  -- where all frames are taken, some key has a frame
  pub some_taken : n ≤ slab_len held → ((key : ℕ) → get held key ≡ None) → ⊥
  some_taken full vacant = omega (arith, count-none held.slots vacant, sound.some_frames)

  -- a frame is empty exactly where fewer are taken than there are
  pub empty_frame : slab_len held < n → HasEmptyFrame (table_of n table held 0)
  empty_frame fewer = omega (arith, residents)

  pub no_empty_frame : n ≤ slab_len held → HasEmptyFrame (table_of n table held 0) → ⊥
  no_empty_frame full empty = omega (arith, residents)

  module _ (new : Slab Frame) (same : SameButUsed held new) where
    -- a frame there now was there before, in the same form but for the mark of use
    was : (key : ℕ) (g : Frame) → get new key ≡ Some g → (f : Frame) × (get held key ≡ Some f) × (f.page ≡ g.page) × (f.words ≡ g.words)
    was key g e = by_old (get held key) refl
      where
        by_old : (o : Option Frame) → get held key ≡ o → (f : Frame) × (get held key ≡ Some f) × (f.page ≡ g.page) × (f.words ≡ g.words)
        by_old None at = let k = sym (ap spared at) ∙ sym (same.same key) ∙ ap spared e in absurd (cc k)
        by_old (Some f) at =
            let k = same_Some _ _ (sym (ap spared at) ∙ sym (same.same key) ∙ ap spared e) in
            (f, at, ap (λ x. x.page) k, ap (λ x. x.words) k)

    now : (key : ℕ) (f : Frame) → get held key ≡ Some f → (g : Frame) × (get new key ≡ Some g) × (g.page ≡ f.page)
    now key f e = by_new (get new key) refl
      where
        by_new : (o : Option Frame) → get new key ≡ o → (g : Frame) × (get new key ≡ Some g) × (g.page ≡ f.page)
        by_new None at = let k = sym (ap spared at) ∙ same.same key ∙ ap spared e in absurd (cc k)
        by_new (Some g) at =
            let k = same_Some _ _ (sym (ap spared at) ∙ same.same key ∙ ap spared e) in
            (g, at, ap (λ x. x.page) k)

    pub sound_same : IsSound n table new
    sound_same = record {
      some_frames = sound.some_frames;
      few_frames = sound.few_frames;
      all_pages = sound.all_pages;
      named = λ p k e. let old = sound.named p k e in let g = now k old.0 old.1 in (g.0, g.1, g.2 ∙ old.2);
      listed = λ k g e. let f = was k g e in sym (ap (key_of table) f.2) ∙ sound.listed k f.0 f.1;
      whole = λ k g e. let f = was k g e in sym (ap length f.3) ∙ sound.whole k f.0 f.1;
      counted = same.len ∙ sound.counted;
      fits = omega (arith, sound.fits, same.len);
      reserved = omega (arith, sound.reserved, same.capacity);
    }

    -- the page in a frame now was resident before
    pub victim_resident : (key : ℕ) (g : Frame) → get new key ≡ Some g → IsResident (table_of n table held 0) g.page
    victim_resident key g there =
        let f = was key g there in
        subst (λ page. IsResident (table_of n table held 0) page) f.2 (frame_resident key f.0 f.1)

  -- a new page in an empty frame
  module _ (new : Slab Frame) (page key : ℕ) (f : Frame) (within : page < 256) (absent : key_of table page ≡ None) (vacant : get held key ≡ None) (mine : f.page ≡ page) (whole : length f.words ≡ 128) (updates : Updates held new key (Some f)) where
    in_table : page < length table
    in_table = omega (arith, sound.all_pages)

    unnamed : (p k : ℕ) → key_of table p ≡ Some k → k ≢ key
    unnamed p k e same = let old = sound.named p k e in let clash = sym vacant ∙ sym (ap (get held) same) ∙ old.1 in absurd (cc clash)

    pub sound_placed : slab_len new ≡ slab_len held + 1 → new.capacity ≡ held.capacity → slab_len held < n → IsSound n (set table page (Some key)) new
    sound_placed len capacity room = record {
      some_frames = sound.some_frames;
      few_frames = sound.few_frames;
      all_pages = length-set table page (Some key) ∙ sound.all_pages;
      named = λ p k e. elim (cases_eq p page) [
        | inl same ↦
            let is : key ≡ k = same_Some key k (sym (get_or-set_same table page (Some key) None in_table) ∙ sym (ap (key_of (set table page (Some key))) same) ∙ e) in
            (f, ap (get new) (sym is) ∙ updates.changed, mine ∙ sym same)
        | inr differs ↦
            let at = sym (get_or-set_other table page p (Some key) None differs) ∙ e in
            let old = sound.named p k at in (old.0, updates.others k (unnamed p k at) ∙ old.1, old.2)
      ];
      listed = λ k g e. elim (cases_eq k key) [
        | inl same ↦
            let is : f ≡ g = same_Some f g (sym updates.changed ∙ ap (get new) (sym same) ∙ e) in
            ap (key_of (set table page (Some key))) (sym (ap (λ x. x.page) is) ∙ mine) ∙ get_or-set_same table page (Some key) None in_table ∙ ap Some (sym same)
        | inr differs ↦
            let old = sound.listed k g (sym (updates.others k differs) ∙ e) in
            get_or-set_other table page g.page (Some key) None (λ same. let clash = sym absent ∙ sym (ap (key_of table) same) ∙ old in absurd (cc clash)) ∙ old
      ];
      whole = λ k g e. elim (cases_eq k key) [
        | inl same ↦
            let is : f ≡ g = same_Some f g (sym updates.changed ∙ ap (get new) (sym same) ∙ e) in
            sym (ap (λ x. length x.words) is) ∙ whole
        | inr differs ↦ sound.whole k g (sym (updates.others k differs) ∙ e)
      ];
      counted = omega (arith, count-set_new table page in_table key absent, len, sound.counted);
      fits = omega arith;
      reserved = omega (arith, sound.reserved);
    }

    pages_placed : map (seen_in new) (set table page (Some key)) ≡ set (map (seen_in held) table) page (seen (Some f))
    pages_placed =
        pages_changed held new table (set table page (Some key)) page (seen (Some f)) (length-set table page (Some key)) in_table
        (ap (seen_in new) (get_or-set_same table page (Some key) None in_table) ∙ ap seen updates.changed)
        (λ other differs. ap (seen_in new) (get_or-set_other table page other (Some key) None differs) ∙ others_kept new page key (Some f) (λ o e. absurd (unnamed o key e refl)) updates other differs)

    pub placed : (hand : ℕ) → f.used ≡ true → f.changed ≡ false → Places page f.words (table_of n table held hand) (table_of n (set table page (Some key)) new hand)
    placed hand used unchanged = record {
      frame = key;
      was_empty = page_under n table held hand key ∙ ap page_of vacant;
      fills = subst (λ slot. Fills key slot (table_of n table held hand) (table_of n (set table page (Some key)) new hand)) (ap Some mine) (fills_updated n table (set table page (Some key)) held new hand key (Some f) updates);
      is = ap (λ pages. record { frames = n; pages = pages; order = order_of held; hand = hand }) (pages_placed ∙ ap (λ slot. set (map (seen_in held) table) page slot) marks);
    }
      where
        marks : seen (Some f) ≡ Some (record { words = f.words; changed = false; used = true })
        marks = λ i. Some (record { words = f.words; changed = unchanged i; used = used i })

  -- a page is taken out of its frame
  module _ (new : Slab Frame) (page key : ℕ) (within : page < 256) (at : key_of table page ≡ Some key) (updates : Updates held new key None) where
    inside : page < length table
    inside = omega (arith, sound.all_pages)

    pub sound_removed : slab_len new + 1 ≡ slab_len held → new.capacity ≡ held.capacity → IsSound n (set table page None) new
    sound_removed len capacity = record {
      some_frames = sound.some_frames;
      few_frames = sound.few_frames;
      all_pages = length-set table page None ∙ sound.all_pages;
      named = λ p k e. elim (cases_eq p page) [
        | inl same ↦
            let clash = sym (get_or-set_same table page None None inside) ∙ sym (ap (key_of (set table page None)) same) ∙ e in absurd (cc clash)
        | inr differs ↦
            let there = sym (get_or-set_other table page p None None differs) ∙ e in
            let old = sound.named p k there in
            (old.0, updates.others k (λ same. differs (one_page p page key (there ∙ ap Some same) at)) ∙ old.1, old.2)
      ];
      listed = λ k g e. elim (cases_eq k key) [
        | inl same ↦ let clash = sym updates.changed ∙ ap (get new) (sym same) ∙ e in absurd (cc clash)
        | inr differs ↦
            let old = sound.listed k g (sym (updates.others k differs) ∙ e) in
            get_or-set_other table page g.page None None (λ same. differs (same_Some k key (sym old ∙ ap (key_of table) same ∙ at))) ∙ old
      ];
      whole = λ k g e. elim (cases_eq k key) [
        | inl same ↦ let clash = sym updates.changed ∙ ap (get new) (sym same) ∙ e in absurd (cc clash)
        | inr differs ↦ sound.whole k g (sym (updates.others k differs) ∙ e)
      ];
      counted = omega (arith, count-set_gone table page inside key at, len, sound.counted);
      fits = omega (arith, sound.fits);
      reserved = omega (arith, sound.reserved);
    }

    pages_removed : map (seen_in new) (set table page None) ≡ set (map (seen_in held) table) page None
    pages_removed =
        pages_changed held new table (set table page None) page None (length-set table page None) inside
        (ap (seen_in new) (get_or-set_same table page None None inside))
        (λ other differs. ap (seen_in new) (get_or-set_other table page other None None differs) ∙ others_kept new page key None (λ o e. one_page o page key e at) updates other differs)

    pub removed : (hand : ℕ) (f : Frame) → get held key ≡ Some f → f.page ≡ page → Removes page (table_of n table held hand) (table_of n (set table page None) new hand)
    removed hand f there mine = record {
      frame = key;
      was_there = page_under n table held hand key ∙ ap page_of there ∙ ap Some mine;
      fills = fills_updated n table (set table page None) held new hand key None updates;
      is = ap (λ pages. record { frames = n; pages = pages; order = order_of held; hand = hand }) pages_removed;
    }

  -- a resident page's frame is written through a `&mut`
  module _ (page key : ℕ) (f g : Frame) (within : page < 256) (at : key_of table page ≡ Some key) (there : get held key ≡ Some f) (mine : g.page ≡ f.page) (whole : length g.words ≡ length f.words) where
    updated : Updates held (with_value held key g) key (Some g)
    updated = Updates-with_value held key g (subst IsSome (sym there) (search rules))

    here : g.page ≡ page
    here = mine ∙ one_page f.page page key (sound.listed key f there) at

    all_words : length g.words ≡ 128
    all_words = whole ∙ sound.whole key f there

    pub sound_set : IsSound n table (with_value held key g)
    sound_set = sound_written (with_value held key g) page key g at here all_words updated (slab_len-with_value held key f g there) refl

    -- each frame has the page that it had
    order_set : order_of (with_value held key g) ≡ order_of held
    order_set = list_ext _ _ None (length-map (with_value held key g).slots page_of ∙ length-set held.slots key (Some g) ∙ sym (length-map held.slots page_of)) (λ k inside. page_under n table (with_value held key g) 0 k ∙ each k ∙ sym (page_under n table held 0 k))
      where
        each : (k : ℕ) → page_of (get (with_value held key g) k) ≡ page_of (get held k)
        each k = elim (cases_eq k key) [
          | inl same ↦ ap (λ j. page_of (get (with_value held key g) j)) same ∙ ap page_of updated.changed ∙ ap Some mine ∙ sym (ap page_of there) ∙ ap (λ j. page_of (get held j)) (sym same)
          | inr differs ↦ ap page_of (updated.others k differs)
        ]

    pub table_set : (hand : ℕ) → table_of n table (with_value held key g) hand ≡ with_resident (table_of n table held hand) page g.words g.changed g.used
    table_set hand = λ i. record { frames = n; pages = pages_written (with_value held key g) page key g at here all_words updated within i; order = order_set i; hand = hand }
