-- What the choice of the next victim means for the pages.
use Rattle.std.proofs.Common.{◌≡◌, ℕ, ◌+◌, ◌≤◌, List, get_or, map, Option, Some, None, refl, sym, ap, ◌∙◌, inl, inr, arith}
use Rattle.std.proofs.lemmas.Bool.{cases_lt}
use Rattle.std.proofs.lemmas.List.{get_or_past, length-map}
use Rattle.slab.specs.Slab.{Slab, get}
use Rattle.data_frames.specs.declared.clock.Frame.{Frame}
use Rattle.data_frames.specs.FrameTable.{page_at, page_in, used_at, unmarked, Passes, GoesRound, IsVictim}
use Rattle.data_frames.specs.Held.{seen, seen_in, page_of, used_of, table_of, key_of, IsSound, spared, SameButUsed, PassesTo, AllCleared, IsFirstKey, IsChosen}
use Rattle.data_frames.proofs.Kept.{page_under, used_seen, seen_at, sound_same}
use Rattle.std.proofs.lemmas.Option.{same_Some}

page_spared : (o : Option Frame) → page_of (spared o) ≡ page_of o
page_spared None = refl
page_spared (Some f) = refl

seen_spared : (o : Option Frame) → unmarked (seen (spared o)) ≡ unmarked (seen o)
seen_spared None = refl
seen_spared (Some f) = refl

-- a frame with a page in it is marked as its page is
record Marked (n : ℕ) (table : List (Option ℕ)) (held : Slab Frame) (f p : ℕ) : Type 0 where
  pub frame : Frame
  pub there : get held f ≡ Some frame
  pub mark : used_at (table_of n table held 0) p ≡ used_of (get held f)

marked_under : (n : ℕ) (table : List (Option ℕ)) (held : Slab Frame) → IsSound n table held → (f p : ℕ) → page_of (get held f) ≡ Some p → Marked n table held f p
marked_under n table held sound f p at = by_frame (get held f) refl
  where
    by_frame : (o : Option Frame) → get held f ≡ o → Marked n table held f p
    by_frame None e = let clash = sym (ap page_of e) ∙ at in absurd (cc clash)
    by_frame (Some g) e =
        let mine : g.page ≡ p = same_Some g.page p (sym (ap page_of e) ∙ at) in
        let listed : key_of table p ≡ Some f = ap (key_of table) (sym mine) ∙ sound.listed f g e in
        elim (cases_lt p 256) [
          | inl within ↦ record { frame = g; there = e; mark = used_seen n table held sound p f g within listed e ∙ sym (ap used_of e) }
          | inr past ↦
              let none : key_of table p ≡ None = get_or_past table p None (omega (arith, sound.all_pages)) in
              let clash = sym none ∙ listed in absurd (cc clash)
        ]

module _ (n : ℕ) (table : List (Option ℕ)) (held new : Slab Frame) (sound : IsSound n table held) (same : SameButUsed held new) where
  sound' : IsSound n table new
  sound' = sound_same n table held sound new same

  page_same : (k : ℕ) → page_of (get new k) ≡ page_of (get held k)
  page_same k = sym (page_spared (get new k)) ∙ ap page_of (same.same k) ∙ page_spared (get held k)

  pages_same : (p : ℕ) → unmarked (page_at (table_of n table new 0) p) ≡ unmarked (page_at (table_of n table held 0) p)
  pages_same p = elim (cases_lt p 256) [
    | inl within ↦ ap unmarked (seen_at n table new sound' p within) ∙ by_entry (key_of table p) ∙ sym (ap unmarked (seen_at n table held sound p within))
    | inr past ↦ ap unmarked (none new p past) ∙ sym (ap unmarked (none held p past))
  ]
    where
      by_entry : (entry : Option ℕ) → unmarked (seen_in new entry) ≡ unmarked (seen_in held entry)
      by_entry None = refl
      by_entry (Some key) = sym (seen_spared (get new key)) ∙ ap (λ o. unmarked (seen o)) (same.same key) ∙ seen_spared (get held key)

      none : (slab : Slab Frame) (p : ℕ) → 256 ≤ p → get_or (map (seen_in slab) table) p None ≡ None
      none slab p past = get_or_past (map (seen_in slab) table) p None (omega (arith, length-map table (seen_in slab), sound.all_pages))

  module _ (hand key : ℕ) (g : Frame) (there : get new key ≡ Some g) where
    before : page_in (table_of n table held hand) key ≡ Some g.page
    before = page_under n table held hand key ∙ sym (page_same key) ∙ ap page_of there

    old_mark : (f p : ℕ) → page_in (table_of n table held hand) f ≡ Some p → Marked n table held f p
    old_mark f p e = marked_under n table held sound f p (sym (page_under n table held hand f) ∙ e)

    new_mark : (f p : ℕ) → page_in (table_of n table held hand) f ≡ Some p → used_at (table_of n table new 0) p ≡ used_of (get new f)
    new_mark f p e = (marked_under n table new sound' f p (page_same f ∙ sym (page_under n table held hand f) ∙ e)).mark

    passes : PassesTo hand key held new → Passes key g.page (table_of n table held hand) (table_of n table new (key + 1))
    passes to = record {
      unused = (old_mark key g.page before).mark ∙ to.unused;
      passed = λ f p e test.
          let m = old_mark f p e in
          let have = to.passed f m.frame m.there test in
          (m.mark ∙ ap used_of m.there ∙ have.0, new_mark f p e ∙ have.1);
      others = λ f p e test. new_mark f p e ∙ to.others f test ∙ sym (old_mark f p e).mark;
    }

    round : AllCleared held new → IsFirstKey hand key held → GoesRound key (table_of n table held hand) (table_of n table new (key + 1))
    round cleared is_first = record {
      first = λ f p e. (let m = old_mark f p e in is_first f m.frame m.there);
      all_used = λ f p e.
          let m = old_mark f p e in
          let have = cleared f m.frame m.there in
          (m.mark ∙ ap used_of m.there ∙ have.0, new_mark f p e ∙ have.1);
    }

    pub victim_is : IsChosen hand key held new → IsVictim g.page (table_of n table held hand) (table_of n table new (key + 1))
    victim_is chosen = record {
      frame = key;
      at = before;
      chosen = elim chosen [ inl to ↦ inl (passes to) | inr all ↦ inr (round all.0 all.1) ];
      hand = refl;
      same_frames = refl;
      same_order = λ f. page_under n table new (key + 1) f ∙ page_same f ∙ sym (page_under n table held hand f);
      same_pages = pages_same;
    }
