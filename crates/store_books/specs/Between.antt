-- What lies between two moments of a store at which nothing was committed.
use Rattle.std.specs.Prelude.{◌≡◌, ◌⊎◌, ℕ, List, Bool, ◌+◌, ◌<◌, ◌≤◌, true, false}
use Rattle.std.proofs.Common.{inl, inr, ap, arith, refl, sym, subst, ◌∙◌}
use Rattle.edge_disk.specs.declared.disk.Disk.{Ghosts}
use Rattle.edge_disk.specs.Image.{Image}
use Rattle.edge_disk.specs.Moments.{LeavesOnly}
use Rattle.image_blocks.specs.base_types.declared.records.Rec.{Rec}
use Rattle.image_blocks.proofs.Reading.{log_law}
use Rattle.image_blocks.specs.image_facts.Layout.{last_number}
use Rattle.image_blocks.specs.Logs.{Place}
use Rattle.image_meaning.specs.Stores.{Kept, Stores}
use Rattle.edge_tally.specs.Counts.{CountsOn}
use Rattle.edge_tally.proofs.Counting.{CountsOn-stay, CountsOn-then}
use Rattle.store_books.specs.Books.{AreSmall, AreStored, AreTrue, Books, kept_of, recs_in}

-- stretches behind one another
pub LeavesOnly-join : {D : Type 0} (disks : Ghosts D) (P : Image → Type 0) (a b c : D)
    → LeavesOnly disks a b P → LeavesOnly disks b c P → LeavesOnly disks a c P
LeavesOnly-join disks P a b c first second = record {
  later = (let one = first.later in let two = second.later in omega arith);
  each = λ image left. LeavesOnly-each (second.before (disks.clock a) image first.later left);
  before = λ t image le left. LeavesOnly-before t image le (second.before t image (let one = first.later in omega (arith, le, one)) left);
}
  where
    LeavesOnly-each : {image : Image} → disks.left_since b (disks.clock a) image ⊎ P image → P image
    LeavesOnly-each {image = image} (inl h) = first.each image h
    LeavesOnly-each (inr h) = h

    LeavesOnly-before : (t : ℕ) (image : Image) → t ≤ disks.clock a → disks.left_since b t image ⊎ P image → disks.left_since a t image ⊎ P image
    LeavesOnly-before t image le (inl h) = first.before t image le h
    LeavesOnly-before t image le (inr h) = inr h

-- each image that a stop now may leave stores the kept records
pub stored_each : {D : Type 0} (disks : Ghosts D) (count : ℕ) (p : Place) (recs : List Rec) (ks : List Kept) (disk : D) → AreStored disks count p recs ks disk
    → (c : Image) → disks.may_leave disk c → Stores count ks c
stored_each disks count p recs ks disk s c may = record {
  recs = recs;
  has = log_law count p recs c (s.front c may) (s.left c may).0 s.fit;
  agree = s.agree;
  held = s.held c may;
  blocks = (s.front c may).count_is;
}

-- NOTHING WAS COMMITTED. From the one store to the other only pages were read, written, taken and given back: the log and the kept
-- records are the same, and a stop at any moment leaves an image that stores just them.
pub record OnlyPages {D : Type 0} (disks : Ghosts D) (old_disk new_disk : D) (old new : Books) (old_written new_written : ℕ) : Type 0 where
  pub same_logged : new.logged ≡ old.logged
  pub same_place : new.place ≡ old.place
  pub same_small : new.small ≡ old.small
  pub same_count : new.count ≡ old.count
  pub same_found : new.found ≡ old.found
  pub same_kept : disks.tells → kept_of (disks.reading new_disk) new ≡ kept_of (disks.reading old_disk) old
  pub true_books : disks.tells → AreTrue disks old old_disk → AreTrue disks new new_disk
  -- a store that is shut does nothing to its disk
  pub shut : old.shut ≡ true → (new.shut ≡ true) × (new_disk ≡ old_disk)
  pub moments : disks.tells → AreTrue disks old old_disk → AreSmall old → old.shut ≡ false
      → LeavesOnly disks old_disk new_disk (Stores old.count (kept_of (disks.reading old_disk) old))
  pub later : disks.clock old_disk ≤ disks.clock new_disk
  pub begun : old.begun ≤ new.begun
  pub written : old_written ≤ new_written
  pub few : new.begun + old_written ≤ old.begun + new_written
  pub counts : CountsOn (disks.clock old_disk) (disks.clock new_disk) old.begun new.begun

-- THE LAWS of that relation: it holds of a store and itself, and goes on
module _ {D : Type 0} (disks : Ghosts D) where
  abbrev pub Between : D → D → Books → Books → ℕ → ℕ → Type 0
  Between a b old new m n = OnlyPages disks a b old new m n

  LeavesOnly-stay : (P : Image → Type 0) (a : D) → ((c : Image) → disks.left_since a (disks.clock a) c → P c) → LeavesOnly disks a a P
  LeavesOnly-stay P a each = record { later = omega arith; each = each; before = λ t c le left. inl left }

  -- each image that a stop may leave of true books stores the kept records
  pub stores_left : (a : D) (b : Books) → AreTrue disks b a → AreSmall b → b.shut ≡ false → (c : Image) → disks.may_leave a c → Stores b.count (kept_of (disks.reading a) b) c
  stores_left a b right small working c may = stored_each disks b.count b.place (recs_in b) (kept_of (disks.reading a) b) a (right.stored small working) c may

  pub Between-stay : (a : D) (old : Books) (n : ℕ) → ((c : Image) → disks.tells → disks.left_since a (disks.clock a) c → disks.may_leave a c) → Between a a old old n n
  Between-stay a old n only_now = record {
    same_logged = refl;
    same_place = refl;
    same_small = refl;
    same_count = refl;
    same_found = refl;
    same_kept = λ told. refl;
    true_books = λ told right. right;
    shut = λ shut. (shut, refl);
    moments = λ told right small working. LeavesOnly-stay _ a (λ c left. stores_left a old right small working c (only_now c told left));
    later = omega arith;
    begun = omega arith;
    written = omega arith;
    few = omega arith;
    counts = CountsOn-stay (disks.clock a) old.begun;
  }

  small_on : (old new : Books) → new.small ≡ old.small → new.place ≡ old.place → AreSmall old → AreSmall new
  small_on old new same place small = record { recs = same ∙ small.recs; epoch = subst (λ p. p.epoch < last_number) (sym place) small.epoch }

  on_stores : (a b : D) (x y : Books) (k m : ℕ) → disks.tells → Between a b x y k m → Stores y.count (kept_of (disks.reading b) y) ≡ Stores x.count (kept_of (disks.reading a) x)
  on_stores a b x y k m told p = ap (λ n. Stores n (kept_of (disks.reading b) y)) p.same_count ∙ ap (Stores x.count) (p.same_kept told)

  -- the second stretch of a store that works, and of one that is shut
  moments_join : (a b c : D) (x y z : Books) (k m n : ℕ) → Between a b x y k m → Between b c y z m n → disks.tells → AreTrue disks x a → AreSmall x → x.shut ≡ false
      → (shut : Bool) → y.shut ≡ shut → LeavesOnly disks a c (Stores x.count (kept_of (disks.reading a) x))
  moments_join a b c x y z k m n p q told right small working false e =
      LeavesOnly-join disks (Stores x.count (kept_of (disks.reading a) x)) a b c (p.moments told right small working)
      (subst (λ (P : Image → Type 0). LeavesOnly disks b c P) (on_stores a b x y k m told p)
      (q.moments told (p.true_books told right) (small_on x y p.same_small p.same_place small) e))
  moments_join a b c x y z k m n p q told right small working true e =
      subst (λ d. LeavesOnly disks a d (Stores x.count (kept_of (disks.reading a) x))) (sym (q.shut e).1) (p.moments told right small working)

  pub Between-join : (a b c : D) (x y z : Books) (k m n : ℕ) → Between a b x y k m → Between b c y z m n → Between a c x z k n
  Between-join a b c x y z k m n p q = record {
    same_logged = q.same_logged ∙ p.same_logged;
    same_place = q.same_place ∙ p.same_place;
    same_small = q.same_small ∙ p.same_small;
    same_count = q.same_count ∙ p.same_count;
    same_found = q.same_found ∙ p.same_found;
    same_kept = λ told. q.same_kept told ∙ p.same_kept told;
    true_books = λ told right. q.true_books told (p.true_books told right);
    shut = λ shut. ((q.shut (p.shut shut).0).0, (q.shut (p.shut shut).0).1 ∙ (p.shut shut).1);
    moments = λ told right small working. moments_join a b c x y z k m n p q told right small working y.shut refl;
    later = (let one = p.later in let two = q.later in omega arith);
    begun = (let one = p.begun in let two = q.begun in omega arith);
    written = (let one = p.written in let two = q.written in omega arith);
    few = (let one = p.few in let two = q.few in omega arith);
    counts = CountsOn-then (disks.clock a) (disks.clock b) (disks.clock c) x.begun y.begun z.begun p.counts q.counts;
  }
