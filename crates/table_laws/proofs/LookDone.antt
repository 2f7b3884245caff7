-- What a look over lent cells leaves of the table.
use Rattle.std.proofs.Common.{◌≡◌, ℕ, Bool, List, [], ◌∷◌, Result, Ok, Err, IfOk, OnErr}
use Rattle.cell_steps.specs.base_types.declared.histories.Entry.{Entry}
use Rattle.cell_steps.specs.model_kernel.State.{Supply}
use Rattle.cell_steps.specs.page_store.declared.faults.PageFault.{PageFault}
use Rattle.cell_steps.specs.cell_states.declared.cells.Cell.{Cell}
use Rattle.cell_steps.specs.cell_states.Cells.{part_of}
use Rattle.cell_steps.specs.cell_looks.Looking.{LeavesMemory}
use Rattle.cell_steps.specs.Advances.{AdvancesSomehow, StepsCells}
use Rattle.table_laws.specs.Lending.{Lends}
use Rattle.table_laws.specs.Steps.{EntersStep, GoesOn, StaysAtFault}
use Rattle.table_laws.specs.Tables.{HasNews, IsOrderly, tables_in}
use Rattle.table_laws.proofs.Blocks.{ChangesTwo, LooksAt, news_after}
use Rattle.table_laws.proofs.Looked.{entered_look, fault_kind, left_kind, orderly_fault, orderly_look, same_fields}
use Rattle.table_laws.proofs.Told.{clean_told, goes_told, state_told}

-- what the call over both cells says
pub record LookSays {B : Type 0} (tells : Type 0) (s : Supply) (held kept : B → ℕ → Bool) (words : B → ℕ → List ℕ) (a b a' b' : Cell) (old new : B) (r : Result Entry PageFault) : Type 0 where
  pub step : tells → IfOk r (StepsCells s (words old) (words new) a.clock.entity (a ∷ b ∷ []) (a' ∷ b' ∷ []))
  pub somehow : IfOk r (AdvancesSomehow a a' b b')
  pub locus_stays : OnErr r (a' ≡ a)
  pub other_stays : OnErr r ((b'.clock ≡ b.clock) × (b'.wish ≡ b.wish) × (b'.left ≡ b.left))
  pub same_part : OnErr r (tells → part_of s (words new) b'.part ≡ part_of s (words old) b.part)
  pub memory : LeavesMemory s tells held kept words b.part b'.part old new

-- what it leaves of the table
pub record LookLeaves {B : Type 0} (tells : Type 0) (s : Supply) (held kept : B → ℕ → Bool) (words : B → ℕ → List ℕ) (me : ℕ) (cs cs' : List Cell) (old new : B) (r : Result Entry PageFault) : Type 0 where
  pub step : tells → IfOk r (GoesOn s (words old) (words new) me cs cs')
  pub orderly : IsOrderly (held new) cs'
  pub enters : IfOk r (EntersStep me cs cs')
  pub news : HasNews (kept old) (tables_in cs) (tables_in cs')
  pub faulted : OnErr r (StaysAtFault tells s (words old) (words new) cs cs')

module _ {B : Type 0} (tells : Type 0) (s : Supply) (held kept : B → ℕ → Bool) (words : B → ℕ → List ℕ) (old new : B) (cs cs' : List Cell) (me y : ℕ) (a b a' b' : Cell)
    (orderly : IsOrderly (held old) cs) (lends : Lends cs cs' (a ∷ b ∷ []) (a' ∷ b' ∷ [])) (memory : LeavesMemory s tells held kept words b.part b'.part old new) (two : ChangesTwo cs cs' me y a b a' b') where
  looks : LooksAt (held old) (held new) b b'
  looks = record { head = memory.head; before = memory.before; after = memory.after; was = memory.was; is = memory.is; of = memory.of; table = memory.table; stay = memory.others.held_stay; no_others = memory.others.no_others }

  pub look_leaves : (r : Result Entry PageFault) → LookSays tells s held kept words a b a' b' old new r → LookLeaves tells s held kept words me cs cs' old new r
  unfolding looks
  look_leaves (Ok e) says =
      let kind = left_kind (held old) (held new) cs cs' me y a b a' b' orderly two looks e says.somehow in
      record {
        step = λ told. goes_told (held old) (held new) cs cs' me y a b a' b' orderly two looks kind s (words old) (words new) (memory.others.held_words told) e (says.step told) lends (memory.clean told);
        orderly = orderly_look (held old) (held new) cs cs' me y a b a' b' orderly two looks e says.somehow;
        enters = entered_look (held old) (held new) cs cs' me y a b a' b' orderly two looks e says.somehow;
        news = news_after (held old) (held new) cs cs' me y a b a' b' orderly two looks kind (kept old) memory.others.news;
        faulted = tt;
      }
  look_leaves (Err f) says =
      let kind = fault_kind (held old) (held new) cs cs' me y a b a' b' orderly two looks says.locus_stays says.other_stays.0 says.other_stays.1 in
      record {
        step = λ told. tt;
        orderly = orderly_fault (held old) (held new) cs cs' me y a b a' b' orderly two looks says.locus_stays says.other_stays.0 says.other_stays.1;
        enters = tt;
        news = news_after (held old) (held new) cs cs' me y a b a' b' orderly two looks kind (kept old) memory.others.news;
        faulted = record {
          same = same_fields (held old) (held new) cs cs' me y a b a' b' orderly two looks says.locus_stays says.other_stays.0 says.other_stays.1 says.other_stays.2;
          state = λ told. state_told (held old) (held new) cs cs' me y a b a' b' orderly two looks kind s (words old) (words new) (memory.others.held_words told) says.locus_stays says.other_stays.0 (says.same_part told);
          clean = λ told. clean_told (held old) (held new) cs cs' me y a b a' b' orderly two looks kind s (words old) (words new) (memory.others.held_words told) (memory.clean told);
        };
      }
