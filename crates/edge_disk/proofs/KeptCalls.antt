-- What a call does to a disk that keeps its writes and syncs.
use Rattle.std.proofs.Common.{◌≡◌, ◌≢◌, ◌<◌, ◌⊎◌, inl, inr, ℕ, zero, suc, List, [], ◌∷◌, length, get_or, set, Contains, refl, sym, ap, subst, ◌∙◌, arith}
use Rattle.std.proofs.lemmas.Bool.{cases_eq}
use Rattle.std.proofs.lemmas.List.{length-set, get_or-set_same, get_or-set_other, ext_get_or}
use Rattle.edge_disk.specs.Image.{Image, IsBlock, IsImage, SameOutside, block_at}
use Rattle.edge_disk.specs.Disk.{Only}
use Rattle.edge_disk.specs.Kept.{Standing, settled, after, MayLeave, IsSound, shown}
use Rattle.edge_disk.specs.declared.calls.Call.{Call}
use Rattle.edge_disk.specs.declared.calls.Call.TheVariants.{Write, FailedWrite, Sync, FailedSync}

pub Contains-cons_cases : (y : ℕ) (xs : List ℕ) (x : ℕ) → Contains (y ∷ xs) x → (x ≡ y) ⊎ Contains xs x
Contains-cons_cases y xs x (zero, lt, is) = inl (sym is)
Contains-cons_cases y xs x (suc k, lt, is) = inr (k, omega arith, is)

pub Contains-head : (y : ℕ) (xs : List ℕ) (x : ℕ) → x ≡ y → Contains (y ∷ xs) x
Contains-head y xs x is = (0, omega arith, sym is)

pub Contains-tail : (y : ℕ) (xs : List ℕ) (x : ℕ) → Contains xs x → Contains (y ∷ xs) x
Contains-tail y xs x (k, lt, is) = (suc k, omega arith, is)

pub Contains-none : (x : ℕ) → Contains [] x → ⊥
Contains-none x (k, lt, is) = omega arith

-- what is read shows each call
pub reading-after : (s : Standing) (call : Call) → (after s call).reading ≡ shown s.reading call
reading-after s (Write at block) = refl
reading-after s (FailedWrite at) = refl
reading-after s Sync = refl
reading-after s FailedSync = refl

-- whole blocks with a block written
pub IsImage-set : (count : ℕ) (image : Image) (at : ℕ) (block : List ℕ) → IsImage count image → at < count → IsBlock block → IsImage count (set image at block)
IsImage-set count image at block whole lt is_block = record {
  len = length-set image at block ∙ whole.len;
  block = λ n below. elim (cases_eq n at) [
    | inl here ↦
        let within : at < length image = omega (arith, whole.len) in
        let read : block_at (set image at block) n ≡ block = ap (λ (k : ℕ). get_or (set image at block) k []) here ∙ get_or-set_same image at block [] within in
        subst IsBlock (sym read) is_block
    | inr other ↦ subst IsBlock (sym (get_or-set_other image at n block [] other)) (whole.block n below)
  ];
}

-- the disk reads as a stop may leave it, after a call too
pub MayLeave-after : (s : Standing) (call : Call) → IsSound (length s.stable) call → MayLeave s s.reading → MayLeave (after s call) (after s call).reading
MayLeave-after s (Write at block) sound may = record {
  whole = IsImage-set (length s.stable) s.reading at block may.whole sound.0 sound.1;
  same = record {
    len = length-set s.reading at block ∙ may.same.len;
    same = λ n out.
        get_or-set_other s.reading at n block [] (λ here. out (Contains-head at s.pending n here))
        ∙ may.same.same n (λ inside. out (Contains-tail at s.pending n inside));
  };
}
MayLeave-after s (FailedWrite at) sound may = record {
  whole = may.whole;
  same = record { len = may.same.len; same = λ n out. may.same.same n (λ inside. out (Contains-tail at s.pending n inside)) };
}
MayLeave-after s Sync sound may = record {
  whole = subst (λ (n : ℕ). IsImage n s.reading) (sym may.same.len) may.whole;
  same = record { len = refl; same = λ n out. refl };
}
MayLeave-after s FailedSync sound may = may

-- a write makes its block pending and no other
pub MayLeave-write : (s : Standing) (reading : Image) (at : ℕ) → at < length s.stable → MayLeave s s.reading → (c : Image)
    → MayLeave (record { stable = s.stable; reading = reading; pending = at ∷ s.pending }) c
    → (d : Image) × MayLeave s d × SameOutside (λ n. n ≡ at) d c
MayLeave-write s reading at lt may c left =
    let old : List ℕ = block_at s.reading at in
    let d : Image = set c at old in
    let within : at < length c = omega (arith, left.whole.len) in
    let here : block_at d at ≡ old = get_or-set_same c at old [] within in
    let apart = λ (n : ℕ) (other : n ≢ at). get_or-set_other c at n old [] other in (
      d,
      record {
        whole = IsImage-set (length s.stable) c at old left.whole lt (may.whole.block at lt);
        same = record {
          len = length-set c at old ∙ left.same.len;
          same = λ n out. elim (cases_eq n at) [
            | inl is ↦
                ap (λ (k : ℕ). block_at d k) is ∙ here ∙ may.same.same at (λ inside. out (subst (Contains s.pending) (sym is) inside)) ∙ ap (λ (k : ℕ). block_at s.stable k) (sym is)
            | inr other ↦
                apart n other
                ∙ left.same.same n (λ inside. elim (Contains-cons_cases at s.pending n inside) [ inl is ↦ other is | inr old_one ↦ out old_one ])
          ];
        };
      },
      record { len = sym (length-set c at old); same = λ n other. sym (apart n other) },
    )

-- with nothing pending a stop leaves one image
pub Only-settled : (image : Image) → Only image (MayLeave (settled image))
Only-settled image c left = ext_get_or [] c image left.same.len (λ n below. left.same.same n (Contains-none n))
