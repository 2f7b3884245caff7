-- How a stop's image is made from the calls.
use Rattle.std.proofs.Common.{◌≡◌, ◌<◌, inl, inr, ℕ, zero, suc, ◌+◌, false, List, [], ◌∷◌, ◌++◌, length, take, drop, get_or, set, replicate, fold, All, refl, sym, ap, subst, ◌∙◌, arith, length-append, take-append-drop}
use Rattle.std.proofs.lemmas.Bool.{cases_eq}
use Rattle.std.proofs.lemmas.List.{length-set, length-replicate, get_or-set_same, get_or-set_other, get_or-replicate, take_all, take_more, length-take-le, drop_all, take-append-le, drop-append-le}
use Rattle.std.proofs.lemmas.List.Elements.{All-nil, All-push, All-head, All-tail, All-take, All-drop}
use Rattle.std.proofs.lemmas.List.Sums.{fold_push, fold-append}
use Rattle.edge_disk.specs.Image.{Image, IsBlock, IsImage, block_at}
use Rattle.edge_disk.specs.Kept.{Standing, settled, after, standing, MayLeave, AreSound, IsSound, IsTorn, EndsWithSync, filled, is_sync, shown}
use Rattle.edge_disk.specs.KeptLaws.{HasLength, HasLength-after}
use Rattle.edge_disk.specs.declared.calls.Call.{Call}
use Rattle.edge_disk.specs.declared.calls.Call.TheVariants.{Write, FailedWrite, Sync, FailedSync}
use Rattle.edge_disk.specs.declared.calls.Torn.{Torn}
use Rattle.edge_disk.specs.declared.calls.Torn.TheVariants.{Old, New, Fill}
use Rattle.edge_disk.proofs.KeptCalls.{Contains-cons_cases, Contains-head, Contains-none, Contains-tail, IsImage-set, MayLeave-after, reading-after}

-- a sync behind the calls
pub EndsWithSync-sync : (front : List Call) → EndsWithSync (front ++ Sync ∷ []) (length front + 1)
EndsWithSync-sync front =
    let len : length (front ++ Sync ∷ []) ≡ length front + 1 = length-append front (Sync ∷ []) in
    record {
      within = omega (arith, len);
      none_after = subst (λ (l : List Call). All (λ (call : Call). is_sync call ≡ false) l) (sym (drop_all (length front + 1) (front ++ Sync ∷ []) (omega (arith, len)))) (All-nil (λ (call : Call). is_sync call ≡ false));
      last = inr (front, take_all (length front + 1) (front ++ Sync ∷ []) (omega (arith, len)));
    }

is_sync-other : (call : Call) → (call ≡ Sync → ⊥) → is_sync call ≡ false
is_sync-other (Write at block) other = refl
is_sync-other (FailedWrite at) other = refl
is_sync-other Sync other = absurd (other refl)
is_sync-other FailedSync other = refl

-- the next of the calls is a sync
pub EndsWithSync-more_sync : (calls : List Call) (i : ℕ) (d : Call) → i < length calls → get_or calls i d ≡ Sync → EndsWithSync (take (i + 1) calls) (i + 1)
EndsWithSync-more_sync calls i d lt is =
    let front : length (take i calls) ≡ i = length-take-le i calls (omega arith) in
    let split : take (i + 1) calls ≡ take i calls ++ Sync ∷ [] = take_more calls i d lt ∙ ap (λ (call : Call). take i calls ++ call ∷ []) is in
    subst (λ (l : List Call). EndsWithSync l (i + 1)) (sym split) (subst (λ (n : ℕ). EndsWithSync (take i calls ++ Sync ∷ []) (n + 1)) front (EndsWithSync-sync (take i calls)))

-- another call behind them
pub EndsWithSync-other : (calls : List Call) (call : Call) (end : ℕ) → is_sync call ≡ false → EndsWithSync calls end → EndsWithSync (calls ++ call ∷ []) end
EndsWithSync-other calls call end other ends = record {
  within = omega (arith, length-append calls (call ∷ []), ends.within);
  none_after = subst (λ (l : List Call). All (λ (k : Call). is_sync k ≡ false) l) (sym (drop-append-le end calls (call ∷ []) ends.within)) (All-push (λ (k : Call). is_sync k ≡ false) (drop end calls) call ends.none_after other);
  last = elim ends.last [
    | inl none ↦ inl none
    | inr synced ↦ inr (synced.0, take-append-le end calls (call ∷ []) ends.within ∙ synced.1)
  ];
}

-- the next of the calls is none
pub EndsWithSync-more_other : (calls : List Call) (i end : ℕ) (d : Call) → i < length calls → (get_or calls i d ≡ Sync → ⊥) → EndsWithSync (take i calls) end
    → EndsWithSync (take (i + 1) calls) end
EndsWithSync-more_other calls i end d lt other ends =
    subst (λ (l : List Call). EndsWithSync l end) (sym (take_more calls i d lt)) (EndsWithSync-other (take i calls) (get_or calls i d) end (is_sync-other (get_or calls i d) other) ends)

-- what is read shows the calls
pub reading-fold : (s : Standing) (calls : List Call) → (fold after s calls).reading ≡ fold shown s.reading calls
reading-fold s [] = refl
reading-fold s (call ∷ calls) = reading-fold (after s call) calls ∙ ap (λ (image : Image). fold shown image calls) (reading-after s call)

stable-after : (s : Standing) (call : Call) → is_sync call ≡ false → (after s call).stable ≡ s.stable
stable-after s (Write at block) other = refl
stable-after s (FailedWrite at) other = refl
stable-after s Sync other = cc
stable-after s FailedSync other = refl

-- without a sync nothing gets stable
pub stable-fold : (s : Standing) (calls : List Call) → All (λ (call : Call). is_sync call ≡ false) calls → (fold after s calls).stable ≡ s.stable
stable-fold s [] none = refl
stable-fold s (call ∷ calls) none =
    stable-fold (after s call) calls (All-tail (λ (k : Call). is_sync k ≡ false) call calls none) ∙ stable-after s call (All-head (λ (k : Call). is_sync k ≡ false) call calls none)

-- up to its last sync the disk has nothing pending
pub standing-synced : (first : Image) (calls : List Call) (end : ℕ) → EndsWithSync calls end
    → standing first (take end calls) ≡ settled (fold shown first (take end calls))
standing-synced first calls end ends = elim ends.last [
  | inl none ↦ ap (λ (n : ℕ). standing first (take n calls)) none ∙ ap (λ (n : ℕ). settled (fold shown first (take n calls))) (sym none)
  | inr synced ↦
      let front : List Call = synced.0 in
      let s : Standing = standing first front in
      ap (standing first) synced.1
      ∙ fold_push after (settled first) front Sync
      ∙ ap settled (reading-fold (settled first) front ∙ sym (fold_push shown first front Sync))
      ∙ ap (λ (l : List Call). settled (fold shown first l)) (sym synced.1)
]

-- the rest of the calls go on from there
pub standing-since : (first : Image) (calls : List Call) (end : ℕ) → EndsWithSync calls end
    → standing first calls ≡ fold after (settled (fold shown first (take end calls))) (drop end calls)
standing-since first calls end ends =
    ap (standing first) (sym (take-append-drop end calls))
    ∙ fold-append after (settled first) (take end calls) (drop end calls)
    ∙ ap (λ (s : Standing). fold after s (drop end calls)) (standing-synced first calls end ends)

-- a stop may leave what is read, after calls too
MayLeave-fold : (count : ℕ) (s : Standing) (calls : List Call) → HasLength count s → AreSound count calls → MayLeave s s.reading
    → MayLeave (fold after s calls) (fold after s calls).reading
MayLeave-fold count s [] has sound may = may
MayLeave-fold count s (call ∷ calls) has sound may =
    let this : IsSound (length s.stable) call = subst (λ (n : ℕ). IsSound n call) (sym has.stable) (All-head (λ (k : Call). IsSound count k) call calls sound) in
    MayLeave-fold count (after s call) calls (HasLength-after count s call has) (All-tail (λ (k : Call). IsSound count k) call calls sound) (MayLeave-after s call this may)

-- a pending block filled, and no other
IsTorn-fill : (byte : ℕ) (s : Standing) (reading c : Image) (at : ℕ) → at < length s.stable → IsTorn (Fill byte) s c
    → IsTorn (Fill byte) (record { stable = s.stable; reading = reading; pending = at ∷ s.pending }) (set c at (replicate 1024 byte))
IsTorn-fill byte s reading c at lt torn =
    let block : List ℕ = replicate 1024 byte in
    let within : at < length c = omega (arith, torn.len) in
    record {
      len = length-set c at block ∙ torn.len;
      pending = λ n inside. elim (cases_eq n at) [
        | inl here ↦ ap (λ (k : ℕ). get_or (set c at block) k []) here ∙ get_or-set_same c at block [] within
        | inr other ↦
            get_or-set_other c at n block [] other
            ∙ elim (Contains-cons_cases at s.pending n inside) [ inl here ↦ absurd (other here) | inr old ↦ torn.pending n old ]
      ];
      others = λ n out.
          get_or-set_other c at n block [] (λ here. out (Contains-head at s.pending n here))
          ∙ torn.others n (λ inside. out (Contains-tail at s.pending n inside));
    }

IsTorn-fill_after : (byte : ℕ) (s : Standing) (c : Image) (call : Call) → is_sync call ≡ false → IsSound (length s.stable) call
    → IsTorn (Fill byte) s c → IsTorn (Fill byte) (after s call) (filled byte c call)
IsTorn-fill_after byte s c (Write at block) other sound torn = IsTorn-fill byte s (set s.reading at block) c at sound.0 torn
IsTorn-fill_after byte s c (FailedWrite at) other sound torn = IsTorn-fill byte s s.reading c at sound torn
IsTorn-fill_after byte s c Sync other sound torn = cc
IsTorn-fill_after byte s c FailedSync other sound torn = torn

IsTorn-fill_fold : (byte count : ℕ) (s : Standing) (c : Image) (calls : List Call) → HasLength count s
    → All (λ (call : Call). is_sync call ≡ false) calls → AreSound count calls → IsTorn (Fill byte) s c
    → IsTorn (Fill byte) (fold after s calls) (fold (filled byte) c calls)
IsTorn-fill_fold byte count s c [] has none sound torn = torn
IsTorn-fill_fold byte count s c (call ∷ calls) has none sound torn =
    let this : IsSound (length s.stable) call = subst (λ (n : ℕ). IsSound n call) (sym has.stable) (All-head (λ (k : Call). IsSound count k) call calls sound) in
    IsTorn-fill_fold
    byte
    count
    (after s call)
    (filled byte c call)
    calls
    (HasLength-after count s call has)
    (All-tail (λ (k : Call). is_sync k ≡ false) call calls none)
    (All-tail (λ (k : Call). IsSound count k) call calls sound)
    (IsTorn-fill_after byte s c call (All-head (λ (k : Call). is_sync k ≡ false) call calls none) this torn)

-- a byte all over a block
pub IsBlock-replicate : (byte : ℕ) → byte < 256 → IsBlock (replicate 1024 byte)
IsBlock-replicate byte fits = record { len = length-replicate 1024 byte; byte = low 1024 }
  where
    low : (n i : ℕ) → get_or (replicate n byte) i 0 < 256
    low zero i = omega arith
    low (suc n) zero = fits
    low (suc n) (suc i) = low n i

-- such blocks
pub IsImage-replicate : (count byte : ℕ) → byte < 256 → IsImage count (replicate count (replicate 1024 byte))
IsImage-replicate count byte fits = record {
  len = length-replicate count (replicate 1024 byte);
  block = λ n lt. subst IsBlock (sym (get_or-replicate count n (replicate 1024 byte) [] lt)) (IsBlock-replicate byte fits);
}

IsImage-shown : (count : ℕ) (image : Image) (call : Call) → IsSound count call → IsImage count image → IsImage count (shown image call)
IsImage-shown count image (Write at block) sound whole = IsImage-set count image at block whole sound.0 sound.1
IsImage-shown count image (FailedWrite at) sound whole = whole
IsImage-shown count image Sync sound whole = whole
IsImage-shown count image FailedSync sound whole = whole

-- calls that show leave whole blocks
pub IsImage-shown_fold : (count : ℕ) (image : Image) (calls : List Call) → AreSound count calls → IsImage count image → IsImage count (fold shown image calls)
IsImage-shown_fold count image [] sound whole = whole
IsImage-shown_fold count image (call ∷ calls) sound whole =
    IsImage-shown_fold
    count
    (shown image call)
    calls
    (All-tail (λ (k : Call). IsSound count k) call calls sound)
    (IsImage-shown count image call (All-head (λ (k : Call). IsSound count k) call calls sound) whole)

IsImage-filled : (count byte : ℕ) (image : Image) (call : Call) → byte < 256 → IsSound count call → IsImage count image → IsImage count (filled byte image call)
IsImage-filled count byte image (Write at block) fits sound whole = IsImage-set count image at (replicate 1024 byte) whole sound.0 (IsBlock-replicate byte fits)
IsImage-filled count byte image (FailedWrite at) fits sound whole = IsImage-set count image at (replicate 1024 byte) whole sound (IsBlock-replicate byte fits)
IsImage-filled count byte image Sync fits sound whole = whole
IsImage-filled count byte image FailedSync fits sound whole = whole

-- so do blocks that are filled
pub IsImage-filled_fold : (count byte : ℕ) (image : Image) (calls : List Call) → byte < 256 → AreSound count calls → IsImage count image
    → IsImage count (fold (filled byte) image calls)
IsImage-filled_fold count byte image [] fits sound whole = whole
IsImage-filled_fold count byte image (call ∷ calls) fits sound whole =
    IsImage-filled_fold
    count
    byte
    (filled byte image call)
    calls
    fits
    (All-tail (λ (k : Call). IsSound count k) call calls sound)
    (IsImage-filled count byte image call fits (All-head (λ (k : Call). IsSound count k) call calls sound) whole)

-- the three ways of a stop, from the blocks as the last sync left them
module _ (first : Image) (calls : List Call) (end : ℕ) (ends : EndsWithSync calls end) (whole : IsImage (length first) first) (sound : AreSound (length first) calls) where
  sound_since : AreSound (length first) (drop end calls)
  sound_since = All-drop (λ (k : Call). IsSound (length first) k) end calls sound

  pub whole_stable : IsImage (length first) (fold shown first (take end calls))
  whole_stable = IsImage-shown_fold (length first) first (take end calls) (All-take (λ (k : Call). IsSound (length first) k) end calls sound) whole

  has : HasLength (length first) (settled (fold shown first (take end calls)))
  has = record { stable = whole_stable.len; reading = whole_stable.len }

  pub IsTorn-old : IsTorn Old (standing first calls) (fold shown first (take end calls))
  IsTorn-old =
      let same : (standing first calls).stable ≡ fold shown first (take end calls) =
      ap (λ (s : Standing). s.stable) (standing-since first calls end ends) ∙ stable-fold (settled (fold shown first (take end calls))) (drop end calls) ends.none_after in
      record {
        len = ap length (sym same);
        pending = λ n inside. ap (λ (image : Image). block_at image n) (sym same);
        others = λ n out. ap (λ (image : Image). block_at image n) (sym same);
      }

  pub IsTorn-new : IsTorn New (standing first calls) (fold shown (fold shown first (take end calls)) (drop end calls))
  IsTorn-new =
      let stable : Image = fold shown first (take end calls) in
      let s : Standing = fold after (settled stable) (drop end calls) in
      let may : MayLeave s s.reading =
      MayLeave-fold (length first) (settled stable) (drop end calls) has sound_since (record {
        whole = subst (λ (n : ℕ). IsImage n stable) (sym whole_stable.len) whole_stable;
        same = record { len = refl; same = λ n out. refl };
      }) in
      let torn : IsTorn New s s.reading = record { len = may.same.len; pending = λ n inside. refl; others = may.same.same } in
      subst (λ (t : Standing). IsTorn New t (fold shown stable (drop end calls))) (sym (standing-since first calls end ends)) (subst (IsTorn New s) (reading-fold (settled stable) (drop end calls)) torn)

  pub IsTorn-filled : (byte : ℕ) → IsTorn (Fill byte) (standing first calls) (fold (filled byte) (fold shown first (take end calls)) (drop end calls))
  IsTorn-filled byte =
      let stable : Image = fold shown first (take end calls) in
      let nothing : IsTorn (Fill byte) (settled stable) stable = record { len = refl; pending = λ n inside. absurd (Contains-none n inside); others = λ n out. refl } in
      subst (λ (t : Standing). IsTorn (Fill byte) t (fold (filled byte) stable (drop end calls))) (sym (standing-since first calls end ends)) (IsTorn-fill_fold byte (length first) (settled stable) stable (drop end calls) has ends.none_after sound_since nothing)

  -- the calls since then fit the blocks
  pub sound-since : (blocks : Image) (since : List Call) → blocks ≡ fold shown first (take end calls) → since ≡ drop end calls → AreSound (length blocks) since
  sound-since blocks since made are =
      let len : length first ≡ length blocks = sym (ap length made ∙ whole_stable.len) in
      subst (λ (n : ℕ). AreSound n since) len (subst (AreSound (length first)) (sym are) sound_since)

  -- what each way leaves, and that the blocks are whole
  pub left-old : (torn : Torn) (blocks : Image) → torn ≡ Old → blocks ≡ fold shown first (take end calls)
      → IsTorn torn (standing first calls) blocks × IsImage (length first) blocks
  left-old torn blocks is made = (
    subst (λ (t : Torn). IsTorn t (standing first calls) blocks) (sym is) (subst (IsTorn Old (standing first calls)) (sym made) IsTorn-old),
    subst (IsImage (length first)) (sym made) whole_stable,
  )

  pub left-new : (torn : Torn) (blocks : Image) → torn ≡ New → blocks ≡ fold shown (fold shown first (take end calls)) (drop end calls)
      → IsTorn torn (standing first calls) blocks × IsImage (length first) blocks
  left-new torn blocks is made = (
    subst (λ (t : Torn). IsTorn t (standing first calls) blocks) (sym is) (subst (IsTorn New (standing first calls)) (sym made) IsTorn-new),
    subst (IsImage (length first)) (sym made) (IsImage-shown_fold (length first) (fold shown first (take end calls)) (drop end calls) sound_since whole_stable),
  )

  pub left-filled : (torn : Torn) (byte : ℕ) (stable blocks : Image) → torn ≡ Fill byte → stable ≡ fold shown first (take end calls)
      → blocks ≡ fold (filled byte) stable (drop end calls) → (IsImage (length stable) stable → IsImage (length stable) blocks)
      → IsTorn torn (standing first calls) blocks × IsImage (length first) blocks
  left-filled torn byte stable blocks is made filled_so whole_so =
      let stable_whole : IsImage (length first) stable = subst (IsImage (length first)) (sym made) whole_stable in
      let filled_is : blocks ≡ fold (filled byte) (fold shown first (take end calls)) (drop end calls) =
      filled_so ∙ ap (λ (image : Image). fold (filled byte) image (drop end calls)) made in (
        subst (λ (t : Torn). IsTorn t (standing first calls) blocks) (sym is) (subst (IsTorn (Fill byte) (standing first calls)) (sym filled_is) (IsTorn-filled byte)),
        subst (λ (n : ℕ). IsImage n blocks) stable_whole.len (whole_so (subst (λ (n : ℕ). IsImage n stable) (sym stable_whole.len) stable_whole)),
      )
