-- Records of entities are the commits of a run.
use Rattle.std.proofs.Common.{◌≡◌, ℕ, zero, suc, ◌+◌, ◌<◌, ◌≤◌, Bool, true, false, nat_lt, if◌then◌else◌, List, [], ◌∷◌, ◌++◌, length, filter, refl, sym, ap, subst, ◌∙◌, slice_index, arith, add-one, append-nil, append_assoc, length-append}
use Rattle.std.proofs.lemmas.List.Elements.{filter-append}
use Rattle.std.proofs.lemmas.List.Sums.{count_by-le-length, length-filter}
use Rattle.base_types.specs.Edges.{upto}
use Rattle.plain_runs.proofs.model_sound_runs_lemmas.Counting.{AllLess, upto_less}
use Rattle.base_types.specs.declared.records.Rec.{Rec}
use Rattle.plain_runs.specs.model_kernel.Histories.{Run, commit_of, commits_of, has_changed, version_of}
use Rattle.data_cut_facts.specs.model_cut_laws.Records.{commit_of as rec_commit, commits_of as rec_commits}
use Rattle.trace_state.specs.Clocks.{clock_at}
use Rattle.trace_state.specs.declared.clocks.Clocks.{Clocks}
use Rattle.trace_step_facts.specs.Keeping.{HasClocks}
use Rattle.trace_step_facts.specs.Recording.{Appends, AreRecordsAt, IsRecordAt, is_changed}

pub record_same : (r : Run) (versions : List ℕ) (clocks : Clocks) (x : ℕ) (rec : Rec) → x < 64 → ((x : ℕ) → version_of r x ≡ slice_index versions x) → HasClocks r clocks → IsRecordAt (slice_index versions) (clock_at clocks) x rec → rec_commit rec ≡ commit_of r x
record_same r versions clocks x rec low same has is = λ i. record {
  entity = is.entity i;
  version = (is.version ∙ sym (same x)) i;
  stamp = λ y. (is.stamp y ∙ has.clocks x y low) i;
}

-- RECORDS OF ALL THAT HAS CHANGED

records_push : (vs : ℕ → ℕ) (clocks : ℕ → ℕ → ℕ) (xs : List ℕ) (recs : List Rec) (x : ℕ) (rec : Rec) → AreRecordsAt vs clocks xs recs → IsRecordAt vs clocks x rec → AreRecordsAt vs clocks (xs ++ x ∷ []) (recs ++ rec ∷ [])
records_push vs clocks [] [] x rec are is = (is, tt)
records_push vs clocks [] (r ∷ recs) x rec are is = absurd are
records_push vs clocks (y ∷ xs) [] x rec are is = absurd are
records_push vs clocks (y ∷ xs) (r ∷ recs) x rec are is = (are.0, records_push vs clocks xs recs x rec are.1 is)

-- the entities below n + 1 that pass
filter_push : (f : ℕ → Bool) (n : ℕ) (b : Bool) → f n ≡ b → filter f (upto (n + 1)) ≡ filter f (upto n) ++ (if b then n ∷ [] else [])
filter_push f n b is = ap (λ m. filter f (upto m)) (add-one n) ∙ filter-append f (upto n) (n ∷ []) ∙ ap (λ (c : Bool). filter f (upto n) ++ (if c then n ∷ [] else [])) is

module _ (newest versions : List ℕ) (clocks : ℕ → ℕ → ℕ) where
  pub appends_none : (old : List Rec) → Appends newest versions clocks 0 old old
  appends_none old = record { news = []; records = tt; list = sym (append-nil old) }

  pub appends_more : (n : ℕ) (old mid new : List Rec) (rec : Rec) → Appends newest versions clocks n old mid → is_changed newest versions n ≡ true → IsRecordAt (slice_index versions) clocks n rec → new ≡ mid ++ rec ∷ [] → Appends newest versions clocks (n + 1) old new
  appends_more n old mid new rec a changed is list = record {
    news = a.news ++ rec ∷ [];
    records = subst (λ xs. AreRecordsAt (slice_index versions) clocks xs (a.news ++ rec ∷ [])) (sym (filter_push (is_changed newest versions) n true changed)) (records_push (slice_index versions) clocks _ a.news n rec a.records is);
    list = list ∙ ap (λ (recs : List Rec). recs ++ rec ∷ []) a.list ∙ append_assoc old a.news (rec ∷ []);
  }

  pub appends_skip : (n : ℕ) (old mid : List Rec) → Appends newest versions clocks n old mid → is_changed newest versions n ≡ false → Appends newest versions clocks (n + 1) old mid
  appends_skip n old mid a same = record {
    news = a.news;
    records = subst (λ xs. AreRecordsAt (slice_index versions) clocks xs a.news) (sym (filter_push (is_changed newest versions) n false same ∙ append-nil _)) a.records;
    list = a.list;
  }

records_length : (vs : ℕ → ℕ) (clocks : ℕ → ℕ → ℕ) (xs : List ℕ) (recs : List Rec) → AreRecordsAt vs clocks xs recs → length recs ≡ length xs
records_length vs clocks [] [] are = refl
records_length vs clocks [] (r ∷ recs) are = absurd are
records_length vs clocks (x ∷ xs) [] are = absurd are
records_length vs clocks (x ∷ xs) (r ∷ recs) are = ap (λ n. suc n) (records_length vs clocks xs recs are.1)

length_upto : (n : ℕ) → length (upto n) ≡ n
length_upto zero = refl
length_upto (suc n) = length-append (upto n) (n ∷ []) ∙ ap (λ m. m + 1) (length_upto n) ∙ add-one n

pub few_new : (newest versions : List ℕ) (clocks : ℕ → ℕ → ℕ) (old new : List Rec) (a : Appends newest versions clocks 64 old new) → length a.news ≤ 64
few_new newest versions clocks old new a =
    let xs = filter (is_changed newest versions) (upto 64) in
    let n = records_length (slice_index versions) clocks xs a.news a.records in
    let m = length-filter (is_changed newest versions) (upto 64) in
    let k = count_by-le-length (is_changed newest versions) (upto 64) in
    let u = length_upto 64 in
    few (length a.news) (length xs) _ _ n m k u
  where
    few : (a b c d : ℕ) → a ≡ b → b ≡ c → c ≤ d → d ≡ 64 → a ≤ 64
    few a b c d e f g h = omega arith

pub filtered_less : (f : ℕ → Bool) (m : ℕ) (xs : List ℕ) → AllLess m xs → AllLess m (filter f xs)
filtered_less f m [] all = tt
filtered_less f m (x ∷ xs) all = elim (f x) as (λ b. AllLess m (if b then x ∷ filter f xs else filter f xs)) [
  | true ↦ (all.0, filtered_less f m xs all.1)
  | false ↦ filtered_less f m xs all.1
]

pub filter_same : (f g : ℕ → Bool) (m : ℕ) (xs : List ℕ) → AllLess m xs → ((x : ℕ) → x < m → f x ≡ g x) → filter f xs ≡ filter g xs
filter_same f g m [] all same = refl
filter_same f g m (x ∷ xs) all same = λ i. if same x all.0 i then x ∷ filter_same f g m xs all.1 same i else filter_same f g m xs all.1 same i

pub records_same : (r : Run) (versions : List ℕ) (clocks : Clocks) (xs : List ℕ) (recs : List Rec) → AllLess 64 xs → ((x : ℕ) → version_of r x ≡ slice_index versions x) → HasClocks r clocks → AreRecordsAt (slice_index versions) (clock_at clocks) xs recs
    → rec_commits recs ≡ commits_of r xs
records_same r versions clocks [] [] all same has are = refl
records_same r versions clocks [] (rec ∷ recs) all same has are = absurd are
records_same r versions clocks (x ∷ xs) [] all same has are = absurd are
records_same r versions clocks (x ∷ xs) (rec ∷ recs) all same has are = λ i. record_same r versions clocks x rec all.0 same has are.0 i ∷ records_same r versions clocks xs recs all.1 same has are.1 i

-- the new records are the commits of what has changed
pub changed_same : (r : Run) (newest versions : List ℕ) (clocks : Clocks) (old new : List Rec) (a : Appends newest versions (clock_at clocks) 64 old new) → ((x : ℕ) → version_of r x ≡ slice_index versions x) → ((x : ℕ) → x < 64 → r.newest x ≡ slice_index newest x) → HasClocks r clocks
    → rec_commits a.news ≡ commits_of r (filter (has_changed r) (upto 64))
changed_same r newest versions clocks old new a same low has =
    let less = upto_less 64 64 (omega arith) in
    records_same r versions clocks (filter (is_changed newest versions) (upto 64)) a.news (filtered_less (is_changed newest versions) 64 (upto 64) less) same has a.records
    ∙ ap (commits_of r) (sym (filter_same (has_changed r) (is_changed newest versions) 64 (upto 64) less (λ x h i. nat_lt (low x h i) (same x i))))
