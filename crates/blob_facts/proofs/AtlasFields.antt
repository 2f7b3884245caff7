-- The blob of an atlas, field by field.
use Rattle.std.proofs.Common.{◌≡◌, ◌≤◌, ℕ, zero, suc, ◌+◌, List, [], ◌∷◌, ◌++◌, length, refl, sym, ap, subst, ◌∙◌, arith, append_assoc}
use Rattle.std.proofs.lemmas.List.{append-nil, length-append}
use Rattle.std.specs.List.{flat_map}
use Rattle.act_atlas_laws.specs.base_types.Edges.{Edges}
use Rattle.act_atlas_laws.specs.base_types.declared.entities.Kind.TheVariants.{Atlas, Container, Locus}
use Rattle.blob_grammar.specs.model_kernel.State.{AtlasState}
use Rattle.act_atlas_laws.specs.data_atlas_facts.Directory.{Directory, IsDirectory}
use Rattle.act_atlas_laws.proofs.data_atlas_facts_lemmas.Naming.{born_container, born_locus, nothing_born}
use Rattle.blob_grammar.specs.Forms.{IsAtlasForm, IsSpelling, SpellsAtlas}
use Rattle.blob_grammar.specs.Spelling.{atlas_blob, counted_edges, edges_bytes, listed, text_bytes}
use Rattle.blob_facts.specs.Fields.{IsByteIn, IsFound, IsRefused, Spells, Then}
use Rattle.blob_facts.proofs.Bytes.{byte_tells}
use Rattle.blob_facts.proofs.Items.{items_tell}
use Rattle.blob_facts.proofs.Sequences.{TellsApart, chain, joined, refused_as, refused_here, refused_later}
use Rattle.blob_facts.specs.Edges.{AreEdgesSpelled}
use Rattle.blob_facts.specs.Names.{AreNamesSpelled, NameItem, with_next}
use Rattle.act_atlas_laws.proofs.AtlasNames.{both_apart, container_names, containers_apart, loci_apart, locus_names, name_from}
use Rattle.blob_facts.proofs.AtlasWalk.{so_far, walk_containers, walk_loci, with_loci}
use Rattle.blob_facts.proofs.EdgeLists.{some_edges_spelled}
use Rattle.blob_facts.proofs.NameFields.{name_tells}
use Rattle.blob_facts.proofs.NamesRead.{container_other, locus_other, some_names}

module _ (rows : List (List ℕ)) where
  -- WHAT FOLLOWS each field
  abbrev pub Behind4 : List ℕ → Type 0
  Behind4 = Spells AreEdgesSpelled

  abbrev pub Behind3 : List (List ℕ) → ℕ → List ℕ → Type 0
  Behind3 cs n = Then (AreNamesSpelled Locus n (with_loci rows cs [])) (λ _. Behind4)

  abbrev pub Behind2 : List (List ℕ) → List ℕ → Type 0
  Behind2 cs = Then (IsByteIn 0 23) (Behind3 cs)

  abbrev pub Behind1 : ℕ → List ℕ → Type 0
  Behind1 n = Then (AreNamesSpelled Container n (so_far rows [])) Behind2

  abbrev pub Behind0 : List ℕ → Type 0
  Behind0 = Then (IsByteIn 0 40) Behind1

  abbrev pub AllFields : List ℕ → Type 0
  AllFields = Then (IsByteIn 0 0) (λ _. Behind0)

  -- NAMES READ ONE BY ONE: the directory with them is one, and what they are as spelled
  record AreRead (after : Directory) (names : List (List ℕ)) (n : ℕ) (y : List ℕ) : Type 0 where
    ok : IsDirectory after
    len : length names ≡ n
    is : y ≡ flat_map text_bytes names

  container_items : (n : ℕ) (done cs : List (List ℕ)) (y : List ℕ) → IsDirectory (so_far rows done) → length done + n ≤ 40 → AreNamesSpelled Container n (so_far rows done) cs y → AreRead (so_far rows (done ++ cs)) cs n y
  container_items zero done [] y ok few h = record { ok = subst (λ (l : List (List ℕ)). IsDirectory (so_far rows l)) (sym (append-nil done)) ok; len = refl; is = h.1 }
  container_items zero done (c ∷ cs) y ok few h = absurd (let e = ap (λ (l : List (List ℕ)). length l) h.0 in omega (arith, e))
  container_items (suc n) done [] y ok few h = absurd h
  container_items (suc n) done (c ∷ cs) y ok few h =
      let item = h.2 in
      let born = born_container (so_far rows done) c (length done + 1) (done ++ c ∷ []) ok (record { form = item.form; none = item.new }) (omega (arith, few)) refl refl in
      let len = length-append done (c ∷ []) in
      let more = container_items n (done ++ c ∷ []) cs h.1 born (omega (arith, len, few)) h.3 in
      let count = more.len in
      record { ok = subst (λ (l : List (List ℕ)). IsDirectory (so_far rows l)) (append_assoc done (c ∷ []) cs) more.ok; len = omega (arith, count); is = joined h.4 item.is more.is }

  locus_items : (cs : List (List ℕ)) (n : ℕ) (done ls : List (List ℕ)) (y : List ℕ) → IsDirectory (with_loci rows cs done) → length done + n ≤ 23 → AreNamesSpelled Locus n (with_loci rows cs done) ls y → AreRead (with_loci rows cs (done ++ ls)) ls n y
  locus_items cs zero done [] y ok few h = record { ok = subst (λ (l : List (List ℕ)). IsDirectory (with_loci rows cs l)) (sym (append-nil done)) ok; len = refl; is = h.1 }
  locus_items cs zero done (l ∷ ls) y ok few h = absurd (let e = ap (λ (m : List (List ℕ)). length m) h.0 in omega (arith, e))
  locus_items cs (suc n) done [] y ok few h = absurd h
  locus_items cs (suc n) done (l ∷ ls) y ok few h =
      let item = h.2 in
      let born = born_locus (with_loci rows cs done) l (length done + 41) (done ++ l ∷ []) ok (record { form = item.form; none = item.new }) (omega (arith, few)) refl refl in
      let len = length-append done (l ∷ []) in
      let more = locus_items cs n (done ++ l ∷ []) ls h.1 born (omega (arith, len, few)) h.3 in
      let count = more.len in
      record { ok = subst (λ (m : List (List ℕ)). IsDirectory (with_loci rows cs m)) (append_assoc done (l ∷ []) ls) more.ok; len = omega (arith, count); is = joined h.4 item.is more.is }

  -- THERE IS SOMETHING to follow
  empty : IsDirectory (so_far rows [])
  empty = nothing_born [] [] rows refl refl

  some3 : (cs : List (List ℕ)) → IsDirectory (so_far rows cs) → (n : ℕ) → n ≤ 23 → (b : List ℕ) × Behind3 cs n b
  some3 cs ok n few =
      let first = some_names Locus locus_other n (with_loci rows cs []) ok (omega (arith, few)) in
      let on = some_edges_spelled in
      (first.0 ++ on.0, record { value = first.1.value; front = first.0; behind = on.0; spelled = first.1.spelled; followed = on.1; is = refl })

  some2 : (cs : List (List ℕ)) → IsDirectory (so_far rows cs) → (b : List ℕ) × Behind2 cs b
  some2 cs ok =
      let on = some3 cs ok 0 (omega arith) in
      (0 ∷ on.0, record { value = 0; front = 0 ∷ []; behind = on.0; spelled = record { low = omega arith; high = omega arith; is = refl }; followed = on.1; is = refl })

  some1 : (n : ℕ) → n ≤ 40 → (b : List ℕ) × Behind1 n b
  some1 n few =
      let first = some_names Container container_other n (so_far rows []) empty (omega (arith, few)) in
      let on = some2 first.1.value (container_items n [] first.1.value first.0 empty (omega (arith, few)) first.1.spelled).ok in
      (first.0 ++ on.0, record { value = first.1.value; front = first.0; behind = on.0; spelled = first.1.spelled; followed = on.1; is = refl })

  some0 : (b : List ℕ) × Behind0 b
  some0 =
      let on = some1 0 (omega arith) in
      (0 ∷ on.0, record { value = 0; front = 0 ∷ []; behind = on.0; spelled = record { low = omega arith; high = omega arith; is = refl }; followed = on.1; is = refl })

  -- THE ATLAS of these fields
  abbrev pub atlas_with : List (List ℕ) → List (List ℕ) → Edges → AtlasState
  atlas_with cs ls edges = record { containers = cs; loci = ls; edges = edges }

  form_of : (cs ls : List (List ℕ)) (edges : Edges) (y : List ℕ) → IsDirectory (with_loci rows cs ls) → AreEdgesSpelled edges y → IsAtlasForm (atlas_with cs ls edges)
  form_of cs ls edges y ok e =
      let d = with_loci rows cs ls in
      record {
        few_containers = ok.few_containers;
        few_loci = ok.few_loci;
        containers = container_names d ok;
        loci = locus_names d ok;
        different = record { containers = containers_apart d ok; loci = loci_apart d ok; both = both_apart d ok };
        edges = e.good;
      }

  atlas_in : (y : List ℕ) → AllFields y → IsSpelling Atlas y
  unfolding atlas_blob
  atlas_in y f0 =
      let f1 = f0.followed in
      let f2 = f1.followed in
      let f3 = f2.followed in
      let f4 = f3.followed in
      let f5 = f4.followed in
      let few1 = f1.spelled.high in
      let few3 = f3.spelled.high in
      let cs = container_items f1.value [] f2.value f2.front empty (omega (arith, few1)) f2.spelled in
      let ls = locus_items f2.value f3.value [] f4.value f4.front cs.ok (omega (arith, few3)) f4.spelled in
      let none : f0.value ≡ 0 = (let h = f0.spelled.high in omega (arith, h)) in (
        atlas_with f2.value f4.value f5.value,
        record {
          form = form_of f2.value f4.value f5.value f4.behind ls.ok f5.spelled;
          is =
              joined f0.is (f0.spelled.is ∙ (λ i. none i ∷ [])) (joined f1.is (f1.spelled.is ∙ (λ i. sym cs.len i ∷ [])) (joined f2.is cs.is (joined f3.is (f3.spelled.is ∙ (λ i. sym ls.len i ∷ [])) (joined f4.is ls.is f5.spelled.is))));
        },
      )

  fields_in : (y : List ℕ) → IsSpelling Atlas y → AllFields y
  unfolding atlas_blob
  fields_in y (a, s) =
      let f = s.form in
      let few1 = f.few_containers in
      let few3 = f.few_loci in
      let cs = walk_containers rows a.containers [] empty (omega (arith, few1)) (λ i t is. name_from 1 a.containers i t f.containers is) f.different.containers in
      let ls = walk_loci rows a.containers a.loci [] cs.1 (omega (arith, few3)) (λ i t is. name_from 41 a.loci i t f.loci is) f.different.loci f.different.both in
      record {
        value = 0;
        front = 0 ∷ [];
        behind = listed text_bytes a.containers ++ (listed text_bytes a.loci ++ edges_bytes (counted_edges a.edges));
        spelled = record { low = omega arith; high = omega arith; is = refl };
        followed = record {
          value = length a.containers;
          front = length a.containers ∷ [];
          behind = flat_map text_bytes a.containers ++ (listed text_bytes a.loci ++ edges_bytes (counted_edges a.edges));
          spelled = record { low = omega arith; high = few1; is = refl };
          followed = record {
            value = a.containers;
            front = flat_map text_bytes a.containers;
            behind = listed text_bytes a.loci ++ edges_bytes (counted_edges a.edges);
            spelled = cs.0;
            followed = record {
              value = length a.loci;
              front = length a.loci ∷ [];
              behind = flat_map text_bytes a.loci ++ edges_bytes (counted_edges a.edges);
              spelled = record { low = omega arith; high = few3; is = refl };
              followed = record {
                value = a.loci;
                front = flat_map text_bytes a.loci;
                behind = edges_bytes (counted_edges a.edges);
                spelled = ls.0;
                followed = record { value = a.edges; spelled = record { good = f.edges; is = refl } };
                is = refl;
              };
              is = refl;
            };
            is = refl;
          };
          is = refl;
        };
        is = s.is;
      }

  -- NAMES TELL what they are
  containers_tell : (n : ℕ) → TellsApart (AreNamesSpelled Container n (so_far rows []))
  containers_tell n = items_tell (NameItem Container) (with_next Container) (λ (s : Directory) m. name_tells s (length s.containers + 1)) n (so_far rows [])

  loci_tell : (cs : List (List ℕ)) (n : ℕ) → TellsApart (AreNamesSpelled Locus n (with_loci rows cs []))
  loci_tell cs n = items_tell (NameItem Locus) (with_next Locus) (λ (s : Directory) m. name_tells s (length s.loci + 41)) n (with_loci rows cs [])

  -- WHERE AN ATLAS'S BLOB IS REFUSED
  module _ (bytes b1 b2 b3 b4 b5 behind : List ℕ) (kind n m : ℕ) (cs ls : List (List ℕ)) where
    pub kind_refused : IsRefused (Spells (IsByteIn 0 0)) bytes behind → IsRefused (IsSpelling Atlas) bytes behind
    kind_refused r = refused_as atlas_in fields_in (refused_here (λ v a f. some0) r)

    pub count_refused : IsFound (IsByteIn 0 0) bytes kind b1 → IsRefused (Spells (IsByteIn 0 40)) b1 behind → IsRefused (IsSpelling Atlas) bytes behind
    count_refused f0 r = refused_as atlas_in fields_in (refused_later (byte_tells 0 0) f0 (refused_here (λ v a f. some1 v f.high) r))

    pub containers_refused : IsFound (IsByteIn 0 0) bytes kind b1 → IsFound (IsByteIn 0 40) b1 n b2 → IsRefused (Spells (AreNamesSpelled Container n (so_far rows []))) b2 behind
        → IsRefused (IsSpelling Atlas) bytes behind
    containers_refused f0 f1 r =
        let few = f1.spelled.high in
        refused_as atlas_in fields_in (refused_later (byte_tells 0 0) f0 (refused_later (byte_tells 0 40) f1
        (refused_here (λ v a f. some2 v (container_items n [] v a empty (omega (arith, few)) f).ok) r)))

    pub locus_count_refused : IsFound (IsByteIn 0 0) bytes kind b1 → IsFound (IsByteIn 0 40) b1 n b2 → IsFound (AreNamesSpelled Container n (so_far rows [])) b2 cs b3
        → IsRefused (Spells (IsByteIn 0 23)) b3 behind → IsRefused (IsSpelling Atlas) bytes behind
    locus_count_refused f0 f1 f2 r =
        let few = f1.spelled.high in
        let ok = (container_items n [] cs f2.front empty (omega (arith, few)) f2.spelled).ok in
        refused_as atlas_in fields_in (refused_later (byte_tells 0 0) f0 (refused_later (byte_tells 0 40) f1 (refused_later (containers_tell n) f2
        (refused_here (λ v a f. some3 cs ok v f.high) r))))

    pub loci_refused : IsFound (IsByteIn 0 0) bytes kind b1 → IsFound (IsByteIn 0 40) b1 n b2 → IsFound (AreNamesSpelled Container n (so_far rows [])) b2 cs b3 → IsFound (IsByteIn 0 23) b3 m b4
        → IsRefused (Spells (AreNamesSpelled Locus m (with_loci rows cs []))) b4 behind → IsRefused (IsSpelling Atlas) bytes behind
    loci_refused f0 f1 f2 f3 r =
        refused_as atlas_in fields_in (refused_later (byte_tells 0 0) f0 (refused_later (byte_tells 0 40) f1 (refused_later (containers_tell n) f2 (refused_later (byte_tells 0 23) f3
        (refused_here (λ v a f. some_edges_spelled) r)))))

    pub edges_refused : IsFound (IsByteIn 0 0) bytes kind b1 → IsFound (IsByteIn 0 40) b1 n b2 → IsFound (AreNamesSpelled Container n (so_far rows [])) b2 cs b3 → IsFound (IsByteIn 0 23) b3 m b4
        → IsFound (AreNamesSpelled Locus m (with_loci rows cs [])) b4 ls b5 → IsRefused (Spells AreEdgesSpelled) b5 behind → IsRefused (IsSpelling Atlas) bytes behind
    edges_refused f0 f1 f2 f3 f4 r =
        refused_as atlas_in fields_in (refused_later (byte_tells 0 0) f0 (refused_later (byte_tells 0 40) f1 (refused_later (containers_tell n) f2 (refused_later (byte_tells 0 23) f3
        (refused_later (loci_tell cs m) f4 r)))))

    pub atlas_found : (edges : Edges) → IsFound (IsByteIn 0 0) bytes kind b1 → IsFound (IsByteIn 0 40) b1 n b2 → IsFound (AreNamesSpelled Container n (so_far rows [])) b2 cs b3 → IsFound (IsByteIn 0 23) b3 m b4
        → IsFound (AreNamesSpelled Locus m (with_loci rows cs [])) b4 ls b5 → IsFound AreEdgesSpelled b5 edges behind → IsFound SpellsAtlas bytes (atlas_with cs ls edges) behind
    unfolding atlas_blob
    atlas_found edges f0 f1 f2 f3 f4 f5 =
        let few1 = f1.spelled.high in
        let few3 = f3.spelled.high in
        let c = container_items n [] cs f2.front empty (omega (arith, few1)) f2.spelled in
        let l = locus_items cs m [] ls f4.front c.ok (omega (arith, few3)) f4.spelled in
        let none : kind ≡ 0 = (let h = f0.spelled.high in omega (arith, h)) in
        let e = edges_bytes (counted_edges edges) in
        record {
          front = atlas_blob (atlas_with cs ls edges);
          spelled = record { form = form_of cs ls edges f5.front l.ok f5.spelled; is = refl };
          is =
              chain (listed text_bytes cs ++ (listed text_bytes ls ++ e)) behind f0.is (f0.spelled.is ∙ (λ i. none i ∷ []))
              (chain (flat_map text_bytes cs ++ (listed text_bytes ls ++ e)) behind f1.is (f1.spelled.is ∙ (λ i. sym c.len i ∷ []))
              (chain (listed text_bytes ls ++ e) behind f2.is c.is
              (chain (flat_map text_bytes ls ++ e) behind f3.is (f3.spelled.is ∙ (λ i. sym l.len i ∷ []))
              (chain e behind f4.is l.is (joined f5.is f5.spelled.is refl)))));
        }
