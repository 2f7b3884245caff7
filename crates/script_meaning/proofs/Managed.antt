-- The managers that a source means are allowed ones.
use Rattle.std.proofs.Common.{◌≡◌, ℕ, pos, false, not, ◌==◌, if◌then◌else◌, List, [], ◌∷◌, ◌++◌, length, Ok, All, codes, refl, ◌∙◌, subst}
use Rattle.std.specs.List.{list_all}
use Rattle.std.proofs.lemmas.List.Elements.{All-nil, All-push}
use Rattle.std.proofs.lemmas.List.Sums.{AllPass-from_list_all}
use Rattle.base_types.specs.declared.instructions.Instr.{Instr}
use Rattle.script_types.specs.model_kernel.State.{Text}
use Rattle.base_managers.specs.Managing.{ManagerTable, ManagerTables, has_number, is_managing, AreDifferent, IsManagerCode, IsManagerTable, AreManagerTables, AreScriptManagers}
use Rattle.toml.specs.Data.{Data, Members}
use Rattle.script_meaning.specs.Reading.{◌>>=◌, refused, or_refused}
use Rattle.script_meaning.specs.Strings.{ManagerForm, manager_form}
use Rattle.script_meaning.specs.Fields.{a_string, in_range, item_key}
use Rattle.script_meaning.specs.Meaning.{Program, code_named, managing_code, new_manager, formed_manager, a_manager, managers_at, both_kinds}
use Rattle.script_types.specs.declared.refusals.Why.TheVariants.{Unknown, BadCode, Clash}
use Rattle.script_meaning.proofs.Allowed.{Sound, eq_sym, named_ok}
use Rattle.script_meaning.proofs.Lists.{any_of_append}
use Rattle.script_meaning.proofs.Readings.{then_ok, or_ok, same_ok, test_ok, in_range_ok, list_keeps}
use Rattle.std.proofs.lemmas.Bool.{not-true, or_parts}

-- one more manager, with a number of its own
different_more : (ms : List ManagerTable) (m : ManagerTable) → AreDifferent ms → has_number ms m.number ≡ false → AreDifferent (ms ++ m ∷ [])
different_more [] m h new = (refl, tt)
different_more (x ∷ ms) m h new =
    let (apart, rest) = or_parts (x.number == m.number) (has_number ms m.number) new in
    let last : has_number (ms ++ m ∷ []) x.number ≡ false = any_of_append (λ (y : ManagerTable). y.number == x.number) ms (m ∷ []) ∙ rw (h.0, eq_sym m.number x.number, apart) in
    (last, different_more ms m h.1 rest)

managing_ok : (programs : List Program) (at name : Text) (code : List Instr) → All Sound programs → managing_code programs at name ≡ Ok code → IsManagerCode code
managing_ok programs at name code all h =
    let p = then_ok (or_refused Unknown at (code_named name programs)) (λ code. if list_all is_managing code then Ok code else refused BadCode at) code h in
    let t = test_ok (list_all is_managing p.0) p.0 code BadCode at p.2 in
    let sound = named_ok name programs p.0 all (or_ok Unknown at (code_named name programs) p.0 p.1) in
    let good : IsManagerCode p.0 = record { few = sound.few; each = sound.each; managing = AllPass-from_list_all is_managing p.0 t.0 } in
    subst IsManagerCode t.1 good

-- allowed, and its number is new
abbrev IsNew : ℕ → List ManagerTable → ManagerTable → Type 0
IsNew greatest done m = IsManagerTable greatest m × (has_number done m.number ≡ false)

formed_ok : (greatest : ℕ) (programs : List Program) (at : Text) (done : List ManagerTable) (m : ManagerForm) (x : ManagerTable) → All Sound programs → formed_manager greatest programs at done m ≡ Ok x → IsNew greatest done x
formed_ok greatest programs at done m x all h =
    let p = then_ok (in_range 1 greatest at (pos m.number)) (λ number. managing_code programs at m.program >>= new_manager done at number) x h in
    let q = then_ok (managing_code programs at m.program) (new_manager done at p.0) x p.2 in
    let made : ManagerTable = record { number = p.0; code = q.0 } in
    let t = test_ok (not (has_number done p.0)) made x Clash at q.2 in
    let good : IsManagerTable greatest made = record { number = in_range_ok 1 greatest at (pos m.number) p.0 p.1; code = managing_ok programs at m.program q.0 all q.1 } in
    subst (IsNew greatest done) t.1 (good, not-true (has_number done p.0) t.0)

manager_ok : (greatest : ℕ) (programs : List Program) (key : Text) (done : List ManagerTable) (d : Data) (x : ManagerTable) → All Sound programs → a_manager greatest programs key done d ≡ Ok x → IsNew greatest done x
manager_ok greatest programs key done d x all h =
    let at = item_key key (length done) in
    let p = then_ok (a_string at d) (λ text. or_refused BadCode at (manager_form text) >>= formed_manager greatest programs at done) x h in
    let q = then_ok (or_refused BadCode at (manager_form p.0)) (formed_manager greatest programs at done) x p.2 in
    formed_ok greatest programs at done q.0 x all q.2

kind_ok : (greatest : ℕ) (programs : List Program) (key : Text) (ms : Members) (xs : List ManagerTable) → All Sound programs → managers_at greatest programs key ms ≡ Ok xs → AreManagerTables greatest xs
kind_ok greatest programs key ms xs all h =
    let kept = list_keeps (λ done. All (IsManagerTable greatest) done × AreDifferent done) (a_manager greatest programs key)
    (λ done d x p is. let good = manager_ok greatest programs key done d x all is in (All-push (IsManagerTable greatest) done x p.0 good.0, different_more done x p.1 good.1))
    16 [] key ms xs (All-nil (IsManagerTable greatest), tt) h in
    record { few = kept.1; each = kept.0.0; different = kept.0.1 }

pub managers_ok : (programs : List Program) (ms : Members) (xs : ManagerTables) → All Sound programs → both_kinds programs ms ≡ Ok xs → AreScriptManagers xs
managers_ok programs ms xs all h =
    let made : List ManagerTable → List ManagerTable → ManagerTables = λ supply policy. record { supply = supply; policy = policy } in
    let a = then_ok (managers_at 9223372036854775807 programs (codes "supply") ms) (λ supply. managers_at 1000000 programs (codes "policy") ms >>= (λ policy. Ok (made supply policy))) xs h in
    let b = then_ok (managers_at 1000000 programs (codes "policy") ms) (λ policy. Ok (made a.0 policy)) xs a.2 in
    let good : AreScriptManagers (made a.0 b.0) = record {
      supply = kind_ok 9223372036854775807 programs (codes "supply") ms a.0 all a.1;
      policy = kind_ok 1000000 programs (codes "policy") ms b.0 all b.1;
    } in
    subst AreScriptManagers (same_ok (made a.0 b.0) xs b.2) good
