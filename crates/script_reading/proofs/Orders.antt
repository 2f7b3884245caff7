-- A map hands out its entries in the order of its keys' bytes.
use Rattle.std.proofs.Common.{◌≡◌, true, if◌then◌else◌, List, [], ◌∷◌, refl, ap, ◌∙◌, string_bytes}
use Rattle.std.specs.List.Sorted.{IsStrictlySortedBy}
use Rattle.std.specs.Map.{keys_of}
use Rattle.std.specs.String.{string_cmp}
use Rattle.script_types.specs.model_kernel.State.{Text}
use Rattle.toml.specs.Data.{Data, Members, no_members, member, is_before}
use Rattle.toml.specs.View.{view, members_view}
use Rattle.toml.proofs.Views.{Entry, is_before-sorted}
use Rattle.script_meaning.specs.Ordered.{placed, in_order}

placed_first : (key : Text) (d : Data) (ms : Members) → is_before key ms ≡ true → placed key d ms ≡ member key d ms
placed_first key d no_members before = refl
placed_first key d (member name e ms) before = ap (λ b. if b then member key d (member name e ms) else member name e (placed key d ms)) before

pub sorted_in_order : (es : List Entry) → IsStrictlySortedBy string_cmp (keys_of es) → in_order (members_view es) ≡ members_view es
unfolding IsStrictlySortedBy
sorted_in_order [] sorted = refl
sorted_in_order (e ∷ es) sorted =
    ap (placed (string_bytes e.0) (view e.1)) (sorted_in_order es sorted.1) ∙ placed_first (string_bytes e.0) (view e.1) (members_view es) (is_before-sorted e.0 es sorted.0)
