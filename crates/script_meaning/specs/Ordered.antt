-- Members of a table in the order of their keys' bytes.
use Rattle.std.specs.Prelude.{if◌then◌else◌}
use Rattle.script_types.specs.model_kernel.State.{Text}
use Rattle.toml.specs.Data.{Data, Members, no_members, member, is_before}

-- one more among those that are in order
abbrev pub placed : Text → Data → Members → Members
placed key d no_members = member key d no_members
placed key d (member name e ms) = if is_before key (member name e ms) then member key d (member name e ms) else member name e (placed key d ms)

abbrev pub in_order : Members → Members
in_order no_members = no_members
in_order (member key d ms) = placed key d (in_order ms)
