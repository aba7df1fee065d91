-- Names of host commands.
use Rattle.std.proofs.Common.{◌≡◌, ◌≤◌, ℕ, List, [], ◌∷◌, length, Bool, true, false, ◌||◌, Option, Some, None, IsTrue, ◌↔◌, refl, sym, ap, find, arith}
use Rattle.std.specs.Prelude.{not}
use Rattle.std.specs.Option.{is_some}
use Rattle.std.specs.Str.{bytes_eq}
use Rattle.std.proofs.lemmas.Bool.{false≢true}
use Rattle.std.proofs.lemmas.List.Sums.{AllPass-from_list_all, list_all-from_AllPass}
use Rattle.event_order.proofs.ByName.{command_by_name}
use Rattle.event_order.specs.Command.{IsHostCommand, command_row, every_command}
use Rattle.event_order.specs.declared.command.HostCommand.{HostCommand}
use Rattle.proxy.specs.HostCommands.{NamesBuilt, is_built, is_built_name, is_host_name, may_all_stand, may_stand, names_in}
use Rattle.proxy.specs.HostCommands.{only_text}
use Rattle.tcl_trees.specs.Tree.{Tree, trees_of}
use Rattle.tcl_trees.specs.TreeView.{nodes_view}
use Rattle.tcl_trees.specs.declared.node.Node.{Node}

-- a word of several parts tells no name
pub several_parts : (http : Bool) (parts : List Node) → 2 ≤ length parts → may_all_stand http (only_text (trees_of (nodes_view parts))) ≡ true
several_parts http [] h = absurd (omega arith)
several_parts http (p ∷ []) h = absurd (omega arith)
several_parts http (p ∷ q ∷ parts) h = refl

-- a host command's name, as a test

something : (found : Option HostCommand) (name : List ℕ)
    → ((c : HostCommand) → (found ≡ Some c) ↔ (name ≡ (command_row c).name)) → is_some found ≡ true → IsHostCommand name
something None name each h = grind arith
something (Some c) name each h = (c, (each c).0 refl)

host_named : (name : List ℕ) → IsTrue (is_host_name name) ↔ IsHostCommand name
unfolding is_host_name
host_named name = (
  something (find (λ c. bytes_eq (command_row c).name name) every_command) name (command_by_name name),
  λ host. ap is_some ((command_by_name name host.0).1 host.1),
)

same_truth : (a b : Bool) (P : Type 0) → IsTrue a ↔ P → IsTrue b ↔ P → a ≡ b
same_truth true true P one other = refl
same_truth true false P one other = sym (other.1 (one.0 refl))
same_truth false true P one other = one.1 (other.0 refl)
same_truth false false P one other = refl

pub host_test : (name : List ℕ) (r : Bool) → IsTrue r ↔ IsHostCommand name → r ≡ is_host_name name
host_test name r is = same_truth r (is_host_name name) (IsHostCommand name) is (host_named name)

-- what may stand, name by name

only_if : (a b : Bool) (P Q : Type 0) → IsTrue a ↔ Q → IsTrue b ↔ P → IsTrue (a || not b) ↔ (P → Q)
only_if true b P Q one other = (λ h p. one.0 refl, λ f. refl)
only_if false true P Q one other = (λ h. absurd (false≢true h), λ f. one.1 (f (other.0 refl)))
only_if false false P Q one other = (λ h p. absurd (false≢true (other.1 p)), λ f. refl)

stands_if : (http : Bool) (name : List ℕ) → IsTrue (may_stand http name) ↔ (IsHostCommand name → IsTrue (is_built_name http name))
stands_if http name =
    only_if (is_built_name http name) (is_host_name name) (IsHostCommand name) (IsTrue (is_built_name http name))
    (λ h. h, λ h. h) (host_named name)

pub built_if : (http : Bool) (t : Tree) → IsTrue (is_built http t) ↔ NamesBuilt http t
built_if http t = (
  λ h k d there. (stands_if http _).0 (AllPass-from_list_all (may_stand http) (names_in t) h k d there),
  λ each. list_all-from_AllPass (may_stand http) (names_in t) (λ k d there. (stands_if http _).1 (each k d there)),
)
