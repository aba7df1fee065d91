-- The host commands that a tree names.
use Rattle.std.specs.Prelude.{ℕ, List, [], ◌∷◌, ◌++◌, Bool, true, false, ◌&&◌, ◌||◌, not, find, is_some, IsTrue}
use Rattle.std.specs.Prelude.{Option, Some, None}
use Rattle.std.specs.List.{All, list_all}
use Rattle.std.specs.Str.{bytes_eq}
use Rattle.conn_trace.specs.Host.{is_there}
use Rattle.event_order.specs.Command.{IsHostCommand, command_row, every_command}
use Rattle.event_order.specs.declared.command.HostCommand.{HostCommand}
use Rattle.event_order.specs.declared.command.HostCommand.TheVariants as host
use Rattle.irule_net.specs.Checks.{command_of}
use Rattle.tcl_trees.specs.Tree.{Tree, plain, variable, element, word, script, command, expr}
use Rattle.tcl_trees.specs.Tree.{branches, loop, each, switch, catch, catch_in, next_body}
use Rattle.tcl_trees.specs.Tree.{prefixed, row, choice, Trees, no_trees, and_tree}
use Rattle.tcl_trees.specs.Tree.{Operands, no_operands, and_operand, Values, no_values, and_value}
use Rattle.tcl_trees.specs.declared.node.Verb.{Verb}
use Rattle.tcl_trees.specs.declared.node.Verb.TheVariants.{Named}

-- the text of a word of one plain part, and none for any other
abbrev pub plain_text : Tree → List (List ℕ)
plain_text (plain text) = text ∷ []
plain_text t = []

abbrev pub only_text : Trees → List (List ℕ)
only_text (and_tree t no_trees) = plain_text t
only_text ts = []

abbrev pub literal : Tree → List (List ℕ)
literal (word parts) = only_text parts
literal t = []

-- Tcl(n), Evaluation: "the first word is used to locate a command procedure"; the name of a command
-- that isn't a control command, where its first word stands literally
abbrev pub first_literal : Trees → List (List ℕ)
first_literal no_trees = []
first_literal (and_tree t ts) = literal t

abbrev pub name_of : Verb → Trees → List (List ℕ)
name_of Named words = first_literal words
name_of v words = []

-- the names of all commands in a tree, in brackets, bodies and expressions
-- too
abbrev mutual
  pub names_in : Tree → List (List ℕ)
  names_in (plain text) = []
  names_in (variable name) = []
  names_in (element name index) = names_in_all index
  names_in (word parts) = names_in_all parts
  names_in (script commands) = names_in_all commands
  names_in (command v words) = name_of v words ++ names_in_all words
  names_in (expr e) = names_in e
  names_in (branches values last) = names_in_values values ++ names_in last
  names_in (loop start test next body) =
      names_in start ++ (names_in test ++ (names_in next ++ names_in body))
  names_in (each words body) = names_in_all words ++ names_in body
  names_in (switch front words bodies) = names_in_all words ++ names_in_all bodies
  names_in (catch body) = names_in body
  names_in (catch_in body name) = names_in body ++ names_in name
  names_in next_body = []
  names_in (prefixed operators operand) = names_in operand
  names_in (row first behind) = names_in first ++ names_in_operands behind
  names_in (choice values last) = names_in_values values ++ names_in last

  pub names_in_all : Trees → List (List ℕ)
  names_in_all no_trees = []
  names_in_all (and_tree t ts) = names_in t ++ names_in_all ts

  pub names_in_operands : Operands → List (List ℕ)
  names_in_operands no_operands = []
  names_in_operands (and_operand joint t behind) = names_in t ++ names_in_operands behind

  pub names_in_values : Values → List (List ℕ)
  names_in_values no_values = []
  names_in_values (and_value condition t behind) =
      (names_in condition ++ names_in t) ++ names_in_values behind

-- a host command has this name
unfoldable pub is_host_name : List ℕ → Bool
is_host_name name = is_some (find (λ c. bytes_eq (command_row c).name name) every_command)

-- The commands that HTTP adds.
abbrev pub is_of_http : HostCommand → Bool
is_of_http host.HttpUri = true
is_of_http host.HttpPath = true
is_of_http host.HttpQuery = true
is_of_http host.HttpMethod = true
is_of_http host.HttpHost = true
is_of_http host.HttpRequestNum = true
is_of_http host.HttpVersion = true
is_of_http host.HttpHeader = true
is_of_http host.HttpCookie = true
is_of_http host.HttpStatus = true
is_of_http host.HttpCollect = true
is_of_http host.HttpPayload = true
is_of_http host.HttpRelease = true
is_of_http host.HttpClose = true
is_of_http host.HttpRespond = true
is_of_http host.HttpRedirect = true
is_of_http other = false

-- a connection has the command today, where it speaks HTTP or doesn't
abbrev pub serves : (http : Bool) → HostCommand → Bool
serves http c = is_there c || (http && is_of_http c)

abbrev pub serves_one : (http : Bool) → Option HostCommand → Bool
serves_one http None = false
serves_one http (Some c) = serves http c

-- it has the host command of this name
unfoldable pub is_built_name : (http : Bool) → List ℕ → Bool
is_built_name http name = serves_one http (command_of name)

-- a name may stand in a rule; one that nothing has is a fault when it runs
abbrev pub may_stand : (http : Bool) → List ℕ → Bool
may_stand http name = is_built_name http name || not (is_host_name name)

abbrev pub may_all_stand : (http : Bool) → List (List ℕ) → Bool
may_all_stand http names = list_all (may_stand http) names

-- each host command that the tree names can be run
abbrev pub is_built : (http : Bool) → Tree → Bool
is_built http t = may_all_stand http (names_in t)

-- the same, name by name
abbrev pub NamesBuilt : (http : Bool) → Tree → Type 0
NamesBuilt http t = All (λ name. IsHostCommand name → IsTrue (is_built_name http name)) (names_in t)
