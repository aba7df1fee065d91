-- Bodies and whether they can be run, as it is known from outside.
use Rattle.std.proofs.Common.{◌≡◌, ℕ, List, [], ◌∷◌, refl, codes, true, false}
use Rattle.tcl_trees.specs.Tree.{Tree, plain, word, script, command, trees_of}
use Rattle.tcl_trees.specs.declared.node.Verb.{Verb}
use Rattle.tcl_trees.specs.declared.node.Verb.TheVariants.{Named, Computed}
use Rattle.proxy.specs.HostCommands.{is_built, is_built_name, is_host_name}

-- a word of this text
abbrev text : List ℕ → Tree
text bytes = word (trees_of (plain bytes ∷ []))

-- `NAME p`
abbrev call : Verb → List ℕ → Tree
call verb name = script (trees_of (command verb (trees_of (text name ∷ text (codes "p") ∷ [])) ∷ []))

record Rows : Type 0 where
  -- after p
  host : is_built false (call Named (codes "after")) ≡ true
  -- table p
  table : is_built false (call Named (codes "table")) ≡ true
  -- clock p
  clock : is_built false (call Named (codes "clock")) ≡ true
  -- TCP::collect p
  collect : is_built false (call Named (codes "TCP::collect")) ≡ true
  -- HTTP::uri p
  uri : is_built false (call Named (codes "HTTP::uri")) ≡ false
  -- pool p
  pool : is_built false (call Named (codes "pool")) ≡ true
  -- TCP::respond p
  respond : is_built false (call Named (codes "TCP::respond")) ≡ true
  -- active_members p
  members : is_built false (call Named (codes "active_members")) ≡ true
  -- string p
  pure : is_built false (call Named (codes "string")) ≡ true
  -- with HTTP its commands are there too
  asked : is_built true (call Named (codes "HTTP::uri")) ≡ true
  chosen : is_built true (call Named (codes "pool")) ≡ true
  gathered : is_built true (call Named (codes "HTTP::collect")) ≡ true
  logged : is_built true (call Named (codes "log")) ≡ true
  -- HTTP::ur\x69 p: a name with a backslash is a name when the command runs
  backslash : is_built false (call Computed (codes "HTTP::uri")) ≡ true

rows : Rows
unfolding is_host_name is_built_name
rows = record { host = refl; table = refl; clock = refl; collect = refl; uri = refl; pool = refl; respond = refl; members = refl; pure = refl; asked = refl; chosen = refl; gathered = refl; logged = refl; backslash = refl }
