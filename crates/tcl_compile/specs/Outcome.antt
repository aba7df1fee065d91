-- What `compile` gave, beside what the script is. Out of memory is free.
use Rattle.std.specs.Prelude.{◌≡◌, Result, Ok, Err, ⊤}
use Rattle.tcl_trees.specs.Tree.{Tree}
use Rattle.tcl_trees.specs.TreeView.{node_view}
use Rattle.tcl_compile.specs.declared.compile_fault.CompileFault.{CompileFault}
use Rattle.tcl_compile.specs.declared.compile_fault.CompileFault.TheVariants as fault
use Rattle.tcl_trees.specs.declared.flaw.Flaw.{Flaw}
use Rattle.tcl_trees.specs.declared.node.Node.{Node}

abbrev pub Gives : Result Node CompileFault → Result Tree Flaw → Type 0
Gives (Ok node) says = says ≡ Ok (node_view node)
Gives (Err (fault.Flaw f)) says = says ≡ Err f
Gives (Err fault.Memory) says = ⊤
