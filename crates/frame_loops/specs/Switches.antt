-- The choice of a `switch` (Tcl 8.4, switch(n)).
use Rattle.std.specs.Prelude.{ℕ, ◌+◌, List, [], ◌∷◌, drop, Option, Some, None, Result, Ok, Err}
use Rattle.std.specs.Prelude.{Bool, if◌then◌else◌}
use Rattle.px_bytes.specs.declared.fault.TclFault.{TclFault}
use Rattle.tcl_trees.specs.Tree.{Tree}
use Rattle.rule_model.specs.Children.{is_next}
use Rattle.rule_model.specs.Control.{hit_of}
use Rattle.rule_model.specs.declared.code.Code.TheVariants.{Value, Raised}
use Rattle.frame_loops.specs.Branches.{within}
use Rattle.frames.specs.Moves.{stop}
use Rattle.frames.specs.Reads.{Known}
use Rattle.frames.specs.declared.next.Next.{Next}

-- the first body, of which the first here is the child of this number: `-` means the next one
abbrev pub first_within : Known → (place : ℕ) → List Tree → (wanted : Bool) → Next
first_within k place [] wanted = stop (Value [])
first_within k place (b ∷ bs) wanted =
    if is_next b then first_within k (place + 1) bs wanted else within k b place wanted

-- the bodies stand behind so many words
abbrev pub chosen_next : Known → (count : ℕ) → List Tree → (wanted : Bool)
    → Result (Option ℕ) TclFault → Next
chosen_next k count bodies wanted (Ok (Some n)) =
    first_within k (count + n) (drop n bodies) wanted
chosen_next k count bodies wanted (Ok None) = stop (Value [])
chosen_next k count bodies wanted (Err f) = stop (Raised f)

-- by the words behind the name of the command
abbrev pub switch_next : Known → (count front : ℕ) → List Tree → (wanted : Bool)
    → (words : List (List ℕ)) → Next
switch_next k count front bodies wanted words =
    chosen_next k count bodies wanted (hit_of front words)
