-- How many words a command may have that evaluates them all: Tcl 8.4, the manual pages of the
-- commands.
use Rattle.std.specs.Prelude.{ℕ, List, ◌∷◌, length, codes, Bool, true, false, ◌&&◌, nat_le}
use Rattle.std.specs.Prelude.{if◌then◌else◌}
use Rattle.tcl_words.specs.Tree.{Word}
use Rattle.tcl_trees.specs.Texts.{is_text}
use Rattle.tcl_trees.specs.declared.node.Verb.{Verb}
use Rattle.tcl_trees.specs.declared.node.Verb.TheVariants as verb

-- the number of words, the name among them, lies between these
abbrev pub between : ℕ → ℕ → List Word → Bool
between low high words = nat_le low (length words) && nat_le (length words) high

abbrev pub at_least : ℕ → List Word → Bool
at_least low words = nat_le low (length words)

-- `-nocomplain` stands before the names
abbrev pub unset_names : List Word → Bool
unset_names (name ∷ w ∷ words) = if is_text (codes "-nocomplain") w then at_least 1 words else true
unset_names words = false

unfoldable pub fits : Verb → List Word → Bool
-- what they may have isn't known before they run
fits verb.Named words = true
fits verb.Computed words = true
-- set(n): "set varName ?value?"
fits verb.Set words = between 2 3 words
-- unset(n): "unset ?-nocomplain? ?name name name ...?"; this profile: one name or more
fits verb.Unset words = unset_names words
-- incr(n): "incr varName ?increment?"
fits verb.Incr words = between 2 3 words
-- append(n), lappend(n): "append varName ?value value value ...?"
fits verb.Append words = at_least 2 words
fits verb.Lappend words = at_least 2 words
-- their second word names a form, which is looked at when they run
fits verb.Array words = true
fits verb.Info words = true
-- return(n): "return ?string?"
fits verb.Return words = between 1 2 words
-- break(n), continue(n)
fits verb.Break words = between 1 1 words
fits verb.Continue words = between 1 1 words
-- error(n); this profile: `error message`
fits verb.Error words = between 2 2 words
-- this profile: `call name ?arg ...?`
fits verb.Call words = at_least 2 words
-- expr(n): "expr arg ?arg arg ...?"
fits verb.ExprOfWords words = at_least 2 words
