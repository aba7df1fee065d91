use Rattle.std.proofs.Common.{◌≡◌, ℕ, ◌+◌, ◌*◌, take, map, length}
use Rattle.tcl_expr.specs.ExpressionView.{cases_view, more_view}
use Rattle.tcl_words.specs.View.{command_view, part_view, word_view}
use Rattle.tcl_trees.specs.CaseList.{listed}
use Rattle.tcl_trees.specs.Compiled.{level}
use Rattle.tcl_trees.specs.Compiling.{command_at}
use Rattle.tcl_trees.specs.Conditions.{operands_at, values_at}
use Rattle.tcl_trees.specs.Controls.{arm_at, case_word}
use Rattle.tcl_compile.specs.IfView.{arms_view}
use Rattle.tcl_trees.specs.Making.{gathered, in_turn}
use Rattle.tcl_trees.specs.TreeView.{nodes_view, operands_view, values_view}
use Rattle.tcl_trees.specs.Words.{part_at, word_at}
use Rattle.tcl_compile.proofs.Turns.{cases_then}
use Rattle.tcl_compile.proofs.compiler.Compiler.+compiled.Given as goal

-- the functions of one level call one another in this order, and what is enclosed is a level further
-- down; an expression has no more than 4,000 expressions inside one another

abbrev at_level : ℕ → ℕ → ℕ
at_level levels order = 10000 * levels + order

abbrev pub decreases-enclosed : goal.decreases-enclosed
decreases-enclosed l = at_level l.levels 0

abbrev pub decreases-part : goal.decreases-part
decreases-part l = at_level l.levels 1

abbrev pub decreases-parts : goal.decreases-parts
decreases-parts l = at_level l.levels 2

abbrev pub decreases-under : goal.decreases-under
decreases-under l = at_level l.levels 3

abbrev pub decreases-word : goal.decreases-word
decreases-word l = at_level l.levels 3

abbrev pub decreases-words : goal.decreases-words
decreases-words l = at_level l.levels 4

abbrev pub decreases-evaluated : goal.decreases-evaluated
decreases-evaluated l = at_level l.levels 5

abbrev pub decreases-body : goal.decreases-body
decreases-body l = at_level l.levels 4

abbrev pub decreases-condition : goal.decreases-condition
decreases-condition l = at_level l.levels 4

abbrev pub decreases-case_word : goal.decreases-case_word
decreases-case_word l = at_level l.levels 5

abbrev pub decreases-case_words : goal.decreases-case_words
decreases-case_words l = at_level l.levels 6

abbrev pub decreases-case_item : goal.decreases-case_item
decreases-case_item l = at_level l.levels 5

abbrev pub decreases-listed : goal.decreases-listed
decreases-listed l = at_level l.levels 6

abbrev pub decreases-cases_inside : goal.decreases-cases_inside
decreases-cases_inside l = at_level l.levels 6

abbrev pub decreases-cases : goal.decreases-cases
decreases-cases l = at_level l.levels 7

abbrev pub decreases-switch : goal.decreases-switch
decreases-switch l = at_level l.levels 8

abbrev pub decreases-arms : goal.decreases-arms
decreases-arms l = at_level l.levels 5

abbrev pub decreases-branches : goal.decreases-branches
decreases-branches l = at_level l.levels 6

abbrev pub decreases-conditional : goal.decreases-conditional
decreases-conditional l = at_level l.levels 7

abbrev pub decreases-expr : goal.decreases-expr
decreases-expr l = at_level l.levels 6

abbrev pub decreases-while_loop : goal.decreases-while_loop
decreases-while_loop l = at_level l.levels 5

abbrev pub decreases-for_loop : goal.decreases-for_loop
decreases-for_loop l = at_level l.levels 5

abbrev pub decreases-foreach : goal.decreases-foreach
decreases-foreach l = at_level l.levels 5

abbrev pub decreases-catch : goal.decreases-catch
decreases-catch l = at_level l.levels 5

abbrev pub decreases-command : goal.decreases-command
decreases-command l = at_level l.levels 9

abbrev pub decreases-script : goal.decreases-script
decreases-script l = at_level l.levels 11

abbrev pub decreases-text : goal.decreases-text
decreases-text l = at_level l.levels 12

abbrev pub decreases-expression_text : goal.decreases-expression_text
decreases-expression_text l = at_level l.levels 9000

abbrev pub decreases-expression : goal.decreases-expression
decreases-expression l = at_level l.levels (2 * l.nesting + 3)

abbrev pub decreases-operands : goal.decreases-operands
decreases-operands l = at_level l.levels (2 * l.nesting + 4)

abbrev pub decreases-values : goal.decreases-values
decreases-values l = at_level l.levels (2 * l.nesting + 4)

abbrev pub invariant-parts-loop-part : goal.invariant-parts-loop-part
invariant-parts-loop-part l =
    gathered (part_at (level l.levels) l.base) (map part_view (take l.part-index l.parts)) l.fn.self.findings
    ≡ (nodes_view l.nodes.items, l.self.findings)

abbrev pub invariant-words-loop-word : goal.invariant-words-loop-word
invariant-words-loop-word l =
    gathered (word_at (level l.levels) l.base) (map word_view (take l.word-index l.fn.words)) l.fn.self.findings
    ≡ (nodes_view l.nodes.items, l.self.findings)

abbrev pub invariant-arms-loop-arm : goal.invariant-arms-loop-arm
invariant-arms-loop-arm l =
    gathered (arm_at (level l.levels) l.base) (arms_view (take l.arm-index l.fn.arms)) l.fn.self.findings
    ≡ (values_view l.values.items, l.self.findings)

abbrev pub invariant-script-loop-command : goal.invariant-script-loop-command
invariant-script-loop-command l =
    gathered (command_at (level l.levels) l.base) (map command_view (take l.command-index l.commands)) l.fn.self.findings
    ≡ (nodes_view l.nodes.items, l.self.findings)

abbrev pub invariant-case_words-loop-pattern : goal.invariant-case_words-loop-pattern
invariant-case_words-loop-pattern l =
    let made = in_turn (word_at (level l.levels) l.base) (case_word (level l.levels) l.base) in
    made (map word_view l.fn.words) l.fn.self.findings
    ≡ cases_then (nodes_view l.patterns.items, nodes_view l.bodies.items) (made (map word_view l.left) l.self.findings)

abbrev pub decreases-case_words-loop-pattern : goal.decreases-case_words-loop-pattern
decreases-case_words-loop-pattern l = length l.left

abbrev pub invariant-listed-loop-pattern : goal.invariant-listed-loop-pattern
invariant-listed-loop-pattern l =
    listed (level l.levels) l.place l.fn.items l.fn.self.findings
    ≡ cases_then (nodes_view l.patterns.items, nodes_view l.bodies.items)
    (listed (level l.levels) l.place l.left l.self.findings)

abbrev pub decreases-listed-loop-pattern : goal.decreases-listed-loop-pattern
decreases-listed-loop-pattern l = length l.left

abbrev pub invariant-operands-loop-joint : goal.invariant-operands-loop-joint
invariant-operands-loop-joint l =
    operands_at (level l.levels) l.base l.text (more_view (take l.joint-index l.rest)) l.fn.start l.fn.self.findings
    ≡ ((operands_view l.operands.items, l.opened), l.self.findings)

abbrev pub invariant-values-loop-condition : goal.invariant-values-loop-condition
invariant-values-loop-condition l =
    values_at (level l.levels) l.base l.text (cases_view (take l.condition-index l.cases)) l.fn.start l.fn.self.findings
    ≡ ((values_view l.values.items, l.opened), l.self.findings)
