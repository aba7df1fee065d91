-- Small bodies, with the cost, the end and the calls that are worked by hand: a unit for each
-- command and turn, one for each part of a word, each operand and each operator.
use Rattle.std.proofs.Common.{◌≡◌, refl, ℕ, List, [], ◌∷◌, Option, Some, None, Ok, codes}
use Rattle.std.specs.Fmt.{digits}
use Rattle.px_bytes.specs.declared.fault.Reply.{Reply}
use Rattle.px_bytes.specs.declared.fault.Reply.TheVariants as reply
use Rattle.tcl_trees.specs.Procedures.{Procedure, values_bound}
use Rattle.tcl_trees.specs.Tree.{Tree, trees_of, operands_of, values_of}
use Rattle.tcl_trees.specs.Tree as tree
use Rattle.tcl_trees.specs.declared.node.Verb.{Verb}
use Rattle.tcl_trees.specs.declared.node.Verb.TheVariants as verb
use Rattle.tcl_expr.specs.declared.expr.Joint.TheVariants.{Both, Or}
use Rattle.tcl_expr.specs.declared.operator.Op1.TheVariants.{Neg}
use Rattle.tcl_expr.specs.declared.operator.Op2.TheVariants.{Less, Greater, TextEq}
use Rattle.tcl_vars.specs.Scopes.{Scopes, no_scopes, with_value}
use Rattle.rule_model.specs.Commands.{expression_read}
use Rattle.rule_model.specs.Evaluator.{evaluate, inner}
use Rattle.rule_model.specs.Host.{HostStep, Asks}
use Rattle.rule_model.specs.Laws.{state_after}
use Rattle.rule_model.specs.Outcome.{Act, Called, Outcome, Ends, Waits, state}
use Rattle.rule_model.specs.declared.code.Code.{Code}
use Rattle.rule_model.specs.declared.code.Code.TheVariants.{Value}
use Rattle.rule_model.specs.Setting.{Setting}

-- each command of the host asks a shared call
abbrev asks_all : Unit {0} → List (List ℕ) → HostStep (Unit {0})
asks_all host words = Asks words host

abbrev setting : Setting (Unit {0})
setting = record { statics = None; table = asks_all; procedures = [] }

-- how it ends, where it does, with its cost and the calls
pub record Told : Type 0 where
  pub code : Option Code
  pub cost : ℕ
  pub calls : List Act

abbrev code_of : Outcome (Unit {0}) → Option Code
code_of (Ends code st) = Some code
code_of (Waits path call st) = None

abbrev told_of : Outcome (Unit {0}) → Told
told_of o = record { code = code_of o; cost = (state_after o).cost; calls = (state_after o).acts }

abbrev run : Tree → Scopes → List Reply → Told
run body vars replies = told_of (evaluate setting body vars tt replies 100)

abbrev ends : List ℕ → ℕ → List Act → Told
ends v cost calls = record { code = Some (Value v); cost = cost; calls = calls }

abbrev waits : ℕ → List Act → Told
waits cost calls = record { code = None; cost = cost; calls = calls }

-- a variable of this value, and an answer
abbrev one_set : List ℕ → List ℕ → Scopes
one_set name value = with_value name None value no_scopes

abbrev answer : Reply
answer = reply.Ok (codes "r")

-- bodies
abbrev script : List Tree → Tree
script commands = tree.script (trees_of commands)

abbrev word : List Tree → Tree
word parts = tree.word (trees_of parts)

abbrev plain : List ℕ → Tree
plain text = word (tree.plain text ∷ [])

abbrev command : Verb → List Tree → Tree
command v words = tree.command v (trees_of words)

abbrev ask : List Tree → Tree
ask words = command verb.Named (plain (codes "ask") ∷ words)

abbrev no_body : Tree
no_body = script []

-- `set x 7; TCP::respond "hi $x"`: 1 + 3, and 1 + 3
abbrev greeting : Tree
greeting = script (
    command verb.Set (plain (codes "set") ∷ (plain (codes "x") ∷ (plain (codes "7") ∷ [])))
    ∷ (command verb.Named (plain (codes "TCP::respond") ∷ (word (tree.plain (codes "hi ") ∷ (tree.variable (codes "x") ∷ [])) ∷ []))
    ∷ []))

greeting_row : run greeting no_scopes [] ≡ waits 8 (Called (1 ∷ []) (codes "TCP::respond" ∷ (codes "hi 7" ∷ [])) ∷ [])
unfolding evaluate
greeting_row = refl

-- `while {$n < 4} {incr n}` from 0: 1 + 1, four times 3 + 1 + 3, and a last test of 3
abbrev counting : Tree
counting = script (tree.loop no_body
    (tree.row (tree.variable (codes "n")) (operands_of ((Both Less, tree.plain (codes "4")) ∷ []))) no_body
    (script (command verb.Incr (plain (codes "incr") ∷ (plain (codes "n") ∷ [])) ∷ [])) ∷ [])

counting_row : run counting (one_set (codes "n") (codes "0")) [] ≡ ends [] 33 []
unfolding evaluate digits
counting_row = refl

-- `expr {"a$b" eq "a1"}`: 1 + 1, a quoted operand of two parts 1 + 2, an operator, and 1 + 1
abbrev quoted : Tree
quoted = script (tree.expr (tree.row (word (tree.plain (codes "a") ∷ (tree.variable (codes "b") ∷ [])))
    (operands_of ((Both TextEq, plain (codes "a1")) ∷ []))) ∷ [])

quoted_row : run quoted (one_set (codes "b") (codes "1")) [] ≡ ends (codes "1") 8 []
unfolding evaluate digits
quoted_row = refl

-- `set x $a([ask k])`: 1 + 2, the element, the bracket in its index, and 1 + 2. The call is command 0
-- of that bracket, which is part 0 of the index of part 0 of word 2 of command 0.
abbrev indexed : Tree
indexed = script (command verb.Set (plain (codes "set") ∷ (plain (codes "x")
    ∷ (word (tree.element (codes "a") (trees_of (script (ask (plain (codes "k") ∷ []) ∷ []) ∷ [])) ∷ []) ∷ []))) ∷ [])

indexed_row : run indexed no_scopes [] ≡ waits 8 (Called (0 ∷ 2 ∷ 0 ∷ 0 ∷ 0 ∷ []) (codes "ask" ∷ (codes "k" ∷ [])) ∷ [])
unfolding evaluate
indexed_row = refl

-- `catch {ask a} [ask b]`: 1 + 1, the bracket, which is part 0 of word 1, with 1 + 2, and then the
-- body, which is child 0, with 1 + 2
abbrev catching : Tree
catching = script (tree.catch_in (script (ask (plain (codes "a") ∷ []) ∷ []))
    (word (script (ask (plain (codes "b") ∷ []) ∷ []) ∷ [])) ∷ [])

catching_row : run catching no_scopes (answer ∷ []) ≡ waits 9
    (Called (0 ∷ 1 ∷ 0 ∷ 0 ∷ []) (codes "ask" ∷ (codes "b" ∷ [])) ∷ (Called (0 ∷ 0 ∷ 0 ∷ []) (codes "ask" ∷ (codes "a" ∷ [])) ∷ []))
unfolding evaluate
catching_row = refl

-- `switch b {default {ask 0} b {ask 1}}`: 1 + 1, the text, and 1 + 2 of the body of
-- `b`, which is child 4
abbrev switching : List ℕ → Tree
switching text = script (tree.switch 1 (trees_of (plain text ∷ (tree.plain (codes "default") ∷ (tree.plain (codes "b") ∷ []))))
    (trees_of (script (ask (plain (codes "0") ∷ []) ∷ []) ∷ (script (ask (plain (codes "1") ∷ []) ∷ []) ∷ []))) ∷ [])

switching_row : run (switching (codes "b")) no_scopes [] ≡ waits 6 (Called (0 ∷ 4 ∷ 0 ∷ []) (codes "ask" ∷ (codes "1" ∷ [])) ∷ [])
unfolding evaluate
switching_row = refl

-- `foreach v {a b} {ask $v}`: 1 + 1, two words, and twice 1 + 1 + 2
abbrev each_value : Tree
each_value = script (tree.each (trees_of (plain (codes "v") ∷ (plain (codes "a b") ∷ [])))
    (script (ask (word (tree.variable (codes "v") ∷ []) ∷ []) ∷ [])) ∷ [])

each_row : run each_value no_scopes (answer ∷ (answer ∷ [])) ≡ ends [] 12
    (Called (0 ∷ 2 ∷ 0 ∷ []) (codes "ask" ∷ (codes "a" ∷ [])) ∷ (Called (0 ∷ 2 ∷ 0 ∷ []) (codes "ask" ∷ (codes "b" ∷ [])) ∷ []))
unfolding evaluate
each_row = refl

-- `if {1 || [ask]} {ask y}`: 1 + 1, an operand and an operator, and 1 + 2. The body is child 1.
abbrev deciding : Tree
deciding = script (tree.branches (values_of ((
  tree.row (tree.plain (codes "1")) (operands_of ((Or, script (ask [] ∷ [])) ∷ [])),
  script (ask (plain (codes "y") ∷ []) ∷ []),
) ∷ [])) no_body ∷ [])

deciding_row : run deciding no_scopes [] ≡ waits 7 (Called (0 ∷ 1 ∷ 0 ∷ []) (codes "ask" ∷ (codes "y" ∷ [])) ∷ [])
unfolding evaluate
deciding_row = refl

-- `expr {$n > 5 ? [ask] : -$n}`: 1 + 1, `?:`, its condition with two operands and an operator, and its
-- last value with an operand and an operator
abbrev choosing : Tree
choosing = script (tree.expr (tree.choice (values_of ((
  tree.row (tree.variable (codes "n")) (operands_of ((Both Greater, tree.plain (codes "5")) ∷ [])),
  script (ask [] ∷ []),
) ∷ [])) (tree.prefixed (Neg ∷ []) (tree.variable (codes "n")))) ∷ [])

choosing_row : run choosing (one_set (codes "n") (codes "2")) [] ≡ ends (codes "-2") 10 []
unfolding evaluate digits
choosing_row = refl

-- what `expr $x` reads where x is `3`: its one operand
reading_row : told_of (expression_read (inner setting 1 1) (Ok (tree.plain (codes "3"))) [] (state no_scopes tt [] 100 0 []))
    ≡ ends (codes "3") 1 []
unfolding digits
reading_row = refl

-- `call f a` of `proc f {p} {ask $p}`: 1 + 3, and 1 + 2. The procedure's body goes on behind the path of
-- its call.
abbrev asking : Procedure
asking = record { name = codes "f"; parameters = record { name = codes "p"; default = None } ∷ []; body = script (ask (word (tree.variable (codes "p") ∷ []) ∷ []) ∷ []) }

abbrev calling : Tree
calling = script (command verb.Call (plain (codes "call") ∷ (plain (codes "f") ∷ (plain (codes "a") ∷ []))) ∷ [])

calling_row : told_of (evaluate (record { statics = None; table = asks_all; procedures = asking ∷ [] }) calling no_scopes tt [] 100)
    ≡ waits 7 (Called (0 ∷ 0 ∷ []) (codes "ask" ∷ (codes "a" ∷ [])) ∷ [])
unfolding evaluate values_bound
calling_row = refl
