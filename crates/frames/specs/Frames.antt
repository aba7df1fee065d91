-- What frames mean: each goes on with the outcome of the child above it.
use Rattle.std.specs.Prelude.{ℕ, ◌+◌, List, [], ◌∷◌, ◌++◌, take, drop, Bool, true, false, slice_get}
use Rattle.std.specs.Prelude.{Some, None, option_map, unwrap_or}
use Rattle.px_bytes.specs.declared.fault.Reply.{Reply}
use Rattle.tcl_expr.specs.declared.expr.Joint.{Joint}
use Rattle.tcl_expr.specs.declared.operator.Op1.{Op1}
use Rattle.tcl_trees.specs.Procedures.{Procedure}
use Rattle.tcl_trees.specs.Tree.{Tree}
use Rattle.tcl_trees.specs.Tree as tree
use Rattle.tcl_trees.specs.TreeView.{node_view}
use Rattle.tcl_vars.specs.Scopes.{Scopes}
use Rattle.rule_model.specs.Children.{child, free, one, alone, count, places_of}
use Rattle.rule_model.specs.Commands.{command, leave}
use Rattle.rule_model.specs.Control.{after_body, after_next, turn, turns, row_loop, each_rows}
use Rattle.rule_model.specs.Control.{chosen_of, caught, caught_in}
use Rattle.rule_model.specs.Evaluator.{eval, evals, words, parts, joints, values, bodies, inner}
use Rattle.rule_model.specs.Evaluator.{inner_limit, read_element}
use Rattle.rule_model.specs.Expressions.{after_operand, operands, joined_value, first_true}
use Rattle.rule_model.specs.Expressions.{after_test, then_truth, whole}
use Rattle.rule_model.specs.Outcome.{Act, State, state, Outcome, Ends, Meaning}
use Rattle.rule_model.specs.declared.code.Code.TheVariants.{Value}
use Rattle.rule_model.specs.Outcome.{then_code, then_value, heard, ask}
use Rattle.rule_model.specs.Setting.{Setting, Inner}
use Rattle.rule_model.specs.Words.{after_piece, in_word, told, after_word, in_order, behind_name}
use Rattle.rule_model.specs.Words.{commands}
use Rattle.rule_nodes.specs.Rows.{rows_view}
use Rattle.frames.specs.Children.{part_at, node_at}
use Rattle.frames.specs.declared.frame.Frame.{Frame}
use Rattle.frames.specs.declared.frame.Frame.TheVariants as frame
use Rattle.frames.specs.declared.frame.Mode.{Mode}
use Rattle.frames.specs.declared.frame.Mode.TheVariants as mode
use Rattle.frames.specs.declared.frame.Room.{Room}
use Rattle.frames.specs.declared.frame.Standing.{Standing}

-- what may nest inside a body from its beginning
abbrev pub full_room : Room
full_room = record { calls = inner_limit; expressions = inner_limit }

abbrev pub inner_of : {H : Type 0} → Setting H → Room → Inner H
inner_of g r = inner g r.expressions r.calls

-- the number of the child that runs above a frame, as the path to it has it
abbrev pub places : Frame → List ℕ
places (frame.Script at wanted) = at ∷ []
places (frame.Words word part done text) = word ∷ part ∷ []
places (frame.Pieces part text) = part ∷ []
places (frame.Operand left) = 0 ∷ []
places (frame.Left at) = at ∷ []
places (frame.Right at joint left) = at ∷ []
places (frame.Condition at place) = place ∷ []
places (frame.Body place wanted) = place ∷ []
places frame.Start = 0 ∷ []
places (frame.Test left) = 1 ∷ []
places (frame.Turn left) = 3 ∷ []
places (frame.Next left) = 2 ∷ []
places (frame.Each place rows number left) = place ∷ []
places frame.Caught = 0 ∷ []
places (frame.CaughtIn name) = 0 ∷ []
places frame.Whole = 0 ∷ []
places (frame.Called procedure room wanted) = []
places (frame.Read expression room) = []

-- whether the value of that child is heard
abbrev pub wants : Frame → Bool
wants (frame.Script at wanted) = wanted
wants (frame.Body place wanted) = wanted
wants frame.Start = false
wants (frame.Turn left) = false
wants (frame.Next left) = false
wants (frame.Each place rows number left) = false
wants (frame.Called procedure room wanted) = wanted
wants f = true

-- what may nest inside that child
abbrev pub room_in : Room → Frame → Room
room_in r (frame.Called procedure room wanted) = room
room_in r (frame.Read expression room) = room
room_in r f = r

-- the body of the procedure of a number
abbrev pub body_of : List Procedure → ℕ → Tree
body_of procedures n =
    unwrap_or (option_map (λ p. p.body) (slice_get procedures n)) tree.next_body

-- that child
abbrev pub inside : List Procedure → Tree → Frame → Tree
inside procedures t (frame.Called procedure room wanted) = body_of procedures procedure
inside procedures t (frame.Read expression room) = node_view expression.value
inside procedures t (frame.Words word part done text) = part_at (node_at t (word ∷ [])) part
inside procedures t f = node_at t (places f)

-- What a tree has, by kinds; where its kind has none of it, nothing.
abbrev pub commands_in : {H : Type 0} → Setting H → Inner H → Tree → List (Meaning H)
commands_in g i (tree.script ts) = evals g i free 0 ts
commands_in g i t = []

abbrev pub pieces_in : {H : Type 0} → Setting H → Inner H → Tree → List (Meaning H)
pieces_in g i (tree.word ts) = evals g i one 0 ts
pieces_in g i (tree.element name ts) = evals g i one 0 ts
pieces_in g i t = []

abbrev pub text_end : {H : Type 0} → Setting H → Tree → List ℕ → Meaning H
text_end g (tree.element name ts) = read_element g name
text_end g t = told

-- the price of a word that is no word of parts
abbrev pub word_price : Tree → Tree → ℕ
word_price (tree.switch front ts bs) = free
word_price t = one

abbrev pub words_in : {H : Type 0} → Setting H → Inner H → Tree → List (Meaning H)
words_in g i (tree.command v ts) = words g i one 0 ts
words_in g i (tree.each ts body) = words g i one 0 ts
words_in g i (tree.switch front ts bs) = words g i free 0 ts
words_in g i t = []

-- what is done with all words
abbrev pub words_end : {H : Type 0} → Setting H → Inner H → Tree → List (List ℕ) → Meaning H
words_end g i (tree.command v ts) = command g i v
words_end g i (tree.each ts body) =
    behind_name (each_rows g.statics (child free (count ts) body (eval g i body)))
words_end g i (tree.switch front ts bs) =
    behind_name (chosen_of front (bodies g i (count ts) bs))
words_end g i (tree.catch_in body name) =
    behind_name (caught_in g.statics (child free 0 body (eval g i body)))
words_end g i t = λ done path st. Ends (Value []) st

abbrev pub operators_of : Tree → List Op1
operators_of (tree.prefixed ops t) = ops
operators_of t = []

abbrev pub joints_in : {H : Type 0} → Setting H → Inner H → Tree → List (Joint × Meaning H)
joints_in g i (tree.row t rest) = joints g i 1 rest
joints_in g i t = []

-- conditions with what stands behind each, what a condition costs beside it, and the last
abbrev pub conditions_in : {H : Type 0} → Setting H → Inner H → Tree
    → List (Meaning H × Meaning H)
conditions_in g i (tree.branches vs last) = values g i alone free 0 vs
conditions_in g i (tree.choice vs last) = values g i one one 0 vs
conditions_in g i t = []

abbrev pub condition_price : Tree → ℕ
condition_price (tree.choice vs last) = 1
condition_price t = 0

abbrev pub last_in : {H : Type 0} → Setting H → Inner H → Tree → Meaning H
last_in g i (tree.branches vs last) = child free (places_of vs) last (eval g i last)
last_in g i (tree.choice vs last) = child one (places_of vs) last (eval g i last)
last_in g i t = λ path st. Ends (Value []) st

-- after the first of these conditions
abbrev pub after_condition : {H : Type 0} → ℕ → List (Meaning H × Meaning H) → Meaning H → List ℕ
    → Bool → State H → Outcome H
after_condition price [] last path holds st = last path st
after_condition price (v ∷ more) last path holds st =
    after_test v.1 (first_true price more last) path holds st

-- a loop's test, what comes after each turn, and its body
abbrev pub test_in : {H : Type 0} → Setting H → Inner H → Tree → Meaning H
test_in g i t = let test = node_at t (1 ∷ []) in child alone 1 test (eval g i test)

abbrev pub next_in : {H : Type 0} → Setting H → Inner H → Tree → Meaning H
next_in g i t = let next = node_at t (2 ∷ []) in child free 2 next (eval g i next)

abbrev pub body_in : {H : Type 0} → Setting H → Inner H → Tree → ℕ → Meaning H
body_in g i t k = let body = node_at t (k ∷ []) in child free k body (eval g i body)

-- the loop with so many turns left, from its test on
abbrev pub again : {H : Type 0} → Setting H → Inner H → Tree → ℕ → Meaning H
again g i t n = turns n (test_in g i t) (body_in g i t 3) (next_in g i t)

-- what a node comes to by the outcome of the child that its frame tells
abbrev pub apply : {H : Type 0} → Setting H → Inner H → Tree → List ℕ → Frame → Outcome H
    → Outcome H
apply g i t p (frame.Script at wanted) o =
    then_value o (λ v s. commands (drop (at + 1) (commands_in g i t)) v p s)
apply g i t p (frame.Words word part done text) o =
    let u = node_at t (word ∷ []) in
    then_value
    (then_value o (after_piece
    (in_word told (drop (part + 1) (parts g i (word_price t) u (eval g i u)))) text
    (p ++ word ∷ [])))
    (after_word (in_order (words_end g i t) (drop (word + 1) (words_in g i t))) done p)
apply g i t p (frame.Pieces part text) o =
    then_value o
    (after_piece (in_word (text_end g t) (drop (part + 1) (pieces_in g i t))) text p)
apply g i t p (frame.Operand left) o =
    then_value o (after_operand (take left (operators_of t)))
apply g i t p (frame.Left at) o =
    then_value o (λ v s. operands (drop at (joints_in g i t)) v p s)
apply g i t p (frame.Right at joint left) o =
    then_value o (joined_value (operands (drop at (joints_in g i t))) joint left p)
apply g i t p (frame.Condition at place) o =
    then_truth o
    (after_condition (condition_price t) (drop at (conditions_in g i t)) (last_in g i t) p)
apply g i t p (frame.Body place wanted) o = o
apply g i t p frame.Start o = then_value o (λ v s. again g i t s.budget p s)
apply g i t p (frame.Test left) o =
    then_truth o (turn left (test_in g i t) (body_in g i t 3) (next_in g i t) p)
apply g i t p (frame.Turn left) o =
    then_code o (after_body (λ s.
    then_code (next_in g i t p s) (after_next (again g i t left p))))
apply g i t p (frame.Next left) o = then_code o (after_next (again g i t left p))
apply g i t p (frame.Each place rows number left) o =
    then_code o
    (after_body (row_loop g.statics (rows_view rows) (body_in g i t place) left number p))
apply g i t p frame.Caught o = then_code o (caught g.statics None)
apply g i t p (frame.CaughtIn name) o = then_code o (caught g.statics (Some name))
apply g i t p frame.Whole o = whole o
apply g i t p (frame.Called procedure room wanted) o = then_code o leave
apply g i t p (frame.Read expression room) o = whole o

-- the outcome of the root by that of the node above all frames
abbrev pub unwind : {H : Type 0} → Setting H → Room → Tree → List ℕ → List Frame → Outcome H
    → Outcome H
unwind g r t p [] o = o
unwind g r t p (f ∷ fs) o =
    apply g (inner_of g r) t p f
    (heard (wants f) (unwind g (room_in r f) (inside g.procedures t f) (p ++ places f) fs o))

-- the node above all frames, the path to it, and what may nest inside it
abbrev pub tree_above : List Procedure → Tree → List Frame → Tree
tree_above procedures t [] = t
tree_above procedures t (f ∷ fs) = tree_above procedures (inside procedures t f) fs

abbrev pub path_of : List Frame → List ℕ
path_of [] = []
path_of (f ∷ fs) = places f ++ path_of fs

abbrev pub room_above : Room → List Frame → Room
room_above r [] = r
room_above r (f ∷ fs) = room_above (room_in r f) fs

-- what that node does
abbrev pub current : {H : Type 0} → Setting H → Inner H → Tree → Mode → Meaning H
current g i t mode.Begin path st = eval g i t path st
current g i t (mode.Back code) path st = Ends code st
current g i t (mode.Asked call) path st = ask call path st
current g i t mode.Over path st = Ends (Value []) st

-- what frames and mode come to, above the node at a path
abbrev pub meaning : {H : Type 0} → Setting H → Room → Tree → List Frame → Mode → Meaning H
meaning g r t fs m path st =
    unwind g r t path fs
    (current g (inner_of g (room_above r fs)) (tree_above g.procedures t fs) m
    (path ++ path_of fs) st)

-- What a body comes to from where it stands, on these variables, this host's state and these
-- replies, with the cost and the acts so far.
abbrev pub comes_to : {H : Type 0} → Setting H → Tree → Standing → Scopes → H → List Reply → ℕ
    → List Act → Outcome H
comes_to g tree m vars host more cost acts =
    meaning g full_room tree m.frames.items m.mode []
    (state vars host more m.budget cost acts)
