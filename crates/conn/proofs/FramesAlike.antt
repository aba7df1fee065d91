-- From alike states frames come to alike outcomes.
use Rattle.std.proofs.Common.{refl, ℕ, ◌+◌, List, [], ◌∷◌, ◌++◌, drop, take, Some, codes}
use Rattle.tcl_trees.specs.Tree.{Tree, Trees, Operands, Values}
use Rattle.tcl_trees.specs.Tree as tree
use Rattle.tcl_vars.specs.Names.{Name}
use Rattle.tcl_var_commands.specs.Reading.{read_value}
use Rattle.rule_model.specs.Children.{child, free, one, alone, is_next, count, places_of}
use Rattle.rule_model.specs.Commands.{left}
use Rattle.rule_model.specs.Control.{after_body, after_next, turn, row_loop}
use Rattle.rule_model.specs.Evaluator.{eval, evals, words, parts, joints, values, bodies}
use Rattle.rule_model.specs.Expressions.{joined_value, operands}
use Rattle.rule_model.specs.Outcome.{State, Outcome, Meaning, then_code, heard, ask}
use Rattle.rule_model.specs.Setting.{Setting, Inner}
use Rattle.rule_model.specs.Words.{in_word, told, commands}
use Rattle.rule_model.specs.declared.code.Code.TheVariants.{Value}
use Rattle.rule_model.proofs.Alike.{Fact, Alike, SameMeaning, paid_same, reads_same}
use Rattle.rule_model.proofs.Bodies.{AllBodies, SameLoop, loop_same, each_same, unless_same, chosen_of_same, caught_in_same}
use Rattle.rule_model.proofs.Calls.{command_same}
use Rattle.rule_model.proofs.Facts.{Free, free as any}
use Rattle.rule_model.proofs.Pieces.{AllJoined, AllPaired, in_word_same, word_at_same, in_order_same, commands_same, prefixes_same, operands_same, row_same, whole_same}
use Rattle.rule_nodes.specs.Rows.{rows_view}
use Rattle.frames.specs.Children.{node_at}
use Rattle.frames.specs.Frames.{inner_of, places, wants, room_in, inside, commands_in, pieces_in, text_end, word_price, words_in, words_end, operators_of, joints_in, conditions_in, condition_price, last_in, after_condition, test_in, next_in, body_in, again, apply, unwind, tree_above, path_of, room_above, current, meaning}
use Rattle.frames.specs.declared.frame.Frame.{Frame}
use Rattle.frames.specs.declared.frame.Frame.TheVariants as frame
use Rattle.frames.specs.declared.frame.Mode.{Mode}
use Rattle.frames.specs.declared.frame.Mode.TheVariants as mode
use Rattle.frames.specs.declared.frame.Room.{Room}
use Rattle.conn.proofs.Fine.{Fine, FineAt, AllFine, drop_fine, drop_joined, drop_paired, ended, code_fine, value_fine, truth_fine, heard_fine, leave_fine, joined_fine, condition_fine, body_fine, next_fine, turn_fine, turns_fine, rows_fine, tree_fine, inner_fine}

module _ {H : Type 0} (g : Setting H) {R : State H → State H → Type 0} {O : Outcome H → Outcome H → Type 0} {Q : State H → Outcome H → Type 0} (s : Alike g.table g.table R O Q) (f : Fact g.table Free Q)
    (asks : (call : List (List ℕ)) → SameMeaning R O Q (ask call) (ask call)) where
  module _ (r : Room) where
    abbrev i : Inner H
    i = inner_of g r

    node_fine : (t : Tree) → FineAt g s f (eval g i t)
    node_fine t = tree_fine g s f r.expressions r.calls t

    child_fine : (price : Tree → ℕ) (k : ℕ) (t : Tree) → FineAt g s f (child price k t (eval g i t))
    child_fine price k t path = let m = eval g i t (path ++ k ∷ []) in paid_same s f (price t) m m (node_fine t (path ++ k ∷ []))

    evals_fine : (price : Tree → ℕ) (k : ℕ) (ts : Trees) → AllFine g s f (evals g i price k ts)
    evals_fine price k tree.no_trees = tt
    evals_fine price k (tree.and_tree t ts) = (child_fine price k t, evals_fine price (k + 1) ts)

    own_fine : (price : Tree → ℕ) (t : Tree) → AllFine g s f (child price 0 t (eval g i t) ∷ [])
    own_fine price t = (child_fine price 0 t, tt)

    parts_fine : (price : Tree → ℕ) (t : Tree) → AllFine g s f (parts g i price t (eval g i t))
    parts_fine price (tree.word (tree.and_tree t ts)) = (child_fine one 0 t, evals_fine one 1 ts)
    parts_fine price t = own_fine price t

    words_fine : (price : Tree → ℕ) (k : ℕ) (ts : Trees) → AllFine g s f (words g i price k ts)
    words_fine price k tree.no_trees = tt
    words_fine price k (tree.and_tree t ts) =
        let ps = parts g i price t (eval g i t) in
        (word_at_same s f k ps ps (parts_fine price t), words_fine price (k + 1) ts)

    joints_fine : (k : ℕ) (os : Operands) → AllJoined R O Q (joints g i k os) (joints g i k os)
    joints_fine k tree.no_operands = tt
    joints_fine k (tree.and_operand joint t os) = (refl, child_fine one k t, joints_fine (k + 1) os)

    values_fine : (o q : Tree → ℕ) (k : ℕ) (vs : Values) → AllPaired R O Q (values g i o q k vs) (values g i o q k vs)
    values_fine o q k tree.no_values = tt
    values_fine o q k (tree.and_value t u vs) = (child_fine o k t, child_fine q (k + 1) u, values_fine o q (k + 2) vs)

    bodies_fine : (k : ℕ) (ts : Trees) → AllBodies R O Q (bodies g i k ts) (bodies g i k ts)
    bodies_fine k tree.no_trees = tt
    bodies_fine k (tree.and_tree t ts) =
        let m = child free k t (eval g i t) in
        (unless_same any s f (is_next t) m m (child_fine free k t), bodies_fine (k + 1) ts)

    -- what a node has, by kinds
    commands_fine : (t : Tree) → AllFine g s f (commands_in g i t)
    commands_fine (tree.script ts) = evals_fine free 0 ts
    commands_fine t = tt

    pieces_fine : (t : Tree) → AllFine g s f (pieces_in g i t)
    pieces_fine (tree.word ts) = evals_fine one 0 ts
    pieces_fine (tree.element name ts) = evals_fine one 0 ts
    pieces_fine t = tt

    text_fine : (t : Tree) (text : List ℕ) → FineAt g s f (text_end g t text)
    text_fine (tree.element name ts) text path =
        let at = name ++ codes "(" ++ text ++ codes ")" in
        let n : Name = record { name = name; index = Some text } in
        reads_same s f (λ vars. read_value g.statics vars at n)
    text_fine t text path = ended g s f (Value text)

    all_words_fine : (t : Tree) → AllFine g s f (words_in g i t)
    all_words_fine (tree.command v ts) = words_fine one 0 ts
    all_words_fine (tree.each ts body) = words_fine one 0 ts
    all_words_fine (tree.switch front ts bs) = words_fine free 0 ts
    all_words_fine t = tt

    words_end_fine : (t : Tree) (done : List (List ℕ)) → FineAt g s f (words_end g i t done)
    words_end_fine (tree.command v ts) done path = command_same any s f g.statics g.procedures i i (inner_fine g s f r.expressions r.calls) v done path
    words_end_fine (tree.each ts body) done path =
        let m = child free (count ts) body (eval g i body) in
        each_same any s f g.statics m m (child_fine free (count ts) body) (drop 1 done) path
    words_end_fine (tree.switch front ts bs) done path =
        let ms = bodies g i (count ts) bs in
        chosen_of_same any s f front ms ms (bodies_fine (count ts) bs) (drop 1 done) path
    words_end_fine (tree.catch_in body name) done path =
        let m = child free 0 body (eval g i body) in
        caught_in_same any s f g.statics m m (child_fine free 0 body) (drop 1 done) path
    words_end_fine t done path = ended g s f (Value [])

    joints_in_fine : (t : Tree) → AllJoined R O Q (joints_in g i t) (joints_in g i t)
    joints_in_fine (tree.row t rest) = joints_fine 1 rest
    joints_in_fine t = tt

    conditions_fine : (t : Tree) → AllPaired R O Q (conditions_in g i t) (conditions_in g i t)
    conditions_fine (tree.branches vs last) = values_fine alone free 0 vs
    conditions_fine (tree.choice vs last) = values_fine one one 0 vs
    conditions_fine t = tt

    last_fine : (t : Tree) → FineAt g s f (last_in g i t)
    last_fine (tree.branches vs last) path = child_fine free (places_of vs) last path
    last_fine (tree.choice vs last) path = child_fine one (places_of vs) last path
    last_fine t path = ended g s f (Value [])

    test_in_fine : (t : Tree) → FineAt g s f (test_in g i t)
    test_in_fine t = child_fine alone 1 (node_at t (1 ∷ []))

    next_in_fine : (t : Tree) → FineAt g s f (next_in g i t)
    next_in_fine t = child_fine free 2 (node_at t (2 ∷ []))

    body_in_fine : (t : Tree) (k : ℕ) → FineAt g s f (body_in g i t k)
    body_in_fine t k = child_fine free k (node_at t (k ∷ []))

    again_fine : (t : Tree) (n : ℕ) → FineAt g s f (again g i t n)
    again_fine t n = turns_fine g s f n (test_in g i t) (body_in g i t 3) (next_in g i t) (test_in_fine t) (body_in_fine t 3) (next_in_fine t)

    -- what a node comes to by what its child comes to
    apply_fine : (t : Tree) (p : List ℕ) (fr : Frame) (m : State H → Outcome H) → Fine g s f m → Fine g s f (λ a. apply g i t p fr (m a))
    apply_fine t p (frame.Script at wanted) m h =
        let ms = drop (at + 1) (commands_in g i t) in
        value_fine g s f m (λ v a. commands ms v p a) h (λ v. commands_same s f ms ms (drop_fine g s f (at + 1) (commands_in g i t) (commands_fine t)) v p)
    apply_fine t p (frame.Words word part done text) m h =
        let u = node_at t (word ∷ []) in
        let ps = drop (part + 1) (parts g i (word_price t) u (eval g i u)) in
        let ws = drop (word + 1) (words_in g i t) in
        let first : Meaning H = λ q a. m a in
        let pieces = first ∷ ps in
        let w : Meaning H = λ q a. in_word told pieces text (p ++ word ∷ []) a in
        let piece_fine : AllFine g s f pieces = ((λ q. h), drop_fine g s f (part + 1) (parts g i (word_price t) u (eval g i u)) (parts_fine (word_price t) u)) in
        let word_fine : FineAt g s f w = λ q. in_word_same s f told told (λ x q'. ended g s f (Value x)) pieces pieces piece_fine text (p ++ word ∷ []) in
        in_order_same s f (words_end g i t) (words_end g i t) (words_end_fine t) (w ∷ ws) (w ∷ ws) (word_fine, drop_fine g s f (word + 1) (words_in g i t) (all_words_fine t)) done p
    apply_fine t p (frame.Pieces part text) m h =
        let ps = drop (part + 1) (pieces_in g i t) in
        let first : Meaning H = λ q a. m a in
        in_word_same s f (text_end g t) (text_end g t) (text_fine t) (first ∷ ps) (first ∷ ps) ((λ q. h), drop_fine g s f (part + 1) (pieces_in g i t) (pieces_fine t)) text p
    apply_fine t p (frame.Operand left) m h = let first : Meaning H = λ q a. m a in prefixes_same s f (take left (operators_of t)) first first (λ q. h) p
    apply_fine t p (frame.Left at) m h =
        let js = drop at (joints_in g i t) in
        let first : Meaning H = λ q a. m a in
        row_same s f first first (λ q. h) js js (drop_joined g s f at (joints_in g i t) (joints_in_fine t)) p
    apply_fine t p (frame.Right at joint left) m h =
        let js = drop at (joints_in g i t) in
        value_fine g s f m (joined_value (operands js) joint left p) h (joined_fine g s f (operands js) (operands_same s f js js (drop_joined g s f at (joints_in g i t) (joints_in_fine t))) joint left p)
    apply_fine t p (frame.Condition at place) m h =
        let cs = drop at (conditions_in g i t) in
        truth_fine g s f m (after_condition (condition_price t) cs (last_in g i t) p) h
        (condition_fine g s f (condition_price t) cs (drop_paired g s f at (conditions_in g i t) (conditions_fine t)) (last_in g i t) (last_fine t) p)
    apply_fine t p (frame.Body place wanted) m h = h
    apply_fine t p frame.Start m h =
        let l : SameLoop R O Q (test_in g i t) (body_in g i t 3) (next_in g i t) (test_in g i t) (body_in g i t 3) (next_in g i t) = record { test = test_in_fine t; body = body_in_fine t 3; next = next_in_fine t } in
        value_fine g s f m (λ v a. again g i t a.budget p a) h (λ v. loop_same any s f l p)
    apply_fine t p (frame.Test left) m h =
        truth_fine g s f m (turn left (test_in g i t) (body_in g i t 3) (next_in g i t) p) h
        (turn_fine g s f left (test_in g i t) (body_in g i t 3) (next_in g i t) (test_in_fine t) (body_in_fine t 3) (next_in_fine t) p)
    apply_fine t p (frame.Turn left) m h =
        let more = again g i t left p in
        let behind = λ (a : State H). then_code (next_in g i t p a) (after_next more) in
        code_fine g s f m (after_body behind) h (body_fine g s f behind (code_fine g s f (next_in g i t p) (after_next more) (next_in_fine t p) (next_fine g s f more (again_fine t left p))))
    apply_fine t p (frame.Next left) m h = let more = again g i t left p in code_fine g s f m (after_next more) h (next_fine g s f more (again_fine t left p))
    apply_fine t p (frame.Each place rows number left) m h =
        let more = row_loop g.statics (rows_view rows) (body_in g i t place) left number p in
        code_fine g s f m (after_body more) h (body_fine g s f more (rows_fine g s f (rows_view rows) (body_in g i t place) (body_in_fine t place) left number p))
    apply_fine t p frame.Caught m h = let first : Meaning H = λ q a. m a in caught_in_same any s f g.statics first first (λ q. h) [] p
    apply_fine t p (frame.CaughtIn name) m h = let first : Meaning H = λ q a. m a in caught_in_same any s f g.statics first first (λ q. h) (name ∷ []) p
    apply_fine t p frame.Whole m h = whole_same s f m m h
    apply_fine t p (frame.Called procedure room wanted) m h = leave_fine g s f m h
    apply_fine t p (frame.Read expression room) m h = whole_same s f m m h

  unwind_fine : (r : Room) (t : Tree) (p : List ℕ) (fs : List Frame) (m : State H → Outcome H) → Fine g s f m → Fine g s f (λ a. unwind g r t p fs (m a))
  unwind_fine r t p [] m h = h
  unwind_fine r t p (fr ∷ fs) m h =
      let n = λ (a : State H). unwind g (room_in r fr) (inside g.procedures t fr) (p ++ places fr) fs (m a) in
      apply_fine r t p fr (λ a. heard (wants fr) (n a)) (heard_fine g s f (wants fr) n (unwind_fine (room_in r fr) (inside g.procedures t fr) (p ++ places fr) fs m h))

  current_fine : (r : Room) (t : Tree) (m : Mode) → FineAt g s f (current g (inner_of g r) t m)
  current_fine r t mode.Begin path = node_fine r t path
  current_fine r t (mode.Back code) path = ended g s f code
  current_fine r t (mode.Asked call) path = asks call path
  current_fine r t mode.Over path = ended g s f (Value [])

  -- what frames and mode come to
  pub frames_same : (r : Room) (t : Tree) (fs : List Frame) (m : Mode) → SameMeaning R O Q (meaning g r t fs m) (meaning g r t fs m)
  frames_same r t fs m path =
      let top = room_above r fs in
      let node = tree_above g.procedures t fs in
      unwind_fine r t path fs (current g (inner_of g top) node m (path ++ path_of fs)) (current_fine top node m (path ++ path_of fs))
