-- What words of one part come to at once.
use Rattle.std.proofs.Common.{◌≡◌, refl, sym, ap, subst, ◌∙◌, ℕ, ◌+◌, ◌-◌, ◌^◌, ◌≤◌, ◌<◌, ℤ, pos, get_or, List, [], ◌∷◌, ◌++◌, length, drop, take}
use Rattle.std.proofs.Common.{suc, is_some, not, option_copied, Bor, Bool, true, false, Option, Some, None, option_map, arith}
use Rattle.std.specs.Prelude.{codes, nat_eq, nat_lt, sum_by, if◌then◌else◌}
use Rattle.std.proofs.lemmas.Bool.Decides.{nat_tests}
use Rattle.std.proofs.lemmas.Fmt.{length_signed_le}
use lib.Signed.{mag}
use Rattle.std.proofs.lemmas.List.{take_all}
use Rattle.std.specs.Bool.{OnTrue}
use Rattle.std.specs.Fmt.{signed_decimal}
use Rattle.px_bytes.specs.Limit.{text_limit}
use Rattle.px_bytes.specs.Whole.{whole}
use Rattle.px_bytes.specs.WholeWord.{number_by}
use Rattle.tcl_trees.specs.Tree.{Tree, Trees, trees_of}
use Rattle.tcl_trees.specs.Tree as tree
use Rattle.tcl_trees.specs.TreeView.{node_view, nodes_view}
use Rattle.tcl_trees.specs.WholeResult.{in_decimal, whole_result}
use Rattle.tcl_trees.specs.declared.node.Node.{Node, fold-roll-Node}
use Rattle.tcl_trees.specs.declared.node.Node.TheVariants as node
use Rattle.tcl_trees.specs.declared.node.Node.TheVariants.{rolls-Plain}
use Rattle.tcl_trees.specs.declared.node.Verb.{Verb}
use Rattle.tcl_trees.specs.declared.node.Verb.TheVariants as verb
use Rattle.tcl_vars.specs.Changed.{ChangedVars, by_sum, to_bytes, to_number}
use Rattle.tcl_vars.specs.Scopes.{Level, Scopes, is_static, vars_bytes, vars_limit}
use Rattle.rule_model.specs.Children.{alone, one}
use Rattle.rule_nodes.specs.AtOnce.{AddsPart, Begins, DoesVerb, IsPlain, Leaves, ReadsPart, ReadsWhole, SetsTo}
use Rattle.rule_nodes.specs.AtOnce.{literal_part, literal_word, most_short, only_part, part_value, short_text}
use Rattle.rule_nodes.specs.Short.{Ending, Purse, Shortly, pay, purse, short, short_changed, short_words}
use Rattle.rule_nodes.specs.Short.{shortly, then_shortly, where_all_fit, where_fits, where_some}
use Rattle.rule_nodes.proofs.ShortVerbs.{InPlace, if_not, if_room, increments, sets}

-- the only part of a word
pub only_word : (t u : Tree) → only_part t ≡ Some u → t ≡ tree.word (tree.and_tree u tree.no_trees)
only_word (tree.word tree.no_trees) u e = cc
only_word (tree.word (tree.and_tree t tree.no_trees)) u e = cc
only_word (tree.word (tree.and_tree t (tree.and_tree s ts))) u e = cc
only_word (tree.plain text) u e = cc
only_word (tree.variable name) u e = cc
only_word (tree.element name ts) u e = cc
only_word (tree.script ts) u e = cc
only_word (tree.command v ts) u e = cc
only_word (tree.expr t) u e = cc
only_word (tree.branches vs t) u e = cc
only_word (tree.choice vs t) u e = cc
only_word (tree.loop a b c d) u e = cc
only_word (tree.each ts t) u e = cc
only_word (tree.switch n ts bs) u e = cc
only_word (tree.catch t) u e = cc
only_word (tree.catch_in t s) u e = cc
only_word tree.next_body u e = cc
only_word (tree.prefixed ops t) u e = cc
only_word (tree.row t os) u e = cc

-- a literal, and a variable's value
pub part_short : (level : Option Level) (u : Tree) (value : List ℕ) (p : Purse) → part_value level p.vars u ≡ Some value
    → short level u p ≡ Some (shortly value p)
part_short level (tree.plain text) value p e = cc
part_short level (tree.variable name) value p e = ap (option_map (λ (v : List ℕ). shortly v p)) e
part_short level (tree.element name ts) value p e = cc
part_short level (tree.word ts) value p e = cc
part_short level (tree.script ts) value p e = cc
part_short level (tree.command v ts) value p e = cc
part_short level (tree.expr t) value p e = cc
part_short level (tree.branches vs t) value p e = cc
part_short level (tree.choice vs t) value p e = cc
part_short level (tree.loop a b c d) value p e = cc
part_short level (tree.each ts t) value p e = cc
part_short level (tree.switch n ts bs) value p e = cc
part_short level (tree.catch t) value p e = cc
part_short level (tree.catch_in t s) value p e = cc
part_short level tree.next_body value p e = cc
part_short level (tree.prefixed ops t) value p e = cc
part_short level (tree.row t os) value p e = cc

-- a text that is short
pub record IsShort (text shown : List ℕ) : Type 0 where
  pub is : text ≡ shown
  pub few : length shown ≤ most_short

short_by : (long : Bool) (text shown : List ℕ) → nat_lt most_short (length text) ≡ long → (if long then None else Some text) ≡ Some shown → IsShort text shown
short_by true text shown t e = absurd cc
short_by false text shown t e =
    let same : text ≡ shown = cc in
    let few : length text ≤ most_short = grind (arith, nat_tests) in
    record { is = same; few = rw (← same) few }

pub is_short : (text shown : List ℕ) → short_text text ≡ Some shown → IsShort text shown
is_short text shown e = short_by (nat_lt most_short (length text)) text shown refl e

-- the word behind a name: its only part, and what is done with its value
pub word_behind : (level : Option Level) (v : Verb) (head name value : List ℕ) (t u : Tree) (p q new : Purse) → Begins head name → only_part t ≡ Some u
    → length value ≤ most_short → short level u (pay 1 p) ≡ Some (shortly value q)
    → Leaves (short_changed level v (head ∷ name ∷ value ∷ []) q) new
    → Leaves (short_words level one (tree.and_tree t tree.no_trees) (short_changed level v) (head ∷ name ∷ []) p) new
word_behind level v head name value t u p q new begins only few is leaves =
    let fin : Ending = short_changed level v in
    let behind : List ℕ → Purse → Option Shortly = λ w r. where_all_fit (head ∷ name ∷ w ∷ []) (λ all. fin all r) in
    let fitted : List ℕ → Purse → Option Shortly = λ w r. where_fits w (λ all. Some (shortly all r)) in
    let head_short = begins.head_short in
    let name_short = begins.name_short in
    let fits : length value ≤ text_limit = omega arith in
    let all_fit : sum_by length (head ∷ name ∷ value ∷ []) ≤ text_limit = omega arith in
    let one_is : then_shortly (then_shortly (short level u (pay 1 p)) fitted) behind ≡ then_shortly (fitted value q) behind =
    ap (λ (x : Option Shortly). then_shortly (then_shortly x fitted) behind) is in
    let two_is : then_shortly (fitted value q) behind ≡ behind value q =
    ap (λ (x : Option Shortly). then_shortly x behind) (if_room text_limit (length value) None (Some (shortly value q)) fits) in
    let three_is : behind value q ≡ fin (head ∷ name ∷ value ∷ []) q =
    if_room text_limit (sum_by length (head ∷ name ∷ value ∷ [])) None (fin (head ∷ name ∷ value ∷ []) q) all_fit in
    let word_is : t ≡ tree.word (tree.and_tree u tree.no_trees) = only_word t u only in
    subst (λ (w : Tree). Leaves (short_words level one (tree.and_tree w tree.no_trees) (short_changed level v) (head ∷ name ∷ []) p) new) (sym word_is)
    (record { value = leaves.value; is_done = one_is ∙ two_is ∙ three_is ∙ leaves.is_done })

-- a word that is one short literal
pub record IsLiteral (t : Tree) (text : List ℕ) : Type 0 where
  pub is : t ≡ tree.word (tree.and_tree (tree.plain text) tree.no_trees)
  pub few : length text ≤ most_short

literal_as : (text shown : List ℕ) → IsShort text shown → IsLiteral (tree.word (tree.and_tree (tree.plain text) tree.no_trees)) shown
literal_as text shown s = record { is = ap (λ (x : List ℕ). tree.word (tree.and_tree (tree.plain x) tree.no_trees)) s.is; few = s.few }

only_literal : (u : Tree) (text : List ℕ) → literal_part u ≡ Some text → IsLiteral (tree.word (tree.and_tree u tree.no_trees)) text
only_literal (tree.plain shown) text e = literal_as shown text (is_short shown text e)
only_literal (tree.variable name) text e = absurd cc
only_literal (tree.element name ts) text e = absurd cc
only_literal (tree.word ts) text e = absurd cc
only_literal (tree.script ts) text e = absurd cc
only_literal (tree.command v ts) text e = absurd cc
only_literal (tree.expr t) text e = absurd cc
only_literal (tree.branches vs t) text e = absurd cc
only_literal (tree.choice vs t) text e = absurd cc
only_literal (tree.loop a b c d) text e = absurd cc
only_literal (tree.each ts t) text e = absurd cc
only_literal (tree.switch n ts bs) text e = absurd cc
only_literal (tree.catch t) text e = absurd cc
only_literal (tree.catch_in t s) text e = absurd cc
only_literal tree.next_body text e = absurd cc
only_literal (tree.prefixed ops t) text e = absurd cc
only_literal (tree.row t os) text e = absurd cc

literal_by : (t : Tree) (x : Option Tree) (text : List ℕ) → only_part t ≡ x → where_some x literal_part ≡ Some text → IsLiteral t text
literal_by t None text o e = absurd cc
literal_by t (Some u) text o e = subst (λ (w : Tree). IsLiteral w text) (sym (only_word t u o)) (only_literal u text e)

pub is_literal : (t : Tree) (text : List ℕ) → literal_word t ≡ Some text → IsLiteral t text
is_literal t text e = literal_by t (only_part t) text refl e

-- a literal among words
literal_front : (level : Option Level) (finish : Ending) (done : List (List ℕ)) (t : Tree) (ts : Trees) (text : List ℕ) (p : Purse) → IsLiteral t text
    → sum_by length (done ++ text ∷ []) ≤ text_limit
    → short_words level one (tree.and_tree t ts) finish done p ≡ short_words level one ts finish (done ++ text ∷ []) (pay 1 p)
literal_front level finish done t ts text p literal all_fit =
    let few = literal.few in
    let fits : length text ≤ text_limit = omega arith in
    let behind : List ℕ → Purse → Option Shortly = λ w r. where_all_fit (done ++ w ∷ []) (λ all. short_words level one ts finish all r) in
    let one_is : short_words level one (tree.and_tree t ts) finish done p
    ≡ short_words level one (tree.and_tree (tree.word (tree.and_tree (tree.plain text) tree.no_trees)) ts) finish done p =
    ap (λ (w : Tree). short_words level one (tree.and_tree w ts) finish done p) literal.is in
    let two_is : then_shortly (where_fits text (λ all. Some (shortly all (pay 1 p)))) behind ≡ behind text (pay 1 p) =
    ap (λ (x : Option Shortly). then_shortly x behind) (if_room text_limit (length text) None (Some (shortly text (pay 1 p))) fits) in
    let three_is : behind text (pay 1 p) ≡ short_words level one ts finish (done ++ text ∷ []) (pay 1 p) =
    if_room text_limit (sum_by length (done ++ text ∷ [])) None (short_words level one ts finish (done ++ text ∷ []) (pay 1 p)) all_fit in
    one_is ∙ two_is ∙ three_is

-- the head and the name, each for a unit
pub head_and_name : (level : Option Level) (finish : Ending) (h n : Tree) (ts : Trees) (head name : List ℕ) (vars : Scopes) (budget cost cost' : ℕ)
    → IsLiteral h head → IsLiteral n name → cost' ≡ cost + 2 → short_words level one (tree.and_tree h (tree.and_tree n ts)) finish [] (purse vars budget cost)
    ≡ short_words level one ts finish (head ∷ name ∷ []) (purse vars budget cost')
head_and_name level finish h n ts head name vars budget cost cost' is_head is_name paid =
    let head_few = is_head.few in
    let name_few = is_name.few in
    let one_fits : sum_by length (head ∷ []) ≤ text_limit = omega arith in
    let two_fit : sum_by length (head ∷ name ∷ []) ≤ text_limit = omega arith in
    let all_paid : (cost + 1) + 1 ≡ cost' = omega arith in
    literal_front level finish [] h (tree.and_tree n ts) head (purse vars budget cost) is_head one_fits
    ∙ literal_front level finish (head ∷ []) n ts name (purse vars budget (cost + 1)) is_name two_fit
    ∙ ap (λ (c : ℕ). short_words level one ts finish (head ∷ name ∷ []) (purse vars budget c)) all_paid

-- the only item of a list
pub only_item : {X : Type 0} (xs : List X) (x : X) → length xs ≡ 1 → x ≡ get_or xs 0 x → xs ≡ x ∷ []
only_item [] x few is = absurd (omega arith)
only_item (a ∷ []) x few is = ap (λ y. y ∷ []) (sym is)
only_item (a ∷ (b ∷ xs)) x few is = absurd (omega arith)

pub no_item : {X : Type 0} (xs : List X) → length xs ≡ 0 → xs ≡ []
no_item [] few = refl
no_item (a ∷ xs) few = absurd (omega arith)

-- one word of one part
pub record OneWord (nodes : List Node) (u : Tree) : Type 0 where
  pub word : Node
  pub is : nodes ≡ word ∷ []
  pub only : only_part (node_view word) ≡ Some u

pub one_word : (nodes : List Node) (word : Node) (u : Tree) → length nodes ≡ 1 → word ≡ get_or nodes 0 word → Some u ≡ only_part (node_view word)
    → OneWord nodes u
one_word nodes word u few is only = record { word = word; is = only_item nodes word few is; only = sym only }

-- the view of a literal, and a word that is one
plain_view : (n : Node) (text : List ℕ) → n ≡ node.Plain text → node_view n ≡ tree.plain text
plain_view n text e = rw (e, ← rolls-Plain, fold-roll-Node) refl

pub one_literal : (nodes : List Node) (word n : Node) (text : List ℕ) → length nodes ≡ 1 → word ≡ get_or nodes 0 word → n ≡ node.Plain text
    → Some (node_view n) ≡ only_part (node_view word) → OneWord nodes (tree.plain text)
one_literal nodes word n text few is plain only =
    one_word nodes word (tree.plain text) few is (ap Some (sym (plain_view n text plain)) ∙ only)

-- a command of one word behind the name
pub does_verb : (level : Option Level) (v : Verb) (nodes : List Node) (u : Tree) (name value : List ℕ) (p q new : Purse) → OneWord nodes u
    → length value ≤ most_short → short level u (pay 1 p) ≡ Some (shortly value q)
    → ((head : List ℕ) → IsPlain name → Leaves (short_changed level v (head ∷ name ∷ value ∷ []) q) new)
    → DoesVerb level v name (nodes_view nodes) p new
does_verb level v nodes u name value p q new w few is leaves = λ head begins.
    subst (λ (ns : List Node). Leaves (short_words level one (trees_of (nodes_view ns)) (short_changed level v) (head ∷ name ∷ []) p) new) (sym w.is)
    (word_behind level v head name value (node_view w.word) u p q new begins w.only few is (leaves head begins.is_plain))

-- what is done with the value of such a word, whatever head, budget and cost
abbrev pub Ends : Verb → (name value : List ℕ) → (vars new : Scopes) → Type 0
Ends v name value vars new = (level : Option Level) (head : List ℕ) (budget cost : ℕ) → IsPlain name
    → Leaves (short_changed level v (head ∷ name ∷ value ∷ []) (purse vars budget cost)) (purse new budget cost)

-- the value of a part that is short
pub record PartIs (level : Option Level) (vars : Scopes) (u : Tree) (value : List ℕ) : Type 0 where
  pub is : part_value level vars u ≡ Some value
  pub few : length value ≤ most_short

pub does_part : (level : Option Level) (v : Verb) (nodes : List Node) (u : Tree) (name value : List ℕ) (vars new : Scopes) (budget cost cost' : ℕ)
    → OneWord nodes u → PartIs level vars u value → cost' ≡ cost + 1
    → ((head : List ℕ) → IsPlain name → Leaves (short_changed level v (head ∷ name ∷ value ∷ []) (purse vars budget cost')) (purse new budget cost'))
    → DoesVerb level v name (nodes_view nodes) (purse vars budget cost) (purse new budget cost')
does_part level v nodes u name value vars new budget cost cost' w part paid leaves =
    let is : short level u (purse vars budget (cost + 1)) ≡ Some (shortly value (purse vars budget (cost + 1))) =
    part_short level u value (purse vars budget (cost + 1)) part.is in
    let as_paid : short level u (purse vars budget (cost + 1)) ≡ Some (shortly value (purse vars budget cost')) =
    is ∙ ap (λ (k : ℕ). Some (shortly value (purse vars budget k))) (sym paid) in
    does_verb level v nodes u name value (purse vars budget cost) (purse vars budget cost') (purse new budget cost') w part.few as_paid leaves

pub verb_on : (result : Bool) (level : Option Level) (v : Verb) (nodes : List Node) (u : Tree) (name value : List ℕ) (vars new : Scopes) (cost cost' : ℕ)
    → OneWord nodes u → PartIs level vars u value → cost' ≡ cost + 1 → OnTrue result (Ends v name value vars new)
    → OnTrue result ((budget : ℕ) → DoesVerb level v name (nodes_view nodes) (purse vars budget cost) (purse new budget cost'))
verb_on false level v nodes u name value vars new cost cost' w part paid ends = tt
verb_on true level v nodes u name value vars new cost cost' w part paid ends = λ budget.
    does_part level v nodes u name value vars new budget cost cost' w part paid (λ head plain. ends level head budget cost' plain)

-- the same for one budget
pub verb_at : (result : Bool) (level : Option Level) (v : Verb) (nodes : List Node) (u : Tree) (name value : List ℕ) (vars new : Scopes) (budget cost cost' : ℕ)
    → OneWord nodes u → PartIs level vars u value → cost' ≡ cost + 1 → OnTrue result (Ends v name value vars new)
    → OnTrue result (DoesVerb level v name (nodes_view nodes) (purse vars budget cost) (purse new budget cost'))
verb_at false level v nodes u name value vars new budget cost cost' w part paid ends = tt
verb_at true level v nodes u name value vars new budget cost cost' w part paid ends =
    does_part level v nodes u name value vars new budget cost cost' w part paid (λ head plain. ends level head budget cost' plain)

-- a literal, and what was copied
pub literal_value : (level : Option Level) (vars : Scopes) (text shown : List ℕ) → Some shown ≡ short_text text → PartIs level vars (tree.plain text) shown
literal_value level vars text shown e =
    let s = is_short text shown (sym e) in
    record { is = ap Some s.is; few = s.few }

pub copied_value : (level : Option Level) (vars : Scopes) (u : Tree) (old new shown : List ℕ) → AddsPart level vars u old new → old ≡ [] → shown ≡ new
    → length shown ≤ 64 → PartIs level vars u shown
copied_value level vars u old new shown adds none is few =
    let as_piece : old ++ adds.piece ≡ adds.piece = ap (λ (t : List ℕ). t ++ adds.piece) none in
    let all : adds.piece ≡ shown = sym (is ∙ adds.added ∙ as_piece) in
    record { is = adds.is_value ∙ ap Some all; few = omega arith }

pub read_value : (level : Option Level) (vars : Scopes) (u : Tree) (n : ℤ) (r : ReadsPart level vars u n) → PartIs level vars u r.value
read_value level vars u n r = record { is = r.is_value; few = r.few }

pub incr_ends : (result : Bool) (name value : List ℕ) (n : ℤ) (vars new : Scopes) → whole value ≡ Some n → OnTrue result (ChangedVars (by_sum n) name vars new)
    → OnTrue result (is_static name ≡ false) → vars_bytes new ≤ vars_limit → OnTrue result (Ends verb.Incr name value vars new)
incr_ends false name value n vars new reads changed own room = tt
incr_ends true name value n vars new reads changed own room = λ level head budget cost plain.
    increments level name value n vars new budget cost (ap (λ (x : Option ℤ). number_by x value) reads)
    (record { changed = changed; own = own; room = room }) plain

pub incr_one : (result : Bool) (level : Option Level) (nodes : List Node) (name : List ℕ) (vars new : Scopes) (cost : ℕ) → nodes ≡ []
    → OnTrue result (ChangedVars (by_sum (pos 1)) name vars new) → OnTrue result (is_static name ≡ false) → vars_bytes new ≤ vars_limit
    → OnTrue result ((budget : ℕ) → DoesVerb level verb.Incr name (nodes_view nodes) (purse vars budget cost) (purse new budget cost))
incr_one false level nodes name vars new cost none changed own room = tt
incr_one true level nodes name vars new cost none changed own room = λ budget head begins.
    let leaves : Leaves (short_changed level verb.Incr (head ∷ name ∷ []) (purse vars budget cost)) (purse new budget cost) =
    increments level name (codes "1") (pos 1) vars new budget cost refl (record { changed = changed; own = own; room = room }) begins.is_plain in
    subst (λ (ns : List Node).
    Leaves (short_words level one (trees_of (nodes_view ns)) (short_changed level verb.Incr) (head ∷ name ∷ []) (purse vars budget cost))
    (purse new budget cost)) (sym none) leaves

pub set_ends : (result : Bool) (name value : List ℕ) (vars new : Scopes) → OnTrue result (ChangedVars (to_bytes value) name vars new)
    → OnTrue result (is_static name ≡ false) → vars_bytes new ≤ vars_limit → OnTrue result (Ends verb.Set name value vars new)
set_ends false name value vars new changed own room = tt
set_ends true name value vars new changed own room = λ level head budget cost plain.
    sets level (to_bytes value) name value vars new budget cost (λ old. refl) (record { changed = changed; own = own; room = room }) plain

pub set_bracket : (result : Bool) (level : Option Level) (nodes : List Node) (u : Tree) (name : List ℕ) (vars new : Scopes) (budget cost paid budget' cost' : ℕ)
    → OneWord nodes u → paid ≡ cost + 1 → OnTrue result (SetsTo level name u (purse vars budget paid) (purse new budget' cost'))
    → OnTrue result (DoesVerb level verb.Set name (nodes_view nodes) (purse vars budget cost) (purse new budget' cost'))
set_bracket false level nodes u name vars new budget cost paid budget' cost' w e s = tt
set_bracket true level nodes u name vars new budget cost paid budget' cost' w e s =
    let is : short level u (purse vars budget (cost + 1)) ≡ Some (shortly s.value s.left) =
    ap (λ (k : ℕ). short level u (purse vars budget k)) (sym e) ∙ s.is_value in
    does_verb level verb.Set nodes u name s.value (purse vars budget cost) s.left (purse new budget' cost') w s.few is s.sets

-- the value of a bracket of one expression
pub bracket_is : (level : Option Level) (vars : Scopes) (t : Tree) (n : ℤ) (budget cost paid cost' : ℕ) → ReadsWhole level vars t (paid + alone t) cost' n
    → paid ≡ cost + 2 → 0 < budget
    → short level (tree.script (tree.and_tree (tree.expr t) tree.no_trees)) (purse vars budget cost)
    ≡ Some (shortly (signed_decimal n) (purse vars (budget - 1) cost'))
bracket_is level vars t n budget cost paid cost' r e some =
    let ending : List ℕ → Purse → Option Shortly = λ v q. Some (shortly (whole_result v) q) in
    let go : Option Shortly → Option Shortly = λ x. then_shortly (then_shortly x ending) (λ v q. Some (shortly v q)) in
    let at : ℕ → Option Shortly = λ k. short level t (purse vars (budget - 1) k) in
    let is_some : nat_eq budget 0 ≡ false = grind (arith, nat_tests) in
    let all_paid : ((cost + 1) + 1) + alone t ≡ paid + alone t = omega arith in
    let number : whole_result r.text ≡ signed_decimal n = ap (λ (x : Option ℤ). in_decimal x r.text) r.reads in
    let unit : short level (tree.script (tree.and_tree (tree.expr t) tree.no_trees)) (purse vars budget cost) ≡ go (at (((cost + 1) + 1) + alone t)) =
    if_not (nat_eq budget 0) None (go (at (((cost + 1) + 1) + alone t))) is_some in
    unit ∙ ap (λ (k : ℕ). go (at k)) all_paid ∙ ap go (r.is_value (budget - 1)) ∙ ap (λ (v : List ℕ). Some (shortly v (purse vars (budget - 1) cost'))) number

pub bracket_set : (level : Option Level) (name : List ℕ) (vars new : Scopes) (t : Tree) (n : ℤ) (budget cost paid cost' : ℕ)
    → ReadsWhole level vars t (paid + alone t) cost' n → paid ≡ cost + 2 → 0 < budget → mag n < 2 ^ 63 → InPlace (to_number n) name vars new
    → SetsTo level name (tree.script (tree.and_tree (tree.expr t) tree.no_trees)) (purse vars budget cost) (purse new (budget - 1) cost')
bracket_set level name vars new t n budget cost paid cost' r e some fits i = record {
  value = signed_decimal n;
  left = purse vars (budget - 1) cost';
  is_value = bracket_is level vars t n budget cost paid cost' r e some;
  few = omega (arith, length_signed_le 20 n (omega arith) fits);
  sets = λ head plain. sets level (to_number n) name (signed_decimal n) vars new (budget - 1) cost' (λ old. refl) i plain;
}

-- the first two items of a list
two_items : {X : Type 0} (xs : List X) (x y : X) → 2 ≤ length xs → x ≡ get_or xs 0 x → y ≡ get_or xs 1 y → xs ≡ x ∷ (y ∷ take (length xs - 2) (drop 2 xs))
two_items [] x y few a b = absurd (omega arith)
two_items (v ∷ []) x y few a b = absurd (omega arith)
two_items (v ∷ (w ∷ xs)) x y few a b =
    let e : take (suc (suc (length xs)) - 2) xs ≡ xs = take_all (suc (suc (length xs)) - 2) xs (omega arith) in
    let one : v ∷ (w ∷ xs) ≡ x ∷ (w ∷ xs) = ap (λ z. z ∷ (w ∷ xs)) (sym a) in
    let two : x ∷ (w ∷ xs) ≡ x ∷ (y ∷ xs) = ap (λ z. x ∷ (z ∷ xs)) (sym b) in
    one ∙ two ∙ ap (λ l. x ∷ (y ∷ l)) (sym e)

-- a command's words: its head, its name, and those behind them
pub record Front (nodes behind : List Node) (name : List ℕ) : Type 0 where
  pub head : List ℕ
  pub head_node : Node
  pub name_node : Node
  pub is : nodes ≡ head_node ∷ (name_node ∷ behind)
  pub head_is : literal_word (node_view head_node) ≡ Some head
  pub name_is : literal_word (node_view name_node) ≡ Some name
  pub is_plain : IsPlain name

-- a text that an option has
record IsKnownText (text : Option (List ℕ)) : Type 0 where
  shown : List ℕ
  is : text ≡ Some shown

known_text : (x : Option (Bor (List ℕ))) (none : Bool) (text : Option (List ℕ)) → option_copied x ≡ text → is_some x ≡ not none → none ≡ false
    → IsKnownText text
known_text None none text e some is = absurd cc
known_text (Some shown) none text e some is = record { shown = shown.now; is = sym e }

pub front_of : (words : List Node) (head_node name_node : Node) (x : Option (Bor (List ℕ))) (none : Bool) (name : List ℕ) → 2 ≤ length words
    → head_node ≡ get_or words 0 head_node → name_node ≡ get_or words 1 name_node → option_copied x ≡ literal_word (node_view head_node)
    → is_some x ≡ not none → none ≡ false → literal_word (node_view name_node) ≡ Some name → IsPlain name
    → Front words (take (length words - 2) (drop 2 words)) name
front_of words head_node name_node x none name least first second text some known named plain =
    let head = known_text x none (literal_word (node_view head_node)) text some known in
    record {
      head = head.shown;
      head_node = head_node;
      name_node = name_node;
      is = two_items words head_node name_node least first second;
      head_is = head.is;
      name_is = named;
      is_plain = plain;
    }

front_leaves : (level : Option Level) (v : Verb) (nodes behind : List Node) (name : List ℕ) (vars : Scopes) (budget cost paid : ℕ) (new : Purse)
    → Front nodes behind name → paid ≡ cost + 2 → DoesVerb level v name (nodes_view behind) (purse vars budget paid) new
    → Leaves (short level (tree.command v (trees_of (nodes_view nodes))) (purse vars budget cost)) new
front_leaves level v nodes behind name vars budget cost paid new f e does =
    let is_head = is_literal (node_view f.head_node) f.head f.head_is in
    let is_name = is_literal (node_view f.name_node) name f.name_is in
    let leaves = does f.head (record { head_short = is_head.few; name_short = is_name.few; is_plain = f.is_plain }) in
    let front = head_and_name level (short_changed level v) (node_view f.head_node) (node_view f.name_node) (trees_of (nodes_view behind)) f.head name
    vars budget cost paid is_head is_name e in
    subst (λ (ns : List Node). Leaves (short_words level one (trees_of (nodes_view ns)) (short_changed level v) [] (purse vars budget cost)) new) (sym f.is)
    (record { value = leaves.value; is_done = front ∙ leaves.is_done })

pub front_on : (result : Bool) (level : Option Level) (v w : Verb) (nodes behind : List Node) (name : List ℕ) (vars : Scopes) (budget cost paid : ℕ)
    (new : Purse) → Front nodes behind name → paid ≡ cost + 2 → w ≡ v → OnTrue result (DoesVerb level v name (nodes_view behind) (purse vars budget paid) new)
    → OnTrue result (Leaves (short level (tree.command w (trees_of (nodes_view nodes))) (purse vars budget cost)) new)
front_on false level v w nodes behind name vars budget cost paid new f e is does = tt
front_on true level v w nodes behind name vars budget cost paid new f e is does =
    subst (λ (k : Verb). Leaves (short level (tree.command k (trees_of (nodes_view nodes))) (purse vars budget cost)) new) (sym is)
    (front_leaves level v nodes behind name vars budget cost paid new f e does)

-- the same where the command does it for every budget
budget_at : (result : Bool) (budget : ℕ) (P : ℕ → Type 0) → OnTrue result ((b : ℕ) → P b) → OnTrue result (P budget)
budget_at false budget P h = tt
budget_at true budget P h = h budget

pub front_each : (result : Bool) (level : Option Level) (v w : Verb) (nodes behind : List Node) (name : List ℕ) (vars : Scopes)
    (budget cost paid : ℕ) (new : Scopes) (cost' : ℕ) → Front nodes behind name → paid ≡ cost + 2 → w ≡ v
    → OnTrue result ((b : ℕ) → DoesVerb level v name (nodes_view behind) (purse vars b paid) (purse new b cost'))
    → OnTrue result (Leaves (short level (tree.command w (trees_of (nodes_view nodes))) (purse vars budget cost)) (purse new budget cost'))
front_each result level v w nodes behind name vars budget cost paid new cost' f e is does =
    front_on result level v w nodes behind name vars budget cost paid (purse new budget cost') f e is
    (budget_at result budget (λ (b : ℕ). DoesVerb level v name (nodes_view behind) (purse vars b paid) (purse new b cost')) does)

-- a bracket that is one command
pub one_command : (level : Option Level) (name : List ℕ) (nodes : List Node) (word : Node) (t : Tree) (p q : Purse) → nodes ≡ word ∷ []
    → node_view word ≡ tree.expr t → SetsTo level name (tree.script (tree.and_tree (tree.expr t) tree.no_trees)) p q
    → SetsTo level name (tree.script (trees_of (nodes_view nodes))) p q
one_command level name nodes word t p q one is s =
    let e : tree.script (trees_of (nodes_view nodes)) ≡ tree.script (tree.and_tree (tree.expr t) tree.no_trees) =
    ap (λ (ns : List Node). tree.script (trees_of (nodes_view ns))) one ∙ ap (λ (u : Tree). tree.script (tree.and_tree u tree.no_trees)) is in
    subst (λ (b : Tree). SetsTo level name b p q) (sym e) s
