-- What the words of a node lead to, by its kind.
use Rattle.std.proofs.Common.{◌≡◌, refl, ap, ◌∙◌, sym, ℕ, ◌+◌, List, [], Vec, Box, drop, length, Bool, true, false, cond, Option, Some, None, Result, Ok, Err, rules, arith, nat_eq}
use Rattle.std.specs.Prelude.{codes, map, slice_get}
use Rattle.std.specs.declared.alloc.Global.{Global}
use Rattle.std.proofs.lemmas.List.{length-map}
use Rattle.px_bytes.specs.FaultText.{syntax_error}
use Rattle.px_bytes.specs.declared.fault.TclFault.{TclFault}
use Rattle.tcl_trees.specs.Tree.{Tree, trees_of}
use Rattle.tcl_trees.specs.Tree as tree
use Rattle.tcl_trees.specs.TreeView.{node_view, nodes_view}
use Rattle.tcl_trees.specs.declared.node.Node as code
use Rattle.tcl_trees.specs.declared.node.Node.{Node, the_lemmas}
use Rattle.tcl_trees.specs.declared.node.Verb.{Verb}
use Rattle.tcl_trees.specs.declared.node.Verb.TheVariants as verb
use Rattle.tcl_vars.specs.Scopes.{Level, Scopes, in_proc}
use Rattle.tcl_var_commands.specs.Assigning.{row_assigned}
use Rattle.rule_model.specs.Commands.{Bound, bound_of}
use Rattle.rule_model.specs.Control.{Row, is_caught, most_turns, rows_of}
use Rattle.rule_model.specs.declared.code.Code.{Code}
use Rattle.rule_model.specs.declared.code.Code.TheVariants.{Value, Raised}
use Rattle.rule_nodes.specs.Rows.{if_some, rows_view}
use Rattle.rule_nodes.specs.declared.rows.Row as steps
use Rattle.frame_words.specs.Calls.{Caller, body_move, call_by, call_move, called_told, entered_by, place_in}
use Rattle.frame_words.specs.Catches.{catch_in_move, caught_by}
use Rattle.frames.specs.Children.{all}
use Rattle.frame_moves.specs.Ends.{EachEnds, EndsAs, VerbEnds}
use Rattle.frame_words.specs.FirstWords.{has_words}
use Rattle.frames.specs.Leafs.{leaf_code}
use Rattle.frames.specs.Moves.{stop}
use Rattle.frames.specs.Owed.{is_flat}
use Rattle.frames.specs.Reads.{known}
use Rattle.frames.specs.Stills.{Change, Leads, Makes, Move, Tally, Write, changes, still, tally, written}
use Rattle.frame_loops.specs.Switches.{switch_next}
use Rattle.frame_moves.specs.Turns.{Turns, each_move}
use Rattle.frames.specs.declared.next.Next.{Next}
use Rattle.frames.proofs.NodeViews.{all_trees}

-- what pays and ticks nothing
pub record Free (m : Move) : Type 0 where
  pub cost : m.cost ≡ 0
  pub ticks : m.ticks ≡ 0

free_cases : (b : Bool) (v w : Write) → Free v.move → Free w.move → Free (cond b v w).move
free_cases true v w h k = h
free_cases false v w h k = k

called_free : (code : Code) (vars : Scopes) → Free (called_told code vars).move
called_free code vars = record { cost = refl; ticks = refl }

body_free : (c : Caller) (place : ℕ) (u : Tree) (vars : Scopes) → Free (body_move c place u vars).move
body_free c place u vars =
    free_cases (nat_eq c.room.calls 0) _ _ (record { cost = refl; ticks = refl })
    (free_cases (is_flat u) _ _ (record { cost = refl; ticks = refl }) (record { cost = refl; ticks = refl }))

entered_free : (c : Caller) (place : ℕ) (u : Tree) (x : Result (List ℕ) TclFault) (vars : Scopes)
    → Free (entered_by c place u x vars).move
entered_free c place u (Ok v) vars = body_free c place u vars
entered_free c place u (Err f) vars = record { cost = refl; ticks = refl }

bound_free : (c : Caller) (place : ℕ) (x : Result Bound TclFault) (vars : Scopes)
    → Free (call_by c place x vars).move
bound_free c place (Ok b) vars =
    let done = row_assigned c.statics (map (λ q. q.name) b.procedure.parameters) b.values (in_proc vars) in
    entered_free c place b.procedure.body done.value done.vars
bound_free c place (Err f) vars = record { cost = refl; ticks = refl }

pub call_free : (c : Caller) (words : List (List ℕ)) (vars : Scopes) → Free (call_move c words vars).move
call_free c words vars = bound_free c (place_in c.procedures words) (bound_of c.procedures words) vars

caught_free : (statics : Option Level) (name : Option (List ℕ)) (code : Code) (vars : Scopes)
    → Free (caught_by statics name code vars).move
caught_free statics None code vars = record { cost = refl; ticks = refl }
caught_free statics (Some name) code vars =
    free_cases (is_caught code) _ _ (record { cost = refl; ticks = refl })
    (record { cost = refl; ticks = refl })

pub catch_in_free : (statics : Option Level) (u : Tree) (name : Option (List ℕ)) (vars : Scopes)
    → Free (catch_in_move statics u name vars).move
catch_in_free statics u name vars =
    free_cases (is_flat u) _ _ (caught_free statics name (leaf_code statics vars u) vars)
    (record { cost = refl; ticks = refl })

-- moves of each form
same_leads : (vars : Scopes) (budget paid ticked : ℕ) (next : Next)
    → Leads (changes budget vars next) (tally vars budget paid ticked) next (tally vars budget paid ticked)
same_leads vars budget paid ticked next =
    record {
      next_is = refl;
      vars_are = refl;
      budget_is = refl;
      paid_is = omega arith;
      ticked_is = omega arith;
    }

pub makes_still : {Is : Change → Type 0} (vars : Scopes) (budget paid ticked : ℕ) (next : Next)
    → Is (changes budget vars next)
    → Makes Is (tally vars budget paid ticked) next (tally vars budget paid ticked)
makes_still vars budget paid ticked next h = record {
  change = changes budget vars next;
  is = h;
  leads = same_leads vars budget paid ticked next;
}

pub makes_written : {Is : Change → Type 0} (w : Write) (vars vars' : Scopes) (budget paid ticked : ℕ)
    (next : Next) → Free w.move → next ≡ w.move.next → vars' ≡ w.vars → Is (written budget w)
    → Makes Is (tally vars budget paid ticked) next (tally vars' budget paid ticked)
makes_written w vars vars' budget paid ticked next free n v h = record {
  change = written budget w;
  is = h;
  leads = record {
    next_is = n;
    vars_are = v;
    budget_is = refl;
    paid_is = let k = free.cost in omega (arith, k);
    ticked_is = let k = free.ticks in omega (arith, k);
  };
}

pub makes_move : {Is : Change → Type 0} (m : Move) (vars : Scopes) (budget paid paid' ticked ticked' : ℕ)
    → paid' ≡ paid + m.cost → ticked' ≡ ticked + m.ticks → Is (still budget vars m)
    → Makes Is (tally vars budget paid ticked) m.next (tally vars budget paid' ticked')
makes_move m vars budget paid paid' ticked ticked' p t h = record {
  change = still budget vars m;
  is = h;
  leads = record { next_is = refl; vars_are = refl; budget_is = refl; paid_is = p; ticked_is = t };
}

-- a `foreach` by the rows that were read
pub rows_begin : (statics : Option Level) (place : ℕ) (body : Tree) (rows : Vec steps.Row Global)
    (o : Option (List Row)) (left : ℕ) (vars : Scopes) (budget paid : ℕ) (next : Next) (new : Tally)
    → if_some o ≡ Ok (rows_view rows) → left ≡ most_turns (rows_view rows)
    → (let t : Turns = record { statics = statics; place = place; body = body; rows = rows } in
    Leads (each_move t 0 left budget vars) (tally vars budget paid 0) next new)
    → Makes (EachEnds statics place body o vars budget) (tally vars budget paid 0) next new
rows_begin statics place body rows None left vars budget paid next new e n h = absurd (cc e)
rows_begin statics place body rows (Some rs) left vars budget paid next new e n h =
    let same : rows_view rows ≡ rs = cc e in
    let t : Turns = record { statics = statics; place = place; body = body; rows = rows } in
    record {
      change = each_move t 0 left budget vars;
      is = (rows, same, ap (λ k. each_move t 0 k budget vars) (n ∙ ap most_turns same));
      leads = h;
    }

pub rows_fault : (statics : Option Level) (place : ℕ) (body : Tree) (o : Option (List Row)) (fault : TclFault)
    (vars : Scopes) (budget paid : ℕ) → if_some o ≡ Err fault
    → Makes (EachEnds statics place body o vars budget) (tally vars budget paid 0) (stop (Raised fault))
    (tally vars budget paid 0)
rows_fault statics place body None fault vars budget paid e =
    let same : syntax_error (codes "foreach") ≡ fault = cc e in
    makes_still vars budget paid 0 (stop (Raised fault))
    (ap (λ f. changes budget vars (stop (Raised f))) (sym same))
rows_fault statics place body (Some rs) fault vars budget paid e = absurd (cc e)

-- the same of nodes of the code
view-Foreach : (ws : Vec Node Global) (b : Box Node Global)
    → node_view (code.Foreach ws b) ≡ tree.each (trees_of (nodes_view ws.items)) (node_view b.value)
view-Foreach ws b = search (rules, the_lemmas)

view-Switch : (k : _) (ws bs : Vec Node Global)
    → node_view (code.Switch k ws bs)
    ≡ tree.switch k (trees_of (nodes_view ws.items)) (trees_of (nodes_view bs.items))
view-Switch k ws bs = search (rules, the_lemmas)

view-CatchIn : (b n : Box Node Global)
    → node_view (code.CatchIn b n) ≡ tree.catch_in (node_view b.value) (node_view n.value)
view-CatchIn b n = search (rules, the_lemmas)

view-Command : (v : Verb) (ns : Vec Node Global)
    → node_view (code.Command v ns) ≡ tree.command v (trees_of (nodes_view ns.items))
view-Command v ns = search (rules, the_lemmas)

count_all : (ns : List Node) → length (all (trees_of (nodes_view ns))) ≡ length ns
count_all ns = ap (λ l. length l) (all_trees (nodes_view ns)) ∙ length-map ns node_view

pub each_is : (c : Caller) (ws : Vec Node Global) (body : Box Node Global) (place : ℕ) (words : List (List ℕ))
    (vars vars' : Scopes) (budget budget' paid paid' ticked : ℕ) (next : Next) → place ≡ length ws.items
    → Makes (EachEnds c.statics place (node_view body.value) (rows_of (drop 1 words)) vars budget)
    (tally vars budget paid 0) next (tally vars' budget' paid' 0)
    → Makes (EndsAs c (node_view (code.Foreach ws body)) words vars budget) (tally vars budget paid ticked)
    next (tally vars' budget' paid' ticked)
each_is c ws body place words vars vars' budget budget' paid paid' ticked next e m =
    let none = m.leads.ticked_is in
    rw (view-Foreach ws body) (record {
      change = m.change;
      is = rw (count_all ws.items, ← e) m.is;
      leads = record {
        next_is = m.leads.next_is;
        vars_are = m.leads.vars_are;
        budget_is = m.leads.budget_is;
        paid_is = m.leads.paid_is;
        ticked_is = omega (arith, none);
      };
    })

pub switch_is : (c : Caller) (front : ℕ) (ws bs : Vec Node Global) (words : List (List ℕ)) (vars : Scopes)
    (budget paid ticked : ℕ) (next : Next)
    → next ≡ switch_next (known c.statics vars) (length ws.items) front (nodes_view bs.items) c.wanted
    (drop 1 words)
    → Makes (EndsAs c (node_view (code.Switch front ws bs)) words vars budget) (tally vars budget paid ticked)
    next (tally vars budget paid ticked)
switch_is c front ws bs words vars budget paid ticked next e =
    rw (view-Switch front ws bs) (makes_still vars budget paid ticked next
    (rw (count_all ws.items, all_trees (nodes_view bs.items)) (ap (λ n. changes budget vars n) e)))

pub catch_in_is : (c : Caller) (body name : Box Node Global) (words : List (List ℕ)) (vars vars' : Scopes)
    (budget paid ticked : ℕ) (next : Next)
    → (let w = catch_in_move c.statics (node_view body.value) (slice_get words 1) vars in
    (next ≡ w.move.next) × (vars' ≡ w.vars))
    → Makes (EndsAs c (node_view (code.CatchIn body name)) words vars budget) (tally vars budget paid ticked)
    next (tally vars' budget paid ticked)
catch_in_is c body name words vars vars' budget paid ticked next h =
    rw (view-CatchIn body name) (makes_written
    (catch_in_move c.statics (node_view body.value) (slice_get words 1) vars) vars vars' budget paid ticked
    next
    (catch_in_free c.statics (node_view body.value) (slice_get words 1) vars) h.0 h.1 refl)

-- a node that evaluates no words has nothing to do with any
pub wordless : (c : Caller) (t : Tree) (words : List (List ℕ)) (vars : Scopes) (budget : ℕ)
    → has_words t ≡ false → EndsAs c t words vars budget (changes budget vars (stop (Value [])))
wordless c (tree.command v ts) words vars budget f = absurd (cc f)
wordless c (tree.each ts b) words vars budget f = absurd (cc f)
wordless c (tree.switch k ts bs) words vars budget f = absurd (cc f)
wordless c (tree.catch_in b n) words vars budget f = absurd (cc f)
wordless c other words vars budget f = refl

-- a command that is done by its words alone isn't done here
pub other_verb : (c : Caller) (v : Verb) (words : List (List ℕ)) (vars : Scopes) (budget : ℕ)
    → (v ≡ verb.Call → ⊥) → (v ≡ verb.ExprOfWords → ⊥)
    → VerbEnds c v words vars budget (changes budget vars (stop (Value [])))
other_verb c verb.Call words vars budget a b = absurd (a refl)
other_verb c verb.ExprOfWords words vars budget a b = absurd (b refl)
other_verb c other words vars budget a b = refl
