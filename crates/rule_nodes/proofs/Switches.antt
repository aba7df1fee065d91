-- A `switch` whose options and patterns are literals.
use Rattle.std.proofs.Common.{◌≡◌, refl, sym, ap, ◌∙◌, subst, ℕ, suc, ◌+◌, ◌-◌, ◌<◌, ◌≤◌, List, [], ◌∷◌, ◌++◌, length, take, drop, Bool, true, false, Option}
use Rattle.std.proofs.Common.{Some, None, Ok, option_map, codes, get_or, arith, add-zero, append_assoc}
use Rattle.std.specs.Prelude.{nat_lt, sum_by, if◌then◌else◌}
use Rattle.std.proofs.lemmas.List.Sums.{sum_by-append, sum_by-cons, sum_by_push}
use Rattle.std.proofs.lemmas.List.{append-nil, length-drop, length-map, length-take, map-append, take-append-drop, take_all}
use Rattle.tcl_trees.specs.TreeView.{node_view, nodes_view}
use Rattle.rule_nodes.proofs.ShortChoices.{nodes_at}
use Rattle.std.proofs.lemmas.Bool.Decides.{nat_tests}
use Rattle.px_bytes.specs.Limit.{text_limit}
use Rattle.tcl_trees.specs.Tree.{Tree, Trees, trees_of}
use Rattle.tcl_trees.specs.Tree as tree
use Rattle.tcl_vars.specs.Scopes.{Level, Scopes}
use Rattle.rule_model.specs.Children.{free}
use Rattle.tcl_trees.specs.declared.node.Node.{Node}
use Rattle.rule_model.specs.Control.{first_hit, hit_of, is_glob}
use Rattle.rule_nodes.proofs.SwitchHits.{body_short, hit_is}
use Rattle.rule_nodes.specs.declared.short_choices.Chosen.{Chosen}
use Rattle.rule_nodes.specs.declared.short_choices.Chosen.TheVariants as chosen
use Rattle.rule_nodes.specs.AtOnce.{AreLiterals, Chooses, IsKnown, WordIs, chosen_node, literal, literal_price, literals, most_short, short_text}
use Rattle.rule_nodes.specs.Short.{Ending, Shortly, hit_short, purse, short, short_bodies, short_word, short_words, shortly, where_some}

record Fits (text v : List ℕ) : Type 0 where
  pub same : text ≡ v
  pub few : length v ≤ most_short

fits_by : (text v : List ℕ) (long : Bool) → nat_lt most_short (length text) ≡ long → (if long then None else Some text) ≡ Some v → Fits text v
fits_by text v true is e = cc
fits_by text v false is e =
    let same : text ≡ v = cc in
    record { same = same; few = rw (← same) (grind (arith, nat_tests)) }

short_fits : (text v : List ℕ) → short_text text ≡ Some v → Fits text v
short_fits text v e = fits_by text v (nat_lt most_short (length text)) refl e

-- a literal that is a word costs its price
record Costs (level : Option Level) (vars : Scopes) (t : Tree) (v : List ℕ) (cost budget : ℕ) : Type 0 where
  pub is : short_word level free t (short level t) (purse vars budget cost) ≡ Some (shortly v (purse vars budget (cost + literal_price t)))

within : (v : List ℕ) → length v ≤ most_short → nat_lt text_limit (length v) ≡ false
within v few = grind (arith, nat_tests)

literal_costs : (level : Option Level) (vars : Scopes) (t : Tree) (v : List ℕ) (cost budget : ℕ) → literal t ≡ Some v → Costs level vars t v cost budget
literal_costs level vars (tree.plain text) v cost budget e =
    let f = short_fits text v e in
    record { is = rw (f.same, within v f.few) refl }
literal_costs level vars (tree.word tree.no_trees) v cost budget e = cc
literal_costs level vars (tree.word (tree.and_tree (tree.plain text) tree.no_trees)) v cost budget e =
    let f = short_fits text v e in
    record { is = rw (f.same, within v f.few) refl }
literal_costs level vars (tree.word (tree.and_tree other tree.no_trees)) v cost budget e = cc
literal_costs level vars (tree.word (tree.and_tree t (tree.and_tree u ts))) v cost budget e = cc
literal_costs level vars other v cost budget e = cc

-- the first of these words, and those behind it
record Words (t : Tree) (ts : List Tree) (texts : List (List ℕ)) : Type 0 where
  pub first : List ℕ
  pub behind : List (List ℕ)
  pub is : literal t ≡ Some first
  pub are : literals ts ≡ Some behind
  pub both : texts ≡ first ∷ behind

words_by : (t : Tree) (ts : List Tree) (texts : List (List ℕ)) (x : Option (List ℕ)) (y : Option (List (List ℕ))) → literal t ≡ x → literals ts ≡ y
    → where_some x (λ v. option_map (λ vs. v ∷ vs) y) ≡ Some texts → Words t ts texts
words_by t ts texts None y is are e = cc
words_by t ts texts (Some v) None is are e = cc
words_by t ts texts (Some v) (Some vs) is are e =
    let both : texts ≡ v ∷ vs = cc in
    record { first = v; behind = vs; is = is; are = are; both = both }

at_most : (n : ℕ) → n ≤ text_limit → nat_lt text_limit n ≡ false
at_most n few = grind (arith, nat_tests)

shifted : (done texts : List (List ℕ)) (v : List ℕ) (vs : List (List ℕ)) → texts ≡ v ∷ vs → (done ++ v ∷ []) ++ vs ≡ done ++ texts
shifted done texts v vs e = rw (e, append_assoc) refl

pub literal_words : (level : Option Level) (vars : Scopes) (ts more : List Tree) (texts done : List (List ℕ)) (finish : Ending) (cost budget : ℕ)
    → literals ts ≡ Some texts
    → sum_by length done + sum_by length texts ≤ text_limit → short_words level free (trees_of (ts ++ more)) finish done (purse vars budget cost)
    ≡ short_words level free (trees_of more) finish (done ++ texts) (purse vars budget (cost + sum_by literal_price ts))
literal_words level vars [] more texts done finish cost budget e few =
    let none : texts ≡ [] = cc in
    rw (none, append-nil done, add-zero cost) refl
literal_words level vars (t ∷ ts) more texts done finish cost budget e few =
    let w = words_by t ts texts (literal t) (literals ts) refl refl e in
    let one : sum_by length (done ++ w.first ∷ []) ≡ sum_by length done + length w.first = sum_by_push length done w.first in
    let all : sum_by length texts ≡ length w.first + sum_by length w.behind = ap (sum_by length) w.both ∙ sum_by-cons length w.first w.behind in
    let price : (cost + literal_price t) + sum_by literal_price ts ≡ cost + sum_by literal_price (t ∷ ts) = omega (arith, sum_by-cons literal_price t ts) in
    let there : (done ++ w.first ∷ []) ++ w.behind ≡ done ++ texts = shifted done texts w.first w.behind w.both in
    let behind = literal_words level vars ts more w.behind (done ++ w.first ∷ []) finish (cost + literal_price t) budget w.are (omega arith) in
    rw ((literal_costs level vars t w.first cost budget w.is).is, at_most (sum_by length (done ++ w.first ∷ [])) (omega arith)) (rw (there, price) at behind)

literals_length : (ts : List Tree) (texts : List (List ℕ)) → literals ts ≡ Some texts → length texts ≡ length ts
literals_length [] texts e =
    let none : texts ≡ [] = cc in
    rw none refl
literals_length (t ∷ ts) texts e =
    let w = words_by t ts texts (literal t) (literals ts) refl refl e in
    ap length w.both ∙ ap suc (literals_length ts w.behind w.are)

word_on : (level : Option Level) (vars : Scopes) (t : Tree) (ts : List Tree) (x : List ℕ) (done : List (List ℕ)) (finish : Ending) (cost new budget : ℕ)
    → WordIs level vars t x cost new
    → sum_by length (done ++ x ∷ []) ≤ text_limit
    → short_words level free (trees_of (t ∷ ts)) finish done (purse vars budget cost)
    ≡ short_words level free (trees_of ts) finish (done ++ x ∷ []) (purse vars budget new)
word_on level vars t ts x done finish cost new budget word few = rw (word budget, at_most (sum_by length (done ++ x ∷ [])) few) refl

-- options, the text and patterns, behind the head
all_words : (level : Option Level) (vars : Scopes) (os ps : List Tree) (t : Tree) (x : List ℕ) (done : List (List ℕ)) (finish : Ending)
    (paid c1 c2 c3 budget : ℕ) → (o : AreLiterals os 262144 paid c1) → WordIs level vars t x c1 c2 → length x ≤ 64 → (p : AreLiterals ps 262144 c2 c3)
    → sum_by length done ≤ 64 → short_words level free (trees_of (os ++ t ∷ ps)) finish done (purse vars budget paid)
    ≡ finish (((done ++ o.texts) ++ x ∷ []) ++ p.texts) (purse vars budget c3)
all_words level vars os ps t x done finish paid c1 c2 c3 budget o word few p head =
    let front = sum_by-append length done o.texts in
    let middle = sum_by_push length (done ++ o.texts) x in
    let a = literal_words level vars os (t ∷ ps) o.texts done finish paid budget o.are (omega (arith, o.few)) in
    let b = word_on level vars t ps x (done ++ o.texts) finish c1 c2 budget word (omega (arith, o.few)) in
    let c = literal_words level vars ps [] p.texts ((done ++ o.texts) ++ x ∷ []) finish c2 budget p.are (omega (arith, o.few, p.few)) in
    let to_text : short_words level free (trees_of (os ++ t ∷ ps)) finish done (purse vars budget paid)
    ≡ short_words level free (trees_of (t ∷ ps)) finish (done ++ o.texts) (purse vars budget c1) =
    rw (← o.paid_is) at a in
    let to_end : short_words level free (trees_of ps) finish ((done ++ o.texts) ++ x ∷ []) (purse vars budget c2)
    ≡ finish (((done ++ o.texts) ++ x ∷ []) ++ p.texts) (purse vars budget c3) =
    rw (append-nil ps, ← p.paid_is) at c in
    to_text ∙ b ∙ to_end

switch_leads : (level : Option Level) (vars : Scopes) (front : ℕ) (ws os ps : List Tree) (t : Tree) (bs : Trees) (x : List ℕ) (glob : Bool)
    (cost paid c1 c2 c3 budget : ℕ) → front ≡ length os + 1 → ws ≡ os ++ t ∷ ps → paid ≡ cost + 1 → (o : AreLiterals os 262144 paid c1)
    → WordIs level vars t x c1 c2 → length x ≤ 64 → (p : AreLiterals ps 262144 c2 c3) → is_glob false o.texts ≡ Some glob
    → short level (tree.switch front (trees_of ws) bs) (purse vars budget cost)
    ≡ hit_short (Ok (first_hit glob x p.texts)) (short_bodies level bs) (purse vars budget c3)
switch_leads level vars front ws os ps t bs x glob cost paid c1 c2 c3 budget at split paid_is o word few p is =
    let finish : Ending = λ words. hit_short (hit_of front (drop 1 words)) (short_bodies level bs) in
    let all = all_words level vars os ps t x (codes "switch" ∷ []) finish paid c1 c2 c3 budget o word few p (omega arith) in
    let hit = hit_is o.texts p.texts x front glob (at ∙ ap (λ n. n + 1) (sym (literals_length os o.texts o.are))) is in
    let end : Option Shortly = hit_short (Ok (first_hit glob x p.texts)) (short_bodies level bs) (purse vars budget c3) in
    let leads = all ∙ ap (λ h. hit_short h (short_bodies level bs) (purse vars budget c3)) hit in
    rw split (subst (λ m. short_words level free (trees_of (os ++ t ∷ ps)) finish (codes "switch" ∷ []) (purse vars budget m) ≡ end) paid_is leads)

-- what a body that was chosen comes to
pub chosen_is : (level : Option Level) (vars : Scopes) (whole : ℕ → Option Shortly) (cost : ℕ) (b : Chosen) (first : Option Node) → IsKnown b
    → chosen_node b ≡ first
    → ((budget : ℕ) → whole budget ≡ body_short level first (purse vars budget cost)) → Chooses level vars whole cost b
chosen_is level vars whole cost chosen.Unknown first known e h = tt
chosen_is level vars whole cost chosen.None first known e h = λ budget.
    h budget ∙ ap (λ (o : Option Node). body_short level o (purse vars budget cost)) (sym e)
chosen_is level vars whole cost (chosen.Body n) first known e h = λ budget.
    h budget ∙ ap (λ (o : Option Node). body_short level o (purse vars budget cost)) (sym e)

options_length : (ns : List Node) (k : ℕ) → k ≤ length ns → length (nodes_view (take k ns)) ≡ k
options_length ns k some = simp (length-map, length-take) (omega arith)

rest_all : (ns : List Node) (front : ℕ) → take (length ns - front) (drop front ns) ≡ drop front ns
rest_all ns front = take_all (length ns - front) (drop front ns) (omega (arith, length-drop front ns))

words_split : (ns : List Node) (k front : ℕ) (n : Node) → front ≡ k + 1 → k < length ns → n ≡ get_or ns k n
    → nodes_view ns ≡ nodes_view (take k ns) ++ node_view n ∷ nodes_view (take (length ns - front) (drop front ns))
words_split ns k front n at there is =
    ap nodes_view (sym (take-append-drop k ns)) ∙ map-append node_view (take k ns) (drop k ns)
    ∙ ap (λ ts. nodes_view (take k ns) ++ ts) (nodes_at ns k n there is) ∙ ap (λ m. nodes_view (take k ns) ++ node_view n ∷ nodes_view (drop m ns)) (sym at)
    ∙ ap (λ (xs : List Node). nodes_view (take k ns) ++ node_view n ∷ nodes_view xs) (sym (rest_all ns front))

-- the same by nodes, where the first pattern that is hit is known
pub switch_nodes : (level : Option Level) (vars : Scopes) (front : ℕ) (words : List Node) (n : Node) (bs : Trees) (x : List ℕ) (glob : Bool)
    (cost paid c1 c2 c3 : ℕ) → 0 < front → front ≤ length words → n ≡ get_or words (front - 1) n → paid ≡ cost + 1
    → (o : AreLiterals (nodes_view (take (front - 1) words)) 262144 paid c1) → WordIs level vars (node_view n) x c1 c2 → length x ≤ 64
    → (p : AreLiterals (nodes_view (take (length words - front) (drop front words))) 262144 c2 c3) → is_glob false o.texts ≡ Some glob
    → (hit : Option ℕ) → hit ≡ first_hit glob x p.texts → (budget : ℕ)
    → short level (tree.switch front (trees_of (nodes_view words)) bs) (purse vars budget cost)
    ≡ hit_short (Ok hit) (short_bodies level bs) (purse vars budget c3)
switch_nodes level vars front words n bs x glob cost paid c1 c2 c3 some there is paid_is o word few p globs hit hits budget =
    let at : front ≡ (front - 1) + 1 = omega (arith, some) in
    let count = options_length words (front - 1) (omega (arith, there)) in
    let split = words_split words (front - 1) front n at (omega (arith, some, there)) is in
    switch_leads level vars front (nodes_view words) _ _ (node_view n) bs x glob cost paid c1 c2 c3 budget (at ∙ ap (λ m. m + 1) (sym count)) split
    paid_is o word few p globs
    ∙ ap (λ h. hit_short (Ok h) (short_bodies level bs) (purse vars budget c3)) (sym hits)
