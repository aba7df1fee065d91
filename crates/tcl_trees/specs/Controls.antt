-- Commands that choose among what they hold: Tcl 8.4, their manual pages. The words that hold
-- scripts and expressions are bodies and conditions, the others are evaluated; a command with a wrong
-- number of words is a flaw at its place.
use Rattle.std.specs.Prelude.{ℕ, List, [], ◌∷◌, ◌++◌, length, codes, Bool, Option, Some, None}
use Rattle.std.specs.Prelude.{if◌then◌else◌}
use Rattle.tcl_words.specs.Tree.{Word}
use Rattle.tcl_trees.specs.Flaws.{place_in}
use Rattle.tcl_trees.specs.Forms.{Conditional, if_form, foreach_form, catch_form, switch_form}
use Rattle.tcl_trees.specs.Making.{Made, Level, Cases, nothing, flawed, gathered, in_turn}
use Rattle.tcl_trees.specs.Texts.{raw_of, is_text, is_substituted}
use Rattle.tcl_trees.specs.Tree.{Tree, expr, branches, loop, each, switch, catch, catch_in}
use Rattle.tcl_trees.specs.Tree.{next_body, trees_of, values_of}
use Rattle.tcl_trees.specs.Words.{word_at, words_at, word_place, wrong_number, evaluated_at}
use Rattle.tcl_trees.specs.declared.flaw.Flaw.TheVariants.{BadBody}
use Rattle.tcl_trees.specs.declared.findings.Findings.{Findings}
use Rattle.tcl_trees.specs.declared.node.Verb.TheVariants.{ExprOfWords}

-- expr(n): "concatenates arg's (adding separator spaces between them)"; a single word without
-- substitution is read at once
abbrev pub expr_at : Level → (base at : ℕ) → List Word → Findings → Made Tree
expr_at level base at (name ∷ w ∷ []) s =
    if is_substituted (raw_of w) then evaluated_at level base at ExprOfWords (name ∷ w ∷ []) s
    else (let e = level.condition base w s in (expr e.0, e.1))
expr_at level base at words s = evaluated_at level base at ExprOfWords words s

-- while(n): "while test body"
abbrev pub while_at : Level → (base at : ℕ) → List Word → Findings → Made Tree
while_at level base at (name ∷ test ∷ body ∷ []) s =
    let t = level.condition base test s in
    let b = level.body base body t.1 in
    (loop nothing t.0 nothing b.0, b.1)
while_at level base at words s = wrong_number base at s

-- for(n): "for start test next body"
abbrev pub for_at : Level → (base at : ℕ) → List Word → Findings → Made Tree
for_at level base at (name ∷ start ∷ test ∷ next ∷ body ∷ []) s =
    let a = level.body base start s in
    let t = level.condition base test a.1 in
    let n = level.body base next t.1 in
    let b = level.body base body n.1 in
    (loop a.0 t.0 n.0 b.0, b.1)
for_at level base at words s = wrong_number base at s

-- what has a form of words, and what hasn't
abbrev pub formed : {A : Type 0} → (base at : ℕ) → (A → Findings → Made Tree) → Option A → Findings
    → Made Tree
formed base at made None = wrong_number base at
formed base at made (Some form) = made form

abbrev pub caught_of : Level → ℕ → Tree → Option Word → Findings → Made Tree
caught_of level base body None s = (catch body, s)
caught_of level base body (Some variable) s =
    let v = word_at level base variable s in (catch_in body v.0, v.1)

abbrev pub caught_at : Level → ℕ → Word × Option Word → Findings → Made Tree
caught_at level base r s =
    let body = level.body base r.0 s in caught_of level base body.0 r.1 body.1

-- catch(n)
abbrev pub catch_at : Level → (base at : ℕ) → List Word → Findings → Made Tree
catch_at level base at words = formed base at (caught_at level base) (catch_form words)

-- a condition of an `if` with its body
abbrev pub arm_at : Level → ℕ → Word × Word → Findings → Made (Tree × Tree)
arm_at level base arm s =
    let c = level.condition base arm.0 s in
    let b = level.body base arm.1 c.1 in
    ((c.0, b.0), b.1)

-- where no last body stands it is empty
abbrev pub last_at : Level → ℕ → Option Word → Findings → Made Tree
last_at level base None s = (nothing, s)
last_at level base (Some body) s = level.body base body s

abbrev pub branches_at : Level → ℕ → Conditional → Findings → Made Tree
branches_at level base b s =
    let arms = gathered (arm_at level base) b.arms s in
    let last = last_at level base b.last arms.1 in
    (branches (values_of arms.0) last.0, last.1)

-- if(n)
abbrev pub if_at : Level → (base at : ℕ) → List Word → Findings → Made Tree
if_at level base at words = formed base at (branches_at level base) (if_form words)

abbrev pub rows_at : Level → ℕ → List Word × Word → Findings → Made Tree
rows_at level base r s =
    let names = words_at level base r.0 s in
    let body = level.body base r.1 names.1 in
    (each (trees_of names.0) body.0, body.1)

-- foreach(n)
abbrev pub each_at : Level → (base at : ℕ) → List Word → Findings → Made Tree
each_at level base at words = formed base at (rows_at level base) (foreach_form words)

-- switch(n): "if a body is specified as - it means that the body for the next pattern should also
-- be used as the body for this pattern", and there is none for the last one; the place is that of
-- the `-`
abbrev pub next_at : ℕ → Bool → Findings → Made Tree
next_at place last s = if last then flawed (BadBody place) s else (next_body, s)

-- a body that is a word of its own
abbrev pub case_word : Level → ℕ → Bool → Word → Findings → Made Tree
case_word level base last w s =
    if is_text (codes "-") w then next_at (place_in base (word_place w)) last s
    else level.body base w s

-- the patterns and bodies of the `switch` at the place are one word, or words of their own
abbrev pub cases_at : Level → (base at : ℕ) → List Word → Findings → Made Cases
cases_at level base at (w ∷ []) = level.cases base at w
cases_at level base at words = in_turn (word_at level base) (case_word level base) words

abbrev pub chosen_at : Level → (base at : ℕ) → List Word × List Word → Findings → Made Tree
chosen_at level base at r s =
    let front = words_at level base r.0 s in
    let cases = cases_at level base at r.1 front.1 in
    (switch (length front.0) (trees_of (front.0 ++ cases.0.0)) (trees_of cases.0.1), cases.1)

-- switch(n)
abbrev pub switch_at : Level → (base at : ℕ) → List Word → Findings → Made Tree
switch_at level base at words = formed base at (chosen_at level base at) (switch_form words)
