-- What is compiled at each level, case by case.
use Rattle.std.proofs.Common.{◌≡◌, ℕ, zero, suc, ◌-◌, ◌<◌, ◌≤◌, List, [], map, Option, Some}
use Rattle.std.proofs.Common.{None, Bool, true, false}
use Rattle.std.proofs.Common.{cond, refl, sym, ap, ap₂, ◌∙◌, arith}
use Rattle.tcl_trees.proofs.PieceLists.{all_parts-of, all_words-of}
use Rattle.tcl_trees.specs.Pieces.{all_parts, all_words, all_commands}
use Rattle.tcl_expr.specs.ExpressionReading.{parts_of_word}
use Rattle.tcl_words.proofs.Views.{word-parts, command-words, view-Bracket}
use Rattle.tcl_words.specs.declared.script.ScriptCommand as code_command
use Rattle.tcl_words.specs.declared.script.ScriptCommand.{out-ScriptCommand}
use Rattle.tcl_words.specs.declared.script.Part as code_part
use Rattle.tcl_words.specs.declared.script.Part.{Bracket}
use Rattle.tcl_words.specs.declared.script.Span.{Span}
use Rattle.tcl_words.specs.Tree.{Part, Word, Command}
use Rattle.tcl_words.specs.View.{part_view, word_view, command_view, script_view, parts_of}
use Rattle.tcl_words.specs.declared.script.Script.{Script}
use Rattle.tcl_words.specs.declared.script.Word as code_word
use Rattle.tcl_words.specs.declared.script.Word.{out-Word}
use Rattle.tcl_trees.specs.CaseList.{case_item, other_item}
use Rattle.tcl_trees.specs.declared.case_item.CaseItem.{CaseItem}
use Rattle.tcl_trees.specs.Compiled.{level, body_at, body_of, condition_at, condition_of}
use Rattle.tcl_trees.specs.Compiled.{cases_at_word, inner_place, text_at}
use Rattle.tcl_trees.specs.Compiled.{room_inside}
use Rattle.tcl_trees.specs.Compiled.{expression_text_at}
use Rattle.tcl_trees.specs.Compiling.{script_at, command_at, words_at, shaped_at}
use Rattle.tcl_trees.specs.Conditions.{parts_under}
use Rattle.tcl_trees.specs.Flaws.{place_in, noted}
use Rattle.tcl_trees.specs.Making.{Level, flawed, unmade, no_cases, one_too_many, word_of}
use Rattle.tcl_trees.specs.Shapes.{shape_of}
use Rattle.tcl_trees.specs.Texts.{is_quoted}
use Rattle.tcl_trees.specs.TreeView.{nodes_view}
use Rattle.tcl_trees.specs.Words.{parts_at, part_at, word_at, word_place}
use Rattle.tcl_trees.specs.declared.flaw.Flaw.{Flaw}
use Rattle.tcl_trees.specs.declared.flaw.Flaw.TheVariants.{BadBody}
use Rattle.tcl_trees.specs.declared.findings.Findings.{Findings}
use Rattle.tcl_trees.specs.declared.node.Node.{Node}
use Rattle.tcl_trees.specs.declared.shapes.Shape.{Shape}

-- the levels

abbrev deepest : Level
deepest = record {
  script = λ base at commands. flawed (one_too_many (place_in base at));
  parts = λ base at parts. unmade (one_too_many (place_in base at));
  body = λ base w. flawed (one_too_many (place_in base (word_place w)));
  condition = λ base w. flawed (one_too_many (place_in base (word_place w)));
  cases = λ base at w. no_cases (one_too_many (place_in base (word_place w)));
  under = λ openers base parts. unmade (one_too_many base);
  inside = λ place text. flawed (one_too_many place);
}

abbrev below : ℕ → Level
below levels = record {
  script = λ base at commands. script_at (level levels) base (all_commands commands);
  parts = λ base at parts. parts_at (level levels) base (all_parts parts);
  body = body_at (level levels) levels;
  condition = condition_at (level levels) levels;
  cases = cases_at_word (level levels);
  under = λ openers base parts. parts_under (level levels) base openers parts;
  inside = text_at (level levels) (levels - 1);
}

pub level_none : (n : ℕ) → n ≡ 0 → level n ≡ deepest
unfolding level
level_none n e = ap level e

pub level_some : (n : ℕ) → 0 < n → level n ≡ below (n - 1)
unfolding level
level_some zero h = absurd (omega arith)
level_some (suc n) h = let k : suc n - 1 ≡ n = omega arith in ap below (sym k)

-- so many openers are so many levels
pub under_within : (n k : ℕ) (base : ℕ) (ps : List Part) → k ≤ n
    → parts_under (level n) base k ps ≡ parts_at (level (n - k)) base ps
unfolding level
under_within n zero base ps h = let e : n ≡ n - 0 = omega arith in ap (λ m. parts_at (level m) base ps) e
under_within zero (suc k) base ps h = absurd (omega arith)
under_within (suc n) (suc k) base ps h =
    let e : n - k ≡ suc n - suc k = omega arith in
    under_within n k base ps (omega arith) ∙ ap (λ m. parts_at (level m) base ps) e

pub under_beyond : (n k : ℕ) (base : ℕ) (ps : List Part) → n < k
    → parts_under (level n) base k ps ≡ unmade (one_too_many base)
unfolding level
under_beyond n zero base ps h = absurd (omega arith)
under_beyond zero (suc k) base ps h = refl
under_beyond (suc n) (suc k) base ps h = under_beyond n k base ps (omega arith)

-- lists of nodes that aren't made, beside what was noted
pub shown_none : (f : Flaw) (s s2 : Findings) (done : List Node) → done ≡ [] → s2 ≡ noted f s
    → unmade f s ≡ (nodes_view done, s2)
shown_none f s s2 done made note = ap₂ (λ t x. (t, x)) (ap nodes_view (sym made)) (sym note)

pub shown_no_cases : (f : Flaw) (s s2 : Findings) (patterns bodies : List Node) → patterns ≡ []
    → bodies ≡ [] → s2 ≡ noted f s
    → no_cases f s ≡ ((nodes_view patterns, nodes_view bodies), s2)
shown_no_cases f s s2 ps bs no_patterns no_bodies note =
    ap₂ (λ t x. ((t, []), x)) (ap nodes_view (sym no_patterns)) (sym note)
    ∙ ap (λ t. ((nodes_view ps, t), s2)) (ap nodes_view (sym no_bodies))

module _ (w : code_word.Word) where
  pub place_seen : word_place (word_view w) ≡ (out-Word w).span.start
  place_seen = ap word_place (word-parts w)

  pub placed_at : (base : ℕ) → place_in base (word_place (word_view w)) ≡ place_in base (out-Word w).span.start
  placed_at base = ap (place_in base) place_seen

  module _ (level : Level) (room base : ℕ) (s : Findings) where
    pub body_none : (out-Word w).raw ≡ None
        → body_at level room base (word_view w) s
        ≡ flawed (BadBody (place_in base (word_place (word_view w)))) s
    body_none e =
        ap (λ x. body_at level room base x s) (word-parts w)
        ∙ ap (λ r. body_of level room base (out-Word w).span (out-Word w).form (out-Word w).inner r s) e
        ∙ ap (λ x. flawed (BadBody (place_in base (word_place x))) s) (sym (word-parts w))

    pub body_some : (raw : List ℕ) → (out-Word w).raw ≡ Some raw
        → body_at level room base (word_view w) s
        ≡ text_at level (room_inside room (out-Word w).form) (place_in base (out-Word w).inner.start) raw s
    body_some raw e =
        ap (λ x. body_at level room base x s) (word-parts w)
        ∙ ap (λ r. body_of level room base (out-Word w).span (out-Word w).form (out-Word w).inner r s) e

    pub condition_none : (out-Word w).raw ≡ None
        → condition_at level room base (word_view w) s
        ≡ flawed (BadBody (place_in base (word_place (word_view w)))) s
    condition_none e =
        ap (λ x. condition_at level room base x s) (word-parts w)
        ∙ ap (λ r. condition_of level room base (out-Word w).span (out-Word w).form (out-Word w).inner r s) e
        ∙ ap (λ x. flawed (BadBody (place_in base (word_place x))) s) (sym (word-parts w))

    pub condition_some : (raw : List ℕ) → (out-Word w).raw ≡ Some raw
        → condition_at level room base (word_view w) s
        ≡ expression_text_at level (room_inside room (out-Word w).form)
        (place_in base (out-Word w).inner.start) raw s
    condition_some raw e =
        ap (λ x. condition_at level room base x s) (word-parts w)
        ∙ ap (λ r. condition_of level room base (out-Word w).span (out-Word w).form (out-Word w).inner r s) e

  pub inner_seen : inner_place (word_view w) ≡ (out-Word w).inner.start
  inner_seen = ap inner_place (word-parts w)

pub none_left : {A : Type 0} (o : Option A) → ((x : A) → o ≡ Some x → ⊥) → o ≡ None
none_left None h = refl
none_left (Some x) h = absurd (h x refl)

-- words, commands and brackets, as the definitions see them

module _ (level : Level) (base : ℕ) (s : Findings) where
  pub word_plain : (w : code_word.Word) → is_quoted (word_view w) ≡ false
      → word_at level base (word_view w) s
      ≡ word_of (parts_at level base (map part_view (out-Word w).parts.items) s)
  word_plain w e =
      ap (λ b. word_of (cond b (level.parts base (word_place (word_view w)) (parts_of_word (word_view w)) s)
      (parts_at level base (all_parts (parts_of_word (word_view w))) s))) e
      ∙ ap (λ ps. word_of (parts_at level base ps s))
      (ap (λ x. all_parts (parts_of_word x)) (word-parts w)
      ∙ all_parts-of (map part_view (out-Word w).parts.items))

  -- the command, once it is known what it does
  pub command_shaped : (c : code_command.ScriptCommand) (ws : List code_word.Word) (h : Shape)
      → ws ≡ (out-ScriptCommand c).words.items → h ≡ shape_of (map word_view ws)
      → command_at level base (command_view c) s
      ≡ shaped_at level base (out-ScriptCommand c).span.start h (map word_view ws) s
  command_shaped c ws h are is =
      let at = (out-ScriptCommand c).span.start in
      ap (λ x. command_at level base x s) (command-words c)
      ∙ ap (λ l. words_at level base at l s) (all_words-of (map word_view (out-ScriptCommand c).words.items))
      ∙ ap (λ l. words_at level base at (map word_view l) s) (sym are)
      ∙ ap (λ u. shaped_at level base at u (map word_view ws) s) (sym is)

  pub bracket_part : (p : code_part.Part) (span : Span) (inside : Script) → p ≡ Bracket span inside
      → part_at level base (part_view p) s ≡ level.script base span.start (script_view inside) s
  bracket_part p span inside e =
      ap (λ x. part_at level base x s) (ap part_view e ∙ view-Bracket span inside)

  -- a body in a list
  pub item_body : (place : ℕ) (last : Bool) (item : CaseItem) → item.braced ≡ true
      → case_item level place last item s ≡ level.inside (place_in place item.start) item.text s
  item_body place last item braced =
      ap (λ b. cond b (level.inside (place_in place item.start) item.text s) (other_item place last item s)) braced
