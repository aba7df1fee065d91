-- Words whose places are moved on, and blanks before commands.
use Rattle.std.proofs.Common.{◌≡◌, ◌⊎◌, inl, inr, refl, ap, ◌∙◌, ℕ, zero, suc, ◌+◌, ◌-◌, ◌<◌, ◌≤◌}
use Rattle.std.proofs.Common.{List, length, Bool, true, false, cond, Some, None, arith}
use Rattle.std.specs.Prelude.{◌&&◌, ◌||◌, nat_eq, not}
use Rattle.std.specs.List.{list_any}
use Rattle.tcl_words.specs.Finish.{is_plain, only_plain, is_literal, raw_of}
use Rattle.tcl_words.specs.Grammar.{empty_part, SpellsParts}
use Rattle.tcl_words.specs.Grammar.{SpellsCommands}
use Rattle.tcl_words.specs.Places.{stands, closes, is_blank, after_blank, separates, in_gap}
use Rattle.tcl_words.specs.Skips.{skip, turns, blanks_end, comment_end, after_gap_part, gap_end}
use Rattle.tcl_words.specs.Tree.{Part, plain, variable, element, bracket, Parts, no_parts, and_part}
use Rattle.tcl_words.specs.Tree.{Commands, no_commands, and_command}
use Rattle.tcl_words.specs.declared.places.Closer.TheVariants.{Quote}
use Rattle.tcl_words.specs.declared.script.Form.{Form}
use Rattle.tcl_words.specs.declared.script.Form.TheVariants.{Bare, Quoted, Braced}
use Rattle.tcl_words.proofs.Further.{parts_on, command_on}
use Rattle.tcl_words.proofs.Runs.{skip_stop, skip_more, blank_within}
use Rattle.tcl_words.proofs.Onward.{after_blank_on, skip_onward, gap_on}
use Rattle.tcl_expr.specs.Moved.{moved_part, moved_parts}
use Rattle.tcl_expr.proofs.Carried.{skip_none, gap_step}

pub plain_moved : (b n : ℕ) (p : Part) → is_plain p ≡ is_plain (moved_part b n p)
plain_moved b n (plain span bytes) = refl
plain_moved b n (variable span name) = refl
plain_moved b n (element span name index) = refl
plain_moved b n (bracket span script) = refl

pub only_moved : (b n : ℕ) (ps : Parts) → only_plain ps ≡ only_plain (moved_parts b n ps)
only_moved b n no_parts = refl
only_moved b n (and_part p no_parts) = plain_moved b n p
only_moved b n (and_part p (and_part q ps)) = refl

pub literal_moved : (b n : ℕ) (inner : List ℕ) (ps : Parts) → is_literal inner ps ≡ is_literal inner (moved_parts b n ps)
unfolding is_literal
literal_moved b n inner ps = ap (λ t. t && not (list_any (λ x. nat_eq x 92) inner)) (only_moved b n ps)

pub raw_moved : (b n : ℕ) (form : Form) (inner : List ℕ) (ps : Parts) → raw_of form inner ps ≡ raw_of form inner (moved_parts b n ps)
raw_moved b n Bare inner ps = ap (λ t. cond t (Some inner) None) (literal_moved b n inner ps)
raw_moved b n Quoted inner ps = ap (λ t. cond t (Some inner) None) (literal_moved b n inner ps)
raw_moved b n Braced inner ps = refl

-- blanks lie in a gap
pub blank_parts : (text : List ℕ) (k : ℕ) → is_blank text k ≡ true → (in_gap text k ≡ true) × (after_gap_part text k ≡ after_blank text k)
unfolding in_gap separates after_gap_part
blank_parts text k h =
    let sep : (is_blank text k || stands text k 10 || stands text k 59) ≡ true = ap (λ t. t || stands text k 10 || stands text k 59) h in
    (ap (λ t. t || stands text k 35) sep, ap (λ t. cond t (after_blank text k) (comment_end text (k + 1))) sep)

pub blanks_skipped : (text : List ℕ) (m l k : ℕ) → length text < l + k → skip (is_blank text) (after_blank text) m k ≤ skip (in_gap text) (after_gap_part text) l k
blanks_skipped text zero l k h =
    let none = skip_none (is_blank text) (after_blank text) k in
    let on = skip_onward (in_gap text) (after_gap_part text) (λ i. let o = gap_step text i in omega (arith, o)) l k in
    omega (arith, none, on)
blanks_skipped text (suc m) l k h =
    by_test (λ e. let w = blank_within text k e in let o = after_blank_on text k in blanks_skipped text m (l - 1) (after_blank text k) (omega (arith, h, w, o))) (is_blank text k) refl where
      by_test : (is_blank text k ≡ true → skip (is_blank text) (after_blank text) m (after_blank text k) ≤ skip (in_gap text) (after_gap_part text) (l - 1) (after_blank text k)) → (t : Bool) → is_blank text k ≡ t
          → skip (is_blank text) (after_blank text) (suc m) k ≤ skip (in_gap text) (after_gap_part text) l k
      by_test again false e =
          let none = skip_stop (is_blank text) (after_blank text) (suc m) k e in
          let on = skip_onward (in_gap text) (after_gap_part text) (λ i. let o = gap_step text i in omega (arith, o)) l k in
          omega (arith, none, on)
      by_test again true e =
          let w = blank_within text k e in
          let both = blank_parts text k e in
          let less : suc m - 1 ≡ m = omega arith in
          let more = skip_more (is_blank text) (after_blank text) (suc m) k (omega arith) e ∙ ap (λ i. skip (is_blank text) (after_blank text) i (after_blank text k)) less in
          let gap = skip_more (in_gap text) (after_gap_part text) l k (omega (arith, h, w)) both.0 ∙ ap (skip (in_gap text) (after_gap_part text) (l - 1)) both.1 in
          let next = again e in
          omega (arith, more, gap, next)

pub blanks_first : (text : List ℕ) (k : ℕ) → blanks_end text k ≤ gap_end text k
unfolding blanks_end gap_end
blanks_first text k = blanks_skipped text (turns text) (turns text) k (omega arith)

pub commands_gap : (room : ℕ) (inside : Bool) (text : List ℕ) (at : ℕ) (ks : Commands) (end : ℕ) → SpellsCommands room inside text at ks end → gap_end text at ≤ gap_end text end
commands_gap room inside text at no_commands end is = let same = ap (gap_end text) is.1 in omega (arith, same)
commands_gap room inside text at (and_command k ks) end is =
    let on = command_on room inside text (gap_end text at) k is.0 is.2 in
    let next = gap_on text is.0 in
    let more = commands_gap room inside text is.0 ks end is.3 in
    omega (arith, on, next, more)

-- what stands between quotes
abbrev pub Quotes : ℕ → List ℕ → ℕ → Parts → ℕ → Type 0
Quotes room text at ps close =
    (closes Quote text at ≡ true) × (at ≡ close) × (ps ≡ empty_part at)
    ⊎ (closes Quote text at ≡ false) × SpellsParts room Quote text at ps close

pub quotes_on : (room : ℕ) (text : List ℕ) (at : ℕ) (ps : Parts) (close : ℕ) → Quotes room text at ps close → at ≤ close
quotes_on room text at ps close (inl is) = omega (arith, is.1)
quotes_on room text at ps close (inr is) = parts_on room Quote text at ps close is.1
