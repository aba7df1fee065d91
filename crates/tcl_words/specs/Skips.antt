-- The ends of runs of bytes.
use Rattle.std.specs.Prelude.{ℕ, zero, suc, ◌+◌, List, length, Bool, if◌then◌else◌}
use Rattle.tcl_words.specs.Places.{names, after_name, in_name, is_space, is_blank, after_blank}
use Rattle.tcl_words.specs.Places.{separates, in_comment, after_comment_byte, in_gap}

-- a turn for each byte, and one at the end
abbrev pub turns : List ℕ → ℕ
turns text = suc (length text)

-- the first place from here on at which the test fails, a step at a time; n is enough steps
unfoldable pub skip : (ℕ → Bool) → (ℕ → ℕ) → ℕ → ℕ → ℕ
skip test step zero at = at
skip test step (suc n) at = if test at then skip test step n (step at) else at

-- the place after the blanks and tabs
unfoldable pub spaces_end : List ℕ → ℕ → ℕ
spaces_end text at = skip (is_space text) (λ k. k + 1) (turns text) at

-- the place after the name
unfoldable pub name_end : List ℕ → ℕ → ℕ
name_end text at = skip (names text) (after_name text) (turns text) at

-- the place of the next closing brace, or the text's end
unfoldable pub brace_end : List ℕ → ℕ → ℕ
brace_end text at = skip (in_name text) (λ k. k + 1) (turns text) at

-- the place after the blanks, tabs and backslash-newlines
unfoldable pub blanks_end : List ℕ → ℕ → ℕ
blanks_end text at = skip (is_blank text) (after_blank text) (turns text) at

-- the place of the newline that ends the comment
unfoldable pub comment_end : List ℕ → ℕ → ℕ
comment_end text at = skip (in_comment text) (after_comment_byte text) (turns text) at

unfoldable pub after_gap_part : List ℕ → ℕ → ℕ
after_gap_part text at =
    if separates text at then after_blank text at else comment_end text (at + 1)

-- the place after what parts two commands, comments with it
unfoldable pub gap_end : List ℕ → ℕ → ℕ
gap_end text at = skip (in_gap text) (after_gap_part text) (turns text) at
