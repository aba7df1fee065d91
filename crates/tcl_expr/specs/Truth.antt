-- Truth values: whole numbers, and the words of Tcl 8.4, Tcl_GetBoolean(3), in any case of their
-- letters. "Any of these values may be abbreviated": down to one letter, but for `on` and `off`.
use Rattle.std.specs.Prelude.{ℕ, Bool, true, false, not, ◌&&◌, ◌||◌, List, length, take, codes}
use Rattle.std.specs.Prelude.{Option, Some, None, ℤ, pos, nat_lt, if◌then◌else◌}
use Rattle.std.specs.Ordering.{int_eq}
use Rattle.std.specs.Str.{bytes_eq}
use Rattle.px_bytes.specs.Letters.{lowered}
use Rattle.px_bytes.specs.Whole.{whole}

-- one letter or more that the word begins with
abbrev pub is_front : List ℕ → List ℕ → Bool
is_front word text = nat_lt 0 (length text) && bytes_eq text (take (length text) word)

abbrev pub says_true : List ℕ → Bool
says_true text =
    is_front (codes "true") text || is_front (codes "yes") text || bytes_eq text (codes "on")

abbrev pub says_false : List ℕ → Bool
says_false text =
    is_front (codes "false") text || is_front (codes "no") text || bytes_eq text (codes "of")
    || bytes_eq text (codes "off")

-- what a word in lower case says
abbrev pub truth_word : List ℕ → Option Bool
truth_word text =
    if says_true text then Some true else (if says_false text then Some false else None)

-- a whole number is true where it isn't 0
abbrev pub truth_by : Option ℤ → List ℕ → Option Bool
truth_by (Some n) word = Some (not (int_eq n (pos 0)))
truth_by None word = truth_word word

-- the truth value that a text is
abbrev pub truth : List ℕ → Option Bool
truth text = truth_by (whole text) (lowered text)
