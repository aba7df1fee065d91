-- Which texts of rules may be printed: those whose braces close each other, and that are UTF-8.
use Rattle.std.specs.Prelude.{ℕ, ◌+◌, Bool, false, not, List, [], ◌∷◌, Option, Some, None}
use Rattle.std.specs.Prelude.{if◌then◌else◌}
use Rattle.std.specs.Option.{option_map_or}
use Rattle.std.specs.Str.{is_utf8}
use Rattle.config.specs.declared.rule_text.LoadedRule.{LoadedRule}
use Rattle.tmsh_read.specs.Braced.{after, closed, none_open}
use Rattle.tmsh_read.specs.declared.braced.Braces.{Braces}

abbrev pub balances : Braces → List ℕ → Bool
balances b [] = closed b
balances b (byte ∷ bytes) = option_map_or (λ next. balances next bytes) (after b byte) false

-- each brace that opens is closed, none is closed that isn't open, and no backslash stands last
abbrev pub is_balanced : List ℕ → Bool
is_balanced text = balances none_open text

abbrev pub is_unbalanced : List ℕ → Bool
is_unbalanced text = not (is_balanced text)

abbrev pub is_not_utf8 : List ℕ → Bool
is_not_utf8 text = not (is_utf8 text)

-- the place of the first rule whose text is such, where the first of all has this place
abbrev pub first_rule : (List ℕ → Bool) → ℕ → List LoadedRule → Option ℕ
first_rule test at [] = None
first_rule test at (r ∷ rs) = if test r.text.bytes then Some at else first_rule test (at + 1) rs
