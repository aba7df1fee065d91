-- What the words of `if`, `foreach`, `catch` and `switch` are: Tcl 8.4, their manual pages. There is no form
-- where their number is wrong.
use Rattle.std.specs.Prelude.{ℕ, ◌+◌, ◌%◌, List, [], ◌∷◌, length, take, drop, codes, Bool}
use Rattle.std.specs.Prelude.{false, ◌&&◌, ◌==◌, nat_le, Option, Some, None, option_map}
use Rattle.std.specs.Prelude.{if◌then◌else◌}
use Rattle.tcl_words.specs.Tree.{Word}
use Rattle.tcl_trees.specs.Texts.{raw_of, is_text, bytes_begin, is_braced}

-- the conditions of an `if` with their bodies, and perhaps a last body
pub record Conditional : Type 0 where
  pub arms : List (Word × Word)
  pub last : Option Word

abbrev pub with_arm : Word → Word → Conditional → Conditional
with_arm condition body b = record { arms = (condition, body) ∷ b.arms; last = b.last }

abbrev pub just_last : Option Word → Conditional
just_last last = record { arms = []; last = last }

-- a last body, behind which nothing may stand
abbrev pub only_last : List Word → Option Conditional
only_last (body ∷ []) = Some (just_last (Some body))
only_last words = None

-- the same, which may be missing, and before which `else` may stand
abbrev pub last_body : List Word → Option Conditional
last_body [] = Some (just_last None)
last_body (w ∷ words) = if is_text (codes "else") w then only_last words else only_last (w ∷ words)

-- if(n): "if expr1 ?then? body1 elseif expr2 ?then? body2 elseif ... ?else? ?bodyN?"; "the then and
-- else arguments are optional ``noise words''"
abbrev mutual
  pub branches_in : List Word → Option Conditional
  branches_in [] = None
  branches_in (condition ∷ words) = behind_condition condition words

  pub behind_condition : Word → List Word → Option Conditional
  behind_condition condition [] = None
  behind_condition condition (w ∷ words) =
      if is_text (codes "then") w then behind_then condition words
      else option_map (with_arm condition w) (behind_body words)

  pub behind_then : Word → List Word → Option Conditional
  behind_then condition [] = None
  behind_then condition (body ∷ words) = option_map (with_arm condition body) (behind_body words)

  pub behind_body : List Word → Option Conditional
  behind_body [] = last_body []
  behind_body (w ∷ words) =
      if is_text (codes "elseif") w then branches_in words else last_body (w ∷ words)

abbrev pub if_form : List Word → Option Conditional
if_form [] = None
if_form (name ∷ words) = branches_in words

-- one pair or more
abbrev pub are_pairs : ℕ → Bool
are_pairs count = nat_le 2 count && (count % 2 == 0)

-- all items but the last, and the last
abbrev pub last_apart : {A : Type 0} → List A → Option (List A × A)
last_apart [] = None
last_apart (a ∷ []) = Some ([], a)
last_apart (a ∷ b ∷ items) = option_map (λ r. (a ∷ r.0, r.1)) (last_apart (b ∷ items))

abbrev pub paired : Option (List Word × Word) → Option (List Word × Word)
paired None = None
paired (Some r) = if are_pairs (length r.0) then Some r else None

-- foreach(n): "foreach varlist1 list1 ?varlist2 list2 ...? body"; names and lists in turn, and the
-- body
abbrev pub foreach_form : List Word → Option (List Word × Word)
foreach_form [] = None
foreach_form (name ∷ words) = paired (last_apart words)

-- catch(n): "catch script ?varName?"
abbrev pub catch_form : List Word → Option (Word × Option Word)
catch_form (name ∷ body ∷ []) = Some (body, None)
catch_form (name ∷ body ∷ variable ∷ []) = Some (body, Some variable)
catch_form words = None

-- switch(n): "if the initial arguments to switch start with - then they are treated as options";
-- "-- marks the end of options"; how many there are
abbrev pub option_count : List Word → ℕ
option_count [] = 0
option_count (w ∷ words) =
    if is_text (codes "--") w then 1
    else (if bytes_begin 45 (raw_of w) then option_count words + 1 else 0)

-- "switch ?options? string pattern body ?pattern body ...?" and
-- "switch ?options? string {pattern body ?pattern body ...?}"
abbrev pub are_cases : List Word → Bool
are_cases [] = false
are_cases (w ∷ []) = is_braced w
are_cases words = length words % 2 == 0

abbrev pub parted : ℕ → List Word → Option (List Word × List Word)
parted count words =
    if are_cases (drop count words) then Some (take count words, drop count words) else None

-- options and text, and what stands behind them
abbrev pub switch_form : List Word → Option (List Word × List Word)
switch_form [] = None
switch_form (name ∷ words) = parted (option_count words + 1) words
