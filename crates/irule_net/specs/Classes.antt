-- `class` (iRules): what is asked of a data group, and what is told. Of the tests the operator
-- comes first, then the group's name, then whether the group's kind has the operator.
use Rattle.std.specs.Prelude.{ℕ, Bool, true, false, List, [], ◌∷◌, codes, length, map, Option, Some}
use Rattle.std.specs.Prelude.{None, Result, Ok, Err, is_some, slice_get, if◌then◌else◌}
use Rattle.std.specs.Fmt.{decimal}
use Rattle.std.specs.Str.{bytes_eq}
use Rattle.px_bytes.specs.FaultText.{syntax_error, wrong_arity}
use Rattle.px_bytes.specs.declared.fault.TclFault.{TclFault}
use Rattle.tcl_lists.specs.Write.{joined}
use Rattle.data_groups.specs.Groups.{DataGroup, Row}
use Rattle.data_groups.specs.Matches.{first_match, first_search, value_of}
use Rattle.data_groups.specs.declared.kind.ClassOp.{ClassOp}
use Rattle.data_groups.specs.declared.kind.ClassOp.TheVariants.{Equals, StartsWith, EndsWith}
use Rattle.data_groups.specs.declared.kind.ClassOp.TheVariants.{Contains}
use Rattle.data_groups.specs.declared.kind.GroupKind.{GroupKind}
use Rattle.data_groups.specs.declared.kind.GroupKind.TheVariants.{String, Ip, Integer}
use Rattle.irule_net.specs.FaultText.{no_such_class}
use Rattle.irule_net.specs.Groups.{class_in}
use Rattle.irule_net.specs.declared.look_up.Telling.{Telling}
use Rattle.irule_net.specs.declared.look_up.Telling.TheVariants.{Whether, OfKey, OfValue}
use Rattle.irule_net.specs.declared.form.Form.{Form}
use Rattle.irule_net.specs.declared.form.Form.TheVariants as form
use Rattle.irule_net.specs.declared.groups.NamedGroup.{NamedGroup}

abbrev pub TextOrFault : Type 0
TextOrFault = Result (List ℕ) TclFault

abbrev pub wrong_syntax : {A : Type 0} → Result A TclFault
wrong_syntax = Err (syntax_error (codes "class"))

abbrev pub wrong_number : {A : Type 0} → Result A TclFault
wrong_number = Err (wrong_arity (codes "class"))

-- the option of `match`, and those of `search`
abbrev pub match_option : List ℕ → Option Telling
match_option word = if bytes_eq word (codes "-value") then Some OfValue else None

abbrev pub search_option : List ℕ → Option Telling
search_option word =
    if bytes_eq word (codes "-value") then Some OfValue
    else (if bytes_eq word (codes "-name") then Some OfKey else None)

abbrev pub op_of : List ℕ → Option ClassOp
op_of word =
    if bytes_eq word (codes "equals") then Some Equals
    else (if bytes_eq word (codes "starts_with") then Some StartsWith
    else (if bytes_eq word (codes "ends_with") then Some EndsWith
    else (if bytes_eq word (codes "contains") then Some Contains else None)))

-- a word that is to be an option or an operator, and is none
abbrev pub with_named : {A : Type 0} → Option A → (A → TextOrFault) → TextOrFault
with_named None f = wrong_syntax
with_named (Some x) f = f x

-- groups of networks and of whole numbers have `equals` alone
abbrev pub has_op : GroupKind → ClassOp → Bool
has_op String op = true
has_op Ip Equals = true
has_op Integer Equals = true
has_op kind op = false

abbrev pub bit : Bool → List ℕ
bit b = if b then codes "1" else codes "0"

abbrev pub key_in : Option Row → List ℕ
key_in None = []
key_in (Some row) = row.0

abbrev pub value_in : Option Row → List ℕ
value_in None = []
value_in (Some row) = row.1

-- the row at a place that was found
abbrev pub row_at : List Row → Option ℕ → Option Row
row_at rows None = None
row_at rows (Some at) = slice_get rows at

-- what is told of the place of a row: whether there is one, its key, or its value
abbrev pub told : Telling → List Row → Option ℕ → List ℕ
told Whether rows at = bit (is_some at)
told OfKey rows at = key_in (row_at rows at)
told OfValue rows at = value_in (row_at rows at)

-- `ITEM OP KEY` for `match`, `KEY OP ITEM` for `search`
abbrev pub place_in : Bool → DataGroup → ClassOp → List ℕ → Option ℕ
place_in searches group op item =
    if searches then first_search group op item else first_match group op item

abbrev pub found_in : Bool → Telling → ClassOp → List ℕ → DataGroup → TextOrFault
found_in searches telling op item group =
    if has_op group.kind op then Ok (told telling group.rows (place_in searches group op item))
    else wrong_syntax

abbrev pub in_class : Option DataGroup → List ℕ → (DataGroup → TextOrFault) → TextOrFault
in_class None name f = Err (no_such_class name)
in_class (Some group) name f = f group

-- the words of a look-up: the operator, the item and the group's name
abbrev pub found : List NamedGroup → Bool → Telling → List ℕ → List ℕ → List ℕ → TextOrFault
found classes searches telling op item name =
    with_named (op_of op) (λ o. in_class (class_in name classes) name
    (found_in searches telling o item))

-- `match [-value] ITEM OP GROUP`
abbrev pub match_value : List NamedGroup → List (List ℕ) → TextOrFault
match_value classes (word ∷ (item ∷ (op ∷ (name ∷ [])))) =
    found classes false Whether op item name
match_value classes (word ∷ (option ∷ (item ∷ (op ∷ (name ∷ []))))) =
    with_named (match_option option) (λ telling. found classes false telling op item name)
match_value classes words = wrong_number

-- `search [-value|-name] GROUP OP ITEM`
abbrev pub search_value : List NamedGroup → List (List ℕ) → TextOrFault
search_value classes (word ∷ (name ∷ (op ∷ (item ∷ [])))) =
    found classes true Whether op item name
search_value classes (word ∷ (option ∷ (name ∷ (op ∷ (item ∷ []))))) =
    with_named (search_option option) (λ telling. found classes true telling op item name)
search_value classes words = wrong_number

abbrev pub text_or_none : Option (List ℕ) → List ℕ
text_or_none None = []
text_or_none (Some text) = text

-- `lookup ITEM GROUP`
abbrev pub lookup_value : List NamedGroup → List (List ℕ) → TextOrFault
lookup_value classes (word ∷ (item ∷ (name ∷ []))) =
    in_class (class_in name classes) name (λ group. Ok (text_or_none (value_of group item)))
lookup_value classes words = wrong_number

-- `exists GROUP`
abbrev pub exists_value : List NamedGroup → List (List ℕ) → TextOrFault
exists_value classes (word ∷ (name ∷ [])) = Ok (bit (is_some (class_in name classes)))
exists_value classes words = wrong_number

-- `size GROUP`
abbrev pub size_value : List NamedGroup → List (List ℕ) → TextOrFault
size_value classes (word ∷ (name ∷ [])) =
    in_class (class_in name classes) name (λ group. Ok (decimal (length group.rows)))
size_value classes words = wrong_number

-- `names GROUP`: the keys in the order of the file
abbrev pub names_value : List NamedGroup → List (List ℕ) → TextOrFault
names_value classes (word ∷ (name ∷ [])) =
    in_class (class_in name classes) name
    (λ group. Ok (joined (map (λ row. row.0) group.rows)))
names_value classes words = wrong_number

-- the words behind `class` in a form of it
abbrev pub class_value : List NamedGroup → Form → List (List ℕ) → TextOrFault
class_value classes form.Match words = match_value classes words
class_value classes form.Search words = search_value classes words
class_value classes form.Lookup words = lookup_value classes words
class_value classes form.Exists words = exists_value classes words
class_value classes form.Size words = size_value classes words
class_value classes form.Names words = names_value classes words
class_value classes form words = wrong_number
