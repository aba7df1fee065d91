-- The words of a node that have their values at once.
use Rattle.std.specs.Prelude.{ℕ, ◌+◌, List, [], ◌∷◌, ◌++◌, length, drop, nat_lt, sum_by}
use Rattle.std.specs.Prelude.{if◌then◌else◌, Option}
use Rattle.px_bytes.specs.FaultText.{too_long}
use Rattle.px_bytes.specs.Limit.{text_limit}
use Rattle.tcl_trees.specs.Tree.{Tree, and_tree}
use Rattle.tcl_trees.specs.Tree as tree
use Rattle.tcl_trees.specs.declared.node.Node.{Node}
use Rattle.tcl_trees.specs.declared.node.Node.TheOpen.{Node-F}
use Rattle.tcl_vars.specs.Scopes.{Level, Scopes}
use Rattle.rule_model.specs.declared.code.Code.{Code}
use Rattle.rule_model.specs.declared.code.Code.TheVariants.{Raised}
use Rattle.frames.specs.Children.{child_at, parts_of, words_of}
use Rattle.frame_words.specs.Pieces.{pieces_behind, pieces_behind_cost, pieces_cost, pieces_from}
use Rattle.frame_words.specs.declared.pieces.Piece.{Piece}
use Rattle.frame_words.specs.declared.pieces.Piece.TheVariants as piece
use Rattle.frame_words.specs.declared.words.Gathered.{Gathered}
use Rattle.frame_words.specs.declared.words.Gathered.TheVariants as words

-- what a word costs that has no parts
abbrev pub word_unit : Tree → ℕ
word_unit (tree.switch front ts bodies) = 0
word_unit t = 1

abbrev pub word_unit_in : Node-F Node → ℕ
word_unit_in (Node-F.Switch front words bodies) = 0
word_unit_in node = 1

-- what each part of a word costs
abbrev pub part_price : ℕ → Tree → ℕ
part_price unit (tree.word (and_tree t ts)) = 1
part_price unit t = unit

abbrev pub price_of : {A : Type 0} → ℕ → List A → ℕ
price_of unit [] = unit
price_of unit (a ∷ more) = 1

abbrev pub part_price_in : ℕ → Node-F Node → ℕ
part_price_in unit (Node-F.Word parts) = price_of unit parts.items
part_price_in unit node = unit

-- a word behind others, unless they are too long together
abbrev pub add_word : {A : Type 0} → List (List ℕ) → List ℕ → (List (List ℕ) → A)
    → (Code → A) → A
add_word done word go other =
    if nat_lt text_limit (sum_by length (done ++ word ∷ [])) then other (Raised too_long)
    else go (done ++ word ∷ [])

-- goes on with a word, where it is whole
abbrev pub with_word : {A : Type 0} → Piece → (List ℕ → A) → (Code → A) → (ℕ → List ℕ → A) → A
with_word (piece.Whole text) go ends child = go text
with_word (piece.Ends code) go ends child = ends code
with_word (piece.Child part text) go ends child = child part text

-- these words, the first of which has this number, behind those that are there
abbrev pub words_from : Option Level → Scopes → List Tree → ℕ → List (List ℕ) → Gathered
words_from statics vars [] k done = words.All done
words_from statics vars (t ∷ ts) k done =
    with_word (pieces_from statics vars (parts_of t) 0 [])
    (λ text. add_word done text (λ all. words_from statics vars ts (k + 1) all) (λ c. words.Ends c))
    (λ c. words.Ends c) (λ part text. words.Child k part done text)

-- what they cost
abbrev pub words_cost : ℕ → Option Level → Scopes → List Tree → List (List ℕ) → ℕ
words_cost unit statics vars [] done = 0
words_cost unit statics vars (t ∷ ts) done =
    pieces_cost (part_price unit t) statics vars (parts_of t) []
    + with_word (pieces_from statics vars (parts_of t) 0 [])
    (λ text. add_word done text (λ all. words_cost unit statics vars ts all) (λ c. 0))
    (λ c. 0) (λ part text. 0)

-- the same behind the word of this number, which came to this text
abbrev pub words_behind : Option Level → Scopes → Tree → ℕ → List (List ℕ) → List ℕ → Gathered
words_behind statics vars t k done text =
    add_word done text
    (λ all. words_from statics vars (drop (k + 1) (words_of t)) (k + 1) all) (λ c. words.Ends c)

abbrev pub words_behind_cost : Option Level → Scopes → Tree → ℕ → List (List ℕ) → List ℕ → ℕ
words_behind_cost statics vars t k done text =
    add_word done text
    (λ all. words_cost (word_unit t) statics vars (drop (k + 1) (words_of t)) all) (λ c. 0)

-- the same behind a part of that word, which came to this value
abbrev pub word_behind : Option Level → Scopes → Tree → (k j : ℕ) → List (List ℕ)
    → (text value : List ℕ) → Gathered
word_behind statics vars t k j done text value =
    with_word (pieces_behind statics vars (parts_of (child_at t k)) j text value)
    (λ all. words_behind statics vars t k done all)
    (λ c. words.Ends c) (λ part all. words.Child k part done all)

abbrev pub word_behind_cost : Option Level → Scopes → Tree → (k j : ℕ) → List (List ℕ)
    → (text value : List ℕ) → ℕ
word_behind_cost statics vars t k j done text value =
    pieces_behind_cost (part_price (word_unit t) (child_at t k)) statics vars
    (parts_of (child_at t k)) j text value
    + with_word (pieces_behind statics vars (parts_of (child_at t k)) j text value)
    (λ all. words_behind_cost statics vars t k done all) (λ c. 0) (λ part all. 0)
