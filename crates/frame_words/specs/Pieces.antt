-- The pieces of a word that have their values at once.
use Rattle.std.specs.Prelude.{ℕ, ◌+◌, List, [], ◌∷◌, ◌++◌, length, drop, nat_lt, if◌then◌else◌}
use Rattle.std.specs.Prelude.{Option, Some, None}
use Rattle.px_bytes.specs.FaultText.{too_long}
use Rattle.px_bytes.specs.Limit.{text_limit}
use Rattle.tcl_trees.specs.Tree.{Tree}
use Rattle.tcl_vars.specs.Scopes.{Level, Scopes}
use Rattle.rule_model.specs.declared.code.Code.{Code}
use Rattle.rule_model.specs.declared.code.Code.TheVariants.{Value, Raised, Return, Break, Continue}
use Rattle.frames.specs.Leafs.{leaf_code}
use Rattle.frames.specs.Owed.{is_flat}
use Rattle.frame_words.specs.declared.pieces.Piece.{Piece}
use Rattle.frame_words.specs.declared.pieces.Piece.TheVariants as piece

-- a text, unless it is too long
abbrev pub within : {A : Type 0} → List ℕ → (List ℕ → A) → (Code → A) → A
within text go other =
    if nat_lt text_limit (length text) then other (Raised too_long) else go text

-- a piece behind a text
abbrev pub add_piece : {A : Type 0} → Code → List ℕ → (List ℕ → A) → (Code → A) → A
add_piece (Value v) text go other = within (text ++ v) go other
add_piece (Raised f) text go other = other (Raised f)
add_piece (Return v) text go other = other (Return v)
add_piece Break text go other = other Break
add_piece Continue text go other = other Continue

-- the code that ends a text to which this one is added, and else the text
abbrev pub added_end : Code → List ℕ → Option Code
added_end code text = add_piece code text (λ all. None) (λ c. Some c)

abbrev pub added_text : Code → List ℕ → List ℕ
added_text (Value v) text = text ++ v
added_text other text = text

-- the pieces of these parts, the first of which has this number, behind a text
abbrev pub pieces_from : Option Level → Scopes → List Tree → ℕ → List ℕ → Piece
pieces_from statics vars [] k text = piece.Whole text
pieces_from statics vars (t ∷ ts) k text =
    if is_flat t
    then add_piece (leaf_code statics vars t) text
    (λ all. pieces_from statics vars ts (k + 1) all) (λ c. piece.Ends c)
    else piece.Child k text

-- what they cost, where each part costs so much
abbrev pub pieces_cost : ℕ → Option Level → Scopes → List Tree → List ℕ → ℕ
pieces_cost price statics vars [] text = 0
pieces_cost price statics vars (t ∷ ts) text =
    price
    + (if is_flat t
    then add_piece (leaf_code statics vars t) text
    (λ all. pieces_cost price statics vars ts all) (λ c. 0)
    else 0)

-- the same behind the part of this number, which came to this value
abbrev pub pieces_behind : Option Level → Scopes → List Tree → ℕ → (text value : List ℕ) → Piece
pieces_behind statics vars ts k text value =
    within (text ++ value)
    (λ all. pieces_from statics vars (drop (k + 1) ts) (k + 1) all) (λ c. piece.Ends c)

abbrev pub pieces_behind_cost : ℕ → Option Level → Scopes → List Tree → ℕ → (text value : List ℕ)
    → ℕ
pieces_behind_cost price statics vars ts k text value =
    within (text ++ value)
    (λ all. pieces_cost price statics vars (drop (k + 1) ts) all) (λ c. 0)
